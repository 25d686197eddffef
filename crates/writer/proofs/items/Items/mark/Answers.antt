use Rattle.writer.proofs.RemarkLaws.{item_mark}
use mathlib.Core.Path.{sym, ◌∙◌}
use Rattle.writer.proofs.items.Items.mark.Goals as goal

pub returns : goal.returns
returns c =
    (c.word_at.ensures.0 ∙ sym (item_mark c.args.self.now.text.now c.args.self.now.entries.now c.args.self.now.first), c.word_at.ensures.1)
