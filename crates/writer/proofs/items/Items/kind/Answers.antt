use Rattle.writer.proofs.RemarkLaws.{item_kind}
use mathlib.Core.Path.{sym, ◌∙◌}
use Rattle.writer.proofs.items.Items.kind.Goals as goal

pub returns : goal.returns
returns c =
    c.word_at.ensures.0 ∙ sym (item_kind c.args.self.now.text.now c.args.self.now.entries.now c.args.self.now.first)
