use Rattle.reader.specs.Words.{same}
use Rattle.writer.proofs.NoteLaws.{decimal_put}
use borrow.Author.Rules.{rules}
use lib.ListN.{length}
use mathlib.Core.Path.{ap, ◌∙◌}
use Rattle.writer.proofs.notes.is_decimal.Goals as goal

pub returns : goal.returns
returns c =
    c.eq.ensures ∙ ap (same c.args.s.now) (c.upto.ensures ∙ decimal_put c.args.n c.put_decimal.ensures c.new-page.ensures.start (ap length c.new-page.ensures.bytes) (search rules))
