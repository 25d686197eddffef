use borrow.Author.Rules.{rules}
use Rattle.tables.proofs.PutsLaws.{puts_then}
use Rattle.writer.specs.Items.{tag_line_text, tagged_text}
use Rattle.writer.proofs.tags.put_tagged_by.Goals as goal

pub returns : goal.returns
unfolding tagged_text tag_line_text
returns g c =
    λ v f. puts_then (puts_then (puts_then c.put_open.ensures (f c.put_open.new.page c.put.new.arg2 (search rules))) c.put_close.ensures) c.put_after.ensures
