use borrow.Author.Tests.{eq-eqb, ne_eqb}
use Rattle.tables.specs.Tables.{column_text}
use Rattle.tables.proofs.PutsLaws.{puts_then}
use Rattle.tables.proofs.dd.put_column.Goals as goal

pub returns-then-k-eq0 : goal.returns-then-k-eq0
unfolding column_text
returns-then-k-eq0 c = rw (eq-eqb _ _ c.if-k-eq0.true) c.put_text.ensures

pub returns-else-k-eq0 : goal.returns-else-k-eq0
unfolding column_text
returns-else-k-eq0 c = rw (ne_eqb _ _ c.if-k-eq0.false, ← c.suit_letter.ensures) (puts_then c.put_byte.ensures c.put_byte-else-k-eq0.ensures)
