use Rattle.tables.proofs.PutsLaws.{puts_then}
use borrow.Author.Tests.{ne_eqb}
use Rattle.writer.proofs.remarks.put_remark.Goals as goal

pub returns-then-kind-eq-COMMENTARY : goal.returns-then-kind-eq-COMMENTARY
returns-then-kind-eq-COMMENTARY c =
    rw c.if-kind-eq-COMMENTARY.true (puts_then (puts_then c.put_byte.ensures c.put_block.ensures) c.put_text.ensures)

pub returns : goal.returns
returns c =
    rw (ne_eqb _ _ c.if-kind-eq-COMMENTARY.false) (puts_then c.put_text-2.ensures c.put_byte-2.ensures)
