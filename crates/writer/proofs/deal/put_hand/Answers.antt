use Rattle.reader.specs.Deals.{hand_text}
use Rattle.tables.proofs.PutsLaws.{puts_then}
use borrow.Author.Tests.{ne_eqb}
use Rattle.writer.proofs.deal.put_hand.Goals as goal

pub returns-then-x-eq0 : goal.returns-then-x-eq0
unfolding hand_text
returns-then-x-eq0 c =
    rw c.if-x-eq0.true c.put_byte.ensures

pub returns : goal.returns
unfolding hand_text
returns c =
    rw (ne_eqb _ _ c.if-x-eq0.false) (puts_then (puts_then (puts_then (puts_then (puts_then (puts_then c.put_suit.ensures c.put_byte-2.ensures) c.put_suit-2.ensures) c.put_byte-3.ensures) c.put_suit-3.ensures) c.put_byte-4.ensures) c.put_suit-4.ensures)
