use Rattle.reader.specs.Deals.{deal_text}
use Rattle.tables.proofs.PutsLaws.{puts_then}
use Rattle.writer.proofs.deal.put_deal.Goals as goal

pub returns : goal.returns
unfolding deal_text
returns c =
    puts_then (puts_then (rw c.seat_letter.ensures at c.put_byte.ensures) c.put_byte-2.ensures) (rw c.from_seat.ensures at c.put_hands.ensures)
