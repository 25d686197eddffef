use Rattle.tables.proofs.PutsLaws.{puts_then}
use Rattle.writer.proofs.deal.put_hands.Goals as goal

pub returns : goal.returns
returns c =
    puts_then (puts_then (puts_then (puts_then (puts_then (puts_then c.put_hand.ensures c.put_byte.ensures) c.put_hand-2.ensures) c.put_byte-2.ensures) c.put_hand-3.ensures) c.put_byte-3.ensures) c.put_hand-4.ensures
