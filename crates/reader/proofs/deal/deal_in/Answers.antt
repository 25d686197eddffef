use native.Mathlib.Omega.{arith}
use borrow.Author.Tests.{le-ltb, eq-eqb}
use Rattle.reader.proofs.DealLaws.{deal_in_is, turned_deck}
use Rattle.reader.proofs.deal.deal_in.Goals as goal

pub returns : goal.returns
returns c = (
  rw (deal_in_is _ _, ← c.byte_at.ensures, eq-eqb _ _ c.if-byte_at-ne58.false, ← c.byte_at-2.ensures, ← c.in_ok-seat.ensures.0, le-ltb 3 c.in_ok-seat.seat (omega (arith, c.in_ok-seat.ensures.1)), ← c.from.ensures, ← c.read_hands.ensures.0, c.in_ok-h.was, c.turn.ensures),
  rw c.turn.ensures (turned_deck c.in_ok-seat.seat _ (rw c.in_ok-h.was at c.read_hands.ensures.1)),
)
