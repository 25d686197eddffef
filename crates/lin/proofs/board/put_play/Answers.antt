use Prim.Native.Nat.{◌-◌}
use Rattle.tables.proofs.PutsLaws.{puts_then, puts_nothing}
use Rattle.lin.specs.BoardSteps.{lin_play_text}
use borrow.Author.Tests.{eq-eqb, ne_eqb}
use Rattle.lin.proofs.BoardLaws.{trump_is}
use Rattle.lin.proofs.board.put_play.Goals as goal

pub returns-then-bid-eq0 : goal.returns-then-bid-eq0
unfolding lin_play_text
returns-then-bid-eq0 c =
    rw (eq-eqb _ _ c.if-bid-eq0.true) (puts_nothing _)

pub returns-then-s : goal.returns-then-s
unfolding lin_play_text
returns-then-s c =
    rw (ne_eqb _ _ c.if-bid-eq0.false, c.if-s.true, ← c.next_seat-lead.ensures.0, ← trump_is (c.args.s.contract.bid - 1), ← c.strain_of-trump.ensures) (puts_then c.put_text.ensures (puts_then (rw c.from.ensures at c.put_seat.ensures) (puts_then c.put_text-then-s.ensures c.put_tricks.ensures)))

pub returns-else-s : goal.returns-else-s
unfolding lin_play_text
returns-else-s c =
    rw (ne_eqb _ _ c.if-bid-eq0.false, c.if-s.false) (puts_nothing _)
