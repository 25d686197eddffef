use mathlib.Core.Path.{sym, ◌∙◌}
use native.Mathlib.Omega.{arith}
use Rattle.lin.proofs.PairLaws.{value_met, value_none}
use Rattle.lin.proofs.BiddingLaws.{calls_given}
use Rattle.lin.proofs.bidding.first_to_name.Goals as goal

pub loop-p-preserved-in_default : goal.loop-p-preserved-in_default
loop-p-preserved-in_default c =
    let l = c.loop-p in
    (rw (l.invariant.0, value_none (calls_given _) c.in-Some.ensures.steps (sym c.call_at.ensures ∙ c.in_default.is)), l.invariant.1)

pub returns-then-is_named : goal.returns-then-is_named
returns-then-is_named c =
    let l = c.loop-p in
    (rw (l.invariant.0, value_met (calls_given _) c.in-Some.ensures.steps (sym c.call_at.ensures ∙ c.in-Some-call_at.is), ← c.is_named.ensures, c.if-is_named.true), omega (arith, l.invariant.1))

pub loop-p-preserved : goal.loop-p-preserved
loop-p-preserved c =
    let l = c.loop-p in
    (rw (l.invariant.0, value_met (calls_given _) c.in-Some.ensures.steps (sym c.call_at.ensures ∙ c.in-Some-call_at.is), ← c.is_named.ensures, c.if-is_named.false, c.next_seat-seat.ensures.0), c.next_seat-seat.ensures.1)
