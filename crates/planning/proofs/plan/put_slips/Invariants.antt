use Rattle.planning.proofs.PlanLaws.{Turn}
use Rattle.planning.proofs.plan.put_slips.Given as goal

abbrev pub invariant-loop-k : goal.invariant-loop-k
invariant-loop-k g l = let numbers = g.S.Slot.numbers in Turn l.olds l.news (numbers l.fn.slips) l.t l.k (numbers l.slips)
