use Prim.Native.Nat.{◌≤◌}
use mathlib.Core.Path.{◌≡◌}
use Rattle.lin.specs.Pairs.{pairs_of}
use Rattle.lin.specs.PairSteps.{pairs_left}
use Rattle.lin.specs.Bidding.{calls_from, first_to_name}
use Rattle.lin.proofs.bidding.first_to_name.Given as goal

abbrev pub invariant-loop-p : goal.invariant-loop-p
invariant-loop-p l = (first_to_name l.k 0 (calls_from l.c (pairs_of l.text)) ≡ first_to_name l.k l.seat (calls_from l.c (pairs_left l.p-iterator))) × (l.seat ≤ 3)
