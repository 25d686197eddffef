use mathlib.Core.Path.{◌≡◌}
use lib.ListN.{length}
use Rattle.lin.specs.Bidding.{unalerted}
use Rattle.lin.proofs.bidding.less_alerts.Given as goal

abbrev pub invariant-loop-last : goal.invariant-loop-last
invariant-loop-last l = unalerted l.s ≡ unalerted l.kept

abbrev pub decreases-loop-last : goal.decreases-loop-last
decreases-loop-last l = length l.kept
