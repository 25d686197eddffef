use Rattle.std.proofs.Common.{◌+◌, ◌≤◌, length}
use Rattle.recorded.proofs.cases.replay_all.Given as goal

abbrev pub invariant-loop-cases : goal.invariant-loop-cases
invariant-loop-cases g l = l.compared + length l.cases.rest.now ≤ length l.file

abbrev pub decreases-loop-cases : goal.decreases-loop-cases
decreases-loop-cases g l = length l.cases.rest.now
