-- The invariant: the first `x` is sought at the place `i`. A turn looks at four bytes.
use Prim.Native.Nat.{◌-◌, ◌≤◌}
use lib.ListN.{length}
use Rattle.tables.specs.Text.{before}
use Rattle.tables.proofs.TextLaws.{Sought}
use Rattle.tables.proofs.text.index_of.Given as goal

abbrev pub invariant-loop-i : goal.invariant-loop-i
invariant-loop-i l = Sought (length (before l.x l.s)) l.x l.s l.i × (l.i ≤ length l.s)

abbrev pub decreases-loop-i : goal.decreases-loop-i
decreases-loop-i l = length l.s - l.i
