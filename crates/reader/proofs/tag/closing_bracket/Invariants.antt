use Prim.Native.Nat.{◌-◌, ◌≤◌}
use mathlib.Core.Path.{◌≡◌}
use mathlib.Core.List.{[]}
use lib.ListN.{length, drop}
use Rattle.reader.specs.Tag.{part, close_at}
use Rattle.reader.proofs.tag.closing_bracket.Given as goal

abbrev pub invariant-loop-i : goal.invariant-loop-i
invariant-loop-i l = (close_at l.a [] (drop l.a l.line) ≡ close_at l.next (part l.a l.next l.line) (drop l.next l.line)) × (l.a ≤ l.next)

abbrev pub decreases-loop-i : goal.decreases-loop-i
decreases-loop-i l = length l.line - l.next
