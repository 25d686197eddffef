-- The invariant: the digits of `m` before those that stand behind `k` are the number; at most `k + 1` of them are left.
use Prim.Native.Nat.{◌+◌, ◌≤◌}
use mathlib.Core.Path.{◌≡◌}
use lib.ListN.{length, drop}
use Rattle.tables.specs.Numbers.{digits, decimal}
use Rattle.tables.proofs.page.digits_into.Given as goal

abbrev pub invariant-loop-k : goal.invariant-loop-k
invariant-loop-k l = (l.k ≤ 9) × (length l.buf ≡ 10) × (digits l.k l.m (drop (l.k + 1) l.buf) ≡ decimal l.n)

abbrev pub decreases-loop-k : goal.decreases-loop-k
decreases-loop-k l = l.k
