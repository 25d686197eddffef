use Prim.Native.Nat.{◌≤◌, ◌<◌, ◌^◌}
use mathlib.Core.Path.{◌≡◌}
use lib.ListN.{drop}
use Rattle.tables.specs.Text.{starts}
use Rattle.lin.specs.DealingSteps.{hand_run}
use Rattle.lin.proofs.dealing.hand_rest.Given as goal

abbrev pub invariant-loop-i : goal.invariant-loop-i
invariant-loop-i l = (hand_run l.c l.initial.h (starts l.s) ≡ hand_run l.c l.h (starts (drop l.i l.s))) × (l.initial.h.cards ≤ l.h.cards) × (l.h.cards < 2 ^ 52)
