use mathlib.Core.Path.{◌≡◌}
use Prim.Native.Nat.{◌≤◌}
use lib.ListN.{drop}
use Rattle.tables.specs.Text.{word}
use Rattle.reader.specs.DealSteps.{run_from, start_hand, Fine}
use Rattle.reader.proofs.deal.read_suits.Given as goal

abbrev pub invariant-loop-b : goal.invariant-loop-b
invariant-loop-b l = (run_from l.c (word l.s) (start_hand l.seen) ≡ run_from l.c (word (drop l.b-index l.s)) l.h) × Fine l.h × (l.seen ≤ l.h.cards)
