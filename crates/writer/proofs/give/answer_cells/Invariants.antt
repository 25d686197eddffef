use Prim.Native.Nat.{◌*◌}
use mathlib.Core.Path.{◌≡◌}
use lib.ListN.{length, take, drop}
use Rattle.writer.proofs.give.answer_cells.Given as goal

abbrev pub invariant-loop-i : goal.invariant-loop-i
invariant-loop-i l = (take l.i l.cell-items ≡ take l.i (drop (20 * l.slip) l.answers)) × (length l.cell-items ≡ 20)
