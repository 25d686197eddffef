use Prim.Native.Nat.{◌≤◌}
use mathlib.Core.Path.{◌≡◌}
use Rattle.tables.specs.Text.{lines}
use Rattle.lin.specs.Pieces.{line_pieces}
use Rattle.lin.specs.PieceSteps.{lines_left}
use Rattle.lin.proofs.GoneLaws.{Going}
use Rattle.lin.proofs.pieces.put_lines.Given as goal

abbrev pub invariant-loop-l : goal.invariant-loop-l
invariant-loop-l l =
    let w = l.l-iterator in
    Going l.c (line_pieces (lines l.text)) (line_pieces (lines_left w)) l.fn.page l.page l.g × (l.g.boards ≤ w.next) × (w.text.now ≡ l.text)
