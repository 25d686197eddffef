use mathlib.Core.Path.{◌≡◌}
use Rattle.reader.proofs.LinesLaws.{LinesLeft}
use Rattle.reader.proofs.reading.read_board.Given as goal

abbrev pub invariant-loop-l : goal.invariant-loop-l
invariant-loop-l l = LinesLeft l.c l.r l.initial.entries l.entries l.s l.p × (l.l-iterator.text.now ≡ l.r) × (l.l-iterator.next ≡ l.p)
