use mathlib.Core.Path.{◌≡◌}
use Rattle.reader.proofs.NextLaws.{Seeking}
use Rattle.reader.proofs.section.next_piece.Given as goal

abbrev pub invariant-loop-l : goal.invariant-loop-l
invariant-loop-l l = Seeking l.r l.at l.commentary l.e × (l.l-iterator.text.now ≡ l.r) × (l.l-iterator.next ≡ l.e)
