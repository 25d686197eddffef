use mathlib.Core.Path.{◌≡◌}
use lib.ListN.{length, drop}
use lib.Seq.{sets}
use Rattle.reader.proofs.edition.cell_words.Given as goal

abbrev pub invariant-loop-i : goal.invariant-loop-i
invariant-loop-i l = (sets l.words l.i (drop l.i l.cells) ≡ l.cells) × (length l.words ≡ 20) × (length l.cells ≡ 20)
