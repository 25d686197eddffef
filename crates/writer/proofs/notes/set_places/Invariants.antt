use Rattle.writer.proofs.NotePlaces.{places_left}
use lib.ListN.{length}
use mathlib.Core.Path.{◌≡◌}
use Rattle.writer.proofs.notes.set_places.Given as goal

abbrev pub invariant-loop-entry : goal.invariant-loop-entry
invariant-loop-entry l =
    (places_left l.fn.places l.items ≡ places_left l.places l.entry-iterator) × (length l.places ≡ 256)
