use Prim.Native.Nat.{◌+◌}
use Rattle.writer.proofs.NotePlaces.{number_of_first, places_next, set_past}
use borrow.Author.Rules.{rules}
use mathlib.Core.Path.{refl, sym, ◌∙◌}
use native.Mathlib.Omega.{arith}
use Rattle.writer.proofs.notes.set_places.Goals as goal

pub loop-entry-preserved-in-Some-note_of : goal.loop-entry-preserved-in-Some-note_of
loop-entry-preserved-in-Some-note_of c =
    let l = c.loop-entry in
    (rw c.in-Some-note_of.ensures.0 at (l.invariant.0 ∙ places_next c.in-Some.ensures.steps l.places), search rules)

pub loop-entry-preserved : goal.loop-entry-preserved
loop-entry-preserved c =
    let l = c.loop-entry in
    (l.invariant.0 ∙ places_next c.in-Some.ensures.steps l.places ∙ rw (set_past l.places (number_of_first c.in-Some.entry) (c.in-Some.entry.first + 1) (omega (arith, c.in_default.ensures, l.invariant.1))), l.invariant.1)
