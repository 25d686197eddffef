use Rattle.writer.specs.BoardTexts.{present_held}
use borrow.Author.Tests.{ne_eqb}
use native.Mathlib.Omega.{arith}
use Rattle.writer.proofs.page.noted.Goals as goal

pub returns-in-Some : goal.returns-in-Some
unfolding present_held
returns-in-Some c =
    let t = c.in-Some.ensures in
    let u = c.items_from.ensures in
    rw (ne_eqb _ _ t.0) (rw (u.same_text, u.same_entries, u.first_is, u.count_is, t.1.first_is) at c.has_notes.ensures)

pub returns-in-None : goal.returns-in-None
unfolding present_held
returns-in-None c =
    rw c.in-None.ensures
