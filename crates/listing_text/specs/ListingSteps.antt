-- What the inner functions of the listing promise.
use Rattle.std.specs.Prelude.{ℕ, ◌/◌, ◌<◌, ◌≡◌, cond, List, leb, length, is_ok, Result}
use Rattle.tables.specs.Page.{Wrote}
use Rattle.tables.specs.PageSteps.{PageEnded}
use Rattle.reader.specs.Store.{zeros, put_all}
use Rattle.planning.specs.declared.plan.Totals.{Totals}
use Rattle.planning.specs.States.{BoardPlan}
use Rattle.planning.specs.Slips.{slips_of, totals_of}
use Rattle.planning.specs.Plans.{Boxes, slips_answer, BoxesAfter, Editions}
use Rattle.planning.specs.PlanSteps.{BoxesKept}
use Rattle.listing_text.specs.Listing.{list_text, well_on}
use Rattle.tables.specs.declared.letters.Conventions.{Conventions}
use Rattle.listing_text.specs.Limited.{limited_both}
use Rattle.tables.specs.declared.refusal.Refusal.{Refusal}

-- Both editions are read, if neither is longer than the limit.
pub record BothLimited (c : Conventions) (limit : ℕ) (old new : List ℕ) (boxes boxes' : Boxes) (r : Editions) : Type 0 where
  pub answer : r ≡ limited_both c limit old new boxes
  pub boxes_left : BoxesAfter c (is_ok r) old new boxes boxes'

-- Totals that a listing can write: each has 32 bits.
pub record Countable (t : Totals) : Type 0 where
  pub boards_low : t.boards < 4294967296
  pub blank_low : t.blank < 4294967296
  pub own_low : t.own < 4294967296
  pub old_low : t.old < 4294967296
  pub near_low : t.near < 4294967296
  pub twin_low : t.twin < 4294967296
  pub solve_low : t.solve < 4294967296

-- The end of a page on which n bytes were put, and the other lent words: as they were, or zeros where the bytes do not fit.
pub record PageKept (n : ℕ) (boxes : Boxes) (slips page : List ℕ) (boxes' : Boxes) (slips' page' : List ℕ) (r : Result ℕ Refusal) : Type 0 where
  pub end : PageEnded n page page' r
  pub boxes_left : BoxesKept (leb n (length page)) boxes boxes'
  pub slips_after : slips' ≡ cond (leb n (length page)) slips (zeros slips)

-- The boards js, whose cards are lent, are put on the page of a listing: the page and its answer, and all lent words: as they were, or zeros after a refusal.
pub record BoardsOnPage (js : List BoardPlan) (boxes : Boxes) (slips page : List ℕ) (boxes' : Boxes) (slips' page' : List ℕ) (r : Result ℕ Refusal) : Type 0 where
  pub wrote : Wrote (list_text (slips_answer (length slips / 5) (totals_of js)) js) page page' r
  pub boxes_left : BoxesKept (well_on (slips_answer (length slips / 5) (totals_of js)) js (length page)) boxes boxes'
  pub slips_after : slips' ≡ cond (well_on (slips_answer (length slips / 5) (totals_of js)) js (length page)) (put_all 5 slips 0 (slips_of js)) (zeros slips)
