-- Theorems about the listing: how long its text is, and that the listing program lends enough.
use Prim.Native.Nat.{ℕ, ◌+◌, ◌*◌, ◌/◌, ◌≤◌, ◌<◌}
use mathlib.Core.Path.{◌≡◌, refl, sym, ap, ◌∙◌}
use mathlib.Core.Bool.{true, false}
use mathlib.Core.List.{List, []}
use native.Mathlib.Omega.{arith}
use lib.ListN.{length}
use borrow.Author.Tests.{le-leb, le-ltb, lt-ltb}
use Rattle.std.specs.Prelude.{Result, Ok, Err, is_ok}
use Rattle.tables.specs.declared.letters.Conventions.{Conventions}
use Rattle.tables.specs.declared.refused.Edition.TheVariants as edition
use Rattle.tables.specs.Page.{answer_of}
use Rattle.tables.proofs.Laws.{clash}
use Rattle.reader.specs.declared.edition.ReadRefusal.{ReadRefusal}
use Rattle.reader.specs.declared.edition.ReadRefusal.TheVariants.{Overlong}
use Rattle.reader.specs.declared.edition.Counts.{Counts}
use Rattle.reader.specs.Editions.{reading_of, cards_of}
use Rattle.planning.specs.declared.plan.PlanRefusal.TheVariants.{Edition}
use Rattle.planning.specs.declared.plan.Totals.{Totals}
use Rattle.planning.specs.States.{BoardPlan, board_plans}
use Rattle.planning.specs.Slips.{totals_of}
use Rattle.planning.specs.Plans.{Boxes, old_reading, both_after, plans_of, planned_by, editions_of, planning_of, Editions, Planning}
use Rattle.listing_text.specs.Limited.{limited_of, limited_both}
use Rattle.listing_text.specs.Listing.{listing_lines, total_line, list_text, listing_plan, slips_short, PageEnough, PageNeverFull, SlipsEnough}
use Rattle.planning.proofs.BoxLaws.{taken_fits}
use Rattle.planning.proofs.BoardLaws.{plans_count}
use Rattle.planning.proofs.PlanLaws.{count_few}
use Rattle.planning.proofs.AnswerLaws.{solve_sum}
use Rattle.listing_text.proofs.ListingLaws.{limited_taken}
use Rattle.listing_text.proofs.LineLaws.{few, total_few, refused_few, LinesFew}
use Rattle.planning.proofs.BothLaws.{both_are_taken}

-- THEOREM. The text of at most n boards, or of a refusal, has at most 60 n + 200 bytes.
pub TextFew : (p : Planning) (js : List BoardPlan) (n : ℕ) → (is_ok p ≡ true → length js ≤ n) → length (list_text p js) ≤ 60 * n + 200
TextFew (Ok t) js n h =
    let k = h refl in
    omega (arith, k, few (listing_lines js) (total_line t) (60 * length js) 200 (LinesFew js) (total_few t))
TextFew (Err f) js n h = omega (arith, refused_few f)

-- ---- what a taken edition is

taken_few : (c : Conventions) (text : List ℕ) (lc le : ℕ) → is_ok (reading_of c text lc le) ≡ true → 64 * length (cards_of c text) ≤ lc
taken_few c text lc le h = go (reading_of c text lc le) refl h
  where
    go : (r : Result Counts ReadRefusal) → reading_of c text lc le ≡ r → is_ok r ≡ true → 64 * length (cards_of c text) ≤ lc
    go (Ok n) q x = (taken_fits c text lc le n q).cards_fit
    go (Err f) q x = clash x

limited_few : (c : Conventions) (limit : ℕ) (text : List ℕ) (lc le : ℕ) → is_ok (limited_of c limit text lc le) ≡ true → 64 * length (cards_of c text) ≤ lc
limited_few c limit text lc le h = taken_few c text lc le (sym (ap is_ok (limited_taken c limit text lc le h)) ∙ h)

planned_both : (e : Editions) (l : ℕ) (t : Totals) → is_ok (planned_by e l t) ≡ true → is_ok e ≡ true
planned_both (Ok n) l t h = refl
planned_both (Err f) l t h = clash h

boards_are_cards : (c : Conventions) (old new : List ℕ) → length (plans_of c old new) ≡ length (cards_of c new)
unfolding board_plans
boards_are_cards c old new = plans_count (cards_of c old) (cards_of c new) 1 [] (cards_of c new)

-- ---- what the listing program lends

boards_few : (c : Conventions) (limit : ℕ) (old new : List ℕ) (boxes : Boxes) (ls : ℕ) → length boxes.new_cards ≡ 8192 → is_ok (listing_plan c limit old new boxes ls) ≡ true
    → length (plans_of c old new) ≤ 128
unfolding listing_plan limited_both
boards_few c limit old new boxes ls room h =
    let b = planned_both (limited_both c limit old new boxes) (ls / 5) (totals_of (plans_of c old new)) h in
    let t = both_are_taken (limited_of c limit old (length boxes.old_cards) (length boxes.old_entries)) (limited_of c limit new (length boxes.new_cards) (length boxes.new_entries)) b in
    omega (arith, boards_are_cards c old new, limited_few c limit new (length boxes.new_cards) (length boxes.new_entries) t.1)

pub page_enough : PageEnough
page_enough c limit old new boxes ls room = omega (arith, TextFew (listing_plan c limit old new boxes ls) (plans_of c old new) 128 (boards_few c limit old new boxes ls room))

-- For its own sake: the listing program lends such a page.
pub page_never_full : PageNeverFull
unfolding answer_of
page_never_full c limit old new boxes ls room = rw (le-leb (length (list_text (listing_plan c limit old new boxes ls) (plans_of c old new))) 8192 (page_enough c limit old new boxes ls room))

pub slips_enough : SlipsEnough
unfolding listing_plan limited_both
slips_enough c limit old new boxes room =
    go
    (limited_of c limit old (length boxes.old_cards) (length boxes.old_entries))
    (limited_of c limit new (length boxes.new_cards) (length boxes.new_entries))
    (λ h. omega (arith, limited_few c limit new (length boxes.new_cards) (length boxes.new_entries) h))
  where
    js : List BoardPlan
    js = plans_of c old new

    go : (r s : Result Counts ReadRefusal) → (is_ok s ≡ true → 64 * length (cards_of c new) ≤ 8192) → slips_short (planned_by (both_after r s) (640 / 5) (totals_of js)) ≡ false
    go (Ok m) (Ok n) h =
        let k = h refl in
        let low : (totals_of js).solve ≤ 640 / 5 = omega (arith, k, solve_sum js, count_few 5 js, boards_are_cards c old new) in
        rw (le-ltb (640 / 5) (totals_of js).solve low)
    go (Ok m) (Err f) h = refl
    go (Err f) s h = refl

-- ---- the limit

module _ (c : Conventions) (limit : ℕ) (old new : List ℕ) (boxes : Boxes) (ls : ℕ) where
  -- THEOREM. Where neither edition is longer than the limit, the answer is the plan's.
  pub WithinLimit : length old ≤ limit → length new ≤ limit → listing_plan c limit old new boxes ls ≡ planning_of c old new boxes ls
  unfolding listing_plan limited_both limited_of planning_of editions_of
  WithinLimit h g = rw (le-ltb limit (length old) h, le-ltb limit (length new) g)

  -- THEOREM. An old edition longer than the limit is refused with its length, whatever the new one is.
  pub OldOverlong : limit < length old → listing_plan c limit old new boxes ls ≡ Err (Edition (record { edition = edition.Old; refusal = Overlong (length old) }))
  unfolding listing_plan limited_both limited_of
  OldOverlong h = rw (lt-ltb limit (length old) h)

  -- THEOREM. Any other refusal of the old edition is told too, whatever the new one is.
  pub OldFirst : {f : ReadRefusal} → length old ≤ limit → old_reading c old boxes ≡ Err f → listing_plan c limit old new boxes ls ≡ Err (Edition (record { edition = edition.Old; refusal = f }))
  unfolding listing_plan limited_both limited_of
  OldFirst h e = rw (le-ltb limit (length old) h, e)

  -- THEOREM. Where the old edition is taken, a new one longer than the limit is refused with its length.
  pub NewOverlong : {n : Counts} → length old ≤ limit → old_reading c old boxes ≡ Ok n → limit < length new → listing_plan c limit old new boxes ls ≡ Err (Edition (record { edition = edition.New; refusal = Overlong (length new) }))
  unfolding listing_plan limited_both limited_of
  NewOverlong h e g = rw (le-ltb limit (length old) h, e, lt-ltb limit (length new) g)
