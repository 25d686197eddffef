-- Demand 1 of golavimes_finish.
use Prim.Native.Nat.{ℕ, ◌*◌, ◌≤◌}
use mathlib.Core.Path.{◌≡◌, refl, ◌∙◌}
use mathlib.Core.Bool.{true, false, not}
use mathlib.Core.List.{List, [], ◌∷◌, ◌++◌}
use native.Mathlib.Omega.{arith}
use lib.Dec.{ltb, leb, eqb}
use lib.ListN.{length, get_or}
use borrow.Author.Tests.{ltb-true, ltb-false, lt-leb, le-leb, eqb-true, eqb-false, eq-eqb, ne_eqb}
use Rattle.std.specs.Prelude.{Ok, Err, is_ok}
use Rattle.tables.specs.declared.letters.Conventions.{Conventions}
use Rattle.tables.proofs.Laws.{by_cases}
use Rattle.tables.proofs.TextLaws.{front_few}
use Rattle.planning.specs.declared.editions.EditionsRefusal.{EditionsRefusal}
use Rattle.planning.specs.declared.editions.Both.{Both}
use Rattle.planning.specs.Plans.{Boxes, editions_number, editions_carries, edition_refused, editions_of, Editions}
use Rattle.writer.specs.declared.finish.FinishRefusal.TheVariants.{Edition, Answers, Impossible, PageFull}
use Rattle.writer.specs.Given.{finished_text}
use Rattle.writer.specs.Finishings.{first_above, finished_on, finished_by, finishing_of}
use Rattle.golavimes.specs.Answers.{finishing_numbers}
use Rattle.demands.specs.Demand1.{Refusal, refusal, of_editions, solve_in, NotTwentyEach, possible, SomeAbove, NoValues, FinishRefuses}
use Rattle.demands.specs.Demand1 as demand
use Rattle.demands.proofs.Listing.{read_number_lem}
use Rattle.demands.proofs.Refusing.{Says, Met, nothing, this, later, met_by, met_below, editions_met, first_that_holds, boxes_zero, says_by, refused_by}

-- ---- the first byte above 13

pub first_above_lem : (bs : List ℕ) → first_above bs ≡ length (possible bs)
first_above_lem [] = refl
first_above_lem (b ∷ bs) = by_cases (ltb 13 b) (λ t. rw t) (λ t. rw t (omega (arith, first_above_lem bs)))

pub possible_few : (bs : List ℕ) → length (possible bs) ≤ length bs
possible_few bs = front_few (λ b. not (ltb 13 b)) bs

-- ---- the answer

-- The refusals behind those of the editions: 5, 6 and 7.
abbrev of_page : List ℕ → List ℕ → List Refusal
of_page text page = refusal 7 0 (length text) (demand.PageFull text page) ∷ []

abbrev of_bytes : List ℕ → List ℕ → List ℕ → List Refusal
of_bytes answers text page = refusal 6 0 (length (possible answers)) (SomeAbove answers) ∷ of_page text page

abbrev of_answers : Conventions → List ℕ → List ℕ → List ℕ → List ℕ → List Refusal
of_answers c old new answers page =
    refusal 5 0 (solve_in c old new) (NotTwentyEach c old new answers) ∷ of_bytes answers (finished_text c old new answers) page

module _ (c : Conventions) (old new : List ℕ) (boxes : Boxes) (answers page answer : List ℕ)
    (told : answer ≡ finishing_numbers (finishing_of c old new boxes answers (length page))) where
  refused_says : (f : EditionsRefusal) → editions_of c old new boxes ≡ Err f
      → Says answer (editions_number f) (edition_refused f) (editions_carries f)
  unfolding finishing_of
  refused_says f q =
      says_by (finishing_numbers (Err (Edition f))) answer (editions_number f) (edition_refused f) (editions_carries f) (rw q at told) refl refl refl

  page_met : (n : Both) → editions_of c old new boxes ≡ Ok n → eqb (length answers) (20 * solve_in c old new) ≡ true
      → eqb (first_above answers) (length answers) ≡ true → Met answer (of_page (finished_text c old new answers) page)
  unfolding finishing_of
  page_met n q t u =
      let size = length (finished_text c old new answers) in
      met_below 7 0 size (length page) size
      (λ v.
      says_by (finishing_numbers (Err (PageFull size))) answer 7 0 size
      (rw (q, t, u, lt-leb size (length page) (ltb-true (length page) size v)) at told) refl refl refl)
      (λ v.
      nothing (says_by (finishing_numbers (Ok size)) answer 0 0 0
      (rw (q, t, u, le-leb size (length page) (ltb-false (length page) size v)) at told) refl refl refl))

  above_met : (n : Both) → editions_of c old new boxes ≡ Ok n → eqb (length answers) (20 * solve_in c old new) ≡ true
      → Met answer (of_bytes answers (finished_text c old new answers) page)
  unfolding finishing_of
  above_met n q t =
      let k = length (possible answers) in
      let size = length answers in
      met_below 6 0 k k size
      (λ u.
      let z : eqb (first_above answers) size ≡ false =
      ne_eqb (first_above answers) size (λ e. omega (arith, first_above_lem answers, ltb-true k size u)) in
      says_by (finishing_numbers (Err (Impossible (first_above answers)))) answer 6 0 k (rw (q, t, z) at told) refl refl (first_above_lem answers))
      (λ u.
      page_met n q t
      (eq-eqb (first_above answers) size (omega (arith, first_above_lem answers, possible_few answers, ltb-false k size u))))

  taken_met : (n : Both) → editions_of c old new boxes ≡ Ok n → Met answer (of_answers c old new answers page)
  unfolding finishing_of
  taken_met n q =
      met_by (eqb (length answers) (20 * solve_in c old new))
      (λ t. later (λ h. h (eqb-true (length answers) (20 * solve_in c old new) t)) (above_met n q t))
      (λ t. this (eqb-false (length answers) (20 * solve_in c old new) t)
      (says_by (finishing_numbers (Err (Answers (solve_in c old new)))) answer 5 0 (solve_in c old new) (rw (q, t) at told) refl refl refl))

pub finish_refuses : FinishRefuses
finish_refuses c old new boxes answers page boxes' page' answer' r o =
    let w = finishing_of c old new boxes answers (length page) in
    let refused : (r ≡ 0 → ⊥) → (is_ok w ≡ false) × NoValues 1 answer' =
    refused_by finishing_numbers 1 (λ n. refl) (λ f. refl) w o.told o.returned in
    record {
      refused = first_that_holds (of_editions c old new boxes ++ of_answers c old new answers page) answer' refl
          (editions_met c old new boxes answer' (of_answers c old new answers page)
          (refused_says c old new boxes answers page answer' o.told) (taken_met c old new boxes answers page answer' o.told));
      returned = o.returned;
      boxes_zero = λ h. boxes_zero c (is_ok w) old new boxes boxes' (refused h).0 o.lent_after.boxes_left;
      page_zero = λ h. o.lent_after.page_left ∙ rw (refused h).0;
      no_values = λ h. (refused h).1;
    }

-- ---- no refusal

-- An answer that begins with 0: both editions were taken, 20 possible bytes for each slip, and n bytes are written.
pub record IsDone (e : Editions) (solve : ℕ) (answers : List ℕ) (n m : ℕ) : Type 0 where
  pub taken : is_ok e ≡ true
  pub twenty : length answers ≡ 20 * solve
  pub possible : first_above answers ≡ length answers
  pub is : finished_by e solve answers (finished_on n m) ≡ Ok n

pub is_done : (e : Editions) (solve : ℕ) (answers : List ℕ) (n m : ℕ)
    → get_or (finishing_numbers (finished_by e solve answers (finished_on n m))) 0 0 ≡ 0
    → IsDone e solve answers n m
is_done (Ok k) solve answers n m z =
    by_cases (eqb (length answers) (20 * solve))
    (λ t.
    by_cases (eqb (first_above answers) (length answers))
    (λ u.
    by_cases (leb n m)
    (λ v.
    record {
      taken = refl;
      twenty = eqb-true (length answers) (20 * solve) t;
      possible = eqb-true (first_above answers) (length answers) u;
      is = rw (t, u, v);
    })
    (λ v. let y = rw (t, u, v) at z in absurd (omega arith)))
    (λ u. let y = rw (t, u) at z in absurd (omega arith)))
    (λ t. let y = rw t at z in absurd (omega arith))
is_done (Err f) solve answers n m z = absurd (read_number_lem f.refusal z)
