-- Each refusal of the five functions on tables on its condition, and all that is lent zero after it.
use Prim.Native.Nat.{ℕ, zero, suc, ◌+◌, ◌≤◌, ◌<◌}
use mathlib.Core.Path.{◌≡◌, refl, sym, ap, ◌∙◌}
use mathlib.Core.Bool.{true, false}
use mathlib.Core.List.{List, [], ◌∷◌, map}
use native.Mathlib.Omega.{arith}
use lib.Dec.{ltb, eqb, leb}
use lib.ListN.{length, get_or, replicate}
use borrow.Author.Tests.{ltb-true, ltb-false, leb-true, leb-false, eqb-true, eqb-false}
use Rattle.tables.specs.declared.letters.Conventions.{Conventions}
use Rattle.tables.specs.declared.refusal.Refusal.{Refusal as TableRefusal}
use Rattle.tables.specs.declared.refusal.Refusal.TheVariants.{Length, Digit, Fields, Declarer, Denomination, Outcome, Over, Missing}
use Rattle.tables.specs.Text.{fields, lines, first_character}
use Rattle.tables.specs.Numbers.{Number, number_of}
use Rattle.tables.specs.Letters.{seat_of, strain_of}
use Rattle.tables.specs.Refusals.{refusal_number, refusal_carries}
use Rattle.tables.specs.Page.{answer_of, page_of}
use Rattle.tables.specs.Tables.{TableReading, digit_of, first_bad, digits_reading, table_of_digits, cell_of, result_row, fields_row, row_with, row_of, stored_row, gathered, unless, gather, table_of_rows, Row}
use Rattle.tables.proofs.Laws.{by_cases, clash}
use Rattle.golavimes.specs.Answers.{written_numbers, decoded_numbers, table_left}
use Rattle.demands.specs.Demand1.{refusal, PageFull, value_characters, digits_before, of_digits, is_fault, rows_before, field, NotThree, BadSeat, BadStrain, NoNumber, Above, InRow, cells_after, absent, of_rows, NoValues, WriterRefuses, DigitsRefuse, RowsRefuse}
use Rattle.demands.proofs.Refusing.{Says, Met, nothing, this, later, met_by, first_that_holds}
use Rattle.std.specs.Prelude.{Option, Some, None, Ok, Err}

-- ---- pages

writer_met : (text page answer : List ℕ) → answer ≡ written_numbers (answer_of text (length page)) → Met answer (refusal 7 0 (length text) (PageFull text page) ∷ [])
unfolding answer_of
writer_met text page answer e =
    met_by (leb (length text) (length page))
    (λ t. later (λ h. let l = leb-true (length text) (length page) t in omega arith) (nothing (rw (e, t) (record { number_said = refl; edition_said = refl; carried_said = refl }))))
    (λ t. this (leb-false (length text) (length page) t) (rw (e, t) (record { number_said = refl; edition_said = refl; carried_said = refl })))

writer_not : (text : List ℕ) (n : ℕ) → (get_or (written_numbers (answer_of text n)) 0 0 ≡ 0 → ⊥) → (page_of text n ≡ replicate n 0) × NoValues 1 (written_numbers (answer_of text n))
unfolding answer_of page_of
writer_not text n h = by_cases (leb (length text) n) (λ t. absurd (h (rw t))) (λ t. (rw t, rw t))

writer_one : (text : List ℕ) (n : ℕ) → get_or (written_numbers (answer_of text n)) 1 0 ≡ 0
unfolding answer_of
writer_one text n = by_cases (leb (length text) n) (λ t. rw t) (λ t. rw t)

pub writer_refuses : WriterRefuses
writer_refuses text page page' answer' r o =
    let refused : (r ≡ 0 → ⊥) → (page_of text (length page) ≡ replicate (length page) 0) × NoValues 1 (written_numbers (answer_of text (length page))) =
    λ h. writer_not text (length page) (λ z. h (o.returned ∙ ap (λ (l : List ℕ). get_or l 0 0) o.told ∙ z)) in
    record {
      refused = first_that_holds (refusal 7 0 (length text) (PageFull text page) ∷ []) answer' refl (writer_met text page answer' o.told);
      one_edition = rw o.told (writer_one text (length page));
      returned = o.returned;
      page_zero = λ h. o.page_left ∙ (refused h).0;
      no_values = λ h. rw o.told (refused h).1;
    }

-- ---- tables that are read

-- A table that is refused is all zero, and its answer says the refusal.
table_not : (t : TableReading) → (get_or (decoded_numbers t) 0 0 ≡ 0 → ⊥) → table_left t ≡ replicate 20 0
table_not (Ok cells) h = absurd (h refl)
table_not (Err f) h = refl

table_one : (t : TableReading) → get_or (decoded_numbers t) 1 0 ≡ 0
table_one (Ok cells) = refl
table_one (Err f) = refl

refused_says : (t : TableReading) (answer : List ℕ) (f : TableRefusal) → answer ≡ decoded_numbers t → t ≡ Err f → Says answer (refusal_number f) 0 (refusal_carries f)
refused_says t answer f e q = rw (e, q) (record { number_said = refl; edition_said = refl; carried_said = refl })

holds_says : (t : TableReading) (answer cells : List ℕ) → answer ≡ decoded_numbers t → t ≡ Ok cells → Says answer 0 0 0
holds_says t answer cells e q = rw (e, q) (record { number_said = refl; edition_said = refl; carried_said = refl })

-- ---- digits

bad_some : (xs : List ℕ) (i k : ℕ) → first_bad xs i ≡ Some k → (k ≡ i + length (digits_before xs)) × (length (digits_before xs) < length xs)
bad_some [] i k e = let z : ◌≡◌ {A = ℕ} 0 1 = cc in absurd (omega arith)
bad_some (x ∷ xs) i k e =
    by_cases (ltb 13 (digit_of x))
    (λ t. let q : Some i ≡ Some k = rw t at e in let z : i ≡ k = cc in rw t (omega arith, omega arith))
    (λ t. let h = bad_some xs (i + 1) k (rw t at e) in rw t (omega arith, omega arith))

bad_none : (xs : List ℕ) (i : ℕ) → first_bad xs i ≡ None → length (digits_before xs) < length xs → ⊥
bad_none [] i e h = omega arith
bad_none (x ∷ xs) i e h =
    by_cases (ltb 13 (digit_of x))
    (λ t. let q : Some i ≡ None = rw t at e in let z : ◌≡◌ {A = ℕ} 0 1 = cc in absurd (omega arith))
    (λ t. bad_none xs (i + 1) (rw t at e) (let g = rw t at h in omega arith))

digits_met : (value answer : List ℕ) → answer ≡ decoded_numbers (table_of_digits value) → Met answer (of_digits value)
unfolding table_of_digits digits_reading
digits_met value answer e =
    let xs = value_characters value in
    met_by (eqb (length xs) 20)
    (λ t. later (λ h. h (eqb-true (length xs) 20 t)) (go xs t e (first_bad xs 0) refl))
    (λ t. this (eqb-false (length xs) 20 t) (refused_says (digits_reading xs) answer (Length (length xs)) e (rw t)))
  where
    go : (xs : List ℕ) → eqb (length xs) 20 ≡ true → answer ≡ decoded_numbers (digits_reading xs) → (b : Option ℕ) → first_bad xs 0 ≡ b
        → Met answer (refusal 9 0 (length (digits_before xs)) (length (digits_before xs) < length xs) ∷ [])
    go xs t e None q = later (bad_none xs 0 q) (nothing (holds_says (digits_reading xs) answer (map digit_of xs) e (rw (t, q))))
    go xs t e (Some k) q =
        let h = bad_some xs 0 k q in
        let z : k ≡ length (digits_before xs) = omega arith in
        this h.1 (rw z at (refused_says (digits_reading xs) answer (Digit k) e (rw (t, q))))

pub digits_refuse : DigitsRefuse
digits_refuse value table' answer' r o =
    record {
      refused = first_that_holds (of_digits value) answer' refl (digits_met value answer' o.told);
      one_edition = rw o.told (table_one (table_of_digits value));
      returned = o.returned;
      table_zero = λ h. o.table_after ∙ table_not (table_of_digits value) (λ z. h (o.returned ∙ ap (λ (l : List ℕ). get_or l 0 0) o.told ∙ z));
    }

-- ---- rows

-- What the number of a row does not matter to: whether it is refused, and what it stores.
record SameRow (x y : Row) : Type 0 where
  same_fault : is_fault x ≡ is_fault y
  same_stored : (cells : List ℕ) → stored_row cells x ≡ stored_row cells y

result_same : (n m cell : ℕ) (v : Number) → SameRow (result_row n cell v) (result_row m cell v)
result_same n m cell None = record { same_fault = refl; same_stored = λ cells. refl }
result_same n m cell (Some v) =
    by_cases (ltb 13 v)
    (λ t. rw t (record { same_fault = refl; same_stored = λ cells. refl }))
    (λ t. rw t (record { same_fault = refl; same_stored = λ cells. refl }))

fields_same : (c : Conventions) (n m : ℕ) (d s t : List ℕ) → SameRow (fields_row c n d s t) (fields_row c m d s t)
unfolding fields_row
fields_same c n m d s t =
    by_cases (ltb 3 (seat_of c (first_character d)))
    (λ e. rw e (record { same_fault = refl; same_stored = λ cells. refl }))
    (λ e.
    by_cases (ltb 4 (strain_of c s))
    (λ u. rw (e, u) (record { same_fault = refl; same_stored = λ cells. refl }))
    (λ u. rw (e, u) (result_same n m (cell_of (seat_of c (first_character d)) (strain_of c s)) (number_of 255 t))))

with_same : (c : Conventions) (n m : ℕ) (fs : List (List ℕ)) → SameRow (row_with c n fs) (row_with c m fs)
with_same c n m [] = record { same_fault = refl; same_stored = λ cells. refl }
with_same c n m (d ∷ []) = record { same_fault = refl; same_stored = λ cells. refl }
with_same c n m (d ∷ s ∷ []) = record { same_fault = refl; same_stored = λ cells. refl }
with_same c n m (d ∷ s ∷ t ∷ []) = fields_same c n m d s t
with_same c n m (d ∷ s ∷ t ∷ u ∷ us) = record { same_fault = refl; same_stored = λ cells. refl }

row_same : (c : Conventions) (n m : ℕ) (row : List ℕ) → SameRow (row_of c n row) (row_of c m row)
unfolding row_of
row_same c n m row = with_same c n m (fields row)

-- Why a row is refused: the first of the five that holds of it.
data Why (c : Conventions) (n : ℕ) (row : List ℕ) : TableRefusal → Type 0 where
  by_fields : NotThree row → Why c n row (Fields n)
  by_seat : (NotThree row → ⊥) → BadSeat c row → Why c n row (Declarer n)
  by_strain : (NotThree row → ⊥) → (BadSeat c row → ⊥) → BadStrain c row → Why c n row (Denomination n)
  by_number : (NotThree row → ⊥) → (BadSeat c row → ⊥) → (BadStrain c row → ⊥) → NoNumber row → Why c n row (Outcome n)
  by_over : (NotThree row → ⊥) → (BadSeat c row → ⊥) → (BadStrain c row → ⊥) → (NoNumber row → ⊥) → Above row → Why c n row (Over n)

abbrev fault_in : Row → TableRefusal
fault_in (Ok x) = Missing 0
fault_in (Err f) = f

module _ (c : Conventions) (n : ℕ) (row : List ℕ) where
  fields_why : (k : ℕ) → length (fields row) ≡ k → (k ≡ 3 → ⊥) → NotThree row
  fields_why k e h z = h (sym e ∙ z)

  -- Of three fields.
  three_why : (d s t : List ℕ) → fields row ≡ d ∷ s ∷ t ∷ [] → is_fault (fields_row c n d s t) ≡ true → Why c n row (fault_in (fields_row c n d s t))
  unfolding fields_row
  three_why d s t e h =
      let three : NotThree row → ⊥ = λ z. z (ap length e) in
      let f0 : field 0 row ≡ d = rw e in
      let f1 : field 1 row ≡ s = rw e in
      let f2 : field 2 row ≡ t = rw e in
      by_cases (ltb 3 (seat_of c (first_character d)))
      (λ a. rw a (by_seat three (rw f0 (ltb-true 3 (seat_of c (first_character d)) a))))
      (λ a.
      let seat : BadSeat c row → ⊥ = λ z. let y : 3 < seat_of c (first_character d) = rw f0 at z in let l = ltb-false 3 (seat_of c (first_character d)) a in omega arith in
      by_cases (ltb 4 (strain_of c s))
      (λ b. rw (a, b) (by_strain three seat (rw f1 (ltb-true 4 (strain_of c s) b))))
      (λ b.
      let strain : BadStrain c row → ⊥ = λ z. let y : 4 < strain_of c s = rw f1 at z in let l = ltb-false 4 (strain_of c s) b in omega arith in
      rw (a, b) (result (cell_of (seat_of c (first_character d)) (strain_of c s)) (number_of 255 t) (rw f2) three seat strain (rw (a, b) at h))))
    where
      result : (cell : ℕ) (v : Number) → number_of 255 (field 2 row) ≡ v → (NotThree row → ⊥) → (BadSeat c row → ⊥) → (BadStrain c row → ⊥) → is_fault (result_row n cell v) ≡ true → Why c n row (fault_in (result_row n cell v))
      result cell None q x y z g = by_number x y z q
      result cell (Some v) q x y z g =
          by_cases (ltb 13 v)
          (λ u.
          let good : NoNumber row → ⊥ = λ w. let o : ◌≡◌ {A = ℕ} 0 1 = cc in omega arith in
          rw u (by_over x y z good (record { result = v; is = q; above = ltb-true 13 v u })))
          (λ u. clash (rw u at g))

  with_why : (fs : List (List ℕ)) → fields row ≡ fs → is_fault (row_with c n fs) ≡ true → Why c n row (fault_in (row_with c n fs))
  with_why [] e h = clash h
  with_why (d ∷ []) e h = by_fields (fields_why 1 (ap length e) (λ z. omega arith))
  with_why (d ∷ s ∷ []) e h = by_fields (fields_why 2 (ap length e) (λ z. omega arith))
  with_why (d ∷ s ∷ t ∷ []) e h = three_why d s t e h
  with_why (d ∷ s ∷ t ∷ u ∷ us) e h = by_fields (fields_why (length (d ∷ s ∷ t ∷ u ∷ us)) (ap length e) (λ z. omega arith))

  row_why : is_fault (row_of c n row) ≡ true → Why c n row (fault_in (row_of c n row))
  unfolding row_of
  row_why h = with_why (fields row) refl h

unless_fault : (x : Row) (r : TableReading) → is_fault x ≡ true → unless x r ≡ Err (fault_in x)
unless_fault (Ok x) r e = clash e
unless_fault (Err f) r e = refl

unless_good : (x : Row) (r : TableReading) → is_fault x ≡ false → unless x r ≡ r
unless_good (Ok x) r e = refl
unless_good (Err f) r e = clash (sym e)

-- The rows up to the first that is refused, or all of them.
rows_fault : (c : Conventions) (rows : List (List ℕ)) (n : ℕ) (cells : List ℕ) → rows_before c rows < length rows
    → (is_fault (row_of c (n + rows_before c rows) (get_or rows (rows_before c rows) [])) ≡ true)
    × (gather c rows n cells ≡ Err (fault_in (row_of c (n + rows_before c rows) (get_or rows (rows_before c rows) []))))
rows_fault c [] n cells h = absurd (omega arith)
rows_fault c (row ∷ rows) n cells h =
    by_cases (is_fault (row_of c 0 row))
    (λ t.
    let z : n + 0 ≡ n = omega arith in
    let f : is_fault (row_of c n row) ≡ true = (row_same c n 0 row).same_fault ∙ t in
    rw (t, z) (f, unless_fault (row_of c n row) _ f))
    (λ t.
    let k = rows_before c rows in
    let f : is_fault (row_of c n row) ≡ false = (row_same c n 0 row).same_fault ∙ t in
    let z : n + suc k ≡ n + 1 + k = omega arith in
    let g : suc k < suc (length rows) = rw t at h in
    let i = rows_fault c rows (n + 1) (stored_row cells (row_of c n row)) (omega arith) in
    rw (t, z) (i.0, unless_good (row_of c n row) _ f ∙ i.1))

rows_good : (c : Conventions) (rows : List (List ℕ)) (n : ℕ) (cells : List ℕ) → length rows ≤ rows_before c rows → gather c rows n cells ≡ gathered (cells_after c cells rows)
rows_good c [] n cells h = refl
rows_good c (row ∷ rows) n cells h =
    by_cases (is_fault (row_of c 0 row))
    (λ t. let g : suc (length rows) ≤ 0 = rw t at h in absurd (omega arith))
    (λ t.
    let g : suc (length rows) ≤ suc (rows_before c rows) = rw t at h in
    let f : is_fault (row_of c n row) ≡ false = (row_same c n 0 row).same_fault ∙ t in
    unless_good (row_of c n row) _ f
    ∙ rows_good c rows (n + 1) (stored_row cells (row_of c n row)) (omega arith)
    ∙ ap (λ (l : List ℕ). gathered (cells_after c l rows)) ((row_same c n 0 row).same_stored cells))

-- A row that is refused.
why_met : (c : Conventions) (rows : List (List ℕ)) (n : ℕ) (answer : List ℕ) (f : TableRefusal) → n ≡ rows_before c rows → n < length rows → Why c n (get_or rows n []) f
    → Says answer (refusal_number f) 0 (refusal_carries f) → Met answer (of_rows c rows)
why_met c rows n answer f e h w s = rw (← e) (go f w s)
  where
    at : {P : List ℕ → Type 0} → P (get_or rows n []) → InRow rows n P
    at p = record { is_there = h; holds = p }

    not_at : {P : List ℕ → Type 0} → (P (get_or rows n []) → ⊥) → InRow rows n P → ⊥
    not_at q i = q i.holds

    go : (f : TableRefusal) → Why c n (get_or rows n []) f → Says answer (refusal_number f) 0 (refusal_carries f)
        → Met answer (
        refusal 10 0 n (InRow rows n NotThree)
        ∷ refusal 11 0 n (InRow rows n (BadSeat c))
        ∷ refusal 12 0 n (InRow rows n (BadStrain c))
        ∷ refusal 13 0 n (InRow rows n NoNumber)
        ∷ refusal 14 0 n (InRow rows n Above)
        ∷ refusal 15 0 (absent c rows) (0 < absent c rows)
        ∷ []
        )
    go f (by_fields x) s = this (at x) s
    go f (by_seat x y) s = later (not_at x) (this (at y) s)
    go f (by_strain x y z) s = later (not_at x) (later (not_at y) (this (at z) s))
    go f (by_number x y z u) s = later (not_at x) (later (not_at y) (later (not_at z) (this (at u) s)))
    go f (by_over x y z u v) s = later (not_at x) (later (not_at y) (later (not_at z) (later (not_at u) (this (at v) s))))

rows_met : (c : Conventions) (text answer : List ℕ) → answer ≡ decoded_numbers (table_of_rows c text) → Met answer (of_rows c (lines text))
unfolding table_of_rows gathered
rows_met c text answer e =
    let rows = lines text in
    let k = rows_before c rows in
    let cells : List ℕ = replicate 20 255 in
    met_by (ltb k (length rows))
    (λ t.
    let h = ltb-true k (length rows) t in
    let i = rows_fault c rows 0 cells h in
    let z : 0 + k ≡ k = omega arith in
    let f : is_fault (row_of c k (get_or rows k [])) ≡ true = rw z at i.0 in
    let g : gather c rows 0 cells ≡ Err (fault_in (row_of c k (get_or rows k []))) = rw z at i.1 in
    why_met c rows k answer (fault_in (row_of c k (get_or rows k []))) refl h (row_why c k (get_or rows k []) f) (refused_says (table_of_rows c text) answer (fault_in (row_of c k (get_or rows k []))) e g))
    (λ t.
    let h = ltb-false k (length rows) t in
    let g = rows_good c rows 0 cells h in
    let m = absent c rows in
    later (outside h) (later (outside h) (later (outside h) (later (outside h) (later (outside h)
    (met_by (eqb m 0)
    (λ u. later (λ l. let y = eqb-true m 0 u in omega arith) (nothing (holds_says (table_of_rows c text) answer (cells_after c cells rows) e (g ∙ rw u))))
    (λ u. this (positive m (eqb-false m 0 u)) (refused_says (table_of_rows c text) answer (Missing m) e (g ∙ rw u)))))))))
  where
    outside : {rows : List (List ℕ)} {k : ℕ} {P : List ℕ → Type 0} → length rows ≤ k → InRow rows k P → ⊥
    outside h i = let y = i.is_there in omega arith

    positive : (m : ℕ) → (m ≡ 0 → ⊥) → 0 < m
    positive zero h = absurd (h refl)
    positive (suc m) h = omega arith

pub rows_refuse : RowsRefuse
rows_refuse c text table' answer' r o =
    record {
      refused = first_that_holds (of_rows c (lines text)) answer' refl (rows_met c text answer' o.told);
      one_edition = rw o.told (table_one (table_of_rows c text));
      returned = o.returned;
      table_zero = λ h. o.table_after ∙ table_not (table_of_rows c text) (λ z. h (o.returned ∙ ap (λ (l : List ℕ). get_or l 0 0) o.told ∙ z));
    }
