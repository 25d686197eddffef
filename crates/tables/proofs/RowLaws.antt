-- Laws of written rows, and of rows gathered into a table.
use Prim.Native.Nat.{ℕ, zero, suc, ◌+◌, ◌-◌, ◌/◌, ◌%◌, ◌≤◌, ◌<◌}
use mathlib.Core.Path.{◌≡◌, refl, ap, ◌∙◌}
use mathlib.Core.Bool.{Bool, true, false}
use mathlib.Core.List.{List, [], ◌∷◌, ◌++◌, append_assoc}
use native.Mathlib.Omega.{arith}
use lib.Dec.{leb, ltb, eqb}
use lib.ListN.{length, get_or, replicate, length-set}
use lib.Seq.{get_or-set_other}
use borrow.Author.Tests.{eqb-true, eqb-false, eq-eqb, ne_eqb, ltb-true, not-true}
use Rattle.std.specs.Prelude.{Option, Some, None, Ok, Err}
use Rattle.tables.specs.declared.refusal.Refusal.{Refusal}
use Rattle.tables.specs.declared.refusal.Refusal.TheVariants.{Declarer, Denomination, Over}
use Rattle.tables.specs.declared.letters.Conventions.{Conventions}
use Rattle.tables.specs.Text.{is_white, is_word, fields, lines, differs, first_character}
use Rattle.tables.specs.Numbers.{number_of, digits, decimal}
use Rattle.tables.specs.Letters.{Accepted, every, is_plain, seat_of, strain_of, strain_token, seat_letter, suit_letter}
use Rattle.tables.specs.Page.{right}
use Rattle.tables.specs.Tables.{TableReading, Row, gives, row_order, cell_of, column_text, row_text, result_row, fields_row, row_with, row_of, stored_row, missing, gathered, unless}
use Rattle.tables.proofs.Laws.{by_cases, both, clash, neither}
use Rattle.tables.proofs.TextLaws.{above_white}
use Rattle.tables.proofs.LetterLaws.{letter_plain}
use Rattle.tables.proofs.NumberLaws.{decimal_starts}
use Rattle.tables.proofs.Digits.{at_each, small_cells}

-- ---- tests on every byte

pub every_append : (p : ℕ → Bool) (a b : List ℕ) → every p a ≡ true → every p b ≡ true → every p (a ++ b) ≡ true
every_append p [] b ea eb = eb
every_append p (x ∷ xs) b ea eb =
    let h = both (p x) (every p xs) ea in
    rw h.0 (every_append p xs b h.1 eb)

pub every_replicate : (p : ℕ → Bool) (n x : ℕ) → p x ≡ true → every p (replicate n x) ≡ true
every_replicate p zero x e = refl
every_replicate p (suc n) x e = rw e (every_replicate p n x e)

-- Every byte of a number in decimal is a digit, so it meets each test that digits meet.
digits_every : (p : ℕ → Bool) → ((d : ℕ) → d < 10 → p (48 + d) ≡ true) → (f n : ℕ) (acc : List ℕ) → every p acc ≡ true → every p (digits f n acc) ≡ true
unfolding digits
digits_every p e zero n acc h = rw (e (n % 10) (omega arith)) h
digits_every p e (suc f) n acc h =
    let d = e (n % 10) (omega arith) in
    by_cases (ltb n 10)
    (λ t. rw (t, d) h)
    (λ t. rw t (digits_every p e f (n / 10) ((48 + n % 10) ∷ acc) (rw d h)))

decimal_every : (p : ℕ → Bool) → ((d : ℕ) → d < 10 → p (48 + d) ≡ true) → (n : ℕ) → every p (decimal n) ≡ true
unfolding decimal
decimal_every p e n = digits_every p e 9 n [] refl

-- ---- fields

space_white : is_white 32 ≡ true
unfolding is_white
space_white = refl

nt_word : every is_word (78 ∷ 84 ∷ []) ≡ true
unfolding is_white
nt_word = refl

word_white : (b : ℕ) → is_word b ≡ true → is_white b ≡ false
word_white b e = not-true (is_white b) e

-- A word and a space give a field, and the fields of what follows.
pub field_then : (a : ℕ) (w rest : List ℕ) → every is_word (a ∷ w) ≡ true → fields ((a ∷ w) ++ 32 ∷ rest) ≡ (a ∷ w) ∷ fields rest
field_then a [] rest e = rw (word_white a (both (is_word a) true e).0, space_white)
field_then a (b ∷ w) rest e =
    let h = both (is_word a) (every is_word (b ∷ w)) e in
    let k = both (is_word b) (every is_word w) h.1 in
    rw (field_then b w rest h.1, word_white a h.0, word_white b k.0)

-- A word alone is the only field.
pub field_last : (a : ℕ) (w : List ℕ) → every is_word (a ∷ w) ≡ true → fields (a ∷ w) ≡ (a ∷ w) ∷ []
field_last a [] e = rw (word_white a (both (is_word a) true e).0)
field_last a (b ∷ w) e =
    let h = both (is_word a) (every is_word (b ∷ w)) e in
    let k = both (is_word b) (every is_word w) h.1 in
    rw (field_last b w h.1, word_white a h.0, word_white b k.0)

-- Spaces before a text give no field.
pub fields_spaces : (n : ℕ) (s : List ℕ) → fields (replicate n 32 ++ s) ≡ fields s
fields_spaces zero s = refl
fields_spaces (suc n) s = rw space_white (fields_spaces n s)

-- ---- the parts of a written row

pub plain_word : (b : ℕ) → is_plain b ≡ true → is_word b ≡ true
unfolding is_plain
plain_word b e = rw (neither (is_white b) _ (not-true _ e)).0

digit_is_word : (d : ℕ) → d < 10 → is_word (48 + d) ≡ true
digit_is_word d h = rw (above_white (48 + d) (omega arith))

-- A number to the right is one field, its digits.
pub right_field : (w n : ℕ) → fields (right w (decimal n)) ≡ decimal n ∷ []
unfolding right
right_field w n =
    let s = decimal_starts n in
    let e = decimal_every is_word digit_is_word n in
    fields_spaces (w - length (decimal n)) (decimal n) ∙ rw s.is (field_last s.first s.others (rw s.is at e))

-- Rows and columns: the cell of a row's seat and strain is the row's own.
pub cell_back : (k : ℕ) → k < 20 → cell_of (row_order (k / 5)) (4 - k % 5) ≡ k
unfolding cell_of row_order
cell_back k h = eqb-true (cell_of (row_order (k / 5)) (4 - k % 5)) k (at_each (λ j. eqb (cell_of (row_order (j / 5)) (4 - j % 5)) j) 20 refl k h)

pub order_seat : (s : ℕ) → s < 4 → row_order s < 4
unfolding row_order
order_seat s h = ltb-true (row_order s) 4 (at_each (λ k. ltb (row_order k) 4) 4 refl s h)

row_text_lem : (c : Conventions) (w k t : ℕ) → row_text c w k t ≡ (seat_letter c (row_order (k / 5)) ∷ []) ++ 32 ∷ (column_text c (k % 5) ++ 32 ∷ right w (decimal t))
unfolding row_text
row_text_lem c w k t = simp append_assoc

module _ (c : Conventions) (ok : Accepted c) where
  letter_word : (i : ℕ) → i < 13 → is_word (get_or c.letters i 0) ≡ true
  letter_word i h = plain_word (get_or c.letters i 0) (letter_plain c ok i h)

  -- The column's text and a space are one field, the strain's token.
  column_field : (k : ℕ) (rest : List ℕ) → k < 5 → fields (column_text c k ++ 32 ∷ rest) ≡ strain_token c (4 - k) ∷ fields rest
  unfolding column_text
  column_field k rest h =
      by_cases (eqb k 0)
      (λ t. rw (t, eq-eqb (4 - k) 4 (omega (arith, eqb-true k 0 t))) (field_then 78 (84 ∷ []) rest nt_word))
      (λ t.
      let z = eqb-false k 0 t in
      rw (t, ne_eqb (4 - k) 4 (λ e. omega (arith, z (omega arith))))
      (fields_spaces 1 (suit_letter c (4 - k) ∷ 32 ∷ rest) ∙ field_then (suit_letter c (4 - k)) [] rest (rw (letter_word (7 - (4 - k)) (omega arith)))))

  -- The three fields of a written row.
  pub row_fields : (w k t : ℕ) → k < 20 → fields (row_text c w k t) ≡ (seat_letter c (row_order (k / 5)) ∷ []) ∷ strain_token c (4 - k % 5) ∷ decimal t ∷ []
  row_fields w k t h =
      let s = order_seat (k / 5) (omega arith) in
      rw (row_text_lem c w k t)
      (field_then (seat_letter c (row_order (k / 5))) [] (column_text c (k % 5) ++ 32 ∷ right w (decimal t)) (rw (letter_word (row_order (k / 5)) (omega arith)))
      ∙ rw (column_field (k % 5) (right w (decimal t)) (omega arith), right_field w t))

-- ---- lines

-- A text without LF and an LF give a line, and the lines of what follows.
pub line_then : (row rest : List ℕ) → every (differs 10) row ≡ true → lines (row ++ 10 ∷ rest) ≡ row ∷ lines rest
line_then [] rest e = refl
line_then (b ∷ bs) rest e =
    let h = both (differs 10 b) (every (differs 10) bs) e in
    rw (line_then bs rest h.1, not-true (eqb b 10) h.0)

word_line : (b : ℕ) → is_word b ≡ true → differs 10 b ≡ true
unfolding is_white
word_line b e = by_cases (eqb b 10) (λ t. clash (rw (eqb-true b 10 t) at e)) (λ t. rw t)

right_line : (w n : ℕ) → every (differs 10) (right w (decimal n)) ≡ true
unfolding right
right_line w n =
    every_append (differs 10) (replicate (w - length (decimal n)) 32) (decimal n)
    (every_replicate (differs 10) (w - length (decimal n)) 32 refl)
    (decimal_every (differs 10) (λ d h. word_line (48 + d) (digit_is_word d h)) n)

module _ (c : Conventions) (ok : Accepted c) where
  letter_line : (i : ℕ) → i < 13 → differs 10 (get_or c.letters i 0) ≡ true
  letter_line i h = word_line (get_or c.letters i 0) (letter_word c ok i h)

  column_line : (k : ℕ) → k < 5 → every (differs 10) (column_text c k) ≡ true
  unfolding column_text
  column_line k h =
      by_cases (eqb k 0)
      (λ t. rw t)
      (λ t. rw (t, letter_line (7 - (4 - k)) (omega (arith, eqb-false k 0 t))))

  -- A written row holds no LF.
  pub row_line : (w k t : ℕ) → k < 20 → every (differs 10) (row_text c w k t) ≡ true
  row_line w k t h =
      let s = order_seat (k / 5) (omega arith) in
      rw (row_text_lem c w k t, letter_line (row_order (k / 5)) (omega arith))
      (every_append (differs 10) (column_text c (k % 5)) (32 ∷ right w (decimal t)) (column_line (k % 5) (omega arith)) (right_line w t))

-- ---- rows that are gathered

-- A row that is not refused lets the others be read.
pub unless_passes : (r : Row) (x : TableReading) → ((f : Refusal) → r ≡ Err f → ⊥) → unless r x ≡ x
unless_passes (Ok y) x h = refl
unless_passes (Err f) x h = absurd (h f refl)

-- Where a table is read, the rows behind the first gave it.
pub unless_holds : (r : Row) (x : TableReading) {ts : List ℕ} → unless r x ≡ Ok ts → x ≡ Ok ts
unless_holds (Ok y) x e = e
unless_holds (Err f) x e = cc

pub stored_length : (cells : List ℕ) (r : Row) → length (stored_row cells r) ≡ length cells
stored_length cells (Ok None) = refl
stored_length cells (Ok (Some y)) = length-set cells y.place y.tricks
stored_length cells (Err f) = refl

-- The place of the cell that a row gives.
abbrev place_of : Row → ℕ
place_of (Ok None) = 0
place_of (Ok (Some y)) = y.place
place_of (Err f) = 0

pub same_place : {j u k v : ℕ} → gives j u ≡ gives k v → j ≡ k
same_place e = ap place_of e

-- A row that does not name the cell k leaves it as it is.
pub stored_other : (cells : List ℕ) (r : Row) (k : ℕ) → ((v : ℕ) → r ≡ gives k v → ⊥) → get_or (stored_row cells r) k 0 ≡ get_or cells k 0
stored_other cells (Ok None) k f = refl
stored_other cells (Ok (Some y)) k f = get_or-set_other cells y.place k y.tricks 0 (λ e. f y.tricks (rw e))
stored_other cells (Err g) k f = refl

pub gathered_holds : (cells : List ℕ) {ts : List ℕ} → gathered cells ≡ Ok ts → cells ≡ ts
unfolding gathered
gathered_holds cells e = by_cases (eqb (missing cells) 0) (λ t. let h = rw t at e in cc) (λ t. let h = rw t at e in cc)

none_missing : (cells : List ℕ) → every (λ t. leb t 13) cells ≡ true → missing cells ≡ 0
none_missing [] e = refl
none_missing (t ∷ ts) e =
    let h = small_cells t ts e in
    rw (ne_eqb t 255 (λ k. omega (arith, h.0))) (none_missing ts h.1)

pub cell_small : (cells : List ℕ) (k : ℕ) → every (λ t. leb t 13) cells ≡ true → get_or cells k 0 ≤ 13
cell_small [] k e = omega arith
cell_small (t ∷ ts) zero e = (small_cells t ts e).0
cell_small (t ∷ ts) (suc k) e = cell_small ts k (small_cells t ts e).1

-- A full table of cells 0 to 13 is the answer.
pub gathered_full : (cells : List ℕ) → every (λ t. leb t 13) cells ≡ true → gathered cells ≡ Ok cells
unfolding gathered
gathered_full cells e = rw (none_missing cells e)

-- ---- a row's number

result_number : (n m cell : ℕ) (x : Option ℕ) {k v : ℕ} → result_row n cell x ≡ gives k v → result_row m cell x ≡ gives k v
result_number n m cell None e = cc
result_number n m cell (Some u) {k} {v} e = by_cases (ltb 13 u) (λ t. let h : Err (Over n) ≡ gives k v = rw t at e in cc) (λ t. let h : gives cell u ≡ gives k v = rw t at e in rw t h)

fields_number : (c : Conventions) (n m : ℕ) (d s t : List ℕ) {k v : ℕ} → fields_row c n d s t ≡ gives k v → fields_row c m d s t ≡ gives k v
unfolding fields_row
fields_number c n m d s t {k} {v} e =
    by_cases (ltb 3 (seat_of c (first_character d)))
    (λ a. let h : Err (Declarer n) ≡ gives k v = rw a at e in cc)
    (λ a. by_cases (ltb 4 (strain_of c s))
    (λ b. let h : Err (Denomination n) ≡ gives k v = rw (a, b) at e in cc)
    (λ b. rw (a, b) (result_number n m (cell_of (seat_of c (first_character d)) (strain_of c s)) (number_of 255 t) (rw (a, b) at e))))

with_number : (c : Conventions) (n m : ℕ) (fs : List (List ℕ)) {k v : ℕ} → row_with c n fs ≡ gives k v → row_with c m fs ≡ gives k v
with_number c n m [] e = cc
with_number c n m (d ∷ []) e = cc
with_number c n m (d ∷ s ∷ []) e = cc
with_number c n m (d ∷ s ∷ t ∷ []) e = fields_number c n m d s t e
with_number c n m (d ∷ s ∷ t ∷ u ∷ us) e = cc

-- The number of a row does not matter to one that gives a cell: it stands in refusals alone.
pub RowNumber : (c : Conventions) (n m : ℕ) (row : List ℕ) {k v : ℕ} → row_of c n row ≡ gives k v → row_of c m row ≡ gives k v
unfolding row_of
RowNumber c n m row e = with_number c n m (fields row) e
