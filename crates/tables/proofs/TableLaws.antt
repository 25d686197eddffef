-- Laws of tables that the proofs of functions use.
use Prim.Native.Nat.{ℕ, ◌+◌, ◌*◌, ◌%◌, ◌≤◌, ◌<◌}
use mathlib.Core.Path.{◌≡◌, refl, sym, ap, ◌∙◌}
use mathlib.Core.Bool.{true, cond}
use mathlib.Core.List.{List, [], ◌∷◌, ◌++◌, map, append_assoc, append-nil}
use native.Mathlib.Numerals.{add-one}
use native.Mathlib.Omega.{arith}
use lib.Dec.{eqb, ltb}
use lib.ListN.{length, drop, take, get_or, set, replicate, length-append, length-set}
use lib.Seq.{take-suc-set, take_all, drop-drop}
use borrow.Author.Tests.{eqb-true, eqb-false, lt-ltb, le-ltb, leb-true}
use Rattle.std.specs.Borrow.{Bor}
use Rattle.std.specs.List.{count_by, list_any}
use Rattle.std.proofs.lemmas.List.Sums.{count_by-le-length}
use Rattle.std.proofs.lemmas.List.Recursion.{is_count_by}
use Rattle.tables.specs.declared.letters.Conventions.{Conventions}
use Rattle.tables.specs.declared.refusal.Refusal.{Refusal}
use Rattle.tables.specs.declared.refusal.Refusal.TheVariants.{Digit, Fields}
use Rattle.std.specs.Prelude.{Option, Some, None, Ok, Err}
use Rattle.tables.specs.Text.{is_inside, single, characters, first_character, fields, word, past_word, trim_start, lines, before}
use Rattle.tables.specs.declared.dd.Cell.{Cell}
use Rattle.tables.specs.Tables.{Row, digit_of, first_bad, digits_reading, column_text, row_text, rows_from, fields_row, row_of, stored_row, unless, gather, gathered, missing, width_of}
use Rattle.tables.specs.declared.lines.Lines.{Lines}
use Rattle.tables.specs.LineWalk.{at_end, lines_of, IsNextLine}
use Rattle.tables.proofs.Laws.{by_cases, stop}
use Rattle.tables.proofs.TextLaws.{first_is, characters_next, length_zero, fields_none, fields_some}
use Rattle.tables.proofs.WalkLaws.{line_fields, lines_walk}
use Rattle.tables.proofs.PageLaws.{right_few}

-- ---- rows

pub column_two : (c : Conventions) (k : ℕ) → length (column_text c k) ≡ 2
unfolding column_text
column_two c k = by_cases (eqb k 0) (λ t. rw t) (λ t. rw t)

pub row_few : (c : Conventions) (w cell t : ℕ) → length (row_text c w cell t) ≤ w + 15
unfolding row_text
row_few c w cell t = simp length-append (omega (arith, column_two c (cell % 5), right_few w t))

pub rows_few : (c : Conventions) (w cell : ℕ) (ts : List ℕ) → w ≤ 2 → length (rows_from c w cell ts) ≤ 18 * length ts
rows_few c w cell [] h = omega arith
rows_few c w cell (t ∷ ts) h = simp length-append (omega (arith, row_few c w cell t, rows_few c w (cell + 1) ts h))

-- ---- cells absent

missing_count : (s : List ℕ) → missing s ≡ count_by (λ t. eqb t 255) s
missing_count s = is_count_by missing (λ t. eqb t 255) refl (λ t ts. by_cases (eqb t 255) (λ e. rw e (omega arith)) (λ e. rw e)) s

-- How many cells no row has given.
pub missing_counted : (s : List ℕ) {n : ℕ} → n ≡ count_by (λ t. eqb t 255) s → (n ≡ missing s) × (n ≤ length s)
missing_counted s e = (e ∙ sym (missing_count s), rw e (count_by-le-length (λ t. eqb t 255) s))

-- The width is 2 where some cell exceeds 9.
pub width_any : (s : List ℕ) → width_of s ≡ cond (list_any (λ t. ltb 9 t) s) 2 1
width_any [] = refl
width_any (t ∷ ts) = by_cases (ltb 9 t) (λ e. rw e) (λ e. rw e (width_any ts))

pub width_two : (s : List ℕ) → width_of s ≤ 2
width_two [] = omega arith
width_two (t ∷ ts) = by_cases (ltb 9 t) (λ e. rw e (omega arith)) (λ e. rw e (width_two ts))

-- ---- digits, one at a time

zero_bad : (u : List ℕ) → digit_of (first_character u) ≤ 13 → is_inside (get_or u 1 0) ≡ true → ⊥
unfolding digit_of
zero_bad u h e =
    let f : first_character u ≡ 0 = rw (first_is u, e) in
    let d : 14 ≤ 13 = rw f at h in
    omega arith

-- The first i digits were read into a table.
pub record Decoding (v cells : List ℕ) (i : ℕ) : Type 0 where
  pub count : i + length (characters (drop i v)) ≡ 20
  pub bad : first_bad (characters v) 0 ≡ first_bad (characters (drop i v)) i
  pub tricks : map digit_of (characters v) ≡ take i cells ++ map digit_of (characters (drop i v))
  pub size : length cells ≡ 20

pub decoding_next : {v cells : List ℕ} {i : ℕ} → Decoding v cells i → i < 20 → (d : ℕ) → d ≡ digit_of (first_character (drop i v)) → d ≤ 13 → Decoding v (set cells i d) (i + 1)
decoding_next {v} {cells} {i} t h d e l =
    let z : 0 < length (characters (drop i v)) = omega (arith, t.count) in
    let n = characters_next (drop i v) z (zero_bad (drop i v) (rw (← e) l)) in
    let dd : drop 1 (drop i v) ≡ drop (i + 1) v = drop-drop 1 i v in
    let n' : characters (drop i v) ≡ first_character (drop i v) ∷ characters (drop (i + 1) v) = rw dd at n in
    record {
      count = omega (arith, rw n' at t.count);
      bad = t.bad ∙ rw (n', ← e, le-ltb 13 d l);
      tricks = t.tricks ∙ rw (n', ← e, add-one, take-suc-set cells i d (omega (arith, t.size)), append_assoc);
      size = rw length-set t.size;
    }

bad_first : (u : List ℕ) (i : ℕ) → 0 < length (characters u) → 13 < digit_of (first_character u) → first_bad (characters u) i ≡ Some i
bad_first [] i z h = absurd (omega arith)
bad_first (b ∷ bs) i z h = rw (lt-ltb 13 (digit_of (single b bs)) h)

pub decoding_bad : {v cells : List ℕ} {i : ℕ} → Decoding v cells i → length (characters v) ≡ 20 → i < 20 → 13 < digit_of (first_character (drop i v)) → Err (Digit i) ≡ digits_reading (characters v)
unfolding digits_reading
decoding_bad {v} {cells} {i} t e h l =
    let z : 0 < length (characters (drop i v)) = omega (arith, t.count) in
    rw (e, t.bad, bad_first (drop i v) i z l)

pub decoding_done : {v cells : List ℕ} {i : ℕ} → Decoding v cells i → length (characters v) ≡ 20 → 20 ≤ i → Ok cells ≡ digits_reading (characters v)
unfolding digits_reading
decoding_done {v} {cells} {i} t e h =
    let n : characters (drop i v) ≡ [] = length_zero (characters (drop i v)) (omega (arith, t.count)) in
    let k : map digit_of (characters v) ≡ cells = t.tricks ∙ rw (n, append-nil, take_all i cells (omega (arith, t.size))) in
    rw (e, t.bad, n, k)

-- ---- the fields of a row

pub row_blank : (c : Conventions) (n : ℕ) (row : List ℕ) → length (trim_start row) ≡ 0 → Ok None ≡ row_of c n row
unfolding row_of
row_blank c n row h = rw (fields_none row h)

module _ (c : Conventions) (n : ℕ) (row u v w : List ℕ) (eu : u ≡ trim_start row) (hu : length u ≡ 0 → ⊥) (ev : v ≡ trim_start (past_word u)) (ew : w ≡ trim_start (past_word v)) where
  first_field : fields row ≡ word u ∷ fields (past_word u)
  first_field = rw eu (fields_some row (rw eu at hu))

  second_field : (length v ≡ 0 → ⊥) → fields row ≡ word u ∷ word v ∷ fields (past_word v)
  second_field h = first_field ∙ rw ev (ap (λ (l : List (List ℕ)). word u ∷ l) (fields_some (past_word u) (rw ev at h)))

  -- There is no third field.
  pub row_short : length w ≡ 0 → Err (Fields n) ≡ row_of c n row
  unfolding row_of
  row_short h =
      by_cases (eqb (length v) 0)
      (λ t. rw (first_field, fields_none (past_word u) (rw ev at (eqb-true (length v) 0 t))))
      (λ t. rw (second_field (eqb-false (length v) 0 t), fields_none (past_word v) (rw ew at h)))

  not_empty : (length w ≡ 0 → ⊥) → length v ≡ 0 → ⊥
  not_empty h z = h (ap length ew ∙ ap (λ (l : List ℕ). length (trim_start (past_word l))) (length_zero v z))

  third_field : (length w ≡ 0 → ⊥) → fields row ≡ word u ∷ word v ∷ word w ∷ fields (past_word w)
  third_field h = second_field (not_empty h) ∙ rw ew (ap (λ (l : List (List ℕ)). word u ∷ word v ∷ l) (fields_some (past_word v) (rw ew at h)))

  -- There is a fourth.
  pub row_long : (length w ≡ 0 → ⊥) → (length (trim_start (past_word w)) ≡ 0 → ⊥) → Err (Fields n) ≡ row_of c n row
  unfolding row_of
  row_long h k = rw (third_field h, fields_some (past_word w) k)

  pub row_three : (length w ≡ 0 → ⊥) → length (trim_start (past_word w)) ≡ 0 → fields_row c n (word u) (word v) (word w) ≡ row_of c n row
  unfolding row_of
  row_three h k = rw (third_field h, fields_none (past_word w) k)

-- ---- rows, one at a time

-- The lines that are left, gathered into the cells so far from number n on, are what the whole text comes to.
pub record Gathering (c : Conventions) (text cells : List ℕ) (w : Lines) (n : ℕ) : Type 0 where
  pub left : gather c (lines (drop w.next w.text.now)) n cells ≡ gather c (lines text) 0 (replicate 20 255)

pub gathering : (c : Conventions) (text : Bor (List ℕ)) {cells : List ℕ} {w : Lines} {n : ℕ} → cells ≡ replicate 20 255 → w ≡ lines_of text → n ≡ 0 → Gathering c text.now cells w n
gathering c text e f z = record { left = rw (e, f, z) }

row_line : (c : Conventions) (n : ℕ) (s : List ℕ) → row_of c n (take (length (before 10 s) + 1) s) ≡ row_of c n (before 10 s)
unfolding row_of
row_line c n s = rw (line_fields s)

module _ {c : Conventions} {text cells : List ℕ} {w v : Lines} {n : ℕ} {l : List ℕ} {row : Row} (t : Gathering c text cells w n) (s : IsNextLine w l v) (er : row ≡ row_of c n l) where
  row_now : gather c (lines (drop w.next w.text.now)) n cells ≡ unless row (gather c (lines (drop v.next v.text.now)) (n + 1) (stored_row cells row))
  row_now =
      let e : row ≡ row_of c n (before 10 (drop w.next w.text.now)) = er ∙ ap (row_of c n) s.line_is ∙ row_line c n (drop w.next w.text.now) in
      rw (lines_walk s, ← e)

  pub row_fault : (f : Refusal) → row ≡ Err f → Err f ≡ gather c (lines text) 0 (replicate 20 255)
  row_fault f e = sym (sym t.left ∙ row_now ∙ rw e)

  pub row_on : (given : Option Cell) (cells' : List ℕ) → row ≡ Ok given → cells' ≡ stored_row cells (Ok given) → Gathering c text cells' v (n + 1)
  row_on given cells' e ec = record { left = rw ec (sym (row_now ∙ rw e) ∙ t.left) }

pub gathering_done : {c : Conventions} {text cells : List ℕ} {w : Lines} {n : ℕ} → Gathering c text cells w n → at_end w ≡ true → gathered cells ≡ gather c (lines text) 0 (replicate 20 255)
gathering_done {w = w} t h = rw (stop w.text.now w.next (leb-true (length w.text.now) w.next h)) at t.left
