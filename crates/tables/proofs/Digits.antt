-- A table written as base-14 digits is read back.
use Prim.Native.Nat.{ℕ, zero, suc, ◌+◌, ◌≤◌, ◌<◌}
use mathlib.Core.Path.{◌≡◌, refl}
use mathlib.Core.Bool.{Bool, true, false, ◌&&◌}
use mathlib.Core.List.{List, [], ◌∷◌, map}
use native.Mathlib.Omega.{arith}
use lib.Dec.{leb, ltb, eqb}
use lib.ListN.{length, length-map}
use borrow.Author.Tests.{eqb-true, eqb-false, eq-eqb, le-ltb, ltb-true, leb-true, lt-leb}
use Rattle.tables.specs.Text.{is_white, trim_end, trimmed, is_inside, single, starts, characters}
use Rattle.tables.specs.Letters.{every}
use Rattle.tables.specs.Tables.{digit_byte, digit_of, digits_text, first_bad, digits_reading, table_of_digits}
use Rattle.tables.proofs.Laws.{by_cases, both}
use Rattle.tables.proofs.TextLaws.{above_white}
use Rattle.std.specs.Prelude.{None, Ok}

-- A finite check: a test that holds for every number below n.
abbrev pub below : (ℕ → Bool) → ℕ → Bool
below p zero = true
below p (suc n) = p n && below p n

pub at_each : (p : ℕ → Bool) (n : ℕ) → below p n ≡ true → (k : ℕ) → k < n → p k ≡ true
at_each p zero e k h = absurd (omega arith)
at_each p (suc n) e k h =
    let g = both (p n) (below p n) e in
    by_cases (eqb k n)
    (λ t. rw (eqb-true k n t) g.0)
    (λ t. at_each p n g.1 k (omega (arith, eqb-false k n t)))

-- The first cell is at most 13, and so are the others.
pub small_cells : (t : ℕ) (ts : List ℕ) → every (λ t. leb t 13) (t ∷ ts) ≡ true → (t ≤ 13) × (every (λ t. leb t 13) ts ≡ true)
small_cells t ts e =
    let h = both (leb t 13) (every (λ t. leb t 13) ts) e in
    (leb-true t 13 h.0, h.1)

-- ---- a digit

digit_back : (t : ℕ) → t ≤ 13 → digit_of (digit_byte t) ≡ t
unfolding digit_of digit_byte
digit_back t h = eqb-true (digit_of (digit_byte t)) t (at_each (λ k. eqb (digit_of (digit_byte k)) k) 14 refl t (omega arith))

digit_range : (t : ℕ) → (48 ≤ digit_byte t) × (digit_byte t ≤ 100)
unfolding digit_byte
digit_range t =
    by_cases (ltb t 10)
    (λ e. let h = ltb-true t 10 e in rw e (omega arith, omega arith))
    (λ e. by_cases (ltb t 13)
    (λ f. let h = ltb-true t 13 f in rw (e, f) (omega arith, omega arith))
    (λ f. rw (e, f) (omega arith, omega arith)))

-- A digit is no white space and stands inside no character.
digit_word : (t : ℕ) → is_white (digit_byte t) ≡ false
digit_word t = above_white (digit_byte t) (omega (arith, (digit_range t).0))

digit_alone : (t : ℕ) → is_inside (digit_byte t) ≡ false
unfolding is_inside
digit_alone t = let h = digit_range t in rw (lt-leb 128 (digit_byte t) (omega arith))

-- ---- a text of digits

digits_kept : (ts : List ℕ) → trim_end (digits_text ts) ≡ digits_text ts
digits_kept [] = refl
digits_kept (t ∷ []) = rw (digit_word t)
digits_kept (t ∷ u ∷ us) = rw (digits_kept (u ∷ us))

digits_trimmed : (ts : List ℕ) → trimmed (digits_text ts) ≡ digits_text ts
unfolding trimmed
digits_trimmed [] = refl
digits_trimmed (t ∷ ts) = rw (digit_word t) (digits_kept (t ∷ ts))

digit_single : (t : ℕ) (ts : List ℕ) → single (digit_byte t) (digits_text ts) ≡ digit_byte t
digit_single t [] = refl
digit_single t (u ∷ us) = rw (digit_alone u)

digits_starts : (ts : List ℕ) → starts (digits_text ts) ≡ digits_text ts
digits_starts [] = refl
digits_starts (t ∷ ts) = rw (digit_alone t, digit_single t ts, digits_starts ts)

digits_characters : (ts : List ℕ) → characters (digits_text ts) ≡ digits_text ts
digits_characters [] = refl
digits_characters (t ∷ ts) = rw (digit_single t ts, digits_starts ts)

digits_good : (ts : List ℕ) (i : ℕ) → every (λ t. leb t 13) ts ≡ true → first_bad (digits_text ts) i ≡ None
digits_good [] i e = refl
digits_good (t ∷ ts) i e =
    let h = small_cells t ts e in
    rw (digit_back t h.0, le-ltb 13 t h.0) (digits_good ts (i + 1) h.1)

digits_values : (ts : List ℕ) → every (λ t. leb t 13) ts ≡ true → map digit_of (digits_text ts) ≡ ts
digits_values [] e = refl
digits_values (t ∷ ts) e =
    let h = small_cells t ts e in
    rw (digit_back t h.0, digits_values ts h.1)

-- ---- the theorems

-- The text has one byte for each cell: 20 of them for a table.
pub DigitsLength : (cells : List ℕ) → length (digits_text cells) ≡ length cells
DigitsLength cells = length-map cells digit_byte

-- For every table of cells 0 to 13: the digits that are written for it are read as the same table.
pub DigitsBack : (cells : List ℕ) → length cells ≡ 20 → every (λ t. leb t 13) cells ≡ true → table_of_digits (digits_text cells) ≡ Ok cells
unfolding table_of_digits digits_reading
DigitsBack cells l e =
    rw (digits_trimmed cells, digits_characters cells, DigitsLength cells, eq-eqb (length cells) 20 l, digits_good cells 0 e, digits_values cells e)
