-- Laws of lines.
use Prim.Native.Nat.{ℕ, zero, suc, ◌+◌, ◌≤◌, ◌<◌}
use mathlib.Core.Path.{◌≡◌, refl, sym, ap, ◌∙◌}
use mathlib.Core.Bool.{Bool, true, false, cond, not, ◌&&◌, ◌||◌}
use mathlib.Core.List.{List, [], ◌∷◌}
use native.Mathlib.Omega.{arith}
use lib.Dec.{eqb, eqb-suc-suc}
use lib.ListN.{length, drop, get_or, length-drop}
use lib.Seq.{get_or-drop}
use Rattle.std.specs.Prelude.{Option, Some, None, MatchOption}
use borrow.Author.Tests.{eq-eqb, ne_eqb}
use Rattle.tables.specs.Text.{is_white, lead, trim_end, trimmed, keep_end}
use Rattle.tables.specs.Letters.{among}
use Rattle.tables.proofs.Laws.{by_cases}
use Rattle.reader.specs.declared.line.Line.TheVariants.{Blank}
use Rattle.reader.specs.declared.tag.Span.{Span}
use Rattle.reader.specs.Tag.{trim_span}
use Rattle.reader.specs.Lines.{is_blank, has_brace, last_brace, kind_by, line_kind}
use Rattle.reader.specs.LineSteps.{LastBrace}
use Rattle.reader.proofs.TagLaws.{byte_front}

-- ---- the last brace

last_is : (s : List ℕ) (i : ℕ) → i < length s → get_or s i 0 ≡ 125 → among 125 (drop (suc i) s) ≡ false → last_brace s ≡ i
last_is [] i h e n = absurd (omega arith)
last_is (b ∷ bs) zero h e n = rw (eq-eqb b 125 e, n)
last_is (b ∷ bs) (suc i) h e n = rw (still bs i (omega arith) e, still' (eqb b 125)) (ap suc (last_is bs i (omega arith) e n))
  where
    still' : (t : Bool) → (t && false) ≡ false
    still' true = refl
    still' false = refl

    still : (l : List ℕ) (j : ℕ) → j < length l → get_or l j 0 ≡ 125 → not (among 125 l) ≡ false
    still [] j h e = absurd (omega arith)
    still (x ∷ xs) zero h e = rw (eq-eqb x 125 e)
    still (x ∷ xs) (suc j) h e = or_true (eqb x 125) (among 125 xs) (still xs j (omega arith) e)
      where
        or_true : (a b : Bool) → not b ≡ false → not (a || b) ≡ false
        or_true true b e = refl
        or_true false b e = e

some_at : (s : List ℕ) (i : ℕ) → i < length s → get_or s i 0 ≡ 125 → among 125 s ≡ true
some_at [] i h e = absurd (omega arith)
some_at (b ∷ bs) zero h e = rw (eq-eqb b 125 e)
some_at (b ∷ bs) (suc i) h e = by_cases (eqb b 125) (λ q. rw q) (λ q. rw q (some_at bs i (omega arith) e))

-- What a search from the right finds: the place of a brace with none behind it, or no brace.
abbrev pub LastAt : List ℕ → Option ℕ → Type 0
LastAt s r = MatchOption r ((k : ℕ) → k < length s → get_or s k 0 ≡ 125 → ⊥) (λ i. (i < length s) × (get_or s i 0 ≡ 125) × ((k : ℕ) → i < k → k < length s → get_or s k 0 ≡ 125 → ⊥))

none_at : (s : List ℕ) → ((k : ℕ) → k < length s → get_or s k 0 ≡ 125 → ⊥) → among 125 s ≡ false
none_at [] h = refl
none_at (b ∷ bs) h = rw (ne_eqb b 125 (h 0 (omega arith)), none_at bs (λ k l. h (suc k) (omega arith)))

pub last_from : (s : List ℕ) (r : Option ℕ) → LastAt s r → MatchOption r (has_brace s ≡ false) (λ k. LastBrace s k)
unfolding has_brace
last_from s None h = none_at s h
last_from s (Some i) h =
    let n : among 125 (drop (suc i) s) ≡ false = none_at (drop (suc i) s) (λ k l. rw get_or-drop (h.2 (suc i + k) (omega arith) (omega (arith, length-drop (suc i) s)))) in
    record { there = some_at s i h.0 h.1; place = sym (last_is s i h.0 h.1 n); inside = omega (arith, h.0) }

pub brace_inside : (l : List ℕ) → last_brace l ≤ length l
brace_inside [] = omega arith
brace_inside (b ∷ bs) = by_cases (eqb b 125 && not (among 125 bs)) (λ e. rw e (omega arith)) (λ e. rw e (omega (arith, brace_inside bs)))

-- ---- blank lines

kept_some : (b : ℕ) (l : List ℕ) → is_white b ≡ false → eqb (length (keep_end b l)) 0 ≡ false
kept_some b [] e = rw e
kept_some b (c ∷ cs) e = ne_eqb (suc (suc (length cs))) 0 (λ z. omega arith)

-- A text is blank where all of it is the white space at its start.
pub blank_is : (s : List ℕ) → eqb (length (lead s)) (length s) ≡ is_blank s
unfolding is_blank trimmed
blank_is [] = refl
blank_is (b ∷ bs) =
    by_cases (is_white b)
    (λ e. rw (e, eqb-suc-suc) (blank_is bs))
    (λ e. rw (e, kept_some b (trim_end bs) e) (ne_eqb 0 (suc (length bs)) (λ z. omega arith)))

-- ---- kinds, by the trimmed line's span and first byte

pub blank_span : (line : List ℕ) → is_blank line ≡ eqb (trim_span line).len 0
unfolding is_blank trim_span
blank_span line = refl

kind_by_lem : (line : List ℕ) (b : ℕ) → b ≡ get_or line (trim_span line).start 0 → line_kind line ≡ cond (eqb (trim_span line).len 0) Blank (kind_by b line)
unfolding is_blank trim_span line_kind
kind_by_lem line b e = rw (e, byte_front is_white line)

-- A line that is not blank is of the kind of the first byte that is not white.
pub kind_of_byte : (line : List ℕ) (b : ℕ) (t : Span) → t ≡ trim_span line → (t.len ≡ 0 → ⊥) → b ≡ get_or line t.start 0 → line_kind line ≡ kind_by b line
kind_of_byte line b t e n h = kind_by_lem line b (rw e at h) ∙ rw (← e, ne_eqb t.len 0 n)
