-- Laws of tags.
use Prim.Native.Nat.{ℕ, zero, suc, ◌+◌, ◌-◌, ◌≤◌, ◌<◌}
use mathlib.Core.Path.{◌≡◌, refl, sym, ap, ◌∙◌}
use mathlib.Core.Bool.{Bool, true, false, cond, ◌&&◌, ◌||◌}
use mathlib.Core.List.{List, [], ◌∷◌, ◌++◌}
use native.Mathlib.Numerals.{add-one}
use native.Mathlib.Omega.{arith}
use lib.Dec.{ltb, eqb, leb-suc-suc}
use lib.ListN.{length, drop, take, get_or, length-drop, length-take, drop_of_length-le}
use lib.Seq.{take-suc, drop-append-le, length-take-le, get_or-drop}
use borrow.Author.Tests.{lt-ltb, le-ltb, ltb-true, ltb-false}
use Rattle.tables.specs.Text.{is_white, front, beyond, lead, trim_start, trim_end, trimmed, before, differs}
use Rattle.tables.specs.Letters.{among}
use Rattle.tables.proofs.Laws.{step, stop, by_cases, clash}
use Rattle.tables.proofs.TextLaws.{drop_front, front_few}
use Rattle.reader.specs.declared.tag.Span.{Span}
use Rattle.std.specs.Prelude.{Option, Some, None, is_some, unwrap_or}
use Rattle.std.specs.Bool.{then_some}
use Rattle.std.specs.List.{list_any}
use Rattle.reader.specs.Tag.{part, last_after, last_byte, trim_part, trim_span, ends_quoted, close_at, is_quoted, find_at}

-- ---- bytes

last_after_lem : (d b : ℕ) (s : List ℕ) → last_after d (b ∷ s) ≡ get_or (b ∷ s) (length s) 0
last_after_lem d b [] = refl
last_after_lem d b (c ∷ cs) = last_after_lem b c cs

last_at : (s : List ℕ) (n : ℕ) → n ≡ length s → (n ≡ 0 → ⊥) → get_or s (n - 1) 0 ≡ last_byte s
last_at [] n e h = absurd (h e)
last_at (b ∷ bs) n e h = let z : n - 1 ≡ length bs = omega arith in rw z (sym (last_after_lem 0 b bs))

pub last_get : (s : List ℕ) → get_or s (length s - 1) 0 ≡ last_byte s
last_get [] = refl
last_get (b ∷ bs) = last_at (b ∷ bs) (length (b ∷ bs)) refl (λ e. omega arith)

pub among_any : (x : ℕ) (s : List ℕ) → list_any (λ y. eqb y x) s ≡ among x s
among_any x [] = refl
among_any x (b ∷ bs) = ap (λ (k : Bool). eqb b x || k) (among_any x bs)

-- The byte behind a front is the first of what follows it.
pub byte_front : (p : ℕ → Bool) (s : List ℕ) → get_or s (length (front p s)) 0 ≡ get_or (beyond p s) 0 0
byte_front p [] = refl
byte_front p (b ∷ bs) = by_cases (p b) (λ e. rw e (byte_front p bs)) (λ e. rw e)

-- Past its end a text has no byte but 0.
pub byte_inside : (s : List ℕ) (i b : ℕ) → get_or s i 0 ≡ suc b → i < length s
byte_inside [] i b e = absurd (omega arith)
byte_inside (x ∷ xs) zero b e = omega arith
byte_inside (x ∷ xs) (suc i) b e = let h = byte_inside xs i b e in omega arith

-- The place of the first x, as a search from a gives it.
find_is : (x k : ℕ) (s : List ℕ) → find_at x k s ≡ cond (ltb (length (before x s)) (length s)) (Some (k + length (before x s))) None
find_is x k [] = refl
find_is x k (b ∷ bs) =
    by_cases (eqb b x)
    (λ e. rw (e, lt-ltb 0 (suc (length bs)) (omega arith)) (ap Some (omega arith)))
    (λ e. let z : k + 1 + length (before x bs) ≡ k + suc (length (before x bs)) = omega arith in rw (e, leb-suc-suc, ← z) (find_is x (k + 1) bs))

pub find_from_is : (x a n : ℕ) (s : List ℕ) → n ≡ length (before x (drop a s)) → then_some (ltb (a + n) (length s)) (a + n) ≡ find_at x a (drop a s)
find_from_is x a n s e =
    by_cases (ltb n (length (drop a s)))
    (λ t. rw (lt-ltb (a + n) (length s) (omega (arith, length-drop a s, ltb-true n _ t)), find_is x a (drop a s), ← e, t))
    (λ t. rw (le-ltb (a + n) (length s) (omega (arith, length-drop a s, ltb-false n _ t)), find_is x a (drop a s), ← e, t))

pub trim_twice : (s : List ℕ) → trim_start (trim_start s) ≡ trim_start s
trim_twice [] = refl
trim_twice (b ∷ bs) = by_cases (is_white b) (λ e. rw e (trim_twice bs)) (λ e. rw e (rw e))

-- ---- spans

pub length_part : (a e : ℕ) (s : List ℕ) → length (part a e s) ≤ length s - a
length_part a e s = rw (length-drop a (take e s), length-take e s) (omega arith)

-- A text trimmed by its two lengths: the white space before it, and what is kept of the rest.
pub span_is : (s f : List ℕ) (n k : ℕ) → n ≡ length (lead s) → n ≤ length s → f ≡ drop n s → k ≡ length (trim_end f) → k ≤ length f →
    (◌≡◌ {A = Span} (record { start = n; len = k }) (trim_span s)) × (n + k ≤ length s)
unfolding trim_span trimmed
span_is s f n k e h ef ek hk =
    let d : f ≡ trim_start s = rw (ef, e) (drop_front is_white s) in
    (rw (← e, ← d, ← ek), omega (arith, simp length-drop at (ap length ef)))

pub span_part_is : (a e : ℕ) (s t f : List ℕ) (n k : ℕ) → t ≡ part a e s → n ≡ length (lead t) → n ≤ length t → f ≡ drop n t → k ≡ length (trim_end f) → k ≤ length f →
    (◌≡◌ {A = Span} (record { start = a + n; len = k }) (trim_part a e s)) × (k ≤ length s - (a + n))
unfolding trim_part trimmed
span_part_is a e s t f n k et en h ef ek hk =
    let d : f ≡ trim_start t = rw (ef, en) (drop_front is_white t) in
    let p : length t ≤ length s - a = rw et (length_part a e s) in
    (rw (← et, ← en, ← d, ← ek), omega (arith, simp length-drop at (ap length ef)))

-- ---- the closing bracket: one byte more of the body

pub part_more : (a i : ℕ) (s : List ℕ) → a ≤ i → i < length s → part a (i + 1) s ≡ part a i s ++ get_or s i 0 ∷ []
part_more a i s h l =
    rw (add-one, take-suc s i 0 l) (drop-append-le a (take i s) (get_or s i 0 ∷ []) (rw (length-take-le i s (omega arith)) h))

pub part_none : (a : ℕ) (s : List ℕ) → part a a s ≡ []
part_none a s = let h : length (take a s) ≤ a = rw length-take (omega arith) in drop_of_length-le (take a s) h

pub close_found : (a i : ℕ) (s : List ℕ) → i < length s → (eqb (get_or s i 0) 93 && ends_quoted (part a i s)) ≡ true → close_at i (part a i s) (drop i s) ≡ Some i
close_found a i s l e = rw (step s i l, e)

pub close_turn : (a i : ℕ) (s : List ℕ) → a ≤ i → i < length s → (eqb (get_or s i 0) 93 && ends_quoted (part a i s)) ≡ false →
    close_at i (part a i s) (drop i s) ≡ close_at (i + 1) (part a (i + 1) s) (drop (i + 1) s)
close_turn a i s h l e = rw (step s i l, e, part_more a i s h l)

-- None of the bytes before the first x is x; the byte after them is.
before_none : (x : ℕ) (s : List ℕ) (j : ℕ) → j < length (before x s) → eqb (get_or s j 0) x ≡ false
before_none x [] j h = absurd (omega arith)
before_none x (b ∷ bs) zero h = by_cases (eqb b x) (λ q. absurd (omega (arith, rw q at h))) (λ q. q)
before_none x (b ∷ bs) (suc j) h = by_cases (eqb b x) (λ q. absurd (omega (arith, rw q at h))) (λ q. before_none x bs j (omega (arith, rw q at h)))

before_here : (x : ℕ) (s : List ℕ) → length (before x s) < length s → eqb (get_or s (length (before x s)) 0) x ≡ true
before_here x [] h = absurd (omega arith)
before_here x (b ∷ bs) h = by_cases (eqb b x) (λ q. rw q q) (λ q. rw q (before_here x bs (omega (arith, rw q at h))))

-- Bytes other than `]` are passed.
close_past : (a i r : ℕ) (s : List ℕ) → a ≤ i → ((j : ℕ) → j < r → (i + j < length s) × (eqb (get_or s (i + j) 0) 93 ≡ false))
    → close_at i (part a i s) (drop i s) ≡ close_at (i + r) (part a (i + r) s) (drop (i + r) s)
close_past a i zero s h f = let z : i + 0 ≡ i = omega arith in rw z
close_past a i (suc r) s h f =
    let z : i + 1 + r ≡ i + suc r = omega arith in
    let t = f 0 (omega arith) in
    let e : i + 0 ≡ i = omega arith in
    let here : eqb (get_or s i 0) 93 ≡ false = rw e at t.1 in
    close_turn a i s h (omega (arith, t.0)) (rw here) ∙ rw z at (close_past a (i + 1) r s (omega arith) (λ j l. let k : i + 1 + j ≡ i + suc j = omega arith in rw k (f (suc j) (omega arith))))

-- The search goes on at the next `]`.
close_next : (a i r : ℕ) (s : List ℕ) → a ≤ i → r ≡ length (before 93 (drop i s)) → close_at i (part a i s) (drop i s) ≡ close_at (i + r) (part a (i + r) s) (drop (i + r) s)
close_next a i r s h e =
    close_past a i r s h
    (λ j l.
    let few : length (before 93 (drop i s)) ≤ length (drop i s) = front_few (differs 93) (drop i s) in
    (omega (arith, few, e, length-drop i s), rw (← get_or-drop i s j 0) (before_none 93 (drop i s) j (omega (arith, e)))))

close_there : (i r : ℕ) (s : List ℕ) → r ≡ length (before 93 (drop i s)) → i + r < length s → eqb (get_or s (i + r) 0) 93 ≡ true
close_there i r s e h = rw (← get_or-drop i s r 0, e) (before_here 93 (drop i s) (omega (arith, e, length-drop i s)))

find_some : (x k i : ℕ) (s : List ℕ) → find_at x k s ≡ Some i → (i ≡ k + length (before x s)) × (length (before x s) < length s)
find_some x k i s e =
    by_cases (ltb (length (before x s)) (length s))
    (λ t. let n : find_at x k s ≡ Some (k + length (before x s)) = find_is x k s ∙ rw t in (ap (λ (o : Option ℕ). unwrap_or o 0) (sym e ∙ n), ltb-true _ _ t))
    (λ t. let n : find_at x k s ≡ None = find_is x k s ∙ rw t in clash (ap is_some (sym n ∙ e)))

find_none : (x k : ℕ) (s : List ℕ) → find_at x k s ≡ None → length s ≤ length (before x s)
find_none x k s e =
    by_cases (ltb (length (before x s)) (length s))
    (λ t. let n : find_at x k s ≡ Some (k + length (before x s)) = find_is x k s ∙ rw t in clash (ap is_some (sym e ∙ n)))
    (λ t. ltb-false _ _ t)

pub record CloseTo (a n i : ℕ) (s : List ℕ) : Type 0 where
  pub close_on : close_at n (part a n s) (drop n s) ≡ close_at i (part a i s) (drop i s)
  pub later : n ≤ i
  pub inside : i < length s
  pub is_bracket : eqb (get_or s i 0) 93 ≡ true

pub close_to : (a n i : ℕ) (s : List ℕ) → a ≤ n → find_at 93 n (drop n s) ≡ Some i → CloseTo a n i s
close_to a n i s h e =
    let f = find_some 93 n i (drop n s) e in
    let l : n + length (before 93 (drop n s)) < length s = omega (arith, f.1, length-drop n s) in
    rw f.0 (record { close_on = close_next a n _ s h refl; later = omega arith; inside = l; is_bracket = close_there n _ s refl l })

-- Where none is left, none closes.
pub close_none : (a n : ℕ) (s : List ℕ) → a ≤ n → find_at 93 n (drop n s) ≡ None → close_at n (part a n s) (drop n s) ≡ None
close_none a n s h e =
    let f : length s ≤ n + length (before 93 (drop n s)) = omega (arith, find_none 93 n (drop n s) e, length-drop n s) in
    close_next a n _ s h refl ∙ rw (stop s (n + length (before 93 (drop n s))) f)

-- ---- the value

-- A text in quotes has two bytes.
pub quoted_two : (s t : List ℕ) (q : Bool) → q ≡ is_quoted s → q ≡ true → s ≡ t → 2 ≤ length t
unfolding is_quoted
quoted_two s t q e h d = by_cases (ltb (length s) 2) (λ w. clash (rw w at (sym e ∙ h))) (λ w. omega (arith, ltb-false (length s) 2 w, ap length d))
