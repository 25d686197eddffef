-- Laws of fronts, trimming, fields, lines and characters.
use Prim.Native.Nat.{ℕ, zero, suc, ◌+◌, ◌-◌, ◌≤◌, ◌<◌}
use mathlib.Core.Path.{◌≡◌, refl, sym, ap, ◌∙◌}
use mathlib.Core.Bool.{Bool, true, false, cond, not}
use mathlib.Core.List.{List, [], ◌∷◌, ◌++◌, reverse, reverse-cons}
use native.Mathlib.Omega.{arith}
use lib.Dec.{eqb}
use lib.ListN.{length, drop, take, get_or, length-reverse}
use lib.Seq.{take-suc}
use borrow.Author.Tests.{le-leb, lt-leb, eq-eqb, ne_eqb}
use Rattle.std.specs.List.{prefix_len, take_while, count_by}
use Rattle.std.proofs.lemmas.List.Folds.{prefix_len-append, length-prefix_len}
use Rattle.std.proofs.lemmas.List.Recursion.{is_count_by}
use Rattle.tables.specs.Text.{is_white, front, beyond, trim_start, keep_end, trim_end, prepend, fields, word, past_word, lines, differs, before, is_inside, starts, characters, first_character}
use Rattle.tables.proofs.Laws.{step, stop, by_cases}

pub length_zero : (s : List ℕ) → length s ≡ 0 → s ≡ []
length_zero [] h = refl
length_zero (b ∷ bs) h = absurd (omega arith)

-- A byte above 32 is no white space.
pub above_white : (b : ℕ) → 32 < b → is_white b ≡ false
unfolding is_white
above_white b h = rw (le-leb 9 b (omega arith), lt-leb b 13 (omega arith), ne_eqb b 32 (λ e. omega arith))

-- ---- fronts

pub front_more : (p : ℕ → Bool) (s : List ℕ) (i : ℕ) → i < length s → p (get_or s i 0) ≡ true → i + length (front p (drop i s)) ≡ i + 1 + length (front p (drop (i + 1) s))
front_more p s i h e = rw (step s i h, e) (omega arith)

pub front_stop : (p : ℕ → Bool) (s : List ℕ) (i : ℕ) → i < length s → p (get_or s i 0) ≡ false → i + length (front p (drop i s)) ≡ i
front_stop p s i h e = rw (step s i h, e) (omega arith)

pub front_end : (p : ℕ → Bool) (s : List ℕ) (i : ℕ) → length s ≤ i → i + length (front p (drop i s)) ≡ i
front_end p s i h = rw (stop s i h) (omega arith)

pub front_few : (p : ℕ → Bool) (s : List ℕ) → length (front p s) ≤ length s
front_few p [] = omega arith
front_few p (b ∷ bs) = by_cases (p b) (λ e. rw e (omega (arith, front_few p bs))) (λ e. rw e (omega arith))

front_length : (p : ℕ → Bool) (s : List ℕ) → prefix_len p s ≡ length (front p s)
front_length p [] = refl
front_length p (b ∷ bs) = by_cases (p b) (λ e. rw e (omega (arith, front_length p bs))) (λ e. rw e)

-- How many bytes pass from the front on.
pub front_counted : (p : ℕ → Bool) (s : List ℕ) {n : ℕ} → n ≡ length (take_while p s) → (n ≡ length (front p s)) × (n ≤ length s)
front_counted p s e =
    let h = e ∙ length-prefix_len p s ∙ front_length p s in
    (h, rw h (front_few p s))

-- A front is the first of the text's bytes, and what follows it are the others.
pub take_front : (p : ℕ → Bool) (s : List ℕ) → take (length (front p s)) s ≡ front p s
take_front p [] = refl
take_front p (b ∷ bs) = by_cases (p b) (λ e. rw e (ap (λ (l : List ℕ). b ∷ l) (take_front p bs))) (λ e. rw e)

pub drop_front : (p : ℕ → Bool) (s : List ℕ) → drop (length (front p s)) s ≡ beyond p s
drop_front p [] = refl
drop_front p (b ∷ bs) = by_cases (p b) (λ e. rw e (drop_front p bs)) (λ e. rw e)

-- ---- the search for a byte, at the place i

-- The place n of the first x is the i bytes passed and those before the first x of what is left.
abbrev pub Sought : ℕ → ℕ → List ℕ → ℕ → Type 0
Sought n x s i = n ≡ i + length (before x (drop i s))

pub sought_here : {n : ℕ} (x : ℕ) (s : List ℕ) (i : ℕ) → i < length s → get_or s i 0 ≡ x → Sought n x s i → i ≡ n
sought_here x s i h e k = sym (k ∙ front_stop (differs x) s i h (ap not (eq-eqb (get_or s i 0) x e)))

pub sought_next : {n : ℕ} (x : ℕ) (s : List ℕ) (i j : ℕ) → j ≡ i + 1 → i < length s → (get_or s i 0 ≡ x → ⊥) → Sought n x s i → Sought n x s j
sought_next x s i j d h m k = rw d (k ∙ front_more (differs x) s i h (ap not (ne_eqb (get_or s i 0) x m)))

-- ---- white space at the end

kept_turn : (b : ℕ) (bs ts : List ℕ) → prefix_len is_white (reverse bs) + length ts ≡ length bs
    → prefix_len is_white (reverse (b ∷ bs)) + length (keep_end b ts) ≡ suc (length bs)
kept_turn b bs [] h =
    let e : prefix_len is_white (reverse bs) ≡ length (reverse bs) = omega (arith, h, length-reverse bs) in
    rw (reverse-cons b bs, prefix_len-append is_white (reverse bs) (b ∷ []), eq-eqb _ _ e)
    (by_cases (is_white b) (λ w. rw w (omega (arith, length-reverse bs))) (λ w. rw w (omega (arith, length-reverse bs))))
kept_turn b bs (c ∷ cs) h =
    rw (reverse-cons b bs, prefix_len-append is_white (reverse bs) (b ∷ []), ne_eqb (prefix_len is_white (reverse bs)) (length (reverse bs)) (λ e. omega (arith, h, e, length-reverse bs)))
    (omega (arith, h))

kept_length : (s : List ℕ) → prefix_len is_white (reverse s) + length (trim_end s) ≡ length s
kept_length [] = refl
kept_length (b ∷ bs) = kept_turn b bs (trim_end bs) (kept_length bs)

-- What is left where n bytes are white from the end back.
pub kept_counted : (s : List ℕ) {n : ℕ} → n ≡ length (take_while is_white (reverse s)) → (length s - n ≡ length (trim_end s)) × (length s - n ≤ length s)
kept_counted s e =
    let h = e ∙ length-prefix_len is_white (reverse s) in
    (omega (arith, h, kept_length s), omega arith)

-- The first e bytes are those before the last of them, and that one.
pub last_of : (s : List ℕ) (e : ℕ) → 0 < e → e ≤ length s → take e s ≡ take (e - 1) s ++ get_or s (e - 1) 0 ∷ []
last_of s zero z h = absurd (omega arith)
last_of s (suc e) z h =
    let d : suc e - 1 ≡ e = omega arith in
    rw d (take-suc s e 0 (omega arith))

take_kept_more : (b : ℕ) (l bs : List ℕ) → take (length l) bs ≡ l → take (length (keep_end b l)) (b ∷ bs) ≡ keep_end b l
take_kept_more b [] bs h = by_cases (is_white b) (λ e. rw e) (λ e. rw e)
take_kept_more b (c ∷ cs) bs h = ap (λ (l : List ℕ). b ∷ l) h

pub take_kept : (s : List ℕ) → take (length (trim_end s)) s ≡ trim_end s
take_kept [] = refl
take_kept (b ∷ bs) = take_kept_more b (trim_end bs) bs (take_kept bs)

-- ---- characters

starts_length : (s : List ℕ) → length (starts s) ≡ count_by (λ b. not (is_inside b)) s
starts_length s = is_count_by (λ l. length (starts l)) (λ b. not (is_inside b)) refl (λ b bs. by_cases (is_inside b) (λ e. rw e) (λ e. rw e (omega arith))) s

starts_few : (s : List ℕ) → length (starts s) ≤ length s
starts_few [] = omega arith
starts_few (b ∷ bs) = by_cases (is_inside b) (λ e. rw e (omega (arith, starts_few bs))) (λ e. rw e (omega (arith, starts_few bs)))

-- How many bytes start a character.
pub starts_counted : (s : List ℕ) {n : ℕ} → n ≡ count_by (λ b. not (is_inside b)) s → (n ≡ length (starts s)) × (n ≤ length s)
starts_counted s e = let h = e ∙ sym (starts_length s) in (h, rw h (starts_few s))

pub first_is : (s : List ℕ) → first_character s ≡ cond (is_inside (get_or s 1 0)) 0 (get_or s 0 0)
unfolding is_inside
first_is [] = refl
first_is (b ∷ []) = refl
first_is (b ∷ c ∷ cs) = refl

-- ---- fields

fields_skip : (s : List ℕ) → fields s ≡ fields (trim_start s)
fields_skip [] = refl
fields_skip (b ∷ bs) = by_cases (is_white b) (λ e. rw e (fields_skip bs)) (λ e. rw e (rw e))

fields_word : (b : ℕ) (bs : List ℕ) → is_white b ≡ false → fields (b ∷ bs) ≡ word (b ∷ bs) ∷ fields (past_word (b ∷ bs))
fields_word b [] e = rw e
fields_word b (c ∷ cs) e = by_cases (is_white c) (λ w. rw (e, w) (rw w)) (λ w. rw (e, w) (ap (prepend b) (rw w at (fields_word c cs w))))

trimmed_first : (s : List ℕ) {P : Type 0} → (length (trim_start s) ≡ 0 → ⊥) → ((b : ℕ) (bs : List ℕ) → trim_start s ≡ b ∷ bs → is_white b ≡ false → P) → P
trimmed_first [] h go = absurd (h refl)
trimmed_first (b ∷ bs) h go = by_cases (is_white b) (λ e. trimmed_first bs (rw e at h) (rw e at go)) (λ e. go b bs (rw e) e)

pub fields_none : (s : List ℕ) → length (trim_start s) ≡ 0 → fields s ≡ []
fields_none s h = fields_skip s ∙ ap fields (length_zero (trim_start s) h)

-- The first field, and the others.
pub fields_some : (s : List ℕ) → (length (trim_start s) ≡ 0 → ⊥) → fields s ≡ word (trim_start s) ∷ fields (past_word (trim_start s))
fields_some s h = fields_skip s ∙ trimmed_first s h (λ b bs e w. rw e (fields_word b bs w))

-- ---- lines

pub lines_step : (s : List ℕ) → 0 < length s → lines s ≡ before 10 s ∷ lines (drop (length (before 10 s) + 1) s)
lines_step [] h = absurd (omega arith)
lines_step (b ∷ []) h = by_cases (eqb b 10) (λ e. rw e) (λ e. rw e)
lines_step (b ∷ c ∷ cs) h =
    by_cases (eqb b 10)
    (λ e. rw e)
    (λ e.
    let d : suc (length (before 10 (c ∷ cs))) + 1 ≡ suc (length (before 10 (c ∷ cs)) + 1) = omega arith in
    rw (e, lines_step (c ∷ cs) (omega arith), d))

-- ---- characters, one at a time

pub characters_next : (u : List ℕ) → 0 < length (characters u) → (is_inside (get_or u 1 0) ≡ true → ⊥) → characters u ≡ first_character u ∷ characters (drop 1 u)
characters_next [] h e = absurd (omega arith)
characters_next (b ∷ []) h e = refl
characters_next (b ∷ c ∷ cs) h e = by_cases (is_inside c) (λ t. absurd (e t)) (λ t. rw t)
