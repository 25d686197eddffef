-- Laws of words.
use Prim.Native.Nat.{ℕ, zero, suc, ◌+◌, ◌≤◌, ◌<◌}
use mathlib.Core.Path.{◌≡◌, refl, sym, ◌∙◌}
use mathlib.Core.Bool.{Bool, true, false, cond, ◌&&◌}
use mathlib.Core.List.{List, [], ◌∷◌}
use native.Mathlib.Numerals.{add-one}
use native.Mathlib.Omega.{arith}
use Rattle.std.specs.Prelude.{Option, Some, None, MatchOption, IfSome, unwrap_or}
use Rattle.std.specs.Bool.{MatchBool, then_some}
use lib.Dec.{eqb}
use lib.ListN.{length, take, drop, get_or, replicate}
use borrow.Author.Tests.{eqb-true, eq-eqb, ne_eqb}
use Rattle.tables.specs.declared.letters.Conventions.{Conventions}
use Rattle.tables.specs.Text.{front, is_inside, first_character}
use Rattle.tables.specs.Letters.{capital, strain_of, suit_of, rank_of, every}
use Rattle.tables.proofs.Laws.{by_cases, both, clash}
use Rattle.tables.proofs.TextLaws.{front_more, front_stop, front_end}
use Rattle.reader.specs.Words.{same, same_word, level_of, bid_code, bid_of, is_underscore, is_doubling, trump_suit, contract_trump, card_number, card_named}

-- ---- equal texts

pub and_false : (p : Bool) → (p && false) ≡ false
and_false true = refl
and_false false = refl

-- Each byte of a word is the capital of the token's, or some byte differs.
abbrev pub Meets : List ℕ → List ℕ → Bool → Type 0
Meets a b r = MatchBool r ((k : ℕ) → k < length a → get_or a k 0 ≡ capital (get_or b k 0)) ((k : ℕ) × (k < length a) × (get_or a k 0 ≡ capital (get_or b k 0) → ⊥))

word_meets : (a b : List ℕ) → length a ≡ length b → ((k : ℕ) → k < length a → get_or a k 0 ≡ capital (get_or b k 0)) → same_word a b ≡ true
word_meets [] [] e h = refl
word_meets [] (y ∷ ys) e h = absurd (omega arith)
word_meets (x ∷ xs) [] e h = absurd (omega arith)
word_meets (x ∷ xs) (y ∷ ys) e h = rw (eq-eqb x (capital y) (h 0 (omega arith))) (word_meets xs ys (omega arith) (λ k l. h (suc k) (omega arith)))

word_differs : (a b : List ℕ) (k : ℕ) → k < length a → (get_or a k 0 ≡ capital (get_or b k 0) → ⊥) → same_word a b ≡ false
word_differs [] b k l h = absurd (omega arith)
word_differs (x ∷ xs) [] k l h = refl
word_differs (x ∷ xs) (y ∷ ys) zero l h = rw (ne_eqb x (capital y) h)
word_differs (x ∷ xs) (y ∷ ys) (suc k) l h = rw (word_differs xs ys k (omega arith) h) (and_false (eqb x (capital y)))

pub word_is : (a b : List ℕ) (r : Bool) → length a ≡ length b → Meets a b r → r ≡ same_word a b
word_is a b true e h = sym (word_meets a b e h)
word_is a b false e h = sym (word_differs a b h.0 h.1 h.2)

-- A word and a token of another length.
pub word_long : (a b : List ℕ) → (length a ≡ length b → ⊥) → same_word a b ≡ false
word_long [] [] h = absurd (h refl)
word_long [] (y ∷ ys) h = refl
word_long (x ∷ xs) [] h = refl
word_long (x ∷ xs) (y ∷ ys) h = rw (word_long xs ys (λ e. h (rw e))) (and_false (eqb x (capital y)))

-- ---- the front of a text, by the first place that is not in it

front_by : (p : ℕ → Bool) (s : List ℕ) (i : ℕ) → i ≤ length s → ((k : ℕ) → k < i → p (get_or s k 0) ≡ true) → length (front p s) ≡ i + length (front p (drop i s))
front_by p s zero l h = omega arith
front_by p s (suc i) l h = front_by p s i (omega arith) (λ k m. h k (omega arith)) ∙ rw add-one at (front_more p s i (omega arith) (h i (omega arith)))

-- What a search finds: the first place whose byte p does not take, or none.
abbrev pub FirstOut : (ℕ → Bool) → List ℕ → Option ℕ → Type 0
FirstOut p s r = MatchOption r ((k : ℕ) → k < length s → p (get_or s k 0) ≡ true) (λ i. (i < length s) × (p (get_or s i 0) ≡ false) × ((k : ℕ) → k < i → p (get_or s k 0) ≡ true))

pub front_found : (p : ℕ → Bool) (s : List ℕ) (r : Option ℕ) → FirstOut p s r → (unwrap_or r (length s) ≡ length (front p s)) × (unwrap_or r (length s) ≤ length s)
front_found p s None h = (sym (front_by p s (length s) (omega arith) h ∙ front_end p s (length s) (omega arith)), omega arith)
front_found p s (Some i) h = (sym (front_by p s i (omega arith) h.2 ∙ front_stop p s i h.0 h.1), omega arith)

-- ---- tokens by their bytes

pub bid_is : (c : Conventions) (t : List ℕ) → bid_of c t ≡ bid_code (level_of (get_or t 0 0)) (strain_of c (drop 1 t))
unfolding level_of bid_code
bid_is c [] = refl
bid_is c (l ∷ s) = refl

-- As many of eight underscores as a token has bytes.
pub underscores_are : (t : List ℕ) (n : ℕ) → length t ≤ n → same (take (length t) (replicate n 95)) t ≡ every is_underscore t
underscores_are [] n h = refl
underscores_are (x ∷ xs) zero h = absurd (omega arith)
underscores_are (x ∷ xs) (suc n) h = rw (underscores_are xs n (omega arith))

pub code_is : (b : Bool) (v d : ℕ) → v < d → (unwrap_or (then_some b v) d ≡ cond b v d) × IfSome (then_some b v) (λ k. k < d)
code_is true v d h = (refl, h)
code_is false v d h = (refl, tt)

pub nothing_is : (t : List ℕ) → same [] t ≡ eqb (length t) 0
nothing_is [] = refl
nothing_is (x ∷ xs) = sym (ne_eqb (length (x ∷ xs)) 0 (λ e. omega arith))

pub contract_is : (c : Conventions) (t : List ℕ) → contract_trump c t ≡ cond (eqb (level_of (get_or t 0 0)) 0) 4 (cond (is_doubling (drop 2 t)) (trump_suit (strain_of c (take 1 (drop 1 t)))) 4)
unfolding level_of is_doubling contract_trump
contract_is c [] = refl
contract_is c (l ∷ []) = by_cases (eqb (level_of l) 0) (λ e. rw e) (λ e. rw e)
contract_is c (l ∷ s ∷ d) = refl

pub card_short : (c : Conventions) (t : List ℕ) → length t < 2 → 52 ≡ card_named c t
unfolding card_named
card_short c [] h = refl
card_short c (s ∷ []) h = refl
card_short c (s ∷ r ∷ more) h = absurd (omega arith)

pub card_long : (c : Conventions) (t : List ℕ) → 2 ≤ length t → card_named c t ≡ cond (is_inside (get_or t 1 0)) 52 (card_number (suit_of c (get_or t 0 0)) (rank_of c (first_character (drop 1 t))))
unfolding card_named
card_long c [] h = absurd (omega arith)
card_long c (s ∷ []) h = absurd (omega arith)
card_long c (s ∷ r ∷ more) h = refl

-- ---- what callers ask of equal texts

pub same_self : (a : List ℕ) → same a a ≡ true
same_self [] = refl
same_self (x ∷ xs) = rw (eq-eqb x x refl) (same_self xs)

pub same_is : (a b : List ℕ) → same a b ≡ true → a ≡ b
same_is [] [] e = refl
same_is [] (y ∷ ys) e = clash e
same_is (x ∷ xs) [] e = clash e
same_is (x ∷ xs) (y ∷ ys) e =
    let h = both (eqb x y) (same xs ys) e in
    rw (eqb-true x y h.0, same_is xs ys h.1)
