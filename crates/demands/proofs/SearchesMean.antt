-- The words that a search compares, and which searches are made.
use Prim.Native.Nat.{ℕ, zero, suc, ◌+◌, ◌-◌, ◌<◌}
use mathlib.Core.Path.{◌≡◌, refl, sym, ◌∙◌}
use mathlib.Core.Logic.{◌↔◌}
use mathlib.Core.Bool.{Bool, true, false}
use mathlib.Core.List.{List, [], ◌∷◌}
use native.Mathlib.Omega.{arith}
use lib.Dec.{eqb}
use lib.ListN.{length, take}
use Rattle.tables.proofs.Laws.{by_cases, clash, both}
use Rattle.reader.specs.Words.{same}
use Rattle.reader.specs.Editions.{cards_of}
use Rattle.planning.specs.declared.state.BoardState.{BoardState}
use Rattle.planning.specs.declared.state.BoardState.TheVariants.{Blank, Own, Old, Near, Twin, Solve}
use Rattle.planning.specs.Cards.{card_deal, hands_of, fits}
use Rattle.planning.specs.States.{first_from, first_with, state_at}
use Rattle.planning.specs.Searches.{passed_over, compared_words, compared, search_from, searched, old_sought, near_sought, twin_sought}
use Rattle.planning.specs.Slips.{card_at}
use Rattle.planning.specs.Plans.{plans_of}
use Rattle.planning.specs.Demands.{Tabled, None, First, Bare, StateIs, up_to, compared_on, WordsCompared, FoundEight, SearchesMade, SearchesMadeAt}
use Rattle.planning.proofs.FoundLaws.{card_among}
use Rattle.planning.proofs.SearchLaws.{fits_is, search_step}
use Rattle.demands.proofs.StatesMean.{states_mean}

-- ---- the words compared

-- Numbered from one more, the card found has one more; none stays none.
abbrev one_more : ℕ → ℕ
one_more zero = 0
one_more (suc k) = suc (suc k)

one_more_lem : (k : ℕ) → 0 < k → k + 1 ≡ one_more k
one_more_lem zero h = absurd (omega arith)
one_more_lem (suc k) h = omega arith

first_more : (test : List ℕ → Bool) (k : ℕ) → 0 < k → (xs : List (List ℕ)) → first_from test (k + 1) xs ≡ one_more (first_from test k xs)
first_more test k h [] = refl
first_more test k h (x ∷ xs) = by_cases (test x) (λ t. rw t (one_more_lem k h)) (λ t. rw t (first_more test (k + 1) (omega arith) xs))

-- The cards up to the one found, if the first does not pass.
up_to_more : (k : ℕ) (x : List ℕ) (xs : List (List ℕ)) → up_to (one_more k) (x ∷ xs) ≡ x ∷ up_to k xs
up_to_more zero x xs = refl
up_to_more (suc k) x xs = refl

module _ (tabled : Bool) (d : List ℕ) where
  -- The words compared up to the card found.
  abbrev words_up_to : List (List ℕ) → ℕ
  words_up_to xs = compared_on tabled d (up_to (first_from (fits tabled d) 1 xs) xs)

  words_more : (x : List ℕ) (xs : List (List ℕ)) → fits tabled d x ≡ false → words_up_to (x ∷ xs) ≡ compared tabled d x + words_up_to xs
  words_more x xs t = rw (t, first_more (fits tabled d) 1 (omega arith) xs, up_to_more (first_from (fits tabled d) 1 xs) x xs)

  words_from : (k w : ℕ) (xs : List (List ℕ)) → (search_from tabled d k w xs).words ≡ w + words_up_to xs
  words_from k w [] = omega arith
  words_from k w (x ∷ xs) =
      let c = compared tabled d x in
      rw (search_step tabled d k w x xs)
      (by_cases (fits tabled d x)
      (λ t. rw t (omega arith))
      (λ t. let m = rw t at (words_more x xs t) in rw t (words_from (k + 1) (w + c) xs ∙ omega arith)))

pub words_compared : WordsCompared
unfolding searched first_with
words_compared tabled d cards = words_from tabled d 1 0 cards ∙ omega arith

same_words : (xs ys : List ℕ) → same xs ys ≡ true → compared_words xs ys ≡ length xs
same_words [] ys e = refl
same_words (x ∷ xs) [] e = clash e
same_words (x ∷ xs) (y ∷ ys) e =
    let b = both (eqb x y) (same xs ys) e in
    rw (b.0, same_words xs ys b.1) (omega arith)

pub found_eight : FoundEight
unfolding compared
found_eight tabled d card l e =
    let f = sym (fits_is tabled d card) ∙ e in
    by_cases (passed_over tabled card)
    (λ p. clash (rw p at f))
    (λ p. rw p (same_words d (card_deal card) (rw p at f) ∙ l))

-- ---- the searches made

first_not_none : (P : List ℕ → Type 0) (cards : List (List ℕ)) (k : ℕ) → First P cards k → None P cards → ⊥
first_not_none P cards zero f n = omega (arith, f.from_one)
first_not_none P cards (suc k) f n = n (card_at cards (suc k)) (card_among cards k (omega (arith, f.is_there))) f.holds

-- Both sides hold, or neither.
yes : {b : Bool} {A : Type 0} → b ≡ true → A → (b ≡ true) ↔ A
yes e a = (λ g. a, λ g. e)

no : {b : Bool} {A : Type 0} → b ≡ false → (A → ⊥) → (b ≡ true) ↔ A
no e f = (λ g. clash (sym e ∙ g), λ a. absurd (f a))

module _ (olds news : List (List ℕ)) (card : List ℕ) where
  none_made : (s : BoardState) → old_sought s ≡ false → near_sought s ≡ false → twin_sought s ≡ false → (Bare card → ⊥) → SearchesMade olds news card s
  none_made s o n t f = record { old = no o f; near = no n (λ p. f p.0); twin = no t (λ p. f p.0) }

  all_made : (s : BoardState) → old_sought s ≡ true → near_sought s ≡ true → twin_sought s ≡ true
      → Bare card → None (Tabled (hands_of card)) olds → None (Tabled (hands_of card)) news → SearchesMade olds news card s
  all_made s o n t b no_old no_new = record { old = yes o b; near = yes n (b, no_old); twin = yes t (b, no_old, no_new) }

  searches_made : (earlier : List (List ℕ)) (s : BoardState) → StateIs olds news earlier card s → SearchesMade olds news card s
  searches_made earlier Blank e = none_made Blank refl refl refl (λ b. clash (sym e ∙ b.whole))
  searches_made earlier Own e = none_made Own refl refl refl (λ b. clash (sym b.no_table ∙ e.1))
  searches_made earlier (Old k) e =
      let f = first_not_none (Tabled (hands_of card)) olds k e.1 in
      record { old = yes refl e.0; near = no refl (λ p. f p.1); twin = no refl (λ p. f p.1) }
  searches_made earlier (Near k) e =
      let f = first_not_none (Tabled (hands_of card)) news k e.2 in
      record { old = yes refl e.0; near = yes refl (e.0, e.1); twin = no refl (λ p. f p.2) }
  searches_made earlier (Twin k) e = all_made (Twin k) refl refl refl e.0 e.1 e.2
  searches_made earlier Solve e = all_made Solve refl refl refl e.0 e.1 e.2

pub searches_made_at : SearchesMadeAt
searches_made_at c old new p o l =
    let news = cards_of c new in
    let s = state_at (plans_of c old new) p in
    searches_made (cards_of c old) news (card_at news p) (take (p - 1) news) s ((states_mean c old new p o l s).0 refl)
