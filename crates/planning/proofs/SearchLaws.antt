-- Laws of the search and of the words that it compares.
use Prim.Native.Nat.{ℕ, ◌+◌, ◌*◌, ◌≤◌, ◌<◌}
use mathlib.Core.Path.{◌≡◌, refl, sym, ap, ◌∙◌}
use mathlib.Core.Bool.{Bool, true, false, cond, ◌&&◌, ◌||◌, not}
use mathlib.Core.List.{List, [], ◌∷◌}
use native.Mathlib.Omega.{arith}
use lib.Dec.{eqb}
use lib.ListN.{length, drop, get_or, length-take, drop_of_length-le}
use Rattle.tables.proofs.Laws.{by_cases, both, clash}
use Rattle.reader.specs.Words.{same}
use Rattle.reader.specs.Deals.{whole_hands, hands_of_words}
use Rattle.reader.proofs.WordLaws.{same_is}
use Rattle.planning.specs.declared.search.Found.{Found}
use Rattle.planning.specs.Cards.{card_deal, hands_of, is_whole, has_table, has_deal, fits}
use Rattle.planning.specs.PlanSteps.{equal_front, may_fit}
use Rattle.planning.specs.States.{first_from, first_with}
use Rattle.planning.specs.Searches.{passed_over, compared_words, compared, search_from, searched}
use Rattle.planning.specs.Demands.{FoundSame, WordsFew}
use Rattle.planning.specs.Slips.{card_from}
use Rattle.planning.proofs.BoardLaws.{cards_left}

-- ---- the words of two deals

-- All words are equal.
front_all : (xs ys : List ℕ) → length xs ≡ length ys → equal_front xs ys ≡ length xs → (same xs ys ≡ true) × (compared_words xs ys ≡ length xs)
front_all [] [] l e = (refl, refl)
front_all [] (y ∷ ys) l e = absurd (omega arith)
front_all (x ∷ xs) [] l e = absurd (omega arith)
front_all (x ∷ xs) (y ∷ ys) l e =
    by_cases (eqb x y)
    (λ q.
    let i = front_all xs ys (omega arith) (omega (arith, rw q at e)) in
    rw (q, i.0, i.1) (refl, omega arith))
    (λ q. let z = rw q at e in absurd (omega arith))

-- Some word differs.
front_less : (xs ys : List ℕ) → length xs ≡ length ys → (equal_front xs ys ≡ length xs → ⊥)
    → (same xs ys ≡ false) × (compared_words xs ys ≡ equal_front xs ys + 1)
front_less [] [] l n = absurd (n refl)
front_less [] (y ∷ ys) l n = absurd (omega arith)
front_less (x ∷ xs) [] l n = absurd (omega arith)
front_less (x ∷ xs) (y ∷ ys) l n =
    by_cases (eqb x y)
    (λ q.
    let i = front_less xs ys (omega arith) (λ z. n (rw q (omega arith))) in
    rw (q, i.0, i.1) (refl, omega arith))
    (λ q. rw q (refl, refl))

-- At most as many words as a card's deal has.
words_few : (xs ys : List ℕ) → compared_words xs ys ≤ length ys
words_few [] ys = omega arith
words_few (x ∷ xs) [] = omega arith
words_few (x ∷ xs) (y ∷ ys) = by_cases (eqb x y) (λ q. rw q (omega (arith, words_few xs ys))) (λ q. rw q (omega arith))

deal_few : (d card : List ℕ) → compared_words d (card_deal card) ≤ 8
unfolding card_deal
deal_few d card = omega (arith, words_few d (card_deal card), length-take 8 (drop 10 card))

-- ---- a board

-- What fits is not passed over, and has the same words.
either : (w s t h : Bool) → ((w && s) && (not t || h)) ≡ cond (not w || (t && not h)) false s
either false s t h = refl
either true true true true = refl
either true true true false = refl
either true true false h = refl
either true false true true = refl
either true false true false = refl
either true false false h = refl

pub fits_is : (tabled : Bool) (d card : List ℕ) → fits tabled d card ≡ cond (passed_over tabled card) false (same d (card_deal card))
unfolding fits has_deal passed_over
fits_is tabled d card = either (is_whole card) (same d (card_deal card)) tabled (has_table card)

-- The want of a table or word 9 decides.
may_not : (tabled : Bool) (card : List ℕ) → may_fit tabled card ≡ false → passed_over tabled card ≡ true
unfolding may_fit passed_over is_whole
may_not tabled card m = go tabled (has_table card) (eqb (get_or card 9 0) 1) (whole_hands (hands_of card)) m
  where
    go : (t h p v : Bool) → ((not t || h) && p) ≡ false → (not (p && v) || (t && not h)) ≡ true
    go t h false v e = refl
    go true false true true e = refl
    go true false true false e = refl
    go true true true v e = clash (sym e)
    go false h true v e = clash (sym e)

-- Else only whether it is whole is open.
may : (tabled : Bool) (card : List ℕ) → may_fit tabled card ≡ true → passed_over tabled card ≡ not (is_whole card)
unfolding may_fit passed_over
may tabled card m = go tabled (has_table card) (is_whole card) (both (not tabled || has_table card) _ m).0
  where
    go : (t h v : Bool) → (not t || h) ≡ true → (not v || (t && not h)) ≡ not v
    go true false v e = clash e
    go true true true e = refl
    go true true false e = refl
    go false h true e = refl
    go false h false e = refl

-- A card whose deal has the words of a whole one is whole.
same_whole : (tabled : Bool) (d card : List ℕ) → may_fit tabled card ≡ true → whole_hands (hands_of_words d) ≡ true → same d (card_deal card) ≡ true → is_whole card ≡ true
unfolding may_fit is_whole
same_whole tabled d card m w e =
    let p : eqb (get_or card 9 0) 1 ≡ true = (both (not tabled || has_table card) _ m).1 in
    let i : whole_hands (hands_of_words (card_deal card)) ≡ true = rw (same_is d (card_deal card) e) at w in
    rw (p, i)

-- What a board gives the search, by the tests that decide it.
module _ (tabled : Bool) (d card : List ℕ) where
  pub tried_over : may_fit tabled card ≡ false → (false ≡ fits tabled d card) × (0 ≡ compared tabled d card)
  unfolding compared
  tried_over m = rw (fits_is tabled d card, may_not tabled card m) (refl, refl)

  module _ (m : may_fit tabled card ≡ true) (ld : length d ≡ 8) (lc : length (card_deal card) ≡ 8) where
    pub tried_found : whole_hands (hands_of_words d) ≡ true → equal_front d (card_deal card) ≡ 8 → (true ≡ fits tabled d card) × (8 ≡ compared tabled d card)
    unfolding compared
    tried_found h e =
        let f = front_all d (card_deal card) (omega arith) (omega arith) in
        rw (fits_is tabled d card, may tabled card m, same_whole tabled d card m h f.0, f.0, f.1, ld) (refl, refl)

    pub tried_left : {v : ℕ} → (equal_front d (card_deal card) ≡ 8 → ⊥) → v ≡ cond (is_whole card) (equal_front d (card_deal card) + 1) 0
        → (false ≡ fits tabled d card) × (v ≡ compared tabled d card)
    unfolding compared
    tried_left n e =
        let f = front_less d (card_deal card) (omega arith) (λ z. n (omega arith)) in
        by_cases (is_whole card)
        (λ w. rw (fits_is tabled d card, e, may tabled card m, w, f.0, f.1) (refl, refl))
        (λ w. rw (fits_is tabled d card, e, may tabled card m, w) (refl, refl))

-- ---- the search, board after board

-- In one step: found, or on to the next board with the words compared on this one.
pub search_step : (tabled : Bool) (d : List ℕ) (k w : ℕ) (x : List ℕ) (xs : List (List ℕ))
    → search_from tabled d k w (x ∷ xs)
    ≡ cond (fits tabled d x) (record { board = k; words = w + compared tabled d x }) (search_from tabled d (k + 1) (w + compared tabled d x) xs)
unfolding compared
search_step tabled d k w x xs =
    let z : w + 0 ≡ w = omega arith in
    by_cases (passed_over tabled x)
    (λ p. rw (fits_is tabled d x, p, z))
    (λ p. rw (fits_is tabled d x, p))

compared_few : (tabled : Bool) (d card : List ℕ) → compared tabled d card ≤ 8
unfolding compared
compared_few tabled d card = by_cases (passed_over tabled card) (λ p. rw p (omega arith)) (λ p. rw p (deal_few d card))

same_from : (tabled : Bool) (d : List ℕ) (k w : ℕ) (cards : List (List ℕ)) → (search_from tabled d k w cards).board ≡ first_from (fits tabled d) k cards
same_from tabled d k w [] = refl
same_from tabled d k w (x ∷ xs) =
    ap (λ (f : Found). f.board) (search_step tabled d k w x xs)
    ∙ by_cases (fits tabled d x)
    (λ f. rw f)
    (λ f. rw f (same_from tabled d (k + 1) (w + compared tabled d x) xs))

pub found_same : FoundSame
unfolding searched first_with
found_same tabled d cards = same_from tabled d 1 0 cards

few_from : (tabled : Bool) (d : List ℕ) (k w : ℕ) (cards : List (List ℕ)) → (search_from tabled d k w cards).words ≤ w + 8 * length cards
few_from tabled d k w [] = omega arith
few_from tabled d k w (x ∷ xs) =
    let f = compared_few tabled d x in
    let i = few_from tabled d (k + 1) (w + compared tabled d x) xs in
    rw (search_step tabled d k w x xs)
    (by_cases (fits tabled d x) (λ s. rw s (omega arith)) (λ s. rw s (omega arith)))

pub few_words : WordsFew
unfolding searched
few_words tabled d cards = omega (arith, few_from tabled d 1 0 cards)

-- ---- the loop, at index k

module _ (tabled : Bool) (d : List ℕ) (cards : List (List ℕ)) where
  -- What is left to search from index k on, w words having been compared.
  abbrev pub search_left : ℕ → ℕ → Found
  search_left k w = search_from tabled d (k + 1) w (drop k cards)

  pub search_first : search_left 0 0 ≡ searched tabled d cards
  unfolding searched
  search_first = refl

  search_next : (k w : ℕ) → k < length cards
      → search_left k w ≡ cond (fits tabled d (card_from cards k)) (record { board = k + 1; words = w + compared tabled d (card_from cards k) }) (search_left (k + 1) (w + compared tabled d (card_from cards k)))
  search_next k w h = rw (cards_left cards k h) (search_step tabled d (k + 1) w (card_from cards k) (drop (k + 1) cards))

  module _ {f : Bool} {v : ℕ} (k w : ℕ) (h : k < length cards) (ef : f ≡ fits tabled d (card_from cards k)) (ev : v ≡ compared tabled d (card_from cards k)) where
    pub search_found : f ≡ true → record { board = k + 1; words = w + v } ≡ search_left k w
    search_found t = rw (ev) (sym (search_next k w h ∙ rw (← ef, t)))

    pub search_past : f ≡ false → search_left (k + 1) (w + v) ≡ search_left k w
    search_past t = rw (ev) (sym (search_next k w h ∙ rw (← ef, t)))

  pub search_stop : (k w : ℕ) → length cards ≤ k → record { board = 0; words = w } ≡ search_left k w
  search_stop k w h = rw (drop_of_length-le cards {i = k} h)
