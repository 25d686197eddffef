-- Three equal hands of whole deals leave the same cards for the fourth, so that a board is left by the sixth word.
use Prim.Native.Nat.{ℕ, zero, suc, ◌+◌, ◌*◌, ◌/◌, ◌%◌, ◌^◌, ◌≤◌, ◌<◌}
use mathlib.Core.Path.{◌≡◌, refl, sym, ap, ◌∙◌}
use mathlib.Core.Bool.{Bool, true, false, not, ◌&&◌}
use mathlib.Core.List.{List, [], ◌∷◌}
use native.Mathlib.Nat.{pow-zero, pow-succ'}
use native.Mathlib.Omega.{arith}
use lib.Dec.{eqb}
use lib.ListN.{get_or, take}
use borrow.Author.Tests.{eqb-true, not-false}
use Rattle.tables.specs.declared.letters.Conventions.{Conventions}
use Rattle.tables.proofs.Laws.{by_cases, clash, neither}
use Rattle.reader.specs.declared.deal.Hands.{Hands}
use Rattle.reader.specs.Words.{same}
use Rattle.reader.specs.Deals.{bit, ones, whole_hands, hand_words, from_words, Proper}
use Rattle.reader.specs.Editions.{card_of, cards_of}
use Rattle.reader.proofs.CardSets.{count_deck}
use Rattle.reader.proofs.CardKept.{CardKept}
use Rattle.reader.proofs.DealLaws.{WholeHands}
use Rattle.reader.proofs.Fellows.{EveryBoard}
use Rattle.reader.proofs.PlainDeal.{PlainDealKept}
use Rattle.reader.proofs.WordLaws.{same_self}
use Rattle.planning.specs.Cards.{card_deal, hands_of, is_whole, has_table}
use Rattle.planning.specs.Searches.{passed_over, compared_words, compared}
use Rattle.planning.specs.Demands.{Among}
use Rattle.planning.proofs.CardLaws.{CardsHanded}
use Rattle.planning.proofs.FoundLaws.{numbered}
use Rattle.planning.proofs.SearchLaws.{fits_is}
use Rattle.planning.proofs.StateLaws.{deal_whole}
use Rattle.demands.specs.Searches.{LeftBySix}
use Rattle.demands.proofs.Inside.{stands_card}

-- ---- four hands that hold all cards

-- No card is in two of the hands.
abbrev Apart : ℕ → ℕ → ℕ → ℕ → Type 0
Apart n e s w = (i : ℕ) → bit i n + bit i e + bit i s + bit i w ≤ 1

-- Of the first k cards they hold at most k.
at_most : (k n e s w : ℕ) → Apart n e s w → ones k n + ones k e + ones k s + ones k w ≤ k
unfolding ones
at_most zero n e s w a = omega arith
at_most (suc k) n e s w a = omega (arith, a 0, at_most k (n / 2) (e / 2) (s / 2) (w / 2) (λ i. a (suc i)))

-- One has the first card, and the rest is all of the others.
doubled : (n e s w p : ℕ) → n % 2 + e % 2 + s % 2 + w % 2 ≡ 1 → n / 2 + e / 2 + s / 2 + w / 2 + 1 ≡ p → n + e + s + w + 1 ≡ 2 * p
doubled n e s w p b h = omega arith

-- If they hold k, of k cards in all, each card is in one of them: together they are the number with all bits.
all_held : (k n e s w : ℕ) → n < 2 ^ k → e < 2 ^ k → s < 2 ^ k → w < 2 ^ k → Apart n e s w → ones k n + ones k e + ones k s + ones k w ≡ k
    → n + e + s + w + 1 ≡ 2 ^ k
unfolding ones
all_held zero n e s w hn he hs hw a o = rw pow-zero (omega (arith, rw pow-zero at hn, rw pow-zero at he, rw pow-zero at hs, rw pow-zero at hw))
all_held (suc k) n e s w hn he hs hw a o =
    let hn' : n < 2 * 2 ^ k = rw pow-succ' at hn in
    let he' : e < 2 * 2 ^ k = rw pow-succ' at he in
    let hs' : s < 2 * 2 ^ k = rw pow-succ' at hs in
    let hw' : w < 2 * 2 ^ k = rw pow-succ' at hw in
    let b = a 0 in
    let m = at_most k (n / 2) (e / 2) (s / 2) (w / 2) (λ i. a (suc i)) in
    let i = all_held k (n / 2) (e / 2) (s / 2) (w / 2) (omega arith) (omega arith) (omega arith) (omega arith) (λ i. a (suc i)) (omega arith) in
    rw pow-succ' (doubled n e s w (2 ^ k) (omega arith) i)

-- So do the hands of a whole deal, with all 52.
whole_sum : (h : Hands) → Proper h → whole_hands h ≡ true → h.north + h.east + h.south + h.west + 1 ≡ 2 ^ 52
whole_sum h p e =
    let k = WholeHands h e in
    let d = p.deck in
    all_held 52 h.north h.east h.south h.west d.north_low d.east_low d.south_low d.west_low p.apart
    (omega (arith, k.0, k.1, k.2, k.3, count_deck h.north d.north_low, count_deck h.east d.east_low, count_deck h.south d.south_low, count_deck h.west d.west_low))

-- ---- the words of two deals

-- Words that differ among the first n are left by word n.
left_by : (n : ℕ) (xs ys : List ℕ) → (take n xs ≡ take n ys → ⊥) → compared_words xs ys ≤ n
left_by zero xs ys d = absurd (d refl)
left_by (suc n) [] ys d = omega arith
left_by (suc n) (x ∷ xs) [] d = omega arith
left_by (suc n) (x ∷ xs) (y ∷ ys) d =
    by_cases (eqb x y)
    (λ t. rw t (omega (arith, left_by n xs ys (λ e. d (rw (eqb-true x y t, e))))))
    (λ t. rw t (omega arith))

one_at_least : (g h : Hands) → 1 ≤ compared_words (hand_words g) (hand_words h)
unfolding hand_words
one_at_least g h = omega arith

module _ (g h : Hands) (pg : Proper g) (ph : Proper h) (wg : whole_hands g ≡ true) (wh : whole_hands h ≡ true) where
  -- The first six words are those of three hands: once they are equal, the fourth hands are equal, and all words.
  six_all : take 6 (hand_words g) ≡ take 6 (hand_words h) → hand_words g ≡ hand_words h
  unfolding hand_words
  six_all e =
      let n : g.north ≡ h.north = omega (arith, ap (λ (l : List ℕ). from_words (get_or l 0 0) (get_or l 1 0)) e) in
      let o : g.east ≡ h.east = omega (arith, ap (λ (l : List ℕ). from_words (get_or l 2 0) (get_or l 3 0)) e) in
      let s : g.south ≡ h.south = omega (arith, ap (λ (l : List ℕ). from_words (get_or l 4 0) (get_or l 5 0)) e) in
      let w : g.west ≡ h.west = omega (arith, whole_sum g pg wg, whole_sum h ph wh) in
      rw (n, o, s, w)

  six_most : same (hand_words g) (hand_words h) ≡ false → compared_words (hand_words g) (hand_words h) ≤ 6
  six_most d = left_by 6 (hand_words g) (hand_words h) (λ e. clash (sym d ∙ rw (six_all e) (same_self (hand_words h))))

-- ---- boards of editions

-- The hands of every card are those of a deal.
cards_proper : (c : Conventions) (text x : List ℕ) → Among x (cards_of c text) → Proper (hands_of x)
unfolding card_deal
cards_proper c text x i =
    let m = numbered i in
    let b = EveryBoard c text m.number m.below in
    let r = b.text_of in
    let e : x ≡ card_of c b.place b.entries_before r = sym m.is ∙ stands_card b.is.card_is in
    rw (e, (CardKept c b.place b.entries_before r).words_10) (PlainDealKept c r).hands_proper

-- A board that is not passed over is whole.
over_whole : (tabled : Bool) (y : List ℕ) → passed_over tabled y ≡ false → is_whole y ≡ true
unfolding passed_over
over_whole tabled y e = not-false (is_whole y) (neither (not (is_whole y)) (tabled && not (has_table y)) e).0

pub left_by_six : LeftBySix
unfolding compared
left_by_six c text text' x y tabled i j w p f =
    let d : same (card_deal x) (card_deal y) ≡ false = rw p at (sym (fits_is tabled (card_deal x) y) ∙ f) in
    let ex = CardsHanded c text x i in
    let ey = CardsHanded c text' y j in
    let wx = deal_whole (card_deal x) x w refl in
    let wy = deal_whole (card_deal y) y (over_whole tabled y p) refl in
    rw p (
      rw (ex, ey) at (one_at_least (hands_of x) (hands_of y)),
      rw (ex, ey) at (six_most (hands_of x) (hands_of y) (cards_proper c text x i) (cards_proper c text' y j) wx wy (rw (ex, ey) d)),
    )
