-- Laws of a card's words.
use Prim.Native.Nat.{ℕ, ◌+◌, ◌*◌, ◌≤◌, ◌<◌}
use mathlib.Core.Path.{◌≡◌, refl, ◌∙◌}
use mathlib.Core.Bool.{Bool}
use mathlib.Core.List.{List, [], ◌∷◌}
use native.Mathlib.Omega.{arith}
use lib.Dec.{eqb}
use lib.ListN.{length, take, drop, get_or, length-drop}
use lib.Seq.{get_or-take, get_or-drop, length-take-le}
use Rattle.std.specs.List.{prefix_len, zip}
use Rattle.std.proofs.lemmas.List.Folds.{length-prefix_len}
use Rattle.tables.proofs.Laws.{by_cases}
use Rattle.planning.specs.Cards.{card_deal, card_here}
use Rattle.planning.specs.PlanSteps.{equal_front}

pub word_here : (k w : ℕ) (box : List ℕ) → w < 64 → get_or (card_here k box) w 0 ≡ get_or box (64 * k + w) 0
word_here k w box h = get_or-take 64 (drop (64 * k) box) w 0 h ∙ get_or-drop (64 * k) box w 0

pub here_length : (k : ℕ) (box : List ℕ) → 64 * k + 64 ≤ length box → length (card_here k box) ≡ 64
here_length k box h = length-take-le 64 (drop (64 * k) box) (rw length-drop (omega arith))

pub deal_length : (card : List ℕ) → length card ≡ 64 → length (card_deal card) ≡ 8
unfolding card_deal
deal_length card h = length-take-le 8 (drop 10 card) (rw length-drop (omega arith))

-- How many words of two lists are equal from the front, by pairs.
abbrev pub same_pair : ℕ × ℕ → Bool
same_pair p = eqb p.0 p.1

front_pairs : (xs ys : List ℕ) → prefix_len same_pair (zip xs ys) ≡ equal_front xs ys
front_pairs [] ys = refl
front_pairs (x ∷ xs) [] = refl
front_pairs (x ∷ xs) (y ∷ ys) = by_cases (eqb x y) (λ e. rw e (omega (arith, front_pairs xs ys))) (λ e. rw e)

front_few : (xs ys : List ℕ) → equal_front xs ys ≤ length xs
front_few [] ys = omega arith
front_few (x ∷ xs) [] = omega arith
front_few (x ∷ xs) (y ∷ ys) = by_cases (eqb x y) (λ e. rw e (omega (arith, front_few xs ys))) (λ e. rw e (omega arith))

pub pairs_counted : (xs ys : List ℕ) {n : ℕ} → n ≡ length (take (prefix_len same_pair (zip xs ys)) (zip xs ys)) → (n ≡ equal_front xs ys) × (n ≤ length xs)
pairs_counted xs ys e =
    let h = e ∙ length-prefix_len same_pair (zip xs ys) ∙ front_pairs xs ys in
    (h, rw h (front_few xs ys))
