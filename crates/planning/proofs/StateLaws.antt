-- Laws of a board's state: one for each answer.
use Prim.Native.Nat.{ℕ, ◌+◌, ◌≤◌, ◌<◌}
use mathlib.Core.Path.{◌≡◌}
use mathlib.Core.Bool.{Bool, true, false}
use mathlib.Core.List.{List, [], ◌∷◌}
use native.Mathlib.Omega.{arith}
use lib.Dec.{eqb}
use lib.ListN.{length, get_or}
use borrow.Author.Tests.{eqb-false, ne_eqb}
use Rattle.tables.proofs.Laws.{by_cases, both}
use Rattle.reader.specs.Deals.{whole_hands, hands_of_words}
use Rattle.planning.specs.declared.state.BoardState.{BoardState}
use Rattle.planning.specs.declared.state.BoardState.TheVariants.{Blank, Own, Old, Near, Twin, Solve}
use Rattle.planning.specs.Cards.{card_deal, hands_of, is_whole, has_table, fits}
use Rattle.planning.specs.States.{first_from, first_with, or_else, state_of}

-- The deal of a whole card has 13 cards in each hand.
pub deal_whole : (d card : List ℕ) → is_whole card ≡ true → d ≡ card_deal card → whole_hands (hands_of_words d) ≡ true
unfolding is_whole
deal_whole d card w e = rw e (both (eqb (get_or card 9 0) 1) (whole_hands (hands_of card)) w).1

module _ (olds news earlier : List (List ℕ)) (card : List ℕ) where
  pub state_blank : is_whole card ≡ false → Blank ≡ state_of olds news earlier card
  unfolding state_of
  state_blank w = rw w

  pub state_own : is_whole card ≡ true → has_table card ≡ true → Own ≡ state_of olds news earlier card
  unfolding state_of
  state_own w t = rw (w, t)

  module _ {d : List ℕ} (w : is_whole card ≡ true) (t : has_table card ≡ false) (e : d ≡ card_deal card) where
    pub state_old : {a : ℕ} → a ≡ first_with true d olds → 0 < a → Old a ≡ state_of olds news earlier card
    unfolding state_of
    state_old {a} ea n = rw (w, t, ← e, ← ea, ne_eqb a 0 (λ z. omega arith))

    module _ (za : first_with true d olds ≡ 0) where
      pub state_near : {b : ℕ} → b ≡ first_with true d news → 0 < b → Near b ≡ state_of olds news earlier card
      unfolding state_of
      state_near {b} eb n = rw (w, t, ← e, za, ← eb, ne_eqb b 0 (λ z. omega arith))

      module _ (zb : first_with true d news ≡ 0) where
        pub state_twin : {k : ℕ} → k ≡ first_with false d earlier → 0 < k → Twin k ≡ state_of olds news earlier card
        unfolding state_of
        state_twin {k} ek n = rw (w, t, ← e, za, zb, ← ek, ne_eqb k 0 (λ z. omega arith))

        pub state_solve : first_with false d earlier ≡ 0 → Solve ≡ state_of olds news earlier card
        unfolding state_of
        state_solve zk = rw (w, t, ← e, za, zb, zk)

-- ---- the source board is there

first_below : (test : List ℕ → Bool) (k : ℕ) (xs : List (List ℕ)) → first_from test (k + 1) xs ≤ k + length xs
first_below test k [] = omega arith
first_below test k (x ∷ xs) =
    let i = first_below test (k + 1) xs in
    by_cases (test x) (λ e. rw e (omega arith)) (λ e. rw e (omega arith))

-- A search answers at most with the last board.
pub first_low : (tabled : Bool) (d : List ℕ) (xs : List (List ℕ)) → first_with tabled d xs ≤ length xs
unfolding first_with
first_low tabled d xs = omega (arith, first_below (fits tabled d) 0 xs)

-- The source board, from 1, is one of m old or of n new boards.
abbrev pub Reaches : ℕ → ℕ → BoardState → Type 0
Reaches m n Blank = Unit {0}
Reaches m n Own = Unit {0}
Reaches m n (Old k) = (0 < k) × (k ≤ m)
Reaches m n (Near k) = (0 < k) × (k ≤ n)
Reaches m n (Twin k) = (0 < k) × (k ≤ n)
Reaches m n Solve = Unit {0}

else_reach : (m n : ℕ) (state : ℕ → BoardState) (k : ℕ) (next : BoardState) → (0 < k → Reaches m n (state k)) → Reaches m n next → Reaches m n (or_else state k next)
else_reach m n state k next h i =
    by_cases (eqb k 0)
    (λ e. rw e i)
    (λ e. rw e (h (omega (arith, eqb-false k 0 e))))

pub state_reach : (olds news earlier : List (List ℕ)) (card : List ℕ) → length earlier ≤ length news → Reaches (length olds) (length news) (state_of olds news earlier card)
unfolding state_of
state_reach olds news earlier card h =
    let m = length olds in
    let n = length news in
    let d = card_deal card in
    let a = first_with true d olds in
    let b = first_with true d news in
    let e = first_with false d earlier in
    let e_low : e ≤ n = omega (arith, first_low false d earlier) in
    by_cases (is_whole card)
    (λ w.
    by_cases (has_table card)
    (λ t. rw (w, t) tt)
    (λ t.
    rw (w, t)
    (else_reach m n Old a (or_else Near b (or_else Twin e Solve)) (λ k. (k, first_low true d olds))
    (else_reach m n Near b (or_else Twin e Solve) (λ k. (k, first_low true d news))
    (else_reach m n Twin e Solve (λ k. (k, e_low)) tt)))))
    (λ w. rw w tt)
