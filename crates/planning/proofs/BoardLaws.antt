-- Laws of the boards of the new edition: one after the other, and at a position.
use Prim.Native.Nat.{ℕ, zero, suc, ◌+◌, ◌≤◌, ◌<◌}
use mathlib.Core.Path.{◌≡◌, refl, sym, ap, ◌∙◌}
use mathlib.Core.List.{List, [], ◌∷◌, ◌++◌}
use mathlib.Core.Option.{none, some}
use native.Mathlib.Omega.{arith}
use lib.ListN.{length, take, drop, get_or-eq_default, drop_of_length-le}
use lib.Seq.{drop-drop, drop-cons, take-suc}
use Rattle.planning.specs.declared.state.BoardState.{BoardState}
use Rattle.planning.specs.declared.state.BoardState.TheVariants.{Blank}
use Rattle.planning.specs.declared.behind.Behind.{Behind}
use Rattle.std.specs.Prelude.{Some, None}
use Rattle.planning.specs.PlanSteps.{plan_here}
use Rattle.planning.specs.States.{BoardPlan, state_of, board_plans_from, board_plans, plan_from, plan_at, state_in, state_at}
use Rattle.planning.specs.Slips.{card_from, card_at, behind_state, behind_in, behind_at}

-- ---- the cards at positions

-- The first k + 1 cards.
cards_more : (xs : List (List ℕ)) (k : ℕ) → k < length xs → take (k + 1) xs ≡ take k xs ++ (card_from xs k ∷ [])
cards_more xs k h =
    let e : k + 1 ≡ suc k = omega arith in
    rw e (take-suc xs k [] h)

-- The card at index k and those behind it.
pub cards_left : (xs : List (List ℕ)) (k : ℕ) → k < length xs → drop k xs ≡ card_from xs k ∷ drop (k + 1) xs
cards_left xs k h =
    let e : k + 1 ≡ suc k = omega arith in
    rw e (drop-cons xs k [] h)

-- The card at a position from 1.
pub card_at_lem : (xs : List (List ℕ)) (p k : ℕ) → p ≡ k + 1 → card_at xs p ≡ card_from xs k
card_at_lem xs zero k e = absurd (omega arith)
card_at_lem xs (suc p) k e =
    let f : p ≡ k = omega arith in
    rw f

-- There is none outside 1 to the cards.
pub card_outside : (xs : List (List ℕ)) (p : ℕ) → (0 < p → length xs < p) → card_at xs p ≡ []
card_outside xs zero h = refl
card_outside xs (suc k) h = get_or-eq_default xs [] (omega (arith, h (omega arith)))

-- ---- board after board

-- The boards from index k on.
abbrev pub boards_left : List (List ℕ) → List (List ℕ) → ℕ → List BoardPlan
boards_left os ns k = board_plans_from os ns (k + 1) (take k ns) (drop k ns)

pub left_first : (os ns : List (List ℕ)) → board_plans os ns ≡ boards_left os ns 0
unfolding board_plans
left_first os ns = refl

pub left_step : (os ns : List (List ℕ)) (k : ℕ) → k < length ns → boards_left os ns k ≡ plan_here os ns k ∷ boards_left os ns (k + 1)
left_step os ns k h = rw (cards_left ns k h, cards_more ns k h)

pub left_none : (os ns : List (List ℕ)) (k : ℕ) → length ns ≤ k → boards_left os ns k ≡ []
left_none os ns k h = rw (drop_of_length-le ns {i = k} h)

pub plans_count : (os ns : List (List ℕ)) (p : ℕ) (e xs : List (List ℕ)) → length (board_plans_from os ns p e xs) ≡ length xs
plans_count os ns p e [] = refl
plans_count os ns p e (x ∷ xs) = rw (plans_count os ns (p + 1) (e ++ (x ∷ [])) xs)

-- As many boards as cards.
pub boards_count : (os ns : List (List ℕ)) → length (board_plans os ns) ≡ length ns
unfolding board_plans
boards_count os ns = plans_count os ns 1 [] ns

pub left_drop : (os ns : List (List ℕ)) (k : ℕ) → k ≤ length ns → drop k (boards_left os ns 0) ≡ boards_left os ns k
left_drop os ns zero h = refl
left_drop os ns (suc k) h =
    let e : k + 1 ≡ suc k = omega arith in
    let l = boards_left os ns 0 in
    let f : drop (k + 1) l ≡ drop 1 (plan_here os ns k ∷ boards_left os ns (k + 1)) = sym (drop-drop 1 k l) ∙ ap (drop 1) (left_drop os ns k (omega arith) ∙ left_step os ns k (omega arith)) in
    rw e at f

-- ---- the board at a position

board_drop : (js : List BoardPlan) (k : ℕ) → plan_from js k ≡ plan_from (drop k js) 0
board_drop [] zero = refl
board_drop [] (suc k) = refl
board_drop (j ∷ js) zero = refl
board_drop (j ∷ js) (suc k) = board_drop js k

pub past_none : (js : List BoardPlan) (k : ℕ) → length js ≤ k → plan_from js k ≡ none
past_none [] k h = refl
past_none (j ∷ js) zero h = absurd (omega arith)
past_none (j ∷ js) (suc k) h = past_none js k (omega arith)

-- There is none outside 1 to the boards.
plan_outside : (js : List BoardPlan) (p : ℕ) → (0 < p → length js < p) → plan_at js p ≡ none
plan_outside js zero h = refl
plan_outside js (suc k) h = past_none js k (omega (arith, h (omega arith)))

module _ (os ns : List (List ℕ)) {p : ℕ} where
  module _ {k : ℕ} (e : (p ≡ k + 1) × (k < length ns)) where
    board_there : plan_at (board_plans os ns) p ≡ some (plan_here os ns k)
    board_there =
        let g : suc k ≡ p = omega (arith, e.0) in
        let x : drop k (board_plans os ns) ≡ plan_here os ns k ∷ boards_left os ns (k + 1) = rw (left_first os ns) (left_drop os ns k (omega (arith, e.1)) ∙ left_step os ns k e.1) in
        sym (ap (plan_at (board_plans os ns)) g) ∙ board_drop (board_plans os ns) k ∙ ap (λ (l : List BoardPlan). plan_from l 0) x

    pub state_is : {s : BoardState} → s ≡ state_of os ns (take k ns) (card_from ns k) → s ≡ state_at (board_plans os ns) p
    state_is f = f ∙ sym (ap state_in board_there)

    pub behind_is : {s : BoardState} {b : Behind} → s ≡ state_of os ns (take k ns) (card_from ns k) → b ≡ behind_state os ns (card_at ns p) s
        → Some b ≡ behind_at os ns (board_plans os ns) p
    behind_is {s} f i =
        ap Some (i ∙ ap (λ (z : List ℕ). behind_state os ns z s) (card_at_lem ns p k e.0) ∙ ap (behind_state os ns (card_from ns k)) f) ∙ sym (ap (behind_in os ns) board_there)

  module _ (h : 0 < p → length ns < p) where
    board_outside : plan_at (board_plans os ns) p ≡ none
    board_outside = plan_outside (board_plans os ns) p (λ l. rw (boards_count os ns) (h l))

    pub state_outside : Blank ≡ state_at (board_plans os ns) p
    state_outside = sym (ap state_in board_outside)

    pub behind_outside : None ≡ behind_at os ns (board_plans os ns) p
    behind_outside = sym (ap (behind_in os ns) board_outside)
