-- The slip of a solve board is the one of its index, and the answers for it are the 20 bytes of that index.
use Prim.Native.Nat.{ℕ, zero, suc, ◌+◌, ◌-◌, ◌*◌, ◌/◌, ◌<◌}
use mathlib.Core.Path.{◌≡◌, ◌∙◌, ap}
use mathlib.Core.Bool.{Bool, true, false, cond}
use mathlib.Core.List.{List, [], ◌∷◌, ◌++◌}
use native.Mathlib.Omega.{arith}
use lib.ListN.{length, get_or, take, drop, replicate}
use borrow.Author.Tests.{lt-ltb}
use Rattle.reader.specs.Store.{flat, padded}
use Rattle.planning.specs.declared.state.BoardState.TheVariants.{Solve}
use Rattle.planning.specs.Cards.{hands_of}
use Rattle.planning.specs.States.{BoardPlan, is_solve, state_of, board_plans_from, board_plans, plan_from, state_in, state_at}
use Rattle.planning.specs.Slips.{slip_of, slips_of, count_of, card_from}
use Rattle.planning.specs.Demands.{slip_here}
use Rattle.planning.proofs.SlipLaws.{fives_here, slips_five, slips_count}
use Rattle.writer.specs.Given.{slip_index, answer_at}
use Rattle.demands.specs.Demand3.{AnswersOf}
use Rattle.demands.proofs.Listed.{slip_holds}

-- ---- the slip of a board

-- As many slips stand before it as solve boards before its board.
record SlipAt (js : List BoardPlan) (i : ℕ) (slip : List ℕ) : Type 0 where
  below : count_of 5 (take i js) < count_of 5 js
  is : get_or (slips_of js) (count_of 5 (take i js)) [] ≡ slip

slip_more : (b : Bool) (js ks : List BoardPlan) (s slip : List ℕ) → count_of 5 ks < count_of 5 js → get_or (slips_of js) (count_of 5 ks) [] ≡ slip
    → (cond b (count_of 5 ks + 1) (count_of 5 ks) < cond b (count_of 5 js + 1) (count_of 5 js))
    × (get_or (cond b (s ∷ slips_of js) (slips_of js)) (cond b (count_of 5 ks + 1) (count_of 5 ks)) [] ≡ slip)
slip_more true js ks s slip l e = let n : count_of 5 ks + 1 ≡ suc (count_of 5 ks) = omega arith in (omega arith, rw n e)
slip_more false js ks s slip l e = (l, e)

slip_at : (olds news : List (List ℕ)) (p : ℕ) (earlier xs : List (List ℕ)) (i : ℕ) → i < length xs
    → state_in (plan_from (board_plans_from olds news p earlier xs) i) ≡ Solve
    → SlipAt (board_plans_from olds news p earlier xs) i (slip_of (p + i) (card_from xs i))
slip_at olds news p earlier [] i h e = absurd (omega arith)
slip_at olds news p earlier (x ∷ xs) zero h e =
    let t : is_solve (state_of olds news earlier x) ≡ true = ap is_solve e in
    let n : p + 0 ≡ p = omega arith in
    record { below = rw t (omega arith); is = rw (t, n) }
slip_at olds news p earlier (x ∷ xs) (suc i) h e =
    let n : p + suc i ≡ p + 1 + i = omega arith in
    let js = board_plans_from olds news (p + 1) (earlier ++ (x ∷ [])) xs in
    let s = slip_at olds news (p + 1) (earlier ++ (x ∷ [])) xs i (omega arith) e in
    let slip = slip_of (p + 1 + i) (card_from xs i) in
    let m = slip_more (is_solve (state_of olds news earlier x)) js (take i js) (slip_of p x) slip s.below s.is in
    rw n (record { below = m.0; is = m.1 })

-- ---- the answers for it

answer_here : (answers : List ℕ) (solve i : ℕ) → length answers ≡ 20 * solve → i < solve
    → answer_at answers i ≡ take 20 (drop (20 * i) answers)
unfolding answer_at
answer_here answers solve i e l = rw (lt-ltb i (length answers / 20) (omega arith))

module _ (olds news : List (List ℕ)) (answers slips : List ℕ) (n : ℕ) (twenty : length answers ≡ 20 * count_of 5 (board_plans olds news))
    (are : slips ≡ padded n (flat (slips_of (board_plans olds news)))) where
  -- Of the slips handed back, one holds the hands of a solve board, and the answers for its board are those for that slip.
  pub slip_answers : (i : ℕ) → i < length news → state_at (board_plans olds news) (suc i) ≡ Solve
      → AnswersOf (hands_of (card_from news i)) (count_of 5 (board_plans olds news)) slips answers
      (answer_at answers (slip_index (board_plans olds news) (suc i)))
  unfolding board_plans
  slip_answers i h e =
      let js = board_plans_from olds news 1 [] news in
      let s = slip_at olds news 1 [] news i h e in
      let k = count_of 5 (take i js) in
      let m : suc i - 1 ≡ i = omega arith in
      let zs : List ℕ = replicate (n - length (flat (slips_of js))) 0 in
      let at : slip_here k slips ≡ slip_of (1 + i) (card_from news i) =
      rw are (fives_here (slips_of js) zs k (slips_five js) (omega (arith, slips_count js, s.below))) ∙ s.is in
      rw m
      (record {
        slip = k;
        below = s.below;
        holds = rw at (slip_holds (1 + i) (card_from news i));
        answered = answer_here answers (count_of 5 js) k twenty s.below;
      })
