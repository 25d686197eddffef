-- Laws of totals, slips and numbers of boards, stored board after board.
use Prim.Native.Nat.{ℕ, suc, ◌+◌, ◌≤◌, ◌<◌}
use mathlib.Core.Path.{◌≡◌, refl, sym, ap, ◌∙◌, subst⁻¹}
use mathlib.Core.Bool.{Bool, true, false, cond}
use mathlib.Core.List.{List, [], ◌∷◌, map}
use native.Mathlib.Omega.{arith}
use lib.Dec.{eqb}
use lib.ListN.{length, take}
use Rattle.reader.specs.Store.{put, put_all}
use Rattle.planning.specs.declared.state.BoardState.{BoardState}
use Rattle.planning.specs.declared.plan.Totals.{Totals}
use Rattle.planning.specs.PlanSteps.{plan_here, tally, counted, no_totals, Within}
use Rattle.planning.specs.States.{BoardPlan, board_plans, is_solve, state_number, state_of}
use Rattle.planning.specs.Slips.{slip_of, slips_of, count_of, totals_of, card_from}
use Rattle.planning.proofs.BoardLaws.{boards_left, left_first, left_step, left_none, boards_count}

-- ---- counts

pub count_few : (k : ℕ) (js : List BoardPlan) → count_of k js ≤ length js
count_few k [] = omega arith
count_few k (j ∷ js) = go (eqb (state_number j.state) k) (count_few k js)
  where
    go : (b : Bool) → count_of k js ≤ length js → cond b (count_of k js + 1) (count_of k js) ≤ suc (length js)
    go true h = omega arith
    go false h = omega arith

-- One board more on one side is one more on the other.
tally_in : (k : ℕ) (s : BoardState) (n m : ℕ) → tally k s n + m ≡ n + cond (eqb (state_number s) k) (m + 1) m
tally_in k s n m = go (eqb (state_number s) k)
  where
    go : (b : Bool) → cond b (n + 1) n + m ≡ n + cond b (m + 1) m
    go true = omega arith
    go false = refl

slip_in : (b : Bool) (slips : List ℕ) (n : ℕ) (x : List ℕ) (xs : List (List ℕ))
    → put_all 5 (cond b (put 5 slips n x) slips) (cond b (n + 1) n) xs ≡ put_all 5 slips n (cond b (x ∷ xs) xs)
slip_in true slips n x xs = refl
slip_in false slips n x xs = refl

-- ---- totals and slips, board after board: the boards left, with what was counted and stored, give what all give

pub record Left (all : List BoardPlan) (slips₀ : List ℕ) (rest : List BoardPlan) (t : Totals) (slips : List ℕ) : Type 0 where
  pub boards_in : t.boards + length rest ≡ length all
  pub blank_in : t.blank + count_of 0 rest ≡ count_of 0 all
  pub own_in : t.own + count_of 1 rest ≡ count_of 1 all
  pub old_in : t.old + count_of 2 rest ≡ count_of 2 all
  pub near_in : t.near + count_of 3 rest ≡ count_of 3 all
  pub twin_in : t.twin + count_of 4 rest ≡ count_of 4 all
  pub solve_in : t.solve + count_of 5 rest ≡ count_of 5 all
  pub slips_in : put_all 5 slips t.solve (slips_of rest) ≡ put_all 5 slips₀ 0 (slips_of all)

left_all : (all : List BoardPlan) (slips : List ℕ) → Left all slips all no_totals slips
left_all all slips =
    record {
      boards_in = omega arith;
      blank_in = omega arith;
      own_in = omega arith;
      old_in = omega arith;
      near_in = omega arith;
      twin_in = omega arith;
      solve_in = omega arith;
      slips_in = refl;
    }

left_less : {all : List BoardPlan} {slips₀ : List ℕ} {j : BoardPlan} {rest : List BoardPlan} {t : Totals} {slips : List ℕ} → Left all slips₀ (j ∷ rest) t slips
    → Left all slips₀ rest (counted t j.state) (cond (is_solve j.state) (put 5 slips t.solve (slip_of j.position j.card)) slips)
unfolding counted
left_less {all} {slips₀} {j} {rest} {t} {slips} l =
    let s = j.state in
    record {
      boards_in = omega (arith, l.boards_in);
      blank_in = tally_in 0 s t.blank (count_of 0 rest) ∙ l.blank_in;
      own_in = tally_in 1 s t.own (count_of 1 rest) ∙ l.own_in;
      old_in = tally_in 2 s t.old (count_of 2 rest) ∙ l.old_in;
      near_in = tally_in 3 s t.near (count_of 3 rest) ∙ l.near_in;
      twin_in = tally_in 4 s t.twin (count_of 4 rest) ∙ l.twin_in;
      solve_in = tally_in 5 s t.solve (count_of 5 rest) ∙ l.solve_in;
      slips_in = slip_in (is_solve s) slips t.solve (slip_of j.position j.card) (slips_of rest) ∙ l.slips_in;
    }

-- Totals with the same seven counts.
totals_are : (t : Totals) {a b c d e f g : ℕ} → t.boards ≡ a → t.blank ≡ b → t.own ≡ c → t.old ≡ d → t.near ≡ e → t.twin ≡ f → t.solve ≡ g
    → t ≡ record { boards = a; blank = b; own = c; old = d; near = e; twin = f; solve = g }
totals_are t ea eb ec ed ee ef eg = rw (← ea, ← eb, ← ec, ← ed, ← ee, ← ef, ← eg)

left_nothing : {all : List BoardPlan} {slips₀ : List ℕ} {t : Totals} {slips : List ℕ} → Left all slips₀ [] t slips → (t ≡ totals_of all) × (slips ≡ put_all 5 slips₀ 0 (slips_of all))
unfolding totals_of
left_nothing {all} {slips₀} {t} {slips} l = (
  totals_are t (omega (arith, l.boards_in)) (omega (arith, l.blank_in)) (omega (arith, l.own_in)) (omega (arith, l.old_in)) (omega (arith, l.near_in)) (omega (arith, l.twin_in)) (omega (arith, l.solve_in)),
  l.slips_in,
)

-- ---- the loop, at index k

pub record Turn (os ns : List (List ℕ)) (slips₀ : List ℕ) (t : Totals) (k : ℕ) (slips : List ℕ) : Type 0 where
  pub inside : k ≤ length ns
  pub left : Left (board_plans os ns) slips₀ (boards_left os ns k) t slips

pub turn_first : (os ns : List (List ℕ)) (slips : List ℕ) → Turn os ns slips no_totals 0 slips
turn_first os ns slips =
    record {
      inside = omega arith;
      left = subst⁻¹ (λ (js : List BoardPlan). Left js slips (boards_left os ns 0) no_totals slips) (left_first os ns) (left_all (boards_left os ns 0) slips);
    }

module _ {os ns : List (List ℕ)} {slips₀ : List ℕ} {t : Totals} {k : ℕ} {slips : List ℕ} (i : Turn os ns slips₀ t k slips) where
  pub turn_next : {s : BoardState} {t' : Totals} {slips' : List ℕ} → k < length ns → s ≡ state_of os ns (take k ns) (card_from ns k)
      → slips' ≡ cond (is_solve s) (put 5 slips t.solve (slip_of (k + 1) (card_from ns k))) slips → t' ≡ counted t s
      → Turn os ns slips₀ t' (k + 1) slips'
  turn_next {s} {t'} {slips'} h es ep et =
      let j = plan_here os ns k in
      let l : Left (board_plans os ns) slips₀ (j ∷ boards_left os ns (k + 1)) t slips = rw (left_step os ns k h) at i.left in
      let m = left_less l in
      let et' : t' ≡ counted t j.state = et ∙ ap (counted t) es in
      let ep' : slips' ≡ cond (is_solve j.state) (put 5 slips t.solve (slip_of (k + 1) (card_from ns k))) slips = ep ∙ ap (λ (x : BoardState). cond (is_solve x) (put 5 slips t.solve (slip_of (k + 1) (card_from ns k))) slips) es in
      let all = board_plans os ns in
      let rest = boards_left os ns (k + 1) in
      record {
        inside = omega arith;
        left = subst⁻¹ (λ (x : Totals). Left all slips₀ rest x slips') et' (subst⁻¹ (λ (y : List ℕ). Left all slips₀ rest (counted t j.state) y) ep' m);
      }

  pub turn_end : length ns ≤ k → (t ≡ totals_of (board_plans os ns)) × (slips ≡ put_all 5 slips₀ 0 (slips_of (board_plans os ns)))
  turn_end h = left_nothing (rw (left_none os ns k h) at i.left)

  -- No count is above the boards.
  pub turn_within : {m : ℕ} → length ns ≤ m → Within m t
  turn_within {m} h =
      let all = board_plans os ns in
      let e : length all ≡ length ns = boards_count os ns in
      let l = i.left in
      record {
        boards = omega (arith, l.boards_in, e);
        blank = omega (arith, l.blank_in, count_few 0 all, e);
        own = omega (arith, l.own_in, count_few 1 all, e);
        old = omega (arith, l.old_in, count_few 2 all, e);
        near = omega (arith, l.near_in, count_few 3 all, e);
        twin = omega (arith, l.twin_in, count_few 4 all, e);
        solve = omega (arith, l.solve_in, count_few 5 all, e);
      }

-- ---- five numbers a board, stored board after board: row gives those of a board

pub record Rows (row : BoardPlan → List ℕ) (os ns : List (List ℕ)) (numbers₀ : List ℕ) (k : ℕ) (numbers : List ℕ) : Type 0 where
  pub inside : k ≤ length ns
  pub numbers_length : length numbers ≡ length numbers₀
  pub rest : put_all 5 numbers k (map row (boards_left os ns k)) ≡ put_all 5 numbers₀ 0 (map row (board_plans os ns))

pub rows_first : (row : BoardPlan → List ℕ) (os ns : List (List ℕ)) (numbers : List ℕ) → Rows row os ns numbers 0 numbers
rows_first row os ns numbers =
    record {
      inside = omega arith;
      numbers_length = refl;
      rest = ap (λ (js : List BoardPlan). put_all 5 numbers 0 (map row js)) (sym (left_first os ns));
    }

module _ {row : BoardPlan → List ℕ} {os ns : List (List ℕ)} {numbers₀ : List ℕ} {k : ℕ} {numbers : List ℕ} (i : Rows row os ns numbers₀ k numbers) where
  pub rows_next : {numbers' five : List ℕ} → k < length ns → five ≡ row (plan_here os ns k)
      → numbers' ≡ put 5 numbers k five → length numbers' ≡ length numbers → Rows row os ns numbers₀ (k + 1) numbers'
  rows_next {numbers'} {five} h ef ep el =
      let rest = map row (boards_left os ns (k + 1)) in
      let e : numbers' ≡ put 5 numbers k (row (plan_here os ns k)) = ep ∙ ap (put 5 numbers k) ef in
      record {
        inside = omega arith;
        numbers_length = el ∙ i.numbers_length;
        rest = ap (λ (l : List ℕ). put_all 5 l (k + 1) rest) e ∙ (rw (left_step os ns k h) at i.rest);
      }

  pub rows_end : length ns ≤ k → numbers ≡ put_all 5 numbers₀ 0 (map row (board_plans os ns))
  rows_end h = rw (left_none os ns k h) at i.rest
