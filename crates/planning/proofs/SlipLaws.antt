-- The slips of the boards of an edition.
use Prim.Native.Nat.{ℕ, zero, suc, ◌+◌, ◌*◌, ◌<◌}
use mathlib.Core.Path.{◌≡◌, refl, sym, ◌∙◌, ap}
use mathlib.Core.Bool.{Bool, true, false, cond}
use mathlib.Core.List.{List, [], ◌∷◌, ◌++◌, append-nil, append_assoc}
use native.Mathlib.Omega.{arith}
use lib.ListN.{length, get_or, take, length-append}
use lib.Seq.{append_snoc, take_at, drop-append-add}
use Rattle.tables.proofs.Laws.{by_cases, clash}
use Rattle.reader.specs.Store.{flat}
use Rattle.reader.proofs.StoreLaws.{Blocks, none, one}
use Rattle.planning.specs.declared.state.BoardState.{BoardState}
use Rattle.planning.specs.declared.state.BoardState.TheVariants.{Blank, Own, Old, Near, Twin, Solve}
use Rattle.planning.specs.States.{BoardPlan, state_of, is_solve, board_plans_from}
use Rattle.planning.specs.Slips.{slip_of, slips_of, count_of, card_from}
use Rattle.planning.specs.Demands.{slip_here}

-- ---- blocks of five

pub fives_length : {ss : List (List ℕ)} → Blocks 5 ss → length (flat ss) ≡ 5 * length ss
fives_length none = omega arith
fives_length (one {x} {xs} e f) = length-append x (flat xs) ∙ omega (arith, e, fives_length f)

-- The k-th block, and what stands behind the blocks.
pub fives_here : (ss : List (List ℕ)) (zs : List ℕ) (k : ℕ) → Blocks 5 ss → k < length ss → slip_here k (flat ss ++ zs) ≡ get_or ss k []
fives_here [] zs k _ h = absurd (omega arith)
fives_here (x ∷ xs) zs zero (one e f) h = ap (λ (l : List ℕ). take 5 l) (append_assoc x (flat xs) zs) ∙ take_at x (flat xs ++ zs) 5 e
fives_here (x ∷ xs) zs (suc k) (one e f) h =
    let n : 5 * suc k ≡ length x + 5 * k = omega arith in
    rw (n, append_assoc x (flat xs) zs, drop-append-add x (flat xs ++ zs) (5 * k)) (fives_here xs zs k f (omega arith))

slip_five : (p : ℕ) (card : List ℕ) → length (slip_of p card) ≡ 5
unfolding slip_of
slip_five p card = refl

pub slips_five : (js : List BoardPlan) → Blocks 5 (slips_of js)
slips_five [] = none
slips_five (j ∷ js) = go (is_solve j.state) (slips_five js)
  where
    go : (b : Bool) → Blocks 5 (slips_of js) → Blocks 5 (cond b (slip_of j.position j.card ∷ slips_of js) (slips_of js))
    go true f = one (slip_five j.position j.card) f
    go false f = f

-- As many slips as boards to solve.
pub slips_count : (js : List BoardPlan) → length (slips_of js) ≡ count_of 5 js
slips_count [] = refl
slips_count (j ∷ js) = go (is_solve j.state) (slips_count js)
  where
    go : (b : Bool) → length (slips_of js) ≡ count_of 5 js → length (cond b (slip_of j.position j.card ∷ slips_of js) (slips_of js)) ≡ cond b (count_of 5 js + 1) (count_of 5 js)
    go true h = omega arith
    go false h = h

-- ---- slips and boards

pub solve_is : (s : BoardState) → is_solve s ≡ true → s ≡ Solve
solve_is Blank e = clash e
solve_is Own e = clash e
solve_is (Old k) e = clash e
solve_is (Near k) e = clash e
solve_is (Twin k) e = clash e
solve_is Solve e = refl

-- A slip is that of the board number index, from 0, which is to be solved.
pub record SlipOfBoard (olds news : List (List ℕ)) (p : ℕ) (earlier xs : List (List ℕ)) (slip : List ℕ) : Type 0 where
  pub index : ℕ
  pub below : index < length xs
  pub is : slip ≡ slip_of (p + index) (card_from xs index)
  pub solves : state_of olds news (earlier ++ take index xs) (card_from xs index) ≡ Solve

next_board : {olds news : List (List ℕ)} {p : ℕ} {earlier : List (List ℕ)} {x : List ℕ} {xs : List (List ℕ)} {slip : List ℕ}
    → SlipOfBoard olds news (p + 1) (earlier ++ (x ∷ [])) xs slip → SlipOfBoard olds news p earlier (x ∷ xs) slip
next_board {olds} {news} {p} {earlier} {x} {xs} s =
    record {
      index = suc s.index;
      below = omega (arith, s.below);
      is = let e : p + suc s.index ≡ p + 1 + s.index = omega arith in s.is ∙ ap (λ (n : ℕ). slip_of n (card_from xs s.index)) (sym e);
      solves = rw (append_snoc earlier x (take s.index xs)) at s.solves;
    }

abbrev slips_from : List (List ℕ) → List (List ℕ) → ℕ → List (List ℕ) → List (List ℕ) → List (List ℕ)
slips_from olds news p earlier xs = slips_of (board_plans_from olds news p earlier xs)

pub slip_board : (olds news : List (List ℕ)) (p : ℕ) (earlier xs : List (List ℕ)) (k : ℕ) → k < length (slips_of (board_plans_from olds news p earlier xs))
    → SlipOfBoard olds news p earlier xs (get_or (slips_of (board_plans_from olds news p earlier xs)) k [])
slip_board olds news p earlier [] k h = absurd (omega arith)
slip_board olds news p earlier (x ∷ xs) k h =
    by_cases (is_solve (state_of olds news earlier x))
    (λ t. rw t (first k (rw t at h) (solve_is (state_of olds news earlier x) t) (slip_board olds news (p + 1) (earlier ++ (x ∷ [])) xs)))
    (λ t. rw t (next_board (slip_board olds news (p + 1) (earlier ++ (x ∷ [])) xs k (rw t at h))))
  where
    first : (k : ℕ) → k < suc (length (slips_from olds news (p + 1) (earlier ++ (x ∷ [])) xs)) → state_of olds news earlier x ≡ Solve
        → ((m : ℕ) → m < length (slips_from olds news (p + 1) (earlier ++ (x ∷ [])) xs)
        → SlipOfBoard olds news (p + 1) (earlier ++ (x ∷ [])) xs (get_or (slips_from olds news (p + 1) (earlier ++ (x ∷ [])) xs) m []))
        → SlipOfBoard olds news p earlier (x ∷ xs) (get_or (slip_of p x ∷ slips_from olds news (p + 1) (earlier ++ (x ∷ [])) xs) k [])
    first zero l e f =
        record {
          index = 0;
          below = omega arith;
          is = let n : p ≡ p + 0 = omega arith in ap (λ (n : ℕ). slip_of n x) n;
          solves = rw append-nil e;
        }
    first (suc k) l e f = next_board (f k (omega arith))

-- Each solve board has its slip.
pub record BoardSlip (ss : List (List ℕ)) (slip : List ℕ) : Type 0 where
  pub index : ℕ
  pub below : index < length ss
  pub is : get_or ss index [] ≡ slip

later_slip : (b : Bool) (s : List ℕ) {ss : List (List ℕ)} {slip : List ℕ} → BoardSlip ss slip → BoardSlip (cond b (s ∷ ss) ss) slip
later_slip true s f = record { index = suc f.index; below = omega (arith, f.below); is = f.is }
later_slip false s f = f

pub board_slip : (olds news : List (List ℕ)) (p : ℕ) (earlier xs : List (List ℕ)) (i : ℕ) → i < length xs → state_of olds news (earlier ++ take i xs) (card_from xs i) ≡ Solve
    → BoardSlip (slips_of (board_plans_from olds news p earlier xs)) (slip_of (p + i) (card_from xs i))
board_slip olds news p earlier [] i h e = absurd (omega arith)
board_slip olds news p earlier (x ∷ xs) zero h e =
    let f : state_of olds news earlier x ≡ Solve = rw append-nil at e in
    let t : is_solve (state_of olds news earlier x) ≡ true = ap is_solve f in
    let n : p + 0 ≡ p = omega arith in
    rw (t, n) (record { index = 0; below = omega arith; is = refl })
board_slip olds news p earlier (x ∷ xs) (suc i) h e =
    let n : p + suc i ≡ p + 1 + i = omega arith in
    rw n
    (later_slip (is_solve (state_of olds news earlier x)) (slip_of p x)
    (board_slip olds news (p + 1) (earlier ++ (x ∷ [])) xs i (omega arith) (rw (append_snoc earlier x (take i xs)) e)))

-- ---- board order

slip_position : (p : ℕ) (card : List ℕ) → get_or (slip_of p card) 0 0 ≡ p
unfolding slip_of
slip_position p card = refl

pub place_is : {olds news : List (List ℕ)} {p : ℕ} {earlier xs : List (List ℕ)} {slip : List ℕ} (s : SlipOfBoard olds news p earlier xs slip) → get_or slip 0 0 ≡ p + s.index
place_is {p = p} {xs = xs} s = ap (λ (l : List ℕ). get_or l 0 0) s.is ∙ slip_position (p + s.index) (card_from xs s.index)

pub in_order : (olds news : List (List ℕ)) (p : ℕ) (earlier xs : List (List ℕ)) (j k : ℕ) → j < k → k < length (slips_of (board_plans_from olds news p earlier xs))
    → get_or (get_or (slips_of (board_plans_from olds news p earlier xs)) j []) 0 0 < get_or (get_or (slips_of (board_plans_from olds news p earlier xs)) k []) 0 0
in_order olds news p earlier [] j k l h = absurd (omega arith)
in_order olds news p earlier (x ∷ xs) j k l h =
    by_cases (is_solve (state_of olds news earlier x))
    (λ t. rw t (first j k l (rw t at h) (in_order olds news (p + 1) (earlier ++ (x ∷ [])) xs)))
    (λ t. rw t (in_order olds news (p + 1) (earlier ++ (x ∷ [])) xs j k l (rw t at h)))
  where
    first : (j k : ℕ) → j < k → k < suc (length (slips_from olds news (p + 1) (earlier ++ (x ∷ [])) xs))
        → ((j k : ℕ) → j < k → k < length (slips_from olds news (p + 1) (earlier ++ (x ∷ [])) xs)
        → get_or (get_or (slips_from olds news (p + 1) (earlier ++ (x ∷ [])) xs) j []) 0 0 < get_or (get_or (slips_from olds news (p + 1) (earlier ++ (x ∷ [])) xs) k []) 0 0)
        → get_or (get_or (slip_of p x ∷ slips_from olds news (p + 1) (earlier ++ (x ∷ [])) xs) j []) 0 0 < get_or (get_or (slip_of p x ∷ slips_from olds news (p + 1) (earlier ++ (x ∷ [])) xs) k []) 0 0
    first j zero l h f = absurd (omega arith)
    first zero (suc k) l h f =
        let s = slip_board olds news (p + 1) (earlier ++ (x ∷ [])) xs k (omega arith) in
        omega (arith, slip_position p x, place_is s)
    first (suc j) (suc k) l h f = f j k (omega arith) (omega arith)
