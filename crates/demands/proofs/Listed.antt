-- Each unsolved deal is listed, once, and no other.
use Prim.Native.Nat.{ℕ, zero, suc, ◌+◌, ◌-◌, ◌*◌, ◌/◌, ◌≤◌, ◌<◌}
use mathlib.Core.Path.{◌≡◌, refl, sym, ◌∙◌, ap}
use mathlib.Core.Bool.{true, false}
use mathlib.Core.List.{List, [], ◌∷◌, ◌++◌}
use native.Mathlib.Omega.{arith}
use lib.Dec.{ltb}
use lib.ListN.{length, get_or, take, drop, replicate, length-append, length-replicate}
use lib.Seq.{drop_at, drop-drop, get_or-take, get_or-drop}
use borrow.Author.Tests.{ltb-true, ltb-false, le-ltb}
use Rattle.planning.proofs.BoardLaws.{boards_count}
use Rattle.std.specs.Prelude.{Result, Ok, Err, is_ok}
use Rattle.tables.specs.declared.letters.Conventions.{Conventions}
use Rattle.tables.proofs.Laws.{by_cases, clash}
use Rattle.reader.specs.declared.deal.Hands.{Hands}
use Rattle.reader.specs.declared.edition.Counts.{Counts}
use Rattle.reader.specs.declared.edition.ReadRefusal.{ReadRefusal}
use Rattle.reader.specs.Store.{flat, padded}
use Rattle.reader.specs.Deals.{ones, card_count, whole_hands}
use Rattle.reader.proofs.DealLaws.{WholeHands}
use Rattle.reader.specs.Editions.{cards_of}
use Rattle.planning.specs.declared.state.BoardState.TheVariants.{Solve}
use Rattle.planning.specs.declared.plan.Totals.{Totals}
use Rattle.planning.specs.Cards.{card_deal, hands_of, is_whole, has_table, fits}
use Rattle.planning.specs.States.{BoardPlan, first_from, board_plans_from, board_plans, state_at, state_number}
use Rattle.planning.specs.Slips.{slip_of, slips_of, totals_of, count_of, card_from, card_at}
use Rattle.planning.specs.Plans.{Boxes, old_reading, new_reading, both_after, editions_of, planned_by, planning_of, plans_of, IsPlanned, Editions}
use Rattle.planning.specs.Demands.{Among, WithDeal, First, slip_here, Holds, Unsolved, OfSolve, ListedOnce, ListedExactlyOnce, PlannedIfTaken, NothingListed, TotalsTold}
use Rattle.planning.proofs.AnswerLaws.{solve_sum}
use Rattle.planning.proofs.FoundLaws.{Tells, zero_none, found_is_first, card_among, take_card}
use Rattle.planning.proofs.CardLaws.{Handed, CardsHanded}
use Rattle.demands.proofs.MeaningLaws.{SaysAt, here_says, state_here_lem, tells_deal}
use Rattle.demands.proofs.StatesMean.{states_mean, board_at, first_solves}
use Rattle.planning.proofs.SlipLaws.{SlipOfBoard, slip_board, board_slip, place_is, in_order, fives_length, fives_here, slips_five, slips_count}
use Rattle.demands.proofs.TotalsAdd.{totals_add_up}

-- ---- a slip and its hands

pub slip_holds : (p : ℕ) (card : List ℕ) → Holds (hands_of card) (slip_of p card)
unfolding slip_of
slip_holds p card = record { north = refl; east = refl; south = refl; west = refl }

same_hands : (g h : Hands) → g.north ≡ h.north → g.east ≡ h.east → g.south ≡ h.south → g.west ≡ h.west → g ≡ h
same_hands g h n e s w = rw (n, e, s, w)

one_hands : (g h : Hands) (slip : List ℕ) → Holds g slip → Holds h slip → g ≡ h
one_hands g h slip a b = same_hands g h (sym a.north ∙ b.north) (sym a.east ∙ b.east) (sym a.south ∙ b.south) (sym a.west ∙ b.west)

take_more : (n i : ℕ) (xs : List (List ℕ)) → i < n → i < length xs → i < length (take n xs)
take_more zero i xs h l = absurd (omega arith)
take_more (suc n) i [] h l = absurd (omega arith)
take_more (suc n) zero (x ∷ xs) h l = omega arith
take_more (suc n) (suc i) (x ∷ xs) h l = let z = take_more n i xs (omega arith) (omega arith) in omega arith

-- Behind words that are followed by zeros.
pub behind_zero : (ws : List ℕ) (n m : ℕ) (back : List ℕ) → length ws ≡ m → back ≡ padded n ws → drop m back ≡ replicate (length back - m) 0
behind_zero ws n m back l q =
    let zs : List ℕ = replicate (n - length ws) 0 in
    let e : length (ws ++ zs) - m ≡ n - length ws = omega (arith, length-append ws zs, length-replicate {A = ℕ} (n - length ws) 0) in
    rw (q, e) (drop_at ws zs m l)

-- Zeros hold no hands of 13 cards.
zero_get : (n i : ℕ) → ◌≡◌ {A = ℕ} (get_or (replicate n 0) i 0) 0
zero_get zero i = refl
zero_get (suc n) zero = refl
zero_get (suc n) (suc i) = zero_get n i

thirteen_not : card_count 0 ≡ 13 → ⊥
unfolding card_count ones
thirteen_not e = omega arith

hands_before : (h : Hands) (k solve : ℕ) (back : List ℕ) → whole_hands h ≡ true → drop (5 * solve) back ≡ replicate (length back - 5 * solve) 0 → Holds h (slip_here k back) → k < solve
hands_before h k solve back w e a =
    by_cases (ltb k solve) (λ t. ltb-true k solve t)
    (λ t.
    let l = ltb-false k solve t in
    let m : 5 * k ≡ 5 * solve + (5 * k - 5 * solve) = omega arith in
    let z : get_or (slip_here k back) 1 0 ≡ 0 =
    get_or-take 5 (drop (5 * k) back) 1 0 (omega arith)
    ∙ ap (λ (i : ℕ). get_or (drop i back) 1 0) m
    ∙ ap (λ (v : List ℕ). get_or v 1 0) (sym (drop-drop (5 * k - 5 * solve) (5 * solve) back))
    ∙ ap (λ (v : List ℕ). get_or (drop (5 * k - 5 * solve) v) 1 0) e
    ∙ get_or-drop (5 * k - 5 * solve) (replicate (length back - 5 * solve) 0) 1 0
    ∙ zero_get (length back - 5 * solve) (5 * k - 5 * solve + 1) in
    let n : h.north ≡ 0 = sym a.north ∙ z in
    absurd (thirteen_not (sym (ap card_count n) ∙ (WholeHands h w).0)))

-- ---- the slips of an edition's boards

module _ (olds news : List (List ℕ)) (so : Handed olds) (sn : Handed news) where
  abbrev slips : List (List ℕ)
  slips = slips_of (board_plans_from olds news 1 [] news)

  abbrev OfOne : ℕ → Type 0
  OfOne k = SlipOfBoard olds news 1 [] news (get_or slips k [])

  board_of_lem : (k : ℕ) → k < length slips → OfOne k
  board_of_lem k h = slip_board olds news 1 [] news k h

  -- What its board says: it is to be solved.
  solve_says : (k : ℕ) (s : OfOne k) → SaysAt olds news s.index Solve
  solve_says k s = (here_says olds news so sn s.index s.below Solve).0 (state_here_lem olds news s.index s.below ∙ s.solves)

  hands_are : (h : Hands) (k : ℕ) (s : OfOne k) → Holds h (get_or slips k []) → hands_of (card_from news s.index) ≡ h
  hands_are h k s a = one_hands (hands_of (card_from news s.index)) h (get_or slips k []) (rw s.is (slip_holds (1 + s.index) (card_from news s.index))) a

  listed_unsolved : (h : Hands) (k : ℕ) → k < length slips → Holds h (get_or slips k []) → Unsolved h olds news
  listed_unsolved h k l a =
      let s = board_of_lem k l in
      let f = solve_says k s in
      let e = hands_are h k s a in
      record {
        some_new = record { card = card_from news s.index; among = card_among news s.index s.below; holds = record { whole = f.0.whole; hands = e } };
        none_old = rw e at f.1;
        none_new = rw e at f.2;
      }

  -- The first board with a deal.
  record FirstDeal (h : Hands) : Type 0 where
    index : ℕ
    is : First (WithDeal h) news (suc index)

  first_deal : (x : List ℕ) → Among x news → is_whole x ≡ true → FirstDeal (hands_of x)
  first_deal x a w = go (first_from (fits false (card_deal x)) 1 news) refl
    where
      tells : Tells (fits false (card_deal x)) (WithDeal (hands_of x)) news
      tells = tells_deal x news (sn x a) sn

      go : (k : ℕ) → first_from (fits false (card_deal x)) 1 news ≡ k → FirstDeal (hands_of x)
      go zero e = absurd (zero_none (fits false (card_deal x)) (WithDeal (hands_of x)) news tells e x a (record { whole = w; hands = refl }))
      go (suc k) e = record { index = k; is = found_is_first (fits false (card_deal x)) (WithDeal (hands_of x)) news tells k e }

  -- A slip of the list holds the hands.
  record SlipWith (h : Hands) : Type 0 where
    slip : ℕ
    below : slip < length slips
    holds : Holds h (get_or slips slip [])

  unsolved_listed : (h : Hands) → Unsolved h olds news → SlipWith h
  unsolved_listed h u =
      let x = u.some_new.card in
      let d = u.some_new.holds in
      let f = rw d.hands at (first_deal x u.some_new.among d.whole) in
      let j = f.index in
      let l : j < length news = omega (arith, f.is.is_there) in
      let e = first_solves olds news so sn h j l f.is.holds u.none_old u.none_new (λ m n w. f.is.none_before (suc m) (omega arith) (omega arith) w) in
      let s = board_slip olds news 1 [] news j l (sym (state_here_lem olds news j l) ∙ e) in
      record { slip = s.index; below = s.below; holds = rw (s.is, ← f.is.holds.hands) (slip_holds (1 + j) (card_from news j)) }

  -- Two slips with the same hands are one.
  apart : (h : Hands) (j k : ℕ) (s : OfOne j) (t : OfOne k) → s.index < t.index → Holds h (get_or slips j []) → Holds h (get_or slips k []) → ⊥
  apart h j k s t l a b =
      let x = card_from news s.index in
      let e : hands_of x ≡ hands_of (card_from news t.index) = hands_are h j s a ∙ sym (hands_are h k t b) in
      let w = (solve_says j s).0.whole in
      let i = take_card t.index s.index news l in
      let f = card_among (take t.index news) s.index (take_more t.index s.index news l s.below) in
      (solve_says k t).3 x (rw i at f) (record { whole = w; hands = e })

  listed_once : (h : Hands) (j k : ℕ) → j < length slips → k < length slips → Holds h (get_or slips j []) → Holds h (get_or slips k []) → j ≡ k
  listed_once h j k lj lk a b =
      let s = board_of_lem j lj in
      let t = board_of_lem k lk in
      by_cases (ltb s.index t.index)
      (λ u. absurd (apart h j k s t (ltb-true s.index t.index u) a b))
      (λ u.
      by_cases (ltb t.index s.index)
      (λ v. absurd (apart h k j t s (ltb-true t.index s.index v) b a))
      (λ v.
      let e : s.index ≡ t.index = omega (arith, ltb-false s.index t.index u, ltb-false t.index s.index v) in
      let q : get_or (get_or slips j []) 0 0 ≡ get_or (get_or slips k []) 0 0 = place_is s ∙ omega arith ∙ sym (place_is t) in
      by_cases (ltb j k)
      (λ m. absurd (omega (arith, in_order olds news 1 [] news j k (ltb-true j k m) lk)))
      (λ m.
      by_cases (ltb k j)
      (λ n. absurd (omega (arith, in_order olds news 1 [] news k j (ltb-true k j n) lj)))
      (λ n. omega (arith, ltb-false j k m, ltb-false k j n)))))

  -- Each solve board has its slip.
  record SlipOn (p : ℕ) : Type 0 where
    slip : ℕ
    below : slip < length slips
    is : get_or slips slip [] ≡ slip_of p (card_at news p)

  solve_slip : (p : ℕ) → state_at (board_plans olds news) p ≡ Solve → SlipOn p
  solve_slip p e =
      let b = board_at olds news p (λ z. let y : ◌≡◌ {A = ℕ} 5 0 = sym (ap state_number e) ∙ z in omega arith) in
      let i = b.index in
      let n : 1 + i ≡ suc i = omega arith in
      let s = board_slip olds news 1 [] news i b.below (sym (state_here_lem olds news i b.below) ∙ rw b.is at e) in
      rw b.is (record { slip = s.index; below = s.below; is = s.is ∙ ap (λ (m : ℕ). slip_of m (card_from news i)) n })

  -- The slips handed back: those of the boards, and zeros.
  pub all_listed : (solve n : ℕ) (back : List ℕ) → solve ≡ count_of 5 (board_plans olds news) → back ≡ padded n (flat (slips_of (board_plans olds news)))
      → ListedOnce (board_plans olds news) olds news solve back
  unfolding board_plans
  all_listed solve n back e q =
      let js = board_plans_from olds news 1 [] news in
      let c : solve ≡ length slips = e ∙ sym (slips_count js) in
      let zs : List ℕ = replicate (n - length (flat slips)) 0 in
      let f = slips_five js in
      let five : length (flat slips) ≡ 5 * solve = fives_length f ∙ omega arith in
      let at : (k : ℕ) → k < solve → slip_here k back ≡ get_or slips k [] =
      λ k l. rw q (fives_here slips zs k f (omega arith)) in
      record {
        exactly = λ h. (
          λ a. listed_unsolved h a.slip (omega (arith, a.below)) (rw (at a.slip a.below) at a.holds),
          λ u.
              let s = unsolved_listed h u in
              let l : s.slip < solve = omega (arith, s.below) in
              record { slip = s.slip; below = l; holds = rw (at s.slip l) s.holds },
        );
        once = λ h j k lj lk a b. listed_once h j k (omega arith) (omega arith) (rw (at j lj) at a) (rw (at k lk) at b);
        of_solve = λ k l.
            let s = board_of_lem k (omega arith) in
            let n : 1 + s.index ≡ suc s.index = omega arith in
            record {
              position = suc s.index;
              from_one = omega arith;
              is_there = omega (arith, s.below);
              is = at k l ∙ s.is ∙ ap (λ (m : ℕ). slip_of m (card_from news s.index)) n;
              state = state_here_lem olds news s.index s.below ∙ s.solves;
            };
        board_order = λ j k l lk. rw (at j (omega arith), at k lk) (in_order olds news 1 [] news j k l (omega arith));
        each_solve = λ p e.
            let s = solve_slip p e in
            let l : s.slip < solve = omega (arith, s.below) in
            record { slip = s.slip; below = l; is = at s.slip l ∙ s.is };
        nowhere_else = λ h k w a. hands_before h k solve back w (behind_zero (flat slips) n (5 * solve) back five q) a;
        rest_zero = behind_zero (flat slips) n (5 * solve) back five q;
      }

-- ---- the plan

-- Planning is not refused: both editions were taken, slips are enough, and the totals are those of the boards.
pub record PlanAnswered (e : Editions) (lent : ℕ) (u t : Totals) : Type 0 where
  pub totals : t ≡ u
  pub enough : u.solve ≤ lent
  pub taken : is_ok e ≡ true

pub plan_listed : (e : Editions) (lent : ℕ) (u t : Totals) → Ok t ≡ planned_by e lent u → PlanAnswered e lent u t
plan_listed (Ok n) lent u t q =
    by_cases (ltb lent u.solve)
    (λ b. let z = rw b at q in let y : ◌≡◌ {A = ℕ} 0 1 = cc in absurd (omega arith))
    (λ b. let z = rw b at q in record { totals = cc; enough = ltb-false lent u.solve b; taken = refl })
plan_listed (Err f) lent u t q = let y : ◌≡◌ {A = ℕ} 0 1 = cc in absurd (omega arith)

pub told : (c : Conventions) (old new : List ℕ) (boxes : Boxes) (slips : List ℕ) (boxes' : Boxes) (slips' : List ℕ) (t : Totals)
    → IsPlanned c old new boxes slips boxes' slips' (Ok t)
    → PlanAnswered (editions_of c old new boxes) (length slips / 5) (totals_of (plans_of c old new)) t
unfolding planning_of
told c old new boxes slips boxes' slips' t p =
    plan_listed (editions_of c old new boxes) (length slips / 5) (totals_of (plans_of c old new)) t p.answer

boards_total : (t : Totals) (js : List BoardPlan) → t ≡ totals_of js → t.boards ≡ length js
unfolding totals_of
boards_total t js e = ap (λ (u : Totals). u.boards) e

pub listed_exactly_once : ListedExactlyOnce
listed_exactly_once c old new boxes slips boxes' slips' t p =
    let q = told c old new boxes slips boxes' slips' t p in
    all_listed (cards_of c old) (cards_of c new) (CardsHanded c old) (CardsHanded c new) t.solve (length slips) slips'
    ((ap (λ (u : Totals). u.solve) q.totals ∙ solve_sum (plans_of c old new))) p.slips_after

pub totals_told : TotalsTold
totals_told c old new boxes slips boxes' slips' t p =
    let q = told c old new boxes slips boxes' slips' t p in (
      boards_total t (plans_of c old new) q.totals ∙ boards_count (cards_of c old) (cards_of c new),
      rw q.totals (totals_add_up (plans_of c old new)),
    )

-- ---- when planning is not refused

both_are : (x y : Result Counts ReadRefusal) (lent : ℕ) (u : Totals) → is_ok x ≡ true → is_ok y ≡ true → u.solve ≤ lent → planned_by (both_after x y) lent u ≡ Ok u
both_are (Ok m) (Ok n) lent u a b h = rw (le-ltb lent u.solve h)
both_are (Ok m) (Err f) lent u a b h = clash b
both_are (Err f) y lent u a b h = clash a

pub planned_if_taken : PlannedIfTaken
unfolding planning_of editions_of
planned_if_taken c old new boxes slips boxes' slips' r p a b h =
    p.answer
    ∙ both_are (old_reading c old boxes) (new_reading c new boxes) (length slips / 5) (totals_of (plans_of c old new)) a b h

at_among : (xs : List (List ℕ)) (p : ℕ) → 1 ≤ p → p ≤ length xs → Among (card_at xs p) xs
at_among xs zero o l = absurd (omega arith)
at_among xs (suc i) o l = card_among xs i (omega arith)

-- A solve board has no table.
pub no_solve : (c : Conventions) (old new slip : List ℕ) → ((x : List ℕ) → Among x (cards_of c new) → is_whole x ≡ true → has_table x ≡ true)
    → OfSolve (plans_of c old new) (cards_of c new) slip → ⊥
no_solve c old new slip all s =
    let f = ((states_mean c old new s.position s.from_one s.is_there Solve).0 s.state).0 in
    clash (sym f.no_table ∙ all (card_at (cards_of c new) s.position) (at_among (cards_of c new) s.position s.from_one s.is_there) f.whole)

pub nothing_listed : NothingListed
nothing_listed c old new boxes slips boxes' slips' t p all =
    let l = listed_exactly_once c old new boxes slips boxes' slips' t p in
    let z : t.solve ≡ 0 =
    by_cases (ltb 0 t.solve)
    (λ b. absurd (no_solve c old new (slip_here 0 slips') all (l.of_solve 0 (ltb-true 0 t.solve b))))
    (λ b. omega (arith, ltb-false 0 t.solve b)) in
    let e : length slips' - 5 * 0 ≡ length slips' = omega arith in
    (z, rw e at (rw z at l.rest_zero))
