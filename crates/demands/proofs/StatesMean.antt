-- The states of the boards of an edition, and their sources.
use Prim.Native.Nat.{ℕ, zero, suc, ◌-◌, ◌≤◌, ◌<◌}
use mathlib.Core.Path.{◌≡◌, refl, sym, ◌∙◌, ap}
use mathlib.Core.Bool.{true}
use mathlib.Core.List.{List}
use native.Mathlib.Omega.{arith}
use lib.Dec.{ltb}
use lib.ListN.{length, take}
use lib.Seq.{length-take-le}
use borrow.Author.Tests.{ltb-true, ltb-false}
use Rattle.tables.proofs.Laws.{by_cases}
use Rattle.reader.specs.declared.deal.Hands.{Hands}
use Rattle.reader.specs.Editions.{cards_of}
use Rattle.planning.specs.declared.state.BoardState.TheVariants.{Own, Near, Twin, Solve}
use Rattle.planning.specs.Cards.{hands_of, has_table, fits}
use Rattle.planning.specs.States.{first_with, board_plans, state_at, state_number}
use Rattle.planning.specs.Slips.{card_from}
use Rattle.planning.specs.Demands.{WithDeal, Tabled, None, FirstMeans, StatesMean, BlankOutside, TwinsOfSolve, NearOfOwn}
use Rattle.planning.proofs.FoundLaws.{Tells, zero_none, none_zero, found_is_first, first_is_found, numbered, card_among, take_card}
use Rattle.planning.proofs.CardLaws.{Handed, CardsHanded}
use Rattle.planning.proofs.StateLaws.{Reaches, state_reach}
use Rattle.writer.proofs.StateFacts.{near_own, twin_solve}
use Rattle.demands.proofs.MeaningLaws.{here_says, state_here_lem, state_none}

pub states_mean : StatesMean
states_mean c old new zero o l s = absurd (omega arith)
states_mean c old new (suc i) o l s =
    let e : suc i - 1 ≡ i = omega arith in
    rw e (here_says (cards_of c old) (cards_of c new) (CardsHanded c old) (CardsHanded c new) i (omega arith) s)

pub blank_outside : BlankOutside
blank_outside c old new = (refl, state_none (cards_of c old) (cards_of c new))

pub first_means : FirstMeans
unfolding first_with
first_means tabled d cards =
    let P : List ℕ → Type 0 = λ x. fits tabled d x ≡ true in
    let tells : Tells (fits tabled d) P cards = λ x a. (λ e. e, λ e. e) in (
      (zero_none (fits tabled d) P cards tells, none_zero (fits tabled d) P cards tells),
      λ k. (found_is_first (fits tabled d) P cards tells k, first_is_found (fits tabled d) P cards tells (suc k)),
    )

-- ---- sources

-- A position with a state other than blank is one of a board.
pub record Board (news : List (List ℕ)) (p : ℕ) : Type 0 where
  pub index : ℕ
  pub is : p ≡ suc index
  pub below : index < length news

pub board_at : (olds news : List (List ℕ)) (p : ℕ) → (state_number (state_at (board_plans olds news) p) ≡ 0 → ⊥) → Board news p
board_at olds news zero n = absurd (n refl)
board_at olds news (suc i) n =
    by_cases (ltb i (length news))
    (λ t. record { index = i; is = refl; below = ltb-true i (length news) t })
    (λ t. absurd (n (ap state_number (state_none olds news (suc i) (omega (arith, ltb-false i (length news) t))))))

module _ (olds news : List (List ℕ)) (so : Handed olds) (sn : Handed news) where
  -- The first board with the deal h, where no board has deal and table, is a solve board.
  pub first_solves : (h : Hands) (j : ℕ) → j < length news → WithDeal h (card_from news j) → None (Tabled h) olds → None (Tabled h) news
      → ((m : ℕ) → m < j → WithDeal h (card_from news m) → ⊥) → state_at (board_plans olds news) (suc j) ≡ Solve
  first_solves h j b d none_old nn nb =
      let e : hands_of (card_from news j) ≡ h = d.hands in
      (here_says olds news so sn j b Solve).1 (
        record { whole = d.whole; no_table = by_cases (has_table (card_from news j)) (λ t. absurd (nn (card_from news j) (card_among news j b) (record { deal = d; table = t }))) (λ t. t) },
        rw e none_old,
        rw e nn,
        rw e before,
      )
    where
      before : None (WithDeal h) (take j news)
      before x a k =
          let n = numbered a in
          let l : n.number < j = omega (arith, n.below, length-take-le j news (omega arith)) in
          let q : card_from news n.number ≡ x = sym (take_card j n.number news l) ∙ n.is in
          nb n.number l (rw q k)

-- A source is a board.
pub reach_here : (olds news : List (List ℕ)) (i : ℕ) → i < length news → Reaches (length olds) (length news) (state_at (board_plans olds news) (suc i))
reach_here olds news i h =
    rw (state_here_lem olds news i h) (state_reach olds news (take i news) (card_from news i) (omega (arith, length-take-le i news (omega arith))))

module _ (olds news : List (List ℕ)) where
  twin_source : (i k : ℕ) → i < length news → state_at (board_plans olds news) (suc i) ≡ Twin k → (1 ≤ k) × (k < suc i) × (state_at (board_plans olds news) k ≡ Solve)
  twin_source i zero b e = absurd (omega (arith, (rw e at (reach_here olds news i b)).0))
  twin_source i (suc j) b e =
      let s = twin_solve olds news i (omega arith) (card_from news i) j (sym (state_here_lem olds news i b) ∙ e) in
      (omega arith, omega (arith, s.0), state_here_lem olds news j (omega (arith, s.0)) ∙ s.1)

  near_source : (i k : ℕ) → i < length news → state_at (board_plans olds news) (suc i) ≡ Near k → state_at (board_plans olds news) k ≡ Own
  near_source i zero b e = absurd (omega (arith, (rw e at (reach_here olds news i b)).0))
  near_source i (suc j) b e =
      let s = near_own olds news (take i news) (card_from news i) j (sym (state_here_lem olds news i b) ∙ e) in
      state_here_lem olds news j s.0 ∙ s.1

pub twins_of_solve : TwinsOfSolve
twins_of_solve c old new p k e =
    let olds = cards_of c old in
    let news = cards_of c new in
    let b = board_at olds news p (λ z. let y : ◌≡◌ {A = ℕ} 4 0 = sym (ap state_number e) ∙ z in omega arith) in
    let t = twin_source olds news b.index k b.below (rw b.is at e) in
    (t.0, omega (arith, t.1, b.is), t.2)

pub near_of_own : NearOfOwn
near_of_own c old new p k e =
    let olds = cards_of c old in
    let news = cards_of c new in
    let b = board_at olds news p (λ z. let y : ◌≡◌ {A = ℕ} 3 0 = sym (ap state_number e) ∙ z in omega arith) in
    near_source olds news b.index k b.below (rw b.is at e)
