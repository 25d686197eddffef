-- The state of a board is what its words say.
use Prim.Native.Nat.{ℕ, zero, suc, ◌+◌, ◌<◌}
use mathlib.Core.Path.{◌≡◌, refl, sym, ◌∙◌, ap}
use mathlib.Core.Logic.{◌↔◌}
use mathlib.Core.Bool.{Bool, true, false, cond}
use mathlib.Core.List.{List, [], ◌∷◌, ◌++◌, map, append-nil}
use mathlib.Core.Option.{some}
use native.Mathlib.Omega.{arith}
use lib.Dec.{eqb}
use lib.ListN.{length, get_or, take}
use lib.Seq.{append_snoc}
use borrow.Author.Tests.{ne_eqb}
use Rattle.tables.proofs.Laws.{both}
use Rattle.reader.specs.Words.{same}
use Rattle.reader.specs.Deals.{hands_of_words}
use Rattle.reader.proofs.WordLaws.{same_is, same_self}
use Rattle.planning.specs.declared.state.BoardState.{BoardState}
use Rattle.planning.specs.declared.state.BoardState.TheVariants.{Blank, Own, Old, Near, Twin, Solve}
use Rattle.planning.specs.Cards.{card_deal, hands_of, is_whole, has_table, has_deal, fits}
use Rattle.planning.specs.States.{BoardPlan, first_from, first_with, or_else, state_of, board_plans_from, board_plans, plan_from, state_in, state_at}
use Rattle.planning.specs.Slips.{card_from}
use Rattle.planning.specs.Demands.{WithDeal, Tabled, StateIs}
use Rattle.planning.proofs.BoardLaws.{plans_count, past_none}
use Rattle.planning.proofs.FoundLaws.{Tells, zero_none, none_zero, found_is_first, first_is_found, among_take, card_among}
use Rattle.planning.proofs.CardLaws.{OfHands, Handed, hands_words}

-- ---- the tests say what their names say

-- A card y has the deal of the card x.
deal_has : (x y : List ℕ) → has_deal (card_deal x) y ≡ true → WithDeal (hands_of x) y
unfolding has_deal
deal_has x y e =
    let h = both (is_whole y) (same (card_deal x) (card_deal y)) e in
    record { whole = h.0; hands = ap hands_of_words (sym (same_is (card_deal x) (card_deal y) h.1)) }

has_deal_lem : (x y : List ℕ) → OfHands x → OfHands y → WithDeal (hands_of x) y → has_deal (card_deal x) y ≡ true
unfolding has_deal
has_deal_lem x y g h d = rw (d.whole, hands_words x y g h (sym d.hands), same_self (card_deal y))

pub tells_deal : (x : List ℕ) (xs : List (List ℕ)) → OfHands x → Handed xs → Tells (fits false (card_deal x)) (WithDeal (hands_of x)) xs
unfolding fits
tells_deal x xs g s y a = (
  λ e. deal_has x y (both (has_deal (card_deal x) y) true e).0,
  λ d. rw (has_deal_lem x y g (s y a) d),
)

tells_table : (x : List ℕ) (xs : List (List ℕ)) → OfHands x → Handed xs → Tells (fits true (card_deal x)) (Tabled (hands_of x)) xs
unfolding fits
tells_table x xs g s y a = (
  λ e. let h = both (has_deal (card_deal x) y) (has_table y) e in record { deal = deal_has x y h.0; table = h.1 },
  λ d. rw (has_deal_lem x y g (s y a) d.deal, d.table),
)

-- ---- the state of a board

suc_not : (k : ℕ) → eqb (suc k) 0 ≡ false
suc_not k = ne_eqb (suc k) 0 (λ e. omega arith)

module _ (olds news earlier : List (List ℕ)) (x : List ℕ) (g : OfHands x) (so : Handed olds) (sn : Handed news) (se : Handed earlier) where
  old_tells : Tells (fits true (card_deal x)) (Tabled (hands_of x)) olds
  old_tells = tells_table x olds g so

  new_tells : Tells (fits true (card_deal x)) (Tabled (hands_of x)) news
  new_tells = tells_table x news g sn

  twin_tells : Tells (fits false (card_deal x)) (WithDeal (hands_of x)) earlier
  twin_tells = tells_deal x earlier g se

  pub state_says : StateIs olds news earlier x (state_of olds news earlier x)
  unfolding state_of first_with
  state_says =
      go (is_whole x) (has_table x) (first_from (fits true (card_deal x)) 1 olds) (first_from (fits true (card_deal x)) 1 news) (first_from (fits false (card_deal x)) 1 earlier) refl refl refl refl refl
    where
      go : (w t : Bool) (k m n : ℕ) → is_whole x ≡ w → has_table x ≡ t → first_from (fits true (card_deal x)) 1 olds ≡ k → first_from (fits true (card_deal x)) 1 news ≡ m
          → first_from (fits false (card_deal x)) 1 earlier ≡ n
          → StateIs olds news earlier x (cond w (cond t Own (or_else Old k (or_else Near m (or_else Twin n Solve)))) Blank)
      go false t k m n ew et ek em en = ew
      go true true k m n ew et ek em en = (ew, et)
      go true false (suc k) m n ew et ek em en = rw (suc_not k) (record { whole = ew; no_table = et }, found_is_first _ _ olds old_tells k ek)
      go true false zero (suc m) n ew et ek em en =
          rw (suc_not m) (record { whole = ew; no_table = et }, zero_none _ _ olds old_tells ek, found_is_first _ _ news new_tells m em)
      go true false zero zero (suc n) ew et ek em en =
          rw (suc_not n) (record { whole = ew; no_table = et }, zero_none _ _ olds old_tells ek, zero_none _ _ news new_tells em, found_is_first _ _ earlier twin_tells n en)
      go true false zero zero zero ew et ek em en =
          (record { whole = ew; no_table = et }, zero_none _ _ olds old_tells ek, zero_none _ _ news new_tells em, zero_none _ _ earlier twin_tells en)

  pub says_state : (s : BoardState) → StateIs olds news earlier x s → state_of olds news earlier x ≡ s
  unfolding state_of first_with
  says_state Blank e = rw e
  says_state Own e = rw (e.0, e.1)
  says_state (Old zero) e = absurd (omega (arith, e.1.from_one))
  says_state (Old (suc k)) e = rw (e.0.whole, e.0.no_table, first_is_found _ _ olds old_tells (suc k) e.1, suc_not k)
  says_state (Near zero) e = absurd (omega (arith, e.2.from_one))
  says_state (Near (suc k)) e = rw (e.0.whole, e.0.no_table, none_zero _ _ olds old_tells e.1, first_is_found _ _ news new_tells (suc k) e.2, suc_not k)
  says_state (Twin zero) e = absurd (omega (arith, e.3.from_one))
  says_state (Twin (suc k)) e =
      rw (e.0.whole, e.0.no_table, none_zero _ _ olds old_tells e.1, none_zero _ _ news new_tells e.2, first_is_found _ _ earlier twin_tells (suc k) e.3, suc_not k)
  says_state Solve e =
      rw (e.0.whole, e.0.no_table, none_zero _ _ olds old_tells e.1, none_zero _ _ news new_tells e.2, none_zero _ _ earlier twin_tells e.3)

-- ---- the boards of an edition

-- The board number i, from 0.
abbrev pub plan_of : List (List ℕ) → List (List ℕ) → ℕ → List (List ℕ) → List (List ℕ) → ℕ → BoardPlan
plan_of olds news p earlier xs i = record { position = p + i; card = card_from xs i; state = state_of olds news (earlier ++ take i xs) (card_from xs i) }

from_plan : (olds news : List (List ℕ)) (p : ℕ) (earlier xs : List (List ℕ)) (i : ℕ) → i < length xs
    → plan_from (board_plans_from olds news p earlier xs) i ≡ some (plan_of olds news p earlier xs i)
from_plan olds news p earlier [] i h = absurd (omega arith)
from_plan olds news p earlier (x ∷ xs) zero h = let n : p + 0 ≡ p = omega arith in rw (n, append-nil)
from_plan olds news p earlier (x ∷ xs) (suc i) h =
    let n : p + suc i ≡ p + 1 + i = omega arith in
    rw (n, ← append_snoc earlier x (take i xs)) (from_plan olds news (p + 1) (earlier ++ (x ∷ [])) xs i (omega arith))

pub plan_here_lem : (olds news : List (List ℕ)) (i : ℕ) → i < length news → plan_from (board_plans olds news) i ≡ some (plan_of olds news 1 [] news i)
unfolding board_plans
plan_here_lem olds news i h = from_plan olds news 1 [] news i h

pub state_here_lem : (olds news : List (List ℕ)) (i : ℕ) → i < length news → state_at (board_plans olds news) (suc i) ≡ state_of olds news (take i news) (card_from news i)
state_here_lem olds news i h = ap state_in (plan_here_lem olds news i h)

-- What a function gives for each board, at the board number i.
pub mapped_at : {B : Type 0} (f : BoardPlan → B) (js : List BoardPlan) (i : ℕ) (d : B) {j : BoardPlan} → plan_from js i ≡ some j → get_or (map f js) i d ≡ f j
mapped_at f [] i d e = let z : ◌≡◌ {A = ℕ} 0 1 = cc in absurd (omega arith)
mapped_at f (x ∷ js) zero d e = ap f (cc)
mapped_at f (x ∷ js) (suc i) d e = mapped_at f js i d e

pub state_none : (olds news : List (List ℕ)) (p : ℕ) → length news < p → state_at (board_plans olds news) p ≡ Blank
unfolding board_plans
state_none olds news zero h = refl
state_none olds news (suc i) h = ap state_in (past_none (board_plans_from olds news 1 [] news) i (omega (arith, plans_count olds news 1 [] news)))

-- What is said of each board of an edition.
abbrev pub SaysAt : List (List ℕ) → List (List ℕ) → ℕ → BoardState → Type 0
SaysAt olds news i s = StateIs olds news (take i news) (card_from news i) s

module _ (olds news : List (List ℕ)) (so : Handed olds) (sn : Handed news) where
  pub here_says : (i : ℕ) → i < length news → (s : BoardState) → (state_at (board_plans olds news) (suc i) ≡ s) ↔ SaysAt olds news i s
  here_says i h s =
      let g = sn (card_from news i) (card_among news i h) in
      let se : Handed (take i news) = λ x a. sn x (among_take i news a) in (
        λ e. rw (sym (state_here_lem olds news i h) ∙ e) at (state_says olds news (take i news) (card_from news i) g so sn se),
        λ k. state_here_lem olds news i h ∙ says_state olds news (take i news) (card_from news i) g so sn se s k,
      )
