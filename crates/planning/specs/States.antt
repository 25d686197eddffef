-- The state of each board of the new edition.
use Rattle.std.specs.Prelude.{ℕ, zero, suc, ◌+◌, Bool, true, false, cond, List, [], ◌∷◌, ◌++◌, eqb}
use Rattle.std.proofs.Math.Option.{Option, none, some}
use Rattle.planning.specs.declared.state.BoardState.{BoardState}
use Rattle.planning.specs.declared.state.BoardState.TheVariants.{Blank, Own, Old, Near, Twin, Solve}
use Rattle.planning.specs.Cards.{card_deal, is_whole, has_table, fits}

-- The number of the first card that passes a test, the first of the list being k; 0 where none does.
abbrev pub first_from : (List ℕ → Bool) → ℕ → List (List ℕ) → ℕ
first_from test k [] = 0
first_from test k (x ∷ xs) = cond (test x) k (first_from test (k + 1) xs)

-- The first board from 1 with the deal d and, where one is sought, a table; 0 where there is none.
unfoldable pub first_with : Bool → List ℕ → List (List ℕ) → ℕ
first_with tabled d cards = first_from (fits tabled d) 1 cards

-- A state with its source board, where there is one.
abbrev pub or_else : (ℕ → BoardState) → ℕ → BoardState → BoardState
or_else state from next = cond (eqb from 0) next (state from)

-- The state of a board of the new edition, the first that fits: blank (not whole), own (has a table), old (an old board has deal and
-- table), near (a new one has), twin (an earlier new board has the deal), solve. earlier are the cards of the boards before it.
unfoldable pub state_of : List (List ℕ) → List (List ℕ) → List (List ℕ) → List ℕ → BoardState
state_of olds news earlier card =
    cond (is_whole card)
    (cond (has_table card) Own
    (or_else Old (first_with true (card_deal card) olds)
    (or_else Near (first_with true (card_deal card) news)
    (or_else Twin (first_with false (card_deal card) earlier) Solve))))
    Blank

-- The states by their numbers.
abbrev pub state_number : BoardState → ℕ
state_number Blank = 0
state_number Own = 1
state_number (Old k) = 2
state_number (Near k) = 3
state_number (Twin k) = 4
state_number Solve = 5

-- The source board: 0 for blank, own and solve.
abbrev pub from_of : BoardState → ℕ
from_of Blank = 0
from_of Own = 0
from_of (Old k) = k
from_of (Near k) = k
from_of (Twin k) = k
from_of Solve = 0

abbrev pub is_solve : BoardState → Bool
is_solve s = eqb (state_number s) 5

-- A board of the new edition: its position from 1, its card and its state.
pub record BoardPlan : Type 0 where
  pub position : ℕ
  pub card : List ℕ
  pub state : BoardState

-- The boards from the position p on; earlier are the cards of those before.
abbrev pub board_plans_from : List (List ℕ) → List (List ℕ) → ℕ → List (List ℕ) → List (List ℕ) → List BoardPlan
board_plans_from olds news p earlier [] = []
board_plans_from olds news p earlier (x ∷ xs) =
    record { position = p; card = x; state = state_of olds news earlier x } ∷ board_plans_from olds news (p + 1) (earlier ++ (x ∷ [])) xs

-- All boards of the new edition, given the cards of both.
unfoldable pub board_plans : List (List ℕ) → List (List ℕ) → List BoardPlan
board_plans olds news = board_plans_from olds news 1 [] news

-- The board at a position from 1; none outside 1 to boards.
abbrev pub plan_from : List BoardPlan → ℕ → Option BoardPlan
plan_from [] k = none
plan_from (j ∷ js) zero = some j
plan_from (j ∷ js) (suc k) = plan_from js k

abbrev pub plan_at : List BoardPlan → ℕ → Option BoardPlan
plan_at js zero = none
plan_at js (suc k) = plan_from js k

-- Its state, blank where there is none.
abbrev pub state_in : Option BoardPlan → BoardState
state_in none = Blank
state_in (some j) = j.state

-- The state at a position.
abbrev pub state_at : List BoardPlan → ℕ → BoardState
state_at js p = state_in (plan_at js p)
