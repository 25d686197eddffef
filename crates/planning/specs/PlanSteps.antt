-- What the inner functions of planning answer: a board of lent cards, a board of a search, totals board by board, and the end of planning.
use Rattle.std.specs.Prelude.{ℕ, ◌+◌, ◌≤◌, ◌<◌, ◌/◌, zero, suc, ◌≡◌, Bool, true, cond, ◌&&◌, ◌||◌, not, List, [], ◌∷◌, eqb, length, get_or, take, drop, is_ok, Option, Some, None}
use Rattle.tables.specs.declared.letters.Conventions.{Conventions}
use Rattle.reader.specs.Store.{zeros}
use Rattle.planning.specs.declared.state.BoardState.{BoardState}
use Rattle.planning.specs.declared.plan.Totals.{Totals}
use Rattle.planning.specs.Cards.{has_table}
use Rattle.planning.specs.States.{BoardPlan, state_of, state_number}
use Rattle.planning.specs.Slips.{card_from}
use Rattle.planning.specs.Plans.{Boxes, Editions, editions_of, BoxesAfter, Planning, slips_answer}

-- The first n cards of lent words.
abbrev pub cards_in : ℕ → List ℕ → List (List ℕ)
cards_in zero box = []
cards_in (suc n) box = take 64 box ∷ cards_in n (drop 64 box)

-- The board at index k of the new edition.
abbrev pub plan_here : List (List ℕ) → List (List ℕ) → ℕ → BoardPlan
plan_here olds news k = record { position = k + 1; card = card_from news k; state = state_of olds news (take k news) (card_from news k) }

-- The index of the position p, from 1, among n boards; none outside 1 to n.
abbrev pub IsIndex : ℕ → ℕ → Option ℕ → Type 0
IsIndex p n (Some k) = (p ≡ k + 1) × (k < n)
IsIndex p n None = 0 < p → n < p

-- How many words of two lists are equal, from the front.
abbrev pub equal_front : List ℕ → List ℕ → ℕ
equal_front [] ys = 0
equal_front (x ∷ xs) [] = 0
equal_front (x ∷ xs) (y ∷ ys) = cond (eqb x y) (equal_front xs ys + 1) 0

-- The card has a table, where one is sought, and its word 9 is 1, whether the deal is whole or not.
unfoldable pub may_fit : Bool → List ℕ → Bool
may_fit tabled card = (not tabled || has_table card) && eqb (get_or card 9 0) 1

-- A count of the boards whose state has the number k, with one board more.
abbrev pub tally : ℕ → BoardState → ℕ → ℕ
tally k s n = cond (eqb (state_number s) k) (n + 1) n

-- Totals with one board more, of the state s.
unfoldable pub counted : Totals → BoardState → Totals
counted t s = record {
  boards = t.boards + 1;
  blank = tally 0 s t.blank;
  own = tally 1 s t.own;
  old = tally 2 s t.old;
  near = tally 3 s t.near;
  twin = tally 4 s t.twin;
  solve = tally 5 s t.solve;
}

-- No board.
abbrev pub no_totals : Totals
no_totals = record { boards = 0; blank = 0; own = 0; old = 0; near = 0; twin = 0; solve = 0 }

-- No count is above n.
pub record Within (n : ℕ) (t : Totals) : Type 0 where
  pub boards : t.boards ≤ n
  pub blank : t.blank ≤ n
  pub own : t.own ≤ n
  pub old : t.old ≤ n
  pub near : t.near ≤ n
  pub twin : t.twin ≤ n
  pub solve : t.solve ≤ n

-- The four boxes, kept or set to 0.
pub record BoxesKept (well : Bool) (boxes boxes' : Boxes) : Type 0 where
  pub old_cards : boxes'.old_cards ≡ cond well boxes.old_cards (zeros boxes.old_cards)
  pub old_entries : boxes'.old_entries ≡ cond well boxes.old_entries (zeros boxes.old_entries)
  pub new_cards : boxes'.new_cards ≡ cond well boxes.new_cards (zeros boxes.new_cards)
  pub new_entries : boxes'.new_entries ≡ cond well boxes.new_entries (zeros boxes.new_entries)

-- Both editions are read, and each box is as it is to be where none is refused.
pub record EachRead (c : Conventions) (old new : List ℕ) (boxes boxes' : Boxes) (r : Editions) : Type 0 where
  pub answer : r ≡ editions_of c old new boxes
  pub boxes_taken : is_ok r ≡ true → BoxesAfter c true old new boxes boxes'

-- The answer for the totals, and all lent words: as they were, or zeros after a refusal.
pub record PlanEnded (boxes : Boxes) (slips : List ℕ) (t : Totals) (r : Planning) (boxes' : Boxes) (slips' : List ℕ) : Type 0 where
  pub answer : r ≡ slips_answer (length slips / 5) t
  pub boxes_left : BoxesKept (is_ok r) boxes boxes'
  pub slips_after : slips' ≡ cond (is_ok r) slips (zeros slips)
