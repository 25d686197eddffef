-- The cards of the new edition while it is being finished: given cells stand in the words of their board, which are zero where there is no
-- table, and then the table's kind.
use Rattle.std.specs.Prelude.{ℕ, ◌+◌, ◌-◌, ◌*◌, ◌≤◌, ◌≡◌, true, cond, ◌&&◌, not, List, ◌∷◌, ◌++◌, map, eqb, length, get_or, take, drop, replicate, Result, is_ok}
use Rattle.tables.specs.declared.letters.Conventions.{Conventions}
use Rattle.tables.specs.declared.page.Page.{Page}
use Rattle.tables.specs.Puts.{Puts}
use Rattle.reader.specs.Store.{flat}
use Rattle.planning.specs.declared.state.BoardState.{BoardState}
use Rattle.planning.specs.declared.state.BoardState.TheVariants.{Blank, Own, Old, Near, Twin, Solve}
use Rattle.planning.specs.Cards.{is_whole, has_table, card_here}
use Rattle.planning.specs.PlanSteps.{cards_in}
use Rattle.planning.specs.States.{BoardPlan, board_plans}
use Rattle.planning.specs.Slips.{totals_of}
use Rattle.planning.specs.Plans.{Boxes}
use Rattle.writer.specs.declared.finish.FinishRefusal.{FinishRefusal}
use Rattle.writer.specs.Held.{card_part}
use Rattle.writer.specs.BoardTexts.{page_held}
use Rattle.writer.specs.Given.{answer_at, table_of}
use Rattle.writer.specs.Writings.{page_after}
use Rattle.writer.specs.Finishings.{finished_on, checked_of, answered_by}

-- A card with other cells, words 18 to 37; with another kind of table, word 38.
unfoldable pub with_cells : List ℕ → List ℕ → List ℕ
with_cells cells card = take 18 card ++ (cells ++ drop 38 card)

unfoldable pub with_kind : ℕ → List ℕ → List ℕ
with_kind kind card = take 38 card ++ kind ∷ drop 39 card

-- A board's card with the cells that it gets; its kind stays, so that no state changes.
unfoldable pub given_card : List (List ℕ) → List (List ℕ) → List BoardPlan → List ℕ → BoardPlan → List ℕ
given_card olds news js answers j = with_cells (table_of olds news js answers j).cells j.card

abbrev pub given_cards : List (List ℕ) → List (List ℕ) → List BoardPlan → List ℕ → List (List ℕ)
given_cards olds news js answers = map (given_card olds news js answers) js

-- A whole board without a table was given its cells: its kind becomes 3.
unfoldable pub marked : List ℕ → List ℕ
marked card = cond (is_whole card && not (has_table card)) (with_kind 3 card) card

-- A card of the kind 3 loses its table.
unfoldable pub given_cleared : List ℕ → List ℕ
given_cleared card = cond (eqb (get_or card 38 0) 3) (with_kind 0 (with_cells (replicate 20 0) card)) card

-- ---- board after board

-- The cells of the card at index k of lent words.
unfoldable pub cells_at : List ℕ → ℕ → List ℕ
cells_at cards k = card_part cards k 18 20

-- The cells that the board at index k gets, in its state, from the words of both editions: boards before it have theirs already. slip is
-- the number of solve boards before it.
abbrev pub source_cells : List ℕ → List ℕ → ℕ → BoardState → List ℕ → ℕ → List ℕ
source_cells old new k Blank answers slip = cells_at new k
source_cells old new k Own answers slip = cells_at new k
source_cells old new k (Old j) answers slip = cells_at old (j - 1)
source_cells old new k (Near j) answers slip = cells_at new (j - 1)
source_cells old new k (Twin j) answers slip = cells_at new (j - 1)
source_cells old new k Solve answers slip = answer_at answers slip

-- The contract of give_tables, box being the words of the new edition's n cards: the number of boards to be solved, and every word
-- afterwards, each board's cells on its card.
pub record Gave (olds news : List (List ℕ)) (box : List ℕ) (n : ℕ) (answers : List ℕ) (r : ℕ) (box' : List ℕ) : Type 0 where
  pub solve_count : r ≡ (totals_of (board_plans olds news)).solve
  pub cards_after : box' ≡ flat (given_cards olds news (board_plans olds news) answers) ++ drop (64 * n) box

-- ---- what the functions of finishing leave

-- The words with the card at index k changed by f; with each of the first n cards changed.
abbrev pub changed_at : (List ℕ → List ℕ) → ℕ → List ℕ → List ℕ
changed_at f k box = take (64 * k) box ++ (f (card_here k box) ++ drop (64 * k + 64) box)

abbrev pub changed_all : (List ℕ → List ℕ) → ℕ → List ℕ → List ℕ
changed_all f n box = flat (map f (cards_in n box)) ++ drop (64 * n) box

-- The new edition, of n boards, was given its tables, the old one having m. Where the answers are let through its page is put, the given
-- tables marked, and then these are taken away.
pub record BoardsPut (c : Conventions) (new : List ℕ) (m n : ℕ) (olds cards entries answers : List ℕ) (p : Page) (put : Result (Unit {0}) FinishRefusal)
    (cards' : List ℕ) (q : Page) : Type 0 where
  pub solve : ℕ
  pub given : List ℕ
  pub gave : Gave (cards_in m olds) (cards_in n cards) cards n answers solve given
  pub answer : put ≡ checked_of solve answers
  pub page_put : is_ok put ≡ true → Puts p (page_held c new (changed_all marked n given) entries n) q
  pub cards_after : is_ok put ≡ true → cards' ≡ changed_all given_cleared n (changed_all marked n given)

-- The boards of the new edition, of n cards, the old one having m.
abbrev pub plans_in : ℕ → ℕ → Boxes → List BoardPlan
plans_in m n boxes = board_plans (cards_in m boxes.old_cards) (cards_in n boxes.new_cards)

-- The words of its cards, each with the cells that it gets.
abbrev pub given_box : ℕ → ℕ → Boxes → List ℕ → List ℕ
given_box m n boxes answers =
    flat (given_cards (cards_in m boxes.old_cards) (cards_in n boxes.new_cards) (plans_in m n boxes) answers)
    ++ drop (64 * n) boxes.new_cards

-- The page of the new edition with these tables.
abbrev pub tabled_page : Conventions → List ℕ → ℕ → ℕ → Boxes → List ℕ → List ℕ
tabled_page c new m n boxes answers = page_held c new (changed_all marked n (given_box m n boxes answers)) boxes.new_entries n

-- The boxes once the given tables were taken away.
abbrev pub cleared_boxes : ℕ → ℕ → Boxes → List ℕ → Boxes
cleared_boxes m n boxes answers =
    record {
      old_cards = boxes.old_cards;
      old_entries = boxes.old_entries;
      new_cards = changed_all given_cleared n (changed_all marked n (given_box m n boxes answers));
      new_entries = boxes.new_entries;
    }

-- The new edition, of n boards, is finished, the old one having m: the answer, the boxes and the page. A page is counted no further than 2 ^ 39
-- bytes, so that the answer and the page are promised up to there.
pub record BoardsEnded (c : Conventions) (new : List ℕ) (m n : ℕ) (boxes : Boxes) (answers page : List ℕ) (r : Result ℕ FinishRefusal)
    (boxes' : Boxes) (page' : List ℕ) : Type 0 where
  pub answer : length (tabled_page c new m n boxes answers) ≤ 549755813888
      → r ≡ answered_by (totals_of (plans_in m n boxes)).solve answers
      (finished_on (length (tabled_page c new m n boxes answers)) (length page))
  pub boxes_left : is_ok r ≡ true → boxes' ≡ cleared_boxes m n boxes answers
  pub page_left : length (tabled_page c new m n boxes answers) ≤ 549755813888 → is_ok r ≡ true
      → page' ≡ page_after true (tabled_page c new m n boxes answers) (length page)
