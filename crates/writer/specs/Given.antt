-- Finishing: the table that each board of the new edition gets, and what the finished edition is written as.
use Rattle.std.specs.Prelude.{ℕ, ◌-◌, ◌*◌, ◌/◌, cond, List, [], ◌∷◌, map, ltb, length, get_or, take, drop, replicate}
use Rattle.tables.specs.declared.letters.Conventions.{Conventions}
use Rattle.reader.specs.declared.board.TableCard.{TableCard}
use Rattle.reader.specs.Editions.{cards_of}
use Rattle.reader.specs.Plain.{PlainBoard, plain_boards}
use Rattle.planning.specs.declared.state.BoardState.{BoardState}
use Rattle.planning.specs.declared.state.BoardState.TheVariants.{Blank, Own, Old, Near, Twin, Solve}
use Rattle.planning.specs.States.{BoardPlan}
use Rattle.planning.specs.Slips.{count_of, card_at}
use Rattle.planning.specs.Plans.{plans_of}
use Rattle.writer.specs.Pages.{page_text}

-- ---- answers

-- The index, from 0, of the slip of the board at a position from 1: slips stand in board order, one for each solve board (5).
abbrev pub slip_index : List BoardPlan → ℕ → ℕ
slip_index js p = count_of 5 (take (p - 1) js)

-- The 20 bytes for the slip of an index, in cell order; zeros where there are none, which refusal 5 shuts out.
unfoldable pub answer_at : List ℕ → ℕ → List ℕ
answer_at answers i = cond (ltb i (length answers / 20)) (take 20 (drop (20 * i) answers)) (replicate 20 0)

-- ---- tables

-- The cells of a card, words 18 to 37.
abbrev pub cells_of : List ℕ → List ℕ
cells_of card = take 20 (drop 18 card)

-- Its table, word 38 being the kind.
abbrev pub own_table : List ℕ → TableCard
own_table card = record { kind = get_or card 38 0; cells = cells_of card }

-- A table given to a board without one. No card that was read has its kind; a table of any kind but 0 is written alike.
abbrev pub given : List ℕ → TableCard
given cells = record { kind = 3; cells = cells }

-- The table of a board of the new edition at a position, in a state: its own, or none, where it is blank or own; the cells of the source
-- board for old and near; the answer for its own slip; for a twin, that for its source's.
abbrev pub table_for : List (List ℕ) → List (List ℕ) → List BoardPlan → List ℕ → ℕ → List ℕ → BoardState → TableCard
table_for olds news js answers p card Blank = own_table card
table_for olds news js answers p card Own = own_table card
table_for olds news js answers p card (Old k) = given (cells_of (card_at olds k))
table_for olds news js answers p card (Near k) = given (cells_of (card_at news k))
table_for olds news js answers p card (Twin k) = given (answer_at answers (slip_index js k))
table_for olds news js answers p card Solve = given (answer_at answers (slip_index js p))

unfoldable pub table_of : List (List ℕ) → List (List ℕ) → List BoardPlan → List ℕ → BoardPlan → TableCard
table_of olds news js answers j = table_for olds news js answers j.position j.card j.state

-- ---- the finished edition

-- A board with another table.
unfoldable pub with_table : TableCard → PlainBoard → PlainBoard
with_table t b =
    record {
      id = b.id;
      deal = b.deal;
      table = t;
      values = b.values;
      tags = b.tags;
      directives = b.directives;
      blocks = b.blocks;
      auction = b.auction;
      play = b.play;
      trump = b.trump;
    }

-- Each board with its table.
abbrev pub with_tables : List TableCard → List PlainBoard → List PlainBoard
with_tables [] bs = []
with_tables (t ∷ ts) [] = []
with_tables (t ∷ ts) (b ∷ bs) = with_table t b ∷ with_tables ts bs

-- The tables of all boards of the new edition.
unfoldable pub tables_of : Conventions → List ℕ → List ℕ → List ℕ → List TableCard
tables_of c old new answers = map (table_of (cards_of c old) (cards_of c new) (plans_of c old new) answers) (plans_of c old new)

-- The boards of the new edition, each with its table; and the page of them.
unfoldable pub finished_boards : Conventions → List ℕ → List ℕ → List ℕ → List PlainBoard
finished_boards c old new answers = with_tables (tables_of c old new answers) (plain_boards c new)

unfoldable pub finished_text : Conventions → List ℕ → List ℕ → List ℕ → List ℕ
finished_text c old new answers = page_text c (finished_boards c old new answers)
