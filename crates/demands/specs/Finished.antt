-- What a finished edition reads as, by the definitions: board by board beside the new edition.
use Rattle.std.specs.Prelude.{ℕ, ◌*◌, ◌<◌, ◌≡◌, true, not, List, [], eqb, leb, length, get_or}
use Rattle.tables.specs.declared.letters.Conventions.{Conventions}
use Rattle.tables.specs.Letters.{Accepted, every}
use Rattle.reader.specs.declared.board.TableCard.{TableCard}
use Rattle.reader.specs.Editions.{cards_of}
use Rattle.planning.specs.Cards.{is_whole, hands_of, has_table}
use Rattle.planning.specs.States.{state_at, state_number}
use Rattle.planning.specs.Plans.{plans_of}
use Rattle.writer.specs.Pages.{written_text}
use Rattle.writer.specs.Given.{cells_of, tables_of, finished_text}
use Rattle.demands.specs.Demand1.{solve_in}

-- Answers that rows 5 and 6 let through: 20 bytes for each board to solve, none above 13.
pub record Answered (c : Conventions) (old new answers : List ℕ) : Type 0 where
  pub twenty_each : length answers ≡ 20 * solve_in c old new
  pub possible : every (λ n. leb n 13) answers ≡ true

-- No table.
abbrev pub no_table : TableCard
no_table = record { kind = 0; cells = [] }

-- x the card of a board of the new edition, t the table that it gets, y the card of the finished board: the deal is the same, and the
-- table is that one.
pub record FinishedCard (t : TableCard) (x y : List ℕ) : Type 0 where
  pub whole : is_whole y ≡ is_whole x
  pub hands : is_whole x ≡ true → hands_of y ≡ hands_of x
  pub table : has_table y ≡ not (eqb t.kind 0)
  pub cells : (t.kind ≡ 0 → ⊥) → cells_of y ≡ t.cells

pub record FinishedEdition (c : Conventions) (old new answers finished : List ℕ) : Type 0 where
  pub as_many : length (cards_of c finished) ≡ length (cards_of c new)
  pub each : (k : ℕ) → k < length (cards_of c new)
      → FinishedCard (get_or (tables_of c old new answers) k no_table) (get_or (cards_of c new) k []) (get_or (cards_of c finished) k [])

-- THEOREM (proofs/FinishedBack.antt). What the finished edition is written as reads back with the deals of the new one and the tables given.
abbrev pub FinishedBack : Type 0
FinishedBack =
    (c : Conventions) → Accepted c → (old new answers : List ℕ) → Answered c old new answers
    → FinishedEdition c old new answers (finished_text c old new answers)

-- THEOREM (proofs/FinishedBack.antt). Where no board wants a table, each being blank (0) or own (1), the finished edition is what the new one
-- is written as.
abbrev pub NoneWanted : Type 0
NoneWanted =
    (c : Conventions) (old new answers : List ℕ)
    → ((p : ℕ) → state_number (state_at (plans_of c old new) p) < 2)
    → finished_text c old new answers ≡ written_text c new
