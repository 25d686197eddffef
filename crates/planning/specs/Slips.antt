-- Slips, totals, and the record behind a board.
use Rattle.std.specs.Prelude.{ℕ, zero, suc, ◌+◌, ◌-◌, cond, List, [], ◌∷◌, map, eqb, length, get_or, take, drop, Option, Some, None}
use Rattle.std.proofs.Math.Option as option
use Rattle.tables.specs.declared.refused.Edition.{Edition}
use Rattle.tables.specs.declared.refused.Edition.TheVariants.{New}
use Rattle.tables.specs.declared.refused.Edition.TheVariants as edition
use Rattle.tables.specs.Refusals.{edition_number}
use Rattle.reader.specs.Store.{flat}
use Rattle.planning.specs.declared.state.BoardState.{BoardState}
use Rattle.planning.specs.declared.state.BoardState.TheVariants.{Blank, Own, Old, Near, Twin, Solve}
use Rattle.planning.specs.declared.behind.Behind.{Behind}
use Rattle.planning.specs.declared.plan.Totals.{Totals}
use Rattle.planning.specs.declared.slips.Slip.{Slip}
use Rattle.planning.specs.Cards.{hands_of}
use Rattle.planning.specs.States.{BoardPlan, is_solve, state_number, from_of, plan_at}

-- ---- slips

-- A slip is five numbers: a solve board's position from 1 and its hands N, E, S, W.
unfoldable pub slip_of : ℕ → List ℕ → List ℕ
slip_of p card = p ∷ (hands_of card).north ∷ (hands_of card).east ∷ (hands_of card).south ∷ (hands_of card).west ∷ []

-- The slips of boards, in board order.
abbrev pub slips_of : List BoardPlan → List (List ℕ)
slips_of [] = []
slips_of (j ∷ js) = cond (is_solve j.state) (slip_of j.position j.card ∷ slips_of js) (slips_of js)

-- The five numbers of a struct, and the numbers of structs, one after the other.
abbrev pub five_of : Slip → List ℕ
five_of s = s.position ∷ s.north ∷ s.east ∷ s.south ∷ s.west ∷ []

unfoldable pub slip_numbers : List Slip → List ℕ
slip_numbers slips = flat (map five_of slips)

-- ---- totals

-- How many boards have the state with the number k.
abbrev pub count_of : ℕ → List BoardPlan → ℕ
count_of k [] = 0
count_of k (j ∷ js) = cond (eqb (state_number j.state) k) (count_of k js + 1) (count_of k js)

unfoldable pub totals_of : List BoardPlan → Totals
totals_of js = record {
  boards = length js;
  blank = count_of 0 js;
  own = count_of 1 js;
  old = count_of 2 js;
  near = count_of 3 js;
  twin = count_of 4 js;
  solve = count_of 5 js;
}

-- ---- the record behind a board

-- The k-th of the cards, from 0; no words where there is none.
abbrev pub card_from : List (List ℕ) → ℕ → List ℕ
card_from xs k = get_or xs k []

-- The card of the board at a position from 1.
abbrev pub card_at : List (List ℕ) → ℕ → List ℕ
card_at xs zero = []
card_at xs (suc k) = card_from xs k

-- The record of a card of an edition: words 60 and 61.
abbrev pub record_of : Edition → List ℕ → Behind
record_of e card = record { edition = e; start = get_or card 60 0; end = get_or card 61 0 }

-- The old one's for old, the source board's for near and twin, else its own.
abbrev pub behind_state : List (List ℕ) → List (List ℕ) → List ℕ → BoardState → Behind
behind_state olds news card Blank = record_of New card
behind_state olds news card Own = record_of New card
behind_state olds news card (Old k) = record_of edition.Old (card_at olds k)
behind_state olds news card (Near k) = record_of New (card_at news k)
behind_state olds news card (Twin k) = record_of New (card_at news k)
behind_state olds news card Solve = record_of New card

abbrev pub behind_of : List (List ℕ) → List (List ℕ) → BoardPlan → Behind
behind_of olds news j = behind_state olds news j.card j.state

abbrev pub behind_in : List (List ℕ) → List (List ℕ) → option.Option BoardPlan → Option Behind
behind_in olds news option.none = None
behind_in olds news (option.some j) = Some (behind_of olds news j)

-- At a position from 1; nothing outside 1 to boards.
abbrev pub behind_at : List (List ℕ) → List (List ℕ) → List BoardPlan → ℕ → Option Behind
behind_at olds news js p = behind_in olds news (plan_at js p)

-- The text of an edition.
abbrev pub text_of : List ℕ → List ℕ → Edition → List ℕ
text_of old new edition.Old = old
text_of old new New = new

-- The part of the old or the new text.
abbrev pub part_of : List ℕ → List ℕ → Option Behind → List ℕ
part_of old new (Some b) = take (b.end - b.start) (drop b.start (text_of old new b.edition))
part_of old new None = []

-- As numbers: edition (0 none, 1 old, 2 new), start, end.
abbrev pub behind_numbers : Option Behind → List ℕ
behind_numbers (Some b) = edition_number b.edition ∷ b.start ∷ b.end ∷ []
behind_numbers None = 0 ∷ 0 ∷ 0 ∷ []

-- ---- five numbers a board: state, source board, and edition, start and end of the record behind it

unfoldable pub board_numbers : List (List ℕ) → List (List ℕ) → BoardPlan → List ℕ
board_numbers olds news j = state_number j.state ∷ from_of j.state ∷ behind_numbers (Some (behind_of olds news j))

abbrev pub numbers_from : List (List ℕ) → List (List ℕ) → List BoardPlan → List (List ℕ)
numbers_from olds news js = map (board_numbers olds news) js
