-- The search for an equal deal: the board that it finds and the hand words that it compares; and the five numbers of each board's searches.
use Rattle.std.specs.Prelude.{ℕ, ◌+◌, ◌-◌, Bool, true, false, cond, ◌&&◌, ◌||◌, not, List, [], ◌∷◌, map, eqb, leb, take}
use Rattle.reader.specs.Words.{same}
use Rattle.planning.specs.declared.search.Found.{Found}
use Rattle.planning.specs.declared.state.BoardState.{BoardState}
use Rattle.planning.specs.Cards.{card_deal, is_whole, has_table}
use Rattle.planning.specs.States.{BoardPlan, state_number, from_of}

-- ---- one board

-- A board that is not whole, or lacks a table where one is sought, is passed over.
unfoldable pub passed_over : Bool → List ℕ → Bool
passed_over tabled card = not (is_whole card) || (tabled && not (has_table card))

-- Words are compared in order: the equal ones from the front and the first that differs.
abbrev pub compared_words : List ℕ → List ℕ → ℕ
compared_words [] ys = 0
compared_words (x ∷ xs) [] = 0
compared_words (x ∷ xs) (y ∷ ys) = 1 + cond (eqb x y) (compared_words xs ys) 0

-- The words of the deal d that are compared on a board: none where it is passed over.
unfoldable pub compared : Bool → List ℕ → List ℕ → ℕ
compared tabled d card = cond (passed_over tabled card) 0 (compared_words d (card_deal card))

-- ---- the search

-- From the board number k on, w words having been compared: a board is passed over, or it has the deal d and is found, or it is left at the
-- first word that differs.
abbrev pub search_from : Bool → List ℕ → ℕ → ℕ → List (List ℕ) → Found
search_from tabled d k w [] = record { board = 0; words = w }
search_from tabled d k w (x ∷ xs) =
    cond (passed_over tabled x) (search_from tabled d (k + 1) w xs)
    (cond (same d (card_deal x)) (record { board = k; words = w + compared_words d (card_deal x) })
    (search_from tabled d (k + 1) (w + compared_words d (card_deal x)) xs))

-- The board found, from 1, 0 where there is none, and the words compared.
unfoldable pub searched : Bool → List ℕ → List (List ℕ) → Found
searched tabled d cards = search_from tabled d 1 0 cards

-- ---- the searches for a board

-- Which searches are made for a board in the state s: for old unless it is blank or own, for near unless it is one of these or old, for twin
-- where it is twin or solve.
abbrev pub old_sought : BoardState → Bool
old_sought s = leb 2 (state_number s)

abbrev pub near_sought : BoardState → Bool
near_sought s = leb 3 (state_number s)

abbrev pub twin_sought : BoardState → Bool
twin_sought s = leb 4 (state_number s)

-- A search that is not made compares no word.
abbrev pub words_if : Bool → Found → ℕ
words_if made f = cond made f.words 0

-- The words compared for a board in the search for old, with a table, among the old boards.
unfoldable pub old_words : List (List ℕ) → BoardPlan → ℕ
old_words olds j = words_if (old_sought j.state) (searched true (card_deal j.card) olds)

-- In that for near, with a table, among the new ones.
unfoldable pub near_words : List (List ℕ) → BoardPlan → ℕ
near_words news j = words_if (near_sought j.state) (searched true (card_deal j.card) news)

-- In that for twin, among the new ones before it.
unfoldable pub twin_words : List (List ℕ) → BoardPlan → ℕ
twin_words news j = words_if (twin_sought j.state) (searched false (card_deal j.card) (take (j.position - 1) news))

-- Five numbers a board: state, source board, and the words compared in the searches for old, near and twin.
unfoldable pub search_numbers : List (List ℕ) → List (List ℕ) → BoardPlan → List ℕ
search_numbers olds news j = state_number j.state ∷ from_of j.state ∷ old_words olds j ∷ near_words news j ∷ twin_words news j ∷ []

-- Those of each board.
abbrev pub searches_from : List (List ℕ) → List (List ℕ) → List BoardPlan → List (List ℕ)
searches_from olds news js = map (search_numbers olds news) js

-- The words compared for all boards.
abbrev pub words_in_all : List (List ℕ) → List (List ℕ) → List BoardPlan → ℕ
words_in_all olds news [] = 0
words_in_all olds news (j ∷ js) = old_words olds j + near_words news j + twin_words news j + words_in_all olds news js
