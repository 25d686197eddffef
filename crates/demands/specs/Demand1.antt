-- Demand 1, in the user's words: "No text, rows, answers or lent slices make a public entry point fault, run on for ever or read outside
-- what it was lent. Each of document 01's refusals is given on its condition only, and leaves its outputs zeroed."
--
-- The first sentence is what the check proves of every function; no function of the C boundary asks anything of its caller (it has no
-- `requires`). The second is stated here. For each C function one record says which refusals it can give, each exactly on its condition, in
-- the order in which they are looked for, with the number carried; that 0 is answered exactly when none of the conditions holds; and
-- that every lent word, and every value of the answer, is zero after a refusal. An answer array is: number, edition, carried number, values.
-- The statements hold for every set of letters c; the C functions read with the built-in ones. proofs/Refusing.antt proves
-- them, proofs/TableRefusing.antt those of tables, proofs/WriteRefusing.antt that of writing, proofs/FinishRefusing.antt that of finishing
-- and proofs/LinRefusing.antt that of converting a LIN text.
use Rattle.std.specs.Prelude.{ℕ, suc, ◌*◌, ◌/◌, ◌<◌, ◌≡◌, ◌↔◌, Bool, true, false, not, cond, List, [], ◌∷◌, ◌++◌, ltb, length, get_or, drop, replicate, Some, None, Ok, Err}
use Rattle.tables.specs.declared.letters.Conventions.{Conventions}
use Rattle.tables.specs.Text.{front, trimmed, characters, first_character, fields, lines}
use Rattle.tables.specs.Numbers.{number_of}
use Rattle.tables.specs.Letters.{seat_of, strain_of}
use Rattle.tables.specs.Tables.{digit_of, row_of, stored_row, missing, table_of_digits, table_of_rows, Row}
use Rattle.reader.specs.Store.{zeros}
use Rattle.reader.specs.Editions.{cards_of, entries_of}
use Rattle.planning.specs.Slips.{totals_of}
use Rattle.planning.specs.Plans.{Boxes, plans_of}
use Rattle.writer.specs.Pages.{written_text}
use Rattle.writer.specs.Given.{finished_text}
use Rattle.lin.specs.Dealing.{Dealing, all_cards}
use Rattle.lin.specs.LinBoards.{LinBoard, lin_boards, lin_text}
use Rattle.golavimes.specs.Answers.{WroteOut, ReadOut, EditionOut, WritingOut, PlanOut, StateOut, BehindOut, BoardsOut, SearchesOut, FinishOut, LinOut}

-- ---- refusals, the first whose condition holds

-- A refusal as one function gives it: its number, the edition that it is about (1 old, 2 new, 0 where it is about neither), the number
-- that it carries, and when it is given.
pub record Refusal : Type 1 where
  pub number : ℕ
  pub edition : ℕ
  pub carries : ℕ
  pub when : Type 0

abbrev pub refusal : ℕ → ℕ → ℕ → Type 0 → Refusal
refusal number edition carries when = record { number = number; edition = edition; carries = carries; when = when }

-- An answer begins with a refusal's number and edition.
pub record Begins (answer : List ℕ) (f : Refusal) : Type 0 where
  pub number_is : get_or answer 0 0 ≡ f.number
  pub edition_is : get_or answer 1 0 ≡ f.edition

-- It does exactly when the refusal's condition holds and none of those before it; the carried number then follows.
pub record Given (none_before : Type 0) (f : Refusal) (answer : List ℕ) : Type 0 where
  pub exactly : Begins answer f ↔ (none_before × f.when)
  pub carried : Begins answer f → get_or answer 2 0 ≡ f.carries

-- Each refusal in turn; at the end, no refusal, which is three zeros, exactly when none of the conditions holds.
abbrev pub GivenFrom : Type 0 → List Refusal → List ℕ → Type 0
GivenFrom none_before [] answer = Given none_before (refusal 0 0 0 (Unit {0})) answer
GivenFrom none_before (f ∷ fs) answer = Given none_before f answer × GivenFrom (none_before × (f.when → ⊥)) fs answer

abbrev pub FirstThatHolds : List Refusal → List ℕ → Type 0
FirstThatHolds fs answer = GivenFrom (Unit {0}) fs answer

-- ---- 1 to 3: an edition

-- The boards of a text, and the entries of its boards.
abbrev pub boards_in : Conventions → List ℕ → ℕ
boards_in c text = length (cards_of c text)

abbrev pub entries_in : Conventions → List ℕ → ℕ
entries_in c text = length (entries_of c text)

-- 1 overlong: the text is above 16,777,215 bytes.
abbrev pub Overlong : List ℕ → Type 0
Overlong text = 16777215 < length text

-- 2 box full: more boards than cards lent, 64 words a card. A tail too short for a card counts as none.
abbrev pub BoxFull : Conventions → List ℕ → List ℕ → Type 0
BoxFull c text cards = length cards / 64 < boards_in c text

-- 3 list full: the boards' entries exceed those lent, four words an entry.
abbrev pub ListFull : Conventions → List ℕ → List ℕ → Type 0
ListFull c text entries = length entries / 4 < entries_in c text

-- They carry the length, the boards and the entries. e is the edition: 1 old, 2 new, 0 where there is only one.
abbrev pub of_edition : ℕ → Conventions → List ℕ → List ℕ → List ℕ → List Refusal
of_edition e c text cards entries =
    refusal 1 e (length text) (Overlong text)
    ∷ refusal 2 e (boards_in c text) (BoxFull c text cards)
    ∷ refusal 3 e (entries_in c text) (ListFull c text entries)
    ∷ []

-- Both editions: old's three come before new's.
abbrev pub of_editions : Conventions → List ℕ → List ℕ → Boxes → List Refusal
of_editions c old new boxes =
    of_edition 1 c old boxes.old_cards boxes.old_entries ++ of_edition 2 c new boxes.new_cards boxes.new_entries

-- ---- 4: slips

-- The boards to solve.
abbrev pub solve_in : Conventions → List ℕ → List ℕ → ℕ
solve_in c old new = (totals_of (plans_of c old new)).solve

-- 4 slips short: fewer slips lent than boards to solve, five numbers a slip.
abbrev pub SlipsShort : Conventions → List ℕ → List ℕ → List ℕ → Type 0
SlipsShort c old new slips = length slips / 5 < solve_in c old new

-- ---- 5 and 6: answers

-- 5 answers: not 20 bytes for each board to solve.
abbrev pub NotTwentyEach : Conventions → List ℕ → List ℕ → List ℕ → Type 0
NotTwentyEach c old new answers = length answers ≡ 20 * solve_in c old new → ⊥

-- The bytes before the first above 13; their number is its index. All bytes, where none is.
abbrev pub possible : List ℕ → List ℕ
possible answers = front (λ b. not (ltb 13 b)) answers

-- 6 impossible: some byte is above 13, so those before the first such byte are not all.
abbrev pub SomeAbove : List ℕ → Type 0
SomeAbove answers = length (possible answers) < length answers

-- ---- 7: a page

-- 7 page full: the text to write is longer than the page.
abbrev pub PageFull : List ℕ → List ℕ → Type 0
PageFull text page = length page < length text

-- ---- 8 and 9: twenty digits

-- The characters of the trimmed value, and the digits before the first that is none.
abbrev pub value_characters : List ℕ → List ℕ
value_characters value = characters (trimmed value)

abbrev pub digits_before : List ℕ → List ℕ
digits_before xs = front (λ x. not (ltb 13 (digit_of x))) xs

-- 8 length: the trimmed value has not 20 characters.
abbrev pub NotTwenty : List ℕ → Type 0
NotTwenty value = length (value_characters value) ≡ 20 → ⊥

-- 9 digit: a bad digit stands behind the good ones.
abbrev pub BadDigit : List ℕ → Type 0
BadDigit value = length (digits_before (value_characters value)) < length (value_characters value)

abbrev pub of_digits : List ℕ → List Refusal
of_digits value =
    refusal 8 0 (length (value_characters value)) (NotTwenty value)
    ∷ refusal 9 0 (length (digits_before (value_characters value))) (BadDigit value)
    ∷ []

-- ---- 10 to 15: rows

abbrev pub is_fault : Row → Bool
is_fault (Ok x) = false
is_fault (Err f) = true

-- How many rows stand before the first that is refused: the number of that row, from 0. All rows, where none is.
abbrev pub rows_before : Conventions → List (List ℕ) → ℕ
rows_before c [] = 0
rows_before c (row ∷ rows) = cond (is_fault (row_of c 0 row)) 0 (suc (rows_before c rows))

-- The field of a row: 0 declarer, 1 denomination, 2 result.
abbrev pub field : ℕ → List ℕ → List ℕ
field k row = get_or (fields row) k []

-- A row has not three fields; a bad seat; a bad strain; no number 0 to 255; a number above 13.
abbrev pub NotThree : List ℕ → Type 0
NotThree row = length (fields row) ≡ 3 → ⊥

abbrev pub BadSeat : Conventions → List ℕ → Type 0
BadSeat c row = 3 < seat_of c (first_character (field 0 row))

abbrev pub BadStrain : Conventions → List ℕ → Type 0
BadStrain c row = 4 < strain_of c (field 1 row)

abbrev pub NoNumber : List ℕ → Type 0
NoNumber row = number_of 255 (field 2 row) ≡ None

pub record Above (row : List ℕ) : Type 0 where
  pub result : ℕ
  pub is : number_of 255 (field 2 row) ≡ Some result
  pub above : 13 < result

-- It is the first row that is refused, the row number n, of which P holds.
pub record InRow (rows : List (List ℕ)) (n : ℕ) (P : List ℕ → Type 0) : Type 0 where
  pub is_there : n < length rows
  pub holds : P (get_or rows n [])

-- The cells once all rows are read, 255 where no row gave one.
abbrev pub cells_after : Conventions → List ℕ → List (List ℕ) → List ℕ
cells_after c cells [] = cells
cells_after c cells (row ∷ rows) = cells_after c (stored_row cells (row_of c 0 row)) rows

abbrev pub absent : Conventions → List (List ℕ) → ℕ
absent c rows = missing (cells_after c (replicate 20 255) rows)

-- 10 fields, 11 declarer, 12 denomination, 13 result, 14 over: of the first row that is refused, which they carry. 15 missing: cells are
-- absent; how many.
abbrev pub of_rows : Conventions → List (List ℕ) → List Refusal
of_rows c rows =
    refusal 10 0 (rows_before c rows) (InRow rows (rows_before c rows) NotThree)
    ∷ refusal 11 0 (rows_before c rows) (InRow rows (rows_before c rows) (BadSeat c))
    ∷ refusal 12 0 (rows_before c rows) (InRow rows (rows_before c rows) (BadStrain c))
    ∷ refusal 13 0 (rows_before c rows) (InRow rows (rows_before c rows) NoNumber)
    ∷ refusal 14 0 (rows_before c rows) (InRow rows (rows_before c rows) Above)
    ∷ refusal 15 0 (absent c rows) (0 < absent c rows)
    ∷ []

-- ---- 16: a LIN text

-- P holds of the dealing of one of the boards.
pub record SomeBoard (P : Dealing → Type 0) (boards : List LinBoard) : Type 0 where
  pub before : List LinBoard
  pub board : LinBoard
  pub behind : List LinBoard
  pub whole : boards ≡ before ++ board ∷ behind
  pub holds : P board.dealing

-- Some hand has a card.
abbrev pub HasCard : Dealing → Type 0
HasCard d = 0 < length (all_cards d)

-- A card stands twice, in one hand or in two.
pub record CardTwice (d : Dealing) : Type 0 where
  pub card : ℕ
  pub before : List ℕ
  pub between : List ℕ
  pub behind : List ℕ
  pub whole : all_cards d ≡ before ++ card ∷ (between ++ card ∷ behind)

-- A hand has more than 13 cards.
pub data HandOver (d : Dealing) : Type 0 where
  north_over : 13 < length d.north → HandOver d
  east_over : 13 < length d.east → HandOver d
  south_over : 13 < length d.south → HandOver d
  west_over : 13 < length d.west → HandOver d

-- 16 no deal: no board of the text has a card, or one has a card twice or a hand above 13.
pub data NoDeal (boards : List LinBoard) : Type 0 where
  no_card : (SomeBoard HasCard boards → ⊥) → NoDeal boards
  card_twice : SomeBoard CardTwice boards → NoDeal boards
  hand_over : SomeBoard HandOver boards → NoDeal boards

-- ---- the functions: all that is lent is zero after a refusal

-- The four boxes hold nothing but zeros.
pub record BoxesZero (boxes boxes' : Boxes) : Type 0 where
  pub old_cards : boxes'.old_cards ≡ zeros boxes.old_cards
  pub old_entries : boxes'.old_entries ≡ zeros boxes.old_entries
  pub new_cards : boxes'.new_cards ≡ zeros boxes.new_cards
  pub new_entries : boxes'.new_entries ≡ zeros boxes.new_entries

-- The n values of an answer are zero.
abbrev pub NoValues : ℕ → List ℕ → Type 0
NoValues n answer = drop 3 answer ≡ replicate n 0

-- THEOREM. golavimes_dd_table_to_pbn, golavimes_optimum_result_table_header and golavimes_optimum_result_table_rows, whatever the text that
-- they write: 7, carrying the bytes needed.
pub record WriterRefusals (text page page' answer' : List ℕ) (r : ℕ) : Type 0 where
  pub refused : FirstThatHolds (refusal 7 0 (length text) (PageFull text page) ∷ []) answer'
  pub one_edition : get_or answer' 1 0 ≡ 0
  pub returned : r ≡ get_or answer' 0 0
  pub page_zero : (r ≡ 0 → ⊥) → page' ≡ zeros page
  pub no_values : (r ≡ 0 → ⊥) → NoValues 1 answer'

abbrev pub WriterRefuses : Type 0
WriterRefuses = (text page page' answer' : List ℕ) (r : ℕ) → WroteOut text page page' answer' r → WriterRefusals text page page' answer' r

-- THEOREM. golavimes_dd_table_from_pbn: 8, carrying the characters, then 9, carrying the index of the first bad one.
pub record DigitsRefusals (value table' answer' : List ℕ) (r : ℕ) : Type 0 where
  pub refused : FirstThatHolds (of_digits value) answer'
  pub one_edition : get_or answer' 1 0 ≡ 0
  pub returned : r ≡ get_or answer' 0 0
  pub table_zero : (r ≡ 0 → ⊥) → table' ≡ replicate 20 0

abbrev pub DigitsRefuse : Type 0
DigitsRefuse = (value table' answer' : List ℕ) (r : ℕ) → ReadOut (table_of_digits value) table' answer' r → DigitsRefusals value table' answer' r

-- THEOREM. golavimes_optimum_result_table_from_rows: for the first row that is refused 10 to 14, then 15.
pub record RowsRefusals (c : Conventions) (text table' answer' : List ℕ) (r : ℕ) : Type 0 where
  pub refused : FirstThatHolds (of_rows c (lines text)) answer'
  pub one_edition : get_or answer' 1 0 ≡ 0
  pub returned : r ≡ get_or answer' 0 0
  pub table_zero : (r ≡ 0 → ⊥) → table' ≡ replicate 20 0

abbrev pub RowsRefuse : Type 0
RowsRefuse = (c : Conventions) (text table' answer' : List ℕ) (r : ℕ) → ReadOut (table_of_rows c text) table' answer' r → RowsRefusals c text table' answer' r

-- THEOREM. golavimes_read: 1, 2, 3.
pub record ReadRefusals (c : Conventions) (text cards entries cards' entries' answer' : List ℕ) (r : ℕ) : Type 0 where
  pub refused : FirstThatHolds (of_edition 0 c text cards entries) answer'
  pub one_edition : get_or answer' 1 0 ≡ 0
  pub returned : r ≡ get_or answer' 0 0
  pub cards_zero : (r ≡ 0 → ⊥) → cards' ≡ zeros cards
  pub entries_zero : (r ≡ 0 → ⊥) → entries' ≡ zeros entries
  pub no_values : (r ≡ 0 → ⊥) → NoValues 2 answer'

abbrev pub ReadRefuses : Type 0
ReadRefuses =
    (c : Conventions) (text cards entries cards' entries' answer' : List ℕ) (r : ℕ)
    → EditionOut c text cards entries cards' entries' answer' r
    → ReadRefusals c text cards entries cards' entries' answer' r

-- THEOREM. golavimes_write: 1, 2, 3, then 7, carrying the bytes needed.
pub record WriteRefusals (c : Conventions) (text cards entries page cards' entries' page' answer' : List ℕ) (r : ℕ) : Type 0 where
  pub refused : FirstThatHolds (of_edition 0 c text cards entries ++ (refusal 7 0 (length (written_text c text)) (PageFull (written_text c text) page) ∷ [])) answer'
  pub one_edition : get_or answer' 1 0 ≡ 0
  pub returned : r ≡ get_or answer' 0 0
  pub cards_zero : (r ≡ 0 → ⊥) → cards' ≡ zeros cards
  pub entries_zero : (r ≡ 0 → ⊥) → entries' ≡ zeros entries
  pub page_zero : (r ≡ 0 → ⊥) → page' ≡ zeros page
  pub no_values : (r ≡ 0 → ⊥) → NoValues 1 answer'

abbrev pub WriteRefuses : Type 0
WriteRefuses =
    (c : Conventions) (text cards entries page cards' entries' page' answer' : List ℕ) (r : ℕ)
    → WritingOut c text cards entries page cards' entries' page' answer' r
    → WriteRefusals c text cards entries page cards' entries' page' answer' r

-- THEOREM. golavimes_plan: 1, 2, 3 of the old edition, then of the new, then 4, carrying the boards to solve.
pub record PlanRefusals (c : Conventions) (old new : List ℕ) (boxes : Boxes) (slips : List ℕ) (boxes' : Boxes) (slips' answer' : List ℕ) (r : ℕ) : Type 0 where
  pub refused : FirstThatHolds (of_editions c old new boxes ++ (refusal 4 0 (solve_in c old new) (SlipsShort c old new slips) ∷ [])) answer'
  pub returned : r ≡ get_or answer' 0 0
  pub boxes_zero : (r ≡ 0 → ⊥) → BoxesZero boxes boxes'
  pub slips_zero : (r ≡ 0 → ⊥) → slips' ≡ zeros slips
  pub no_values : (r ≡ 0 → ⊥) → NoValues 7 answer'

abbrev pub PlanRefuses : Type 0
PlanRefuses =
    (c : Conventions) (old new : List ℕ) (boxes : Boxes) (slips : List ℕ) (boxes' : Boxes) (slips' answer' : List ℕ) (r : ℕ)
    → PlanOut c old new boxes slips boxes' slips' answer' r
    → PlanRefusals c old new boxes slips boxes' slips' answer' r

-- THEOREM. golavimes_state and golavimes_record_behind, at every position: 1, 2, 3 of the old edition, then of the new.
pub record PositionRefusals (values : ℕ) (c : Conventions) (old new : List ℕ) (boxes boxes' : Boxes) (answer' : List ℕ) (r : ℕ) : Type 0 where
  pub refused : FirstThatHolds (of_editions c old new boxes) answer'
  pub returned : r ≡ get_or answer' 0 0
  pub boxes_zero : (r ≡ 0 → ⊥) → BoxesZero boxes boxes'
  pub no_values : (r ≡ 0 → ⊥) → NoValues values answer'

abbrev pub StateRefuses : Type 0
StateRefuses =
    (c : Conventions) (old new : List ℕ) (boxes boxes' : Boxes) (p : ℕ) (answer' : List ℕ) (r : ℕ)
    → StateOut c old new boxes boxes' p answer' r
    → PositionRefusals 2 c old new boxes boxes' answer' r

abbrev pub BehindRefuses : Type 0
BehindRefuses =
    (c : Conventions) (old new : List ℕ) (boxes boxes' : Boxes) (p : ℕ) (answer' : List ℕ) (r : ℕ)
    → BehindOut c old new boxes boxes' p answer' r
    → PositionRefusals 3 c old new boxes boxes' answer' r

-- THEOREM. golavimes_boards and golavimes_searches: the same, however few numbers are lent, and these are zero too.
pub record NumbersRefusals (values : ℕ) (c : Conventions) (old new : List ℕ) (boxes : Boxes) (numbers : List ℕ) (boxes' : Boxes) (numbers' answer' : List ℕ) (r : ℕ) : Type 0 where
  pub refused : FirstThatHolds (of_editions c old new boxes) answer'
  pub returned : r ≡ get_or answer' 0 0
  pub boxes_zero : (r ≡ 0 → ⊥) → BoxesZero boxes boxes'
  pub numbers_zero : (r ≡ 0 → ⊥) → numbers' ≡ zeros numbers
  pub no_values : (r ≡ 0 → ⊥) → NoValues values answer'

abbrev pub BoardsRefuse : Type 0
BoardsRefuse =
    (c : Conventions) (old new : List ℕ) (boxes : Boxes) (numbers : List ℕ) (boxes' : Boxes) (numbers' answer' : List ℕ) (r : ℕ)
    → BoardsOut c old new boxes numbers boxes' numbers' answer' r
    → NumbersRefusals 1 c old new boxes numbers boxes' numbers' answer' r

abbrev pub SearchesRefuse : Type 0
SearchesRefuse =
    (c : Conventions) (old new : List ℕ) (boxes : Boxes) (numbers : List ℕ) (boxes' : Boxes) (numbers' answer' : List ℕ) (r : ℕ)
    → SearchesOut c old new boxes numbers boxes' numbers' answer' r
    → NumbersRefusals 2 c old new boxes numbers boxes' numbers' answer' r

-- THEOREM. golavimes_finish: 1, 2, 3 of the old edition, then of the new, then 5, carrying the boards to solve, 6, carrying the index of the
-- first byte above 13, and 7, carrying the bytes needed.
pub record FinishRefusals (c : Conventions) (old new : List ℕ) (boxes : Boxes) (answers page : List ℕ) (boxes' : Boxes) (page' answer' : List ℕ) (r : ℕ) : Type 0 where
  pub refused : FirstThatHolds (of_editions c old new boxes ++ (
      refusal 5 0 (solve_in c old new) (NotTwentyEach c old new answers)
      ∷ refusal 6 0 (length (possible answers)) (SomeAbove answers)
      ∷ refusal 7 0 (length (finished_text c old new answers)) (PageFull (finished_text c old new answers) page)
      ∷ [])) answer'
  pub returned : r ≡ get_or answer' 0 0
  pub boxes_zero : (r ≡ 0 → ⊥) → BoxesZero boxes boxes'
  pub page_zero : (r ≡ 0 → ⊥) → page' ≡ zeros page
  pub no_values : (r ≡ 0 → ⊥) → NoValues 1 answer'

abbrev pub FinishRefuses : Type 0
FinishRefuses =
    (c : Conventions) (old new : List ℕ) (boxes : Boxes) (answers page : List ℕ) (boxes' : Boxes) (page' answer' : List ℕ) (r : ℕ)
    → FinishOut c old new boxes answers page boxes' page' answer' r
    → FinishRefusals c old new boxes answers page boxes' page' answer' r

-- THEOREM. golavimes_lin_to_pbn: 1, carrying the length, 16, carrying 0, then 7, carrying the bytes needed.
pub record LinRefusals (c : Conventions) (text page page' answer' : List ℕ) (r : ℕ) : Type 0 where
  pub refused : FirstThatHolds (
      refusal 1 0 (length text) (Overlong text)
      ∷ refusal 16 0 0 (NoDeal (lin_boards c text))
      ∷ refusal 7 0 (length (lin_text c text)) (PageFull (lin_text c text) page)
      ∷ []) answer'
  pub one_edition : get_or answer' 1 0 ≡ 0
  pub returned : r ≡ get_or answer' 0 0
  pub page_zero : (r ≡ 0 → ⊥) → page' ≡ zeros page
  pub no_values : (r ≡ 0 → ⊥) → NoValues 2 answer'

abbrev pub LinRefuses : Type 0
LinRefuses = (c : Conventions) (text page page' answer' : List ℕ) (r : ℕ) → LinOut c text page page' answer' r → LinRefusals c text page page' answer' r
