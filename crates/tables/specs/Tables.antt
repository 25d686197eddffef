-- The two PBN forms of a double-dummy table. A table is 20 numbers of tricks, its cells in the order N, S, E, W, each NT, S, H, D, C.
use Rattle.std.specs.Prelude.{ℕ, suc, ◌+◌, ◌-◌, ◌*◌, ◌/◌, ◌%◌, List, [], ◌∷◌, ◌++◌, map, cond, ltb, eqb, length, set, replicate, Option, Some, None, Result, Ok, Err}
use Rattle.tables.specs.declared.refusal.Refusal.{Refusal}
use Rattle.tables.specs.declared.refusal.Refusal.TheVariants.{Length, Digit, Fields, Declarer, Denomination, Outcome, Over, Missing}
use Rattle.tables.specs.declared.dd.Cell.{Cell}
use Rattle.tables.specs.declared.letters.Conventions.{Conventions}
use Rattle.tables.specs.Text.{ascii, trimmed, fields, lines, characters, first_character}
use Rattle.tables.specs.Numbers.{Number, number_of, decimal}
use Rattle.tables.specs.Letters.{seat_of, strain_of, seat_letter, suit_letter}
use Rattle.tables.specs.Page.{right}

-- What reading a table comes to: its cells, or a refusal.
abbrev pub TableReading : Type 0
TableReading = Result (List ℕ) Refusal

-- ---- DoubleDummyTricks: twenty base-14 digits

-- 0 to 9 (48 to 57), then a to d (97 to 100); larger counts are written d.
unfoldable pub digit_byte : ℕ → ℕ
digit_byte t = cond (ltb t 10) (48 + t) (cond (ltb t 13) (87 + t) 100)

-- The digits of a table.
abbrev pub digits_text : List ℕ → List ℕ
digits_text cells = map digit_byte cells

-- The tricks of a digit: 0 to 9 (48 to 57), A to D (65 to 68), a to d (97 to 100); 14 where the character is none.
unfoldable pub digit_of : ℕ → ℕ
digit_of b =
    cond (ltb b 48) 14
    (cond (ltb b 58) (b - 48)
    (cond (ltb b 65) 14
    (cond (ltb b 69) (b - 55)
    (cond (ltb b 97) 14 (cond (ltb b 101) (b - 87) 14)))))

-- The index of the first character that is no digit, counted from i.
abbrev pub first_bad : List ℕ → ℕ → Option ℕ
first_bad [] i = None
first_bad (x ∷ xs) i = cond (ltb 13 (digit_of x)) (Some i) (first_bad xs (i + 1))

abbrev pub digits_checked : List ℕ → Option ℕ → TableReading
digits_checked xs None = Ok (map digit_of xs)
digits_checked xs (Some i) = Err (Digit i)

-- A value, trimmed, is twenty characters (8), each a digit (9).
unfoldable pub digits_reading : List ℕ → TableReading
digits_reading xs = cond (eqb (length xs) 20) (digits_checked xs (first_bad xs 0)) (Err (Length (length xs)))

unfoldable pub table_of_digits : List ℕ → TableReading
table_of_digits value = digits_reading (characters (trimmed value))

-- ---- OptimumResultTable (PBN 2.1, section 5.7): a header and a row for each cell

-- The result column is 2 wide exactly when a cell exceeds 9.
abbrev pub width_of : List ℕ → ℕ
width_of [] = 1
width_of (t ∷ ts) = cond (ltb 9 t) 2 (width_of ts)

-- The result column's width, a digit (0 is 48), and `R` (82) end the header.
unfoldable pub header_text : List ℕ → List ℕ
header_text cells = ascii "Declarer;Denomination\\2R;Result\\" ++ ((48 + width_of cells) ∷ []) ++ (82 ∷ [])

-- Rows run N, S, E, W: of the seats N, E, S, W the second and the third change places.
unfoldable pub row_order : ℕ → ℕ
row_order k = cond (eqb k 1) 2 (cond (eqb k 2) 1 k)

-- The cell of a seat and a strain: columns run NT, S, H, D, C, down from the strain 4.
unfoldable pub cell_of : ℕ → ℕ → ℕ
cell_of seat strain = 5 * row_order seat + (4 - strain)

-- The strain of a column, to the right in two places: NT (78, 84), or a blank (32) and a suit's letter.
unfoldable pub column_text : Conventions → ℕ → List ℕ
column_text c k = cond (eqb k 0) (78 ∷ 84 ∷ []) (32 ∷ suit_letter c (4 - k) ∷ [])

-- The row of a cell: declarer, denomination, result, a blank (32) between them.
unfoldable pub row_text : Conventions → ℕ → ℕ → ℕ → List ℕ
row_text c w cell tricks = (seat_letter c (row_order (cell / 5)) ∷ []) ++ (32 ∷ []) ++ column_text c (cell % 5) ++ (32 ∷ []) ++ right w (decimal tricks)

-- The rows from a cell on, an LF (10) after each.
abbrev pub rows_from : Conventions → ℕ → ℕ → List ℕ → List ℕ
rows_from c w cell [] = []
rows_from c w cell (t ∷ ts) = (row_text c w cell t ++ (10 ∷ [])) ++ rows_from c w (cell + 1) ts

unfoldable pub rows_text : Conventions → List ℕ → List ℕ
rows_text c cells = rows_from c (width_of cells) 0 cells

-- What a row comes to: no cell where it is blank, a cell with its tricks, or a refusal.
abbrev pub Row : Type 0
Row = Result (Option Cell) Refusal

abbrev pub gives : ℕ → ℕ → Row
gives place tricks = Ok (Some (record { place = place; tricks = tricks }))

-- The third field: a number 0 to 255 (13) that is at most 13 (14).
abbrev pub result_row : ℕ → ℕ → Number → Row
result_row n cell None = Err (Outcome n)
result_row n cell (Some v) = cond (ltb 13 v) (Err (Over n)) (gives cell v)

-- The second: a strain (12).
abbrev pub strain_row : ℕ → ℕ → ℕ → List ℕ → Row
strain_row n seat strain result = cond (ltb 4 strain) (Err (Denomination n)) (result_row n (cell_of seat strain) (number_of 255 result))

-- The first: its first character is a seat's letter (11).
unfoldable pub fields_row : Conventions → ℕ → List ℕ → List ℕ → List ℕ → Row
fields_row c n declarer denomination result =
    cond (ltb 3 (seat_of c (first_character declarer))) (Err (Declarer n))
    (strain_row n (seat_of c (first_character declarer)) (strain_of c denomination) result)

-- Row n: blank, or of three fields (10).
abbrev pub row_with : Conventions → ℕ → List (List ℕ) → Row
row_with c n [] = Ok None
row_with c n (d ∷ []) = Err (Fields n)
row_with c n (d ∷ s ∷ []) = Err (Fields n)
row_with c n (d ∷ s ∷ t ∷ []) = fields_row c n d s t
row_with c n (d ∷ s ∷ t ∷ u ∷ us) = Err (Fields n)

unfoldable pub row_of : Conventions → ℕ → List ℕ → Row
row_of c n row = row_with c n (fields row)

-- While rows are gathered a cell that was not given yet is 255; the last row for a cell wins.
abbrev pub stored_row : List ℕ → Row → List ℕ
stored_row cells (Ok None) = cells
stored_row cells (Ok (Some x)) = set cells x.place x.tricks
stored_row cells (Err f) = cells

abbrev pub missing : List ℕ → ℕ
missing [] = 0
missing (t ∷ ts) = cond (eqb t 255) (suc (missing ts)) (missing ts)

-- All rows were read: the table, or how many cells are absent (15).
unfoldable pub gathered : List ℕ → TableReading
gathered cells = cond (eqb (missing cells) 0) (Ok cells) (Err (Missing (missing cells)))

-- The first row that is refused is the answer.
abbrev pub unless : Row → TableReading → TableReading
unless (Err f) r = Err f
unless (Ok x) r = r

-- Rows from number n on.
abbrev pub gather : Conventions → List (List ℕ) → ℕ → List ℕ → TableReading
gather c [] n cells = gathered cells
gather c (row ∷ rows) n cells = unless (row_of c n row) (gather c rows (n + 1) (stored_row cells (row_of c n row)))

unfoldable pub table_of_rows : Conventions → List ℕ → TableReading
table_of_rows c text = gather c (lines text) 0 (replicate 20 255)
