-- Worked examples: what the definitions come to on texts and numbers written out.
use Prim.Native.Nat.{ℕ}
use mathlib.Core.Path.{◌≡◌, refl}
use mathlib.Core.Bool.{true, false}
use mathlib.Core.List.{[], ◌∷◌, ◌++◌, map}
use lib.ListN.{replicate}
use Rattle.std.specs.Prelude.{Some, None, Ok, Err}
use Rattle.tables.specs.declared.refusal.Refusal.TheVariants.{Digit, Fields, Declarer, Denomination, Over}
use Rattle.tables.specs.Text.{ascii, is_white, is_inside, trimmed, fields, lines, characters, first_character}
use Rattle.tables.specs.Numbers.{number_of, signed_of, digits, decimal}
use Rattle.tables.specs.Letters.{built_in, capital, seat_of, suit_of, honour_of, rank_of, strain_of}
use Rattle.tables.specs.Page.{right}
use Rattle.tables.specs.Tables.{gives, digit_byte, digit_of, digits_reading, table_of_digits, header_text, row_order, cell_of, column_text, row_text, rows_text, fields_row, row_of, gathered, table_of_rows}

-- ---- rows

-- A plus sign is taken.
pub result_plus : row_of built_in 4 (ascii "W C +9") ≡ gives 19 9
unfolding built_in is_white capital seat_of suit_of row_order cell_of fields_row row_of
result_plus = refl

-- A blank row; rows of two and of four fields; no seat; no strain.
pub blank_row : row_of built_in 4 (ascii " \t\r") ≡ Ok None
unfolding is_white row_of
blank_row = refl

pub row_two : row_of built_in 4 (ascii "N NT") ≡ Err (Fields 4)
unfolding is_white row_of
row_two = refl

pub row_four : row_of built_in 4 (ascii "N NT 7 ;") ≡ Err (Fields 4)
unfolding is_white row_of
row_four = refl

pub row_no_seat : row_of built_in 4 (ascii "X NT 7") ≡ Err (Declarer 4)
unfolding built_in is_white capital seat_of suit_of row_order cell_of fields_row row_of
row_no_seat = refl

pub row_no_strain : row_of built_in 4 (ascii "N NTX 7") ≡ Err (Denomination 4)
unfolding built_in is_white capital seat_of suit_of row_order cell_of fields_row row_of
row_no_strain = refl

-- The first row that is refused is the answer, with its number; blank rows count.
pub first_fault : table_of_rows built_in (ascii "N NT 7\n\nN NT 14\nN X 7\n") ≡ Err (Over 2)
unfolding built_in is_white capital seat_of suit_of row_order cell_of fields_row row_of gathered table_of_rows
first_fault = refl

-- The cells run N, S, E, W: the first of each seat.
pub cells_of_seats : map (λ (s : ℕ). cell_of s 4) (0 ∷ 1 ∷ 2 ∷ 3 ∷ []) ≡ 0 ∷ 10 ∷ 5 ∷ 15 ∷ []
unfolding row_order cell_of
cells_of_seats = refl

-- Rows as they are written: north's notrump, west's clubs, south's hearts.
pub row_north : row_text built_in 2 0 7 ≡ ascii "N NT  7"
unfolding built_in row_order column_text row_text right digits decimal
row_north = refl

pub row_west : row_text built_in 2 19 13 ≡ ascii "W  C 13"
unfolding built_in row_order column_text row_text right digits decimal
row_west = refl

pub row_south : row_text built_in 1 7 0 ≡ ascii "S  H 0"
unfolding built_in row_order column_text row_text right digits decimal
row_south = refl

pub rows_two : rows_text built_in (10 ∷ 9 ∷ []) ≡ ascii "N NT 10\nN  S  9\n"
unfolding built_in row_order column_text row_text rows_text right digits decimal
rows_two = refl

-- The header, with no cell above 9 and with one.
pub header_one : header_text (replicate 20 0) ≡ ascii "Declarer;Denomination\\2R;Result\\1R"
unfolding header_text
header_one = refl

pub header_two : header_text (replicate 19 9 ++ 10 ∷ []) ≡ ascii "Declarer;Denomination\\2R;Result\\2R"
unfolding header_text
header_two = refl

-- ---- digits

-- The character 14 is the first bad one.
pub digit_e : table_of_digits (ascii "0123456789abcde0123x") ≡ Err (Digit 14)
unfolding is_white is_inside trimmed digit_of digits_reading table_of_digits
digit_e = refl

-- Capitals count, and so do texts with white space around the digits.
pub digits_capital : table_of_digits (ascii " 0123456789ABCDdcba98\n") ≡ Ok (0 ∷ 1 ∷ 2 ∷ 3 ∷ 4 ∷ 5 ∷ 6 ∷ 7 ∷ 8 ∷ 9 ∷ 10 ∷ 11 ∷ 12 ∷ 13 ∷ 13 ∷ 12 ∷ 11 ∷ 10 ∷ 9 ∷ 8 ∷ [])
unfolding is_white is_inside trimmed digit_of digits_reading table_of_digits
digits_capital = refl

pub digit_bytes : map digit_byte (9 ∷ 10 ∷ 13 ∷ 200 ∷ []) ≡ ascii "9add"
unfolding digit_byte
digit_bytes = refl

pub digit_values : map digit_of (ascii "9aDe/") ≡ 9 ∷ 10 ∷ 13 ∷ 14 ∷ 14 ∷ []
unfolding digit_of
digit_values = refl

-- ---- texts

pub white_bytes : map is_white (8 ∷ 9 ∷ 13 ∷ 14 ∷ 28 ∷ 32 ∷ []) ≡ false ∷ true ∷ true ∷ false ∷ false ∷ true ∷ []
unfolding is_white
white_bytes = refl

-- Tab, vertical tab (11) and CR go, white space inside stays.
pub trimmed_text : trimmed (9 ∷ 11 ∷ (ascii "a b" ++ 11 ∷ 13 ∷ [])) ≡ ascii "a b"
unfolding is_white trimmed
trimmed_text = refl

pub trimmed_nothing : trimmed (ascii " \t ") ≡ []
unfolding is_white trimmed
trimmed_nothing = refl

pub fields_three : fields (ascii " a  bc\td ") ≡ ascii "a" ∷ ascii "bc" ∷ ascii "d" ∷ []
unfolding is_white
fields_three = refl

pub lines_three : lines (ascii "a\n\nb") ≡ ascii "a" ∷ [] ∷ ascii "b" ∷ []
lines_three = refl

pub lines_ended : lines (ascii "a\n") ≡ ascii "a" ∷ []
lines_ended = refl

-- A character of two bytes is given as 0; a first byte 80 to BF (hexadecimal) is a character too.
pub characters_two : characters (97 ∷ 195 ∷ 169 ∷ 98 ∷ []) ≡ 97 ∷ 0 ∷ 98 ∷ []
unfolding is_inside
characters_two = refl

pub characters_inside : characters (128 ∷ 97 ∷ []) ≡ 128 ∷ 97 ∷ []
unfolding is_inside
characters_inside = refl

pub first_characters : map first_character (ascii "North" ∷ (195 ∷ 169 ∷ []) ∷ [] ∷ []) ≡ 78 ∷ 0 ∷ 0 ∷ []
unfolding is_inside
first_characters = refl

-- ---- numbers

pub numbers_good : map (number_of 255) (ascii "255" ∷ ascii "+0" ∷ ascii "007" ∷ []) ≡ Some 255 ∷ Some 0 ∷ Some 7 ∷ []
numbers_good = refl

pub numbers_bad : map (number_of 255) (ascii "256" ∷ ascii "+" ∷ [] ∷ ascii "-0" ∷ ascii "++1" ∷ ascii "1x" ∷ []) ≡ replicate 6 None
numbers_bad = refl

-- Signed numbers are given with 128 added.
pub signed_numbers : map (signed_of 128) (ascii "-128" ∷ ascii "-129" ∷ ascii "127" ∷ ascii "128" ∷ ascii "-0" ∷ []) ≡ Some 0 ∷ None ∷ Some 255 ∷ None ∷ Some 128 ∷ []
signed_numbers = refl

pub decimals : map decimal (0 ∷ 10 ∷ 4294967295 ∷ []) ≡ ascii "0" ∷ ascii "10" ∷ ascii "4294967295" ∷ []
unfolding digits decimal
decimals = refl

-- ---- letters

pub seats : map (seat_of built_in) (ascii "NESWnesw1@") ≡ 0 ∷ 1 ∷ 2 ∷ 3 ∷ 0 ∷ 1 ∷ 2 ∷ 3 ∷ 4 ∷ 4 ∷ []
unfolding built_in capital seat_of
seats = refl

pub suits : map (suit_of built_in) (ascii "CDHScdhsN{") ≡ 0 ∷ 1 ∷ 2 ∷ 3 ∷ 0 ∷ 1 ∷ 2 ∷ 3 ∷ 4 ∷ 4 ∷ []
unfolding built_in capital suit_of
suits = refl

pub ranks : map (rank_of built_in) (ascii "29TjQkA1:x") ≡ 0 ∷ 7 ∷ 8 ∷ 9 ∷ 10 ∷ 11 ∷ 12 ∷ 13 ∷ 13 ∷ 13 ∷ []
unfolding built_in capital honour_of rank_of
ranks = refl

pub strains : map (strain_of built_in) (ascii "c" ∷ ascii "S" ∷ ascii "n" ∷ ascii "nt" ∷ ascii "NS" ∷ ascii "NTX" ∷ ascii "x" ∷ [] ∷ []) ≡ 0 ∷ 3 ∷ 4 ∷ 4 ∷ 5 ∷ 5 ∷ 5 ∷ 5 ∷ []
unfolding built_in capital suit_of
strains = refl
