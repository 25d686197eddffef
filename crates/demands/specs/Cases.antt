-- The cases that document 01 marks with a dot, as one table about the definitions, in its order. proofs/Cases.antt computes them.
use Rattle.reader.specs.Boards.{in_block}
use Rattle.std.specs.Prelude.{ℕ, ◌≡◌, false, List, [], ◌∷◌, map, get_or, Some, None, Ok, Err}
use Rattle.tables.specs.Refusals.{refusal_number, refusal_carries}
use Rattle.tables.specs.Text.{ascii}
use Rattle.tables.specs.Letters.{built_in}
use Rattle.tables.specs.Tables.{TableReading, table_of_digits, row_of, table_of_rows, Row}
use Rattle.reader.specs.declared.line.Line.TheVariants.{Bracket}
use Rattle.reader.specs.Lines.{line_kind}
use Rattle.reader.specs.Boards.{record_out}
use Rattle.reader.specs.Editions.{cards_of, entries_of}
use Rattle.golavimes.specs.Answers.{decoded_numbers}

-- A row in numbers: 0, its cell and its tricks; or the refusal's number and the number carried.
abbrev pub row_numbers : Row → List ℕ
row_numbers (Ok None) = []
row_numbers (Ok (Some x)) = 0 ∷ x.place ∷ x.tricks ∷ []
row_numbers (Err f) = refusal_number f ∷ refusal_carries f ∷ []

-- What a C function answers for a table that is read: refusal, edition, carried number.
abbrev pub table_numbers : TableReading → List ℕ
table_numbers t = decoded_numbers t

-- A word of every card of a text.
abbrev pub words_of : ℕ → List ℕ → List ℕ
words_of i text = map (λ x. get_or x i 0) (cards_of built_in text)

-- THEOREM.
pub record Cases : Type 0 where
  -- `[ "x"]` is a tag with empty name: a name of length 0 at 1, and the value x at 3.
  pub empty_name : entries_of built_in (ascii "[ \"x\"]") ≡ (1 ∷ 1 ∷ 0 ∷ 0 ∷ []) ∷ (2 ∷ 3 ∷ 1 ∷ 0 ∷ []) ∷ []
  -- `[A "]"]` is none: a line with a bracket that does nothing.
  pub quoted_bracket : line_kind (ascii "[A \"]\"]") ≡ Bracket
  -- `[Event "x"] ;c` adds a directive: behind the name and the value `;c`, with one tag before it.
  pub comment_directive : entries_of built_in (ascii "[Event \"x\"] ;c") ≡ (1 ∷ 1 ∷ 5 ∷ 0 ∷ []) ∷ (2 ∷ 8 ∷ 1 ∷ 0 ∷ []) ∷ (3 ∷ 12 ∷ 2 ∷ 1 ∷ []) ∷ []
  -- `[Event "x"] {c` drops `{c`: there is the name and the value, and no commentary is open.
  pub brace_dropped : entries_of built_in (ascii "[Event \"x\"] {c") ≡ (1 ∷ 1 ∷ 5 ∷ 0 ∷ []) ∷ (2 ∷ 8 ∷ 1 ∷ 0 ∷ []) ∷ []
  pub brace_opens_nothing : (in_block (record_out built_in (ascii "[Event \"x\"] {c")).state) ≡ false
  -- In a row: result 13 taken, 14 refused 14, 256 refused 13, +9 taken.
  pub result_13 : row_numbers (row_of built_in 0 (ascii "N NT 13")) ≡ 0 ∷ 0 ∷ 13 ∷ []
  pub result_14 : row_numbers (row_of built_in 0 (ascii "N NT 14")) ≡ 14 ∷ 0 ∷ []
  pub result_256 : row_numbers (row_of built_in 0 (ascii "N NT 256")) ≡ 13 ∷ 0 ∷ []
  pub result_plus_9 : row_numbers (row_of built_in 0 (ascii "N NT +9")) ≡ 0 ∷ 0 ∷ 9 ∷ []
  -- `North n 9` sets N NT, the cell 0.
  pub north_notrump : row_numbers (row_of built_in 0 (ascii "North n 9")) ≡ 0 ∷ 0 ∷ 9 ∷ []
  -- Nineteen cells: 15, carrying 1.
  pub nineteen_cells : table_numbers (table_of_rows built_in (ascii "N NT 7\nN S 7\nN H 7\nN D 7\nN C 7\nS NT 7\nS S 7\nS H 7\nS D 7\nS C 7\nE NT 7\nE S 7\nE H 7\nE D 7\nE C 7\nW NT 7\nW S 7\nW H 7\nW D 7\n")) ≡ 15 ∷ 0 ∷ 1 ∷ []
  -- Nineteen digits: 8; twenty with e: 9, carrying the place of the e.
  pub nineteen_digits : table_numbers (table_of_digits (ascii "0123456789abcd01234")) ≡ 8 ∷ 0 ∷ 19 ∷ []
  pub digit_e : table_numbers (table_of_digits (ascii "0123456789abcde01234")) ≡ 9 ∷ 0 ∷ 14 ∷ []
  -- Result tag -128 kept: present (word 7), and 0 once 128 is added (word 8). -129 absent.
  pub result_128_present : words_of 7 (ascii "[Result \"-128\"]") ≡ 1 ∷ []
  pub result_128_kept : words_of 8 (ascii "[Result \"-128\"]") ≡ 0 ∷ []
  pub result_129_absent : words_of 7 (ascii "[Result \"-129\"]") ≡ 0 ∷ []
