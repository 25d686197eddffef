-- An edition: the cards and entries of its records, as they are handed back, and refusals 1 to 3.
use Rattle.std.specs.Prelude.{ℕ, ◌+◌, ◌/◌, ◌≡◌, List, [], ◌∷◌, ◌++◌, map, cond, ltb, eqb, length, Result, Ok, Err, is_ok}
use Rattle.tables.specs.declared.letters.Conventions.{Conventions}
use Rattle.reader.specs.declared.board.Values.{Values}
use Rattle.reader.specs.declared.board.Section.{Section}
use Rattle.reader.specs.declared.board.Board.{Board}
use Rattle.reader.specs.declared.edition.Counts.{Counts}
use Rattle.reader.specs.declared.edition.ReadRefusal.{ReadRefusal}
use Rattle.reader.specs.declared.edition.ReadRefusal.TheVariants.{Overlong, BoxFull, ListFull}
use Rattle.reader.specs.Store.{low_word, lent, entry_words}
use Rattle.reader.specs.Boards.{record_out}
use Rattle.reader.specs.Records.{records_of}

-- ---- refusals: 1 overlong (the length), 2 box full (the boards), 3 list full (the entries)

abbrev pub read_number : ReadRefusal → ℕ
read_number (Overlong n) = 1
read_number (BoxFull n) = 2
read_number (ListFull n) = 3

abbrev pub read_carries : ReadRefusal → ℕ
read_carries (Overlong n) = n
read_carries (BoxFull n) = n
read_carries (ListFull n) = n

-- ---- the 64 words of a card

-- An entry of the record, plus 1, as one of the edition, before whose record n entries stand; 0 stays absent.
abbrev pub entry_place : ℕ → ℕ → ℕ
entry_place n x = cond (eqb x 0) 0 (low_word (n + x))

-- Words 0 to 9: entries, number, dealer, vulnerability (None where none was read), declarer, result, deal.
abbrev pub head_words : ℕ → ℕ → Board → List ℕ
head_words n count b =
    low_word n ∷ low_word count
    ∷ low_word b.id.number_met ∷ low_word b.id.number
    ∷ low_word b.id.dealer ∷ low_word (cond (eqb b.id.vulnerability 4) 0 b.id.vulnerability)
    ∷ low_word b.id.declarer
    ∷ low_word b.id.result_met ∷ low_word b.id.result
    ∷ low_word b.deal.kind ∷ []

-- Words 39 to 50: value entries.
abbrev pub value_words : ℕ → Values → List ℕ
value_words n v =
    entry_place n v.id ∷ entry_place n v.event ∷ entry_place n v.site ∷ entry_place n v.date ∷ entry_place n v.contract
    ∷ entry_place n v.north ∷ entry_place n v.east ∷ entry_place n v.south ∷ entry_place n v.west
    ∷ entry_place n v.deal ∷ entry_place n v.score ∷ entry_place n v.par ∷ []

-- Words 51 to 54 and 55 to 58: first entry, entries, seat, end.
abbrev pub section_words : ℕ → Section → List ℕ
section_words n s = entry_place n s.first ∷ low_word s.count ∷ low_word s.seat ∷ low_word s.end ∷ []

-- Words 59 to 63: trump, record start and end, two zeros.
abbrev pub tail_words : ℕ → ℕ → Board → List ℕ
tail_words start end b = low_word b.trump ∷ low_word start ∷ low_word end ∷ 0 ∷ 0 ∷ []

-- Words 38 to 63: the table, values, auction, play, and the tail.
abbrev pub back_words : ℕ → ℕ → ℕ → Board → List ℕ
back_words start end n b =
    (low_word b.table.kind ∷ value_words n b.values) ++ section_words n b.auction ++ section_words n b.play ++ tail_words start end b

-- Words 10 to 17 are the hands, 18 to 37 the cells. The card of a record from start to end, with n entries before it and count of its
-- own.
unfoldable pub card_words : ℕ → ℕ → ℕ → ℕ → Board → List ℕ
card_words start end n count b = head_words n count b ++ b.deal.words ++ b.table.cells ++ back_words start end n b

-- ---- the edition

-- The card of the record r at the place a, n entries before it.
abbrev pub card_of : Conventions → ℕ → ℕ → List ℕ → List ℕ
card_of c a n r = card_words a (a + length r) n (length (record_out c r).entries) (record_out c r).state.board

-- The cards of records from the place a on, n entries before them.
abbrev pub cards_from : Conventions → ℕ → ℕ → List (List ℕ) → List (List ℕ)
cards_from c a n [] = []
cards_from c a n (r ∷ rs) = card_of c a n r ∷ cards_from c (a + length r) (n + length (record_out c r).entries) rs

-- Their entries.
abbrev pub entries_from : Conventions → ℕ → List (List ℕ) → List (List ℕ)
entries_from c a [] = []
entries_from c a (r ∷ rs) = map (entry_words a) (record_out c r).entries ++ entries_from c (a + length r) rs

unfoldable pub cards_of : Conventions → List ℕ → List (List ℕ)
cards_of c text = cards_from c 0 0 (records_of text)

unfoldable pub entries_of : Conventions → List ℕ → List (List ℕ)
entries_of c text = entries_from c 0 (records_of text)

-- The answer for lc lent card words and le lent entry words; a tail too short for a card or an entry counts as none.
abbrev pub counts_answer : ℕ → ℕ → Counts → Result Counts ReadRefusal
counts_answer lc le n =
    cond (ltb (lc / 64) n.boards) (Err (BoxFull n.boards))
    (cond (ltb (le / 4) n.entries) (Err (ListFull n.entries)) (Ok n))

-- How many of both a text has.
abbrev pub counts_of : Conventions → List ℕ → Counts
counts_of c text = record { boards = length (cards_of c text); entries = length (entries_of c text) }

unfoldable pub reading_of : Conventions → List ℕ → ℕ → ℕ → Result Counts ReadRefusal
reading_of c text lc le = cond (ltb 16777215 (length text)) (Err (Overlong (length text))) (counts_answer lc le (counts_of c text))

-- ---- the contract

-- The contract of reading: the answer, every card word and every entry word.
pub record IsRead (c : Conventions) (text cards entries : List ℕ) (r : Result Counts ReadRefusal) (cards' entries' : List ℕ) : Type 0 where
  pub answer : r ≡ reading_of c text (length cards) (length entries)
  pub cards_after : cards' ≡ lent (is_ok r) (length cards) (cards_of c text)
  pub entries_after : entries' ≡ lent (is_ok r) (length entries) (entries_of c text)
