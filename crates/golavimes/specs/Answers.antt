-- What the C functions hand back. An answer array is: refusal number (0 none), edition (0 none), carried number, then the values, which
-- are 0 after a refusal. Each function also returns the refusal number.
use Rattle.std.specs.Prelude.{ℕ, ◌-◌, ◌≡◌, List, [], ◌∷◌, length, get_or, replicate, Option, Some, None, Result, Ok, Err, is_ok}
use Rattle.tables.specs.Refusals.{refusal_number, refusal_carries, edition_number}
use Rattle.tables.specs.Page.{answer_of, page_of}
use Rattle.tables.specs.Tables.{TableReading}
use Rattle.tables.specs.declared.letters.Conventions.{Conventions}
use Rattle.reader.specs.declared.edition.Counts.{Counts}
use Rattle.reader.specs.declared.edition.ReadRefusal.{ReadRefusal}
use Rattle.reader.specs.Store.{lent}
use Rattle.reader.specs.Editions.{read_number, read_carries, reading_of, cards_of, entries_of}
use Rattle.planning.specs.declared.state.BoardState.{BoardState}
use Rattle.planning.specs.declared.behind.Behind.{Behind}
use Rattle.planning.specs.declared.plan.PlanRefusal.{PlanRefusal}
use Rattle.planning.specs.declared.plan.PlanRefusal.TheVariants.{Edition}
use Rattle.planning.specs.States.{state_number, from_of}
use Rattle.planning.specs.Slips.{slips_of}
use Rattle.planning.specs.Plans.{plan_number, plan_edition, plan_carries, Boxes, editions_of, planning_of, plans_of, BoxesAfter, state_by, behind_by, boards_after, searches_after, words_by, Editions, Planning}
use Rattle.writer.specs.declared.write.WriteRefusal.{WriteRefusal}
use Rattle.writer.specs.Writings.{write_number, write_carries, writing_of, IsWritten}
use Rattle.writer.specs.declared.finish.FinishRefusal.{FinishRefusal}
use Rattle.writer.specs.Finishings.{finish_number, finish_edition, finish_carries, finishing_of, IsFinished}
use Rattle.lin.specs.declared.convert.Converted.{Converted}
use Rattle.lin.specs.declared.convert.LinRefusal.{LinRefusal}
use Rattle.lin.specs.Conversions.{lin_number, lin_carries, converted_of, IsConverted}
use Rattle.tables.specs.declared.refusal.Refusal.{Refusal}

-- The answer of what was written: the bytes. What a refusal tells is given.
abbrev pub bytes_numbers : {E : Type 0} → (E → ℕ) → (E → ℕ) → (E → ℕ) → Result ℕ E → List ℕ
bytes_numbers number edition carries (Ok n) = 0 ∷ 0 ∷ 0 ∷ n ∷ []
bytes_numbers number edition carries (Err f) = number f ∷ edition f ∷ carries f ∷ 0 ∷ []

-- A writer's answer.
abbrev pub written_numbers : Result ℕ Refusal → List ℕ
written_numbers r = bytes_numbers refusal_number (λ f. 0) refusal_carries r

-- A reader's answer has no values.
abbrev pub decoded_numbers : TableReading → List ℕ
decoded_numbers (Ok cells) = 0 ∷ 0 ∷ 0 ∷ []
decoded_numbers (Err f) = refusal_number f ∷ 0 ∷ refusal_carries f ∷ []

-- The table that it leaves, all zero after a refusal.
abbrev pub table_left : TableReading → List ℕ
table_left (Ok cells) = cells
table_left (Err f) = replicate 20 0

-- An edition's answer: its boards and entries.
abbrev pub reading_numbers : Result Counts ReadRefusal → List ℕ
reading_numbers (Ok n) = 0 ∷ 0 ∷ 0 ∷ n.boards ∷ n.entries ∷ []
reading_numbers (Err f) = read_number f ∷ 0 ∷ read_carries f ∷ 0 ∷ 0 ∷ []

-- A written edition's answer, and a finished one's.
abbrev pub writing_numbers : Result ℕ WriteRefusal → List ℕ
writing_numbers r = bytes_numbers write_number (λ f. 0) write_carries r

abbrev pub finishing_numbers : Result ℕ FinishRefusal → List ℕ
finishing_numbers r = bytes_numbers finish_number finish_edition finish_carries r

-- A converted LIN text's answer: the bytes written and the boards.
abbrev pub converted_numbers : Result Converted LinRefusal → List ℕ
converted_numbers (Ok k) = 0 ∷ 0 ∷ 0 ∷ k.bytes ∷ k.boards ∷ []
converted_numbers (Err f) = lin_number f ∷ 0 ∷ lin_carries f ∷ 0 ∷ 0 ∷ []

-- The first three numbers of planning's answers: refusal, edition (0 none, 1 old, 2 new), carried number.
pub record Head : Type 0 where
  pub refusal : ℕ
  pub edition : ℕ
  pub carried : ℕ

abbrev pub refused_head : PlanRefusal → Head
refused_head f = record { refusal = plan_number f; edition = plan_edition f; carried = plan_carries f }

abbrev pub editions_head : Editions → Head
editions_head (Ok n) = record { refusal = 0; edition = 0; carried = 0 }
editions_head (Err f) = refused_head (Edition f)

abbrev pub head_then : Head → List ℕ → List ℕ
head_then h values = h.refusal ∷ h.edition ∷ h.carried ∷ values

-- A plan's answer: the totals.
abbrev pub plan_numbers : Planning → List ℕ
plan_numbers (Ok t) = 0 ∷ 0 ∷ 0 ∷ t.boards ∷ t.blank ∷ t.own ∷ t.old ∷ t.near ∷ t.twin ∷ t.solve ∷ []
plan_numbers (Err f) = head_then (refused_head f) (0 ∷ 0 ∷ 0 ∷ 0 ∷ 0 ∷ 0 ∷ 0 ∷ [])

-- A state's answer: its number (0 blank to 5 solve) and its source board.
abbrev pub state_numbers : Editions → BoardState → List ℕ
state_numbers r s = head_then (editions_head r) (state_number s ∷ from_of s ∷ [])

-- A record's answer: the edition of the part (0 empty, 1 old, 2 new), its start and its length.
abbrev pub part_numbers : Option Behind → List ℕ
part_numbers (Some b) = edition_number b.edition ∷ b.start ∷ (b.end - b.start) ∷ []
part_numbers None = 0 ∷ 0 ∷ 0 ∷ []

abbrev pub record_numbers : Editions → Option Behind → List ℕ
record_numbers r b = head_then (editions_head r) (part_numbers b)

-- The boards of the new edition.
abbrev pub new_boards : Editions → ℕ
new_boards (Ok n) = n.new.boards
new_boards (Err f) = 0

abbrev pub boards_numbers : Editions → List ℕ
boards_numbers r = head_then (editions_head r) (new_boards r ∷ [])

-- The answer of all searches: the boards, and the words compared for them.
abbrev pub searches_numbers : Editions → ℕ → List ℕ
searches_numbers r words = head_then (editions_head r) (new_boards r ∷ words ∷ [])

-- bs is written on a lent page, whatever the page and the answer held.
pub record WroteOut (bs page page' answer' : List ℕ) (r : ℕ) : Type 0 where
  pub told : answer' ≡ written_numbers (answer_of bs (length page))
  pub page_left : page' ≡ page_of bs (length page)
  pub returned : r ≡ get_or answer' 0 0

-- A table is read into a lent one, whatever that and the answer held.
pub record ReadOut (reading : TableReading) (table' answer' : List ℕ) (r : ℕ) : Type 0 where
  pub told : answer' ≡ decoded_numbers reading
  pub table_after : table' ≡ table_left reading
  pub returned : r ≡ get_or answer' 0 0

-- A text is read into lent cards and entries, whatever they and the answer held.
pub record EditionOut (c : Conventions) (text cards entries cards' entries' answer' : List ℕ) (r : ℕ) : Type 0 where
  pub told : answer' ≡ reading_numbers (reading_of c text (length cards) (length entries))
  pub cards_after : cards' ≡ lent (is_ok (reading_of c text (length cards) (length entries))) (length cards) (cards_of c text)
  pub entries_after : entries' ≡ lent (is_ok (reading_of c text (length cards) (length entries))) (length entries) (entries_of c text)
  pub returned : r ≡ get_or answer' 0 0

-- A text is read and written on a lent page, whatever was lent and whatever it held.
pub record WritingOut (c : Conventions) (text cards entries page cards' entries' page' answer' : List ℕ) (r : ℕ) : Type 0 where
  pub told : answer' ≡ writing_numbers (writing_of c text (length cards) (length entries) (length page))
  pub lent_after : IsWritten c text cards entries page (writing_of c text (length cards) (length entries) (length page)) cards' entries' page'
  pub returned : r ≡ get_or answer' 0 0

-- Two editions are planned, whatever was lent and whatever it held.
pub record PlanOut (c : Conventions) (old new : List ℕ) (boxes : Boxes) (slips : List ℕ) (boxes' : Boxes) (slips' answer' : List ℕ) (r : ℕ) : Type 0 where
  pub told : answer' ≡ plan_numbers (planning_of c old new boxes (length slips))
  pub boxes_left : BoxesAfter c (is_ok (planning_of c old new boxes (length slips))) old new boxes boxes'
  pub slips_after : slips' ≡ lent (is_ok (planning_of c old new boxes (length slips))) (length slips) (slips_of (plans_of c old new))
  pub returned : r ≡ get_or answer' 0 0

-- The state at a position.
pub record StateOut (c : Conventions) (old new : List ℕ) (boxes boxes' : Boxes) (p : ℕ) (answer' : List ℕ) (r : ℕ) : Type 0 where
  pub told : answer' ≡ state_numbers (editions_of c old new boxes) (state_by (editions_of c old new boxes) (plans_of c old new) p)
  pub boxes_left : BoxesAfter c (is_ok (editions_of c old new boxes)) old new boxes boxes'
  pub returned : r ≡ get_or answer' 0 0

-- The record behind the board at a position.
pub record BehindOut (c : Conventions) (old new : List ℕ) (boxes boxes' : Boxes) (p : ℕ) (answer' : List ℕ) (r : ℕ) : Type 0 where
  pub told : answer' ≡ record_numbers (editions_of c old new boxes) (behind_by (editions_of c old new boxes) c old new p)
  pub boxes_left : BoxesAfter c (is_ok (editions_of c old new boxes)) old new boxes boxes'
  pub returned : r ≡ get_or answer' 0 0

-- Every board's state and the record behind it.
pub record BoardsOut (c : Conventions) (old new : List ℕ) (boxes : Boxes) (numbers : List ℕ) (boxes' : Boxes) (numbers' answer' : List ℕ) (r : ℕ) : Type 0 where
  pub told : answer' ≡ boards_numbers (editions_of c old new boxes)
  pub boxes_left : BoxesAfter c (is_ok (editions_of c old new boxes)) old new boxes boxes'
  pub numbers_after : numbers' ≡ boards_after (editions_of c old new boxes) c old new (length numbers)
  pub returned : r ≡ get_or answer' 0 0

-- Every board's state and the words that its searches compare.
pub record SearchesOut (c : Conventions) (old new : List ℕ) (boxes : Boxes) (numbers : List ℕ) (boxes' : Boxes) (numbers' answer' : List ℕ) (r : ℕ) : Type 0 where
  pub told : answer' ≡ searches_numbers (editions_of c old new boxes) (words_by (editions_of c old new boxes) c old new)
  pub boxes_left : BoxesAfter c (is_ok (editions_of c old new boxes)) old new boxes boxes'
  pub numbers_after : numbers' ≡ searches_after (editions_of c old new boxes) c old new (length numbers)
  pub returned : r ≡ get_or answer' 0 0

-- The new edition is finished on a lent page, whatever was lent and whatever it held.
pub record FinishOut (c : Conventions) (old new : List ℕ) (boxes : Boxes) (answers page : List ℕ) (boxes' : Boxes) (page' answer' : List ℕ) (r : ℕ) : Type 0 where
  pub told : answer' ≡ finishing_numbers (finishing_of c old new boxes answers (length page))
  pub lent_after : IsFinished c old new boxes answers page (finishing_of c old new boxes answers (length page)) boxes' page'
  pub returned : r ≡ get_or answer' 0 0

-- A LIN text is converted to a lent page, whatever that and the answer held.
pub record LinOut (c : Conventions) (text page page' answer' : List ℕ) (r : ℕ) : Type 0 where
  pub told : answer' ≡ converted_numbers (converted_of c text (length page))
  pub lent_after : IsConverted c text page (converted_of c text (length page)) page'
  pub returned : r ≡ get_or answer' 0 0
