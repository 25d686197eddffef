-- Blank where no field is left at the start; else three fields exactly where a third begins and no fourth.
use mathlib.Core.Path.{◌∙◌}
use Rattle.tables.proofs.Laws.{is_empty_yes, is_empty_no}
use Rattle.tables.proofs.TableLaws.{row_blank, row_short, row_long, row_three}
use Rattle.tables.proofs.dd.read_row.Goals as goal
use Rattle.tables.proofs.dd.read_row.Goals.{then-is_empty-2-via-then-is_empty-2, then-is_empty-2-via-else-is_empty-2+then-not-is_empty}

pub returns-then-is_empty : goal.returns-then-is_empty
returns-then-is_empty c =
    let a = c.args in
    row_blank a.c a.n a.row.now (rw c.trim_start-first.ensures at (is_empty_yes _ c.is_empty.ensures c.if-is_empty.true))

pub returns-then-is_empty-2 : goal.returns-then-is_empty-2
returns-then-is_empty-2 c =
    let a = c.args in
    let first = is_empty_no _ c.is_empty.ensures c.if-is_empty.false in
    elim c.then-is_empty-2.branch [
      | then-is_empty-2-via-then-is_empty-2 w ↦ row_short a.c a.n a.row.now _ _ _ c.trim_start-first.ensures first c.next_words-second.ensures c.next_words-third.ensures (is_empty_yes _ c.is_empty-2.ensures w.if-is_empty-2.true)
      | then-is_empty-2-via-else-is_empty-2+then-not-is_empty w ↦ row_long a.c a.n a.row.now _ _ _ c.trim_start-first.ensures first c.next_words-second.ensures c.next_words-third.ensures (is_empty_no _ c.is_empty-2.ensures w.if-is_empty-2.false) (rw w.next_words.ensures at (is_empty_no _ w.is_empty-else-is_empty-2.ensures w.if-not-is_empty.true))
    ]

pub returns : goal.returns
returns c =
    let a = c.args in
    let first = is_empty_no _ c.is_empty.ensures c.if-is_empty.false in
    c.read_fields.ensures ∙ rw (c.first_word.ensures, c.first_word-2.ensures, c.first_word-3.ensures)
    (row_three a.c a.n a.row.now _ _ _ c.trim_start-first.ensures first c.next_words-second.ensures c.next_words-third.ensures (is_empty_no _ c.is_empty-2.ensures c.if-is_empty-2.false) (rw c.next_words.ensures at (is_empty_yes _ c.is_empty-else-is_empty-2.ensures c.if-not-is_empty.false)))
