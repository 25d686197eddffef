use Rattle.tables.proofs.PutsLaws.{puts_nothing, puts_then}
use Rattle.writer.specs.BoardTexts.{table_text}
use Rattle.writer.specs.Items.{tag_line_text, tagged_text}
use borrow.Author.Tests.{ne_eqb}
use Rattle.writer.proofs.board.put_table.Goals as goal

pub returns-then-word-eq-NO_TABLE : goal.returns-then-word-eq-NO_TABLE
unfolding table_text
returns-then-word-eq-NO_TABLE c =
    rw (← c.word.ensures.0, c.if-word-eq-NO_TABLE.true) (puts_nothing _)

pub returns : goal.returns
unfolding table_text tagged_text tag_line_text
returns c =
    rw (← c.word.ensures.0, ne_eqb _ _ c.if-word-eq-NO_TABLE.false) (puts_then (puts_then (puts_then c.put_open.ensures c.put_digits.ensures) c.put_close.ensures) c.put_after.ensures)
