use Rattle.tables.proofs.PutsLaws.{puts_nothing, puts_then}
use Rattle.writer.proofs.RemarkLaws.{items_made}
use Rattle.writer.specs.BoardTexts.{cards_text}
use Rattle.writer.specs.Held.{section_items}
use Rattle.writer.specs.Items.{tag_line_text}
use borrow.Author.Tests.{ne_eqb}
use Rattle.writer.proofs.board.put_cards.Goals as goal

pub returns-in_default : goal.returns-in_default
unfolding cards_text
returns-in_default c =
    rw c.in_default.ensures (puts_nothing _)

pub returns : goal.returns
unfolding cards_text section_items tag_line_text
returns c =
    let t = c.in-Some.ensures in
    rw (ne_eqb _ _ t.0) (puts_then (puts_then (puts_then (puts_then c.put_open.ensures (rw c.word.ensures.0 at c.put_seat.ensures)) c.put_close.ensures) (rw (items_made t.1, c.word-2.ensures.0) at c.put_play.ensures)) c.put_after.ensures)
