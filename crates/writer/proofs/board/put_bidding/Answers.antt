use Rattle.tables.proofs.PutsLaws.{puts_nothing, puts_then}
use Rattle.writer.proofs.RemarkLaws.{items_made}
use Rattle.writer.specs.BoardTexts.{bidding_text}
use Rattle.writer.specs.Held.{section_items}
use Rattle.writer.specs.Items.{tag_line_text}
use borrow.Author.Tests.{ne_eqb}
use native.Mathlib.Omega.{arith}
use Rattle.writer.proofs.board.put_bidding.Goals as goal

pub returns-in_default : goal.returns-in_default
unfolding bidding_text
returns-in_default c =
    rw c.in_default.ensures (puts_nothing _)

pub returns : goal.returns
unfolding bidding_text section_items tag_line_text
returns c =
    let t = c.in-Some.ensures in
    let u = c.items_from.ensures in
    rw (ne_eqb _ _ t.0) (puts_then (puts_then (puts_then (puts_then (puts_then c.put_open.ensures (rw c.word.ensures.0 at c.put_seat.ensures)) c.put_close.ensures) (rw (items_made t.1, c.word-2.ensures.0) at c.put_auction.ensures)) c.put_after.ensures) (rw (u.same_text, u.same_entries, u.first_is, u.count_is, t.1.first_is) at c.put_notes.ensures))
