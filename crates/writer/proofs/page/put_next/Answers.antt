use Rattle.tables.proofs.PutsLaws.{puts_then}
use Rattle.writer.specs.BoardTexts.{body_held, lead_held, next_held}
use Rattle.writer.proofs.page.put_next.Goals as goal

pub returns : goal.returns
unfolding next_held lead_held body_held
returns c =
    let e = c.new-board.ensures in
    puts_then (puts_then c.put_byte.ensures (rw e.remarks_are at c.put_lead.ensures)) (rw (e.remarks_are, e.same_text, e.same_cards, e.same_entries, e.index_is) at c.put_body.ensures)
