use Rattle.tables.proofs.PutsLaws.{puts_then}
use Rattle.writer.specs.BoardTexts.{body_held, lead_held, page_held}
use borrow.Author.Tests.{ne_eqb}
use Rattle.writer.proofs.page.put_page.Goals as goal

pub returns-then-edition-eq0 : goal.returns-then-edition-eq0
unfolding page_held
returns-then-edition-eq0 c =
    rw c.if-edition-eq0.true c.put_header.ensures

pub returns : goal.returns
unfolding page_held lead_held body_held
returns c =
    let e = c.new-board.ensures in
    rw (ne_eqb _ _ c.if-edition-eq0.false) (puts_then (puts_then (rw e.remarks_are at c.put_top.ensures) (rw (e.remarks_are, e.same_text, e.same_cards, e.same_entries, e.index_is) at c.put_body.ensures)) c.put_parts.ensures)
