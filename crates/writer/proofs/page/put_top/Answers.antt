use Rattle.writer.proofs.PageLaws.{header_built, header_own}
use Rattle.writer.proofs.page.put_top.Goals as goal

pub returns-then-page-start : goal.returns-then-page-start
returns-then-page-start c =
    header_built c.put_lead.ensures c.if-page-start.true c.put_header.ensures

pub returns-else-page-start : goal.returns-else-page-start
returns-else-page-start c =
    header_own c.put_lead.ensures c.if-page-start.false c.put_byte.ensures
