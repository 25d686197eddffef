use Rattle.tables.proofs.PageLaws.{decimal_one}
use Rattle.tables.proofs.page.Page.put_decimal.Goals as goal

pub returns-then-n-lt10 : goal.returns-then-n-lt10
returns-then-n-lt10 c = rw (decimal_one c.args.n c.if-n-lt10.true) c.put_byte.ensures
