use Rattle.tables.proofs.PutsLaws.{puts_nothing, puts_then}
use Rattle.writer.specs.Tags.{result_text}
use borrow.Author.Tests.{le-ltb, lt-ltb}
use Rattle.writer.proofs.tokens.put_result.Goals as goal

pub returns-then-n-lt128 : goal.returns-then-n-lt128
unfolding result_text
returns-then-n-lt128 c =
    rw (c.in-Some.is, lt-ltb _ _ c.if-n-lt128.true) (puts_then c.put_byte.ensures c.put_decimal.ensures)

pub returns : goal.returns
unfolding result_text
returns c =
    rw (c.in-Some.is, le-ltb _ _ c.if-n-lt128.false) c.put_decimal-2.ensures
