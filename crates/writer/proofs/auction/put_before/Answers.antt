use Rattle.tables.proofs.PutsLaws.{puts_nothing}
use Rattle.writer.specs.Items.{before_call}
use borrow.Author.Tests.{ne_eqb}
use Rattle.writer.proofs.auction.put_before.Goals as goal

pub returns-then-n-eq0 : goal.returns-then-n-eq0
unfolding before_call
returns-then-n-eq0 c =
    rw c.if-n-eq0.true (puts_nothing _)

pub returns-then-n-eq0-2 : goal.returns-then-n-eq0-2
unfolding before_call
returns-then-n-eq0-2 c =
    rw (ne_eqb _ _ c.if-n-eq0.false, c.if-n-eq0-2.true) c.put_byte.ensures

pub returns : goal.returns
unfolding before_call
returns c =
    rw (ne_eqb _ _ c.if-n-eq0.false, ne_eqb _ _ c.if-n-eq0-2.false) c.put_byte-2.ensures
