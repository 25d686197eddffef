use borrow.Author.Tests.{ne_eqb}
use Rattle.lin.specs.BiddingSteps.{last_text}
use Rattle.tables.proofs.PutsLaws.{puts_then}
use Rattle.lin.proofs.bidding.put_contract.Goals as goal

pub returns : goal.returns
unfolding last_text
returns c = rw (ne_eqb _ _ c.if-k-eq0.false, ne_eqb _ _ c.if-k-eq0-2.false) (puts_then c.put_call.ensures c.put_call-2.ensures)
