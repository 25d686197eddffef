use Rattle.tables.proofs.PutsLaws.{puts_nothing, puts_then}
use Rattle.writer.specs.Items.{auction_text}
use Rattle.writer.proofs.auction.put_auction.Goals as goal

pub returns-then-not-ends_with_plus : goal.returns-then-not-ends_with_plus
unfolding auction_text
returns-then-not-ends_with_plus c =
    rw (← c.ends_with_plus.ensures, c.if-not-ends_with_plus.true) (puts_then c.put_calls.ensures c.put_end.ensures)

pub returns-else-not-ends_with_plus : goal.returns-else-not-ends_with_plus
unfolding auction_text
returns-else-not-ends_with_plus c =
    rw (← c.ends_with_plus.ensures, c.if-not-ends_with_plus.false) (puts_then c.put_calls.ensures (puts_nothing _))
