use Rattle.reader.proofs.CardSets.{bit_is}
use Rattle.reader.specs.Deals.{has}
use Rattle.reader.proofs.deal.holds.Goals as goal

pub returns : goal.returns
unfolding has
returns c = rw (bit_is c.args.k c.args.x)
