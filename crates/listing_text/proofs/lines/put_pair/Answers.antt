use Rattle.tables.proofs.PutsLaws.{puts_then}
use Rattle.listing_text.proofs.lines.put_pair.Goals as goal

pub returns : goal.returns
returns c = puts_then c.put_text.ensures c.put_decimal.ensures
