use Rattle.tables.proofs.PutsLaws.{puts_then}
use Rattle.listing_text.proofs.listing.put_listing.Goals as goal

pub returns : goal.returns
returns c = puts_then c.put_lines.ensures c.put_total.ensures
