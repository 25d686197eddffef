use Rattle.listing_text.specs.Listing.{total_line}
use Rattle.tables.proofs.PutsLaws.{puts_then}
use Rattle.listing_text.proofs.lines.put_total.Goals as goal

pub returns : goal.returns
unfolding total_line
returns c = puts_then (puts_then (puts_then (puts_then (puts_then (puts_then (puts_then c.put_pair.ensures c.put_pair-2.ensures) c.put_pair-3.ensures) c.put_pair-4.ensures) c.put_pair-5.ensures) c.put_pair-6.ensures) c.put_pair-7.ensures) c.put_byte.ensures
