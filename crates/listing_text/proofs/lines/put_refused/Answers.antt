use Rattle.listing_text.proofs.LineLaws.{number_low}
use Rattle.listing_text.specs.Listing.{refused_line}
use Rattle.tables.proofs.PutsLaws.{puts_then}
use Rattle.listing_text.proofs.lines.put_refused.Goals as goal

pub put_pair-requires : goal.put_pair-requires
put_pair-requires c = rw c.number.ensures (number_low c.args.f)

pub returns : goal.returns
unfolding refused_line
returns c = puts_then (puts_then (puts_then (rw c.number.ensures at c.put_pair.ensures) c.put_text.ensures) (rw c.edition.ensures at c.put_edition.ensures)) c.put_byte.ensures
