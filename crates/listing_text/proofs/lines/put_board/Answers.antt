use Rattle.listing_text.specs.Listing.{board_line}
use Rattle.tables.proofs.PutsLaws.{puts_then}
use Rattle.listing_text.proofs.lines.put_board.Goals as goal

pub returns : goal.returns
unfolding board_line
returns c = puts_then (puts_then (puts_then c.put_pair.ensures (rw c.state_text.ensures at c.put_text.ensures)) (rw c.source.ensures at c.put_pair-2.ensures)) c.put_byte.ensures
