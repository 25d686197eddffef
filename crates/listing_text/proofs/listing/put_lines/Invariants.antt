-- The invariant: the lines of the boards that are left are still to be put.
use Rattle.tables.proofs.PutsLaws.{PutsLeft}
use Rattle.planning.specs.States.{board_plans}
use Rattle.planning.proofs.BoardLaws.{boards_left}
use Rattle.listing_text.specs.Listing.{listing_lines}
use Rattle.listing_text.proofs.listing.put_lines.Given as goal

abbrev pub invariant-loop-k : goal.invariant-loop-k
invariant-loop-k l = PutsLeft l.initial.page (listing_lines (board_plans l.olds l.news)) l.page (listing_lines (boards_left l.olds l.news l.k))
