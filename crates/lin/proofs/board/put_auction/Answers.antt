use Rattle.tables.proofs.PutsLaws.{puts_then}
use Rattle.lin.specs.BoardSteps.{lin_auction_text}
use Rattle.lin.proofs.board.put_auction.Goals as goal

pub returns-then-s : goal.returns-then-s
unfolding lin_auction_text
returns-then-s c =
    rw c.if-s.true (puts_then c.put_text.ensures (puts_then c.put_seat.ensures (puts_then c.put_text-then-s.ensures c.put_calls.ensures)))
