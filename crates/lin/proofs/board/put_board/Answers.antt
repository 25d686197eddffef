use Rattle.tables.proofs.PutsLaws.{puts_then}
use Rattle.lin.specs.BoardSteps.{survey_text}
use Rattle.lin.proofs.board.put_board.Goals as goal

pub returns : goal.returns
unfolding survey_text
returns c =
    rw (← c.declarer_of-declarer.ensures) (puts_then c.put_head.ensures (puts_then c.put_result.ensures (puts_then c.put_auction.ensures c.put_play.ensures)))
