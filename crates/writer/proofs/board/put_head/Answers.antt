use Rattle.tables.proofs.PutsLaws.{puts_then}
use Rattle.writer.specs.BoardTexts.{head_text}
use Rattle.writer.proofs.board.put_head.Goals as goal

pub returns : goal.returns
unfolding head_text
returns c =
    puts_then (puts_then (puts_then c.put_title.ensures c.put_players.ensures) c.put_dealer.ensures) c.put_vulnerable.ensures
