use Rattle.tables.proofs.PutsLaws.{puts_then}
use Rattle.writer.specs.BoardTexts.{players_text}
use Rattle.writer.proofs.board.put_players.Goals as goal

pub returns : goal.returns
unfolding players_text
returns c =
    puts_then (puts_then (puts_then c.put_value.ensures c.put_value-2.ensures) c.put_value-3.ensures) c.put_value-4.ensures
