use Rattle.tables.proofs.PutsLaws.{puts_then}
use Rattle.writer.specs.Items.{play_text}
use Rattle.writer.proofs.play.put_play.Goals as goal

pub returns : goal.returns
unfolding play_text
returns c =
    puts_then c.put_tricks.ensures c.put_end.ensures
