use Rattle.lin.specs.PlayingSteps.{trick_text}
use Rattle.tables.proofs.PutsLaws.{puts_then}
use Rattle.lin.proofs.playing.put_line.Goals as goal

pub returns : goal.returns
unfolding trick_text
returns c = puts_then (puts_then (puts_then (puts_then (puts_then (puts_then (puts_then c.put_word.ensures c.put_byte.ensures) c.put_word-2.ensures) c.put_byte-2.ensures) c.put_word-3.ensures) c.put_byte-3.ensures) c.put_word-4.ensures) c.put_byte-4.ensures
