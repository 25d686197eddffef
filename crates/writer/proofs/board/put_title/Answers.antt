use Rattle.tables.proofs.PutsLaws.{puts_then}
use Rattle.writer.specs.BoardTexts.{title_text}
use Rattle.writer.proofs.board.put_title.Goals as goal

pub returns : goal.returns
unfolding title_text
returns c =
    puts_then (puts_then (puts_then c.put_value.ensures c.put_value-2.ensures) c.put_value-3.ensures) c.put_optional.ensures
