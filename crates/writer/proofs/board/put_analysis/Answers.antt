use Rattle.tables.proofs.PutsLaws.{puts_then}
use Rattle.writer.specs.BoardTexts.{analysis_text}
use Rattle.writer.proofs.board.put_analysis.Goals as goal

pub returns : goal.returns
unfolding analysis_text
returns c =
    puts_then (puts_then c.put_table.ensures c.put_optional.ensures) c.put_optional-2.ensures
