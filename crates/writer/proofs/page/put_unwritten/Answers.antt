use Rattle.tables.proofs.PutsLaws.{puts_nothing, puts_then}
use Rattle.writer.proofs.page.put_unwritten.Goals as goal

pub returns : goal.returns
returns c =
    rw (← c.present_at-present.ensures) (puts_then c.put_lost.ensures c.put_lost-2.ensures)
