use Rattle.tables.proofs.PutsLaws.{puts_then}
use Rattle.writer.specs.Items.{after_text}
use Rattle.writer.proofs.remarks.put_after.Goals as goal

pub returns : goal.returns
unfolding after_text
returns c =
    puts_then c.put_under.ensures c.put_under-2.ensures
