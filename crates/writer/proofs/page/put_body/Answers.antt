use Rattle.tables.proofs.PutsLaws.{puts_then}
use Rattle.writer.proofs.page.put_body.Goals as goal

pub returns : goal.returns
returns c =
    puts_then c.put_front.ensures c.put_back.ensures
