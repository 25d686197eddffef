use Rattle.tables.proofs.PutsLaws.{puts_then}
use Rattle.writer.proofs.tags.put_open.Goals as goal

pub returns : goal.returns
returns c =
    puts_then (puts_then c.put_byte.ensures c.put_text.ensures) c.put_text-2.ensures
