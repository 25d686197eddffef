use Rattle.tables.proofs.PutsLaws.{puts_nothing, puts_then}
use Rattle.writer.specs.Items.{full_note}
use Rattle.writer.proofs.notes.put_full_note.Goals as goal

pub returns-then-fresh : goal.returns-then-fresh
unfolding full_note
returns-then-fresh c =
    puts_then (puts_then c.put_note.ensures c.put_taken.ensures) (rw c.if-fresh.true c.put_under.ensures)

pub returns-else-fresh : goal.returns-else-fresh
unfolding full_note
returns-else-fresh c =
    puts_then (puts_then c.put_note.ensures c.put_taken.ensures) (rw c.if-fresh.false (puts_nothing _))
