-- Three texts put one after the other.
use Rattle.tables.specs.Tables.{header_text}
use Rattle.tables.proofs.PutsLaws.{puts_then}
use Rattle.tables.proofs.TableLaws.{width_any}
use Rattle.tables.proofs.dd.put_header.Goals as goal
use Rattle.tables.proofs.dd.put_header.Goals.{then-is_wide, else-is_wide}

pub returns : goal.returns
unfolding header_text
returns c =
    elim c.if-is_wide.branch [
      | then-is_wide w ↦ rw (width_any c.args.table.now, ← c.is_wide.ensures, w.if-is_wide.true) (puts_then (puts_then c.put_text.ensures (rw w.put_byte-is at c.put_byte.ensures)) c.put_byte-2.ensures)
      | else-is_wide w ↦ rw (width_any c.args.table.now, ← c.is_wide.ensures, w.if-is_wide.false) (puts_then (puts_then c.put_text.ensures (rw w.put_byte-is at c.put_byte.ensures)) c.put_byte-2.ensures)
    ]
