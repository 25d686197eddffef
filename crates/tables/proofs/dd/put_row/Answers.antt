-- Five texts put one after the other.
use Rattle.tables.specs.Tables.{row_text}
use Rattle.tables.proofs.PutsLaws.{puts_then}
use Rattle.tables.proofs.dd.put_row.Goals as goal

pub returns : goal.returns
unfolding row_text
returns c =
    puts_then (puts_then (puts_then (puts_then (rw (c.seat_letter.ensures, c.row_order.ensures.0) at c.put_byte.ensures) c.put_byte-2.ensures) c.put_column.ensures) c.put_byte-3.ensures) c.put_right.ensures
