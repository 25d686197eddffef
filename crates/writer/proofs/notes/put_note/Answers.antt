use Rattle.tables.proofs.PutsLaws.{puts_then}
use Rattle.writer.specs.Items.{note_text, tag_line_text}
use Rattle.writer.proofs.notes.put_note.Goals as goal

pub returns : goal.returns
unfolding tag_line_text note_text
returns c =
    puts_then (puts_then c.put_open.ensures (rw (c.from.ensures, c.index_of-k.ensures.0, c.bytes_at-value.ensures) at (puts_then (puts_then c.put_decimal.ensures c.put_byte.ensures) c.put_text.ensures))) c.put_close.ensures
