use Rattle.tables.proofs.PutsLaws.{puts_as, puts_nothing}
use Rattle.writer.proofs.NotePlaces.{NotesPut, notes_nothing}
use Rattle.writer.specs.Items.{items_of}
use Rattle.writer.proofs.notes.put_notes.Goals as goal

pub returns-then-has_notes : goal.returns-then-has_notes
returns-then-has_notes c =
    let is = c.args.items.now in
    puts_as
    (NotesPut is.text.now is.entries.now _ is.first is.count (items_of c.args.remarks.now) c.set_places.ensures)
    c.put_placed.ensures
