use Rattle.tables.proofs.PutsLaws.{puts_all, puts_first, puts_next, puts_same}
use Rattle.writer.proofs.NotePlaces.{full_none, full_note_lem, full_over}
use Rattle.writer.specs.Items.{all_notes, items_of}
use Rattle.writer.proofs.notes.put_placed.Goals.{else-place-ne0, then-place-ne0}
use Rattle.writer.proofs.notes.put_placed.Goals as goal

pub loop-n-init : goal.loop-n-init
unfolding all_notes
loop-n-init c =
    puts_first _ _

pub loop-n-preserved : goal.loop-n-preserved
loop-n-preserved c =
    let l = c.loop-n in
    elim c.if-place-ne0.branch [
      | then-place-ne0 w ↦ rw (w.page-is, w.fresh-is) (puts_next _ _ (puts_same (full_note_lem c.args.notes.now.items.text.now c.args.notes.now.items.entries.now c.args.notes.now.places l.n l.fresh (items_of c.args.remarks.now) c.loop-n-test.true w.if-place-ne0.true) l.invariant) w.put_full_note.ensures)
      | else-place-ne0 w ↦ rw (w.page-is, w.fresh-is) (puts_same (full_none c.args.notes.now.items.text.now c.args.notes.now.items.entries.now c.args.notes.now.places l.n l.fresh (items_of c.args.remarks.now) c.loop-n-test.true w.if-place-ne0.false) l.invariant)
    ]
