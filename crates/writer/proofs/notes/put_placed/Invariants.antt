use Prim.Native.Nat.{◌-◌}
use Rattle.tables.proofs.PutsLaws.{PutsLeft}
use Rattle.writer.specs.Items.{all_notes, full_notes, items_of}
use Rattle.writer.proofs.notes.put_placed.Given as goal

abbrev pub invariant-loop-n : goal.invariant-loop-n
invariant-loop-n l =
    PutsLeft l.fn.page (all_notes l.notes.items.text.now l.notes.items.entries.now l.notes.places (items_of l.remarks)) l.page (full_notes l.notes.items.text.now l.notes.items.entries.now l.notes.places (256 - l.n) l.n l.fresh (items_of l.remarks))
