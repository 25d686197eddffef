use Prim.Native.Nat.{◌≤◌}
use Rattle.tables.proofs.PutsLaws.{PutsLeft}
use Rattle.writer.proofs.TagLaws.{extras_of}
use Rattle.writer.specs.Items.{items_of}
use Rattle.writer.proofs.tags.put_extras.Given as goal

abbrev pub invariant-loop-entry : goal.invariant-loop-entry
invariant-loop-entry l =
    PutsLeft l.fn.page (extras_of (items_of l.remarks) l.first l.items) l.page (extras_of (items_of l.remarks) l.first l.entry-iterator) × (l.first ≤ l.entry-iterator.first)
