use Rattle.reader.specs.Plain.{TagPair}
use Rattle.tables.proofs.PutsLaws.{PutsLeft}
use Rattle.writer.specs.declared.items.Items.{Items}
use Rattle.writer.specs.Items.{items_of, remarks_text, tag_of}
use mathlib.Core.Bool.{Bool}
use mathlib.Core.Path.{◌≡◌}
use Rattle.writer.proofs.remarks.put_remarks.Given as goal

abbrev pub invariant-loop-entry : goal.invariant-loop-entry
invariant-loop-entry g l =
    (p : TagPair → Bool) → ((entry : Items) (r : Bool) → goal.F-post g l.takes entry r → r ≡ p (tag_of entry))
    → PutsLeft l.fn.page (remarks_text p l.first l.kind (items_of l.items)) l.page (remarks_text p l.under l.kind (items_of l.entry-iterator))
