use Rattle.tables.proofs.PutsLaws.{PutsLeft}
use Rattle.writer.specs.Items.{items_of, tricks_text}
use Rattle.writer.proofs.play.put_tricks.Given as goal

abbrev pub invariant-loop-entry : goal.invariant-loop-entry
invariant-loop-entry l =
    PutsLeft l.fn.page (tricks_text l.c (items_of l.items)) l.page (tricks_text l.c (items_of l.entry-iterator))
