use Prim.Native.Nat.{◌-◌}
use Rattle.tables.proofs.PutsLaws.{PutsLeft}
use Rattle.writer.specs.BoardTexts.{parts_held}
use Rattle.writer.proofs.page.put_parts.Given as goal

abbrev pub invariant-loop-b : goal.invariant-loop-b
invariant-loop-b l =
    PutsLeft l.fn.page (parts_held l.c l.edition.text.now l.edition.cards.now l.edition.entries.now 1 (l.edition.boards - 1)) l.page (parts_held l.c l.edition.text.now l.edition.cards.now l.edition.entries.now l.b (l.edition.boards - l.b))
