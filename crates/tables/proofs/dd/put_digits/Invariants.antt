-- The invariant: the digits of the cells that are left are still to be put.
use Rattle.std.proofs.Common.{drop}
use Rattle.tables.specs.Tables.{digits_text}
use Rattle.tables.proofs.PutsLaws.{PutsLeft}
use Rattle.tables.proofs.dd.put_digits.Given as goal

abbrev pub invariant-loop-tricks : goal.invariant-loop-tricks
invariant-loop-tricks l = PutsLeft l.initial.page (digits_text l.table) l.page (digits_text (drop l.tricks-index l.table))
