-- The invariant is Decoding: the first `i` characters are digits, and their values stand in the table.
use Rattle.tables.proofs.TableLaws.{Decoding}
use Rattle.tables.proofs.dd.digits_read.Given as goal

abbrev pub invariant-loop-i : goal.invariant-loop-i
invariant-loop-i l = Decoding l.value l.cell-items l.i
