-- The invariant: the rows of the cells that are left are still to be put.
use Rattle.std.proofs.Common.{cond, drop}
use Rattle.tables.specs.Tables.{rows_from, rows_text}
use Rattle.tables.proofs.PutsLaws.{PutsLeft}
use Rattle.tables.proofs.dd.put_rows.Given as goal

abbrev pub invariant-loop-i : goal.invariant-loop-i
invariant-loop-i l = PutsLeft l.initial.page (rows_text l.c l.table) l.page (rows_from l.c (cond l.wide 2 1) l.i (drop l.i l.table))
