-- The invariant: the bytes that are left are still to be put.
use lib.ListN.{drop}
use Rattle.tables.proofs.PutsLaws.{PutsLeft}
use Rattle.tables.proofs.page.Page.put_text.Given as goal

abbrev pub invariant-loop-b : goal.invariant-loop-b
invariant-loop-b l = PutsLeft l.initial.self l.s l.self (drop l.b-index l.s)
