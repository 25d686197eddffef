use Rattle.reader.specs.Plain.{without_returns}
use Rattle.tables.proofs.PutsLaws.{PutsLeft}
use lib.ListN.{length}
use Rattle.writer.proofs.remarks.put_block.Given as goal

abbrev pub invariant-loop-rest : goal.invariant-loop-rest
invariant-loop-rest l =
    PutsLeft l.fn.page (without_returns l.s) l.page (without_returns l.rest)

abbrev pub decreases-loop-rest : goal.decreases-loop-rest
decreases-loop-rest l = length l.rest
