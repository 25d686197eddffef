use Rattle.reader.proofs.ReadingLaws.{block_zero}
use Rattle.reader.specs.Boards.{braced}
use native.Mathlib.Omega.{arith}
use Rattle.reader.proofs.reading.brace_line.Goals as goal

pub returns-in-Some : goal.returns-in-Some
unfolding braced
returns-in-Some c =
    let b = c.in-Some.ensures in
    let e = c.block_step.ensures in
    (rw (b.there, ← c.lead_len.ensures.0, ← b.place) e, omega (arith, block_zero _ _ _ _ _ e))
