use Rattle.writer.specs.Held.{value_held}
use borrow.Author.Tests.{ne_eqb}
use Rattle.writer.proofs.held.Board.value.Goals as goal

pub returns-then-w-eq0 : goal.returns-then-w-eq0
unfolding value_held
returns-then-w-eq0 c =
    rw (← c.word-w.ensures.0, c.if-w-eq0.true)

pub returns : goal.returns
unfolding value_held
returns c =
    rw (← c.word-w.ensures.0, ne_eqb _ _ c.if-w-eq0.false, ← c.bytes_at.ensures)
