use Rattle.writer.proofs.BoardLaws.{no_outcome, some_outcome}
use mathlib.Core.Path.{sym}
use Rattle.writer.proofs.board.outcome_of.Goals as goal

pub returns-then-word-eq0 : goal.returns-then-word-eq0
returns-then-word-eq0 c =
    rw (← c.word.ensures.0, c.if-word-eq0.true) (sym (no_outcome _))

pub returns : goal.returns
returns c =
    rw (← c.word.ensures.0, ← c.word-2.ensures.0) (sym (some_outcome _ _ c.if-word-eq0.false))
