use mathlib.Core.Path.{refl}
use native.Mathlib.Omega.{arith}
use Rattle.writer.proofs.GiveCells.{answers_none, cells_more, cells_answered}
use lib.ListN.{length-set}
use Rattle.writer.proofs.give.answer_cells.Goals as goal

pub returns-then-answers-slip : goal.returns-then-answers-slip
returns-then-answers-slip c = let a = c.args in
    answers_none a.answers.now a.slip c.if-answers-slip.true

pub returns : goal.returns
returns c = let a = c.args in
    let l = c.loop-i in
    cells_answered a.answers.now l.cell-items a.slip l.i c.if-answers-slip.false c.loop-i-test.false (omega arith) l.invariant.1 l.invariant.0
