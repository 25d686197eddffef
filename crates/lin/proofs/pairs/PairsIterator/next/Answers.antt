use mathlib.Core.Path.{refl}
use Rattle.lin.proofs.PairLaws.{next_is, pairs_none}
use Rattle.lin.proofs.pairs.PairsIterator.next.Goals as goal

pub returns-then-name-rest-clause-steps : goal.returns-then-name-rest-clause-steps
returns-then-name-rest-clause-steps c =
    let rest = c.from-rest.ensures in
    let name = c.cut.ensures in
    let value = c.cut-then-name-rest.ensures in
    next_is _ _ _
    (rw (← rest, ← name.front) c.if-name-rest.true)
    (rw (← rest, ← name.front) c.command_of-command.ensures)
    (rw (← rest, ← name.behind) value.front)
    (rw (← rest, ← name.behind, ← value.front, ← name.front))
    refl
    refl

pub returns-clause-steps : goal.returns-clause-steps
returns-clause-steps c =
    rw (← c.from-rest.ensures) (pairs_none _ (rw (← c.cut.ensures.front) c.if-name-rest.false))
