use Rattle.planning.proofs.BoardLaws.{state_is, state_outside}
use Rattle.planning.proofs.state_at.state_in.Goals as goal

pub returns-in-Some : goal.returns-in-Some
returns-in-Some c = state_is c.args.olds.now c.args.news.now (rw c.in-Some.is at c.index_of.ensures) c.state_of.ensures.0

pub returns-in-None : goal.returns-in-None
returns-in-None c = state_outside c.args.olds.now c.args.news.now (rw c.in-None.is at c.index_of.ensures)
