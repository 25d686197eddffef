use borrow.Author.Rules.{rules}
use Rattle.planning.proofs.BoardLaws.{behind_is, behind_outside}
use Rattle.planning.proofs.behind.behind_at.Goals as goal

pub returns-in_err-k : goal.returns-in_err-k
returns-in_err-k c = let h = behind_outside c.args.olds.now c.args.news.now (rw c.in_err-k.was at c.index_of.ensures) in search rules

pub returns : goal.returns
returns c = behind_is c.args.olds.now c.args.news.now (rw c.in_ok-k.was at c.index_of.ensures) c.state_of-s.ensures.0 c.behind_state.ensures
