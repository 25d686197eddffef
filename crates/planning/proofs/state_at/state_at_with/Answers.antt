use Rattle.planning.proofs.AnswerLaws.{rooms, state_told}
use Rattle.planning.proofs.state_at.state_at_with.Goals as goal

pub cards-requires : goal.cards-requires
cards-requires c = rooms c.read_both.ensures.read c.in_ok-both.was

pub returns-clause-told : goal.returns-clause-told
returns-clause-told c = state_told c.read_both.ensures.read c.in_ok-both.was c.cards.ensures.0 c.cards.ensures.1 c.state_in.ensures
