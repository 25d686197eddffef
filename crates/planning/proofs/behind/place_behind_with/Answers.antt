use Rattle.planning.proofs.AnswerLaws.{rooms, behind_told}
use Rattle.planning.proofs.behind.place_behind_with.Goals as goal

pub cards-requires : goal.cards-requires
cards-requires c = rooms c.read_both.ensures.read c.in_ok-both.was

pub returns-clause-told : goal.returns-clause-told
returns-clause-told c = behind_told c.read_both.ensures.read c.in_ok-both.was c.cards.ensures.0 c.cards.ensures.1 c.behind_at.ensures
