use Rattle.planning.proofs.AnswerLaws.{rooms, boards_told}
use Rattle.planning.proofs.boards.plan_boards_with.Goals as goal

pub cards-requires : goal.cards-requires
cards-requires c = rooms c.read_both.ensures.read c.in_ok-both.was

pub returns-clause-told : goal.returns-clause-told
returns-clause-told c = boards_told c.read_both.ensures.read c.in_ok-both.was c.cards.ensures.0 c.cards.ensures.1 (c.fill.ensures.after (λ y e. e)) c.put_boards.ensures
