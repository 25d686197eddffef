use Rattle.planning.proofs.BoxLaws.{cards_count}
use Rattle.planning.proofs.AnswerLaws.{rooms, boards_low, searches_told}
use Rattle.planning.proofs.searches.plan_searches_with.Goals as goal

pub cards-requires : goal.cards-requires
cards-requires c = rooms c.read_both.ensures.read c.in_ok-both.was

pub put_searches-words-requires : goal.put_searches-words-requires
put_searches-words-requires c =
    let low = boards_low c.read_both.ensures.read c.in_ok-both.was in
    (rw (c.cards.ensures.0, cards_count) low.0, rw (c.cards.ensures.1, cards_count) low.1)

pub returns-clause-told : goal.returns-clause-told
returns-clause-told c = searches_told c.read_both.ensures.read c.in_ok-both.was c.cards.ensures.0 c.cards.ensures.1 (c.fill.ensures.after (λ y e. e)) c.put_searches-words.ensures
