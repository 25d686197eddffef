use native.Mathlib.Omega.{arith}
use Rattle.planning.proofs.BoxLaws.{cards_take, card_nth}
use Rattle.writer.proofs.give.state_here.Goals as goal

pub returns : goal.returns
returns c =
    let a = c.args in
    rw (cards_take a.k a.news a.new_cards.now (omega arith), ← card_nth a.news a.k a.new_cards.now (omega arith)) (rw (c.cards_in.ensures.0, c.cards_in-2.ensures.0) at c.state_of.ensures.0)
