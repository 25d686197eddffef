use borrow.Author.Tests.{eq-eqb, ne_eqb}
use Rattle.planning.specs.Cards.{is_whole}
use Rattle.planning.proofs.cards.is_whole.Goals as goal

pub returns-then-card-eq-PARSED : goal.returns-then-card-eq-PARSED
unfolding is_whole
returns-then-card-eq-PARSED c = rw (eq-eqb _ _ c.if-card-eq-PARSED.true, ← c.deal_at.ensures, ← c.hands_of_words.ensures) c.is_whole.ensures

pub returns-else-card-eq-PARSED : goal.returns-else-card-eq-PARSED
unfolding is_whole
returns-else-card-eq-PARSED c = rw (ne_eqb _ _ c.if-card-eq-PARSED.false)
