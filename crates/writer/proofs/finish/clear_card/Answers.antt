use Rattle.writer.proofs.ChangedCards.{clear_set, clear_none}
use Rattle.writer.proofs.finish.clear_card.Goals as goal

pub returns-then-cards-k-eq-GIVEN : goal.returns-then-cards-k-eq-GIVEN
returns-then-cards-k-eq-GIVEN c = clear_set c.args.k c.args.cards.now _ c.requires c.if-cards-k-eq-GIVEN.true c.copy_in.ensures

pub returns-else-cards-k-eq-GIVEN : goal.returns-else-cards-k-eq-GIVEN
returns-else-cards-k-eq-GIVEN c = clear_none c.args.k c.args.cards.now c.if-cards-k-eq-GIVEN.false
