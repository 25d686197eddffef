use Rattle.planning.proofs.BoardLaws.{card_at_lem, card_outside}
use Rattle.planning.proofs.behind.record_at.Goals as goal

pub returns-in-None : goal.returns-in-None
returns-in-None c = rw (card_outside c.args.cards.now c.args.p (rw c.in-None.is at c.index_of.ensures))
