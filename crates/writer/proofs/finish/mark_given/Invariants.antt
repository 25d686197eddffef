use Rattle.writer.specs.GivenCards.{marked}
use Rattle.writer.proofs.ChangedCards.{ChangedTo}
use Rattle.writer.proofs.finish.mark_given.Given as goal

abbrev pub invariant-loop-k : goal.invariant-loop-k
invariant-loop-k l = ChangedTo marked l.boards l.fn.cards l.k l.cards
