use Rattle.writer.specs.GivenCards.{given_cleared}
use Rattle.writer.proofs.ChangedCards.{ChangedTo}
use Rattle.writer.proofs.finish.clear_given.Given as goal

abbrev pub invariant-loop-k : goal.invariant-loop-k
invariant-loop-k l = ChangedTo given_cleared l.boards l.fn.cards l.k l.cards
