use native.Mathlib.Omega.{arith}
use Rattle.writer.specs.GivenCards.{given_cleared}
use Rattle.writer.proofs.ChangedCards.{changed_first, changed_next, changed_end, cleared_long}
use Rattle.writer.proofs.finish.clear_given.Goals as goal

pub loop-k-preserved : goal.loop-k-preserved
loop-k-preserved c = changed_next cleared_long c.loop-k.invariant c.loop-k-test.true c.requires c.clear_card.ensures c.clear_card.auto.cards
