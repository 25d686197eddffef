use native.Mathlib.Omega.{arith}
use Rattle.writer.specs.GivenCards.{marked}
use Rattle.writer.proofs.ChangedCards.{changed_first, changed_next, changed_end, marked_long}
use Rattle.writer.proofs.finish.mark_given.Goals as goal

pub loop-k-preserved : goal.loop-k-preserved
loop-k-preserved c = changed_next marked_long c.loop-k.invariant c.loop-k-test.true c.requires c.mark_card.ensures c.mark_card.auto.cards
