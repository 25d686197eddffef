use Rattle.planning.specs.PlanSteps.{cards_in}
use Rattle.writer.proofs.GiveLaws.{Giving}
use Rattle.writer.proofs.give.give_tables.Given as goal

abbrev pub invariant-loop-k : goal.invariant-loop-k
invariant-loop-k l = Giving (cards_in l.olds l.old_cards) l.news l.fn.new_cards l.answers l.k l.slip l.new_cards
