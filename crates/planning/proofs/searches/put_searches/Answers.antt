use native.Mathlib.Omega.{arith}
use Rattle.planning.proofs.PlanLaws.{rows_end}
use Rattle.planning.proofs.SearchesLaws.{search_rows_first, search_rows_next, search_rows_fit, search_rows_end}
use Rattle.planning.proofs.searches.put_searches.Goals as goal

pub loop-k-init : goal.loop-k-init
loop-k-init c = search_rows_first c.args.olds.now c.args.news.now c.args.numbers.now

pub overflow_add-words : goal.overflow_add-words
overflow_add-words c = omega (arith, search_rows_fit c.loop-k.invariant c.requires.0 c.requires.1 c.loop-k-test.true c.search_numbers-five.ensures)

pub overflow_add-words-in-loop-k : goal.overflow_add-words-in-loop-k
overflow_add-words-in-loop-k c = omega (arith, search_rows_fit c.loop-k.invariant c.requires.0 c.requires.1 c.loop-k-test.true c.search_numbers-five.ensures)

pub overflow_add-words-in-loop-k-2 : goal.overflow_add-words-in-loop-k-2
overflow_add-words-in-loop-k-2 c = omega (arith, search_rows_fit c.loop-k.invariant c.requires.0 c.requires.1 c.loop-k-test.true c.search_numbers-five.ensures)

pub loop-k-preserved : goal.loop-k-preserved
loop-k-preserved c = search_rows_next c.loop-k.invariant c.loop-k-test.true c.search_numbers-five.ensures c.put_five.ensures c.put_five.auto.numbers
