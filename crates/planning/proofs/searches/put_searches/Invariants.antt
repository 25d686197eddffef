use Rattle.planning.proofs.SearchesLaws.{SearchRows}
use Rattle.planning.proofs.searches.put_searches.Given as goal

abbrev pub invariant-loop-k : goal.invariant-loop-k
invariant-loop-k l = SearchRows l.olds l.news l.fn.numbers l.k l.numbers l.words
