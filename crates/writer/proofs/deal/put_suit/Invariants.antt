use Rattle.reader.specs.Deals.{ranks_text}
use Rattle.tables.proofs.PutsLaws.{PutsLeft}
use Rattle.writer.proofs.deal.put_suit.Given as goal

abbrev pub invariant-loop-rank : goal.invariant-loop-rank
invariant-loop-rank l =
    PutsLeft l.fn.page (ranks_text l.c l.s 13 l.x) l.page (ranks_text l.c l.s l.rank l.x)
