use Prim.Native.Nat.{◌≤◌}
use Rattle.lin.specs.Pairs.{pairs_of}
use Rattle.lin.specs.PairSteps.{pairs_left}
use Rattle.lin.specs.Playing.{cards_played}
use Rattle.lin.specs.PlayingSteps.{FineTrick, empty_trick, trick_texts}
use Rattle.tables.proofs.PutsLaws.{PutsLeft}
use Rattle.lin.proofs.playing.put_tricks.Given as goal

abbrev pub invariant-loop-p : goal.invariant-loop-p
invariant-loop-p l = PutsLeft l.fn.page (trick_texts l.by.c l.by.lead l.by.trump (empty_trick l.by.lead) (cards_played l.by.c (pairs_of l.text))) l.page (trick_texts l.by.c l.by.lead l.by.trump l.t (cards_played l.by.c (pairs_left l.p-iterator)))
    × FineTrick l.t
    × (l.t.count ≤ 3)
