use mathlib.Core.Path.{sym, ◌∙◌}
use Rattle.reader.proofs.DealLaws.{word_stop, word_end, end_grown}
use Rattle.reader.proofs.deal.read_suits.Goals as goal

pub returns-then-is_white : goal.returns-then-is_white
returns-then-is_white c =
    let l = c.loop-b in
    (rw (l.invariant.0, word_stop _ _ c.loop-b-test.true (sym c.is_white.ensures ∙ c.if-is_white.true)) c.end_of.ensures, rw c.end_of.ensures (end_grown _ _ l.invariant.1.low l.invariant.2))

pub returns : goal.returns
returns c =
    let l = c.loop-b in
    (rw (l.invariant.0, word_end _ _ c.loop-b-test.false) c.end_of-2.ensures, rw c.end_of-2.ensures (end_grown _ _ l.invariant.1.low l.invariant.2))
