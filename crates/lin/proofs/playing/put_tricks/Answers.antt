use mathlib.Core.Path.{sym, ap, ◌∙◌}
use native.Mathlib.Omega.{arith}
use Rattle.lin.specs.PlayingSteps.{trick_texts}
use Rattle.tables.proofs.PutsLaws.{puts_same, puts_next}
use Rattle.lin.proofs.PairLaws.{value_met, value_none}
use Rattle.lin.proofs.PlayingLaws.{cards_given, tricks_full, tricks_more}
use Rattle.lin.proofs.playing.put_tricks.Goals as goal

pub loop-p-preserved-in_default : goal.loop-p-preserved-in_default
loop-p-preserved-in_default c =
    let l = c.loop-p in
    let a = c.args.by in
    (puts_same (ap (trick_texts a.c a.lead a.trump l.t) (value_none (cards_given _) c.in-Some.ensures.steps (sym c.card_at.ensures ∙ c.in_default.is))) l.invariant.0, l.invariant.1, l.invariant.2)

pub loop-p-preserved-then-u-eq4 : goal.loop-p-preserved-then-u-eq4
loop-p-preserved-then-u-eq4 c =
    let l = c.loop-p in
    let a = c.args.by in
    let m = value_met (cards_given _) c.in-Some.ensures.steps (sym c.card_at.ensures ∙ c.in-Some-card_at.is) in
    (puts_next _ _ (puts_same (tricks_full a.c a.lead a.trump l.t _ _ _ _ _ m c.take_card-u.ensures.0 c.if-u-eq4.true c.next_trick-t.ensures.0) l.invariant.0) c.put_line.ensures, c.next_trick-t.ensures.1, rw c.next_trick-t.ensures.0 (omega arith))

pub loop-p-preserved : goal.loop-p-preserved
loop-p-preserved c =
    let l = c.loop-p in
    let a = c.args.by in
    let m = value_met (cards_given _) c.in-Some.ensures.steps (sym c.card_at.ensures ∙ c.in-Some-card_at.is) in
    (puts_same (tricks_more a.c a.lead a.trump l.t _ _ _ _ m c.take_card-u.ensures.0 c.if-u-eq4.false) l.invariant.0, c.take_card-u.ensures.1, omega (arith, c.take_card-u.ensures.2, c.if-u-eq4.false))
