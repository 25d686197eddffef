use mathlib.Core.Path.{sym, ◌∙◌}
use borrow.Author.Tests.{eq-eqb, ne_eqb}
use Rattle.lin.proofs.BiddingLaws.{alert_less, alert_last}
use Rattle.lin.proofs.bidding.less_alerts.Goals as goal

pub returns-then-last-ne33 : goal.returns-then-last-ne33
returns-then-last-ne33 c =
    sym (c.loop-last.invariant ∙ rw c.in-Some.ensures.cases.0 (alert_last _ _ (ne_eqb _ _ c.if-last-ne33.true)))

pub loop-last-preserved : goal.loop-last-preserved
loop-last-preserved c =
    c.loop-last.invariant ∙ rw c.in-Some.ensures.cases.0 (alert_less c.in-Some.front.now c.in-Some.last.now (eq-eqb _ _ c.if-last-ne33.false))
