use mathlib.Core.Path.{sym, ◌∙◌}
use Rattle.reader.specs.PieceSteps.{piece}
use Rattle.reader.proofs.AuctionLaws.{step_stopped, step_plus, step_star, step_annotation, step_lost, step_none, step_as}
use Rattle.reader.proofs.auction.call_step.Goals as goal

pub returns-then-b : goal.returns-then-b
returns-then-b c =
    let x = c.args in
    step_stopped x.c x.b (piece x.at x.t.now) c.if-b.true

pub returns-then-b-2 : goal.returns-then-b-2
returns-then-b-2 c =
    let x = c.args in
    step_annotation x.c x.b (piece x.at x.t.now) c.if-b.false (sym c.call_token.ensures.0 ∙ c.in-Annotation.is) c.if-b-2.true c.put-then-b-2.ensures c.bid-then-b-2.ensures

pub returns-in-Plus : goal.returns-in-Plus
returns-in-Plus c =
    let x = c.args in
    step_plus x.c x.b (piece x.at x.t.now) c.if-b.false (sym c.call_token.ensures.0 ∙ c.in-Plus.is) c.put.ensures c.bid.ensures

pub returns-in-Star : goal.returns-in-Star
returns-in-Star c =
    let x = c.args in
    step_star x.c x.b (piece x.at x.t.now) c.if-b.false (sym c.call_token.ensures.0 ∙ c.in-Star.is) c.bid-in-Star.ensures

pub returns-in-AllPass : goal.returns-in-AllPass
returns-in-AllPass c =
    let x = c.args in
    step_as x.c x.b (piece x.at x.t.now) c.if-b.false (sym c.call_token.ensures.0 ∙ c.in-AllPass.is) c.put_passes.ensures

pub returns-else-b-2 : goal.returns-else-b-2
returns-else-b-2 c =
    let x = c.args in
    step_lost x.c x.b (piece x.at x.t.now) c.if-b.false (sym c.call_token.ensures.0 ∙ c.in-Annotation.is) c.if-b-2.false c.bid-in-Annotation.ensures

pub returns-in-Call : goal.returns-in-Call
returns-in-Call c =
    let x = c.args in
    step_as x.c x.b (piece x.at x.t.now) c.if-b.false (sym c.call_token.ensures.0 ∙ c.in-Call.is) c.put_call.ensures

pub returns-in-NoCall : goal.returns-in-NoCall
returns-in-NoCall c =
    let x = c.args in
    step_none x.c x.b (piece x.at x.t.now) c.if-b.false (sym c.call_token.ensures.0 ∙ c.in-NoCall.is) c.bid-in-NoCall.ensures
