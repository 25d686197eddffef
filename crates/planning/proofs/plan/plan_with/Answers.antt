use mathlib.Core.Path.{refl}
use Rattle.planning.specs.declared.plan.PlanRefusal.TheVariants.{Edition}
use Rattle.planning.proofs.AnswerLaws.{same_room, passed_on, rooms, plan_refused, plan_listed}
use Rattle.planning.proofs.plan.plan_with.Goals as goal

pub cards-requires : goal.cards-requires
cards-requires g c = rooms c.read_both.ensures.read c.in_ok-both.was

pub returns-in_err-both-clause-planned : goal.returns-in_err-both-clause-planned
returns-in_err-both-clause-planned g c =
    rw (passed_on c.from_residual.result {f = Edition c.in_err-both.field-0.0} c.from_residual.ensures.1) (plan_refused c.read_both.ensures.read c.in_err-both.was refl c.clear.ensures)

pub returns-clause-planned : goal.returns-clause-planned
returns-clause-planned g c =
    plan_listed c.read_both.ensures.read c.in_ok-both.was c.cards.ensures.0 c.cards.ensures.1 (same_room c.read_both.ensures.same)
    c.clear.ensures c.put_slips-t.ensures c.finish_plan.ensures.ended
