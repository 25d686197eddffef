use native.Mathlib.Omega.{arith}
use mathlib.Core.Path.{◌≡◌}
use borrow.Author.Rules.{rules}
use Rattle.planning.specs.PlanSteps.{no_totals}
use Rattle.planning.proofs.PlanLaws.{turn_first, turn_next, turn_end, turn_within}
use Rattle.planning.proofs.plan.put_slips.Goals as goal

pub loop-k-init : goal.loop-k-init
loop-k-init g c =
    let e : c.default-t.result ≡ no_totals = search rules in
    rw e (turn_first c.args.olds.now c.args.news.now (g.S.Slot.numbers c.args.slips.now))

pub counted-t-requires : goal.counted-t-requires
counted-t-requires g c = turn_within c.loop-k.invariant (omega arith)

pub loop-k-preserved : goal.loop-k-preserved
loop-k-preserved g c = turn_next c.loop-k.invariant c.loop-k-test.true c.state_of-s.ensures.0 c.put_slip.ensures c.counted-t.ensures

pub returns : goal.returns
returns g c = turn_end c.loop-k.invariant c.loop-k-test.false
