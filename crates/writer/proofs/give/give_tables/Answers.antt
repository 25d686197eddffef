use native.Mathlib.Omega.{arith}
use Rattle.planning.specs.PlanSteps.{cards_in}
use Rattle.writer.proofs.GiveLaws.{giving_first, giving_next, giving_few, giving_end}
use Rattle.writer.proofs.give.give_tables.Goals as goal

pub slip_after-slip-requires : goal.slip_after-slip-requires
slip_after-slip-requires c =
    let a = c.args in
    omega (arith, giving_few a.olds a.old_cards.now a.news a.new_cards.now a.answers.now c.requires.0 c.requires.1 c.loop-k.invariant, c.requires.1, c.type_inv)

pub loop-k-preserved : goal.loop-k-preserved
loop-k-preserved c =
    let a = c.args in
    giving_next a.olds a.old_cards.now a.news a.new_cards.now a.answers.now c.requires.0 c.requires.1 c.loop-k.invariant c.loop-k-test.true c.state_here-s.ensures c.source_cells-cells.ensures c.put_cells.ensures c.slip_after-slip.ensures

pub returns : goal.returns
returns c =
    let a = c.args in
    giving_end a.olds a.old_cards.now a.news a.new_cards.now a.answers.now c.requires.0 c.requires.1 c.loop-k.invariant c.loop-k-test.false
