use native.Mathlib.Omega.{arith}
use Rattle.planning.proofs.StructLaws.{slip_put, slip_full}
use Rattle.planning.proofs.slips.SlipSlot.put.Goals as goal

pub returns-then-n-slots : goal.returns-then-n-slots
returns-then-n-slots c = slip_put c.args.slots.now c.args.n c.args.slip c.if-n-slots.true

pub returns-else-n-slots : goal.returns-else-n-slots
returns-else-n-slots c = slip_full c.args.slots.now c.args.n c.args.slip (omega (arith, c.if-n-slots.false))
