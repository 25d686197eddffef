use native.Mathlib.Omega.{arith}
use Rattle.planning.proofs.StructLaws.{numbers_length}
use Rattle.planning.proofs.slips.SlipSlot.room.Goals as goal

pub returns : goal.returns
returns c = omega (arith, numbers_length c.args.slots.now)
