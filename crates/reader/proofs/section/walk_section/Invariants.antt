use Prim.Native.Nat.{◌-◌}
use lib.ListN.{length}
use Rattle.std.specs.Prelude.{Some}
use Rattle.reader.proofs.WalkLaws.{Walking}
use Rattle.reader.proofs.section.walk_section.Given as goal

abbrev pub invariant-loop-next : goal.invariant-loop-next
invariant-loop-next l = Walking l.c l.r (Some l.o) l.trump l.fn.entries l.w l.at l.entries

abbrev pub decreases-loop-next : goal.decreases-loop-next
decreases-loop-next l = length l.r - l.at
