use Prim.Native.Nat.{◌-◌}
use lib.ListN.{length}
use Rattle.reader.proofs.EditionLaws.{Turn}
use Rattle.reader.proofs.edition.read_records.Given as goal

abbrev pub invariant-loop-e : goal.invariant-loop-e
invariant-loop-e l = Turn l.c l.text l.initial.cards l.initial.entries l.cards l.entries l.a l.boards l.n

abbrev pub decreases-loop-e : goal.decreases-loop-e
decreases-loop-e l = length l.text - l.a
