use Prim.Native.Nat.{◌-◌}
use Rattle.reader.specs.Deals.{clockwise}
use mathlib.Core.Path.{◌≡◌}
use Rattle.writer.proofs.deal.from_seat.Given as goal

abbrev pub invariant-loop-k : goal.invariant-loop-k
invariant-loop-k l =
    clockwise l.seat l.fn.h ≡ clockwise (l.seat - l._k) l.turned
