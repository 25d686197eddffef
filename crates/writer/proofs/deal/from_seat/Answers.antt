use Prim.Native.Nat.{suc, ◌+◌, ◌-◌}
use mathlib.Core.Path.{sym, ◌≡◌}
use native.Mathlib.Omega.{arith}
use Rattle.writer.proofs.deal.from_seat.Goals as goal

pub loop-k-preserved : goal.loop-k-preserved
loop-k-preserved c =
    let z : c.args.seat - c.loop-k._k ≡ suc (c.args.seat - (c.loop-k._k + 1)) = omega (arith, c.loop-k-test.true) in
    rw c.turned_back-turned.ensures (rw z at c.loop-k.invariant)
