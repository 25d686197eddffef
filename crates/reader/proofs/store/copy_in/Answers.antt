use Prim.Native.Nat.{◌+◌, ◌-◌}
use mathlib.Core.Path.{◌≡◌}
use mathlib.Core.List.{append_assoc}
use native.Mathlib.Omega.{arith}
use lib.ListN.{length, take, drop}
use lib.Seq.{sets-eq, drop-drop}
use Rattle.reader.proofs.store.copy_in.Goals as goal

pub returns : goal.returns
returns c =
    let a = c.args.at in
    let s = c.args.src.now in
    let d = c.args.dst.now in
    let n : a + length s - a ≡ length s = omega arith in
    rw (n, c.copy_from_slice.ensures.after, sets-eq s d a c.requires, drop-drop (length s) a d, append_assoc (take a d) s (drop (a + length s) d))
