use Rattle.reader.proofs.ReadingLaws.{block_none, block_some}
use Rattle.reader.specs.Lines.{is_blank}
use Prim.Native.Nat.{◌-◌}
use native.Mathlib.Nat.{zero-add}
use mathlib.Core.Path.{◌≡◌}
use mathlib.Core.Bool.{true, false}
use lib.ListN.{take, drop}
use Rattle.reader.proofs.reading.block_step.Goals as goal

pub returns-then-not-is_blank : goal.returns-then-not-is_blank
returns-then-not-is_blank c =
    let a = c.args in
    let e : is_blank (take (a.j - a.i) (drop a.i a.r.now)) ≡ false = rw (← c.saturating_sub-len.ensures, ← c.of.ensures, ← c.is_blank.ensures) c.if-not-is_blank.true in
    block_some a.r.now a.s.now a.i a.j _ _ e (rw (c.saturating_sub-len.ensures, zero-add) at c.put_part.ensures)

pub returns-else-not-is_blank : goal.returns-else-not-is_blank
returns-else-not-is_blank c =
    let a = c.args in
    let e : is_blank (take (a.j - a.i) (drop a.i a.r.now)) ≡ true = rw (← c.saturating_sub-len.ensures, ← c.of.ensures, ← c.is_blank.ensures) c.if-not-is_blank.false in
    block_none a.r.now a.s.now a.i a.j _ e
