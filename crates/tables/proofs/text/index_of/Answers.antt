use Prim.Native.Nat.{◌+◌}
use mathlib.Core.Path.{sym}
use native.Mathlib.Omega.{arith}
use lib.ListN.{length-drop}
use Rattle.tables.proofs.Laws.{rest}
use Rattle.tables.proofs.TextLaws.{sought_here, sought_next}
use Rattle.tables.proofs.text.index_of.Goals as goal

pub loop-i-init : goal.loop-i-init
loop-i-init c = (omega arith, omega arith)

pub returns-then-s-i : goal.returns-then-s-i
returns-then-s-i c =
    let a = c.args in
    (sought_here a.x a.s.now c.loop-i.i (omega (arith, c.loop-i-test.true)) c.if-s-i.true c.loop-i.invariant.0, omega (arith, c.loop-i-test.true))

pub returns-then-s-i-2 : goal.returns-then-s-i-2
returns-then-s-i-2 c =
    let a = c.args in
    (sought_here a.x a.s.now (c.loop-i.i + 1) (omega (arith, c.loop-i-test.true)) c.if-s-i-2.true (sought_next a.x a.s.now c.loop-i.i (c.loop-i.i + 1) (omega arith) (omega (arith, c.loop-i-test.true)) c.if-s-i.false c.loop-i.invariant.0), omega (arith, c.loop-i-test.true))

pub returns-then-s-i-3 : goal.returns-then-s-i-3
returns-then-s-i-3 c =
    let a = c.args in
    (sought_here a.x a.s.now (c.loop-i.i + 2) (omega (arith, c.loop-i-test.true)) c.if-s-i-3.true (sought_next a.x a.s.now (c.loop-i.i + 1) (c.loop-i.i + 2) (omega arith) (omega (arith, c.loop-i-test.true)) c.if-s-i-2.false (sought_next a.x a.s.now c.loop-i.i (c.loop-i.i + 1) (omega arith) (omega (arith, c.loop-i-test.true)) c.if-s-i.false c.loop-i.invariant.0)), omega (arith, c.loop-i-test.true))

pub returns-then-s-i-4 : goal.returns-then-s-i-4
returns-then-s-i-4 c =
    let a = c.args in
    (sought_here a.x a.s.now (c.loop-i.i + 3) (omega (arith, c.loop-i-test.true)) c.if-s-i-4.true (sought_next a.x a.s.now (c.loop-i.i + 2) (c.loop-i.i + 3) (omega arith) (omega (arith, c.loop-i-test.true)) c.if-s-i-3.false (sought_next a.x a.s.now (c.loop-i.i + 1) (c.loop-i.i + 2) (omega arith) (omega (arith, c.loop-i-test.true)) c.if-s-i-2.false (sought_next a.x a.s.now c.loop-i.i (c.loop-i.i + 1) (omega arith) (omega (arith, c.loop-i-test.true)) c.if-s-i.false c.loop-i.invariant.0))), omega (arith, c.loop-i-test.true))

pub loop-i-preserved : goal.loop-i-preserved
loop-i-preserved c =
    let a = c.args in
    (sought_next a.x a.s.now (c.loop-i.i + 3) (c.loop-i.i + 4) (omega arith) (omega (arith, c.loop-i-test.true)) c.if-s-i-4.false (sought_next a.x a.s.now (c.loop-i.i + 2) (c.loop-i.i + 3) (omega arith) (omega (arith, c.loop-i-test.true)) c.if-s-i-3.false (sought_next a.x a.s.now (c.loop-i.i + 1) (c.loop-i.i + 2) (omega arith) (omega (arith, c.loop-i-test.true)) c.if-s-i-2.false (sought_next a.x a.s.now c.loop-i.i (c.loop-i.i + 1) (omega arith) (omega (arith, c.loop-i-test.true)) c.if-s-i.false c.loop-i.invariant.0))), omega (arith, c.loop-i-test.true))

pub returns : goal.returns
returns c =
    let s = c.args.s.now in
    let i = c.loop-i.i in
    let e = rw (rest s i) at c.bytes_before.ensures.0 in
    let f = rw (rest s i, length-drop i s) at c.bytes_before.ensures.1 in
    (rw e (sym c.loop-i.invariant.0), omega (arith, f, c.loop-i.invariant.1))
