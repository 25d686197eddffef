use mathlib.Core.Path.{refl}
use native.Mathlib.Omega.{arith}
use lib.ListN.{length-set}
use Rattle.tables.proofs.PageLaws.{digits_start, digits_found, digits_end, digits_on}
use Rattle.tables.proofs.page.digits_into.Goals as goal

pub loop-k-init : goal.loop-k-init
loop-k-init c = (omega arith, c.requires, digits_start _ c.args.buf.now c.requires)

pub bounds-buf-k : goal.bounds-buf-k
bounds-buf-k c = omega arith

pub shape_of-buf-then-m-lt10 : goal.shape_of-buf-then-m-lt10
shape_of-buf-then-m-lt10 c = simp length-set (omega arith)

pub returns-then-m-lt10 : goal.returns-then-m-lt10
returns-then-m-lt10 c =
    let l = c.loop-k in
    digits_found _ l.k l.m _ l.buf l.invariant.0 l.invariant.1 l.invariant.2 c.if-m-lt10.true refl

pub loop-k-preserved : goal.loop-k-preserved
loop-k-preserved c =
    let l = c.loop-k in
    (omega arith, simp length-set l.invariant.1, digits_on _ l.k l.m _ l.buf c.loop-k-test.true l.invariant.0 l.invariant.1 l.invariant.2 c.if-m-lt10.false refl)

pub bounds-buf-0 : goal.bounds-buf-0
bounds-buf-0 c = omega arith

pub shape_of-buf : goal.shape_of-buf
shape_of-buf c = simp length-set (omega arith)

pub returns : goal.returns
returns c =
    let l = c.loop-k in
    digits_end _ l.k l.m _ l.buf (omega arith) l.invariant.1 l.invariant.2 refl
