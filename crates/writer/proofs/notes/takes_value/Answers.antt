use Rattle.writer.proofs.NotePlaces.{taken_none, taken_other, taken_own}
use mathlib.Core.Bool.{false, true}
use mathlib.Core.Path.{refl}
use native.Mathlib.Omega.{arith}
use Rattle.writer.proofs.notes.takes_value.Goals as goal

pub returns-in_default : goal.returns-in_default
returns-in_default c =
    let is = c.args.notes.now.items in
    let v = c.args.value.now in
    taken_none is.text.now is.entries.now c.args.notes.now.places v c.args.n c.args.fresh (omega arith) c.in_default.ensures

pub returns-then-fresh : goal.returns-then-fresh
returns-then-fresh c =
    let is = c.args.notes.now.items in
    let v = c.args.value.now in
    rw c.if-fresh.true (taken_own is.text.now is.entries.now c.args.notes.now.places v c.args.n c.in-Some.m true _ (omega arith) c.in-Some.ensures.0 refl c.if-m-n.true)

pub returns-else-fresh : goal.returns-else-fresh
returns-else-fresh c =
    let is = c.args.notes.now.items in
    let v = c.args.value.now in
    rw c.if-fresh.false (taken_own is.text.now is.entries.now c.args.notes.now.places v c.args.n c.in-Some.m false _ (omega arith) c.in-Some.ensures.0 c.is_written_as.ensures c.if-m-n.true)

pub returns-then-fresh-2 : goal.returns-then-fresh-2
returns-then-fresh-2 c =
    let is = c.args.notes.now.items in
    let v = c.args.value.now in
    rw c.if-fresh-2.true (taken_other is.text.now is.entries.now c.args.notes.now.places v c.args.n c.in-Some.m true _ (omega arith) c.in-Some.ensures.1 c.in-Some.ensures.0 c.is_written_as-then-fresh-2.ensures c.if-m-n.false)

pub returns-else-fresh-2 : goal.returns-else-fresh-2
returns-else-fresh-2 c =
    let is = c.args.notes.now.items in
    let v = c.args.value.now in
    rw c.if-fresh-2.false (taken_other is.text.now is.entries.now c.args.notes.now.places v c.args.n c.in-Some.m false _ (omega arith) c.in-Some.ensures.1 c.in-Some.ensures.0 refl c.if-m-n.false)
