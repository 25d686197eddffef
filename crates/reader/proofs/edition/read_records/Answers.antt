use native.Mathlib.Omega.{arith}
use Rattle.reader.proofs.EditionLaws.{turn_first, turn_few, turn_next, turn_stop}
use Rattle.reader.proofs.edition.read_records.Goals as goal

pub loop-e-init : goal.loop-e-init
loop-e-init c =
    let a = c.args in
    turn_first a.c a.text.now a.cards.now a.entries.now

pub read_record-n-requires : goal.read_record-n-requires
read_record-n-requires c =
    let i = c.loop-e.invariant in
    let e = rw c.in-Some.is at c.record_end.ensures in
    let p = c.requires in
    (omega (arith, e.after), e.inside, p, omega (arith, turn_few i, p))

pub loop-e-preserved : goal.loop-e-preserved
loop-e-preserved c =
    let d = c.read_record-n in
    turn_next c.loop-e.invariant d.result d.new.cards d.new.entries (rw c.in-Some.is at c.record_end.ensures) d.auto.cards d.auto.entries d.ensures

pub returns : goal.returns
returns c = turn_stop c.loop-e.invariant (rw c.in_default.is at c.record_end.ensures)
