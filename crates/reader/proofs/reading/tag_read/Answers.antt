use Rattle.reader.proofs.TagStepLaws.{read_comment, read_data}
use Rattle.reader.specs.declared.board.State.{State}
use Rattle.reader.specs.Boards.{tagged}
use mathlib.Core.Path.{ap}
use native.Mathlib.Omega.{arith}
use Rattle.reader.proofs.reading.tag_read.Goals as goal

pub directive_step-requires : goal.directive_step-requires
unfolding tagged
directive_step-requires c =
    let s = c.requires in
    let k = rw c.in-WithComment.is at s.5 in
    let e = c.tag_step-in-WithComment.ensures.emits in
    (omega (arith, s.0, k.1, e.adds.start), omega (arith, s.1, e.adds.count), omega (arith, s.2, ap (λ (x : State). x.n) e.answer))

pub data_step-requires : goal.data_step-requires
unfolding tagged
data_step-requires c =
    let s = c.requires in
    let k = rw c.in-WithData.is at s.5 in
    let e = c.tag_step-in-WithData.ensures.emits in
    (omega (arith, s.0, k.1, e.adds.start), omega (arith, s.1, e.adds.count), omega (arith, s.2, ap (λ (x : State). x.n) e.answer))

pub returns-in-WithComment : goal.returns-in-WithComment
returns-in-WithComment c =
    let a = c.args in
    read_comment a.c a.s.now a.p a.l.now c.in-WithComment.is c.tag_step-in-WithComment.ensures c.directive_step.ensures

pub returns-in-WithData : goal.returns-in-WithData
returns-in-WithData c =
    let a = c.args in
    read_data a.c a.s.now a.p a.l.now c.in-WithData.is c.moved.ensures c.tag_step-in-WithData.ensures c.data_step.ensures
