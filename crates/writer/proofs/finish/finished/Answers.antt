use Rattle.writer.proofs.FinishLaws.{finish_done, finish_told, finish_refused}
use Rattle.writer.proofs.FinishSteps.{boards_right, boards_wrong}
use Rattle.writer.proofs.WriteLaws.{told_on}
use Rattle.writer.specs.declared.finish.FinishRefusal.TheVariants.{Edition, PageFull}
use Rattle.planning.proofs.AnswerLaws.{passed_on, there}
use Rattle.planning.specs.Plans.{words_of}
use mathlib.Core.Path.{refl, ◌∙◌}
use borrow.Author.Rules.{rules}
use Rattle.writer.proofs.finish.finished.Goals as goal

pub returns-in_err-both-clause-answer : goal.returns-in_err-both-clause-answer
returns-in_err-both-clause-answer c =
    passed_on c.from_residual.result {f = Edition c.in_err-both.field-0.0} c.from_residual.ensures.1
    ∙ finish_refused _ _ c.read_both.ensures.read c.in_err-both.was refl

pub put_finished-requires : goal.put_finished-requires
put_finished-requires c = let t = there c.read_both.ensures.read c.in_ok-both.was in (t.0.room, t.1.room)

pub returns-in_err-put_finished-clause-answer : goal.returns-in_err-put_finished-clause-answer
returns-in_err-put_finished-clause-answer c =
    finish_told c.read_both.ensures.read c.in_ok-both.was {page' = c.args.page.now} {boxes' = words_of c.args.boxes.now}
    (boards_wrong _ c.new-page.ensures.start c.new-page.ensures.bytes (rw c.in_err-put_finished.was at c.put_finished.ensures.put)
    (passed_on c.from_residual-in_err-put_finished.result {f = c.in_err-put_finished.field-0.0} c.from_residual-in_err-put_finished.ensures.1))

pub returns-clause-answer : goal.returns-clause-answer
returns-clause-answer c =
    finish_told c.read_both.ensures.read c.in_ok-both.was
    (boards_right _ c.new-page.ensures.start c.new-page.ensures.bytes (rw c.in_ok-put_finished.was at c.put_finished.ensures.put) c.finish.ensures.ended
    (told_on PageFull _ _ c.finish.result c.map_err.ensures.cases c.finish.ensures.ended.told) refl)

pub returns-clause-well : goal.returns-clause-well
returns-clause-well c =
    rw (c.put_finished.ensures.kept.0, c.put_finished.ensures.kept.1)
    (finish_done c.read_both.ensures.read c.in_ok-both.was
    (boards_right _ c.new-page.ensures.start c.new-page.ensures.bytes (rw c.in_ok-put_finished.was at c.put_finished.ensures.put) c.finish.ensures.ended
    (told_on PageFull _ _ c.finish.result c.map_err.ensures.cases c.finish.ensures.ended.told) (search rules)))
