use Rattle.writer.proofs.WriteLaws.{page_put, told_on, written_refused, written_taken, written_whole}
use Rattle.planning.proofs.AnswerLaws.{passed_on}
use Rattle.writer.specs.declared.write.WriteRefusal.TheVariants.{Edition, PageFull}
use mathlib.Core.Path.{refl, ◌∙◌}
use borrow.Author.Rules.{rules}
use Rattle.writer.proofs.write.written.Goals as goal

pub returns-in_err-counts-clause-answer : goal.returns-in_err-counts-clause-answer
returns-in_err-counts-clause-answer c =
    passed_on c.from_residual.result {f = Edition c.in_err-counts.field-0.0} c.from_residual.ensures.1
    ∙ written_refused _ (rw c.in_err-counts.was at c.read_pbn_with.ensures) refl

pub returns-clause-answer : goal.returns-clause-answer
returns-clause-answer c =
    written_taken (rw c.in_ok-counts.was at c.read_pbn_with.ensures) (page_put c.put_page.ensures c.new-page.ensures.start c.new-page.ensures.bytes refl) c.finish.ensures.ended
    (told_on PageFull _ _ c.finish.result c.map_err.ensures.cases c.finish.ensures.ended.told)

pub returns-clause-well : goal.returns-clause-well
returns-clause-well c =
    λ h. written_whole (rw c.in_ok-counts.was at c.read_pbn_with.ensures) (page_put c.put_page.ensures c.new-page.ensures.start c.new-page.ensures.bytes refl) c.finish.ensures.ended
    (told_on PageFull _ _ c.finish.result c.map_err.ensures.cases c.finish.ensures.ended.told) h (search rules)
