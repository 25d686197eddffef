use mathlib.Core.Path.{ap, ◌∙◌}
use native.Mathlib.Omega.{arith}
use borrow.Author.Tests.{leb-true}
use Rattle.std.proofs.Common.{Bor, List, ℕ}
use Rattle.reader.proofs.LineWalk.{line_of_next, next_place}
use Rattle.reader.proofs.LinesLaws.{lines_start, left_few, lines_next, lines_done}
use Rattle.reader.proofs.TagStepLaws.{sound_later}
use Rattle.reader.proofs.reading.read_board.Goals as goal

pub loop-l-init : goal.loop-l-init
loop-l-init c = (lines_start _ _ _ _ c.no_state-s.ensures, cc, cc)

pub line_step-requires : goal.line_step-requires
line_step-requires c =
    let i = c.loop-l.invariant in
    let v = i.0 in
    let l = line_of_next c.args.r.now _ c.in-Some.ensures.steps i.1 i.2 in
    (l.inside, omega (arith, c.requires.0, v.start), omega (arith, left_few v, v.counted, c.requires.0, c.requires.1), omega (arith, left_few v, c.requires.0), v.sound, v.tags_few)

pub loop-l-preserved : goal.loop-l-preserved
loop-l-preserved c =
    let i = c.loop-l.invariant in
    let n = c.in-Some.ensures.steps in
    let p = next_place n in (
      lines_next i.0 _ (line_of_next c.args.r.now _ n i.1 i.2) _ _ c.line_step.ensures,
      ap (λ (x : Bor (List ℕ)). x.now) p.0 ∙ i.1,
      omega (arith, p.1, i.2),
    )

pub close_sections-requires : goal.close_sections-requires
close_sections-requires c =
    let v = c.loop-l.invariant.0 in
    (omega (arith, c.requires.0, v.start), omega (arith, left_few v, v.counted, c.requires.0, c.requires.1), omega (arith, left_few v, c.requires.0), sound_later v.inside v.sound)

pub returns : goal.returns
returns c =
    let i = c.loop-l.invariant in
    lines_done i.0 (rw (i.1, i.2) at (leb-true _ _ c.in-None.ensures.steps.0)) _ _ c.close_sections.ensures.0
