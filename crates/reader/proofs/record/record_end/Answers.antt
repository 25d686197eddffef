use mathlib.Core.Path.{ap, ◌∙◌}
use native.Mathlib.Omega.{arith}
use borrow.Author.Tests.{leb-true}
use Rattle.std.proofs.Common.{Bor, List, ℕ}
use Rattle.reader.proofs.LineWalk.{line_of_next, next_place}
use Rattle.reader.proofs.RecordLaws.{scanning, scan_on, scan_closed, scan_ended}
use Rattle.reader.proofs.record.record_end.Goals as goal

pub loop-line-init : goal.loop-line-init
loop-line-init c = (scanning c.args.text.now c.args.a c.requires, cc, cc)

pub returns-then-closes_record : goal.returns-then-closes_record
returns-then-closes_record c =
    let i = c.loop-line.invariant in
    scan_closed i.0 (line_of_next c.args.text.now _ c.in-Some.ensures.steps i.1 i.2) (rw (← c.closes_record.ensures) c.if-closes_record.true)

pub loop-line-preserved : goal.loop-line-preserved
loop-line-preserved c =
    let i = c.loop-line.invariant in
    let n = c.in-Some.ensures.steps in
    let p = next_place n in (
      rw c.scan_line-s.ensures (scan_on i.0 (line_of_next c.args.text.now _ n i.1 i.2) (rw (← c.closes_record.ensures) c.if-closes_record.false)),
      ap (λ (x : Bor (List ℕ)). x.now) p.0 ∙ i.1,
      omega (arith, p.1, i.2),
    )

pub returns : goal.returns
returns c =
    let i = c.loop-line.invariant in
    let e = rw (i.1, i.2) at (leb-true _ _ c.in-None.ensures.steps.0) in
    rw c.then_some.ensures (scan_ended e i.0)
