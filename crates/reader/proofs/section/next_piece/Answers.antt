use mathlib.Core.Path.{ap, ◌∙◌}
use native.Mathlib.Omega.{arith}
use Rattle.std.proofs.Common.{Bor, List, ℕ}
use Rattle.reader.proofs.LineWalk.{line_of_next, next_place}
use Rattle.reader.proofs.NextLaws.{seek_commentary, seek_pass, seek_stop, seek_piece}
use Rattle.reader.proofs.section.next_piece.Goals as goal
use Rattle.reader.proofs.section.next_piece.Goals.{then-not-commentary+in-Brace, else-not-commentary}

pub returns-in-Data : goal.returns-in-Data
returns-in-Data c =
    let a = c.args in
    let v = c.loop-l in
    let l = line_of_next a.r.now _ c.in-Some.ensures.steps v.invariant.1 v.invariant.2 in
    rw c.moved-piece.ensures (seek_piece a.r.now a.at v.commentary v.e _ c.in-Data.d v.invariant.0 l c.if-not-commentary.true (rw (← c.line_kind.ensures.0) c.in-Data.is) c.in-Data.ensures.1)

pub returns-in-Blank : goal.returns-in-Blank
returns-in-Blank c =
    let a = c.args in
    let v = c.loop-l in
    let l = line_of_next a.r.now _ c.in-Some.ensures.steps v.invariant.1 v.invariant.2 in
    seek_stop a.r.now a.at v.commentary v.e _ _ v.invariant.0 l c.if-not-commentary.true c.line_kind.ensures.0 c.in-Blank.is

pub loop-l-preserved : goal.loop-l-preserved
loop-l-preserved c =
    let a = c.args in
    let v = c.loop-l in
    let n = c.in-Some.ensures.steps in
    let p = next_place n in
    let l = line_of_next a.r.now _ n v.invariant.1 v.invariant.2 in (
      rw c.commentary_after-commentary.ensures (elim c.if-not-commentary.branch [
        | then-not-commentary+in-Brace w ↦ seek_pass a.r.now a.at v.commentary v.e _ _ v.invariant.0 l w.if-not-commentary.true w.line_kind.ensures.0 w.in-Brace.is
        | else-not-commentary w ↦ seek_commentary a.r.now a.at v.commentary v.e _ v.invariant.0 l w.if-not-commentary.false
      ]),
      ap (λ (x : Bor (List ℕ)). x.now) p.0 ∙ v.invariant.1,
      omega (arith, p.1, v.invariant.2),
    )
