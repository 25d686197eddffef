use mathlib.Core.Path.{refl, sym, ap, ◌∙◌}
use mathlib.Core.Logic.{inl, inr}
use native.Mathlib.Omega.{arith}
use Rattle.std.specs.Prelude.{is_some}
use Rattle.reader.specs.declared.board.State.{State}
use Rattle.reader.specs.declared.line.Line.TheVariants.{Directive, Data}
use Rattle.reader.proofs.BoardLaws.{closed_counts}
use Rattle.reader.proofs.ReadingLaws.{line_blank, line_bracket, line_adds, line_tag, line_braced, line_commentary}
use Rattle.reader.proofs.TagStepLaws.{closed_tags, closed_sound, read_closed_lem}
use Rattle.reader.proofs.reading.line_step.Goals as goal

pub returns-in-Some : goal.returns-in-Some
returns-in-Some c =
    let a = c.args in
    line_commentary a.c a.r.now a.s.now a.p a.l.now c.requires.4 (ap is_some c.in-Some.is) c.commentary_line.ensures.0 c.commentary_line.ensures.1

pub tag_read-requires : goal.tag_read-requires
tag_read-requires c =
    let a = c.args in
    let q = c.requires in
    let m = c.close_sections.ensures in
    (omega (arith, q.0, q.1, m.0.adds.start), omega (arith, m.0.adds.count, closed_counts a.c a.r.now a.s.now, ap (λ (x : State). x.n) m.0.answer, m.1, q.1, q.2), omega (arith, m.1, q.1, q.3), rw m.0.answer (closed_sound a.c a.r.now a.s.now q.4), rw (m.0.answer, closed_tags a.c a.r.now a.s.now) (omega (arith, q.0, q.1, q.5)), rw c.in-Tag.is at c.line_kind.ensures.1)

pub returns-in-Data : goal.returns-in-Data
returns-in-Data c =
    let a = c.args in
    line_adds a.c a.r.now a.s.now a.p a.l.now c.requires.4 (Data c.in-Data.d) _ (ap is_some c.in_default.is) (sym c.line_kind.ensures.0 ∙ c.in-Data.is) refl c.data_step.ensures

pub returns-in-Tag : goal.returns-in-Tag
returns-in-Tag c =
    let a = c.args in
    line_tag a.c a.r.now a.s.now a.p a.l.now c.requires.4 c.in-Tag.t (ap is_some c.in_default.is) (sym c.line_kind.ensures.0 ∙ c.in-Tag.is) (read_closed_lem a.c a.s.now a.p a.r.now a.l.now _ c.close_sections.ensures.0 c.tag_read.ensures)

pub returns-in-Directive : goal.returns-in-Directive
returns-in-Directive c =
    let a = c.args in
    line_adds a.c a.r.now a.s.now a.p a.l.now c.requires.4 (Directive c.in-Directive.d) _ (ap is_some c.in_default.is) (sym c.line_kind.ensures.0 ∙ c.in-Directive.is) refl c.directive_step.ensures

pub returns-in-Brace : goal.returns-in-Brace
returns-in-Brace c =
    let a = c.args in
    line_braced a.c a.r.now a.s.now a.p a.l.now c.requires.4 (ap is_some c.in_default.is) (sym c.line_kind.ensures.0 ∙ c.in-Brace.is) c.brace_line.ensures.0 c.brace_line.ensures.1

pub returns-in-Blank : goal.returns-in-Blank
returns-in-Blank c =
    let a = c.args in
    elim c.in-Blank.is [
      | inl e ↦ line_blank a.c a.r.now a.s.now a.p a.l.now c.requires.4 (ap is_some c.in_default.is) (sym c.line_kind.ensures.0 ∙ e)
      | inr e ↦ line_bracket a.c a.r.now a.s.now a.p a.l.now c.requires.4 (ap is_some c.in_default.is) (sym c.line_kind.ensures.0 ∙ e)
    ]
