use Rattle.tables.proofs.PutsLaws.{puts_all, puts_first, puts_next, puts_same}
use Rattle.writer.proofs.RemarkLaws.{items_none, remarks_pass, remarks_put, remarks_tag}
use mathlib.Core.Path.{sym, ◌∙◌}
use Rattle.writer.proofs.remarks.put_remarks.Goals as goal

pub loop-entry-preserved-then-met-eq-NAME : goal.loop-entry-preserved-then-met-eq-NAME
loop-entry-preserved-then-met-eq-NAME g c =
    λ p f.
    let l = c.loop-entry in
    rw (f _ _ c.takes-under.ensures) (puts_same (remarks_tag c.in-Some.ensures.steps p l.under c.args.kind (sym c.kind-met.ensures ∙ c.if-met-eq-NAME.true)) (l.invariant p f))

pub loop-entry-preserved-then-met-kind : goal.loop-entry-preserved-then-met-kind
loop-entry-preserved-then-met-kind g c =
    λ p f.
    let l = c.loop-entry in
    puts_next _ _ (puts_same (remarks_put c.in-Some.ensures.steps p l.under c.args.kind (rw (← c.kind-met.ensures) c.if-met-eq-NAME.false) c.requires.small (rw (← c.kind-met.ensures) c.if-met-kind.true)) (l.invariant p f)) (rw c.bytes.ensures at c.put_remark.ensures)

pub loop-entry-preserved : goal.loop-entry-preserved
loop-entry-preserved g c =
    λ p f.
    let l = c.loop-entry in
    puts_same (remarks_pass c.in-Some.ensures.steps p l.under c.args.kind (rw (← c.kind-met.ensures) c.if-met-eq-NAME.false) (rw (← c.kind-met.ensures) c.if-met-kind.false)) (l.invariant p f)

pub returns : goal.returns
returns g c =
    λ p f.
    let l = c.loop-entry in
    puts_all (puts_same (rw (items_none l.entry-iterator c.in-None.ensures.steps)) (l.invariant p f))
