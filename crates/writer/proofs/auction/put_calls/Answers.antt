use Rattle.tables.proofs.PutsLaws.{puts_first, puts_next, puts_same, puts_then}
use Rattle.writer.proofs.RemarkLaws.{items_none}
use Rattle.writer.proofs.TokenLaws.{calls_call, calls_mark, calls_pass, puts_last}
use mathlib.Core.Path.{sym, ◌∙◌}
use native.Mathlib.Omega.{arith}
use Rattle.writer.proofs.auction.put_calls.Goals as goal

pub loop-entry-preserved-then-met-eq-CALL : goal.loop-entry-preserved-then-met-eq-CALL
loop-entry-preserved-then-met-eq-CALL c =
    let s = c.in-Some.ensures.steps in
    let l = c.loop-entry in
    (puts_next _ _ (puts_same (calls_call s c.args.c l.n l.called (sym c.kind-met.ensures ∙ c.if-met-eq-CALL.true)) l.invariant.0) (puts_then c.put_before.ensures (rw c.mark.ensures.0 at c.put_call.ensures)), omega (arith, l.invariant.1, s.more))

pub loop-entry-preserved-then-met-called : goal.loop-entry-preserved-then-met-called
loop-entry-preserved-then-met-called c =
    let s = c.in-Some.ensures.steps in
    let l = c.loop-entry in
    (puts_next _ _ (puts_same (calls_mark s c.args.c l.n l.called (rw (← c.kind-met.ensures) c.if-met-called.true)) l.invariant.0) (rw c.bytes.ensures at c.put_text.ensures), omega (arith, l.invariant.1, s.more))

pub loop-entry-preserved : goal.loop-entry-preserved
loop-entry-preserved c =
    let s = c.in-Some.ensures.steps in
    let l = c.loop-entry in
    (puts_same (calls_pass s c.args.c l.n l.called (rw (← c.kind-met.ensures) c.if-met-eq-CALL.false) (rw (← c.kind-met.ensures) c.if-met-called.false)) l.invariant.0, omega (arith, l.invariant.1, s.more))
