use Rattle.tables.proofs.PutsLaws.{puts_all, puts_first, puts_next, puts_same}
use Rattle.writer.proofs.RemarkLaws.{items_none}
use Rattle.writer.proofs.TokenLaws.{tricks_pass, tricks_put}
use mathlib.Core.Path.{sym, ◌∙◌}
use Rattle.writer.proofs.play.put_tricks.Goals as goal

pub loop-entry-preserved-then-kind-eq-TRICK : goal.loop-entry-preserved-then-kind-eq-TRICK
loop-entry-preserved-then-kind-eq-TRICK c =
    puts_next _ _ (puts_same (tricks_put c.in-Some.ensures.steps c.args.c (sym c.kind.ensures ∙ c.if-kind-eq-TRICK.true)) c.loop-entry.invariant) (rw c.mark.ensures.0 at c.put_trick.ensures)

pub loop-entry-preserved : goal.loop-entry-preserved
loop-entry-preserved c =
    puts_same (tricks_pass c.in-Some.ensures.steps c.args.c (rw (← c.kind.ensures) c.if-kind-eq-TRICK.false)) c.loop-entry.invariant
