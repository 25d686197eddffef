use Rattle.tables.proofs.PutsLaws.{puts_all, puts_first, puts_next, puts_same}
use Rattle.writer.proofs.TagLaws.{extras_pass, extras_put}
use Rattle.writer.specs.Items.{items_of}
use mathlib.Core.Path.{sym, ◌∙◌}
use native.Mathlib.Omega.{arith}
use Rattle.writer.proofs.tags.put_extras.Goals as goal

pub loop-entry-preserved-then-is_extra : goal.loop-entry-preserved-then-is_extra
loop-entry-preserved-then-is_extra c =
    let s = c.in-Some.ensures.steps in
    let i = c.loop-entry.invariant in
    (puts_next _ _ (puts_same (extras_put s (items_of c.args.remarks.now) c.args.first (sym c.is_extra.ensures ∙ c.if-is_extra.true)) i.0) (rw (c.bytes.ensures, c.bytes_at.ensures) at c.put_tagged.ensures), omega (arith, i.1, s.rest_is.first_is))
