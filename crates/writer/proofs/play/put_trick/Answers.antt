use Rattle.tables.proofs.PutsLaws.{puts_first, puts_next, puts_same}
use Rattle.writer.proofs.TokenLaws.{puts_last, slots_pass, slots_put}
use Rattle.writer.specs.Items.{four_slots, slots_text}
use lib.ListN.{drop_of_length-le}
use mathlib.Core.Path.{ap}
use native.Mathlib.Omega.{arith}
use Rattle.writer.proofs.play.put_trick.Goals.{then-k-lt52, else-k-lt52}
use Rattle.writer.proofs.play.put_trick.Goals as goal

pub loop-k-preserved : goal.loop-k-preserved
loop-k-preserved c =
    let ks = four_slots c.args.z in
    let l = c.loop-k in
    let i = l.k-index in
    elim c.if-k-lt52.branch [
      | then-k-lt52 w ↦ rw (w.page-is, w.cards-is) (puts_next _ _ (puts_same (slots_put c.args.c l.cards ks i c.loop-k-test.true w.if-k-lt52.true) l.invariant.0) w.put_slot.ensures, omega (arith, l.invariant.1))
      | else-k-lt52 w ↦ rw (w.page-is, w.cards-is) (puts_same (slots_pass c.args.c l.cards ks i c.loop-k-test.true w.if-k-lt52.false) l.invariant.0, omega (arith, l.invariant.1))
    ]
