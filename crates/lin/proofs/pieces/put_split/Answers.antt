use mathlib.Core.Path.{◌≡◌, refl, sym, ap, ◌∙◌}
use mathlib.Core.Bool.{Bool, true, ◌&&◌}
use lib.Dec.{eqb}
use native.Mathlib.Omega.{arith}
use borrow.Author.Tests.{ltb-true, lt-ltb, eq-eqb}
use Rattle.tables.proofs.Laws.{both, clash}
use Rattle.lin.specs.Pieces.{with_deal}
use Rattle.lin.specs.declared.pairs.Command.{Command}
use Rattle.lin.specs.declared.pairs.Command.TheVariants.{Qx, Heading}
use Rattle.lin.specs.Pairs.{place_of}
use Rattle.lin.proofs.PairLaws.{same_place, same_command}
use Rattle.lin.proofs.GoneLaws.{going_first, going_same, going_if, going_off_if, going_last, if_more}
use Rattle.lin.proofs.SplitLaws.{pieces_left, places_first, left_first, left_last, places_title, left_title, places_qx, left_qx, places_other, left_other}
use Rattle.lin.proofs.pieces.put_split.Goals as goal

at_same : {k m : Command} → k ≡ m → eqb (place_of k) (place_of m) ≡ true
at_same {k} {m} e = rw e (eq-eqb (place_of m) (place_of m) refl)

both_true : {p q : Bool} → p ≡ true → q ≡ true → (p && q) ≡ true
both_true e f = rw (e, f)

pub loop-p-init : goal.loop-p-init
loop-p-init c =
    rw (c.into_iter-p-iterator.ensures.into_iter_gives, c.pairs_in-p-items.ensures.0, c.pairs_in-p-items.ensures.1)
    (going_same (left_first _) (going_first _ _ _ _ c.no_progress-g.ensures), places_first _, rw c.no_progress-g.ensures (omega arith), refl)

pub loop-p-preserved-then-eq : goal.loop-p-preserved-then-eq
loop-p-preserved-then-eq c =
    let l = c.loop-p in
    let n = c.in-Some.ensures.steps in
    let e = same_command _ Heading (sym (c.eq.ensures ∙ same_place c.in-Some.p.command Heading) ∙ c.if-eq.true) in
    (going_same (ap with_deal (left_title _ _ _ _ _ l.invariant.1 n e)) l.invariant.0, places_title _ _ _ _ _ l.invariant.1 n, l.invariant.2, rw n.same_text l.invariant.3)

pub returns-in_err-g : goal.returns-in_err-g
returns-in_err-g c =
    let l = c.loop-p in
    let n = c.in-Some.ensures.steps in
    let r = c.next.new.self in
    let t = both _ _ c.if-eq-start.true in
    let e = same_command _ Qx (sym (c.eq-in-loop-p.ensures ∙ same_place c.in-Some.p.command Qx) ∙ t.0) in
    let y = ltb-true _ _ t.1 in
    let m = left_qx _ _ _ _ _ l.invariant.1 n e y in
    let d = rw (c.of.ensures, ← l.invariant.3, c.in_err-g.was) at c.put_dealt.ensures in
    rw c.from_residual.ensures (going_off_if _ (pieces_left r.text.now l.run r.at r.at) (going_same (ap with_deal m) l.invariant.0) d)

pub loop-p-preserved-then-eq-start : goal.loop-p-preserved-then-eq-start
loop-p-preserved-then-eq-start c =
    let l = c.loop-p in
    let n = c.in-Some.ensures.steps in
    let r = c.next.new.self in
    let t = both _ _ c.if-eq-start.true in
    let e = same_command _ Qx (sym (c.eq-in-loop-p.ensures ∙ same_place c.in-Some.p.command Qx) ∙ t.0) in
    let y = ltb-true _ _ t.1 in
    let m = left_qx _ _ _ _ _ l.invariant.1 n e y in
    let d = rw (c.of.ensures, ← l.invariant.3, c.in_ok-g.was) at c.put_dealt.ensures in
    rw (← n.place)
    (going_if _ (pieces_left r.text.now l.run r.at r.at) (going_same (ap with_deal m) l.invariant.0) d, places_qx _ _ _ _ _ l.invariant.1 n, omega (arith, if_more d, l.invariant.2, y), rw n.same_text l.invariant.3)

pub loop-p-preserved : goal.loop-p-preserved
loop-p-preserved c =
    let l = c.loop-p in
    let n = c.in-Some.ensures.steps in
    let e = c.eq.ensures ∙ same_place c.in-Some.p.command Heading in
    let q = c.eq-in-loop-p.ensures ∙ same_place c.in-Some.p.command Qx in
    let m = left_other _ _ _ _ _ l.invariant.1 n
    (λ z. clash (sym c.if-eq.false ∙ (e ∙ at_same z)))
    (λ z y. clash (sym c.if-eq-start.false ∙ both_true (q ∙ at_same z) (lt-ltb _ _ y))) in
    rw (← n.place)
    (going_same (ap with_deal m) l.invariant.0, places_other _ _ _ _ _ l.invariant.1 n, l.invariant.2, rw n.same_text l.invariant.3)

pub returns : goal.returns
returns c =
    let l = c.loop-p in
    let m = left_last _ _ _ _ l.invariant.1 c.in-None.ensures.steps in
    let d = rw (c.from.ensures, ← l.invariant.3) at c.put_dealt-2.ensures in
    going_last _ _ (going_same (ap with_deal m) l.invariant.0) d
