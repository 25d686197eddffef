use Prim.Native.Nat.{◌+◌}
use mathlib.Core.Path.{◌≡◌, ap, ◌∙◌}
use native.Mathlib.Nat.{add-zero}
use native.Mathlib.Omega.{arith}
use lib.ListN.{length, length-take}
use Rattle.reader.specs.declared.tokens.Tokens.{Tokens}
use Rattle.reader.specs.PieceSteps.{piece}
use Rattle.reader.specs.Auction.{called, called_piece}
use Rattle.reader.proofs.PieceLaws.{to_emit}
use Rattle.reader.proofs.TokenLaws.{token_inside, reading_next, reading_done}
use Rattle.reader.proofs.AuctionLaws.{called_counted}
use Rattle.reader.proofs.auction.call_piece.Goals as goal

pub loop-t-init : goal.loop-t-init
unfolding called_piece
loop-t-init c =
    let x = c.args in
    let z : c.into_iter-t-iterator.result.next ≡ 0 = cc in
    (rw (z, add-zero) (to_emit (called x.c) x.entries.now x.b _), cc, omega (arith, z), omega (arith, z), omega (arith, z))

pub loop-t-preserved : goal.loop-t-preserved
loop-t-preserved c =
    let x = c.args in
    let l = c.loop-t in
    let v = l.invariant in
    let n = c.in-Some.ensures.steps in
    let d = token_inside _ n v.1 in
    let r = c.call_step-w in (
      reading_next x.at _ v.0 n v.1 c.of.ensures r.ensures.0,
      ap (λ (y : Tokens). y.text.now) n.walk_is ∙ v.1,
      omega (arith, d.0, d.1),
      omega (arith, v.3, r.ensures.1, d.1, d.2, n.some_byte),
      omega (arith, v.4, d.1, d.2, n.some_byte, r.ensures.0.adds.count, (called_counted x.c l.w (piece (x.at + c.in-Some.t.start) c.of.result.now)).few),
    )

pub returns : goal.returns
returns c =
    let v = c.loop-t.invariant in
    (reading_done c.args.at c.loop-t.t-iterator v.0 v.1 c.in-None.ensures.steps.0, omega (arith, v.2, v.3))
