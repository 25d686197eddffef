use mathlib.Core.Path.{◌≡◌, ap, ◌∙◌}
use native.Mathlib.Nat.{add-zero}
use native.Mathlib.Omega.{arith}
use Rattle.reader.specs.declared.tokens.Tokens.{Tokens}
use Rattle.reader.specs.Play.{played_token, played_piece}
use Rattle.reader.proofs.PieceLaws.{to_emit}
use Rattle.reader.proofs.TokenLaws.{token_inside, reading_next, reading_done}
use Rattle.reader.proofs.PlayLaws.{next_trick_few, played_grown}
use Rattle.reader.proofs.play.play_piece.Goals as goal

pub loop-d-init : goal.loop-d-init
unfolding played_piece
loop-d-init c =
    let x = c.args in
    let z : c.into_iter-d-iterator.result.next ≡ 0 = cc in
    (rw (z, add-zero) (to_emit (played_token x.by.c x.by.lead x.by.trump) x.entries.now x.t _), cc, omega (arith, z), omega (arith, z), c.requires.0, omega (arith, z))

pub loop-d-preserved : goal.loop-d-preserved
loop-d-preserved c =
    let x = c.args in
    let l = c.loop-d in
    let v = l.invariant in
    let n = c.in-Some.ensures.steps in
    let d = token_inside _ n v.1 in
    let r = c.play_step-w in
    let y = c.of.result.now in (
      reading_next x.at _ v.0 n v.1 c.of.ensures r.ensures.0,
      ap (λ (t : Tokens). t.text.now) n.walk_is ∙ v.1,
      omega (arith, d.0, d.1),
      omega (arith, v.3, d.1, d.2, n.some_byte, next_trick_few x.by.c x.by.lead x.by.trump l.w y r.ensures.0.answer),
      r.ensures.1,
      omega (arith, v.5, d.1, d.2, n.some_byte, r.ensures.0.adds.count, (played_grown x.by.c x.by.lead x.by.trump l.w y).few),
    )

pub returns : goal.returns
returns c =
    let v = c.loop-d.invariant in
    (reading_done c.args.at c.loop-d.d-iterator v.0 v.1 c.in-None.ensures.steps.0, v.4, omega (arith, v.2, v.3))
