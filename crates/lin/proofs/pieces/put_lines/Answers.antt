use mathlib.Core.Path.{◌≡◌, refl, ap}
use native.Mathlib.Omega.{arith}
use lib.ListN.{length}
use borrow.Author.Rules.{rules}
use Rattle.lin.specs.Pieces.{line_pieces}
use Rattle.lin.proofs.GoneLaws.{going_first, going_same, going_next, going_off, going_end, goes_more}
use Rattle.lin.proofs.SplitLaws.{line_some, line_none, line_behind, no_lines}
use Rattle.lin.proofs.pieces.put_lines.Goals as goal

pub loop-l-preserved-then-is_empty : goal.loop-l-preserved-then-is_empty
loop-l-preserved-then-is_empty c =
    let s = c.in-Some.ensures.steps in
    let none : length c.trim-line.result.now ≡ 0 = search rules in
    (going_same (line_none s c.trim-line.ensures none) c.loop-l.invariant.0, omega (arith, c.loop-l.invariant.1, line_behind s), rw s.walk_is c.loop-l.invariant.2)

pub returns-in_err-g : goal.returns-in_err-g
returns-in_err-g c =
    let some : length c.trim-line.result.now ≡ 0 → ⊥ = search rules in
    rw c.from_residual.ensures (going_off (going_same (line_some c.in-Some.ensures.steps c.trim-line.ensures some) c.loop-l.invariant.0) (rw c.in_err-g.was at c.put_piece.ensures))

pub loop-l-preserved : goal.loop-l-preserved
loop-l-preserved c =
    let s = c.in-Some.ensures.steps in
    let some : length c.trim-line.result.now ≡ 0 → ⊥ = search rules in
    let p = c.in_ok-g.ensures in
    (going_next (going_same (line_some s c.trim-line.ensures some) c.loop-l.invariant.0) p, omega (arith, goes_more p, c.loop-l.invariant.1, line_behind s), rw s.walk_is c.loop-l.invariant.2)
