use Rattle.reader.proofs.ReadingLaws.{block_zero}
use Rattle.std.specs.Prelude.{ℕ, Option, unwrap_or}
use mathlib.Core.Path.{◌≡◌, ap}
use Rattle.reader.specs.Boards.{block_of, in_commentary}
use native.Mathlib.Omega.{arith}
use Rattle.reader.proofs.reading.commentary_line.Goals as goal

pub returns-in-Some : goal.returns-in-Some
unfolding in_commentary
returns-in-Some c =
    let b = c.in-Some.ensures in
    let e = c.block_step.ensures in
    let k : block_of c.args.s.now ≡ c.args.i = ap (λ (o : Option ℕ). unwrap_or o 0) c.requires.0 in
    (rw (b.there, k, ← b.place) e, omega (arith, block_zero _ _ _ _ _ e))
