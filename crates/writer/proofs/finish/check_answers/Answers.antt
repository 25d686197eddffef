use Rattle.std.proofs.lemmas.Iterator.{YieldsList-from_slice}
use Rattle.std.proofs.lemmas.Iterator.Search.{position_from_yields_List}
use Rattle.writer.proofs.FinishSteps.{above_found, check_above, check_count, check_odd, check_right}
use Rattle.std.proofs.Common.{rules, tests}
use lib.Dec.{ltb}
use mathlib.Core.Path.{refl}
use native.Mathlib.Omega.{arith}
use Rattle.writer.proofs.finish.check_answers.Goals as goal

pub returns-in-Some : goal.returns-in-Some
returns-in-Some c =
    let bs = c.args.answers.now in
    let a = rw c.in-Some.is at (above_found bs _ (position_from_yields_List (ltb 13) _ _ _ c.position.ensures.ran (YieldsList-from_slice bs cc) (λ x b q k. search (rules, tests)))) in
    check_above c.args.solve bs c.if-answers-ne0.false c.if-answers-solve.false a.0 (λ z. omega (arith, z, a.1))

pub returns-in-None : goal.returns-in-None
returns-in-None c =
    let bs = c.args.answers.now in
    let a = rw c.in-None.is at (above_found bs _ (position_from_yields_List (ltb 13) _ _ _ c.position.ensures.ran (YieldsList-from_slice bs cc) (λ x b q k. search (rules, tests)))) in
    check_right c.args.solve bs c.if-answers-ne0.false c.if-answers-solve.false a refl
