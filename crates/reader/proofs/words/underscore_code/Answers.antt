use native.Mathlib.Omega.{arith}
use borrow.Author.Tests.{le-ltb, ne_eqb}
use Rattle.reader.proofs.WordLaws.{underscores_are, code_is}
use Rattle.reader.specs.Words.{underscore_code}
use Rattle.reader.proofs.words.underscore_code.Goals as goal

pub returns : goal.returns
unfolding underscore_code
returns c =
    let n = c.if-n-gt8.false in
    rw (ne_eqb _ _ c.if-n-eq0.false, le-ltb _ _ n, ← underscores_are c.args.token.now 8 n, ← c.upto.ensures, ← c.eq.ensures, c.then_some.ensures) (code_is c.eq.result _ 47 (omega (arith, n)))
