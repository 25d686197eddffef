use mathlib.Core.Path.{◌≡◌}
use borrow.Author.Tests.{lt-ltb}
use native.Mathlib.Omega.{arith}
use Rattle.lin.specs.Dealing.{dealer_of}
use Rattle.lin.proofs.DealingLaws.{told_is}
use Rattle.lin.proofs.dealing.deal_in.Goals as goal

pub returns-in_default : goal.returns-in_default
returns-in_default c =
    let e : 4 ≡ dealer_of c.first_character.result = rw c.in_default.is at c.dealer_of.ensures.0 in
    rw (told_is _ _ _, ← c.first_character.ensures, ← e)

pub returns : goal.returns
returns c =
    let d = c.in-Some.ensures in
    rw (told_is _ _ _, ← c.first_character.ensures, ← d.0, lt-ltb c.in-Some.dealer 4 (omega (arith, d.1)), ← c.from.ensures, ← c.read_deal.ensures.0)
