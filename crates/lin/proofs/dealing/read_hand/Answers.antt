use mathlib.Core.Path.{◌≡◌}
use native.Mathlib.Omega.{arith}
use lib.ListN.{length}
use borrow.Author.Rules.{rules}
use Rattle.lin.proofs.DealingLaws.{hand_none, hand_some, grown_more}
use Rattle.lin.proofs.dealing.read_hand.Goals as goal

pub returns-then-is_empty : goal.returns-then-is_empty
returns-then-is_empty c = (hand_none _ _ _ (search rules), (omega arith, c.requires))

pub returns-in_err-h : goal.returns-in_err-h
returns-in_err-h c =
    let some : length c.args.field.now ≡ 0 → ⊥ = search rules in
    rw c.from_residual.ensures (rw (← hand_some _ _ _ some, ← c.first_character.ensures, ← c.hand_step.ensures.0, c.in_err-h.was), tt)

pub returns : goal.returns
returns c =
    let some : length c.args.field.now ≡ 0 → ⊥ = search rules in (
      rw (← hand_some _ _ _ some, ← c.first_character.ensures, ← c.hand_step.ensures.0, c.in_ok-h.was, ← c.from.ensures) c.hand_rest.ensures.0,
      grown_more _ _ c.hand_rest.result c.in_ok-h.ensures.1.0 c.hand_rest.ensures.1,
    )
