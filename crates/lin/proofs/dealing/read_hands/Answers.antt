use mathlib.Core.Path.{◌≡◌, refl, sym, ◌∙◌}
use mathlib.Core.Bool.{Bool, true, false, cond}
use native.Mathlib.Omega.{arith}
use Rattle.std.specs.Bool.{then_some}
use Rattle.std.specs.Prelude.{Some, None, IfSome}
use Rattle.reader.specs.declared.deal.Hands.{Hands}
use Rattle.reader.specs.Deals.{InDeck}
use Rattle.lin.proofs.DealingLaws.{no_south, no_west, no_north, east_placed, no_east, all_read}
use Rattle.lin.proofs.dealing.read_hands.Goals as goal

pub returns-in_err-a : goal.returns-in_err-a
returns-in_err-a c =
    rw c.from_residual.ensures (no_south _ _ _ _ _ (sym c.read_hand.ensures.0 ∙ c.in_err-a.was), tt)

pub returns-in_err-b : goal.returns-in_err-b
returns-in_err-b c =
    rw c.from_residual-in_err-b.ensures (no_west _ _ _ _ _ (sym c.read_hand.ensures.0 ∙ c.in_ok-a.was) (sym c.read_hand-2.ensures.0 ∙ c.in_err-b.was), tt)

pub returns-in_err-d : goal.returns-in_err-d
returns-in_err-d c =
    rw c.from_residual-in_err-d.ensures (no_north _ _ _ _ _ (sym c.read_hand.ensures.0 ∙ c.in_ok-a.was) (sym c.read_hand-2.ensures.0 ∙ c.in_ok-b.was) (sym c.read_hand-3.ensures.0 ∙ c.in_err-d.was), tt)

pub returns-in_err-x : goal.returns-in_err-x
returns-in_err-x c =
    let f = sym c.read_hand.ensures.0 ∙ c.in_ok-a.was in
    let g = sym c.read_hand-2.ensures.0 ∙ c.in_ok-b.was in
    let h = sym c.read_hand-3.ensures.0 ∙ c.in_ok-d.was in
    let east = (rw (c.has_thirteen.ensures, c.has_thirteen-2.ensures, c.has_thirteen-3.ensures) at c.read_east.ensures.0) ∙ east_placed _ _ _ _ _ f g h in
    rw c.from_residual-in_err-x.ensures (no_east _ _ _ _ _ f g h (sym east ∙ c.in_err-x.was), tt)

picked : (b : Bool) (h : Hands) → then_some b h ≡ cond b (Some h) None
picked true h = refl
picked false h = refl

in_deck : (b : Bool) (h : Hands) → InDeck h → IfSome (cond b (Some h) None) InDeck
in_deck true h d = d
in_deck false h d = tt

pub returns : goal.returns
returns c =
    let f = sym c.read_hand.ensures.0 ∙ c.in_ok-a.was in
    let g = sym c.read_hand-2.ensures.0 ∙ c.in_ok-b.was in
    let h = sym c.read_hand-3.ensures.0 ∙ c.in_ok-d.was in
    let east = (rw (c.has_thirteen.ensures, c.has_thirteen-2.ensures, c.has_thirteen-3.ensures) at c.read_east.ensures.0) ∙ east_placed _ _ _ _ _ f g h in
    let a = c.in_ok-a.ensures.1 in
    let b = c.in_ok-b.ensures.1 in
    let d = c.in_ok-d.ensures.1 in
    let x = c.in_ok-x.ensures.1 in
    let told = c.then_some.ensures ∙ picked _ _ in (
      told ∙ rw c.are_few.ensures (all_read _ _ _ _ _ f g h (sym east ∙ c.in_ok-x.was)),
      rw told (in_deck _ _ (record { north_low = omega (arith, d.1); east_low = omega (arith, x.1); south_low = a.1; west_low = omega (arith, b.1) })),
    )
