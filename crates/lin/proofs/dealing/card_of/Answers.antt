use Prim.Native.Nat.{ℕ}
use mathlib.Core.Path.{◌≡◌, refl}
use lib.Dec.{ltb}
use Rattle.tables.specs.Letters.{rank_of}
use Rattle.tables.proofs.Laws.{by_cases}
use Rattle.reader.specs.Words.{card_number}
use Rattle.lin.proofs.dealing.card_of.Goals as goal

-- No rank (13) is of no card.
no_card : (suit : ℕ) → 52 ≡ card_number suit 13
unfolding card_number
no_card suit = by_cases (ltb 3 suit) (λ e. rw e) (λ e. rw e)

pub returns-in_err-suit : goal.returns-in_err-suit
unfolding card_number
returns-in_err-suit c = rw (c.from_residual.ensures, c.in_err-suit.was) (refl, tt)

pub returns-in_err-rank_of : goal.returns-in_err-rank_of
returns-in_err-rank_of c =
    let rank : 13 ≡ rank_of c.args.c c.args.b = rw c.in_err-rank_of.was at c.rank_of.ensures.0 in
    rw (c.from_residual-in_err-rank_of.ensures, ← rank) (no_card _, tt)
