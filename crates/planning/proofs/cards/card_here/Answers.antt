use Prim.Native.Nat.{◌+◌}
use Rattle.planning.proofs.BoxLaws.{card_nth}
use Rattle.planning.proofs.cards.card_here.Goals as goal
use native.Mathlib.Omega.{arith}

pub returns : goal.returns
returns c = rw c.cards_in.ensures.0 (card_nth (c.args.k + 1) c.args.k c.args.words.now (omega arith))
