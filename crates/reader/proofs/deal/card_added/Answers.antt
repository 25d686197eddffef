use mathlib.Core.Path.{sym, ◌∙◌}
use native.Mathlib.Omega.{arith}
use Rattle.reader.proofs.CardSets.{add_below, bit_off}
use Rattle.reader.proofs.deal.card_added.Goals as goal

pub returns : goal.returns
returns c =
    (rw (← c.holds.ensures, c.if-holds.false, c.power.ensures), (omega arith, rw c.power.ensures (add_below 52 c.args.k c.args.x c.requires.1 c.requires.0 (bit_off _ _ (sym c.holds.ensures ∙ c.if-holds.false)))))
