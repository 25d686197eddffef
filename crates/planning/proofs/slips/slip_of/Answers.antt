use mathlib.Core.Path.{ap, ◌∙◌}
use Rattle.reader.specs.Deals.{hands_of_words}
use Rattle.planning.specs.Slips.{slip_of}
use Rattle.planning.proofs.slips.slip_of.Goals as goal

pub returns : goal.returns
unfolding slip_of
returns c = let e = c.hands_of_words-h.ensures ∙ ap hands_of_words c.deal_at.ensures in
    rw e
