use mathlib.Core.Path.{◌≡◌, ap, ◌∙◌}
use native.Mathlib.Omega.{arith}
use lib.ListN.{length, take}
use Rattle.planning.specs.PlanSteps.{cards_in}
use Rattle.planning.proofs.BoxLaws.{cards_count, chunks_take}
use Rattle.planning.proofs.cards.cards_in.Goals as goal

pub returns : goal.returns
returns c =
    let n = c.args.n in
    let e : take n c.as_chunks.result.0.now ≡ cards_in n c.args.words.now = rw c.as_chunks.ensures.front (chunks_take n _ c.args.words.now (omega arith)) in
    (e, ap length e ∙ cards_count n c.args.words.now)
