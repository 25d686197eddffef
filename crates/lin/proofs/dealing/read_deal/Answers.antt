use Rattle.lin.proofs.DealingLaws.{fields_read}
use Rattle.lin.proofs.dealing.read_deal.Goals as goal

pub returns : goal.returns
returns c = (
  rw (← fields_read _ _, ← c.cut.ensures.behind, ← c.cut-2.ensures.behind, ← c.cut-3.ensures.behind, ← c.cut.ensures.front, ← c.cut-2.ensures.front, ← c.cut-3.ensures.front, ← c.cut-4.ensures.front) c.read_hands.ensures.0,
  c.read_hands.ensures.1,
)
