use Rattle.tables.specs.Text.{differs}
use Rattle.tables.proofs.TextLaws.{take_front}
use Rattle.lin.proofs.pairs.cut.Goals as goal

pub returns-clause-front : goal.returns-clause-front
returns-clause-front c = rw (c.upto.ensures, c.index_of-n.ensures.0) (take_front (differs c.args.x) c.args.s.now)
