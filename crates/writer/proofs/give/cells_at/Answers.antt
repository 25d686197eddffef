use Rattle.writer.proofs.GiveCells.{cells_none, cells_copied}
use Rattle.writer.proofs.give.cells_at.Goals as goal

pub returns-then-cards-k : goal.returns-then-cards-k
returns-then-cards-k c = let a = c.args in
    cells_none a.cards.now a.k c.if-cards-k.true

pub returns : goal.returns
returns c = let a = c.args in
    cells_copied a.cards.now _ a.k c.if-cards-k.false c.copy_in.ensures
