use mathlib.Core.Path.{refl}
use Rattle.writer.proofs.ChangedCards.{mark_set, mark_none}
use Rattle.writer.proofs.finish.mark_card.Goals as goal

pub returns-then-whole-tabled : goal.returns-then-whole-tabled
returns-then-whole-tabled c = mark_set c.args.k c.args.cards.now _ c.requires (rw (c.is_whole-whole.ensures, c.has_table-tabled.ensures, c.card_here-card.ensures) at c.if-whole-tabled.true) refl

pub returns-else-whole-tabled : goal.returns-else-whole-tabled
returns-else-whole-tabled c = mark_none c.args.k c.args.cards.now (rw (c.is_whole-whole.ensures, c.has_table-tabled.ensures, c.card_here-card.ensures) at c.if-whole-tabled.false)
