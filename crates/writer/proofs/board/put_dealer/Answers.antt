use Rattle.tables.proofs.PutsLaws.{puts_nothing}
use Rattle.writer.specs.BoardTexts.{dealer_text}
use borrow.Author.Tests.{le-ltb, lt-ltb}
use Rattle.writer.proofs.board.put_dealer.Goals as goal

pub returns-then-dealer-lt4 : goal.returns-then-dealer-lt4
unfolding dealer_text
returns-then-dealer-lt4 c =
    rw (← c.word-dealer.ensures.0, lt-ltb _ _ c.if-dealer-lt4.true) c.put_seated.ensures

pub returns-else-dealer-lt4 : goal.returns-else-dealer-lt4
unfolding dealer_text
returns-else-dealer-lt4 c =
    rw (← c.word-dealer.ensures.0, le-ltb _ _ c.if-dealer-lt4.false) (puts_nothing _)
