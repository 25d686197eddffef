use Rattle.tables.proofs.PutsLaws.{puts_nothing}
use Rattle.writer.specs.Tags.{seat_text}
use borrow.Author.Tests.{le-ltb, lt-ltb}
use Rattle.writer.proofs.tokens.put_seat.Goals as goal

pub returns-then-seat-lt4 : goal.returns-then-seat-lt4
unfolding seat_text
returns-then-seat-lt4 c =
    rw (lt-ltb _ _ c.if-seat-lt4.true) (rw c.seat_letter.ensures at c.put_byte.ensures)

pub returns-else-seat-lt4 : goal.returns-else-seat-lt4
unfolding seat_text
returns-else-seat-lt4 c =
    rw (le-ltb _ _ c.if-seat-lt4.false) (puts_nothing _)
