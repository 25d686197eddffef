use Rattle.tables.proofs.PutsLaws.{puts_all, puts_first, puts_next, puts_same}
use Rattle.writer.proofs.TokenLaws.{digits_none, digits_step}
use Rattle.writer.proofs.tokens.put_digits.Goals as goal

pub loop-i-preserved : goal.loop-i-preserved
loop-i-preserved c =
    let b = c.args.board.now in
    puts_next _ _ (puts_same (digits_step b.cards.now b.index c.loop-i.i 38 c.loop-i-test.true) c.loop-i.invariant) (rw (c.digit_of.ensures, c.word.ensures.0) at c.put_byte.ensures)
