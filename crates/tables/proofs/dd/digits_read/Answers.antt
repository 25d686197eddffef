use Rattle.tables.proofs.TableLaws.{decoding_next, decoding_bad, decoding_done}
use Rattle.tables.proofs.dd.digits_read.Goals as goal

pub returns-in_default : goal.returns-in_default
returns-in_default c = decoding_bad c.loop-i.invariant c.requires c.loop-i-test.true (rw (c.first_character.ensures, c.from.ensures) at c.in_default.ensures)

pub loop-i-preserved : goal.loop-i-preserved
loop-i-preserved c =
    decoding_next c.loop-i.invariant c.loop-i-test.true c.in-Some.tricks (rw (← c.from.ensures, ← c.first_character.ensures) c.in-Some.ensures.0) c.in-Some.ensures.1

pub returns : goal.returns
returns c = decoding_done c.loop-i.invariant c.requires c.loop-i-test.false
