use Rattle.reader.proofs.PlayLaws.{last_stored, last_none}
use Rattle.reader.proofs.play.last_trick.Goals as goal

pub returns-then-t : goal.returns-then-t
returns-then-t c =
    let x = c.args in
    last_stored x.t c.if-t.true c.trick_entry.ensures.0 c.push.ensures c.one_more.ensures

pub returns : goal.returns
returns c =
    let x = c.args in
    last_none x.t c.if-t.false
