use Rattle.reader.proofs.ReadingLaws.{last_stored}
use Rattle.reader.proofs.reading.last_entries.Goals as goal

pub returns-in-Play : goal.returns-in-Play
returns-in-Play c =
    let a = c.args in
    last_stored a.w a.kind _ _ _ c.in-Play.is c.last_trick-last.ensures.0 c.last_trick-last.ensures.1
