use Rattle.tables.specs.Text.{is_white}
use Rattle.tables.proofs.Laws.{rest}
use Rattle.tables.proofs.TextLaws.{drop_front}
use Rattle.tables.proofs.text.trim_start.Goals as goal

pub returns : goal.returns
returns c =
    let r = c.lead_len in
    rw (rest _ r.result, r.ensures.0, drop_front is_white)
