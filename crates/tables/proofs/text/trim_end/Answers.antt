use Rattle.tables.proofs.TextLaws.{take_kept}
use Rattle.tables.proofs.text.trim_end.Goals as goal

pub returns : goal.returns
returns c = rw (c.kept_len.ensures.0, take_kept)
