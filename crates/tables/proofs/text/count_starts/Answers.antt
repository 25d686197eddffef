use Rattle.std.proofs.Common.{rules}
use Rattle.tables.proofs.TextLaws.{starts_counted}
use Rattle.tables.proofs.text.count_starts.Goals as goal

pub returns : goal.returns
returns c = starts_counted c.args.s.now (search rules)
