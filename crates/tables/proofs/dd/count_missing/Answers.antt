use Rattle.std.proofs.Common.{rules}
use Rattle.tables.proofs.TableLaws.{missing_counted}
use Rattle.tables.proofs.dd.count_missing.Goals as goal

pub returns : goal.returns
returns c = missing_counted c.args.cells.now (search rules)
