use Rattle.std.proofs.Common.{rules}
use Rattle.reader.proofs.LineLaws.{last_from}
use Rattle.reader.proofs.line.last_brace.Goals as goal

pub returns : goal.returns
returns c = last_from c.args.line.now c.rposition.result (search rules)
