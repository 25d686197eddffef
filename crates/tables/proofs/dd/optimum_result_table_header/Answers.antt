use Rattle.std.proofs.Common.{rules, arith}
use Rattle.tables.specs.Tables.{header_text}
use Rattle.tables.proofs.PutsLaws.{ended}
use Rattle.tables.proofs.dd.optimum_result_table_header.Goals as goal

pub returns : goal.returns
unfolding header_text
returns c = ended c.finish.ensures.ended c.put_header.ensures c.new-put.ensures.start c.new-put.ensures.bytes (search rules) (omega arith)
