use Rattle.planning.proofs.PlanLaws.{rows_first, rows_next, rows_end}
use Rattle.planning.proofs.boards.put_boards.Goals as goal

pub loop-k-init : goal.loop-k-init
loop-k-init c = rows_first _ c.args.olds.now c.args.news.now c.args.numbers.now
