use Rattle.planning.specs.Slips.{board_numbers}
use Rattle.planning.proofs.PlanLaws.{Rows}
use Rattle.planning.proofs.boards.put_boards.Given as goal

abbrev pub invariant-loop-k : goal.invariant-loop-k
invariant-loop-k l = Rows (board_numbers l.olds l.news) l.olds l.news l.fn.numbers l.k l.numbers
