use Rattle.tables.proofs.PutsLaws.{puts_then}
use Rattle.lin.specs.BoardSteps.{lin_result_text}
use Rattle.lin.proofs.board.put_result.Goals as goal

pub returns : goal.returns
unfolding lin_result_text
returns c =
    puts_then c.put_text.ensures (puts_then c.put_seat.ensures (puts_then c.put_text-2.ensures (puts_then c.put_contract.ensures c.put_text-3.ensures)))
