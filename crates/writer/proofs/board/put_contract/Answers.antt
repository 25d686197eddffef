use Rattle.tables.proofs.PutsLaws.{puts_then}
use Rattle.writer.specs.BoardTexts.{contract_text}
use Rattle.writer.proofs.board.put_contract.Goals as goal

pub returns : goal.returns
unfolding contract_text
returns c =
    puts_then (puts_then (puts_then (puts_then c.put_dealt.ensures c.put_scoring.ensures) (rw c.word.ensures.0 at c.put_seated.ensures)) c.put_value.ensures) c.put_outcome.ensures
