use Rattle.writer.proofs.BoardLaws.{scoring_found, scoring_none}
use Rattle.writer.proofs.board.put_scoring.Goals as goal

pub returns-in-Some : goal.returns-in-Some
returns-in-Some c =
    let m = c.items-items.ensures in
    let q = rw (m.same_text, m.same_entries, m.first_is, m.count_is) at (scoring_found c.items-items.result.text.now c.items-items.result.entries.now c.items-items.result.first c.items-items.result.count c.in-Some.n c.in-Some.ensures.0 c.in-Some.ensures.1) in
    rw q (rw (c.bytes_at.ensures, m.same_text, m.same_entries, m.first_is) at c.put_tagged.ensures)

pub returns-in-None : goal.returns-in-None
returns-in-None c =
    let m = c.items-items.ensures in
    let q = rw (m.same_text, m.same_entries, m.first_is, m.count_is) at (scoring_none c.items-items.result.text.now c.items-items.result.entries.now c.items-items.result.first c.items-items.result.count 0 c.in-None.ensures) in
    rw q c.put_tagged-in-None.ensures
