use Rattle.tables.proofs.PutsLaws.{puts_then}
use Rattle.writer.specs.BoardTexts.{front_text}
use Rattle.writer.proofs.page.put_front.Goals as goal

pub returns : goal.returns
unfolding front_text
returns c =
    puts_then (puts_then (puts_then (puts_then c.put_leading.ensures c.put_head.ensures) (rw (c.part.ensures.same_text, c.part.ensures.same_entries, c.part.ensures.first_is, c.part.ensures.count_is, c.before_deal-early.ensures.0, c.items-items.ensures.same_text, c.items-items.ensures.same_entries, c.items-items.ensures.first_is, c.items-items.ensures.count_is) at c.put_extras.ensures)) c.put_contract.ensures) c.put_analysis.ensures
