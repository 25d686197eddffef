use Rattle.tables.proofs.PutsLaws.{puts_then}
use Rattle.writer.specs.BoardTexts.{back_text}
use Rattle.writer.proofs.page.put_back.Goals as goal

pub returns : goal.returns
unfolding back_text
returns c =
    puts_then (puts_then (puts_then (rw (c.part-late.ensures.same_text, c.part-late.ensures.same_entries, c.part-late.ensures.first_is, c.part-late.ensures.count_is, c.before_deal-early.ensures.0, c.items-items.ensures.same_text, c.items-items.ensures.same_entries, c.items-items.ensures.first_is, c.items-items.ensures.count_is) at c.put_extras.ensures) c.put_bidding.ensures) c.put_cards.ensures) c.put_unwritten.ensures
