use Rattle.reader.specs.Deals.{hands_of_words}
use Rattle.writer.proofs.deal.hands_at.Goals as goal

pub returns : goal.returns
unfolding hands_of_words
returns c =
    rw (c.hand_at-north.ensures, c.hand_at-east.ensures, c.hand_at-south.ensures, c.hand_at-west.ensures)
