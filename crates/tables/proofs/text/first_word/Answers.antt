use Rattle.tables.specs.Text.{is_word}
use Rattle.tables.proofs.TextLaws.{take_front}
use Rattle.tables.proofs.text.first_word.Goals as goal

pub returns : goal.returns
returns c = rw (c.word_len.ensures.0, take_front is_word)
