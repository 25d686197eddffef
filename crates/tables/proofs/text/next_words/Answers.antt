use Rattle.tables.specs.Text.{is_word}
use Rattle.tables.proofs.Laws.{rest}
use Rattle.tables.proofs.TextLaws.{drop_front}
use Rattle.tables.proofs.text.next_words.Goals as goal

pub returns : goal.returns
returns c = rw (c.trim_start.ensures, rest c.args.s.now c.word_len.result, c.word_len.ensures.0, drop_front is_word)
