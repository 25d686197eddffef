use Rattle.writer.specs.BoardTexts.{present_held}
use Rattle.writer.proofs.page.present_at.Goals as goal

pub returns : goal.returns
unfolding present_held
returns c =
    rw (← c.noted-notes.ensures, ← c.word.ensures.0, ← c.word-2.ensures.0, ← c.word-3.ensures.0, ← c.word-4.ensures.0, ← c.word-5.ensures.0, ← c.word-6.ensures.0, ← c.word-7.ensures.0)
