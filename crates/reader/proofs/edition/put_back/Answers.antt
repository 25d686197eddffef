use mathlib.Core.Path.{refl}
use Rattle.reader.proofs.EditionLaws.{back_put}
use Rattle.reader.proofs.edition.put_back.Goals as goal

pub returns : goal.returns
returns c =
    let a = c.args in
    back_put a.cards.now a.i
    c.copy_in.ensures c.copy_in-2.ensures c.copy_in-3.ensures c.copy_in-4.ensures
    c.value_words-values.ensures c.section_words-auction.ensures c.section_words-play.ensures c.tail_words-tail.ensures
    refl refl refl
