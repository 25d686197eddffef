use borrow.Author.Rules.{rules}
use mathlib.Core.Path.{refl, sym}
use Rattle.reader.proofs.EditionLaws.{own_length, record_in}
use Rattle.reader.proofs.edition.read_record.Goals as goal

pub returns : goal.returns
returns c =
    let p = c.args.at in
    let r = c.read_board-s in
    record_in {l' = r.new.entries} p.start p.before refl refl refl (search rules) (sym (own_length c.args.text.now p.start p.end c.requires.0 c.requires.1))
    (rw c.of-own.ensures at r.ensures) c.put_card.ensures
