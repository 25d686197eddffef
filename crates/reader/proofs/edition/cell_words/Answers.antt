use mathlib.Core.Path.{refl, ◌≡◌}
use lib.ListN.{replicate, length}
use Rattle.reader.proofs.EditionLaws.{sets_all}
use borrow.Author.Rules.{rules}
use Rattle.reader.proofs.edition.cell_words.Goals as goal

pub loop-i-init : goal.loop-i-init
loop-i-init c =
    let e : length c.args.t.cells ≡ 20 = search rules in
    (sets_all (replicate 20 0) c.args.t.cells e, refl, e)
