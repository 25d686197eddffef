use Prim.Native.Nat.{◌+◌, ◌*◌, ◌≤◌, ◌<◌}
use native.Mathlib.Omega.{arith}
use mathlib.Core.Path.{◌≡◌, refl}
use lib.ListN.{length}
use borrow.Author.Tests.{le-leb, lt-leb}
use Rattle.reader.specs.Store.{put}
use Rattle.reader.specs.Editions.{card_words, back_words}
use Rattle.reader.proofs.EditionLaws.{card_put, card_length}
use borrow.Author.Rules.{rules}
use Rattle.reader.proofs.edition.put_card.Goals as goal

pub returns-then-k-cards : goal.returns-then-k-cards
unfolding put card_words
returns-then-k-cards c =
    let a = c.args in
    let h : 64 * a.k + 64 ≤ length a.cards.now = omega (arith, c.if-k-cards.true) in
    let n : length a.s.board.deal.words ≡ 8 = search rules in
    let m : length a.s.board.table.cells ≡ 20 = search rules in (
      rw (le-leb _ _ h)
          (card_put a.cards.now (64 * a.k) (back_words a.at.start a.at.end a.at.before a.s.board)
          c.copy_in.ensures c.copy_in-then-k-cards.ensures c.copy_in-then-k-cards-2.ensures c.put_back.ensures
          c.head_words-head.ensures refl c.cell_words-cells.ensures refl n m),
      card_length a.at.start a.at.end a.at.before a.s.n a.s.board n m,
    )

pub returns-else-k-cards : goal.returns-else-k-cards
unfolding put
returns-else-k-cards c =
    let a = c.args in
    let h : length a.cards.now < 64 * a.k + 64 = omega (arith, c.if-k-cards.false) in
    (rw (lt-leb _ _ h), card_length a.at.start a.at.end a.at.before a.s.n a.s.board (search rules) (search rules))
