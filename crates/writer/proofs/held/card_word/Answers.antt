use Rattle.writer.specs.Held.{card_word}
use borrow.Author.Rules.{rules}
use borrow.Author.Tests.{le-ltb, lt-ltb}
use native.Mathlib.Omega.{arith}
use Rattle.writer.proofs.held.card_word.Goals as goal

pub returns-then-k-cards : goal.returns-then-k-cards
unfolding card_word
returns-then-k-cards c =
    (rw (lt-ltb _ _ c.if-k-cards.true), search rules)

pub returns : goal.returns
unfolding card_word
returns c =
    (rw (le-ltb _ _ c.if-k-cards.false), omega arith)
