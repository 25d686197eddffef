use Rattle.writer.specs.Held.{entry_word}
use borrow.Author.Rules.{rules}
use borrow.Author.Tests.{le-ltb, lt-ltb}
use native.Mathlib.Omega.{arith}
use Rattle.writer.proofs.items.Items.word_at.Goals as goal

pub returns-then-e-self : goal.returns-then-e-self
unfolding entry_word
returns-then-e-self c =
    (rw (lt-ltb _ _ c.if-e-self.true), search rules)

pub returns : goal.returns
unfolding entry_word
returns c =
    (rw (le-ltb _ _ c.if-e-self.false), omega arith)
