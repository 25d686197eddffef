use Rattle.writer.proofs.TokenLaws.{PlusSoFar}
use Rattle.writer.specs.Items.{items_of}
use Rattle.writer.proofs.auction.ends_with_plus.Given as goal

abbrev pub invariant-loop-entry : goal.invariant-loop-entry
invariant-loop-entry l =
    PlusSoFar (items_of l.items) l.plus l.entry-iterator
