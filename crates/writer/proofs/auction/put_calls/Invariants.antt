use Prim.Native.Nat.{◌+◌, ◌≤◌}
use Rattle.tables.proofs.PutsLaws.{PutsLeft}
use Rattle.writer.specs.Items.{calls_text, items_of}
use mathlib.Core.Bool.{false}
use Rattle.writer.proofs.auction.put_calls.Given as goal

abbrev pub invariant-loop-entry : goal.invariant-loop-entry
invariant-loop-entry l =
    PutsLeft l.fn.page (calls_text l.c 0 false (items_of l.items)) l.page (calls_text l.c l.n l.called (items_of l.entry-iterator)) × (l.n + l.entry-iterator.count ≤ l.items.count)
