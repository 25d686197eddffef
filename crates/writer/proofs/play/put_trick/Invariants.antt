use Prim.Native.Nat.{◌≤◌}
use Rattle.tables.proofs.PutsLaws.{PutsLeft}
use Rattle.writer.specs.Items.{four_slots, slots_text}
use lib.ListN.{drop}
use Rattle.writer.proofs.play.put_trick.Given as goal

abbrev pub invariant-loop-k : goal.invariant-loop-k
invariant-loop-k l =
    PutsLeft l.fn.page (slots_text l.c 0 (four_slots l.z)) l.page (slots_text l.c l.cards (drop l.k-index (four_slots l.z))) × (l.cards ≤ l.k-index)
