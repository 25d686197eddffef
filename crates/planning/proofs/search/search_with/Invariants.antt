use Prim.Native.Nat.{◌*◌, ◌≤◌}
use mathlib.Core.Path.{◌≡◌}
use Rattle.planning.specs.Searches.{searched}
use Rattle.planning.proofs.SearchLaws.{search_left}
use Rattle.planning.proofs.search.search_with.Given as goal

abbrev pub invariant-loop-k : goal.invariant-loop-k
invariant-loop-k l = (search_left l.tabled l.d.words l.cards l.k l.words ≡ searched l.tabled l.d.words l.cards) × (l.words ≤ 8 * l.k)
