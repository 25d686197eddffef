use Prim.Native.Nat.{◌-◌}
use Rattle.tables.proofs.PutsLaws.{PutsLeft}
use lib.ListN.{replicate}
use Rattle.writer.proofs.tokens.put_underscores.Given as goal

abbrev pub invariant-loop-i : goal.invariant-loop-i
invariant-loop-i l =
    PutsLeft l.fn.page (replicate l.n 95) l.page (replicate (l.n - l._i) 95)
