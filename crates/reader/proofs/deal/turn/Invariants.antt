use mathlib.Core.Path.{◌≡◌}
use Rattle.reader.specs.Deals.{turned}
use Rattle.reader.proofs.deal.turn.Given as goal

abbrev pub invariant-loop-i : goal.invariant-loop-i
invariant-loop-i l = l.h ≡ turned l._i l.fn.h
