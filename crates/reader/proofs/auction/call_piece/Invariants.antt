use Prim.Native.Nat.{◌+◌, ◌*◌, ◌≤◌}
use mathlib.Core.Path.{◌≡◌}
use lib.ListN.{length}
use Rattle.reader.specs.PieceSteps.{piece}
use Rattle.reader.specs.Auction.{called, called_piece}
use Rattle.reader.proofs.TokenLaws.{AtToken}
use Rattle.reader.proofs.auction.call_piece.Given as goal

abbrev pub invariant-loop-t : goal.invariant-loop-t
invariant-loop-t l =
    let i = l.t-iterator.next in
    AtToken (called l.c) l.initial.entries (called_piece l.c l.initial.w (piece l.at l.s)) l.at l.s l.entries l.w i
    × (l.t-iterator.text.now ≡ l.s)
    × (i ≤ length l.s)
    × (l.w.count ≤ l.initial.w.count + 3 * i)
    × (l.entries.count ≤ l.initial.entries.count + 3 * i)
