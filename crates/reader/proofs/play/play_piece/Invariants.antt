use Prim.Native.Nat.{◌+◌, ◌≤◌}
use mathlib.Core.Path.{◌≡◌}
use lib.ListN.{length}
use Rattle.reader.specs.PieceSteps.{piece}
use Rattle.reader.specs.Play.{played_token, played_piece}
use Rattle.reader.specs.TokenSteps.{Seated}
use Rattle.reader.proofs.TokenLaws.{AtToken}
use Rattle.reader.proofs.play.play_piece.Given as goal

abbrev pub invariant-loop-d : goal.invariant-loop-d
invariant-loop-d l =
    let i = l.d-iterator.next in
    AtToken (played_token l.by.c l.by.lead l.by.trump) l.initial.entries (played_piece l.by.c l.by.lead l.by.trump l.initial.w (piece l.at l.s)) l.at l.s l.entries l.w i
    × (l.d-iterator.text.now ≡ l.s)
    × (i ≤ length l.s)
    × (l.w.count ≤ l.initial.w.count + i)
    × Seated l.w
    × (l.entries.count ≤ l.initial.entries.count + i)
