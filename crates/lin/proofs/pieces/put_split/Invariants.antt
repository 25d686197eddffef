use mathlib.Core.Path.{◌≡◌}
use Prim.Native.Nat.{◌≤◌}
use Rattle.lin.specs.Pairs.{pairs_of}
use Rattle.lin.specs.Pieces.{split, with_deal}
use Rattle.lin.proofs.GoneLaws.{Going}
use Rattle.lin.proofs.SplitLaws.{Places, pieces_left}
use Rattle.lin.proofs.pieces.put_split.Given as goal

abbrev pub invariant-loop-p : goal.invariant-loop-p
invariant-loop-p l =
    let s = l.p-iterator in
    Going l.c (with_deal (split (pairs_of l.text))) (with_deal (pieces_left s.text.now l.start l.run s.at)) l.fn.page l.page l.g
    × Places s.text.now l.start l.run s.at
    × (l.g.boards ≤ l.start)
    × (s.text.now ≡ l.text)
