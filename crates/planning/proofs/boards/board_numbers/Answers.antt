use Prim.Native.Nat.{◌+◌}
use mathlib.Core.Path.{refl}
use Rattle.planning.specs.Slips.{board_numbers}
use Rattle.planning.proofs.BoardLaws.{card_at_lem}
use Rattle.planning.proofs.boards.board_numbers.Goals as goal

pub returns : goal.returns
unfolding board_numbers
returns c = let a = c.args in
    let n = card_at_lem a.news.now (a.k + 1) a.k refl in
    let b = rw n at c.behind_state-b.ensures in
    let s = c.state_of-s.ensures.0 in
    rw (c.number.ensures, c.source.ensures, c.number-2.ensures, b, s)
