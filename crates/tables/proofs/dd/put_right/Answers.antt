use Prim.Native.Nat.{◌<◌}
use Rattle.std.proofs.Common.{rules}
use Rattle.tables.proofs.PageLaws.{right_is}
use Rattle.tables.proofs.PutsLaws.{puts_then}
use Rattle.tables.proofs.dd.put_right.Goals as goal
use Rattle.tables.proofs.dd.put_right.Goals.{then-tricks-wide, else-tricks-wide}

pub returns : goal.returns
returns c =
    let a = c.args in
    let low : a.tricks < 4294967296 = search rules in
    elim c.if-tricks-wide.branch [
      | then-tricks-wide w ↦ rw (right_is a.wide a.tricks low, w.if-tricks-wide.true) (puts_then w.put_byte.ensures (rw (c.from.ensures, w.page-is) at c.put_decimal.ensures))
      | else-tricks-wide w ↦ rw (right_is a.wide a.tricks low, w.if-tricks-wide.false) (rw (c.from.ensures, w.page-is) at c.put_decimal.ensures)
    ]
