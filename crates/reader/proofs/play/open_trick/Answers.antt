use native.Mathlib.Omega.{arith}
use Rattle.reader.proofs.PlayLaws.{open_full, open_same, open_first}
use Rattle.reader.proofs.play.open_trick.Goals as goal

pub returns-then-t-eq4 : goal.returns-then-t-eq4
returns-then-t-eq4 c =
    let x = c.args in
    (open_full x.lead x.t c.if-t.true c.if-t-eq4.true c.trick_entry.ensures.0 c.push.ensures c.next_leader.ensures c.new_trick.ensures.0, c.new_trick.ensures.1)

pub returns-then-t : goal.returns-then-t
returns-then-t c =
    let x = c.args in
    let s = c.requires.0 in
    (open_same x.lead x.t c.if-t.true c.if-t-eq4.false, record { seated = s; seat_left = omega (arith, s.seat_low, c.if-t-eq4.false) })

pub returns : goal.returns
returns c =
    let x = c.args in
    (open_first x.lead x.t c.if-t.false (rw c.from.ensures at c.new_trick-2.ensures.0), c.new_trick-2.ensures.1)
