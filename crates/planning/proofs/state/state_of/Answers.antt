use Rattle.planning.proofs.StateLaws.{state_blank, state_own, state_old, state_near, state_twin, state_solve}
use lib.ListN.{take}
use lib.Seq.{length-take-le}
use Rattle.planning.specs.Slips.{card_from}
use native.Mathlib.Omega.{arith}
use mathlib.Core.Path.{sym, ◌∙◌}
use Rattle.planning.proofs.state.state_of.Goals as goal

pub returns-in_default : goal.returns-in_default
returns-in_default c =
    let a = c.args in
    (state_blank a.olds.now a.news.now (take a.k a.news.now) (card_from a.news.now a.k) c.in_default.ensures, omega arith)

pub returns-then-has_table : goal.returns-then-has_table
returns-then-has_table c =
    let a = c.args in
    (state_own a.olds.now a.news.now (take a.k a.news.now) (card_from a.news.now a.k) c.in-Some.ensures.0 (sym c.has_table.ensures ∙ c.if-has_table.true), omega arith)

pub returns-in-Some-first_with : goal.returns-in-Some-first_with
returns-in-Some-first_with c =
    let a = c.args in
    (state_old a.olds.now a.news.now (take a.k a.news.now) (card_from a.news.now a.k) c.in-Some.ensures.0 (sym c.has_table.ensures ∙ c.if-has_table.false) c.in-Some.ensures.1 c.in-Some-first_with.ensures.0 c.in-Some-first_with.ensures.1, omega arith)

pub returns-in-Some-first_with-2 : goal.returns-in-Some-first_with-2
returns-in-Some-first_with-2 c =
    let a = c.args in
    (state_near a.olds.now a.news.now (take a.k a.news.now) (card_from a.news.now a.k) c.in-Some.ensures.0 (sym c.has_table.ensures ∙ c.if-has_table.false) c.in-Some.ensures.1 c.in_default-first_with.ensures c.in-Some-first_with-2.ensures.0 c.in-Some-first_with-2.ensures.1, omega arith)

pub returns-in-Some-first_with-3 : goal.returns-in-Some-first_with-3
returns-in-Some-first_with-3 c =
    let a = c.args in
    (state_twin a.olds.now a.news.now (take a.k a.news.now) (card_from a.news.now a.k) c.in-Some.ensures.0 (sym c.has_table.ensures ∙ c.if-has_table.false) c.in-Some.ensures.1 c.in_default-first_with.ensures c.in_default-first_with-2.ensures c.in-Some-first_with-3.ensures.0 c.in-Some-first_with-3.ensures.1, omega (arith, length-take-le a.k a.news.now (omega arith)))

pub returns : goal.returns
returns c =
    let a = c.args in
    (state_solve a.olds.now a.news.now (take a.k a.news.now) (card_from a.news.now a.k) c.in-Some.ensures.0 (sym c.has_table.ensures ∙ c.if-has_table.false) c.in-Some.ensures.1 c.in_default-first_with.ensures c.in_default-first_with-2.ensures c.in_default-first_with-3.ensures, omega arith)
