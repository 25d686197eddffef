use mathlib.Core.Path.{◌∙◌}
use native.Mathlib.Omega.{arith}
use Rattle.planning.proofs.SearchLaws.{search_first, search_found, search_past, search_stop}
use Rattle.planning.proofs.search.search_with.Goals as goal

pub loop-k-init : goal.loop-k-init
loop-k-init c =
    let a = c.args in
    (search_first a.tabled a.d.now.words a.cards.now, omega arith)

pub returns-then-tried : goal.returns-then-tried
returns-then-tried c =
    let l = c.loop-k in
    let a = c.args in
    let t = c.try_board-tried.ensures in
    (search_found a.tabled a.d.now.words a.cards.now l.k l.words c.loop-k-test.true t.0 t.1 c.if-tried.true ∙ l.invariant.0, omega arith, omega (arith, t.2, l.invariant.1))

pub loop-k-preserved : goal.loop-k-preserved
loop-k-preserved c =
    let l = c.loop-k in
    let a = c.args in
    let t = c.try_board-tried.ensures in
    (search_past a.tabled a.d.now.words a.cards.now l.k l.words c.loop-k-test.true t.0 t.1 c.if-tried.false ∙ l.invariant.0, omega (arith, t.2, l.invariant.1))
