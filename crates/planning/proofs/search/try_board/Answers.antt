use Prim.Native.Nat.{ℕ, ◌+◌}
use mathlib.Core.Path.{sym, ap, ◌∙◌}
use mathlib.Core.Bool.{cond}
use native.Mathlib.Omega.{arith}
use Rattle.planning.specs.Cards.{is_whole}
use Rattle.planning.proofs.CardWords.{deal_length}
use Rattle.planning.proofs.SearchLaws.{tried_over, tried_found, tried_left}
use Rattle.planning.proofs.search.try_board.Goals as goal

pub returns-then-not-may_fit : goal.returns-then-not-may_fit
returns-then-not-may_fit c =
    let a = c.args in
    let t = tried_over a.tabled a.deal.now.words a.card.now (sym c.may_fit.ensures ∙ c.if-not-may_fit.true) in
    (t.0, t.1, omega arith)

pub returns-then-equal-eq8 : goal.returns-then-equal-eq8
returns-then-equal-eq8 c =
    let a = c.args in
    let m = sym c.may_fit.ensures ∙ c.if-not-may_fit.false in
    let e = c.equal_words-equal.ensures.0 in
    let t = tried_found a.tabled a.deal.now.words a.card.now m (omega arith) (deal_length a.card.now (omega arith)) a.deal.now.whole (sym e ∙ c.if-equal-eq8.true) in
    (t.0, t.1, omega arith)

pub returns : goal.returns
returns c =
    let a = c.args in
    let m = sym c.may_fit.ensures ∙ c.if-not-may_fit.false in
    let e = c.equal_words-equal.ensures.0 in
    let t =
    tried_left a.tabled a.deal.now.words a.card.now m (omega arith) (deal_length a.card.now (omega arith)) (λ z. c.if-equal-eq8.false (e ∙ z))
    (c.words_counted.ensures.0 ∙ ap (λ (x : ℕ). cond (is_whole a.card.now) (x + 1) 0) e) in
    (t.0, t.1, c.words_counted.ensures.1)
