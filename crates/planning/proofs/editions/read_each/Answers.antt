use Rattle.std.proofs.Common.{rules}
use mathlib.Core.Path.{sym, ◌∙◌}
use Rattle.tables.specs.declared.refused.Edition.TheVariants.{Old, New}
use Rattle.planning.proofs.BothLaws.{made_named, each_old, each_new, each_taken}
use Rattle.planning.proofs.editions.read_each.Goals as goal

pub returns-in_err-m-clause-read : goal.returns-in_err-m-clause-read
returns-in_err-m-clause-read c =
    let q = made_named Old _ _ _ c.map_err.ensures.cases in
    each_old c.read_pbn_with.ensures (sym (q (λ f g k. search rules)) ∙ c.in_err-m.was) (search rules)

pub returns-in_err-n-clause-read : goal.returns-in_err-n-clause-read
returns-in_err-n-clause-read c =
    let q = made_named Old _ _ _ c.map_err.ensures.cases in
    let t = made_named New _ _ _ c.map_err-2.ensures.cases in
    each_new c.read_pbn_with.ensures (sym (q (λ f g k. search rules)) ∙ c.in_ok-m.was) c.read_pbn_with-2.ensures (sym (t (λ f g k. search rules)) ∙ c.in_err-n.was) (search rules)

pub returns-clause-read : goal.returns-clause-read
returns-clause-read c =
    let q = made_named Old _ _ _ c.map_err.ensures.cases in
    let t = made_named New _ _ _ c.map_err-2.ensures.cases in
    each_taken c.read_pbn_with.ensures (sym (q (λ f g k. search rules)) ∙ c.in_ok-m.was) c.read_pbn_with-2.ensures (sym (t (λ f g k. search rules)) ∙ c.in_ok-n.was)
