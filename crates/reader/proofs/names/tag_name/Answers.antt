use mathlib.Core.Path.{refl}
use Rattle.std.proofs.Common.{rules, tests}
use Rattle.std.proofs.lemmas.Iterator.{YieldsList-from_slice}
use Rattle.std.proofs.lemmas.Iterator.Search.{find_from_yields_List}
use Rattle.reader.specs.Words.{same}
use Rattle.reader.specs.Names.{tag_names}
use Rattle.reader.proofs.NameLaws.{name_found}
use Rattle.reader.proofs.names.tag_name.Goals as goal

pub returns-in_err-name : goal.returns-in_err-name
unfolding tag_names
returns-in_err-name c =
    let t = c.args.text.now in
    let e = find_from_yields_List (λ x. same x.0.now t) _ _ c.find.result c.find.ensures.ran (YieldsList-from_slice _ c.iter.ensures.rest) (λ x b q k. search (rules, tests)) in
    rw (c.from_residual.ensures) (rw c.in_err-name.was at (name_found t _ c.iter.ensures.rest e (search rules) refl))

pub returns : goal.returns
unfolding tag_names
returns c =
    let t = c.args.text.now in
    let e = find_from_yields_List (λ x. same x.0.now t) _ _ c.find.result c.find.ensures.ran (YieldsList-from_slice _ c.iter.ensures.rest) (λ x b q k. search (rules, tests)) in
    rw c.in_ok-name.was at (name_found t _ c.iter.ensures.rest e (search rules) refl)
