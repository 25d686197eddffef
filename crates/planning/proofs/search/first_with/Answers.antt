use mathlib.Core.Path.{sym, ap, ◌∙◌}
use native.Mathlib.Omega.{arith}
use Rattle.planning.specs.declared.search.Found.{Found}
use Rattle.planning.proofs.SearchLaws.{found_same}
use Rattle.planning.proofs.search.first_with.Goals as goal

pub returns-in-0 : goal.returns-in-0
returns-in-0 c = sym (found_same _ _ _) ∙ sym (ap (λ (f : Found). f.board) c.search_with.ensures.0) ∙ c.in-0.is

pub returns-in_default : goal.returns-in_default
returns-in_default c = (ap (λ (f : Found). f.board) c.search_with.ensures.0 ∙ found_same _ _ _, omega (arith, c.in_default), c.search_with.ensures.1)
