use mathlib.Core.Path.{◌≡◌, refl, ◌∙◌}
use mathlib.Core.List.{List, [], ◌∷◌}
use borrow.Author.Rules.{rules}
use Rattle.std.specs.List.{list_any}
use Rattle.std.proofs.lemmas.Iterator.Consumers.{YieldsList-from_shown}
use Rattle.std.proofs.lemmas.Iterator.Search.{any_from_yields_List}
use Rattle.lin.specs.declared.pairs.Command.{Command}
use Rattle.lin.specs.Pairs.{Pair, is_pair, has_pair}
use Rattle.lin.specs.PairSteps.{pair_of, pairs_left, NextIs}
use Rattle.lin.proofs.PairLaws.{same_place}
use Rattle.lin.proofs.pairs.has_pair.Goals as goal

any_is : (k : Command) (ps : List Pair) → list_any (is_pair k) ps ≡ has_pair k ps
any_is k [] = refl
any_is k (p ∷ ps) = rw (any_is k ps)

pub returns : goal.returns
returns c =
    any_from_yields_List (is_pair c.args.k) _ _ _ c.any.ensures.ran (YieldsList-from_shown NextIs pair_of pairs_left (λ s t h. rw h) (λ s x t h. h.pairs_are) _) (λ x b q h. search (rules, same_place))
    ∙ any_is c.args.k _ ∙ rw (c.pairs_in.ensures.0, c.pairs_in.ensures.1)
