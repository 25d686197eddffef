use native.Mathlib.Omega.{arith}
use Rattle.std.proofs.Common.{rules}
use Rattle.std.proofs.lemmas.Iterator.{YieldsList-from_slice, YieldsList-from_zip}
use Rattle.std.proofs.lemmas.Iterator.Consumers.{count_from_yields_List}
use Rattle.std.proofs.lemmas.Iterator.Search.{YieldsList-from_take_while}
use Rattle.planning.specs.Cards.{card_deal}
use Rattle.planning.proofs.CardWords.{same_pair, pairs_counted}
use Rattle.planning.proofs.search.equal_words.Goals as goal

pub returns : goal.returns
unfolding card_deal
returns c =
    let deal = c.args.deal.now in
    let own = card_deal c.args.card.now in
    let n =
    pairs_counted deal own
    (count_from_yields_List _ _ c.count.ensures.ran
    (YieldsList-from_take_while _ same_pair (YieldsList-from_zip (YieldsList-from_slice deal (search rules)) (YieldsList-from_slice own (search rules))) c.take_while.ensures.closure c.take_while.ensures.done (λ x b q k. search rules))) in
    (n.0, omega (arith, n.1))
