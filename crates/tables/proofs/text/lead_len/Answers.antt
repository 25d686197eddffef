use Rattle.std.proofs.Common.{rules}
use Rattle.std.proofs.lemmas.Iterator.{YieldsList-from_slice}
use Rattle.std.proofs.lemmas.Iterator.Consumers.{count_from_yields_List}
use Rattle.std.proofs.lemmas.Iterator.Search.{YieldsList-from_take_while}
use Rattle.tables.specs.Text.{is_white}
use Rattle.tables.proofs.TextLaws.{front_counted}
use Rattle.tables.proofs.text.lead_len.Goals as goal

pub returns : goal.returns
returns c =
    front_counted is_white c.args.s.now
    (count_from_yields_List _ _ c.count.ensures.ran
    (YieldsList-from_take_while _ is_white (YieldsList-from_slice c.args.s.now (search rules)) c.take_while.ensures.closure c.take_while.ensures.done (λ x b q k. search rules)))
