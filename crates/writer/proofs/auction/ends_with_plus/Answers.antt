use Rattle.writer.proofs.RemarkLaws.{items_none}
use Rattle.writer.proofs.TokenLaws.{plus_call, plus_pass}
use Rattle.writer.specs.Items.{last_code}
use lib.Dec.{eqb}
use mathlib.Core.Path.{ap, refl, sym, ◌∙◌}
use Rattle.writer.proofs.auction.ends_with_plus.Goals as goal

pub loop-entry-init : goal.loop-entry-init
loop-entry-init c =
    rw c.into_iter-entry-iterator.ensures.into_iter_gives (record { last = 47; plus_is = refl; rest_is = refl })
