use mathlib.Core.Path.{◌≡◌, ◌∙◌}
use borrow.Author.Rules.{rules}
use lib.ListN.{length, replicate}
use Rattle.planning.proofs.StructLaws.{no_slip, numbers_length, none_numbers}
use Rattle.planning.proofs.slips.SlipSlot.clear.Goals as goal

pub returns : goal.returns
returns c =
    let z : c.default.result ≡ no_slip = search rules in
    let f : c.fill.new.self ≡ replicate (length c.args.slots.now) no_slip = c.fill.ensures.after (λ y e. e) ∙ rw z in
    rw (f, numbers_length c.args.slots.now) (none_numbers (length c.args.slots.now))
