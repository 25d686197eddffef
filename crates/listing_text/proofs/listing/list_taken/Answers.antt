use Rattle.std.proofs.Common.{rules}
use Prim.Native.Nat.{◌≤◌}
use mathlib.Core.Path.{refl}
use lib.ListN.{length}
use Rattle.planning.specs.PlanSteps.{cards_in}
use Rattle.planning.specs.States.{board_plans}
use Rattle.planning.proofs.BoxLaws.{cards_count}
use Rattle.planning.proofs.BoardLaws.{boards_count}
use Rattle.listing_text.proofs.ListingLaws.{listed_low, boards_refused, boards_listed}
use Rattle.listing_text.proofs.listing.list_taken.Goals as goal

pub put_listing-requires : goal.put_listing-requires
put_listing-requires c =
    let b = c.args.both in
    let n : length c.cards.result.1.now ≤ 16777215 = rw (c.cards.ensures.1, cards_count) c.requires.3 in (
      rw (c.cards-in-Ok.ensures.0, cards_count) c.requires.2,
      rw (c.cards-in-Ok.ensures.1, cards_count) c.requires.3,
      listed_low c.cards.result.0.now c.cards.result.1.now c.put_slips-t.ensures.0 n c.finish_plan.ensures.ended c.in-Ok.is,
    )

pub returns-in-Err-clause-listed : goal.returns-in-Err-clause-listed
returns-in-Err-clause-listed c =
    let a = c.args in
    let js = board_plans (cards_in a.both.old.boards a.boxes.now.old_cards.now) (cards_in a.both.new.boards a.boxes.now.new_cards.now) in
    boards_refused js a.slips.now (rw (c.cards.ensures.0, c.cards.ensures.1) at c.put_slips-t.ensures) c.put_slips-t.auto.slips c.finish_plan.ensures.ended c.in-Err.is c.write_refused.ensures

pub returns-in-Ok-clause-listed : goal.returns-in-Ok-clause-listed
returns-in-Ok-clause-listed c =
    let a = c.args in
    let js = board_plans (cards_in a.both.old.boards a.boxes.now.old_cards.now) (cards_in a.both.new.boards a.boxes.now.new_cards.now) in
    boards_listed js a.slips.now (rw (c.cards.ensures.0, c.cards.ensures.1) at c.put_slips-t.ensures) c.put_slips-t.auto.slips c.finish_plan.ensures.ended a.both.old.boards a.both.new.boards refl c.in-Ok.is
    (rw (c.cards-in-Ok.ensures.0, c.cards-in-Ok.ensures.1) at c.put_listing.ensures) c.new-page.ensures.start c.new-page.ensures.bytes (rw (boards_count _ _, cards_count) c.requires.3) c.finish_listing.ensures.kept (search rules)
