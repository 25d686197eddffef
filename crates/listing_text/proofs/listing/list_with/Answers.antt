use Rattle.planning.proofs.AnswerLaws.{same_room}
use Rattle.listing_text.proofs.ListingLaws.{limited_room, list_refused, list_both}
use Rattle.listing_text.proofs.listing.list_with.Goals as goal

pub list_taken-requires : goal.list_taken-requires
list_taken-requires c = limited_room c.read_both_limited.ensures.read c.in-Ok.is

pub returns-in-Err-clause-listed : goal.returns-in-Err-clause-listed
returns-in-Err-clause-listed c = list_refused c.read_both_limited.ensures.read (c.fill.ensures.after (λ y e. e)) c.in-Err.is c.write_refused.ensures

pub returns-in-Ok-clause-listed : goal.returns-in-Ok-clause-listed
returns-in-Ok-clause-listed c =
    list_both c.read_both_limited.ensures.read (c.fill.ensures.after (λ y e. e)) c.in-Ok.is (same_room c.read_both_limited.ensures.same) c.list_taken.ensures.listed
