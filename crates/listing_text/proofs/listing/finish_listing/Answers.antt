use Rattle.std.proofs.Common.{◌∙◌, sym}
use Rattle.listing_text.proofs.ListingLaws.{listing_fits, listing_full}
use Rattle.listing_text.proofs.listing.finish_listing.Goals as goal

pub returns-then-is_err-clause-kept : goal.returns-then-is_err-clause-kept
returns-then-is_err-clause-kept c = listing_full c.finish-written.ensures.ended (sym c.is_err.ensures.value ∙ c.if-is_err.true) c.zero.ensures.zeros (c.fill.ensures.after (λ y e. e))

pub returns-else-is_err-clause-kept : goal.returns-else-is_err-clause-kept
returns-else-is_err-clause-kept c = listing_fits _ _ c.finish-written.ensures.ended (sym c.is_err.ensures.value ∙ c.if-is_err.false)
