use native.Mathlib.Omega.{arith}
use Rattle.std.proofs.Common.{rules}
use Rattle.tables.proofs.PutsLaws.{ended}
use Rattle.listing_text.proofs.LineLaws.{refused_few}
use Rattle.listing_text.proofs.listing.write_refused.Goals as goal

pub returns : goal.returns
returns c = ended c.finish.ensures.ended c.put_refused.ensures c.new-page.ensures.start c.new-page.ensures.bytes (search rules) (omega (arith, refused_few c.args.f))
