use mathlib.Core.Path.{◌∙◌}
use Rattle.lin.specs.declared.pairs.Command.TheVariants.{Mb}
use Rattle.lin.specs.BiddingSteps.{call_at}
use Rattle.lin.proofs.PairLaws.{coded, same_place}
use Rattle.lin.proofs.bidding.call_at.Goals as goal

pub returns-then-eq : goal.returns-then-eq
unfolding call_at
returns-then-eq c = rw (← (c.eq.ensures ∙ same_place c.args.p.command Mb), c.if-eq.true, coded _ _ 47 c.call_in.ensures.0 c.call_in.ensures.1)

pub returns : goal.returns
unfolding call_at
returns c = rw (← (c.eq.ensures ∙ same_place c.args.p.command Mb), c.if-eq.false)
