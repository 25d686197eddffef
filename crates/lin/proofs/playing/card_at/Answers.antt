use mathlib.Core.Path.{◌∙◌}
use Rattle.lin.specs.declared.pairs.Command.TheVariants.{Pc}
use Rattle.lin.specs.PlayingSteps.{card_at}
use Rattle.lin.proofs.PairLaws.{coded, same_place}
use Rattle.lin.proofs.playing.card_at.Goals as goal

pub returns-then-eq : goal.returns-then-eq
unfolding card_at
returns-then-eq c = rw (← (c.eq.ensures ∙ same_place c.args.p.command Pc), c.if-eq.true, ← c.trim.ensures, coded _ _ 52 c.card_in.ensures.0 c.card_in.ensures.1)

pub returns : goal.returns
unfolding card_at
returns c = rw (← (c.eq.ensures ∙ same_place c.args.p.command Pc), c.if-eq.false)
