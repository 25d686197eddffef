use Rattle.tables.proofs.PutsLaws.{puts_nothing}
use Rattle.writer.specs.Items.{end_text}
use borrow.Author.Tests.{ne_eqb}
use native.Mathlib.Omega.{arith}
use Rattle.writer.proofs.auction.put_end.Goals as goal

pub returns-in-1 : goal.returns-in-1
unfolding end_text
returns-in-1 c =
    rw c.in-1.is c.put_text.ensures

pub returns-in-2 : goal.returns-in-2
unfolding end_text
returns-in-2 c =
    rw c.in-2.is c.put_text-in-2.ensures

pub returns-in_default : goal.returns-in_default
unfolding end_text
returns-in_default c =
    rw (ne_eqb c.args.end 1 (omega arith), ne_eqb c.args.end 2 (omega arith)) (puts_nothing _)
