use Rattle.reader.proofs.DealBack.{ranks_none}
use Rattle.reader.specs.Deals.{suit_text}
use Rattle.tables.proofs.PutsLaws.{puts_all, puts_next, puts_same}
use Rattle.writer.proofs.TokenLaws.{ranks_pass, ranks_put}
use mathlib.Core.Path.{sym, ◌∙◌}
use native.Mathlib.Omega.{arith}
use Rattle.writer.proofs.deal.put_suit.Goals as goal

pub loop-rank-preserved-then-holds : goal.loop-rank-preserved-then-holds
loop-rank-preserved-then-holds c =
    let l = c.loop-rank in
    puts_next _ _ (puts_same (ranks_put c.args.c c.args.s l.rank c.args.x (omega (arith, c.loop-rank-test.true)) (sym c.holds.ensures ∙ c.if-holds.true)) l.invariant) (rw c.rank_letter.ensures at c.put_byte.ensures)

pub loop-rank-preserved : goal.loop-rank-preserved
loop-rank-preserved c =
    let l = c.loop-rank in
    puts_same (ranks_pass c.args.c c.args.s l.rank c.args.x (omega (arith, c.loop-rank-test.true)) (sym c.holds.ensures ∙ c.if-holds.false)) l.invariant

pub returns : goal.returns
unfolding suit_text
returns c =
    let l = c.loop-rank in
    puts_all (puts_same (ranks_none c.args.c c.args.s l.rank c.args.x (omega (arith, c.loop-rank-test.false))) l.invariant)
