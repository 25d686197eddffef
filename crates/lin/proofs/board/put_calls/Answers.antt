use mathlib.Core.Path.{sym, ◌∙◌}
use native.Mathlib.Omega.{arith}
use Rattle.tables.proofs.PutsLaws.{puts_same, puts_next, puts_then}
use Rattle.lin.proofs.BoardLaws.{tokens_turn, tokens_same}
use Rattle.lin.proofs.PairLaws.{value_met, value_none}
use Rattle.lin.proofs.BiddingLaws.{calls_given}
use Rattle.lin.proofs.board.put_calls.Goals as goal

pub loop-p-preserved-in_default : goal.loop-p-preserved-in_default
loop-p-preserved-in_default c =
    let l = c.loop-p in
    let n = c.in-Some.ensures.steps in
    (puts_same (tokens_same c.args.c l.n _ _ (value_none (calls_given _) n (sym c.call_at.ensures ∙ c.in_default.is))) l.invariant.0, omega (arith, n.behind, n.place, l.invariant.1))

pub loop-p-preserved : goal.loop-p-preserved
loop-p-preserved c =
    let l = c.loop-p in
    let n = c.in-Some.ensures.steps in
    let m = value_met (calls_given _) n (sym c.call_at.ensures ∙ c.in-Some-call_at.is) in
    (puts_next _ _ (puts_same (tokens_turn _ l.n _ _ _ m) l.invariant.0) (puts_then c.put_before.ensures c.put_call.ensures), omega (arith, n.behind, n.place, l.invariant.1))
