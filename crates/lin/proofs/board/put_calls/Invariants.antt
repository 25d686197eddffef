use Prim.Native.Nat.{◌≤◌}
use Rattle.writer.specs.Items.{tokens_text}
use Rattle.tables.proofs.PutsLaws.{PutsLeft}
use Rattle.lin.specs.Pairs.{pairs_of}
use Rattle.lin.specs.PairSteps.{pairs_left}
use Rattle.lin.specs.Bidding.{calls_from}
use Rattle.lin.specs.BoardSteps.{call_tokens}
use Rattle.lin.proofs.board.put_calls.Given as goal

abbrev pub invariant-loop-p : goal.invariant-loop-p
invariant-loop-p l = PutsLeft l.fn.page (tokens_text 0 (call_tokens l.c (calls_from l.c (pairs_of l.text)))) l.page (tokens_text l.n (call_tokens l.c (calls_from l.c (pairs_left l.p-iterator)))) × (l.n ≤ l.p-iterator.at)
