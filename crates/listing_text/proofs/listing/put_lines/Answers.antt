use mathlib.Core.Path.{ap}
use native.Mathlib.Omega.{arith}
use Rattle.tables.proofs.PutsLaws.{puts_all, puts_first, puts_next, puts_same}
use Rattle.planning.proofs.BoardLaws.{left_first, left_step, left_none}
use Rattle.listing_text.specs.Listing.{listing_lines}
use Rattle.listing_text.proofs.listing.put_lines.Goals as goal

pub loop-k-init : goal.loop-k-init
loop-k-init c = puts_same (ap listing_lines (left_first c.args.olds.now c.args.news.now)) (puts_first _ _)

pub put_board-requires : goal.put_board-requires
put_board-requires c = (omega (arith, c.loop-k-test.true, c.requires.1), omega (arith, c.state_of.ensures.1, c.requires.0, c.requires.1))

pub loop-k-preserved : goal.loop-k-preserved
loop-k-preserved c =
    let a = c.args in
    puts_next _ _ (puts_same (ap listing_lines (left_step a.olds.now a.news.now c.loop-k.k c.loop-k-test.true)) c.loop-k.invariant) (rw c.state_of.ensures.0 at c.put_board.ensures)

pub returns : goal.returns
returns c =
    let a = c.args in
    puts_all (puts_same (ap listing_lines (left_none a.olds.now a.news.now c.loop-k.k c.loop-k-test.false)) c.loop-k.invariant)
