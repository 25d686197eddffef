use Rattle.std.proofs.Common.{◌≡◌, length, rules}
use Rattle.tables.specs.Tables.{rows_text}
use Rattle.tables.proofs.Laws.{step, stop}
use Rattle.tables.proofs.TableLaws.{width_any}
use Rattle.tables.proofs.PutsLaws.{puts_first, puts_next, puts_all, puts_then}
use Rattle.tables.proofs.dd.put_rows.Goals as goal

pub loop-i-init : goal.loop-i-init
unfolding rows_text
loop-i-init c = rw (width_any c.args.table.now, ← c.is_wide-wide.ensures) (puts_first _ _)

pub loop-i-preserved : goal.loop-i-preserved
loop-i-preserved c =
    let l = c.loop-i in
    let t = c.args.table.now in
    let n : length t ≡ 20 = search rules in
    puts_next _ _ (rw (step t l.i (rw n c.loop-i-test.true)) at l.invariant) (puts_then c.put_row.ensures c.put_byte.ensures)

pub returns : goal.returns
returns c =
    let t = c.args.table.now in
    let n : length t ≡ 20 = search rules in
    puts_all (rw (stop t c.loop-i.i (rw n c.loop-i-test.false)) at c.loop-i.invariant)
