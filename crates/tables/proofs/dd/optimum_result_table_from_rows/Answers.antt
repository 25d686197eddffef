use mathlib.Core.Path.{ap, ◌∙◌}
use Rattle.std.specs.Iterator.Adapters.{enumerate_source, enumerate_count}
use Rattle.std.proofs.lemmas.Result.{err_from_is_err_and}
use Rattle.tables.specs.Tables.{table_of_rows}
use Rattle.tables.specs.Letters.{built_in}
use Rattle.tables.proofs.TableLaws.{gathering, gathering_done, row_fault, row_on}
use Rattle.tables.proofs.dd.optimum_result_table_from_rows.Goals as goal

pub loop-n-init : goal.loop-n-init
loop-n-init c =
    let e = c.enumerate-n-items.ensures in
    let same = c.into_iter-n-iterator.ensures.into_iter_gives in
    gathering built_in c.args.rows c.no_cells-cells.ensures (ap enumerate_source same ∙ e.source ∙ c.lines_of.ensures) (ap enumerate_count same ∙ e.count)

pub returns-in_err-read_row : goal.returns-in_err-read_row
unfolding table_of_rows
returns-in_err-read_row c =
    let s = c.in-Some.ensures.steps in
    let p = err_from_is_err_and c.from_residual.result c.from_residual.ensures.1 in
    rw (p.1, p.2) (row_fault c.loop-n.invariant s.0 (rw (c.built_in.ensures, s.1) at c.read_row.ensures) _ c.in_err-read_row.was)

pub loop-n-preserved : goal.loop-n-preserved
loop-n-preserved c =
    let s = c.in-Some.ensures.steps in
    rw s.2 (row_on c.loop-n.invariant s.0 (rw (c.built_in.ensures, s.1) at c.read_row.ensures) _ _ c.in_ok-read_row.was c.stored_row-cells.ensures)

pub returns : goal.returns
unfolding table_of_rows
returns c = c.gathered_table.ensures ∙ gathering_done c.loop-n.invariant c.in-None.ensures.steps.0.0
