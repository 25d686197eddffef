use Rattle.std.proofs.Common.{arith, rules, length, ◌≡◌}
use Rattle.tables.specs.Letters.{built_in}
use Rattle.tables.specs.Tables.{rows_text, width_of}
use Rattle.tables.proofs.PutsLaws.{ended}
use Rattle.tables.proofs.TableLaws.{rows_few, width_two}
use Rattle.tables.proofs.dd.optimum_result_table_rows.Goals as goal

pub returns : goal.returns
unfolding rows_text
returns c =
    let t = c.args.table.now in
    let h : length t ≡ 20 = search rules in
    ended c.finish.ensures.ended (rw c.built_in.ensures at c.put_rows.ensures) c.new-put.ensures.start c.new-put.ensures.bytes (search rules) (omega (arith, h, rows_few built_in (width_of t) 0 t (width_two t)))
