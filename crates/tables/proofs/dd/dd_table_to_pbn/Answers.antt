use Rattle.std.proofs.Common.{arith, rules, length, ◌≡◌}
use Rattle.std.proofs.lemmas.List.{length-map}
use Rattle.tables.proofs.PutsLaws.{ended}
use Rattle.tables.proofs.dd.dd_table_to_pbn.Goals as goal

pub returns : goal.returns
returns c =
    let h : length c.args.table.now ≡ 20 = search rules in
    ended c.finish.ensures.ended c.put_digits.ensures c.new-put.ensures.start c.new-put.ensures.bytes (search rules) (rw (length-map, h) (omega arith))
