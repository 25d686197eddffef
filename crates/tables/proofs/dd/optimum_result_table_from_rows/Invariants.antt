-- The invariant: the rows that are left, gathered into the cells so far, are what the whole text comes to.
use Rattle.std.specs.Iterator.Adapters.{enumerate_source, enumerate_count}
use Rattle.tables.specs.Letters.{built_in}
use Rattle.tables.proofs.TableLaws.{Gathering}
use Rattle.tables.proofs.dd.optimum_result_table_from_rows.Given as goal

abbrev pub invariant-loop-n : goal.invariant-loop-n
invariant-loop-n l = Gathering built_in l.rows l.cells (enumerate_source l.n-iterator) (enumerate_count l.n-iterator)
