use mathlib.Core.Path.{sym, ◌∙◌}
use Rattle.planning.proofs.BothLaws.{both_refused, both_taken}
use Rattle.planning.proofs.editions.read_both.Goals as goal

pub returns-then-is_err-clause-read : goal.returns-then-is_err-clause-read
returns-then-is_err-clause-read c = both_refused c.read_each-r.ensures.read c.read_each-r.ensures.same c.zero.ensures.zeros (sym c.is_err.ensures.value ∙ c.if-is_err.true)

pub returns-else-is_err-clause-read : goal.returns-else-is_err-clause-read
returns-else-is_err-clause-read c = both_taken c.read_each-r.ensures.read (sym c.is_err.ensures.value ∙ c.if-is_err.false)
