use Rattle.writer.proofs.NoteLaws.{number_no, number_of_lem}
use Rattle.writer.specs.Items.{or_none}
use mathlib.Core.Path.{ap, ◌∙◌}
use native.Mathlib.Omega.{arith}
use Rattle.writer.proofs.notes.note_number.Goals as goal

pub returns-in_default : goal.returns-in_default
returns-in_default c =
    number_of_lem c.args.value.now c.upto.result.now c.trim.result.now c.index_of-k.result c.parse_number.result c.index_of-k.ensures.0 c.if-k-value.true c.upto.ensures c.trim.ensures c.parse_number.ensures.0 ∙ ap or_none c.in_default.is

pub returns-then-k-value : goal.returns-then-k-value
returns-then-k-value c =
    (number_of_lem c.args.value.now c.upto.result.now c.trim.result.now c.index_of-k.result c.parse_number.result c.index_of-k.ensures.0 c.if-k-value.true c.upto.ensures c.trim.ensures c.parse_number.ensures.0 ∙ ap or_none c.in-Some.is, omega (arith, rw c.in-Some.is at c.parse_number.ensures.1))

pub returns : goal.returns
returns c =
    number_no c.args.value.now c.index_of-k.result c.index_of-k.ensures.0 c.if-k-value.false
