use Rattle.writer.proofs.NoteLaws.{note_found, note_none}
use native.Mathlib.Omega.{arith}
use Rattle.writer.proofs.notes.is_note.Goals as goal

pub returns-then-k-value : goal.returns-then-k-value
returns-then-k-value c =
    note_found c.args.items.now.text.now c.args.items.now.entries.now c.args.value.now c.bytes_at-own.result.now c.from-behind.result.now c.args.n c.args.place c.index_of.result c.index_of-k.result (omega arith) c.bytes_at-own.ensures c.index_of.ensures.0 c.from-behind.ensures c.index_of-k.ensures.0 c.upto.result.now c.from.result.now c.is_decimal.result c.eq.result c.if-k-value.true c.upto.ensures c.is_decimal.ensures c.from.ensures c.eq.ensures

pub returns : goal.returns
returns c =
    note_none c.args.items.now.text.now c.args.items.now.entries.now c.args.value.now c.bytes_at-own.result.now c.from-behind.result.now c.args.n c.args.place c.index_of.result c.index_of-k.result (omega arith) c.bytes_at-own.ensures c.index_of.ensures.0 c.from-behind.ensures c.index_of-k.ensures.0 c.if-k-value.false
