use mathlib.Core.Path.{◌≡◌}
use Rattle.reader.proofs.RecordLaws.{Scanning}
use Rattle.reader.proofs.record.record_end.Given as goal

abbrev pub invariant-loop-line : goal.invariant-loop-line
invariant-loop-line l = Scanning l.text l.a l.end l.s × (l.line-iterator.text.now ≡ l.text) × (l.line-iterator.next ≡ l.end)
