-- The invariant: the digits that are left, behind the number `v`, come to what all of them come to.
use Rattle.std.proofs.Common.{◌≡◌, ◌≤◌, drop}
use Rattle.tables.specs.Numbers.{digits_from}
use Rattle.tables.proofs.numbers.some_digits.Given as goal

abbrev pub invariant-loop-b : goal.invariant-loop-b
invariant-loop-b l = (digits_from l.limit l.s 0 ≡ digits_from l.limit (drop l.b-index l.s) l.v) × (l.v ≤ l.limit)
