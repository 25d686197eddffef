-- A bound on a number that was read.
use Rattle.std.specs.Prelude.{ℕ, ◌≤◌, Some, None}
use Rattle.tables.specs.Numbers.{Number}

-- A number that was read is at most n.
abbrev pub IsWithin : Number → ℕ → Type 0
IsWithin None n = Unit {0}
IsWithin (Some v) n = v ≤ n
