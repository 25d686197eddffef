-- What the search for the end of a record promises, and a span moved into a longer text.
use Rattle.std.specs.Prelude.{ℕ, ◌+◌, ◌-◌, ◌≤◌, ◌<◌, ◌≡◌, List, [], ◌∷◌, Option, MatchOption, length, take, drop}
use Rattle.reader.specs.declared.tag.Span.{Span}
use Rattle.reader.specs.Records.{records_of}

-- The record that starts at a ends at e.
pub record EndsAt (text : List ℕ) (a e : ℕ) : Type 0 where
  pub inside : e ≤ length text
  pub after : a < e
  pub first : records_of (drop a text) ≡ take (e - a) (drop a text) ∷ records_of (drop e text)

-- Where that record ends; None where no record is left from a on.
abbrev pub FirstEnd : List ℕ → ℕ → Option ℕ → Type 0
FirstEnd text a r = MatchOption r (records_of (drop a text) ≡ []) (EndsAt text a)

-- A span of a part that stands n bytes into a text.
abbrev pub shift : ℕ → Span → Span
shift n a = record { start = n + a.start; len = a.len }
