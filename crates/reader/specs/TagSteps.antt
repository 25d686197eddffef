-- The parts of a tag line lie inside it: what the inner functions promise of places.
use Rattle.std.specs.Prelude.{ℕ, ◌+◌, ◌≤◌, Bool, ◌&&◌, leb, IfSome}
use Rattle.reader.specs.declared.tag.Span.{Span}
use Rattle.reader.specs.declared.tag.Tag.{Tag}
use Rattle.reader.specs.Tag.{TagLine, Split}

-- A part lies inside a line of n bytes.
abbrev pub SpanInside : Span → ℕ → Type 0
SpanInside p n = p.start + p.len ≤ n

pub record TagInside (t : Tag) (n : ℕ) : Type 0 where
  pub name_inside : t.name.start + t.name.len ≤ n
  pub value_inside : t.value.start + t.value.len ≤ n

-- A tag lies inside the line, and so does what follows it: a comment, or section data.
abbrev pub TagPlaced : TagLine → ℕ → Type 0
TagPlaced t n = IfSome t (λ p. TagInside p.0 n × IfSome p.1 (λ c. SpanInside c n))

abbrev pub SplitPlaced : Split → ℕ → Type 0
SplitPlaced d n = IfSome d (λ p. TagInside p.0 n × SpanInside p.1 n)

-- 0 to 9 (48 to 57).
abbrev pub is_digit : ℕ → Bool
is_digit b = leb 48 b && leb b 57
