-- The tag of a line that holds one, and that the parts of a line lie inside it.
use Rattle.std.specs.Prelude.{ℕ, ◌≤◌, ◌≡◌, List, true, length}
use Rattle.reader.specs.declared.tag.Tag.{Tag as TagPlaces}
use Rattle.reader.specs.declared.line.TagReading.{TagReading}
use Rattle.reader.specs.declared.line.TagReading.TheVariants.{Plain, WithComment, WithData}
use Rattle.reader.specs.declared.line.Line.{Line}
use Rattle.reader.specs.declared.line.Line.TheVariants.{Blank, Brace, Directive, Tag, Bracket, Data}
use Rattle.reader.specs.Lines.{has_brace, last_brace}
use Rattle.reader.specs.TagSteps.{TagInside, SpanInside}

-- The tag of a reading, whatever follows it.
abbrev pub tag_in : TagReading → TagPlaces
tag_in (Plain t) = t
tag_in (WithComment t c) = t
tag_in (WithData t d) = t

-- Every part lies inside the line, which has n bytes.
abbrev pub ReadingPlaced : TagReading → ℕ → Type 0
ReadingPlaced (Plain t) n = TagInside t n
ReadingPlaced (WithComment t c) n = TagInside t n × SpanInside c n
ReadingPlaced (WithData t d) n = TagInside t n × SpanInside d n

abbrev pub LinePlaced : Line → ℕ → Type 0
LinePlaced Blank n = Unit {0}
LinePlaced Brace n = Unit {0}
LinePlaced (Directive d) n = SpanInside d n
LinePlaced (Tag t) n = ReadingPlaced t n
LinePlaced Bracket n = Unit {0}
LinePlaced (Data d) n = SpanInside d n

-- The last `}` of a line stands at k.
pub record LastBrace (l : List ℕ) (k : ℕ) : Type 0 where
  pub there : has_brace l ≡ true
  pub place : k ≡ last_brace l
  pub inside : k ≤ length l
