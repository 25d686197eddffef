-- Parts of a line's step, and what the functions that read a line promise of the state after it.
use Rattle.reader.specs.Sections.{span_of}
use Rattle.reader.specs.Boards.{block_of}
use Rattle.std.specs.Prelude.{ℕ, ◌+◌, ◌≤◌, ◌≡◌, [], Option, Some, None, length}
use Rattle.tables.specs.Numbers.{Number}
use Rattle.reader.specs.Sections.{lines_at, split_off}
use Rattle.reader.specs.declared.tag.Span.{Span}
use Rattle.reader.specs.declared.line.TagReading.{TagReading}
use Rattle.reader.specs.declared.line.TagReading.TheVariants.{Plain, WithComment, WithData}
use Rattle.reader.specs.declared.board.State.{State}
use Rattle.reader.specs.declared.section.Walk.{Walk}
use Rattle.reader.specs.Pieces.{Out}
use Rattle.reader.specs.declared.store.Entries.{Entries}
use Rattle.reader.specs.PieceSteps.{Adds, Emits}
use Rattle.reader.specs.SectionSteps.{walk_count}
use Rattle.reader.specs.Boards.{no_span, last_entries, at}

-- Whether there is a number, 1 or 0, and the number.
abbrev pub met_words : Number → ℕ × ℕ
met_words None = (0, 0)
met_words (Some v) = (1, v)

-- What is split off a tag line as section data.
abbrev pub split_in : ℕ → TagReading → Option Span
split_in p (Plain t) = no_span
split_in p (WithComment t d) = no_span
split_in p (WithData t d) = Some (at p d)

-- A line that adds nothing.
abbrev pub unchanged : State → Out State
unchanged s = record { state = s; entries = [] }

-- ---- what holds of a state at the place p of a record: its section starts at or before p, its block at p + 1 or before

pub record Sound (p : ℕ) (s : State) : Type 0 where
  pub lines_before : lines_at s.section ≤ p
  pub split_before : (span_of (split_off s.section)).start + (span_of (split_off s.section)).len ≤ p
  pub block_before : block_of s ≤ p + 1

-- The contract of a step: its answer and its entries, and what holds after it at q.
pub record Stepped (q : ℕ) (l l' : Entries) (r : State) (o : Out State) : Type 0 where
  pub emits : Emits l l' r o
  pub sound : Sound q r

-- The contract of storing the last trick behind the entries of a section; r is how many there then are.
pub record LastStored (kind : ℕ) (w : Walk) (l l' : Entries) (r : ℕ) : Type 0 where
  pub adds : Adds l l' (last_entries kind w)
  pub counted : r ≡ walk_count w + length (last_entries kind w)
  pub few : r ≤ walk_count w + 1
