-- What a step promises of lent words.
use Rattle.std.specs.Prelude.{ℕ, ◌+◌, ◌≡◌, List, map, length}
use Rattle.reader.specs.declared.store.Entry.{Entry}
use Rattle.reader.specs.declared.store.Entries.{Entries}
use Rattle.reader.specs.Store.{put_all, entry_words}
use Rattle.reader.specs.Pieces.{Piece, Out}

abbrev pub piece : ℕ → List ℕ → Piece
piece p s = record { at = p; bytes = s }

-- The contract of a function that adds entries: they are put behind those that stand there and counted; the record's start and the
-- lent words stay the same.
pub record Adds (l l' : Entries) (es : List Entry) : Type 0 where
  pub words : l'.words.now ≡ put_all 4 l.words.now l.count (map (entry_words l.start) es)
  pub count : l'.count ≡ l.count + length es
  pub start : l'.start ≡ l.start
  pub lent : l'.words.ghost_name ≡ l.words.ghost_name

-- The contract of a function that takes a step: its answer, and the entries that it adds.
pub record Emits {A : Type 0} (l l' : Entries) (r : A) (o : Out A) : Type 0 where
  pub answer : r ≡ o.state
  pub adds : Adds l l' o.entries
