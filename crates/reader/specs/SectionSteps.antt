-- How the code walks the data of a section, and what its functions promise.
use Rattle.std.specs.Prelude.{ℕ, ◌+◌, ◌≤◌, ◌<◌, ◌≡◌, List, [], ◌++◌, false, Option, None, Some, length, drop}
use Rattle.reader.specs.declared.section.Next.{Next}
use Rattle.reader.specs.declared.store.Entries.{Entries}
use Rattle.reader.specs.declared.section.Walk.{Walk}
use Rattle.reader.specs.Pieces.{Piece, Out, raw_lines}
use Rattle.reader.specs.PieceSteps.{Emits}
use Rattle.reader.specs.TokenSteps.{Seated}
use Rattle.reader.specs.Sections.{data_in, split_piece}

-- The data lines from the place p on.
abbrev pub data_from : List ℕ → ℕ → List Piece
data_from r p = data_in false p (raw_lines (drop p r))

-- A data line that was found from the place p on: its piece and the data lines after it are those from p on; the piece and the place
-- after it lie in the record, and that place is after p by the piece's length or more.
pub record PieceFrom (r : List ℕ) (p : ℕ) (n : Next) : Type 0 where
  pub data_lines : data_from r p ≡ split_piece r (Some n.piece) ++ data_from r n.at
  pub piece_inside : n.piece.start + n.piece.len ≤ length r
  pub inside : n.at ≤ length r
  pub past : p + n.piece.len ≤ n.at
  pub later : p < n.at

-- The contract of a function that looks for the next data line from the place p on.
abbrev pub NextPiece : List ℕ → ℕ → Option Next → Type 0
NextPiece r p None = data_from r p ≡ []
NextPiece r p (Some n) = PieceFrom r p n

-- The entries of a section so far.
abbrev pub walk_count : Walk → ℕ
walk_count w = w.bidding.count + w.tricks.count

-- The contract of a function that walks data: what it comes to; seats and slots are in range; there are at most so many entries in
-- all.
pub record Walks (most : ℕ) (l l' : Entries) (r : Walk) (o : Out Walk) : Type 0 where
  pub emits : Emits l l' r o
  pub seated : Seated r.tricks
  pub few : walk_count r ≤ most
