-- The data of an open section, and what it comes to when the section closes.
use Rattle.std.specs.Prelude.{ℕ, ◌+◌, List, [], ◌∷◌, ◌++◌, Bool, true, false, cond, ◌&&◌, not, eqb, length, drop, replicate, Option, None, Some, Ok, Err}
use Rattle.tables.specs.declared.letters.Conventions.{Conventions}
use Rattle.tables.specs.Tables.{row_of, stored_row, Row}
use Rattle.reader.specs.declared.tag.Span.{Span}
use Rattle.reader.specs.declared.line.Line.{Line}
use Rattle.reader.specs.declared.line.Line.TheVariants.{Blank, Brace, Directive, Tag, Bracket, Data}
use Rattle.reader.specs.declared.section.Kind.{Kind}
use Rattle.reader.specs.declared.section.Kind.TheVariants.{Auction, Play, Optimum}
use Rattle.reader.specs.declared.section.Open.{Open}
use Rattle.reader.specs.declared.section.Walk.{Walk}
use Rattle.reader.specs.Lines.{line_kind, has_brace}
use Rattle.reader.specs.Pieces.{Piece, Out, out_all, raw_lines}
use Rattle.reader.specs.Tag.{cut}
use Rattle.reader.specs.Auction.{called_piece, no_bidding}
use Rattle.reader.specs.Play.{played_piece, no_tricks}

-- Commentary opens with a line that begins with `{` and lasts to the first line with `}`. Whether it is open after a line.
abbrev pub opens_commentary : Line → List ℕ → Bool
opens_commentary Blank l = false
opens_commentary Brace l = not (has_brace l)
opens_commentary (Directive s) l = false
opens_commentary (Tag t) l = false
opens_commentary Bracket l = false
opens_commentary (Data s) l = false

unfoldable pub commentary_after : Bool → List ℕ → Bool
commentary_after commentary l = cond commentary (not (has_brace l)) (opens_commentary (line_kind l) l)

-- A tag or a blank line, outside commentary, closes a section.
abbrev pub closes_section : Line → Bool
closes_section Blank = true
closes_section Brace = false
closes_section (Directive s) = false
closes_section (Tag t) = true
closes_section Bracket = false
closes_section (Data s) = false

unfoldable pub stops_at : Bool → List ℕ → Bool
stops_at commentary l = not commentary && closes_section (line_kind l)

-- A data line, outside commentary, trimmed, with its place in the record.
abbrev pub data_piece : ℕ → List ℕ → Line → List Piece
data_piece p l Blank = []
data_piece p l Brace = []
data_piece p l (Directive s) = []
data_piece p l (Tag t) = []
data_piece p l Bracket = []
data_piece p l (Data s) = record { at = p + s.start; bytes = cut s l } ∷ []

unfoldable pub piece_of : Bool → ℕ → List ℕ → List Piece
piece_of commentary p l = cond commentary [] (data_piece p l (line_kind l))

-- The data lines up to the line that closes the section; p is the place of the first line.
abbrev pub data_in : Bool → ℕ → List (List ℕ) → List Piece
data_in commentary p [] = []
data_in commentary p (l ∷ ls) = cond (stops_at commentary l) [] (piece_of commentary p l ++ data_in (commentary_after commentary l) (p + length l) ls)

-- What was split off the section's tag line, if anything.
abbrev pub split_piece : List ℕ → Option Span → List Piece
split_piece r None = []
split_piece r (Some s) = record { at = s.start; bytes = cut s r } ∷ []

-- The number of a section's kind, as the mark of a data line's entry.
abbrev pub kind_number : Kind → ℕ
kind_number (Auction dealer) = 1
kind_number (Play leader) = 2
kind_number Optimum = 3

-- The dealer or the opening leader; 4 where a section has neither.
abbrev pub kind_seat : Kind → ℕ
kind_seat (Auction dealer) = dealer
kind_seat (Play leader) = leader
kind_seat Optimum = 4

-- Of a section that is open or not: the number of its kind, 0 for none; its seat; the place in the record where the lines after its tag
-- start; and what was split off its tag line.
abbrev pub kind_of : Option Open → ℕ
kind_of None = 0
kind_of (Some o) = kind_number o.kind

abbrev pub opener : Option Open → ℕ
opener None = 4
opener (Some o) = kind_seat o.kind

abbrev pub lines_at : Option Open → ℕ
lines_at None = 0
lines_at (Some o) = o.at

abbrev pub split_off : Option Open → Option Span
split_off None = None
split_off (Some o) = o.split

-- For bounds: an empty span where nothing was split off.
abbrev pub span_of : Option Span → Span
span_of None = record { start = 0; len = 0 }
span_of (Some s) = s

-- The data lines after a section's tag, in the record r.
abbrev pub lines_data : List ℕ → Option Open → List Piece
lines_data r o = data_in false (lines_at o) (raw_lines (drop (lines_at o) r))

-- All its data: what was split off its tag line, then its data lines.
unfoldable pub section_data : List ℕ → Option Open → List Piece
section_data r o = split_piece r (split_off o) ++ lines_data r o

-- OptimumResultTable (PBN 2.1, section 5.7): each data line is a row; one bad row loses the table.
abbrev pub row_stored : Row → Option (List ℕ) → Option (List ℕ)
row_stored (Ok given) None = None
row_stored (Ok given) (Some cells) = Some (stored_row cells (Ok given))
row_stored (Err f) w = None

unfoldable pub rowed_piece : Conventions → Option (List ℕ) → Piece → Option (List ℕ)
rowed_piece c w q = row_stored (row_of c 0 q.bytes) w

-- One piece of data of an open section; trump is that of the last kept contract.
unfoldable pub walked : Conventions → Option Open → ℕ → Walk → Piece → Out Walk
walked c o trump w q =
    cond (eqb (kind_of o) 1)
    (record {
      state = record { bidding = (called_piece c w.bidding q).state; tricks = w.tricks; rows = w.rows };
      entries = (called_piece c w.bidding q).entries;
    })
    (cond (eqb (kind_of o) 2)
    (record {
      state = record { bidding = w.bidding; tricks = (played_piece c (opener o) trump w.tricks q).state; rows = w.rows };
      entries = (played_piece c (opener o) trump w.tricks q).entries;
    })
    (record { state = record { bidding = w.bidding; tricks = w.tricks; rows = rowed_piece c w.rows q }; entries = [] }))

unfoldable pub no_walk : Walk
no_walk = record { bidding = no_bidding; tricks = no_tricks; rows = Some (replicate 20 255) }

-- All the data of a section.
unfoldable pub walked_all : Conventions → List ℕ → Option Open → ℕ → Out Walk
walked_all c r o trump = out_all (walked c o trump) no_walk (section_data r o)
