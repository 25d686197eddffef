-- The records of a text. A record ends just after the blank line that closed its board, or at the text's end if none did; what follows
-- the last closed board and holds no tag is in no record.
use Rattle.std.specs.Prelude.{ℕ, ◌+◌, ◌<◌, ◌≡◌, List, [], ◌∷◌, ◌++◌, Bool, true, false, cond, ◌&&◌, ◌||◌, not, eqb, length, take}
use Rattle.reader.specs.declared.tag.Span.{Span}
use Rattle.reader.specs.declared.record.Scan.{Scan}
use Rattle.reader.specs.Lines.{line_kind, opens_board, is_blank}
use Rattle.reader.specs.Pieces.{raw_lines}
use Rattle.reader.specs.Sections.{commentary_after}

-- Whether commentary is open, and whether a tag was met since the record's start.
abbrev pub fresh : Scan
fresh = record { commentary = false; met = false }

unfoldable pub scanned : Scan → List ℕ → Scan
scanned s l = record { commentary = commentary_after s.commentary l; met = cond s.commentary s.met (s.met || opens_board (line_kind l)) }

-- A blank line, outside commentary, closes a board only if a tag was met.
unfoldable pub closes_record : Scan → List ℕ → Bool
closes_record s l = not s.commentary && (s.met && is_blank l)

abbrev pub emit : Bool → List ℕ → List (List ℕ) → List (List ℕ)
emit true r rs = r ∷ rs
emit false r rs = rs

-- The records of lines; text is the record's so far.
abbrev pub records_from : Scan → List ℕ → List (List ℕ) → List (List ℕ)
records_from s text [] = emit s.met text []
records_from s text (l ∷ ls) =
    emit (closes_record s l) (text ++ l)
    (records_from (cond (closes_record s l) fresh (scanned s l)) (cond (closes_record s l) [] (text ++ l)) ls)

unfoldable pub records_of : List ℕ → List (List ℕ)
records_of text = records_from fresh [] (raw_lines text)

-- What follows the last record: the text since then, where it holds no tag.
abbrev pub left_over : Scan → List ℕ → List (List ℕ) → List ℕ
left_over s text [] = cond s.met [] text
left_over s text (l ∷ ls) = left_over (cond (closes_record s l) fresh (scanned s l)) (cond (closes_record s l) [] (text ++ l)) ls

-- Where records stand: each starts where the one before ended; the first at p.
abbrev pub spans_from : ℕ → List (List ℕ) → List Span
spans_from p [] = []
spans_from p (r ∷ rs) = record { start = p; len = length r } ∷ spans_from (p + length r) rs

unfoldable pub spans_of : List ℕ → List Span
spans_of text = spans_from 0 (records_of text)

-- No text of a list is empty.
pub data Filled : List (List ℕ) → Type 0 where
  none : Filled []
  one : {r : List ℕ} {rs : List (List ℕ)} → 0 < length r → Filled rs → Filled (r ∷ rs)

-- ---- seams: the start and the end of the text, and each place just after a blank line that closed a board

-- Whether a text ends with a line that closed a board; b is what counts for an empty text.
abbrev pub closed_last : Bool → Scan → List (List ℕ) → Bool
closed_last b s [] = b
closed_last b s (l ∷ ls) = closed_last (closes_record s l) (cond (closes_record s l) fresh (scanned s l)) ls

-- Whether a text ends just after an LF (10); b is what counts for an empty one.
abbrev pub ends_line : Bool → List ℕ → Bool
ends_line b [] = b
ends_line b (x ∷ xs) = ends_line (eqb x 10) xs

-- The place after front is a seam of every text that begins with front: front is empty, or its last line, whole, closed a board.
unfoldable pub is_seam : List ℕ → Bool
is_seam front = ends_line true front && closed_last true fresh (raw_lines front)

-- A seam of a text, at its place k: the start or the end, or just after a blank line that closed a board.
unfoldable pub seam_at : List ℕ → ℕ → Bool
seam_at text k = eqb k 0 || (eqb k (length text) || is_seam (take k text))

-- Two texts are alike but for a stretch: the same front, a middle of their own, the same back; the front's end and the back's start
-- are seams in both.
pub record AlikeBut (front middle middle' back : List ℕ) : Type 0 where
  pub front_seam : seam_at (front ++ (middle ++ back)) (length front) ≡ true
  pub back_seam : seam_at (front ++ (middle ++ back)) (length (front ++ middle)) ≡ true
  pub front_seam' : seam_at (front ++ (middle' ++ back)) (length front) ≡ true
  pub back_seam' : seam_at (front ++ (middle' ++ back)) (length (front ++ middle')) ≡ true
