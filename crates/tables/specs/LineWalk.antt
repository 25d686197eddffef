-- The line at a place of a text, and a walk from line to line.
use Rattle.std.specs.Prelude.{ℕ, zero, suc, ◌+◌, ◌-◌, ◌≡◌, List, Bool, true, false, Option, MatchOption, leb, length, take, drop}
use Rattle.std.specs.Iterator.{Count, at_most}
use Rattle.std.specs.Borrow.{Bor}
use Rattle.tables.specs.Text.{line}
use Rattle.tables.specs.declared.lines.Lines.{Lines}

-- The line that starts at the place e, with its LF, or up to the text's end; nothing past the end.
abbrev pub line_at : List ℕ → ℕ → List ℕ
line_at text e = take (length (line (drop e text)) + 1) (drop e text)

-- The place just after that line.
abbrev pub line_end : List ℕ → ℕ → ℕ
line_end text e = e + length (line_at text e)

-- A walk at the text's start.
abbrev pub lines_of : Bor (List ℕ) → Lines
lines_of s = record { text = s; next = 0 }

-- Whether no line is left of a walk; its next line; the walk past that line.
abbrev pub at_end : Lines → Bool
at_end w = leb (length w.text.now) w.next

abbrev pub next_line : Lines → List ℕ
next_line w = line_at w.text.now w.next

abbrev pub past_line : Lines → Lines
past_line w = record { text = w.text; next = line_end w.text.now w.next }

-- The line that comes, and the walk past it; where no line is left, none comes and the walk stays.
pub record IsNextLine (w : Lines) (l : List ℕ) (v : Lines) : Type 0 where
  pub left : at_end w ≡ false
  pub line_is : l ≡ next_line w
  pub walk_is : v ≡ past_line w

abbrev pub NextLine : Lines → Option (Bor (List ℕ)) → Lines → Type 0
NextLine w o v = MatchOption o ((at_end w ≡ true) × (v ≡ w)) (λ l. IsNextLine w l.now v)

-- No more lines come than bytes.
abbrev pub lines_room : Lines → Count
lines_room w = at_most (length w.text.now - w.next)

-- The walk past its next k lines.
abbrev pub past_lines : ℕ → Lines → Lines
past_lines zero w = w
past_lines (suc k) w = past_lines k (past_line w)
