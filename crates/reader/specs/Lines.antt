-- The kinds of lines outside commentary.
use Rattle.std.specs.Prelude.{ℕ, suc, List, [], ◌∷◌, Bool, true, false, ◌&&◌, ◌||◌, cond, not, eqb, length, get_or, Some, None}
use Rattle.tables.specs.Text.{trim_start, trimmed}
use Rattle.tables.specs.Letters.{among}
use Rattle.reader.specs.declared.line.TagReading.TheVariants.{Plain, WithComment, WithData}
use Rattle.reader.specs.declared.line.Line.{Line}
use Rattle.reader.specs.declared.line.Line.TheVariants.{Blank, Brace, Directive, Tag, Bracket, Data}
use Rattle.reader.specs.Tag.{TagLine, Split, trim_span, tag_line, split_of}

-- A line is blank where it is empty once it is trimmed.
unfoldable pub is_blank : List ℕ → Bool
is_blank line = eqb (length (trimmed line)) 0

-- The line has a `}` (125).
unfoldable pub has_brace : List ℕ → Bool
has_brace line = among 125 line

-- The place of the last `}` (125), the line's length where there is none.
abbrev pub last_brace : List ℕ → ℕ
last_brace [] = 0
last_brace (b ∷ bs) = cond (eqb b 125 && not (among 125 bs)) 0 (suc (last_brace bs))

-- A `[` line that is no tag: a tag with section data split off, or nothing.
abbrev pub split_as : Split → Line
split_as (Some (t, d)) = Tag (WithData t d)
split_as None = Bracket

unfoldable pub split_line : List ℕ → Line
split_line line = split_as (split_of line)

-- A `[` line.
abbrev pub bracket_as : TagLine → List ℕ → Line
bracket_as None line = split_line line
bracket_as (Some (t, None)) line = Tag (Plain t)
bracket_as (Some (t, Some c)) line = Tag (WithComment t c)

unfoldable pub bracket_line : List ℕ → Line
bracket_line line = bracket_as (tag_line line) line

-- By its first byte b once it is trimmed: `{` (123), `;` (59) or `%` (37), `[` (91), or data.
abbrev pub kind_by : ℕ → List ℕ → Line
kind_by b line =
    cond (eqb b 123) Brace
    (cond (eqb b 59 || eqb b 37) (Directive (trim_span line))
    (cond (eqb b 91) (bracket_line line) (Data (trim_span line))))

unfoldable pub line_kind : List ℕ → Line
line_kind line = cond (is_blank line) Blank (kind_by (get_or (trim_start line) 0 0) line)

-- The line holds a tag.
abbrev pub opens_board : Line → Bool
opens_board Blank = false
opens_board Brace = false
opens_board (Directive d) = false
opens_board (Tag t) = true
opens_board Bracket = false
opens_board (Data d) = false
