-- Worked examples of lines, which the definitions compute.
use Prim.Native.Nat.{ℕ}
use mathlib.Core.Path.{◌≡◌, refl}
use mathlib.Core.List.{[], ◌∷◌}
use Rattle.tables.specs.Text.{ascii, is_white, trimmed}
use Rattle.reader.specs.declared.tag.Span.{Span}
use Rattle.reader.specs.declared.tag.Tag.{Tag as TagPlaces}
use Rattle.reader.specs.declared.line.TagReading.TheVariants.{Plain, WithComment, WithData}
use Rattle.reader.specs.declared.line.Line.TheVariants.{Blank, Brace, Directive, Tag, Bracket, Data}
use Rattle.reader.specs.Tag.{trim_span, trim_part, bracket_of, ends_quoted, name_of, is_quoted, value_of, is_comment, comment_of, tag_line, data_bracket, data_after, split_of}
use Rattle.reader.specs.Lines.{is_blank, split_line, bracket_line, line_kind}

abbrev pub at : ℕ → ℕ → Span
at a n = record { start = a; len = n }

-- A tag whose name and value have these places and lengths.
abbrev pub pair : ℕ → ℕ → ℕ → ℕ → TagPlaces
pair a n b m = record { name = at a n; value = at b m }

-- `[ "x"]` is a tag with an empty name.
pub empty_name : line_kind (ascii "[ \"x\"]") ≡ Tag (Plain (pair 1 0 3 1))
unfolding is_white trimmed trim_span trim_part bracket_of ends_quoted name_of is_quoted value_of is_comment comment_of tag_line data_bracket data_after split_of is_blank split_line bracket_line line_kind
empty_name = refl

-- `[A "]"]` is no tag.
pub bracket_in_quotes : line_kind (ascii "[A \"]\"]") ≡ Bracket
unfolding is_white trimmed trim_span trim_part bracket_of ends_quoted name_of is_quoted value_of is_comment comment_of tag_line data_bracket data_after split_of is_blank split_line bracket_line line_kind
bracket_in_quotes = refl

-- `[Event "x"] ;c` adds a directive.
pub semicolon_comment : line_kind (ascii "[Event \"x\"] ;c") ≡ Tag (WithComment (pair 1 5 8 1) (at 12 2))
unfolding is_white trimmed trim_span trim_part bracket_of ends_quoted name_of is_quoted value_of is_comment comment_of tag_line data_bracket data_after split_of is_blank split_line bracket_line line_kind
semicolon_comment = refl

-- `[Event "x"] {c` is a tag, and `{c` is section data: no commentary is opened.
pub open_brace_data : line_kind (ascii "[Event \"x\"] {c") ≡ Tag (WithData (pair 1 5 8 1) (at 12 2))
unfolding is_white trimmed trim_span trim_part bracket_of ends_quoted name_of is_quoted value_of is_comment comment_of tag_line data_bracket data_after split_of is_blank split_line bracket_line line_kind
open_brace_data = refl

-- `[Event "x"] {c} d {e` has the directive `{c} d {e`.
pub brace_comment : line_kind (ascii "[Event \"x\"] {c} d {e") ≡ Tag (WithComment (pair 1 5 8 1) (at 12 8))
unfolding is_white trimmed trim_span trim_part bracket_of ends_quoted name_of is_quoted value_of is_comment comment_of tag_line data_bracket data_after split_of is_blank split_line bracket_line line_kind
brace_comment = refl

-- `[Play "W"]SJ`
pub jammed_data : line_kind (ascii "[Play \"W\"]SJ") ≡ Tag (WithData (pair 1 4 7 1) (at 10 2))
unfolding is_white trimmed trim_span trim_part bracket_of ends_quoted name_of is_quoted value_of is_comment comment_of tag_line data_bracket data_after split_of is_blank split_line bracket_line line_kind
jammed_data = refl

-- After a tag `%` is data.
pub percent_data : line_kind (ascii "[Event \"x\"] %c") ≡ Tag (WithData (pair 1 5 8 1) (at 12 2))
unfolding is_white trimmed trim_span trim_part bracket_of ends_quoted name_of is_quoted value_of is_comment comment_of tag_line data_bracket data_after split_of is_blank split_line bracket_line line_kind
percent_data = refl

-- `[A "x"y]"]` is a tag with the value `x"y]`.
pub inner_quote : line_kind (ascii "[A \"x\"y]\"]") ≡ Tag (Plain (pair 1 1 4 4))
unfolding is_white trimmed trim_span trim_part bracket_of ends_quoted name_of is_quoted value_of is_comment comment_of tag_line data_bracket data_after split_of is_blank split_line bracket_line line_kind
inner_quote = refl

-- `[A "x"y"]z` is a tag with the value `x"y` and data.
pub inner_quote_data : line_kind (ascii "[A \"x\"y\"]z") ≡ Tag (WithData (pair 1 1 4 3) (at 9 1))
unfolding is_white trimmed trim_span trim_part bracket_of ends_quoted name_of is_quoted value_of is_comment comment_of tag_line data_bracket data_after split_of is_blank split_line bracket_line line_kind
inner_quote_data = refl

-- `[A "x"y]"]z` is neither: the first `]` after the second quote does not close the tag.
pub inner_bracket_data : line_kind (ascii "[A \"x\"y]\"]z") ≡ Bracket
unfolding is_white trimmed trim_span trim_part bracket_of ends_quoted name_of is_quoted value_of is_comment comment_of tag_line data_bracket data_after split_of is_blank split_line bracket_line line_kind
inner_bracket_data = refl

-- `[A " ]x"]` is no tag: white space apart, a quote stands before the first `]`.
pub white_bracket : line_kind (ascii "[A \" ]x\"]") ≡ Bracket
unfolding is_white trimmed trim_span trim_part bracket_of ends_quoted name_of is_quoted value_of is_comment comment_of tag_line data_bracket data_after split_of is_blank split_line bracket_line line_kind
white_bracket = refl

-- `[ Event "x"]` is no tag: the name is empty and no quote follows it.
pub white_name : line_kind (ascii "[ Event \"x\"]") ≡ Bracket
unfolding is_white trimmed trim_span trim_part bracket_of ends_quoted name_of is_quoted value_of is_comment comment_of tag_line data_bracket data_after split_of is_blank split_line bracket_line line_kind
white_name = refl

-- `[Event"x"]` is no tag: no white space ends the name.
pub no_white : line_kind (ascii "[Event\"x\"]") ≡ Bracket
unfolding is_white trimmed trim_span trim_part bracket_of ends_quoted name_of is_quoted value_of is_comment comment_of tag_line data_bracket data_after split_of is_blank split_line bracket_line line_kind
no_white = refl

-- One quote is no value.
pub one_quote : line_kind (ascii "[A \"]") ≡ Bracket
unfolding is_white trimmed trim_span trim_part bracket_of ends_quoted name_of is_quoted value_of is_comment comment_of tag_line data_bracket data_after split_of is_blank split_line bracket_line line_kind
one_quote = refl

-- An empty value stands behind the opening quote.
pub empty_value : line_kind (ascii "[A \"\"]") ≡ Tag (Plain (pair 1 1 4 0))
unfolding is_white trimmed trim_span trim_part bracket_of ends_quoted name_of is_quoted value_of is_comment comment_of tag_line data_bracket data_after split_of is_blank split_line bracket_line line_kind
empty_value = refl

-- White space around the line, before the value and before the bracket.
pub wide_tag : line_kind (ascii "  [A  \"x\" ] ") ≡ Tag (Plain (pair 3 1 7 1))
unfolding is_white trimmed trim_span trim_part bracket_of ends_quoted name_of is_quoted value_of is_comment comment_of tag_line data_bracket data_after split_of is_blank split_line bracket_line line_kind
wide_tag = refl

-- `;c`
pub semicolon : line_kind (ascii ";c") ≡ Directive (at 0 2)
unfolding is_white trimmed trim_span trim_part bracket_of ends_quoted name_of is_quoted value_of is_comment comment_of tag_line data_bracket data_after split_of is_blank split_line bracket_line line_kind
semicolon = refl

-- ` %c `: a directive is trimmed.
pub percent : line_kind (ascii " %c ") ≡ Directive (at 1 2)
unfolding is_white trimmed trim_span trim_part bracket_of ends_quoted name_of is_quoted value_of is_comment comment_of tag_line data_bracket data_after split_of is_blank split_line bracket_line line_kind
percent = refl

-- `{c`
pub brace : line_kind (ascii "{c") ≡ Brace
unfolding is_white trimmed trim_span trim_part bracket_of ends_quoted name_of is_quoted value_of is_comment comment_of tag_line data_bracket data_after split_of is_blank split_line bracket_line line_kind
brace = refl

-- ` 1C Pass `: data is trimmed.
pub data_line_lem : line_kind (ascii " 1C Pass ") ≡ Data (at 1 7)
unfolding is_white trimmed trim_span trim_part bracket_of ends_quoted name_of is_quoted value_of is_comment comment_of tag_line data_bracket data_after split_of is_blank split_line bracket_line line_kind
data_line_lem = refl

-- A byte order mark makes the first line data.
pub byte_order_mark : line_kind (239 ∷ 187 ∷ 191 ∷ ascii "[A \"x\"]") ≡ Data (at 0 10)
unfolding is_white trimmed trim_span trim_part bracket_of ends_quoted name_of is_quoted value_of is_comment comment_of tag_line data_bracket data_after split_of is_blank split_line bracket_line line_kind
byte_order_mark = refl

-- An empty line is blank, and so is a line of each white byte.
pub blank_empty : line_kind ([]) ≡ Blank
unfolding is_white trimmed trim_span trim_part bracket_of ends_quoted name_of is_quoted value_of is_comment comment_of tag_line data_bracket data_after split_of is_blank split_line bracket_line line_kind
blank_empty = refl

-- Byte 9.
pub blank_9 : line_kind (9 ∷ []) ≡ Blank
unfolding is_white trimmed trim_span trim_part bracket_of ends_quoted name_of is_quoted value_of is_comment comment_of tag_line data_bracket data_after split_of is_blank split_line bracket_line line_kind
blank_9 = refl

-- Byte 10.
pub blank_10 : line_kind (10 ∷ []) ≡ Blank
unfolding is_white trimmed trim_span trim_part bracket_of ends_quoted name_of is_quoted value_of is_comment comment_of tag_line data_bracket data_after split_of is_blank split_line bracket_line line_kind
blank_10 = refl

-- Byte 11.
pub blank_11 : line_kind (11 ∷ []) ≡ Blank
unfolding is_white trimmed trim_span trim_part bracket_of ends_quoted name_of is_quoted value_of is_comment comment_of tag_line data_bracket data_after split_of is_blank split_line bracket_line line_kind
blank_11 = refl

-- Byte 12.
pub blank_12 : line_kind (12 ∷ []) ≡ Blank
unfolding is_white trimmed trim_span trim_part bracket_of ends_quoted name_of is_quoted value_of is_comment comment_of tag_line data_bracket data_after split_of is_blank split_line bracket_line line_kind
blank_12 = refl

-- Byte 13.
pub blank_13 : line_kind (13 ∷ []) ≡ Blank
unfolding is_white trimmed trim_span trim_part bracket_of ends_quoted name_of is_quoted value_of is_comment comment_of tag_line data_bracket data_after split_of is_blank split_line bracket_line line_kind
blank_13 = refl

-- Byte 32.
pub blank_32 : line_kind (32 ∷ []) ≡ Blank
unfolding is_white trimmed trim_span trim_part bracket_of ends_quoted name_of is_quoted value_of is_comment comment_of tag_line data_bracket data_after split_of is_blank split_line bracket_line line_kind
blank_32 = refl

-- Bytes 28 to 31 are not white.
pub not_blank_28 : line_kind (28 ∷ []) ≡ Data (at 0 1)
unfolding is_white trimmed trim_span trim_part bracket_of ends_quoted name_of is_quoted value_of is_comment comment_of tag_line data_bracket data_after split_of is_blank split_line bracket_line line_kind
not_blank_28 = refl

-- Byte 31.
pub not_blank_31 : line_kind (31 ∷ []) ≡ Data (at 0 1)
unfolding is_white trimmed trim_span trim_part bracket_of ends_quoted name_of is_quoted value_of is_comment comment_of tag_line data_bracket data_after split_of is_blank split_line bracket_line line_kind
not_blank_31 = refl
