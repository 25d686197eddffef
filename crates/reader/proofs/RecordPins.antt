-- Worked examples of records, seams and the data of sections.
use Rattle.std.specs.Prelude.{Some}
use Rattle.reader.specs.declared.section.Kind.TheVariants.{Play}
use mathlib.Core.Path.{◌≡◌, refl}
use mathlib.Core.Bool.{true, false}
use mathlib.Core.List.{[], ◌∷◌}
use Rattle.tables.specs.Text.{ascii, is_white, trimmed}
use Rattle.reader.specs.Tag.{trim_span, trim_part, bracket_of, ends_quoted, name_of, is_quoted, value_of, is_comment, comment_of, tag_line, data_bracket, data_after, split_of}
use Rattle.reader.specs.Lines.{is_blank, has_brace, split_line, bracket_line, line_kind}
use Rattle.reader.specs.PieceSteps.{piece}
use Rattle.reader.specs.Sections.{commentary_after, stops_at, piece_of, section_data}
use Rattle.reader.specs.Records.{scanned, closes_record, records_of, is_seam}

-- A blank line closes a board; the text's end closes the last.
two_boards : records_of (ascii "[A \"b\"]\n\n[A \"b\"]\n") ≡ ascii "[A \"b\"]\n\n" ∷ ascii "[A \"b\"]\n" ∷ []
unfolding is_white trimmed trim_span trim_part bracket_of ends_quoted name_of is_quoted value_of is_comment comment_of tag_line data_bracket data_after split_of is_blank has_brace split_line bracket_line line_kind commentary_after scanned closes_record records_of
two_boards = refl

-- What stands before the first tag waits for it, blank lines too; what follows the last board without a tag is in no record.
header : records_of (ascii "%x\n\n[A \"b\"]\n\n;y\n") ≡ ascii "%x\n\n[A \"b\"]\n\n" ∷ []
unfolding is_white trimmed trim_span trim_part bracket_of ends_quoted name_of is_quoted value_of is_comment comment_of tag_line data_bracket data_after split_of is_blank has_brace split_line bracket_line line_kind commentary_after scanned closes_record records_of
header = refl

-- A blank line inside commentary closes nothing.
blank_in_commentary : records_of (ascii "[A \"b\"]\n{c\n\n}\n\nd") ≡ ascii "[A \"b\"]\n{c\n\n}\n\n" ∷ []
unfolding is_white trimmed trim_span trim_part bracket_of ends_quoted name_of is_quoted value_of is_comment comment_of tag_line data_bracket data_after split_of is_blank has_brace split_line bracket_line line_kind commentary_after scanned closes_record records_of
blank_in_commentary = refl

-- Unclosed commentary takes all the rest.
open_commentary : records_of (ascii "[A \"b\"]\n{c\n\n[A \"b\"]\n\n") ≡ ascii "[A \"b\"]\n{c\n\n[A \"b\"]\n\n" ∷ []
unfolding is_white trimmed trim_span trim_part bracket_of ends_quoted name_of is_quoted value_of is_comment comment_of tag_line data_bracket data_after split_of is_blank has_brace split_line bracket_line line_kind commentary_after scanned closes_record records_of
open_commentary = refl

-- A tag inside commentary is none.
tag_in_commentary : records_of (ascii "{\n[A \"b\"]\n}\n\n") ≡ []
unfolding is_white trimmed trim_span trim_part bracket_of ends_quoted name_of is_quoted value_of is_comment comment_of tag_line data_bracket data_after split_of is_blank has_brace split_line bracket_line line_kind commentary_after scanned closes_record records_of
tag_in_commentary = refl

-- A `[` line that is no tag opens no board.
no_tag_lem : records_of (ascii "[A]\n\n") ≡ []
unfolding is_white trimmed trim_span trim_part bracket_of ends_quoted name_of is_quoted value_of is_comment comment_of tag_line data_bracket data_after split_of is_blank has_brace split_line bracket_line line_kind commentary_after scanned closes_record records_of
no_tag_lem = refl

-- A tag with section data split off opens one.
split_tag : records_of (ascii "[Play \"W\"]SJ\n\n") ≡ ascii "[Play \"W\"]SJ\n\n" ∷ []
unfolding is_white trimmed trim_span trim_part bracket_of ends_quoted name_of is_quoted value_of is_comment comment_of tag_line data_bracket data_after split_of is_blank has_brace split_line bracket_line line_kind commentary_after scanned closes_record records_of
split_tag = refl

-- A line of a CR alone is blank.
carriage_returns : records_of (ascii "[A \"b\"]\r\n\r\n[A \"c\"]") ≡ ascii "[A \"b\"]\r\n\r\n" ∷ ascii "[A \"c\"]" ∷ []
unfolding is_white trimmed trim_span trim_part bracket_of ends_quoted name_of is_quoted value_of is_comment comment_of tag_line data_bracket data_after split_of is_blank has_brace split_line bracket_line line_kind commentary_after scanned closes_record records_of
carriage_returns = refl

-- Further blank lines go to the next board.
many_blanks : records_of (ascii "[A \"b\"]\n\n \n[A \"b\"]\n") ≡ ascii "[A \"b\"]\n\n" ∷ ascii " \n[A \"b\"]\n" ∷ []
unfolding is_white trimmed trim_span trim_part bracket_of ends_quoted name_of is_quoted value_of is_comment comment_of tag_line data_bracket data_after split_of is_blank has_brace split_line bracket_line line_kind commentary_after scanned closes_record records_of
many_blanks = refl

-- Just after the blank line that closed a board is a seam.
after_blank : is_seam (ascii "[A \"b\"]\n\n") ≡ true
unfolding is_white trimmed trim_span trim_part bracket_of ends_quoted name_of is_quoted value_of is_comment comment_of tag_line data_bracket data_after split_of is_blank has_brace split_line bracket_line line_kind commentary_after scanned closes_record records_of is_seam
after_blank = refl

-- After a tag line is none.
after_tag : is_seam (ascii "[A \"b\"]\n") ≡ false
unfolding is_white trimmed trim_span trim_part bracket_of ends_quoted name_of is_quoted value_of is_comment comment_of tag_line data_bracket data_after split_of is_blank has_brace split_line bracket_line line_kind commentary_after scanned closes_record records_of is_seam
after_tag = refl

-- A blank line that is not whole could grow into another line.
inside_blank : is_seam (ascii "[A \"b\"]\n ") ≡ false
unfolding is_white trimmed trim_span trim_part bracket_of ends_quoted name_of is_quoted value_of is_comment comment_of tag_line data_bracket data_after split_of is_blank has_brace split_line bracket_line line_kind commentary_after scanned closes_record records_of is_seam
inside_blank = refl

-- The second blank line closed nothing.
after_second_blank : is_seam (ascii "[A \"b\"]\n\n\n") ≡ false
unfolding is_white trimmed trim_span trim_part bracket_of ends_quoted name_of is_quoted value_of is_comment comment_of tag_line data_bracket data_after split_of is_blank has_brace split_line bracket_line line_kind commentary_after scanned closes_record records_of is_seam
after_second_blank = refl

-- The data of a section: what was split off its tag line, then its data lines, past directives, commentary and `[` lines that are no
-- tags, up to the next tag.
play_data : section_data (ascii "[Play \"W\"]SJ\nS2 S3\n;x\n{y\n}\n[Z]\nS4\n[B \"c\"]\nS5") (Some (record { kind = Play 3; at = 13; split = Some (record { start = 10; len = 2 }) }))
    ≡ piece 10 (ascii "SJ") ∷ piece 13 (ascii "S2 S3") ∷ piece 31 (ascii "S4") ∷ []
unfolding is_white trimmed trim_span trim_part bracket_of ends_quoted name_of is_quoted value_of is_comment comment_of tag_line data_bracket data_after split_of is_blank has_brace split_line bracket_line line_kind commentary_after stops_at piece_of section_data
play_data = refl
