-- The page of an edition: its boards' parts in a row.
use Rattle.std.specs.Prelude.{ℕ, List, [], ◌∷◌, ◌++◌}
use Rattle.std.proofs.Math.Option.{Option, none, some}
use Rattle.tables.specs.declared.letters.Conventions.{Conventions}
use Rattle.tables.specs.Text.{ascii}
use Rattle.reader.specs.Plain.{PlainPlay, PlainBoard, plain_boards}
use Rattle.writer.specs.Sections.{play_lines}
use Rattle.writer.specs.Tags.{written_tags}
use Rattle.writer.specs.Remarks.{WrittenLine, lines_text, leading_lines, body_lines}

-- The data lines of a board's own play.
abbrev pub own_play : Conventions → Option PlainPlay → List (List ℕ)
own_play c none = []
own_play c (some p) = play_lines c p

-- A board's lines apart from its leading directives.
abbrev pub body_text : Conventions → PlainBoard → List ℕ
body_text c b = lines_text (body_lines b (written_tags c b (own_play c b.play)))

-- Two directives and an empty line, where a file has no header of its own: 20 bytes.
unfoldable pub built_in_header : List ℕ
built_in_header = ascii "% PBN 2.1\n% EXPORT\n\n"

-- Directives before the first board's first tag are the file's header, and an empty line (an LF, 10) follows them.
abbrev pub page_header : List WrittenLine → List ℕ
page_header [] = built_in_header
page_header (l ∷ ls) = lines_text (l ∷ ls) ++ 10 ∷ []

-- The part of the first board, with the file's header; and that of any other, an empty line (an LF, 10) before it.
unfoldable pub first_part : Conventions → PlainBoard → List ℕ
first_part c b = page_header (leading_lines b) ++ body_text c b

unfoldable pub next_part : Conventions → PlainBoard → List ℕ
next_part c b = 10 ∷ (lines_text (leading_lines b) ++ body_text c b)

abbrev pub next_parts : Conventions → List PlainBoard → List ℕ
next_parts c [] = []
next_parts c (b ∷ bs) = next_part c b ++ next_parts c bs

-- The parts in a row; without boards, the header alone.
abbrev pub page_text : Conventions → List PlainBoard → List ℕ
page_text c [] = built_in_header
page_text c (b ∷ bs) = first_part c b ++ next_parts c bs

-- What an edition is written as.
unfoldable pub written_text : Conventions → List ℕ → List ℕ
written_text c text = page_text c (plain_boards c text)
