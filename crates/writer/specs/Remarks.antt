-- Where the directives and commentary blocks of a board go, and its lines.
use Rattle.std.specs.Prelude.{ℕ, zero, suc, ◌+◌, Bool, true, false, cond, ◌&&◌, ◌||◌, not, List, [], ◌∷◌, ◌++◌, map, eqb, ltb, length}
use Rattle.std.proofs.Math.Option.{Option, none, some}
use Rattle.std.proofs.Math.ListN.{get_elem?}
use Rattle.tables.specs.declared.letters.Conventions.{Conventions}
use Rattle.reader.specs.Words.{same}
use Rattle.reader.specs.Tag.{tag_text}
use Rattle.reader.specs.Plain.{TagPair, Remark, PlainBoard}
use Rattle.writer.specs.Tags.{WrittenTag, written_tags}

-- ---- anchors

-- A directive or a block of a board: its number among those of its kind, from 0; its bytes; the last tag before it, its anchor, or none.
pub record Anchored : Type 0 where
  pub number : ℕ
  pub bytes : List ℕ
  pub anchor : Option TagPair

-- The last of the first n tags.
abbrev pub anchor_of : List TagPair → ℕ → Option TagPair
anchor_of ts zero = none
anchor_of ts (suc k) = get_elem? ts k

-- The remarks of a board whose tags are ts, numbered from i.
abbrev pub anchored_from : List TagPair → ℕ → List Remark → List Anchored
anchored_from ts i [] = []
anchored_from ts i (k ∷ ks) = record { number = i; bytes = k.bytes; anchor = anchor_of ts k.before } ∷ anchored_from ts (i + 1) ks

unfoldable pub directives_of : PlainBoard → List Anchored
directives_of b = anchored_from b.tags 0 b.directives

unfoldable pub blocks_of : PlainBoard → List Anchored
blocks_of b = anchored_from b.tags 0 b.blocks

-- Those that meet a test, in the order met.
abbrev pub those : (Anchored → Bool) → List Anchored → List Anchored
those p [] = []
those p (k ∷ ks) = cond (p k) (k ∷ those p ks) (those p ks)

-- Anchored to no tag.
abbrev pub is_leading : Anchored → Bool
is_leading k = no_tag k.anchor
  where
    no_tag : Option TagPair → Bool
    no_tag none = true
    no_tag (some t) = false

-- Anchored to a tag of the name n.
abbrev pub same_name : List ℕ → Option TagPair → Bool
same_name n none = false
same_name n (some t) = same n t.name

abbrev pub is_under : List ℕ → Anchored → Bool
is_under n k = same_name n k.anchor

-- A tag of the name n is written.
abbrev pub wrote : List ℕ → List WrittenTag → Bool
wrote n [] = false
wrote n (w ∷ ws) = same n w.name || wrote n ws

-- Anchored to a tag whose name is not written.
abbrev pub unwritten : List WrittenTag → Option TagPair → Bool
unwritten ws none = false
unwritten ws (some t) = not (wrote t.name ws)

abbrev pub tag_unwritten : List WrittenTag → Anchored → Bool
tag_unwritten ws k = unwritten ws k.anchor

-- ---- where a directive goes

-- A written tag has the name of the tag t; it has its value too.
abbrev pub of_name : TagPair → WrittenTag → Bool
of_name t w = same t.name w.name

abbrev pub of_name_and_value : TagPair → WrittenTag → Bool
of_name_and_value t w = of_name t w && same t.value w.value

-- The number of the first written tag that meets a test, from 0; the number of all where none does.
abbrev pub first_meeting : (WrittenTag → Bool) → List WrittenTag → ℕ
first_meeting p [] = 0
first_meeting p (w ∷ ws) = cond (p w) 0 (suc (first_meeting p ws))

-- The number of the written tag after which a directive goes whose anchor is t: the first of that name and value, else the first of that
-- name. Where there is none, it is the number of all, and the directive goes to the board's end.
unfoldable pub place_of : List WrittenTag → TagPair → ℕ
place_of ws t =
    cond (ltb (first_meeting (of_name_and_value t) ws) (length ws)) (first_meeting (of_name_and_value t) ws) (first_meeting (of_name t) ws)

abbrev pub goes_to : List WrittenTag → ℕ → Option TagPair → Bool
goes_to ws k none = false
goes_to ws k (some t) = eqb (place_of ws t) k

abbrev pub goes_after : List WrittenTag → ℕ → Anchored → Bool
goes_after ws k d = goes_to ws k d.anchor

-- ---- lines

-- A written line: a tag, a data line of its section, the directive or the block of a number.
pub data WrittenLine : Type 0 where
  tag_line : List ℕ → List ℕ → WrittenLine
  data_line : List ℕ → WrittenLine
  directive_line : ℕ → List ℕ → WrittenLine
  block_line : ℕ → List ℕ → WrittenLine

abbrev pub directive_lines : List Anchored → List WrittenLine
directive_lines ks = map (λ k. directive_line k.number k.bytes) ks

abbrev pub block_lines : List Anchored → List WrittenLine
block_lines ks = map (λ k. block_line k.number k.bytes) ks

-- The directives after the k-th written tag, from 0: those that go there, in the order met.
unfoldable pub directives_after : List Anchored → List WrittenTag → ℕ → List WrittenLine
directives_after ds ws k = directive_lines (those (goes_after ws k) ds)

-- The blocks after a written tag: all whose anchor has its name, if it is the first of that name; earlier are those written before it.
unfoldable pub blocks_after : List Anchored → List WrittenTag → WrittenTag → List WrittenLine
blocks_after ks earlier w = cond (wrote w.name earlier) [] (block_lines (those (is_under w.name) ks))

-- A tag with its data lines, its directives and its blocks; then the tags behind it. earlier are those written before.
abbrev pub tags_lines : List Anchored → List Anchored → List WrittenTag → List WrittenTag → List WrittenLine
tags_lines ds ks earlier [] = []
tags_lines ds ks earlier (w ∷ ws) =
    tag_line w.name w.value
    ∷ (map data_line w.lines
    ++ (directives_after ds (earlier ++ w ∷ ws) (length earlier)
    ++ (blocks_after ks earlier w
    ++ tags_lines ds ks (earlier ++ w ∷ []) ws)))

-- The directives before every tag: on the first board, the file's header.
unfoldable pub leading_lines : PlainBoard → List WrittenLine
leading_lines b = directive_lines (those is_leading (directives_of b))

-- The other lines of a board, ws being its written tags: blocks before every tag; each tag with what follows it; at the end the
-- blocks, then the directives, whose tag is not written.
unfoldable pub body_lines : PlainBoard → List WrittenTag → List WrittenLine
body_lines b ws =
    block_lines (those is_leading (blocks_of b))
    ++ (tags_lines (directives_of b) (blocks_of b) [] ws
    ++ (block_lines (those (tag_unwritten ws) (blocks_of b))
    ++ directive_lines (those (tag_unwritten ws) (directives_of b))))

-- All lines of a board; play are the data lines of its play.
unfoldable pub board_lines : Conventions → PlainBoard → List (List ℕ) → List WrittenLine
board_lines c b play = leading_lines b ++ body_lines b (written_tags c b play)

-- ---- bytes

-- A line with its LF (10). A block stands in braces, `{` (123) and `}` (125).
unfoldable pub line_text : WrittenLine → List ℕ
line_text (tag_line n v) = tag_text n v ++ 10 ∷ []
line_text (data_line d) = d ++ 10 ∷ []
line_text (directive_line i d) = d ++ 10 ∷ []
line_text (block_line i v) = 123 ∷ (v ++ 125 ∷ 10 ∷ [])

abbrev pub lines_text : List WrittenLine → List ℕ
lines_text [] = []
lines_text (l ∷ ls) = line_text l ++ lines_text ls
