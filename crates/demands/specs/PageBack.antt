-- A written page reads back: which boards and lines can be written, what a written line reads as, the records of a page, their tags, directives
-- and blocks.
use Rattle.std.specs.Prelude.{ℕ, ◌-◌, ◌≡◌, Bool, true, false, cond, ◌&&◌, ◌||◌, not, List, [], ◌∷◌, ◌++◌, map, ltb, eqb, length, take, drop, get_or}
use Rattle.std.proofs.Math.Option.{Option, none, some}
use Rattle.tables.specs.declared.letters.Conventions.{Conventions}
use Rattle.tables.specs.Text.{ascii, is_white, is_word, trimmed}
use Rattle.tables.specs.Letters.{every, among, Accepted}
use Rattle.reader.specs.declared.tag.Span.{Span}
use Rattle.reader.specs.declared.tag.Tag.{Tag as TagPlaces}
use Rattle.reader.specs.declared.line.TagReading.TheVariants.{Plain}
use Rattle.reader.specs.declared.line.Line.TheVariants.{Brace, Directive, Tag, Data}
use Rattle.reader.specs.Tag.{cut}
use Rattle.reader.specs.TagBytes.{good_name, good_value}
use Rattle.reader.specs.Lines.{line_kind, has_brace, last_brace}
use Rattle.reader.specs.Words.{same}
use Rattle.reader.specs.Records.{records_of}
use Rattle.reader.specs.Plain.{TagPair, PlainCall, PlainAuction, PlainBoard, plain_of, plain_boards, plain_list, without_returns, good_directive, good_block}
use Rattle.writer.specs.Tags.{WrittenTag, written_tags}
use Rattle.writer.specs.Remarks.{Anchored, directives_of, blocks_of, those, is_leading, is_under, wrote, tag_unwritten, goes_after, WrittenLine, tag_line, data_line, directive_line, block_line, lines_text, leading_lines}
use Rattle.writer.specs.Pages.{own_play, body_text, first_part, written_text}
use Rattle.writer.specs.Given.{finished_boards, finished_text}

-- ---- what can be written

-- All of a list meet a test.
abbrev pub all : {A : Type 0} → (A → Bool) → List A → Bool
all p [] = true
all p (x ∷ xs) = p x && all p xs

abbrev pub good_tag : TagPair → Bool
good_tag t = good_name t.name && good_value t.value

abbrev pub good_if_there : Option (List ℕ) → Bool
good_if_there none = true
good_if_there (some v) = good_value v

abbrev pub good_call : PlainCall → Bool
good_call k = ltb k.code 47 && every is_word k.annotation

abbrev pub calls_of : Option PlainAuction → List PlainCall
calls_of none = []
calls_of (some a) = a.calls

-- No white space stands at either end.
abbrev pub is_trimmed : List ℕ → Bool
is_trimmed s = same (trimmed s) s

-- A board that can be written: its tags, its values, its directives, which are trimmed, its blocks, its calls. The rest of a board always
-- can.
pub record Writable (b : PlainBoard) : Type 0 where
  pub tags_good : all good_tag b.tags ≡ true
  pub values_good : all good_if_there (plain_list b.values) ≡ true
  pub directives_good : all (λ k. good_directive k.bytes) b.directives ≡ true
  pub directives_trimmed : all (λ k. is_trimmed k.bytes) b.directives ≡ true
  pub blocks_good : all (λ k. good_block k.bytes) b.blocks ≡ true
  pub calls_good : all good_call (calls_of b.auction) ≡ true

-- Boards that can all be written.
pub data AllWritable : List PlainBoard → Type 0 where
  all_none : AllWritable []
  all_one : {b : PlainBoard} {bs : List PlainBoard} → Writable b → AllWritable bs → AllWritable (b ∷ bs)

-- A data line has no LF (10), is trimmed, and starts as no other line does: with no `{` (123), `;` (59), `%` (37) or `[` (91).
abbrev pub starts_data : ℕ → Bool
starts_data b = not (is_white b || (eqb b 123 || (eqb b 59 || (eqb b 37 || eqb b 91))))

abbrev pub good_data : List ℕ → Bool
good_data [] = false
good_data (b ∷ bs) = starts_data b && (not (among 10 (b ∷ bs)) && is_trimmed (b ∷ bs))

abbrev pub good_line : WrittenLine → Bool
good_line (tag_line n v) = good_name n && good_value v
good_line (data_line d) = good_data d
good_line (directive_line i d) = good_directive d && is_trimmed d
good_line (block_line i v) = good_block v

-- ---- what a written line reads as

-- Lines of commentary: the last, and no other, has a `}`.
pub data Shut : List (List ℕ) → Type 0 where
  last : {l : List ℕ} → has_brace l ≡ true → Shut (l ∷ [])
  more : {l : List ℕ} {ls : List (List ℕ)} → has_brace l ≡ false → Shut ls → Shut (l ∷ ls)

-- The text of commentary whose lines are l and ls: up to the last `}` of the last line.
abbrev pub up_to_brace : List ℕ → List (List ℕ) → List ℕ
up_to_brace l [] = take (last_brace l) l
up_to_brace l (m ∷ ms) = l ++ up_to_brace m ms

-- A directive that starts with `;` or `%`, not with `{` (123).
abbrev pub is_signed : List ℕ → Bool
is_signed d = not (eqb (get_or d 0 0) 123)

-- A written line and the lines of its text, each with its LF (10). A tag is a plain tag of that name and value; data and a directive have
-- those bytes; a directive that starts with `{` is commentary on one line, and a block is commentary whose text it is, from behind the `{`
-- (123). None of these is blank.
pub data ReadsAs : WrittenLine → List (List ℕ) → Type 0 where
  tag : {n v l : List ℕ} {t : TagPlaces} → line_kind l ≡ Tag (Plain t) → cut t.name l ≡ n → cut t.value l ≡ v → ReadsAs (tag_line n v) (l ∷ [])
  section : {d l : List ℕ} {s : Span} → line_kind l ≡ Data s → cut s l ≡ d → ReadsAs (data_line d) (l ∷ [])
  directive : {i : ℕ} {d l : List ℕ} {s : Span} → is_signed d ≡ true → line_kind l ≡ Directive s → cut s l ≡ d → ReadsAs (directive_line i d) (l ∷ [])
  comment : {i : ℕ} {d : List ℕ} → is_signed d ≡ false → line_kind (d ++ 10 ∷ []) ≡ Brace → has_brace (d ++ 10 ∷ []) ≡ true → ReadsAs (directive_line i d) ((d ++ 10 ∷ []) ∷ [])
  block : {i : ℕ} {v l : List ℕ} {ls : List (List ℕ)} → line_kind (123 ∷ l) ≡ Brace → Shut (l ∷ ls) → up_to_brace l ls ≡ v → ReadsAs (block_line i v) ((123 ∷ l) ∷ ls)

-- ---- the records of a page

-- A board's lines as bytes.
abbrev pub own_text : Conventions → PlainBoard → List ℕ
own_text c b = lines_text (leading_lines b) ++ body_text c b

-- Texts in a row, an empty line (an LF, 10) before each; and one record for each, own being the text before them: that empty line ends the
-- earlier one.
abbrev pub parts_text : {A : Type 0} → (A → List ℕ) → List A → List ℕ
parts_text f [] = []
parts_text f (x ∷ xs) = (10 ∷ f x) ++ parts_text f xs

abbrev pub part_records : {A : Type 0} → (A → List ℕ) → List ℕ → List A → List (List ℕ)
part_records f own [] = own ∷ []
part_records f own (x ∷ xs) = (own ++ 10 ∷ []) ∷ part_records f (f x) xs

-- One record for each board, its lines; own are those of the first.
abbrev pub records_after : Conventions → List ℕ → List PlainBoard → List (List ℕ)
records_after c own bs = part_records (own_text c) own bs

-- The file's header is in the first; a page without boards has no record.
abbrev pub page_records : Conventions → List PlainBoard → List (List ℕ)
page_records c [] = []
page_records c (b ∷ bs) = records_after c (first_part c b) bs

-- ---- the tags of a record

-- The tags of a board as they are written.
abbrev pub tag_pair : WrittenTag → TagPair
tag_pair w = record { name = w.name; value = w.value }

abbrev pub tags_as_written : Conventions → PlainBoard → List TagPair
tags_as_written c b = map tag_pair (written_tags c b (own_play c b.play))

-- ---- the directives and the blocks of a record

-- The bytes of a remark and its anchor, the last tag before it.
abbrev pub AnchoredBytes : Type 0
AnchoredBytes = List ℕ × Option TagPair

abbrev pub anchored_bytes : Anchored → AnchoredBytes
anchored_bytes k = (k.bytes, k.anchor)

-- What a written directive and a written block read back as.
pub record Texts : Type 0 where
  pub of_directive : List ℕ → List (List ℕ)
  pub of_block : List ℕ → List (List ℕ)

-- As directives: one that starts with `;` or `%` reads back with its own bytes.
abbrev pub as_directives : Texts
as_directives = record { of_directive = λ d. cond (is_signed d) (d ∷ []) []; of_block = λ v. [] }

-- As blocks: a block reads back with its own text, a CR before each LF dropped; one of white space alone is none. A directive that
-- starts with `{` reads back as the block of what stands behind the `{`, up to its last `}`.
abbrev pub block_text : List ℕ → List (List ℕ)
block_text v = cond (every is_white v) [] (without_returns v ∷ [])

abbrev pub comment_text : List ℕ → List ℕ
comment_text d = take (last_brace d - 1) (drop 1 d)

abbrev pub as_blocks : Texts
as_blocks = record { of_directive = λ d. cond (is_signed d) [] (block_text (comment_text d)); of_block = block_text }

-- Under the anchor a.
abbrev pub under : Option TagPair → List (List ℕ) → List AnchoredBytes
under a [] = []
under a (x ∷ xs) = (x, a) ∷ under a xs

abbrev pub all_under : (List ℕ → List (List ℕ)) → Option TagPair → List Anchored → List AnchoredBytes
all_under f a [] = []
all_under f a (k ∷ ks) = under a (f k.bytes) ++ all_under f a ks

-- Under each written tag the directives that go there, and under the first of a name the blocks; earlier are the tags written before.
abbrev pub under_tags : Texts → List Anchored → List Anchored → List WrittenTag → List WrittenTag → List AnchoredBytes
under_tags t ds ks earlier [] = []
under_tags t ds ks earlier (w ∷ ws) =
    all_under t.of_directive (some (tag_pair w)) (those (goes_after (earlier ++ w ∷ ws) (length earlier)) ds)
    ++ (cond (wrote w.name earlier) [] (all_under t.of_block (some (tag_pair w)) (those (is_under w.name) ks))
    ++ under_tags t ds ks (earlier ++ w ∷ []) ws)

-- The last tag; a where there is none.
abbrev pub last_tag_from : Option TagPair → List WrittenTag → Option TagPair
last_tag_from a [] = a
last_tag_from a (w ∷ ws) = last_tag_from (some (tag_pair w)) ws

-- The directives ds and the blocks ks of a board once they are written with the tags ws and read back: before any tag where they stood
-- so; under the tag after which they go, a block under the first of its tag's name; under the last written tag where none has that name.
abbrev pub read_back : Texts → List Anchored → List Anchored → List WrittenTag → List AnchoredBytes
read_back t ds ks ws =
    all_under t.of_directive none (those is_leading ds)
    ++ (all_under t.of_block none (those is_leading ks)
    ++ (under_tags t ds ks [] ws
    ++ (all_under t.of_block (last_tag_from none ws) (those (tag_unwritten ws) ks)
    ++ all_under t.of_directive (last_tag_from none ws) (those (tag_unwritten ws) ds))))

abbrev pub remarks_back : Texts → Conventions → PlainBoard → List AnchoredBytes
remarks_back t c b = read_back t (directives_of b) (blocks_of b) (written_tags c b (own_play c b.play))

-- The two directives of the built-in header, where the first board has none before its tags.
abbrev pub built_in_back : Texts → List WrittenLine → List AnchoredBytes
built_in_back t [] = under none (t.of_directive (ascii "% PBN 2.1")) ++ under none (t.of_directive (ascii "% EXPORT"))
built_in_back t (l ∷ ls) = []

abbrev pub page_back : Texts → Conventions → List PlainBoard → List (List AnchoredBytes)
page_back t c [] = []
page_back t c (b ∷ bs) = (built_in_back t (leading_lines b) ++ remarks_back t c b) ∷ map (remarks_back t c) bs

-- ---- a written edition reads back: written with letters that are allowed, and read with any

-- THEOREM (proofs/PageBack.antt). What an edition is written as is read with as many boards as the edition.
abbrev pub WrittenCount : Type 0
WrittenCount = (c : Conventions) → Accepted c → (text : List ℕ) → length (records_of (written_text c text)) ≡ length (records_of text)

-- THEOREM (proofs/WrittenTagsBack.antt). Each of its boards is read with the tags that were written, in their order.
abbrev pub EditionTags : Type 0
EditionTags =
    (c d : Conventions) → Accepted c → (text : List ℕ)
    → map (λ r. (plain_of d r).tags) (records_of (written_text c text)) ≡ map (tags_as_written c) (plain_boards c text)

-- THEOREM (proofs/WrittenTagsBack.antt). So is each board of what a new edition is finished as.
abbrev pub FinishedTags : Type 0
FinishedTags =
    (c d : Conventions) → Accepted c → (old new answers : List ℕ)
    → map (λ r. (plain_of d r).tags) (records_of (finished_text c old new answers)) ≡ map (tags_as_written c) (finished_boards c old new answers)

-- What the remarks of a text, read with the letters d, are: those of the boards bs as they are written with the letters c.
pub record RemarksRead (c d : Conventions) (text : List ℕ) (bs : List PlainBoard) : Type 0 where
  -- Of each record the directives of its board that start with `;` or `%`: the same bytes; before any tag where they stood so, under the
  -- tag after which they go, else under the last written tag.
  pub directives : map (λ r. map anchored_bytes (directives_of (plain_of d r))) (records_of text) ≡ page_back as_directives c bs
  -- The blocks of its board, and its directives in braces, likewise.
  pub blocks : map (λ r. map anchored_bytes (blocks_of (plain_of d r))) (records_of text) ≡ page_back as_blocks c bs

-- THEOREM (proofs/RemarksBack.antt). What an edition is written as has the remarks of the edition.
abbrev pub EditionRemarks : Type 0
EditionRemarks = (c d : Conventions) → Accepted c → (text : List ℕ) → RemarksRead c d (written_text c text) (plain_boards c text)

-- THEOREM (proofs/RemarksBack.antt). What a new edition is finished as has those of the finished boards.
abbrev pub FinishedRemarks : Type 0
FinishedRemarks =
    (c d : Conventions) → Accepted c → (old new answers : List ℕ) → RemarksRead c d (finished_text c old new answers) (finished_boards c old new answers)
