-- Nothing of the editor's is lost: where the directives and the commentary blocks of a board stand among its written lines, and that the
-- page is those lines.
--
-- A line is a tag, a data line of its section, or a directive or block with its number among the board's, from 0. So what is counted
-- is remarks, not equal bytes. proofs/NothingLost.antt proves it of every board that is read, written with its own table or with another.
use Rattle.std.specs.Prelude.{ℕ, ◌+◌, ◌≤◌, ◌<◌, ◌≡◌, Bool, true, false, cond, ◌&&◌, List, [], ◌∷◌, ◌++◌, eqb, length, take, drop}
use Rattle.std.proofs.Math.Option.{Option, none, some}
use Rattle.std.proofs.Math.ListN.{get_elem?}
use Rattle.tables.specs.declared.letters.Conventions.{Conventions}
use Rattle.tables.specs.Text.{ascii}
use Rattle.reader.specs.declared.board.TableCard.{TableCard}
use Rattle.reader.specs.Words.{same}
use Rattle.reader.specs.Plain.{TagPair, Remark, PlainBoard, plain_of}
use Rattle.writer.specs.Remarks.{WrittenLine, tag_line, data_line, directive_line, block_line, lines_text, leading_lines, board_lines}
use Rattle.writer.specs.Pages.{own_play, built_in_header, first_part, next_part}
use Rattle.writer.specs.Given.{with_table}

-- ---- remarks

-- A remark is a directive or a commentary block.
pub data Kind : Type 0 where
  directive : Kind
  block : Kind

abbrev pub remarks_of : Kind → PlainBoard → List Remark
remarks_of directive b = b.directives
remarks_of block b = b.blocks

-- The anchor of a remark: the last of the tags before it, or none.
abbrev pub last_of : List TagPair → Option TagPair
last_of [] = none
last_of (t ∷ []) = some t
last_of (t ∷ u ∷ ts) = last_of (u ∷ ts)

abbrev pub anchor_in : PlainBoard → Remark → Option TagPair
anchor_in b k = last_of (take k.before b.tags)

-- ---- lines

-- The line of a remark.
abbrev pub line_of : Kind → ℕ → List ℕ → WrittenLine
line_of directive i x = directive_line i x
line_of block i x = block_line i x

abbrev pub is_remark_line : Kind → ℕ → WrittenLine → Bool
is_remark_line directive i (directive_line j x) = eqb i j
is_remark_line block i (block_line j x) = eqb i j
is_remark_line directive i (tag_line m v) = false
is_remark_line directive i (data_line d) = false
is_remark_line directive i (block_line j x) = false
is_remark_line block i (tag_line m v) = false
is_remark_line block i (data_line d) = false
is_remark_line block i (directive_line j x) = false

-- A tag of the name n.
abbrev pub is_tag : List ℕ → WrittenLine → Bool
is_tag n (tag_line m v) = same n m
is_tag n (data_line d) = false
is_tag n (directive_line i x) = false
is_tag n (block_line i x) = false

-- The tag t: its name and its value.
abbrev pub is_tag_of : TagPair → WrittenLine → Bool
is_tag_of t (tag_line m v) = same t.name m && same t.value v
is_tag_of t (data_line d) = false
is_tag_of t (directive_line i x) = false
is_tag_of t (block_line i x) = false

abbrev pub is_block_line : WrittenLine → Bool
is_block_line (tag_line m v) = false
is_block_line (data_line d) = false
is_block_line (directive_line i x) = false
is_block_line (block_line i x) = true

abbrev pub is_data : WrittenLine → Bool
is_data (tag_line m v) = false
is_data (data_line d) = true
is_data (directive_line i x) = false
is_data (block_line i x) = false

abbrev pub is_tag_or_data : WrittenLine → Bool
is_tag_or_data (tag_line m v) = true
is_tag_or_data (data_line d) = true
is_tag_or_data (directive_line i x) = false
is_tag_or_data (block_line i x) = false

-- How many lines meet a test.
abbrev pub times : (WrittenLine → Bool) → List WrittenLine → ℕ
times p [] = 0
times p (l ∷ ls) = cond (p l) 1 0 + times p ls

-- The tag of the last tag line, o where there is none.
abbrev pub last_tag_after : Option TagPair → List WrittenLine → Option TagPair
last_tag_after o [] = o
last_tag_after o (tag_line m v ∷ ls) = last_tag_after (some (record { name = m; value = v })) ls
last_tag_after o (data_line d ∷ ls) = last_tag_after o ls
last_tag_after o (directive_line i x ∷ ls) = last_tag_after o ls
last_tag_after o (block_line i x ∷ ls) = last_tag_after o ls

abbrev pub last_tag : List WrittenLine → Option TagPair
last_tag ls = last_tag_after none ls

-- The lines up to the next tag line.
abbrev pub until_tag : List WrittenLine → List WrittenLine
until_tag [] = []
until_tag (tag_line m v ∷ ls) = []
until_tag (data_line d ∷ ls) = data_line d ∷ until_tag ls
until_tag (directive_line i x ∷ ls) = directive_line i x ∷ until_tag ls
until_tag (block_line i x ∷ ls) = block_line i x ∷ until_tag ls

-- ---- where a remark stands

-- The line of a remark in the lines ls of a board, between front and back, by its anchor.
--   above: no tag before it on the board. It stands above every tag and every data line.
--   by_value: a directive. The last tag line above it has its anchor's name and value, is the first that has both, and its data lines stand
--     above.
--   by_name: the last tag line above it is the first of its anchor's name, and its data lines stand above. For a directive, no tag line has
--     the anchor's name and value.
--   behind: no tag of its anchor's name is written. It stands behind all tags and data lines, a directive behind all blocks too.
pub data Place (ls front back : List WrittenLine) (kind : Kind) : Option TagPair → Type 0 where
  above : times is_tag_or_data front ≡ 0 → Place ls front back kind none
  by_value : {t : TagPair} → kind ≡ directive → last_tag front ≡ some t → times (is_tag_of t) front ≡ 1 → times is_data (until_tag back) ≡ 0
      → Place ls front back kind (some t)
  by_name : {t u : TagPair} → (kind ≡ directive → times (is_tag_of t) ls ≡ 0) → last_tag front ≡ some u → u.name ≡ t.name → times (is_tag t.name) front ≡ 1
      → times is_data (until_tag back) ≡ 0 → Place ls front back kind (some t)
  behind : {t : TagPair} → times (is_tag t.name) ls ≡ 0 → times is_tag_or_data back ≡ 0 → (kind ≡ directive → times is_block_line back ≡ 0)
      → Place ls front back kind (some t)

-- The line between front and back, of the number i and the bytes x, is that of a remark of the board, and stands where it should.
pub record StandsRight (b : PlainBoard) (ls : List WrittenLine) (kind : Kind) (i : ℕ) (x : List ℕ) (front back : List WrittenLine) : Type 0 where
  pub remark : Remark
  pub met : get_elem? (remarks_of kind b) i ≡ some remark
  pub unchanged : x ≡ remark.bytes
  pub place : Place ls front back kind (anchor_in b remark)

-- ---- the order at a place

-- No tag of its anchor's name is written, so that it stands at the end.
abbrev pub is_unwritten : List WrittenLine → Option TagPair → Bool
is_unwritten ls none = false
is_unwritten ls (some t) = eqb (times (is_tag t.name) ls) 0

abbrev pub is_at_end : PlainBoard → List WrittenLine → Option Remark → Bool
is_at_end b ls none = false
is_at_end b ls (some k) = is_unwritten ls (anchor_in b k)

-- Directives come first, then blocks; at the end, behind all others, blocks, then directives.
abbrev pub rank : Kind → Bool → ℕ
rank directive at_end = cond at_end 3 0
rank block at_end = cond at_end 2 1

abbrev pub rank_in : PlainBoard → List WrittenLine → Kind → ℕ → ℕ
rank_in b ls kind i = rank kind (is_at_end b ls (get_elem? (remarks_of kind b) i))

-- By rank, and where ranks are equal in the order met.
pub data InOrder (r i s j : ℕ) : Type 0 where
  by_rank : r < s → InOrder r i s j
  as_met : r ≡ s → i < j → InOrder r i s j

-- ---- the demand

pub record NothingLost (b : PlainBoard) (ls : List WrittenLine) : Type 0 where
  -- Every line of a remark is that of one of the board's, and stands beside its tag.
  pub placed : (kind : Kind) (front back : List WrittenLine) (i : ℕ) (x : List ℕ) → ls ≡ front ++ line_of kind i x ∷ back → StandsRight b ls kind i x front back
  -- Every directive and every block is written once.
  pub once : (kind : Kind) (i : ℕ) (k : Remark) → get_elem? (remarks_of kind b) i ≡ some k → times (is_remark_line kind i) ls ≡ 1
  -- Only Note is the name of several tags.
  pub only_notes : (n : List ℕ) → same (ascii "Note") n ≡ false → times (is_tag n) ls ≤ 1
  -- Two remarks with no tag line between them stand in order.
  pub in_order : (p q : Kind) (front between back : List WrittenLine) (i j : ℕ) (x y : List ℕ)
      → ls ≡ front ++ line_of p i x ∷ (between ++ line_of q j y ∷ back) → until_tag between ≡ between
      → InOrder (rank_in b ls p i) i (rank_in b ls q j) j

-- THEOREM (proofs/NothingLost.antt). Of every board that is read, with any data lines for its play: as golavimes_write writes it, and with
-- any table that golavimes_finish gives it.
pub record NothingIsLost : Type 0 where
  pub written : (c : Conventions) (r : List ℕ) (play : List (List ℕ)) → NothingLost (plain_of c r) (board_lines c (plain_of c r) play)
  pub finished : (c : Conventions) (r : List ℕ) (t : TableCard) (play : List (List ℕ))
      → NothingLost (with_table t (plain_of c r)) (board_lines c (with_table t (plain_of c r)) play)

-- ---- the page

-- A board's lines with its own play, and how many of them are the directives before every tag, which stand first.
abbrev pub own_lines : Conventions → PlainBoard → List WrittenLine
own_lines c b = board_lines c b (own_play c b.play)

abbrev pub leading_count : PlainBoard → ℕ
leading_count b = length (leading_lines b)

-- THEOREM (proofs/NothingLost.antt). The page is these lines and nothing else. page_text puts the boards' parts in a row, and the part of a
-- board is the bytes of all its lines with
--   next: an empty line above them, where the board is not the first;
--   first: an empty line behind the directives before every tag, where it is the first;
--   headed: the built-in header above them, where it is the first and has no such directive.
pub record LinesOnPage : Type 0 where
  pub next : (c : Conventions) (b : PlainBoard) → next_part c b ≡ 10 ∷ lines_text (own_lines c b)
  pub first : (c : Conventions) (b : PlainBoard) → 0 < leading_count b
      → first_part c b ≡ lines_text (take (leading_count b) (own_lines c b)) ++ 10 ∷ lines_text (drop (leading_count b) (own_lines c b))
  pub headed : (c : Conventions) (b : PlainBoard) → leading_count b ≡ 0 → first_part c b ≡ built_in_header ++ lines_text (own_lines c b)
