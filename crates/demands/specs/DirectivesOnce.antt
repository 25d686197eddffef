-- Directives are written once: how often, where, in which order, where that is as it was before, and that saving does not multiply them.
--
-- Before, a directive with a tag before it was written after every written tag of that tag's name. Only Note is written more than once
-- (`only_notes` of specs/NothingLost.antt), so only directives after a Note moved.
use Rattle.std.specs.Prelude.{ℕ, ◌+◌, ◌≤◌, ◌≡◌, Bool, true, cond, not, List, [], ◌∷◌, ◌++◌, map, eqb, length}
use Rattle.std.proofs.Math.Option.{Option, none, some}
use Rattle.std.proofs.Math.ListN.{get_elem?}
use Rattle.tables.specs.declared.letters.Conventions.{Conventions}
use Rattle.tables.specs.Letters.{Accepted}
use Rattle.reader.specs.declared.board.TableCard.{TableCard}
use Rattle.reader.specs.Records.{records_of}
use Rattle.reader.specs.Plain.{TagPair, Remark, PlainBoard, plain_of, plain_boards}
use Rattle.writer.specs.Tags.{WrittenTag, written_tags}
use Rattle.writer.specs.Remarks.{Anchored, directives_of, blocks_of, those, is_leading, is_under, tag_unwritten, WrittenLine, tag_line, data_line, directive_line, directive_lines, block_lines, blocks_after, leading_lines, board_lines}
use Rattle.writer.specs.Pages.{written_text}
use Rattle.writer.specs.Given.{with_table, finished_boards, finished_text}
use Rattle.demands.specs.NothingLost.{directive, anchor_in, is_tag, is_remark_line, times, until_tag, Place, is_at_end}
use Rattle.demands.specs.PageBack.{all, is_signed}

-- ---- how often, where, in which order

-- The lines of a board that was read, with its own table or another, and with any data lines for its play.
abbrev pub lines_with : Conventions → List ℕ → TableCard → List (List ℕ) → List WrittenLine
lines_with c r t play = board_lines c (with_table t (plain_of c r)) play

-- THEOREM (proofs/DirectivesOnce.antt). Each directive of a board is exactly one line of it, counted by its number: two may have the same
-- bytes.
abbrev pub DirectiveOnce : Type 0
DirectiveOnce =
    (c : Conventions) (r : List ℕ) (t : TableCard) (play : List (List ℕ)) (i : ℕ) (k : Remark)
    → get_elem? (plain_of c r).directives i ≡ some k → times (is_remark_line directive i) (lines_with c r t play) ≡ 1

-- THEOREM (proofs/DirectivesOnce.antt). Where a tag stands before it, the last tag line above its line is the first of that name and value,
-- else the first of that name; else it stands behind all blocks at the end.
abbrev pub DirectivePlace : Type 0
DirectivePlace =
    (c : Conventions) (r : List ℕ) (t : TableCard) (play : List (List ℕ)) (front back : List WrittenLine) (i : ℕ) (x : List ℕ) (k : Remark)
    → lines_with c r t play ≡ front ++ directive_line i x ∷ back → get_elem? (plain_of c r).directives i ≡ some k
    → Place (lines_with c r t play) front back directive (anchor_in (plain_of c r) k)

-- THEOREM (proofs/DirectivesOnce.antt). Two directives with no tag line between them, both at the board's end or neither, stand in the
-- order met.
abbrev pub DirectivesInOrder : Type 0
DirectivesInOrder =
    (c : Conventions) (r : List ℕ) (t : TableCard) (play : List (List ℕ)) (front between back : List WrittenLine) (i j : ℕ) (x y : List ℕ)
    → lines_with c r t play ≡ front ++ directive_line i x ∷ (between ++ directive_line j y ∷ back) → until_tag between ≡ between
    → is_at_end (plain_of c r) (lines_with c r t play) (get_elem? (plain_of c r).directives i)
    ≡ is_at_end (plain_of c r) (lines_with c r t play) (get_elem? (plain_of c r).directives j)
    → i + 1 ≤ j

-- ---- as before

-- The lines of tags as they were: after each tag the directives of its name.
abbrev pub former_tags_lines : List Anchored → List Anchored → List WrittenTag → List WrittenTag → List WrittenLine
former_tags_lines ds ks earlier [] = []
former_tags_lines ds ks earlier (w ∷ ws) =
    tag_line w.name w.value
    ∷ (map data_line w.lines
    ++ (directive_lines (those (is_under w.name) ds)
    ++ (blocks_after ks earlier w
    ++ former_tags_lines ds ks (earlier ++ w ∷ []) ws)))

abbrev pub former_lines : PlainBoard → List WrittenTag → List WrittenLine
former_lines b ws =
    leading_lines b
    ++ (block_lines (those is_leading (blocks_of b))
    ++ (former_tags_lines (directives_of b) (blocks_of b) [] ws
    ++ (block_lines (those (tag_unwritten ws) (blocks_of b))
    ++ directive_lines (those (tag_unwritten ws) (directives_of b)))))

-- How many tags of the name of an anchor are among the lines.
abbrev pub times_anchored : Option TagPair → List WrittenLine → ℕ
times_anchored none ls = 0
times_anchored (some t) ls = times (is_tag t.name) ls

-- THEOREM (proofs/DirectivesOnce.antt). Where the name of the tag before each directive is written at most once, the lines are those of
-- before.
abbrev pub AsBefore : Type 0
AsBefore =
    (c : Conventions) (r : List ℕ) (t : TableCard) (play : List (List ℕ))
    → ((i : ℕ) (k : Remark) → get_elem? (plain_of c r).directives i ≡ some k → times_anchored (anchor_in (plain_of c r) k) (lines_with c r t play) ≤ 1)
    → lines_with c r t play ≡ former_lines (with_table t (plain_of c r)) (written_tags c (with_table t (plain_of c r)) play)

-- ---- saving twice

-- How many directives of a board have a tag before them, and how many have none.
abbrev pub tied_count : PlainBoard → ℕ
tied_count b = length (those (λ k. not (is_leading k)) (directives_of b))

abbrev pub free_count : PlainBoard → ℕ
free_count b = length (those is_leading (directives_of b))

-- Those without one on a page: as many as before; the two lines of the built-in header on a first board that had none.
abbrev pub saved_free : List PlainBoard → List ℕ
saved_free [] = []
saved_free (b ∷ bs) = cond (eqb (free_count b) 0) 2 (free_count b) ∷ map free_count bs

-- No directive of the boards starts with `{`.
abbrev pub all_signed : List PlainBoard → Bool
all_signed bs = all (λ b. all (λ k. is_signed k.bytes) b.directives) bs

-- A text, read with the letters d, has on each of its boards as many directives as the boards bs.
pub record SameCounts (d : Conventions) (text : List ℕ) (bs : List PlainBoard) : Type 0 where
  pub tied_kept : map (λ r. tied_count (plain_of d r)) (records_of text) ≡ map tied_count bs
  pub free_kept : map (λ r. free_count (plain_of d r)) (records_of text) ≡ saved_free bs

-- THEOREM (proofs/DirectivesOnce.antt). Saving does not multiply them: where none starts with `{`, an edition that is written, or finished,
-- and read again with any letters has as many.
pub record SavedTwice : Type 0 where
  pub written : (c d : Conventions) → Accepted c → (text : List ℕ) → all_signed (plain_boards c text) ≡ true → SameCounts d (written_text c text) (plain_boards c text)
  pub finished : (c d : Conventions) → Accepted c → (old new answers : List ℕ) → all_signed (finished_boards c old new answers) ≡ true
      → SameCounts d (finished_text c old new answers) (finished_boards c old new answers)
