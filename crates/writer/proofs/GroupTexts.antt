-- Groups of written tags, put from the entries of a board, are the lines of those groups.
use Prim.Native.Nat.{ℕ}
use mathlib.Core.Path.{◌≡◌, refl}
use mathlib.Core.Bool.{Bool, true, false, cond}
use mathlib.Core.List.{List, [], ◌∷◌, ◌++◌, map, append-nil, append_assoc}
use mathlib.Core.Option.{some}
use lib.ListN.{drop}
use Rattle.tables.specs.declared.letters.Conventions.{Conventions}
use Rattle.tables.specs.Text.{ascii}
use Rattle.reader.specs.Tag.{tag_text}
use Rattle.reader.specs.Plain.{Item, TagPair, PlainAuction, tags_in}
use Rattle.writer.specs.Sections.{note_values}
use Rattle.writer.specs.Tags.{WrittenTag}
use Rattle.writer.specs.PresentSteps.{is_any}
use Rattle.writer.specs.Remarks.{WrittenLine, data_line, those, is_under, directive_lines, block_lines, line_text, lines_text}
use Rattle.writer.specs.Items.{Under, sought_by, sought_text, after_text, tag_line_text, data_text, full_text, group_text, note_takes, notes_text, has_remarks}
use Rattle.writer.proofs.GroupLines.{first_lines, takes_anchored, notes_lines, auction_tag, auction_group}
use Rattle.writer.proofs.RemarkTexts.{MarkedItems, under_tells, takes_tells, directives_in, blocks_in, DirectivesText, BlocksText, remarks_none, after_none}

-- ---- lines in a row

pub lines_join : (ls ms : List WrittenLine) → lines_text (ls ++ ms) ≡ lines_text ls ++ lines_text ms
lines_join [] ms = refl
lines_join (l ∷ ls) ms = rw (lines_join ls ms, append_assoc (line_text l) (lines_text ls) (lines_text ms))

pub rows_join : (ds es : List (List ℕ)) → data_text (ds ++ es) ≡ data_text ds ++ data_text es
rows_join [] es = refl
rows_join (d ∷ ds) es = rw (rows_join ds es, append_assoc (d ++ 10 ∷ []) (data_text ds) (data_text es))

pub data_lines_lem : (ds : List (List ℕ)) → lines_text (map data_line ds) ≡ data_text ds
unfolding line_text
data_lines_lem [] = refl
data_lines_lem (d ∷ ds) = rw (data_lines_lem ds)

pub tag_line_lem : (n v : List ℕ) → tag_text n v ++ 10 ∷ [] ≡ tag_line_text n v
unfolding tag_text tag_line_text
tag_line_lem n v = simp append_assoc

pub groups_join : (ws vs : List WrittenTag) (is : List Item) → group_text (ws ++ vs) is ≡ group_text ws is ++ group_text vs is
groups_join [] vs is = refl
groups_join (w ∷ ws) vs is = rw (groups_join ws vs is, append_assoc (full_text w is) (group_text ws is) (group_text vs is))

-- ---- groups

module _ (is : List Item) (m : MarkedItems 0 is) where
  directives_under_lem : (n : List ℕ) → lines_text (directive_lines (those (is_under n) (directives_in is))) ≡ sought_text Under n 3 is
  directives_under_lem n = DirectivesText is m (under_tells (tags_in is) n)

  blocks_under_lem : (n : List ℕ) → lines_text (block_lines (those (is_under n) (blocks_in is))) ≡ sought_text Under n 4 is
  blocks_under_lem n = BlocksText is m (under_tells (tags_in is) n)

  -- Tags whose names no others have.
  pub first_text : (ws : List WrittenTag) → lines_text (first_lines (directives_in is) (blocks_in is) ws) ≡ group_text ws is
  unfolding line_text full_text after_text
  first_text [] = refl
  first_text (w ∷ ws) =
      let ds = directive_lines (those (is_under w.name) (directives_in is)) in
      let ks = block_lines (those (is_under w.name) (blocks_in is)) in
      let more = first_lines (directives_in is) (blocks_in is) ws in
      rw (
        lines_join (map data_line w.lines) (ds ++ (ks ++ more)),
        lines_join ds (ks ++ more),
        lines_join ks more,
        data_lines_lem w.lines,
        directives_under_lem w.name,
        blocks_under_lem w.name,
        first_text ws,
        tag_line_lem w.name w.value,
      )
      (simp append_assoc)

  blocks_first : (x : Bool) → lines_text (cond x [] (block_lines (those (is_under (ascii "Note")) (blocks_in is)))) ≡ cond x [] (sought_text Under (ascii "Note") 4 is)
  blocks_first true = refl
  blocks_first false = blocks_under_lem (ascii "Note")

  pub notes_text_lem : (earlier vs : List (List ℕ)) → lines_text (notes_lines (directives_in is) (blocks_in is) earlier vs) ≡ notes_text earlier vs is
  unfolding line_text
  notes_text_lem earlier [] = refl
  notes_text_lem earlier (v ∷ vs) =
      let ds = directive_lines (those (takes_anchored earlier v vs) (directives_in is)) in
      let ks : List WrittenLine = cond (is_any earlier) [] (block_lines (those (is_under (ascii "Note")) (blocks_in is))) in
      let more = notes_lines (directives_in is) (blocks_in is) (earlier ++ v ∷ []) vs in
      rw (
        lines_join ds (ks ++ more),
        lines_join ks more,
        DirectivesText is m (takes_tells (tags_in is) earlier v vs),
        blocks_first (is_any earlier),
        notes_text_lem (earlier ++ v ∷ []) vs,
        tag_line_lem (ascii "Note") v,
      )
      (simp append_assoc)

  -- The auction's tag, then its notes.
  pub auction_text_lem : (c : Conventions) (ts : List TagPair) (a : PlainAuction)
      → lines_text (auction_group c (directives_in is) (blocks_in is) ts (some a)) ≡ full_text (auction_tag c a) is ++ notes_text [] (note_values (drop a.before ts)) is
  auction_text_lem c ts a =
      let vs = note_values (drop a.before ts) in
      rw (
        lines_join (first_lines (directives_in is) (blocks_in is) (auction_tag c a ∷ [])) (notes_lines (directives_in is) (blocks_in is) [] vs),
        first_text (auction_tag c a ∷ []),
        notes_text_lem [] vs,
        append-nil (full_text (auction_tag c a) is),
      )

-- ---- no remarks

-- Where the entries have no remarks, a scan over none of them is as good.
pub group_none : (ws : List WrittenTag) (is : List Item) → has_remarks is ≡ false → group_text ws is ≡ group_text ws []
unfolding full_text
group_none [] is e = refl
group_none (w ∷ ws) is e = rw (after_none w.name is e, group_none ws is e)

pub notes_none : (earlier vs : List (List ℕ)) (is : List Item) → has_remarks is ≡ false → notes_text earlier vs is ≡ notes_text earlier vs []
notes_none earlier [] is e = refl
notes_none earlier (v ∷ vs) is e =
    rw (
      remarks_none (note_takes earlier v vs) false 3 is refl e,
      remarks_none (λ t. sought_by Under (ascii "Note") t.name) false 4 is refl e,
      notes_none (earlier ++ v ∷ []) vs is e,
    )
