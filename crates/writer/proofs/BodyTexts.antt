-- A board's lines, put from its entries.
use Prim.Native.Nat.{ℕ}
use mathlib.Core.Path.{◌≡◌, refl, ap, ◌∙◌}
use mathlib.Core.List.{List, [], ◌++◌, map}
use mathlib.Core.Option.{Option, none, some}
use lib.ListN.{drop}
use Rattle.tables.specs.declared.letters.Conventions.{Conventions}
use Rattle.reader.specs.Plain.{Item, TagPair, PlainAuction, PlainBoard, tags_in, remarks_in, block_value}
use Rattle.writer.specs.Sections.{note_values}
use Rattle.writer.specs.Tags.{head_tags, early_extras, deal_tags, late_extras, play_tags, written_tags}
use Rattle.writer.specs.Remarks.{directives_of, blocks_of, those, is_leading, tag_unwritten, directive_lines, block_lines, tags_lines, leading_lines, body_lines, lines_text}
use Rattle.writer.specs.PresentSteps.{present_of}
use Rattle.writer.specs.Items.{Leading, Unwritten, sought_text, full_text, group_text, notes_text}
use Rattle.writer.proofs.GroupLines.{first_lines, auction_tag, auction_group, GroupLines}
use Rattle.writer.proofs.RemarkTexts.{MarkedItems, leading_tells, lost_tells, directives_in, blocks_in, DirectivesText, BlocksText}
use Rattle.writer.proofs.GroupTexts.{lines_join, first_text, auction_text_lem}

-- The auction with its notes.
abbrev pub auction_part : Conventions → List TagPair → Option PlainAuction → List Item → List ℕ
auction_part c ts none is = []
auction_part c ts (some a) is = full_text (auction_tag c a) is ++ notes_text [] (note_values (drop a.before ts)) is

auction_part_lem : (c : Conventions) (ts : List TagPair) (o : Option PlainAuction) (is : List Item) → MarkedItems 0 is
    → lines_text (auction_group c (directives_in is) (blocks_in is) ts o) ≡ auction_part c ts o is
auction_part_lem c ts none is m = refl
auction_part_lem c ts (some a) is m = auction_text_lem is m c ts a

-- All tags of a board.
abbrev pub tags_part : Conventions → PlainBoard → List (List ℕ) → List Item → List ℕ
tags_part c b play is =
    group_text (head_tags c b) is
    ++ (group_text (early_extras b.tags) is
    ++ (group_text (deal_tags c b) is
    ++ (group_text (late_extras b.tags) is
    ++ (auction_part c b.tags b.auction is
    ++ group_text (play_tags c play b.play) is))))

pub tags_part_lem : (c : Conventions) (b : PlainBoard) (play : List (List ℕ)) (is : List Item) → MarkedItems 0 is
    → lines_text (tags_lines (directives_in is) (blocks_in is) [] (written_tags c b play)) ≡ tags_part c b play is
tags_part_lem c b play is m =
    let ds = directives_in is in
    let ks = blocks_in is in
    let h = first_lines ds ks (head_tags c b) in
    let e = first_lines ds ks (early_extras b.tags) in
    let d = first_lines ds ks (deal_tags c b) in
    let l = first_lines ds ks (late_extras b.tags) in
    let a = auction_group c ds ks b.tags b.auction in
    let p = first_lines ds ks (play_tags c play b.play) in
    ap lines_text (GroupLines c b play ds ks)
    ∙ rw (
      lines_join h (e ++ (d ++ (l ++ (a ++ p)))),
      lines_join e (d ++ (l ++ (a ++ p))),
      lines_join d (l ++ (a ++ p)),
      lines_join l (a ++ p),
      lines_join a p,
      first_text is m (head_tags c b),
      first_text is m (early_extras b.tags),
      first_text is m (deal_tags c b),
      first_text is m (late_extras b.tags),
      auction_part_lem c b.tags b.auction is m,
      first_text is m (play_tags c play b.play),
    )

-- A board whose tags, directives and blocks are those of entries.
pub record BoardOf (b : PlainBoard) (is : List Item) : Type 0 where
  pub tags_are : b.tags ≡ tags_in is
  pub directives_are : b.directives ≡ remarks_in 3 is
  pub blocks_are : b.blocks ≡ map block_value (remarks_in 4 is)
  pub are_marked : MarkedItems 0 is

-- THEOREM. The lines of a board are put from its entries: what stands before every tag, the tags, and what is put at the end.
module _ (b : PlainBoard) (is : List Item) (o : BoardOf b is) (n : List ℕ) where
  directives_in_lem : directives_of b ≡ directives_in is
  unfolding directives_of
  directives_in_lem = rw (o.tags_are, o.directives_are)

  blocks_in_lem : blocks_of b ≡ blocks_in is
  unfolding blocks_of
  blocks_in_lem = rw (o.tags_are, o.blocks_are)

  pub LeadingText : lines_text (leading_lines b) ≡ sought_text Leading n 3 is
  unfolding leading_lines
  LeadingText = rw directives_in_lem (DirectivesText is o.are_marked (leading_tells (tags_in is) n))

  pub BodyText : (c : Conventions) (play : List (List ℕ))
      → lines_text (body_lines b (written_tags c b play))
      ≡ sought_text Leading n 4 is
      ++ (tags_part c b play is
      ++ (sought_text (Unwritten (present_of b)) n 4 is
      ++ sought_text (Unwritten (present_of b)) n 3 is))
  unfolding body_lines
  BodyText c play =
      let ws = written_tags c b play in
      let m = o.are_marked in
      let lost = lost_tells c b play n (tags_in is) o.tags_are in
      let first = block_lines (those is_leading (blocks_in is)) in
      let tags = tags_lines (directives_in is) (blocks_in is) [] ws in
      let blocks = block_lines (those (tag_unwritten ws) (blocks_in is)) in
      let directives = directive_lines (those (tag_unwritten ws) (directives_in is)) in
      rw (
        directives_in_lem,
        blocks_in_lem,
        lines_join first (tags ++ (blocks ++ directives)),
        lines_join tags (blocks ++ directives),
        lines_join blocks directives,
        BlocksText is m (leading_tells (tags_in is) n),
        tags_part_lem c b play is m,
        BlocksText is m lost,
        DirectivesText is m lost,
      )
