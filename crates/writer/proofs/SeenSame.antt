-- A board with the vulnerability of its card is written like the board itself.
use Prim.Native.Nat.{ℕ}
use mathlib.Core.Path.{◌≡◌, refl}
use mathlib.Core.List.{List, [], ◌∷◌, map}
use mathlib.Core.Option.{Option, none, some}
use lib.Dec.{eqb}
use Rattle.tables.specs.declared.letters.Conventions.{Conventions}
use Rattle.tables.proofs.Laws.{by_cases}
use Rattle.reader.specs.declared.board.Identity.{Identity}
use Rattle.reader.specs.Plain.{PlainBoard}
use Rattle.writer.specs.Tags.{WrittenTag, vulnerability, result_text, deal_value, head_tags, deal_tags, written_tags}
use Rattle.writer.specs.Remarks.{directives_of, blocks_of, leading_lines, body_lines, board_lines}
use Rattle.writer.specs.Pages.{own_play, first_part, next_part, next_parts, page_text}
use Rattle.writer.specs.Held.{shown, seen}

-- ---- tags

shown_vulnerability : (i : Identity) → vulnerability (shown i) ≡ vulnerability i
unfolding shown
shown_vulnerability i = by_cases (eqb i.vulnerability 4) (λ t. rw t) (λ t. rw (t, t))

deal_same : (c : Conventions) (b : PlainBoard) (v : Option (List ℕ)) → deal_value c (seen b) v ≡ deal_value c b v
unfolding seen shown
deal_same c b none = refl
deal_same c b (some v) = refl

head_same : (c : Conventions) (b : PlainBoard) → head_tags c (seen b) ≡ head_tags c b
unfolding head_tags seen shown
head_same c b = rw (shown_vulnerability b.id)

deals_same : (c : Conventions) (b : PlainBoard) → deal_tags c (seen b) ≡ deal_tags c b
unfolding deal_tags result_text seen shown
deals_same c b = rw (deal_same c b b.values.deal)

-- THEOREM. Its tags are the same.
pub SeenTags : (c : Conventions) (b : PlainBoard) (play : List (List ℕ)) → written_tags c (seen b) play ≡ written_tags c b play
unfolding written_tags seen
SeenTags c b play = rw (head_same c b, deals_same c b)

-- ---- lines

pub SeenLeading : (b : PlainBoard) → leading_lines (seen b) ≡ leading_lines b
unfolding leading_lines directives_of seen
SeenLeading b = refl

pub SeenBody : (b : PlainBoard) (ws : List WrittenTag) → body_lines (seen b) ws ≡ body_lines b ws
unfolding body_lines directives_of blocks_of seen
SeenBody b ws = refl

-- THEOREM. So are its lines.
pub SeenSame : (c : Conventions) (b : PlainBoard) (play : List (List ℕ)) → board_lines c (seen b) play ≡ board_lines c b play
unfolding board_lines
SeenSame c b play = rw (SeenLeading b, SeenTags c b play, SeenBody b (written_tags c b play))

-- ---- the page

seen_play : (c : Conventions) (b : PlainBoard) → own_play c (seen b).play ≡ own_play c b.play
unfolding seen
seen_play c b = refl

first_same : (c : Conventions) (b : PlainBoard) → first_part c (seen b) ≡ first_part c b
unfolding first_part
first_same c b = rw (SeenLeading b, seen_play c b, SeenTags c b (own_play c b.play), SeenBody b (written_tags c b (own_play c b.play)))

next_same : (c : Conventions) (b : PlainBoard) → next_part c (seen b) ≡ next_part c b
unfolding next_part
next_same c b = rw (SeenLeading b, seen_play c b, SeenTags c b (own_play c b.play), SeenBody b (written_tags c b (own_play c b.play)))

parts_same : (c : Conventions) (bs : List PlainBoard) → next_parts c (map seen bs) ≡ next_parts c bs
parts_same c [] = refl
parts_same c (b ∷ bs) = rw (next_same c b, parts_same c bs)

-- THEOREM. The boards of an edition, as their cards have them, are the same page.
pub SeenPage : (c : Conventions) (bs : List PlainBoard) → page_text c (map seen bs) ≡ page_text c bs
SeenPage c [] = refl
SeenPage c (b ∷ bs) = rw (first_same c b, parts_same c bs)
