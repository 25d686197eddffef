-- Nothing of the editor's is lost: the proof of specs/NothingLost.antt.
use Prim.Native.Nat.{ℕ, ◌≤◌, ◌<◌}
use mathlib.Core.Path.{◌≡◌, refl, ap, subst, ◌∙◌}
use mathlib.Core.Bool.{true, false}
use mathlib.Core.List.{List, [], ◌∷◌, ◌++◌, append_assoc}
use mathlib.Core.Option.{some}
use native.Mathlib.Nat.{zero-add}
use native.Mathlib.Omega.{arith}
use lib.ListN.{length, get_elem?}
use lib.Seq.{take_at, drop_at}
use Rattle.tables.specs.Text.{ascii}
use Rattle.tables.specs.declared.letters.Conventions.{Conventions}
use Rattle.reader.specs.declared.board.TableCard.{TableCard}
use Rattle.reader.specs.Words.{same}
use Rattle.reader.specs.Plain.{Remark, PlainBoard, plain_of}
use Rattle.reader.proofs.EntryLaws.{All, one}
use Rattle.reader.proofs.PlainAnchors.{Anchors, PlainAnchors}
use Rattle.writer.specs.Tags.{WrittenTag, written_tags}
use Rattle.writer.specs.Remarks.{anchored_from, directives_of, blocks_of, is_leading, is_under, tag_unwritten, goes_after, WrittenLine, tag_line, data_line, directive_line, block_line, lines_text, leading_lines, body_lines, board_lines}
use Rattle.writer.specs.Pages.{body_text, built_in_header, page_header, first_part, next_part}
use Rattle.writer.specs.Given.{with_table}
use Rattle.writer.proofs.GroupTexts.{lines_join}
use Rattle.writer.proofs.NamesOnce.{times_written, NamesOnce}
use Rattle.demands.specs.NothingLost.{Kind, directive, block, remarks_of, line_of, is_remark_line, times, until_tag, rank_in, NothingLost, NothingIsLost, own_lines, LinesOnPage}
use Rattle.demands.proofs.LinesWritten.{until_remark, all_lines, all_named, Each, each_at}
use Rattle.demands.proofs.RemarksCounted.{directive_times, block_times}
use Rattle.demands.proofs.RemarksOrdered.{those_rise, Behind, Ordered, from_behind, from_ordered, Ranked, each_ordered_all}
use Rattle.demands.proofs.RemarksPlaced.{Good, from_good, each_all, all_known, those_ranked, leading_kept, under_kept, placed_kept}

all_at : {P : WrittenLine → Type 0} (xs : List WrittenLine) (y : WrittenLine) (zs : List WrittenLine) → All P (xs ++ y ∷ zs) → P y
all_at [] y zs (one p a) = p
all_at (x ∷ xs) y zs (one p a) = all_at xs y zs a

until_all : (xs ys : List WrittenLine) → until_tag xs ≡ xs → until_tag (xs ++ ys) ≡ xs ++ until_tag ys
until_all [] ys e = refl
until_all (tag_line n v ∷ xs) ys e = let z : ◌≡◌ {A = ℕ} 0 1 = cc in absurd (omega arith)
until_all (data_line d ∷ xs) ys e = let t : until_tag xs ≡ xs = cc in rw (until_all xs ys t)
until_all (directive_line i x ∷ xs) ys e = let t : until_tag xs ≡ xs = cc in rw (until_all xs ys t)
until_all (block_line i x ∷ xs) ys e = let t : until_tag xs ≡ xs = cc in rw (until_all xs ys t)

nothing_lost : (b : PlainBoard) (ws : List WrittenTag) → Anchors (length b.tags) b.directives b.blocks
    → ((n : List ℕ) → same (ascii "Note") n ≡ false → times_written n ws ≤ 1)
    → NothingLost b (all_lines (anchored_from b.tags 0 b.directives) (anchored_from b.tags 0 b.blocks) ws)
nothing_lost b ws reached once_each =
    let ds = anchored_from b.tags 0 b.directives in
    let ks = anchored_from b.tags 0 b.blocks in
    let L = all_lines ds ks ws in
    let hd = all_known b L directive 0 (λ m. ap (get_elem? b.directives) (zero-add m)) reached.directives_reached in
    let hk = all_known b L block 0 (λ m. ap (get_elem? b.blocks) (zero-add m)) reached.blocks_are_reached in
    let rk = rank_in b L in
    let ranked : Ranked rk ws ds ks =
    record {
      directives_under_lem = λ i h. those_ranked b L ds ks ws refl directive (goes_after ws i) false (placed_kept b L ds ks ws refl i h) hd;
      blocks_are_under = λ n t. those_ranked b L ds ks ws refl block (is_under n) false (under_kept b L ds ks ws refl n t) hk;
      directives_rise = λ t. those_rise t b.tags 0 b.directives;
      blocks_rise = λ t. those_rise t b.tags 0 b.blocks;
    } in
    let good = each_all b L ds ks ws hd hk refl in
    let ordered =
    each_ordered_all rk ds ks ws ranked
    (those_ranked b L ds ks ws refl directive is_leading false (leading_kept b L ds ks ws refl) hd)
    (those_ranked b L ds ks ws refl block is_leading false (leading_kept b L ds ks ws refl) hk)
    (those_ranked b L ds ks ws refl block (tag_unwritten ws) true (λ k u. u) hk)
    (those_ranked b L ds ks ws refl directive (tag_unwritten ws) true (λ k u. u) hd) in
    record {
      placed = λ kind front back i x e. from_good b L kind i x front back (each_at front (line_of kind i x) back (subst (Each (Good b L) []) e good));
      once = counted;
      only_notes = λ n h. rw (all_named n ds ks ws) (once_each n h);
      in_order = λ p q front between back i j x y e u.
          from_behind rk q (rk p i) i j y
          (all_at between (line_of q j y) (until_tag back)
          (subst (All (Behind rk (rk p i) i)) (until_all between (line_of q j y ∷ back) u ∙ ap (λ (l : List WrittenLine). between ++ l) (until_remark q j y back))
          (from_ordered rk p i x front (between ++ line_of q j y ∷ back)
          (each_at front (line_of p i x) (between ++ line_of q j y ∷ back) (subst (Each (Ordered rk) []) e ordered)))));
    }
  where
    counted : (kind : Kind) (i : ℕ) (k : Remark) → get_elem? (remarks_of kind b) i ≡ some k
        → times (is_remark_line kind i) (all_lines (anchored_from b.tags 0 b.directives) (anchored_from b.tags 0 b.blocks) ws) ≡ 1
    counted directive i k h = directive_times b.tags b.directives (anchored_from b.tags 0 b.blocks) ws i k h
    counted block i k h = block_times b.tags b.blocks (anchored_from b.tags 0 b.directives) ws i k h

with_any_table : (c : Conventions) (r : List ℕ) (t : TableCard) (play : List (List ℕ))
    → NothingLost (with_table t (plain_of c r)) (board_lines c (with_table t (plain_of c r)) play)
unfolding board_lines leading_lines body_lines directives_of blocks_of with_table
with_any_table c r t play =
    let b = with_table t (plain_of c r) in
    nothing_lost b (written_tags c b play) (PlainAnchors c r) (λ n h. NamesOnce c b play n h)

-- THEOREM. Nothing of the editor's is lost.
pub nothing_is_lost : NothingIsLost
unfolding with_table
nothing_is_lost =
    record {
      written = λ c r play. with_any_table c r (plain_of c r).table play;
      finished = with_any_table;
    }

-- ---- the page

header_led : (ls : List WrittenLine) (bs : List ℕ) → 0 < length ls → page_header ls ++ bs ≡ lines_text ls ++ 10 ∷ bs
header_led [] bs h = absurd (omega arith)
header_led (l ∷ ls) bs h = append_assoc (lines_text (l ∷ ls)) (10 ∷ []) bs

header_none : (ls : List WrittenLine) (bs : List ℕ) → length ls ≡ 0 → page_header ls ++ bs ≡ built_in_header ++ (lines_text ls ++ bs)
header_none [] bs h = refl
header_none (l ∷ ls) bs h = absurd (omega arith)

own_text_lem : (c : Conventions) (b : PlainBoard) → lines_text (own_lines c b) ≡ lines_text (leading_lines b) ++ body_text c b
unfolding board_lines
own_text_lem c b = lines_join (leading_lines b) _

-- THEOREM. The page is the boards' lines and nothing else.
pub lines_on_page : LinesOnPage
unfolding board_lines first_part next_part
lines_on_page =
    record {
      next = λ c b. rw (own_text_lem c b);
      first = λ c b h. rw (take_at, drop_at) (header_led (leading_lines b) (body_text c b) h);
      headed = λ c b h. rw (own_text_lem c b) (header_none (leading_lines b) (body_text c b) h);
    }
