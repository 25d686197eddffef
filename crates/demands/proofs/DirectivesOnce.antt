-- Directives are written once: the proof of specs/DirectivesOnce.antt.
use Prim.Native.Nat.{ℕ, suc, ◌+◌, ◌≤◌, ◌<◌}
use mathlib.Core.Path.{◌≡◌, refl, sym, ap, subst, ◌∙◌}
use mathlib.Core.Bool.{Bool, true, false, cond, not}
use mathlib.Core.List.{List, [], ◌∷◌, ◌++◌, map, append_assoc, map-map, map_congr_left}
use mathlib.Core.Option.{Option, none, some}
use native.Mathlib.Nat.{zero-add}
use native.Mathlib.Omega.{arith}
use lib.Dec.{eqb}
use lib.ListN.{length, get_elem?}
use borrow.Author.Tests.{ne_eqb, not-true}
use Rattle.tables.specs.declared.letters.Conventions.{Conventions}
use Rattle.tables.proofs.Laws.{by_cases, both}
use Rattle.reader.specs.Records.{records_of}
use Rattle.reader.specs.Plain.{TagPair, Remark, PlainBoard, plain_of, plain_boards}
use Rattle.reader.proofs.EntryLaws.{All, none as no_more, one, all_map}
use Rattle.reader.proofs.PlainAnchors.{PlainAnchors}
use Rattle.writer.specs.Tags.{WrittenTag, head_tags, written_tags}
use Rattle.writer.specs.Remarks.{Anchored, anchored_from, directives_of, blocks_of, those, is_leading, same_name, is_under, wrote, tag_unwritten, of_name, goes_to, goes_after, WrittenLine, directive_lines, directives_after, tags_lines, leading_lines, body_lines, board_lines}
use Rattle.writer.specs.Pages.{own_play, written_text}
use Rattle.writer.specs.Given.{with_table, finished_boards, finished_text}
use Rattle.writer.proofs.NamesOnce.{once}
use Rattle.writer.proofs.PlaceLaws.{meets, goes_alone, times_placed}
use Rattle.demands.specs.NothingLost.{directive, anchor_in, is_tag, is_at_end, Place, InOrder, by_rank, as_met}
use Rattle.demands.specs.DirectivesOnce.{lines_with, DirectiveOnce, DirectivePlace, DirectivesInOrder, former_tags_lines, times_anchored, AsBefore, tied_count, free_count, saved_free, all_signed, SameCounts, SavedTwice}
use Rattle.demands.specs.PageBack.{all, is_signed, tag_pair, AnchoredBytes, anchored_bytes, as_directives, under, all_under, under_tags, last_tag_from, read_back, remarks_back, built_in_back, page_back, RemarksRead}
use Rattle.demands.proofs.LinesWritten.{directives_under, times_met, met_append, all_lines, all_tags, name_test}
use Rattle.demands.proofs.RemarksPlaced.{Known, all_known}
use Rattle.demands.proofs.RemarksCounted.{one_of, one_place}
use Rattle.demands.proofs.BoardWritable.{good_bytes, anchored_good, those_good}
use Rattle.demands.proofs.NothingLost.{nothing_is_lost}
use Rattle.demands.proofs.RemarksBack.{edition_remarks, finished_remarks}

-- ---- how often, where, in which order

-- THEOREM. Each directive is one line of its board.
pub directive_once : DirectiveOnce
unfolding with_table
directive_once c r t play i k h = (nothing_is_lost.finished c r t play).once directive i k h

-- THEOREM. It stands under the first tag of its anchor's name and value, else under the first of that name, else at the end.
pub directive_place : DirectivePlace
unfolding with_table
directive_place c r t play front back i x k e h =
    let s = (nothing_is_lost.finished c r t play).placed directive front back i x e in
    let same_remark : s.remark ≡ k = some_same s.remark k (sym s.met ∙ h) in
    subst (λ (j : Remark). Place (lines_with c r t play) front back directive (anchor_in (plain_of c r) j)) same_remark s.place
  where
    some_same : (j k : Remark) → some j ≡ some k → j ≡ k
    some_same j k e = cc

-- THEOREM. At one place they stand in the order met.
pub directives_in_order : DirectivesInOrder
unfolding with_table
directives_in_order c r t play front between back i j x y e u h =
    risen _ _
    (ap (λ (z : Bool). cond z 3 0) (at_end_lem (get_elem? (plain_of c r).directives i) ∙ (h ∙ sym (at_end_lem (get_elem? (plain_of c r).directives j)))))
    ((nothing_is_lost.finished c r t play).in_order directive directive front between back i j x y e u)
  where
    -- The board's table does not tell where its end is.
    at_end_lem : (o : Option Remark) → is_at_end (with_table t (plain_of c r)) (lines_with c r t play) o ≡ is_at_end (plain_of c r) (lines_with c r t play) o
    at_end_lem none = refl
    at_end_lem (some k) = refl

    risen : (r s : ℕ) → r ≡ s → InOrder r i s j → i + 1 ≤ j
    risen r s q (by_rank l) = absurd (omega arith)
    risen r s q (as_met q' l) = omega arith

-- ---- as before

-- Tests that agree on all.
those_same : (s t : Anchored → Bool) {ks : List Anchored} → All (λ k. s k ≡ t k) ks → those s ks ≡ those t ks
those_same s t no_more = refl
those_same s t (one {x = k} {xs = ks} e a) = rw (e, those_same s t a)

-- A test that is met no times is not met.
none_met : (p : WrittenTag → Bool) (ws : List WrittenTag) → times_met p ws ≡ 0 → meets p ws ≡ false
none_met p [] e = refl
none_met p (w ∷ ws) e = by_cases (p w) (λ h. absurd (omega (arith, rw h at e))) (λ h. rw h (none_met p ws (omega (arith, rw h at e))))

-- How many written tags have the name of an anchor.
abbrev times_named : Option TagPair → List WrittenTag → ℕ
times_named none ws = 0
times_named (some t) ws = times_met (of_name t) ws

-- As many of the board's lines have it.
named_lines : (a : Option TagPair) (ds ks : List Anchored) (ws : List WrittenTag) → times_anchored a (all_lines ds ks ws) ≡ times_named a ws
named_lines none ds ks ws = refl
named_lines (some t) ds ks ws = all_tags ds ks ws (is_tag t.name) (name_test t.name)

-- A directive whose anchor's name is written at most once goes after the tag of that name.
goes_under : (a : Option TagPair) (earlier : List WrittenTag) (w : WrittenTag) (ws : List WrittenTag)
    → times_named a (earlier ++ w ∷ ws) ≤ 1 → goes_to (earlier ++ w ∷ ws) (length earlier) a ≡ same_name w.name a
goes_under none earlier w ws h = refl
goes_under (some t) earlier w ws h =
    let z = met_append (of_name t) earlier (w ∷ ws) in
    goes_alone t earlier w ws (λ e. (none_met (of_name t) earlier (omega (arith, rw e at z)), none_met (of_name t) ws (omega (arith, rw e at z))))

-- Where that is so of all directives, the lines of the tags are those of before.
former_tags : (ds ks : List Anchored) (earlier ws : List WrittenTag) → All (λ d. times_named d.anchor (earlier ++ ws) ≤ 1) ds
    → tags_lines ds ks earlier ws ≡ former_tags_lines ds ks earlier ws
unfolding directives_after
former_tags ds ks earlier [] h = refl
former_tags ds ks earlier (w ∷ ws) h =
    rw (
      those_same (goes_after (earlier ++ w ∷ ws) (length earlier)) (is_under w.name) (all_map (λ d q. goes_under d.anchor earlier w ws q) h),
      former_tags ds ks (earlier ++ w ∷ []) ws (rw append_assoc h),
    )

-- THEOREM. Where each name is written at most once, the lines are those of before.
pub as_before : AsBefore
unfolding board_lines leading_lines body_lines directives_of blocks_of with_table
as_before c r t play h =
    let b = with_table t (plain_of c r) in
    let ws = written_tags c b play in
    let ds = anchored_from b.tags 0 b.directives in
    let ks = anchored_from b.tags 0 b.blocks in
    let few : (d : Anchored) → Known b (lines_with c r t play) directive d → times_named d.anchor ws ≤ 1 = λ d o.
    omega (
      arith,
      h d.number o.known o.found,
      ap (λ (a : Option TagPair). times_anchored a (all_lines ds ks ws)) o.anchor_is,
      named_lines d.anchor ds ks ws,
    ) in
    let known = all_known b (lines_with c r t play) directive 0 (λ m. ap (get_elem? b.directives) (zero-add m)) (PlainAnchors c r).directives_reached in
    rw (former_tags ds ks [] ws (all_map few known))

-- ---- saving twice

-- An anchor that is none; one that is a tag.
abbrev is_free : Option TagPair → Bool
is_free none = true
is_free (some t) = false

abbrev is_tied : Option TagPair → Bool
is_tied a = not (is_free a)

-- How many meet a test, the first apart.
those_length : (s : Anchored → Bool) (d : Anchored) (ds : List Anchored) → length (those s (d ∷ ds)) ≡ once (s d) + length (those s ds)
those_length s d ds = by_cases (s d) (λ e. rw e (omega arith)) (λ e. rw e (omega arith))

-- How many of the remarks that are read back have an anchor that meets a test.
abbrev count_back : (Option TagPair → Bool) → List AnchoredBytes → ℕ
count_back q [] = 0
count_back q (p ∷ ps) = once (q p.1) + count_back q ps

count_append : (q : Option TagPair → Bool) (xs ys : List AnchoredBytes) → count_back q (xs ++ ys) ≡ count_back q xs + count_back q ys
count_append q [] ys = omega arith
count_append q (x ∷ xs) ys = omega (arith, count_append q xs ys)

-- They are as many as those with such an anchor.
count_read : (q : Option TagPair → Bool) (s : Anchored → Bool) → ((d : Anchored) → s d ≡ q d.anchor) → (ds : List Anchored)
    → length (those s ds) ≡ count_back q (map anchored_bytes ds)
count_read q s h [] = refl
count_read q s h (d ∷ ds) = those_length s d ds ∙ rw (h d, count_read q s h ds)

-- ---- directives under an anchor

-- Those that start with `;` or `%` all read back; each has the anchor a.
count_met : (q : Option TagPair → Bool) (a : Option TagPair) (ds : List Anchored) → q a ≡ true → all (good_bytes is_signed) ds ≡ true
    → count_back q (all_under as_directives.of_directive a ds) ≡ length ds
count_met q a [] e h = refl
count_met q a (d ∷ ds) e h =
    let g = both (is_signed d.bytes) (all (good_bytes is_signed) ds) h in
    rw (g.0, e, count_met q a ds e g.1) (omega arith)

count_unmet : (q : Option TagPair → Bool) (f : List ℕ → List (List ℕ)) (a : Option TagPair) (ds : List Anchored) → q a ≡ false → count_back q (all_under f a ds) ≡ 0
count_unmet q f a [] e = refl
count_unmet q f a (d ∷ ds) e = count_append q (under a (f d.bytes)) (all_under f a ds) ∙ rw (none_met_under (f d.bytes), count_unmet q f a ds e)
  where
    none_met_under : (xs : List (List ℕ)) → count_back q (under a xs) ≡ 0
    none_met_under [] = refl
    none_met_under (x ∷ xs) = rw (e, none_met_under xs)

-- A block is no directive.
count_blocks : (q : Option TagPair → Bool) (a : Option TagPair) (ks : List Anchored) → count_back q (all_under as_directives.of_block a ks) ≡ 0
count_blocks q a [] = refl
count_blocks q a (k ∷ ks) = count_blocks q a ks

-- ---- directives under tags

-- How many go after the tags ws.
abbrev placed_count : List Anchored → List WrittenTag → List WrittenTag → ℕ
placed_count ds earlier [] = 0
placed_count ds earlier (w ∷ ws) = length (directives_under ds earlier w ws) + placed_count ds (earlier ++ w ∷ []) ws

-- That is the sum over the directives of how often each goes after one of them.
placed_nil : (earlier ws : List WrittenTag) → placed_count [] earlier ws ≡ 0
placed_nil earlier [] = refl
placed_nil earlier (w ∷ ws) = rw (placed_nil (earlier ++ w ∷ []) ws)

placed_cons : (d : Anchored) (ds : List Anchored) (earlier ws : List WrittenTag) → placed_count (d ∷ ds) earlier ws ≡ times_placed d.anchor earlier ws + placed_count ds earlier ws
placed_cons d ds earlier [] = refl
placed_cons d ds earlier (w ∷ ws) = omega (arith, those_length (goes_after (earlier ++ w ∷ ws) (length earlier)) d ds, placed_cons d ds (earlier ++ w ∷ []) ws)

-- Each with a tag before it goes after a tag or to the end.
all_placed : (ds : List Anchored) (ws : List WrittenTag) → placed_count ds [] ws + length (those (tag_unwritten ws) ds) ≡ length (those (λ d. not (is_leading d)) ds)
all_placed [] ws = rw (placed_nil [] ws)
all_placed (d ∷ ds) ws =
    omega (
      arith,
      placed_cons d ds [] ws,
      those_length (tag_unwritten ws) d ds,
      those_length (λ k. not (is_leading k)) d ds,
      one_place ws d,
      one_of (is_leading d),
      all_placed ds ws,
    )

module _ (ds ks : List Anchored) where
  -- Under a tag, and under those behind it.
  under_count : (q : Option TagPair → Bool) (earlier ws : List WrittenTag) (w : WrittenTag)
      → count_back q (under_tags as_directives ds ks earlier (w ∷ ws))
      ≡ count_back q (all_under as_directives.of_directive (some (tag_pair w)) (directives_under ds earlier w ws)) + count_back q (under_tags as_directives ds ks (earlier ++ w ∷ []) ws)
  under_count q earlier ws w =
      let D = all_under as_directives.of_directive (some (tag_pair w)) (directives_under ds earlier w ws) in
      let B = cond (wrote w.name earlier) [] (all_under as_directives.of_block (some (tag_pair w)) (those (is_under w.name) ks)) in
      let T = under_tags as_directives ds ks (earlier ++ w ∷ []) ws in
      let no_blocks : count_back q B ≡ 0 = by_cases (wrote w.name earlier) (λ e. rw e) (λ e. rw e (count_blocks q (some (tag_pair w)) (those (is_under w.name) ks))) in
      omega (arith, count_append q D (B ++ T), count_append q B T)

  under_free : (earlier ws : List WrittenTag) → count_back is_free (under_tags as_directives ds ks earlier ws) ≡ 0
  under_free earlier [] = refl
  under_free earlier (w ∷ ws) =
      under_count is_free earlier ws w
      ∙ rw (count_unmet is_free as_directives.of_directive (some (tag_pair w)) (directives_under ds earlier w ws) refl, under_free (earlier ++ w ∷ []) ws)

  -- Of a board: those before any tag, those under tags, those at the end under the last tag.
  back_count : (q : Option TagPair → Bool) (ws : List WrittenTag)
      → count_back q (read_back as_directives ds ks ws)
      ≡ count_back q (all_under as_directives.of_directive none (those is_leading ds))
      + (count_back q (under_tags as_directives ds ks [] ws) + count_back q (all_under as_directives.of_directive (last_tag_from none ws) (those (tag_unwritten ws) ds)))
  back_count q ws =
      let a = last_tag_from none ws in
      let L = all_under as_directives.of_directive none (those is_leading ds) in
      let B = all_under as_directives.of_block none (those is_leading ks) in
      let T = under_tags as_directives ds ks [] ws in
      let Y = all_under as_directives.of_block a (those (tag_unwritten ws) ks) in
      let Z = all_under as_directives.of_directive a (those (tag_unwritten ws) ds) in
      omega (
        arith,
        count_append q L (B ++ (T ++ (Y ++ Z))),
        count_append q B (T ++ (Y ++ Z)),
        count_append q T (Y ++ Z),
        count_append q Y Z,
        count_blocks q none (those is_leading ks),
        count_blocks q a (those (tag_unwritten ws) ks),
      )

  module _ (signed : all (good_bytes is_signed) ds ≡ true) where
    under_tied : (earlier ws : List WrittenTag) → count_back is_tied (under_tags as_directives ds ks earlier ws) ≡ placed_count ds earlier ws
    under_tied earlier [] = refl
    under_tied earlier (w ∷ ws) =
        under_count is_tied earlier ws w
        ∙ rw (
          count_met is_tied (some (tag_pair w)) (directives_under ds earlier w ws) refl (those_good (good_bytes is_signed) (goes_after (earlier ++ w ∷ ws) (length earlier)) ds signed),
          under_tied (earlier ++ w ∷ []) ws,
        )

    tied_back : (ws : List WrittenTag) → is_tied (last_tag_from none ws) ≡ true → count_back is_tied (read_back as_directives ds ks ws) ≡ length (those (λ d. not (is_leading d)) ds)
    tied_back ws e =
        omega (
          arith,
          back_count is_tied ws,
          count_unmet is_tied as_directives.of_directive none (those is_leading ds) refl,
          under_tied [] ws,
          count_met is_tied (last_tag_from none ws) (those (tag_unwritten ws) ds) e (those_good (good_bytes is_signed) (tag_unwritten ws) ds signed),
          all_placed ds ws,
        )

    free_back : (ws : List WrittenTag) → is_tied (last_tag_from none ws) ≡ true → count_back is_free (read_back as_directives ds ks ws) ≡ length (those is_leading ds)
    free_back ws e =
        omega (
          arith,
          back_count is_free ws,
          count_met is_free none (those is_leading ds) refl (those_good (good_bytes is_signed) is_leading ds signed),
          under_free [] ws,
          count_unmet is_free as_directives.of_directive (last_tag_from none ws) (those (tag_unwritten ws) ds) (not-true (is_free (last_tag_from none ws)) e),
        )

-- ---- the boards of a page

-- Where tags are written, one is the last; and Event always is written.
last_tied : (ws : List WrittenTag) → 0 < length ws → is_tied (last_tag_from none ws) ≡ true
last_tied [] h = absurd (omega arith)
last_tied (w ∷ ws) h = from (tag_pair w) ws
  where
    from : (t : TagPair) (ws : List WrittenTag) → is_tied (last_tag_from (some t) ws) ≡ true
    from t [] = refl
    from t (w ∷ ws) = from (tag_pair w) ws

some_written : (c : Conventions) (b : PlainBoard) (play : List (List ℕ)) → 0 < length (written_tags c b play)
unfolding written_tags head_tags
some_written c b play = omega arith

-- A board has as many directives with a tag before them, and as many without one, once it is written and read back.
module _ (c : Conventions) (b : PlainBoard) (signed : all (λ k. is_signed k.bytes) b.directives ≡ true) where
  tied_count_lem : count_back is_tied (remarks_back as_directives c b) ≡ tied_count b
  unfolding directives_of
  tied_count_lem =
      tied_back (directives_of b) (blocks_of b) (anchored_good is_signed b.tags 0 b.directives signed) (written_tags c b (own_play c b.play))
      (last_tied (written_tags c b (own_play c b.play)) (some_written c b (own_play c b.play)))

  free_count_lem : count_back is_free (remarks_back as_directives c b) ≡ free_count b
  unfolding directives_of
  free_count_lem =
      free_back (directives_of b) (blocks_of b) (anchored_good is_signed b.tags 0 b.directives signed) (written_tags c b (own_play c b.play))
      (last_tied (written_tags c b (own_play c b.play)) (some_written c b (own_play c b.play)))

-- The two lines of the built-in header have no tag before them, and stand on the page where no directive is before every tag.
header_tied : (ls : List WrittenLine) → count_back is_tied (built_in_back as_directives ls) ≡ 0
header_tied [] = refl
header_tied (l ∷ ls) = refl

header_free : (ds : List Anchored) → count_back is_free (built_in_back as_directives (directive_lines ds)) + length ds ≡ cond (eqb (length ds) 0) 2 (length ds)
header_free [] = refl
header_free (d ∷ ds) = rw (ne_eqb (suc (length ds)) 0 (λ e. omega arith)) (omega arith)

module _ (c : Conventions) where
  -- Boards that are not the first.
  next_boards : (q : Option TagPair → Bool) (f : PlainBoard → ℕ)
      → ((b : PlainBoard) → all (λ k. is_signed k.bytes) b.directives ≡ true → count_back q (remarks_back as_directives c b) ≡ f b)
      → (bs : List PlainBoard) → all_signed bs ≡ true → map (count_back q) (map (remarks_back as_directives c) bs) ≡ map f bs
  next_boards q f h [] e = refl
  next_boards q f h (b ∷ bs) e =
      let s = both (all (λ k. is_signed k.bytes) b.directives) (all_signed bs) e in
      rw (h b s.0, next_boards q f h bs s.1)

  tied_page : (bs : List PlainBoard) → all_signed bs ≡ true → map (count_back is_tied) (page_back as_directives c bs) ≡ map tied_count bs
  tied_page [] e = refl
  tied_page (b ∷ bs) e =
      let s = both (all (λ k. is_signed k.bytes) b.directives) (all_signed bs) e in
      rw (
        count_append is_tied (built_in_back as_directives (leading_lines b)) (remarks_back as_directives c b),
        header_tied (leading_lines b),
        zero-add,
        tied_count_lem c b s.0,
        next_boards is_tied tied_count (tied_count_lem c) bs s.1,
      )

  free_page : (bs : List PlainBoard) → all_signed bs ≡ true → map (count_back is_free) (page_back as_directives c bs) ≡ saved_free bs
  unfolding leading_lines
  free_page [] e = refl
  free_page (b ∷ bs) e =
      let s = both (all (λ k. is_signed k.bytes) b.directives) (all_signed bs) e in
      rw (
        count_append is_free (built_in_back as_directives (leading_lines b)) (remarks_back as_directives c b),
        free_count_lem c b s.0,
        header_free (those is_leading (directives_of b)),
        next_boards is_free free_count (free_count_lem c) bs s.1,
      )

-- What the remarks of a text are tells how many there are.
same_counts : (c d : Conventions) (text : List ℕ) (bs : List PlainBoard) → RemarksRead c d text bs → all_signed bs ≡ true → SameCounts d text bs
same_counts c d text bs x e =
    record {
      tied_kept = counted is_tied (λ k. not (is_leading k)) (λ k. refl) ∙ tied_page c bs e;
      free_kept = counted is_free is_leading (λ k. refl) ∙ free_page c bs e;
    }
  where
    counted : (q : Option TagPair → Bool) (s : Anchored → Bool) → ((k : Anchored) → s k ≡ q k.anchor)
        → map (λ r. length (those s (directives_of (plain_of d r)))) (records_of text) ≡ map (count_back q) (page_back as_directives c bs)
    counted q s h =
        map_congr_left
        {f = λ r. length (those s (directives_of (plain_of d r)))}
        {g = λ r. count_back q (map anchored_bytes (directives_of (plain_of d r)))}
        {l = records_of text}
        (λ r m. count_read q s h (directives_of (plain_of d r)))
        ∙ (sym (map-map (count_back q) (λ r. map anchored_bytes (directives_of (plain_of d r))) (records_of text)) ∙ ap (map (count_back q)) x.directives)

-- THEOREM. Saving does not multiply directives.
pub saved_twice : SavedTwice
saved_twice =
    record {
      written = λ c d ok text e. same_counts c d (written_text c text) (plain_boards c text) (edition_remarks c d ok text) e;
      finished = λ c d ok old new answers e.
          same_counts c d (finished_text c old new answers) (finished_boards c old new answers) (finished_remarks c d ok old new answers) e;
    }
