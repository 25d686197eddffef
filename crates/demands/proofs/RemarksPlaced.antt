-- Where remarks stand among the lines of a board.
use Prim.Native.Nat.{ℕ, zero, suc, ◌+◌, ◌≤◌, ◌<◌}
use mathlib.Core.Path.{◌≡◌, refl, sym, ap, subst, ◌∙◌}
use mathlib.Core.Bool.{Bool, true, false, not}
use mathlib.Core.List.{List, [], ◌∷◌, ◌++◌, map, append-nil, append_assoc}
use mathlib.Core.Option.{Option, none, some}
use native.Mathlib.Nat.{add-zero}
use native.Mathlib.Omega.{arith}
use lib.Dec.{eqb, ltb}
use lib.ListN.{length, take, get_elem?}
use borrow.Author.Tests.{eqb-true, ne_eqb, lt-ltb, not-true}
use Rattle.tables.proofs.Laws.{by_cases, both, clash}
use Rattle.reader.specs.Words.{same}
use Rattle.reader.specs.Plain.{TagPair, Remark, PlainBoard}
use Rattle.reader.proofs.WordLaws.{same_self, same_is}
use Rattle.reader.proofs.EntryLaws.{All, none as no_more, one, all_map}
use Rattle.reader.proofs.PlainAnchors.{Reached}
use Rattle.writer.specs.Tags.{WrittenTag}
use Rattle.writer.specs.Remarks.{Anchored, anchor_of, anchored_from, those, is_leading, same_name, is_under, wrote, unwritten, tag_unwritten, of_name, of_name_and_value, place_of, goes_to, goes_after, WrittenLine, tag_line, data_line, directive_line, block_line, tags_lines}
use Rattle.writer.proofs.NamesOnce.{once, wrote_times}
use Rattle.writer.proofs.PlaceLaws.{meets, meets_name, goes_at, place_end}
use Rattle.demands.specs.NothingLost.{Kind, directive, block, remarks_of, last_of, anchor_in, line_of, is_tag, is_tag_of, is_block_line, is_data, is_tag_or_data, times, last_tag, until_tag, Place, above, by_value, by_name, behind, StandsRight, is_unwritten, rank, rank_in}
use Rattle.demands.proofs.LinesWritten.{times_append, remark_lines, TagTest, name_test, exact_test, either_never, times_never, last_append, last_remark, last_data, all_those, directives_under, blocks_under, times_data, soon_none, soon_after, tag_lines, tags_after_lem, last_after_lem, no_directive, on_tag, TagsAre, met_append, met_none, all_lines, all_tags, all_named, leading_none, no_data, Each, ended, next, each_quiet, all_data}

-- ---- anchors

-- The anchor that the writer takes is the last of the tags before a remark.
anchor_last : (ts : List TagPair) (n : ℕ) → n ≤ length ts → anchor_of ts n ≡ last_of (take n ts)
anchor_last ts zero h = refl
anchor_last ts (suc n) h = tag_last ts n h
  where
    tag_last : (ts : List TagPair) (n : ℕ) → suc n ≤ length ts → get_elem? ts n ≡ last_of (take (suc n) ts)
    tag_last [] n h = absurd (omega arith)
    tag_last (t ∷ ts) zero h = refl
    tag_last (t ∷ []) (suc n) h = absurd (omega arith)
    tag_last (t ∷ u ∷ ts) (suc n) h = tag_last (u ∷ ts) n (omega arith)

-- ---- where remarks stand

module _ (b : PlainBoard) (ls : List WrittenLine) where
  stands_front : (kind : Kind) (i : ℕ) (x : List ℕ) (f back : List WrittenLine) (other : Kind) (j : ℕ) (y : List ℕ)
      → StandsRight b ls kind i x f back → StandsRight b ls kind i x (f ++ line_of other j y ∷ []) back
  stands_front kind i x f back other j y s = record { remark = s.remark; met = s.met; unchanged = s.unchanged; place = moved s.place }
    where
      last_kept_lem : {o : Option TagPair} → last_tag f ≡ o → last_tag (f ++ line_of other j y ∷ []) ≡ o
      last_kept_lem h = last_append none f (line_of other j y ∷ []) ∙ (last_remark (last_tag f) other j y ∙ h)

      tags_kept : {p : WrittenLine → Bool} {n : ℕ} → TagTest p → times p f ≡ n → times p (f ++ line_of other j y ∷ []) ≡ n
      tags_kept {p} q h = times_append p f (line_of other j y ∷ []) ∙ rw (q.not_remark other j y, add-zero (times p f)) h

      moved : {a : Option TagPair} → Place ls f back kind a → Place ls (f ++ line_of other j y ∷ []) back kind a
      moved (above h) = above (times_append is_tag_or_data f (line_of other j y ∷ []) ∙ rw (either_never other j y, h))
      moved (by_value {t} k h g d) = by_value k (last_kept_lem h) (tags_kept (exact_test t) g) d
      moved (by_name {t} z h n g d) = by_name z (last_kept_lem h) n (tags_kept (name_test t.name) g) d
      moved (behind h d g) = behind h d g

  stands_back : (kind : Kind) (i : ℕ) (x : List ℕ) (f back : List WrittenLine) (ks : List Anchored)
      → StandsRight b ls kind i x f back → StandsRight b ls kind i x f (remark_lines kind ks ++ back)
  stands_back kind i x f back ks s = record { remark = s.remark; met = s.met; unchanged = s.unchanged; place = moved s.place }
    where
      no_blocks : (kind : Kind) → kind ≡ directive → times is_block_line (remark_lines kind ks) ≡ 0
      no_blocks directive e = times_never is_block_line directive ks (λ j y. refl)
      no_blocks block e = no_directive e

      moved : {a : Option TagPair} → Place ls f back kind a → Place ls f (remark_lines kind ks ++ back) kind a
      moved (above h) = above h
      moved (by_value k h g d) = by_value k h g (soon_after kind ks back d)
      moved (by_name z h n g d) = by_name z h n g (soon_after kind ks back d)
      moved (behind h d g) =
          behind h (omega (arith, times_append is_tag_or_data (remark_lines kind ks) back, times_never is_tag_or_data kind ks (either_never kind), d))
          (λ e. omega (arith, times_append is_block_line (remark_lines kind ks) back, no_blocks kind e, g e))

  -- Of a line that is a remark's.
  abbrev pub Good : List WrittenLine → WrittenLine → List WrittenLine → Type 0
  Good f (tag_line n v) back = Unit {0}
  Good f (data_line d) back = Unit {0}
  Good f (directive_line i x) back = StandsRight b ls directive i x f back
  Good f (block_line i x) back = StandsRight b ls block i x f back

  to_good : (kind : Kind) (i : ℕ) (x : List ℕ) (f back : List WrittenLine) → StandsRight b ls kind i x f back → Good f (line_of kind i x) back
  to_good directive i x f back s = s
  to_good block i x f back s = s

  pub from_good : (kind : Kind) (i : ℕ) (x : List ℕ) (f back : List WrittenLine) → Good f (line_of kind i x) back → StandsRight b ls kind i x f back
  from_good directive i x f back s = s
  from_good block i x f back s = s

  -- An anchored remark is one of the board's.
  pub record Known (kind : Kind) (k : Anchored) : Type 0 where
    pub known : Remark
    pub found : get_elem? (remarks_of kind b) k.number ≡ some known
    pub bytes_are : k.bytes ≡ known.bytes
    pub anchor_is : anchor_in b known ≡ k.anchor

  stands_by : (kind : Kind) (k : Anchored) (f back : List WrittenLine) → Known kind k → Place ls f back kind k.anchor → StandsRight b ls kind k.number k.bytes f back
  stands_by kind k f back h p = record { remark = h.known; met = h.found; unchanged = h.bytes_are; place = rw h.anchor_is p }

  each_remarks : (kind : Kind) (ks : List Anchored) (f ys : List WrittenLine) → All (λ k. StandsRight b ls kind k.number k.bytes f ys) ks
      → Each Good (f ++ remark_lines kind ks) ys → Each Good f (remark_lines kind ks ++ ys)
  each_remarks kind [] f ys a e = rw append-nil at e
  each_remarks kind (k ∷ ks) f ys (one s a) e =
      next (to_good kind k.number k.bytes f (remark_lines kind ks ++ ys) (stands_back kind k.number k.bytes f ys ks s))
      (each_remarks kind ks (f ++ line_of kind k.number k.bytes ∷ []) ys
      (all_map (λ j t. stands_front kind j.number j.bytes f ys kind k.number k.bytes t) a)
      (rw append_assoc e))

  -- A directive stands under the tag to which it goes, a block under the first tag of its anchor's name.
  module _ (earlier : List WrittenTag) (w : WrittenTag) (ws : List WrittenTag) (f back : List WrittenLine)
      (tags : TagsAre ls (earlier ++ w ∷ ws)) (front : TagsAre f (earlier ++ w ∷ []))
      (last : last_tag f ≡ some (record { name = w.name; value = w.value })) (soon : times is_data (until_tag back) ≡ 0) where
    -- The tag w is the first that meets a test.
    first_met : {p : WrittenLine → Bool} → TagTest p → on_tag p w ≡ true → meets (on_tag p) earlier ≡ false → times p f ≡ 1
    first_met {p} q h n = omega (arith, front p q, met_append (on_tag p) earlier (w ∷ []), met_none (on_tag p) earlier n, ap once h)

    directive_under : (a : Option TagPair) → goes_to (earlier ++ w ∷ ws) (length earlier) a ≡ true → Place ls f back directive a
    directive_under none e = clash e
    directive_under (some t) e =
        by_cases (meets (of_name_and_value t) (earlier ++ w ∷ ws))
        (λ m.
        let h = both (of_name_and_value t w) (not (meets (of_name_and_value t) earlier)) (sym (rw m at (goes_at t earlier w ws)) ∙ e) in
        let i = both (of_name t w) (same t.value w.value) h.0 in
        by_value refl
        (last ∙ rw (← same_is t.name w.name i.0, ← same_is t.value w.value i.1))
        (first_met (exact_test t) h.0 (not-true (meets (of_name_and_value t) earlier) h.1))
        soon)
        (λ m.
        let h = both (of_name t w) (not (meets (of_name t) earlier)) (sym (rw m at (goes_at t earlier w ws)) ∙ e) in
        by_name (λ k. tags (is_tag_of t) (exact_test t) ∙ met_none (of_name_and_value t) (earlier ++ w ∷ ws) m) last
        (sym (same_is t.name w.name h.0))
        (first_met (name_test t.name) h.0 (not-true (meets (of_name t) earlier) h.1))
        soon)

    block_under : wrote w.name earlier ≡ false → (a : Option TagPair) → same_name w.name a ≡ true → Place ls f back block a
    block_under n none e = clash e
    block_under n (some t) e =
        let q = same_is w.name t.name e in
        by_name (λ k. no_directive k) last q
        (first_met (name_test t.name) (rw q (same_self t.name)) (meets_name t earlier ∙ rw q at n))
        soon

    blocks_placed : (ks : List Anchored) → All (Known block) ks → All (λ k. StandsRight b ls block k.number k.bytes f back) (blocks_under ks earlier w)
    blocks_placed ks hk =
        by_cases (wrote w.name earlier)
        (λ x. rw x no_more)
        (λ x. rw x (all_those (is_under w.name) (λ k o u. stands_by block k f back o (block_under x k.anchor u)) hk))

    directives_placed : (ds : List Anchored) → All (Known directive) ds → All (λ k. StandsRight b ls directive k.number k.bytes f back) (directives_under ds earlier w ws)
    directives_placed ds hd = all_those (goes_after (earlier ++ w ∷ ws) (length earlier)) (λ k o u. stands_by directive k f back o (directive_under k.anchor u)) hd

  each_tags : (ds ks : List Anchored) (earlier ws : List WrittenTag) (f ys : List WrittenLine) → All (Known directive) ds → All (Known block) ks
      → TagsAre ls (earlier ++ ws) → TagsAre f earlier → times is_data (until_tag ys) ≡ 0
      → Each Good (f ++ tags_lines ds ks earlier ws) ys → Each Good f (tags_lines ds ks earlier ws ++ ys)
  each_tags ds ks earlier [] f ys hd hk tags t z e = rw append-nil at e
  each_tags ds ks earlier (w ∷ ws) f ys hd hk tags t z e =
      let tag = tag_line w.name w.value in
      let D = map data_line w.lines in
      let under_ds = directives_under ds earlier w ws in
      let under_ks = blocks_under ks earlier w in
      let T = tags_lines ds ks (earlier ++ w ∷ []) ws in
      let g = f ++ tag ∷ [] ++ D in
      let h = g ++ remark_lines directive under_ds in
      let last : last_tag g ≡ some (record { name = w.name; value = w.value }) =
      last_append none (f ++ tag ∷ []) D ∙ (last_data (last_tag (f ++ tag ∷ [])) w.lines ∙ last_append none f (tag ∷ [])) in
      let front : TagsAre g (earlier ++ w ∷ []) =
      λ p q. omega (arith, times_append p (f ++ tag ∷ []) D, times_append p f (tag ∷ []), times_data p w.lines q.not_data, t p q, met_append (on_tag p) earlier (w ∷ [])) in
      let front_h : TagsAre h (earlier ++ w ∷ []) = tags_after_lem g directive under_ds (earlier ++ w ∷ []) front in
      let soon = soon_none ds ks (earlier ++ w ∷ []) ws ys z in
      let back = remark_lines block under_ks ++ (T ++ ys) in
      let directives_stand = directives_placed earlier w ws g back tags front last (soon_after block under_ks (T ++ ys) soon) ds hd in
      let blocks_stand = blocks_placed earlier w ws h (T ++ ys) tags front_h (last_after_lem g directive under_ds ∙ last) soon ks hk in
      subst (λ (X : List WrittenLine). Each Good f (X ++ ys)) (sym (tag_lines ds ks earlier ws w))
      (simp append_assoc
      (next tt
      (each_quiet (f ++ tag ∷ []) (remark_lines directive under_ds ++ back) (all_data w.lines (λ k g back. tt))
      (each_remarks directive under_ds g back directives_stand
      (each_remarks block under_ks h (T ++ ys) blocks_stand
      (each_tags ds ks (earlier ++ w ∷ []) ws (h ++ remark_lines block under_ks) ys hd hk
      (rw append_assoc tags)
      (tags_after_lem h block under_ks (earlier ++ w ∷ []) front_h)
      z
      (simp append_assoc (subst (λ (X : List WrittenLine). Each Good (f ++ X) ys) (tag_lines ds ks earlier ws w) e))))))))

  -- ---- the whole board

  -- Anchored to a tag that is not written.
  lost_behind : (ds ks : List Anchored) (ws : List WrittenTag) (kind : Kind) (k : Anchored) (f back : List WrittenLine) → ls ≡ all_lines ds ks ws
      → tag_unwritten ws k ≡ true → times is_tag_or_data back ≡ 0 → (kind ≡ directive → times is_block_line back ≡ 0) → Place ls f back kind k.anchor
  lost_behind ds ks ws kind k f back q e z y = by_anchor k.anchor e
    where
      by_anchor : (a : Option TagPair) → unwritten ws a ≡ true → Place ls f back kind a
      by_anchor none e = clash e
      by_anchor (some t) e =
          behind
          (ap (times (is_tag t.name)) q
          ∙ (all_tags ds ks ws (is_tag t.name) (name_test t.name) ∙ met_none (of_name t) ws (meets_name t ws ∙ not-true (wrote t.name ws) e)))
          z y

  pub each_all : (ds ks : List Anchored) (ws : List WrittenTag) → All (Known directive) ds → All (Known block) ks → ls ≡ all_lines ds ks ws → Each Good [] (all_lines ds ks ws)
  each_all ds ks ws hd hk q =
      let A = remark_lines directive (those is_leading ds) in
      let B = remark_lines block (those is_leading ks) in
      let T = tags_lines ds ks [] ws in
      let Y = remark_lines block (those (tag_unwritten ws) ks) in
      let Z = remark_lines directive (those (tag_unwritten ws) ds) in
      let none_Z = times_never is_tag_or_data directive (those (tag_unwritten ws) ds) (either_never directive) in
      let soon = no_data (those (tag_unwritten ws) ks) (those (tag_unwritten ws) ds) in
      each_remarks directive (those is_leading ds) [] (B ++ (T ++ (Y ++ Z)))
      (all_those is_leading (λ k o u. stands_by directive k [] (B ++ (T ++ (Y ++ Z))) o (rw (leading_none k u) (above refl))) hd)
      (each_remarks block (those is_leading ks) A (T ++ (Y ++ Z))
      (all_those is_leading (λ k o u. stands_by block k A (T ++ (Y ++ Z)) o (rw (leading_none k u) (above (times_never is_tag_or_data directive (those is_leading ds) (either_never directive))))) hk)
      (each_tags ds ks [] ws (A ++ B) (Y ++ Z) hd hk
      (rw q (all_tags ds ks ws))
      (tags_after_lem A block (those is_leading ks) [] (λ p t. times_never p directive (those is_leading ds) (t.not_remark directive)))
      soon
      (each_remarks block (those (tag_unwritten ws) ks) (A ++ B ++ T) Z
      (all_those (tag_unwritten ws) (λ k o u. stands_by block k (A ++ B ++ T) Z o (lost_behind ds ks ws block k (A ++ B ++ T) Z q u none_Z (λ x. no_directive x))) hk)
      (subst (λ (X : List WrittenLine). Each Good (A ++ B ++ T ++ Y) X) (append-nil Z)
      (each_remarks directive (those (tag_unwritten ws) ds) (A ++ B ++ T ++ Y) []
      (all_those (tag_unwritten ws) (λ k o u. stands_by directive k (A ++ B ++ T ++ Y) [] o (lost_behind ds ks ws directive k (A ++ B ++ T ++ Y) [] q u refl (λ x. refl))) hd)
      ended)))))

  -- The remarks of the board, numbered.
  pub all_known : (kind : Kind) (i : ℕ) {rs : List Remark} → ((m : ℕ) → get_elem? (remarks_of kind b) (i + m) ≡ get_elem? rs m) → All (Reached (length b.tags)) rs
      → All (Known kind) (anchored_from b.tags i rs)
  all_known kind i h no_more = no_more
  all_known kind i h (one {x = k} {xs = ks} r a) =
      one
      (record { known = k; found = rw add-zero at (h 0); bytes_are = refl; anchor_is = sym (anchor_last b.tags k.before r.reached) })
      (all_known kind (i + 1) (λ m. rw (one_more i m) at (h (suc m))) a)
    where
      one_more : (i m : ℕ) → i + suc m ≡ i + 1 + m
      one_more i m = omega arith

  -- ---- ranks

  zero_test : (t : ℕ) → eqb t 0 ≡ not (ltb 0 t)
  zero_test zero = refl
  zero_test (suc t) = ne_eqb (suc t) 0 (λ e. omega arith) ∙ rw (lt-ltb 0 (suc t) (omega arith))

  module _ (ds ks : List Anchored) (ws : List WrittenTag) (q : ls ≡ all_lines ds ks ws) where
    unwritten_is : (a : Option TagPair) → is_unwritten ls a ≡ unwritten ws a
    unwritten_is none = refl
    unwritten_is (some t) = rw (q, all_named t.name ds ks ws, zero_test, ← wrote_times t.name ws)

    rank_is : (kind : Kind) (k : Anchored) → Known kind k → rank_in b ls kind k.number ≡ rank kind (tag_unwritten ws k)
    rank_is kind k h = rw (h.found, h.anchor_is, unwritten_is k.anchor)

    -- The rank of those that meet a test, and so are lost or not.
    pub those_ranked : (kind : Kind) (t : Anchored → Bool) (lost : Bool) {ks : List Anchored} → ((k : Anchored) → t k ≡ true → tag_unwritten ws k ≡ lost)
        → All (Known kind) ks → All (λ k. rank_in b ls kind k.number ≡ rank kind lost) (those t ks)
    those_ranked kind t lost h a = all_those t (λ k o u. rank_is kind k o ∙ ap (rank kind) (h k u)) a

    pub leading_kept : (k : Anchored) → is_leading k ≡ true → tag_unwritten ws k ≡ false
    leading_kept k u = rw (leading_none k u)

    pub under_kept : (n : List ℕ) → wrote n ws ≡ true → (k : Anchored) → is_under n k ≡ true → tag_unwritten ws k ≡ false
    under_kept n t k u = by_anchor k.anchor u
      where
        by_anchor : (a : Option TagPair) → same_name n a ≡ true → unwritten ws a ≡ false
        by_anchor none e = clash e
        by_anchor (some u) e = rw (← same_is n u.name e, t)

    pub placed_kept : (i : ℕ) → i < length ws → (k : Anchored) → goes_after ws i k ≡ true → tag_unwritten ws k ≡ false
    placed_kept i h k u = by_anchor k.anchor u
      where
        by_anchor : (a : Option TagPair) → goes_to ws i a ≡ true → unwritten ws a ≡ false
        by_anchor none e = clash e
        by_anchor (some t) e = sym (place_end ws t) ∙ ne_eqb (place_of ws t) (length ws) (λ x. omega (arith, eqb-true (place_of ws t) i e))
