-- Each directive and each block has the number of tags before it, so that no plain board has an anchor past its tags.
use Rattle.std.specs.Prelude.{Some}
use Rattle.std.specs.Prelude.{Option}
use Rattle.reader.specs.Boards.{block_of}
use Rattle.std.specs.Prelude.{None}
use Rattle.reader.specs.Sections.{kind_of}
use Prim.Native.Nat.{ℕ, zero, suc, ◌+◌, ◌-◌, ◌≤◌}
use mathlib.Core.Path.{◌≡◌, refl, sym, ap, ◌∙◌}
use mathlib.Core.Bool.{Bool, true, false, cond, ◌||◌}
use mathlib.Core.List.{List, [], ◌∷◌, ◌++◌, map}
use mathlib.Core.Option.{some}
use native.Mathlib.Nat.{add-zero}
use native.Mathlib.Omega.{arith}
use lib.Dec.{eqb}
use lib.ListN.{length, take}
use borrow.Author.Tests.{eqb-true}
use Rattle.tables.specs.declared.letters.Conventions.{Conventions}
use Rattle.tables.specs.Text.{lead}
use Rattle.tables.proofs.Laws.{by_cases, either, clash}
use Rattle.reader.specs.declared.store.Entry.{Entry}
use Rattle.reader.specs.declared.tag.Span.{Span}
use Rattle.reader.specs.declared.tag.Tag.{Tag as TagPlaces}
use Rattle.reader.specs.declared.line.TagReading.{TagReading}
use Rattle.reader.specs.declared.line.TagReading.TheVariants.{Plain, WithComment, WithData}
use Rattle.reader.specs.declared.board.State.{State}
use Rattle.reader.specs.Lines.{last_brace}
use Rattle.reader.specs.Pieces.{Out, and_then, entry}
use Rattle.reader.specs.Boards.{closed, no_span, at, tagged, adding, directed, data_added, read_by, with_commentary, is_all_white, blocked, no_state, record_out}
use Rattle.reader.specs.Plain.{Item, bytes_of, item_of, items_of, Remark, PlainAuction, tags_in, remarks_in, block_value, plain_auction, plain_by, plain_of, tag_one, tag_count, Marked, AnchoredEntries, free, next}
use Rattle.reader.proofs.EntryLaws.{All, none, one, all_map}
use Rattle.reader.proofs.PlainLaws.{force_is}
use Rattle.reader.proofs.PlainSteps.{Late, closed_late, closed_keeps, HoldsOfRecord}

-- ---- entries in a row

anchored_append : {n m : ℕ} {es fs : List Entry} → AnchoredEntries n es → m ≡ n + tag_count es → AnchoredEntries m fs → AnchoredEntries n (es ++ fs)
anchored_append {n = n} free e b = rw (e ∙ add-zero n) at b
anchored_append {n = n} {m = m} (next {e = x} {es = es} k a) e b = next k (anchored_append a (count_next n m x es e) b)
  where
    count_next : (n m : ℕ) (x : Entry) (es : List Entry) → m ≡ n + (tag_one x + tag_count es) → m ≡ n + tag_one x + tag_count es
    count_next n m x es e = omega arith

pub count_append : (es fs : List Entry) → tag_count (es ++ fs) ≡ tag_count es + tag_count fs
count_append [] fs = omega arith
count_append (e ∷ es) fs = omega (arith, count_append es fs)

-- ---- sections

late_marked : (n : ℕ) (e : Entry) → Late e → Marked n e
late_marked n e l =
    record {
      marked = λ t.
          either (eqb e.kind 3) (eqb e.kind 4) t
          (λ u. omega (arith, l.late, eqb-true e.kind 3 u))
          (λ u. omega (arith, l.late, eqb-true e.kind 4 u));
    }

late_none : (e : Entry) → Late e → tag_one e ≡ 0
late_none e l = by_cases (eqb e.kind 1) (λ t. omega (arith, l.late, eqb-true e.kind 1 t)) (λ t. rw t)

late_count : {es : List Entry} → All Late es → tag_count es ≡ 0
late_count none = refl
late_count (one {x = e} {xs = es} l a) = omega (arith, late_none e l, late_count a)

late_anchored : (n : ℕ) {es : List Entry} → All Late es → AnchoredEntries n es
late_anchored n none = free
late_anchored n (one {x = e} {xs = es} l a) = next (late_marked n e l) (late_anchored (n + tag_one e) a)

-- ---- one line

-- A step's directives and blocks have the number of tags before them, and the state counts its tags.
record Counted (s : State) (o : Out State) : Type 0 where
  anchored : AnchoredEntries s.tags o.entries
  counted : o.state.tags ≡ s.tags + tag_count o.entries

then_counted : (s : State) (o p : Out State) → Counted s o → Counted o.state p → Counted s (and_then o p)
then_counted s o p a b =
    record {
      anchored = anchored_append a.anchored a.counted b.anchored;
      counted = rw count_append (omega (arith, a.counted, b.counted));
    }

closed_counted : (c : Conventions) (r : List ℕ) (s : State) → Counted s (closed c r s)
closed_counted c r s =
    let l = closed_late c r s in
    record { anchored = late_anchored s.tags l; counted = omega (arith, (closed_keeps c r s).tags_kept, late_count l) }

tagged_counted : (c : Conventions) (s : State) (p : ℕ) (l : List ℕ) (q : ℕ) (t : TagPlaces) (split : Option Span) → Counted s (tagged c s p l q t split)
unfolding tagged
tagged_counted c s p l q t split =
    record {
      anchored = next (record { marked = λ u. clash u }) (next (record { marked = λ u. clash u }) free);
      counted = refl;
    }

directed_counted : (s : State) (p : ℕ) (d : Span) → Counted s (directed s p d)
directed_counted s p d = record { anchored = next (record { marked = λ u. refl }) free; counted = sym (add-zero s.tags) }

-- No entry, or one that is no tag's name and says the tags before it where it is a directive or a block.
maybe_counted : (s s' : State) (b : Bool) (e : Entry) → s'.tags ≡ s.tags → Marked s.tags e → tag_one e ≡ 0 → Counted s (adding s' (cond b [] (e ∷ [])))
maybe_counted s s' true e h m z = record { anchored = free; counted = omega (arith, h) }
maybe_counted s s' false e h m z = record { anchored = next m free; counted = omega (arith, h, z) }

data_counted : (s : State) (p : ℕ) (d : Span) → Counted s (data_added s p d)
data_counted s p d = maybe_counted s s (eqb (kind_of s.section) 0) (entry 5 (p + d.start) d.len (kind_of s.section)) refl (record { marked = λ u. clash u }) refl

reading_counted : (c : Conventions) (s : State) (p : ℕ) (l : List ℕ) (q : ℕ) (t : TagReading) → Counted s (read_by c s p l q t)
reading_counted c s p l q (Plain t) = tagged_counted c s p l q t no_span
reading_counted c s p l q (WithComment t d) =
    let o = tagged c s p l q t no_span in
    then_counted s o (directed o.state p d) (tagged_counted c s p l q t no_span) (directed_counted o.state p d)
reading_counted c s p l q (WithData t d) =
    let o = tagged c s p l q t (Some (at p d)) in
    then_counted s o (data_added o.state p d) (tagged_counted c s p l q t (Some (at p d))) (data_counted o.state p d)

blocked_counted : (r : List ℕ) (s : State) (i j : ℕ) → Counted s (blocked r s i j)
unfolding blocked
blocked_counted r s i j = maybe_counted s (with_commentary s None) (is_all_white r i j) (entry 4 i (j - i) s.tags) refl (record { marked = λ u. refl }) refl

-- ---- a record

record_counted : (c : Conventions) (r : List ℕ) → Counted no_state (record_out c r)
record_counted c r =
    HoldsOfRecord c r (λ p s q o. Counted s o)
    record {
      together = λ p q z s o k a b. then_counted s o k a b;
      closing = λ p s. closed_counted c r s;
      idle = λ p s l i n. record { anchored = free; counted = sym (add-zero s.tags) };
      quiet = λ p s l i n k. record { anchored = free; counted = sym (add-zero s.tags) };
      opening = λ p s l i n k b. record { anchored = free; counted = sym (add-zero s.tags) };
      bracing = λ p s l i n k b. blocked_counted r s (p + length (lead l) + 1) (p + last_brace l);
      commentary = λ p s l i n k. blocked_counted r s (block_of s) (p + last_brace l);
      directing = λ p s l d i n k. directed_counted s p d;
      dating = λ p s l d i n k. data_counted s p d;
      tagging = λ p s l t i k. reading_counted c s p l (p + length l) t;
    }

-- THEOREM. Each directive and each block of a record has the number of the record's tags before it.
pub TagsBefore : (c : Conventions) (r : List ℕ) → AnchoredEntries 0 (record_out c r).entries
TagsBefore c r = (record_counted c r).anchored

-- The state counts the tags.
pub TagsCounted : (c : Conventions) (r : List ℕ) → (record_out c r).state.tags ≡ tag_count (record_out c r).entries
TagsCounted c r = omega (arith, (record_counted c r).counted)

-- ---- the plain board

items_tags : (r : List ℕ) (es : List Entry) → length (tags_in (items_of r es)) ≡ tag_count es
unfolding item_of
items_tags r [] = refl
items_tags r (e ∷ es) = by_cases (eqb e.kind 1) (λ t. rw t (omega (arith, items_tags r es))) (λ t. rw t (omega (arith, items_tags r es)))

-- A plain board has as many tags as the record.
pub PlainTags : (c : Conventions) (r : List ℕ) → length (plain_of c r).tags ≡ (record_out c r).state.tags
unfolding plain_of plain_by
PlainTags c r = items_tags r (record_out c r).entries ∙ sym (TagsCounted c r)

-- At most n tags stand before it.
pub record Reached (n : ℕ) (k : Remark) : Type 0 where
  pub reached : k.before ≤ n

remarks_reached : (r : List ℕ) (k n : ℕ) {es : List Entry} → (eqb k 3 || eqb k 4) ≡ true → AnchoredEntries n es → All (Reached (n + tag_count es)) (remarks_in k (items_of r es))
unfolding item_of
remarks_reached r k n h free = none
remarks_reached r k n h (next {e = e} {es = es} m a) =
    let i = all_map (λ x j. further x j) (remarks_reached r k (n + tag_one e) h a) in
    by_cases (eqb e.kind k)
    (λ t.
    let z = m.marked (ap (λ (j : ℕ). eqb j 3 || eqb j 4) (eqb-true e.kind k t) ∙ h) in
    rw t (one {x = record { bytes = bytes_of r e; before = e.z }} (record { reached = omega (arith, z) }) i))
    (λ t. rw t i)
  where
    further : (x : Remark) → Reached (n + tag_one e + tag_count es) x → Reached (n + (tag_one e + tag_count es)) x
    further x j = record { reached = omega (arith, j.reached) }

blocks_reached : (n : ℕ) {ks : List Remark} → All (Reached n) ks → All (Reached n) (map block_value ks)
blocks_reached n none = none
blocks_reached n (one {x = k} j a) = one (record { reached = j.reached }) (blocks_reached n a)

-- THEOREM. No directive and no block of a plain board has more tags before it than there are.
pub record Anchors (n : ℕ) (directives blocks : List Remark) : Type 0 where
  pub directives_reached : All (Reached n) directives
  pub blocks_are_reached : All (Reached n) blocks

pub PlainAnchors : (c : Conventions) (r : List ℕ) → Anchors (length (plain_of c r).tags) (plain_of c r).directives (plain_of c r).blocks
unfolding plain_of plain_by
PlainAnchors c r =
    let es = (record_out c r).entries in
    let n : 0 + tag_count es ≡ length (tags_in (items_of r es)) = omega (arith, items_tags r es) in
    record {
      directives_reached = rw n at (remarks_reached r 3 0 refl (TagsBefore c r));
      blocks_are_reached = blocks_reached (length (tags_in (items_of r es))) (rw n at (remarks_reached r 4 0 refl (TagsBefore c r)));
    }

-- The tags before a part of the entries are among all.
tags_before : (n : ℕ) (is : List Item) → length (tags_in (take n is)) ≤ length (tags_in is)
tags_before zero is = omega arith
tags_before (suc n) [] = omega arith
tags_before (suc n) (i ∷ is) = by_cases (eqb i.kind 1) (λ t. rw t (omega (arith, tags_before n is))) (λ t. rw t (tags_before n is))

-- THEOREM. The auction of a plain board stands behind some of the board's tags.
pub PlainAuctionPlaced : (c : Conventions) (r : List ℕ) (a : PlainAuction) → (plain_of c r).auction ≡ some a → a.before ≤ length (plain_of c r).tags
unfolding plain_of plain_by
PlainAuctionPlaced c r a e =
    let b = (record_out c r).state.board in
    let is = items_of r (record_out c r).entries in
    let f = ap (λ (x : PlainAuction). x.before) (force_is b.auction (plain_auction b.auction is) a e) in
    omega (arith, f, tags_before (b.auction.first - 1) is)
