-- How large a plain board is: its tags, directives and blocks have at most three times the bytes of its record, and its tags, calls and
-- tricks are at most four for each byte.
use Rattle.std.specs.Prelude.{Option}
use Rattle.reader.specs.Boards.{in_block, block_of}
use Rattle.std.specs.Prelude.{Some}
use Rattle.reader.specs.Sections.{kind_of}
use Prim.Native.Nat.{ℕ, ◌+◌, ◌-◌, ◌*◌, ◌≤◌}
use mathlib.Core.Path.{◌≡◌, refl, sym, ap, ◌∙◌}
use mathlib.Core.Bool.{Bool, true, false, cond, ◌&&◌}
use mathlib.Core.List.{List, [], ◌∷◌, ◌++◌, map}
use mathlib.Core.Option.{some}
use native.Mathlib.Omega.{arith}
use lib.Dec.{leb, eqb}
use lib.ListN.{length, length-append, length-map, length-take, length-drop}
use borrow.Author.Tests.{eqb-true, ne_eqb, eq-eqb, lt-leb, le-leb}
use Rattle.tables.specs.declared.letters.Conventions.{Conventions}
use Rattle.tables.specs.Text.{lead}
use Rattle.tables.proofs.Laws.{by_cases}
use Rattle.reader.specs.declared.store.Entry.{Entry}
use Rattle.reader.specs.declared.tag.Span.{Span}
use Rattle.reader.specs.declared.tag.Tag.{Tag as TagPlaces}
use Rattle.reader.specs.declared.line.Line.{Line}
use Rattle.reader.specs.declared.line.Line.TheVariants.{Directive, Tag as TagOn}
use Rattle.reader.specs.declared.line.TagReading.{TagReading}
use Rattle.reader.specs.declared.line.TagReading.TheVariants.{Plain, WithComment, WithData}
use Rattle.reader.specs.declared.board.Section.{Section}
use Rattle.reader.specs.declared.board.State.{State}
use Rattle.reader.specs.Lines.{last_brace, line_kind}
use Rattle.reader.specs.LineSteps.{LinePlaced, ReadingPlaced}
use Rattle.reader.specs.Tag.{cut}
use Rattle.reader.specs.TagSteps.{TagInside}
use Rattle.reader.specs.Pieces.{Out, entry}
use Rattle.reader.specs.Boards.{closed, no_span, at, tagged, directed, data_added, read_by, with_commentary, blocked, is_all_white, no_state, record_out}
use Rattle.reader.specs.Plain.{Item, item_of, items_of, bytes_of, TagPair, Remark, tags_in, remarks_in, starts_line, without_returns, block_value, calls_in, tricks_in, items_within, PlainAuction, PlainPlay, PlainBoard, plain_auction, plain_play, plain_by, plain_of}
use Rattle.reader.proofs.EntryLaws.{sum_of, sum_append, All, none, one}
use Rattle.reader.proofs.Tags.{trim_whole}
use Rattle.reader.proofs.Inside.{LineInside}
use Rattle.reader.proofs.Counts.{chosen, cut_len, EntriesFew}
use Rattle.reader.proofs.PlainSteps.{Late, closed_late, closed_keeps, HoldsOfRecord}
use Rattle.reader.proofs.PlainTags.{Paired, over, tag, other, TagsPaired}
use Rattle.reader.proofs.PlainLaws.{force_is}
use Rattle.reader.proofs.LineLaws.{brace_inside}

-- ---- bytes

-- The bytes of the names, values, directives and blocks among entries.
abbrev pub size_one : Entry → ℕ
size_one e = cond (leb e.kind 4) e.y 0

abbrev pub size_in : List Entry → ℕ
size_in es = sum_of size_one es

size_append : (es fs : List Entry) → size_in (es ++ fs) ≡ size_in es + size_in fs
size_append = sum_append size_one

size_late : {es : List Entry} → All Late es → size_in es ≡ 0
size_late none = refl
size_late (one {x = e} l a) = rw (lt-leb e.kind 4 (omega (arith, l.late))) (omega (arith, size_late a))

-- What was read up to the place p: all, or all up to an open block.
abbrev done : State → ℕ → ℕ
done s p = cond (in_block s) (block_of s - 1) p

-- A step from s at p to o at q: an open block starts at the next byte at the latest; three times the bytes read are enough.
record Sized (p : ℕ) (s : State) (q : ℕ) (o : Out State) : Type 0 where
  fits : done s p ≤ p → size_in o.entries + 3 * done s p ≤ 3 * done o.state q
  next : done s p ≤ p → done o.state q ≤ q

lead_inside : (l : List ℕ) → length (lead l) ≤ length l
lead_inside l = omega (arith, simp length-append at (ap length (trim_whole l)))

closed_sized : (c : Conventions) (r : List ℕ) (p : ℕ) (s : State) → Sized p s p (closed c r s)
closed_sized c r p s =
    let k = closed_keeps c r s in
    let e : done (closed c r s).state p ≡ done s p = ap (λ (b : Bool). cond b (block_of (closed c r s).state - 1) p) k.commentary_kept ∙ ap (λ (x : ℕ). cond (in_block s) (x - 1) p) k.block_kept in
    record { fits = λ h. omega (arith, e, size_late (closed_late c r s)); next = λ h. omega (arith, e) }

idle_sized : (p n : ℕ) (s : State) → Sized p s (p + n) (record { state = s; entries = [] })
idle_sized p n s =
    by_cases (in_block s)
    (λ e. let a = on (block_of s - 1) p e in let b = on (block_of s - 1) (p + n) e in record { fits = λ h. omega arith; next = λ h. omega arith })
    (λ e. let a = off (block_of s - 1) p e in let b = off (block_of s - 1) (p + n) e in record { fits = λ h. omega arith; next = λ h. omega arith })
  where
    on : (x y : ℕ) → in_block s ≡ true → cond (in_block s) x y ≡ x
    on x y e = ap (λ (b : Bool). cond b x y) e

    off : (x y : ℕ) → in_block s ≡ false → cond (in_block s) x y ≡ y
    off x y e = ap (λ (b : Bool). cond b x y) e

-- Entries of at most three times n bytes on a line of n bytes, after which no block is open.
flat_sized : (p n : ℕ) (s : State) (o : Out State) → in_block o.state ≡ false → size_in o.entries ≤ 3 * n → Sized p s (p + n) o
flat_sized p n s o e h =
    let a : done o.state (p + n) ≡ p + n = ap (λ (b : Bool). cond b (block_of o.state - 1) (p + n)) e in
    record { fits = λ i. omega arith; next = λ i. omega arith }

size_maybe : (b : Bool) (e : Entry) (n : ℕ) → e.y ≤ n → size_in (cond b [] (e ∷ [])) ≤ n
size_maybe true e n h = omega arith
size_maybe false e n h = chosen (λ x. x + 0 ≤ n) (leb e.kind 4) e.y 0 (λ t. omega arith) (λ t. omega arith)

pub blocked_commentary : (r : List ℕ) (s : State) (i j : ℕ) → in_block (blocked r s i j).state ≡ false
unfolding blocked
blocked_commentary r s i j = refl

blocked_size : (r : List ℕ) (s : State) (i j : ℕ) → size_in (blocked r s i j).entries ≤ j - i
unfolding blocked
blocked_size r s i j = size_maybe (is_all_white r i j) (entry 4 i (j - i) s.tags) (j - i) (omega arith)

bracing_sized : (r : List ℕ) (p : ℕ) (s : State) (l : List ℕ) → Sized p s (p + length l) (blocked r s (p + length (lead l) + 1) (p + last_brace l))
bracing_sized r p s l =
    let i = p + length (lead l) + 1 in
    let j = p + last_brace l in
    flat_sized p (length l) s (blocked r s i j) (blocked_commentary r s i j) (omega (arith, blocked_size r s i j, brace_inside l))

commentary_sized : (r : List ℕ) (p : ℕ) (s : State) (l : List ℕ) → in_block s ≡ true → Sized p s (p + length l) (blocked r s (block_of s) (p + last_brace l))
commentary_sized r p s l e =
    let j = p + last_brace l in
    let o = blocked r s (block_of s) j in
    let a : done o.state (p + length l) ≡ p + length l = ap (λ (b : Bool). cond b (block_of o.state - 1) (p + length l)) (blocked_commentary r s (block_of s) j) in
    let b : done s p ≡ block_of s - 1 = ap (λ (b : Bool). cond b (block_of s - 1) p) e in
    record { fits = λ i. omega (arith, blocked_size r s (block_of s) j, brace_inside l); next = λ i. omega arith }

opening_sized : (p : ℕ) (s : State) (l : List ℕ) → Sized p s (p + length l) (record { state = with_commentary s (Some (p + length (lead l) + 1)); entries = [] })
opening_sized p s l = record { fits = λ i. omega arith; next = λ i. omega (arith, lead_inside l) }

data_size_lem : (s : State) (p : ℕ) (d : Span) → size_in (data_added s p d).entries ≡ 0
data_size_lem s p d = chosen (λ es. size_in es ≡ 0) (eqb (kind_of s.section) 0) [] (entry 5 (p + d.start) d.len (kind_of s.section) ∷ []) (λ e. refl) (λ e. refl)

tagged_size : (c : Conventions) (s : State) (p : ℕ) (l : List ℕ) (q n : ℕ) (t : TagPlaces) (split : Option Span) → TagInside t n → size_in (tagged c s p l q t split).entries ≤ 2 * n
unfolding tagged
tagged_size c s p l q n t split i = omega (arith, i.name_inside, i.value_inside)

pub tagged_commentary : (c : Conventions) (s : State) (p : ℕ) (l : List ℕ) (q : ℕ) (t : TagPlaces) (split : Option Span) → in_block (tagged c s p l q t split).state ≡ false
unfolding tagged
tagged_commentary c s p l q t split = refl

reading_sized : (c : Conventions) (p : ℕ) (s : State) (l : List ℕ) (q : ℕ) (t : TagReading) → ReadingPlaced t (length l) → Sized p s (p + length l) (read_by c s p l q t)
reading_sized c p s l q (Plain t) i =
    flat_sized p (length l) s (tagged c s p l q t no_span) (tagged_commentary c s p l q t no_span) (omega (arith, tagged_size c s p l q (length l) t no_span i))
reading_sized c p s l q (WithComment t d) i =
    let o = tagged c s p l q t no_span in
    flat_sized p (length l) s (read_by c s p l q (WithComment t d)) (tagged_commentary c s p l q t no_span)
    (rw size_append (omega (arith, tagged_size c s p l q (length l) t no_span i.0, i.1)))
reading_sized c p s l q (WithData t d) i =
    let o = tagged c s p l q t (Some (at p d)) in
    flat_sized p (length l) s (read_by c s p l q (WithData t d)) (tagged_commentary c s p l q t (Some (at p d)))
    (rw size_append (omega (arith, tagged_size c s p l q (length l) t (Some (at p d)) i.0, data_size_lem o.state p d)))

kind_inside : (l : List ℕ) (k : Line) → line_kind l ≡ k → LinePlaced k (length l)
kind_inside l k e = rw e at (LineInside l)

record_sized : (c : Conventions) (r : List ℕ) → Sized 0 no_state (length r) (record_out c r)
record_sized c r =
    HoldsOfRecord c r Sized
    record {
      together = λ p q z s o k a b.
          record {
            fits = λ h. rw size_append (omega (arith, a.fits h, b.fits (a.next h)));
            next = λ h. b.next (a.next h);
          };
      closing = λ p s. closed_sized c r p s;
      idle = λ p s l i n. idle_sized p (length l) s;
      quiet = λ p s l i n k. idle_sized p (length l) s;
      opening = λ p s l i n k b. opening_sized p s l;
      bracing = λ p s l i n k b. bracing_sized r p s l;
      commentary = λ p s l i n k. commentary_sized r p s l n;
      directing = λ p s l d i n k. flat_sized p (length l) s (directed s p d) n (omega (arith, kind_inside l (Directive d) k));
      dating = λ p s l d i n k. flat_sized p (length l) s (data_added s p d) n (omega (arith, data_size_lem s p d));
      tagging = λ p s l t i k. reading_sized c p s l (p + length l) t (kind_inside l (TagOn t) k);
    }

-- THEOREM. The names, values, directives and blocks of a record have at most three times its bytes.
pub SizeFits : (c : Conventions) (r : List ℕ) → size_in (record_out c r).entries ≤ 3 * length r
SizeFits c r = let a = record_sized c r in omega (arith, a.fits (omega arith), a.next (omega arith))

-- ---- the plain board

abbrev pub tags_size : List TagPair → ℕ
tags_size [] = 0
tags_size (t ∷ ts) = length t.name + length t.value + tags_size ts

abbrev pub remarks_size : List Remark → ℕ
remarks_size [] = 0
remarks_size (k ∷ ks) = length k.bytes + remarks_size ks

pub bytes_few : (r : List ℕ) (e : Entry) → length (bytes_of r e) ≤ e.y
bytes_few r e = chosen (λ (l : List ℕ). length l ≤ e.y) (eqb e.kind 8) [] (cut (record { start = e.x; len = e.y }) r) (λ t. omega arith) (λ t. cut_len (record { start = e.x; len = e.y }) r)

pub returns_few : (b : List ℕ) → length (without_returns b) ≤ length b
returns_few [] = omega arith
returns_few (b ∷ bs) = by_cases (eqb b 13 && starts_line bs) (λ e. rw e (omega (arith, returns_few bs))) (λ e. rw e (omega (arith, returns_few bs)))

pub blocks_few : (ks : List Remark) → remarks_size (map block_value ks) ≤ remarks_size ks
blocks_few [] = omega arith
blocks_few (k ∷ ks) = omega (arith, returns_few k.bytes, blocks_few ks)

-- Tags, directives and blocks, as they stand among the items of entries.
abbrev all_size : List Item → ℕ
all_size is = tags_size (tags_in is) + remarks_size (remarks_in 3 is) + remarks_size (remarks_in 4 is)

is_not : (k m n : ℕ) → k ≡ m → (m ≡ n → ⊥) → eqb k n ≡ false
is_not k m n e h = ne_eqb k n (λ u. h (sym e ∙ u))

items_size : (r : List ℕ) {Q : Entry → Entry → Type 0} {es : List Entry} → Paired Q es → all_size (items_of r es) ≤ size_in es
unfolding item_of
items_size r over = omega arith
items_size r (tag {a = a} {b = b} {es = es} x y g p) =
    let la : leb a.kind 4 ≡ true = le-leb a.kind 4 (omega (arith, x)) in
    let lb : leb b.kind 4 ≡ true = le-leb b.kind 4 (omega (arith, y)) in
    rw (
      eq-eqb a.kind 1 x,
      is_not b.kind 2 1 y (λ u. omega arith),
      is_not a.kind 1 3 x (λ u. omega arith),
      is_not b.kind 2 3 y (λ u. omega arith),
      is_not a.kind 1 4 x (λ u. omega arith),
      is_not b.kind 2 4 y (λ u. omega arith),
      la,
      lb,
    )
    (omega (arith, bytes_few r a, bytes_few r b, items_size r p))
items_size r (other {e = e} {es = es} x y p) =
    let i = items_size r p in
    let f = bytes_few r e in
    rw (ne_eqb e.kind 1 x)
    (by_cases (eqb e.kind 3)
    (λ t.
    let k = eqb-true e.kind 3 t in
    rw (t, is_not e.kind 3 4 k (λ u. omega arith), le-leb e.kind 4 (omega (arith, k))) (omega arith))
    (λ t.
    by_cases (eqb e.kind 4)
    (λ u. rw (t, u, le-leb e.kind 4 (omega (arith, eqb-true e.kind 4 u))) (omega arith))
    (λ u. rw (t, u) (omega arith))))

-- THEOREM. The tags, directives and blocks of a plain board have at most three times the bytes of its record.
pub PlainSize : (c : Conventions) (r : List ℕ) → tags_size (plain_of c r).tags + remarks_size (plain_of c r).directives + remarks_size (plain_of c r).blocks ≤ 3 * length r
unfolding plain_of plain_by
PlainSize c r =
    let is = items_of r (record_out c r).entries in
    omega (arith, items_size r (TagsPaired c r), blocks_few (remarks_in 4 is), SizeFits c r)

-- ---- how many

calls_few : (is : List Item) → length (calls_in is) ≤ length is
calls_few [] = omega arith
calls_few (i ∷ is) = by_cases (eqb i.kind 6) (λ t. rw t (omega (arith, calls_few is))) (λ t. rw t (omega (arith, calls_few is)))

tricks_few : (is : List Item) → length (tricks_in is) ≤ length is
tricks_few [] = omega arith
tricks_few (i ∷ is) = by_cases (eqb i.kind 8) (λ t. rw t (omega (arith, tricks_few is))) (λ t. rw t (omega (arith, tricks_few is)))

tags_few : (is : List Item) → length (tags_in is) ≤ length is
tags_few [] = omega arith
tags_few (i ∷ is) = by_cases (eqb i.kind 1) (λ t. rw t (omega (arith, tags_few is))) (λ t. rw t (omega (arith, tags_few is)))

remarks_few : (k : ℕ) (is : List Item) → length (remarks_in k is) ≤ length is
remarks_few k [] = omega arith
remarks_few k (i ∷ is) = by_cases (eqb i.kind k) (λ t. rw t (omega (arith, remarks_few k is))) (λ t. rw t (omega (arith, remarks_few k is)))

within_few : (s : Section) (is : List Item) → length (items_within s is) ≤ length is
within_few s is = rw (length-take, length-drop) (omega arith)

-- THEOREM. A plain board has at most four tags, directives, blocks, calls and tricks, each, for a byte of its record.
pub record Few (n : ℕ) (p : PlainBoard) : Type 0 where
  pub tags_low : length p.tags ≤ n
  pub directives_low : length p.directives ≤ n
  pub blocks_low : length p.blocks ≤ n
  pub calls_low : (a : PlainAuction) → p.auction ≡ some a → length a.calls ≤ n
  pub tricks_low : (a : PlainPlay) → p.play ≡ some a → length a.tricks ≤ n

pub PlainFew : (c : Conventions) (r : List ℕ) → Few (4 * length r) (plain_of c r)
unfolding plain_of plain_by
PlainFew c r =
    let es = (record_out c r).entries in
    let b = (record_out c r).state.board in
    let is = items_of r es in
    let n = EntriesFew c r in
    let m = length-map es (item_of r) in
    record {
      tags_low = omega (arith, tags_few is);
      directives_low = omega (arith, remarks_few 3 is);
      blocks_low = rw length-map (omega (arith, remarks_few 4 is));
      calls_low = λ a e.
          let f = ap (λ (x : PlainAuction). length x.calls) (force_is b.auction (plain_auction b.auction is) a e) in
          omega (arith, f, calls_few (items_within b.auction is), within_few b.auction is);
      tricks_low = λ a e.
          let f = ap (λ (x : PlainPlay). length x.tricks) (force_is b.play (plain_play b.play is) a e) in
          omega (arith, f, tricks_few (items_within b.play is), within_few b.play is);
    }
