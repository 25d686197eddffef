-- The tags of a plain board: each value is the entry behind its name, and every name and value can be written.
use Rattle.std.specs.Prelude.{Option}
use Rattle.reader.specs.Boards.{block_of}
use Rattle.reader.specs.Sections.{kind_of}
use Prim.Native.Nat.{ℕ, ◌+◌, ◌-◌}
use mathlib.Core.Path.{◌≡◌, refl, sym, ap, ◌∙◌}
use mathlib.Core.Bool.{Bool, true, false, cond, ◌&&◌, ◌||◌, not}
use mathlib.Core.List.{List, [], ◌∷◌, ◌++◌}
use native.Mathlib.Omega.{arith}
use lib.Dec.{eqb}
use lib.ListN.{length, drop, get_or}
use borrow.Author.Tests.{eqb-true, ne_eqb, eq-eqb, not-true}
use Rattle.tables.specs.declared.letters.Conventions.{Conventions}
use Rattle.tables.specs.Text.{is_white, lead, keep_end, trim_start, trim_end, trimmed}
use Rattle.tables.specs.Letters.{among}
use Rattle.tables.proofs.Laws.{by_cases, both, clash}
use Rattle.reader.specs.declared.store.Entry.{Entry}
use Rattle.reader.specs.declared.tag.Span.{Span}
use Rattle.reader.specs.declared.tag.Tag.{Tag as TagPlaces}
use Rattle.std.specs.Prelude.{Some, None}
use Rattle.reader.specs.declared.line.Line.TheVariants.{Blank, Brace, Directive, Tag as TagOn, Bracket, Data}
use Rattle.reader.specs.declared.line.TagReading.{TagReading}
use Rattle.reader.specs.declared.line.TagReading.TheVariants.{Plain, WithComment, WithData}
use Rattle.reader.specs.declared.board.State.{State}
use Rattle.reader.specs.Tag.{TagLine, Split, cut, tag_line, split_of}
use Rattle.reader.specs.TagSteps.{TagInside}
use Rattle.reader.specs.TagBytes.{TagBytes, SplitBytes, tag_bytes, split_bytes}
use Rattle.reader.specs.Lines.{is_blank, last_brace, split_as, split_line, bracket_as, bracket_line, kind_by, line_kind}
use Rattle.reader.specs.LineSteps.{tag_in, LinePlaced, ReadingPlaced}
use Rattle.reader.specs.Pieces.{entry, join_line, raw_lines}
use Rattle.reader.specs.Boards.{no_span, at, tagged, data_added, read_by, is_all_white, blocked, record_out}
use Rattle.reader.specs.Plain.{bytes_of, item_of, items_of, TagPair, tags_in, plain_by, plain_of}
use Rattle.reader.proofs.EntryLaws.{All, none, one}
use Rattle.reader.proofs.Tags.{never, some_inj, trimmed_is, TagStands, SplitStands, TagTrimmed, SplitTrimmed}
use Rattle.reader.proofs.TagsBack.{Good, TagsGood}
use Rattle.reader.proofs.Inside.{LineInside}
use Rattle.reader.proofs.SectionLaws.{LineAt}
use Rattle.reader.proofs.PlainLaws.{PartPlaced}
use Rattle.reader.proofs.PlainSteps.{Late, closed_late, HoldsOfRecord}
use Rattle.reader.proofs.TagsBack.{kind_bracket}

-- ---- a line has no LF but at its end

abbrev pub feed_last : List ℕ → Bool
feed_last [] = true
feed_last (b ∷ []) = true
feed_last (b ∷ c ∷ cs) = not (eqb b 10) && feed_last (c ∷ cs)

record FeedLast (l : List ℕ) : Type 0 where
  last_feed : feed_last l ≡ true

feed_more : (b : ℕ) (l : List ℕ) → eqb b 10 ≡ false → feed_last l ≡ true → feed_last (b ∷ l) ≡ true
feed_more b [] n e = refl
feed_more b (c ∷ cs) n e = rw (n, e)

feed_rest : (b : ℕ) (l : List ℕ) → feed_last (b ∷ l) ≡ true → feed_last l ≡ true
feed_rest b [] e = refl
feed_rest b (c ∷ cs) e = (both (not (eqb b 10)) (feed_last (c ∷ cs)) e).1

raw_feed : (s : List ℕ) → All FeedLast (raw_lines s)
raw_feed [] = none
raw_feed (b ∷ bs) = glued (eqb b 10) (raw_lines bs) refl (raw_feed bs)
  where
    glued : (t : Bool) (ls : List (List ℕ)) → eqb b 10 ≡ t → All FeedLast ls → All FeedLast (join_line t b ls)
    glued true ls n a = one {x = b ∷ []} (record { last_feed = refl }) a
    glued false [] n a = one {x = b ∷ []} (record { last_feed = refl }) none
    glued false (l ∷ ls) n (one h a) = one {x = b ∷ l} (record { last_feed = feed_more b l n h.last_feed }) a

pub line_feed : (r : List ℕ) (p : ℕ) (l : List ℕ) → LineAt r p l → feed_last l ≡ true
line_feed r p l i = first (raw_lines (drop p r)) (raw_feed (drop p r)) i.lines
  where
    first : (ls : List (List ℕ)) {m : List ℕ} {ms : List (List ℕ)} → All FeedLast ls → ls ≡ m ∷ ms → feed_last m ≡ true
    first [] none e = let z : ◌≡◌ {A = ℕ} 0 1 = cc in absurd (omega arith)
    first (k ∷ ks) {m} (one h a) e = let z : k ≡ m = cc in rw z at h.last_feed

feed_start : (l : List ℕ) → feed_last l ≡ true → feed_last (trim_start l) ≡ true
feed_start [] e = refl
feed_start (b ∷ bs) e = by_cases (is_white b) (λ t. rw t (feed_start bs (feed_rest b bs e))) (λ t. rw t e)

feed_white : (b : ℕ) → is_white b ≡ false → eqb b 10 ≡ false
unfolding is_white
feed_white b e = by_cases (eqb b 10) (λ t. clash (sym e ∙ ap is_white (eqb-true b 10 t))) (λ t. t)

feed_end : (l : List ℕ) → feed_last l ≡ true → among 10 (trim_end l) ≡ false
feed_end [] e = refl
feed_end (b ∷ []) e = by_cases (is_white b) (λ t. rw t) (λ t. rw (t, feed_white b t))
feed_end (b ∷ c ∷ cs) e =
    let h = both (not (eqb b 10)) (feed_last (c ∷ cs)) e in
    kept (trim_end (c ∷ cs)) (not-true (eqb b 10) h.0) (feed_end (c ∷ cs) h.1)
  where
    kept : (t : List ℕ) → eqb b 10 ≡ false → among 10 t ≡ false → among 10 (keep_end b t) ≡ false
    kept [] n a = by_cases (is_white b) (λ t. rw t) (λ t. rw (t, n))
    kept (d ∷ ds) n a = rw n a

pub no_feed : (l : List ℕ) → feed_last l ≡ true → among 10 (trimmed l) ≡ false
unfolding trimmed
no_feed l e = feed_end (trim_start l) (feed_start l e)

-- ---- a line with its LF yields what the trimmed line yields

no_blank : {P : Type 0} {t : TagReading} → Blank ≡ TagOn t → P
no_blank e = let z : ◌≡◌ {A = ℕ} 0 1 = cc in absurd (omega arith)

no_brace : {P : Type 0} {t : TagReading} → Brace ≡ TagOn t → P
no_brace e = let z : ◌≡◌ {A = ℕ} 0 1 = cc in absurd (omega arith)

no_directive : {P : Type 0} {d : Span} {t : TagReading} → Directive d ≡ TagOn t → P
no_directive e = let z : ◌≡◌ {A = ℕ} 0 1 = cc in absurd (omega arith)

no_bracket : {P : Type 0} {t : TagReading} → Bracket ≡ TagOn t → P
no_bracket e = let z : ◌≡◌ {A = ℕ} 0 1 = cc in absurd (omega arith)

no_data : {P : Type 0} {d : Span} {t : TagReading} → Data d ≡ TagOn t → P
no_data e = let z : ◌≡◌ {A = ℕ} 0 1 = cc in absurd (omega arith)

-- A line that holds a tag starts with `[`.
starts_by : {P : Type 0} (l : List ℕ) (t : TagReading) (u : List ℕ) → trim_start l ≡ u → kind_by (get_or u 0 0) l ≡ TagOn t → ((s : List ℕ) → trim_start l ≡ 91 ∷ s → P) → P
starts_by l t [] q k go = no_data k
starts_by l t (b ∷ bs) q k go =
    by_cases (eqb b 91)
    (λ x. go bs (q ∙ ap (λ (j : ℕ). j ∷ bs) (eqb-true b 91 x)))
    (λ x.
    by_cases (eqb b 123)
    (λ y. no_brace (rw y at k))
    (λ y. by_cases (eqb b 59 || eqb b 37) (λ z. no_directive (rw (y, z) at k)) (λ z. no_data (rw (y, z, x) at k))))

tag_starts : {P : Type 0} (l : List ℕ) (t : TagReading) → line_kind l ≡ TagOn t → ((s : List ℕ) → trim_start l ≡ 91 ∷ s → P) → P
unfolding line_kind
tag_starts l t e go = by_cases (is_blank l) (λ b. no_blank (rw b at e)) (λ b. starts_by l t (trim_start l) refl (rw b at e) go)

same_good : {n v : List ℕ} (n' v' : List ℕ) → n ≡ n' → v ≡ v' → Good n' v' → Good n v
same_good n' v' a b g = rw (a, b) g

module _ (l m : List ℕ) (h : among 10 m ≡ false) (r : TagReading) where
  split_line_good : (x y : Split) → split_as x ≡ TagOn r → split_bytes x l ≡ split_bytes y m → line_kind m ≡ split_as y → Good (cut (tag_in r).name l) (cut (tag_in r).value l)
  split_line_good None y k e j = no_bracket k
  split_line_good (Some (t, d)) None k e j = never (sym e)
  split_line_good (Some (t, d)) (Some (u, g)) k e j =
      let z : WithData t d ≡ r = cc in
      let w = some_inj e in
      rw (← z) (same_good (cut u.name m) (cut u.value m) (ap (λ (b : SplitBytes). b.name) w) (ap (λ (b : SplitBytes). b.value) w) (TagsGood m (WithData u g) h j))

  tag_line_good : (x y : TagLine) → bracket_as x l ≡ TagOn r → tag_bytes x l ≡ tag_bytes y m → split_bytes (split_of l) l ≡ split_bytes (split_of m) m → line_kind m ≡ bracket_as y m
      → Good (cut (tag_in r).name l) (cut (tag_in r).value l)
  unfolding split_line
  tag_line_good None None k e f j = split_line_good (split_of l) (split_of m) k f j
  tag_line_good None (Some (u, None)) k e f j = never e
  tag_line_good None (Some (u, Some d)) k e f j = never e
  tag_line_good (Some (t, None)) None k e f j = never (sym e)
  tag_line_good (Some (t, None)) (Some (u, None)) k e f j =
      let z : Plain t ≡ r = cc in
      let w = some_inj e in
      rw (← z) (same_good (cut u.name m) (cut u.value m) (ap (λ (b : TagBytes). b.name) w) (ap (λ (b : TagBytes). b.value) w) (TagsGood m (Plain u) h j))
  tag_line_good (Some (t, None)) (Some (u, Some d)) k e f j =
      let z : Plain t ≡ r = cc in
      let w = some_inj e in
      rw (← z) (same_good (cut u.name m) (cut u.value m) (ap (λ (b : TagBytes). b.name) w) (ap (λ (b : TagBytes). b.value) w) (TagsGood m (WithComment u d) h j))
  tag_line_good (Some (t, Some g)) None k e f j = never (sym e)
  tag_line_good (Some (t, Some g)) (Some (u, None)) k e f j =
      let z : WithComment t g ≡ r = cc in
      let w = some_inj e in
      rw (← z) (same_good (cut u.name m) (cut u.value m) (ap (λ (b : TagBytes). b.name) w) (ap (λ (b : TagBytes). b.value) w) (TagsGood m (Plain u) h j))
  tag_line_good (Some (t, Some g)) (Some (u, Some d)) k e f j =
      let z : WithComment t g ≡ r = cc in
      let w = some_inj e in
      rw (← z) (same_good (cut u.name m) (cut u.value m) (ap (λ (b : TagBytes). b.name) w) (ap (λ (b : TagBytes). b.value) w) (TagsGood m (WithComment u d) h j))

-- THEOREM. The name and the value of any tag on a line, with its LF or without, can be written.
pub LineGood : (l : List ℕ) (t : TagReading) → feed_last l ≡ true → line_kind l ≡ TagOn t → Good (cut (tag_in t).name l) (cut (tag_in t).value l)
unfolding bracket_line is_white
LineGood l t h e =
    tag_starts l t e λ s q.
    let m = trimmed l in
    let w : trim_start (trimmed l) ≡ 91 ∷ trim_end s = ap trim_start (trimmed_is l s q) in
    tag_line_good l m (no_feed l h) t (tag_line l) (tag_line m)
    (sym (kind_bracket l s q) ∙ e)
    (TagStands l ∙ sym (TagTrimmed l) ∙ sym (TagStands m))
    (SplitStands l ∙ sym (SplitTrimmed l) ∙ sym (SplitStands m))
    (kind_bracket m (trim_end s) w)

-- ---- each name is followed by its value

-- Each name is followed by its value, and Q holds of the two.
pub data Paired (Q : Entry → Entry → Type 0) : List Entry → Type 0 where
  over : Paired Q []
  tag : {a b : Entry} {es : List Entry} → a.kind ≡ 1 → b.kind ≡ 2 → Q a b → Paired Q es → Paired Q (a ∷ b ∷ es)
  other : {e : Entry} {es : List Entry} → (e.kind ≡ 1 → ⊥) → (e.kind ≡ 2 → ⊥) → Paired Q es → Paired Q (e ∷ es)

paired_append : {Q : Entry → Entry → Type 0} {es fs : List Entry} → Paired Q es → Paired Q fs → Paired Q (es ++ fs)
paired_append over b = b
paired_append (tag x y g a) b = tag x y g (paired_append a b)
paired_append (other x y a) b = other x y (paired_append a b)

paired_late : {Q : Entry → Entry → Type 0} {es : List Entry} → All Late es → Paired Q es
paired_late none = over
paired_late (one {x = e} l a) = other {e = e} (λ (u : e.kind ≡ 1). omega (arith, l.late, u)) (λ (u : e.kind ≡ 2). omega (arith, l.late, u)) (paired_late a)

paired_maybe : {Q : Entry → Entry → Type 0} (b : Bool) (e : Entry) → (e.kind ≡ 1 → ⊥) → (e.kind ≡ 2 → ⊥) → Paired Q (cond b [] (e ∷ []))
paired_maybe true e x y = over
paired_maybe false e x y = other x y over

data_paired : {Q : Entry → Entry → Type 0} (s : State) (p : ℕ) (d : Span) → Paired Q (data_added s p d).entries
data_paired s p d = paired_maybe (eqb (kind_of s.section) 0) (entry 5 (p + d.start) d.len (kind_of s.section)) (λ u. omega arith) (λ u. omega arith)

blocked_paired : {Q : Entry → Entry → Type 0} (r : List ℕ) (s : State) (i j : ℕ) → Paired Q (blocked r s i j).entries
unfolding blocked
blocked_paired r s i j = paired_maybe (is_all_white r i j) (entry 4 i (j - i) s.tags) (λ u. omega arith) (λ u. omega arith)

-- A name and a value of the record r that can be written.
abbrev pub GoodTag : List ℕ → Entry → Entry → Type 0
GoodTag r a b = Good (bytes_of r a) (bytes_of r b)

module _ (c : Conventions) (r : List ℕ) (p : ℕ) (s : State) (l : List ℕ) (i : LineAt r p l) where
  tagged_paired : (q : ℕ) (t : TagPlaces) (split : Option Span) → TagInside t (length l) → Good (cut t.name l) (cut t.value l) → Paired (GoodTag r) (tagged c s p l q t split).entries
  unfolding tagged
  tagged_paired q t split j g =
      let n = PartPlaced r l p t.name.start t.name.len i.bytes j.name_inside in
      let v = PartPlaced r l p t.value.start t.value.len i.bytes j.value_inside in
      tag refl refl (same_good (cut t.name l) (cut t.value l) n v g) over

  reading_paired : (q : ℕ) (t : TagReading) → ReadingPlaced t (length l) → Good (cut (tag_in t).name l) (cut (tag_in t).value l) → Paired (GoodTag r) (read_by c s p l q t).entries
  reading_paired q (Plain t) j g = tagged_paired q t no_span j g
  reading_paired q (WithComment t d) j g = paired_append (tagged_paired q t no_span j.0 g) (other (λ u. omega arith) (λ u. omega arith) over)
  reading_paired q (WithData t d) j g = paired_append (tagged_paired q t (Some (at p d)) j.0 g) (data_paired (tagged c s p l q t (Some (at p d))).state p d)

  line_paired : (t : TagReading) → line_kind l ≡ TagOn t → Paired (GoodTag r) (read_by c s p l (p + length l) t).entries
  line_paired t k =
      let z : LinePlaced (TagOn t) (length l) = rw k at (LineInside l) in
      reading_paired (p + length l) t z (LineGood l t (line_feed r p l i) k)

-- THEOREM. Among the entries of a record each name is followed by its value, and both can be written.
pub TagsPaired : (c : Conventions) (r : List ℕ) → Paired (GoodTag r) (record_out c r).entries
TagsPaired c r =
    HoldsOfRecord c r (λ p s q o. Paired (GoodTag r) o.entries)
    record {
      together = λ p q z s o k a b. paired_append a b;
      closing = λ p s. paired_late (closed_late c r s);
      idle = λ p s l i n. over;
      quiet = λ p s l i n k. over;
      opening = λ p s l i n k b. over;
      bracing = λ p s l i n k b. blocked_paired r s (p + length (lead l) + 1) (p + last_brace l);
      commentary = λ p s l i n k. blocked_paired r s (block_of s) (p + last_brace l);
      directing = λ p s l d i n k. other (λ u. omega arith) (λ u. omega arith) over;
      dating = λ p s l d i n k. data_paired s p d;
      tagging = λ p s l t i k. line_paired c r p s l i t k;
    }

-- ---- the plain board

pub record Writable (t : TagPair) : Type 0 where
  pub writable : Good t.name t.value

items_writable : (r : List ℕ) {es : List Entry} → Paired (GoodTag r) es → All Writable (tags_in (items_of r es))
unfolding item_of
items_writable r over = none
items_writable r (tag {a = a} {b = b} {es = es} x y g p) =
    let n : eqb b.kind 1 ≡ false = ne_eqb b.kind 1 (λ u. omega (arith, y, u)) in
    rw (eq-eqb a.kind 1 x, n) (one {x = record { name = bytes_of r a; value = bytes_of r b }} (record { writable = g }) (items_writable r p))
items_writable r (other {e = e} x y p) = rw (ne_eqb e.kind 1 x) (items_writable r p)

-- THEOREM. Every tag of a plain board can be written.
pub PlainWritable : (c : Conventions) (r : List ℕ) → All Writable (plain_of c r).tags
unfolding plain_of plain_by
PlainWritable c r = items_writable r (TagsPaired c r)
