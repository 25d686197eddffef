-- What a record reads as, line by line and without places: its tags, its directives and its commentary.
use Rattle.std.specs.Prelude.{Option}
use Rattle.reader.specs.Boards.{in_block, block_of}
use Rattle.std.specs.Prelude.{Some, None}
use Prim.Native.Nat.{ℕ, ◌+◌, ◌-◌, ◌≤◌, ◌<◌}
use mathlib.Core.Path.{◌≡◌, refl, sym, ap, ◌∙◌}
use mathlib.Core.Bool.{Bool, true, false, cond, not}
use mathlib.Core.List.{List, [], ◌∷◌, ◌++◌, map, append-nil, append_assoc, map-append}
use native.Mathlib.Nat.{add-zero}
use native.Mathlib.Omega.{arith}
use lib.Dec.{eqb}
use lib.ListN.{length, take, drop, length-append, length-drop, take-append-drop}
use lib.Seq.{take-append-add, take-append-le, drop-append-le, drop-drop}
use borrow.Author.Tests.{ne_eqb, eqb-false}
use Rattle.tables.specs.declared.letters.Conventions.{Conventions}
use Rattle.tables.specs.Text.{is_white, lead}
use Rattle.tables.specs.Letters.{every}
use Rattle.tables.proofs.Laws.{by_cases, clash}
use Rattle.tables.proofs.TextLaws.{front_few}
use Rattle.reader.specs.declared.store.Entry.{Entry}
use Rattle.reader.specs.declared.tag.Span.{Span}
use Rattle.reader.specs.declared.tag.Tag.{Tag as TagPlaces}
use Rattle.reader.specs.declared.line.Line.{Line}
use Rattle.reader.specs.declared.line.Line.TheVariants.{Blank, Brace, Directive, Tag as TagOn, Bracket, Data}
use Rattle.reader.specs.declared.line.TagReading.{TagReading}
use Rattle.reader.specs.declared.line.TagReading.TheVariants.{Plain, WithComment, WithData}
use Rattle.reader.specs.declared.board.State.{State}
use Rattle.reader.specs.Tag.{cut}
use Rattle.reader.specs.TagSteps.{TagInside, SpanInside}
use Rattle.reader.specs.Lines.{is_blank, has_brace, last_brace, line_kind}
use Rattle.reader.specs.LineSteps.{tag_in, LinePlaced, ReadingPlaced}
use Rattle.reader.specs.Pieces.{Out, and_then, entry, raw_lines}
use Rattle.reader.specs.Sections.{opens_commentary, commentary_after, kind_of}
use Rattle.reader.specs.Boards.{closed, no_span, at, tagged, adding, directed, data_added, read_by, tag_line_out, with_commentary, is_all_white, blocked, braced, in_commentary, line_by, line_out, lines_out, no_state, record_out}
use Rattle.reader.specs.Plain.{Item, item_of, items_of, TagPair, Remark, tags_in, remarks_in, block_value, plain_by, plain_of}
use Rattle.reader.proofs.EntryLaws.{All, none, one}
use Rattle.reader.proofs.LineLaws.{blank_is}
use Rattle.reader.proofs.Inside.{LineInside}
use Rattle.reader.proofs.SectionLaws.{LineAt}
use Rattle.reader.proofs.Counts.{chosen, next_line_lem}
use Rattle.reader.proofs.PlainLaws.{PartPlaced}
use Rattle.reader.proofs.PlainSteps.{Late, closed_late, closed_keeps, first_line}
use Rattle.reader.proofs.LineLaws.{brace_inside}

-- ---- tags and directives of lines

-- The tag on a line.
abbrev pub pair_on : TagReading → List ℕ → TagPair
pair_on t l = record { name = cut (tag_in t).name l; value = cut (tag_in t).value l }

abbrev pub tags_on : Line → List ℕ → List TagPair
tags_on Blank l = []
tags_on Brace l = []
tags_on (Directive d) l = []
tags_on (TagOn t) l = pair_on t l ∷ []
tags_on Bracket l = []
tags_on (Data d) l = []

-- Where commentary is open a line holds no tag.
unfoldable pub line_tags : Bool → List ℕ → List TagPair
line_tags commentary l = cond commentary [] (tags_on (line_kind l) l)

-- The tags of lines; commentary tells whether it is open before them.
abbrev pub tags_of_lines : Bool → List (List ℕ) → List TagPair
tags_of_lines commentary [] = []
tags_of_lines commentary (l ∷ ls) = line_tags commentary l ++ tags_of_lines (commentary_after commentary l) ls

-- The comment behind a tag, which counts its own tag; n tags stand before the line.
abbrev pub comment_on : TagReading → List ℕ → ℕ → List Remark
comment_on (Plain t) l n = []
comment_on (WithComment t d) l n = record { bytes = cut d l; before = n + 1 } ∷ []
comment_on (WithData t d) l n = []

abbrev pub directives_on : Line → List ℕ → ℕ → List Remark
directives_on Blank l n = []
directives_on Brace l n = []
directives_on (Directive d) l n = record { bytes = cut d l; before = n } ∷ []
directives_on (TagOn t) l n = comment_on t l n
directives_on Bracket l n = []
directives_on (Data d) l n = []

unfoldable pub line_directives : Bool → List ℕ → ℕ → List Remark
line_directives commentary l n = cond commentary [] (directives_on (line_kind l) l n)

-- The directives of lines with n tags before them.
abbrev pub directives_of_lines : Bool → ℕ → List (List ℕ) → List Remark
directives_of_lines commentary n [] = []
directives_of_lines commentary n (l ∷ ls) = line_directives commentary l n ++ directives_of_lines (commentary_after commentary l) (n + length (line_tags commentary l)) ls

-- ---- commentary of lines

-- A block with n tags before it, where it is not white space alone.
abbrev pub block_on : List ℕ → ℕ → List Remark
block_on bytes n = cond (every is_white bytes) [] (record { bytes = bytes; before = n } ∷ [])

-- The block of a line that opens commentary and closes it: from behind the `{` up to the last `}`.
abbrev pub inner_block : List ℕ → List ℕ
inner_block l = cut (record { start = length (lead l) + 1; len = last_brace l - (length (lead l) + 1) }) l

abbrev pub blocks_on : Line → List ℕ → ℕ → List Remark
blocks_on Blank l n = []
blocks_on Brace l n = cond (has_brace l) (block_on (inner_block l) n) []
blocks_on (Directive d) l n = []
blocks_on (TagOn t) l n = []
blocks_on Bracket l n = []
blocks_on (Data d) l n = []

-- Where commentary is open, g is its text up to the line.
unfoldable pub line_blocks : Bool → List ℕ → List ℕ → ℕ → List Remark
line_blocks commentary g l n = cond commentary (cond (has_brace l) (block_on (g ++ take (last_brace l) l) n) []) (blocks_on (line_kind l) l n)

-- The text of commentary up to the end of a line that leaves it open.
unfoldable pub block_after : Bool → List ℕ → List ℕ → List ℕ
block_after commentary g l = cond commentary (g ++ l) (drop (length (lead l) + 1) l)

-- The blocks of lines, with their CRs.
abbrev pub blocks_of_lines : Bool → List ℕ → ℕ → List (List ℕ) → List Remark
blocks_of_lines commentary g n [] = []
blocks_of_lines commentary g n (l ∷ ls) = line_blocks commentary g l n ++ blocks_of_lines (commentary_after commentary l) (block_after commentary g l) (n + length (line_tags commentary l)) ls

-- ---- whether commentary is open

-- After a line of a kind, and after any line.
module _ (c : Conventions) (r : List ℕ) (p : ℕ) (l : List ℕ) where
  kind_commentary : (s : State) (k : Line) → in_block s ≡ false → in_block (line_by c r s p l k).state ≡ opens_commentary k l
  unfolding braced blocked tag_line_out tagged
  kind_commentary s Blank n = n
  kind_commentary s Brace n = by_brace (has_brace l)
    where
      by_brace : (b : Bool) → (in_block (cond b (blocked r s (p + length (lead l) + 1) (p + last_brace l)) (record { state = with_commentary s (Some (p + length (lead l) + 1)); entries = [] })).state) ≡ not b
      by_brace true = refl
      by_brace false = refl
  kind_commentary s (Directive d) n = n
  kind_commentary s (TagOn (Plain t)) n = refl
  kind_commentary s (TagOn (WithComment t d)) n = refl
  kind_commentary s (TagOn (WithData t d)) n = refl
  kind_commentary s Bracket n = n
  kind_commentary s (Data d) n = n

  pub line_commentary : (s : State) → in_block (line_out c r s p l).state ≡ commentary_after (in_block s) l
  unfolding line_out commentary_after in_commentary blocked
  line_commentary s = by_commentary (in_block s) refl
    where
      by_brace : (b : Bool) → in_block s ≡ true → (in_block (cond b (blocked r s (block_of s) (p + last_brace l)) (record { state = s; entries = [] })).state) ≡ not b
      by_brace true n = refl
      by_brace false n = n

      by_commentary : (b : Bool) → in_block s ≡ b → (in_block (cond b (in_commentary r s p l) (line_by c r s p l (line_kind l))).state) ≡ cond b (not (has_brace l)) (opens_commentary (line_kind l) l)
      by_commentary true n = by_brace (has_brace l) n
      by_commentary false n = kind_commentary s (line_kind l) n

-- ---- the text of open commentary

-- Where commentary is open at the place p, g stands from its block's start up to p.
record Gathered (r : List ℕ) (p : ℕ) (s : State) (g : List ℕ) : Type 0 where
  placed : in_block s ≡ true → block_of s + length g ≡ p
  held : in_block s ≡ true → drop (block_of s) r ≡ g ++ drop p r

not_open : {r : List ℕ} {p : ℕ} {s : State} {g : List ℕ} → in_block s ≡ false → Gathered r p s g
not_open n = record { placed = λ e. clash (sym n ∙ e); held = λ e. clash (sym n ∙ e) }

-- A line that opens commentary has a byte behind its white space.
brace_room : (l : List ℕ) → line_kind l ≡ Brace → length (lead l) + 1 ≤ length l
unfolding line_kind
brace_room l e =
    by_cases (is_blank l)
    (λ t. let z : Blank ≡ Brace = rw t at e in let x : ◌≡◌ {A = ℕ} 0 1 = cc in absurd (omega arith))
    (λ t. omega (arith, eqb-false (length (lead l)) (length l) (blank_is l ∙ t), front_few is_white l))

module _ (c : Conventions) (r : List ℕ) (p : ℕ) (l : List ℕ) (i : LineAt r p l) where
  line_rest : drop p r ≡ l ++ drop (p + length l) r
  line_rest = sym (take-append-drop (length l) (drop p r)) ∙ rw (drop-drop (length l) p r, ← i.bytes)

  -- The text up to the byte k of the line.
  gathered_more : (s : State) (g : List ℕ) (k : ℕ) → k ≤ length l → in_block s ≡ true → Gathered r p s g → take (p + k - (block_of s)) (drop (block_of s) r) ≡ g ++ take k l
  gathered_more s g k h n a =
      let z = a.placed n in
      let m : p + k - (block_of s) ≡ length g + k = omega arith in
      rw (m, a.held n, take-append-add g (drop p r) k, line_rest, take-append-le k l (drop (p + length l) r) h)

  commentary_gathered : (s : State) (g : List ℕ) → in_block s ≡ true → Gathered r p s g → Gathered r (p + length l) (in_commentary r s p l).state (g ++ l)
  unfolding in_commentary blocked
  commentary_gathered s g n a =
      chosen (λ (o : Out State). Gathered r (p + length l) o.state (g ++ l)) (has_brace l) (blocked r s (block_of s) (p + last_brace l)) (record { state = s; entries = [] })
      (λ e. not_open refl)
      (λ e.
      record {
        placed = λ m. simp length-append (omega (arith, a.placed n));
        held = λ m. a.held n ∙ ap (λ (x : List ℕ). g ++ x) line_rest ∙ sym (append_assoc g l (drop (p + length l) r));
      })

  brace_gathered : (s : State) → line_kind l ≡ Brace → Gathered r (p + length l) (braced r s p l).state (drop (length (lead l) + 1) l)
  unfolding braced blocked
  brace_gathered s k =
      let n = length (lead l) + 1 in
      let h = brace_room l k in
      let b : p + length (lead l) + 1 ≡ p + n = omega arith in
      chosen (λ (o : Out State). Gathered r (p + length l) o.state (drop n l)) (has_brace l) (blocked r s (p + length (lead l) + 1) (p + last_brace l))
      (record { state = with_commentary s (Some (p + length (lead l) + 1)); entries = [] })
      (λ e. not_open refl)
      (λ e.
      record {
        placed = λ m. rw length-drop (omega arith);
        held = λ m. rw (b, ← drop-drop n p r, line_rest) (drop-append-le n l (drop (p + length l) r) h);
      })

  kind_gathered : (s : State) (k : Line) → in_block s ≡ false → line_kind l ≡ k → Gathered r (p + length l) (line_by c r s p l k).state (drop (length (lead l) + 1) l)
  kind_gathered s Blank n e = not_open (kind_commentary c r p l s Blank n)
  kind_gathered s Brace n e = brace_gathered s e
  kind_gathered s (Directive d) n e = not_open (kind_commentary c r p l s (Directive d) n)
  kind_gathered s (TagOn t) n e = not_open (kind_commentary c r p l s (TagOn t) n)
  kind_gathered s Bracket n e = not_open (kind_commentary c r p l s Bracket n)
  kind_gathered s (Data d) n e = not_open (kind_commentary c r p l s (Data d) n)

  line_gathered : (s : State) (g : List ℕ) → Gathered r p s g → Gathered r (p + length l) (line_out c r s p l).state (block_after (in_block s) g l)
  unfolding line_out block_after
  line_gathered s g a = by_commentary (in_block s) refl
    where
      by_commentary : (b : Bool) → in_block s ≡ b → Gathered r (p + length l) (cond b (in_commentary r s p l) (line_by c r s p l (line_kind l))).state (cond b (g ++ l) (drop (length (lead l) + 1) l))
      by_commentary true n = commentary_gathered s g n a
      by_commentary false n = kind_gathered s (line_kind l) n refl

-- ---- steps

-- From these entries, whatever follows them, f reads xs.
abbrev Reads : {A : Type 0} → (List Item → List A) → List Item → List A → Type 0
Reads f is xs = (js : List Item) → f (is ++ js) ≡ xs ++ f js

reads_both : {A : Type 0} (f : List Item → List A) (r : List ℕ) (es fs : List Entry) (xs ys : List A) → Reads f (items_of r es) xs → Reads f (items_of r fs) ys → Reads f (items_of r (es ++ fs)) (xs ++ ys)
reads_both {A = A} f r es fs xs ys a b js =
    let is = items_of r fs ++ js in
    let m = ap (λ (l : List Item). l ++ js) (map-append (item_of r) es fs) ∙ append_assoc (items_of r es) (items_of r fs) js in
    ap f m ∙ a is ∙ ap (λ (l : List A). xs ++ l) (b js) ∙ sym (append_assoc xs ys (f js))

reads_alone : {A : Type 0} (f : List Item → List A) (is : List Item) (xs : List A) → f [] ≡ [] → Reads f is xs → f is ≡ xs
reads_alone f is xs z e = ap f (sym (append-nil is)) ∙ e [] ∙ rw z (append-nil xs)

-- A step of the record r from the state s adds these tags, directives and blocks.
record Adds (r : List ℕ) (s : State) (ts : List TagPair) (ds bs : List Remark) (o : Out State) : Type 0 where
  tags_added : Reads tags_in (items_of r o.entries) ts
  directives_added : Reads (remarks_in 3) (items_of r o.entries) ds
  blocks_added : Reads (remarks_in 4) (items_of r o.entries) bs
  counted : o.state.tags ≡ s.tags + length ts

then_adds : (r : List ℕ) (s : State) (ts ts' : List TagPair) (ds ds' bs bs' : List Remark) (o k : Out State) → Adds r s ts ds bs o → Adds r o.state ts' ds' bs' k
    → Adds r s (ts ++ ts') (ds ++ ds') (bs ++ bs') (and_then o k)
then_adds r s ts ts' ds ds' bs bs' o k a b =
    record {
      tags_added = reads_both tags_in r o.entries k.entries ts ts' a.tags_added b.tags_added;
      directives_added = reads_both (remarks_in 3) r o.entries k.entries ds ds' a.directives_added b.directives_added;
      blocks_added = reads_both (remarks_in 4) r o.entries k.entries bs bs' a.blocks_added b.blocks_added;
      counted = rw length-append (omega (arith, a.counted, b.counted));
    }

-- A section that closes adds none.
closed_adds : (c : Conventions) (r : List ℕ) (s : State) → Adds r s [] [] [] (closed c r s)
unfolding item_of
closed_adds c r s =
    let a = closed_late c r s in
    record { tags_added = tags a; directives_added = remarks 3 (omega arith) a; blocks_added = remarks 4 (omega arith) a; counted = (closed_keeps c r s).tags_kept ∙ sym (add-zero s.tags) }
  where
    tags : {es : List Entry} → All Late es → Reads tags_in (items_of r es) []
    tags none is = refl
    tags (one {x = x} l a) is = rw (ne_eqb x.kind 1 (λ u. omega (arith, l.late, u))) (tags a is)

    remarks : (k : ℕ) → k < 6 → {es : List Entry} → All Late es → Reads (remarks_in k) (items_of r es) []
    remarks k h none is = refl
    remarks k h (one {x = x} l a) is = rw (ne_eqb x.kind k (λ u. omega (arith, l.late, u))) (remarks k h a is)

idle_adds : (r : List ℕ) (s s' : State) → s'.tags ≡ s.tags → Adds r s [] [] [] (record { state = s'; entries = [] })
idle_adds r s s' e = record { tags_added = λ is. refl; directives_added = λ is. refl; blocks_added = λ is. refl; counted = e ∙ sym (add-zero s.tags) }

data_adds : (r : List ℕ) (s : State) (p : ℕ) (d : Span) → Adds r s [] [] [] (data_added s p d)
unfolding item_of
data_adds r s p d = maybe (eqb (kind_of s.section) 0)
  where
    maybe : (b : Bool) → Adds r s [] [] [] (adding s (cond b [] (entry 5 (p + d.start) d.len (kind_of s.section) ∷ [])))
    maybe true = idle_adds r s (adding s []).state refl
    maybe false = record { tags_added = λ is. refl; directives_added = λ is. refl; blocks_added = λ is. refl; counted = sym (add-zero s.tags) }

-- A block whose text is g.
blocked_adds : (r : List ℕ) (s : State) (i j : ℕ) (g : List ℕ) → take (j - i) (drop i r) ≡ g → Adds r s [] [] (block_on g s.tags) (blocked r s i j)
unfolding blocked item_of
blocked_adds r s i j g e = rw (← e) (maybe (is_all_white r i j))
  where
    maybe : (b : Bool) → Adds r s [] [] (cond b [] (record { bytes = take (j - i) (drop i r); before = s.tags } ∷ [])) (adding (with_commentary s None) (cond b [] (entry 4 i (j - i) s.tags ∷ [])))
    maybe true = idle_adds r s (adding (with_commentary s None) []).state refl
    maybe false = record { tags_added = λ is. refl; directives_added = λ is. refl; blocks_added = λ is. refl; counted = sym (add-zero s.tags) }

-- ---- one line

module _ (c : Conventions) (r : List ℕ) (p : ℕ) (l : List ℕ) (i : LineAt r p l) where
  directed_adds : (s : State) (d : Span) → SpanInside d (length l) → Adds r s [] (record { bytes = cut d l; before = s.tags } ∷ []) [] (directed s p d)
  unfolding item_of
  directed_adds s d j =
      let e = PartPlaced r l p d.start d.len i.bytes j in
      record { tags_added = λ is. refl; directives_added = λ is. rw e; blocks_added = λ is. refl; counted = sym (add-zero s.tags) }

  tagged_adds : (s : State) (q : ℕ) (t : TagPlaces) (split : Option Span) → TagInside t (length l)
      → Adds r s (record { name = cut t.name l; value = cut t.value l } ∷ []) [] [] (tagged c s p l q t split)
  unfolding tagged item_of
  tagged_adds s q t split j =
      let n = PartPlaced r l p t.name.start t.name.len i.bytes j.name_inside in
      let v = PartPlaced r l p t.value.start t.value.len i.bytes j.value_inside in
      record { tags_added = λ is. rw (n, v); directives_added = λ is. refl; blocks_added = λ is. refl; counted = refl }

  reading_adds : (s : State) (q : ℕ) (t : TagReading) → ReadingPlaced t (length l) → Adds r s (pair_on t l ∷ []) (comment_on t l s.tags) [] (read_by c s p l q t)
  unfolding tagged
  reading_adds s q (Plain t) j = tagged_adds s q t no_span j
  reading_adds s q (WithComment t d) j =
      let o = tagged c s p l q t no_span in
      then_adds r s (pair_on (Plain t) l ∷ []) [] [] (comment_on (WithComment t d) l s.tags) [] [] o (directed o.state p d) (tagged_adds s q t no_span j.0) (directed_adds o.state d j.1)
  reading_adds s q (WithData t d) j =
      let o = tagged c s p l q t (Some (at p d)) in
      then_adds r s (pair_on (Plain t) l ∷ []) [] [] [] [] [] o (data_added o.state p d) (tagged_adds s q t (Some (at p d)) j.0) (data_adds r o.state p d)

  tag_adds : (s : State) (t : TagReading) → ReadingPlaced t (length l) → Adds r s (pair_on t l ∷ []) (comment_on t l s.tags) [] (tag_line_out c r s p l t)
  unfolding tag_line_out
  tag_adds s t j =
      let o = closed c r s in
      let k : Adds r o.state (pair_on t l ∷ []) (comment_on t l s.tags) [] (read_by c o.state p l (p + length l) t)
      = rw (closed_keeps c r s).tags_kept at (reading_adds o.state (p + length l) t j) in
      then_adds r s [] (pair_on t l ∷ []) [] (comment_on t l s.tags) [] [] o (read_by c o.state p l (p + length l) t) (closed_adds c r s) k

  braced_adds : (s : State) → line_kind l ≡ Brace → Adds r s [] [] (blocks_on Brace l s.tags) (braced r s p l)
  unfolding braced
  braced_adds s k = by_brace (has_brace l)
    where
      inner : take (p + last_brace l - (p + length (lead l) + 1)) (drop (p + length (lead l) + 1) r) ≡ inner_block l
      inner =
          let n = length (lead l) + 1 in
          let m : p + last_brace l - (p + length (lead l) + 1) ≡ last_brace l - n = omega arith in
          let b : p + length (lead l) + 1 ≡ p + n = omega arith in
          rw (m, b) (PartPlaced r l p n (last_brace l - n) i.bytes (omega (arith, brace_room l k, brace_inside l)))

      by_brace : (b : Bool) → Adds r s [] [] (cond b (block_on (inner_block l) s.tags) []) (cond b (blocked r s (p + length (lead l) + 1) (p + last_brace l)) (record { state = with_commentary s (Some (p + length (lead l) + 1)); entries = [] }))
      by_brace true = blocked_adds r s (p + length (lead l) + 1) (p + last_brace l) (inner_block l) inner
      by_brace false = idle_adds r s (with_commentary s (Some (p + length (lead l) + 1))) refl

  commentary_adds : (s : State) (g : List ℕ) → in_block s ≡ true → Gathered r p s g → Adds r s [] [] (cond (has_brace l) (block_on (g ++ take (last_brace l) l) s.tags) []) (in_commentary r s p l)
  unfolding in_commentary
  commentary_adds s g n a = by_brace (has_brace l)
    where
      by_brace : (b : Bool) → Adds r s [] [] (cond b (block_on (g ++ take (last_brace l) l) s.tags) []) (cond b (blocked r s (block_of s) (p + last_brace l)) (record { state = s; entries = [] }))
      by_brace true = blocked_adds r s (block_of s) (p + last_brace l) (g ++ take (last_brace l) l) (gathered_more c r p l i s g (last_brace l) (brace_inside l) n a)
      by_brace false = idle_adds r s s refl

  kind_adds : (s : State) (k : Line) → line_kind l ≡ k → LinePlaced k (length l) → Adds r s (tags_on k l) (directives_on k l s.tags) (blocks_on k l s.tags) (line_by c r s p l k)
  kind_adds s Blank e j = idle_adds r s s refl
  kind_adds s Brace e j = braced_adds s e
  kind_adds s (Directive d) e j = directed_adds s d j
  kind_adds s (TagOn t) e j = tag_adds s t j
  kind_adds s Bracket e j = idle_adds r s s refl
  kind_adds s (Data d) e j = data_adds r s p d

  line_adds : (s : State) (g : List ℕ) → Gathered r p s g → Adds r s (line_tags (in_block s) l) (line_directives (in_block s) l s.tags) (line_blocks (in_block s) g l s.tags) (line_out c r s p l)
  unfolding line_out line_tags line_directives line_blocks
  line_adds s g a = by_commentary (in_block s) refl
    where
      by_commentary : (b : Bool) → in_block s ≡ b
          → Adds r s (cond b [] (tags_on (line_kind l) l)) (cond b [] (directives_on (line_kind l) l s.tags))
          (cond b (cond (has_brace l) (block_on (g ++ take (last_brace l) l) s.tags) []) (blocks_on (line_kind l) l s.tags)) (cond b (in_commentary r s p l) (line_by c r s p l (line_kind l)))
      by_commentary true n = commentary_adds s g n a
      by_commentary false n = kind_adds s (line_kind l) refl (LineInside l)

-- ---- all lines

lines_add : (c : Conventions) (r : List ℕ) (p : ℕ) (s : State) (g : List ℕ) (ls : List (List ℕ)) → raw_lines (drop p r) ≡ ls → Gathered r p s g
    → Adds r s (tags_of_lines (in_block s) ls) (directives_of_lines (in_block s) s.tags ls) (blocks_of_lines (in_block s) g s.tags ls) (lines_out c r s p ls)
lines_add c r p s g [] e a = closed_adds c r s
lines_add c r p s g (l ∷ ls) e a =
    let o = line_out c r s p l in
    let k = lines_out c r o.state (p + length l) ls in
    let i = first_line r p l ls e in
    let n = commentary_after (in_block s) l in
    let h = block_after (in_block s) g l in
    let m = s.tags + length (line_tags (in_block s) l) in
    let x = line_adds c r p l i s g a in
    let y : Adds r o.state (tags_of_lines n ls) (directives_of_lines n m ls) (blocks_of_lines n h m ls) k
    = rw (line_commentary c r p l s, x.counted) at (lines_add c r (p + length l) o.state h ls (next_line_lem r p l ls e).rest (line_gathered c r p l i s g a)) in
    then_adds r s (line_tags (in_block s) l) _ (line_directives (in_block s) l s.tags) _ (line_blocks (in_block s) g l s.tags) _ o k x y

record_adds : (c : Conventions) (r : List ℕ) → Adds r no_state (tags_of_lines false (raw_lines r)) (directives_of_lines false 0 (raw_lines r)) (blocks_of_lines false [] 0 (raw_lines r)) (record_out c r)
unfolding record_out
record_adds c r = lines_add c r 0 no_state [] (raw_lines r) refl (not_open refl)

-- THEOREM. The tags of a plain board are those of the record's lines.
pub TagsOfLines : (c : Conventions) (r : List ℕ) → (plain_of c r).tags ≡ tags_of_lines false (raw_lines r)
unfolding plain_of plain_by
TagsOfLines c r = reads_alone tags_in (items_of r (record_out c r).entries) (tags_of_lines false (raw_lines r)) refl (record_adds c r).tags_added

-- THEOREM. So are its directives.
pub DirectivesOfLines : (c : Conventions) (r : List ℕ) → (plain_of c r).directives ≡ directives_of_lines false 0 (raw_lines r)
unfolding plain_of plain_by
DirectivesOfLines c r = reads_alone (remarks_in 3) (items_of r (record_out c r).entries) (directives_of_lines false 0 (raw_lines r)) refl (record_adds c r).directives_added

-- THEOREM. So are its blocks, once a CR before each LF is dropped.
pub BlocksOfLines : (c : Conventions) (r : List ℕ) → (plain_of c r).blocks ≡ map block_value (blocks_of_lines false [] 0 (raw_lines r))
unfolding plain_of plain_by
BlocksOfLines c r = ap (map block_value) (reads_alone (remarks_in 4) (items_of r (record_out c r).entries) (blocks_of_lines false [] 0 (raw_lines r)) refl (record_adds c r).blocks_added)
