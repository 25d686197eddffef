-- What tags alone change on a board follows from the record's tags, in their order.
use Rattle.std.specs.Prelude.{Some}
use Rattle.std.specs.Prelude.{Option}
use Rattle.reader.specs.Boards.{block_of}
use Rattle.reader.specs.Sections.{kind_of}
use Prim.Native.Nat.{ℕ, ◌+◌}
use mathlib.Core.Path.{◌≡◌, refl, sym, ap, ◌∙◌}
use mathlib.Core.Bool.{Bool, true, false, cond}
use mathlib.Core.List.{List, [], ◌∷◌, ◌++◌, append_assoc, append-nil}
use native.Mathlib.Nat.{add-zero}
use native.Mathlib.Omega.{arith}
use lib.Dec.{eqb}
use lib.ListN.{length, length-append}
use borrow.Author.Tests.{ne_eqb}
use Rattle.tables.specs.declared.letters.Conventions.{Conventions}
use Rattle.tables.specs.Text.{lead}
use Rattle.reader.specs.declared.store.Entry.{Entry}
use Rattle.reader.specs.declared.tag.Span.{Span}
use Rattle.reader.specs.declared.tag.Tag.{Tag as TagPlaces}
use Rattle.reader.specs.declared.line.Line.TheVariants.{Tag as TagOn}
use Rattle.reader.specs.declared.line.TagReading.{TagReading}
use Rattle.reader.specs.declared.line.TagReading.TheVariants.{Plain, WithComment, WithData}
use Rattle.reader.specs.declared.board.Board.{Board}
use Rattle.reader.specs.declared.board.State.{State}
use Rattle.reader.specs.Tag.{cut}
use Rattle.reader.specs.TagSteps.{TagInside}
use Rattle.reader.specs.Names.{tag_number}
use Rattle.reader.specs.Lines.{last_brace, line_kind}
use Rattle.reader.specs.LineSteps.{LinePlaced, ReadingPlaced}
use Rattle.reader.specs.Pieces.{Out, and_then, entry}
use Rattle.reader.specs.Boards.{applied, closed, no_span, at, tagged, directed, data_added, read_by, is_all_white, blocked, no_board, no_state, record_out}
use Rattle.reader.specs.Plain.{bytes_of, Item, item_of, items_of, TagPair, tags_in, plain_by, plain_of}
use Rattle.reader.specs.Kept.{after}
use Rattle.reader.proofs.EntryLaws.{All, none, one}
use Rattle.reader.proofs.Inside.{LineInside}
use Rattle.reader.proofs.SectionLaws.{LineAt}
use Rattle.reader.proofs.BoardLaws.{Counts, closed_counts}
use Rattle.reader.proofs.PlainLaws.{PartPlaced}
use Rattle.reader.proofs.PlainSteps.{Late, closed_late, Leaves, leaves_all, closed_leaves, HoldsOfRecord}

-- ---- what follows from tags

after_append : {A : Type 0} (f : A → TagPair → A) (a : A) (ts us : List TagPair) → after f a (ts ++ us) ≡ after f (after f a ts) us
after_append f a [] us = refl
after_append f a (t ∷ ts) us = after_append f (f a t) ts us

-- R es b a: of a board b whose record r has the entries es so far, a is known. Further entries and sections that close leave it; a tag,
-- whose name and value are two entries, changes it by f.
pub record Followed (c : Conventions) (r : List ℕ) {A : Type 0} (R : List Entry → Board → A → Type 0) (f : A → TagPair → A) : Type 0 where
  pub longer : (es fs : List Entry) (b : Board) (a : A) → R es b a → R (es ++ fs) b a
  pub left : (es : List Entry) (b d : Board) (a : A) → Leaves b d → R es b a → R es d a
  pub by_tag : (es : List Entry) (b : Board) (a : A) (x y : Entry) (name value : List ℕ) → bytes_of r y ≡ value
      → R es b a → R (es ++ x ∷ y ∷ []) (applied c (tag_number name) value (length es + 2) b) (f a (record { name = name; value = value }))

module _ (c : Conventions) (r : List ℕ) {A : Type 0} (R : List Entry → Board → A → Type 0) (f : A → TagPair → A) (h : Followed c r R f) where
  -- A step: its tags, and what is known after them.
  record Follows (s : State) (o : Out State) : Type 0 where
    counts : Counts s o
    tags : List TagPair
    tags_in_lem : (is : List Item) → tags_in (items_of r o.entries ++ is) ≡ tags ++ tags_in is
    follows : (es : List Entry) (a : A) → length es ≡ s.n → R es s.board a → R (es ++ o.entries) o.state.board (after f a tags)

  -- A step without tags.
  silent : (s : State) (o : Out State) → Counts s o → ((is : List Item) → tags_in (items_of r o.entries ++ is) ≡ tags_in is) → Leaves s.board o.state.board → Follows s o
  silent s o n e l =
      record {
        counts = n;
        tags = [];
        tags_in_lem = e;
        follows = λ es a k i. h.longer es o.entries o.state.board a (h.left es s.board o.state.board a l i);
      }

  together_follows : (s : State) (o k : Out State) → Follows s o → Follows o.state k → Follows s (and_then o k)
  together_follows s o k a b =
      record {
        counts = b.counts ∙ rw length-append (omega (arith, a.counts));
        tags = a.tags ++ b.tags;
        tags_in_lem = λ is. joined is;
        follows = λ es x n i.
            let m : length (es ++ o.entries) ≡ o.state.n = rw length-append (omega (arith, a.counts)) in
            rw (sym (append_assoc es o.entries k.entries), after_append f x a.tags b.tags) (b.follows (es ++ o.entries) (after f x a.tags) m (a.follows es x n i));
      }
    where
      items_append : (es fs : List Entry) (is : List Item) → items_of r (es ++ fs) ++ is ≡ items_of r es ++ (items_of r fs ++ is)
      items_append [] fs is = refl
      items_append (e ∷ es) fs is = ap (λ (l : List Item). item_of r e ∷ l) (items_append es fs is)

      joined : (is : List Item) → tags_in (items_of r (o.entries ++ k.entries) ++ is) ≡ (a.tags ++ b.tags) ++ tags_in is
      joined is =
          ap tags_in (items_append o.entries k.entries is) ∙ a.tags_in_lem (items_of r k.entries ++ is) ∙ ap (λ (l : List TagPair). a.tags ++ l) (b.tags_in_lem is)
          ∙ sym (append_assoc a.tags b.tags (tags_in is))

  late_tags : {es : List Entry} → All Late es → (is : List Item) → tags_in (items_of r es ++ is) ≡ tags_in is
  unfolding item_of
  late_tags none is = refl
  late_tags (one {x = e} l a) is = rw (ne_eqb e.kind 1 (λ u. omega (arith, l.late, u))) (late_tags a is)

  maybe_tags : (b : Bool) (e : Entry) → (e.kind ≡ 1 → ⊥) → (is : List Item) → tags_in (items_of r (cond b [] (e ∷ [])) ++ is) ≡ tags_in is
  unfolding item_of
  maybe_tags true e n is = refl
  maybe_tags false e n is = rw (ne_eqb e.kind 1 n)

  blocked_follows : (s : State) (i j : ℕ) → Follows s (blocked r s i j)
  unfolding blocked
  blocked_follows s i j = silent s (blocked r s i j) refl (maybe_tags (is_all_white r i j) (entry 4 i _ s.tags) (λ u. omega arith)) (leaves_all s.board)

  directed_follows : (s : State) (p : ℕ) (d : Span) → Follows s (directed s p d)
  directed_follows s p d = silent s (directed s p d) refl (maybe_tags false (entry 3 (p + d.start) d.len s.tags) (λ u. omega arith)) (leaves_all s.board)

  data_follows : (s : State) (p : ℕ) (d : Span) → Follows s (data_added s p d)
  data_follows s p d =
      silent s (data_added s p d) refl (maybe_tags (eqb (kind_of s.section) 0) (entry 5 (p + d.start) d.len (kind_of s.section)) (λ u. omega arith)) (leaves_all s.board)

  module _ (p : ℕ) (s : State) (l : List ℕ) (i : LineAt r p l) where
    tagged_follows : (q : ℕ) (t : TagPlaces) (split : Option Span) → TagInside t (length l) → Follows s (tagged c s p l q t split)
    unfolding tagged item_of
    tagged_follows q t split j =
        let x = entry 1 (p + t.name.start) t.name.len 0 in
        let y = entry 2 (p + t.value.start) t.value.len 0 in
        let n = PartPlaced r l p t.name.start t.name.len i.bytes j.name_inside in
        let v = PartPlaced r l p t.value.start t.value.len i.bytes j.value_inside in
        record {
          counts = refl;
          tags = record { name = cut t.name l; value = cut t.value l } ∷ [];
          tags_in_lem = λ is. rw (n, v);
          follows = λ es a k m. rw (sym k) (h.by_tag es s.board a x y (cut t.name l) (cut t.value l) v m);
        }

    reading_follows : (q : ℕ) (t : TagReading) → ReadingPlaced t (length l) → Follows s (read_by c s p l q t)
    reading_follows q (Plain t) j = tagged_follows q t no_span j
    reading_follows q (WithComment t d) j =
        let o = tagged c s p l q t no_span in
        together_follows s o (directed o.state p d) (tagged_follows q t no_span j.0) (directed_follows o.state p d)
    reading_follows q (WithData t d) j =
        let o = tagged c s p l q t (Some (at p d)) in
        together_follows s o (data_added o.state p d) (tagged_follows q t (Some (at p d)) j.0) (data_follows o.state p d)

    line_follows : (t : TagReading) → line_kind l ≡ TagOn t → Follows s (read_by c s p l (p + length l) t)
    line_follows t k =
        let z : LinePlaced (TagOn t) (length l) = rw k at (LineInside l) in
        reading_follows (p + length l) t z

  unchanged_follows : (s t : State) → t.n ≡ s.n → Leaves s.board t.board → Follows s (record { state = t; entries = [] })
  unchanged_follows s t n l = silent s (record { state = t; entries = [] }) (n ∙ sym (add-zero s.n)) (λ is. refl) l

  record_follows : Follows no_state (record_out c r)
  record_follows =
      HoldsOfRecord c r (λ p s q o. Follows s o)
      record {
        together = λ p q z s o k a b. together_follows s o k a b;
        closing = λ p s. silent s (closed c r s) (closed_counts c r s) (late_tags (closed_late c r s)) (closed_leaves c r s);
        idle = λ p s l i n. unchanged_follows s s refl (leaves_all s.board);
        quiet = λ p s l i n b. unchanged_follows s s refl (leaves_all s.board);
        opening = λ p s l i n k b. unchanged_follows s _ refl (leaves_all s.board);
        bracing = λ p s l i n k b. blocked_follows s (p + length (lead l) + 1) (p + last_brace l);
        commentary = λ p s l i n b. blocked_follows s (block_of s) (p + last_brace l);
        directing = λ p s l d i n k. directed_follows s p d;
        dating = λ p s l d i n k. data_follows s p d;
        tagging = λ p s l t i k. line_follows p s l i t k;
      }

  -- THEOREM. What is known of a board follows from its record's tags.
  pub FollowsTags : (a : A) → R [] no_board a → R (record_out c r).entries (record_out c r).state.board (after f a (plain_of c r).tags)
  unfolding plain_of plain_by
  FollowsTags a i =
      let e : tags_in (items_of r (record_out c r).entries) ≡ record_follows.tags =
      ap tags_in (sym (append-nil (items_of r (record_out c r).entries))) ∙ record_follows.tags_in_lem [] ∙ append-nil record_follows.tags in
      rw e (record_follows.follows [] a refl i)
