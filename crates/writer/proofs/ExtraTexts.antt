-- Supplemental tags, put from the entries of a board, are those that the board's tags give.
use Prim.Native.Nat.{ℕ, zero, suc, ◌+◌, ◌-◌, ◌≤◌, ◌<◌}
use mathlib.Core.Path.{◌≡◌, refl, sym, ap, ◌∙◌}
use mathlib.Core.Bool.{Bool, true, false, cond, ◌&&◌, ◌||◌, not, or-false}
use mathlib.Core.List.{List, [], ◌∷◌, ◌++◌, append-nil}
use native.Mathlib.Nat.{add-zero}
use native.Mathlib.Omega.{arith}
use lib.Dec.{eqb, ltb}
use lib.ListN.{length, take, drop}
use borrow.Author.Tests.{eqb-true, eq-eqb, ne_eqb, lt-ltb, le-ltb}
use Rattle.tables.specs.declared.letters.Conventions.{Conventions}
use Rattle.tables.specs.Text.{ascii}
use Rattle.tables.proofs.Laws.{by_cases, both, clash}
use Rattle.reader.specs.declared.store.Entry.{Entry}
use Rattle.reader.specs.Words.{same}
use Rattle.reader.specs.Boards.{record_out}
use Rattle.reader.specs.Plain.{Item, item_of, items_of, TagPair, first_bytes, tags_in}
use Rattle.reader.proofs.PlainTags.{Paired, over, tag, other, TagsPaired}
use Rattle.writer.specs.Held.{entry_word, place_bytes, item_at, items_at}
use Rattle.writer.specs.Tags.{named, first_value, is_extra, extras_from, until_deal, since_deal, before_deal, from_deal, early_extras, late_extras}
use Rattle.writer.specs.Items.{name_index, tagged_text, is_extra_at, extras_text, full_text, group_text}
use Rattle.writer.proofs.RemarkLaws.{item_kind, item_bytes}
use Rattle.writer.proofs.NamesOnce.{named_append}

-- ---- names and values

abbrev pub first_kind : List Item → ℕ
first_kind [] = 0
first_kind (i ∷ is) = i.kind

-- Each name is followed by a value.
abbrev pub are_paired : List Item → Bool
are_paired [] = true
are_paired (i ∷ is) = (not (eqb i.kind 1) || eqb (first_kind is) 2) && are_paired is

items_paired : (r : List ℕ) {Q : Entry → Entry → Type 0} {es : List Entry} → Paired Q es → are_paired (items_of r es) ≡ true
unfolding item_of
items_paired r over = refl
items_paired r (tag {a = a} {b = b} {es = es} x y g p) =
    rw (eq-eqb a.kind 1 x, eq-eqb b.kind 2 y, ne_eqb b.kind 1 (λ u. omega (arith, y, u))) (items_paired r p)
items_paired r (other {e = e} x y p) = rw (ne_eqb e.kind 1 x) (items_paired r p)

-- THEOREM. The entries of a record are so.
pub RecordPaired : (c : Conventions) (r : List ℕ) → are_paired (items_of r (record_out c r).entries) ≡ true
RecordPaired c r = items_paired r (TagsPaired c r)

-- ---- where a name stands

index_found : (n : List ℕ) (is : List Item) → named n (tags_in is) ≡ true → name_index n is < length is
index_found n [] e = clash e
index_found n (i ∷ is) e =
    by_cases (eqb i.kind 1)
    (λ t.
    by_cases (same n i.bytes)
    (λ x. rw (t, x) (omega arith))
    (λ x. rw (t, x) (omega (arith, index_found n is (rw (t, x) at e)))))
    (λ t. rw t (omega (arith, index_found n is (rw t at e))))

index_missing : (n : List ℕ) (is : List Item) → named n (tags_in is) ≡ false → name_index n is ≡ length is
index_missing n [] e = refl
index_missing n (i ∷ is) e =
    by_cases (eqb i.kind 1)
    (λ t.
    by_cases (same n i.bytes)
    (λ x. clash (sym (rw (t, x) at e)))
    (λ x. rw (t, x) (ap suc (index_missing n is (rw (t, x) at e)))))
    (λ t. rw t (ap suc (index_missing n is (rw t at e))))

names_join : (n : List ℕ) (is js : List Item) → named n (tags_in (is ++ js)) ≡ (named n (tags_in is) || named n (tags_in js))
names_join n [] js = refl
names_join n (i ∷ is) js =
    by_cases (eqb i.kind 1)
    (λ t. by_cases (same n i.bytes) (λ x. rw (t, x)) (λ x. rw (t, x) (names_join n is js)))
    (λ t. rw t (names_join n is js))

value_missing : (n : List ℕ) (ts : List TagPair) → named n ts ≡ false → first_value n ts ≡ []
value_missing n [] e = refl
value_missing n (t ∷ ts) e = by_cases (same n t.name) (λ x. clash (sym (rw x at e))) (λ x. rw x (value_missing n ts (rw x at e)))

-- What stands before a name that is sought starts as the whole does, if that starts with a value.
taken_first : (n : List ℕ) (is : List Item) → eqb (first_kind is) 2 ≡ true
    → (first_bytes (take (name_index n is) is) ≡ first_bytes is) × (first_kind (take (name_index n is) is) ≡ first_kind is)
taken_first n [] e = clash e
taken_first n (i ∷ is) e =
    let z : eqb i.kind 1 ≡ false = ne_eqb i.kind 1 (λ w. omega (arith, w, eqb-true i.kind 2 e)) in
    rw z (refl, refl)

paired_taken : (n : List ℕ) (is : List Item) → are_paired is ≡ true → are_paired (take (name_index n is) is) ≡ true
paired_taken n [] h = refl
paired_taken n (i ∷ is) h =
    let k = both (not (eqb i.kind 1) || eqb (first_kind is) 2) (are_paired is) h in
    let more = paired_taken n is k.1 in
    by_cases (eqb i.kind 1)
    (λ t.
    let v = rw t at k.0 in
    by_cases (same n i.bytes)
    (λ x. rw (t, x))
    (λ x. rw (t, x, t, (taken_first n is v).1, v) more))
    (λ t. rw (t, t) more)

pub paired_dropped : (m : ℕ) (is : List Item) → are_paired is ≡ true → are_paired (drop m is) ≡ true
paired_dropped zero is h = h
paired_dropped (suc m) [] h = refl
paired_dropped (suc m) (i ∷ is) h = paired_dropped m is (both (not (eqb i.kind 1) || eqb (first_kind is) 2) (are_paired is) h).1

-- ---- the Deal tag

until_taken : (is : List Item) → are_paired is ≡ true → until_deal (tags_in is) ≡ tags_in (take (name_index (ascii "Deal") is) is)
until_taken [] h = refl
until_taken (i ∷ is) h =
    let k = both (not (eqb i.kind 1) || eqb (first_kind is) 2) (are_paired is) h in
    let more = until_taken is k.1 in
    by_cases (eqb i.kind 1)
    (λ t.
    let v = rw t at k.0 in
    by_cases (same (ascii "Deal") i.bytes)
    (λ x. rw (t, x))
    (λ x. rw (t, x, t, (taken_first (ascii "Deal") is v).0, more)))
    (λ t. rw (t, t) more)

since_dropped : (is : List Item) → since_deal (tags_in is) ≡ tags_in (drop (name_index (ascii "Deal") is) is)
since_dropped [] = refl
since_dropped (i ∷ is) =
    let more = since_dropped is in
    by_cases (eqb i.kind 1)
    (λ t. by_cases (same (ascii "Deal") i.bytes) (λ x. rw (t, x, t)) (λ x. rw (t, x) more))
    (λ t. rw t more)

-- How many entries stand before the first Deal tag, of count in all; 0 where there is none.
abbrev pub deal_index : ℕ → List Item → ℕ
deal_index count is = cond (ltb (name_index (ascii "Deal") is) count) (name_index (ascii "Deal") is) 0

-- ---- entries in a row

module _ (text entries : List ℕ) where
  pub items_long : (e n : ℕ) → length (items_at text entries e n) ≡ n
  items_long e zero = refl
  items_long e (suc n) = ap suc (items_long (e + 1) n)

  items_last : (e j : ℕ) → items_at text entries e (suc j) ≡ items_at text entries e j ++ item_at text entries (e + j) ∷ []
  items_last e zero = rw (add-zero e)
  items_last e (suc j) =
      let z : e + 1 + j ≡ e + suc j = omega arith in
      ap (λ (is : List Item). item_at text entries e ∷ is) (rw z at (items_last (e + 1) j))

  pub items_taken : (e m n : ℕ) → m ≤ n → take m (items_at text entries e n) ≡ items_at text entries e m
  items_taken e zero n h = refl
  items_taken e (suc m) zero h = absurd (omega arith)
  items_taken e (suc m) (suc n) h = ap (λ (is : List Item). item_at text entries e ∷ is) (items_taken (e + 1) m n (omega arith))

  pub items_dropped : (e m n : ℕ) → m ≤ n → drop m (items_at text entries e n) ≡ items_at text entries (e + m) (n - m)
  items_dropped e zero n h =
      let z : n - 0 ≡ n = omega arith in
      rw (add-zero e, z)
  items_dropped e (suc m) zero h = absurd (omega arith)
  items_dropped e (suc m) (suc n) h =
      let y : e + suc m ≡ e + 1 + m = omega arith in
      let z : suc n - suc m ≡ n - m = omega arith in
      rw (y, z) (items_dropped (e + 1) m n (omega arith))

  -- The value behind a name.
  pub value_behind : (e n : ℕ) → eqb (first_kind (items_at text entries e n)) 2 ≡ true → first_bytes (items_at text entries e n) ≡ place_bytes text entries e
  value_behind e zero h = clash h
  value_behind e (suc n) h = item_bytes text entries e 2 (eqb-true (entry_word entries e 0) 2 (rw item_kind at h)) (omega arith)

  -- ---- supplemental tags

  -- A name is new where the search for it ends at its own entry.
  name_new : (n : List ℕ) (first j : ℕ) → eqb (first + name_index n (items_at text entries first j)) (first + j) ≡ not (named n (tags_in (items_at text entries first j)))
  name_new n first j =
      let is = items_at text entries first j in
      by_cases (named n (tags_in is))
      (λ e. rw e (ne_eqb (first + name_index n is) (first + j) (λ w. omega (arith, w, index_found n is e, items_long first j))))
      (λ e. rw e (eq-eqb (first + name_index n is) (first + j) (omega (arith, index_missing n is e, items_long first j))))

  extra_at : (first j : ℕ) (t : TagPair) (seen : List TagPair) → eqb (entry_word entries (first + j) 0) 1 ≡ true → t.name ≡ place_bytes text entries (first + j)
      → named t.name seen ≡ named t.name (tags_in (items_at text entries first j)) → is_extra_at text entries first (first + j) ≡ (is_extra t && not (named t.name seen))
  unfolding is_extra_at is_extra
  extra_at first j t seen k e s =
      let z : first + j - first ≡ j = omega arith in
      rw (s, z, k, ← e, name_new t.name first j)

  no_extra : (first e : ℕ) → eqb (entry_word entries e 0) 1 ≡ false → is_extra_at text entries first e ≡ false
  unfolding is_extra_at
  no_extra first e t = rw t

  -- The j entries before them have the names seen.
  extras_from_lem : (first : ℕ) (scan : List Item) (n j : ℕ) (seen : List TagPair)
      → ((m : List ℕ) → named m seen ≡ named m (tags_in (items_at text entries first j)))
      → are_paired (items_at text entries (first + j) n) ≡ true
      → extras_text text entries first scan (first + j) n ≡ group_text (extras_from seen (tags_in (items_at text entries (first + j) n))) scan
  unfolding tagged_text full_text
  extras_from_lem first scan zero j seen s h = refl
  extras_from_lem first scan (suc n) j seen s h =
      let e = first + j in
      let is = items_at text entries (e + 1) n in
      let k = both (not (eqb (item_at text entries e).kind 1) || eqb (first_kind is) 2) (are_paired is) h in
      let z : first + j + 1 ≡ first + suc j = omega arith in
      let last : (m : List ℕ) → named m (tags_in (items_at text entries first (suc j))) ≡ (named m seen || named m (tags_in (item_at text entries e ∷ []))) = λ m.
      ap (λ (js : List Item). named m (tags_in js)) (items_last first j)
      ∙ (names_join m (items_at text entries first j) (item_at text entries e ∷ [])
      ∙ ap (λ (b : Bool). b || named m (tags_in (item_at text entries e ∷ []))) (sym (s m))) in
      let more : (us : List TagPair) → ((m : List ℕ) → named m us ≡ named m (tags_in (items_at text entries first (suc j))))
      → extras_text text entries first scan (e + 1) n ≡ group_text (extras_from us (tags_in is)) scan = λ us x.
      rw z (extras_from_lem first scan n (suc j) us x (rw z at k.1)) in
      by_cases (eqb (entry_word entries e 0) 1)
      (λ t.
      let name = item_bytes text entries e 1 (eqb-true (entry_word entries e 0) 1 t) (omega arith) in
      let value = value_behind (e + 1) n (rw (item_kind, t) at k.0) in
      let this : TagPair = record { name = place_bytes text entries e; value = place_bytes text entries (e + 1) } in
      let sees : (m : List ℕ) → named m (seen ++ this ∷ []) ≡ named m (tags_in (items_at text entries first (suc j))) = λ m.
      let new : named m (this ∷ []) ≡ named m (tags_in (item_at text entries e ∷ [])) = rw (item_kind text entries e, t, name) in
      named_append m seen (this ∷ []) ∙ (ap (λ (b : Bool). named m seen || b) new ∙ sym (last m)) in
      let extra = extra_at first j this seen t refl (s this.name) in
      by_cases (is_extra this && not (named this.name seen))
      (λ x. rw (item_kind, t, name, value, extra, x, more (seen ++ this ∷ []) sees) (rw append-nil))
      (λ x. rw (item_kind, t, name, value, extra, x) (more (seen ++ this ∷ []) sees)))
      (λ t.
      let sees : (m : List ℕ) → named m seen ≡ named m (tags_in (items_at text entries first (suc j))) = λ m.
      let new : false ≡ named m (tags_in (item_at text entries e ∷ [])) = rw (item_kind text entries e, t) in
      sym (or-false (named m seen)) ∙ (ap (λ (b : Bool). named m seen || b) new ∙ sym (last m)) in
      rw (item_kind, t, no_extra first e t) (more seen sees))

  -- ---- a board

  -- The tags before the first Deal tag, and those from there on, m entries standing before it; 0 where there is none.
  record DealSplit (first count m : ℕ) : Type 0 where
    before_is : before_deal (tags_in (items_at text entries first count)) ≡ tags_in (items_at text entries first m)
    from_is : from_deal (tags_in (items_at text entries first count)) ≡ tags_in (items_at text entries (first + m) (count - m))
    before_paired : are_paired (items_at text entries first m) ≡ true
    from_paired : are_paired (items_at text entries (first + m) (count - m)) ≡ true

  deal_split : (first count : ℕ) → are_paired (items_at text entries first count) ≡ true → DealSplit first count (deal_index count (items_at text entries first count))
  deal_split first count h =
      let is = items_at text entries first count in
      let m = name_index (ascii "Deal") is in
      by_cases (named (ascii "Deal") (tags_in is))
      (λ e.
      let l : m < count = omega (arith, index_found (ascii "Deal") is e, items_long first count) in
      let taken = items_taken first m count (omega arith) in
      let dropped = items_dropped first m count (omega arith) in
      rw (lt-ltb m count l) (record {
        before_is = rw e (until_taken is h ∙ ap tags_in taken);
        from_is = rw e (since_dropped is ∙ ap tags_in dropped);
        before_paired = rw taken at (paired_taken (ascii "Deal") is h);
        from_paired = rw dropped at (paired_dropped m is h);
      }))
      (λ e.
      let l : count ≤ m = omega (arith, index_missing (ascii "Deal") is e, items_long first count) in
      let z : count - 0 ≡ count = omega arith in
      rw (le-ltb m count l) (record {
        before_is = rw e;
        from_is = rw (e, z, add-zero first);
        before_paired = refl;
        from_paired = rw (z, add-zero first) h;
      }))

  module _ (first count : ℕ) (h : are_paired (items_at text entries first count) ≡ true) (scan : List Item) where
    -- THEOREM. The supplemental tags before the first Deal tag; and those from there on, all where there is none.
    pub EarlyText : extras_text text entries first scan first (deal_index count (items_at text entries first count)) ≡ group_text (early_extras (tags_in (items_at text entries first count))) scan
    unfolding early_extras
    EarlyText =
        let m = deal_index count (items_at text entries first count) in
        let s = deal_split first count h in
        rw s.before_is (rw (add-zero first) at (extras_from_lem first scan m 0 [] (λ n. refl) (rw (add-zero first) s.before_paired)))

    pub LateText :
        extras_text text entries first scan (first + deal_index count (items_at text entries first count)) (count - deal_index count (items_at text entries first count))
        ≡ group_text (late_extras (tags_in (items_at text entries first count))) scan
    unfolding late_extras
    LateText =
        let is = items_at text entries first count in
        let m = deal_index count is in
        let s = deal_split first count h in
        rw s.from_is (extras_from_lem first scan (count - m) m (before_deal (tags_in is)) (λ n. ap (named n) s.before_is) s.from_paired)

  -- ---- the first value of a name

  value_found : (n : List ℕ) (first count : ℕ) → are_paired (items_at text entries first count) ≡ true → name_index n (items_at text entries first count) < count
      → first_value n (tags_in (items_at text entries first count)) ≡ place_bytes text entries (first + name_index n (items_at text entries first count) + 1)
  value_found n first zero h l = absurd (omega arith)
  value_found n first (suc count) h l =
      let is = items_at text entries (first + 1) count in
      let k = both (not (eqb (item_at text entries first).kind 1) || eqb (first_kind is) 2) (are_paired is) h in
      let z : first + suc (name_index n is) + 1 ≡ first + 1 + name_index n is + 1 = omega arith in
      let more : name_index n is < count → first_value n (tags_in is) ≡ place_bytes text entries (first + suc (name_index n is) + 1) = λ f. rw z (value_found n (first + 1) count k.1 f) in
      by_cases (eqb (item_at text entries first).kind 1)
      (λ t.
      by_cases (same n (item_at text entries first).bytes)
      (λ x. rw (t, x, add-zero first) (value_behind (first + 1) count (rw t at k.0)))
      (λ x. rw (t, x) (more (omega (arith, rw (t, x) at l)))))
      (λ t. rw t (more (omega (arith, rw t at l))))

  -- THEOREM. The value of the first tag of a name stands behind that name.
  pub ValueText : (n : List ℕ) (first count : ℕ) → are_paired (items_at text entries first count) ≡ true
      → first_value n (tags_in (items_at text entries first count))
      ≡ cond (ltb (name_index n (items_at text entries first count)) count) (place_bytes text entries (first + name_index n (items_at text entries first count) + 1)) []
  ValueText n first count h =
      let is = items_at text entries first count in
      by_cases (named n (tags_in is))
      (λ e.
      let l : name_index n is < count = omega (arith, index_found n is e, items_long first count) in
      rw (lt-ltb (name_index n is) count l) (value_found n first count h l))
      (λ e. rw (le-ltb (name_index n is) count (omega (arith, index_missing n is e, items_long first count))) (value_missing n (tags_in is) e))
