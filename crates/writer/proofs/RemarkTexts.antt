-- The remarks that are put back, entry by entry, are the lines of the remarks anchored to the tags sought.
use Prim.Native.Nat.{ℕ, zero, suc, ◌+◌}
use mathlib.Core.Path.{◌≡◌, refl, sym, ap, ◌∙◌}
use mathlib.Core.Bool.{Bool, true, false, cond, not}
use mathlib.Core.List.{List, [], ◌∷◌, map}
use mathlib.Core.Option.{Option, none, some}
use native.Mathlib.Nat.{zero-add, add-zero}
use native.Mathlib.Numerals.{add-one}
use native.Mathlib.Omega.{arith}
use lib.Dec.{eqb}
use lib.ListN.{get_elem?}
use borrow.Author.Tests.{eqb-true}
use Rattle.tables.specs.declared.letters.Conventions.{Conventions}
use Rattle.tables.proofs.Laws.{by_cases, neither, clash}
use Rattle.reader.specs.declared.store.Entry.{Entry}
use Rattle.reader.specs.Words.{same}
use Rattle.reader.specs.Boards.{record_out}
use Rattle.reader.specs.Plain.{Item, item_of, items_of, TagPair, Remark, PlainBoard, first_bytes, tags_in, remarks_in, without_returns, block_value, AnchoredEntries as AnchoredEntries, free, next}
use Rattle.reader.proofs.WordLaws.{same_self}
use Rattle.reader.proofs.PlainAnchors.{TagsBefore}
use Rattle.writer.specs.Tags.{named, written_tags}
use Rattle.writer.specs.Remarks.{Anchored, anchor_of, anchored_from, those, is_leading, is_under, tag_unwritten, WrittenLine, directive_line, block_line, directive_lines, block_lines, line_text, lines_text}
use Rattle.writer.specs.PresentSteps.{present_of}
use Rattle.writer.specs.Items.{Leading, Under, Unwritten, sought_by, is_first, remark_text, remarks_text, after_text, note_takes, is_remark, has_remarks}
use Rattle.writer.proofs.GroupLines.{takes_anchored}
use Rattle.writer.proofs.NamesOnce.{Written}

-- ---- marks

-- The tags up to an entry with n before it.
abbrev pub counting : ℕ → Item → ℕ
counting n i = cond (eqb i.kind 1) (suc n) n

-- Entries with n tags before the first: each directive and each block says how many tags stand before it.
pub data MarkedItems : ℕ → List Item → Type 0 where
  unmarked : {n : ℕ} → MarkedItems n []
  marking : {n : ℕ} {i : Item} {is : List Item} → (is_remark i.kind ≡ true → i.mark ≡ n) → MarkedItems (counting n i) is → MarkedItems n (i ∷ is)

items_marked : (r : List ℕ) {n : ℕ} {es : List Entry} → AnchoredEntries n es → MarkedItems n (items_of r es)
unfolding item_of
items_marked r free = unmarked
items_marked r {n = n} (next {e = e} {es = es} m a) =
    marking {i = item_of r e} {is = items_of r es} m.marked
    (by_cases (eqb e.kind 1)
    (λ t. rw t (rw (t, add-one) at (items_marked r a)))
    (λ t. rw t (rw (t, add-zero) at (items_marked r a))))

-- THEOREM. The entries of a record are so.
pub RecordMarked : (c : Conventions) (r : List ℕ) → MarkedItems 0 (items_of r (record_out c r).entries)
RecordMarked c r = items_marked r (TagsBefore c r)

-- ---- the names sought

-- A test of remarks is u of those before every tag, and p of the tag that any other is anchored to.
pub record Tells (ts : List TagPair) (q : Anchored → Bool) (p : TagPair → Bool) (u : Bool) : Type 0 where
  pub first_told : (j : ℕ) (bs : List ℕ) → q (record { number = j; bytes = bs; anchor = none }) ≡ u
  pub tag_told : (j k : ℕ) (bs : List ℕ) (t : TagPair) → get_elem? ts k ≡ some t → q (record { number = j; bytes = bs; anchor = some t }) ≡ p t

pub leading_tells : (ts : List TagPair) (n : List ℕ) → Tells ts is_leading (λ t. sought_by Leading n t.name) (is_first Leading)
leading_tells ts n = record { first_told = λ j bs. refl; tag_told = λ j k bs t e. refl }

pub under_tells : (ts : List TagPair) (n : List ℕ) → Tells ts (is_under n) (λ t. sought_by Under n t.name) (is_first Under)
under_tells ts n = record { first_told = λ j bs. refl; tag_told = λ j k bs t e. refl }

pub takes_tells : (ts : List TagPair) (earlier : List (List ℕ)) (v : List ℕ) (vs : List (List ℕ)) → Tells ts (takes_anchored earlier v vs) (note_takes earlier v vs) false
takes_tells ts earlier v vs = record { first_told = λ j bs. refl; tag_told = λ j k bs t e. refl }

-- The name of any of the tags.
name_stands : (ts : List TagPair) (k : ℕ) (t : TagPair) → get_elem? ts k ≡ some t → named t.name ts ≡ true
name_stands [] k t e = let z : ◌≡◌ {A = ℕ} 0 1 = cc in absurd (omega arith)
name_stands (u ∷ ts) zero t e =
    let z : u ≡ t = cc in
    rw (z, same_self t.name)
name_stands (u ∷ ts) (suc k) t e = by_cases (same t.name u.name) (λ x. rw x) (λ x. rw x (name_stands ts k t e))

pub lost_tells : (c : Conventions) (b : PlainBoard) (play : List (List ℕ)) (n : List ℕ) (ts : List TagPair) → b.tags ≡ ts
    → Tells ts (tag_unwritten (written_tags c b play)) (λ t. sought_by (Unwritten (present_of b)) n t.name) (is_first (Unwritten (present_of b)))
lost_tells c b play n ts q =
    record {
      first_told = λ j bs. refl;
      tag_told = λ j k bs t e. ap not (Written c b play t.name (λ z. rw q (name_stands ts k t e)));
    }

-- ---- remarks

-- A remark whose bytes are taken otherwise.
abbrev pub valued : (List ℕ → List ℕ) → Remark → Remark
valued f r = record { bytes = f r.bytes; before = r.before }

-- The remarks of the kind k, each on lines as the kind has them.
module _ (k : ℕ) (h : is_remark k ≡ true) (line : Anchored → WrittenLine) (f : List ℕ → List ℕ)
    (puts : (j : ℕ) (bs : List ℕ) (o : Option TagPair) → line_text (line (record { number = j; bytes = f bs; anchor = o })) ≡ remark_text k bs)
    (ts : List TagPair) (q : Anchored → Bool) (p : TagPair → Bool) (u : Bool) (w : Tells ts q p u) where
  no_tag_lem : (i : Item) → eqb i.kind 1 ≡ true → eqb i.kind k ≡ false
  no_tag_lem i t =
      by_cases (eqb i.kind k)
      (λ x. clash (ap is_remark (sym (eqb-true i.kind 1 t) ∙ eqb-true i.kind k x) ∙ h))
      (λ x. x)

  -- n tags stand before the entries, and under says it of the last of them.
  remarks_from : (n j : ℕ) (under : Bool) (is : List Item) → MarkedItems n is
      → ((i : ℕ) (bs : List ℕ) → q (record { number = i; bytes = bs; anchor = anchor_of ts n }) ≡ under)
      → ((i : ℕ) → get_elem? ts (n + i) ≡ get_elem? (tags_in is) i)
      → lines_text (map line (those q (anchored_from ts j (map (valued f) (remarks_in k is))))) ≡ remarks_text p under k is
  remarks_from n j under [] unmarked here there = refl
  remarks_from n j under (i ∷ is) (marking m a) here there =
      by_cases (eqb i.kind 1)
      (λ t.
      let met : TagPair = record { name = i.bytes; value = first_bytes is } in
      let name : get_elem? ts n ≡ some met = ap (get_elem? ts) (sym (add-zero n)) ∙ (there 0 ∙ rw t) in
      let rest : (l : ℕ) → get_elem? ts (suc n + l) ≡ get_elem? (tags_in is) l = λ l.
      let z : suc n + l ≡ n + suc l = omega arith in
      ap (get_elem? ts) z ∙ (there (suc l) ∙ rw t) in
      let told : (l : ℕ) (bs : List ℕ) → q (record { number = l; bytes = bs; anchor = anchor_of ts (suc n) }) ≡ p met = λ l bs.
      rw name (w.tag_told l n bs met name) in
      rw (t, no_tag_lem i t) (remarks_from (suc n) j (p met) is (rw t at a) told rest))
      (λ t.
      let rest : (l : ℕ) → get_elem? ts (n + l) ≡ get_elem? (tags_in is) l = λ l. there l ∙ rw t in
      let more : (l : ℕ) → lines_text (map line (those q (anchored_from ts l (map (valued f) (remarks_in k is))))) ≡ remarks_text p under k is = λ l.
      remarks_from n l under is (rw t at a) here rest in
      by_cases (eqb i.kind k)
      (λ x.
      let mark : i.mark ≡ n = m (ap is_remark (eqb-true i.kind k x) ∙ h) in
      by_cases under
      (λ y. rw (t, x, mark, here j (f i.bytes), y, puts j i.bytes (anchor_of ts n), more (j + 1), y))
      (λ y. rw (t, x, mark, here j (f i.bytes), y) (rw y at (more (j + 1)))))
      (λ x. rw (t, x) (more j)))

  pub remarks_are : (is : List Item) → MarkedItems 0 is → ts ≡ tags_in is
      → lines_text (map line (those q (anchored_from ts 0 (map (valued f) (remarks_in k is))))) ≡ remarks_text p u k is
  remarks_are is m e = remarks_from 0 0 u is m w.first_told (λ i. rw (zero-add, e))

-- ---- directives and blocks

-- Those of a board's entries, each with its anchor.
abbrev pub directives_in : List Item → List Anchored
directives_in is = anchored_from (tags_in is) 0 (remarks_in 3 is)

abbrev pub blocks_in : List Item → List Anchored
blocks_in is = anchored_from (tags_in is) 0 (map block_value (remarks_in 4 is))

as_they_are : (ks : List Remark) → map (valued (λ bs. bs)) ks ≡ ks
as_they_are [] = refl
as_they_are (k ∷ ks) = ap (λ (ls : List Remark). k ∷ ls) (as_they_are ks)

-- THEOREM. Directives and blocks that meet a test are written as the entries have them.
module _ (is : List Item) (m : MarkedItems 0 is) {q : Anchored → Bool} {p : TagPair → Bool} {u : Bool} (w : Tells (tags_in is) q p u) where
  pub DirectivesText : lines_text (directive_lines (those q (directives_in is))) ≡ remarks_text p u 3 is
  unfolding line_text
  DirectivesText =
      ap (λ (ks : List Remark). lines_text (directive_lines (those q (anchored_from (tags_in is) 0 ks)))) (sym (as_they_are (remarks_in 3 is)))
      ∙ remarks_are 3 refl (λ k. directive_line k.number k.bytes) (λ bs. bs) (λ j bs o. refl) (tags_in is) q p u w is m refl

  pub BlocksText : lines_text (block_lines (those q (blocks_in is))) ≡ remarks_text p u 4 is
  unfolding line_text
  BlocksText = remarks_are 4 refl (λ k. block_line k.number k.bytes) without_returns (λ j bs o. refl) (tags_in is) q p u w is m refl

-- ---- no remarks

-- Where there is none, none is put.
pub remarks_none : (p : TagPair → Bool) (u : Bool) (k : ℕ) (is : List Item) → is_remark k ≡ true → has_remarks is ≡ false → remarks_text p u k is ≡ []
remarks_none p u k [] h e = refl
remarks_none p u k (i ∷ is) h e =
    let z = neither (is_remark i.kind) (has_remarks is) e in
    let x : eqb i.kind k ≡ false = by_cases (eqb i.kind k) (λ t. clash (sym z.0 ∙ (ap is_remark (eqb-true i.kind k t) ∙ h))) (λ t. t) in
    by_cases (eqb i.kind 1)
    (λ t. rw t (remarks_none p (p (record { name = i.bytes; value = first_bytes is })) k is h z.1))
    (λ t. rw (t, x) (remarks_none p u k is h z.1))

pub after_none : (n : List ℕ) (is : List Item) → has_remarks is ≡ false → after_text n is ≡ after_text n []
unfolding after_text
after_none n is e = rw (remarks_none (λ t. sought_by Under n t.name) false 3 is refl e, remarks_none (λ t. sought_by Under n t.name) false 4 is refl e)
