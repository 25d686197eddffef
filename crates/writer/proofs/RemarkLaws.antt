-- Laws of the entries of a board in a row, and of its remarks.
use Prim.Native.Nat.{ℕ, suc, ◌+◌, ◌-◌, ◌≤◌, ◌<◌}
use mathlib.Core.Path.{◌≡◌, refl, sym, ◌∙◌}
use mathlib.Core.Bool.{Bool, true, false, ◌&&◌}
use mathlib.Core.List.{List, [], ◌∷◌, ◌++◌}
use native.Mathlib.Omega.{arith}
use lib.Dec.{eqb}
use borrow.Author.Tests.{eqb-true, ne_eqb}
use Rattle.tables.proofs.Laws.{both}
use Rattle.reader.specs.Plain.{TagPair, first_bytes}
use Rattle.writer.specs.declared.items.Items.{Items}
use Rattle.writer.specs.Held.{entry_word, place_bytes, item_at, items_at}
use Rattle.writer.specs.Items.{items_of, item_of, tag_of, ItemsFrom, IsNextEntry, remark_text, remarks_text}

-- ---- entries in a row

-- Those that are gone over are the next one and the others.
pub items_next : {is next rest : Items} → IsNextEntry is next rest → items_of is ≡ item_of next ∷ items_of rest
items_next {is} {next} {rest} s =
    let q : is.count ≡ suc rest.count = omega (arith, s.more) in
    rw (q, s.next_is, s.rest_is.same_text, s.rest_is.same_entries, s.rest_is.first_is)

pub items_none : (is : Items) → is.count ≡ 0 → items_of is ≡ []
items_none is q = rw q

-- Those that were made of others.
pub items_made : {js : Items} {first n : ℕ} {is : Items} → ItemsFrom js first n is → items_of is ≡ items_at js.text.now js.entries.now first n
items_made m = rw (m.same_text, m.same_entries, m.first_is, m.count_is)

pub item_kind : (text entries : List ℕ) (e : ℕ) → (item_at text entries e).kind ≡ entry_word entries e 0
unfolding item_at
item_kind text entries e = refl

pub item_mark : (text entries : List ℕ) (e : ℕ) → (item_at text entries e).mark ≡ entry_word entries e 3
unfolding item_at
item_mark text entries e = refl

-- An entry that is no trick has the bytes at its place.
pub item_bytes : (text entries : List ℕ) (e k : ℕ) → entry_word entries e 0 ≡ k → k ≤ 7 → (item_at text entries e).bytes ≡ place_bytes text entries e
unfolding item_at
item_bytes text entries e k q h =
    let z : eqb (entry_word entries e 0) 8 ≡ false = ne_eqb (entry_word entries e 0) 8 (λ w. omega (arith, w, q)) in
    rw z

pub first_item : (is : Items) (k : ℕ) → (item_of is).kind ≡ k → k ≤ 7 → (item_of is).bytes ≡ place_bytes is.text.now is.entries.now is.first
first_item is k q h = item_bytes is.text.now is.entries.now is.first k (sym (item_kind is.text.now is.entries.now is.first) ∙ q) h

-- The bytes of the second of them.
pub second_none : (is : Items) → is.count < 2 → (tag_of is).value ≡ []
second_none is h =
    let q : is.count - 1 ≡ 0 = omega arith in
    rw q

pub second_trick : (is : Items) → 2 ≤ is.count → entry_word is.entries.now (is.first + 1) 0 ≡ 8 → (tag_of is).value ≡ []
unfolding item_at
second_trick is h q =
    let z : is.count - 1 ≡ suc (is.count - 2) = omega arith in
    rw (z, q)

pub second_value : (is : Items) → 2 ≤ is.count → (entry_word is.entries.now (is.first + 1) 0 ≡ 8 → ⊥) → (tag_of is).value ≡ place_bytes is.text.now is.entries.now (is.first + 1)
unfolding item_at
second_value is h q =
    let z : is.count - 1 ≡ suc (is.count - 2) = omega arith in
    rw (z, ne_eqb (entry_word is.entries.now (is.first + 1) 0) 8 q)

-- ---- remarks

module _ {is next rest : Items} (s : IsNextEntry is next rest) where
  tag_next : (item_of next).kind ≡ 1 → ◌≡◌ {A = TagPair} (record { name = (item_of next).bytes; value = first_bytes (items_of rest) }) (tag_of next)
  tag_next q =
      let z : next.count - 1 ≡ rest.count = rw s.next_is (omega (arith, s.more)) in
      rw (first_item next 1 q (omega arith), z, s.rest_is.same_text, s.rest_is.same_entries, s.rest_is.first_is, s.next_is)

  module _ (p : TagPair → Bool) (under : Bool) (k : ℕ) where
    -- A tag: the test is asked of it.
    pub remarks_tag : (item_of next).kind ≡ 1 → remarks_text p under k (items_of is) ≡ remarks_text p (p (tag_of next)) k (items_of rest)
    remarks_tag q = rw (items_next s, q, tag_next q)

    -- A remark that is sought.
    pub remarks_put : ((item_of next).kind ≡ 1 → ⊥) → k ≤ 4 → (eqb (item_of next).kind k && under) ≡ true
        → remarks_text p under k (items_of is) ≡ remark_text k (place_bytes next.text.now next.entries.now next.first) ++ remarks_text p under k (items_of rest)
    remarks_put n f q = rw (items_next s, ne_eqb _ _ n, q, first_item next k (eqb-true _ _ (both (eqb (item_of next).kind k) under q).0) (omega arith))

    -- Any other entry.
    pub remarks_pass : ((item_of next).kind ≡ 1 → ⊥) → (eqb (item_of next).kind k && under) ≡ false → remarks_text p under k (items_of is) ≡ remarks_text p under k (items_of rest)
    remarks_pass n q = rw (items_next s, ne_eqb _ _ n, q)
