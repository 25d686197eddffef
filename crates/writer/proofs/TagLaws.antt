-- Laws of the search for a name and of supplemental tags.
use Prim.Native.Nat.{ℕ, suc, ◌+◌, ◌-◌, ◌<◌, ◌≤◌}
use mathlib.Core.Path.{◌≡◌, sym, ap}
use mathlib.Core.Bool.{Bool, true, false, not}
use mathlib.Core.List.{List, ◌++◌}
use native.Mathlib.Omega.{arith}
use lib.Dec.{eqb}
use lib.ListN.{length}
use borrow.Author.Tests.{eq-eqb, eqb-true, ne_eqb}
use Rattle.std.proofs.Common.{Option, None, Some}
use Rattle.std.specs.Option.{MatchOption, is_some}
use Rattle.tables.proofs.Laws.{by_cases, clash}
use Rattle.reader.specs.Words.{same}
use Rattle.reader.specs.Plain.{Item}
use Rattle.reader.proofs.WordLaws.{same_is}
use Rattle.writer.specs.declared.items.Items.{Items}
use Rattle.writer.specs.Held.{place_bytes}
use Rattle.writer.specs.Items.{items_of, item_of, IsNextEntry, name_index, tagged_text, is_extra_at, extras_text}
use Rattle.writer.proofs.RemarkLaws.{items_next, first_item}

-- ---- the search for a name

module _ {is next rest : Items} (s : IsNextEntry is next rest) (n : List ℕ) where
  -- A tag of the name.
  pub name_here : (item_of next).kind ≡ 1 → same n (place_bytes next.text.now next.entries.now next.first) ≡ true → name_index n (items_of is) ≡ 0
  name_here q e = rw (items_next s, q, first_item next 1 q (omega arith), e)

  -- A tag of another name is passed over, and so is any other entry.
  pub name_other : (item_of next).kind ≡ 1 → same n (place_bytes next.text.now next.entries.now next.first) ≡ false
      → name_index n (items_of is) ≡ suc (name_index n (items_of rest))
  name_other q e = rw (items_next s, q, first_item next 1 q (omega arith), e)

  pub name_pass : ((item_of next).kind ≡ 1 → length n ≡ length (place_bytes next.text.now next.entries.now next.first) → ⊥)
      → name_index n (items_of is) ≡ suc (name_index n (items_of rest))
  name_pass q =
      let m = place_bytes next.text.now next.entries.now next.first in
      by_cases (eqb (item_of next).kind 1)
      (λ t.
      let k = eqb-true (item_of next).kind 1 t in
      by_cases (same n m) (λ e. absurd (q k (ap length (same_is n m e)))) (λ e. name_other k e))
      (λ t. rw (items_next s, t))

-- A name is not found before the entry e, which is the first of its name exactly then.
pub found_none : (o : Option ℕ) (n : List ℕ) (is : Items) {b : Bool} {js : List Item} {first e : ℕ}
    → MatchOption o (name_index n (items_of is) ≡ is.count) (λ k. (k ≡ name_index n (items_of is)) × (k < is.count))
    → is_some o ≡ not b → items_of is ≡ js → is.first ≡ first → is.count ≡ e - first → first ≤ e → b ≡ eqb (first + name_index n js) e
found_none o n is {b} {js} {first} {e} m s q f k h = rw (← q) (either o b m s)
  where
    either : (o : Option ℕ) (b : Bool)
        → MatchOption o (name_index n (items_of is) ≡ is.count) (λ k. (k ≡ name_index n (items_of is)) × (k < is.count))
        → is_some o ≡ not b → b ≡ eqb (first + name_index n (items_of is)) e
    either None true m s = sym (eq-eqb _ _ (omega (arith, m, f, k, h)))
    either None false m s = absurd (clash s)
    either (Some x) true m s = absurd (clash (sym s))
    either (Some x) false m s = sym (ne_eqb _ _ (λ z. omega (arith, m.0, m.1, z, f, k, h)))

-- ---- supplemental tags

abbrev pub extras_of : List Item → ℕ → Items → List ℕ
extras_of js first is = extras_text is.text.now is.entries.now first js is.first is.count

module _ {is next rest : Items} (s : IsNextEntry is next rest) (js : List Item) (first : ℕ) where
  pub extras_put : is_extra_at next.text.now next.entries.now first next.first ≡ true
      → extras_of js first is ≡ tagged_text (place_bytes next.text.now next.entries.now next.first) (place_bytes next.text.now next.entries.now (next.first + 1)) js ++ extras_of js first rest
  extras_put q =
      let w : is.count ≡ suc rest.count = omega (arith, s.more) in
      let p : is_extra_at is.text.now is.entries.now first is.first ≡ true = rw s.next_is at q in
      rw (s.next_is, w, p, s.rest_is.same_text, s.rest_is.same_entries, s.rest_is.first_is)

  pub extras_pass : is_extra_at next.text.now next.entries.now first next.first ≡ false → extras_of js first is ≡ extras_of js first rest
  extras_pass q =
      let w : is.count ≡ suc rest.count = omega (arith, s.more) in
      let p : is_extra_at is.text.now is.entries.now first is.first ≡ false = rw s.next_is at q in
      rw (w, p, s.rest_is.same_text, s.rest_is.same_entries, s.rest_is.first_is)
