-- The notes of an auction by their places: that they are all its notes by rising number, and which directives each takes.
use Prim.Native.Nat.{ℕ, zero, suc, ◌+◌, ◌-◌, ◌≤◌, ◌<◌}
use mathlib.Core.Path.{◌≡◌, refl, sym, ap, ◌∙◌}
use mathlib.Core.Bool.{Bool, true, false, cond, ◌&&◌, ◌||◌, not, and-false, and-true, or-false, or-true}
use mathlib.Core.List.{List, [], ◌∷◌, ◌++◌, append-nil, append_assoc}
use mathlib.Core.Option.{Option, none, some}
use native.Mathlib.Nat.{zero-add}
use native.Mathlib.Numerals.{add-one}
use native.Mathlib.Omega.{arith}
use lib.Dec.{eqb, ltb, leb}
use lib.ListN.{length, set, get_or, replicate, length-set, length-replicate, get_or-replicate}
use lib.Seq.{get_or-set_same, get_or-set_other}
use borrow.Author.Tests.{eq-eqb, ne_eqb, eqb-true, eqb-false, ltb-true, ltb-false, leb-true, leb-false, lt-ltb, le-ltb, le-leb, lt-leb}
use Rattle.std.specs.List.{list_any}
use Rattle.tables.specs.Text.{ascii}
use Rattle.tables.specs.Numbers.{decimal}
use Rattle.tables.proofs.Laws.{by_cases, neither, either, clash}
use Rattle.reader.specs.Words.{same}
use Rattle.reader.specs.Plain.{Item, TagPair, first_bytes}
use Rattle.reader.proofs.WordLaws.{same_is}
use Rattle.writer.specs.Sections.{note_in, later, note_at, note_value, notes_from, note_values}
use Rattle.writer.specs.Held.{entry_word, place_bytes}
use Rattle.writer.specs.PresentSteps.{is_there, is_any}
use Rattle.writer.specs.declared.items.Items.{Items}
use Rattle.writer.specs.Items.{Under, IsNextEntry, remarks_text, sought_text, has_value, note_takes, notes_text, tags_at, note_number, note_number_at, note_places, note_text, placed_note, note_of, takes_value, takes_tag, full_note, full_notes, all_notes}
use Rattle.writer.proofs.NoteLaws.{behind_colon, note_in_lem, note_256, number_back, holds_append}

-- ---- numbers

between : (p n k : ℕ) → (eqb p n || (leb (n + 1) p && ltb p (n + 1 + k))) ≡ (leb n p && ltb p (n + suc k))
between p n k =
    by_cases (eqb p n)
    (λ e.
    let q = eqb-true p n e in
    rw (e, le-leb n p (omega (arith, q)), lt-ltb p (n + suc k) (omega (arith, q))))
    (λ e.
    let q : p ≡ n → ⊥ = eqb-false p n e in
    let z : n + 1 + k ≡ n + suc k = omega arith in
    by_cases (leb n p)
    (λ x. rw (e, x, le-leb (n + 1) p (omega (arith, leb-true n p x)), z))
    (λ x. rw (e, x, lt-leb (n + 1) p (omega (arith, leb-false n p x)))))

below : (p n m : ℕ) → n < m → (ltb p n || (leb n p && ltb p m)) ≡ ltb p m
below p n m h =
    by_cases (ltb p n)
    (λ e. rw (e, lt-ltb p m (omega (arith, ltb-true p n e))))
    (λ e. rw (e, le-leb n p (ltb-false p n e)))

first_or_own : (p n : ℕ) (first : Bool) → n < 256 → cond (ltb p 256) (eqb p n && not (ltb p n)) first ≡ (eqb p n || (first && leb 256 p))
first_or_own p n first h =
    by_cases (ltb p 256)
    (λ e.
    rw (e, lt-leb 256 p (ltb-true p 256 e), and-false)
    (by_cases (eqb p n) (λ x. rw (x, le-ltb p n (omega (arith, eqb-true p n x)))) (λ x. rw x)))
    (λ e.
    let l = ltb-false p 256 e in
    rw (e, le-leb 256 p l, ne_eqb p n (λ x. omega (arith, x, l)), and-true))

pub set_past : (l : List ℕ) (i a : ℕ) → length l ≤ i → set l i a ≡ l
set_past [] i a h = refl
set_past (x ∷ xs) zero a h = absurd (omega arith)
set_past (x ∷ xs) (suc i) a h = ap (λ (l : List ℕ). x ∷ l) (set_past xs i a (omega arith))

-- ---- remarks

remarks_same : (p q : TagPair → Bool) → ((t : TagPair) → p t ≡ q t) → (under : Bool) (k : ℕ) (is : List Item) → remarks_text p under k is ≡ remarks_text q under k is
remarks_same p q h under k [] = refl
remarks_same p q h under k (i ∷ is) =
    let t : TagPair = record { name = i.bytes; value = first_bytes is } in
    rw (h t, remarks_same p q h (q t) k is, remarks_same p q h under k is)

any_last : (vs : List (List ℕ)) (v : List ℕ) → is_any (vs ++ v ∷ []) ≡ true
any_last [] v = refl
any_last (u ∷ vs) v = refl

cond_not : (x : Bool) (bs : List ℕ) → cond (not x) bs [] ≡ cond x [] bs
cond_not true bs = refl
cond_not false bs = refl

-- ---- whether there is a note

-- The numbers of the notes that the n entries from e on name, 256 where one names none.
abbrev pub numbers_at : List ℕ → List ℕ → ℕ → ℕ → List ℕ
numbers_at text entries e zero = []
numbers_at text entries e (suc n) = note_number_at text entries e ∷ numbers_at text entries (e + 1) n

-- One of the entries names a note with a number.
abbrev pub has_note : List ℕ → List ℕ → ℕ → ℕ → Bool
has_note text entries e n = list_any (λ m. ltb m 256) (numbers_at text entries e n)

later_later : (x y z : Option (List ℕ)) → later (later x y) z ≡ later x (later y z)
later_later none y z = refl
later_later (some x) y z = refl

later_some : (x y : Option (List ℕ)) → is_there (later x y) ≡ (is_there x || is_there y)
later_some none y = refl
later_some (some x) y = refl

any_value : (n : ℕ) (o : Option (List ℕ)) (vs : List (List ℕ)) → is_any (note_value n o ++ vs) ≡ (is_there o || is_any vs)
any_value n none vs = refl
any_value n (some t) vs = refl

pub none_between : (k n : ℕ) (ts : List TagPair) → ((m : ℕ) → n ≤ m → m < n + k → note_at m ts ≡ none) → notes_from k n ts ≡ []
unfolding notes_from
none_between zero n ts f = refl
none_between (suc k) n ts f = rw (f n (omega arith) (omega arith), none_between k (n + 1) ts (λ m u v. f m (omega arith) (omega arith)))

some_between : (k n m : ℕ) (ts : List TagPair) → n ≤ m → m < n + k → is_there (note_at m ts) ≡ true → is_any (notes_from k n ts) ≡ true
unfolding notes_from
some_between zero n m ts a b e = absurd (omega arith)
some_between (suc k) n m ts a b e =
    any_value n (note_at n ts) (notes_from k (n + 1) ts)
    ∙ by_cases (is_there (note_at n ts))
    (λ t. rw t)
    (λ t.
    rw t
    (by_cases (eqb m n)
    (λ q. clash (sym t ∙ (ap (λ (x : ℕ). is_there (note_at x ts)) (sym (eqb-true m n q)) ∙ e)))
    (λ q.
    let d : m ≡ n → ⊥ = eqb-false m n q in
    some_between k (n + 1) m ts (omega arith) (omega arith) e)))

-- Entries that are gone over: the numbers that are left, and the places with those that are left put over them.
abbrev pub numbers_left : Items → List ℕ
numbers_left is = numbers_at is.text.now is.entries.now is.first is.count

abbrev pub places_left : List ℕ → Items → List ℕ
places_left places is = note_places is.text.now is.entries.now places is.first is.count

abbrev pub number_of_first : Items → ℕ
number_of_first is = note_number_at is.text.now is.entries.now is.first

module _ {is next rest : Items} (s : IsNextEntry is next rest) where
  pub numbers_next : numbers_left is ≡ number_of_first next ∷ numbers_left rest
  numbers_next =
      let q : is.count ≡ suc rest.count = omega (arith, s.more) in
      rw (q, s.next_is, s.rest_is.same_text, s.rest_is.same_entries, s.rest_is.first_is)

  pub places_next : (places : List ℕ) → places_left places is ≡ places_left (set places (number_of_first next) (next.first + 1)) rest
  places_next places =
      let q : is.count ≡ suc rest.count = omega (arith, s.more) in
      rw (q, s.next_is, s.rest_is.same_text, s.rest_is.same_entries, s.rest_is.first_is)

module _ (text entries : List ℕ) where
  abbrev tag_at : ℕ → TagPair
  tag_at e = record { name = place_bytes text entries e; value = place_bytes text entries (e + 1) }

  -- A number that a note has, where there is one.
  record Numbered (ts : List TagPair) : Type 0 where
    number : ℕ
    low : number < 256
    there : is_there (note_at number ts) ≡ true

  tag_has : (e : ℕ) → ltb (note_number_at text entries e) 256 ≡ true → entry_word entries e 0 ≡ 1
  tag_has e q =
      by_cases (eqb (entry_word entries e 0) 1)
      (λ t. eqb-true (entry_word entries e 0) 1 t)
      (λ t. absurd (omega (arith, ltb-true (note_number_at text entries e) 256 q, note_256 text entries e (eqb-false (entry_word entries e 0) 1 t))))

  has_some : (e n : ℕ) → has_note text entries e n ≡ true → Numbered (tags_at text entries e n)
  has_some e zero q = clash q
  has_some e (suc n) q =
      by_cases (ltb (note_number_at text entries e) 256)
      (λ t.
      let m = note_number_at text entries e in
      let k = tag_has e t in
      let l = ltb-true m 256 t in
      rw (eq-eqb (entry_word entries e 0) 1 k)
      (record {
        number = m;
        low = l;
        there = later_some (note_at m (tags_at text entries (e + 1) n)) (note_in m (tag_at e)) ∙ rw (note_in_lem text entries e m k l, eq-eqb m m refl) (or_true (is_there (note_at m (tags_at text entries (e + 1) n))));
      }))
      (λ t.
      let r = has_some (e + 1) n (rw t at q) in
      by_cases (eqb (entry_word entries e 0) 1)
      (λ k. rw k (record { number = r.number; low = r.low; there = later_some (note_at r.number (tags_at text entries (e + 1) n)) (note_in r.number (tag_at e)) ∙ rw r.there }))
      (λ k. rw k r))
    where
      or_true : (x : Bool) → (x || true) ≡ true
      or_true true = refl
      or_true false = refl

  has_none : (e n m : ℕ) → has_note text entries e n ≡ false → m < 256 → note_at m (tags_at text entries e n) ≡ none
  has_none e zero m q h = refl
  has_none e (suc n) m q h =
      let z = neither (ltb (note_number_at text entries e) 256) (has_note text entries (e + 1) n) q in
      let r = has_none (e + 1) n m z.1 h in
      let l = ltb-false (note_number_at text entries e) 256 z.0 in
      by_cases (eqb (entry_word entries e 0) 1)
      (λ k. rw (k, r, note_in_lem text entries e m (eqb-true (entry_word entries e 0) 1 k) h, ne_eqb (note_number_at text entries e) m (λ w. omega (arith, w, l, h))))
      (λ k. rw k r)

  -- THEOREM. There is a note among the entries exactly where one is written.
  pub AnyNote : (e n : ℕ) → has_note text entries e n ≡ is_any (note_values (tags_at text entries e n))
  unfolding note_values
  AnyNote e n =
      by_cases (has_note text entries e n)
      (λ q.
      let r = has_some e n q in
      q ∙ sym (some_between 256 0 r.number (tags_at text entries e n) (omega arith) (omega (arith, r.low)) r.there))
      (λ q. q ∙ sym (ap is_any (none_between 256 0 (tags_at text entries e n) (λ m u v. has_none e n m q (omega arith)))))

  -- ---- places

  -- The values of the notes that have a place, from the number n on, k numbers long.
  abbrev placed_notes : List ℕ → ℕ → ℕ → List (List ℕ)
  placed_notes places zero n = []
  placed_notes places (suc k) n = placed_note text entries places n ++ placed_notes places k (n + 1)

  -- The text of the note m by its place.
  abbrev placed_text : List ℕ → ℕ → Option (List ℕ)
  placed_text places m = cond (eqb (get_or places m 0) 0) none (some (behind_colon (place_bytes text entries (get_or places m 0))))

  placed_tag : (places : List ℕ) (e m : ℕ) → entry_word entries e 0 ≡ 1 → length places ≡ 256 → m < 256
      → placed_text (set places (note_number_at text entries e) (e + 1)) m ≡ later (note_in m (tag_at e)) (placed_text places m)
  placed_tag places e m k l h =
      by_cases (eqb (note_number_at text entries e) m)
      (λ q.
      let w = eqb-true (note_number_at text entries e) m q in
      let g : get_or (set places (note_number_at text entries e) (e + 1)) m 0 ≡ e + 1 = rw w (get_or-set_same places m (e + 1) 0 (omega arith)) in
      rw (g, ne_eqb (e + 1) 0 (λ z. omega (arith, z)), note_in_lem text entries e m k h, q))
      (λ q.
      let d : note_number_at text entries e ≡ m → ⊥ = eqb-false (note_number_at text entries e) m q in
      rw (get_or-set_other places (note_number_at text entries e) m (e + 1) 0 (λ z. d (sym z)), note_in_lem text entries e m k h, q))

  placed_all : (places : List ℕ) (e n m : ℕ) → length places ≡ 256 → m < 256
      → placed_text (note_places text entries places e n) m ≡ later (note_at m (tags_at text entries e n)) (placed_text places m)
  placed_all places e zero m l h = refl
  placed_all places e (suc n) m l h =
      let next = set places (note_number_at text entries e) (e + 1) in
      let r = placed_all next (e + 1) n m (length-set places (note_number_at text entries e) (e + 1) ∙ l) h in
      by_cases (eqb (entry_word entries e 0) 1)
      (λ k.
      r
      ∙ rw (k, placed_tag places e m (eqb-true (entry_word entries e 0) 1 k) l h)
      (sym (later_later (note_at m (tags_at text entries (e + 1) n)) (note_in m (tag_at e)) (placed_text places m))))
      (λ k.
      let z = note_256 text entries e (eqb-false (entry_word entries e 0) 1 k) in
      let g : get_or next m 0 ≡ get_or places m 0 = get_or-set_other places (note_number_at text entries e) m (e + 1) 0 (λ w. omega (arith, w, z)) in
      r ∙ rw (k, g))

  no_places : (m : ℕ) → m < 256 → placed_text (replicate 256 0) m ≡ none
  no_places m h = rw (get_or-replicate {A = ℕ} 256 m 0 0 h)

  note_placed : (places : List ℕ) (n : ℕ) → placed_note text entries places n ≡ note_value n (placed_text places n)
  unfolding note_text
  note_placed places n =
      by_cases (eqb (get_or places n 0) 0)
      (λ e. rw e)
      (λ e. rw (e, append_assoc (decimal n) (58 ∷ []) (behind_colon (place_bytes text entries (get_or places n 0)))))

  later_none : (x : Option (List ℕ)) → later x none ≡ x
  later_none none = refl
  later_none (some x) = refl

  notes_placed : (k n e m : ℕ) → n + k ≤ 256 → placed_notes (note_places text entries (replicate 256 0) e m) k n ≡ notes_from k n (tags_at text entries e m)
  unfolding notes_from
  notes_placed zero n e m h = refl
  notes_placed (suc k) n e m h =
      let places = note_places text entries (replicate 256 0) e m in
      let t : placed_text places n ≡ note_at n (tags_at text entries e m)
      = placed_all (replicate 256 0) e m n (length-replicate {A = ℕ} 256 0) (omega arith) ∙ rw (no_places n (omega arith)) (later_none (note_at n (tags_at text entries e m))) in
      rw (note_placed places n, t, notes_placed k (n + 1) e m (omega arith))

  -- THEOREM. The notes that have a place are the notes of the tags among the entries.
  NotesPlaced : (e m : ℕ) → placed_notes (note_places text entries (replicate 256 0) e m) 256 0 ≡ note_values (tags_at text entries e m)
  unfolding note_values
  NotesPlaced e m = notes_placed 256 0 e m (omega arith)

  -- ---- which note has a value

  module _ (places : List ℕ) where
    holds_one : (v : List ℕ) (n : ℕ) → n < 256 → has_value v (placed_note text entries places n) ≡ true → note_number v ≡ n
    unfolding note_text
    holds_one v n h e =
        by_cases (eqb (get_or places n 0) 0)
        (λ z. clash (rw z at e))
        (λ z.
        let w = note_text text entries n (get_or places n 0) in
        let q : v ≡ w = same_is v w (either (same v w) false (rw z at e) (λ x. x) (λ x. clash x)) in
        rw q (number_back n (behind_colon (place_bytes text entries (get_or places n 0))) h))

    -- Below 256 it is the note whose value it is.
    of_one : (v : List ℕ) (n : ℕ) → n < 256 → eqb (note_of text entries places v) n ≡ has_value v (placed_note text entries places n)
    unfolding note_of
    of_one v n h =
        by_cases (has_value v (placed_note text entries places n))
        (λ e. rw (holds_one v n h e, e) (eq-eqb n n refl))
        (λ e.
        rw e
        (by_cases (has_value v (placed_note text entries places (note_number v)))
        (λ x. rw x (ne_eqb (note_number v) n (λ w. clash (sym e ∙ (ap (λ (m : ℕ). has_value v (placed_note text entries places m)) (sym w) ∙ x)))))
        (λ x. rw x (ne_eqb 256 n (λ w. omega (arith, w))))))

    -- A Note of a value without a number, and of the number m, which is written with this value or not.
    pub taken_none : (v : List ℕ) (n : ℕ) (first : Bool) → n < 256 → note_number v ≡ 256 → first ≡ takes_value text entries places n first v
    unfolding takes_value note_of
    taken_none v n first h e = rw e (either (has_value v (placed_note text entries places 256)))
      where
        either : (b : Bool) → first ≡ (eqb (cond b 256 256) n || (first && leb 256 (cond b 256 256)))
        either true = rw (ne_eqb 256 n (λ z. omega (arith, z)), and-true)
        either false = rw (ne_eqb 256 n (λ z. omega (arith, z)), and-true)

    pub taken_own : (v : List ℕ) (n m : ℕ) (first w : Bool) → n < 256 → note_number v ≡ m → w ≡ has_value v (placed_note text entries places m) → m ≡ n → (first || w) ≡ takes_value text entries places n first v
    unfolding takes_value note_of
    taken_own v n m first w h e q d = rw (e, ← q, d) (either w)
      where
        either : (b : Bool) → (first || b) ≡ (eqb (cond b n 256) n || (first && leb 256 (cond b n 256)))
        either true = rw (eq-eqb n n refl, or-true)
        either false = rw (ne_eqb 256 n (λ z. omega (arith, z)), and-true, or-false)

    pub taken_other : (v : List ℕ) (n m : ℕ) (first w : Bool) → n < 256 → m < 256 → note_number v ≡ m → w ≡ has_value v (placed_note text entries places m) → (m ≡ n → ⊥)
        → (first && not w) ≡ takes_value text entries places n first v
    unfolding takes_value note_of
    taken_other v n m first w h l e q d = rw (e, ← q) (either w)
      where
        either : (b : Bool) → (first && not b) ≡ (eqb (cond b m 256) n || (first && leb 256 (cond b m 256)))
        either true = rw (ne_eqb m n d, lt-leb 256 m l)
        either false = rw (ne_eqb 256 n (λ z. omega (arith, z)))

    of_some : (v : List ℕ) (k n : ℕ) → n + k ≤ 256 → has_value v (placed_notes places k n) ≡ (leb n (note_of text entries places v) && ltb (note_of text entries places v) (n + k))
    of_some v zero n h =
        by_cases (leb n (note_of text entries places v))
        (λ e. rw (e, le-ltb (note_of text entries places v) (n + 0) (omega (arith, leb-true n (note_of text entries places v) e))))
        (λ e. rw e)
    of_some v (suc k) n h =
        holds_append v (placed_note text entries places n) (placed_notes places k (n + 1))
        ∙ rw (← of_one v n (omega arith), of_some v k (n + 1) (omega arith)) (between (note_of text entries places v) n k)

    -- ---- which directives a note takes

    placed_more : (j m : ℕ) → placed_notes places (suc j) m ≡ placed_notes places j m ++ placed_note text entries places (m + j)
    placed_more zero m = let z : m + 0 ≡ m = omega arith in rw (z, append-nil (placed_note text entries places m))
    placed_more (suc j) m =
        let z : m + 1 + j ≡ m + suc j = omega arith in
        ap (λ (vs : List (List ℕ)). placed_note text entries places m ++ vs) (placed_more j (m + 1))
        ∙ rw (z, append_assoc (placed_note text entries places m) (placed_notes places j (m + 1)) (placed_note text entries places (m + suc j)))

    module _ (k n : ℕ) (h : n + suc k ≡ 256) (there : eqb (get_or places n 0) 0 ≡ false) where
      abbrev before : List (List ℕ)
      before = placed_notes places n 0

      abbrev own : List ℕ
      own = note_text text entries n (get_or places n 0)

      abbrev behind : List (List ℕ)
      behind = placed_notes places k (n + 1)

      taken_same : (v : List ℕ) → cond (has_value v (before ++ own ∷ behind)) (same v own && not (has_value v before)) (not (is_any before)) ≡ takes_value text entries places n (not (is_any before)) v
      unfolding takes_value
      taken_same v =
          let m = note_of text entries places v in
          let a : has_value v before ≡ ltb m n = of_some v n 0 (omega arith) ∙ rw (le-leb 0 m (omega arith), zero-add) in
          let b : (same v own || has_value v behind) ≡ (leb n m && ltb m 256) = rw there at (rw h at (of_some v (suc k) n (omega arith))) in
          let d : same v own ≡ eqb m n = sym (of_one v n (omega arith) ∙ rw (there, or-false)) in
          let e : has_value v (before ++ own ∷ behind) ≡ ltb m 256 = holds_append v before (own ∷ behind) ∙ rw (a, b) (below m n 256 (omega arith)) in
          rw (e, d, a) (first_or_own m n (not (is_any before)) (omega arith))

      takes_same : (t : TagPair) → takes_tag text entries places n (not (is_any before)) t ≡ note_takes before own behind t
      takes_same t = rw (taken_same t.value)

    note_full : (k n : ℕ) (is : List Item) → n + k ≡ 256
        → full_notes text entries places k n (not (is_any (placed_notes places n 0))) is
        ≡ notes_text (placed_notes places n 0) (placed_notes places k n) is
    unfolding full_note
    note_full zero n is h = refl
    note_full (suc k) n is h =
        let pre = placed_notes places n 0 in
        let more : placed_notes places (n + 1) 0 ≡ pre ++ placed_note text entries places n
        = rw add-one (placed_more n 0 ∙ rw zero-add) in
        by_cases (eqb (get_or places n 0) 0)
        (λ e.
        let q : placed_notes places (n + 1) 0 ≡ pre = more ∙ rw (e, append-nil pre) in
        rw e (rw q at (note_full k (n + 1) is (omega arith))))
        (λ e.
        let v = note_text text entries n (get_or places n 0) in
        let vs = placed_notes places k (n + 1) in
        let q : placed_notes places (n + 1) 0 ≡ pre ++ v ∷ [] = more ∙ rw e in
        let r : full_notes text entries places k (n + 1) false is ≡ notes_text (pre ++ v ∷ []) vs is
        = ap (λ (f : Bool). full_notes text entries places k (n + 1) f is) (sym (ap not (any_last pre v))) ∙ (rw q at (note_full k (n + 1) is (omega arith))) in
        rw (
          e,
          remarks_same (takes_tag text entries places n (not (is_any pre))) (note_takes pre v vs) (takes_same k n h e) false 3 is,
          r,
          cond_not (is_any pre) (sought_text Under (ascii "Note") 4 is),
        ))

    -- Number by number.
    pub full_none : (n : ℕ) (first : Bool) (is : List Item) → n < 256 → get_or places n 0 ≡ 0
        → full_notes text entries places (256 - n) n first is ≡ full_notes text entries places (256 - (n + 1)) (n + 1) first is
    full_none n first is h e = let z : 256 - n ≡ suc (256 - (n + 1)) = omega arith in rw (z, e)

    pub full_note_lem : (n : ℕ) (first : Bool) (is : List Item) → n < 256 → (get_or places n 0 ≡ 0 → ⊥)
        → full_notes text entries places (256 - n) n first is ≡ full_note text entries places n first is ++ full_notes text entries places (256 - (n + 1)) (n + 1) false is
    full_note_lem n first is h e = let z : 256 - n ≡ suc (256 - (n + 1)) = omega arith in rw (z, ne_eqb (get_or places n 0) 0 e)

    pub full_over : (n : ℕ) (first : Bool) (is : List Item) → 256 ≤ n → full_notes text entries places (256 - n) n first is ≡ []
    full_over n first is h = let z : 256 - n ≡ 0 = omega arith in rw z

    -- THEOREM. The notes that have a place are put as notes in a row.
    NotesFull : (is : List Item) → full_notes text entries places 256 0 true is ≡ notes_text [] (placed_notes places 256 0) is
    NotesFull is = note_full 256 0 is refl

  -- Where there is no note, nothing is put.
  pub notes_nothing : (x : Bool) (e m : ℕ) (is : List Item) → x ≡ is_any (note_values (tags_at text entries e m)) → x ≡ false → [] ≡ notes_text [] (note_values (tags_at text entries e m)) is
  notes_nothing x e m is a b = nothing_from (note_values (tags_at text entries e m)) (sym a ∙ b)
    where
      nothing_from : (vs : List (List ℕ)) → is_any vs ≡ false → [] ≡ notes_text [] vs is
      nothing_from [] q = refl
      nothing_from (v ∷ vs) q = clash (sym q)

  -- THEOREM. So are the notes of the tags among the entries.
  pub NotesPut : (places : List ℕ) (e m : ℕ) (is : List Item) → places ≡ note_places text entries (replicate 256 0) e m
      → all_notes text entries places is ≡ notes_text [] (note_values (tags_at text entries e m)) is
  unfolding all_notes
  NotesPut places e m is q =
      NotesFull places is
      ∙ ap (λ (vs : List (List ℕ)). notes_text [] vs is) (ap (λ (ps : List ℕ). placed_notes ps 256 0) q ∙ NotesPlaced e m)
