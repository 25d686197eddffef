-- The values of a plain board: each is that of the last tag of its name whose value is kept, so it can be written, and is kept again.
use Prim.Native.Nat.{ℕ, suc, ◌+◌, ◌-◌}
use mathlib.Core.Path.{◌≡◌, refl, sym, ap, ◌∙◌}
use mathlib.Core.Bool.{Bool, true, false, cond, ◌&&◌}
use mathlib.Core.List.{List, [], ◌∷◌, ◌++◌, map, append_assoc}
use mathlib.Core.Option.{Option, none as nothing, some}
use native.Mathlib.Omega.{arith}
use lib.Dec.{eqb}
use lib.ListN.{length, get_or, length-append}
use borrow.Author.Tests.{eqb-true, ne_eqb}
use Rattle.tables.specs.declared.letters.Conventions.{Conventions}
use Rattle.tables.proofs.Laws.{by_cases, both}
use Rattle.reader.specs.declared.store.Entry.{Entry}
use Rattle.reader.specs.declared.board.Values.{Values}
use Rattle.reader.specs.declared.board.Board.{Board}
use Rattle.reader.specs.TagBytes.{good_value}
use Rattle.reader.specs.Names.{tag_number}
use Rattle.reader.specs.Boards.{value_put, is_kept, values_by, applied, no_board, record_out}
use Rattle.reader.specs.Plain.{bytes_of, item_of, items_of, TagPair, value_at, plain_list, plain_by, plain_of}
use Rattle.reader.specs.Kept.{after, kept_by, last_kept, value_numbers, ValuesKept}
use Rattle.reader.proofs.EntryLaws.{All, none, one, all_map}
use Rattle.reader.proofs.Tags.{never, some_inj}
use Rattle.reader.proofs.Counts.{chosen}
use Rattle.reader.proofs.PlainTags.{PlainWritable}
use Rattle.reader.proofs.PlainWords.{value_none}
use Rattle.reader.proofs.PlainByTags.{FollowsTags}

-- ---- a value and its entry

-- k is 0 and there is no value v, or v is the bytes of the k-th of the entries es of the record r, from 1.
data Names (r : List ℕ) (es : List Entry) (k : ℕ) (v : Option (List ℕ)) : Type 0 where
  nowhere : k ≡ 0 → v ≡ nothing → Names r es k v
  there : (xs : List Entry) (e : Entry) (ys : List Entry) → es ≡ xs ++ e ∷ ys → k ≡ length xs + 1 → v ≡ some (bytes_of r e) → Names r es k v

names_more : {r : List ℕ} {es : List Entry} {k : ℕ} {v : Option (List ℕ)} (fs : List Entry) → Names r es k v → Names r (es ++ fs) k v
names_more fs (nowhere e n) = nowhere e n
names_more fs (there xs e ys h n g) = there xs e (ys ++ fs) (rw h (append_assoc xs (e ∷ ys) fs)) n g

value_there : (r : List ℕ) (xs : List Entry) (e : Entry) (ys : List Entry) → value_at (length xs + 1) (items_of r (xs ++ e ∷ ys)) ≡ some (bytes_of r e)
unfolding item_of
value_there r [] e ys = refl
value_there r (x ∷ xs) e ys =
    let n : eqb (suc (length xs) + 1) 1 ≡ false = ne_eqb (suc (length xs) + 1) 1 (λ u. omega arith) in
    let m : suc (length xs) + 1 - 1 ≡ length xs + 1 = omega arith in
    rw (n, m) (value_there r xs e ys)

names_value : (r : List ℕ) (es : List Entry) (k : ℕ) (v : Option (List ℕ)) → Names r es k v → value_at k (items_of r es) ≡ v
names_value r es k v (nowhere e n) = ap (λ (j : ℕ). value_at j (items_of r es)) e ∙ value_none (items_of r es) ∙ sym n
names_value r es k v (there xs e ys h n g) =
    ap (λ (j : ℕ). value_at j (items_of r es)) n ∙ ap (λ (l : List Entry). value_at (length xs + 1) (items_of r l)) h ∙ value_there r xs e ys ∙ sym g

-- ---- a value and its tags

-- One of the values, by its word w and the number k of its tag.
module _ (c : Conventions) (r : List ℕ) (k : ℕ) (w : Values → ℕ) (puts : (j place : ℕ) (v : Values) → w (value_put j place v) ≡ cond (eqb j k) place (w v)) where
  word_tag : (es : List Entry) (b : Board) (v : Option (List ℕ)) (x y : Entry) (name value : List ℕ) → bytes_of r y ≡ value → Names r es (w b.values) v
      → Names r (es ++ x ∷ y ∷ []) (w (applied c (tag_number name) value (length es + 2) b).values) (kept_by c k v (record { name = name; value = value }))
  unfolding applied values_by
  word_tag es b v x y name value e i =
      let j = tag_number name in
      let old = names_more (x ∷ y ∷ []) i in
      let n : length es + 2 ≡ length (es ++ x ∷ []) + 1 = rw length-append (omega arith) in
      let new : Names r (es ++ x ∷ y ∷ []) (length es + 2) (some value) = there (es ++ x ∷ []) y [] (sym (append_assoc es (x ∷ []) (y ∷ []))) n (ap some (sym e)) in
      by_cases (eqb j k)
      (λ t.
      let z : j ≡ k = eqb-true j k t in
      let m : eqb k k ≡ true = rw z at t in
      by_cases (is_kept c k value)
      (λ u. rw (z, u, puts k (length es + 2) b.values, m) new)
      (λ u. rw (z, u, m) old))
      (λ t. rw t (kept (length es + 2) (is_kept c j value) (puts j (length es + 2) b.values ∙ rw t) old))
    where
      kept : {xs : List Entry} {o : Option (List ℕ)} (p : ℕ) (u : Bool) → w (value_put (tag_number name) p b.values) ≡ w b.values → Names r xs (w b.values) o → Names r xs (w (cond u (value_put (tag_number name) p b.values) b.values)) o
      kept p true q a = rw q a
      kept p false q a = a

  -- The value is that of the last tag of its number whose value is kept.
  value_last : w no_board.values ≡ 0 → value_at (w (record_out c r).state.board.values) (items_of r (record_out c r).entries) ≡ last_kept c k (plain_of c r).tags
  value_last z =
      names_value r (record_out c r).entries (w (record_out c r).state.board.values) (last_kept c k (plain_of c r).tags)
      (FollowsTags c r (λ es b v. Names r es (w b.values) v) (kept_by c k)
      (record {
        longer = λ es fs b v i. names_more fs i;
        left = λ es b d v l i. moved (ap w l.values_left) i;
        by_tag = word_tag;
      })
      nothing (nowhere z refl))
    where
      moved : {es : List Entry} {v : Option (List ℕ)} {i j : ℕ} → j ≡ i → Names r es i v → Names r es j v
      moved e a = rw e a

-- THEOREM. Each value of a plain board is that of the last tag of its name whose value is kept.
pub PlainValuesKept : (c : Conventions) (r : List ℕ) → ValuesKept c (plain_of c r)
unfolding plain_of plain_by
PlainValuesKept c r =
    record {
      values_are =
          first (value_last c r 1 (λ v. v.id) (λ j p v. refl) refl)
          (first (value_last c r 5 (λ v. v.event) (λ j p v. refl) refl)
          (first (value_last c r 6 (λ v. v.site) (λ j p v. refl) refl)
          (first (value_last c r 7 (λ v. v.date) (λ j p v. refl) refl)
          (first (value_last c r 9 (λ v. v.contract) (λ j p v. refl) refl)
          (first (value_last c r 11 (λ v. v.north) (λ j p v. refl) refl)
          (first (value_last c r 12 (λ v. v.east) (λ j p v. refl) refl)
          (first (value_last c r 13 (λ v. v.south) (λ j p v. refl) refl)
          (first (value_last c r 14 (λ v. v.west) (λ j p v. refl) refl)
          (first (value_last c r 4 (λ v. v.deal) (λ j p v. refl) refl)
          (first (value_last c r 20 (λ v. v.score) (λ j p v. refl) refl)
          (first (value_last c r 21 (λ v. v.par) (λ j p v. refl) refl) refl)))))))))));
    }
  where
    first : {A : Type 0} {x y : A} {xs ys : List A} → x ≡ y → xs ≡ ys → x ∷ xs ≡ y ∷ ys
    first e f = cc

-- The Deal value that is kept unparsed.
pub DealValue : (c : Conventions) (r : List ℕ) → (plain_of c r).values.deal ≡ last_kept c 4 (plain_of c r).tags
DealValue c r = ap (λ (l : List (Option (List ℕ))). get_or l 9 nothing) (PlainValuesKept c r).values_are

-- ---- what holds of the kept values of tags

-- What holds of no value, and of the value of each tag where it is kept, holds of the last.
pub kept_all : (c : Conventions) (k : ℕ) (Q : Option (List ℕ) → Type 0) {ts : List TagPair} → All (λ t. is_kept c k t.value ≡ true → Q (some t.value)) ts → (v : Option (List ℕ)) → Q v → Q (after (kept_by c k) v ts)
kept_all c k Q none v q = q
kept_all c k Q (one {x = t} h a) v q =
    kept_all c k Q a (kept_by c k v t)
    (chosen Q (eqb (tag_number t.name) k && is_kept c k t.value) (some t.value) v (λ e. h (both (eqb (tag_number t.name) k) (is_kept c k t.value) e).1) (λ e. q))

-- A value that is absent or can be written.
pub record ValueGood (v : Option (List ℕ)) : Type 0 where
  pub value_good : (b : List ℕ) → v ≡ some b → good_value b ≡ true

-- THEOREM. Every value of a plain board can be written.
pub PlainValuesGood : (c : Conventions) (r : List ℕ) → All ValueGood (plain_list (plain_of c r).values)
PlainValuesGood c r = rw (PlainValuesKept c r).values_are (each value_numbers)
  where
    good : (k : ℕ) → ValueGood (last_kept c k (plain_of c r).tags)
    good k =
        kept_all c k ValueGood (all_map (λ t i u. record { value_good = λ b e. ap good_value (sym (some_inj e)) ∙ i.writable.1 }) (PlainWritable c r)) nothing
        (record { value_good = λ b e. never e })

    each : (ks : List ℕ) → All ValueGood (map (λ k. last_kept c k (plain_of c r).tags) ks)
    each [] = none
    each (k ∷ ks) = one (good k) (each ks)

-- A value that was kept is kept again.
pub kept_again : (c : Conventions) (k : ℕ) (ts : List TagPair) (v : List ℕ) → last_kept c k ts ≡ some v → is_kept c k v ≡ true
kept_again c k ts v e = kept_all c k (λ o. (b : List ℕ) → o ≡ some b → is_kept c k b ≡ true) (each ts) nothing (λ b u. never u) v e
  where
    each : (us : List TagPair) → All (λ t. is_kept c k t.value ≡ true → (b : List ℕ) → some t.value ≡ some b → is_kept c k b ≡ true) us
    each [] = none
    each (t ∷ us) = one {x = t} (λ u b q. ap (is_kept c k) (sym (some_inj q)) ∙ u) (each us)
