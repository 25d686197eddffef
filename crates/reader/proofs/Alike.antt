-- Two editions alike but for a stretch are read alike outside it: cards and entries as they are handed back.
use Prim.Native.Nat.{ℕ, ◌+◌}
use mathlib.Core.Path.{◌≡◌, sym, ap, ◌∙◌}
use mathlib.Core.List.{List, [], ◌∷◌, ◌++◌, map, append_assoc}
use native.Mathlib.Nat.{add-zero}
use native.Mathlib.Omega.{arith}
use lib.ListN.{length, length-append}
use Rattle.tables.specs.declared.letters.Conventions.{Conventions}
use Rattle.reader.specs.Store.{flat, entry_words}
use Rattle.reader.specs.Boards.{record_out}
use Rattle.reader.specs.Records.{records_of, AlikeBut}
use Rattle.reader.specs.Editions.{card_of, cards_from, entries_from, cards_of, entries_of}
use Rattle.reader.proofs.Seams.{Edit}

-- The entries of records, counted.
abbrev pub entries_in : Conventions → List (List ℕ) → ℕ
entries_in c [] = 0
entries_in c (r ∷ rs) = length (record_out c r).entries + entries_in c rs

-- Records after others: the same boards, moved by the bytes and the entries before them.
pub cards_append : (c : Conventions) (a n : ℕ) (rs qs : List (List ℕ)) → cards_from c a n (rs ++ qs) ≡ cards_from c a n rs ++ cards_from c (a + length (flat rs)) (n + entries_in c rs) qs
cards_append c a n [] qs = rw (add-zero, add-zero)
cards_append c a n (r ∷ rs) qs =
    let e : a + length r + length (flat rs) ≡ a + length (r ++ flat rs) = rw length-append (omega arith) in
    let f : n + length (record_out c r).entries + entries_in c rs ≡ n + (length (record_out c r).entries + entries_in c rs) = omega arith in
    ap (λ (l : List (List ℕ)). card_of c a n r ∷ l) (cards_append c (a + length r) (n + length (record_out c r).entries) rs qs ∙ rw (e, f))

pub entries_append : (c : Conventions) (a : ℕ) (rs qs : List (List ℕ)) → entries_from c a (rs ++ qs) ≡ entries_from c a rs ++ entries_from c (a + length (flat rs)) qs
entries_append c a [] qs = rw add-zero
entries_append c a (r ∷ rs) qs =
    let e : a + length r + length (flat rs) ≡ a + length (r ++ flat rs) = rw length-append (omega arith) in
    ap (λ (l : List (List ℕ)). map (entry_words a) (record_out c r).entries ++ l) (entries_append c (a + length r) rs qs ∙ rw e)
    ∙ sym (append_assoc (map (entry_words a) (record_out c r).entries) (entries_from c (a + length r) rs) _)

-- The cards and entries of an edition whose records are those of a front, of a middle and of a back: each part's boards are those of
-- its own records, moved by addition alone, by the bytes and the entries of the parts before it.
pub record Parts (c : Conventions) (text : List ℕ) (front middle back : List (List ℕ)) : Type 0 where
  pub cards_are : cards_of c text
      ≡ cards_from c 0 0 front
      ++ (cards_from c (length (flat front)) (entries_in c front) middle
      ++ cards_from c (length (flat front) + length (flat middle)) (entries_in c front + entries_in c middle) back)
  pub entries_are : entries_of c text
      ≡ entries_from c 0 front
      ++ (entries_from c (length (flat front)) middle
      ++ entries_from c (length (flat front) + length (flat middle)) back)

parts : (c : Conventions) (text : List ℕ) (f m b : List (List ℕ)) → records_of text ≡ f ++ (m ++ b) → Parts c text f m b
unfolding cards_of entries_of
parts c text f m b e =
    let z : 0 + length (flat f) ≡ length (flat f) = omega arith in
    let y : 0 + entries_in c f ≡ entries_in c f = omega arith in
    record {
      cards_are = ap (cards_from c 0 0) e ∙ cards_append c 0 0 f (m ++ b) ∙ rw (z, y) (ap (λ (l : List (List ℕ)). cards_from c 0 0 f ++ l) (cards_append c (length (flat f)) (entries_in c f) m b));
      entries_are = ap (entries_from c 0) e ∙ entries_append c 0 f (m ++ b) ∙ rw z (ap (λ (l : List (List ℕ)). entries_from c 0 f ++ l) (entries_append c (length (flat f)) m b));
    }

-- Two editions alike but for a stretch: both have the boards of the same front records and of the same back records.
pub Alike : (c : Conventions) (front middle middle' back : List ℕ) → AlikeBut front middle middle' back
    → Parts c (front ++ (middle ++ back)) (records_of front) (records_of middle) (records_of back)
    × Parts c (front ++ (middle' ++ back)) (records_of front) (records_of middle') (records_of back)
Alike c front middle middle' back a =
    let e = Edit front middle middle' back a in (
      parts c (front ++ (middle ++ back)) (records_of front) (records_of middle) (records_of back) e.0,
      parts c (front ++ (middle' ++ back)) (records_of front) (records_of middle') (records_of back) e.1,
    )
