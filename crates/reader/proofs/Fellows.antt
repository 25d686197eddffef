-- Two editions alike but for a stretch, board by board: every board whose record lies outside the stretch has its fellow.
use Prim.Native.Nat.{ℕ, suc, ◌+◌, ◌≤◌, ◌<◌}
use mathlib.Core.Path.{◌≡◌, refl, sym, ap, ◌∙◌}
use mathlib.Core.Bool.{true}
use mathlib.Core.List.{List, [], ◌∷◌, ◌++◌, map, append_assoc}
use native.Mathlib.Nat.{add-zero, add_assoc}
use native.Mathlib.Omega.{arith}
use lib.ListN.{length, length-append, length-map}
use Rattle.tables.specs.declared.letters.Conventions.{Conventions}
use Rattle.reader.specs.declared.tag.Span.{Span}
use Rattle.reader.specs.Store.{flat}
use Rattle.reader.specs.Pieces.{raw_lines}
use Rattle.reader.specs.Boards.{record_out}
use Rattle.reader.specs.Records.{fresh, records_of, left_over, spans_from, spans_of, seam_at, AlikeBut, Filled, one}
use Rattle.reader.specs.RecordSteps.{shift}
use Rattle.reader.specs.Editions.{cards_from, entries_from, cards_of, entries_of}
use Rattle.reader.specs.Fellows.{Stands, span_at, RecordAt, BoardAt, Fellow, AnyBoard, HaveFellows, Part, in_front, inside, in_back}
use Rattle.reader.proofs.Counts.{cards_few}
use Rattle.reader.proofs.Seams.{RecordsCover, Around, SpansAround, RecordsFilled, records_fit}
use Rattle.reader.proofs.Alike.{entries_in, cards_append, entries_append}
use Rattle.reader.proofs.StandLaws.{stands_left, stands_right, stands_map, stands_same, element_at, Side, first, second, stands_side}

-- ---- a record among others: its text, its place, its card, its entries

flat_at : (xs ys : List (List ℕ)) (r : List ℕ) → flat (xs ++ (r ∷ ys)) ≡ flat xs ++ (r ++ flat ys)
flat_at [] ys r = refl
flat_at (x ∷ xs) ys r = ap (λ (l : List ℕ). x ++ l) (flat_at xs ys r) ∙ sym (append_assoc x (flat xs) (r ++ flat ys))

spans_at : (p : ℕ) (xs ys : List (List ℕ)) (r : List ℕ)
    → spans_from p (xs ++ (r ∷ ys)) ≡ spans_from p xs ++ (span_at (p + length (flat xs)) r ∷ spans_from (p + length (flat xs) + length r) ys)
spans_at p [] ys r = rw add-zero
spans_at p (x ∷ xs) ys r = rw (spans_at (p + length x) xs ys r, length-append x (flat xs), add_assoc)

spans_counted : (p : ℕ) (rs : List (List ℕ)) → length (spans_from p rs) ≡ length rs
spans_counted p [] = refl
spans_counted p (r ∷ rs) = ap suc (spans_counted (p + length r) rs)

pub entries_counted : (c : Conventions) (a : ℕ) (rs : List (List ℕ)) → length (entries_from c a rs) ≡ entries_in c rs
entries_counted c a [] = refl
entries_counted c a (r ∷ rs) = rw (length-append, length-map) (omega (arith, entries_counted c (a + length r) rs))

-- The record behind others, by what stands before it.
record_behind_lem : (text : List ℕ) (k a : ℕ) (xs ys : List (List ℕ)) (r : List ℕ) → records_of text ≡ xs ++ (r ∷ ys) → length xs ≡ k → length (flat xs) ≡ a → RecordAt text k a r
unfolding spans_of
record_behind_lem text k a xs ys r e ek ea =
    let z : 0 + length (flat xs) ≡ a = omega arith in
    record {
      record_is = record { before = xs; after = ys; whole = e; count = ek };
      span_is = record { before = spans_from 0 xs; after = spans_from (a + length r) ys; whole = ap (spans_from 0) e ∙ spans_at 0 xs ys r ∙ rw z; count = spans_counted 0 xs ∙ ek };
    }

board_behind : (c : Conventions) (text : List ℕ) (k a n : ℕ) (xs ys : List (List ℕ)) (r : List ℕ) → records_of text ≡ xs ++ (r ∷ ys) → length xs ≡ k → length (flat xs) ≡ a → entries_in c xs ≡ n
    → BoardAt c text k a n r
unfolding cards_of entries_of
board_behind c text k a n xs ys r e ek ea en =
    let z : 0 + length (flat xs) ≡ a = omega arith in
    let y : 0 + entries_in c xs ≡ n = omega arith in
    let left = left_over fresh [] (raw_lines text) in
    record {
      record_told = record_behind_lem text k a xs ys r e ek ea;
      bytes_are = record {
        before = flat xs;
        after = flat ys ++ left;
        whole = sym (RecordsCover text) ∙ ap (λ (l : List (List ℕ)). flat l ++ left) e ∙ ap (λ (l : List ℕ). l ++ left) (flat_at xs ys r) ∙ append_assoc (flat xs) (r ++ flat ys) left ∙ ap (λ (l : List ℕ). flat xs ++ l) (append_assoc r (flat ys) left);
        count = ea;
      };
      card_is = record {
        before = cards_from c 0 0 xs;
        after = cards_from c (a + length r) (n + length (record_out c r).entries) ys;
        whole = ap (cards_from c 0 0) e ∙ cards_append c 0 0 xs (r ∷ ys) ∙ rw (z, y);
        count = cards_few c 0 0 xs ∙ ek;
      };
      entries_are = record {
        before = entries_from c 0 xs;
        after = entries_from c (a + length r) ys;
        whole = ap (entries_from c 0) e ∙ entries_append c 0 xs (r ∷ ys) ∙ rw z;
        count = entries_counted c 0 xs ∙ en;
      };
    }

-- A record of a text, whose place is not known, and one whose place is.
place_of : {text : List ℕ} {k : ℕ} {r : List ℕ} (s : Stands (records_of text) k (r ∷ [])) → RecordAt text k (length (flat s.before)) r
place_of {text} {k} {r} s = record_behind_lem text k (length (flat s.before)) s.before s.after r s.whole s.count refl

-- A record has one place.
same_place : {text : List ℕ} {k a b : ℕ} {r : List ℕ} → RecordAt text k a r → RecordAt text k b r → a ≡ b
same_place {r = r} h g = ap (λ (s : Span). s.start) (stands_same h.span_is g.span_is)

-- THEOREM. A record of a text has its board: its card, its entries, its bytes.
pub BoardOf : (c : Conventions) (text : List ℕ) (k a : ℕ) (r : List ℕ) → RecordAt text k a r → Fellow c text a r
BoardOf c text k a r h =
    let s = h.record_is in
    record {
      board = k;
      entries_before = entries_in c s.before;
      is = board_behind c text k a (entries_in c s.before) s.before s.after r s.whole s.count (same_place (place_of s) h) refl;
    }

-- THEOREM. Every board of an edition is that of a record.
pub EveryBoard : (c : Conventions) (text : List ℕ) (k : ℕ) → k < length (cards_of c text) → AnyBoard c text k
unfolding cards_of
EveryBoard c text k h =
    let e = element_at (records_of text) k (omega (arith, cards_few c 0 0 (records_of text))) in
    let s = e.stands in
    record {
      place = length (flat s.before);
      entries_before = entries_in c s.before;
      text_of = e.element;
      is = board_behind c text k (length (flat s.before)) (entries_in c s.before) s.before s.after e.element s.whole s.count refl refl;
    }

filled_at : (xs ys : List (List ℕ)) (r : List ℕ) → Filled (xs ++ (r ∷ ys)) → 0 < length r
filled_at [] ys r (one h f) = h
filled_at (x ∷ xs) ys r (one h f) = filled_at xs ys r f

-- THEOREM. A record is not empty, and ends inside its text.
pub RecordFilled : {text : List ℕ} {k a : ℕ} {r : List ℕ} → RecordAt text k a r → 0 < length r
RecordFilled {text} {r = r} h = let s = h.record_is in filled_at s.before s.after r (rw s.whole at (RecordsFilled text))

pub RecordEnds : {text : List ℕ} {k a : ℕ} {r : List ℕ} → RecordAt text k a r → a + length r ≤ length text
RecordEnds {text} {k} {a} {r} h =
    let s = h.record_is in
    let e = same_place (place_of s) h in
    let f : length (flat (records_of text)) ≡ length (flat s.before) + (length r + length (flat s.after)) =
    rw (s.whole, flat_at, length-append, length-append) in
    omega (arith, records_fit text)

-- ---- a text cut at two seams

spans_many : (text : List ℕ) → length (spans_of text) ≡ length (records_of text)
unfolding spans_of
spans_many text = spans_counted 0 (records_of text)

module _ (f m b : List ℕ) (s : seam_at (f ++ (m ++ b)) (length f) ≡ true) (t : seam_at (f ++ (m ++ b)) (length (f ++ m)) ≡ true) where
  -- A record of a part is one of the text, moved by what stands before the part.
  pub front_record : {j d : ℕ} {r : List ℕ} → RecordAt f j d r → RecordAt (f ++ (m ++ b)) j d r
  front_record h =
      record {
        record_is = rw (Around f m b s t) (stands_left (records_of m ++ records_of b) h.record_is);
        span_is = rw (SpansAround f m b s t) (stands_left (map (shift (length f)) (spans_of m ++ map (shift (length m)) (spans_of b))) h.span_is);
      }

  pub middle_record : {j d : ℕ} {r : List ℕ} → RecordAt m j d r → RecordAt (f ++ (m ++ b)) (length (records_of f) + j) (length f + d) r
  middle_record h =
      record {
        record_is = rw (Around f m b s t) (stands_right (records_of f) (stands_left (records_of b) h.record_is));
        span_is =
            rw (SpansAround f m b s t, ← (spans_many f))
            (stands_right (spans_of f) (stands_map (shift (length f)) (stands_left (map (shift (length m)) (spans_of b)) h.span_is)));
      }

  pub back_record : {j d : ℕ} {r : List ℕ} → RecordAt b j d r → RecordAt (f ++ (m ++ b)) (length (records_of f) + (length (records_of m) + j)) (length f + (length m + d)) r
  back_record h =
      record {
        record_is = rw (Around f m b s t) (stands_right (records_of f) (stands_right (records_of m) h.record_is));
        span_is =
            rw (SpansAround f m b s t, ← (spans_many f), ← (spans_many m))
            (stands_right (spans_of f) (stands_map (shift (length f)) (stands_right (spans_of m) (stands_map (shift (length m)) h.span_is))));
      }

  -- THEOREM. Every record of the text is one of the front, of the middle or of the back, at its place there.
  pub Where : {k a : ℕ} {r : List ℕ} → RecordAt (f ++ (m ++ b)) k a r → Part f m b a r
  Where {k} {a} {r} h = go (stands_side (records_of f) (records_of m ++ records_of b) (rw (Around f m b s t) at h.record_is))
    where
      behind : (j : ℕ) → k ≡ length (records_of f) + j → Side j r (records_of m) (records_of b) → Part f m b a r
      behind j e (first u) =
          let g = place_of u in
          let d = length (flat u.before) in
          let p : length f + d ≡ a = same_place (middle_record g) (rw e at h) in
          inside j d g (sym p) (rw length-append (omega (arith, RecordEnds g)))
      behind j e (second i e' u) =
          let g = place_of u in
          let d = length (flat u.before) in
          let p : length f + (length m + d) ≡ a = same_place (back_record g) (rw (e, e') at h) in
          in_back i d g (rw length-append (omega arith))

      go : Side k r (records_of f) (records_of m ++ records_of b) → Part f m b a r
      go (first u) =
          let g = place_of u in
          let p : length (flat u.before) ≡ a = same_place (front_record g) h in
          let g' : RecordAt f k a r = rw p at g in
          in_front k g' (RecordEnds g')
      go (second j e u) = behind j e (stands_side (records_of m) (records_of b) u)

-- A record inside the stretch lies neither in the front nor in the back.
pub InsideOnly : (f m : List ℕ) {j d a : ℕ} {r : List ℕ} → RecordAt m j d r → a ≡ length f + d → (a + length r ≤ length f → ⊥) × (length (f ++ m) ≤ a → ⊥)
InsideOnly f m h e = (λ x. omega (arith, RecordFilled h), λ x. omega (arith, length-append f m, RecordFilled h, RecordEnds h))

-- ---- two editions

-- The two editions may change places.
pub AlikeOther : {front middle middle' back : List ℕ} → AlikeBut front middle middle' back → AlikeBut front middle' middle back
AlikeOther a = record { front_seam = a.front_seam'; back_seam = a.back_seam'; front_seam' = a.front_seam; back_seam' = a.back_seam }

-- A board whose record lies in the front has its fellow, whose record is the same and starts at the same place.
pub FrontFellows : (c : Conventions) (front middle middle' back : List ℕ) → AlikeBut front middle middle' back
    → (k a n : ℕ) (r : List ℕ) → BoardAt c (front ++ (middle ++ back)) k a n r → a + length r ≤ length front
    → Fellow c (front ++ (middle' ++ back)) a r
FrontFellows c f m m' b al k a n r h lies = go (Where f m b al.front_seam al.back_seam h.record_told)
  where
    some : 0 < length r
    some = RecordFilled h.record_told

    go : Part f m b a r → Fellow c (f ++ (m' ++ b)) a r
    go (in_front j g i) = BoardOf c (f ++ (m' ++ b)) j a r (front_record f m' b al.front_seam' al.back_seam' g)
    go (inside j d g e i) = absurd (omega (arith, some))
    go (in_back j d g e) = absurd (omega (arith, some, length-append f m))

-- A board whose record lies in the back has its fellow, whose record is the same and starts at the same place of the back.
pub BackFellows : (c : Conventions) (front middle middle' back : List ℕ) → AlikeBut front middle middle' back
    → (k a n d : ℕ) (r : List ℕ) → BoardAt c (front ++ (middle ++ back)) k a n r → a ≡ length (front ++ middle) + d
    → Fellow c (front ++ (middle' ++ back)) (length (front ++ middle') + d) r
BackFellows c f m m' b al k a n d r h lies = go (Where f m b al.front_seam al.back_seam h.record_told)
  where
    some : 0 < length r
    some = RecordFilled h.record_told

    go : Part f m b a r → Fellow c (f ++ (m' ++ b)) (length (f ++ m') + d) r
    go (in_front j g i) = absurd (omega (arith, some, length-append f m))
    go (inside j i g e x) = absurd (omega (arith, some))
    go (in_back j i g e) =
        let p : length f + (length m' + i) ≡ length (f ++ m') + d = omega (arith, length-append f m') in
        BoardOf c (f ++ (m' ++ b)) (length (records_of f) + (length (records_of m') + j)) (length (f ++ m') + d) r
        (rw p at (back_record f m' b al.front_seam' al.back_seam' g))

-- THEOREM. Two editions alike but for a stretch: every board of either edition whose record lies in the front or in the back has its
-- fellow in the other.
pub FellowsOf : (c : Conventions) (front middle middle' back : List ℕ) → AlikeBut front middle middle' back
    → HaveFellows c front middle middle' back × HaveFellows c front middle' middle back
FellowsOf c f m m' b al = (one_way m m' al, one_way m' m (AlikeOther al))
  where
    one_way : (x y : List ℕ) → AlikeBut f x y b → HaveFellows c f x y b
    one_way x y al = record { every = EveryBoard c (f ++ (x ++ b)); of_front = FrontFellows c f x y b al; of_back = BackFellows c f x y b al }

-- THEOREM. So every board either is one of the stretch's own or has a fellow in the other edition, with the same record.
pub InsideOrFellow : {P : Type 0} (c : Conventions) (front middle middle' back : List ℕ) → AlikeBut front middle middle' back
    → (k a n : ℕ) (r : List ℕ) → BoardAt c (front ++ (middle ++ back)) k a n r
    → ((j d : ℕ) → RecordAt middle j d r → a ≡ length front + d → P)
    → ((a' : ℕ) → Fellow c (front ++ (middle' ++ back)) a' r → P)
    → P
InsideOrFellow {P} c f m m' b al k a n r h within fellow = go (Where f m b al.front_seam al.back_seam h.record_told)
  where
    go : Part f m b a r → P
    go (in_front j g i) = fellow a (FrontFellows c f m m' b al k a n r h i)
    go (inside j d g e i) = within j d g e
    go (in_back j d g e) = fellow (length (f ++ m') + d) (BackFellows c f m m' b al k a n d r h e)
