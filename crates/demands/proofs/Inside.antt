-- Where the old edition is solved, each listed deal is that of a new board inside the stretch and of none outside.
use Prim.Native.Nat.{ℕ, ◌+◌, ◌≤◌}
use mathlib.Core.Path.{◌≡◌, refl, sym, ◌∙◌, ap}
use mathlib.Core.Bool.{true}
use mathlib.Core.List.{List, [], ◌∷◌, ◌++◌}
use native.Mathlib.Omega.{arith}
use lib.ListN.{length, get_or, length-append}
use Rattle.tables.specs.declared.letters.Conventions.{Conventions}
use Rattle.reader.specs.declared.deal.Hands.{Hands}
use Rattle.reader.specs.Deals.{hands_of_words}
use Rattle.reader.specs.Records.{AlikeBut}
use Rattle.reader.specs.Editions.{card_of, cards_of}
use Rattle.reader.specs.Fellows.{Stands, Fellow}
use Rattle.reader.proofs.CardShape.{word_back}
use Rattle.reader.proofs.Fellows.{EveryBoard, RecordEnds, InsideOnly, AlikeOther, InsideOrFellow}
use Rattle.planning.specs.Cards.{hands_of}
use Rattle.planning.specs.Slips.{card_from}
use Rattle.planning.specs.Plans.{Boxes, old_reading, new_reading, editions_of}
use Rattle.planning.specs.Demands.{Among, here, WithDeal, Tabled, None, InFront, InStretch, InBack, AllSolved, ListedInside}
use Rattle.planning.proofs.BothLaws.{both_are_taken, taken_short}
use Rattle.planning.proofs.FoundLaws.{numbered, among_right}
use Rattle.planning.proofs.CardLaws.{SameDeal, SameWhole}
use Rattle.demands.proofs.Listed.{told, listed_exactly_once}
use Rattle.std.specs.Prelude.{is_ok}

-- ---- cards and their boards

card_behind : (xs : List (List ℕ)) (x : List ℕ) (ys : List (List ℕ)) → card_from (xs ++ (x ∷ ys)) (length xs) ≡ x
card_behind [] x ys = refl
card_behind (y ∷ xs) x ys = card_behind xs x ys

pub stands_card : {l : List (List ℕ)} {k : ℕ} {x : List ℕ} → Stands l k (x ∷ []) → card_from l k ≡ x
stands_card {l} {k} {x} s = rw (s.whole, ← s.count) (card_behind s.before x s.after)

stands_among : {l : List (List ℕ)} {k : ℕ} {x : List ℕ} → Stands l k (x ∷ []) → Among x l
stands_among {l} {k} {x} s = rw s.whole (among_right s.before here)

-- Words 60 and 61 of a text that was taken.
pub starts_at : (c : Conventions) (a n : ℕ) (r : List ℕ) → a + length r ≤ 16777215 → get_or (card_of c a n r) 60 0 ≡ a
starts_at c a n r h = word_back c a n r 22 ∙ omega arith

pub ends_at : (c : Conventions) (a n : ℕ) (r : List ℕ) → a + length r ≤ 16777215 → get_or (card_of c a n r) 61 0 ≡ a + length r
ends_at c a n r h = word_back c a n r 23 ∙ omega arith

-- ---- both editions were taken

new_short : (c : Conventions) (old new : List ℕ) (boxes : Boxes) → is_ok (editions_of c old new boxes) ≡ true → length new ≤ 16777215
unfolding editions_of
new_short c old new boxes e =
    taken_short c new (length boxes.new_cards) (length boxes.new_entries) (both_are_taken (old_reading c old boxes) (new_reading c new boxes) e).1

-- ---- a new board with an unsolved deal

module _ (c : Conventions) (front middle middle' back : List ℕ) (al : AlikeBut front middle middle' back)
    (solved : AllSolved (cards_of c (front ++ (middle ++ back)))) (short : length (front ++ (middle' ++ back)) ≤ 16777215)
    (h : Hands) (unsolved : None (Tabled h) (cards_of c (front ++ (middle ++ back)))) where
  -- It has no fellow in the old edition.
  no_fellow : (a n a' : ℕ) (r : List ℕ) → WithDeal h (card_of c a n r) → Fellow c (front ++ (middle ++ back)) a' r → ⊥
  no_fellow a n a' r d f =
      let n' = f.entries_before in
      let y = card_of c a' n' r in
      let i = stands_among f.is.card_is in
      let e : hands_of y ≡ h = ap hands_of_words (SameDeal c a' n' a n r) ∙ d.hands in
      let s = solved y i (SameWhole c a' n' a n r ∙ d.whole) in
      unsolved s.card s.among (rw e at s.holds)

  -- So it stands inside the stretch, and neither in the front nor in the back.
  record Placed (x : List ℕ) : Type 0 where
    in_stretch : InStretch front middle' x
    not_front : InFront front x → ⊥
    not_back : InBack front middle' x → ⊥

  placed : (x : List ℕ) → Among x (cards_of c (front ++ (middle' ++ back))) → WithDeal h x → Placed x
  placed x i d =
      let m = numbered i in
      let b = EveryBoard c (front ++ (middle' ++ back)) m.number m.below in
      let a = b.place in
      let n = b.entries_before in
      let r = b.text_of in
      let e : card_of c a n r ≡ x = sym (stands_card b.is.card_is) ∙ m.is in
      let l : a + length r ≤ 16777215 = omega (arith, RecordEnds b.is.record_told) in
      rw (← e)
      (InsideOrFellow c front middle' middle back (AlikeOther al) m.number a n r b.is
      (λ j t g q.
      let o = InsideOnly front middle' g q in
      let s = starts_at c a n r l in
      let u = ends_at c a n r l in
      record {
        in_stretch = (omega arith, omega (arith, RecordEnds g, length-append front middle'));
        not_front = λ z. o.0 (rw u at z);
        not_back = λ z. o.1 (rw s at z);
      })
      (λ a' f. absurd (no_fellow a n a' r (rw (← e) at d) f)))

pub listed_inside : ListedInside
listed_inside c front middle middle' back boxes slips boxes' slips' t al p solved h listed =
    let old = front ++ (middle ++ back) in
    let new = front ++ (middle' ++ back) in
    let q = told c old new boxes slips boxes' slips' t p in
    let short = new_short c old new boxes q.taken in
    let u = ((listed_exactly_once c old new boxes slips boxes' slips' t p).exactly h).0 listed in
    let at = placed c front middle middle' back al solved short h u.none_old in
    let x = u.some_new in
    record {
      inside = record { card = x.card; among = x.among; holds = (x.holds, (at x.card x.among x.holds).in_stretch) };
      none_in_front = λ y i z. (at y i z.0).not_front z.1;
      none_in_back = λ y i z. (at y i z.0).not_back z.1;
    }
