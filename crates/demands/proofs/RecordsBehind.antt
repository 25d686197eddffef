-- The part of a text behind a board is the whole record of its source board, or its own.
use Prim.Native.Nat.{ℕ, zero, suc, ◌+◌, ◌-◌, ◌≤◌, ◌<◌}
use mathlib.Core.Path.{◌≡◌, refl, sym, ◌∙◌, ap}
use mathlib.Core.Bool.{true}
use mathlib.Core.List.{List, [], ◌∷◌, ◌++◌}
use native.Mathlib.Omega.{arith}
use lib.ListN.{length, get_or, take, drop}
use lib.Seq.{take_at, drop_at}
use Rattle.std.specs.Prelude.{Some, Result, Ok, Err, is_ok}
use Rattle.tables.specs.declared.letters.Conventions.{Conventions}
use Rattle.tables.proofs.Laws.{clash}
use Rattle.reader.specs.declared.edition.Counts.{Counts}
use Rattle.reader.specs.declared.edition.ReadRefusal.{ReadRefusal}
use Rattle.reader.specs.Records.{records_of}
use Rattle.reader.specs.Editions.{card_of, cards_of}
use Rattle.reader.specs.Fellows.{Stands}
use Rattle.reader.proofs.Fellows.{EveryBoard, RecordFilled, RecordEnds}
use Rattle.planning.specs.declared.state.BoardState.{BoardState}
use Rattle.planning.specs.declared.state.BoardState.TheVariants.{Blank, Own, Old, Near, Twin, Solve}
use Rattle.planning.specs.States.{board_plans, state_at}
use Rattle.planning.specs.Slips.{card_from, behind_state, behind_at, part_of}
use Rattle.planning.specs.Plans.{old_reading, new_reading, both_after, editions_of, behind_by, plans_of}
use Rattle.planning.specs.Demands.{record_at, IsBehind, PlacesBehind, RecordsBehind}
use Rattle.planning.proofs.BothLaws.{taken_short}
use Rattle.planning.proofs.StateLaws.{Reaches}
use Rattle.demands.proofs.MeaningLaws.{plan_here_lem}
use Rattle.demands.proofs.StatesMean.{reach_here}
use Rattle.demands.proofs.Inside.{stands_card, starts_at, ends_at}

-- ---- a record and its places

-- The bytes that stand at a place.
stands_part : {l xs : List ℕ} {a : ℕ} → Stands l a xs → take (length xs) (drop a l) ≡ xs
stands_part {l} {xs} {a} s =
    rw (s.whole, drop_at s.before (xs ++ s.after) a s.count) (take_at xs s.after (length xs) refl)

-- The part of a text from word 60 of a card to word 61.
abbrev part_here : List ℕ → List ℕ → List ℕ
part_here text card = take (get_or card 61 0 - get_or card 60 0) (drop (get_or card 60 0) text)

record WholeRecord (text : List ℕ) (k : ℕ) (part : List ℕ) : Type 0 where
  is : part ≡ get_or (records_of text) k []
  filled : 0 < length part

-- For each card it is the record.
whole_record : (c : Conventions) (text : List ℕ) (k : ℕ) → length text ≤ 16777215 → k < length (cards_of c text)
    → WholeRecord text k (part_here text (card_from (cards_of c text) k))
whole_record c text k short h =
    let b = EveryBoard c text k h in
    let a = b.place in
    let n = b.entries_before in
    let r = b.text_of in
    let e : card_from (cards_of c text) k ≡ card_of c a n r = stands_card b.is.card_is in
    let l : a + length r ≤ 16777215 = omega (arith, RecordEnds b.is.record_told) in
    let d : a + length r - a ≡ length r = omega arith in
    let p : part_here text (card_from (cards_of c text) k) ≡ r = rw (e, starts_at c a n r l, ends_at c a n r l, d) (stands_part b.is.bytes_are) in
    record { is = p ∙ sym (stands_get b.is.record_told.record_is); filled = rw p (RecordFilled b.is.record_told) }
  where
    get_behind : (xs : List (List ℕ)) (x : List ℕ) (ys : List (List ℕ)) → get_or (xs ++ (x ∷ ys)) (length xs) [] ≡ x
    get_behind [] x ys = refl
    get_behind (y ∷ xs) x ys = get_behind xs x ys

    stands_get : {l : List (List ℕ)} {i : ℕ} {x : List ℕ} → Stands l i (x ∷ []) → get_or l i [] ≡ x
    stands_get {l} {i} {x} s = rw (s.whole, ← s.count) (get_behind s.before x s.after)

-- ---- a board and its state

behind_here : (olds news : List (List ℕ)) (i : ℕ) → i < length news
    → behind_at olds news (board_plans olds news) (suc i) ≡ Some (behind_state olds news (card_from news i) (state_at (board_plans olds news) (suc i)))
behind_here olds news i h = rw (plan_here_lem olds news i h)

-- The record at a position from 1.
at_position : (text : List ℕ) (k : ℕ) {part : List ℕ} → WholeRecord text k part → part ≡ record_at text (suc k)
at_position text k w = let e : suc k - 1 ≡ k = omega arith in rw e w.is

module _ (c : Conventions) (old new : List ℕ) (short_old : length old ≤ 16777215) (short_new : length new ≤ 16777215) where
  in_old : (k : ℕ) → k < length (cards_of c old) → WholeRecord old k (part_here old (card_from (cards_of c old) k))
  in_old k h = whole_record c old k short_old h

  in_new : (k : ℕ) → k < length (cards_of c new) → WholeRecord new k (part_here new (card_from (cards_of c new) k))
  in_new k h = whole_record c new k short_new h

  behind_is : (i : ℕ) → i < length (cards_of c new) → (s : BoardState) → Reaches (length (cards_of c old)) (length (cards_of c new)) s
      → IsBehind old new (suc i) s (part_of old new (Some (behind_state (cards_of c old) (cards_of c new) (card_from (cards_of c new) i) s)))
  behind_is i h Blank r = record { is = at_position new i (in_new i h); filled = (in_new i h).filled }
  behind_is i h Own r = record { is = at_position new i (in_new i h); filled = (in_new i h).filled }
  behind_is i h (Old zero) r = absurd (omega (arith, r.0))
  behind_is i h (Old (suc k)) r = let w = in_old k (omega (arith, r.1)) in record { is = at_position old k w; filled = w.filled }
  behind_is i h (Near zero) r = absurd (omega (arith, r.0))
  behind_is i h (Near (suc k)) r = let w = in_new k (omega (arith, r.1)) in record { is = at_position new k w; filled = w.filled }
  behind_is i h (Twin zero) r = absurd (omega (arith, r.0))
  behind_is i h (Twin (suc k)) r = let w = in_new k (omega (arith, r.1)) in record { is = at_position new k w; filled = w.filled }
  behind_is i h Solve r = record { is = at_position new i (in_new i h); filled = (in_new i h).filled }

pub places_behind : PlacesBehind
places_behind c old new zero so sn o l = absurd (omega arith)
places_behind c old new (suc i) so sn o l =
    let h : i < length (cards_of c new) = omega arith in
    rw (behind_here (cards_of c old) (cards_of c new) i h)
    (behind_is c old new so sn i h (state_at (plans_of c old new) (suc i)) (reach_here (cards_of c old) (cards_of c new) i h))

-- ---- as handed back

both_behind : (x y : Result Counts ReadRefusal) (c : Conventions) (old new : List ℕ) (p : ℕ) → is_ok x ≡ true → is_ok y ≡ true
    → behind_by (both_after x y) c old new p ≡ behind_at (cards_of c old) (cards_of c new) (plans_of c old new) p
both_behind (Ok m) (Ok n) c old new p a b = refl
both_behind (Ok m) (Err f) c old new p a b = clash b
both_behind (Err f) y c old new p a b = clash a

pub records_behind : RecordsBehind
unfolding editions_of
records_behind c old new boxes boxes' p part t a b o l =
    let x = old_reading c old boxes in
    let y = new_reading c new boxes in
    let e = t.bytes ∙ ap (part_of old new) (both_behind x y c old new p a b) in
    rw e (places_behind c old new p (taken_short c old (length boxes.old_cards) (length boxes.old_entries) a) (taken_short c new (length boxes.new_cards) (length boxes.new_entries) b) o l)
