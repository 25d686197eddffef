-- Laws of reading both editions: one for each answer.
use Prim.Native.Nat.{ℕ, ◌+◌, ◌*◌, ◌-◌, ◌≤◌}
use mathlib.Core.Path.{◌≡◌, refl, sym, ap, ◌∙◌}
use mathlib.Core.Bool.{true, false}
use mathlib.Core.List.{List}
use native.Mathlib.Omega.{arith}
use lib.Dec.{ltb}
use lib.ListN.{length, length-append, length-replicate}
use borrow.Author.Tests.{ltb-false}
use Rattle.std.specs.Prelude.{Result, Ok, Err, is_ok, is_err, IsErrAnd, MatchResult}
use Rattle.tables.specs.declared.letters.Conventions.{Conventions}
use Rattle.tables.specs.declared.refused.Edition.{Edition}
use Rattle.tables.specs.declared.refused.Edition.TheVariants.{Old, New}
use Rattle.reader.specs.declared.edition.ReadRefusal.{ReadRefusal}
use Rattle.reader.specs.declared.edition.Counts.{Counts}
use Rattle.tables.proofs.Laws.{by_cases, clash}
use Rattle.reader.specs.Store.{flat, padded}
use Rattle.reader.specs.Editions.{reading_of, cards_of, IsRead}
use Rattle.reader.specs.EditionSteps.{FullCards}
use Rattle.planning.specs.declared.editions.Both.{Both}
use Rattle.planning.specs.declared.editions.EditionsRefusal.{EditionsRefusal}
use Rattle.planning.specs.declared.editions.LentBoxes.{LentBoxes}
use Rattle.planning.specs.Plans.{Boxes, four, words_of, SameLent, old_reading, new_reading, Editions, both_after, editions_of, BothRead}
use Rattle.planning.specs.PlanSteps.{cards_in, BoxesKept, EachRead}
use Rattle.planning.proofs.BoxLaws.{cards_back, taken_fits}

-- ---- each edition

-- What reading an edition answers, the refusal with the edition's name.
abbrev pub named : Edition → Result Counts ReadRefusal → Result Counts EditionsRefusal
named e (Ok n) = Ok n
named e (Err f) = Err (record { edition = e; refusal = f })

pub made_named : (e : Edition) (P : ReadRefusal → EditionsRefusal → Type 0) (r : Result Counts ReadRefusal) (q : Result Counts EditionsRefusal)
    → MatchResult r (λ n. q ≡ Ok n) (λ f. IsErrAnd q (P f)) → ((f : ReadRefusal) (g : EditionsRefusal) → P f g → g ≡ record { edition = e; refusal = f }) → q ≡ named e r
made_named e P (Ok n) q m h = m
made_named e P (Err f) (Ok n) m h = absurd m
made_named e P (Err f) (Err g) m h = ap Err (h f g m)

abbrev counts_or : Counts → Result Counts EditionsRefusal → Counts
counts_or n (Ok m) = m
counts_or n (Err f) = n

abbrev refusal_or : EditionsRefusal → Result Counts EditionsRefusal → EditionsRefusal
refusal_or f (Ok m) = f
refusal_or f (Err g) = g

-- One answer of both readings.
old_left : (r s : Result Counts ReadRefusal) (g : EditionsRefusal) → named Old r ≡ Err g → Err g ≡ both_after r s
old_left (Ok m) s g h = clash (sym (ap is_ok h))
old_left (Err f) s g h = ap Err (sym (ap (refusal_or g) h))

new_left : (r s : Result Counts ReadRefusal) (m : Counts) (g : EditionsRefusal) → named Old r ≡ Ok m → named New s ≡ Err g → Err g ≡ both_after r s
new_left (Err f) s m g h k = clash (ap is_ok h)
new_left (Ok n) (Ok l) m g h k = clash (sym (ap is_ok k))
new_left (Ok n) (Err f) m g h k = ap Err (sym (ap (refusal_or g) k))

was_taken : (e : Edition) (r : Result Counts ReadRefusal) (m : Counts) → named e r ≡ Ok m → r ≡ Ok m
was_taken e (Err f) m h = clash (ap is_ok h)
was_taken e (Ok n) m h = ap Ok (ap (counts_or m) h)

module _ {c : Conventions} {old new oc oe nc ne oc' oe' : List ℕ} {r : Result Counts ReadRefusal} (i : IsRead c old oc oe r oc' oe') where
  pub each_old : {g : EditionsRefusal} {nc' ne' : List ℕ} {x : Editions} → named Old r ≡ Err g → x ≡ Err g → EachRead c old new (four oc oe nc ne) (four oc' oe' nc' ne') x
  unfolding editions_of
  each_old {g} h e = record {
    answer = e ∙ rw (← i.answer) (old_left r (reading_of c new (length nc) (length ne)) g h);
    boxes_taken = λ k. clash (rw e at k);
  }

  module _ {m : Counts} {s : Result Counts ReadRefusal} {nc' ne' : List ℕ} (h : named Old r ≡ Ok m) (j : IsRead c new nc ne s nc' ne') where
    pub each_new : {g : EditionsRefusal} {x : Editions} → named New s ≡ Err g → x ≡ Err g → EachRead c old new (four oc oe nc ne) (four oc' oe' nc' ne') x
    unfolding editions_of
    each_new {g} k e = record {
      answer = e ∙ rw (← i.answer, ← j.answer) (new_left r s m g h k);
      boxes_taken = λ l. clash (rw e at l);
    }

    pub each_taken : {n : Counts} → named New s ≡ Ok n → EachRead c old new (four oc oe nc ne) (four oc' oe' nc' ne') (Ok (record { old = m; new = n }))
    unfolding editions_of
    each_taken {n} k =
        let e = was_taken Old r m h in
        let f = was_taken New s n k in
        record {
          answer = rw (← i.answer, e, ← j.answer, f);
          boxes_taken = λ l. record {
            old_cards = rw e at i.cards_after;
            old_entries = rw e at i.entries_after;
            new_cards = rw f at j.cards_after;
            new_entries = rw f at j.entries_after;
          };
        }

-- ---- both editions

pub both_refused : {c : Conventions} {old new : List ℕ} {x y : LentBoxes} {b : Boxes} {r : Editions} → EachRead c old new (words_of x) (words_of y) r → SameLent x y → BoxesKept false (words_of y) b → is_err r ≡ true
    → BothRead c old new (words_of x) b r
both_refused {r = Ok n} w s k e = clash e
both_refused {r = Err f} w s k e = record {
  answer = w.answer;
  boxes_left = record {
    old_cards = k.old_cards ∙ rw s.old_cards_room;
    old_entries = k.old_entries ∙ rw s.old_entries_room;
    new_cards = k.new_cards ∙ rw s.new_cards_room;
    new_entries = k.new_entries ∙ rw s.new_entries_room;
  };
}

pub both_taken : {c : Conventions} {old new : List ℕ} {b b' : Boxes} {r : Editions} → EachRead c old new b b' r → is_err r ≡ false → BothRead c old new b b' r
both_taken {r = Ok n} w e = record { answer = w.answer; boxes_left = w.boxes_taken refl }
both_taken {r = Err f} w e = clash (sym e)

-- ---- both were taken

pub both_are_taken : (r s : Result Counts ReadRefusal) → is_ok (both_after r s) ≡ true → (is_ok r ≡ true) × (is_ok s ≡ true)
both_are_taken (Ok m) (Ok n) h = (refl, refl)
both_are_taken (Ok m) (Err f) h = clash h
both_are_taken (Err f) s h = clash h

pub taken_short : (c : Conventions) (text : List ℕ) (lc le : ℕ) → is_ok (reading_of c text lc le) ≡ true → length text ≤ 16777215
unfolding reading_of
taken_short c text lc le h =
    by_cases (ltb 16777215 (length text))
    (λ e. clash (rw e at h))
    (λ e. omega (arith, ltb-false 16777215 (length text) e))

-- ---- the cards of both editions, where both were taken

abbrev pub counts_in : Both → Editions → Both
counts_in d (Ok n) = n
counts_in d (Err f) = d

taken_both : (r s : Result Counts ReadRefusal) (n : Both) → Ok n ≡ both_after r s → (r ≡ Ok n.old) × (s ≡ Ok n.new)
taken_both (Ok k) (Ok l) n h =
    let e : n ≡ record { old = k; new = l } = ap (counts_in n) h in
    rw e (refl, refl)
taken_both (Ok k) (Err f) n h = clash (sym (ap is_ok h))
taken_both (Err f) s n h = clash (sym (ap is_ok h))

-- The words hold the n cards of the text.
pub record CardsThere (c : Conventions) (text box : List ℕ) (n : ℕ) : Type 0 where
  pub count : n ≡ length (cards_of c text)
  pub room : 64 * n ≤ length box
  pub cards : cards_in n box ≡ cards_of c text

cards_there : (c : Conventions) (text : List ℕ) (lc le : ℕ) (k : Counts) (box : List ℕ) → FullCards (cards_of c text) → reading_of c text lc le ≡ Ok k → box ≡ padded lc (flat (cards_of c text))
    → CardsThere c text box k.boards
cards_there c text lc le k box w t h =
    let f = taken_fits c text lc le k t in
    let e : k.boards ≡ length (cards_of c text) = ap (λ (x : Counts). x.boards) f.counts_are in
    let l : length box ≡ length (flat (cards_of c text)) + (lc - length (flat (cards_of c text))) = rw (h, length-append, length-replicate) in
    record {
      count = e;
      room = omega (arith, l, e, f.cards_fit);
      cards = rw (e, h) (cards_back (cards_of c text) lc w f.cards_fit);
    }

-- FullCards (cards_of c text), which holds of every text, is taken as given.
pub both_cards : {c : Conventions} {old new : List ℕ} {boxes boxes' : Boxes} {n : Both} → BothRead c old new boxes boxes' (Ok n)
    → FullCards (cards_of c old) → FullCards (cards_of c new) → CardsThere c old boxes'.old_cards n.old.boards × CardsThere c new boxes'.new_cards n.new.boards
unfolding editions_of
both_cards {c} {old} {new} {boxes} {boxes'} {n} b wo wn =
    let t = taken_both (old_reading c old boxes) (new_reading c new boxes) n b.answer in (
      cards_there c old (length boxes.old_cards) (length boxes.old_entries) n.old boxes'.old_cards wo t.0 b.boxes_left.old_cards,
      cards_there c new (length boxes.new_cards) (length boxes.new_entries) n.new boxes'.new_cards wn t.1 b.boxes_left.new_cards,
    )
