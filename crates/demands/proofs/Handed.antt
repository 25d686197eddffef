-- The words handed back for an edition hold its cards and its entries.
use Prim.Native.Nat.{ℕ, ◌*◌, ◌≤◌}
use mathlib.Core.Path.{◌≡◌, refl, sym, ap, ◌∙◌}
use mathlib.Core.Bool.{Bool, true}
use mathlib.Core.List.{List}
use native.Mathlib.Omega.{arith}
use lib.Dec.{leb}
use lib.ListN.{length, get_or}
use Rattle.std.specs.Prelude.{Result, Ok, Err, is_ok}
use Rattle.tables.specs.declared.letters.Conventions.{Conventions}
use Rattle.tables.proofs.Laws.{by_cases, clash}
use Rattle.reader.specs.declared.edition.Counts.{Counts}
use Rattle.reader.specs.declared.edition.ReadRefusal.{ReadRefusal}
use Rattle.reader.specs.Store.{flat, padded}
use Rattle.reader.specs.Editions.{reading_of, cards_of, entries_of}
use Rattle.planning.specs.Plans.{Boxes, old_reading, new_reading, editions_of, BoxesAfter, Editions}
use Rattle.planning.proofs.BoxLaws.{taken_fits}
use Rattle.planning.proofs.BothLaws.{both_are_taken, taken_short}
use Rattle.writer.specs.Pages.{written_text}
use Rattle.writer.specs.Writings.{written_by, writing_of}
use Rattle.writer.specs.Given.{finished_text}
use Rattle.writer.specs.Finishings.{finishing_of}
use Rattle.golavimes.specs.Answers.{reading_numbers, writing_numbers, editions_head, head_then, WritingOut, FinishOut}
use Rattle.demands.specs.Demand1.{solve_in}
use Rattle.demands.specs.Boards.{BothBack, by_plan, by_state, by_record, by_boards, by_searches, by_finish, HandedBack, by_read, by_write, as_old, as_new}
use Rattle.demands.proofs.Listed.{told}
use Rattle.demands.proofs.Listing.{read_number_lem, promised}
use Rattle.demands.proofs.FinishRefusing.{is_done}

-- ---- an edition

-- What an edition's words hold once it was taken.
pub record Held (c : Conventions) (text cards entries : List ℕ) : Type 0 where
  pub short : length text ≤ 16777215
  pub lent_cards : ℕ
  pub lent_entries : ℕ
  pub cards_fit : 64 * length (cards_of c text) ≤ lent_cards
  pub entries_fit : 4 * length (entries_of c text) ≤ lent_entries
  pub cards_are : cards ≡ padded lent_cards (flat (cards_of c text))
  pub entries_are : entries ≡ padded lent_entries (flat (entries_of c text))

-- An edition taken, with its answer.
pub record TakenAs (r : Result Counts ReadRefusal) : Type 0 where
  pub counts : Counts
  pub is : r ≡ Ok counts

pub taken_as : (r : Result Counts ReadRefusal) → is_ok r ≡ true → TakenAs r
taken_as (Ok n) e = record { counts = n; is = refl }
taken_as (Err f) e = clash e

held : (c : Conventions) (text cards entries : List ℕ) (lc le : ℕ) → is_ok (reading_of c text lc le) ≡ true
    → cards ≡ padded lc (flat (cards_of c text)) → entries ≡ padded le (flat (entries_of c text)) → Held c text cards entries
held c text cards entries lc le t ec ee =
    let a = taken_as (reading_of c text lc le) t in
    let f = taken_fits c text lc le a.counts a.is in
    record {
      short = taken_short c text lc le t;
      lent_cards = lc;
      lent_entries = le;
      cards_fit = f.cards_fit;
      entries_fit = f.entries_fit;
      cards_are = ec;
      entries_are = ee;
    }

pub reading_zero : (r : Result Counts ReadRefusal) → get_or (reading_numbers r) 0 0 ≡ 0 → is_ok r ≡ true
reading_zero (Ok n) e = refl
reading_zero (Err f) e = absurd (read_number_lem f e)

-- A writing that begins with 0: the edition was taken, and the page was long enough.
pub writing_zero : (bs : List ℕ) (m : ℕ) (r : Result Counts ReadRefusal) → get_or (writing_numbers (written_by bs m r)) 0 0 ≡ 0
    → (is_ok r ≡ true) × (written_by bs m r ≡ Ok (length bs))
writing_zero bs m (Ok n) e =
    by_cases (leb (length bs) m)
    (λ t. (refl, rw t))
    (λ t. let z = rw t at e in absurd (omega arith))
writing_zero bs m (Err f) e = absurd (read_number_lem f e)

-- ---- two editions

record HeldBoth (c : Conventions) (old new : List ℕ) (boxes : Boxes) : Type 0 where
  of_old : Held c old boxes.old_cards boxes.old_entries
  of_new : Held c new boxes.new_cards boxes.new_entries

boxes_held : (c : Conventions) (old new : List ℕ) (boxes boxes' : Boxes) (well : Bool)
    → is_ok (editions_of c old new boxes) ≡ true → well ≡ true → BoxesAfter c well old new boxes boxes' → HeldBoth c old new boxes'
unfolding editions_of
boxes_held c old new boxes boxes' well t w b =
    let u = both_are_taken (old_reading c old boxes) (new_reading c new boxes) t in
    record {
      of_old =
          held c old boxes'.old_cards boxes'.old_entries (length boxes.old_cards) (length boxes.old_entries) u.0
          (b.old_cards ∙ rw w) (b.old_entries ∙ rw w);
      of_new =
          held c new boxes'.new_cards boxes'.new_entries (length boxes.new_cards) (length boxes.new_entries) u.1
          (b.new_cards ∙ rw w) (b.new_entries ∙ rw w);
    }

head_zero : (e : Editions) → 0 ≡ (editions_head e).refusal → is_ok e ≡ true
head_zero (Ok n) z = refl
head_zero (Err f) z = absurd (read_number_lem f.refusal (sym z))

-- An answer that begins with the head of what reading both came to, and with 0.
headed_held : (c : Conventions) (old new : List ℕ) (boxes boxes' : Boxes) (answer' values : List ℕ) → answer' ≡ head_then (editions_head (editions_of c old new boxes)) values
    → BoxesAfter c (is_ok (editions_of c old new boxes)) old new boxes boxes' → 0 ≡ get_or answer' 0 0 → HeldBoth c old new boxes'
headed_held c old new boxes boxes' answer' values told after z =
    let t = head_zero (editions_of c old new boxes) (z ∙ ap (λ (l : List ℕ). get_or l 0 0) told) in
    boxes_held c old new boxes boxes' (is_ok (editions_of c old new boxes)) t t after

finish_held : (c : Conventions) (old new : List ℕ) (boxes : Boxes) (answers page : List ℕ) (boxes' : Boxes) (page' answer' : List ℕ)
    → FinishOut c old new boxes answers page boxes' page' answer' 0 → HeldBoth c old new boxes'
unfolding finishing_of
finish_held c old new boxes answers page boxes' page' answer' o =
    let d =
    is_done (editions_of c old new boxes) (solve_in c old new) answers (length (finished_text c old new answers)) (length page)
    (sym (ap (λ (l : List ℕ). get_or l 0 0) o.told) ∙ sym o.returned) in
    boxes_held c old new boxes boxes' (is_ok (finishing_of c old new boxes answers (length page)))
    d.taken (ap is_ok d.is) o.lent_after.boxes_left

both_handed : (c : Conventions) (old new : List ℕ) (boxes' : Boxes) → BothBack c old new boxes' → HeldBoth c old new boxes'
both_handed c old new boxes'' (by_plan {boxes = boxes} {slips = slips} {boxes' = boxes'} {slips' = slips'} {answer' = answer'} o) =
    let p = promised c old new boxes slips boxes' slips' answer' o in
    let t = (told c old new boxes slips boxes' slips' p.totals p.planned).taken in
    boxes_held c old new boxes boxes' true t refl p.planned.boxes_left
both_handed c old new boxes'' (by_state {boxes = boxes} {boxes' = boxes'} {answer' = answer'} o) =
    headed_held c old new boxes boxes' answer' _ o.told o.boxes_left o.returned
both_handed c old new boxes'' (by_record {boxes = boxes} {boxes' = boxes'} {answer' = answer'} o) =
    headed_held c old new boxes boxes' answer' _ o.told o.boxes_left o.returned
both_handed c old new boxes'' (by_boards {boxes = boxes} {boxes' = boxes'} {answer' = answer'} o) =
    headed_held c old new boxes boxes' answer' _ o.told o.boxes_left o.returned
both_handed c old new boxes'' (by_searches {boxes = boxes} {boxes' = boxes'} {answer' = answer'} o) =
    headed_held c old new boxes boxes' answer' _ o.told o.boxes_left o.returned
both_handed c old new boxes'' (by_finish {boxes} {answers} {page} {boxes'} {page'} {answer'} o) =
    finish_held c old new boxes answers page boxes' page' answer' o

-- ---- whatever read it

write_held : (c : Conventions) (text cards entries page cards' entries' page' answer' : List ℕ)
    → WritingOut c text cards entries page cards' entries' page' answer' 0 → Held c text cards' entries'
unfolding writing_of
write_held c text cards entries page cards' entries' page' answer' o =
    let t =
    writing_zero (written_text c text) (length page) (reading_of c text (length cards) (length entries))
    (sym (ap (λ (l : List ℕ). get_or l 0 0) o.told) ∙ sym o.returned) in
    let out = ap is_ok t.1 in
    held c text cards' entries' (length cards) (length entries) t.0
    (o.lent_after.cards_after ∙ rw out) (o.lent_after.entries_after ∙ rw out)

pub handed : (c : Conventions) (text cards entries : List ℕ) → HandedBack c text cards entries → Held c text cards entries
handed c text cards'' entries'' (by_read {cards = cards} {entries = entries} {cards' = cards'} {entries' = entries'} o) =
    let t =
    reading_zero (reading_of c text (length cards) (length entries)) (sym (ap (λ (a : List ℕ). get_or a 0 0) o.told) ∙ sym o.returned) in
    held c text cards' entries' (length cards) (length entries) t (o.cards_after ∙ rw t) (o.entries_after ∙ rw t)
handed c text cards'' entries'' (by_write {cards} {entries} {page} {cards'} {entries'} {page'} {answer'} o) =
    write_held c text cards entries page cards' entries' page' answer' o
handed c text cards'' entries'' (as_old {new = new} {boxes' = boxes'} b) = (both_handed c text new boxes' b).of_old
handed c text cards'' entries'' (as_new {old = old} {boxes' = boxes'} b) = (both_handed c old text boxes' b).of_new
