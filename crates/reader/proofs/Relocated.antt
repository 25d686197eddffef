-- The boards of an edition that is not overlong are boards of single records, moved by addition.
use Prim.Native.Nat.{ℕ, zero, suc, ◌+◌, ◌≤◌, ◌<◌}
use mathlib.Core.Path.{◌≡◌, refl, sym, ap, ◌∙◌}
use mathlib.Core.List.{List, [], ◌∷◌, map}
use native.Mathlib.Omega.{arith}
use lib.Dec.{eqb}
use lib.ListN.{length, get_or, length-map}
use borrow.Author.Tests.{eq-eqb}
use Rattle.tables.specs.declared.letters.Conventions.{Conventions}
use Rattle.tables.proofs.Laws.{by_cases, clash}
use Rattle.reader.specs.declared.store.Entry.{Entry}
use Rattle.reader.specs.declared.board.Values.{Values}
use Rattle.reader.specs.Store.{low_word, entry_words}
use Rattle.reader.specs.Boards.{record_out}
use Rattle.reader.specs.Editions.{entry_place, value_words, card_of}
use Rattle.reader.specs.Fellows.{BoardAt, moved_by, CardMoved, moved_entry, Relocated}
use Rattle.reader.proofs.EntryLaws.{All, none, one}
use Rattle.reader.proofs.ApplyLaws.{AllPlaces}
use Rattle.reader.proofs.Counts.{TextEntriesFew}
use Rattle.reader.proofs.Placed.{Placed, EntriesPlaced}
use Rattle.reader.proofs.StandLaws.{stands_fit}
use Rattle.reader.proofs.Fellows.{RecordEnds}
use Rattle.reader.proofs.CardShape.{word_0, word_back, value_word, SameWords}
use Rattle.reader.proofs.CardPlaced.{Points, absent, there, RecordPlaced}

-- ---- the places of a card

-- A place that is absent, or so low that 32 bits hold it, moved by n.
place_moved : (n v : ℕ) → n + v < 4294967296 → entry_place n v ≡ moved_by n (entry_place 0 v)
place_moved n v h =
    by_cases (eqb v 0)
    (λ e. rw e)
    (λ e.
    let a : low_word (n + v) ≡ n + v = omega arith in
    let b : low_word (0 + v) ≡ v = omega arith in
    rw (e, a, b) (rw e))

-- A word that points to a run of entries is at most one more than their number.
points_low : {K : ℕ → Type 0} {es : List Entry} {first count : ℕ} → Points K es first count → first ≤ length es + 1
points_low (absent e) = omega arith
points_low (there j run e s l a) = omega (arith, stands_fit s)

all_places : {P : ℕ → Type 0} (n : ℕ) (v : Values) → ((x : ℕ) → P x → entry_place n x ≡ moved_by n (entry_place 0 x)) → AllPlaces P v → value_words n v ≡ map (moved_by n) (value_words 0 v)
all_places n v f a =
    rw (
      f _ a.id_place,
      f _ a.event_place,
      f _ a.site_place,
      f _ a.date_place,
      f _ a.contract_place,
      f _ a.north_place,
      f _ a.east_place,
      f _ a.south_place,
      f _ a.west_place,
      f _ a.deal_place,
      f _ a.score_place,
      f _ a.par_place,
    )

get_map : (f : ℕ → ℕ) (l : List ℕ) (i : ℕ) → i < length l → get_or (map f l) i 0 ≡ f (get_or l i 0)
get_map f [] i h = absurd (omega arith)
get_map f (x ∷ xs) zero h = refl
get_map f (x ∷ xs) (suc i) h = get_map f xs i (omega arith)

-- Two, three and four words in a row.
up_to_2 : (P : ℕ → Type 0) → P 0 → P 1 → (i : ℕ) → i < 2 → P i
up_to_2 P p q zero h = p
up_to_2 P p q (suc zero) h = q
up_to_2 P p q (suc (suc i)) h = absurd (omega arith)

up_to_3 : (P : ℕ → Type 0) → P 0 → P 1 → P 2 → (i : ℕ) → i < 3 → P i
up_to_3 P p q r zero h = p
up_to_3 P p q r (suc i) h = up_to_2 (λ j. P (suc j)) q r i (omega arith)

up_to_4 : (P : ℕ → Type 0) → P 0 → P 1 → P 2 → P 3 → (i : ℕ) → i < 4 → P i
up_to_4 P p q r s zero h = p
up_to_4 P p q r s (suc i) h = up_to_3 (λ j. P (suc j)) q r s i (omega arith)

card_moves : (c : Conventions) (a n : ℕ) (r : List ℕ) → a + length r < 4294967296 → n + length (record_out c r).entries + 1 < 4294967296 → CardMoved a n (card_of c 0 0 r) (card_of c a n r)
card_moves c a n r ha hn =
    let es = (record_out c r).entries in
    let b = (record_out c r).state.board in
    let p = RecordPlaced c r in
    let same : ℕ → Type 0 = λ i. get_or (card_of c a n r) i 0 ≡ get_or (card_of c 0 0 r) i 0 in
    let back : (i : ℕ) → get_or (card_of c a n r) (38 + i) 0 ≡ _ = word_back c a n r in
    let base : (i : ℕ) → get_or (card_of c 0 0 r) (38 + i) 0 ≡ _ = word_back c 0 0 r in
    let low : (x : ℕ) → x ≤ length es + 1 → entry_place n x ≡ moved_by n (entry_place 0 x) = λ x h. place_moved n x (omega arith) in
    let vs = all_places n b.values (λ x q. low x (points_low q)) p.values in
    record {
      first_entry = word_0 c a n r ∙ omega (arith, word_0 c 0 0 r);
      same_words = λ i h. let z : 1 + i ≡ suc i = omega arith in rw z (SameWords c a n 0 0 r i (omega arith));
      values = λ i h.
          value_word c a n r i h ∙ ap (λ (l : List ℕ). get_or l i 0) vs ∙ get_map (moved_by n) (value_words 0 b.values) i (omega arith) ∙ ap (moved_by n) (sym (value_word c 0 0 r i h));
      auction = back 13 ∙ low b.auction.first (points_low p.auction) ∙ ap (moved_by n) (sym (base 13));
      auction_words = λ i h.
          up_to_3 (λ j. same (52 + j)) (back 14 ∙ sym (base 14)) (back 15 ∙ sym (base 15)) (back 16 ∙ sym (base 16)) i h;
      play = back 17 ∙ low b.play.first (points_low p.play) ∙ ap (moved_by n) (sym (base 17));
      play_words = λ i h.
          up_to_4 (λ j. same (56 + j)) (back 18 ∙ sym (base 18)) (back 19 ∙ sym (base 19)) (back 20 ∙ sym (base 20)) (back 21 ∙ sym (base 21)) i h;
      starts = back 22 ∙ omega (arith, base 22);
      ends = back 23 ∙ omega (arith, base 23);
      zeros = λ i h. up_to_2 (λ j. same (62 + j)) (back 24 ∙ sym (base 24)) (back 25 ∙ sym (base 25)) i h;
    }

-- ---- entries

entry_moved : (a n : ℕ) (e : Entry) → a + n < 4294967296 → Placed n e → entry_words a e ≡ moved_entry a (entry_words 0 e)
unfolding entry_words
entry_moved a n e h p =
    let k : low_word e.kind ≡ e.kind = omega (arith, p.kind_low) in
    by_cases (eqb e.kind 8)
    (λ t. rw (k, t))
    (λ t.
    let i = p.inside (λ z. clash (sym t ∙ eq-eqb e.kind 8 z)) in
    let x : low_word (a + e.x) ≡ a + e.x = omega arith in
    let y : low_word (0 + e.x) ≡ e.x = omega arith in
    rw (k, t, x, y))

entries_moved : (a n : ℕ) {es : List Entry} → a + n < 4294967296 → All (Placed n) es → map (entry_words a) es ≡ map (moved_entry a) (map (entry_words 0) es)
entries_moved a n h none = refl
entries_moved a n h (one {x = e} {xs = es} p q) = rw (entry_moved a n e h p, entries_moved a n h q)

-- THEOREM. Every board of a text that is not overlong is the board of its record alone, moved by addition.
pub RelocatedBoards : (c : Conventions) (text : List ℕ) (k a n : ℕ) (r : List ℕ) → length text ≤ 16777215 → BoardAt c text k a n r → Relocated c a n r
RelocatedBoards c text k a n r short h =
    let own = rw length-map at (stands_fit h.entries_are) in
    let few = TextEntriesFew c text in
    let ends = RecordEnds h.record_told in
    record {
      card_moved = card_moves c a n r (omega arith) (omega arith);
      entries_moved = entries_moved a (length r) (omega arith) (EntriesPlaced c r);
    }
