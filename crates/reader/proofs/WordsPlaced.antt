-- Where the words of an edition's cards point to: into the edition's entries, between the first entry of the card's own record and
-- its last; and its record lies inside the text.
use Prim.Native.Nat.{ℕ, zero, suc, ◌+◌, ◌≤◌, ◌<◌}
use mathlib.Core.Path.{◌≡◌, refl, ap, ◌∙◌}
use mathlib.Core.Logic.{inl, inr}
use mathlib.Core.Bool.{false}
use mathlib.Core.List.{List, [], ◌∷◌, map}
use native.Mathlib.Omega.{arith}
use lib.Dec.{eqb}
use lib.ListN.{length, get_or, length-map}
use borrow.Author.Tests.{ne_eqb}
use Rattle.tables.specs.declared.letters.Conventions.{Conventions}
use Rattle.reader.specs.declared.store.Entry.{Entry}
use Rattle.reader.specs.declared.board.Values.{Values}
use Rattle.reader.specs.Store.{low_word, entry_words}
use Rattle.reader.specs.Boards.{record_out}
use Rattle.reader.specs.Editions.{entry_place, value_words, card_of, cards_of, entries_of}
use Rattle.reader.specs.Fellows.{Stands, BoardAt}
use Rattle.reader.proofs.EntryLaws.{All, none, one}
use Rattle.reader.proofs.ApplyLaws.{AllPlaces}
use Rattle.reader.proofs.Counts.{TextEntriesFew}
use Rattle.reader.proofs.Placed.{all_words}
use Rattle.reader.proofs.StandLaws.{stands_left, stands_right, stands_map, stands_fit, stands_same}
use Rattle.reader.proofs.Fellows.{RecordEnds, EveryBoard}
use Rattle.reader.proofs.CardShape.{word_0, word_1, word_back, value_word}
use Rattle.reader.proofs.CardPlaced.{IsValueKind, IsCallKind, IsTrickKind, Points, absent, there, RecordPlaced}

-- A card's word first, with count, is 0, or one more than the place of so many entries in a row, all of kinds K; they stand from lo
-- on and before hi.
pub data WordPoints (K : ℕ → Type 0) (entries : List (List ℕ)) (lo hi first count : ℕ) : Type 0 where
  no_word : first ≡ 0 → WordPoints K entries lo hi first count
  at_word : (j : ℕ) (run : List (List ℕ)) → first ≡ j + 1 → lo ≤ j → j + count ≤ hi → Stands entries j run → length run ≡ count → All (λ ws. K (get_or ws 0 0)) run
      → WordPoints K entries lo hi first count

-- The card of a board of a text, and the edition's entries.
pub record CardPlaced (text : List ℕ) (entries : List (List ℕ)) (card : List ℕ) : Type 0 where
  pub own : get_or card 0 0 + get_or card 1 0 ≤ length entries
  pub values : (i : ℕ) → i < 12 → WordPoints IsValueKind entries (get_or card 0 0) (get_or card 0 0 + get_or card 1 0) (get_or card (39 + i) 0) 1
  pub auction : WordPoints IsCallKind entries (get_or card 0 0) (get_or card 0 0 + get_or card 1 0) (get_or card 51 0) (get_or card 52 0)
  pub play : WordPoints IsTrickKind entries (get_or card 0 0) (get_or card 0 0 + get_or card 1 0) (get_or card 55 0) (get_or card 56 0)
  pub starts : get_or card 60 0 ≤ get_or card 61 0
  pub ends : get_or card 61 0 ≤ length text

-- ---- from a record to its edition

pub stands_within : {A : Type 0} {l xs ws : List A} {n j : ℕ} → Stands l n xs → Stands xs j ws → Stands l (n + j) ws
stands_within s t = rw (s.whole, ← s.count) (stands_right s.before (stands_left s.after t))

-- Kinds are small.
value_low : (k : ℕ) → IsValueKind k → low_word k ≡ k
value_low k e = omega arith

call_low : (k : ℕ) → IsCallKind k → low_word k ≡ k
call_low k (inl e) = omega arith
call_low k (inr e) = omega arith

trick_low : (k : ℕ) → IsTrickKind k → low_word k ≡ k
trick_low k e = omega arith

kind_word : (K : ℕ → Type 0) → ((k : ℕ) → K k → low_word k ≡ k) → (a : ℕ) (e : Entry) → K e.kind → K (get_or (entry_words a e) 0 0)
unfolding entry_words
kind_word K low a e h = rw (low e.kind h) h

points_word : {K : ℕ → Type 0} (low : (k : ℕ) → K k → low_word k ≡ k) {E : List (List ℕ)} {es : List Entry} (a n : ℕ) {first count : ℕ}
    → Stands E n (map (entry_words a) es) → length E < 4294967295 → Points K es first count
    → WordPoints K E (low_word n) (low_word n + low_word (length es)) (entry_place n first) (low_word count)
points_word low a n s fit (absent e) = no_word (rw e)
points_word {K} low {E} {es} a n {first} {count} s fit (there j run e t l ks) =
    let u = stands_within s (stands_map (entry_words a) t) in
    let own = rw length-map at (stands_fit s) in
    let in_own = stands_fit t in
    let en : low_word n ≡ n = omega arith in
    let ee : low_word (length es) ≡ length es = omega arith in
    let ec : low_word count ≡ count = omega arith in
    let z : eqb first 0 ≡ false = ne_eqb first 0 (λ x. omega arith) in
    let ef : low_word (n + first) ≡ n + j + 1 = omega arith in
    at_word (n + j) (map (entry_words a) run) (rw z ef) (omega arith) (omega arith) u (rw (length-map, ec) l) (all_words (entry_words a) (kind_word K low a) ks)

all_get : {P : ℕ → Type 0} {l : List ℕ} → All P l → (i : ℕ) → i < length l → P (get_or l i 0)
all_get none i h = absurd (omega arith)
all_get (one p a) zero h = p
all_get (one p a) (suc i) h = all_get a i (omega arith)

values_all : {P Q : ℕ → Type 0} (n : ℕ) (v : Values) → ((x : ℕ) → P x → Q (entry_place n x)) → AllPlaces P v → All Q (value_words n v)
values_all n v f a =
    one (f _ a.id_place)
    (one (f _ a.event_place)
    (one (f _ a.site_place)
    (one (f _ a.date_place)
    (one (f _ a.contract_place)
    (one (f _ a.north_place)
    (one (f _ a.east_place)
    (one (f _ a.south_place)
    (one (f _ a.west_place)
    (one (f _ a.deal_place)
    (one (f _ a.score_place)
    (one (f _ a.par_place) none)))))))))))

-- THEOREM. The card of every board of a text that is not overlong points into the entries of its own record.
pub CardsPlaced : (c : Conventions) (text : List ℕ) (k a n : ℕ) (r : List ℕ) → length text ≤ 16777215 → BoardAt c text k a n r
    → CardPlaced text (entries_of c text) (card_of c a n r)
CardsPlaced c text k a n r short h =
    let es = (record_out c r).entries in
    let b = (record_out c r).state.board in
    let p = RecordPlaced c r in
    let s = h.entries_are in
    let fit : length (entries_of c text) < 4294967295 = omega (arith, TextEntriesFew c text) in
    let own = rw length-map at (stands_fit s) in
    let inside = RecordEnds h.record_told in
    let e0 = word_0 c a n r in
    let e1 = word_1 c a n r in
    let en : low_word n ≡ n = omega arith in
    let ee : low_word (length es) ≡ length es = omega arith in
    let e60 : get_or (card_of c a n r) 60 0 ≡ a = word_back c a n r 22 ∙ omega arith in
    let e61 : get_or (card_of c a n r) 61 0 ≡ a + length r = word_back c a n r 23 ∙ omega arith in
    record {
      own = omega arith;
      values = λ i l. rw (e0, e1, value_word c a n r i l) (all_get {P = λ w. WordPoints IsValueKind (entries_of c text) (low_word n) (low_word n + low_word (length es)) w 1} (values_all n b.values (λ x q. points_word value_low a n s fit q) p.values) i l);
      auction = rw (e0, e1, word_back c a n r 13, word_back c a n r 14) (points_word call_low a n s fit p.auction);
      play = rw (e0, e1, word_back c a n r 17, word_back c a n r 18) (points_word trick_low a n s fit p.play);
      starts = omega arith;
      ends = omega arith;
    }

all_standing : {A : Type 0} {P : A → Type 0} (l : List A) → ((k : ℕ) (x : A) → Stands l k (x ∷ []) → P x) → All P l
all_standing [] h = none
all_standing (x ∷ xs) h =
    one (h 0 x (record { before = []; after = xs; whole = refl; count = refl }))
    (all_standing xs (λ k y s. h (suc k) y (record { before = x ∷ s.before; after = s.after; whole = ap (λ l. x ∷ l) s.whole; count = ap suc s.count })))

-- THEOREM. So does every card of such a text.
pub TextCardsPlaced : (c : Conventions) (text : List ℕ) → length text ≤ 16777215 → All (CardPlaced text (entries_of c text)) (cards_of c text)
TextCardsPlaced c text short =
    all_standing (cards_of c text)
    (λ k x s.
    let b = EveryBoard c text k (omega (arith, stands_fit s)) in
    let h = b.is in
    rw (stands_same s h.card_is) (CardsPlaced c text k b.place b.entries_before b.text_of short h))
