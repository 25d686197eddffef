-- What the functions of writing need of the words of a board: its entries are inside, marked and paired, and so are its sections'.
use Prim.Native.Nat.{ℕ, zero, suc, ◌+◌, ◌-◌, ◌/◌, ◌≤◌, ◌<◌}
use mathlib.Core.Path.{◌≡◌, refl, sym, ap, ◌∙◌}
use mathlib.Core.Bool.{true, ◌||◌, not}
use mathlib.Core.List.{List, [], ◌∷◌}
use native.Mathlib.Omega.{arith}
use lib.Dec.{eqb}
use lib.ListN.{length, take, drop}
use borrow.Author.Tests.{eqb-true}
use Rattle.tables.specs.declared.letters.Conventions.{Conventions}
use Rattle.tables.proofs.Laws.{by_cases, both}
use Rattle.reader.specs.Boards.{record_out}
use Rattle.reader.specs.Editions.{cards_of, entries_of}
use Rattle.reader.specs.Plain.{Item, items_of, tags_in, plain_of}
use Rattle.reader.proofs.CardPlaced.{IsCallKind, IsTrickKind}
use Rattle.reader.proofs.WordsPlaced.{WordPoints, no_word, at_word, CardsPlaced}
use Rattle.reader.proofs.Fellows.{EveryBoard}
use Rattle.writer.specs.Held.{entry_word, item_at, items_at, card_word, board_items, items_up_to, board_held, seen}
use Rattle.writer.specs.Items.{tags_at}
use Rattle.writer.proofs.RemarkLaws.{item_kind, item_bytes}
use Rattle.writer.proofs.RemarkTexts.{MarkedItems, RecordMarked}
use Rattle.writer.proofs.ExtraTexts.{first_kind, are_paired, RecordPaired, paired_dropped, items_taken, items_dropped, value_behind}
use Rattle.writer.proofs.BodyTexts.{BoardOf}
use Rattle.writer.proofs.HeldBoards.{Holds, entries_long, card_is, items_are, board_is}

-- ---- tags by their entries

-- THEOREM. Tags are found by their entries where each name is followed by a value.
pub TagsAt : (text entries : List ℕ) (e n : ℕ) → are_paired (items_at text entries e n) ≡ true → tags_at text entries e n ≡ tags_in (items_at text entries e n)
TagsAt text entries e zero h = refl
TagsAt text entries e (suc n) h =
    let is = items_at text entries (e + 1) n in
    let k = both (not (eqb (item_at text entries e).kind 1) || eqb (first_kind is) 2) (are_paired is) h in
    let more = TagsAt text entries (e + 1) n k.1 in
    let kind = item_kind text entries e in
    by_cases (eqb (entry_word entries e 0) 1)
    (λ t.
    let v = rw (kind, t) at k.0 in
    let w : entry_word entries e 0 ≡ 1 = eqb-true (entry_word entries e 0) 1 t in
    rw (kind, t, item_bytes text entries e 1 w (omega arith), value_behind text entries (e + 1) n v, more))
    (λ t. rw (kind, t) more)

-- The tags behind those of the first entries.
tags_dropped : (m : ℕ) (is : List Item) → drop (length (tags_in (take m is))) (tags_in is) ≡ tags_in (drop m is)
tags_dropped zero is = refl
tags_dropped (suc m) [] = refl
tags_dropped (suc m) (i ∷ is) = by_cases (eqb i.kind 1) (λ t. rw t (tags_dropped m is)) (λ t. rw t (tags_dropped m is))

-- THEOREM. Behind m of n entries.
pub TagsBehind : (text entries : List ℕ) (e m n : ℕ) → m ≤ n → are_paired (items_at text entries e n) ≡ true
    → drop (length (tags_in (items_at text entries e m))) (tags_in (items_at text entries e n)) ≡ tags_at text entries (e + m) (n - m)
TagsBehind text entries e m n h p =
    let is = items_at text entries e n in
    let d = items_dropped text entries e m n h in
    let q : are_paired (items_at text entries (e + m) (n - m)) ≡ true = rw d at (paired_dropped m is p) in
    ap (λ (js : List Item). drop (length (tags_in js)) (tags_in is)) (sym (items_taken text entries e m n h))
    ∙ tags_dropped m is
    ∙ ap tags_in d
    ∙ sym (TagsAt text entries (e + m) (n - m) q)

-- ---- a board

-- A section whose first entry plus 1 is the word i of the card k, and whose entries are as many as the next word says.
pub record SectionInside (cards : List ℕ) (k i : ℕ) : Type 0 where
  pub starts : card_word cards k 0 ≤ card_word cards k i - 1
  pub ends : card_word cards k i - 1 + card_word cards k (i + 1) ≤ card_word cards k 0 + card_word cards k 1

-- What putting the board k needs of its entries: each is marked, each name is followed by its value, and the auction's are inside.
pub record EntriesHeld (text cards entries : List ℕ) (k : ℕ) : Type 0 where
  pub marked : MarkedItems 0 (items_at text entries (card_word cards k 0) (card_word cards k 1))
  pub paired : are_paired (items_at text entries (card_word cards k 0) (card_word cards k 1)) ≡ true
  pub auction_inside : (card_word cards k 51 ≡ 0 → ⊥) → SectionInside cards k 51

-- The board k: its plain board, and its entries.
pub record HeldBoard (c : Conventions) (text cards entries : List ℕ) (k : ℕ) : Type 0 where
  pub record_text : List ℕ
  pub plain : board_held text cards entries k ≡ seen (plain_of c record_text)
  pub items : items_at text entries (card_word cards k 0) (card_word cards k 1) ≡ items_of record_text (record_out c record_text).entries
  pub inside : card_word cards k 0 + card_word cards k 1 ≤ length (entries_of c text)
  pub inside_lent : card_word cards k 0 + card_word cards k 1 ≤ length entries / 4
  pub entries_held : EntriesHeld text cards entries k
  pub play_inside : (card_word cards k 55 ≡ 0 → ⊥) → SectionInside cards k 55

section_inside : {K : ℕ → Type 0} {E : List (List ℕ)} (cards : List ℕ) (k i : ℕ) → WordPoints K E (card_word cards k 0) (card_word cards k 0 + card_word cards k 1) (card_word cards k i) (card_word cards k (i + 1))
    → (card_word cards k i ≡ 0 → ⊥) → SectionInside cards k i
section_inside cards k i (no_word e) h = absurd (h e)
section_inside cards k i (at_word j run e lo hi s l a) h = record { starts = omega arith; ends = omega arith }

-- THEOREM. Every board of the words is so.
pub EveryHeldBoard : (c : Conventions) (text cards entries : List ℕ) → Holds c text cards entries → (k : ℕ) → k < length (cards_of c text) → HeldBoard c text cards entries k
unfolding board_items
EveryHeldBoard c text cards entries t k h =
    let b = EveryBoard c text k h in
    let r = b.text_of in
    let a = b.place in
    let n = b.entries_before in
    let word_is : (i : ℕ) → i < 64 → card_word cards k i ≡ _ = card_is c text cards entries t k a n r b.is in
    let own = items_are c text cards entries t k a n r b.is in
    let p = CardsPlaced c text k a n r t.short b.is in
    let e0 = word_is 0 (omega arith) in
    let e1 = word_is 1 (omega arith) in
    let fit : card_word cards k 0 + card_word cards k 1 ≤ length (entries_of c text) = rw (e0, e1) p.own in
    record {
      record_text = r;
      plain = board_is c text cards entries t k a n r b.is;
      items = own;
      inside = fit;
      inside_lent = omega (arith, fit, entries_long c text cards entries t);
      entries_held = record {
        marked = rw own (RecordMarked c r);
        paired = rw own (RecordPaired c r);
        auction_inside = λ z. section_inside {K = IsCallKind} {E = entries_of c text} cards k 51 (rw (e0, e1, word_is 51 (omega arith), word_is 52 (omega arith)) p.auction) z;
      };
      play_inside = λ z. section_inside {K = IsTrickKind} {E = entries_of c text} cards k 55 (rw (e0, e1, word_is 55 (omega arith), word_is 56 (omega arith)) p.play) z;
    }

-- The board is one of its entries.
pub held_of : {text cards entries : List ℕ} {k : ℕ} → EntriesHeld text cards entries k
    → BoardOf (board_held text cards entries k) (items_at text entries (card_word cards k 0) (card_word cards k 1))
unfolding board_held board_items
held_of f = record { tags_are = refl; directives_are = refl; blocks_are = refl; are_marked = f.marked }

-- THEOREM. The tags behind the auction's first entry, found by their entries.
pub NotesHeld : {text cards entries : List ℕ} {k : ℕ} → EntriesHeld text cards entries k → (card_word cards k 51 ≡ 0 → ⊥)
    → drop (length (tags_in (items_up_to text cards entries k 51))) (tags_in (board_items text cards entries k))
    ≡ tags_at text entries (card_word cards k 51 - 1) (card_word cards k 0 + card_word cards k 1 - (card_word cards k 51 - 1))
unfolding board_items items_up_to
NotesHeld {text} {cards} {entries} {k} f z =
    let s = f.auction_inside z in
    let e = card_word cards k 0 in
    let n = card_word cards k 1 in
    let w = card_word cards k 51 - 1 in
    let m : w - e ≤ n = omega (arith, s.starts, s.ends) in
    let x : e + (w - e) ≡ w = omega (arith, s.starts) in
    let y : n - (w - e) ≡ e + n - w = omega (arith, s.starts, s.ends) in
    rw (x, y) at (TagsBehind text entries e (w - e) n m f.paired)
