-- What reading leaves in lent words is the edition's plain boards, read word by word.
use Prim.Native.Nat.{ℕ, zero, suc, ◌+◌, ◌-◌, ◌*◌, ◌/◌, ◌≤◌, ◌<◌}
use mathlib.Core.Path.{◌≡◌, refl, sym, ap, ◌∙◌}
use mathlib.Core.Bool.{true, false}
use mathlib.Core.List.{List, [], ◌∷◌, ◌++◌, map, append_assoc, append-nil, map-append}
use mathlib.Core.Option.{some}
use native.Mathlib.Nat.{add-zero, mul-zero, mul-suc, zero-add}
use native.Mathlib.Omega.{arith}
use lib.Dec.{eqb, ltb}
use lib.ListN.{length, take, drop, get_or, replicate, length-append, length-map, length-replicate, get_or-append}
use lib.Seq.{take_at, drop_at, get_or-append-add}
use borrow.Author.Tests.{eqb-true, eqb-false, ne_eqb, lt-ltb, ltb-false}
use Rattle.std.specs.Prelude.{Ok, is_ok}
use Rattle.tables.specs.declared.letters.Conventions.{Conventions}
use Rattle.tables.proofs.Laws.{by_cases, clash}
use Rattle.reader.specs.declared.store.Entry.{Entry}
use Rattle.reader.specs.declared.board.Section.{Section}
use Rattle.reader.specs.declared.edition.Counts.{Counts}
use Rattle.reader.specs.Store.{low_word, flat, padded, entry_words}
use Rattle.reader.specs.Boards.{record_out}
use Rattle.reader.specs.Records.{records_of}
use Rattle.reader.specs.Editions.{entry_place, head_words, back_words, card_words, card_of, cards_of, entries_of, reading_of, IsRead}
use Rattle.reader.specs.Fellows.{Stands, BoardAt}
use Rattle.reader.specs.Plain.{Item, item_of, items_of, value_at, plain_by, plain_of, plain_boards}
use Rattle.reader.proofs.EntryLaws.{All, none, one}
use Rattle.reader.proofs.StoreLaws.{Blocks}
use Rattle.reader.proofs.StoreLaws as store
use Rattle.reader.proofs.StandLaws.{stands_map, stands_fit, stands_same}
use Rattle.reader.proofs.EditionLaws.{card_blocks, all_blocks}
use Rattle.reader.proofs.Counts.{cards_few, TextEntriesFew}
use Rattle.reader.proofs.Placed.{Placed, EntriesPlaced}
use Rattle.reader.proofs.CardLength.{CardsWhole}
use Rattle.reader.proofs.PlainBounds.{RecordBounded}
use Rattle.reader.proofs.CardShape.{word_0, word_1, word_back}
use Rattle.reader.proofs.CardPlaced.{IsValueKind, Points, absent, there, RecordPlaced}
use Rattle.reader.proofs.WordsPlaced.{stands_within}
use Rattle.reader.proofs.WordsFit.{Fits, MarksFit, SectionsFit}
use Rattle.reader.proofs.PlainLaws.{PartPlaced, word_small}
use Rattle.reader.proofs.PlainWords.{value_none}
use Rattle.reader.proofs.Fellows.{RecordEnds, EveryBoard}
use Rattle.writer.specs.Tags.{vulnerability}
use Rattle.writer.specs.Pages.{page_text, written_text}
use Rattle.writer.specs.Held.{entry_word, place_bytes, item_at, items_at, card_word, card_part, value_held, board_items, items_up_to, section_items, auction_held, play_held, values_held, board_held, boards_held, shown, seen}
use Rattle.writer.proofs.RemarkLaws.{item_bytes}
use Rattle.writer.proofs.SeenSame.{SeenPage}

-- ---- lent words that hold an edition

-- The words of a text's cards and entries, followed by zeros, in lent words that have room for them.
pub record Holds (c : Conventions) (text cards entries : List ℕ) : Type 0 where
  pub lent_cards : ℕ
  pub lent_entries : ℕ
  pub short : length text ≤ 16777215
  pub cards_fit : length (cards_of c text) ≤ lent_cards / 64
  pub entries_fit : length (entries_of c text) ≤ lent_entries / 4
  pub cards_are : cards ≡ padded lent_cards (flat (cards_of c text))
  pub entries_are : entries ≡ padded lent_entries (flat (entries_of c text))

-- So do words after a reading that was taken.
pub taken_holds : {c : Conventions} {text cards entries cards' entries' : List ℕ} {n : Counts} → IsRead c text cards entries (Ok n) cards' entries' → Holds c text cards' entries'
unfolding reading_of
taken_holds {c} {text} {cards} {entries} i =
    let lc = length cards in
    let le = length entries in
    let boards = length (cards_of c text) in
    let n = length (entries_of c text) in
    let h = ap is_ok i.answer in
    by_cases (ltb 16777215 (length text))
    (λ t. clash (sym (rw t at h)))
    (λ t.
    by_cases (ltb (lc / 64) boards)
    (λ u. clash (sym (rw (t, u) at h)))
    (λ u.
    by_cases (ltb (le / 4) n)
    (λ v. clash (sym (rw (t, u, v) at h)))
    (λ v.
    record {
      lent_cards = lc;
      lent_entries = le;
      short = omega (arith, ltb-false 16777215 (length text) t);
      cards_fit = omega (arith, ltb-false (lc / 64) boards u);
      entries_fit = omega (arith, ltb-false (le / 4) n v);
      cards_are = i.cards_after;
      entries_are = i.entries_after;
    })))

-- ---- blocks in a row

block_at : {w : ℕ} {xs : List (List ℕ)} → Blocks w xs → (rest : List ℕ) (k i : ℕ) → k < length xs → i < w → get_or (flat xs ++ rest) (w * k + i) 0 ≡ get_or (get_or xs k []) i 0
block_at store.none rest k i h g = absurd (omega arith)
block_at {w} (store.one {x} {xs} e b) rest zero i h g =
    rw (mul-zero, zero-add, append_assoc x (flat xs) rest) (get_or-append x (flat xs ++ rest) 0 i (omega arith))
block_at {w} (store.one {x} {xs} e b) rest (suc k) i h g =
    let z : w * suc k + i ≡ length x + (w * k + i) = rw mul-suc (omega arith) in
    rw (z, append_assoc x (flat xs) rest) (get_or-append-add x (flat xs ++ rest) (w * k + i) 0 ∙ block_at b rest k i (omega arith) g)

-- An element that stands at a place of a list.
stands_get : {A : Type 0} {l : List A} {k : ℕ} {x : A} (d : A) → Stands l k (x ∷ []) → get_or l k d ≡ x
stands_get {k = k} {x = x} d s =
    let z : length s.before + 0 ≡ k = add-zero (length s.before) ∙ s.count in
    ap (λ l. get_or l k d) s.whole ∙ ap (λ n. get_or (s.before ++ (x ∷ s.after)) n d) (sym z) ∙ get_or-append-add s.before (x ∷ s.after) 0 d

stands_all : {A : Type 0} {P : A → Type 0} {l : List A} {k : ℕ} {x : A} → All P l → Stands l k (x ∷ []) → P x
stands_all {P = P} {x = x} a s = go s.before (rw s.whole at a)
  where
    go : (xs : List _) → All P (xs ++ (x ∷ s.after)) → P x
    go [] (one p b) = p
    go (y ∷ ys) (one p b) = go ys b

-- The first of a run, and the others.
stands_first : {A : Type 0} {l xs : List A} {k : ℕ} {x : A} → Stands l k (x ∷ xs) → Stands l k (x ∷ [])
stands_first {xs = xs} s = record { before = s.before; after = xs ++ s.after; whole = s.whole; count = s.count }

stands_rest : {A : Type 0} {l xs : List A} {k : ℕ} {x : A} → Stands l k (x ∷ xs) → Stands l (k + 1) xs
stands_rest {xs = xs} {x = x} s =
    record {
      before = s.before ++ x ∷ [];
      after = s.after;
      whole = s.whole ∙ sym (append_assoc s.before (x ∷ []) (xs ++ s.after));
      count = length-append s.before (x ∷ []) ∙ omega (arith, s.count);
    }

-- The bytes that stand at a place of a text.
stands_part : {text r : List ℕ} {a : ℕ} → Stands text a r → r ≡ take (length r) (drop a text)
stands_part {text} {r} {a} s =
    let q = drop_at s.before (r ++ s.after) a s.count in
    sym (ap (λ l. take (length r) (drop a l)) s.whole ∙ ap (take (length r)) q ∙ take_at r s.after (length r) refl)

-- The value of an entry behind others.
value_there : (r : List ℕ) (before : List Entry) (y : Entry) (after : List Entry) → value_at (length before + 1) (items_of r (before ++ (y ∷ after))) ≡ some (item_of r y).bytes
value_there r [] y after = refl
value_there r (b ∷ bs) y after =
    let q : eqb (suc (length bs) + 1) 1 ≡ false = ne_eqb (suc (length bs) + 1) 1 (λ u. omega arith) in
    let z : suc (length bs) + 1 - 1 ≡ length bs + 1 = omega arith in
    rw (q, z) (value_there r bs y after)

-- Words in a row.
part_is : (cards : List ℕ) (k i : ℕ) (ws : List ℕ) → ((j : ℕ) → j < length ws → card_word cards k (i + j) ≡ get_or ws j 0) → card_part cards k i (length ws) ≡ ws
part_is cards k i [] h = refl
part_is cards k i (w ∷ ws) h =
    let first : card_word cards k i ≡ w = ap (card_word cards k) (sym (add-zero i)) ∙ h 0 (omega arith) in
    let rest = part_is cards k (i + 1) ws (λ j l. let z : i + 1 + j ≡ i + suc j = omega arith in rw z (h (suc j) (omega arith))) in
    rw (first, rest)

-- ---- the words of one board

module _ (c : Conventions) (text cards entries : List ℕ) (t : Holds c text cards entries) where
  card_get : (k i : ℕ) → k < length (cards_of c text) → i < 64 → card_word cards k i ≡ get_or (get_or (cards_of c text) k []) i 0
  unfolding card_word
  card_get k i h g =
      let f = flat (cards_of c text) in
      let m = t.lent_cards in
      let l : length cards ≡ length f + (m - length f) = ap length t.cards_are ∙ length-append f (replicate (m - length f) 0) ∙ ap (λ (x : ℕ). length f + x) (length-replicate (m - length f) 0) in
      let u : ltb k (length cards / 64) ≡ true = lt-ltb k (length cards / 64) (omega (arith, t.cards_fit)) in
      rw u (ap (λ (x : List ℕ). get_or x (64 * k + i) 0) t.cards_are ∙ block_at (card_blocks (CardsWhole c text)) (replicate (m - length f) 0) k i h g)

  -- The lent words have room for the entries.
  pub entries_long : length (entries_of c text) ≤ length entries / 4
  entries_long =
      let f = flat (entries_of c text) in
      let m = t.lent_entries in
      let l : length entries ≡ length f + (m - length f) = ap length t.entries_are ∙ length-append f (replicate (m - length f) 0) ∙ ap (λ (x : ℕ). length f + x) (length-replicate (m - length f) 0) in
      omega (arith, t.entries_fit)

  entry_get : (e j : ℕ) → e < length (entries_of c text) → j < 4 → entry_word entries e j ≡ get_or (get_or (entries_of c text) e []) j 0
  unfolding entry_word
  entry_get e j h g =
      let u : ltb e (length entries / 4) ≡ true = lt-ltb e (length entries / 4) (omega (arith, entries_long)) in
      rw u (ap (λ (x : List ℕ). get_or x (4 * e + j) 0) t.entries_are ∙ block_at (all_blocks c text) (replicate (t.lent_entries - length (flat (entries_of c text))) 0) e j h g)

  module _ (k a n : ℕ) (r : List ℕ) (b : BoardAt c text k a n r) where
    -- ---- entries

    entry_is : (j : ℕ) (e : Entry) → Stands (record_out c r).entries j (e ∷ []) → (i : ℕ) → i < 4 → entry_word entries (n + j) i ≡ get_or (entry_words a e) i 0
    entry_is j e s i g =
        let u = stands_within b.entries_are (stands_map (entry_words a) s) in
        entry_get (n + j) i (omega (arith, stands_fit u)) g ∙ ap (λ (ws : List ℕ). get_or ws i 0) (stands_get [] u)

    record_ends : a + length r ≤ 16777215
    record_ends = omega (arith, RecordEnds b.record_told, t.short)

    entry_placed : (j : ℕ) (e : Entry) → Stands (record_out c r).entries j (e ∷ []) → Placed (length r) e
    entry_placed j e s = stands_all {P = Placed (length r)} (EntriesPlaced c r) s

    kind_is : (j : ℕ) (e : Entry) → Stands (record_out c r).entries j (e ∷ []) → entry_word entries (n + j) 0 ≡ e.kind
    unfolding entry_words
    kind_is j e s = entry_is j e s 0 (omega arith) ∙ word_small e.kind (omega (arith, (entry_placed j e s).kind_low))

    -- Each entry as it was read.
    item_held : (j : ℕ) (e : Entry) → Stands (record_out c r).entries j (e ∷ []) → item_at text entries (n + j) ≡ item_of r e
    unfolding item_at item_of entry_words
    item_held j e s =
        let p = entry_placed j e s in
        let f = stands_all {P = Fits} (MarksFit c r (omega (arith, record_ends))) s in
        let w0 = kind_is j e s in
        let w3 : entry_word entries (n + j) 3 ≡ e.z = entry_is j e s 3 (omega arith) ∙ omega (arith, f.mark_fits) in
        by_cases (eqb e.kind 8)
        (λ u.
        let v = eqb-true e.kind 8 u in
        let w1 : entry_word entries (n + j) 1 ≡ e.x = entry_is j e s 1 (omega arith) ∙ rw u (omega (arith, f.leader_fits v)) in
        let w2 : entry_word entries (n + j) 2 ≡ e.y = entry_is j e s 2 (omega arith) ∙ omega (arith, f.winner_fits v) in
        rw (w0, w1, w2, w3, u))
        (λ u.
        let i = p.inside (eqb-false e.kind 8 u) in
        let w1 : entry_word entries (n + j) 1 ≡ a + e.x = entry_is j e s 1 (omega arith) ∙ rw u (omega (arith, record_ends)) in
        let w2 : entry_word entries (n + j) 2 ≡ e.y = entry_is j e s 2 (omega arith) ∙ omega (arith, record_ends) in
        rw (w0, w1, w2, w3, u, PartPlaced text r a e.x e.y (stands_part b.bytes_are) i))

    items_held : (j : ℕ) (run : List Entry) → Stands (record_out c r).entries j run → items_at text entries (n + j) (length run) ≡ items_of r run
    items_held j [] s = refl
    items_held j (e ∷ run) s =
        let z : n + j + 1 ≡ n + (j + 1) = omega arith in
        rw (item_held j e (stands_first s), z, items_held (j + 1) run (stands_rest s))

    -- Those before a run, and the run, of all entries.
    module _ (j : ℕ) (run : List Entry) (s : Stands (record_out c r).entries j run) where
      parts_are : items_of r (record_out c r).entries ≡ items_of r s.before ++ (items_of r run ++ items_of r s.after)
      parts_are = ap (items_of r) s.whole ∙ map-append (item_of r) s.before (run ++ s.after) ∙ ap (λ (l : List Item). items_of r s.before ++ l) (map-append (item_of r) run s.after)

      before_length : length (items_of r s.before) ≡ j
      before_length = length-map s.before (item_of r) ∙ s.count

      items_before_lem : items_at text entries n j ≡ take j (items_of r (record_out c r).entries)
      items_before_lem =
          let front : Stands (record_out c r).entries 0 s.before = record { before = []; after = run ++ s.after; whole = s.whole; count = refl } in
          let held = rw (add-zero, s.count) at (items_held 0 s.before front) in
          held ∙ sym (ap (take j) parts_are ∙ take_at (items_of r s.before) (items_of r run ++ items_of r s.after) j before_length)

      items_within_lem : items_at text entries (n + j) (length run) ≡ take (length run) (drop j (items_of r (record_out c r).entries))
      items_within_lem =
          items_held j run s
          ∙ sym
          (ap (λ (l : List Item). take (length run) (drop j l)) parts_are
          ∙ ap (take (length run)) (drop_at (items_of r s.before) (items_of r run ++ items_of r s.after) j before_length)
          ∙ take_at (items_of r run) (items_of r s.after) (length run) (length-map run (item_of r)))

    -- ---- the card

    pub card_is : (i : ℕ) → i < 64 → card_word cards k i ≡ get_or (card_of c a n r) i 0
    card_is i g = card_get k i (omega (arith, stands_fit b.card_is)) g ∙ ap (λ (ws : List ℕ). get_or ws i 0) (stands_get [] b.card_is)

    entries_in : n + length (record_out c r).entries ≤ length (entries_of c text)
    entries_in = rw length-map at (stands_fit b.entries_are)

    entries_low : n + length (record_out c r).entries < 4294967295
    entries_low = omega (arith, entries_in, TextEntriesFew c text, t.short)

    pub first_is : card_word cards k 0 ≡ n
    first_is = card_is 0 (omega arith) ∙ word_0 c a n r ∙ omega (arith, entries_low)

    pub count_is : card_word cards k 1 ≡ length (record_out c r).entries
    count_is = card_is 1 (omega arith) ∙ word_1 c a n r ∙ omega (arith, entries_low)

    -- Words 38 to 63.
    back_is : (i : ℕ) → i < 26 → card_word cards k (38 + i) ≡ get_or (back_words a (a + length r) n (record_out c r).state.board) i 0
    back_is i g = card_is (38 + i) (omega arith) ∙ word_back c a n r i

    -- THEOREM. The entries of a board are those of its record.
    pub items_are : board_items text cards entries k ≡ items_of r (record_out c r).entries
    unfolding board_items
    items_are =
        let es = (record_out c r).entries in
        let all : Stands es 0 es = record { before = []; after = []; whole = sym (append-nil es); count = refl } in
        rw (first_is, count_is) (rw add-zero at (items_held 0 es all))

    -- ---- values

    value_is : (w x : ℕ) → w ≡ entry_place n x → Points IsValueKind (record_out c r).entries x 1 → value_held text entries w ≡ value_at x (items_of r (record_out c r).entries)
    unfolding value_held
    value_is w x e (absent z) =
        let q : w ≡ 0 = e ∙ rw z in
        rw (q, z) (sym (value_none (items_of r (record_out c r).entries)))
    value_is w x e (there j [] z s l ks) = absurd (omega arith)
    value_is w x e (there j (y ∷ []) z s l (one u none)) =
        let fit = stands_fit s in
        let nx : eqb x 0 ≡ false = ne_eqb x 0 (λ v. omega arith) in
        let q : w ≡ n + j + 1 = e ∙ rw nx (omega (arith, entries_low)) in
        let m : n + j + 1 - 1 ≡ n + j = omega arith in
        let nw : eqb (n + j + 1) 0 ≡ false = ne_eqb (n + j + 1) 0 (λ v. omega arith) in
        let y_bytes : place_bytes text entries (n + j) ≡ (item_of r y).bytes = sym (item_bytes text entries (n + j) 2 (kind_is j y s ∙ u) (omega arith)) ∙ ap (λ (i : Item). i.bytes) (item_held j y s) in
        let there_is : value_at x (items_of r (record_out c r).entries) ≡ some (item_of r y).bytes =
        let zx : x ≡ length s.before + 1 = omega (arith, s.count) in
        ap (λ (es : List Entry). value_at x (items_of r es)) s.whole ∙ rw zx (value_there r s.before y s.after) in
        rw (q, nw, m, y_bytes, there_is)
    value_is w x e (there j (y ∷ y₁ ∷ run) z s l ks) = absurd (omega arith)

    values_are : values_held text cards entries k ≡ (plain_of c r).values
    unfolding values_held plain_of plain_by
    values_are =
        let p = (RecordPlaced c r).values in
        rw (
          value_is (card_word cards k 39) _ (back_is 1 (omega arith)) p.id_place,
          value_is (card_word cards k 40) _ (back_is 2 (omega arith)) p.event_place,
          value_is (card_word cards k 41) _ (back_is 3 (omega arith)) p.site_place,
          value_is (card_word cards k 42) _ (back_is 4 (omega arith)) p.date_place,
          value_is (card_word cards k 43) _ (back_is 5 (omega arith)) p.contract_place,
          value_is (card_word cards k 44) _ (back_is 6 (omega arith)) p.north_place,
          value_is (card_word cards k 45) _ (back_is 7 (omega arith)) p.east_place,
          value_is (card_word cards k 46) _ (back_is 8 (omega arith)) p.south_place,
          value_is (card_word cards k 47) _ (back_is 9 (omega arith)) p.west_place,
          value_is (card_word cards k 48) _ (back_is 10 (omega arith)) p.deal_place,
          value_is (card_word cards k 49) _ (back_is 11 (omega arith)) p.score_place,
          value_is (card_word cards k 50) _ (back_is 12 (omega arith)) p.par_place,
        )

    -- ---- sections

    -- A section whose words from i on are first and count: the entries before it, and its own.
    record SectionHeld (i : ℕ) (s : Section) : Type 0 where
      upto_is : items_up_to text cards entries k i ≡ take (s.first - 1) (items_of r (record_out c r).entries)
      own_is : section_items text cards entries k i ≡ take s.count (drop (s.first - 1) (items_of r (record_out c r).entries))
      named_is : eqb (card_word cards k i) 0 ≡ false
      first_some : eqb s.first 0 ≡ false

    section_is : {P : Type 0} {K : ℕ → Type 0} (i : ℕ) (s : Section) → card_word cards k i ≡ entry_place n s.first → card_word cards k (i + 1) ≡ low_word s.count → Points K (record_out c r).entries s.first s.count
        → (card_word cards k i ≡ 0 → s.first ≡ 0 → P) → (SectionHeld i s → P) → P
    unfolding items_up_to section_items
    section_is i s e f (absent z) missing held = missing (e ∙ rw z) z
    section_is i s e f (there j run z st l ks) missing held =
        let fit = stands_fit st in
        let nx : eqb s.first 0 ≡ false = ne_eqb s.first 0 (λ v. omega arith) in
        let q : card_word cards k i ≡ n + j + 1 = e ∙ rw nx (omega (arith, entries_low)) in
        let nw : eqb (card_word cards k i) 0 ≡ false = ne_eqb (card_word cards k i) 0 (λ v. omega arith) in
        let m : n + j + 1 - 1 ≡ n + j = omega arith in
        let d : n + j - n ≡ j = omega arith in
        let g : s.first - 1 ≡ j = omega arith in
        let o : card_word cards k (i + 1) ≡ length run = f ∙ omega (arith, entries_low) in
        held (record {
          upto_is = rw (q, m, first_is, d, g) (items_before_lem j run st);
          own_is = rw (q, m, o, g, sym l) (items_within_lem j run st);
          named_is = nw;
          first_some = nx;
        })

    auction_is : auction_held text cards entries k ≡ (plain_of c r).auction
    unfolding auction_held plain_of plain_by
    auction_is =
        let s = (record_out c r).state.board.auction in
        let low = SectionsFit c r in
        let seat : card_word cards k 53 ≡ s.seat = back_is 15 (omega arith) ∙ omega (arith, low.auction_seat) in
        let end : card_word cards k 54 ≡ s.end = back_is 16 (omega arith) ∙ omega (arith, low.auction_end) in
        section_is 51 s (back_is 13 (omega arith)) (back_is 14 (omega arith)) (RecordPlaced c r).auction
        (λ z y. rw (z, y))
        (λ h. rw (h.named_is, h.first_some, seat, end, h.upto_is, h.own_is))

    play_is : play_held text cards entries k ≡ (plain_of c r).play
    unfolding play_held plain_of plain_by
    play_is =
        let s = (record_out c r).state.board.play in
        let low = SectionsFit c r in
        let seat : card_word cards k 57 ≡ s.seat = back_is 19 (omega arith) ∙ omega (arith, low.play_seat) in
        let end : card_word cards k 58 ≡ s.end = back_is 20 (omega arith) ∙ omega (arith, low.play_end) in
        section_is 55 s (back_is 17 (omega arith)) (back_is 18 (omega arith)) (RecordPlaced c r).play
        (λ z y. rw (z, y))
        (λ h. rw (h.named_is, h.first_some, seat, end, h.own_is))

    -- ---- the board

    head_is : (i : ℕ) → i < 10 → card_word cards k i ≡ get_or (head_words n (length (record_out c r).entries) (record_out c r).state.board) i 0
    unfolding card_words
    head_is i g =
        let bd = (record_out c r).state.board in
        card_is i (omega arith)
        ∙ get_or-append (head_words n (length (record_out c r).entries) bd) (bd.deal.words ++ bd.table.cells ++ back_words a (a + length r) n bd) 0 i g

    words_are : card_part cards k 10 8 ≡ (record_out c r).state.board.deal.words
    unfolding card_words
    words_are =
        let bd = (record_out c r).state.board in
        let ws = bd.deal.words in
        let l = (RecordBounded c r).deal_in.words_eight in
        let at : (j : ℕ) → j < length ws → card_word cards k (10 + j) ≡ get_or ws j 0 = λ j g.
        card_is (10 + j) (omega arith)
        ∙ get_or-append-add (head_words n (length (record_out c r).entries) bd) (ws ++ bd.table.cells ++ back_words a (a + length r) n bd) j 0
        ∙ ap (λ (x : List ℕ). get_or x j 0) (append_assoc ws bd.table.cells (back_words a (a + length r) n bd))
        ∙ get_or-append ws (bd.table.cells ++ back_words a (a + length r) n bd) 0 j g in
        rw l at (part_is cards k 10 ws at)

    cells_are : card_part cards k 18 20 ≡ (record_out c r).state.board.table.cells
    unfolding card_words
    cells_are =
        let bd = (record_out c r).state.board in
        let ws = bd.deal.words in
        let cs = bd.table.cells in
        let lw = (RecordBounded c r).deal_in.words_eight in
        let l = (RecordBounded c r).table_in.twenty in
        let at : (j : ℕ) → j < length cs → card_word cards k (18 + j) ≡ get_or cs j 0 = λ j g.
        let z : 18 + j ≡ 10 + (length ws + j) = omega arith in
        card_is (18 + j) (omega arith)
        ∙ ap (λ (x : ℕ). get_or (card_of c a n r) x 0) z
        ∙ get_or-append-add (head_words n (length (record_out c r).entries) bd) (ws ++ cs ++ back_words a (a + length r) n bd) (length ws + j) 0
        ∙ ap (λ (x : List ℕ). get_or x (length ws + j) 0) (append_assoc ws cs (back_words a (a + length r) n bd))
        ∙ get_or-append-add ws (cs ++ back_words a (a + length r) n bd) j 0
        ∙ get_or-append cs (back_words a (a + length r) n bd) 0 j g in
        rw l at (part_is cards k 18 cs at)

    -- THEOREM. The words hold the plain board of the record.
    pub board_is : board_held text cards entries k ≡ seen (plain_of c r)
    unfolding board_held seen shown plain_of plain_by
    board_is =
        let bd = (record_out c r).state.board in
        let low = (RecordBounded c r).id_low in
        let v : low_word (vulnerability bd.id) ≡ vulnerability bd.id = by_cases (eqb bd.id.vulnerability 4) (λ u. rw u (omega arith)) (λ u. rw u (omega (arith, low.vulnerable_low))) in
        let e2 : card_word cards k 2 ≡ bd.id.number_met = head_is 2 (omega arith) ∙ omega (arith, low.number_met_low) in
        let e3 : card_word cards k 3 ≡ bd.id.number = head_is 3 (omega arith) ∙ omega (arith, low.number_low) in
        let e4 : card_word cards k 4 ≡ bd.id.dealer = head_is 4 (omega arith) ∙ omega (arith, low.dealer_low) in
        let e5 : card_word cards k 5 ≡ vulnerability bd.id = head_is 5 (omega arith) ∙ v in
        let e6 : card_word cards k 6 ≡ bd.id.declarer = head_is 6 (omega arith) ∙ omega (arith, low.declarer_low) in
        let e7 : card_word cards k 7 ≡ bd.id.result_met = head_is 7 (omega arith) ∙ omega (arith, low.result_met_low) in
        let e8 : card_word cards k 8 ≡ bd.id.result = head_is 8 (omega arith) ∙ omega (arith, low.result_low) in
        let e9 : card_word cards k 9 ≡ bd.deal.kind = head_is 9 (omega arith) ∙ omega (arith, (RecordBounded c r).deal_in.deal_kind_low) in
        let e38 : card_word cards k 38 ≡ bd.table.kind = back_is 0 (omega arith) ∙ omega (arith, (RecordBounded c r).table_in.kind_low) in
        let e59 : card_word cards k 59 ≡ bd.trump = back_is 21 (omega arith) ∙ omega (arith, (SectionsFit c r).trump_in) in
        rw (e2, e3, e4, e5, e6, e7, e8, e9, e38, e59, words_are, cells_are, values_are, items_are, auction_is, play_is)

-- ---- all boards

boards_from : (c : Conventions) (text cards entries : List ℕ) (k : ℕ) (rs : List (List ℕ))
    → ((j : ℕ) (r : List ℕ) → Stands rs j (r ∷ []) → board_held text cards entries (k + j) ≡ seen (plain_of c r)) → boards_held text cards entries k (length rs) ≡ map seen (map (plain_of c) rs)
boards_from c text cards entries k [] h = refl
boards_from c text cards entries k (r ∷ rs) h =
    let first : board_held text cards entries k ≡ seen (plain_of c r) = ap (board_held text cards entries) (sym (add-zero k)) ∙ h 0 r (record { before = []; after = rs; whole = refl; count = refl }) in
    let rest = boards_from c text cards entries (k + 1) rs (λ j x s. let z : k + 1 + j ≡ k + suc j = omega arith in rw z (h (suc j) x (record { before = r ∷ s.before; after = s.after; whole = ap (λ (l : List (List ℕ)). r ∷ l) s.whole; count = ap suc s.count }))) in
    rw (first, rest)

-- THEOREM. The boards that the words hold are the plain boards of the text.
pub HeldBoards : (c : Conventions) (text cards entries : List ℕ) → Holds c text cards entries → boards_held text cards entries 0 (length (cards_of c text)) ≡ map seen (plain_boards c text)
unfolding plain_boards cards_of
HeldBoards c text cards entries t =
    let few = cards_few c 0 0 (records_of text) in
    rw few
    (boards_from c text cards entries 0 (records_of text)
    (λ j x s.
    let b = EveryBoard c text j (omega (arith, few, stands_fit s)) in
    let z : 0 + j ≡ j = zero-add j in
    rw (z, stands_same s b.is.record_told.record_is) (board_is c text cards entries t j b.place b.entries_before b.text_of b.is)))

-- THEOREM. So their page is what the text is written as.
pub HeldPage : (c : Conventions) (text cards entries : List ℕ) → Holds c text cards entries → page_text c (boards_held text cards entries 0 (length (cards_of c text))) ≡ written_text c text
unfolding written_text
HeldPage c text cards entries t = ap (page_text c) (HeldBoards c text cards entries t) ∙ SeenPage c (plain_boards c text)
