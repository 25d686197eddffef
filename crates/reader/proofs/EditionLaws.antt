-- Laws of cards, and of reading record after record.
use Prim.Native.Nat.{ℕ, ◌+◌, ◌*◌, ◌-◌, ◌/◌, ◌≤◌, ◌<◌}
use mathlib.Core.Path.{◌≡◌, refl, sym, ap, ◌∙◌}
use mathlib.Core.Bool.{Bool, true, false, cond}
use mathlib.Core.List.{List, [], ◌∷◌, ◌++◌, map, append-nil}
use native.Mathlib.Omega.{arith}
use borrow.Author.Tests.{ltb-false, lt-ltb, le-ltb}
use lib.Dec.{ltb}
use lib.ListN.{length, take, drop, replicate, length-append, length-map, length-take, length-drop, length-replicate}
use lib.Seq.{sets, sets-eq, drop-length}
use Rattle.std.specs.Prelude.{Result, Ok, Err, is_ok}
use Rattle.tables.specs.declared.letters.Conventions.{Conventions}
use Rattle.tables.proofs.Laws.{clash}
use Rattle.tables.proofs.PageLaws.{sets_append}
use Rattle.reader.specs.declared.store.Entry.{Entry}
use Rattle.reader.specs.declared.board.Board.{Board}
use Rattle.reader.specs.declared.board.State.{State}
use Rattle.reader.specs.declared.edition.ReadRefusal.{ReadRefusal}
use Rattle.reader.specs.declared.edition.ReadRefusal.TheVariants.{Overlong, BoxFull, ListFull}
use Rattle.reader.specs.declared.edition.Counts.{Counts}
use Rattle.reader.specs.Store.{zeros, put, put_all, lent, entry_words}
use Rattle.reader.specs.declared.store.Entries.{Entries}
use Rattle.reader.specs.PieceSteps.{Emits}
use Rattle.reader.specs.Records.{records_of}
use Rattle.reader.specs.RecordSteps.{EndsAt}
use Rattle.reader.specs.Boards.{record_out}
use Rattle.reader.specs.Editions.{head_words, back_words, card_words, card_of, cards_from, entries_from, cards_of, entries_of, counts_of, counts_answer, reading_of, IsRead}
use Rattle.reader.specs.EditionSteps.{RecordIn, FullCards, none, one, AllIn, ReadingEnded}
use Rattle.reader.proofs.StoreLaws.{put_all_append, Blocks, blocks_append, blocks_map, put_zeros}
use Rattle.reader.proofs.BoardLaws.{record_counts}
use Rattle.reader.proofs.Counts.{TextEntriesFew}
use Rattle.reader.proofs.StoreLaws as store

-- ---- stores one behind the other

pub sets_then : (xs ys l l' l'' : List ℕ) (i j : ℕ) → l' ≡ sets l i xs → l'' ≡ sets l' j ys → j ≡ i + length xs → l'' ≡ sets l i (xs ++ ys)
sets_then xs ys l l' l'' i j e e' ej = e' ∙ rw (e, ej) (sym (sets_append xs ys l i))

-- A list written over one of its length.
pub sets_all : (l cs : List ℕ) → length cs ≡ length l → sets l 0 cs ≡ cs
sets_all l cs e =
    let d : 0 + length cs ≡ length l = omega arith in
    sets-eq cs l 0 (omega arith) ∙ rw (d, drop-length) (append-nil cs)

-- Four parts, stored one behind the other: words 38 to 63, and a whole card.
pub back_put : (l : List ℕ) (at : ℕ) {l₁ l₂ l₃ l₄ v a p t v' a' p' t' : List ℕ} → l₁ ≡ sets l at v → l₂ ≡ sets l₁ (at + 13) a → l₃ ≡ sets l₂ (at + 17) p → l₄ ≡ sets l₃ (at + 21) t
    → v ≡ v' → a ≡ a' → p ≡ p' → t ≡ t' → length v' ≡ 13 → length a' ≡ 4 → length p' ≡ 4 → l₄ ≡ sets l at (v' ++ a' ++ p' ++ t')
back_put l at {l₁} {l₂} {l₃} {l₄} {v} {a} {p} {t} {v'} {a'} {p'} {t'} e₁ e₂ e₃ e₄ ev ea ep et nv na np =
    let h₂ : length (v' ++ a') ≡ 17 = length-append v' a' ∙ omega arith in
    let h₃ : length (v' ++ a' ++ p') ≡ 21 = length-append (v' ++ a') p' ∙ omega arith in
    let f₁ : l₁ ≡ sets l at v' = rw ev at e₁ in
    let f₂ = sets_then v' a' l l₁ l₂ at (at + 13) f₁ (rw ea at e₂) (omega arith) in
    let f₃ = sets_then (v' ++ a') p' l l₂ l₃ at (at + 17) f₂ (rw ep at e₃) (omega arith) in
    sets_then (v' ++ a' ++ p') t' l l₃ l₄ at (at + 21) f₃ (rw et at e₄) (omega arith)

pub card_put : (l : List ℕ) (at : ℕ) {l₁ l₂ l₃ l₄ h w k h' w' k' : List ℕ} (t' : List ℕ) → l₁ ≡ sets l at h → l₂ ≡ sets l₁ (at + 10) w → l₃ ≡ sets l₂ (at + 18) k → l₄ ≡ sets l₃ (at + 38) t'
    → h ≡ h' → w ≡ w' → k ≡ k' → length h' ≡ 10 → length w' ≡ 8 → length k' ≡ 20 → l₄ ≡ sets l at (h' ++ w' ++ k' ++ t')
card_put l at {l₁} {l₂} {l₃} {l₄} {h} {w} {k} {h'} {w'} {k'} t' e₁ e₂ e₃ e₄ eh ew ek nh nw nk =
    let h₂ : length (h' ++ w') ≡ 18 = length-append h' w' ∙ omega arith in
    let h₃ : length (h' ++ w' ++ k') ≡ 38 = length-append (h' ++ w') k' ∙ omega arith in
    let f₁ : l₁ ≡ sets l at h' = rw eh at e₁ in
    let f₂ = sets_then h' w' l l₁ l₂ at (at + 10) f₁ (rw ew at e₂) (omega arith) in
    let f₃ = sets_then (h' ++ w') k' l l₂ l₃ at (at + 18) f₂ (rw ek at e₃) (omega arith) in
    sets_then (h' ++ w' ++ k') t' l l₃ l₄ at (at + 38) f₃ e₄ (omega arith)

-- A card has 64 words.
pub card_length : (start end n count : ℕ) (b : Board) → length b.deal.words ≡ 8 → length b.table.cells ≡ 20 → length (card_words start end n count b) ≡ 64
unfolding card_words
card_length start end n count b eh ek =
    let w = head_words n count b ++ b.deal.words in
    let x = back_words start end n b in
    let f : length x ≡ 26 = refl in
    let g : length w ≡ 18 = length-append (head_words n count b) b.deal.words ∙ omega arith in
    let i : length (w ++ b.table.cells) ≡ 38 = length-append w b.table.cells ∙ omega arith in
    length-append (w ++ b.table.cells) x ∙ omega arith

-- ---- a record

pub own_length : (t : List ℕ) (a e : ℕ) → a ≤ e → e ≤ length t → a + length (take (e - a) (drop a t)) ≡ e
own_length t a e h₁ h₂ = omega (arith, length-take (e - a) (drop a t), length-drop a t)

pub record_in : {c : Conventions} {r : List ℕ} {e k : ℕ} {cards : List ℕ} {s : State} {l l' : Entries} {entries entries' cards' : List ℕ} (a n : ℕ) → l.start ≡ a → l.count ≡ n → entries ≡ l.words.now → entries' ≡ l'.words.now → e ≡ a + length r
    → Emits l l' s (record_out c r)
    → (cards' ≡ put 64 cards k (card_words a e n s.n s.board)) × (length (card_words a e n s.n s.board) ≡ 64)
    → RecordIn c r a k n cards entries l'.count cards' entries'
record_in {c} {r} {e} {k} {cards} {s} a n el en ew ew' ee em p =
    let es : s.n ≡ length (record_out c r).entries = ap (λ (x : State). x.n) em.answer ∙ record_counts c r in
    let eb : s.board ≡ (record_out c r).state.board = ap (λ (x : State). x.board) em.answer in
    let w : card_words a e n s.n s.board ≡ card_of c a n r = rw (ee, es, eb) in
    record {
      answer = rw en at em.adds.count;
      card = p.0 ∙ ap (put 64 cards k) w;
      words = ew' ∙ rw (en, el, ← ew) at em.adds.words;
      whole = sym (ap length w) ∙ p.1;
    }

-- ---- record after record: those left, with the words and counts so far, give what all give

pub record Left (c : Conventions) (text cards₀ entries₀ : List ℕ) (rest : List (List ℕ)) (a : ℕ) (cards entries : List ℕ) (boards n : ℕ) : Type 0 where
  pub boards_in : boards + length (cards_from c a n rest) ≡ length (cards_of c text)
  pub entries_in : n + length (entries_from c a rest) ≡ length (entries_of c text)
  pub words_of_card : put_all 64 cards boards (cards_from c a n rest) ≡ put_all 64 cards₀ 0 (cards_of c text)
  pub words_of_entry : put_all 4 entries n (entries_from c a rest) ≡ put_all 4 entries₀ 0 (entries_of c text)
  pub all_whole : FullCards (cards_from c a n rest) → FullCards (cards_of c text)

pub left_all : (c : Conventions) (text cards entries : List ℕ) → Left c text cards entries (records_of text) 0 cards entries 0 0
unfolding cards_of entries_of
left_all c text cards entries =
    record { boards_in = omega arith; entries_in = omega arith; words_of_card = refl; words_of_entry = refl; all_whole = λ w. w }

pub left_less : {c : Conventions} {text cards₀ entries₀ : List ℕ} {r : List ℕ} {rest : List (List ℕ)} {a : ℕ} {cards entries : List ℕ} {boards n m : ℕ} {cards' entries' : List ℕ}
    → Left c text cards₀ entries₀ (r ∷ rest) a cards entries boards n → RecordIn c r a boards n cards entries m cards' entries'
    → Left c text cards₀ entries₀ rest (a + length r) cards' entries' (boards + 1) m
left_less {c} {r = r} {rest = rest} {a = a} {entries = entries} {boards = boards} {n = n} {m = m} l k =
    let es : List (List ℕ) = map (entry_words a) (record_out c r).entries in
    let el : length es ≡ length (record_out c r).entries = length-map (record_out c r).entries (entry_words a) in
    let later : List (List ℕ) = entries_from c (a + length r) rest in
    let both : length (es ++ later) ≡ length es + length later = length-append es later in
    record {
      boards_in = rw k.answer (omega (arith, l.boards_in));
      entries_in = omega (arith, l.entries_in, k.answer);
      words_of_card = rw (k.card, k.answer) l.words_of_card;
      words_of_entry = rw (k.words, k.answer) (rw (sym el) (sym (put_all_append 4 entries n es later) ∙ l.words_of_entry));
      all_whole = λ w. l.all_whole (one k.whole (rw k.answer at w));
    }

pub left_none : {c : Conventions} {text cards₀ entries₀ : List ℕ} {a : ℕ} {cards entries : List ℕ} {boards n : ℕ} → Left c text cards₀ entries₀ [] a cards entries boards n
    → AllIn c text cards₀ entries₀ (record { boards = boards; entries = n }) cards entries
left_none {c} {text} {boards = boards} {n = n} l =
    let eb : boards ≡ length (cards_of c text) = omega (arith, l.boards_in) in
    let en : n ≡ length (entries_of c text) = omega (arith, l.entries_in) in
    record {
      counts = rw (eb, en);
      cards_put = l.words_of_card;
      entries_put = l.words_of_entry;
      whole = l.all_whole none;
    }

-- The loop, at the place a.
pub record Turn (c : Conventions) (text cards₀ entries₀ cards entries : List ℕ) (a boards n : ℕ) : Type 0 where
  pub inside : a ≤ length text
  pub few_boards : boards ≤ a
  pub cards_length : length cards ≡ length cards₀
  pub entries_length : length entries ≡ length entries₀
  pub left : Left c text cards₀ entries₀ (records_of (drop a text)) a cards entries boards n

pub turn_first : (c : Conventions) (text cards entries : List ℕ) → Turn c text cards entries cards entries 0 0 0
turn_first c text cards entries =
    record { inside = omega arith; few_boards = omega arith; cards_length = refl; entries_length = refl; left = left_all c text cards entries }

module _ {c : Conventions} {text cards₀ entries₀ cards entries : List ℕ} {a boards n : ℕ} (i : Turn c text cards₀ entries₀ cards entries a boards n) where
  -- There are never more entries than those of the text.
  pub turn_few : n ≤ 4 * length text
  turn_few = omega (arith, i.left.entries_in, TextEntriesFew c text)

  -- A record is read.
  pub turn_next : {e : ℕ} (m : ℕ) (cards' entries' : List ℕ) → EndsAt text a e → length cards' ≡ length cards → length entries' ≡ length entries
      → RecordIn c (take (e - a) (drop a text)) a boards n cards entries m cards' entries'
      → Turn c text cards₀ entries₀ cards' entries' e (boards + 1) m
  turn_next {e} m cards' entries' ends lc le k =
      let own : List ℕ = take (e - a) (drop a text) in
      let h₁ : a < e = ends.after in
      let h₂ : e ≤ length text = ends.inside in
      let eo : length own ≡ e - a = length-take (e - a) (drop a text) ∙ omega (arith, length-drop a text) in
      let ee : a + length own ≡ e = omega arith in
      record {
        inside = h₂;
        few_boards = omega (arith, i.few_boards);
        cards_length = lc ∙ i.cards_length;
        entries_length = le ∙ i.entries_length;
        left = rw ee at (left_less (rw ends.first at i.left) k);
      }

  -- No record is left.
  pub turn_stop : records_of (drop a text) ≡ [] → AllIn c text cards₀ entries₀ (record { boards = boards; entries = n }) cards entries
  turn_stop first = left_none (rw first at i.left)

-- ---- the whole

pub card_blocks : {xs : List (List ℕ)} → FullCards xs → Blocks 64 xs
card_blocks none = store.none
card_blocks (one e w) = store.one e (card_blocks w)

entry_four : (a : ℕ) (e : Entry) → length (entry_words a e) ≡ 4
unfolding entry_words
entry_four a e = refl

entry_blocks_lem : (c : Conventions) (a : ℕ) (rs : List (List ℕ)) → Blocks 4 (entries_from c a rs)
entry_blocks_lem c a [] = store.none
entry_blocks_lem c a (r ∷ rs) = blocks_append (blocks_map 4 (entry_words a) (entry_four a) (record_out c r).entries) (entry_blocks_lem c (a + length r) rs)

pub all_blocks : (c : Conventions) (text : List ℕ) → Blocks 4 (entries_of c text)
unfolding entries_of
all_blocks c text = entry_blocks_lem c 0 (records_of text)

-- Where the answer is no refusal, everything fits.
taken_fits : (lc le : ℕ) (n : Counts) → is_ok (counts_answer lc le n) ≡ true → (64 * n.boards ≤ lc) × (4 * n.entries ≤ le)
taken_fits lc le n e = go (ltb (lc / 64) n.boards) refl (ltb (le / 4) n.entries) refl e
  where
    go : (f : Bool) → ltb (lc / 64) n.boards ≡ f → (g : Bool) → ltb (le / 4) n.entries ≡ g
        → is_ok {T = Counts} (cond f (Err (BoxFull n.boards)) (cond g (Err (ListFull n.entries)) (Ok n))) ≡ true
        → (64 * n.boards ≤ lc) × (4 * n.entries ≤ le)
    go true ef g eg h = clash h
    go false ef true eg h = clash h
    go false ef false eg h = omega (arith, ltb-false (lc / 64) n.boards ef, ltb-false (le / 4) n.entries eg)

-- The words at the end: put into zeros, and kept or set to 0.
pub ended : (w L : ℕ) {xs : List (List ℕ)} {d d' : List ℕ} (f : Bool) → Blocks w xs → (f ≡ true → w * length xs ≤ L) → length d ≡ L
    → d ≡ put_all w (replicate L 0) 0 xs → d' ≡ cond f d (zeros d) → d' ≡ lent f L xs
ended w L true b h el e e' = e' ∙ e ∙ put_zeros w L b (h refl)
ended w L false b h el e e' = e' ∙ rw el

pub read_all : {c : Conventions} {t cs es zc ze : List ℕ} {r : Counts} {a : Result Counts ReadRefusal} (cards entries cards' entries' : List ℕ) → length t ≤ 16777215
    → zc ≡ zeros cs → ze ≡ zeros es → length cards ≡ length zc → length entries ≡ length ze
    → AllIn c t zc ze r cards entries → ReadingEnded cards entries r a cards' entries'
    → IsRead c t cs es a cards' entries'
unfolding reading_of
read_all {c} {t} {cs} {es} {zc} {ze} {r} {a} cards entries cards' entries' short zc_is ze_is kc ke s f =
    let lc = length cs in
    let le = length es in
    let ec : length cards ≡ lc = kc ∙ rw zc_is (length-replicate lc 0) in
    let ee : length entries ≡ le = ke ∙ rw ze_is (length-replicate le 0) in
    let ans : a ≡ counts_answer lc le (counts_of c t) = rw (ec, ee, s.counts) at f.answer in
    let fits : is_ok a ≡ true → (64 * length (cards_of c t) ≤ lc) × (4 * length (entries_of c t) ≤ le) = λ h. taken_fits lc le (counts_of c t) (rw ans at h) in
    record {
      answer = ans ∙ rw (le-ltb _ _ short);
      cards_after = ended 64 lc (is_ok a) (card_blocks s.whole) (λ h. (fits h).0) ec (rw zc_is at s.cards_put) f.cards_after;
      entries_after = ended 4 le (is_ok a) (all_blocks c t) (λ h. (fits h).1) ee (rw ze_is at s.entries_put) f.entries_after;
    }

pub read_none : {c : Conventions} {t cs es : List ℕ} {cards' entries' : List ℕ} → 16777215 < length t → cards' ≡ zeros cs → entries' ≡ zeros es
    → IsRead c t cs es (Err (Overlong (length t))) cards' entries'
unfolding reading_of
read_none h ec ee = record { answer = rw (lt-ltb _ _ h); cards_after = ec; entries_after = ee }
