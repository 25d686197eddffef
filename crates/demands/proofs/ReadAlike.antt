-- Boards as they are handed back are those that the definitions read; those outside a stretch are read alike in both editions.
use Prim.Native.Nat.{ℕ, suc, ◌+◌, ◌-◌, ◌*◌, ◌≤◌, ◌<◌}
use mathlib.Core.Path.{◌≡◌, refl, sym, ap, ◌∙◌}
use mathlib.Core.Bool.{true, false}
use mathlib.Core.List.{List, [], ◌∷◌, ◌++◌, map, append_assoc}
use native.Mathlib.Omega.{arith}
use lib.Dec.{ltb, eqb}
use lib.ListN.{length, get_or, drop, replicate, length-map}
use lib.Seq.{take_at, drop_at}
use borrow.Author.Tests.{ltb-true, ltb-false, eqb-true, ne_eqb, le-leb, lt-leb}
use Rattle.reader.proofs.EditionLaws.{all_blocks}
use Rattle.std.specs.Prelude.{Result, Ok}
use Rattle.tables.specs.declared.letters.Conventions.{Conventions}
use Rattle.tables.proofs.Laws.{by_cases}
use Rattle.reader.specs.declared.tag.Span.{Span}
use Rattle.reader.specs.declared.edition.Counts.{Counts}
use Rattle.reader.specs.declared.edition.ReadRefusal.{ReadRefusal}
use Rattle.reader.specs.Store.{flat, entry_words}
use Rattle.reader.specs.Boards.{record_out}
use Rattle.reader.specs.Records.{records_of, spans_from, spans_of, Filled, one, AlikeBut}
use Rattle.reader.specs.declared.store.Entry.{Entry}
use Rattle.reader.specs.Editions.{reading_of, card_of, cards_of, entries_of, counts_of}
use Rattle.reader.specs.Fellows.{Stands, span_at, BoardAt, Fellow, moved_by, CardMoved, moved_entry, Relocated}
use Rattle.reader.proofs.StoreLaws.{Blocks, blocks_append, blocks_map, length_flat}
use Rattle.reader.proofs.StoreLaws as blocks
use Rattle.reader.proofs.StandLaws.{stands_fit}
use Rattle.reader.proofs.Seams.{RecordsFilled}
use Rattle.reader.proofs.Counts.{EntriesFit}
use Rattle.reader.proofs.CardShape.{word_0, word_1}
use Rattle.reader.proofs.CardLength.{CardsWhole}
use Rattle.reader.proofs.Fellows.{EveryBoard, RecordEnds, AlikeOther, FellowsOf}
use Rattle.reader.proofs.Relocated.{RelocatedBoards}
use Rattle.planning.specs.declared.plan.Totals.{Totals}
use Rattle.planning.specs.Cards.{card_here}
use Rattle.planning.specs.PlanSteps.{cards_in}
use Rattle.planning.specs.Slips.{card_from}
use Rattle.planning.proofs.BoxLaws.{cards_back, card_nth, taken_fits}
use Rattle.demands.proofs.Inside.{stands_card, starts_at, ends_at}
use Rattle.demands.proofs.Listed.{told, totals_told}
use Rattle.golavimes.specs.Answers.{reading_numbers}
use Rattle.demands.specs.Demand1.{boards_in}
use Rattle.demands.specs.Boards.{Board, record_start, entry_blocks, board_here, is_entry_place, is_text_place, counted_word, counted_entry, ReadAlike}
use Rattle.demands.specs.Demand3.{HasFellow, OutsideAlike, OutsideReadAlike, CardsHanded, CountsTold}
use Rattle.demands.proofs.Listing.{promised}
use Rattle.demands.proofs.Handed.{Held, taken_as, reading_zero, handed}

-- ---- read alike: one record's boards, moved

below : {P : Type 0} (k i : ℕ) → (i < k → P) → (k ≤ i → P) → P
below k i f g = by_cases (ltb i k) (λ t. f (ltb-true i k t)) (λ t. g (ltb-false i k t))

-- A word that moved is the same once it is counted.
module _ {a n : ℕ} {base card : List ℕ} (m : CardMoved a n base card) where
  moved_less : (w v z : ℕ) → v ≡ moved_by n w → v - (n + z) ≡ w - z
  moved_less w v z e =
      by_cases (eqb w 0)
      (λ t. let q : v ≡ 0 = e ∙ rw t in omega (arith, eqb-true w 0 t))
      (λ t. let q : v ≡ n + w = e ∙ rw t in omega arith)

  -- A word that is a place among the entries.
  entry_word_lem : (i : ℕ) → is_entry_place i ≡ true → get_or card i 0 ≡ moved_by n (get_or base i 0) → counted_word card i ≡ counted_word base i
  entry_word_lem i t e = rw (t, m.first_entry) (moved_less (get_or base i 0) (get_or card i 0) (get_or base 0 0) e)

  -- One that is no place, before the values and behind them.
  low_word : (i : ℕ) → 0 < i → i < 39 → get_or card i 0 ≡ get_or base i 0 → counted_word card i ≡ counted_word base i
  low_word i h l e =
      let t : is_entry_place i ≡ false = rw (ne_eqb i 0 (λ z. omega arith), lt-leb 39 i l, ne_eqb i 55 (λ z. omega arith)) in
      let u : is_text_place i ≡ false = rw (ne_eqb i 60 (λ z. omega arith), ne_eqb i 61 (λ z. omega arith)) in
      rw (t, u) e

  high_word : (i : ℕ) → 51 < i → (i ≡ 55 → ⊥) → (i ≡ 60 → ⊥) → (i ≡ 61 → ⊥) → get_or card i 0 ≡ get_or base i 0 → counted_word card i ≡ counted_word base i
  high_word i l x y z e =
      let t : is_entry_place i ≡ false = rw (ne_eqb i 0 (λ z. omega arith), le-leb 39 i (omega arith), lt-leb i 51 l, ne_eqb i 55 x) in
      let u : is_text_place i ≡ false = rw (ne_eqb i 60 y, ne_eqb i 61 z) in
      rw (t, u) e

  counted_moved : (i : ℕ) → i < 64 → counted_word card i ≡ counted_word base i
  counted_moved i h =
      below 1 i (λ l. let e : i ≡ 0 = omega arith in rw e (omega arith))
      (λ l₁.
      below 39 i (λ l. let e : i ≡ 1 + (i - 1) = omega arith in low_word i (omega arith) l (rw e (m.same_words (i - 1) (omega arith))))
      (λ l₂.
      below 51 i
      (λ l.
      let e : i ≡ 39 + (i - 39) = omega arith in
      let t : is_entry_place i ≡ true = rw (ne_eqb i 0 (λ z. omega arith), le-leb 39 i l₂, le-leb i 51 (omega arith)) in
      entry_word_lem i t (rw e (m.values (i - 39) (omega arith))))
      (λ l₃.
      below 52 i (λ l. let e : i ≡ 51 = omega arith in rw e (entry_word_lem 51 refl m.auction))
      (λ l₄.
      below 55 i
      (λ l. let e : i ≡ 52 + (i - 52) = omega arith in high_word i l₄ (λ z. omega arith) (λ z. omega arith) (λ z. omega arith) (rw e (m.auction_words (i - 52) (omega arith))))
      (λ l₅.
      below 56 i (λ l. let e : i ≡ 55 = omega arith in rw e (entry_word_lem 55 refl m.play))
      (λ l₆.
      below 60 i
      (λ l. let e : i ≡ 56 + (i - 56) = omega arith in high_word i (omega arith) (λ z. omega arith) (λ z. omega arith) (λ z. omega arith) (rw e (m.play_words (i - 56) (omega arith))))
      (λ l₇.
      below 61 i (λ l. let e : i ≡ 60 = omega arith in rw e (omega arith))
      (λ l₈.
      below 62 i (λ l. let e : i ≡ 61 = omega arith in rw e (omega (arith, m.starts, m.ends)))
      (λ l₉. let e : i ≡ 62 + (i - 62) = omega arith in high_word i (omega arith) (λ z. omega arith) (λ z. omega arith) (λ z. omega arith) (rw e (m.zeros (i - 62) (omega arith))))))))))))

counted_entry_lem : (a s : ℕ) (e : List ℕ) → counted_entry (a + s) (moved_entry a e) ≡ counted_entry s e
counted_entry_lem a s [] = refl
counted_entry_lem a s (k ∷ []) = refl
counted_entry_lem a s (k ∷ x ∷ ws) =
    let z : a + x - (a + s) ≡ x - s = omega arith in
    by_cases (eqb k 8) (λ t. rw t) (λ t. rw (t, z))

counted_entries : (a s : ℕ) (es : List (List ℕ)) → map (counted_entry (a + s)) (map (moved_entry a) es) ≡ map (counted_entry s) es
counted_entries a s [] = refl
counted_entries a s (e ∷ es) = rw (counted_entry_lem a s e, counted_entries a s es)

-- The board of the record r at the place a, n entries before it.
abbrev board_of : Conventions → ℕ → ℕ → List ℕ → Board
board_of c a n r = record { card = card_of c a n r; entries = map (entry_words a) (record_out c r).entries }

based : (c : Conventions) (a n : ℕ) (r : List ℕ) → Relocated c a n r → ReadAlike (board_of c a n r) (board_of c 0 0 r)
based c a n r m =
    let s = get_or (card_of c 0 0 r) 60 0 in
    record {
      cards_agree = counted_moved m.card_moved;
      entries_agree =
          ap (λ (l : List (List ℕ)). map (counted_entry (record_start (card_of c a n r))) l) m.entries_moved
          ∙ ap (λ (k : ℕ). map (counted_entry k) (map (moved_entry a) (map (entry_words 0) (record_out c r).entries))) m.card_moved.starts
          ∙ counted_entries a s (map (entry_words 0) (record_out c r).entries);
    }

alike : {x y z : Board} → ReadAlike x z → ReadAlike y z → ReadAlike x y
alike f g = record { cards_agree = λ i h. f.cards_agree i h ∙ sym (g.cards_agree i h); entries_agree = f.entries_agree ∙ sym g.entries_agree }

-- ---- cards

card_held : (c : Conventions) (text cards entries : List ℕ) → Held c text cards entries → (k : ℕ) → k < boards_in c text → card_here k cards ≡ card_from (cards_of c text) k
card_held c text cards entries h k l =
    sym (card_nth (boards_in c text) k cards l)
    ∙ ap (λ (b : List ℕ). card_from (cards_in (boards_in c text) b) k) h.cards_are
    ∙ ap (λ (xs : List (List ℕ)). card_from xs k) (cards_back (cards_of c text) h.lent_cards (CardsWhole c text) h.cards_fit)

pub cards_handed : CardsHanded
cards_handed c text cards entries o = card_held c text cards entries (handed c text cards entries o)

-- ---- entries

four_words : (a : ℕ) (e : Entry) → length (entry_words a e) ≡ 4
unfolding entry_words
four_words a e = refl

blocks_left : {w : ℕ} (xs ys : List (List ℕ)) → Blocks w (xs ++ ys) → Blocks w xs
blocks_left [] ys b = blocks.none
blocks_left (x ∷ xs) ys (blocks.one e b) = blocks.one e (blocks_left xs ys b)

flat_append : (xs ys : List (List ℕ)) → flat (xs ++ ys) ≡ flat xs ++ flat ys
flat_append [] ys = refl
flat_append (x ∷ xs) ys = ap (λ (l : List ℕ). x ++ l) (flat_append xs ys) ∙ sym (append_assoc x (flat xs) (flat ys))

-- Words that begin with blocks of four have these as their first entries.
entries_front : {xs : List (List ℕ)} (rest : List ℕ) → Blocks 4 xs → entry_blocks (length xs) (flat xs ++ rest) ≡ xs
entries_front rest blocks.none = refl
entries_front rest (blocks.one {x = x} {xs = xs} e b) =
    rw (append_assoc x (flat xs) rest, take_at x (flat xs ++ rest) 4 e, drop_at x (flat xs ++ rest) 4 e, entries_front rest b)

-- Entries that stand in an edition's, with n before them, stand so in the words.
entries_held : (c : Conventions) (text cards entries : List ℕ) → Held c text cards entries → (n : ℕ) (xs : List (List ℕ)) → Blocks 4 xs → Stands (entries_of c text) n xs
    → entry_blocks (length xs) (drop (4 * n) entries) ≡ xs
entries_held c text cards entries h n xs b s =
    let zs : List ℕ = replicate (h.lent_entries - length (flat (entries_of c text))) 0 in
    let front = blocks_left s.before (xs ++ s.after) (rw s.whole at (all_blocks c text)) in
    let l : length (flat s.before) ≡ 4 * n = length_flat front ∙ rw s.count in
    let e : entries ≡ flat s.before ++ (flat xs ++ (flat s.after ++ zs)) =
    h.entries_are
    ∙ ap (λ (l : List (List ℕ)). flat l ++ zs) s.whole
    ∙ rw (flat_append, flat_append, append_assoc, append_assoc) in
    rw (e, drop_at (flat s.before) (flat xs ++ (flat s.after ++ zs)) (4 * n) l) (entries_front (flat s.after ++ zs) b)

-- A board in the words is that of its record.
board_held_lem : (c : Conventions) (text cards entries : List ℕ) → Held c text cards entries → (k a n : ℕ) (r : List ℕ) → k < boards_in c text → BoardAt c text k a n r
    → board_here k cards entries ≡ board_of c a n r
board_held_lem c text cards entries h k a n r l b =
    let es = (record_out c r).entries in
    let fit = EntriesFit c text h.short in
    let own : n + length es ≤ length (entries_of c text) = rw length-map at (stands_fit b.entries_are) in
    let x : card_here k cards ≡ card_of c a n r = card_held c text cards entries h k l ∙ stands_card b.card_is in
    let w0 : get_or (card_of c a n r) 0 0 ≡ n = word_0 c a n r ∙ omega arith in
    let w1 : get_or (card_of c a n r) 1 0 ≡ length (map (entry_words a) es) = word_1 c a n r ∙ omega (arith, length-map es (entry_words a)) in
    rw (x, w0, w1, entries_held c text cards entries h n (map (entry_words a) es) (blocks_map 4 (entry_words a) (four_words a) es) b.entries_are)

-- ---- only one board starts at a place

not_empty : (s : Span) (xs ys : List Span) → [] ≡ xs ++ (s ∷ ys) → ⊥
not_empty s [] ys e = let z : ◌≡◌ {A = ℕ} 0 1 = cc in omega arith
not_empty s (x ∷ xs) ys e = let z : ◌≡◌ {A = ℕ} 0 1 = cc in omega arith

-- No record starts before the first.
start_after : (p : ℕ) (rs : List (List ℕ)) (s : Span) (xs ys : List Span) → spans_from p rs ≡ xs ++ (s ∷ ys) → p ≤ s.start
start_after p [] s xs ys e = absurd (not_empty s xs ys e)
start_after p (r ∷ rs) s [] ys e = let q : record { start = p; len = length r } ≡ s = cc in omega (arith, ap (λ (x : Span). x.start) q)
start_after p (r ∷ rs) s (x ∷ xs) ys e =
    let q : spans_from (p + length r) rs ≡ xs ++ (s ∷ ys) = cc in
    omega (arith, start_after (p + length r) rs s xs ys q)

one_start : (p : ℕ) (rs : List (List ℕ)) → Filled rs → (s s' : Span) (xs ys xs' ys' : List Span)
    → spans_from p rs ≡ xs ++ (s ∷ ys) → spans_from p rs ≡ xs' ++ (s' ∷ ys') → s.start ≡ s'.start → length xs ≡ length xs'
one_start p [] f s s' xs ys xs' ys' e e' h = absurd (not_empty s xs ys e)
one_start p (r ∷ rs) f s s' [] ys [] ys' e e' h = refl
one_start p (r ∷ rs) (one l f) s s' [] ys (x ∷ xs') ys' e e' h =
    let q : record { start = p; len = length r } ≡ s = cc in
    let q' : spans_from (p + length r) rs ≡ xs' ++ (s' ∷ ys') = cc in
    absurd (omega (arith, ap (λ (x : Span). x.start) q, start_after (p + length r) rs s' xs' ys' q'))
one_start p (r ∷ rs) (one l f) s s' (x ∷ xs) ys [] ys' e e' h =
    let q : record { start = p; len = length r } ≡ s' = cc in
    let q' : spans_from (p + length r) rs ≡ xs ++ (s ∷ ys) = cc in
    absurd (omega (arith, ap (λ (x : Span). x.start) q, start_after (p + length r) rs s xs ys q'))
one_start p (r ∷ rs) (one l f) s s' (x ∷ xs) ys (x' ∷ xs') ys' e e' h =
    let q : spans_from (p + length r) rs ≡ xs ++ (s ∷ ys) = cc in
    let q' : spans_from (p + length r) rs ≡ xs' ++ (s' ∷ ys') = cc in
    ap suc (one_start (p + length r) rs f s s' xs ys xs' ys' q q' h)

-- THEOREM. Two boards whose records start at one place are one.
pub OnePlace : (c : Conventions) (text : List ℕ) (j k a n m : ℕ) (r q : List ℕ) → BoardAt c text j a n r → BoardAt c text k a m q → j ≡ k
unfolding spans_of
OnePlace c text j k a n m r q x y =
    let s = x.record_told.span_is in
    let t = y.record_told.span_is in
    sym s.count
    ∙ one_start 0 (records_of text) (RecordsFilled text) (span_at a r) (span_at a q) s.before s.after t.before t.after s.whole t.whole refl
    ∙ t.count

-- ---- fellows

-- A board of the other edition with the same record, in the words.
has_fellow : (c : Conventions) (text text' cards entries cards' entries' : List ℕ) → Held c text cards entries → Held c text' cards' entries'
    → (k a n a' : ℕ) (r : List ℕ) → k < boards_in c text → BoardAt c text k a n r → Fellow c text' a' r
    → HasFellow (board_here k cards entries) a' (boards_in c text') cards' entries'
has_fellow c text text' cards entries cards' entries' h h' k a n a' r l b f =
    let k' = f.board in
    let n' = f.entries_before in
    let l' : k' < boards_in c text' = omega (arith, stands_fit f.is.card_is) in
    let here = board_held_lem c text cards entries h k a n r l b in
    let there = board_held_lem c text' cards' entries' h' k' a' n' r l' f.is in
    let at : (j : ℕ) (q : List ℕ) (d m : ℕ) → j < boards_in c text' → BoardAt c text' j d m q → record_start (card_here j cards') ≡ d =
    λ j q d m i y.
    ap (λ (z : Board). record_start z.card) (board_held_lem c text' cards' entries' h' j d m q i y)
    ∙ starts_at c d m q (omega (arith, RecordEnds y.record_told, h'.short)) in
    record {
      fellow = k';
      is_there = l';
      starts = at k' r a' n' l' f.is;
      only = λ j i e.
          let y = EveryBoard c text' j i in
          let s : y.place ≡ a' = sym (at j y.text_of y.place y.entries_before i y.is) ∙ e in
          OnePlace c text' j k' a' y.entries_before n' y.text_of r (rw s at y.is) f.is;
      alike =
          rw (here, there)
          (alike (based c a n r (RelocatedBoards c text k a n r h.short b)) (based c a' n' r (RelocatedBoards c text' k' a' n' r h'.short f.is)));
    }

outside : (c : Conventions) (front middle other back cards entries cards' entries' : List ℕ) → AlikeBut front middle other back
    → Held c (front ++ (middle ++ back)) cards entries → Held c (front ++ (other ++ back)) cards' entries'
    → OutsideAlike c front middle other back cards entries cards' entries'
outside c front middle other back cards entries cards' entries' al h h' =
    let text = front ++ (middle ++ back) in
    let text' = front ++ (other ++ back) in
    let fs = (FellowsOf c front middle other back al).0 in
    record {
      in_front = λ k l lies.
          let b = EveryBoard c text k l in
          let a = b.place in
          let n = b.entries_before in
          let r = b.text_of in
          let x = board_held_lem c text cards entries h k a n r l b.is in
          let short : a + length r ≤ 16777215 = omega (arith, RecordEnds b.is.record_told, h.short) in
          let s : record_start (card_here k cards) ≡ a = ap (λ (z : Board). record_start z.card) x ∙ starts_at c a n r short in
          let e : get_or (card_here k cards) 61 0 ≡ a + length r = ap (λ (z : Board). get_or z.card 61 0) x ∙ ends_at c a n r short in
          rw s (has_fellow c text text' cards entries cards' entries' h h' k a n a r l b.is (fs.of_front k a n r b.is (omega arith)));
      in_back = λ k l lies.
          let b = EveryBoard c text k l in
          let a = b.place in
          let n = b.entries_before in
          let r = b.text_of in
          let x = board_held_lem c text cards entries h k a n r l b.is in
          let short : a + length r ≤ 16777215 = omega (arith, RecordEnds b.is.record_told, h.short) in
          let s : record_start (card_here k cards) ≡ a = ap (λ (z : Board). record_start z.card) x ∙ starts_at c a n r short in
          let d = a - length (front ++ middle) in
          let e : a ≡ length (front ++ middle) + d = omega arith in
          rw s (has_fellow c text text' cards entries cards' entries' h h' k a n (length (front ++ other) + d) r l b.is (fs.of_back k a n d r b.is e));
    }

pub outside_read_alike : OutsideReadAlike
outside_read_alike c front middle middle' back cards entries cards' entries' al o o' =
    let h = handed c (front ++ (middle ++ back)) cards entries o in
    let h' = handed c (front ++ (middle' ++ back)) cards' entries' o' in (
      outside c front middle middle' back cards entries cards' entries' al h h',
      outside c front middle' middle back cards' entries' cards entries (AlikeOther al) h' h,
    )

-- ---- how many there are

read_counts : (r : Result Counts ReadRefusal) (n k : Counts) → r ≡ Ok k → k ≡ n → (get_or (reading_numbers r) 3 0 ≡ n.boards) × (get_or (reading_numbers r) 4 0 ≡ n.entries)
read_counts r n k q e = rw (q, e) (refl, refl)

pub counts_told : CountsTold
counts_told =
    record {
      by_read = λ c text cards entries cards' entries' answer' o.
          let q = reading_of c text (length cards) (length entries) in
          let t = taken_as q (reading_zero q (sym (ap (λ (a : List ℕ). get_or a 0 0) o.told) ∙ sym o.returned)) in
          let f = taken_fits c text (length cards) (length entries) t.counts t.is in
          rw o.told (read_counts q (counts_of c text) t.counts t.is f.counts_are);
      by_plan = λ c old new boxes slips boxes' slips' answer' o.
          let p = promised c old new boxes slips boxes' slips' answer' o in
          let t = (told c old new boxes slips boxes' slips' p.totals p.planned).totals in (
            p.boards_told ∙ (totals_told c old new boxes slips boxes' slips' p.totals p.planned).0,
            p.solve_told ∙ ap (λ (u : Totals). u.solve) t,
          );
    }
