-- The words that reading the page of a LIN text hands back hold what the text gives.
use Prim.Native.Nat.{ℕ, zero, suc, ◌+◌, ◌-◌, ◌<◌}
use mathlib.Core.Path.{◌≡◌, refl, sym, ap, ◌∙◌}
use mathlib.Core.Bool.{true, false}
use mathlib.Core.List.{List, [], ◌∷◌, ◌++◌, map}
use mathlib.Core.Option.{Option, none, some}
use native.Mathlib.Omega.{arith}
use lib.Dec.{eqb, ltb, leb}
use lib.ListN.{length, get_or, replicate}
use lib.Seq.{take_at, get_or_at}
use borrow.Author.Tests.{eqb-true, ltb-true, ne_eqb}
use Rattle.std.specs.Prelude.{Ok}
use Rattle.tables.specs.declared.letters.Conventions.{Conventions}
use Rattle.tables.specs.Letters.{Accepted, every}
use Rattle.tables.proofs.Laws.{by_cases, both}
use Rattle.reader.specs.declared.play.Slots.{Slots}
use Rattle.reader.specs.declared.board.DealCard.{DealCard}
use Rattle.reader.specs.Records.{records_of}
use Rattle.reader.specs.Fellows.{BoardAt}
use Rattle.reader.specs.Editions.{cards_of}
use Rattle.reader.specs.Plain.{PlainCall, PlainTrick, PlainPlay, PlainBoard, plain_of, calls_in, tricks_in}
use Rattle.reader.specs.Play.{winner_of}
use Rattle.reader.proofs.Counts.{cards_few}
use Rattle.reader.proofs.Tags.{never}
use Rattle.reader.proofs.Fellows.{EveryBoard}
use Rattle.writer.specs.Held.{entry_word, card_word, item_at, items_at, section_items, auction_held, play_held, board_held, shown, seen}
use Rattle.writer.proofs.HeldBoards.{Holds, board_is}
use Rattle.lin.specs.Playing.{slots, tricks_from}
use Rattle.lin.specs.LinBoards.{LinBoard, lin_boards, any_card, all_deals, has_bid, opening_leader, trump_of, lin_tricks, plain_call, auction_of, play_with, play_of, lin_page, lin_text}
use Rattle.lin.specs.Conversions.{gives_deals, converted_of}
use Rattle.golavimes.specs.Answers.{converted_numbers, LinOut}
use Rattle.demands.specs.Boards.{HandedBack}
use Rattle.demands.specs.Demand1.{boards_in}
use Rattle.demands.specs.Lin.{WellBoard, LinRecord, Calls, auction_calls, BackAs, LinBack, codes_from, filled_slot, slots_from, calls_held, cards_held, BoardKept, no_lin_board, AllKept, LinKept, LinPlaced}
use Rattle.demands.specs.LinSteps.{AllWell, none_well, one_well, EachRecord, no_record, a_record}
use Rattle.demands.specs.Demand3.{finished_part}
use Rattle.demands.proofs.Handed.{Held, handed}
use Rattle.demands.proofs.LinRecords.{BoardsWell, LinRecords, LinEach, LinCount}
use Rattle.demands.proofs.LinSections.{LinSections}
use Rattle.demands.proofs.LinTags.{LinDealBack}

-- ---- a record

-- THEOREM. The record of a well board is read back as that board.
pub lin_back : LinBack
lin_back c ok b w r x =
    let d = LinDealBack c ok b w r x in
    let s = LinSections c ok b w r x in
    record {
      dealer_is = d.dealer_is;
      vulnerability_is = d.vulnerability_is;
      declarer_is = d.declarer_is;
      deal_is = d.deal_is;
      auction_is = s.auction;
      play_is = s.play;
      no_table = d.no_table;
    }

-- ---- calls and cards in words

abbrev codes : List PlainCall → List ℕ
codes ks = map (λ k. k.code) ks

-- The codes among entries are those of their calls, whatever the text.
codes_are : (text entries : List ℕ) (e n : ℕ) → codes_from entries e n ≡ codes (calls_in (items_at text entries e n))
unfolding item_at
codes_are text entries e zero = refl
codes_are text entries e (suc n) =
    let i = codes_are text entries (e + 1) n in
    by_cases (eqb (entry_word entries e 0) 6) (λ t. rw (t, i)) (λ t. rw (t, i))

abbrev codes_of : Option Calls → List ℕ
codes_of none = []
codes_of (some x) = codes x.1

calls_are : (text cards entries : List ℕ) (k : ℕ) → calls_held cards entries k ≡ codes_of (auction_calls (auction_held text cards entries k))
unfolding auction_held section_items
calls_are text cards entries k =
    by_cases (eqb (card_word cards k 51) 0) (λ t. rw t) (λ t. rw t (codes_are text entries (card_word cards k 51 - 1) (card_word cards k 52)))

-- Those of a board's auction are its calls.
codes_in : (ks : List ℕ) → codes (map plain_call ks) ≡ ks
codes_in [] = refl
codes_in (k ∷ ks) = ap (λ (js : List ℕ). k ∷ js) (codes_in ks)

codes_from_lem : (d : ℕ) (ks : List ℕ) → codes_of (auction_calls (auction_of d ks)) ≡ ks
codes_from_lem d [] = refl
codes_from_lem d (k ∷ ks) = codes_in (k ∷ ks)

-- The filled slots of tricks, trick by trick.
abbrev slots_filled : Slots → List ℕ
slots_filled s = filled_slot s.a ++ (filled_slot s.b ++ (filled_slot s.c ++ filled_slot s.d))

abbrev tricks_filled : List PlainTrick → List ℕ
tricks_filled [] = []
tricks_filled (t ∷ ts) = slots_filled t.slots ++ tricks_filled ts

abbrev play_filled : Option PlainPlay → List ℕ
play_filled none = []
play_filled (some p) = tricks_filled p.tricks

tricks_are : (text entries : List ℕ) (e n : ℕ) → slots_from entries e n ≡ tricks_filled (tricks_in (items_at text entries e n))
unfolding item_at
tricks_are text entries e zero = refl
tricks_are text entries e (suc n) =
    let i = tricks_are text entries (e + 1) n in
    by_cases (eqb (entry_word entries e 0) 8) (λ t. rw (t, i)) (λ t. rw (t, i))

cards_are : (text cards entries : List ℕ) (k : ℕ) → cards_held cards entries k ≡ play_filled (play_held text cards entries k)
unfolding play_held section_items
cards_are text cards entries k =
    by_cases (eqb (card_word cards k 55) 0) (λ t. rw t) (λ t. rw t (tricks_are text entries (card_word cards k 55 - 1) (card_word cards k 56)))

-- A section that is absent.
no_auction : (text cards entries : List ℕ) (k : ℕ) → auction_calls (auction_held text cards entries k) ≡ none → card_word cards k 51 ≡ 0
unfolding auction_held
no_auction text cards entries k e =
    by_cases (eqb (card_word cards k 51) 0) (λ t. eqb-true (card_word cards k 51) 0 t) (λ t. never (sym (rw t at e)))

no_play : (text cards entries : List ℕ) (k : ℕ) → play_held text cards entries k ≡ none → card_word cards k 55 ≡ 0
unfolding play_held
no_play text cards entries k e =
    by_cases (eqb (card_word cards k 55) 0) (λ t. eqb-true (card_word cards k 55) 0 t) (λ t. never (sym (rw t at e)))

-- ---- the cards of tricks

filled_card : (k : ℕ) → ltb k 52 ≡ true → filled_slot k ≡ k ∷ []
filled_card k e = rw (ne_eqb k 255 (λ z. omega (arith, ltb-true k 52 e)))

-- THEOREM. The filled slots of the tricks of some cards are the cards.
pub TricksFilled : (trump leader : ℕ) (ks : List ℕ) → every (λ k. ltb k 52) ks ≡ true → tricks_filled (tricks_from trump leader ks) ≡ ks
TricksFilled trump leader [] e = refl
TricksFilled trump leader (a ∷ []) e =
    let h = both (ltb a 52) true e in
    rw (filled_card a h.0)
TricksFilled trump leader (a ∷ b ∷ []) e =
    let h = both (ltb a 52) _ e in
    let i = both (ltb b 52) true h.1 in
    rw (filled_card a h.0, filled_card b i.0)
TricksFilled trump leader (a ∷ b ∷ d ∷ []) e =
    let h = both (ltb a 52) _ e in
    let i = both (ltb b 52) _ h.1 in
    let j = both (ltb d 52) true i.1 in
    rw (filled_card a h.0, filled_card b i.0, filled_card d j.0)
TricksFilled trump leader (a ∷ b ∷ d ∷ f ∷ ks) e =
    let h = both (ltb a 52) _ e in
    let i = both (ltb b 52) _ h.1 in
    let j = both (ltb d 52) _ i.1 in
    let m = both (ltb f 52) (every (λ k. ltb k 52) ks) j.1 in
    rw (filled_card a h.0, filled_card b i.0, filled_card d j.0, filled_card f m.0, TricksFilled trump (winner_of trump leader (slots a b d f)) ks m.1)

with_filled : (leader : ℕ) (ts : List PlainTrick) → play_filled (play_with leader ts) ≡ tricks_filled ts
with_filled leader [] = refl
with_filled leader (t ∷ ts) = refl

play_filled_lem : (b : LinBoard) → WellBoard b → has_bid b ≡ true → play_filled (play_of b) ≡ b.cards
unfolding lin_tricks
play_filled_lem b w e = rw e (with_filled (opening_leader b) (lin_tricks b) ∙ TricksFilled (trump_of b) (opening_leader b) b.cards w.cards_low)

play_none : (b : LinBoard) → has_bid b ≡ false → play_of b ≡ none
play_none b e = rw e

-- ---- one board

-- The words hold the plain board of a record, which is read back as b.
board_kept : (text cards entries : List ℕ) (k : ℕ) (b : LinBoard) (p : PlainBoard) → WellBoard b → BackAs b p
    → board_held text cards entries k ≡ seen p → BoardKept b cards entries k
unfolding board_held seen shown
board_kept text cards entries k b p w d e =
    let g : auction_calls (auction_held text cards entries k) ≡ auction_calls (auction_of b.dealing.dealer b.calls) =
    ap (λ (q : PlainBoard). auction_calls q.auction) e ∙ d.auction_is in
    let h : play_held text cards entries k ≡ play_of b = ap (λ (q : PlainBoard). q.play) e ∙ d.play_is in
    record {
      deal_parsed = ap (λ (q : PlainBoard). q.deal.kind) e ∙ ap (λ (q : DealCard). q.kind) d.deal_is;
      hands = ap (λ (q : PlainBoard). q.deal.words) e ∙ ap (λ (q : DealCard). q.words) d.deal_is;
      dealer = ap (λ (q : PlainBoard). q.id.dealer) e ∙ d.dealer_is;
      vulnerability =
          ap (λ (q : PlainBoard). q.id.vulnerability) e
          ∙ rw (d.vulnerability_is, ne_eqb b.vulnerability 4 (λ z. omega (arith, w.vulnerability_low)));
      declarer = ap (λ (q : PlainBoard). q.id.declarer) e ∙ d.declarer_is;
      calls = calls_are text cards entries k ∙ ap codes_of g ∙ codes_from_lem b.dealing.dealer b.calls;
      no_calls = λ n. no_auction text cards entries k (g ∙ rw n);
      played = λ t. cards_are text cards entries k ∙ ap play_filled h ∙ play_filled_lem b w t;
      no_bid = λ t. no_play text cards entries k (h ∙ play_none b t);
    }

-- ---- all boards

-- The record at a place is one of the board there, which is well.
record AtPlace (c : Conventions) (b : LinBoard) (r : List ℕ) : Type 0 where
  is_well : WellBoard b
  is_record : LinRecord c b r

at_place : (c : Conventions) {bs : List LinBoard} {rs : List (List ℕ)} → AllWell bs → EachRecord c bs rs → (xs : List (List ℕ)) (r : List ℕ) (ys : List (List ℕ))
    → rs ≡ xs ++ r ∷ ys → AtPlace c (get_or bs (length xs) no_lin_board) r
at_place c none_well no_record [] r ys e = let z : ◌≡◌ {A = ℕ} 0 1 = cc in absurd (omega arith)
at_place c none_well no_record (x ∷ xs) r ys e = let z : ◌≡◌ {A = ℕ} 0 1 = cc in absurd (omega arith)
at_place c (one_well {b = b} w a) (a_record {r = q} i h) [] r ys e =
    let z : q ≡ r = cc in
    record { is_well = w; is_record = rw z at i }
at_place c (one_well w a) (a_record {rs = rs} i h) (x ∷ xs) r ys e =
    let z : rs ≡ xs ++ r ∷ ys = cc in
    at_place c a h xs r ys z

-- The board at a place of the page of well boards: its record, and that it is read back.
pub record OnPage (c : Conventions) (bs : List LinBoard) (k : ℕ) : Type 0 where
  pub place : ℕ
  pub entries_before : ℕ
  pub text_of : List ℕ
  pub is : BoardAt c (lin_page c bs) k place entries_before text_of
  pub is_well : WellBoard (get_or bs k no_lin_board)
  pub back : BackAs (get_or bs k no_lin_board) (plain_of c text_of)

module _ (c : Conventions) (ok : Accepted c) (bs : List LinBoard) (a : AllWell bs) where
  -- THEOREM. The page has as many boards.
  pub PageCount : boards_in c (lin_page c bs) ≡ length bs
  unfolding cards_of
  PageCount = cards_few c 0 0 (records_of (lin_page c bs)) ∙ LinCount c ok bs a

  -- THEOREM. Each stands there.
  pub PageBoard : (k : ℕ) → k < length bs → OnPage c bs k
  PageBoard k h =
      let y = EveryBoard c (lin_page c bs) k (omega (arith, PageCount)) in
      let r = y.text_of in
      let s = y.is.record_told.record_is in
      let b = get_or bs k no_lin_board in
      let m : AtPlace c b r = rw s.count at (at_place c a (LinEach c bs) s.before r s.after (sym (LinRecords c ok bs a) ∙ s.whole)) in
      record {
        place = y.place;
        entries_before = y.entries_before;
        text_of = r;
        is = y.is;
        is_well = m.is_well;
        back = lin_back c ok b m.is_well r m.is_record;
      }

-- The words handed back, as the writer has them.
holds_by : (c : Conventions) (text cards entries : List ℕ) → Held c text cards entries → Holds c text cards entries
holds_by c text cards entries h =
    record {
      lent_cards = h.lent_cards;
      lent_entries = h.lent_entries;
      short = h.short;
      cards_fit = omega (arith, h.cards_fit);
      entries_fit = omega (arith, h.entries_fit);
      cards_are = h.cards_are;
      entries_are = h.entries_are;
    }

-- THEOREM. The page of well boards, once taken, yields them.
pub LinPageKept : (c : Conventions) → Accepted c → (bs : List LinBoard) → AllWell bs → (cards entries : List ℕ)
    → HandedBack c (lin_page c bs) cards entries → AllKept c bs (length bs) (lin_page c bs) cards entries
LinPageKept c ok bs a cards entries o =
    let t = lin_page c bs in
    let held = holds_by c t cards entries (handed c t cards entries o) in
    record {
      as_many_told = refl;
      as_many_read = PageCount c ok bs a;
      each = λ k h.
          let y = PageBoard c ok bs a k h in
          board_kept t cards entries k (get_or bs k no_lin_board) (plain_of c y.text_of) y.is_well y.back
          (board_is c t cards entries held k y.place y.entries_before y.text_of y.is);
    }

-- ---- the page

-- A text that was converted: its boards make deals, and the answer has the bytes and the boards.
record WasConverted (c : Conventions) (text : List ℕ) (m : ℕ) : Type 0 where
  each_deal : all_deals (lin_boards c text) ≡ true
  is : converted_of c text m ≡ Ok (record { bytes = length (lin_text c text); boards = length (lin_boards c text) })

was_converted : (c : Conventions) (text : List ℕ) (m : ℕ) → get_or (converted_numbers (converted_of c text m)) 0 0 ≡ 0 → WasConverted c text m
unfolding converted_of
was_converted c text m e =
    let bs = lin_boards c text in
    let t = lin_text c text in
    by_cases (ltb 16777215 (length text))
    (λ u. let z = rw u at e in absurd (omega arith))
    (λ u.
    by_cases (gives_deals bs)
    (λ v.
    by_cases (leb (length t) m)
    (λ w. record { each_deal = (both (any_card bs) (all_deals bs) v).1; is = rw (u, v, w) })
    (λ w. let z = rw (u, v, w) at e in absurd (omega arith)))
    (λ v. let z = rw (u, v) at e in absurd (omega arith)))

-- What was told and written.
pub record Told (c : Conventions) (text page' answer' : List ℕ) : Type 0 where
  pub all_well : AllWell (lin_boards c text)
  pub boards_told : get_or answer' 4 0 ≡ length (lin_boards c text)
  pub part_is : finished_part page' answer' ≡ lin_page c (lin_boards c text)

pub lin_told : (c : Conventions) (text page page' answer' : List ℕ) → LinOut c text page page' answer' 0 → Told c text page' answer'
unfolding lin_text
lin_told c text page page' answer' o =
    let v = was_converted c text (length page) (sym (ap (λ (l : List ℕ). get_or l 0 0) o.told) ∙ sym o.returned) in
    let t = lin_page c (lin_boards c text) in
    let a : answer' ≡ converted_numbers (Ok (record { bytes = length t; boards = length (lin_boards c text) })) = o.told ∙ ap converted_numbers v.is in
    let p : page' ≡ t ++ replicate (length page - length t) 0 = o.lent_after.page_left ∙ rw v.is in
    record {
      all_well = BoardsWell c text v.each_deal;
      boards_told = ap (λ (l : List ℕ). get_or l 4 0) a;
      part_is = rw (a, p) (take_at t (replicate (length page - length t) 0) (length t) refl);
    }

-- THEOREM. The page, once taken, yields the hands, calls and cards that were in the LIN text.
pub lin_kept : LinKept
lin_kept c ok text page page' answer' o cards entries h =
    let t = lin_told c text page page' answer' o in
    rw (t.boards_told, t.part_is) (LinPageKept c ok (lin_boards c text) t.all_well cards entries (rw t.part_is at h))

-- THEOREM. Each record is read back as its board.
page_placed : (c : Conventions) → Accepted c → (bs : List LinBoard) → AllWell bs → (k : ℕ) → k < length bs
    → BackAs (get_or bs k no_lin_board) (plain_of c (get_or (records_of (lin_page c bs)) k []))
page_placed c ok bs a k h =
    let y = PageBoard c ok bs a k h in
    let s = y.is.record_told.record_is in
    rw (s.whole, get_or_at s.before y.text_of s.after [] k s.count) y.back

pub lin_placed : LinPlaced
lin_placed c ok text page page' answer' o k h =
    let t = lin_told c text page page' answer' o in
    rw t.part_is (page_placed c ok (lin_boards c text) t.all_well k h)
