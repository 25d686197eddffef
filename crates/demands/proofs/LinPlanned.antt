-- Planning sees the deals of a LIN page, and no table.
use Prim.Native.Nat.{ℕ, ◌<◌}
use mathlib.Core.Path.{◌≡◌, sym, ap, ◌∙◌}
use mathlib.Core.Bool.{true, false}
use mathlib.Core.List.{List, []}
use native.Mathlib.Omega.{arith}
use lib.ListN.{length, get_or}
use lib.Seq.{get_or_at}
use Rattle.tables.specs.declared.letters.Conventions.{Conventions}
use Rattle.tables.specs.Letters.{Accepted}
use Rattle.tables.proofs.Laws.{clash}
use Rattle.reader.specs.declared.board.DealCard.{DealCard}
use Rattle.reader.specs.declared.deal.Hands.{Hands}
use Rattle.reader.specs.Deals.{whole_hands, hands_of_words}
use Rattle.reader.specs.Kept.{OnCard}
use Rattle.reader.specs.Editions.{card_of, cards_of}
use Rattle.reader.specs.Plain.{PlainBoard, plain_of}
use Rattle.reader.proofs.CardKept.{CardKept}
use Rattle.reader.proofs.DealLaws.{HandsBack}
use Rattle.planning.specs.Cards.{has_table}
use Rattle.planning.specs.Demands.{WithDeal, Tabled, None}
use Rattle.planning.proofs.FoundLaws.{card_among, numbered}
use Rattle.lin.specs.Dealing.{dealt_hands}
use Rattle.lin.specs.LinBoards.{LinBoard, lin_boards, lin_page}
use Rattle.demands.specs.Demand3.{finished_part}
use Rattle.demands.specs.Lin.{WellBoard, BackAs, no_lin_board, Thirteen, LinWhole, LinListed}
use Rattle.demands.specs.LinSteps.{AllWell}
use Rattle.demands.proofs.FinishedBack.{card_whole, card_hands, card_table}
use Rattle.demands.proofs.Listing.{listed_exactly}
use Rattle.demands.proofs.LinTags.{LinCounted}
use Rattle.demands.proofs.LinKept.{OnPage, PageCount, PageBoard, lin_told}
use Rattle.demands.proofs.TablesBack.{whole_deal}

-- ---- a card

whole_hands_lem : (b : LinBoard) → WellBoard b → Thirteen b.dealing → whole_hands (dealt_hands b.dealing) ≡ true
unfolding whole_hands
whole_hands_lem b w t =
    let k = LinCounted b w in
    rw (k.north_count, k.east_count, k.south_count, k.west_count, t.north, t.east, t.south, t.west)

card_deal_lem : (x : List ℕ) (b : LinBoard) (p : PlainBoard) → WellBoard b → BackAs b p → OnCard x p → Thirteen b.dealing → WithDeal (dealt_hands b.dealing) x
card_deal_lem x b p w d o t =
    record {
      whole = card_whole x p o ∙ ap whole_deal d.deal_is ∙ rw HandsBack (whole_hands_lem b w t);
      hands = card_hands x p o ∙ ap (λ (q : DealCard). hands_of_words q.words) d.deal_is ∙ HandsBack (dealt_hands b.dealing);
    }

card_bare : (x : List ℕ) (b : LinBoard) (p : PlainBoard) → BackAs b p → OnCard x p → has_table x ≡ false
card_bare x b p d o = card_table x p o ∙ rw d.no_table

-- ---- the page

module _ (c : Conventions) (ok : Accepted c) (bs : List LinBoard) (a : AllWell bs) where
  card_at_lem : (k : ℕ) (y : OnPage c bs k) → get_or (cards_of c (lin_page c bs)) k [] ≡ card_of c y.place y.entries_before y.text_of
  card_at_lem k y =
      let s = y.is.card_is in
      rw s.whole (get_or_at s.before (card_of c y.place y.entries_before y.text_of) s.after [] k s.count)

  page_whole : (k : ℕ) → k < length bs → Thirteen (get_or bs k no_lin_board).dealing → WithDeal (dealt_hands (get_or bs k no_lin_board).dealing) (get_or (cards_of c (lin_page c bs)) k [])
  page_whole k h t =
      let y = PageBoard c ok bs a k h in
      rw (card_at_lem k y) (card_deal_lem _ (get_or bs k no_lin_board) (plain_of c y.text_of) y.is_well y.back (CardKept c y.place y.entries_before y.text_of) t)

  page_bare : (h : Hands) → None (Tabled h) (cards_of c (lin_page c bs))
  page_bare h x m t =
      let n = numbered m in
      let k = n.number in
      let y = PageBoard c ok bs a k (omega (arith, n.below, PageCount c ok bs a)) in
      let e : has_table (card_of c y.place y.entries_before y.text_of) ≡ false =
      card_bare _ (get_or bs k no_lin_board) (plain_of c y.text_of) y.back (CardKept c y.place y.entries_before y.text_of) in
      clash (sym e ∙ ap has_table (sym (card_at_lem k y) ∙ n.is) ∙ t.table)

-- THEOREM. A board with 13 cards in each hand is whole.
pub lin_whole : LinWhole
lin_whole c ok text page page' answer' o k h t =
    let d = lin_told c text page page' answer' o in
    rw d.part_is (page_whole c ok (lin_boards c text) d.all_well k h t)

-- THEOREM. It is listed as any other.
pub lin_listed : LinListed
lin_listed c ok text page page' answer' o old boxes slips boxes' slips' plan_answer' p k h t =
    let d = lin_told c text page page' answer' o in
    let bs = lin_boards c text in
    let news = cards_of c (finished_part page' answer') in
    let deal = dealt_hands (get_or bs k no_lin_board).dealing in
    let e = listed_exactly c old (finished_part page' answer') boxes slips boxes' slips' plan_answer' p deal in
    let m : length news ≡ length bs = rw d.part_is (PageCount c ok bs d.all_well) in
    let l : k < length news = omega arith in
    let bare : None (Tabled deal) news = rw d.part_is (page_bare c ok bs d.all_well deal) in (
      λ i. (e.0 i).none_old,
      λ n. e.1 (record {
        some_new = record { card = get_or news k []; among = card_among news k l; holds = lin_whole c ok text page page' answer' o k h t };
        none_old = n;
        none_new = bare;
      }),
    )
