-- The record of a LIN board reads back with the tags written, and so with its dealer, vulnerability, declarer and deal.
use Prim.Native.Nat.{ℕ, ◌<◌, ◌≤◌}
use mathlib.Core.Path.{◌≡◌, refl, sym, ap, ◌∙◌}
use mathlib.Core.Bool.{Bool, true, false, cond}
use mathlib.Core.List.{List, [], ◌∷◌, ◌++◌, append_assoc, map}
use mathlib.Core.Option.{Option, none as nothing, some}
use native.Mathlib.Omega.{arith}
use lib.Dec.{eqb, ltb}
use lib.ListN.{length, take}
use lib.Seq.{length-take-le}
use borrow.Author.Tests.{lt-ltb, ltb-true, ltb-false, ne_eqb}
use Rattle.tables.specs.declared.letters.Conventions.{Conventions}
use Rattle.tables.specs.Text.{differs, first_character}
use Rattle.tables.specs.Letters.{Accepted, every, distinct, is_capital, capital, seat_of}
use Rattle.tables.proofs.Laws.{by_cases, both}
use Rattle.reader.specs.declared.board.Identity.{Identity}
use Rattle.reader.specs.declared.board.TableCard.{TableCard}
use Rattle.reader.specs.Names.{tag_names, tag_number}
use Rattle.reader.specs.Words.{vulnerability_of, vulnerability_token}
use Rattle.reader.specs.Deals.{card_count, hand_bits, hand_words, hands_of_words, deal_of, deal_text, Proper}
use Rattle.std.specs.Prelude.{Some}
use Rattle.reader.specs.Pieces.{raw_lines}
use Rattle.reader.specs.Boards.{identity_by, deal_by, no_board}
use Rattle.reader.specs.Plain.{TagPair, PlainPlay, PlainBoard, plain_of}
use Rattle.reader.proofs.LineTags.{tags_of_lines}
use Rattle.reader.proofs.CardSets.{in_pack, distinct_front, distinct_back, count_total}
use Rattle.reader.proofs.DealLaws.{HandsBack}
use Rattle.reader.proofs.DealBack.{DealBack}
use Rattle.reader.proofs.WordTokens.{capital_differs, front_all, every_take, vulnerability_back}
use Rattle.reader.proofs.PlainLaws.{plain_keeps}
use Rattle.reader.proofs.StandLaws.{map_append}
use Rattle.reader.proofs.Folds.{fold_tags, fold_append, fold_deal, fold_table, fold_identity, DealFolds, TableFolds, IdentityFolds}
use Rattle.writer.specs.Sections.{note_values}
use Rattle.writer.specs.Tags.{result_text, seat_text, first_seat, head_tags, table_tags, deal_tags, auction_tags, play_tags, written_tags}
use Rattle.writer.specs.Pages.{built_in_header}
use Rattle.lin.specs.Dealing.{all_cards, dealt_hands}
use Rattle.lin.specs.LinBoards.{LinBoard, declarer_in, has_bid, auction_of, play_of, lin_plain, lin_play, lin_lines}
use Rattle.demands.specs.PageBack.{tag_pair}
use Rattle.demands.specs.Lin.{WellBoard, lin_own, LinRecord, last, ended, only, first}
use Rattle.demands.proofs.WrittenTagsBack.{lines_tags, body_pairs, header_tags, Holds, alone, ended as ended_tags}
use Rattle.demands.proofs.TablesBack.{deal_told, table_told, no_rows}
use Rattle.demands.proofs.BoardWritable.{every_implied}
use Rattle.demands.proofs.SectionsBack.{seat_read}
use Rattle.demands.proofs.LinContract.{DeclarerSeat, NoDeclarer}
use Rattle.lin.proofs.DealingLaws.{packed_proper}
use Rattle.lin.proofs.BoardTextLaws.{no_notes}
use Rattle.demands.proofs.LinWritable.{head_of, tags_are, LinLinesGood}

-- ---- the tags

-- The tags of a board as they are written.
abbrev pub lin_tags : Conventions → LinBoard → List TagPair
lin_tags c b = map tag_pair (written_tags c (lin_plain c b) (lin_play c b))

module _ (c : Conventions) (ok : Accepted c) (b : LinBoard) (w : WellBoard b) where
  own_holds : Holds (lin_own c b) (lin_tags c b)
  unfolding lin_lines
  own_holds r =
      lines_tags (lin_lines c b) r (LinLinesGood c ok b w)
      ∙ ap (λ (x : List TagPair). x ++ tags_of_lines false (raw_lines r)) (body_pairs (lin_plain c b) (written_tags c (lin_plain c b) (lin_play c b)))

  first_holds : Holds (built_in_header ++ lin_own c b) (lin_tags c b)
  first_holds r = rw (append_assoc built_in_header (lin_own c b) r) (header_tags [] (lin_own c b ++ r) refl refl ∙ own_holds r)

  -- THEOREM. The tags of its record, read with any letters, are those written.
  pub LinTagsBack : (d : Conventions) (r : List ℕ) → LinRecord c b r → (plain_of d r).tags ≡ lin_tags c b
  LinTagsBack d r last = alone d (lin_own c b) (lin_tags c b) own_holds
  LinTagsBack d r ended = ended_tags d (lin_own c b) (lin_tags c b) own_holds
  LinTagsBack d r only = alone d (built_in_header ++ lin_own c b) (lin_tags c b) first_holds
  LinTagsBack d r first = ended_tags d (built_in_header ++ lin_own c b) (lin_tags c b) first_holds

-- ---- the hands of a deal

every_parts : (p : ℕ → Bool) (a b : List ℕ) → every p (a ++ b) ≡ true → (every p a ≡ true) × (every p b ≡ true)
every_parts p [] b e = (refl, e)
every_parts p (x ∷ xs) b e =
    let h = both (p x) (every p (xs ++ b)) e in
    let i = every_parts p xs b h.1 in
    (rw (h.0, i.0), i.1)

-- Four lists of cards, no card twice: as many bits as cards.
pub record BitCounts (s w n e : List ℕ) : Type 0 where
  pub south_count : card_count (hand_bits s) ≡ length s
  pub west_count : card_count (hand_bits w) ≡ length w
  pub north_count : card_count (hand_bits n) ≡ length n
  pub east_count : card_count (hand_bits e) ≡ length e

module _ (s w n e : List ℕ) (d : distinct (s ++ (w ++ (n ++ e))) ≡ true) (p : every in_pack (s ++ (w ++ (n ++ e))) ≡ true) where
  counted_by : BitCounts s w n e
  counted_by =
      let ps = every_parts in_pack s (w ++ (n ++ e)) p in
      let pw = every_parts in_pack w (n ++ e) ps.1 in
      let pn = every_parts in_pack n e pw.1 in
      let d1 = distinct_back s (w ++ (n ++ e)) d in
      let d2 = distinct_back w (n ++ e) d1 in
      record {
        south_count = count_total s (distinct_front s (w ++ (n ++ e)) d) ps.0;
        west_count = count_total w (distinct_front w (n ++ e) d1) pw.0;
        north_count = count_total n (distinct_front n e d2) pn.0;
        east_count = count_total e (distinct_back n e d2) pn.1;
      }

-- THEOREM. The hands of a well board have as many cards as it names.
pub LinCounted : (b : LinBoard) → WellBoard b → BitCounts b.dealing.south b.dealing.west b.dealing.north b.dealing.east
LinCounted b w =
    let d = b.dealing in
    counted_by d.south d.west d.north d.east (both (distinct (all_cards d)) _ w.makes_deal).0 w.dealt_low

-- THEOREM. They are those of a deal.
pub LinProper : (b : LinBoard) → WellBoard b → Proper (dealt_hands b.dealing)
LinProper b w =
    let d = b.dealing in
    let ps = every_parts in_pack d.south _ w.dealt_low in
    let pw = every_parts in_pack d.west _ ps.1 in
    let pn = every_parts in_pack d.north d.east pw.1 in
    packed_proper d (record { north_pack = pn.0; east_pack = pn.1; south_pack = ps.0; west_pack = pw.0 }) w.makes_deal

-- The deal as it is written and read.
deal_back : (c : Conventions) → Accepted c → (b : LinBoard) → WellBoard b
    → fold_deal c (lin_tags c b) ≡ record { kind = 1; words = hand_words (dealt_hands b.dealing) }
unfolding lin_plain deal_by
deal_back c ok b w =
    let h = dealt_hands b.dealing in
    let dealer = b.dealing.dealer in
    let q : deal_of c (deal_text c (first_seat dealer) (hands_of_words (hand_words h))) ≡ Some h =
    rw (HandsBack h, lt-ltb dealer 4 w.dealer_low) (DealBack c ok dealer w.dealer_low h (LinProper b w)) in
    deal_told c (lin_plain c b) (lin_play c b) ∙ rw q

-- No table is written, so none is read.
table_back : (c : Conventions) (b : LinBoard) → (fold_table (lin_tags c b)).kind ≡ 0
unfolding lin_plain table_tags
table_back c b = ap (λ (t : TableCard). t.kind) (table_told c (lin_plain c b) (lin_play c b))

-- ---- the identity

-- No seat's letter is the byte 0.
no_seat : (c : Conventions) → Accepted c → seat_of c 0 ≡ 4
unfolding seat_of capital
no_seat c ok =
    let s = take 4 c.letters in
    rw (front_all (differs 0) s (every_implied is_capital (differs 0) capital_differs s (every_take is_capital 4 c.letters ok.capitals)))
    (length-take-le 4 c.letters (omega (arith, ok.thirteen)))

-- A seat's letter, or nothing, is read as that seat.
seat_again : (c : Conventions) → Accepted c → (s : ℕ) → s ≤ 4 → seat_of c (first_character (seat_text c s)) ≡ s
unfolding seat_text
seat_again c ok s h =
    by_cases (ltb s 4)
    (λ e. seat_read c ok s (ltb-true s 4 e))
    (λ e. let q : s ≡ 4 = omega (arith, ltb-false s 4 e) in rw e (no_seat c ok ∙ sym q))

-- The tags from Auction on, which the identity does not look at.
auction_passes : (c : Conventions) (i : Identity) (dealer : ℕ) (ks : List ℕ) → fold_tags (identity_by c) i (map tag_pair (auction_tags c [] (auction_of dealer ks))) ≡ i
unfolding auction_tags note_values identity_by tag_names tag_number
auction_passes c i dealer [] = refl
auction_passes c i dealer (k ∷ ks) = rw (no_notes 256 0)

play_passes : (c : Conventions) (i : Identity) (play : List (List ℕ)) (o : Option PlainPlay) → fold_tags (identity_by c) i (map tag_pair (play_tags c play o)) ≡ i
unfolding play_tags identity_by tag_names tag_number
play_passes c i play nothing = refl
play_passes c i play (some p) = refl

-- Those before them.
record IdentityIs (c : Conventions) (b : LinBoard) (i : Identity) : Type 0 where
  dealer_read : i.dealer ≡ seat_of c (first_character (seat_text c b.dealing.dealer))
  vulnerability_read : i.vulnerability ≡ vulnerability_of (vulnerability_token (cond (eqb b.vulnerability 4) 0 b.vulnerability))
  declarer_read : i.declarer ≡ seat_of c (first_character (seat_text c (declarer_in b)))

front_read : (c : Conventions) (b : LinBoard) → b.dealing.dealer < 4 → IdentityIs c b (fold_identity c (map tag_pair (head_of c b)))
unfolding lin_plain head_tags deal_tags table_tags result_text identity_by tag_names tag_number
front_read c b h = rw (lt-ltb b.dealing.dealer 4 h) (record { dealer_read = refl; vulnerability_read = refl; declarer_read = refl })

identity_front : (c : Conventions) (b : LinBoard) → fold_identity c (lin_tags c b) ≡ fold_identity c (map tag_pair (head_of c b))
identity_front c b =
    let a = auction_tags c [] (auction_of b.dealing.dealer b.calls) in
    let p = play_tags c (lin_play c b) (play_of b) in
    let f = identity_by c in
    let i = fold_identity c (map tag_pair (head_of c b)) in
    rw (
      tags_are c b,
      map_append tag_pair (head_of c b) (a ++ p),
      map_append tag_pair a p,
      fold_append f no_board.id (map tag_pair (head_of c b)) (map tag_pair a ++ map tag_pair p),
      fold_append f i (map tag_pair a) (map tag_pair p),
      auction_passes c i b.dealing.dealer b.calls,
    )
    (play_passes c i (lin_play c b) (play_of b))

-- What the tags give.
pub record DealIs (b : LinBoard) (p : PlainBoard) : Type 0 where
  pub dealer_is : p.id.dealer ≡ b.dealing.dealer
  pub vulnerability_is : p.id.vulnerability ≡ b.vulnerability
  pub declarer_is : p.id.declarer ≡ declarer_in b
  pub deal_is : p.deal ≡ record { kind = 1; words = hand_words (dealt_hands b.dealing) }
  pub no_table : p.table.kind ≡ 0

declarer_low : (b : LinBoard) → declarer_in b ≤ 4
declarer_low b = by_cases (has_bid b) (λ e. omega (arith, DeclarerSeat b e)) (λ e. omega (arith, NoDeclarer b e))

-- THEOREM. The record of a well board reads back with its dealer, its vulnerability, its declarer and its deal, and without a table.
pub LinDealBack : (c : Conventions) → Accepted c → (b : LinBoard) → WellBoard b → (r : List ℕ) → LinRecord c b r → DealIs b (plain_of c r)
LinDealBack c ok b w r x =
    let s = plain_keeps c r in
    let e = LinTagsBack c ok b w c r x in
    let i : (plain_of c r).id ≡ fold_identity c (map tag_pair (head_of c b)) = s.id_kept ∙ IdentityFolds c r ∙ ap (fold_identity c) e ∙ identity_front c b in
    let f = front_read c b w.dealer_low in
    let v = b.vulnerability in
    record {
      dealer_is = ap (λ (x : Identity). x.dealer) i ∙ f.dealer_read ∙ seat_again c ok b.dealing.dealer (omega (arith, w.dealer_low));
      vulnerability_is =
          ap (λ (x : Identity). x.vulnerability) i ∙ f.vulnerability_read
          ∙ rw (ne_eqb v 4 (λ k. omega (arith, w.vulnerability_low))) (vulnerability_back v w.vulnerability_low);
      declarer_is = ap (λ (x : Identity). x.declarer) i ∙ f.declarer_read ∙ seat_again c ok (declarer_in b) (declarer_low b);
      deal_is = s.deal_kept ∙ DealFolds c r ∙ ap (fold_deal c) e ∙ deal_back c ok b w;
      no_table =
          ap (λ (t : TableCard). t.kind) (s.table_kept ∙ TableFolds c r (rw e (no_rows c (lin_plain c b) (lin_play c b))) ∙ ap fold_table e)
          ∙ table_back c b;
    }
