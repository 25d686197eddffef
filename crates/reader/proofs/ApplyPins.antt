-- Worked examples of what tags do to a board, by the built-in letters. The value's entry stands at 7, so that its place is 8.
use Rattle.std.specs.Prelude.{Option, Some}
use Rattle.reader.specs.declared.section.Kind.TheVariants.{Auction, Play, Optimum}
use Prim.Native.Nat.{ℕ}
use Prim.Native.String.{String}
use mathlib.Core.Path.{◌≡◌, refl}
use mathlib.Core.List.{List, [], ◌∷◌}
use lib.ListN.{replicate}
use Rattle.tables.specs.Text.{ascii, is_white, is_inside, trimmed}
use Rattle.tables.specs.Letters.{built_in, seat_of, suit_of, rank_of, honour_of, capital}
use Rattle.tables.specs.Tables.{digit_of, digits_reading, table_of_digits}
use Rattle.reader.specs.declared.board.Board.{Board}
use Rattle.reader.specs.declared.section.Open.{Open}
use Rattle.reader.specs.Words.{level_of, is_doubling, contract_trump, is_no_side, is_both_sides, vulnerability_of}
use Rattle.reader.specs.Names.{tag_names, tag_number}
use Rattle.reader.specs.Deals.{cards_named, hands_after, deal_of, hand_words}
use Rattle.reader.specs.Boards.{identity_by, deal_by, table_by, contract_by, is_kept_value, is_kept, values_by, applied, no_span, no_open, open_by, no_board}

-- A board after a tag, name and value.
unfoldable after : Board → String → String → Board
unfolding is_white is_inside trimmed built_in seat_of suit_of rank_of honour_of capital digit_of digits_reading table_of_digits level_of is_doubling contract_trump is_no_side is_both_sides vulnerability_of tag_names tag_number cards_named hands_after deal_of hand_words identity_by deal_by table_by contract_by is_kept_value is_kept values_by applied
after b name value = applied built_in (tag_number (ascii name)) (ascii value) 8 b

abbrev one : String → String → Board
one name value = after no_board name value

-- ---- Result

pin_result : (one "Result" "-128").id.result_met ≡ 1
unfolding after
pin_result = refl

pin_result_least : (one "Result" "-128").id.result ≡ 0
unfolding after
pin_result_least = refl

pin_result_zero : (one "Result" "-0").id.result ≡ 128
unfolding after
pin_result_zero = refl

pin_result_below : (one "Result" "-129").id.result_met ≡ 0
unfolding after
pin_result_below = refl

pin_result_gone : after (one "Result" "9") "Result" "?" ≡ no_board
unfolding after
pin_result_gone = refl

-- ---- Board

pin_board : (one "Board" "4294967295").id.number ≡ 4294967295
unfolding after
pin_board = refl

pin_board_met : (one "Board" "4294967295").id.number_met ≡ 1
unfolding after
pin_board_met = refl

-- Too large: no number, and the id is kept.
pin_board_above : (after (one "Board" "7") "Board" "4294967296").id.number_met ≡ 0
unfolding after
pin_board_above = refl

pin_board_zeroed : (after (one "Board" "7") "Board" "4294967296").id.number ≡ 0
unfolding after
pin_board_zeroed = refl

pin_board_id : (one "Board" "4294967296").values.id ≡ 8
unfolding after
pin_board_id = refl

-- Empty: no number, and an earlier id stays.
pin_board_empty : (after (one "Board" "7") "Board" "").id.number_met ≡ 0
unfolding after
pin_board_empty = refl

pin_board_id_stays : (after (one "Board" "7") "Board" "").values.id ≡ 8
unfolding after
pin_board_id_stays = refl

-- ---- Dealer, Vulnerable

pin_dealer : (one "Dealer" "south").id.dealer ≡ 2
unfolding after
pin_dealer = refl

pin_dealer_gone : after (one "Dealer" "S") "Dealer" "?" ≡ no_board
unfolding after
pin_dealer_gone = refl

pin_vulnerable : (one "Vulnerable" "Both").id.vulnerability ≡ 3
unfolding after
pin_vulnerable = refl

pin_vulnerable_bad : (after (one "Vulnerable" "NS") "Vulnerable" " NS").id.vulnerability ≡ 4
unfolding after
pin_vulnerable_bad = refl

-- ---- Contract

pin_contract : (one "Contract" "4HX").contract ≡ 2
unfolding after
pin_contract = refl

pin_contract_asked : after (one "Contract" "4HX") "Contract" "?" ≡ one "Contract" "4HX"
unfolding after
pin_contract_asked = refl

pin_contract_empty : after (one "Contract" "4HX") "Contract" "" ≡ one "Contract" "4HX"
unfolding after
pin_contract_empty = refl

-- Kept, and no trump.
pin_contract_loose : (after (one "Contract" "4HX") "Contract" "4H X").contract ≡ 4
unfolding after
pin_contract_loose = refl

-- ---- Deal

abbrev few : List ℕ
few = hand_words (record { north = 1; east = 16384; south = 0; west = 2252349569499136 })

pin_deal : (one "Deal" "N:...2 ..3. - 2A...").deal ≡ record { kind = 1; words = few }
unfolding after
pin_deal = refl

pin_deal_value : (one "Deal" "N:...2 ..3. - 2A...").values.deal ≡ 0
unfolding after
pin_deal_value = refl

pin_unparsed : (one "Deal" "N:x").deal ≡ record { kind = 2; words = replicate 8 0 }
unfolding after
pin_unparsed = refl

pin_unparsed_value : (one "Deal" "N:x").values.deal ≡ 8
unfolding after
pin_unparsed_value = refl

-- The unparsed one wins, before or after the one that parsed, whose words are there.
pin_deal_later : (after (one "Deal" "N:x") "Deal" "N:...2 ..3. - 2A...").deal ≡ record { kind = 2; words = few }
unfolding after
pin_deal_later = refl

pin_deal_earlier : (after (one "Deal" "N:...2 ..3. - 2A...") "Deal" "N:x").deal ≡ record { kind = 2; words = few }
unfolding after
pin_deal_earlier = refl

pin_deal_blank : one "Deal" "  " ≡ no_board
unfolding after
pin_deal_blank = refl

-- ---- DoubleDummyTricks

pin_digits : (one "DoubleDummyTricks" "0123456789abcdABCD90").table ≡ record { kind = 1; cells = 0 ∷ 1 ∷ 2 ∷ 3 ∷ 4 ∷ 5 ∷ 6 ∷ 7 ∷ 8 ∷ 9 ∷ 10 ∷ 11 ∷ 12 ∷ 13 ∷ 10 ∷ 11 ∷ 12 ∷ 13 ∷ 9 ∷ 0 ∷ [] }
unfolding after
pin_digits = refl

pin_digits_gone : after (one "DoubleDummyTricks" "0123456789abcdabcd90") "DoubleDummyTricks" "0123456789abcdabcde0" ≡ no_board
unfolding after
pin_digits_gone = refl

-- A table of rows stays.
abbrev rows : Board → Board
rows b =
    record {
      id = b.id;
      deal = b.deal;
      table = record { kind = 2; cells = replicate 20 7 };
      values = b.values;
      auction = b.auction;
      play = b.play;
      trump = b.trump;
      contract = b.contract;
    }

pin_rows_stay : after (rows no_board) "DoubleDummyTricks" "0123456789abcdabcd90" ≡ rows no_board
unfolding after
pin_rows_stay = refl

pin_rows_stay_bad : after (rows no_board) "DoubleDummyTricks" "0" ≡ rows no_board
unfolding after
pin_rows_stay_bad = refl

-- ---- values

pin_event : after (one "Event" "x") "Event" "" ≡ one "Event" "x"
unfolding after
pin_event = refl

pin_west : (one "West" "x").values.west ≡ 8
unfolding after
pin_west = refl

pin_score : (one "OptimumScore" "").values.score ≡ 8
unfolding after
pin_score = refl

pin_par : (one "ParContract" "").values.par ≡ 8
unfolding after
pin_par = refl

-- Other names, and those that open sections, touch nothing.
pin_other : one "event" "x" ≡ no_board
unfolding after
pin_other = refl

pin_note : one "Note" "1:x" ≡ no_board
unfolding after
pin_note = refl

pin_auction : one "Auction" "N" ≡ no_board
unfolding after
pin_auction = refl

-- ---- sections

unfoldable opens : String → String → Option Open
unfolding is_inside built_in seat_of capital tag_names tag_number open_by
opens name value = open_by built_in (tag_number (ascii name)) (ascii value) 40 no_span

pin_opens_auction : opens "Auction" "west" ≡ Some (record { kind = Auction 3; at = 40; split = no_span })
unfolding opens
pin_opens_auction = refl

pin_opens_play : opens "Play" "E" ≡ Some (record { kind = Play 1; at = 40; split = no_span })
unfolding opens
pin_opens_play = refl

pin_opens_optimum : opens "OptimumResultTable" "" ≡ Some (record { kind = Optimum; at = 40; split = no_span })
unfolding opens
pin_opens_optimum = refl

-- No seat, no section; values are not trimmed.
pin_opens_none : opens "Auction" "" ≡ no_open
unfolding opens
pin_opens_none = refl

pin_opens_late : opens "Play" " E" ≡ no_open
unfolding opens
pin_opens_late = refl

pin_opens_note : opens "Note" "N" ≡ no_open
unfolding opens
pin_opens_note = refl
