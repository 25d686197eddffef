-- Worked examples of plain boards, by the built-in letters.
use Prim.Native.Nat.{ℕ, ◌^◌}
use Prim.Native.String.{String}
use mathlib.Core.Path.{◌≡◌, refl}
use mathlib.Core.List.{List, [], ◌∷◌}
use mathlib.Core.Option.{none, some}
use Rattle.tables.specs.Text.{ascii, is_white, is_inside, trimmed}
use Rattle.tables.specs.Letters.{built_in, capital, seat_of, suit_of, honour_of, rank_of}
use Rattle.tables.specs.Tables.{digit_of, digits_reading, table_of_digits}
use Rattle.reader.specs.Tag.{trim_span, trim_part, bracket_of, ends_quoted, name_of, is_quoted, value_of, is_comment, comment_of, tag_line, data_bracket, data_after, split_of}
use Rattle.reader.specs.Lines.{is_blank, has_brace, split_line, bracket_line, line_kind}
use Rattle.reader.specs.Words.{level_of, bid_code, is_pass, underscore_code, sign_code, call_of, is_mark, section_end, is_all_pass, card_number, card_named, is_doubling, contract_trump, is_no_side, is_both_sides, vulnerability_of}
use Rattle.reader.specs.Names.{tag_names, tag_number}
use Rattle.reader.specs.Deals.{cards_named, hands_after, deal_of, hand_words}
use Rattle.reader.specs.Auction.{call_token_of, called, called_piece}
use Rattle.reader.specs.Play.{weight, best_slot, opened, is_gap, played, played_bytes, played_piece, last_trick}
use Rattle.reader.specs.Sections.{commentary_after, stops_at, piece_of, section_data, walked, no_walk, walked_all}
use Rattle.reader.specs.Boards.{identity_by, deal_by, table_by, contract_by, is_kept_value, is_kept, values_by, applied, open_by, closed, tagged, tag_line_out, blocked, braced, in_commentary, line_out, record_out}
use Rattle.reader.specs.Records.{scanned, closes_record, records_of}
use Rattle.reader.specs.Plain.{TagPair, Remark, PlainCall, PlainBoard, item_of, without_returns, plain_by, plain_of, plain_boards}
use Rattle.reader.specs.Pieces.{Piece}
use Rattle.reader.specs.PieceSteps.{piece}
use Rattle.reader.specs.Kept.{last_kept, last_hands}
use Rattle.reader.proofs.SectionLines.{data_pieces}

-- The plain board of a record.
unfoldable plain : String → PlainBoard
unfolding is_white is_inside trimmed built_in capital seat_of suit_of honour_of rank_of digit_of digits_reading table_of_digits trim_span trim_part bracket_of ends_quoted name_of is_quoted value_of is_comment comment_of tag_line data_bracket data_after split_of is_blank has_brace split_line bracket_line line_kind level_of bid_code is_pass underscore_code sign_code call_of is_mark section_end is_all_pass card_number card_named is_doubling contract_trump is_no_side is_both_sides vulnerability_of tag_names tag_number cards_named hands_after deal_of hand_words call_token_of called called_piece weight best_slot opened is_gap played played_bytes played_piece last_trick commentary_after stops_at piece_of section_data walked no_walk walked_all identity_by deal_by table_by contract_by is_kept_value is_kept values_by applied open_by closed tagged tag_line_out blocked braced in_commentary line_out record_out item_of plain_by plain_of
plain s = plain_of built_in (ascii s)

abbrev pair : String → String → TagPair
pair name value = record { name = ascii name; value = ascii value }

abbrev remark : String → ℕ → Remark
remark s n = record { bytes = ascii s; before = n }

abbrev call : ℕ → String → PlainCall
call code s = record { code = code; annotation = ascii s }

-- ---- tags, directives, blocks

-- Tags in order, the repeated one too.
pin_tags : (plain "[B \"x\"]\n[A \"\"]\n[B \"y\"]").tags ≡ pair "B" "x" ∷ pair "A" "" ∷ pair "B" "y" ∷ []
unfolding plain
pin_tags = refl

-- A directive before every tag; one on its own tag's line, which counts that tag.
pin_directives : (plain "%h\n[A \"x\"] ;c\n").directives ≡ remark "%h" 0 ∷ remark ";c" 1 ∷ []
unfolding plain
pin_directives = refl

-- A block drops a CR before each LF, and no other; it keeps its outer white space.
pin_block : (plain "[A \"x\"]\r\n{ a\r\nb\r}\r\n").blocks ≡ remark " a\nb\r" 1 ∷ []
unfolding plain
pin_block = refl

pin_returns : without_returns (ascii "\r\r\n\r") ≡ ascii "\r\n\r"
pin_returns = refl

-- ---- values

pin_id : (plain "[Board \"1-7\"]").values.id ≡ some (ascii "1-7")
unfolding plain
pin_id = refl

-- The last that is kept counts.
pin_date : (plain "[Date \"a\"]\n[Date \"b\"]\n[Date \"\"]").values.date ≡ some (ascii "b")
unfolding plain
pin_date = refl

pin_no_contract : (plain "[Contract \"?\"]").values.contract ≡ none
unfolding plain
pin_no_contract = refl

-- An empty ParContract is kept.
pin_par : (plain "[ParContract \"\"]").values.par ≡ some []
unfolding plain
pin_par = refl

-- No Vulnerable was read.
pin_no_vulnerable : (plain "[A \"x\"]").id.vulnerability ≡ 4
unfolding plain
pin_no_vulnerable = refl

-- ---- auction and play

pin_no_auction : (plain "[Auction \"E\"]").auction ≡ none
unfolding plain
pin_no_auction = refl

-- Annotations in a row. The notes are the Note tags behind the tags that stand before the calls.
pin_auction : (plain "[Note \"1:a\"]\n[Auction \"E\"]\n1C! =1= ap\n[Note \"1:b\"]").auction
    ≡ some (record { dealer = 1; end = 0; before = 2; calls = call 1 "!=1=" ∷ call 0 "" ∷ call 0 "" ∷ call 0 "" ∷ [] })
unfolding plain
pin_auction = refl

-- A later auction with tokens starts behind more tags; one without leaves the earlier.
pin_auctions : (plain "[Auction \"E\"]\nX\n[Auction \"S\"]\n*\n[Auction \"W\"]\n").auction ≡ some (record { dealer = 2; end = 2; before = 2; calls = [] })
unfolding plain
pin_auctions = refl

pin_play : (plain "[Play \"W\"]\nSA S2 -\n+").play
    ≡ some (record { leader = 3; end = 1; tricks = record { leader = 3; winner = 4; slots = record { a = 51; b = 39; c = 255; d = 255 } } ∷ [] })
unfolding plain
pin_play = refl

-- ---- an edition

pin_boards : plain_boards built_in (ascii "[A \"b\"]\n\n[A \"c\"]\n") ≡ plain_of built_in (ascii "[A \"b\"]\n\n") ∷ plain_of built_in (ascii "[A \"c\"]\n") ∷ []
unfolding is_white trimmed trim_span trim_part bracket_of ends_quoted name_of is_quoted value_of is_comment comment_of tag_line data_bracket data_after split_of is_blank has_brace split_line bracket_line line_kind commentary_after scanned closes_record records_of plain_boards
pin_boards = refl

-- ---- what tags leave

-- An unparsed deal is kept though one that parses follows it; the hands are those of the last that parses.
abbrev deals : List TagPair
deals = pair "Deal" "N:2... - - -" ∷ pair "Deal" "N:x" ∷ pair "Deal" "E:..3. - - -" ∷ pair "Deal" " " ∷ []

pin_kept : last_kept built_in 4 deals ≡ some (ascii "N:x")
unfolding is_white trimmed built_in capital seat_of honour_of rank_of tag_names tag_number cards_named hands_after deal_of is_kept
pin_kept = refl

pin_hands : last_hands built_in deals ≡ some (record { north = 0; east = 2 ^ 14; south = 0; west = 0 })
unfolding is_white trimmed built_in capital seat_of honour_of rank_of tag_names tag_number cards_named hands_after deal_of
pin_hands = refl

-- ---- data lines

unfoldable data_lines : String → List Piece
unfolding is_white is_inside trimmed built_in capital seat_of suit_of honour_of rank_of digit_of digits_reading table_of_digits trim_span trim_part bracket_of ends_quoted name_of is_quoted value_of is_comment comment_of tag_line data_bracket data_after split_of is_blank has_brace split_line bracket_line line_kind level_of bid_code is_pass underscore_code sign_code call_of is_mark section_end is_all_pass card_number card_named is_doubling contract_trump is_no_side is_both_sides vulnerability_of tag_names tag_number cards_named hands_after deal_of hand_words call_token_of called called_piece weight best_slot opened is_gap played played_bytes played_piece last_trick commentary_after stops_at piece_of section_data walked no_walk walked_all identity_by deal_by table_by contract_by is_kept_value is_kept values_by applied open_by closed tagged tag_line_out blocked braced in_commentary line_out record_out
data_lines s = data_pieces (ascii s) (record_out built_in (ascii s)).entries

-- The entries of kind 5 name the pieces that the play of RecordPins is walked over; behind a tag that opens no section there are none.
pin_data_lines : data_lines "[Play \"W\"]SJ\nS2 S3\n;x\n{y\n}\n[Z]\nS4\n[B \"c\"]\nS5" ≡ piece 10 (ascii "SJ") ∷ piece 13 (ascii "S2 S3") ∷ piece 31 (ascii "S4") ∷ []
unfolding data_lines
pin_data_lines = refl
