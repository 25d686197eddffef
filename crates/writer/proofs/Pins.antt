-- Worked examples of written editions, by the built-in letters.
use Prim.Native.Nat.{ℕ}
use Prim.Native.String.{String}
use mathlib.Core.Path.{◌≡◌, refl}
use mathlib.Core.List.{List, ◌++◌}
use Rattle.tables.specs.Text.{ascii, is_white, is_inside, trimmed}
use Rattle.tables.specs.Numbers.{digits, decimal}
use Rattle.tables.specs.Letters.{built_in, capital, seat_of, suit_of, honour_of, rank_of}
use Rattle.tables.specs.Tables.{digit_of, digit_byte, digits_reading, table_of_digits, gathered}
use Rattle.reader.specs.Tag.{trim_span, trim_part, bracket_of, ends_quoted, name_of, is_quoted, value_of, is_comment, comment_of, tag_line, data_bracket, data_after, split_of, tag_text}
use Rattle.reader.specs.Lines.{is_blank, has_brace, split_line, bracket_line, line_kind}
use Rattle.reader.specs.Words.{level_of, bid_code, is_pass, underscore_code, sign_code, call_of, call_token, is_mark, section_end, is_all_pass, card_number, card_named, is_doubling, contract_trump, is_no_side, is_both_sides, vulnerability_of, vulnerability_token}
use Rattle.reader.specs.Names.{tag_names, tag_number}
use Rattle.reader.specs.Deals.{has, ones, cards_named, hands_after, deal_of, hand_words, hands_of_words, card_text, ranks_text, suit_text, hand_text, deal_text}
use Rattle.reader.specs.Auction.{call_token_of, called, called_piece}
use Rattle.reader.specs.Play.{weight, best_slot, opened, is_gap, played, played_bytes, played_piece, last_trick}
use Rattle.reader.specs.Sections.{commentary_after, stops_at, piece_of, section_data, walked, no_walk, walked_all}
use Rattle.reader.specs.Boards.{identity_by, deal_by, table_by, contract_by, is_kept_value, is_kept, values_by, applied, open_by, closed, tagged, tag_line_out, blocked, braced, in_commentary, line_out, record_out}
use Rattle.reader.specs.Records.{scanned, closes_record, records_of}
use Rattle.reader.specs.Plain.{item_of, plain_by, plain_of, plain_boards}
use Rattle.writer.specs.Sections.{end_lines, auction_lines, note_in, notes_from, note_values, play_lines}
use Rattle.writer.specs.Tags.{seat_text, result_text, is_extra, early_extras, late_extras, head_tags, table_tags, deal_tags, auction_tags, play_tags, written_tags}
use Rattle.writer.specs.Remarks.{directives_of, blocks_of, place_of, directives_after, blocks_after, leading_lines, body_lines, board_lines, line_text}
use Rattle.writer.specs.Pages.{built_in_header, first_part, next_part, written_text}

-- The page of a text.
unfoldable page : String → List ℕ
unfolding is_white is_inside trimmed digits decimal built_in capital seat_of suit_of honour_of rank_of digit_of digit_byte digits_reading table_of_digits gathered trim_span trim_part bracket_of ends_quoted name_of is_quoted value_of is_comment comment_of tag_line data_bracket data_after split_of tag_text is_blank has_brace split_line bracket_line line_kind level_of bid_code is_pass underscore_code sign_code call_of call_token is_mark section_end is_all_pass card_number card_named is_doubling contract_trump is_no_side is_both_sides vulnerability_of vulnerability_token tag_names tag_number has ones cards_named hands_after deal_of hand_words hands_of_words card_text ranks_text suit_text hand_text deal_text call_token_of called called_piece weight best_slot opened is_gap played played_bytes played_piece last_trick commentary_after stops_at piece_of section_data walked no_walk walked_all identity_by deal_by table_by contract_by is_kept_value is_kept values_by applied open_by closed tagged tag_line_out blocked braced in_commentary line_out record_out scanned closes_record records_of item_of plain_by plain_of plain_boards end_lines auction_lines note_in notes_from note_values play_lines seat_text result_text is_extra early_extras late_extras head_tags table_tags deal_tags auction_tags play_tags written_tags directives_of blocks_of place_of directives_after blocks_after leading_lines body_lines board_lines line_text built_in_header first_part next_part written_text
page s = written_text built_in (ascii s)

-- Lines of a board where nothing is on record: from Event to Date, the players and the vulnerability, from Declarer to Result.
abbrev pub head : List ℕ
head = ascii "[Event \"\"]\n[Site \"\"]\n[Date \"\"]\n"

abbrev pub names : List ℕ
names = ascii "[West \"\"]\n[North \"\"]\n[East \"\"]\n[South \"\"]\n"

abbrev pub tail : List ℕ
tail = ascii "[Scoring \"\"]\n[Declarer \"\"]\n[Contract \"\"]\n[Result \"\"]\n"

-- A board with no deal and no dealer, up to its deal.
abbrev pub up_to_deal : List ℕ
up_to_deal = head ++ (names ++ ascii "[Vulnerable \"None\"]\n[Deal \"N:- - - -\"]\n")

abbrev pub header_bytes : List ℕ
header_bytes = ascii "% PBN 2.1\n% EXPORT\n\n"

-- ---- the page

-- No boards: the 20 bytes of the header and the blank line.
pin_none : page "; c\n" ≡ header_bytes
unfolding page
pin_none = refl

-- The first board's directives before its first tag are the header; a block is none. An empty line before each other board.
pin_header : page "; h\n{b}\n[Event \"\"]\n\n; d\n{e}\n[Event \"\"]\n"
    ≡ ascii "; h\n\n{b}\n" ++ (up_to_deal ++ (tail ++ (ascii "\n; d\n{e}\n" ++ (up_to_deal ++ tail))))
unfolding page
pin_header = refl

pin_block_alone : page "{b}\n[Event \"\"]\n" ≡ header_bytes ++ (ascii "{b}\n" ++ (up_to_deal ++ tail))
unfolding page
pin_block_alone = refl

-- ---- tags

-- A repeated supplemental tag is written once, with its first value. One whose name stands before the first Deal tag is written before
-- the deal; Scoring never is, and is always written.
pin_extras : page "[X \"1\"]\n[Scoring \"IMP\"]\n[Deal \"\"]\n[Y \"2\"]\n[X \"3\"]\n[Scoring \"MP\"]\n"
    ≡ header_bytes ++ (head ++ (names ++ ascii "[Vulnerable \"None\"]\n[X \"1\"]\n[Deal \"N:- - - -\"]\n[Scoring \"IMP\"]\n[Declarer \"\"]\n[Contract \"\"]\n[Result \"\"]\n[Y \"2\"]\n"))
unfolding page
pin_extras = refl

-- Without a Deal tag no supplemental tag stands before the deal.
pin_no_deal : page "[X \"1\"]\n" ≡ header_bytes ++ (up_to_deal ++ (tail ++ ascii "[X \"1\"]\n"))
unfolding page
pin_no_deal = refl

-- The deal is written from the dealer's seat, from high to low; `...` is an empty hand. Values that are kept, and a bad one after them.
pin_deal : page "[Deal \"N:23... ... .A.. -\"]\n[Dealer \"south\"]\n[Board \"1-7\"]\n[Vulnerable \"both\"]\n[Event \"e\"]\n[Event \"\"]\n[Declarer \"w\"]\n[Contract \"4H\"]\n[Contract \"?\"]\n"
    ≡ header_bytes ++ (ascii "[Event \"e\"]\n[Site \"\"]\n[Date \"\"]\n[Board \"1-7\"]\n" ++ (names ++ ascii "[Dealer \"S\"]\n[Vulnerable \"All\"]\n[Deal \"S:.A.. - 32... -\"]\n[Scoring \"\"]\n[Declarer \"W\"]\n[Contract \"4H\"]\n[Result \"\"]\n"))
unfolding page
pin_deal = refl

-- A deal that did not parse is written as it was read.
pin_unparsed : page "[Deal \"N:23... - - -\"]\n[Deal \" x\"]\n"
    ≡ header_bytes ++ (head ++ (names ++ (ascii "[Vulnerable \"None\"]\n[Deal \" x\"]\n" ++ tail)))
unfolding page
pin_unparsed = refl

-- A table is written as digits, whichever tag it was read from. Results are decimal, with no sign but `-`.
pin_table : page "[DoubleDummyTricks \"0123456789ABCD012345\"]\n[Result \"-007\"]\n[ParContract \"\"]\n"
    ≡ header_bytes ++ (up_to_deal ++ ascii "[Scoring \"\"]\n[Declarer \"\"]\n[Contract \"\"]\n[Result \"-7\"]\n[DoubleDummyTricks \"0123456789abcd012345\"]\n[ParContract \"\"]\n")
unfolding page
pin_table = refl

-- ---- sections

-- Four calls a line, each with its annotations; the end on a line of its own.
pin_auction : page "[Auction \"e\"]\np 1n =1= ! x\nxx ap\n[Play \"N\"]\n"
    ≡ header_bytes ++ (up_to_deal ++ (tail ++ ascii "[Auction \"E\"]\nPass 1NT=1=! X XX\nPass Pass Pass\n"))
unfolding page
pin_auction = refl

pin_end : page "[Auction \"N\"]\n+ p\n" ≡ header_bytes ++ (up_to_deal ++ (tail ++ ascii "[Auction \"N\"]\n+ Pass\n+\n"))
unfolding page
pin_end = refl

-- `+ *` ends with `*` and writes no mark, since the last call is `+`.
pin_continued : page "[Auction \"N\"]\n+! *\n" ≡ header_bytes ++ (up_to_deal ++ (tail ++ ascii "[Auction \"N\"]\n+!\n"))
unfolding page
pin_continued = refl

-- Notes by number, the last of a number; those of an earlier auction are gone.
pin_notes : page "[Auction \"N\"]\np\n[Note \"3:c\"]\n[Auction \"N\"]\np\n[Note \" 2 :b\"]\n[Note \"+01:a:\"]\n[Note \"2:d\"]\n[Note \"256:e\"]\n[Note \"7\"]\n"
    ≡ header_bytes ++ (up_to_deal ++ (tail ++ ascii "[Auction \"N\"]\nPass\n[Note \"1:a:\"]\n[Note \"2:d\"]\n"))
unfolding page
pin_notes = refl

-- Each trick from its own leader and without gaps; a trick without cards has no line.
pin_play : page "[Play \"N\"]\nS2 S3 S4 S5\nH2 H3 - H5\n*\n"
    ≡ header_bytes ++ (up_to_deal ++ (tail ++ ascii "[Play \"N\"]\nS2 S3 S4 S5\nH5 H2 H3\n*\n"))
unfolding page
pin_play = refl

-- ---- directives and commentary

-- A directive goes after the first written tag of the name and value of the tag before it, else of that name, else to the end. Only Note is
-- written more than once. The value counts as it is written: `01:a` is written `1:a`.
pin_note_own : page "[Auction \"N\"]\n1C\n[Note \"1:a\"]\n;c\n[Note \"2:b\"]\n" ≡ header_bytes ++ (up_to_deal ++ (tail ++ ascii "[Auction \"N\"]\n1C\n[Note \"1:a\"]\n;c\n[Note \"2:b\"]\n"))
unfolding page
pin_note_own = refl

pin_note_second : page "[Auction \"N\"]\n1C\n[Note \"1:a\"]\n[Note \"2:b\"]\n;c\n" ≡ header_bytes ++ (up_to_deal ++ (tail ++ ascii "[Auction \"N\"]\n1C\n[Note \"1:a\"]\n[Note \"2:b\"]\n;c\n"))
unfolding page
pin_note_second = refl

pin_note_sorted : page "[Auction \"N\"]\n1C\n[Note \"2:b\"]\n;c\n[Note \"1:a\"]\n" ≡ header_bytes ++ (up_to_deal ++ (tail ++ ascii "[Auction \"N\"]\n1C\n[Note \"1:a\"]\n[Note \"2:b\"]\n;c\n"))
unfolding page
pin_note_sorted = refl

pin_note_zeros : page "[Auction \"N\"]\n1C\n[Note \"01:a\"]\n;c\n[Note \"0:z\"]\n" ≡ header_bytes ++ (up_to_deal ++ (tail ++ ascii "[Auction \"N\"]\n1C\n[Note \"0:z\"]\n;c\n[Note \"1:a\"]\n"))
unfolding page
pin_note_zeros = refl

pin_note_replaced : page "[Auction \"N\"]\n1C\n[Note \"1:a\"]\n;c\n[Note \"1:b\"]\n[Note \"2:d\"]\n" ≡ header_bytes ++ (up_to_deal ++ (tail ++ ascii "[Auction \"N\"]\n1C\n[Note \"1:b\"]\n;c\n[Note \"2:d\"]\n"))
unfolding page
pin_note_replaced = refl

pin_note_both : page "[Auction \"N\"]\n1C\n[Note \"1:a\"]\n;p\n[Note \"2:b\"]\n;q\n[Note \"1:d\"]\n" ≡ header_bytes ++ (up_to_deal ++ (tail ++ ascii "[Auction \"N\"]\n1C\n[Note \"1:d\"]\n;p\n[Note \"2:b\"]\n;q\n"))
unfolding page
pin_note_both = refl

pin_note_order : page "[Auction \"N\"]\n1C\n[Note \"9\"]\n;p\n[Note \"1:a\"]\n;q\n[Note \"2:b\"]\n" ≡ header_bytes ++ (up_to_deal ++ (tail ++ ascii "[Auction \"N\"]\n1C\n[Note \"1:a\"]\n;p\n;q\n[Note \"2:b\"]\n"))
unfolding page
pin_note_order = refl

pin_note_block : page "[Auction \"N\"]\n1C\n[Note \"1:a\"]\n[Note \"2:b\"]\n{x}\n;c\n" ≡ header_bytes ++ (up_to_deal ++ (tail ++ ascii "[Auction \"N\"]\n1C\n[Note \"1:a\"]\n{x}\n[Note \"2:b\"]\n;c\n"))
unfolding page
pin_note_block = refl

pin_note_behind : page "[Auction \"N\"]\n1C\n[Note \"1:a\"] ;c\n[Note \"2:b\"] {d}\n" ≡ header_bytes ++ (up_to_deal ++ (tail ++ ascii "[Auction \"N\"]\n1C\n[Note \"1:a\"]\n;c\n[Note \"2:b\"]\n{d}\n"))
unfolding page
pin_note_behind = refl

-- Read from that page, `{d}` is a block, and goes after the first Note.
pin_note_braces : page "[Auction \"N\"]\n1C\n[Note \"1:a\"]\n;c\n[Note \"2:b\"]\n{d}\n"
    ≡ header_bytes ++ (up_to_deal ++ (tail ++ ascii "[Auction \"N\"]\n1C\n[Note \"1:a\"]\n;c\n{d}\n[Note \"2:b\"]\n"))
unfolding page
pin_note_braces = refl

-- A later tag of that name and value; the notes of another auction; a section's directives after its data.
pin_note_later : page "[Note \"2:b\"]\n;p\n[Auction \"N\"]\n1C\n[Note \"1:a\"]\n[Note \"2:b\"]\n" ≡ header_bytes ++ (up_to_deal ++ (tail ++ ascii "[Auction \"N\"]\n1C\n[Note \"1:a\"]\n[Note \"2:b\"]\n;p\n"))
unfolding page
pin_note_later = refl

pin_note_auction : page "[Auction \"N\"]\n1C\n[Note \"1:a\"]\n;c\n[Auction \"E\"]\n1D\n[Note \"2:b\"]\n[Note \"3:d\"]\n" ≡ header_bytes ++ (up_to_deal ++ (tail ++ ascii "[Auction \"E\"]\n1D\n[Note \"2:b\"]\n;c\n[Note \"3:d\"]\n"))
unfolding page
pin_note_auction = refl

pin_note_section : page "[Auction \"N\"]\n1C\n;e\n[Note \"1:a\"]\n;c\n[Play \"N\"]\nSA\n;f\n[Note \"2:b\"]\n;g\n" ≡ header_bytes ++ (up_to_deal ++ (tail ++ ascii "[Auction \"N\"]\n1C\n;e\n[Note \"1:a\"]\n;c\n[Note \"2:b\"]\n;g\n[Play \"N\"]\nSA\n;f\n"))
unfolding page
pin_note_section = refl

pin_note_none : page "[Note \"2:b\"]\n;c\n[Note \"1:a\"]\n;d\n" ≡ header_bytes ++ (up_to_deal ++ (tail ++ ascii ";c\n;d\n"))
unfolding page
pin_note_none = refl

pin_note_table : page "[OptimumResultTable \"\"]\n;c\n{b}\n" ≡ header_bytes ++ (up_to_deal ++ (tail ++ ascii "{b}\n;c\n"))
unfolding page
pin_note_table = refl

pin_note_repeated : page "[X \"1\"]\n[X \"2\"]\n;c\n" ≡ header_bytes ++ (up_to_deal ++ (tail ++ ascii "[X \"1\"]\n;c\n"))
unfolding page
pin_note_repeated = refl

pin_note_event : page "[Event \"a\"]\n;c\n[Event \"b\"]\n;d\n"
    ≡ header_bytes ++ (ascii "[Event \"b\"]\n;c\n;d\n[Site \"\"]\n[Date \"\"]\n" ++ (names ++ (ascii "[Vulnerable \"None\"]\n[Deal \"N:- - - -\"]\n" ++ tail)))
unfolding page
pin_note_event = refl

-- After a section's data. What is anchored to a tag that is not written goes to the end: blocks, then directives.
pin_remarks : page "[Dealer \"?\"]\n; a\n{b}\n[Play \"N\"] ; c\nSA\n{d\r\n}\n% e\n"
    ≡ header_bytes ++ (up_to_deal ++ (tail ++ ascii "[Play \"N\"]\nSA\n; c\n% e\n{d\n}\n{b}\n; a\n"))
unfolding page
pin_remarks = refl
