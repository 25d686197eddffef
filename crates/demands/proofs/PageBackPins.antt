-- Worked examples of directives and blocks read back, by the built-in letters.
use Prim.Native.String.{String}
use mathlib.Core.Path.{◌≡◌, refl}
use mathlib.Core.List.{List, [], ◌∷◌}
use mathlib.Core.Option.{Option, none, some}
use Rattle.tables.specs.Text.{ascii, is_white, is_inside, trimmed}
use Rattle.tables.specs.Numbers.{digits, decimal}
use Rattle.tables.specs.Letters.{built_in, capital, seat_of, suit_of, honour_of, rank_of}
use Rattle.tables.specs.Tables.{digit_of, digit_byte, digits_reading, table_of_digits}
use Rattle.reader.specs.Tag.{trim_span, trim_part, bracket_of, ends_quoted, name_of, is_quoted, value_of, is_comment, comment_of, tag_line, data_bracket, data_after, split_of, tag_text}
use Rattle.reader.specs.Lines.{is_blank, has_brace, split_line, bracket_line, line_kind}
use Rattle.reader.specs.Words.{level_of, bid_code, is_pass, underscore_code, sign_code, call_of, call_token, is_mark, section_end, is_all_pass, card_number, card_named, is_doubling, contract_trump, is_no_side, is_both_sides, vulnerability_of, vulnerability_token}
use Rattle.reader.specs.Names.{tag_names, tag_number}
use Rattle.reader.specs.Deals.{has, ones, cards_named, hands_after, deal_of, hand_words, hands_of_words, card_text, ranks_text, suit_text, hand_text, deal_text}
use Rattle.reader.specs.Auction.{call_token_of, called, called_piece}
use Rattle.reader.specs.Play.{weight, best_slot, opened, is_gap, played, played_bytes, played_piece, last_trick}
use Rattle.reader.specs.Sections.{commentary_after, stops_at, piece_of, section_data, walked, no_walk, walked_all}
use Rattle.reader.specs.Boards.{identity_by, deal_by, table_by, contract_by, is_kept_value, is_kept, values_by, applied, open_by, closed, tagged, tag_line_out, blocked, braced, in_commentary, line_out, record_out}
use Rattle.reader.specs.Records.{scanned, closes_record, records_of}
use Rattle.reader.specs.Plain.{TagPair, item_of, plain_by, plain_of, plain_boards}
use Rattle.writer.specs.Sections.{end_lines, auction_lines, note_in, notes_from, note_values, play_lines}
use Rattle.writer.specs.Tags.{seat_text, result_text, is_extra, early_extras, late_extras, head_tags, table_tags, deal_tags, auction_tags, play_tags, written_tags}
use Rattle.writer.specs.Remarks.{directives_of, blocks_of, place_of, directives_after, blocks_after, leading_lines, body_lines, board_lines, line_text}
use Rattle.writer.specs.Pages.{built_in_header, first_part, next_part, written_text}
use Rattle.demands.specs.PageBack.{AnchoredBytes, Texts, as_directives, as_blocks, page_back}

abbrev anchor_to : String → String → Option TagPair
anchor_to n v = some (record { name = ascii n; value = ascii v })

-- What the directives, or the blocks, of a text are once its edition is written and read back, board by board.
unfoldable back : Texts → String → List (List AnchoredBytes)
unfolding is_white is_inside trimmed digits decimal built_in capital seat_of suit_of honour_of rank_of digit_of digit_byte digits_reading table_of_digits trim_span trim_part bracket_of ends_quoted name_of is_quoted value_of is_comment comment_of tag_line data_bracket data_after split_of tag_text is_blank has_brace split_line bracket_line line_kind level_of bid_code is_pass underscore_code sign_code call_of call_token is_mark section_end is_all_pass card_number card_named is_doubling contract_trump is_no_side is_both_sides vulnerability_of vulnerability_token tag_names tag_number has ones cards_named hands_after deal_of hand_words hands_of_words card_text ranks_text suit_text hand_text deal_text call_token_of called called_piece weight best_slot opened is_gap played played_bytes played_piece last_trick commentary_after stops_at piece_of section_data walked no_walk walked_all identity_by deal_by table_by contract_by is_kept_value is_kept values_by applied open_by closed tagged tag_line_out blocked braced in_commentary line_out record_out scanned closes_record records_of item_of plain_by plain_of plain_boards end_lines auction_lines note_in notes_from note_values play_lines seat_text result_text is_extra early_extras late_extras head_tags table_tags deal_tags auction_tags play_tags written_tags directives_of blocks_of directives_after blocks_after leading_lines body_lines board_lines line_text place_of built_in_header first_part next_part written_text
back t s = page_back t built_in (plain_boards built_in (ascii s))

-- Before any tag, and under its own tag; an edition of two boards.
pin_places : back as_directives "; h\n[Event \"a\"]\n% a\n\n[X \"\"]\n; x \n"
    ≡ ((ascii "; h", none) ∷ (ascii "% a", anchor_to "Event" "a") ∷ []) ∷ ((ascii "; x", anchor_to "X" "") ∷ []) ∷ []
unfolding back
pin_places = refl

-- `{c}` behind a tag reads back as a block under it, before the blocks that stood there. A CR before an LF is dropped.
pin_comment : back as_directives "; h\n[Site \"\"] {c}\n; s\n" ≡ ((ascii "; h", none) ∷ (ascii "; s", anchor_to "Site" "") ∷ []) ∷ []
unfolding back
pin_comment = refl

pin_blocks : back as_blocks "{a}\n[Site \"\"]\n{b\r\n\n}\n[Site \"\"] {c}\n" ≡ ((ascii "a", none) ∷ (ascii "c", anchor_to "Site" "") ∷ (ascii "b\n\n", anchor_to "Site" "") ∷ []) ∷ []
unfolding back
pin_blocks = refl

-- Under Result, the last written tag, where its own is not written: a table that was not read.
pin_lost : back as_directives "; h\n[DoubleDummyTricks \"\"]\n; z\n" ≡ ((ascii "; h", none) ∷ (ascii "; z", anchor_to "Result" "") ∷ []) ∷ []
unfolding back
pin_lost = refl

-- A directive after a Note follows the Note of its value. The built-in header has two of its own.
pin_notes : back as_directives "[Auction \"N\"]\nPass\n[Note \"2:b\"]\n; n\n[Note \"1:a\"]\n"
    ≡ ((ascii "% PBN 2.1", none) ∷ (ascii "% EXPORT", none) ∷ (ascii "; n", anchor_to "Note" "2:b") ∷ []) ∷ []
unfolding back
pin_notes = refl

-- It follows the first Note where its own is not written, or not as it was read: 2:b gives way to 2:d, and 02:e is written 2:e.
pin_replaced : back as_directives "; h\n[Auction \"N\"]\nPass\n[Note \"2:b\"]\n; n\n[Note \"1:a\"]\n[Note \"2:d\"]\n"
    ≡ ((ascii "; h", none) ∷ (ascii "; n", anchor_to "Note" "1:a") ∷ []) ∷ []
unfolding back
pin_replaced = refl

pin_numbered : back as_directives "; h\n[Auction \"N\"]\nPass\n[Note \"02:e\"]\n; n\n[Note \"1:a\"]\n"
    ≡ ((ascii "; h", none) ∷ (ascii "; n", anchor_to "Note" "1:a") ∷ []) ∷ []
unfolding back
pin_numbered = refl

-- A Note before the auction is not written; one of its value behind it is. A block follows the first Note all the same.
pin_later : back as_directives "; h\n[Note \"2:b\"]\n; n\n{k}\n[Auction \"N\"]\nPass\n[Note \"1:a\"]\n[Note \"2:b\"]\n"
    ≡ ((ascii "; h", none) ∷ (ascii "; n", anchor_to "Note" "2:b") ∷ []) ∷ []
unfolding back
pin_later = refl

pin_block : back as_blocks "; h\n[Note \"2:b\"]\n; n\n{k}\n[Auction \"N\"]\nPass\n[Note \"1:a\"]\n[Note \"2:b\"]\n" ≡ ((ascii "k", anchor_to "Note" "1:a") ∷ []) ∷ []
unfolding back
pin_block = refl

-- At one place they stand in the order met.
pin_met : back as_directives "; h\n[Auction \"N\"]\nPass\n[Note \"9\"]\n; p\n[Note \"1:a\"]\n; q\n[Note \"2:b\"]\n"
    ≡ ((ascii "; h", none) ∷ (ascii "; p", anchor_to "Note" "1:a") ∷ (ascii "; q", anchor_to "Note" "1:a") ∷ []) ∷ []
unfolding back
pin_met = refl
