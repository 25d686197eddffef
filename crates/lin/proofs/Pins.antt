-- Worked examples of converted texts, by the built-in letters.
use Prim.Native.Nat.{ℕ}
use Prim.Native.String.{String}
use mathlib.Core.Path.{◌≡◌, refl}
use mathlib.Core.Bool.{Bool, false}
use mathlib.Core.List.{List, ◌++◌}
use Rattle.tables.specs.Text.{ascii, is_white, is_inside, trimmed}
use Rattle.tables.specs.Letters.{built_in, capital, seat_of, suit_of, honour_of, rank_of}
use Rattle.reader.specs.Tag.{tag_text}
use Rattle.reader.specs.Words.{level_of, bid_code, is_pass, underscore_code, sign_code, call_of, call_token, card_number, card_named, vulnerability_token}
use Rattle.reader.specs.Names.{tag_names, tag_number}
use Rattle.reader.specs.Deals.{has, hand_words, hands_of_words, card_text, ranks_text, suit_text, hand_text, deal_text}
use Rattle.reader.specs.Play.{weight, best_slot}
use Rattle.writer.specs.Sections.{end_lines, auction_lines, note_in, notes_from, note_values, play_lines}
use Rattle.writer.specs.Tags.{seat_text, result_text, is_extra, early_extras, late_extras, head_tags, table_tags, deal_tags, auction_tags, play_tags, written_tags}
use Rattle.writer.specs.Remarks.{directives_of, blocks_of, directives_after, blocks_after, leading_lines, body_lines, line_text}
use Rattle.writer.specs.Pages.{built_in_header}
use Rattle.lin.specs.Pairs.{command_of, pairs_of}
use Rattle.lin.specs.Pieces.{board_pieces}
use Rattle.lin.specs.Dealing.{dealer_of, hand_of, unheld, east_of}
use Rattle.lin.specs.Bidding.{vulnerability_in, call_named, call_in, with_call, names, declarer_of}
use Rattle.lin.specs.Playing.{card_in, slot_at, slot_word}
use Rattle.lin.specs.LinBoards.{board_of, lin_boards, contract_of, declarer_in, lin_tricks, lin_plain, lin_play, lin_lines, lin_text}
use Rattle.lin.specs.Conversions.{gives_deals}

-- The page of a text, and whether it gives deals.
unfoldable page : List ℕ → List ℕ
unfolding is_white is_inside trimmed built_in capital seat_of suit_of honour_of rank_of tag_text level_of bid_code is_pass underscore_code sign_code call_of call_token card_number card_named vulnerability_token tag_names tag_number has hand_words hands_of_words card_text ranks_text suit_text hand_text deal_text weight best_slot end_lines auction_lines note_in notes_from note_values play_lines seat_text result_text is_extra early_extras late_extras head_tags table_tags deal_tags auction_tags play_tags written_tags directives_of blocks_of directives_after blocks_after leading_lines body_lines line_text built_in_header command_of pairs_of board_pieces dealer_of hand_of unheld east_of vulnerability_in call_named call_in with_call names declarer_of card_in slot_at slot_word board_of lin_boards contract_of declarer_in lin_tricks lin_plain lin_play lin_lines lin_text
page s = lin_text built_in s

unfoldable deals : List ℕ → Bool
unfolding is_white is_inside trimmed built_in capital suit_of honour_of rank_of level_of bid_code is_pass underscore_code sign_code call_of card_number card_named command_of pairs_of board_pieces dealer_of hand_of unheld east_of vulnerability_in call_named call_in card_in board_of lin_boards
deals s = gives_deals (lin_boards built_in s)

-- Lines of a board: up to the dealer; its dealer, vulnerability and deal; its declarer and contract; the rest.
abbrev header : List ℕ
header = ascii "% PBN 2.1\n% EXPORT\n\n"

abbrev players : List ℕ
players = ascii "[Event \"\"]\n[Site \"\"]\n[Date \"\"]\n[West \"\"]\n[North \"\"]\n[East \"\"]\n[South \"\"]\n"

abbrev board : String → String → String → String → String → List ℕ
board dealer sides deal declarer contract =
    players
    ++ (ascii "[Dealer \"" ++ (ascii dealer
    ++ (ascii "\"]\n[Vulnerable \"" ++ (ascii sides
    ++ (ascii "\"]\n[Deal \"" ++ (ascii deal
    ++ (ascii "\"]\n[Scoring \"\"]\n[Declarer \"" ++ (ascii declarer
    ++ (ascii "\"]\n[Contract \"" ++ (ascii contract ++ ascii "\"]\n[Result \"\"]\n"))))))))))

-- ---- deals

pin_plain : page (ascii "md|3SA|") ≡ header ++ board "N" "None" "N:- - A... -" "" ""
unfolding page
pin_plain = refl

pin_fourth : page (ascii "md|1SAKQJT98765432,HAKQJT98765432,DAKQJT98765432, |") ≡ header ++ board "S" "None" "S:AKQJT98765432... .AKQJT98765432.. ..AKQJT98765432. ...AKQJT98765432" "" ""
unfolding page
pin_fourth = refl

pin_auction : page (ascii "MD|3sa|Sv| Ns |mb|1C|mb|p|mb|1N!|an|weak|mb|d|mb|r|mb|p|mb|p|mb|p|")
    ≡ header ++ (board "N" "NS" "N:- - A... -" "S" "1NTXX" ++ ascii "[Auction \"N\"]\n1C Pass 1NT X\nXX Pass Pass Pass\n")
unfolding page
pin_auction = refl

pin_play : page (ascii "md|3SA|mb|1H|pc|D2|pc|H2|pc|SA!|pc|S10|pc|D6|pc| d5 |pc|CA|")
    ≡ header ++ (board "N" "None" "N:- - A... -" "N" "1H" ++ ascii "[Auction \"N\"]\n1H\n[Play \"E\"]\nD2 H2 D6 D5\n- CA - -\n")
unfolding page
pin_play = refl

pin_lines : page (ascii "md|3SA|\n\n \nmd|1HA|\r\n") ≡ header ++ (board "N" "None" "N:- - A... -" "" "" ++ (ascii "\n" ++ board "S" "None" "S:.A.. - - -" "" ""))
unfolding page
pin_lines = refl

pin_qx : page (ascii "vg|x|\nqx|o1|md|3SA|\nmn|t|pn|a,b|qx|o2|md|1HA|") ≡ header ++ (board "N" "None" "N:- - A... -" "" "" ++ (ascii "\n" ++ board "S" "None" "S:.A.. - - -" "" ""))
unfolding page
pin_qx = refl

pin_twice : deals (ascii "md|1SAA|") ≡ false
unfolding deals
pin_twice = refl
