-- The worked LIN text: its boards and its page, by computing; it is converted, and its page is read.
use Prim.Native.Nat.{ℕ, ◌*◌}
use mathlib.Core.Path.{◌≡◌, refl, ap}
use mathlib.Core.List.{[], ◌∷◌}
use native.Mathlib.Omega.{arith}
use lib.ListN.{length, get_or, length-replicate}
use lib.Seq.{take_all}
use Rattle.std.specs.Prelude.{Ok}
use Rattle.tables.specs.Text.{is_white, trimmed, is_inside}
use Rattle.tables.specs.Letters.{built_in, capital, suit_of, honour_of, rank_of}
use Rattle.tables.proofs.LetterLaws.{built_in_accepted}
use Rattle.reader.specs.Words.{level_of, bid_code, is_pass, underscore_code, sign_code, call_of, call_token, vulnerability_token, card_number, card_named}
use Rattle.reader.specs.Deals.{has, card_text, ranks_text, suit_text, hand_text, deal_text, hand_words, hands_of_words}
use Rattle.reader.specs.Records.{records_of}
use Rattle.reader.specs.Editions.{cards_of, entries_of}
use Rattle.reader.specs.Play.{weight, best_slot}
use Rattle.reader.specs.Tag.{tag_text}
use Rattle.planning.specs.Demands.{ListedIn}
use Rattle.writer.specs.Tags.{seat_text, result_text, early_extras, late_extras, head_tags, table_tags, deal_tags, auction_tags, play_tags, written_tags}
use Rattle.writer.specs.Sections.{end_lines, auction_lines, notes_from, note_values}
use Rattle.writer.specs.Remarks.{directives_of, blocks_of, directives_after, blocks_after, body_lines, line_text}
use Rattle.writer.specs.Pages.{built_in_header}
use Rattle.lin.specs.Pairs.{command_of, pairs_of}
use Rattle.lin.specs.Pieces.{board_pieces}
use Rattle.lin.specs.Dealing.{dealt_hands, dealer_of, hand_of, unheld, east_of}
use Rattle.lin.specs.Bidding.{vulnerability_in, call_named, call_in, with_call, names, declarer_of}
use Rattle.lin.specs.Playing.{card_in, slot_at, slot_word}
use Rattle.lin.specs.LinBoards.{board_of, lin_boards, contract_of, declarer_in, lin_tricks, lin_plain, lin_play, lin_lines, lin_page, lin_text}
use Rattle.lin.specs.Conversions.{converted_of}
use Rattle.golavimes.specs.Answers.{EditionOut, PlanOut, LinOut}
use Rattle.demands.specs.Demand1.{boards_in, entries_in, solve_in}
use Rattle.demands.specs.Demand3.{IsTaken, finished_part}
use Rattle.demands.specs.Boards.{by_read}
use Rattle.demands.specs.Lin.{calls_held, cards_held, AllKept, Thirteen, dealing_at}
use Rattle.demands.specs.WorkedLin.{worked_text, worked_boards, worked_page, empty_page, lin_answer', lin_cards, lin_entries, lin_cards', lin_entries', lin_read_answer', lin_boxes, lin_slips, lin_boxes', lin_slips', lin_plan_answer', WorkedLin}
use Rattle.demands.proofs.LinKept.{PageCount, lin_told, lin_kept}
use Rattle.demands.proofs.LinPlanned.{lin_listed}
use Rattle.demands.proofs.WorkedFinished.{read_out, plan_out}

boards_are : lin_boards built_in worked_text ≡ worked_boards
unfolding is_white trimmed is_inside built_in capital suit_of honour_of rank_of level_of bid_code is_pass underscore_code sign_code call_of call_token card_number card_named command_of pairs_of board_pieces dealer_of hand_of unheld east_of vulnerability_in call_named call_in card_in board_of lin_boards
boards_are = refl

page_is : lin_page built_in worked_boards ≡ worked_page
unfolding built_in call_token vulnerability_token has card_text ranks_text suit_text hand_text deal_text hand_words hands_of_words weight best_slot seat_text result_text early_extras late_extras head_tags table_tags deal_tags auction_tags play_tags written_tags end_lines auction_lines notes_from note_values directives_of blocks_of directives_after blocks_after body_lines line_text built_in_header with_call names declarer_of slot_at slot_word contract_of declarer_in lin_tricks lin_plain lin_play lin_lines tag_text
page_is = refl

text_is : lin_text built_in worked_text ≡ worked_page
unfolding lin_text
text_is = rw boards_are page_is

-- ---- it is converted

converted_is : converted_of built_in worked_text (length empty_page) ≡ Ok (record { bytes = length worked_page; boards = 2 })
unfolding converted_of
converted_is = rw (text_is, boards_are)

out : LinOut built_in worked_text empty_page worked_page lin_answer' 0
out =
    record {
      told = rw converted_is;
      lent_after = record { answer = refl; page_left = rw (converted_is, text_is) };
      returned = refl;
    }

part : finished_part worked_page lin_answer' ≡ worked_page
part = take_all (length worked_page) worked_page (omega arith)

-- ---- its page is read

two : boards_in built_in worked_page ≡ 2
two = rw page_is at (PageCount built_in built_in_accepted worked_boards (rw boards_are at (lin_told built_in worked_text empty_page worked_page lin_answer' out).all_well))

is_taken_lem : IsTaken built_in worked_page lin_cards lin_entries
is_taken_lem =
    record {
      not_overlong = λ h. omega arith;
      box_not_full = λ h. omega (arith, two);
      list_not_full = λ h. omega (arith, length-replicate {A = ℕ} (4 * entries_in built_in worked_page) 0);
    }

read : EditionOut built_in worked_page lin_cards lin_entries lin_cards' lin_entries' lin_read_answer' 0
read = rw (two, length-replicate {A = ℕ} (4 * entries_in built_in worked_page) 0) at (read_out built_in worked_page lin_cards lin_entries is_taken_lem)

-- ---- it is planned

no_cards : cards_of built_in [] ≡ []
unfolding cards_of records_of
no_cards = refl

no_entries : entries_of built_in [] ≡ []
unfolding entries_of records_of
no_entries = refl

none_taken : IsTaken built_in [] [] []
none_taken = record { not_overlong = λ h. omega arith; box_not_full = λ h. omega (arith, ap length no_cards); list_not_full = λ h. omega (arith, ap length no_entries) }

planned : PlanOut built_in [] worked_page lin_boxes lin_slips lin_boxes' lin_slips' lin_plan_answer' 0
planned =
    rw (
      length-replicate {A = ℕ} (4 * entries_in built_in worked_page) 0,
      length-replicate {A = ℕ} (5 * solve_in built_in [] worked_page) 0,
    ) at
    (plan_out built_in [] worked_page lin_boxes lin_slips
    (record { old_taken = none_taken; new_taken = is_taken_lem; slips_enough = λ h. omega (arith, length-replicate {A = ℕ} (5 * solve_in built_in [] worked_page) 0) }))

whole : Thirteen (dealing_at built_in worked_text 0)
whole = rw (boards_are, dealing_at) (record { north = refl; east = refl; south = refl; west = refl })

pub worked_lin : WorkedLin
worked_lin = record { boards_are = boards_are; out = out; part = part; read = read; planned = planned; whole = whole }

-- ---- so the words handed back hold both boards

pub worked_kept : AllKept built_in worked_boards 2 worked_page lin_cards' lin_entries'
worked_kept =
    rw (boards_are, part) at
    (lin_kept built_in built_in_accepted worked_text empty_page worked_page lin_answer' out lin_cards' lin_entries' (rw part (by_read read)))

pub worked_calls : calls_held lin_cards' lin_entries' 0 ≡ 4 ∷ 0 ∷ 0 ∷ 0 ∷ []
worked_calls = (worked_kept.each 0 (omega arith)).calls

pub worked_cards : cards_held lin_cards' lin_entries' 0 ≡ 38 ∷ 13 ∷ 0 ∷ 39 ∷ 51 ∷ []
unfolding contract_of with_call
worked_cards = (worked_kept.each 0 (omega arith)).played refl

-- ---- and the deal of the first is listed

pub worked_listed : ListedIn (dealt_hands (dealing_at built_in worked_text 0)) (get_or lin_plan_answer' 9 0) lin_slips'
worked_listed =
    (lin_listed built_in built_in_accepted worked_text empty_page worked_page lin_answer' out [] lin_boxes lin_slips lin_boxes' lin_slips' lin_plan_answer' (rw part planned)
    0 (rw boards_are (omega arith)) whole).1 (rw no_cards (λ x a t. elim a [ ]))
