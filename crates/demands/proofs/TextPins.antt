-- The listing's example from its texts: the cards, the states and the slips.
use Prim.Native.Nat.{ℕ}
use mathlib.Core.Path.{◌≡◌, refl}
use mathlib.Core.List.{List, [], ◌∷◌, ◌++◌, map}
use lib.ListN.{replicate}
use Rattle.reader.specs.declared.deal.Hands.{Hands}
use Rattle.tables.specs.Text.{ascii, is_white, is_inside, trimmed}
use Rattle.tables.specs.Letters.{built_in, capital, seat_of, suit_of, honour_of, rank_of}
use Rattle.tables.specs.Tables.{digit_of, digits_reading, table_of_digits}
use Rattle.reader.specs.Tag.{trim_span, trim_part, bracket_of, ends_quoted, name_of, is_quoted, value_of, is_comment, comment_of, tag_line, data_bracket, data_after, split_of}
use Rattle.reader.specs.Lines.{is_blank, has_brace, split_line, bracket_line, line_kind}
use Rattle.reader.specs.Names.{tag_names, tag_number}
use Rattle.reader.specs.Sections.{commentary_after}
use Rattle.reader.specs.Deals.{ones, card_count, whole_hands, cards_named, hands_after, hand_words, hands_of_words}
use Rattle.reader.specs.Deals.{deal_of as deal_in}
use Rattle.reader.specs.Boards.{identity_by, deal_by, table_by, contract_by, is_kept_value, is_kept, values_by, applied, open_by, closed, tagged, tag_line_out, line_out, record_out}
use Rattle.reader.specs.Records.{scanned, closes_record, records_of}
use Rattle.reader.specs.Editions.{card_words, cards_of}
use Rattle.planning.specs.declared.state.BoardState.TheVariants.{Blank, Old, Twin, Solve}
use Rattle.planning.specs.Cards.{card_deal, is_whole, has_table, has_deal, fits}
use Rattle.planning.specs.States.{BoardPlan, first_with, state_of, board_plans}
use Rattle.planning.specs.Slips.{slip_of, slips_of}
use Rattle.planning.specs.Plans.{plans_of}

abbrev deal_a_tag : List ℕ
deal_a_tag = ascii "[Deal \"N:AKQJT98765432... .AKQJT98765432.. ..AKQJT98765432. ...AKQJT98765432\"]\n"

abbrev deal_b_tag : List ℕ
deal_b_tag = ascii "[Deal \"E:AKQJT98765432... .AKQJT98765432.. ..AKQJT98765432. ...AKQJT98765432\"]\n"

abbrev old : List ℕ
old = deal_a_tag ++ ascii "[DoubleDummyTricks \"00000000000000000000\"]\n"

abbrev new : List ℕ
new = deal_a_tag ++ ascii "\n" ++ deal_b_tag ++ ascii "\n" ++ deal_b_tag ++ ascii "\n[Event \"x\"]\n"

-- ---- the cards

-- A card with the entries before it and its own, word 9, the hands, word 38, the event's entry, and a record from start to end.
abbrev card : ℕ → ℕ → ℕ → Hands → ℕ → ℕ → ℕ → ℕ → List ℕ
card n count kind h table event start end =
    (n ∷ count ∷ 0 ∷ 0 ∷ 4 ∷ 0 ∷ 4 ∷ 0 ∷ 0 ∷ kind ∷ hand_words h)
    ++ (replicate 20 0
    ++ ((table ∷ 0 ∷ event ∷ replicate 10 0)
    ++ (0 ∷ 0 ∷ 4 ∷ 0 ∷ 0 ∷ 0 ∷ 4 ∷ 0 ∷ 4 ∷ start ∷ end ∷ 0 ∷ 0 ∷ [])))

abbrev a : Hands
a = record { north = 4503049871556608; east = 549688705024; south = 67100672; west = 8191 }

abbrev b : Hands
b = record { north = 8191; east = 4503049871556608; south = 549688705024; west = 67100672 }

abbrev none : Hands
none = record { north = 0; east = 0; south = 0; west = 0 }

pub pin_old_cards : cards_of built_in old ≡ card 0 4 1 a 1 0 0 122 ∷ []
unfolding is_white is_inside trimmed built_in capital seat_of suit_of honour_of rank_of digit_of digits_reading table_of_digits trim_span trim_part bracket_of ends_quoted name_of is_quoted value_of is_comment comment_of tag_line data_bracket data_after split_of is_blank has_brace split_line bracket_line line_kind tag_names tag_number commentary_after cards_named hands_after hand_words deal_in identity_by deal_by table_by contract_by is_kept_value is_kept values_by applied open_by closed tagged tag_line_out line_out record_out scanned closes_record records_of card_words cards_of
pin_old_cards = refl

pub pin_new_cards : cards_of built_in new ≡ card 0 2 1 a 0 0 0 80 ∷ card 2 2 1 b 0 0 80 160 ∷ card 4 2 1 b 0 0 160 240 ∷ card 6 2 0 none 0 8 240 252 ∷ []
unfolding is_white is_inside trimmed built_in capital seat_of suit_of honour_of rank_of digit_of digits_reading table_of_digits trim_span trim_part bracket_of ends_quoted name_of is_quoted value_of is_comment comment_of tag_line data_bracket data_after split_of is_blank has_brace split_line bracket_line line_kind tag_names tag_number commentary_after cards_named hands_after hand_words deal_in identity_by deal_by table_by contract_by is_kept_value is_kept values_by applied open_by closed tagged tag_line_out line_out record_out scanned closes_record records_of card_words cards_of
pin_new_cards = refl

-- ---- states and slips

pub pin_text_states : map (λ (j : BoardPlan). j.state) (plans_of built_in old new) ≡ Old 1 ∷ Solve ∷ Twin 2 ∷ Blank ∷ []
unfolding ones card_count whole_hands hand_words hands_of_words card_deal is_whole has_table has_deal fits first_with state_of board_plans
pin_text_states = rw (pin_old_cards, pin_new_cards)

pub pin_text_slips : slips_of (plans_of built_in old new) ≡ (2 ∷ 8191 ∷ 4503049871556608 ∷ 549688705024 ∷ 67100672 ∷ []) ∷ []
unfolding ones card_count whole_hands hand_words hands_of_words card_deal is_whole has_table has_deal fits first_with state_of board_plans slip_of
pin_text_slips = rw (pin_old_cards, pin_new_cards)
