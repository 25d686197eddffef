-- Worked examples of words: calls, contracts, vulnerability, cards, ends of sections.
use mathlib.Core.Path.{◌≡◌, refl}
use mathlib.Core.Bool.{true, false}
use mathlib.Core.List.{[], ◌∷◌}
use Rattle.tables.specs.Text.{ascii, is_inside}
use Rattle.tables.specs.Letters.{built_in, capital, suit_of, honour_of, rank_of}
use Rattle.reader.specs.Words.{level_of, bid_code, is_pass, underscore_code, sign_code, call_of, is_mark, call_part, section_end, is_all_pass, is_doubling, contract_trump, is_no_side, is_both_sides, vulnerability_of, card_number, card_named}

-- ---- calls

-- Pass, P and - are one call, in either case.
pub call_pass : call_of built_in (ascii "Pass") ≡ 0
unfolding built_in capital suit_of level_of bid_code is_pass underscore_code sign_code call_of
call_pass = refl

pub call_pass_small : call_of built_in (ascii "pASS") ≡ 0
unfolding built_in capital suit_of level_of bid_code is_pass underscore_code sign_code call_of
call_pass_small = refl

pub call_p : call_of built_in (ascii "p") ≡ 0
unfolding built_in capital suit_of level_of bid_code is_pass underscore_code sign_code call_of
call_p = refl

pub call_dash : call_of built_in (ascii "-") ≡ 0
unfolding built_in capital suit_of level_of bid_code is_pass underscore_code sign_code call_of
call_dash = refl

pub call_passed : call_of built_in (ascii "Passed") ≡ 47
unfolding built_in capital suit_of level_of bid_code is_pass underscore_code sign_code call_of
call_passed = refl

-- The bids at the edges: 1C, 1NT, 2C, 7NT.
pub call_1c : call_of built_in (ascii "1C") ≡ 1
unfolding built_in capital suit_of level_of bid_code is_pass underscore_code sign_code call_of
call_1c = refl

pub call_1n : call_of built_in (ascii "1N") ≡ 5
unfolding built_in capital suit_of level_of bid_code is_pass underscore_code sign_code call_of
call_1n = refl

pub call_1nt : call_of built_in (ascii "1NT") ≡ 5
unfolding built_in capital suit_of level_of bid_code is_pass underscore_code sign_code call_of
call_1nt = refl

pub call_2c : call_of built_in (ascii "2C") ≡ 6
unfolding built_in capital suit_of level_of bid_code is_pass underscore_code sign_code call_of
call_2c = refl

pub call_7s : call_of built_in (ascii "7s") ≡ 34
unfolding built_in capital suit_of level_of bid_code is_pass underscore_code sign_code call_of
call_7s = refl

pub call_7nt : call_of built_in (ascii "7nt") ≡ 35
unfolding built_in capital suit_of level_of bid_code is_pass underscore_code sign_code call_of
call_7nt = refl

-- No level 0 or 8, no bid without a strain, none with more behind it.
pub call_0c : call_of built_in (ascii "0C") ≡ 47
unfolding built_in capital suit_of level_of bid_code is_pass underscore_code sign_code call_of
call_0c = refl

pub call_8c : call_of built_in (ascii "8C") ≡ 47
unfolding built_in capital suit_of level_of bid_code is_pass underscore_code sign_code call_of
call_8c = refl

pub call_level : call_of built_in (ascii "1") ≡ 47
unfolding built_in capital suit_of level_of bid_code is_pass underscore_code sign_code call_of
call_level = refl

pub call_more : call_of built_in (ascii "1CX") ≡ 47
unfolding built_in capital suit_of level_of bid_code is_pass underscore_code sign_code call_of
call_more = refl

pub call_doubled : call_of built_in (ascii "1NTX") ≡ 47
unfolding built_in capital suit_of level_of bid_code is_pass underscore_code sign_code call_of
call_doubled = refl

-- Double, redouble, and no more.
pub call_x : call_of built_in (ascii "X") ≡ 36
unfolding built_in capital suit_of level_of bid_code is_pass underscore_code sign_code call_of
call_x = refl

pub call_xx : call_of built_in (ascii "xx") ≡ 37
unfolding built_in capital suit_of level_of bid_code is_pass underscore_code sign_code call_of
call_xx = refl

pub call_xxx : call_of built_in (ascii "XXX") ≡ 47
unfolding built_in capital suit_of level_of bid_code is_pass underscore_code sign_code call_of
call_xxx = refl

pub call_plus : call_of built_in (ascii "+") ≡ 38
unfolding built_in capital suit_of level_of bid_code is_pass underscore_code sign_code call_of
call_plus = refl

-- One to eight underscores; nine are no call.
pub call_one_underscore : call_of built_in (ascii "_") ≡ 39
unfolding built_in capital suit_of level_of bid_code is_pass underscore_code sign_code call_of
call_one_underscore = refl

pub call_eight_underscores : call_of built_in (ascii "________") ≡ 46
unfolding built_in capital suit_of level_of bid_code is_pass underscore_code sign_code call_of
call_eight_underscores = refl

pub call_nine_underscores : call_of built_in (ascii "_________") ≡ 47
unfolding built_in capital suit_of level_of bid_code is_pass underscore_code sign_code call_of
call_nine_underscores = refl

pub call_mixed : call_of built_in (ascii "_-") ≡ 47
unfolding built_in capital suit_of level_of bid_code is_pass underscore_code sign_code call_of
call_mixed = refl

-- No token, the end of a section and all pass are no calls.
pub call_empty : call_of built_in (ascii "") ≡ 47
unfolding built_in capital suit_of level_of bid_code is_pass underscore_code sign_code call_of
call_empty = refl

pub call_star : call_of built_in (ascii "*") ≡ 47
unfolding built_in capital suit_of level_of bid_code is_pass underscore_code sign_code call_of
call_star = refl

pub call_ap : call_of built_in (ascii "AP") ≡ 47
unfolding built_in capital suit_of level_of bid_code is_pass underscore_code sign_code call_of
call_ap = refl

-- ---- annotations and ends of sections

-- The call before = ! ? or $ .
pub part_annotation : call_part (ascii "1C=1=") ≡ ascii "1C"
unfolding is_mark
part_annotation = refl

pub part_mark : call_part (ascii "Pass!?") ≡ ascii "Pass"
unfolding is_mark
part_mark = refl

pub part_query : call_part (ascii "X?") ≡ ascii "X"
unfolding is_mark
part_query = refl

pub part_nag : call_part (ascii "2NT$5") ≡ ascii "2NT"
unfolding is_mark
part_nag = refl

pub part_none : call_part (ascii "3NT") ≡ ascii "3NT"
unfolding is_mark
part_none = refl

pub part_alone : call_part (ascii "=1=") ≡ ascii ""
unfolding is_mark
part_alone = refl

-- The whole token counts: +! is no end.
pub end_plus : section_end (ascii "+") ≡ 1
unfolding section_end
end_plus = refl

pub end_star : section_end (ascii "*") ≡ 2
unfolding section_end
end_star = refl

pub end_marked : section_end (ascii "+!") ≡ 0
unfolding section_end
end_marked = refl

pub end_two : section_end (ascii "**") ≡ 0
unfolding section_end
end_two = refl

pub end_empty : section_end (ascii "") ≡ 0
unfolding section_end
end_empty = refl

-- AP in either case; AP! is none.
pub all_pass : is_all_pass (ascii "AP") ≡ true
unfolding capital is_all_pass
all_pass = refl

pub all_pass_small : is_all_pass (ascii "aP") ≡ true
unfolding capital is_all_pass
all_pass_small = refl

pub all_pass_marked : is_all_pass (ascii "AP!") ≡ false
unfolding capital is_all_pass
all_pass_marked = refl

pub all_pass_a : is_all_pass (ascii "A") ≡ false
unfolding capital is_all_pass
all_pass_a = refl

-- ---- contracts

-- Level, strain, then nothing, X or XX, in either case.
pub trump_4h : contract_trump built_in (ascii "4H") ≡ 2
unfolding built_in capital suit_of level_of is_doubling contract_trump
trump_4h = refl

pub trump_4hx : contract_trump built_in (ascii "4hx") ≡ 2
unfolding built_in capital suit_of level_of is_doubling contract_trump
trump_4hx = refl

pub trump_4hxx : contract_trump built_in (ascii "4HXX") ≡ 2
unfolding built_in capital suit_of level_of is_doubling contract_trump
trump_4hxx = refl

pub trump_7s : contract_trump built_in (ascii "7S") ≡ 3
unfolding built_in capital suit_of level_of is_doubling contract_trump
trump_7s = refl

pub trump_1c : contract_trump built_in (ascii "1C") ≡ 0
unfolding built_in capital suit_of level_of is_doubling contract_trump
trump_1c = refl

-- White space, a third X, a declarer, no level: no contract.
pub trump_blank : contract_trump built_in (ascii "4H X") ≡ 4
unfolding built_in capital suit_of level_of is_doubling contract_trump
trump_blank = refl

pub trump_lead : contract_trump built_in (ascii "  4H") ≡ 4
unfolding built_in capital suit_of level_of is_doubling contract_trump
trump_lead = refl

pub trump_xxx : contract_trump built_in (ascii "4HXXX") ≡ 4
unfolding built_in capital suit_of level_of is_doubling contract_trump
trump_xxx = refl

pub trump_declarer : contract_trump built_in (ascii "4HN") ≡ 4
unfolding built_in capital suit_of level_of is_doubling contract_trump
trump_declarer = refl

pub trump_8h : contract_trump built_in (ascii "8H") ≡ 4
unfolding built_in capital suit_of level_of is_doubling contract_trump
trump_8h = refl

pub trump_level : contract_trump built_in (ascii "4") ≡ 4
unfolding built_in capital suit_of level_of is_doubling contract_trump
trump_level = refl

pub trump_empty : contract_trump built_in (ascii "") ≡ 4
unfolding built_in capital suit_of level_of is_doubling contract_trump
trump_empty = refl

-- Notrump, and a board that was passed out.
pub trump_nt : contract_trump built_in (ascii "3NT") ≡ 4
unfolding built_in capital suit_of level_of is_doubling contract_trump
trump_nt = refl

pub trump_n : contract_trump built_in (ascii "3NX") ≡ 4
unfolding built_in capital suit_of level_of is_doubling contract_trump
trump_n = refl

pub trump_pass : contract_trump built_in (ascii "Pass") ≡ 4
unfolding built_in capital suit_of level_of is_doubling contract_trump
trump_pass = refl

-- ---- vulnerability

-- Each word, in either case.
pub vulnerable_none : vulnerability_of (ascii "None") ≡ 0
unfolding capital is_no_side is_both_sides vulnerability_of
vulnerable_none = refl

pub vulnerable_love : vulnerability_of (ascii "love") ≡ 0
unfolding capital is_no_side is_both_sides vulnerability_of
vulnerable_love = refl

pub vulnerable_dash : vulnerability_of (ascii "-") ≡ 0
unfolding capital is_no_side is_both_sides vulnerability_of
vulnerable_dash = refl

pub vulnerable_ns : vulnerability_of (ascii "NS") ≡ 1
unfolding capital is_no_side is_both_sides vulnerability_of
vulnerable_ns = refl

pub vulnerable_ew : vulnerability_of (ascii "eW") ≡ 2
unfolding capital is_no_side is_both_sides vulnerability_of
vulnerable_ew = refl

pub vulnerable_all : vulnerability_of (ascii "All") ≡ 3
unfolding capital is_no_side is_both_sides vulnerability_of
vulnerable_all = refl

pub vulnerable_both : vulnerability_of (ascii "both") ≡ 3
unfolding capital is_no_side is_both_sides vulnerability_of
vulnerable_both = refl

-- Not trimmed; no other word.
pub vulnerable_blank : vulnerability_of (ascii " NS") ≡ 4
unfolding capital is_no_side is_both_sides vulnerability_of
vulnerable_blank = refl

pub vulnerable_after : vulnerability_of (ascii "NS ") ≡ 4
unfolding capital is_no_side is_both_sides vulnerability_of
vulnerable_after = refl

pub vulnerable_n_s : vulnerability_of (ascii "N-S") ≡ 4
unfolding capital is_no_side is_both_sides vulnerability_of
vulnerable_n_s = refl

pub vulnerable_empty : vulnerability_of (ascii "") ≡ 4
unfolding capital is_no_side is_both_sides vulnerability_of
vulnerable_empty = refl

-- ---- cards

-- The first and the last card; small letters; what follows is ignored.
pub card_c2 : card_named built_in (ascii "C2") ≡ 0
unfolding built_in capital suit_of honour_of rank_of is_inside card_number card_named
card_c2 = refl

pub card_sa : card_named built_in (ascii "SA") ≡ 51
unfolding built_in capital suit_of honour_of rank_of is_inside card_number card_named
card_sa = refl

pub card_s2 : card_named built_in (ascii "s2") ≡ 39
unfolding built_in capital suit_of honour_of rank_of is_inside card_number card_named
card_s2 = refl

pub card_ht : card_named built_in (ascii "ht") ≡ 34
unfolding built_in capital suit_of honour_of rank_of is_inside card_number card_named
card_ht = refl

pub card_marked : card_named built_in (ascii "SA!") ≡ 51
unfolding built_in capital suit_of honour_of rank_of is_inside card_number card_named
card_marked = refl

pub card_accent : card_named built_in (83 ∷ 65 ∷ 33 ∷ 195 ∷ 169 ∷ []) ≡ 51
unfolding built_in capital suit_of honour_of rank_of is_inside card_number card_named
card_accent = refl

-- No rank, no suit, one character, none.
pub card_s10 : card_named built_in (ascii "S10") ≡ 52
unfolding built_in capital suit_of honour_of rank_of is_inside card_number card_named
card_s10 = refl

pub card_back : card_named built_in (ascii "AS") ≡ 52
unfolding built_in capital suit_of honour_of rank_of is_inside card_number card_named
card_back = refl

pub card_one : card_named built_in (ascii "S") ≡ 52
unfolding built_in capital suit_of honour_of rank_of is_inside card_number card_named
card_one = refl

pub card_empty : card_named built_in (ascii "") ≡ 52
unfolding built_in capital suit_of honour_of rank_of is_inside card_number card_named
card_empty = refl

pub card_dash : card_named built_in (ascii "-") ≡ 52
unfolding built_in capital suit_of honour_of rank_of is_inside card_number card_named
card_dash = refl

-- Characters of more than one byte: a second one, an ace with an accent put on it, a first one, a suit followed by an accent.
pub card_second_long : card_named built_in (83 ∷ 195 ∷ 169 ∷ []) ≡ 52
unfolding built_in capital suit_of honour_of rank_of is_inside card_number card_named
card_second_long = refl

pub card_ace_accent : card_named built_in (83 ∷ 65 ∷ 128 ∷ []) ≡ 52
unfolding built_in capital suit_of honour_of rank_of is_inside card_number card_named
card_ace_accent = refl

pub card_first_long : card_named built_in (195 ∷ 169 ∷ 65 ∷ []) ≡ 52
unfolding built_in capital suit_of honour_of rank_of is_inside card_number card_named
card_first_long = refl

pub card_suit_accent : card_named built_in (83 ∷ 128 ∷ 65 ∷ []) ≡ 52
unfolding built_in capital suit_of honour_of rank_of is_inside card_number card_named
card_suit_accent = refl
