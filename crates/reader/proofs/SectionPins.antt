-- Worked examples of the auction and of the play.
use Prim.Native.Nat.{ℕ, ◌+◌, ◌*◌}
use mathlib.Core.Path.{◌≡◌, refl}
use mathlib.Core.Bool.{true, false}
use mathlib.Core.List.{List, [], ◌∷◌, ◌++◌}
use Prim.Native.String.{String}
use Rattle.tables.specs.Text.{ascii, is_white, is_inside}
use Rattle.tables.specs.Letters.{built_in, capital, suit_of, honour_of, rank_of}
use Rattle.reader.specs.declared.store.Entry.{Entry}
use Rattle.reader.specs.declared.auction.Bidding.{Bidding}
use Rattle.reader.specs.declared.play.Tricks.{Tricks}
use Rattle.reader.specs.Words.{level_of, bid_code, is_pass, underscore_code, sign_code, call_of, is_mark, section_end, is_all_pass, card_number, card_named}
use Rattle.reader.specs.Pieces.{Out, entry}
use Rattle.reader.specs.PieceSteps.{piece}
use Rattle.reader.specs.Auction.{bidding, call_token_of, called, called_piece, no_bidding}
use Rattle.reader.specs.Play.{trick_entry, new_trick, weight, best_slot, opened, is_gap, played, played_bytes, played_piece, last_trick, no_tricks}

-- ---- auctions

abbrev bids : String → Out Bidding
bids s = called_piece built_in no_bidding (piece 0 (ascii s))

abbrev after : Bidding → List Entry → Out Bidding
after b es = record { state = b; entries = es }

-- `AP` is three passes at its own place, and stops; nothing follows it.
all_pass : bids "AP 1C" ≡ after (bidding true 0 true 3) (entry 6 0 2 0 ∷ entry 6 0 2 0 ∷ entry 6 0 2 0 ∷ [])
unfolding is_white built_in capital suit_of level_of bid_code is_pass underscore_code sign_code call_of is_mark section_end is_all_pass call_token_of called called_piece
all_pass = refl

-- `AP` is three passes wherever it stands.
all_pass_later : bids "1C ap" ≡ after (bidding true 0 true 4) (entry 6 0 2 1 ∷ entry 6 3 2 0 ∷ entry 6 3 2 0 ∷ entry 6 3 2 0 ∷ [])
unfolding is_white built_in capital suit_of level_of bid_code is_pass underscore_code sign_code call_of is_mark section_end is_all_pass call_token_of called called_piece
all_pass_later = refl

-- `AP!` is nothing.
all_pass_annotated : bids "AP!" ≡ after (bidding false 0 false 0) []
unfolding is_white built_in capital suit_of level_of bid_code is_pass underscore_code sign_code call_of is_mark section_end is_all_pass call_token_of called called_piece
all_pass_annotated = refl

-- `+` is a call and sets the end; the section goes on.
plus : bids "1C + 2C" ≡ after (bidding true 1 false 3) (entry 6 0 2 1 ∷ entry 6 3 1 38 ∷ entry 6 5 2 6 ∷ [])
unfolding is_white built_in capital suit_of level_of bid_code is_pass underscore_code sign_code call_of is_mark section_end is_all_pass call_token_of called called_piece
plus = refl

-- `+!` is a call with an annotation and sets no end.
plus_annotated : bids "+!" ≡ after (bidding true 0 false 2) (entry 6 0 1 38 ∷ entry 7 1 1 0 ∷ [])
unfolding is_white built_in capital suit_of level_of bid_code is_pass underscore_code sign_code call_of is_mark section_end is_all_pass call_token_of called called_piece
plus_annotated = refl

-- `+ *` ends with `*`.
plus_star : bids "+ *" ≡ after (bidding true 2 true 1) (entry 6 0 1 38 ∷ [])
unfolding is_white built_in capital suit_of level_of bid_code is_pass underscore_code sign_code call_of is_mark section_end is_all_pass call_token_of called called_piece
plus_star = refl

-- `*` stops: nothing follows it.
star : bids "* 1C" ≡ after (bidding false 2 true 0) []
unfolding is_white built_in capital suit_of level_of bid_code is_pass underscore_code sign_code call_of is_mark section_end is_all_pass call_token_of called called_piece
star = refl

-- The annotation of a token that is no call is dropped.
no_call_annotated : bids "zz! 1C" ≡ after (bidding true 0 false 1) (entry 6 4 2 1 ∷ [])
unfolding is_white built_in capital suit_of level_of bid_code is_pass underscore_code sign_code call_of is_mark section_end is_all_pass call_token_of called called_piece
no_call_annotated = refl

-- An annotation before the first call goes nowhere.
annotation_first : bids "=1= 1C" ≡ after (bidding true 0 false 1) (entry 6 4 2 1 ∷ [])
unfolding is_white built_in capital suit_of level_of bid_code is_pass underscore_code sign_code call_of is_mark section_end is_all_pass call_token_of called called_piece
annotation_first = refl

-- An annotation alone goes to the last call; so does the next one.
annotation_alone : bids "1C =1= !" ≡ after (bidding true 0 false 3) (entry 6 0 2 1 ∷ entry 7 3 3 0 ∷ entry 7 7 1 0 ∷ [])
unfolding is_white built_in capital suit_of level_of bid_code is_pass underscore_code sign_code call_of is_mark section_end is_all_pass call_token_of called called_piece
annotation_alone = refl

-- An annotation stands behind its call.
annotated : bids "1C! 2H=1=" ≡ after (bidding true 0 false 4) (entry 6 0 2 1 ∷ entry 7 2 1 0 ∷ entry 6 4 2 8 ∷ entry 7 6 3 0 ∷ [])
unfolding is_white built_in capital suit_of level_of bid_code is_pass underscore_code sign_code call_of is_mark section_end is_all_pass call_token_of called called_piece
annotated = refl

-- `-` is a pass; words are taken in either case.
dash : bids "- pass P 7n 1NT x XX" ≡ after (bidding true 0 false 7) (entry 6 0 1 0 ∷ entry 6 2 4 0 ∷ entry 6 7 1 0 ∷ entry 6 9 2 35 ∷ entry 6 12 3 5 ∷ entry 6 16 1 36 ∷ entry 6 18 2 37 ∷ [])
unfolding is_white built_in capital suit_of level_of bid_code is_pass underscore_code sign_code call_of is_mark section_end is_all_pass call_token_of called called_piece
dash = refl

-- Eight underscores are a call, nine are none.
underscores : bids "________ _________" ≡ after (bidding true 0 false 1) (entry 6 0 8 46 ∷ [])
unfolding is_white built_in capital suit_of level_of bid_code is_pass underscore_code sign_code call_of is_mark section_end is_all_pass call_token_of called called_piece
underscores = refl

-- A comment inside a data line is read as calls.
comment : bids "1C ; 2C" ≡ after (bidding true 0 false 2) (entry 6 0 2 1 ∷ entry 6 5 2 6 ∷ [])
unfolding is_white built_in capital suit_of level_of bid_code is_pass underscore_code sign_code call_of is_mark section_end is_all_pass call_token_of called called_piece
comment = refl

-- No token: the section is as it was.
blank : bids "  " ≡ after no_bidding []
unfolding is_white built_in capital suit_of level_of bid_code is_pass underscore_code sign_code call_of is_mark section_end is_all_pass call_token_of called called_piece
blank = refl

-- ---- plays

-- All tricks of a play, the open one too.
abbrev plays : ℕ → ℕ → String → Out Tricks
plays lead trump s = played_piece built_in lead trump no_tricks (piece 0 (ascii s))

abbrev tricks : ℕ → ℕ → String → List Entry
tricks lead trump s = (plays lead trump s).entries ++ (last_trick (plays lead trump s).state).entries

abbrev slots : ℕ → ℕ → ℕ → ℕ → ℕ
slots a b c d = a + 256 * b + 65536 * c + 16777216 * d

-- A token after a full trick opens the next one first, `*` too.
full_star : tricks 3 4 "S2 S3 S4 S5 *" ≡ entry 8 3 2 (slots 39 40 41 42) ∷ entry 8 2 4 (slots 255 255 255 255) ∷ []
unfolding is_white is_inside built_in capital suit_of honour_of rank_of card_number card_named section_end is_gap weight best_slot opened played played_bytes played_piece last_trick
full_star = refl

-- A trick with a gap has no winner.
gap : tricks 0 4 "- - - HJ" ≡ entry 8 0 4 (slots 255 255 255 35) ∷ []
unfolding is_white is_inside built_in capital suit_of honour_of rank_of card_number card_named section_end is_gap weight best_slot opened played played_bytes played_piece last_trick
gap = refl

-- Tokens run by seat from the opening leader, slots from the trick's own leader.
by_seat : tricks 0 4 "S2 SA S3 S4 H2" ≡ entry 8 0 1 (slots 39 51 40 41) ∷ entry 8 1 4 (slots 255 255 255 26) ∷ []
unfolding is_white is_inside built_in capital suit_of honour_of rank_of card_number card_named section_end is_gap weight best_slot opened played played_bytes played_piece last_trick
by_seat = refl

-- The rest of that trick, which East leads: South's H4 and West's H5 stand in slots 1 and 2, North's H2 in slot 3.
by_seat_on : trick_entry (played_piece built_in 0 4 (new_trick 1 0 1) (piece 0 (ascii "H2 H3 H4 H5"))).state ≡ entry 8 1 3 (slots 27 28 29 26)
unfolding is_white is_inside built_in capital suit_of honour_of rank_of card_number card_named section_end is_gap weight best_slot opened played played_bytes played_piece last_trick
by_seat_on = refl

-- After a trick with a gap its own leader leads again.
after_gap : tricks 1 4 "- S3 S4 S5 H2" ≡ entry 8 1 4 (slots 255 40 41 42) ∷ entry 8 1 4 (slots 26 255 255 255) ∷ []
unfolding is_white is_inside built_in capital suit_of honour_of rank_of card_number card_named section_end is_gap weight best_slot opened played played_bytes played_piece last_trick
after_gap = refl

-- What follows a card's two characters is ignored; letters in either case.
card_annotated : tricks 2 4 "SA! dt" ≡ entry 8 2 4 (slots 51 21 255 255) ∷ []
unfolding is_white is_inside built_in capital suit_of honour_of rank_of card_number card_named section_end is_gap weight best_slot opened played played_bytes played_piece last_trick
card_annotated = refl

-- The highest trump wins.
trump_wins : tricks 0 0 "SA C2 C3 SQ" ≡ entry 8 0 2 (slots 51 0 1 49) ∷ []
unfolding is_white is_inside built_in capital suit_of honour_of rank_of card_number card_named section_end is_gap weight best_slot opened played played_bytes played_piece last_trick
trump_wins = refl

-- Without a trump the highest card of the suit that was led wins.
suit_led : tricks 0 4 "D2 CA D3 HA" ≡ entry 8 0 2 (slots 13 12 14 38) ∷ []
unfolding is_white is_inside built_in capital suit_of honour_of rank_of card_number card_named section_end is_gap weight best_slot opened played played_bytes played_piece last_trick
suit_led = refl

-- Of two equal cards the first wins.
first_of_equals : tricks 0 4 "S2 SA SA S3" ≡ entry 8 0 1 (slots 39 51 51 40) ∷ []
unfolding is_white is_inside built_in capital suit_of honour_of rank_of card_number card_named section_end is_gap weight best_slot opened played played_bytes played_piece last_trick
first_of_equals = refl

-- Of two equal trumps too.
first_trump_of_equals : tricks 3 2 "S2 H2 H2 S3" ≡ entry 8 3 0 (slots 39 26 26 40) ∷ []
unfolding is_white is_inside built_in capital suit_of honour_of rank_of card_number card_named section_end is_gap weight best_slot opened played played_bytes played_piece last_trick
first_trump_of_equals = refl

-- `+` takes a seat.
plus_seat : tricks 2 4 "+ - - CQ" ≡ entry 8 2 4 (slots 255 255 255 10) ∷ []
unfolding is_white is_inside built_in capital suit_of honour_of rank_of card_number card_named section_end is_gap weight best_slot opened played played_bytes played_piece last_trick
plus_seat = refl

-- A token that is no card takes no seat.
no_card : tricks 0 4 "zz S2 S ? SK" ≡ entry 8 0 4 (slots 39 50 255 255) ∷ []
unfolding is_white is_inside built_in capital suit_of honour_of rank_of card_number card_named section_end is_gap weight best_slot opened played played_bytes played_piece last_trick
no_card = refl

-- `*` alone opens a trick.
stop_at_once : tricks 1 4 "* S2" ≡ entry 8 1 4 (slots 255 255 255 255) ∷ []
unfolding is_white is_inside built_in capital suit_of honour_of rank_of card_number card_named section_end is_gap weight best_slot opened played played_bytes played_piece last_trick
stop_at_once = refl

-- `+` sets the end and the play goes on; `*` stops it.
plus_end : (plays 0 4 "S2 + S4").state.end ≡ 1
unfolding is_white is_inside built_in capital suit_of honour_of rank_of card_number card_named section_end is_gap weight best_slot opened played played_bytes played_piece last_trick
plus_end = refl

star_end : (plays 0 4 "+ * S4").state.end ≡ 2
unfolding is_white is_inside built_in capital suit_of honour_of rank_of card_number card_named section_end is_gap weight best_slot opened played played_bytes played_piece last_trick
star_end = refl

-- No token, no trick.
no_play : tricks 0 4 " " ≡ []
unfolding is_white is_inside built_in capital suit_of honour_of rank_of card_number card_named section_end is_gap weight best_slot opened played played_bytes played_piece last_trick
no_play = refl
