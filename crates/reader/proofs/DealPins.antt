-- Worked examples of deals, by the built-in letters.
use mathlib.Core.Path.{◌≡◌, refl}
use mathlib.Core.Bool.{true, false}
use mathlib.Core.List.{List, [], ◌∷◌, ◌++◌}
use Prim.Native.Nat.{ℕ}
use Prim.Native.String.{String}
use Rattle.tables.specs.Text.{ascii, is_white, trimmed}
use Rattle.tables.specs.Letters.{built_in, seat_of, rank_of, honour_of, capital}
use Rattle.reader.specs.declared.deal.Hands.{Hands}
use Rattle.std.specs.Prelude.{Some, None}
use Rattle.reader.specs.Deals.{DealRead, has, ones, card_count, whole_hands, cards_named, hands_after, deal_of, card_text, ranks_text, suit_text, hand_text, deal_text, hand_words}

abbrev hands : ℕ → ℕ → ℕ → ℕ → Hands
hands n e s w = record { north = n; east = e; south = s; west = w }

-- All spades, hearts, diamonds and clubs are 4503049871556608, 549688705024, 67100672 and 8191.
abbrev deal_a : Hands
deal_a = hands 4503049871556608 549688705024 67100672 8191

abbrev deal_b : Hands
deal_b = hands 8191 4503049871556608 549688705024 67100672

unfoldable reading : List ℕ → DealRead
unfolding is_white trimmed built_in seat_of rank_of honour_of capital cards_named hands_after deal_of
reading t = deal_of built_in t

abbrev from : String → DealRead
from s = reading (ascii s)

-- ---- read

pin_a : from "N:AKQJT98765432... .AKQJT98765432.. ..AKQJT98765432. ...AKQJT98765432" ≡ Some deal_a
unfolding reading
pin_a = refl

pin_b : from "E:AKQJT98765432... .AKQJT98765432.. ..AKQJT98765432. ...AKQJT98765432" ≡ Some deal_b
unfolding reading
pin_b = refl

-- From south and from west.
pin_south : from "S:..AKQJT98765432. ...AKQJT98765432 AKQJT98765432... .AKQJT98765432.." ≡ Some deal_a
unfolding reading
pin_south = refl

pin_west : from "W:...AKQJT98765432 AKQJT98765432... .AKQJT98765432.. ..AKQJT98765432." ≡ Some deal_a
unfolding reading
pin_west = refl

-- Small letters, and white space around the value.
pin_small : from "  n:akqjt98765432... .akqjt98765432.. ..akqjt98765432. ...akqjt98765432 " ≡ Some deal_a
unfolding reading
pin_small = refl

-- Ranks in any order; the two of clubs is 1, the three of diamonds 16384.
pin_few : from "N:...2 ..3. - 2A..." ≡ Some (hands 1 16384 0 2252349569499136)
unfolding reading
pin_few = refl

-- No cards: a dash, or three dots.
pin_none : from "N:- ... - ..." ≡ Some (hands 0 0 0 0)
unfolding reading
pin_none = refl

-- Any run of white space between hands.
pin_tabs : reading (ascii "N:-" ++ (9 ∷ ascii "-   -") ++ (32 ∷ 9 ∷ 13 ∷ ascii "-")) ≡ Some (hands 0 0 0 0)
unfolding reading
pin_tabs = refl

-- ---- refused

pin_fourteen : from "N:AKQJT98765432..2. - - -" ≡ None
unfolding reading
pin_fourteen = refl

pin_twice : from "N:AKA... - - -" ≡ None
unfolding reading
pin_twice = refl

pin_across : from "N:AK... .A.. ..A. A..." ≡ None
unfolding reading
pin_across = refl

pin_three : from "N:- - -" ≡ None
unfolding reading
pin_three = refl

pin_five : from "N:- - - - -" ≡ None
unfolding reading
pin_five = refl

pin_blank_after : from "N: - - - -" ≡ None
unfolding reading
pin_blank_after = refl

pin_blank_before : from "N :- - - -" ≡ None
unfolding reading
pin_blank_before = refl

pin_no_seat : from "X:- - - -" ≡ None
unfolding reading
pin_no_seat = refl

pin_word : from "NS:- - - -" ≡ None
unfolding reading
pin_word = refl

pin_suits : from "N:A.K.Q - - -" ≡ None
unfolding reading
pin_suits = refl

pin_many_suits : from "N:A.K.Q.J. - - -" ≡ None
unfolding reading
pin_many_suits = refl

pin_dashes : from "N:-- - - -" ≡ None
unfolding reading
pin_dashes = refl

pin_ten : from "N:10... - - -" ≡ None
unfolding reading
pin_ten = refl

pin_empty : from "" ≡ None
unfolding reading
pin_empty = refl

pin_seat_alone : from "N:" ≡ None
unfolding reading
pin_seat_alone = refl

-- ---- written, counted, as words

pin_write : deal_text built_in 0 deal_a ≡ ascii "N:AKQJT98765432... .AKQJT98765432.. ..AKQJT98765432. ...AKQJT98765432"
unfolding built_in has card_text ranks_text suit_text hand_text deal_text
pin_write = refl

pin_write_east : deal_text built_in 1 (hands 1 16384 0 2252349569499136) ≡ ascii "E:..3. - A2... ...2"
unfolding built_in has card_text ranks_text suit_text hand_text deal_text
pin_write_east = refl

pin_whole : whole_hands deal_a ≡ true
unfolding whole_hands card_count ones
pin_whole = refl

pin_not_whole : whole_hands (hands 1 16384 0 2252349569499136) ≡ false
unfolding whole_hands card_count ones
pin_not_whole = refl

pin_words : hand_words deal_a ≡ 0 ∷ 1048448 ∷ 4227858432 ∷ 127 ∷ 67100672 ∷ 0 ∷ 8191 ∷ 0 ∷ []
unfolding hand_words
pin_words = refl
