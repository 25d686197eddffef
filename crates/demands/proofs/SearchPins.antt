-- Worked examples of the search for an equal deal and of the searches of a plan, on cards.
use Prim.Native.Nat.{ℕ}
use mathlib.Core.Path.{◌≡◌, refl}
use mathlib.Core.Bool.{Bool, true, false}
use mathlib.Core.List.{List, [], ◌∷◌}
use Rattle.reader.specs.declared.deal.Hands.{Hands}
use Rattle.reader.specs.Deals.{ones, card_count, whole_hands, hand_words, hands_of_words}
use Rattle.planning.specs.declared.search.Found.{Found}
use Rattle.planning.specs.Cards.{card_deal, is_whole, has_table, has_deal, fits}
use Rattle.planning.specs.States.{first_with, state_of, board_plans}
use Rattle.planning.specs.Searches.{passed_over, searched, old_words, near_words, twin_words, search_numbers, searches_from, words_in_all}
use Rattle.demands.proofs.Pins.{hands, a, b, card}

-- ---- deals and boards

-- Each hand is one suit, with its number as in Pins.antt, but for S2 and HA that are exchanged in three deals: the spades with HA in place of
-- S2 are 4502774993649664, the hearts with S2 in place of HA are 824566611968.

-- As a, but E has the diamonds and S the hearts.
abbrev c : Hands
c = hands 4503049871556608 67100672 549688705024 8191

-- As a, but S has the clubs and W the diamonds.
abbrev d : Hands
d = hands 4503049871556608 549688705024 8191 67100672

-- As a, but N and E have exchanged S2 and HA.
abbrev e : Hands
e = hands 4502774993649664 824566611968 67100672 8191

-- N has the clubs, E the hearts, S the spades, W the diamonds; in q E and S have exchanged HA and S2.
abbrev p : Hands
p = hands 8191 549688705024 4503049871556608 67100672

abbrev q : Hands
q = hands 8191 824566611968 4502774993649664 67100672

-- N has the clubs, E the diamonds, S the hearts, W the spades; in t S and W have exchanged HA and S2.
abbrev r : Hands
r = hands 8191 67100672 549688705024 4503049871556608

abbrev t : Hands
t = hands 8191 67100672 824566611968 4502774993649664

-- A board with a deal that was read, without a table and with one.
abbrev without : Hands → List ℕ
without h = card 1 h 0 0 10

abbrev with_table : Hands → List ℕ
with_table h = card 1 h 1 0 10

-- Boards with a table and no whole deal: a without C2, a with a later deal that does not parse, and a board without a deal.
abbrev part : List ℕ
part = with_table (hands 4503049871556608 549688705024 67100672 8190)

abbrev unparsed : List ℕ
unparsed = card 2 a 1 0 10

abbrev no_deal : List ℕ
no_deal = card 0 (hands 0 0 0 0) 1 0 10

-- ---- one search: the board found and the words compared

-- A deal sought among boards.
unfoldable search : Bool → Hands → List (List ℕ) → Found
unfolding ones card_count whole_hands hand_words hands_of_words card_deal is_whole has_table passed_over searched
search sought h cards = searched sought (hand_words h) cards

abbrev found : ℕ → ℕ → Found
found board words = record { board = board; words = words }

-- No board.
pin_nothing : search true a [] ≡ found 0 0
unfolding search
pin_nothing = refl

-- All 8 words of the board found are compared.
pin_found : search true a (with_table a ∷ []) ≡ found 1 8
unfolding search
pin_found = refl

-- It lacks the table sought: it is passed over.
pin_no_table : search true a (without a ∷ []) ≡ found 0 0
unfolding search
pin_no_table = refl

-- The first word of b differs.
pin_first_word : search true a (with_table b ∷ with_table a ∷ []) ≡ found 2 9
unfolding search
pin_first_word = refl

-- c differs in the third word, d in the fifth; the board behind the one found is not looked at.
pin_third_fifth : search true a (with_table c ∷ with_table d ∷ with_table a ∷ with_table a ∷ []) ≡ found 3 16
unfolding search
pin_third_fifth = refl

-- Two boards lack a table.
pin_two_without : search true a (without a ∷ without b ∷ with_table a ∷ []) ≡ found 3 8
unfolding search
pin_two_without = refl

-- A deal that is not whole is passed over, though 7 of its words are equal.
pin_part : search true a (part ∷ with_table a ∷ []) ≡ found 2 8
unfolding search
pin_part = refl

-- So are an unparsed deal and a board without a deal.
pin_not_whole : search true a (unparsed ∷ no_deal ∷ []) ≡ found 0 0
unfolding search
pin_not_whole = refl

-- e differs in the second word, the high one of North.
pin_second_word : search true a (with_table e ∷ []) ≡ found 0 2
unfolding search
pin_second_word = refl

-- q differs from p in the fourth word.
pin_fourth_word : search true p (with_table q ∷ with_table p ∷ []) ≡ found 2 12
unfolding search
pin_fourth_word = refl

-- t differs from r in the sixth word.
pin_sixth_word : search true r (with_table t ∷ with_table r ∷ []) ≡ found 2 14
unfolding search
pin_sixth_word = refl

-- No table is sought.
pin_any_board : search false a (without b ∷ without c ∷ without a ∷ []) ≡ found 3 12
unfolding search
pin_any_board = refl

-- No table is sought and none is found: a table does no harm, and the deal that is not whole is passed over.
pin_any_none : search false a (with_table b ∷ without d ∷ part ∷ []) ≡ found 0 6
unfolding search
pin_any_none = refl

-- ---- the searches of a plan: five numbers a board, and the words of all boards

unfoldable numbers : List (List ℕ) → List (List ℕ) → List (List ℕ)
unfolding ones card_count whole_hands hand_words hands_of_words card_deal is_whole has_table has_deal fits first_with state_of board_plans passed_over searched old_words near_words twin_words search_numbers
numbers olds news = searches_from olds news (board_plans olds news)

unfoldable all : List (List ℕ) → List (List ℕ) → ℕ
unfolding ones card_count whole_hands hand_words hands_of_words card_deal is_whole has_table has_deal fits first_with state_of board_plans passed_over searched old_words near_words twin_words
all olds news = words_in_all olds news (board_plans olds news)

-- The listing's example: old, a with a table; new, a, b, b, and a board without a deal.
abbrev listed : List (List ℕ)
listed = without a ∷ without b ∷ without b ∷ card 0 (hands 0 0 0 0) 0 0 10 ∷ []

-- Old, and no search behind that for old; solve; twin; blank, and no search.
pin_listed : numbers (with_table a ∷ []) listed ≡ (2 ∷ 1 ∷ 8 ∷ 0 ∷ 0 ∷ []) ∷ (5 ∷ 0 ∷ 1 ∷ 0 ∷ 1 ∷ []) ∷ (4 ∷ 2 ∷ 1 ∷ 0 ∷ 9 ∷ []) ∷ (0 ∷ 0 ∷ 0 ∷ 0 ∷ 0 ∷ []) ∷ []
unfolding numbers
pin_listed = refl

pin_listed_all : all (with_table a ∷ []) listed ≡ 20
unfolding all
pin_listed_all = refl

-- No old board. The search for near goes over all new boards; that for twin over those before.
abbrev alone : List (List ℕ)
alone = without a ∷ without b ∷ without a ∷ with_table c ∷ without c ∷ with_table b ∷ without b ∷ []

-- Solve; near; twin; own, and no search; near; own; near.
pin_alone : numbers [] alone ≡ (5 ∷ 0 ∷ 0 ∷ 4 ∷ 0 ∷ []) ∷ (3 ∷ 6 ∷ 0 ∷ 9 ∷ 0 ∷ []) ∷ (4 ∷ 1 ∷ 0 ∷ 4 ∷ 8 ∷ []) ∷ (1 ∷ 0 ∷ 0 ∷ 0 ∷ 0 ∷ []) ∷ (3 ∷ 4 ∷ 0 ∷ 8 ∷ 0 ∷ []) ∷ (1 ∷ 0 ∷ 0 ∷ 0 ∷ 0 ∷ []) ∷ (3 ∷ 6 ∷ 0 ∷ 9 ∷ 0 ∷ []) ∷ []
unfolding numbers
pin_alone = refl

pin_alone_all : all [] alone ≡ 42
unfolding all
pin_alone_all = refl
