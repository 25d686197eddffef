-- What planning reads of a card: the deal (words 9 to 17) and the table (38).
use Rattle.std.specs.Prelude.{ℕ, ◌*◌, Bool, ◌&&◌, ◌||◌, not, List, eqb, get_or, take, drop}
use Rattle.reader.specs.declared.deal.Hands.{Hands}
use Rattle.reader.specs.Words.{same}
use Rattle.reader.specs.Deals.{whole_hands, hands_of_words}

-- Words 10 to 17: the hands N, E, S, W, the low word of each first.
unfoldable pub card_deal : List ℕ → List ℕ
card_deal card = take 8 (drop 10 card)

-- The four hands, each a number of 64 bits.
abbrev pub hands_of : List ℕ → Hands
hands_of card = hands_of_words (card_deal card)

-- A deal is whole if word 9 is 1 and each hand has 13 cards. Only such a board has a deal.
unfoldable pub is_whole : List ℕ → Bool
is_whole card = eqb (get_or card 9 0) 1 && whole_hands (hands_of card)

-- A board has, or carries, a table if word 38 is not 0.
unfoldable pub has_table : List ℕ → Bool
has_table card = not (eqb (get_or card 38 0) 0)

-- The board has the deal d. Deals are the same if the four hands are: the eight words are compared in order.
unfoldable pub has_deal : List ℕ → List ℕ → Bool
has_deal d card = is_whole card && same d (card_deal card)

-- It has the deal d and, where one is sought, a table.
unfoldable pub fits : Bool → List ℕ → List ℕ → Bool
fits tabled d card = has_deal d card && (not tabled || has_table card)

-- The card at index k of lent words.
abbrev pub card_here : ℕ → List ℕ → List ℕ
card_here k box = take 64 (drop (64 * k) box)
