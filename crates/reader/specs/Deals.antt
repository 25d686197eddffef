-- The value of a Deal tag: a seat's letter, a colon, four hands clockwise from that seat, read and written. A hand is a number with a
-- bit for each of its cards, 13 × suit + rank: suits C D H S from 0, 2 is rank 0.
use Rattle.std.specs.Prelude.{ℕ, zero, suc, ◌+◌, ◌-◌, ◌*◌, ◌/◌, ◌%◌, ◌^◌, ◌<◌, ◌≤◌, Bool, false, cond, ◌&&◌, List, [], ◌∷◌, ◌++◌, Option, Some, None, option_map, eqb, ltb, leb, get_or, length}
use Rattle.tables.specs.declared.letters.Conventions.{Conventions}
use Rattle.tables.specs.Text.{is_white, trimmed, fields}
use Rattle.tables.specs.Letters.{seat_of, rank_of, seat_letter, rank_letter, distinct}
use Rattle.reader.specs.declared.deal.Hands.{Hands}

-- ---- cards in a number

-- Bit k of x, 0 or 1: card k is in the hand x where it is 1.
abbrev pub bit : ℕ → ℕ → ℕ
bit zero x = x % 2
bit (suc k) x = bit k (x / 2)

unfoldable pub has : ℕ → ℕ → Bool
has k x = eqb (bit k x) 1

-- The number of a list of cards: the sum of their bits.
abbrev pub hand_bits : List ℕ → ℕ
hand_bits [] = 0
hand_bits (k ∷ ks) = 2 ^ k + hand_bits ks

-- How many of the lowest n bits of x are 1.
unfoldable pub ones : ℕ → ℕ → ℕ
ones zero x = 0
ones (suc n) x = x % 2 + ones n (x / 2)

-- How many cards are in x, a number of 64 bits.
unfoldable pub card_count : ℕ → ℕ
card_count x = ones 64 x

-- 13 cards in each hand.
unfoldable pub whole_hands : Hands → Bool
whole_hands h = ((eqb (card_count h.north) 13 && eqb (card_count h.east) 13) && eqb (card_count h.south) 13) && eqb (card_count h.west) 13

-- ---- a hand's text

-- A card before the others, where the others could be read.
abbrev pub card_before : ℕ → Option (List ℕ) → Option (List ℕ)
card_before k o = option_map (λ ks. k ∷ ks) o

-- The cards that a text names, its suits from s down to clubs (0): a dot (46) ends a suit, any other byte is a rank's letter.
abbrev pub cards_from_suit : Conventions → List ℕ → ℕ → Option (List ℕ)
cards_from_suit c [] s = cond (eqb s 0) (Some []) None
cards_from_suit c (b ∷ bs) s =
    cond (eqb b 46)
    (cond (eqb s 0) None (cards_from_suit c bs (s - 1)))
    (cond (eqb (rank_of c b) 13) None (card_before (13 * s + rank_of c b) (cards_from_suit c bs s)))

-- At most n cards.
abbrev pub at_most : ℕ → Option (List ℕ) → Option (List ℕ)
at_most n None = None
at_most n (Some ks) = cond (leb (length ks) n) (Some ks) None

-- Is it a dash (45) alone?
abbrev pub is_dash : List ℕ → Bool
is_dash [] = false
is_dash (b ∷ []) = eqb b 45
is_dash (b ∷ d ∷ bs) = false

-- The cards of a hand: a dash is none, else four suits from spades (3) down, at most 13 cards in all.
unfoldable pub cards_named : Conventions → List ℕ → Option (List ℕ)
cards_named c t = cond (is_dash t) (Some []) (at_most 13 (cards_from_suit c t 3))

-- ---- a deal's text

-- A hand before the others.
abbrev pub hand_before : Option (List ℕ) → Option (List (List ℕ)) → Option (List (List ℕ))
hand_before None hs = None
hand_before (Some ks) None = None
hand_before (Some ks) (Some hs) = Some (ks ∷ hs)

-- The cards of each hand, where each can be read.
abbrev pub all_named : Conventions → List (List ℕ) → Option (List (List ℕ))
all_named c [] = Some []
all_named c (t ∷ ts) = hand_before (cards_named c t) (all_named c ts)

-- What a deal's text is read as, None where it is no deal.
abbrev pub DealRead : Type 0
DealRead = Option Hands

-- Four hands, the first as N's; no card may stand twice in the deal.
abbrev pub dealt : List ℕ → List ℕ → List ℕ → List ℕ → DealRead
dealt n e s w =
    cond (distinct (n ++ (e ++ (s ++ w))))
    (Some (record { north = hand_bits n; east = hand_bits e; south = hand_bits s; west = hand_bits w }))
    None

-- Exactly four hands.
abbrev pub four_hands : Option (List (List ℕ)) → DealRead
four_hands None = None
four_hands (Some []) = None
four_hands (Some (n ∷ [])) = None
four_hands (Some (n ∷ e ∷ [])) = None
four_hands (Some (n ∷ e ∷ s ∷ [])) = None
four_hands (Some (n ∷ e ∷ s ∷ w ∷ [])) = dealt n e s w
four_hands (Some (n ∷ e ∷ s ∷ w ∷ x ∷ xs)) = None

abbrev pub starts_white : List ℕ → Bool
starts_white [] = false
starts_white (b ∷ bs) = is_white b

-- What stands after the colon: the hands are its fields, and no white space stands before the first.
unfoldable pub hands_after : Conventions → List ℕ → DealRead
hands_after c s = cond (starts_white s) None (four_hands (all_named c (fields s)))

-- Every hand goes one seat on, clockwise.
abbrev pub onward : Hands → Hands
onward h = record { north = h.west; east = h.north; south = h.east; west = h.south }

-- Hands that stand clockwise from a seat, as N, E, S, W: the first goes as many seats on as the seat's number.
abbrev pub turned : ℕ → Hands → Hands
turned zero h = h
turned (suc seat) h = onward (turned seat h)

abbrev pub turned_deal : ℕ → DealRead → DealRead
turned_deal seat r = option_map (turned seat) r

-- A seat's letter, a colon (58) right after it, and the hands from that seat on.
abbrev pub deal_in : Conventions → List ℕ → DealRead
deal_in c [] = None
deal_in c (a ∷ []) = None
deal_in c (a ∷ b ∷ rest) =
    cond (eqb b 58)
    (cond (ltb 3 (seat_of c a)) None (turned_deal (seat_of c a) (hands_after c rest)))
    None

-- What a value is read as.
unfoldable pub deal_of : Conventions → List ℕ → DealRead
deal_of c value = deal_in c (trimmed value)

-- Each hand is below 2 ^ 52.
pub record InDeck (h : Hands) : Type 0 where
  pub north_low : h.north < 2 ^ 52
  pub east_low : h.east < 2 ^ 52
  pub south_low : h.south < 2 ^ 52
  pub west_low : h.west < 2 ^ 52

-- What the hands of a deal are: below 2 ^ 52, no card in two of them, at most 13 cards in each.
pub record Proper (h : Hands) : Type 0 where
  pub deck : InDeck h
  pub apart : (i : ℕ) → bit i h.north + bit i h.east + bit i h.south + bit i h.west ≤ 1
  pub north_few : card_count h.north ≤ 13
  pub east_few : card_count h.east ≤ 13
  pub south_few : card_count h.south ≤ 13
  pub west_few : card_count h.west ≤ 13

-- ---- written

-- The letter of rank r, where the card of suit s is in x.
unfoldable pub card_text : Conventions → ℕ → ℕ → ℕ → List ℕ
card_text c s r x = cond (has (13 * s + r) x) (rank_letter c r ∷ []) []

-- The ranks below r of the suit s in x, from high to low.
unfoldable pub ranks_text : Conventions → ℕ → ℕ → ℕ → List ℕ
ranks_text c s zero x = []
ranks_text c s (suc r) x = card_text c s r x ++ ranks_text c s r x

unfoldable pub suit_text : Conventions → ℕ → ℕ → List ℕ
suit_text c s x = ranks_text c s 13 x

-- A hand: a dash (45) for no card, else four suits, spades first, with dots (46) between them.
unfoldable pub hand_text : Conventions → ℕ → List ℕ
hand_text c x =
    cond (eqb x 0) (45 ∷ [])
    (suit_text c 3 x ++ (46 ∷ []) ++ suit_text c 2 x ++ (46 ∷ []) ++ suit_text c 1 x ++ (46 ∷ []) ++ suit_text c 0 x)

-- Every hand goes one seat back.
abbrev pub back : Hands → Hands
back h = record { north = h.east; east = h.south; south = h.west; west = h.north }

-- The hands clockwise from a seat, the first as N's.
abbrev pub clockwise : ℕ → Hands → Hands
clockwise zero h = h
clockwise (suc seat) h = clockwise seat (back h)

-- Four hands with a blank (32) between them.
abbrev pub hands_text : Conventions → Hands → List ℕ
hands_text c h = hand_text c h.north ++ (32 ∷ []) ++ hand_text c h.east ++ (32 ∷ []) ++ hand_text c h.south ++ (32 ∷ []) ++ hand_text c h.west

-- A deal, from a seat on: its letter, a colon (58), four hands.
unfoldable pub deal_text : Conventions → ℕ → Hands → List ℕ
deal_text c seat h = (seat_letter c seat ∷ 58 ∷ []) ++ hands_text c (clockwise seat h)

-- ---- words

-- A number as its low and high word of 32 bits; hands N, E, S, W, the low word first.
unfoldable pub hand_words : Hands → List ℕ
hand_words h =
    h.north % 4294967296 ∷ h.north / 4294967296 ∷ h.east % 4294967296 ∷ h.east / 4294967296
    ∷ h.south % 4294967296 ∷ h.south / 4294967296 ∷ h.west % 4294967296 ∷ h.west / 4294967296 ∷ []

abbrev pub from_words : ℕ → ℕ → ℕ
from_words low high = high * 4294967296 + low

unfoldable pub hands_of_words : List ℕ → Hands
hands_of_words w = record {
  north = from_words (get_or w 0 0) (get_or w 1 0);
  east = from_words (get_or w 2 0) (get_or w 3 0);
  south = from_words (get_or w 4 0) (get_or w 5 0);
  west = from_words (get_or w 6 0) (get_or w 7 0);
}
