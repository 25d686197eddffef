-- The deal of a board (`md`): a dealer's digit, then the hands of S, W, N, E with commas between them.
use Rattle.std.specs.Prelude.{ℕ, zero, suc, Bool, cond, ◌&&◌, not, List, [], ◌∷◌, ◌++◌, eqb, ltb, leb, length, get_or}
use Rattle.tables.specs.declared.letters.Conventions.{Conventions}
use Rattle.tables.specs.Text.{trimmed, single, characters}
use Rattle.tables.specs.Letters.{suit_of, rank_of, among, distinct}
use Rattle.reader.specs.declared.deal.Hands.{Hands}
use Rattle.reader.specs.Words.{card_number}
use Rattle.reader.specs.Deals.{hand_bits}
use Rattle.lin.specs.declared.pairs.Command.TheVariants.{Md}
use Rattle.lin.specs.Pairs.{parts, Pair, is_pair}

-- A dealer, and the cards of each hand in the order met: a card that is named twice stands twice.
pub record Dealing : Type 0 where
  pub dealer : ℕ
  pub north : List ℕ
  pub east : List ℕ
  pub south : List ℕ
  pub west : List ℕ

-- Without an md: North, and no cards.
abbrev pub no_dealing : Dealing
no_dealing = record { dealer = 0; north = []; east = []; south = []; west = [] }

-- The digits 1 to 4 (49 to 52) are S, W, N, E; any other character is none (4).
unfoldable pub dealer_of : ℕ → ℕ
dealer_of b = cond (eqb b 49) 2 (cond (eqb b 50) 3 (cond (eqb b 51) 0 (cond (eqb b 52) 1 4)))

-- The cards of a hand's characters, s being the suit so far (4 none): a suit's letter sets the suit, a rank's letter is a card of it. A rank
-- before any suit, and every other character, is passed over.
abbrev pub hand_cards : Conventions → ℕ → List ℕ → List ℕ
hand_cards c s [] = []
hand_cards c s (b ∷ bs) =
    cond (ltb (suit_of c b) 4) (hand_cards c (suit_of c b) bs)
    (cond (ltb (card_number s (rank_of c b)) 52) (card_number s (rank_of c b) ∷ hand_cards c s bs) (hand_cards c s bs))

unfoldable pub hand_of : Conventions → List ℕ → List ℕ
hand_of c field = hand_cards c 4 (characters field)

-- The cards below k, from high to low, that are not among those held.
unfoldable pub unheld : List ℕ → ℕ → List ℕ
unheld held zero = []
unheld held (suc k) = cond (among k held) (unheld held k) (k ∷ unheld held k)

-- East's field gives its hand. Where it is missing or white and the other three hands have 13 cards each, East has all others.
abbrev pub is_thirteen : List ℕ → Bool
is_thirteen ks = eqb (length ks) 13

unfoldable pub east_of : Conventions → List ℕ → List ℕ → List ℕ → List ℕ → List ℕ
east_of c field s w n =
    cond (eqb (length (trimmed field)) 0 && (is_thirteen s && (is_thirteen w && is_thirteen n)))
    (unheld (s ++ (w ++ n)) 52)
    (hand_of c field)

-- The fields S, W, N, E, empty where missing; a fifth is ignored.
abbrev pub dealt_by : Conventions → ℕ → List (List ℕ) → Dealing
dealt_by c dealer fs =
    record {
      dealer = dealer;
      north = hand_of c (get_or fs 2 []);
      east = east_of c (get_or fs 3 []) (hand_of c (get_or fs 0 [])) (hand_of c (get_or fs 1 [])) (hand_of c (get_or fs 2 []));
      south = hand_of c (get_or fs 0 []);
      west = hand_of c (get_or fs 1 []);
    }

-- What an md value, trimmed, makes of the dealing d: where it begins with a dealer's digit, dealer and hands are its own, even if they are
-- empty; else it does nothing. Fields stand between commas (44).
abbrev pub dealing_in : Conventions → Dealing → List ℕ → Dealing
dealing_in c d [] = d
dealing_in c d (b ∷ bs) = cond (ltb (dealer_of (single b bs)) 4) (dealt_by c (dealer_of (single b bs)) (parts 44 bs)) d

-- The last such md is in force.
abbrev pub dealing_from : Conventions → Dealing → List Pair → Dealing
dealing_from c d [] = d
dealing_from c d (p ∷ ps) = dealing_from c (cond (is_pair Md p) (dealing_in c d (trimmed p.value)) d) ps

-- ---- which deals can be written

abbrev pub all_cards : Dealing → List ℕ
all_cards d = d.south ++ (d.west ++ (d.north ++ d.east))

-- Some hand has a card.
abbrev pub has_card : Dealing → Bool
has_card d = not (eqb (length (all_cards d)) 0)

-- At most 13 cards.
abbrev pub is_hand : List ℕ → Bool
is_hand ks = leb (length ks) 13

-- No card stands twice, and no hand has more than 13 cards.
abbrev pub is_deal : Dealing → Bool
is_deal d = distinct (all_cards d) && (is_hand d.south && (is_hand d.west && (is_hand d.north && is_hand d.east)))

-- The hands as numbers.
abbrev pub dealt_hands : Dealing → Hands
dealt_hands d = record { north = hand_bits d.north; east = hand_bits d.east; south = hand_bits d.south; west = hand_bits d.west }
