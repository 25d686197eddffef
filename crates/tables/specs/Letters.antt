-- The letters of seats, suits, strains and ranks, read in either case (ASCII alone) and written. Seats N E S W are 0 to 3
-- and 4 none; suits C D H S are 0 to 3 and 4 none; strains C D H S NT are 0 to 4 and 5 none; rank 2 is 0, the ace 12 and 13 none.
use Rattle.std.specs.Prelude.{ℕ, ◌+◌, ◌-◌, ◌≡◌, List, [], ◌∷◌, Bool, true, false, ◌&&◌, ◌||◌, cond, not, leb, ltb, eqb, length, take, drop, get_or}
use Rattle.tables.specs.declared.letters.Conventions.{Conventions}
use Rattle.tables.specs.Text.{ascii, is_white, before}

-- The thirteen letters: north, east, south, west, spades, hearts, diamonds, clubs, ace, king, queen, jack, ten.
abbrev pub seat_letters : Conventions → List ℕ
seat_letters c = take 4 c.letters

abbrev pub suit_letters : Conventions → List ℕ
suit_letters c = take 4 (drop 4 c.letters)

abbrev pub honour_letters : Conventions → List ℕ
honour_letters c = take 5 (drop 8 c.letters)

unfoldable pub built_in : Conventions
built_in = record { letters = ascii "NESWSHDCAKQJT" }

-- A to Z (65 to 90).
unfoldable pub is_capital : ℕ → Bool
is_capital b = leb 65 b && leb b 90

-- A letter a to z (97 to 122) as its capital, which is 32 below; any other byte as it is.
unfoldable pub capital : ℕ → ℕ
capital b = cond (ltb b 97) b (cond (ltb 122 b) b (b - 32))

-- The place of x in a list, the list's length where it is not there.
abbrev pub index_in : List ℕ → ℕ → ℕ
index_in l x = length (before x l)

unfoldable pub seat_of : Conventions → ℕ → ℕ
seat_of c b = index_in (seat_letters c) (capital b)

-- Letters stand from spades down to clubs, and from the ace down to the ten.
abbrev pub down_from : ℕ → ℕ → ℕ → ℕ → ℕ
down_from top count none i = cond (ltb i count) (top - i) none

unfoldable pub suit_of : Conventions → ℕ → ℕ
suit_of c b = down_from 3 4 4 (index_in (suit_letters c) (capital b))

unfoldable pub honour_of : Conventions → ℕ → ℕ
honour_of c b = down_from 12 5 13 (index_in (honour_letters c) (capital b))

-- Spot cards are the digits 2 to 9 (50 to 57).
unfoldable pub rank_of : Conventions → ℕ → ℕ
rank_of c b = cond (ltb b 50) (honour_of c b) (cond (ltb 57 b) (honour_of c b) (b - 50))

abbrev pub suit_strain : ℕ → ℕ
suit_strain s = cond (ltb s 4) s 5

-- N (78) or NT (78, 84) is notrump in every language; else a suit's letter.
abbrev pub strain_of : Conventions → List ℕ → ℕ
strain_of c [] = 5
strain_of c (a ∷ []) = cond (eqb (capital a) 78) 4 (suit_strain (suit_of c a))
strain_of c (a ∷ b ∷ []) = cond (eqb (capital a) 78 && eqb (capital b) 84) 4 5
strain_of c (a ∷ b ∷ d ∷ ds) = 5

-- As written: of a seat, a suit, a strain (NT is 78, 84) and a rank (2 is 50).
abbrev pub seat_letter : Conventions → ℕ → ℕ
seat_letter c s = get_or c.letters s 0

abbrev pub suit_letter : Conventions → ℕ → ℕ
suit_letter c s = get_or c.letters (7 - s) 0

abbrev pub strain_token : Conventions → ℕ → List ℕ
strain_token c s = cond (eqb s 4) (78 ∷ 84 ∷ []) (suit_letter c s ∷ [])

abbrev pub rank_letter : Conventions → ℕ → ℕ
rank_letter c r = cond (ltb r 8) (50 + r) (get_or c.letters (20 - r) 0)

-- All elements meet a test; x is among the elements; no two are the same.
abbrev pub every : (ℕ → Bool) → List ℕ → Bool
every p [] = true
every p (x ∷ xs) = p x && every p xs

abbrev pub among : ℕ → List ℕ → Bool
among x [] = false
among x (y ∷ ys) = eqb y x || among x ys

abbrev pub distinct : List ℕ → Bool
distinct [] = true
distinct (x ∷ xs) = not (among x xs) && distinct xs

-- Which letters are allowed: thirteen of A to Z; seats differ from each other, suits from each other, honours from each
-- other; no suit is N (78) or X (88).
pub record Accepted (c : Conventions) : Type 0 where
  pub thirteen : length c.letters ≡ 13
  pub capitals : every is_capital c.letters ≡ true
  pub seats_differ : distinct (seat_letters c) ≡ true
  pub suits_differ : distinct (suit_letters c) ≡ true
  pub honours_differ : distinct (honour_letters c) ≡ true
  pub no_suit_n : among 78 (suit_letters c) ≡ false
  pub no_suit_x : among 88 (suit_letters c) ≡ false

-- What a letter never is: white space, a quote (34), `[` (91), `]` (93), a colon (58), a dot (46), a digit (48 to 57).
unfoldable pub is_plain : ℕ → Bool
is_plain b = not (is_white b || (eqb b 34 || (eqb b 91 || (eqb b 93 || (eqb b 58 || (eqb b 46 || (leb 48 b && leb b 57)))))))
