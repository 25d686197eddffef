-- Worked examples of an md's value, by the built-in letters.
use Prim.Native.Nat.{ℕ, ◌+◌, ◌-◌, ◌^◌}
use mathlib.Core.Path.{◌≡◌, refl}
use mathlib.Core.List.{List, [], ◌∷◌, ◌++◌}
use Rattle.std.specs.Prelude.{Some, None}
use Rattle.tables.specs.Text.{ascii, is_white, is_inside, trimmed}
use Rattle.tables.specs.Letters.{built_in, suit_of, rank_of, honour_of, capital}
use Rattle.reader.specs.Words.{card_number}
use Rattle.lin.specs.declared.dealing.LinDealing.{LinDealing}
use Rattle.lin.specs.Dealing.{no_dealing, dealer_of, hand_of, unheld, east_of, dealing_in}
use Rattle.lin.specs.DealingSteps.{told}

unfoldable reading : List ℕ → LinDealing
unfolding is_white is_inside trimmed built_in suit_of rank_of honour_of capital card_number dealer_of hand_of unheld east_of
reading v = told (dealing_in built_in no_dealing (trimmed v))

abbrev deal : ℕ → ℕ → ℕ → ℕ → ℕ → LinDealing
deal d n e s w = record { dealer = d; hands = Some (record { north = n; east = e; south = s; west = w }) }

abbrev bad : ℕ → LinDealing
bad d = record { dealer = d; hands = None }

-- South has all spades, West all hearts, North all diamonds.
abbrev three : List ℕ
three = ascii "1SAKQJT98765432,HAKQJT98765432,DAKQJT98765432"

abbrev three_and : ℕ → LinDealing
three_and e = deal 2 67100672 e 4503049871556608 549688705024

-- Without a dealer's digit it does nothing.
pin_no_dealer : reading (ascii "0SA") ≡ deal 0 0 0 0 0
unfolding reading
pin_no_dealer = refl

pin_empty : reading [] ≡ deal 0 0 0 0 0
unfolding reading
pin_empty = refl

pin_south : reading (ascii "3SA") ≡ deal 0 0 0 (2 ^ 51) 0
unfolding reading
pin_south = refl

-- A dealer, and no card.
pin_digit : reading (ascii "4") ≡ deal 1 0 0 0 0
unfolding reading
pin_digit = refl

pin_commas : reading (ascii "2,,,") ≡ deal 3 0 0 0 0
unfolding reading
pin_commas = refl

pin_ten : reading (ascii "3S10") ≡ deal 0 0 0 0 0
unfolding reading
pin_ten = refl

-- East has the clubs where its field is missing or white.
pin_missing : reading three ≡ three_and 8191
unfolding reading
pin_missing = refl

pin_white : reading (three ++ ascii ", ,S2") ≡ three_and 8191
unfolding reading
pin_white = refl

pin_fifth : reading (three ++ ascii ",,S2") ≡ three_and 8191
unfolding reading
pin_fifth = refl

-- A field that names no card is a field.
pin_named : reading (three ++ ascii ",x") ≡ three_and 0
unfolding reading
pin_named = refl

pin_east : reading (three ++ ascii ",C2") ≡ three_and 1
unfolding reading
pin_east = refl

-- With twelve cards in one hand East has none.
pin_twelve : reading (ascii "1SAKQJT9876543,HAKQJT98765432,DAKQJT98765432") ≡ deal 2 67100672 0 (4503049871556608 - 2 ^ 39) 549688705024
unfolding reading
pin_twelve = refl

pin_twice : reading (ascii "1SAA") ≡ bad 2
unfolding reading
pin_twice = refl

pin_two_hands : reading (ascii "1SA,SA") ≡ bad 2
unfolding reading
pin_two_hands = refl

pin_fourteen : reading (ascii "1SAKQJT98765432H2") ≡ bad 2
unfolding reading
pin_fourteen = refl

-- Either case; other characters are passed over, a rank before any suit too.
pin_small : reading (ascii " 4sak xh2 ") ≡ deal 1 0 0 (2 ^ 51 + 2 ^ 50 + 2 ^ 26) 0
unfolding reading
pin_small = refl

pin_rank_first : reading (ascii "3AKQS2") ≡ deal 0 0 0 (2 ^ 39) 0
unfolding reading
pin_rank_first = refl

-- Characters of more than one byte: the dealer's, a suit's, a rank's.
pin_wide_dealer : reading (51 ∷ 128 ∷ 83 ∷ 65 ∷ []) ≡ deal 0 0 0 0 0
unfolding reading
pin_wide_dealer = refl

pin_wide_suit : reading (51 ∷ 83 ∷ 128 ∷ 65 ∷ []) ≡ deal 0 0 0 0 0
unfolding reading
pin_wide_suit = refl

pin_wide_rank : reading (51 ∷ 83 ∷ 65 ∷ 128 ∷ 75 ∷ []) ≡ deal 0 0 0 (2 ^ 50) 0
unfolding reading
pin_wide_rank = refl
