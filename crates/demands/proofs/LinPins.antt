-- Worked examples of the data lines of a LIN board's play, by the built-in letters.
use Prim.Native.Nat.{ℕ}
use mathlib.Core.Path.{◌≡◌, refl}
use mathlib.Core.List.{List, [], ◌∷◌}
use native.Mathlib.Omega.{arith}
use Rattle.tables.specs.Text.{ascii}
use Rattle.tables.specs.Letters.{built_in}
use Rattle.reader.specs.Play.{weight, best_slot}
use Rattle.lin.specs.Bidding.{with_call, declarer_of, names}
use Rattle.lin.specs.Playing.{slot_at, slot_word}
use Rattle.lin.specs.LinBoards.{LinBoard, lin_play, lin_tricks, contract_of, declarer_in}
use Rattle.demands.specs.Lin.{WellBoard}

-- North deals and has the ace of spades.
abbrev board : List ℕ → List ℕ → LinBoard
board calls cards = record { dealing = record { dealer = 0; north = 51 ∷ []; east = []; south = []; west = [] }; vulnerability = 0; calls = calls; cards = cards }

-- 1NT by North: East leads, and South wins with the ace of diamonds.
pin_gaps : lin_play built_in (board (5 ∷ []) (13 ∷ 25 ∷ 17 ∷ 16 ∷ 40 ∷ 39 ∷ [])) ≡ ascii "D2 DA D6 D5" ∷ ascii "- S3 S2 -" ∷ []
unfolding lin_play lin_tricks contract_of declarer_in with_call declarer_of names slot_at slot_word built_in weight best_slot
pin_gaps = refl

-- 1H by North: South ruffs.
pin_ruff : lin_play built_in (board (3 ∷ []) (13 ∷ 26 ∷ 17 ∷ 16 ∷ 12 ∷ [])) ≡ ascii "D2 H2 D6 D5" ∷ ascii "- CA - -" ∷ []
unfolding lin_play lin_tricks contract_of declarer_in with_call declarer_of names slot_at slot_word built_in weight best_slot
pin_ruff = refl

-- The first of equal cards wins.
pin_equals : lin_play built_in (board (5 ∷ []) (13 ∷ 13 ∷ 13 ∷ 13 ∷ 13 ∷ [])) ≡ ascii "D2 D2 D2 D2" ∷ ascii "D2 - - -" ∷ []
unfolding lin_play lin_tricks contract_of declarer_in with_call declarer_of names slot_at slot_word built_in weight best_slot
pin_equals = refl

-- Such a board is one of those that are read back.
pin_well : WellBoard (board (5 ∷ []) (13 ∷ 25 ∷ 17 ∷ 16 ∷ 40 ∷ 39 ∷ []))
pin_well = record { makes_deal = refl; dealt_low = refl; dealer_low = omega arith; vulnerability_low = omega arith; calls_low = refl; cards_low = refl }
