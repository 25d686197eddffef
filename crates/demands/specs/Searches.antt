-- How many words a search for an equal deal compares on a board that it leaves.
use Rattle.std.specs.Prelude.{ℕ, ◌≤◌, ◌≡◌, Bool, true, false, List}
use Rattle.tables.specs.declared.letters.Conventions.{Conventions}
use Rattle.reader.specs.Editions.{cards_of}
use Rattle.planning.specs.Cards.{card_deal, is_whole, fits}
use Rattle.planning.specs.Searches.{passed_over, compared}
use Rattle.planning.specs.Demands.{Among}

-- THEOREM (proofs/LeftBySix.antt). On a board of an edition that is left, 1 to 6 words are compared for the deal of a whole board of an
-- edition: three equal hands leave the same cards for the fourth.
abbrev pub LeftBySix : Type 0
LeftBySix =
    (c : Conventions) (text text' x y : List ℕ) (tabled : Bool)
    → Among x (cards_of c text) → Among y (cards_of c text')
    → is_whole x ≡ true → passed_over tabled y ≡ false → fits tabled (card_deal x) y ≡ false
    → (1 ≤ compared tabled (card_deal x) y) × (compared tabled (card_deal x) y ≤ 6)
