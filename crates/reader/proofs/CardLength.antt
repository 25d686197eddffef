-- A card has 64 words, whatever its record.
use Prim.Native.Nat.{ℕ, ◌+◌}
use mathlib.Core.Path.{◌≡◌}
use mathlib.Core.List.{List, [], ◌∷◌}
use lib.ListN.{length}
use Rattle.tables.specs.declared.letters.Conventions.{Conventions}
use Rattle.reader.specs.Boards.{record_out}
use Rattle.reader.specs.Records.{records_of}
use Rattle.reader.specs.Editions.{card_of, cards_from, cards_of}
use Rattle.reader.specs.EditionSteps.{FullCards, none, one}
use Rattle.reader.proofs.EditionLaws.{card_length}
use Rattle.reader.proofs.PlainBounds.{RecordBounded}

-- THEOREM. A card has 64 words.
pub CardLength : (c : Conventions) (a n : ℕ) (r : List ℕ) → length (card_of c a n r) ≡ 64
CardLength c a n r =
    let h = RecordBounded c r in
    card_length a (a + length r) n (length (record_out c r).entries) (record_out c r).state.board h.deal_in.words_eight h.table_in.twenty

cards_whole : (c : Conventions) (a n : ℕ) (rs : List (List ℕ)) → FullCards (cards_from c a n rs)
cards_whole c a n [] = none
cards_whole c a n (r ∷ rs) = one (CardLength c a n r) (cards_whole c (a + length r) (n + length (record_out c r).entries) rs)

-- THEOREM. So has every card of an edition.
pub CardsWhole : (c : Conventions) (text : List ℕ) → FullCards (cards_of c text)
unfolding cards_of
CardsWhole c text = cards_whole c 0 0 (records_of text)
