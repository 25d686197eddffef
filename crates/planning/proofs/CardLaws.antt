-- What planning reads of a card does not depend on where the board's record stands, and boards with the same hands have the same words.
use Prim.Native.Nat.{ℕ, ◌+◌}
use mathlib.Core.Path.{◌≡◌, sym, ◌∙◌, ap}
use mathlib.Core.List.{List, [], ◌∷◌}
use lib.ListN.{length}
use Rattle.tables.specs.declared.letters.Conventions.{Conventions}
use Rattle.reader.specs.Boards.{record_out}
use Rattle.reader.specs.Deals.{hand_words}
use Rattle.reader.specs.Editions.{card_of, cards_from, cards_of}
use Rattle.reader.specs.Plain.{plain_of}
use Rattle.reader.specs.Records.{records_of}
use Rattle.reader.proofs.PlainDeal.{PlainDealKept}
use Rattle.reader.proofs.CardKept.{CardKept}
use Rattle.planning.specs.Cards.{card_deal, hands_of, is_whole, has_table}
use Rattle.planning.specs.Demands.{Among}
use Rattle.planning.proofs.FoundLaws.{among_cases}

-- ---- one record

deal_words_lem : (c : Conventions) (a n : ℕ) (r : List ℕ) → card_deal (card_of c a n r) ≡ (plain_of c r).deal.words
unfolding card_deal
deal_words_lem c a n r = (CardKept c a n r).words_10

-- THEOREM. A board's deal and table do not move with its record.
pub SameDeal : (c : Conventions) (a n a' n' : ℕ) (r : List ℕ) → card_deal (card_of c a n r) ≡ card_deal (card_of c a' n' r)
SameDeal c a n a' n' r = deal_words_lem c a n r ∙ sym (deal_words_lem c a' n' r)

pub SameWhole : (c : Conventions) (a n a' n' : ℕ) (r : List ℕ) → is_whole (card_of c a n r) ≡ is_whole (card_of c a' n' r)
unfolding is_whole
SameWhole c a n a' n' r = rw ((CardKept c a n r).word_9, (CardKept c a' n' r).word_9, SameDeal c a n a' n' r)

pub SameTable : (c : Conventions) (a n a' n' : ℕ) (r : List ℕ) → has_table (card_of c a n r) ≡ has_table (card_of c a' n' r)
unfolding has_table
SameTable c a n a' n' r = rw ((CardKept c a n r).word_38, (CardKept c a' n' r).word_38)

-- ---- all cards of an edition

-- The words of a card's deal are those of its hands.
abbrev pub OfHands : List ℕ → Type 0
OfHands x = hand_words (hands_of x) ≡ card_deal x

abbrev pub Handed : List (List ℕ) → Type 0
Handed xs = (x : List ℕ) → Among x xs → OfHands x

card_handed : (c : Conventions) (a n : ℕ) (r : List ℕ) → OfHands (card_of c a n r)
card_handed c a n r = rw (deal_words_lem c a n r) (PlainDealKept c r).words_back

cards_handed : (c : Conventions) (a n : ℕ) (rs : List (List ℕ)) → Handed (cards_from c a n rs)
cards_handed c a n [] x i = elim i [ ]
cards_handed c a n (r ∷ rs) x i = among_cases OfHands i (card_handed c a n r) (cards_handed c (a + length r) (n + length (record_out c r).entries) rs x)

-- THEOREM. So it is on every card of an edition.
pub CardsHanded : (c : Conventions) (text : List ℕ) → Handed (cards_of c text)
unfolding cards_of
CardsHanded c text = cards_handed c 0 0 (records_of text)

-- Then the same hands are the same words.
pub hands_words : (x y : List ℕ) → OfHands x → OfHands y → hands_of x ≡ hands_of y → card_deal x ≡ card_deal y
hands_words x y g h e = sym g ∙ ap hand_words e ∙ h
