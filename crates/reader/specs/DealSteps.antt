-- How the code reads a deal: card by card, each hand put to those before it. Equal to the definitions of Deals by laws.
use Rattle.std.specs.Prelude.{ℕ, ◌+◌, ◌-◌, ◌*◌, ◌^◌, ◌<◌, ◌≤◌, cond, List, [], ◌∷◌, Option, Some, None, option_map, IfSome, eqb}
use Rattle.tables.specs.declared.letters.Conventions.{Conventions}
use Rattle.tables.specs.Letters.{rank_of}
use Rattle.reader.specs.declared.deal.PartHand.{PartHand}
use Rattle.reader.specs.Tag.{◌>>=◌}
use Rattle.reader.specs.Deals.{DealRead, has, cards_named}

-- The cards of the hands read so far, as a number; None where a hand cannot be read.
abbrev pub HandRead : Type 0
HandRead = Option ℕ

-- The cards of a hand are put, one after the other, to the cards x of the hands before it.
abbrev pub place : ℕ → List ℕ → HandRead
place x [] = Some x
place x (k ∷ ks) = cond (has k x) None (place (x + 2 ^ k) ks)

abbrev pub cards_placed : ℕ → Option (List ℕ) → HandRead
cards_placed x o = o >>= place x

unfoldable pub hand_into : Conventions → ℕ → List ℕ → HandRead
hand_into c x t = cards_placed x (cards_named c t)

-- The card k put to the cards x.
abbrev pub card_added : ℕ → ℕ → HandRead
card_added x k = cond (has k x) None (Some (x + 2 ^ k))

unfoldable pub add_card : Conventions → ℕ → ℕ → ℕ → HandRead
add_card c x s b = cond (eqb (rank_of c b) 13) None (card_added x (13 * s + rank_of c b))

-- One byte: a dot (46) ends a suit, any other byte is a card.
unfoldable pub step_of : Conventions → PartHand → ℕ → Option PartHand
step_of c h b =
    cond (eqb b 46)
    (cond (eqb h.suit 0) None (Some (record { cards = h.cards; suit = h.suit - 1; room = h.room })))
    (cond (eqb h.room 0) None (option_map (λ x. record { cards = x; suit = h.suit; room = h.room - 1 }) (add_card c h.cards h.suit b)))

unfoldable pub end_of : PartHand → HandRead
end_of h = cond (eqb h.suit 0) (Some h.cards) None

abbrev pub run_from : Conventions → List ℕ → PartHand → HandRead
run_from c [] h = end_of h
run_from c (b ∷ bs) h = step_of c h b >>= λ k. run_from c bs k

abbrev pub start_hand : ℕ → PartHand
start_hand x = record { cards = x; suit = 3; room = 13 }

-- Four hands, each put to those before it.
unfoldable pub deal_words : Conventions → List ℕ → List ℕ → List ℕ → List ℕ → DealRead
deal_words c s t u v = do
  a ← hand_into c 0 s
  b ← hand_into c a t
  d ← hand_into c b u
  e ← hand_into c d v
  Some (record { north = a; east = b - a; south = d - b; west = e - d })

-- The cards x became those of r, below 2 ^ 52.
abbrev pub IsGrown : ℕ → HandRead → Type 0
IsGrown x r = IfSome r (λ y. (x ≤ y) × (y < 2 ^ 52))

pub record Fine (h : PartHand) : Type 0 where
  pub low : h.cards < 2 ^ 52
  pub suit_low : h.suit ≤ 3
  pub room_low : h.room ≤ 13

abbrev pub IsFine : ℕ → Option PartHand → Type 0
IsFine x r = IfSome r (λ h. Fine h × (x ≤ h.cards))
