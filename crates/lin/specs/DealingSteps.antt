-- How the code reads a deal: card by card, each hand put to those before it.
use Rattle.std.specs.Prelude.{ℕ, ◌+◌, ◌^◌, ◌≤◌, ◌<◌, Bool, cond, ◌&&◌, Option, Some, None, IfSome, option_and_then, unwrap_or, List, [], ◌∷◌, ltb, leb, length, drop}
use Rattle.tables.specs.declared.letters.Conventions.{Conventions}
use Rattle.tables.specs.Text.{before, single}
use Rattle.tables.specs.Letters.{suit_of, rank_of}
use Rattle.reader.specs.declared.deal.Hands.{Hands}
use Rattle.reader.specs.Words.{card_number}
use Rattle.reader.specs.Deals.{has, card_count}
use Rattle.reader.specs.DealSteps.{HandRead}
use Rattle.lin.specs.declared.dealing.LinPart.{LinPart}
use Rattle.lin.specs.declared.dealing.LinDealing.{LinDealing}
use Rattle.lin.specs.Pairs.{parts}
use Rattle.lin.specs.Dealing.{Dealing, dealer_of, hand_of, east_of, dealt_by, is_deal, dealt_hands}

-- ---- a hand

-- One character.
abbrev pub card_to : LinPart → ℕ → Option LinPart
card_to h k = cond (has k h.cards) None (Some (record { cards = h.cards + 2 ^ k; suit = h.suit }))

unfoldable pub letter_step : Conventions → LinPart → ℕ → Option LinPart
letter_step c h b =
    cond (ltb (suit_of c b) 4) (Some (record { cards = h.cards; suit = Some (suit_of c b) }))
    (cond (ltb (card_number (unwrap_or h.suit 4) (rank_of c b)) 52) (card_to h (card_number (unwrap_or h.suit 4) (rank_of c b))) (Some h))

-- The cards x, and more.
abbrev pub IsGrownPart : ℕ → Option LinPart → Type 0
IsGrownPart x r = IfSome r (λ h. (x ≤ h.cards) × (h.cards < 2 ^ 52))

-- All characters.
abbrev pub hand_run : Conventions → LinPart → List ℕ → HandRead
hand_run c h [] = Some h.cards
hand_run c h (b ∷ bs) = option_and_then (λ g. hand_run c g bs) (letter_step c h b)

abbrev pub start_part : ℕ → LinPart
start_part x = record { cards = x; suit = None }

-- ---- fields

abbrev pub field_first : List ℕ → List ℕ
field_first s = before 44 s

abbrev pub fields_behind : List ℕ → List ℕ
fields_behind s = drop (length (before 44 s) + 1) s

-- ---- a deal

abbrev pub dealt_as : Dealing → Option Hands
dealt_as d = cond (is_deal d) (Some (dealt_hands d)) None

-- At most 13 cards in each hand.
abbrev pub are_few : Hands → Bool
are_few h = leb (card_count h.south) 13 && (leb (card_count h.west) 13 && (leb (card_count h.north) 13 && leb (card_count h.east) 13))

-- Of four fields, S, W, N, E.
abbrev pub of_fields : Conventions → List ℕ → List ℕ → List ℕ → List ℕ → Dealing
of_fields c s w n e =
    record { dealer = 0; north = hand_of c n; east = east_of c e (hand_of c s) (hand_of c w) (hand_of c n); south = hand_of c s; west = hand_of c w }

unfoldable pub hands_dealt : Conventions → List ℕ → List ℕ → List ℕ → List ℕ → Option Hands
hands_dealt c s w n e = dealt_as (of_fields c s w n e)

-- Of the fields of s.
unfoldable pub fields_dealt : Conventions → List ℕ → Option Hands
fields_dealt c s = dealt_as (dealt_by c 0 (parts 44 s))

-- ---- the deal in force

-- What the code keeps of a dealing: its dealer; its hands, where they make a deal.
abbrev pub told : Dealing → LinDealing
told d = record { dealer = d.dealer; hands = dealt_as d }

-- An md value, trimmed.
unfoldable pub told_in : Conventions → LinDealing → List ℕ → LinDealing
told_in c t [] = t
told_in c t (b ∷ bs) = cond (ltb (dealer_of (single b bs)) 4) (record { dealer = dealer_of (single b bs); hands = fields_dealt c bs }) t
