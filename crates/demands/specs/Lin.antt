-- LIN boards on a page, and what is read back of them. The statements hold for every set of letters c that is allowed (`Accepted`), as the
-- built-in ones are; golavimes_lin_to_pbn writes with the built-in ones. The file of proofs/ that proves each is named beside it;
-- specs/WorkedLin.antt has a text that meets every premise.
use Rattle.std.specs.Prelude.{ℕ, zero, suc, ◌+◌, ◌-◌, ◌/◌, ◌%◌, ◌<◌, ◌≡◌, ◌↔◌, true, false, cond, List, [], ◌∷◌, ◌++◌, eqb, ltb, length, get_or}
use Rattle.std.proofs.Math.Option.{Option, none, some}
use Rattle.tables.specs.declared.letters.Conventions.{Conventions}
use Rattle.tables.specs.Letters.{Accepted, every}
use Rattle.reader.specs.Deals.{hand_words}
use Rattle.reader.specs.Records.{records_of}
use Rattle.reader.specs.Plain.{PlainCall, PlainAuction, PlainBoard, plain_of}
use Rattle.reader.specs.Editions.{cards_of}
use Rattle.planning.specs.Plans.{Boxes}
use Rattle.planning.specs.Demands.{WithDeal, Tabled, None, ListedIn}
use Rattle.writer.specs.Remarks.{lines_text}
use Rattle.writer.specs.Pages.{built_in_header}
use Rattle.writer.specs.Held.{entry_word, card_word, card_part}
use Rattle.lin.specs.Dealing.{Dealing, no_dealing, all_cards, is_deal, dealt_hands}
use Rattle.lin.specs.LinBoards.{LinBoard, lin_boards, has_bid, declarer_in, auction_of, play_of, lin_lines}
use Rattle.golavimes.specs.Answers.{PlanOut, LinOut}
use Rattle.demands.specs.Demand1.{boards_in}
use Rattle.demands.specs.Demand3.{finished_part}
use Rattle.demands.specs.Boards.{HandedBack}

-- ---- a board that a LIN text gives

-- It makes a deal; its dealer, its vulnerability, its calls, its cards dealt and played are what their numbers stand for.
pub record WellBoard (b : LinBoard) : Type 0 where
  pub makes_deal : is_deal b.dealing ≡ true
  pub dealt_low : every (λ k. ltb k 52) (all_cards b.dealing) ≡ true
  pub dealer_low : b.dealing.dealer < 4
  pub vulnerability_low : b.vulnerability < 4
  pub calls_low : every (λ k. ltb k 47) b.calls ≡ true
  pub cards_low : every (λ k. ltb k 52) b.cards ≡ true

-- ---- the records of a page

-- A board's lines as bytes.
abbrev pub lin_own : Conventions → LinBoard → List ℕ
lin_own c b = lines_text (lin_lines c b)

-- The record of one board.
pub data LinRecord (c : Conventions) (b : LinBoard) : List ℕ → Type 0 where
  last : LinRecord c b (lin_own c b)
  ended : LinRecord c b (lin_own c b ++ 10 ∷ [])
  only : LinRecord c b (built_in_header ++ lin_own c b)
  first : LinRecord c b ((built_in_header ++ lin_own c b) ++ 10 ∷ [])

-- ---- what a record is read back as

-- Dealer and calls of an auction. Its end is left out, since a call `+` sets it, and so are the tags before it.
abbrev pub Calls : Type 0
Calls = ℕ × List PlainCall

abbrev pub auction_calls : Option PlainAuction → Option Calls
auction_calls none = none
auction_calls (some a) = some (a.dealer, a.calls)

-- The plain board p is the board b: dealer, vulnerability, declarer, deal; the calls without annotations, and no auction where there are
-- none; the opening leader and the tricks with their leaders, slots and winners, and no play without a bid or without cards. It has no table.
pub record BackAs (b : LinBoard) (p : PlainBoard) : Type 0 where
  pub dealer_is : p.id.dealer ≡ b.dealing.dealer
  pub vulnerability_is : p.id.vulnerability ≡ b.vulnerability
  pub declarer_is : p.id.declarer ≡ declarer_in b
  pub deal_is : p.deal ≡ record { kind = 1; words = hand_words (dealt_hands b.dealing) }
  pub auction_is : auction_calls p.auction ≡ auction_calls (auction_of b.dealing.dealer b.calls)
  pub play_is : p.play ≡ play_of b
  pub no_table : p.table.kind ≡ 0

-- THEOREM (proofs/LinKept.antt).
abbrev pub LinBack : Type 0
LinBack = (c : Conventions) → Accepted c → (b : LinBoard) → WellBoard b → (r : List ℕ) → LinRecord c b r → BackAs b (plain_of c r)

-- ---- "The page, once taken, must yield the hands, calls and cards that were in the LIN text."

-- The codes (word 3) of the calls (kind 6) among the n entries from e on.
abbrev pub codes_from : List ℕ → ℕ → ℕ → List ℕ
codes_from entries e zero = []
codes_from entries e (suc n) = cond (eqb (entry_word entries e 0) 6) (entry_word entries e 3 ∷ codes_from entries (e + 1) n) (codes_from entries (e + 1) n)

-- The filled slots of a trick's word 3: a byte each, lowest first, 255 for an empty one.
abbrev pub filled_slot : ℕ → List ℕ
filled_slot k = cond (eqb k 255) [] (k ∷ [])

abbrev pub filled_slots : ℕ → List ℕ
filled_slots z = filled_slot (z % 256) ++ (filled_slot (z / 256 % 256) ++ (filled_slot (z / 65536 % 256) ++ filled_slot (z / 16777216 % 256)))

-- Those of the tricks (kind 8) among the n entries from e on, trick by trick.
abbrev pub slots_from : List ℕ → ℕ → ℕ → List ℕ
slots_from entries e zero = []
slots_from entries e (suc n) = cond (eqb (entry_word entries e 0) 8) (filled_slots (entry_word entries e 3) ++ slots_from entries (e + 1) n) (slots_from entries (e + 1) n)

-- The entries of an auction are those that words 51 and 52 give, the first entry plus 1 and how many; those of a play words 55 and 56. A
-- first word of 0 gives none.
abbrev pub calls_held : List ℕ → List ℕ → ℕ → List ℕ
calls_held cards entries k = cond (eqb (card_word cards k 51) 0) [] (codes_from entries (card_word cards k 51 - 1) (card_word cards k 52))

abbrev pub cards_held : List ℕ → List ℕ → ℕ → List ℕ
cards_held cards entries k = cond (eqb (card_word cards k 55) 0) [] (slots_from entries (card_word cards k 55 - 1) (card_word cards k 56))

-- The card k of the words lent for cards, and its entries, hold the board b.
pub record BoardKept (b : LinBoard) (cards entries : List ℕ) (k : ℕ) : Type 0 where
  -- The hands: word 9 says that the deal parsed, and words 10 to 17 are its hands.
  pub deal_parsed : card_word cards k 9 ≡ 1
  pub hands : card_part cards k 10 8 ≡ hand_words (dealt_hands b.dealing)
  pub dealer : card_word cards k 4 ≡ b.dealing.dealer
  pub vulnerability : card_word cards k 5 ≡ b.vulnerability
  pub declarer : card_word cards k 6 ≡ declarer_in b
  -- The calls, and no auction where there are none.
  pub calls : calls_held cards entries k ≡ b.calls
  pub no_calls : b.calls ≡ [] → card_word cards k 51 ≡ 0
  -- The cards where there was a bid, and no play where there was none.
  pub played : has_bid b ≡ true → cards_held cards entries k ≡ b.cards
  pub no_bid : has_bid b ≡ false → card_word cards k 55 ≡ 0

-- Without pairs; stands where a list has no board at a place.
abbrev pub no_lin_board : LinBoard
no_lin_board = record { dealing = no_dealing; vulnerability = 0; calls = []; cards = [] }

-- The page holds the boards bs, as many as golavimes_lin_to_pbn told, and so do the words handed back for it.
pub record AllKept (c : Conventions) (bs : List LinBoard) (told : ℕ) (page_text cards entries : List ℕ) : Type 0 where
  pub as_many_told : told ≡ length bs
  pub as_many_read : boards_in c page_text ≡ length bs
  pub each : (k : ℕ) → k < length bs → BoardKept (get_or bs k no_lin_board) cards entries k

-- THEOREM (proofs/LinKept.antt). golavimes_lin_to_pbn returned 0, and its page was read without refusal.
abbrev pub LinKept : Type 0
LinKept =
    (c : Conventions) → Accepted c → (text page page' answer' : List ℕ) → LinOut c text page page' answer' 0
    → (cards entries : List ℕ) → HandedBack c (finished_part page' answer') cards entries
    → AllKept c (lin_boards c text) (get_or answer' 4 0) (finished_part page' answer') cards entries

-- THEOREM (proofs/LinKept.antt). And each record of the page is read back as its board, which has each card at the seat that played it.
abbrev pub LinPlaced : Type 0
LinPlaced =
    (c : Conventions) → Accepted c → (text page page' answer' : List ℕ) → LinOut c text page page' answer' 0
    → (k : ℕ) → k < length (lin_boards c text)
    → BackAs (get_or (lin_boards c text) k no_lin_board) (plain_of c (get_or (records_of (finished_part page' answer')) k []))

-- ---- planning sees the deals of a LIN page

-- Each hand has 13 cards.
pub record Thirteen (d : Dealing) : Type 0 where
  pub north : length d.north ≡ 13
  pub east : length d.east ≡ 13
  pub south : length d.south ≡ 13
  pub west : length d.west ≡ 13

-- The dealing of the board k, from 0, of a text.
abbrev pub dealing_at : Conventions → List ℕ → ℕ → Dealing
dealing_at c text k = (get_or (lin_boards c text) k no_lin_board).dealing

-- THEOREM (proofs/LinPlanned.antt). A board with 13 cards in each hand is whole on the page, and has its deal, as planning sees it.
abbrev pub LinWhole : Type 0
LinWhole =
    (c : Conventions) → Accepted c → (text page page' answer' : List ℕ) → LinOut c text page page' answer' 0
    → (k : ℕ) → k < length (lin_boards c text) → Thirteen (dealing_at c text k)
    → WithDeal (dealt_hands (dealing_at c text k)) (get_or (cards_of c (finished_part page' answer')) k [])

-- THEOREM (proofs/LinPlanned.antt). So, planned as the new edition, the page has it listed for solving exactly when no board of the old edition
-- with that deal carries a table: no board of the page carries one.
abbrev pub LinListed : Type 0
LinListed =
    (c : Conventions) → Accepted c → (text page page' answer' : List ℕ) → LinOut c text page page' answer' 0
    → (old : List ℕ) (boxes : Boxes) (slips : List ℕ) (boxes' : Boxes) (slips' plan_answer' : List ℕ)
    → PlanOut c old (finished_part page' answer') boxes slips boxes' slips' plan_answer' 0
    → (k : ℕ) → k < length (lin_boards c text) → Thirteen (dealing_at c text k)
    → ListedIn (dealt_hands (dealing_at c text k)) (get_or plan_answer' 9 0) slips' ↔ None (Tabled (dealt_hands (dealing_at c text k))) (cards_of c old)
