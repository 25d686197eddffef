-- The boards of a LIN text, and each as a plain board with the data lines of its play.
use Rattle.std.specs.Prelude.{ℕ, Bool, true, false, cond, ◌&&◌, ◌||◌, not, List, [], ◌∷◌, ◌++◌, map, eqb, replicate}
use Rattle.std.proofs.Math.Option.{Option, none, some}
use Rattle.tables.specs.declared.letters.Conventions.{Conventions}
use Rattle.reader.specs.Words.{trump_suit}
use Rattle.reader.specs.Deals.{hand_words}
use Rattle.reader.specs.Plain.{PlainCall, PlainAuction, PlainTrick, PlainPlay, PlainBoard}
use Rattle.writer.specs.Tags.{written_tags}
use Rattle.writer.specs.Remarks.{WrittenLine, body_lines, lines_text}
use Rattle.writer.specs.Pages.{built_in_header}
use Rattle.lin.specs.Pairs.{Pair}
use Rattle.lin.specs.Pieces.{board_pieces}
use Rattle.lin.specs.Dealing.{Dealing, no_dealing, dealing_from, has_card, is_deal, dealt_hands}
use Rattle.lin.specs.declared.bidding.Contract.{Contract}
use Rattle.lin.specs.Bidding.{vulnerability_from, calls_from, no_contract, contract_from, strain, next_seat, declarer_of, contract_token}
use Rattle.lin.specs.Playing.{cards_played, tricks_from, trick_lines}

-- ---- boards

pub record LinBoard : Type 0 where
  pub dealing : Dealing
  pub vulnerability : ℕ
  pub calls : List ℕ
  pub cards : List ℕ

unfoldable pub board_of : Conventions → List Pair → LinBoard
board_of c ps =
    record { dealing = dealing_from c no_dealing ps; vulnerability = vulnerability_from 0 ps; calls = calls_from c ps; cards = cards_played c ps }

unfoldable pub lin_boards : Conventions → List ℕ → List LinBoard
lin_boards c text = map (board_of c) (board_pieces text)

-- Some board has a card; and no board has a card twice or a hand of more than 13 cards.
abbrev pub any_card : List LinBoard → Bool
any_card [] = false
any_card (b ∷ bs) = has_card b.dealing || any_card bs

abbrev pub all_deals : List LinBoard → Bool
all_deals [] = true
all_deals (b ∷ bs) = is_deal b.dealing && all_deals bs

-- ---- what follows from the calls

-- Its contract and declarer; its opening leader, who sits after the declarer; its trump suit, 4 for notrump.
unfoldable pub contract_of : LinBoard → Contract
contract_of b = contract_from 0 no_contract b.calls

unfoldable pub declarer_in : LinBoard → ℕ
declarer_in b = declarer_of b.dealing.dealer (contract_of b) b.calls

abbrev pub opening_leader : LinBoard → ℕ
opening_leader b = next_seat (declarer_in b)

abbrev pub trump_of : LinBoard → ℕ
trump_of b = trump_suit (strain (contract_of b).bid)

abbrev pub has_bid : LinBoard → Bool
has_bid b = not (eqb (contract_of b).bid 0)

unfoldable pub lin_tricks : LinBoard → List PlainTrick
lin_tricks b = tricks_from (trump_of b) (opening_leader b) b.cards

-- ---- as a plain board

-- A call without annotation.
abbrev pub plain_call : ℕ → PlainCall
plain_call k = record { code = k; annotation = [] }

-- None where there are no calls.
abbrev pub auction_of : ℕ → List ℕ → Option PlainAuction
auction_of dealer [] = none
auction_of dealer (k ∷ ks) = some (record { dealer = dealer; end = 0; before = 0; calls = map plain_call (k ∷ ks) })

-- None without a bid, or without cards.
abbrev pub play_with : ℕ → List PlainTrick → Option PlainPlay
play_with leader [] = none
play_with leader (t ∷ ts) = some (record { leader = leader; end = 0; tricks = t ∷ ts })

abbrev pub play_of : LinBoard → Option PlainPlay
play_of b = cond (has_bid b) (play_with (opening_leader b) (lin_tricks b)) none

abbrev pub contract_value : Conventions → LinBoard → Option (List ℕ)
contract_value c b = cond (has_bid b) (some (contract_token c (contract_of b))) none

-- Dealer, vulnerability, declarer, deal, contract, calls and tricks, and nothing else. No line is written from the trump, so it is left at none (4).
unfoldable pub lin_plain : Conventions → LinBoard → PlainBoard
lin_plain c b =
    record {
      id = record { number_met = 0; number = 0; dealer = b.dealing.dealer; vulnerability = b.vulnerability; declarer = declarer_in b; result_met = 0; result = 0 };
      deal = record { kind = 1; words = hand_words (dealt_hands b.dealing) };
      table = record { kind = 0; cells = replicate 20 0 };
      values =
          record {
            id = none;
            event = none;
            site = none;
            date = none;
            contract = contract_value c b;
            north = none;
            east = none;
            south = none;
            west = none;
            deal = none;
            score = none;
            par = none;
          };
      tags = [];
      directives = [];
      blocks = [];
      auction = auction_of b.dealing.dealer b.calls;
      play = play_of b;
      trump = 4;
    }

-- Its lines as the writer writes them, but for the play's data, which stand by seat from the opening leader on.
unfoldable pub lin_play : Conventions → LinBoard → List (List ℕ)
lin_play c b = trick_lines c (opening_leader b) (lin_tricks b)

unfoldable pub lin_lines : Conventions → LinBoard → List WrittenLine
lin_lines c b = body_lines (lin_plain c b) (written_tags c (lin_plain c b) (lin_play c b))

-- ---- the page

-- The boards' lines in a row, an empty line (an LF, 10) before each but the first; before that the built-in header.
abbrev pub lin_next : Conventions → List LinBoard → List ℕ
lin_next c [] = []
lin_next c (b ∷ bs) = (10 ∷ lines_text (lin_lines c b)) ++ lin_next c bs

abbrev pub lin_page : Conventions → List LinBoard → List ℕ
lin_page c [] = built_in_header
lin_page c (b ∷ bs) = (built_in_header ++ lines_text (lin_lines c b)) ++ lin_next c bs

unfoldable pub lin_text : Conventions → List ℕ → List ℕ
lin_text c text = lin_page c (lin_boards c text)
