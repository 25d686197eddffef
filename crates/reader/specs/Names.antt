-- The tag names that a reader knows, by number.
use Rattle.std.specs.Prelude.{ℕ, ◌+◌, List, [], ◌∷◌, Option, Some, None, cond}
use Rattle.tables.specs.Text.{ascii}
use Rattle.reader.specs.Words.{same}
use Rattle.reader.specs.declared.names.TagName.{TagName}
use Rattle.reader.specs.declared.names.TagName.TheVariants.{Board, Dealer, Vulnerable, Deal, Event, Site, Date, Declarer, Contract, Result, North, East, South, West, Auction, Play, Note, DoubleDummyTricks, OptimumResultTable, OptimumScore, ParContract}

-- Numbered from 1.
unfoldable pub tag_names : List (List ℕ)
tag_names =
    ascii "Board"
    ∷ ascii "Dealer"
    ∷ ascii "Vulnerable"
    ∷ ascii "Deal"
    ∷ ascii "Event"
    ∷ ascii "Site"
    ∷ ascii "Date"
    ∷ ascii "Declarer"
    ∷ ascii "Contract"
    ∷ ascii "Result"
    ∷ ascii "North"
    ∷ ascii "East"
    ∷ ascii "South"
    ∷ ascii "West"
    ∷ ascii "Auction"
    ∷ ascii "Play"
    ∷ ascii "Note"
    ∷ ascii "DoubleDummyTricks"
    ∷ ascii "OptimumResultTable"
    ∷ ascii "OptimumScore"
    ∷ ascii "ParContract"
    ∷ []

-- Each name's number (pinned in proofs/NamePins.antt).
abbrev pub board_name : ℕ
board_name = 1

abbrev pub dealer_name : ℕ
dealer_name = 2

abbrev pub vulnerable_name : ℕ
vulnerable_name = 3

abbrev pub deal_name : ℕ
deal_name = 4

abbrev pub event_name : ℕ
event_name = 5

abbrev pub site_name : ℕ
site_name = 6

abbrev pub date_name : ℕ
date_name = 7

abbrev pub declarer_name : ℕ
declarer_name = 8

abbrev pub contract_name : ℕ
contract_name = 9

abbrev pub result_name : ℕ
result_name = 10

abbrev pub north_name : ℕ
north_name = 11

abbrev pub east_name : ℕ
east_name = 12

abbrev pub south_name : ℕ
south_name = 13

abbrev pub west_name : ℕ
west_name = 14

abbrev pub auction_name : ℕ
auction_name = 15

abbrev pub play_name : ℕ
play_name = 16

abbrev pub note_name : ℕ
note_name = 17

abbrev pub double_dummy_tricks_name : ℕ
double_dummy_tricks_name = 18

abbrev pub optimum_result_table_name : ℕ
optimum_result_table_name = 19

abbrev pub optimum_score_name : ℕ
optimum_score_name = 20

abbrev pub par_contract_name : ℕ
par_contract_name = 21

-- The number of the first of some names that is equal to a text, the first name's number being n; 0 where none is.
abbrev pub number_in : List (List ℕ) → List ℕ → ℕ → ℕ
number_in [] t n = 0
number_in (w ∷ ws) t n = cond (same w t) n (number_in ws t (n + 1))

-- The number of a tag name, compared byte by byte; 0 for any other.
unfoldable pub tag_number : List ℕ → ℕ
tag_number t = number_in tag_names t 1

-- The number of a name that is known, and 0 for none.
abbrev pub number_of : Option TagName → ℕ
number_of None = 0
number_of (Some Board) = board_name
number_of (Some Dealer) = dealer_name
number_of (Some Vulnerable) = vulnerable_name
number_of (Some Deal) = deal_name
number_of (Some Event) = event_name
number_of (Some Site) = site_name
number_of (Some Date) = date_name
number_of (Some Declarer) = declarer_name
number_of (Some Contract) = contract_name
number_of (Some Result) = result_name
number_of (Some North) = north_name
number_of (Some East) = east_name
number_of (Some South) = south_name
number_of (Some West) = west_name
number_of (Some Auction) = auction_name
number_of (Some Play) = play_name
number_of (Some Note) = note_name
number_of (Some DoubleDummyTricks) = double_dummy_tricks_name
number_of (Some OptimumResultTable) = optimum_result_table_name
number_of (Some OptimumScore) = optimum_score_name
number_of (Some ParContract) = par_contract_name
