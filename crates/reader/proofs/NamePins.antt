-- The number of each tag name, and of names that are near.
use mathlib.Core.Path.{◌≡◌, refl}
use Rattle.tables.specs.Text.{ascii}
use Rattle.reader.specs.Names.{tag_names, tag_number, board_name, dealer_name, vulnerable_name, deal_name, event_name, site_name, date_name, declarer_name, contract_name, result_name, north_name, east_name, south_name, west_name, auction_name, play_name, note_name, double_dummy_tricks_name, optimum_result_table_name, optimum_score_name, par_contract_name}

pub name_board : tag_number (ascii "Board") ≡ board_name
unfolding tag_names tag_number
name_board = refl

pub name_dealer : tag_number (ascii "Dealer") ≡ dealer_name
unfolding tag_names tag_number
name_dealer = refl

pub name_vulnerable : tag_number (ascii "Vulnerable") ≡ vulnerable_name
unfolding tag_names tag_number
name_vulnerable = refl

pub name_deal : tag_number (ascii "Deal") ≡ deal_name
unfolding tag_names tag_number
name_deal = refl

pub name_event : tag_number (ascii "Event") ≡ event_name
unfolding tag_names tag_number
name_event = refl

pub name_site : tag_number (ascii "Site") ≡ site_name
unfolding tag_names tag_number
name_site = refl

pub name_date : tag_number (ascii "Date") ≡ date_name
unfolding tag_names tag_number
name_date = refl

pub name_declarer : tag_number (ascii "Declarer") ≡ declarer_name
unfolding tag_names tag_number
name_declarer = refl

pub name_contract : tag_number (ascii "Contract") ≡ contract_name
unfolding tag_names tag_number
name_contract = refl

pub name_result : tag_number (ascii "Result") ≡ result_name
unfolding tag_names tag_number
name_result = refl

pub name_north : tag_number (ascii "North") ≡ north_name
unfolding tag_names tag_number
name_north = refl

pub name_east : tag_number (ascii "East") ≡ east_name
unfolding tag_names tag_number
name_east = refl

pub name_south : tag_number (ascii "South") ≡ south_name
unfolding tag_names tag_number
name_south = refl

pub name_west : tag_number (ascii "West") ≡ west_name
unfolding tag_names tag_number
name_west = refl

pub name_auction : tag_number (ascii "Auction") ≡ auction_name
unfolding tag_names tag_number
name_auction = refl

pub name_play : tag_number (ascii "Play") ≡ play_name
unfolding tag_names tag_number
name_play = refl

pub name_note : tag_number (ascii "Note") ≡ note_name
unfolding tag_names tag_number
name_note = refl

pub name_double_dummy_tricks : tag_number (ascii "DoubleDummyTricks") ≡ double_dummy_tricks_name
unfolding tag_names tag_number
name_double_dummy_tricks = refl

pub name_optimum_result_table : tag_number (ascii "OptimumResultTable") ≡ optimum_result_table_name
unfolding tag_names tag_number
name_optimum_result_table = refl

pub name_optimum_score : tag_number (ascii "OptimumScore") ≡ optimum_score_name
unfolding tag_names tag_number
name_optimum_score = refl

pub name_par_contract : tag_number (ascii "ParContract") ≡ par_contract_name
unfolding tag_names tag_number
name_par_contract = refl

-- Case counts, and so does every byte.
pub no_name_small : tag_number (ascii "board") ≡ 0
unfolding tag_names tag_number
no_name_small = refl

pub no_name_capitals : tag_number (ascii "BOARD") ≡ 0
unfolding tag_names tag_number
no_name_capitals = refl

pub no_name_longer : tag_number (ascii "Boards") ≡ 0
unfolding tag_names tag_number
no_name_longer = refl

pub no_name_shorter : tag_number (ascii "Boar") ≡ 0
unfolding tag_names tag_number
no_name_shorter = refl

pub no_name_deals : tag_number (ascii "Deals") ≡ 0
unfolding tag_names tag_number
no_name_deals = refl

pub no_name_blank : tag_number (ascii "Board ") ≡ 0
unfolding tag_names tag_number
no_name_blank = refl

pub no_name_scoring : tag_number (ascii "Scoring") ≡ 0
unfolding tag_names tag_number
no_name_scoring = refl

pub no_name_empty : tag_number (ascii "") ≡ 0
unfolding tag_names tag_number
no_name_empty = refl
