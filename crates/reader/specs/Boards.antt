-- A board: what each line of its record does to it, and the entries that the line adds. Places are counted from the record's
-- start, entries from its first.
use Rattle.reader.specs.declared.section.Kind.TheVariants.{Auction, Play, Optimum}
use Rattle.reader.specs.declared.section.Kind.{Kind}
use Rattle.std.specs.Prelude.{ℕ, ◌+◌, ◌-◌, List, [], ◌∷◌, ◌++◌, Bool, false, cond, ◌&&◌, ◌||◌, not, ltb, eqb, length, replicate, Some, None, Option, is_some, unwrap_or, Ok, Err}
use Rattle.tables.specs.declared.letters.Conventions.{Conventions}
use Rattle.tables.specs.Text.{is_white, lead, trimmed, first_character}
use Rattle.tables.specs.Numbers.{Number, number_of, signed_of}
use Rattle.tables.specs.Letters.{seat_of, every}
use Rattle.tables.specs.Tables.{TableReading, table_of_digits, gathered}
use Rattle.reader.specs.declared.store.Entry.{Entry}
use Rattle.reader.specs.declared.tag.Span.{Span}
use Rattle.reader.specs.declared.tag.Tag.{Tag}
use Rattle.reader.specs.declared.line.Line.{Line}
use Rattle.reader.specs.declared.line.Line.TheVariants.{Blank, Brace, Directive, Tag as TagOn, Bracket, Data}
use Rattle.reader.specs.declared.line.TagReading.{TagReading}
use Rattle.reader.specs.declared.line.TagReading.TheVariants.{Plain, WithComment, WithData}
use Rattle.reader.specs.declared.deal.Hands.{Hands}
use Rattle.reader.specs.declared.board.Identity.{Identity}
use Rattle.reader.specs.declared.board.DealCard.{DealCard}
use Rattle.reader.specs.declared.board.TableCard.{TableCard}
use Rattle.reader.specs.declared.board.Values.{Values}
use Rattle.reader.specs.declared.board.Section.{Section}
use Rattle.reader.specs.declared.board.Board.{Board}
use Rattle.reader.specs.declared.board.State.{State}
use Rattle.reader.specs.declared.section.Open.{Open}
use Rattle.reader.specs.declared.section.Walk.{Walk}
use Rattle.reader.specs.Lines.{line_kind, has_brace, last_brace}
use Rattle.reader.specs.Words.{same, contract_trump, vulnerability_of}
use Rattle.reader.specs.Names.{tag_number, board_name, dealer_name, vulnerable_name, deal_name, event_name, site_name, date_name, declarer_name, contract_name, result_name, north_name, east_name, south_name, west_name, auction_name, play_name, double_dummy_tricks_name, optimum_result_table_name, optimum_score_name, par_contract_name}
use Rattle.reader.specs.Deals.{DealRead, deal_of, hand_words}
use Rattle.reader.specs.Pieces.{Out, and_then, entry, raw_lines}
use Rattle.reader.specs.Tag.{cut}
use Rattle.reader.specs.Play.{last_trick}
use Rattle.reader.specs.Sections.{walked_all, kind_of, opener}

-- ---- what a tag's value does to a board

-- Option ℕ, dealer, vulnerability (4 where none was read), declarer, result plus 128. A bad one takes the earlier value away.
abbrev pub with_number : Identity → Number → Identity
with_number i None = record { number_met = 0; number = 0; dealer = i.dealer; vulnerability = i.vulnerability; declarer = i.declarer; result_met = i.result_met; result = i.result }
with_number i (Some v) = record { number_met = 1; number = v; dealer = i.dealer; vulnerability = i.vulnerability; declarer = i.declarer; result_met = i.result_met; result = i.result }

abbrev pub with_dealer : Identity → ℕ → Identity
with_dealer i s = record i { dealer = s }

abbrev pub with_vulnerability : Identity → ℕ → Identity
with_vulnerability i v = record i { vulnerability = v }

abbrev pub with_declarer : Identity → ℕ → Identity
with_declarer i s = record i { declarer = s }

abbrev pub with_result : Identity → Number → Identity
with_result i None = record { number_met = i.number_met; number = i.number; dealer = i.dealer; vulnerability = i.vulnerability; declarer = i.declarer; result_met = 0; result = 0 }
with_result i (Some v) = record { number_met = i.number_met; number = i.number; dealer = i.dealer; vulnerability = i.vulnerability; declarer = i.declarer; result_met = 1; result = v }

-- By the tag's number.
unfoldable pub identity_by : Conventions → ℕ → List ℕ → Identity → Identity
identity_by c k value i =
    cond (eqb k board_name) (with_number i (number_of 4294967295 value))
    (cond (eqb k dealer_name) (with_dealer i (seat_of c (first_character value)))
    (cond (eqb k vulnerable_name) (with_vulnerability i (vulnerability_of value))
    (cond (eqb k declarer_name) (with_declarer i (seat_of c (first_character value)))
    (cond (eqb k result_name) (with_result i (signed_of 128 value)) i))))

-- Deal: the last one that parsed; one that did not is kept as written, and wins, where it is not blank.
abbrev pub parsed_deal : Hands → DealCard → DealCard
parsed_deal h d = record { kind = cond (eqb d.kind 2) 2 1; words = hand_words h }

abbrev pub deal_read : DealRead → List ℕ → DealCard → DealCard
deal_read (Some h) value d = parsed_deal h d
deal_read None value d = record { kind = cond (eqb (length (trimmed value)) 0) d.kind 2; words = d.words }

unfoldable pub deal_by : Conventions → ℕ → List ℕ → DealCard → DealCard
deal_by c k value d = cond (eqb k deal_name) (deal_read (deal_of c value) value d) d

-- DoubleDummyTricks: never over a table of an OptimumResultTable; bad digits take an earlier one away.
abbrev pub digits_table : TableReading → TableCard
digits_table (Ok cells) = record { kind = 1; cells = cells }
digits_table (Err f) = record { kind = 0; cells = replicate 20 0 }

unfoldable pub table_by : ℕ → List ℕ → TableCard → TableCard
table_by k value t = cond (eqb k double_dummy_tricks_name && not (eqb t.kind 2)) (digits_table (table_of_digits value)) t

-- A contract is kept where it is neither empty nor `?` (63).
abbrev pub is_kept_contract : List ℕ → Bool
is_kept_contract value = not (eqb (length value) 0) && not (same (63 ∷ []) value)

-- Contract, where it is kept: the trump that a play takes from it.
unfoldable pub contract_by : Conventions → ℕ → List ℕ → ℕ → ℕ
contract_by c k value trump = cond (eqb k contract_name && is_kept_contract value) (contract_trump c value) trump

-- Whether the value's entry is kept on the card, of a tag that words 39 to 50 name (`value_put` puts no other). Board, Event, Site, Date and names: where it is not empty; Contract: nor `?`;
-- Deal: where it did not parse and is not blank; OptimumScore and ParContract: always.
abbrev pub is_unparsed : DealRead → List ℕ → Bool
is_unparsed (Some h) value = false
is_unparsed None value = not (eqb (length (trimmed value)) 0)

-- A tag other than Deal, and any tag.
unfoldable pub is_kept_value : ℕ → List ℕ → Bool
is_kept_value k value = cond (eqb k contract_name) (is_kept_contract value) ((eqb k optimum_score_name || eqb k par_contract_name) || not (eqb (length value) 0))

unfoldable pub is_kept : Conventions → ℕ → List ℕ → Bool
is_kept c k value = cond (eqb k deal_name) (is_unparsed (deal_of c value) value) (is_kept_value k value)

abbrev pub value_put : ℕ → ℕ → Values → Values
value_put k place v =
    record {
      id = cond (eqb k board_name) place v.id;
      event = cond (eqb k event_name) place v.event;
      site = cond (eqb k site_name) place v.site;
      date = cond (eqb k date_name) place v.date;
      contract = cond (eqb k contract_name) place v.contract;
      north = cond (eqb k north_name) place v.north;
      east = cond (eqb k east_name) place v.east;
      south = cond (eqb k south_name) place v.south;
      west = cond (eqb k west_name) place v.west;
      deal = cond (eqb k deal_name) place v.deal;
      score = cond (eqb k optimum_score_name) place v.score;
      par = cond (eqb k par_contract_name) place v.par;
    }

-- The values after a tag.
unfoldable pub values_by : Conventions → ℕ → List ℕ → ℕ → Values → Values
values_by c k value place v = cond (is_kept c k value) (value_put k place v) v

-- A board after a tag of number k; place is the value's entry plus 1.
unfoldable pub applied : Conventions → ℕ → List ℕ → ℕ → Board → Board
applied c k value place b =
    record b {
      id = identity_by c k value b.id;
      deal = deal_by c k value b.deal;
      table = table_by k value b.table;
      values = values_by c k value place b.values;
      contract = contract_by c k value b.contract;
    }

-- ---- sections

abbrev pub no_span : Option Span
no_span = None

abbrev pub no_open : Option Open
no_open = None

-- A section with a seat: none where the seat is bad.
abbrev pub seat_open : (ℕ → Kind) → ℕ → ℕ → Option Span → Option Open
seat_open kind seat at split = cond (ltb seat 4) (Some (record { kind = kind seat; at = at; split = split })) no_open

-- Auction, Play and OptimumResultTable open a section; at is where the lines after the tag start.
unfoldable pub open_by : Conventions → ℕ → List ℕ → ℕ → Option Span → Option Open
open_by c k value at split =
    cond (eqb k auction_name) (seat_open Auction (seat_of c (first_character value)) at split)
    (cond (eqb k play_name) (seat_open Play (seat_of c (first_character value)) at split)
    (cond (eqb k optimum_result_table_name) (Some (record { kind = Optimum; at = at; split = split })) no_open))

abbrev pub with_sections : Board → TableCard → Section → Section → ℕ → Board
with_sections b table auction play trump = record b { table = table; auction = auction; play = play; trump = trump }

-- The board after its open section: a section with tokens replaces an earlier one; a whole table of rows wins.
abbrev pub auction_closed : Board → ℕ → ℕ → Walk → Board
auction_closed b dealer n w =
    cond w.bidding.any
    (with_sections b b.table (record { first = n + 1; count = w.bidding.count; seat = dealer; end = w.bidding.end }) b.play b.trump)
    b

abbrev pub play_closed : Board → ℕ → ℕ → Walk → Board
play_closed b leader n w =
    cond w.tricks.any
    (with_sections b b.table b.auction (record { first = n + 1; count = (last_trick w.tricks).state.count; seat = leader; end = w.tricks.end }) b.contract)
    b

abbrev pub rows_closed : Board → TableReading → Board
rows_closed b (Ok cells) = with_sections b (record { kind = 2; cells = cells }) b.auction b.play b.trump
rows_closed b (Err f) = b

-- The cells of a table's rows, none after a bad row.
abbrev pub rows_taken : Board → Option (List ℕ) → Board
rows_taken b None = b
rows_taken b (Some cells) = rows_closed b (gathered cells)

abbrev pub table_closed : Board → Walk → Board
table_closed b w = rows_taken b w.rows

abbrev pub board_closed : Board → Option Open → ℕ → Walk → Board
board_closed b o n w = cond (eqb (kind_of o) 1) (auction_closed b (opener o) n w) (cond (eqb (kind_of o) 2) (play_closed b (opener o) n w) (table_closed b w))

-- Calls and tricks stand where their section closes; the trick that is open then is the last.
abbrev pub last_entries : ℕ → Walk → List Entry
last_entries kind w = cond (eqb kind 2) (last_trick w.tricks).entries []

abbrev pub closed_entries : Option Open → Out Walk → List Entry
closed_entries o w = w.entries ++ last_entries (kind_of o) w.state

abbrev pub closed_state : State → Board → ℕ → State
closed_state s b k = record s { board = b; section = no_open; n = s.n + k }

abbrev pub closed_by : State → Out Walk → Out State
closed_by s w =
    record {
      state = closed_state s (board_closed s.board s.section s.n w.state) (length (closed_entries s.section w));
      entries = closed_entries s.section w;
    }

unfoldable pub closed : Conventions → List ℕ → State → Out State
closed c r s = cond (eqb (kind_of s.section) 0) (record { state = s; entries = [] }) (closed_by s (walked_all c r s.section s.board.contract))

-- ---- lines

abbrev pub counted_state : State → ℕ → State
counted_state s k = record s { n = s.n + k }

abbrev pub adding : State → List Entry → Out State
adding s es = record { state = counted_state s (length es); entries = es }

-- A tag, once open sections are closed: its name, its value, and what its value does. p is the line's place, q the next line's.
unfoldable pub tagged : Conventions → State → ℕ → List ℕ → ℕ → Tag → Option Span → Out State
tagged c s p l q t split =
    record {
      state = record {
        board = applied c (tag_number (cut t.name l)) (cut t.value l) (s.n + 2) s.board;
        section = open_by c (tag_number (cut t.name l)) (cut t.value l) q split;
        tags = s.tags + 1;
        n = s.n + 2;
        commentary = None;
      };
      entries = entry 1 (p + t.name.start) t.name.len 0 ∷ entry 2 (p + t.value.start) t.value.len 0 ∷ [];
    }

-- A directive, with the number of tags before it; a comment on a tag's line counts its own tag.
abbrev pub directed : State → ℕ → Span → Out State
directed s p d = adding s (entry 3 (p + d.start) d.len s.tags ∷ [])

-- The entry of a data line, where a section is open.
abbrev pub data_entries : Option Open → ℕ → Span → List Entry
data_entries o p d = cond (eqb (kind_of o) 0) [] (entry 5 (p + d.start) d.len (kind_of o) ∷ [])

-- A data line: its entry, if a section is open.
abbrev pub data_added : State → ℕ → Span → Out State
data_added s p d = adding s (data_entries s.section p d)

-- A part of the line at p, as a part of the record.
abbrev pub at : ℕ → Span → Span
at p d = record { start = p + d.start; len = d.len }

-- A tag line, once open sections are closed: the tag, then the comment or the data behind it.
abbrev pub read_by : Conventions → State → ℕ → List ℕ → ℕ → TagReading → Out State
read_by c s p l q (Plain t) = tagged c s p l q t no_span
read_by c s p l q (WithComment t d) = and_then (tagged c s p l q t no_span) (directed (tagged c s p l q t no_span).state p d)
read_by c s p l q (WithData t d) = and_then (tagged c s p l q t (Some (at p d))) (data_added (tagged c s p l q t (Some (at p d))).state p d)

unfoldable pub tag_line_out : Conventions → List ℕ → State → ℕ → List ℕ → TagReading → Out State
tag_line_out c r s p l t = and_then (closed c r s) (read_by c (closed c r s).state p l (p + length l) t)

-- A commentary block of the record r, from i to j: raw bytes; one of white space alone has no entry.
abbrev pub is_all_white : List ℕ → ℕ → ℕ → Bool
is_all_white r i j = every is_white (cut (record { start = i; len = j - i }) r)

abbrev pub with_commentary : State → Option ℕ → State
with_commentary s commentary = record s { commentary = commentary }

-- Whether commentary is open, and where its block starts.
abbrev pub in_block : State → Bool
in_block s = is_some s.commentary

abbrev pub block_of : State → ℕ
block_of s = unwrap_or s.commentary 0

unfoldable pub blocked : List ℕ → State → ℕ → ℕ → Out State
blocked r s i j = adding (with_commentary s None) (cond (is_all_white r i j) [] (entry 4 i (j - i) s.tags ∷ []))

-- A line that opens commentary; its block starts after the `{`.
unfoldable pub braced : List ℕ → State → ℕ → List ℕ → Out State
braced r s p l =
    cond (has_brace l) (blocked r s (p + length (lead l) + 1) (p + last_brace l))
    (record { state = with_commentary s (Some (p + length (lead l) + 1)); entries = [] })

-- A line inside commentary.
unfoldable pub in_commentary : List ℕ → State → ℕ → List ℕ → Out State
in_commentary r s p l = cond (has_brace l) (blocked r s (block_of s) (p + last_brace l)) (record { state = s; entries = [] })

abbrev pub line_by : Conventions → List ℕ → State → ℕ → List ℕ → Line → Out State
line_by c r s p l Blank = record { state = s; entries = [] }
line_by c r s p l Brace = braced r s p l
line_by c r s p l (Directive d) = directed s p d
line_by c r s p l (TagOn t) = tag_line_out c r s p l t
line_by c r s p l Bracket = record { state = s; entries = [] }
line_by c r s p l (Data d) = data_added s p d

-- One line of the record r, at p.
unfoldable pub line_out : Conventions → List ℕ → State → ℕ → List ℕ → Out State
line_out c r s p l = cond (in_block s) (in_commentary r s p l) (line_by c r s p l (line_kind l))

-- The record's lines from p on; at its end an open section is closed.
abbrev pub lines_out : Conventions → List ℕ → State → ℕ → List (List ℕ) → Out State
lines_out c r s p [] = closed c r s
lines_out c r s p (l ∷ ls) = and_then (line_out c r s p l) (lines_out c r (line_out c r s p l).state (p + length l) ls)

-- ---- a record

abbrev pub no_section : Section
no_section = record { first = 0; count = 0; seat = 4; end = 0 }

abbrev pub no_board : Board
no_board =
    record {
      id = record { number_met = 0; number = 0; dealer = 4; vulnerability = 4; declarer = 4; result_met = 0; result = 0 };
      deal = record { kind = 0; words = replicate 8 0 };
      table = record { kind = 0; cells = replicate 20 0 };
      values = record { id = 0; event = 0; site = 0; date = 0; contract = 0; north = 0; east = 0; south = 0; west = 0; deal = 0; score = 0; par = 0 };
      auction = no_section;
      play = no_section;
      trump = 4;
      contract = 4;
    }

abbrev pub no_state : State
no_state = record { board = no_board; section = no_open; tags = 0; n = 0; commentary = None }

-- What the text of a record reads as: its board, and its entries.
unfoldable pub record_out : Conventions → List ℕ → Out State
record_out c r = lines_out c r no_state 0 (raw_lines r)
