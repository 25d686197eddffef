-- What the functions that write a board put, group by group; is are the entries whose remarks follow the tags.
use Rattle.std.specs.Prelude.{ℕ, zero, suc, ◌+◌, ◌-◌, ◌≡◌, cond, ◌&&◌, not, length, List, [], ◌∷◌, ◌++◌, eqb, ltb}
use Rattle.std.proofs.Math.Option.{Option, none, some}
use Rattle.tables.specs.declared.letters.Conventions.{Conventions}
use Rattle.tables.specs.Text.{ascii}
use Rattle.tables.specs.Tables.{digits_text}
use Rattle.reader.specs.Words.{vulnerability_token}
use Rattle.reader.specs.Deals.{hands_of_words, deal_text}
use Rattle.reader.specs.Plain.{Item}
use Rattle.writer.specs.declared.held.Board.{Board}
use Rattle.writer.specs.declared.present.Present.{Present}
use Rattle.writer.specs.Sections.{note_values}
use Rattle.writer.specs.PresentSteps.{is_any}
use Rattle.writer.specs.Pages.{built_in_header}
use Rattle.writer.specs.Tags.{or_empty, seat_text, result_text, first_seat}
use Rattle.writer.specs.Held.{card_word, card_part, items_at, board_items, section_items, value_held}
use Rattle.writer.specs.Items.{Leading, Unwritten, items_of, has_remarks, sought_text, after_text, tag_line_text, tagged_text, extras_text, result_in, auction_text, play_text, notes_text, tags_at, scoring_at, deal_place}

-- The entries from first on, scan of them.
abbrev pub scanned_items : List ℕ → List ℕ → List ℕ → ℕ → ℕ → List Item
scanned_items text cards entries b scan = items_at text entries (card_word cards b 0) scan

-- The value of the word i of the card b.
abbrev pub card_value : List ℕ → List ℕ → List ℕ → ℕ → ℕ → Option (List ℕ)
card_value text cards entries b i = value_held text entries (card_word cards b i)

-- The same of a board that is being written; a text of its group of tags.
abbrev pub word_of : Board → ℕ → ℕ
word_of b i = card_word b.cards.now b.index i

abbrev pub value_of : Board → ℕ → Option (List ℕ)
value_of b i = card_value b.remarks.text.now b.cards.now b.remarks.entries.now b.index i

abbrev pub of_board : (List ℕ → List ℕ → List ℕ → ℕ → List Item → List ℕ) → Board → List ℕ
of_board text_of b = text_of b.remarks.text.now b.cards.now b.remarks.entries.now b.index (items_of b.remarks)

abbrev pub optional_text : List ℕ → Option (List ℕ) → List Item → List ℕ
optional_text n none is = []
optional_text n (some v) is = tagged_text n v is

-- ---- before the deal

unfoldable pub title_text : List ℕ → List ℕ → List ℕ → ℕ → List Item → List ℕ
title_text text cards entries b is =
    tagged_text (ascii "Event") (or_empty (card_value text cards entries b 40)) is
    ++ tagged_text (ascii "Site") (or_empty (card_value text cards entries b 41)) is
    ++ tagged_text (ascii "Date") (or_empty (card_value text cards entries b 42)) is
    ++ optional_text (ascii "Board") (card_value text cards entries b 39) is

unfoldable pub players_text : List ℕ → List ℕ → List ℕ → ℕ → List Item → List ℕ
players_text text cards entries b is =
    tagged_text (ascii "West") (or_empty (card_value text cards entries b 47)) is
    ++ tagged_text (ascii "North") (or_empty (card_value text cards entries b 44)) is
    ++ tagged_text (ascii "East") (or_empty (card_value text cards entries b 45)) is
    ++ tagged_text (ascii "South") (or_empty (card_value text cards entries b 46)) is

unfoldable pub dealer_text : Conventions → ℕ → List Item → List ℕ
dealer_text c dealer is = cond (ltb dealer 4) (tagged_text (ascii "Dealer") (seat_text c dealer) is) []

-- The vulnerability as it is written: 4 is none read, which is None.
abbrev pub shown_vulnerable : ℕ → ℕ
shown_vulnerable v = cond (eqb v 4) 0 v

unfoldable pub head_text : Conventions → List ℕ → List ℕ → List ℕ → ℕ → List Item → List ℕ
head_text c text cards entries b is =
    title_text text cards entries b is
    ++ players_text text cards entries b is
    ++ dealer_text c (card_word cards b 4) is
    ++ tagged_text (ascii "Vulnerable") (vulnerability_token (shown_vulnerable (card_word cards b 5))) is

-- ---- from the deal on

abbrev pub deal_held : Conventions → List ℕ → ℕ → Option (List ℕ) → List ℕ
deal_held c cards b none = deal_text c (first_seat (card_word cards b 4)) (hands_of_words (card_part cards b 10 8))
deal_held c cards b (some v) = v

unfoldable pub contract_text : Conventions → List ℕ → List ℕ → List ℕ → ℕ → List Item → List ℕ
contract_text c text cards entries b is =
    tagged_text (ascii "Deal") (deal_held c cards b (card_value text cards entries b 48)) is
    ++ tagged_text (ascii "Scoring") (scoring_at text entries (card_word cards b 0) (card_word cards b 1)) is
    ++ tagged_text (ascii "Declarer") (seat_text c (card_word cards b 6)) is
    ++ tagged_text (ascii "Contract") (or_empty (card_value text cards entries b 43)) is
    ++ tagged_text (ascii "Result") (result_text (result_in (card_word cards b 7) (card_word cards b 8))) is

unfoldable pub table_text : List ℕ → ℕ → List Item → List ℕ
table_text cards b is = cond (eqb (card_word cards b 38) 0) [] (tagged_text (ascii "DoubleDummyTricks") (digits_text (card_part cards b 18 20)) is)

unfoldable pub analysis_text : List ℕ → List ℕ → List ℕ → ℕ → List Item → List ℕ
analysis_text text cards entries b is =
    table_text cards b is
    ++ optional_text (ascii "OptimumScore") (card_value text cards entries b 49) is
    ++ optional_text (ascii "ParContract") (card_value text cards entries b 50) is

-- ---- sections

-- A section's tag, its data lines and what follows it.
abbrev pub section_text : List ℕ → List ℕ → List ℕ → List Item → List ℕ
section_text n v rows is = tag_line_text n v ++ rows ++ after_text n is

-- The tags behind the auction's calls.
abbrev pub note_tags : List ℕ → List ℕ → List ℕ → ℕ → List (List ℕ)
note_tags text cards entries b = note_values (tags_at text entries (card_word cards b 51 - 1) (card_word cards b 0 + card_word cards b 1 - (card_word cards b 51 - 1)))

unfoldable pub bidding_text : Conventions → List ℕ → List ℕ → List ℕ → ℕ → List Item → List ℕ
bidding_text c text cards entries b is =
    cond (eqb (card_word cards b 51) 0) []
    (section_text (ascii "Auction") (seat_text c (card_word cards b 53)) (auction_text c (card_word cards b 54) (section_items text cards entries b 51)) is
    ++ notes_text [] (note_tags text cards entries b) is)

unfoldable pub cards_text : Conventions → List ℕ → List ℕ → List ℕ → ℕ → List Item → List ℕ
cards_text c text cards entries b is =
    cond (eqb (card_word cards b 55) 0) []
    (section_text (ascii "Play") (seat_text c (card_word cards b 57)) (play_text c (card_word cards b 58) (section_items text cards entries b 55)) is)

-- ---- a whole board

-- What of the board there is, by the words of its card.
unfoldable pub present_held : List ℕ → List ℕ → List ℕ → ℕ → Present
present_held text cards entries b =
    record {
      board = not (eqb (card_word cards b 39) 0);
      dealer = ltb (card_word cards b 4) 4;
      table = not (eqb (card_word cards b 38) 0);
      score = not (eqb (card_word cards b 49) 0);
      par = not (eqb (card_word cards b 50) 0);
      auction = not (eqb (card_word cards b 51) 0);
      notes = not (eqb (card_word cards b 51) 0) && is_any (note_tags text cards entries b);
      play = not (eqb (card_word cards b 55) 0);
    }

-- The entries from the first on whose remarks are put: all of them, or none where there is no remark.
unfoldable pub scan_of : List ℕ → List ℕ → List ℕ → ℕ → ℕ
scan_of text cards entries b = cond (has_remarks (board_items text cards entries b)) (card_word cards b 1) 0

abbrev pub present_in : Board → Present
present_in b = present_held b.remarks.text.now b.cards.now b.remarks.entries.now b.index

abbrev pub early : List ℕ → List ℕ → List ℕ → ℕ → ℕ
early text cards entries b = deal_place text entries (card_word cards b 0) (card_word cards b 1)

-- What belongs to a tag that is not written, p saying what there is: blocks, then directives.
abbrev pub unwritten_text : Present → List Item → List ℕ
unwritten_text p is = sought_text (Unwritten p) [] 4 is ++ sought_text (Unwritten p) [] 3 is

-- Up to the late supplemental tags, and from there on.
unfoldable pub front_text : Conventions → List ℕ → List ℕ → List ℕ → ℕ → List Item → List ℕ
front_text c text cards entries b is =
    sought_text Leading [] 4 is
    ++ head_text c text cards entries b is
    ++ extras_text text entries (card_word cards b 0) is (card_word cards b 0) (early text cards entries b)
    ++ contract_text c text cards entries b is
    ++ analysis_text text cards entries b is

unfoldable pub back_text : Conventions → List ℕ → List ℕ → List ℕ → ℕ → List Item → List ℕ
back_text c text cards entries b is =
    extras_text text entries (card_word cards b 0) is (card_word cards b 0 + early text cards entries b) (card_word cards b 1 - early text cards entries b)
    ++ bidding_text c text cards entries b is
    ++ cards_text c text cards entries b is
    ++ unwritten_text (present_held text cards entries b) is

-- The directives before every tag; the other lines.
unfoldable pub lead_held : List ℕ → List ℕ → List ℕ → ℕ → List ℕ
lead_held text cards entries b = sought_text Leading [] 3 (scanned_items text cards entries b (scan_of text cards entries b))

unfoldable pub body_held : Conventions → List ℕ → List ℕ → List ℕ → ℕ → List ℕ
body_held c text cards entries b =
    front_text c text cards entries b (scanned_items text cards entries b (scan_of text cards entries b))
    ++ back_text c text cards entries b (scanned_items text cards entries b (scan_of text cards entries b))

-- The board of the card at an index, as it is written.
pub record BoardHeld (text cards entries : List ℕ) (index : ℕ) (b : Board) : Type 0 where
  pub same_text : b.remarks.text.now ≡ text
  pub same_cards : b.cards.now ≡ cards
  pub same_entries : b.remarks.entries.now ≡ entries
  pub index_is : b.index ≡ index
  pub remarks_are : items_of b.remarks ≡ scanned_items text cards entries index (scan_of text cards entries index)

-- ---- the page

-- The file's header: the directives before the first board's first tag and an empty line (an LF, 10), or the built-in one.
unfoldable pub header_held : List ℕ → List ℕ
header_held lead = cond (eqb (length lead) 0) built_in_header (lead ++ 10 ∷ [])

-- Any other board, an empty line (an LF, 10) before it.
unfoldable pub next_held : Conventions → List ℕ → List ℕ → List ℕ → ℕ → List ℕ
next_held c text cards entries b = (10 ∷ []) ++ lead_held text cards entries b ++ body_held c text cards entries b

-- The parts of the n boards from b on.
abbrev pub parts_held : Conventions → List ℕ → List ℕ → List ℕ → ℕ → ℕ → List ℕ
parts_held c text cards entries b zero = []
parts_held c text cards entries b (suc n) = next_held c text cards entries b ++ parts_held c text cards entries (b + 1) n

unfoldable pub page_held : Conventions → List ℕ → List ℕ → List ℕ → ℕ → List ℕ
page_held c text cards entries n =
    cond (eqb n 0) built_in_header
    (header_held (lead_held text cards entries 0) ++ body_held c text cards entries 0 ++ parts_held c text cards entries 1 (n - 1))
