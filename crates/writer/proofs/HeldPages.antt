-- What the functions put on a page, once an edition was read, is what the edition is written as.
use Prim.Native.Nat.{ℕ, zero, suc, ◌+◌, ◌-◌, ◌≤◌, ◌<◌}
use mathlib.Core.Path.{◌≡◌, refl, sym, ◌∙◌}
use mathlib.Core.Bool.{false, ◌&&◌, not}
use mathlib.Core.List.{List, [], ◌∷◌, ◌++◌, append_assoc, append-nil}
use mathlib.Core.Option.{Option, none, some}
use native.Mathlib.Omega.{arith}
use lib.Dec.{eqb, ltb}
use lib.ListN.{length, drop, length-append}
use borrow.Author.Tests.{eqb-false, ne_eqb}
use Rattle.tables.specs.declared.letters.Conventions.{Conventions}
use Rattle.tables.specs.Text.{ascii}
use Rattle.tables.specs.Tables.{digits_text}
use Rattle.tables.proofs.Laws.{by_cases}
use Rattle.reader.specs.Plain.{Item, PlainAuction, PlainPlay, tags_in, calls_in, tricks_in}
use Rattle.reader.specs.Tag.{tag_text}
use Rattle.reader.specs.Editions.{cards_of}
use Rattle.writer.specs.Sections.{note_values}
use Rattle.writer.specs.Tags.{WrittenTag, tag_of, if_there, dealer_tags, seat_text, result_text, deal_value, first_value, head_tags, table_tags, deal_tags, early_extras, late_extras, play_tags}
use Rattle.writer.specs.Remarks.{WrittenLine, tag_line, data_line, directive_line, block_line, lines_text, line_text, leading_lines}
use Rattle.writer.specs.Pages.{own_play, body_text, page_header, first_part, next_part, next_parts, page_text, written_text}
use Rattle.writer.specs.PresentSteps.{is_there, is_any, has_notes, present_of}
use Rattle.writer.specs.Held.{card_word, card_part, items_at, value_held, board_items, items_up_to, section_items, auction_held, play_held, values_held, board_held, boards_held}
use Rattle.writer.specs.Items.{Leading, Unwritten, sought_by, is_first, sought_text, tag_line_text, tagged_text, extras_text, full_text, group_text, scoring_at, deal_place, has_remarks, result_in}
use Rattle.writer.specs.BoardTexts.{scanned_items, card_value, optional_text, title_text, players_text, dealer_text, head_text, deal_held, contract_text, table_text, analysis_text, note_tags, bidding_text, cards_text, present_held, scan_of, early, front_text, unwritten_text, back_text, lead_held, body_held, header_held, next_held, parts_held, page_held}
use Rattle.writer.proofs.RemarkTexts.{remarks_none, after_none}
use Rattle.writer.proofs.GroupTexts.{groups_join, group_none, notes_none}
use Rattle.writer.proofs.SectionTexts.{AuctionText, PlayText}
use Rattle.writer.proofs.ExtraTexts.{EarlyText, LateText, ValueText}
use Rattle.writer.proofs.BodyTexts.{auction_part, tags_part, LeadingText, BodyText}
use Rattle.writer.proofs.HeldBoards.{Holds, HeldPage}
use Rattle.writer.proofs.HeldItems.{EntriesHeld, EveryHeldBoard, held_of, NotesHeld}

-- A tag without data lines.
tagged_full : (n v : List ℕ) (is : List Item) → full_text (record { name = n; value = v; lines = [] }) is ≡ tagged_text n v is
unfolding full_text tagged_text
tagged_full n v is = rw (append-nil (tag_line_text n v))

tag_full : (w : WrittenTag) (ws : List WrittenTag) (is : List Item) → w.lines ≡ [] → group_text (w ∷ ws) is ≡ tagged_text w.name w.value is ++ group_text ws is
unfolding full_text tagged_text
tag_full w ws is e = rw (e, append-nil (tag_line_text w.name w.value))

optional_group : (n : Prim.Native.String.String) (o : Option (List ℕ)) (is : List Item) → group_text (if_there n o) is ≡ optional_text (ascii n) o is
optional_group n none is = refl
optional_group n (some v) is = tag_full (tag_of n v) [] is refl ∙ append-nil (tagged_text (ascii n) v is)

module _ (c : Conventions) (text cards entries : List ℕ) (k : ℕ) where
  -- ---- before the deal

  dealer_group : (is : List Item) → group_text (dealer_tags c (card_word cards k 4)) is ≡ dealer_text c (card_word cards k 4) is
  unfolding dealer_text
  dealer_group is =
      by_cases (ltb (card_word cards k 4) 4)
      (λ q. rw q (tag_full (tag_of "Dealer" (seat_text c (card_word cards k 4))) [] is refl ∙ append-nil (tagged_text (ascii "Dealer") (seat_text c (card_word cards k 4)) is)))
      (λ q. rw q)

  head_group : (is : List Item) → head_text c text cards entries k is ≡ group_text (head_tags c (board_held text cards entries k)) is
  unfolding head_text title_text players_text head_tags board_held values_held
  head_group is = sym (
      rw (
        groups_join (if_there "Board" (card_value text cards entries k 39)) _ is,
        groups_join (dealer_tags c (card_word cards k 4)) _ is,
        optional_group "Board" (card_value text cards entries k 39) is,
        dealer_group is,
      )
      (simp (tagged_full, append_assoc, append-nil)))

  -- ---- from the deal on

  deal_same : (o : Option (List ℕ)) → deal_value c (board_held text cards entries k) o ≡ deal_held c cards k o
  unfolding board_held
  deal_same none = refl
  deal_same (some v) = refl

  result_same : result_text (board_held text cards entries k).id ≡ result_text (result_in (card_word cards k 7) (card_word cards k 8))
  unfolding board_held result_text
  result_same = refl

  table_group : (is : List Item) → group_text (table_tags (board_held text cards entries k).table) is ≡ table_text cards k is
  unfolding board_held table_tags table_text
  table_group is =
      by_cases (eqb (card_word cards k 38) 0)
      (λ q. rw q)
      (λ q. rw q (tag_full (tag_of "DoubleDummyTricks" (digits_text (card_part cards k 18 20))) [] is refl ∙ append-nil (tagged_text (ascii "DoubleDummyTricks") (digits_text (card_part cards k 18 20)) is)))

  deal_group : (is : List Item) → scoring_at text entries (card_word cards k 0) (card_word cards k 1) ≡ first_value (ascii "Scoring") (board_held text cards entries k).tags
      → contract_text c text cards entries k is ++ analysis_text text cards entries k is ≡ group_text (deal_tags c (board_held text cards entries k)) is
  unfolding contract_text analysis_text deal_tags board_held values_held
  deal_group is e = sym (
      rw (
        groups_join (table_tags (board_held text cards entries k).table) _ is,
        groups_join (if_there "OptimumScore" (board_held text cards entries k).values.score) _ is,
        optional_group "OptimumScore" (board_held text cards entries k).values.score is,
        optional_group "ParContract" (board_held text cards entries k).values.par is,
        table_group is,
        deal_same (board_held text cards entries k).values.deal,
        result_same,
        ← e,
      )
      (simp (tagged_full, append_assoc, append-nil)))

  -- ---- sections

  abbrev own_auction : PlainAuction
  own_auction =
      record {
        dealer = card_word cards k 53;
        end = card_word cards k 54;
        before = length (tags_in (items_up_to text cards entries k 51));
        calls = calls_in (section_items text cards entries k 51);
      }

  auction_group_lem : EntriesHeld text cards entries k → (is : List Item)
      → bidding_text c text cards entries k is ≡ auction_part c (board_held text cards entries k).tags (board_held text cards entries k).auction is
  unfolding bidding_text board_held auction_held full_text
  auction_group_lem f is =
      by_cases (eqb (card_word cards k 51) 0)
      (λ q. rw q)
      (λ q. rw (q, AuctionText c own_auction (section_items text cards entries k 51) refl, NotesHeld f (eqb-false (card_word cards k 51) 0 q)))

  abbrev play_on : PlainPlay
  play_on = record { leader = card_word cards k 57; end = card_word cards k 58; tricks = tricks_in (section_items text cards entries k 55) }

  play_group : (is : List Item)
      → cards_text c text cards entries k is ≡ group_text (play_tags c (own_play c (board_held text cards entries k).play) (board_held text cards entries k).play) is
  unfolding cards_text board_held play_held play_tags full_text
  play_group is =
      by_cases (eqb (card_word cards k 55) 0)
      (λ q. rw q)
      (λ q. rw (q, PlayText c play_on (section_items text cards entries k 55) refl) (sym (append-nil _)))

  -- ---- what there is

  value_there : (w : ℕ) → is_there (value_held text entries w) ≡ not (eqb w 0)
  unfolding value_held
  value_there w = by_cases (eqb w 0) (λ q. rw q) (λ q. rw q)

  auction_there : is_there (auction_held text cards entries k) ≡ not (eqb (card_word cards k 51) 0)
  unfolding auction_held
  auction_there = by_cases (eqb (card_word cards k 51) 0) (λ q. rw q) (λ q. rw q)

  play_there : is_there (play_held text cards entries k) ≡ not (eqb (card_word cards k 55) 0)
  unfolding play_held
  play_there = by_cases (eqb (card_word cards k 55) 0) (λ q. rw q) (λ q. rw q)

  notes_there : EntriesHeld text cards entries k
      → has_notes (tags_in (board_items text cards entries k)) (auction_held text cards entries k) ≡ (not (eqb (card_word cards k 51) 0) && is_any (note_tags text cards entries k))
  unfolding auction_held
  notes_there f =
      by_cases (eqb (card_word cards k 51) 0)
      (λ q. rw q)
      (λ q. rw (q, NotesHeld f (eqb-false (card_word cards k 51) 0 q)))

  present_same : EntriesHeld text cards entries k → present_of (board_held text cards entries k) ≡ present_held text cards entries k
  unfolding present_of present_held board_held values_held
  present_same f = rw (value_there (card_word cards k 39), value_there (card_word cards k 49), value_there (card_word cards k 50), auction_there, play_there, notes_there f)

  -- ---- a whole board, is being any entries for its remarks

  abbrev play : List (List ℕ)
  play = own_play c (board_held text cards entries k).play

  abbrev whole : List Item → List ℕ
  whole is =
      sought_text Leading [] 4 is
      ++ (tags_part c (board_held text cards entries k) play is ++ unwritten_text (present_of (board_held text cards entries k)) is)

  regroup : (r h e d a l b p x : List ℕ) → (r ++ h ++ e ++ d ++ a) ++ (l ++ b ++ p ++ x) ≡ r ++ ((h ++ (e ++ ((d ++ a) ++ (l ++ (b ++ p))))) ++ x)
  regroup r h e d a l b p x = simp append_assoc

  scoring : EntriesHeld text cards entries k
      → scoring_at text entries (card_word cards k 0) (card_word cards k 1) ≡ first_value (ascii "Scoring") (board_held text cards entries k).tags
  unfolding scoring_at board_held board_items
  scoring f = sym (ValueText text entries (ascii "Scoring") (card_word cards k 0) (card_word cards k 1) f.paired)

  early_group : EntriesHeld text cards entries k → (is : List Item)
      → extras_text text entries (card_word cards k 0) is (card_word cards k 0) (early text cards entries k) ≡ group_text (early_extras (board_held text cards entries k).tags) is
  unfolding deal_place board_held board_items
  early_group f is = EarlyText text entries (card_word cards k 0) (card_word cards k 1) f.paired is

  late_group : EntriesHeld text cards entries k → (is : List Item)
      → extras_text text entries (card_word cards k 0) is (card_word cards k 0 + early text cards entries k) (card_word cards k 1 - early text cards entries k)
      ≡ group_text (late_extras (board_held text cards entries k).tags) is
  unfolding deal_place board_held board_items
  late_group f is = LateText text entries (card_word cards k 0) (card_word cards k 1) f.paired is

  board_whole : EntriesHeld text cards entries k → (is : List Item) → front_text c text cards entries k is ++ back_text c text cards entries k is ≡ whole is
  unfolding front_text back_text
  board_whole f is =
      regroup
      (sought_text Leading [] 4 is)
      (head_text c text cards entries k is)
      (extras_text text entries (card_word cards k 0) is (card_word cards k 0) (early text cards entries k))
      (contract_text c text cards entries k is)
      (analysis_text text cards entries k is)
      (extras_text text entries (card_word cards k 0) is (card_word cards k 0 + early text cards entries k) (card_word cards k 1 - early text cards entries k))
      (bidding_text c text cards entries k is)
      (cards_text c text cards entries k is)
      (unwritten_text (present_held text cards entries k) is)
      ∙ rw (
        present_same f,
        head_group is,
        early_group f is,
        deal_group is (scoring f),
        late_group f is,
        auction_group_lem f is,
        play_group is,
      )

  -- ---- the scan leaves all entries out where none is a remark

  auction_none : (is : List Item) (o : Option PlainAuction) → has_remarks is ≡ false
      → auction_part c (board_held text cards entries k).tags o is ≡ auction_part c (board_held text cards entries k).tags o []
  unfolding full_text
  auction_none is none e = refl
  auction_none is (some a) e = rw (after_none (ascii "Auction") is e, notes_none [] (note_values (drop a.before (board_held text cards entries k).tags)) is e)

  whole_none : (is : List Item) → has_remarks is ≡ false → whole is ≡ whole []
  whole_none is e =
      let b = board_held text cards entries k in
      rw (
        remarks_none (λ t. sought_by Leading [] t.name) (is_first Leading) 4 is refl e,
        group_none (head_tags c b) is e,
        group_none (early_extras b.tags) is e,
        group_none (deal_tags c b) is e,
        group_none (late_extras b.tags) is e,
        auction_none is b.auction e,
        group_none (play_tags c play b.play) is e,
        remarks_none (λ t. sought_by (Unwritten (present_of b)) [] t.name) (is_first (Unwritten (present_of b))) 4 is refl e,
        remarks_none (λ t. sought_by (Unwritten (present_of b)) [] t.name) (is_first (Unwritten (present_of b))) 3 is refl e,
      )

  scan_whole : whole (scanned_items text cards entries k (scan_of text cards entries k)) ≡ whole (items_at text entries (card_word cards k 0) (card_word cards k 1))
  unfolding scan_of board_items
  scan_whole =
      by_cases (has_remarks (items_at text entries (card_word cards k 0) (card_word cards k 1)))
      (λ q. rw q)
      (λ q. rw q (sym (whole_none (items_at text entries (card_word cards k 0) (card_word cards k 1)) q)))

  scan_lead : sought_text Leading [] 3 (scanned_items text cards entries k (scan_of text cards entries k))
      ≡ sought_text Leading [] 3 (items_at text entries (card_word cards k 0) (card_word cards k 1))
  unfolding scan_of board_items
  scan_lead =
      by_cases (has_remarks (items_at text entries (card_word cards k 0) (card_word cards k 1)))
      (λ q. rw q)
      (λ q. rw q (sym (remarks_none (λ t. sought_by Leading [] t.name) (is_first Leading) 3 (items_at text entries (card_word cards k 0) (card_word cards k 1)) refl q)))

  -- ---- the lines of a board

  lead_is : EntriesHeld text cards entries k → lead_held text cards entries k ≡ lines_text (leading_lines (board_held text cards entries k))
  unfolding lead_held
  lead_is f = scan_lead ∙ sym (LeadingText (board_held text cards entries k) (items_at text entries (card_word cards k 0) (card_word cards k 1)) (held_of f) [])

  body_is : EntriesHeld text cards entries k → body_held c text cards entries k ≡ body_text c (board_held text cards entries k)
  unfolding body_held
  body_is f =
      board_whole f (scanned_items text cards entries k (scan_of text cards entries k))
      ∙ (scan_whole ∙ sym (BodyText (board_held text cards entries k) (items_at text entries (card_word cards k 0) (card_word cards k 1)) (held_of f) [] c play))

  next_is : EntriesHeld text cards entries k → next_held c text cards entries k ≡ next_part c (board_held text cards entries k)
  unfolding next_held next_part
  next_is f = rw (lead_is f, body_is f)

-- ---- the page

line_long : (l : WrittenLine) → 0 < length (line_text l)
unfolding line_text tag_text
line_long (tag_line n v) = omega arith
line_long (data_line d) = rw (length-append d (10 ∷ [])) (omega arith)
line_long (directive_line i d) = rw (length-append d (10 ∷ [])) (omega arith)
line_long (block_line i v) = omega arith

header_is : (ls : List WrittenLine) → header_held (lines_text ls) ≡ page_header ls
unfolding header_held
header_is [] = refl
header_is (l ∷ ls) =
    let z : eqb (length (line_text l ++ lines_text ls)) 0 ≡ false = ne_eqb (length (line_text l ++ lines_text ls)) 0 (λ e. omega (arith, line_long l, rw length-append at e)) in
    rw z

module _ (c : Conventions) (text cards entries : List ℕ) where
  parts_are : (b n : ℕ) → ((k : ℕ) → b ≤ k → k < b + n → EntriesHeld text cards entries k)
      → parts_held c text cards entries b n ≡ next_parts c (boards_held text cards entries b n)
  parts_are b zero f = refl
  parts_are b (suc n) f = rw (next_is c text cards entries b (f b (omega arith) (omega arith)), parts_are (b + 1) n (λ k u v. f k (omega arith) (omega arith)))

  -- THEOREM. The page of boards whose entries are so held is that of the boards that the words hold.
  pub page_is : (n : ℕ) → ((k : ℕ) → k < n → EntriesHeld text cards entries k) → page_held c text cards entries n ≡ page_text c (boards_held text cards entries 0 n)
  unfolding page_held first_part
  page_is zero f = refl
  page_is (suc n) f =
      let o : eqb (suc n) 0 ≡ false = ne_eqb (suc n) 0 (λ e. omega (arith, e)) in
      let z : suc n - 1 ≡ n = omega arith in
      let g = f 0 (omega arith) in
      rw (o, z, lead_is c text cards entries 0 g, header_is (leading_lines (board_held text cards entries 0)), body_is c text cards entries 0 g, parts_are 1 n (λ k u v. f k (omega arith)))

  -- THEOREM. The page of boards that were just read is what the text is written as.
  pub PageHeld : Holds c text cards entries → page_held c text cards entries (length (cards_of c text)) ≡ written_text c text
  PageHeld t = page_is (length (cards_of c text)) (λ k h. (EveryHeldBoard c text cards entries t k h).entries_held) ∙ HeldPage c text cards entries t
