-- The worked pair: its cards and its seams, by computing.
use Prim.Native.Nat.{ℕ, ◌+◌, ◌≤◌}
use mathlib.Core.Path.{◌≡◌, refl, sym, ◌∙◌}
use mathlib.Core.List.{List, [], ◌∷◌, ◌++◌}
use native.Mathlib.Omega.{arith}
use lib.ListN.{length, get_or, replicate, length-append}
use Rattle.tables.specs.declared.letters.Conventions.{Conventions}
use Rattle.tables.specs.Text.{is_white, is_inside, trimmed}
use Rattle.tables.specs.Letters.{built_in, capital, seat_of, suit_of, honour_of, rank_of}
use Rattle.tables.specs.Tables.{digit_of, digits_reading, table_of_digits}
use Rattle.reader.specs.declared.deal.Hands.{Hands}
use Rattle.reader.specs.Tag.{trim_span, trim_part, bracket_of, ends_quoted, name_of, is_quoted, value_of, is_comment, comment_of, tag_line, data_bracket, data_after, split_of}
use Rattle.reader.specs.Lines.{is_blank, has_brace, split_line, bracket_line, line_kind}
use Rattle.reader.specs.Names.{tag_names, tag_number}
use Rattle.reader.specs.Sections.{commentary_after}
use Rattle.reader.specs.Store.{flat}
use Rattle.reader.specs.Deals.{cards_named, hands_after, hand_words}
use Rattle.reader.specs.Deals.{deal_of as deal_in}
use Rattle.reader.specs.Boards.{identity_by, deal_by, table_by, contract_by, is_kept_value, is_kept, values_by, applied, open_by, closed, tagged, tag_line_out, line_out, record_out}
use Rattle.reader.specs.Records.{scanned, closes_record, records_of, is_seam, seam_at, AlikeBut}
use Rattle.reader.specs.Editions.{card_words, card_of, cards_from, cards_of, entries_of}
use Rattle.reader.proofs.Seams.{records_fit}
use Rattle.reader.proofs.Alike.{entries_in}
use Rattle.reader.proofs.Counts.{EntriesFew}
use Rattle.reader.proofs.CardShape.{word_1}
use Rattle.reader.proofs.Fellows.{entries_counted}
use Rattle.demands.specs.Worked.{worked_front, old_stretch, new_stretch, worked_back, old, new, deal_a, deal_b, deal_d, ladder}

-- A card with the entries before it and its own, the hands, the table with its cells, the event's entry, and a record from start to end.
abbrev card : ℕ → ℕ → Hands → ℕ → List ℕ → ℕ → ℕ → ℕ → List ℕ
card n count h table cells event start end =
    (n ∷ count ∷ 0 ∷ 0 ∷ 4 ∷ 0 ∷ 4 ∷ 0 ∷ 0 ∷ 1 ∷ hand_words h)
    ++ (cells
    ++ ((table ∷ 0 ∷ event ∷ replicate 10 0)
    ++ (0 ∷ 0 ∷ 4 ∷ 0 ∷ 0 ∷ 0 ∷ 4 ∷ 0 ∷ 4 ∷ start ∷ end ∷ 0 ∷ 0 ∷ [])))

-- The boards of the front and of the old edition's back.
abbrev pub front_card : List ℕ
front_card = card 0 4 deal_a 1 (replicate 20 0) 0 0 123

abbrev pub back_card : List ℕ
back_card = card 8 4 deal_d 1 ladder 0 215 337

abbrev pub olds : List (List ℕ)
olds = front_card ∷ card 4 4 deal_a 0 (replicate 20 0) 6 123 215 ∷ back_card ∷ []

abbrev news : List (List ℕ)
news = front_card ∷ card 4 2 deal_b 0 (replicate 20 0) 0 123 203 ∷ card 6 4 deal_d 1 ladder 0 203 325 ∷ []

pub old_cards : cards_of built_in old ≡ olds
unfolding is_white is_inside trimmed built_in capital seat_of suit_of honour_of rank_of digit_of digits_reading table_of_digits trim_span trim_part bracket_of ends_quoted name_of is_quoted value_of is_comment comment_of tag_line data_bracket data_after split_of is_blank has_brace split_line bracket_line line_kind tag_names tag_number commentary_after cards_named hands_after hand_words deal_in identity_by deal_by table_by contract_by is_kept_value is_kept values_by applied open_by closed tagged tag_line_out line_out record_out scanned closes_record records_of card_words cards_of
old_cards = refl

pub new_cards : cards_of built_in new ≡ news
unfolding is_white is_inside trimmed built_in capital seat_of suit_of honour_of rank_of digit_of digits_reading table_of_digits trim_span trim_part bracket_of ends_quoted name_of is_quoted value_of is_comment comment_of tag_line data_bracket data_after split_of is_blank has_brace split_line bracket_line line_kind tag_names tag_number commentary_after cards_named hands_after hand_words deal_in identity_by deal_by table_by contract_by is_kept_value is_kept values_by applied open_by closed tagged tag_line_out line_out record_out scanned closes_record records_of card_words cards_of
new_cards = refl

-- ---- entries: the words 1 of an edition's cards add up to them

abbrev counts : List (List ℕ) → ℕ
counts [] = 0
counts (x ∷ xs) = get_or x 1 0 + counts xs

counts_all : (c : Conventions) (a n : ℕ) (rs : List (List ℕ)) → length (flat rs) ≤ 16777215 → counts (cards_from c a n rs) ≡ entries_in c rs
counts_all c a n [] h = refl
counts_all c a n (r ∷ rs) h =
    let es = (record_out c r).entries in
    let l : length r + length (flat rs) ≤ 16777215 = rw length-append at h in
    let w : get_or (card_of c a n r) 1 0 ≡ length es = word_1 c a n r ∙ omega (arith, EntriesFew c r) in
    omega (arith, w, counts_all c (a + length r) (n + length es) rs (omega arith))

entries_counted_by : (c : Conventions) (text : List ℕ) → length text ≤ 16777215 → length (entries_of c text) ≡ counts (cards_of c text)
unfolding cards_of entries_of
entries_counted_by c text h = entries_counted c 0 (records_of text) ∙ sym (counts_all c 0 0 (records_of text) (omega (arith, records_fit text)))

pub old_entries : length (entries_of built_in old) ≡ 12
unfolding hand_words
old_entries = entries_counted_by built_in old (omega arith) ∙ rw old_cards

pub new_entries : length (entries_of built_in new) ≡ 10
unfolding hand_words
new_entries = entries_counted_by built_in new (omega arith) ∙ rw new_cards

-- ---- the premises

pub alike : AlikeBut worked_front old_stretch new_stretch worked_back
unfolding is_white is_inside trimmed trim_span trim_part bracket_of ends_quoted name_of is_quoted value_of is_comment comment_of tag_line data_bracket data_after split_of is_blank has_brace split_line bracket_line line_kind commentary_after scanned closes_record is_seam seam_at
alike = record { front_seam = refl; back_seam = refl; front_seam' = refl; back_seam' = refl }
