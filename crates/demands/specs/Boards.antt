-- Boards as they are handed back, in the words lent for an edition's cards and entries, and when two of them are read alike.
use Rattle.std.specs.Prelude.{ℕ, zero, suc, ◌-◌, ◌*◌, ◌<◌, ◌≡◌, Bool, cond, ◌&&◌, ◌||◌, List, [], ◌∷◌, map, leb, eqb, get_or, take, drop}
use Rattle.tables.specs.declared.letters.Conventions.{Conventions}
use Rattle.planning.specs.Cards.{card_here}
use Rattle.planning.specs.Plans.{Boxes}
use Rattle.golavimes.specs.Answers.{EditionOut, WritingOut, PlanOut, StateOut, BehindOut, BoardsOut, SearchesOut, FinishOut}

-- ---- an edition that was read without refusal

-- The words lent for two editions, once golavimes_plan, golavimes_state, golavimes_record_behind, golavimes_boards, golavimes_searches or
-- golavimes_finish has read both and returned 0.
pub data BothBack (c : Conventions) (old new : List ℕ) : Boxes → Type 0 where
  by_plan : {boxes : Boxes} {slips : List ℕ} {boxes' : Boxes} {slips' answer' : List ℕ}
      → PlanOut c old new boxes slips boxes' slips' answer' 0 → BothBack c old new boxes'
  by_state : {boxes boxes' : Boxes} {p : ℕ} {answer' : List ℕ} → StateOut c old new boxes boxes' p answer' 0 → BothBack c old new boxes'
  by_record : {boxes boxes' : Boxes} {p : ℕ} {answer' : List ℕ} → BehindOut c old new boxes boxes' p answer' 0 → BothBack c old new boxes'
  by_boards : {boxes : Boxes} {numbers : List ℕ} {boxes' : Boxes} {numbers' answer' : List ℕ}
      → BoardsOut c old new boxes numbers boxes' numbers' answer' 0 → BothBack c old new boxes'
  by_searches : {boxes : Boxes} {numbers : List ℕ} {boxes' : Boxes} {numbers' answer' : List ℕ}
      → SearchesOut c old new boxes numbers boxes' numbers' answer' 0 → BothBack c old new boxes'
  by_finish : {boxes : Boxes} {answers page : List ℕ} {boxes' : Boxes} {page' answer' : List ℕ}
      → FinishOut c old new boxes answers page boxes' page' answer' 0 → BothBack c old new boxes'

-- The words lent for a text's cards and entries, once golavimes_read or golavimes_write has read it and returned 0, or one of the functions
-- of `BothBack` has as its old or its new edition.
pub data HandedBack (c : Conventions) (text : List ℕ) : List ℕ → List ℕ → Type 0 where
  by_read : {cards entries cards' entries' answer' : List ℕ} → EditionOut c text cards entries cards' entries' answer' 0 → HandedBack c text cards' entries'
  by_write : {cards entries page cards' entries' page' answer' : List ℕ}
      → WritingOut c text cards entries page cards' entries' page' answer' 0 → HandedBack c text cards' entries'
  as_old : {new : List ℕ} {boxes' : Boxes} → BothBack c text new boxes' → HandedBack c text boxes'.old_cards boxes'.old_entries
  as_new : {old : List ℕ} {boxes' : Boxes} → BothBack c old text boxes' → HandedBack c text boxes'.new_cards boxes'.new_entries

-- ---- a board

-- Its card of 64 words, and its entries of four words each.
pub record Board : Type 0 where
  pub card : List ℕ
  pub entries : List (List ℕ)

-- Words of a card: 0 first entry, 1 entry count, 60 the record's start.
abbrev pub first_entry : List ℕ → ℕ
first_entry card = get_or card 0 0

abbrev pub entry_count : List ℕ → ℕ
entry_count card = get_or card 1 0

abbrev pub record_start : List ℕ → ℕ
record_start card = get_or card 60 0

-- The first n entries in words.
abbrev pub entry_blocks : ℕ → List ℕ → List (List ℕ)
entry_blocks zero words = []
entry_blocks (suc n) words = take 4 words ∷ entry_blocks n (drop 4 words)

-- The entries of a card.
abbrev pub entries_under : List ℕ → List ℕ → List (List ℕ)
entries_under card entries = entry_blocks (entry_count card) (drop (4 * first_entry card) entries)

-- The board k, from 0, of the edition in these words.
abbrev pub board_here : ℕ → List ℕ → List ℕ → Board
board_here k cards entries = record { card = card_here k cards; entries = entries_under (card_here k cards) entries }

-- ---- read alike

-- The words of a card that are entry places: the first entry, the values (39 to 50), the first call (51), the first trick (55). Those from
-- 39 on are places plus 1, and 0 where there is none.
abbrev pub is_entry_place : ℕ → Bool
is_entry_place i = eqb i 0 || (leb 39 i && leb i 51) || eqb i 55

-- Those that are text places: the record's start and end.
abbrev pub is_text_place : ℕ → Bool
is_text_place i = eqb i 60 || eqb i 61

-- The word i of a card, text places counted from the record's start and entry places from its first entry; what is absent stays 0.
abbrev pub counted_word : List ℕ → ℕ → ℕ
counted_word card i =
    cond (is_entry_place i) (get_or card i 0 - first_entry card)
    (cond (is_text_place i) (get_or card i 0 - record_start card) (get_or card i 0))

-- An entry with its text place counted from the record's start; a trick (kind 8) has no place.
abbrev pub counted_entry : ℕ → List ℕ → List ℕ
counted_entry start [] = []
counted_entry start (kind ∷ []) = kind ∷ []
counted_entry start (kind ∷ x ∷ words) = kind ∷ cond (eqb kind 8) x (x - start) ∷ words

-- Two boards are read alike when their cards and entries agree once text places are counted from the record's start and entry places from
-- its first entry.
pub record ReadAlike (x y : Board) : Type 0 where
  pub cards_agree : (i : ℕ) → i < 64 → counted_word x.card i ≡ counted_word y.card i
  pub entries_agree : map (counted_entry (record_start x.card)) x.entries ≡ map (counted_entry (record_start y.card)) y.entries
