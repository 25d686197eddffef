-- What the functions of writing put, said of the entries of a board as they stand in a row.
use Rattle.std.specs.Prelude.{ℕ, zero, suc, ◌+◌, ◌-◌, ◌/◌, ◌%◌, ◌≡◌, Bool, true, false, cond, ◌&&◌, ◌||◌, not, List, [], ◌∷◌, ◌++◌, eqb, ltb, leb, length, drop, set, get_or, Option, Some, None, MatchOption}
use Rattle.std.specs.Iterator.{Count, at_most}
use Rattle.tables.specs.declared.letters.Conventions.{Conventions}
use Rattle.reader.specs.declared.board.Identity.{Identity}
use Rattle.reader.specs.Words.{same, call_token, card_token}
use Rattle.reader.specs.Names.{tag_number, note_name}
use Rattle.reader.specs.Plain.{Item, TagPair, first_bytes, without_returns}
use Rattle.writer.specs.declared.present.Present.{Present}
use Rattle.tables.specs.Text.{ascii, trimmed, before}
use Rattle.tables.specs.Numbers.{Number, number_of, decimal}
use Rattle.writer.specs.Tags.{WrittenTag, result_text}
use Rattle.writer.specs.PresentSteps.{is_tag_written, is_any}
use Rattle.writer.specs.declared.items.Items.{Items}
use Rattle.writer.specs.declared.notes.Notes.{Notes}
use Rattle.writer.specs.Held.{entry_word, place_bytes, item_at, items_at}

-- ---- entries in a row

-- The entries that are meant.
abbrev pub items_of : Items → List Item
items_of is = items_at is.text.now is.entries.now is.first is.count

-- The first of them; the tag that it is, the next entry having its value.
abbrev pub item_of : Items → Item
item_of is = item_at is.text.now is.entries.now is.first

abbrev pub tag_of : Items → TagPair
tag_of is =
    record {
      name = place_bytes is.text.now is.entries.now is.first;
      value = first_bytes (items_at is.text.now is.entries.now (is.first + 1) (is.count - 1));
    }

-- Of the same text as js, n entries from first on.
pub record ItemsFrom (js : Items) (first n : ℕ) (is : Items) : Type 0 where
  pub same_text : is.text.now ≡ js.text.now
  pub same_entries : is.entries.now ≡ js.entries.now
  pub first_is : is.first ≡ first
  pub count_is : is.count ≡ n

-- Entries that are gone over: each comes with those behind it, which are left then.
pub record IsNextEntry (is next rest : Items) : Type 0 where
  pub next_is : next ≡ is
  pub more : is.count ≡ rest.count + 1
  pub rest_is : ItemsFrom is (is.first + 1) rest.count rest

abbrev pub NextEntry : Items → Option Items → Items → Type 0
NextEntry is o rest = MatchOption o (is.count ≡ 0) (λ next. IsNextEntry is next rest)

abbrev pub entries_left : Items → Count
entries_left is = at_most is.count

-- ---- names

-- How many entries stand before the first tag of the name n; all of them where there is none.
abbrev pub name_index : List ℕ → List Item → ℕ
name_index n [] = 0
name_index n (i ∷ is) = cond (eqb i.kind 1 && same n i.bytes) 0 (suc (name_index n is))

-- ---- directives and blocks

-- The remarks that are sought: those before every tag; those under the name n; those whose tag is not written.
pub data Sought : Type 0 where
  Leading : Sought
  Under : Sought
  Unwritten : Present → Sought

abbrev pub sought_by : Sought → List ℕ → List ℕ → Bool
sought_by Leading n m = false
sought_by Under n m = same n m
sought_by (Unwritten p) n m = not (is_tag_written p (tag_number m))

abbrev pub is_first : Sought → Bool
is_first Leading = true
is_first Under = false
is_first (Unwritten p) = false

-- A directive (3) on its line, a block (4) in braces, `{` (123) and `}` (125); an LF (10) ends each.
abbrev pub remark_text : ℕ → List ℕ → List ℕ
remark_text k bs = cond (eqb k 4) (123 ∷ (without_returns bs ++ 125 ∷ 10 ∷ [])) (bs ++ 10 ∷ [])

-- The remarks of the kind k whose last tag meets a test; under says it of those before the first tag.
abbrev pub remarks_text : (TagPair → Bool) → Bool → ℕ → List Item → List ℕ
remarks_text p under k [] = []
remarks_text p under k (i ∷ is) =
    cond (eqb i.kind 1) (remarks_text p (p (record { name = i.bytes; value = first_bytes is })) k is)
    (cond (eqb i.kind k && under) (remark_text k i.bytes ++ remarks_text p under k is) (remarks_text p under k is))

-- The remarks that are sought, by the names of their tags.
abbrev pub sought_text : Sought → List ℕ → ℕ → List Item → List ℕ
sought_text s n k is = remarks_text (λ t. sought_by s n t.name) (is_first s) k is

-- What follows a written tag of the name n, no other having that name: its directives, then its blocks.
unfoldable pub after_text : List ℕ → List Item → List ℕ
after_text n is = sought_text Under n 3 is ++ sought_text Under n 4 is

-- ---- tags

-- A tag on its line: `[` (91), the name, a blank (32), a quote (34), the value, a quote, `]` (93), an LF (10).
unfoldable pub tag_line_text : List ℕ → List ℕ → List ℕ
tag_line_text n v = ((91 ∷ []) ++ n ++ (32 ∷ 34 ∷ [])) ++ v ++ (34 ∷ 93 ∷ 10 ∷ [])

-- A tag without data lines, and what follows it.
unfoldable pub tagged_text : List ℕ → List ℕ → List Item → List ℕ
tagged_text n v is = tag_line_text n v ++ after_text n is

-- ---- supplemental tags

-- The entry e names a supplemental tag other than Scoring, and no entry from first on names it before.
unfoldable pub is_extra_at : List ℕ → List ℕ → ℕ → ℕ → Bool
is_extra_at text entries first e =
    ((eqb (entry_word entries e 0) 1 && eqb (tag_number (place_bytes text entries e)) 0)
    && not (same (ascii "Scoring") (place_bytes text entries e)))
    && eqb (first + name_index (place_bytes text entries e) (items_at text entries first (e - first))) e

-- The supplemental tags among the n entries from e on; is are the entries whose remarks follow them.
abbrev pub extras_text : List ℕ → List ℕ → ℕ → List Item → ℕ → ℕ → List ℕ
extras_text text entries first is e zero = []
extras_text text entries first is e (suc n) =
    cond (is_extra_at text entries first e)
    (tagged_text (place_bytes text entries e) (place_bytes text entries (e + 1)) is ++ extras_text text entries first is (e + 1) n)
    (extras_text text entries first is (e + 1) n)

-- ---- a result

-- What says a result: whether there is one, and the result plus 128.
abbrev pub result_in : ℕ → ℕ → Identity
result_in met result = record { number_met = 0; number = 0; dealer = 4; vulnerability = 0; declarer = 4; result_met = met; result = result }

-- The result plus 128 as it is written; nothing for none.
abbrev pub outcome_text : Option ℕ → List ℕ
outcome_text None = []
outcome_text (Some r) = result_text (result_in 1 r)

-- ---- auctions

-- What stands before the call number n, from 0: nothing, an LF (10) where a line begins, else a blank (32).
unfoldable pub before_call : ℕ → List ℕ
before_call n = cond (eqb n 0) [] (cond (eqb (n % 4) 0) (10 ∷ []) (32 ∷ []))

-- Calls with n before them, each behind its blank or LF, and an LF behind the last.
abbrev pub tokens_text : ℕ → List (List ℕ) → List ℕ
tokens_text n [] = cond (eqb n 0) [] (10 ∷ [])
tokens_text n (t ∷ ts) = before_call n ++ (t ++ tokens_text (n + 1) ts)

-- The calls of entries in a row, n calls before them; called says that an annotation would belong to the last call.
-- An LF (10) ends the last line.
abbrev pub calls_text : Conventions → ℕ → Bool → List Item → List ℕ
calls_text c n called [] = cond (eqb n 0) [] (10 ∷ [])
calls_text c n called (i ∷ is) =
    cond (eqb i.kind 6) (before_call n ++ call_token c i.mark ++ calls_text c (n + 1) true is)
    (cond (eqb i.kind 7 && called) (i.bytes ++ calls_text c n true is) (calls_text c n false is))

-- The code of the last call, 47 where there is none; k is that of the call before them.
abbrev pub last_code : ℕ → List Item → ℕ
last_code k [] = k
last_code k (i ∷ is) = last_code (cond (eqb i.kind 6) i.mark k) is

-- The end's line: `+` (43) or `*` (42), and an LF (10).
unfoldable pub end_text : ℕ → List ℕ
end_text end = cond (eqb end 1) (43 ∷ 10 ∷ []) (cond (eqb end 2) (42 ∷ 10 ∷ []) [])

-- The calls, then the end's line, unless the last call is `+` (code 38).
unfoldable pub auction_text : Conventions → ℕ → List Item → List ℕ
auction_text c end is = calls_text c 0 false is ++ cond (eqb (last_code 47 is) 38) [] (end_text end)

-- ---- plays

-- A card behind n others of its trick, a blank (32) between two.
abbrev pub slot_text : Conventions → ℕ → ℕ → List ℕ
slot_text c n k = cond (ltb k 52) (cond (eqb n 0) [] (32 ∷ []) ++ card_token c k) []

-- One more where a slot has a card.
abbrev pub one_more_card : ℕ → ℕ → ℕ
one_more_card n k = cond (ltb k 52) (n + 1) n

-- A trick's line from its slots, n cards before them; the LF (10) where there are any.
abbrev pub slots_text : Conventions → ℕ → List ℕ → List ℕ
slots_text c n [] = cond (eqb n 0) [] (10 ∷ [])
slots_text c n (k ∷ ks) = slot_text c n k ++ slots_text c (one_more_card n k) ks

-- The four slots of a trick's number, lowest first.
abbrev pub four_slots : ℕ → List ℕ
four_slots z = z % 256 ∷ z / 256 % 256 ∷ z / 65536 % 256 ∷ z / 16777216 % 256 ∷ []

abbrev pub tricks_text : Conventions → List Item → List ℕ
tricks_text c [] = []
tricks_text c (i ∷ is) = cond (eqb i.kind 8) (slots_text c 0 (four_slots i.mark) ++ tricks_text c is) (tricks_text c is)

unfoldable pub play_text : Conventions → ℕ → List Item → List ℕ
play_text c end is = tricks_text c is ++ end_text end

-- ---- tags in a row

-- Data lines, each with its LF (10).
abbrev pub data_text : List (List ℕ) → List ℕ
data_text [] = []
data_text (d ∷ ds) = (d ++ 10 ∷ []) ++ data_text ds

-- A written tag, no other having its name, with its data lines and what follows it.
unfoldable pub full_text : WrittenTag → List Item → List ℕ
full_text w is = tag_line_text w.name w.value ++ data_text w.lines ++ after_text w.name is

abbrev pub group_text : List WrittenTag → List Item → List ℕ
group_text [] is = []
group_text (w ∷ ws) is = full_text w is ++ group_text ws is

-- One of the values is v.
abbrev pub has_value : List ℕ → List (List ℕ) → Bool
has_value v [] = false
has_value v (u ∷ us) = same v u || has_value v us

-- Whether the written note v, between others, takes the directives of a tag: of a Note of its value, where no earlier one has it; the first
-- also of a Note whose value is not written.
abbrev pub note_takes : List (List ℕ) → List ℕ → List (List ℕ) → TagPair → Bool
note_takes earlier v later t =
    same (ascii "Note") t.name
    && cond (has_value t.value (earlier ++ v ∷ later)) (same t.value v && not (has_value t.value earlier)) (not (is_any earlier))

-- Notes by their values, in a row, each with its directives; blocks follow the first alone. earlier are those written before.
abbrev pub notes_text : List (List ℕ) → List (List ℕ) → List Item → List ℕ
notes_text earlier [] is = []
notes_text earlier (v ∷ vs) is =
    (tag_line_text (ascii "Note") v
    ++ remarks_text (note_takes earlier v vs) false 3 is
    ++ cond (is_any earlier) [] (sought_text Under (ascii "Note") 4 is))
    ++ notes_text (earlier ++ v ∷ []) vs is

-- ---- tags by their entries

-- The tags among the n entries from e on, each with the bytes at the entry behind its name.
abbrev pub tags_at : List ℕ → List ℕ → ℕ → ℕ → List TagPair
tags_at text entries e zero = []
tags_at text entries e (suc n) =
    cond (eqb (entry_word entries e 0) 1)
    (record { name = place_bytes text entries e; value = place_bytes text entries (e + 1) } ∷ tags_at text entries (e + 1) n)
    (tags_at text entries (e + 1) n)

-- The value of the first Scoring tag among count entries from first on, empty where there is none.
unfoldable pub scoring_at : List ℕ → List ℕ → ℕ → ℕ → List ℕ
scoring_at text entries first count =
    cond (ltb (name_index (ascii "Scoring") (items_at text entries first count)) count)
    (place_bytes text entries (first + name_index (ascii "Scoring") (items_at text entries first count) + 1))
    []

-- The entries before the first Deal tag, none where there is no Deal tag.
unfoldable pub deal_place : List ℕ → List ℕ → ℕ → ℕ → ℕ
deal_place text entries first count =
    cond (ltb (name_index (ascii "Deal") (items_at text entries first count)) count) (name_index (ascii "Deal") (items_at text entries first count)) 0

-- ---- notes

-- What is said of the notes of an auction: the text and the entries, and the places of their values.
abbrev pub of_notes : {A : Type 0} → (List ℕ → List ℕ → List ℕ → A) → Notes → A
of_notes f ns = f ns.items.text.now ns.items.entries.now ns.places

-- A number that was read, 256 where it is none.
abbrev pub or_none : Number → ℕ
or_none None = 256
or_none (Some v) = v

-- The number of a note's value, 256 where it has no colon (58) or no number before it.
unfoldable pub note_number : List ℕ → ℕ
note_number v = cond (ltb (length (before 58 v)) (length v)) (or_none (number_of 255 (trimmed (before 58 v)))) 256

-- The number of the note that the entry e names, 256 where it names none.
unfoldable pub note_number_at : List ℕ → List ℕ → ℕ → ℕ
note_number_at text entries e =
    cond (eqb (entry_word entries e 0) 1)
    (cond (eqb (tag_number (place_bytes text entries e)) note_name) (note_number (place_bytes text entries (e + 1))) 256)
    256

-- The places of the values of notes, by number, 0 for none: places, with each note among the n entries from e on put over those before it.
-- An entry that names none has the number 256, which is past the last place.
abbrev pub note_places : List ℕ → List ℕ → List ℕ → ℕ → ℕ → List ℕ
note_places text entries places e zero = places
note_places text entries places e (suc n) = note_places text entries (set places (note_number_at text entries e) (e + 1)) (e + 1) n

-- The value of the note n as it is written: its number, a colon (58) and what follows the first colon of the value at its place.
unfoldable pub note_text : List ℕ → List ℕ → ℕ → ℕ → List ℕ
note_text text entries n place =
    decimal n ++ (58 ∷ []) ++ drop (length (before 58 (place_bytes text entries place)) + 1) (place_bytes text entries place)

-- The value of the note n, where it has a place.
abbrev pub placed_note : List ℕ → List ℕ → List ℕ → ℕ → List (List ℕ)
placed_note text entries places n = cond (eqb (get_or places n 0) 0) [] (note_text text entries n (get_or places n 0) ∷ [])

-- The number of the written note that has the value v, 256 where none has.
unfoldable pub note_of : List ℕ → List ℕ → List ℕ → List ℕ → ℕ
note_of text entries places v = cond (has_value v (placed_note text entries places (note_number v))) (note_number v) 256

-- Whether the note n, which is the first or not, takes the directives of a Note of the value v.
unfoldable pub takes_value : List ℕ → List ℕ → List ℕ → ℕ → Bool → List ℕ → Bool
takes_value text entries places n first v = eqb (note_of text entries places v) n || (first && leb 256 (note_of text entries places v))

-- The same of a tag.
abbrev pub takes_tag : List ℕ → List ℕ → List ℕ → ℕ → Bool → TagPair → Bool
takes_tag text entries places n first t = same (ascii "Note") t.name && takes_value text entries places n first t.value

-- The note n with the directives that it takes and, where it is the first, the blocks.
unfoldable pub full_note : List ℕ → List ℕ → List ℕ → ℕ → Bool → List Item → List ℕ
full_note text entries places n first is =
    tag_line_text (ascii "Note") (note_text text entries n (get_or places n 0))
    ++ remarks_text (takes_tag text entries places n first) false 3 is
    ++ cond first (sought_text Under (ascii "Note") 4 is) []

-- The notes that have a place, from the number n on, k numbers long; first says that none stands before them.
abbrev pub full_notes : List ℕ → List ℕ → List ℕ → ℕ → ℕ → Bool → List Item → List ℕ
full_notes text entries places zero n first is = []
full_notes text entries places (suc k) n first is =
    cond (eqb (get_or places n 0) 0)
    (full_notes text entries places k (n + 1) first is)
    (full_note text entries places n first is ++ full_notes text entries places k (n + 1) false is)

-- All of them.
unfoldable pub all_notes : List ℕ → List ℕ → List ℕ → List Item → List ℕ
all_notes text entries places is = full_notes text entries places 256 0 true is

-- ---- whether there is anything to put back

abbrev pub is_remark : ℕ → Bool
is_remark k = eqb k 3 || eqb k 4

-- A directive or a block is among the entries.
abbrev pub has_remarks : List Item → Bool
has_remarks [] = false
has_remarks (i ∷ is) = is_remark i.kind || has_remarks is
