-- The boards of an edition one by one, and the fellow of a board in another edition.
use Rattle.std.specs.Prelude.{ℕ, ◌+◌, ◌≤◌, ◌<◌, ◌≡◌, cond, List, [], ◌∷◌, ◌++◌, map, eqb, length, get_or}
use Rattle.tables.specs.declared.letters.Conventions.{Conventions}
use Rattle.reader.specs.declared.tag.Span.{Span}
use Rattle.reader.specs.Store.{entry_words}
use Rattle.reader.specs.Boards.{record_out}
use Rattle.reader.specs.Records.{records_of, spans_of}
use Rattle.reader.specs.Editions.{card_of, cards_of, entries_of}

-- The list xs stands in l, with n elements before it.
pub record Stands {A : Type 0} (l : List A) (n : ℕ) (xs : List A) : Type 0 where
  pub before : List A
  pub after : List A
  pub whole : l ≡ before ++ (xs ++ after)
  pub count : length before ≡ n

-- The span of a record r that starts at a.
abbrev pub span_at : ℕ → List ℕ → Span
span_at a r = record { start = a; len = length r }

-- The record k of a text, counted from 0, is r, and starts at the place a.
pub record RecordAt (text : List ℕ) (k a : ℕ) (r : List ℕ) : Type 0 where
  pub record_is : Stands (records_of text) k (r ∷ [])
  pub span_is : Stands (spans_of text) k (span_at a r ∷ [])

-- The board k of an edition, as it is handed back, is that of the record r at the place a, with n entries before it: its card and its
-- entries are those of r alone, moved by a and n, which is by addition (Relocated, below).
pub record BoardAt (c : Conventions) (text : List ℕ) (k a n : ℕ) (r : List ℕ) : Type 0 where
  pub record_told : RecordAt text k a r
  pub bytes_are : Stands text a r
  pub card_is : Stands (cards_of c text) k (card_of c a n r ∷ [])
  pub entries_are : Stands (entries_of c text) n (map (entry_words a) (record_out c r).entries)

-- An edition has a board whose record is r and starts at a.
pub record Fellow (c : Conventions) (text : List ℕ) (a : ℕ) (r : List ℕ) : Type 0 where
  pub board : ℕ
  pub entries_before : ℕ
  pub is : BoardAt c text board a entries_before r

-- A board k of an edition, whatever its record.
pub record AnyBoard (c : Conventions) (text : List ℕ) (k : ℕ) : Type 0 where
  pub place : ℕ
  pub entries_before : ℕ
  pub text_of : List ℕ
  pub is : BoardAt c text k place entries_before text_of

-- A record that starts at a lies in the front, in the stretch between or in the back: it is a record of that part, and starts in it
-- at the place d; a is d behind the part's own place.
pub data Part (front middle back : List ℕ) (a : ℕ) (r : List ℕ) : Type 0 where
  in_front : (j : ℕ) → RecordAt front j a r → a + length r ≤ length front → Part front middle back a r
  inside : (j d : ℕ) → RecordAt middle j d r → a ≡ length front + d → a + length r ≤ length (front ++ middle) → Part front middle back a r
  in_back : (j d : ℕ) → RecordAt back j d r → a ≡ length (front ++ middle) + d → Part front middle back a r

-- The boards of the edition front, middle, back have their fellows in the edition front, other, back: where a board's record lies in
-- the front the fellow's starts at the same place of the front, and where it lies in the back, at the same place of the back. Both are
-- the boards of one record, each moved to its own place.
pub record HaveFellows (c : Conventions) (front middle other back : List ℕ) : Type 0 where
  pub every : (k : ℕ) → k < length (cards_of c (front ++ (middle ++ back))) → AnyBoard c (front ++ (middle ++ back)) k
  pub of_front : (k a n : ℕ) (r : List ℕ) → BoardAt c (front ++ (middle ++ back)) k a n r → a + length r ≤ length front
      → Fellow c (front ++ (other ++ back)) a r
  pub of_back : (k a n d : ℕ) (r : List ℕ) → BoardAt c (front ++ (middle ++ back)) k a n r → a ≡ length (front ++ middle) + d
      → Fellow c (front ++ (other ++ back)) (length (front ++ other) + d) r

-- ---- moved by addition

-- A word that is 0 for what is absent, and else moved by n.
abbrev pub moved_by : ℕ → ℕ → ℕ
moved_by n w = cond (eqb w 0) 0 (n + w)

-- A card is another one moved by a bytes and n entries: word 0 and the places of values and sections are moved by n, the record's start
-- and end by a, and all other words are the same.
pub record CardMoved (a n : ℕ) (base card : List ℕ) : Type 0 where
  pub first_entry : get_or card 0 0 ≡ n + get_or base 0 0
  pub same_words : (i : ℕ) → i < 38 → get_or card (1 + i) 0 ≡ get_or base (1 + i) 0
  pub values : (i : ℕ) → i < 12 → get_or card (39 + i) 0 ≡ moved_by n (get_or base (39 + i) 0)
  pub auction : get_or card 51 0 ≡ moved_by n (get_or base 51 0)
  pub auction_words : (i : ℕ) → i < 3 → get_or card (52 + i) 0 ≡ get_or base (52 + i) 0
  pub play : get_or card 55 0 ≡ moved_by n (get_or base 55 0)
  pub play_words : (i : ℕ) → i < 4 → get_or card (56 + i) 0 ≡ get_or base (56 + i) 0
  pub starts : get_or card 60 0 ≡ a + get_or base 60 0
  pub ends : get_or card 61 0 ≡ a + get_or base 61 0
  pub zeros : (i : ℕ) → i < 2 → get_or card (62 + i) 0 ≡ get_or base (62 + i) 0

-- An entry moved by a bytes: its place, but a trick (8) has none.
abbrev pub moved_entry : ℕ → List ℕ → List ℕ
moved_entry a [] = []
moved_entry a (k ∷ []) = k ∷ []
moved_entry a (k ∷ x ∷ ws) = k ∷ cond (eqb k 8) x (a + x) ∷ ws

-- The board of the record r at the place a, with n entries before it, is the board of r alone, moved: its card and its entries.
pub record Relocated (c : Conventions) (a n : ℕ) (r : List ℕ) : Type 0 where
  pub card_moved : CardMoved a n (card_of c 0 0 r) (card_of c a n r)
  pub entries_moved : map (entry_words a) (record_out c r).entries ≡ map (moved_entry a) (map (entry_words 0) (record_out c r).entries)
