-- The plain board: what a record holds once places in its text are erased. Writing is defined on plain boards.
use Rattle.std.specs.Prelude.{ℕ, ◌+◌, ◌-◌, ◌/◌, ◌%◌, ◌≡◌, List, [], ◌∷◌, ◌++◌, map, Bool, true, false, cond, ◌&&◌, ◌||◌, not, eqb, length, take, drop, get_or}
use Rattle.std.proofs.Math.Option.{Option, none, some}
use Rattle.tables.specs.declared.letters.Conventions.{Conventions}
use Rattle.tables.specs.Letters.{among}
use Rattle.reader.specs.declared.store.Entry.{Entry}
use Rattle.reader.specs.declared.play.Slots.{Slots}
use Rattle.reader.specs.declared.board.Identity.{Identity}
use Rattle.reader.specs.declared.board.DealCard.{DealCard}
use Rattle.reader.specs.declared.board.TableCard.{TableCard}
use Rattle.reader.specs.declared.board.Values.{Values}
use Rattle.reader.specs.declared.board.Section.{Section}
use Rattle.reader.specs.declared.board.Board.{Board}
use Rattle.reader.specs.Tag.{cut, is_comment}
use Rattle.reader.specs.Boards.{record_out}
use Rattle.reader.specs.Records.{records_of}

-- ---- entries without places

-- An entry's kind, the bytes at its place, and its words that are no place: leader and winner of a trick; tags before it, section, code
-- or slots. A trick has no bytes; what is no trick has no leader and no winner.
pub record Item : Type 0 where
  pub kind : ℕ
  pub bytes : List ℕ
  pub leader : ℕ
  pub winner : ℕ
  pub mark : ℕ

-- The bytes of the record r at the place of an entry.
abbrev pub bytes_of : List ℕ → Entry → List ℕ
bytes_of r e = cond (eqb e.kind 8) [] (cut (record { start = e.x; len = e.y }) r)

unfoldable pub item_of : List ℕ → Entry → Item
item_of r e =
    record {
      kind = e.kind;
      bytes = bytes_of r e;
      leader = cond (eqb e.kind 8) e.x 0;
      winner = cond (eqb e.kind 8) e.y 0;
      mark = e.z;
    }

abbrev pub items_of : List ℕ → List Entry → List Item
items_of r es = map (item_of r) es

-- ---- the parts of a plain board

-- A tag.
pub record TagPair : Type 0 where
  pub name : List ℕ
  pub value : List ℕ

-- A directive or a commentary block, and how many of the record's tags stand before it.
pub record Remark : Type 0 where
  pub bytes : List ℕ
  pub before : ℕ

-- A call, and its annotations in a row; no bytes where it has none.
pub record PlainCall : Type 0 where
  pub code : ℕ
  pub annotation : List ℕ

-- The auction in force: its dealer, its end (0 none, 1 `+`, 2 `*`), how many of the record's tags stand before its calls, its calls. Its
-- notes are the Note tags behind those tags.
pub record PlainAuction : Type 0 where
  pub dealer : ℕ
  pub end : ℕ
  pub before : ℕ
  pub calls : List PlainCall

-- A trick: its leader, its winner or 4, and its slots from its own leader on, 255 for an empty one, else 13 × suit + rank.
pub record PlainTrick : Type 0 where
  pub leader : ℕ
  pub winner : ℕ
  pub slots : Slots

-- The play in force: its opening leader, its end, its tricks.
pub record PlainPlay : Type 0 where
  pub leader : ℕ
  pub end : ℕ
  pub tricks : List PlainTrick

-- Values, where they are kept.
pub record PlainValues : Type 0 where
  pub id : Option (List ℕ)
  pub event : Option (List ℕ)
  pub site : Option (List ℕ)
  pub date : Option (List ℕ)
  pub contract : Option (List ℕ)
  pub north : Option (List ℕ)
  pub east : Option (List ℕ)
  pub south : Option (List ℕ)
  pub west : Option (List ℕ)
  pub deal : Option (List ℕ)
  pub score : Option (List ℕ)
  pub par : Option (List ℕ)

-- The identity has the last Vulnerable that was read, 4 where none was. Tags, directives and blocks stand in the order met.
pub record PlainBoard : Type 0 where
  pub id : Identity
  pub deal : DealCard
  pub table : TableCard
  pub values : PlainValues
  pub tags : List TagPair
  pub directives : List Remark
  pub blocks : List Remark
  pub auction : Option PlainAuction
  pub play : Option PlainPlay
  pub trump : ℕ

-- ---- values

-- The bytes of the entry that is the k-th, from 1; 0 stands for none.
abbrev pub value_at : ℕ → List Item → Option (List ℕ)
value_at k [] = none
value_at k (i ∷ is) = cond (eqb k 1) (some i.bytes) (value_at (k - 1) is)

abbrev pub plain_values : Values → List Item → PlainValues
plain_values v is =
    record {
      id = value_at v.id is;
      event = value_at v.event is;
      site = value_at v.site is;
      date = value_at v.date is;
      contract = value_at v.contract is;
      north = value_at v.north is;
      east = value_at v.east is;
      south = value_at v.south is;
      west = value_at v.west is;
      deal = value_at v.deal is;
      score = value_at v.score is;
      par = value_at v.par is;
    }

-- ---- tags, directives, commentary

-- The bytes of the first of the entries.
abbrev pub first_bytes : List Item → List ℕ
first_bytes [] = []
first_bytes (i ∷ is) = i.bytes

-- A tag's value follows its name.
abbrev pub tags_in : List Item → List TagPair
tags_in [] = []
tags_in (i ∷ is) = cond (eqb i.kind 1) (record { name = i.bytes; value = first_bytes is } ∷ tags_in is) (tags_in is)

-- The directives (kind 3) or the blocks (kind 4).
abbrev pub remarks_in : ℕ → List Item → List Remark
remarks_in k [] = []
remarks_in k (i ∷ is) = cond (eqb i.kind k) (record { bytes = i.bytes; before = i.mark } ∷ remarks_in k is) (remarks_in k is)

-- A block's value drops a CR (13) before each LF (10).
abbrev pub starts_line : List ℕ → Bool
starts_line [] = false
starts_line (b ∷ bs) = eqb b 10

abbrev pub without_returns : List ℕ → List ℕ
without_returns [] = []
without_returns (b ∷ bs) = cond (eqb b 13 && starts_line bs) (without_returns bs) (b ∷ without_returns bs)

abbrev pub block_value : Remark → Remark
block_value k = record { bytes = without_returns k.bytes; before = k.before }

-- ---- sections

-- A section is absent where its first entry plus 1 is 0.
abbrev pub in_force : {A : Type 0} → Section → A → Option A
in_force s a = cond (eqb s.first 0) none (some a)

-- The entries before a section's, and its own.
abbrev pub items_before : Section → List Item → List Item
items_before s is = take (s.first - 1) is

abbrev pub items_within : Section → List Item → List Item
items_within s is = take s.count (drop (s.first - 1) is)

-- The annotations that stand first.
abbrev pub annotations_first : List Item → List ℕ
annotations_first [] = []
annotations_first (i ∷ is) = cond (eqb i.kind 7) (i.bytes ++ annotations_first is) []

-- Annotations follow their call.
abbrev pub calls_in : List Item → List PlainCall
calls_in [] = []
calls_in (i ∷ is) = cond (eqb i.kind 6) (record { code = i.mark; annotation = annotations_first is } ∷ calls_in is) (calls_in is)

abbrev pub plain_auction : Section → List Item → PlainAuction
plain_auction s is =
    record {
      dealer = s.seat;
      end = s.end;
      before = length (tags_in (items_before s is));
      calls = calls_in (items_within s is);
    }

-- The slots, a byte each, lowest first.
abbrev pub slots_of : ℕ → Slots
slots_of z = record { a = z % 256; b = z / 256 % 256; c = z / 65536 % 256; d = z / 16777216 % 256 }

abbrev pub tricks_in : List Item → List PlainTrick
tricks_in [] = []
tricks_in (i ∷ is) = cond (eqb i.kind 8) (record { leader = i.leader; winner = i.winner; slots = slots_of i.mark } ∷ tricks_in is) (tricks_in is)

abbrev pub plain_play : Section → List Item → PlainPlay
plain_play s is = record { leader = s.seat; end = s.end; tricks = tricks_in (items_within s is) }

-- ---- the plain board

-- The board b with its entries, once their places are erased.
unfoldable pub plain_by : Board → List Item → PlainBoard
plain_by b is =
    record {
      id = b.id;
      deal = b.deal;
      table = b.table;
      values = plain_values b.values is;
      tags = tags_in is;
      directives = remarks_in 3 is;
      blocks = map block_value (remarks_in 4 is);
      auction = in_force b.auction (plain_auction b.auction is);
      play = in_force b.play (plain_play b.play is);
      trump = b.trump;
    }

-- The plain board of a record, from its own text.
unfoldable pub plain_of : Conventions → List ℕ → PlainBoard
plain_of c r = plain_by (record_out c r).state.board (items_of r (record_out c r).entries)

-- The plain boards of an edition.
unfoldable pub plain_boards : Conventions → List ℕ → List PlainBoard
plain_boards c text = map (plain_of c) (records_of text)

-- ---- where those bytes stand

-- The bytes of a text at the place that the four words of an entry give, as they are handed back: kind, start, length. A trick has none.
abbrev pub bytes_at : List ℕ → List ℕ → List ℕ
bytes_at text ws = cond (eqb (get_or ws 0 0) 8) [] (cut (record { start = get_or ws 1 0; len = get_or ws 2 0 }) text)

-- The bytes of all entries of records, each from its own record's text: those that the plain boards have.
abbrev pub bytes_from : Conventions → List (List ℕ) → List (List ℕ)
bytes_from c [] = []
bytes_from c (r ∷ rs) = map (bytes_of r) (record_out c r).entries ++ bytes_from c rs

-- ---- words of the card

-- The values in the order of the card's words 39 to 50: as entries plus 1, and as bytes.
abbrev pub value_list : Values → List ℕ
value_list v =
    v.id ∷ v.event ∷ v.site ∷ v.date ∷ v.contract ∷ v.north ∷ v.east ∷ v.south ∷ v.west ∷ v.deal ∷ v.score ∷ v.par ∷ []

abbrev pub plain_list : PlainValues → List (Option (List ℕ))
plain_list v =
    v.id ∷ v.event ∷ v.site ∷ v.date ∷ v.contract ∷ v.north ∷ v.east ∷ v.south ∷ v.west ∷ v.deal ∷ v.score ∷ v.par ∷ []

-- The value that the word w of a card stands for: the bytes of the text at the place of the entry w - 1 of the edition, none for 0.
abbrev pub held_value : List ℕ → List (List ℕ) → ℕ → Option (List ℕ)
held_value text entries w = cond (eqb w 0) none (some (bytes_at text (get_or entries (w - 1) [])))

-- ---- anchors

-- How many of the entries are tag names.
abbrev pub tag_one : Entry → ℕ
tag_one e = cond (eqb e.kind 1) 1 0

abbrev pub tag_count : List Entry → ℕ
tag_count [] = 0
tag_count (e ∷ es) = tag_one e + tag_count es

-- An entry with n tags before it: a directive or a block says so.
pub record Marked (n : ℕ) (e : Entry) : Type 0 where
  pub marked : (eqb e.kind 3 || eqb e.kind 4) ≡ true → e.z ≡ n

-- Entries with n tags before the first: each directive and each block has the number of tags before it.
pub data AnchoredEntries : ℕ → List Entry → Type 0 where
  free : {n : ℕ} → AnchoredEntries n []
  next : {n : ℕ} {e : Entry} {es : List Entry} → Marked n e → AnchoredEntries (n + tag_one e) es → AnchoredEntries n (e ∷ es)

-- ---- what can be written

-- A directive stands on one line, so that it has no LF (10), and starts with `%` (37), with `;`, or with a `{` that is closed on the line.
unfoldable pub good_directive : List ℕ → Bool
good_directive d = not (among 10 d) && (eqb (get_or d 0 0) 37 || is_comment d)

-- A block has no `}` (125) before an LF (10): commentary ends at the first line with a `}`.
abbrev pub good_block : List ℕ → Bool
good_block [] = true
good_block (b ∷ bs) = not (eqb b 125 && among 10 bs) && good_block bs
