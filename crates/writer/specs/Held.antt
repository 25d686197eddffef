-- A board as the lent words hold it once its edition was read: its card, its entries, and the bytes of the text at their places.
use Rattle.std.specs.Prelude.{ℕ, zero, suc, ◌+◌, ◌-◌, ◌*◌, ◌/◌, cond, List, [], ◌∷◌, map, eqb, ltb, length, get_or}
use Rattle.std.proofs.Math.Option.{Option, none, some}
use Rattle.reader.specs.Tag.{cut}
use Rattle.reader.specs.declared.board.Identity.{Identity}
use Rattle.reader.specs.Plain.{Item, PlainAuction, PlainPlay, PlainValues, PlainBoard, tags_in, remarks_in, block_value, calls_in, tricks_in}
use Rattle.writer.specs.Tags.{vulnerability}

-- ---- entries

-- The word j of the entry e; a lent tail too short for an entry counts as none.
unfoldable pub entry_word : List ℕ → ℕ → ℕ → ℕ
entry_word entries e j = cond (ltb e (length entries / 4)) (get_or entries (4 * e + j) 0) 0

-- The bytes of the text at the place of the entry e.
abbrev pub place_bytes : List ℕ → List ℕ → ℕ → List ℕ
place_bytes text entries e = cut (record { start = entry_word entries e 1; len = entry_word entries e 2 }) text

-- The entry e, without its place.
unfoldable pub item_at : List ℕ → List ℕ → ℕ → Item
item_at text entries e =
    record {
      kind = entry_word entries e 0;
      bytes = cond (eqb (entry_word entries e 0) 8) [] (place_bytes text entries e);
      leader = cond (eqb (entry_word entries e 0) 8) (entry_word entries e 1) 0;
      winner = cond (eqb (entry_word entries e 0) 8) (entry_word entries e 2) 0;
      mark = entry_word entries e 3;
    }

-- The n entries from e on.
abbrev pub items_at : List ℕ → List ℕ → ℕ → ℕ → List Item
items_at text entries e zero = []
items_at text entries e (suc n) = item_at text entries e ∷ items_at text entries (e + 1) n

-- ---- cards

-- The word i of the card k.
unfoldable pub card_word : List ℕ → ℕ → ℕ → ℕ
card_word cards k i = cond (ltb k (length cards / 64)) (get_or cards (64 * k + i) 0) 0

-- The n words from i on.
abbrev pub card_part : List ℕ → ℕ → ℕ → ℕ → List ℕ
card_part cards k i zero = []
card_part cards k i (suc n) = card_word cards k i ∷ card_part cards k (i + 1) n

-- The value that a word of a card names: an entry plus 1, 0 absent.
unfoldable pub value_held : List ℕ → List ℕ → ℕ → Option (List ℕ)
value_held text entries w = cond (eqb w 0) none (some (place_bytes text entries (w - 1)))

-- The entries of the board k, words 0 and 1.
unfoldable pub board_items : List ℕ → List ℕ → List ℕ → ℕ → List Item
board_items text cards entries k = items_at text entries (card_word cards k 0) (card_word cards k 1)

-- A section, word i being its first entry plus 1: the entries of the board before it, and its own.
unfoldable pub items_up_to : List ℕ → List ℕ → List ℕ → ℕ → ℕ → List Item
items_up_to text cards entries k i = items_at text entries (card_word cards k 0) (card_word cards k i - 1 - card_word cards k 0)

unfoldable pub section_items : List ℕ → List ℕ → List ℕ → ℕ → ℕ → List Item
section_items text cards entries k i = items_at text entries (card_word cards k i - 1) (card_word cards k (i + 1))

abbrev pub if_named : {A : Type 0} → ℕ → A → Option A
if_named w a = cond (eqb w 0) none (some a)

-- Words 51 to 54: the auction in force.
unfoldable pub auction_held : List ℕ → List ℕ → List ℕ → ℕ → Option PlainAuction
auction_held text cards entries k =
    if_named (card_word cards k 51) (record {
      dealer = card_word cards k 53;
      end = card_word cards k 54;
      before = length (tags_in (items_up_to text cards entries k 51));
      calls = calls_in (section_items text cards entries k 51);
    })

-- Words 55 to 58: the play in force.
unfoldable pub play_held : List ℕ → List ℕ → List ℕ → ℕ → Option PlainPlay
play_held text cards entries k =
    if_named (card_word cards k 55) (record {
      leader = card_word cards k 57;
      end = card_word cards k 58;
      tricks = tricks_in (section_items text cards entries k 55);
    })

-- Words 39 to 50.
unfoldable pub values_held : List ℕ → List ℕ → List ℕ → ℕ → PlainValues
values_held text cards entries k =
    record {
      id = value_held text entries (card_word cards k 39);
      event = value_held text entries (card_word cards k 40);
      site = value_held text entries (card_word cards k 41);
      date = value_held text entries (card_word cards k 42);
      contract = value_held text entries (card_word cards k 43);
      north = value_held text entries (card_word cards k 44);
      east = value_held text entries (card_word cards k 45);
      south = value_held text entries (card_word cards k 46);
      west = value_held text entries (card_word cards k 47);
      deal = value_held text entries (card_word cards k 48);
      score = value_held text entries (card_word cards k 49);
      par = value_held text entries (card_word cards k 50);
    }

-- The plain board of the card k, its vulnerability as word 5 has it.
unfoldable pub board_held : List ℕ → List ℕ → List ℕ → ℕ → PlainBoard
board_held text cards entries k =
    record {
      id = record {
        number_met = card_word cards k 2;
        number = card_word cards k 3;
        dealer = card_word cards k 4;
        vulnerability = card_word cards k 5;
        declarer = card_word cards k 6;
        result_met = card_word cards k 7;
        result = card_word cards k 8;
      };
      deal = record { kind = card_word cards k 9; words = card_part cards k 10 8 };
      table = record { kind = card_word cards k 38; cells = card_part cards k 18 20 };
      values = values_held text cards entries k;
      tags = tags_in (board_items text cards entries k);
      directives = remarks_in 3 (board_items text cards entries k);
      blocks = map block_value (remarks_in 4 (board_items text cards entries k));
      auction = auction_held text cards entries k;
      play = play_held text cards entries k;
      trump = card_word cards k 59;
    }

-- The n boards from k on.
abbrev pub boards_held : List ℕ → List ℕ → List ℕ → ℕ → ℕ → List PlainBoard
boards_held text cards entries k zero = []
boards_held text cards entries k (suc n) = board_held text cards entries k ∷ boards_held text cards entries (k + 1) n

-- ---- what is read, as a card has it

-- An identity with the vulnerability of its card: None where none was read.
unfoldable pub shown : Identity → Identity
shown i =
    record {
      number_met = i.number_met;
      number = i.number;
      dealer = i.dealer;
      vulnerability = vulnerability i;
      declarer = i.declarer;
      result_met = i.result_met;
      result = i.result;
    }

-- A plain board likewise.
unfoldable pub seen : PlainBoard → PlainBoard
seen b =
    record {
      id = shown b.id;
      deal = b.deal;
      table = b.table;
      values = b.values;
      tags = b.tags;
      directives = b.directives;
      blocks = b.blocks;
      auction = b.auction;
      play = b.play;
      trump = b.trump;
    }
