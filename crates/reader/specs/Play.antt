-- The play section (PBN 2.1, section 3.6): what each token of its data does. Its cards stand by seat from the opening leader;
-- a trick's slots run from its own leader.
use Rattle.std.specs.Prelude.{ℕ, ◌+◌, ◌-◌, ◌*◌, ◌/◌, ◌%◌, List, [], ◌∷◌, Bool, true, false, cond, ◌&&◌, not, leb, ltb, eqb}
use Rattle.tables.specs.declared.letters.Conventions.{Conventions}
use Rattle.reader.specs.declared.store.Entry.{Entry}
use Rattle.reader.specs.declared.play.Slots.{Slots}
use Rattle.reader.specs.declared.play.Tricks.{Tricks}
use Rattle.reader.specs.Pieces.{Piece, Out, out_all, entry, tokens_of}
use Rattle.tables.specs.Text.{ascii}
use Rattle.reader.specs.Words.{same, card_named, section_end}

-- The four slots of a trick, 255 for an empty one, else 13 × suit + rank.
abbrev pub no_slots : Slots
no_slots = record { a = 255; b = 255; c = 255; d = 255 }

-- The slot k, from 0, set to v.
abbrev pub with_slot : Slots → ℕ → ℕ → Slots
with_slot s k v =
    record {
      a = cond (eqb k 0) v s.a;
      b = cond (eqb k 1) v s.b;
      c = cond (eqb k 2) v s.c;
      d = cond (eqb k 3) v s.d;
    }

-- A full trick has four cards.
abbrev pub is_full : Slots → Bool
is_full s = not (eqb s.a 255) && (not (eqb s.b 255) && (not (eqb s.c 255) && not (eqb s.d 255)))

-- A card's weight in a trick: trumps above the suit that was led, other suits nothing.
unfoldable pub weight : ℕ → ℕ → ℕ → ℕ
weight trump led v = cond (eqb (v / 13) trump) (v % 13 + 14) (cond (eqb (v / 13) led) (v % 13 + 1) 0)

-- The slot of the first of the highest of four weights.
unfoldable pub best_slot : ℕ → ℕ → ℕ → ℕ → ℕ
best_slot p q r s =
    cond (leb q p && (leb r p && leb s p)) 0
    (cond (leb r q && leb s q) 1
    (cond (leb s r) 2 3))

-- The seat of the first highest trump, else of the first highest card of slot 0's suit.
abbrev pub winner_of : ℕ → ℕ → Slots → ℕ
winner_of trump leader s =
    (leader + best_slot (weight trump (s.a / 13) s.a) (weight trump (s.a / 13) s.b) (weight trump (s.a / 13) s.c) (weight trump (s.a / 13) s.d)) % 4

-- A trick as an entry: leader, winner or 4, and the slots a byte each, lowest first.
abbrev pub trick_entry : Tricks → Entry
trick_entry t = entry 8 t.leader t.winner (t.slots.a + 256 * t.slots.b + 65536 * t.slots.c + 16777216 * t.slots.d)

-- Play so far: whether a trick is open, its leader, its winner or 4, its slots, how many seats of it are taken, the end mark,
-- whether the section has stopped, and how many tricks were closed.
abbrev pub new_trick : ℕ → ℕ → ℕ → Tricks
new_trick leader end count = record { any = true; leader = leader; winner = 4; slots = no_slots; seat = 0; end = end; stopped = false; count = count }

-- A trick of four seats hands the lead to its winner or, where it has a gap and so no winner, back to its own leader.
abbrev pub next_leader : ℕ → ℕ → ℕ
next_leader winner leader = cond (eqb winner 4) leader winner

-- Any token opens the first trick, led by the opening leader, and after four seats the next.
unfoldable pub opened : ℕ → Tricks → Out Tricks
opened lead t =
    cond t.any
    (cond (eqb t.seat 4)
    (record { state = new_trick (next_leader t.winner t.leader) t.end (t.count + 1); entries = trick_entry t ∷ [] })
    (record { state = t; entries = [] }))
    (record { state = new_trick lead t.end t.count; entries = [] })

-- The end mark, whether the section stops, and the seats taken, set anew.
abbrev pub taking : Tricks → ℕ → Bool → ℕ → Tricks
taking t end stopped seat = record t { any = true; seat = seat; end = end; stopped = stopped }

-- The slot of the next seat, counted from the trick's own leader.
abbrev pub slot_of : ℕ → ℕ → ℕ → ℕ
slot_of lead seat leader = (lead + seat + 4 - leader) % 4

-- The next seat's card taken into the slots s. A trick with four cards has a winner.
abbrev pub with_card : ℕ → Tricks → Slots → Tricks
with_card trump t s =
    record t { any = true; winner = cond (is_full s) (winner_of trump t.leader s) t.winner; slots = s; seat = t.seat + 1; stopped = false }

-- An unknown card.
unfoldable pub is_gap : List ℕ → Bool
is_gap t = same (ascii "-") t

-- `+` takes a seat and sets the end; `*` stops; `-` takes a seat; a card takes the next seat's slot; any other token nothing.
unfoldable pub played : Conventions → ℕ → ℕ → Tricks → List ℕ → Tricks
played c lead trump t bytes =
    cond (eqb (section_end bytes) 1) (taking t 1 false (t.seat + 1))
    (cond (eqb (section_end bytes) 2) (taking t 2 true t.seat)
    (cond (is_gap bytes) (taking t t.end false (t.seat + 1))
    (cond (ltb (card_named c bytes) 52) (with_card trump t (with_slot t.slots (slot_of lead t.seat t.leader) (card_named c bytes))) t)))

-- One token, from the opening of its trick on; nothing once the section has stopped.
unfoldable pub played_bytes : Conventions → ℕ → ℕ → Tricks → List ℕ → Out Tricks
played_bytes c lead trump t bytes =
    cond t.stopped (record { state = t; entries = [] })
    (record { state = played c lead trump (opened lead t).state bytes; entries = (opened lead t).entries })

abbrev pub played_token : Conventions → ℕ → ℕ → Tricks → Piece → Out Tricks
played_token c lead trump t q = played_bytes c lead trump t q.bytes

-- All tokens of one piece of data.
unfoldable pub played_piece : Conventions → ℕ → ℕ → Tricks → Piece → Out Tricks
played_piece c lead trump t q = out_all (played_token c lead trump) t (tokens_of q)

-- The section closes: an open trick is closed too.
abbrev pub one_more : Tricks → Tricks
one_more t = record t { count = t.count + 1 }

unfoldable pub last_trick : Tricks → Out Tricks
last_trick t =
    cond t.any
    (record { state = one_more t; entries = trick_entry t ∷ [] })
    (record { state = t; entries = [] })

-- Before the first token.
abbrev pub no_tricks : Tricks
no_tricks = record { any = false; leader = 4; winner = 4; slots = no_slots; seat = 0; end = 0; stopped = false; count = 0 }
