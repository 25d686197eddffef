-- The tricks of a plain board: a trick's slots are those that were played, and each is empty or a card.
use Rattle.std.specs.Prelude.{Some}
use Rattle.reader.specs.Boards.{block_of}
use Rattle.std.specs.Prelude.{Option}
use Prim.Native.Nat.{ℕ, ◌+◌, ◌-◌, ◌*◌, ◌/◌, ◌%◌, ◌≤◌}
use mathlib.Core.Path.{◌≡◌, refl, sym}
use mathlib.Core.Bool.{Bool, true, false, cond, ◌||◌}
use mathlib.Core.List.{List, [], ◌∷◌}
use mathlib.Core.Option.{some}
use native.Mathlib.Omega.{arith}
use lib.Dec.{ltb, eqb}
use lib.ListN.{length}
use borrow.Author.Tests.{ltb-true, eqb-true}
use Rattle.tables.specs.declared.letters.Conventions.{Conventions}
use Rattle.tables.specs.Text.{lead}
use Rattle.tables.proofs.Laws.{by_cases, either}
use Rattle.reader.specs.declared.store.Entry.{Entry}
use Rattle.reader.specs.declared.tag.Span.{Span}
use Rattle.reader.specs.declared.tag.Tag.{Tag as TagPlaces}
use Rattle.reader.specs.declared.play.Slots.{Slots}
use Rattle.reader.specs.declared.play.Tricks.{Tricks}
use Rattle.reader.specs.declared.line.TagReading.{TagReading}
use Rattle.reader.specs.declared.line.TagReading.TheVariants.{Plain, WithComment, WithData}
use Rattle.reader.specs.declared.section.Open.{Open}
use Rattle.reader.specs.declared.section.Walk.{Walk}
use Rattle.reader.specs.declared.board.State.{State}
use Rattle.reader.specs.Words.{card_named, section_end}
use Rattle.reader.specs.Lines.{last_brace}
use Rattle.reader.specs.Pieces.{Piece, Out, out_all, entry, tokens_of}
use Rattle.reader.specs.Auction.{called_piece}
use Rattle.reader.specs.Play.{no_slots, with_slot, trick_entry, new_trick, next_leader, opened, taking, slot_of, with_card, is_gap, played, played_bytes, played_token, played_piece, one_more, last_trick}
use Rattle.reader.specs.Sections.{section_data, walked, no_walk, walked_all, rowed_piece, kind_of, opener}
use Rattle.reader.specs.Boards.{last_entries, closed_by, closed, no_span, at, tagged, data_added, read_by, is_all_white, blocked, record_out}
use Rattle.reader.specs.Plain.{item_of, items_of, PlainTrick, PlainPlay, slots_of, tricks_in, plain_by, plain_of}
use Rattle.reader.proofs.EntryLaws.{All, none, one, all_append, all_map, Inside}
use Rattle.reader.proofs.AuctionLaws.{CallsInside}
use Rattle.reader.proofs.Counts.{chosen}
use Rattle.reader.proofs.PlainLaws.{force_is}
use Rattle.reader.proofs.PlainCalls.{forced_all}
use Rattle.reader.proofs.PlainSteps.{HoldsOfRecord}

-- Empty, or a card.
abbrev pub is_slot : ℕ → Bool
is_slot x = eqb x 255 || ltb x 52

pub record Cards (s : Slots) : Type 0 where
  pub a_card : is_slot s.a ≡ true
  pub b_card : is_slot s.b ≡ true
  pub c_card : is_slot s.c ≡ true
  pub d_card : is_slot s.d ≡ true

no_cards : Cards no_slots
no_cards = record { a_card = refl; b_card = refl; c_card = refl; d_card = refl }

slot_low : (x : ℕ) → is_slot x ≡ true → x ≤ 255
slot_low x e = either (eqb x 255) (ltb x 52) e (λ t. omega (arith, eqb-true x 255 t)) (λ t. omega (arith, ltb-true x 52 t))

-- THEOREM. The slots of a trick are read back from their number.
pub slots_back : (s : Slots) → Cards s → slots_of (s.a + 256 * s.b + 65536 * s.c + 16777216 * s.d) ≡ s
slots_back s h =
    let z = s.a + 256 * s.b + 65536 * s.c + 16777216 * s.d in
    let la = slot_low s.a h.a_card in
    let lb = slot_low s.b h.b_card in
    let lc = slot_low s.c h.c_card in
    let ld = slot_low s.d h.d_card in
    let ea : z % 256 ≡ s.a = omega arith in
    let qb : z / 256 ≡ s.b + 256 * s.c + 65536 * s.d = omega arith in
    let qc : z / 65536 ≡ s.c + 256 * s.d = omega arith in
    let qd : z / 16777216 ≡ s.d = omega arith in
    let eb : (s.b + 256 * s.c + 65536 * s.d) % 256 ≡ s.b = omega arith in
    let ec : (s.c + 256 * s.d) % 256 ≡ s.c = omega arith in
    let ed : s.d % 256 ≡ s.d = omega arith in
    rw (ea, qb, qc, qd, eb, ec, ed)

-- ---- play

set_cards : (s : Slots) (k v : ℕ) → is_slot v ≡ true → Cards s → Cards (with_slot s k v)
set_cards s k v h i =
    let put : (t : Bool) (x : ℕ) → is_slot x ≡ true → is_slot (cond t v x) ≡ true = λ t x z. chosen (λ y. is_slot y ≡ true) t v x (λ u. h) (λ u. z) in
    record {
      a_card = put (eqb k 0) s.a i.a_card;
      b_card = put (eqb k 1) s.b i.b_card;
      c_card = put (eqb k 2) s.c i.c_card;
      d_card = put (eqb k 3) s.d i.d_card;
    }

or_second : (b c : Bool) → c ≡ true → (b || c) ≡ true
or_second true c e = refl
or_second false c e = e

played_cards : (c : Conventions) (lead trump : ℕ) (t : Tricks) (bytes : List ℕ) → Cards t.slots → Cards (played c lead trump t bytes).slots
unfolding played
played_cards c lead trump t bytes h =
    let P : Tricks → Type 0 = λ x. Cards x.slots in
    let v = card_named c bytes in
    let card = with_card trump t (with_slot t.slots (slot_of lead t.seat t.leader) v) in
    let held = cond (ltb v 52) card t in
    let dash = cond (is_gap bytes) (taking t t.end false (t.seat + 1)) held in
    let star = cond (eqb (section_end bytes) 2) (taking t 2 true t.seat) dash in
    chosen P (eqb (section_end bytes) 1) (taking t 1 false (t.seat + 1)) star (λ e. h)
    (λ e.
    chosen P (eqb (section_end bytes) 2) (taking t 2 true t.seat) dash (λ f. h)
    (λ f.
    chosen P (is_gap bytes) (taking t t.end false (t.seat + 1)) held (λ g. h)
    (λ g. chosen P (ltb v 52) card t (λ k. set_cards t.slots (slot_of lead t.seat t.leader) v (or_second (eqb v 255) (ltb v 52) k) h) (λ k. h))))

-- A trick whose slots are empty or cards; any other entry.
pub record TrickGood (e : Entry) : Type 0 where
  pub cards_of_trick : e.kind ≡ 8 → Cards (slots_of e.z)

trick_good : (t : Tricks) → Cards t.slots → TrickGood (trick_entry t)
trick_good t h = record { cards_of_trick = λ u. moved (sym (slots_back t.slots h)) h }
  where
    moved : {x y : Slots} → x ≡ y → Cards x → Cards y
    moved e z = rw e at z

low_good : (e : Entry) → (e.kind ≡ 8 → ⊥) → TrickGood e
low_good e x = record { cards_of_trick = λ u. absurd (x u) }

-- A step of the play: its tricks, and the slots that stay open.
record Plays (o : Out Tricks) : Type 0 where
  left : Cards o.state.slots
  given : All TrickGood o.entries

opened_plays : (lead : ℕ) (t : Tricks) → Cards t.slots → Plays (opened lead t)
unfolding opened
opened_plays lead t h =
    let next : Out Tricks = record { state = new_trick (next_leader t.winner t.leader) t.end (t.count + 1); entries = trick_entry t ∷ [] } in
    let same : Out Tricks = record { state = t; entries = [] } in
    let new : Out Tricks = record { state = new_trick lead t.end t.count; entries = [] } in
    chosen (λ o. Plays o) t.any (cond (eqb t.seat 4) next same) new
    (λ e. chosen (λ o. Plays o) (eqb t.seat 4) next same (λ f. record { left = no_cards; given = one (trick_good t h) none }) (λ f. record { left = h; given = none }))
    (λ e. record { left = no_cards; given = none })

bytes_plays : (c : Conventions) (lead trump : ℕ) (t : Tricks) (bytes : List ℕ) → Cards t.slots → Plays (played_bytes c lead trump t bytes)
unfolding played_bytes
bytes_plays c lead trump t bytes h =
    let o = opened_plays lead t h in
    chosen (λ o. Plays o) t.stopped (record { state = t; entries = [] }) (record { state = played c lead trump (opened lead t).state bytes; entries = (opened lead t).entries })
    (λ e. record { left = h; given = none })
    (λ e. record { left = played_cards c lead trump (opened lead t).state bytes o.left; given = o.given })

tokens_play : (c : Conventions) (lead trump : ℕ) (t : Tricks) (ts : List Piece) → Cards t.slots → Plays (out_all (played_token c lead trump) t ts)
tokens_play c lead trump t [] h = record { left = h; given = none }
tokens_play c lead trump t (q ∷ qs) h =
    let a = bytes_plays c lead trump t q.bytes h in
    let b = tokens_play c lead trump (played_bytes c lead trump t q.bytes).state qs a.left in
    record { left = b.left; given = all_append a.given b.given }

piece_plays : (c : Conventions) (lead trump : ℕ) (t : Tricks) (q : Piece) → Cards t.slots → Plays (played_piece c lead trump t q)
unfolding played_piece
piece_plays c lead trump t q h = tokens_play c lead trump t (tokens_of q) h

-- ---- a section

record Walked (o : Out Walk) : Type 0 where
  left : Cards o.state.tricks.slots
  given : All TrickGood o.entries

call_good : (lo hi : ℕ) (e : Entry) → Inside lo hi e → TrickGood e
call_good lo hi e i =
    low_good e (λ u. either (eqb e.kind 6) (eqb e.kind 7) i.placed (λ t. omega (arith, u, eqb-true e.kind 6 t)) (λ t. omega (arith, u, eqb-true e.kind 7 t)))

walked_tricks : (c : Conventions) (o : Option Open) (trump : ℕ) (w : Walk) (q : Piece) → Cards w.tricks.slots → Walked (walked c o trump w q)
unfolding walked
walked_tricks c o trump w q h =
    let calls : Out Walk = record { state = record { bidding = (called_piece c w.bidding q).state; tricks = w.tricks; rows = w.rows }; entries = (called_piece c w.bidding q).entries } in
    let cards : Out Walk =
    record {
      state = record { bidding = w.bidding; tricks = (played_piece c (opener o) trump w.tricks q).state; rows = w.rows };
      entries = (played_piece c (opener o) trump w.tricks q).entries;
    } in
    let row : Out Walk = record { state = record { bidding = w.bidding; tricks = w.tricks; rows = rowed_piece c w.rows q }; entries = [] } in
    let p = piece_plays c (opener o) trump w.tricks q h in
    chosen (λ x. Walked x) (eqb (kind_of o) 1) calls (cond (eqb (kind_of o) 2) cards row)
    (λ e. record { left = h; given = all_map (λ x i. call_good q.at (q.at + length q.bytes) x i) (CallsInside c w.bidding q) })
    (λ e. chosen (λ x. Walked x) (eqb (kind_of o) 2) cards row (λ f. record { left = p.left; given = p.given }) (λ f. record { left = h; given = none }))

pieces_walked : (c : Conventions) (o : Option Open) (trump : ℕ) (w : Walk) (qs : List Piece) → Cards w.tricks.slots → Walked (out_all (walked c o trump) w qs)
pieces_walked c o trump w [] h = record { left = h; given = none }
pieces_walked c o trump w (q ∷ qs) h =
    let a = walked_tricks c o trump w q h in
    let b = pieces_walked c o trump (walked c o trump w q).state qs a.left in
    record { left = b.left; given = all_append a.given b.given }

section_walked : (c : Conventions) (r : List ℕ) (o : Option Open) (trump : ℕ) → Walked (walked_all c r o trump)
unfolding walked_all no_walk
section_walked c r o trump = pieces_walked c o trump no_walk (section_data r o) no_cards

last_good : (kind : ℕ) (w : Walk) → Cards w.tricks.slots → All TrickGood (last_entries kind w)
unfolding last_trick
last_good kind w h =
    let t = w.tricks in
    chosen (λ es. All TrickGood es) (eqb kind 2) (last_trick t).entries []
    (λ e.
    chosen (λ (o : Out Tricks). All TrickGood o.entries) t.any (record { state = one_more t; entries = trick_entry t ∷ [] }) (record { state = t; entries = [] })
    (λ f. one (trick_good t h) none)
    (λ f. none))
    (λ e. none)

closed_tricks : (c : Conventions) (r : List ℕ) (s : State) → All TrickGood (closed c r s).entries
unfolding closed
closed_tricks c r s =
    let w = walked_all c r s.section s.board.contract in
    let a = section_walked c r s.section s.board.contract in
    chosen (λ (o : Out State). All TrickGood o.entries) (eqb (kind_of s.section) 0) (record { state = s; entries = [] }) (closed_by s w)
    (λ e. none)
    (λ e. all_append a.given (last_good (kind_of s.section) w.state a.left))

-- ---- a record

low_one : (kind p n z : ℕ) → kind ≤ 5 → TrickGood (entry kind p n z)
low_one kind p n z h = low_good (entry kind p n z) (λ u. omega arith)

maybe_one : (b : Bool) (kind p n z : ℕ) → kind ≤ 5 → All TrickGood (cond b [] (entry kind p n z ∷ []))
maybe_one true kind p n z h = none
maybe_one false kind p n z h = one (low_one kind p n z h) none

blocked_tricks : (r : List ℕ) (s : State) (i j : ℕ) → All TrickGood (blocked r s i j).entries
unfolding blocked
blocked_tricks r s i j = maybe_one (is_all_white r i j) 4 i (j - i) s.tags (omega arith)

data_tricks : (s : State) (p : ℕ) (d : Span) → All TrickGood (data_added s p d).entries
data_tricks s p d = maybe_one (eqb (kind_of s.section) 0) 5 (p + d.start) d.len (kind_of s.section) (omega arith)

tagged_tricks : (c : Conventions) (s : State) (p : ℕ) (l : List ℕ) (q : ℕ) (t : TagPlaces) (split : Option Span) → All TrickGood (tagged c s p l q t split).entries
unfolding tagged
tagged_tricks c s p l q t split =
    one (low_one 1 (p + t.name.start) t.name.len 0 (omega arith)) (one (low_one 2 (p + t.value.start) t.value.len 0 (omega arith)) none)

reading_tricks : (c : Conventions) (s : State) (p : ℕ) (l : List ℕ) (q : ℕ) (t : TagReading) → All TrickGood (read_by c s p l q t).entries
reading_tricks c s p l q (Plain t) = tagged_tricks c s p l q t no_span
reading_tricks c s p l q (WithComment t d) =
    all_append (tagged_tricks c s p l q t no_span) (one (low_one 3 (p + d.start) d.len (tagged c s p l q t no_span).state.tags (omega arith)) none)
reading_tricks c s p l q (WithData t d) = all_append (tagged_tricks c s p l q t (Some (at p d))) (data_tricks (tagged c s p l q t (Some (at p d))).state p d)

-- THEOREM. Every slot of every trick of a record is empty or a card.
pub TricksGood : (c : Conventions) (r : List ℕ) → All TrickGood (record_out c r).entries
TricksGood c r =
    HoldsOfRecord c r (λ p s q o. All TrickGood o.entries)
    record {
      together = λ p q z s o k a b. all_append a b;
      closing = λ p s. closed_tricks c r s;
      idle = λ p s l i n. none;
      quiet = λ p s l i n b. none;
      opening = λ p s l i n k b. none;
      bracing = λ p s l i n k b. blocked_tricks r s (p + length (lead l) + 1) (p + last_brace l);
      commentary = λ p s l i n b. blocked_tricks r s (block_of s) (p + last_brace l);
      directing = λ p s l d i n k. one (low_one 3 (p + d.start) d.len s.tags (omega arith)) none;
      dating = λ p s l d i n k. data_tricks s p d;
      tagging = λ p s l t i k. reading_tricks c s p l (p + length l) t;
    }

-- ---- the plain board

pub record TrickCards (t : PlainTrick) : Type 0 where
  pub cards : Cards t.slots

tricks_cards : (r : List ℕ) {es : List Entry} → All TrickGood es → All TrickCards (tricks_in (items_of r es))
unfolding item_of
tricks_cards r none = none
tricks_cards r (one {x = e} g a) =
    by_cases (eqb e.kind 8)
    (λ t. rw t (one {x = record { leader = e.x; winner = e.y; slots = slots_of e.z }} (record { cards = g.cards_of_trick (eqb-true e.kind 8 t) }) (tricks_cards r a)))
    (λ t. rw t (tricks_cards r a))

-- THEOREM. Every slot of a plain board's play is empty or a card.
pub PlainTricks : (c : Conventions) (r : List ℕ) (a : PlainPlay) → (plain_of c r).play ≡ some a → All TrickCards a.tricks
unfolding plain_of plain_by
PlainTricks c r a e = let s = (record_out c r).state.board.play in forced_all r s tricks_in (λ x. x.tricks) (force_is s _ a e) refl (λ fs g. tricks_cards r g) (TricksGood c r)
