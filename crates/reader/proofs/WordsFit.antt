-- What a record says besides places fits words of 32 bits: the marks of its entries, the seats of its tricks, and the seats, ends and
-- trump of its sections.
use Rattle.reader.specs.Boards.{block_of}
use Rattle.std.specs.Prelude.{None}
use Rattle.reader.specs.declared.section.Kind.TheVariants.{Auction, Play, Optimum}
use Rattle.reader.specs.declared.section.Kind.{Kind}
use Prim.Native.Nat.{ℕ, ◌+◌, ◌-◌, ◌≤◌, ◌<◌}
use mathlib.Core.Path.{◌≡◌, sym}
use mathlib.Core.Bool.{Bool, true, false, cond, ◌&&◌, ◌||◌}
use mathlib.Core.List.{List, [], ◌∷◌}
use native.Mathlib.Omega.{arith}
use lib.Dec.{ltb, eqb}
use lib.ListN.{length, take}
use borrow.Author.Tests.{ltb-true}
use Rattle.tables.specs.declared.letters.Conventions.{Conventions}
use Rattle.tables.specs.Text.{lead, first_character}
use Rattle.tables.specs.Letters.{seat_of}
use Rattle.tables.specs.Tables.{TableReading, gathered}
use Rattle.tables.proofs.Laws.{by_cases, clash}
use Rattle.reader.specs.declared.store.Entry.{Entry}
use Rattle.reader.specs.declared.tag.Span.{Span}
use Rattle.reader.specs.declared.tag.Tag.{Tag as TagPlaces}
use Rattle.reader.specs.declared.line.TagReading.{TagReading}
use Rattle.reader.specs.declared.line.TagReading.TheVariants.{Plain, WithComment, WithData}
use Rattle.reader.specs.declared.auction.CallToken.{CallToken}
use Rattle.reader.specs.declared.auction.CallToken.TheVariants.{Plus, Star, AllPass, Annotation, Call, NoCall}
use Rattle.reader.specs.declared.auction.Bidding.{Bidding}
use Rattle.reader.specs.declared.play.Tricks.{Tricks}
use Rattle.reader.specs.declared.section.Open.{Open}
use Rattle.reader.specs.declared.section.Walk.{Walk}
use Rattle.reader.specs.declared.board.Board.{Board}
use Rattle.reader.specs.declared.board.State.{State}
use Rattle.reader.specs.Lines.{last_brace}
use Rattle.reader.specs.Names.{tag_number}
use Rattle.reader.specs.Tag.{cut}
use Rattle.reader.specs.Words.{card_named, call_of, call_part, contract_trump, section_end, is_all_pass}
use Rattle.reader.specs.Pieces.{Piece, Out, out_all, and_then, entry, tokens_of}
use Rattle.reader.specs.Auction.{call_with, call_parts, call_token_of, annotation, called_by, called, called_piece}
use Rattle.reader.specs.Play.{no_slots, with_slot, is_full, winner_of, trick_entry, new_trick, next_leader, opened, taking, slot_of, with_card, is_gap, played, played_bytes, played_token, played_piece, one_more, last_trick}
use Rattle.reader.specs.TokenSteps.{Low}
use Rattle.reader.specs.Sections.{section_data, walked, no_walk, walked_all, rowed_piece, kind_of, opener, kind_number, kind_seat}
use Rattle.reader.specs.Boards.{is_kept_contract, contract_by, applied, no_span, no_open, at, seat_open, open_by, with_sections, auction_closed, play_closed, rows_closed, rows_taken, table_closed, last_entries, closed_by, closed, adding, tagged, directed, data_added, read_by, is_all_white, with_commentary, blocked, no_state, record_out}
use Rattle.reader.specs.Plain.{tag_one, AnchoredEntries, free, next}
use Rattle.reader.proofs.EntryLaws.{All, none, one, all_append}
use Rattle.reader.proofs.ApplyBounds.{seat_low, trump_low}
use Rattle.reader.proofs.PlayLaws.{cond_low}
use Rattle.reader.proofs.Counts.{chosen, EntriesFew}
use Rattle.reader.proofs.PlainCalls.{call_low}
use Rattle.reader.proofs.PlainAnchors.{TagsBefore}
use Rattle.reader.proofs.PlainSteps.{HoldsOfRecord}
use Rattle.std.specs.Prelude.{Ok, Err, Option, Some, None}

-- ---- entries

abbrev is_remark : ℕ → Bool
is_remark k = eqb k 3 || eqb k 4

-- An entry whose mark fits, unless it is a directive or a block, which has the number of tags before it; a trick's seats are low.
record Said (e : Entry) : Type 0 where
  mark_said : is_remark e.kind ≡ false → e.z < 4294967296
  leader_said : e.kind ≡ 8 → e.x ≤ 4
  winner_said : e.kind ≡ 8 → e.y ≤ 4

other_said : (k x y z : ℕ) → k ≤ 7 → z < 4294967296 → Said (entry k x y z)
other_said k x y z h i = record { mark_said = λ t. i; leader_said = λ (u : k ≡ 8). omega arith; winner_said = λ (u : k ≡ 8). omega arith }

directive_said : (x y z : ℕ) → Said (entry 3 x y z)
directive_said x y z = record { mark_said = λ t. clash (sym t); leader_said = λ u. omega arith; winner_said = λ u. omega arith }

block_said : (x y z : ℕ) → Said (entry 4 x y z)
block_said x y z = record { mark_said = λ t. clash (sym t); leader_said = λ u. omega arith; winner_said = λ u. omega arith }

-- A step that keeps what holds of its state.
record Step {A : Type 0} (I : A → Type 0) (o : Out A) : Type 0 where
  left : I o.state
  given : All Said o.entries

steps : {A B : Type 0} (f : A → B → Out A) (I : A → Type 0) → ((a : A) (b : B) → I a → Step I (f a b)) → (a : A) (bs : List B) → I a → Step I (out_all f a bs)
steps f I h a [] i = record { left = i; given = none }
steps f I h a (b ∷ bs) i =
    let x = h a b i in
    let y = steps f I h (f a b).state bs x.left in
    record { left = y.left; given = all_append x.given y.given }

-- ---- calls

abbrev Ends : Bidding → Type 0
Ends b = b.end ≤ 2

abbrev CodeLow : CallToken → Type 0
CodeLow Plus = Unit {0}
CodeLow Star = Unit {0}
CodeLow AllPass = Unit {0}
CodeLow Annotation = Unit {0}
CodeLow (Call code k) = code ≤ 47
CodeLow NoCall = Unit {0}

token_low : (c : Conventions) (t : List ℕ) → CodeLow (call_token_of c t)
unfolding call_token_of
token_low c t =
    let k = length (call_part t) in
    let code = call_of c (take k t) in
    chosen CodeLow (eqb (section_end t) 1) Plus (cond (eqb (section_end t) 2) Star (cond (is_all_pass t) AllPass (call_parts c t k))) (λ e. tt)
    (λ e.
    chosen CodeLow (eqb (section_end t) 2) Star (cond (is_all_pass t) AllPass (call_parts c t k)) (λ f. tt)
    (λ f.
    chosen CodeLow (is_all_pass t) AllPass (call_parts c t k) (λ g. tt)
    (λ g.
    chosen CodeLow (eqb k 0) Annotation (call_with code k) (λ h. tt)
    (λ h. chosen CodeLow (eqb code 47) NoCall (Call code k) (λ i. tt) (λ i. call_low c (take k t))))))

commentary_said : (p n : ℕ) → All Said (annotation p n)
commentary_said p n = chosen (λ es. All Said es) (ltb 0 n) (entry 7 p n 0 ∷ []) [] (λ e. one (other_said 7 p n 0 (omega arith) (omega arith)) none) (λ e. none)

token_step : (k : CallToken) (b : Bidding) (t : Piece) → CodeLow k → Ends b → Step Ends (called_by k b t)
token_step Plus b t l h = record { left = omega arith; given = one (other_said 6 t.at (length t.bytes) 38 (omega arith) (omega arith)) none }
token_step Star b t l h = record { left = omega arith; given = none }
token_step AllPass b t l h =
    let pass = other_said 6 t.at (length t.bytes) 0 (omega arith) (omega arith) in
    record { left = h; given = one pass (one pass (one pass none)) }
token_step Annotation b t l h =
    chosen (λ o. Step Ends o) b.made
    (record { state = record { any = true; made = true; end = b.end; stopped = false; count = b.count + 1 }; entries = entry 7 t.at (length t.bytes) 0 ∷ [] })
    (record { state = record { any = true; made = false; end = b.end; stopped = false; count = b.count }; entries = [] })
    (λ e. record { left = h; given = one (other_said 7 t.at (length t.bytes) 0 (omega arith) (omega arith)) none })
    (λ e. record { left = h; given = none })
token_step (Call code k) b t l h =
    record {
      left = h;
      given = one (other_said 6 t.at k code (omega arith) (omega arith)) (commentary_said (t.at + k) (length t.bytes - k));
    }
token_step NoCall b t l h = record { left = h; given = none }

called_step : (c : Conventions) (b : Bidding) (t : Piece) → Ends b → Step Ends (called c b t)
unfolding called
called_step c b t h =
    chosen (λ o. Step Ends o) b.stopped (record { state = b; entries = [] }) (called_by (call_token_of c t.bytes) b t)
    (λ e. record { left = h; given = none })
    (λ e. token_step (call_token_of c t.bytes) b t (token_low c t.bytes) h)

calls_step : (c : Conventions) (b : Bidding) (q : Piece) → Ends b → Step Ends (called_piece c b q)
unfolding called_piece
calls_step c b q h = steps (called c) Ends (called_step c) b (tokens_of q) h

-- ---- tricks

record InPlay (t : Tricks) : Type 0 where
  leader_low : t.leader ≤ 4
  winner_low : t.winner ≤ 4
  end_low : t.end ≤ 2
  slots_low : Low t.slots

no_slots_lem : Low no_slots
no_slots_lem = record { a_low = omega arith; b_low = omega arith; c_low = omega arith; d_low = omega arith }

trick_said : (t : Tricks) → InPlay t → Said (trick_entry t)
trick_said t h =
    let s = h.slots_low in
    record {
      mark_said = λ u. omega (arith, s.a_low, s.b_low, s.c_low, s.d_low);
      leader_said = λ u. h.leader_low;
      winner_said = λ u. h.winner_low;
    }

played_in : (c : Conventions) (lead trump : ℕ) (t : Tricks) (bytes : List ℕ) → InPlay t → InPlay (played c lead trump t bytes)
unfolding played
played_in c lead trump t bytes h =
    let P : Tricks → Type 0 = λ x. InPlay x in
    let v = card_named c bytes in
    let k = slot_of lead t.seat t.leader in
    let s = with_slot t.slots k v in
    let card = with_card trump t s in
    let held = cond (ltb v 52) card t in
    let dash = cond (is_gap bytes) (taking t t.end false (t.seat + 1)) held in
    let star = cond (eqb (section_end bytes) 2) (taking t 2 true t.seat) dash in
    chosen P (eqb (section_end bytes) 1) (taking t 1 false (t.seat + 1)) star
    (λ e. record { leader_low = h.leader_low; winner_low = h.winner_low; end_low = omega arith; slots_low = h.slots_low })
    (λ e.
    chosen P (eqb (section_end bytes) 2) (taking t 2 true t.seat) dash
    (λ f. record { leader_low = h.leader_low; winner_low = h.winner_low; end_low = omega arith; slots_low = h.slots_low })
    (λ f.
    chosen P (is_gap bytes) (taking t t.end false (t.seat + 1)) held
    (λ g. record { leader_low = h.leader_low; winner_low = h.winner_low; end_low = h.end_low; slots_low = h.slots_low })
    (λ g.
    chosen P (ltb v 52) card t
    (λ i.
    let low : v ≤ 255 = omega (arith, ltb-true v 52 i) in
    let l = h.slots_low in
    record {
      leader_low = h.leader_low;
      winner_low = cond_low (is_full s) (winner_of trump t.leader s) t.winner 4 (omega arith) h.winner_low;
      end_low = h.end_low;
      slots_low = record {
        a_low = cond_low (eqb k 0) v t.slots.a 255 low l.a_low;
        b_low = cond_low (eqb k 1) v t.slots.b 255 low l.b_low;
        c_low = cond_low (eqb k 2) v t.slots.c 255 low l.c_low;
        d_low = cond_low (eqb k 3) v t.slots.d 255 low l.d_low;
      };
    })
    (λ i. h))))

opened_step : (lead : ℕ) (t : Tricks) → lead ≤ 4 → InPlay t → Step InPlay (opened lead t)
unfolding opened
opened_step lead t low h =
    let later : Out Tricks = record { state = new_trick (next_leader t.winner t.leader) t.end (t.count + 1); entries = trick_entry t ∷ [] } in
    let same : Out Tricks = record { state = t; entries = [] } in
    let new : Out Tricks = record { state = new_trick lead t.end t.count; entries = [] } in
    chosen (λ o. Step InPlay o) t.any (cond (eqb t.seat 4) later same) new
    (λ e.
    chosen (λ o. Step InPlay o) (eqb t.seat 4) later same
    (λ f.
    record {
      left = record { leader_low = cond_low (eqb t.winner 4) t.leader t.winner 4 h.leader_low h.winner_low; winner_low = omega arith; end_low = h.end_low; slots_low = no_slots_lem };
      given = one (trick_said t h) none;
    })
    (λ f. record { left = h; given = none }))
    (λ e. record { left = record { leader_low = low; winner_low = omega arith; end_low = h.end_low; slots_low = no_slots_lem }; given = none })

token_played : (c : Conventions) (lead trump : ℕ) → lead ≤ 4 → (t : Tricks) (q : Piece) → InPlay t → Step InPlay (played_token c lead trump t q)
unfolding played_bytes
token_played c lead trump low t q h =
    let o = opened_step lead t low h in
    chosen (λ o. Step InPlay o) t.stopped (record { state = t; entries = [] }) (record { state = played c lead trump (opened lead t).state q.bytes; entries = (opened lead t).entries })
    (λ e. record { left = h; given = none })
    (λ e. record { left = played_in c lead trump (opened lead t).state q.bytes o.left; given = o.given })

plays_step : (c : Conventions) (lead trump : ℕ) (t : Tricks) (q : Piece) → lead ≤ 4 → InPlay t → Step InPlay (played_piece c lead trump t q)
unfolding played_piece
plays_step c lead trump t q low h = steps (played_token c lead trump) InPlay (token_played c lead trump low) t (tokens_of q) h

-- ---- a section

record InWalk (w : Walk) : Type 0 where
  calls_inside : Ends w.bidding
  tricks_in : InPlay w.tricks

walked_step : (c : Conventions) (o : Option Open) (trump : ℕ) → opener o ≤ 4 → (w : Walk) (q : Piece) → InWalk w → Step InWalk (walked c o trump w q)
unfolding walked
walked_step c o trump low w q h =
    let calls : Out Walk = record { state = record { bidding = (called_piece c w.bidding q).state; tricks = w.tricks; rows = w.rows }; entries = (called_piece c w.bidding q).entries } in
    let cards : Out Walk =
    record {
      state = record { bidding = w.bidding; tricks = (played_piece c (opener o) trump w.tricks q).state; rows = w.rows };
      entries = (played_piece c (opener o) trump w.tricks q).entries;
    } in
    let row : Out Walk = record { state = record { bidding = w.bidding; tricks = w.tricks; rows = rowed_piece c w.rows q }; entries = [] } in
    let x = calls_step c w.bidding q h.calls_inside in
    let y = plays_step c (opener o) trump w.tricks q low h.tricks_in in
    chosen (λ x. Step InWalk x) (eqb (kind_of o) 1) calls (cond (eqb (kind_of o) 2) cards row)
    (λ e. record { left = record { calls_inside = x.left; tricks_in = h.tricks_in }; given = x.given })
    (λ e.
    chosen (λ x. Step InWalk x) (eqb (kind_of o) 2) cards row
    (λ f. record { left = record { calls_inside = h.calls_inside; tricks_in = y.left }; given = y.given })
    (λ f. record { left = record { calls_inside = h.calls_inside; tricks_in = h.tricks_in }; given = none }))

section_step : (c : Conventions) (r : List ℕ) (o : Option Open) (trump : ℕ) → opener o ≤ 4 → Step InWalk (walked_all c r o trump)
unfolding walked_all no_walk
section_step c r o trump low =
    steps (walked c o trump) InWalk (walked_step c o trump low) no_walk (section_data r o)
    (record { calls_inside = omega arith; tricks_in = record { leader_low = omega arith; winner_low = omega arith; end_low = omega arith; slots_low = no_slots_lem } })

last_said : (kind : ℕ) (w : Walk) → InWalk w → All Said (last_entries kind w)
unfolding last_trick
last_said kind w h =
    let t = w.tricks in
    chosen (λ es. All Said es) (eqb kind 2) (last_trick t).entries []
    (λ e.
    chosen (λ (o : Out Tricks). All Said o.entries) t.any (record { state = one_more t; entries = trick_entry t ∷ [] }) (record { state = t; entries = [] })
    (λ f. one (trick_said t h.tricks_in) none)
    (λ f. none))
    (λ e. none)

-- ---- the board

-- The seats, ends and trump of a board's sections; and the trump of its contract.
pub record SectionsLow (b : Board) : Type 0 where
  pub auction_seat : b.auction.seat ≤ 4
  pub auction_end : b.auction.end ≤ 2
  pub play_seat : b.play.seat ≤ 4
  pub play_end : b.play.end ≤ 2
  pub trump_in : b.trump ≤ 4
  pub trump_of_contract : b.contract ≤ 4

record Ready (s : State) : Type 0 where
  opener_low : opener s.section ≤ 4
  kind_low : kind_of s.section ≤ 3
  board_in : SectionsLow s.board

rows_low : (b : Board) (x : TableReading) → SectionsLow b → SectionsLow (rows_closed b x)
rows_low b (Ok cells) h = record { auction_seat = h.auction_seat; auction_end = h.auction_end; play_seat = h.play_seat; play_end = h.play_end; trump_in = h.trump_in; trump_of_contract = h.trump_of_contract }
rows_low b (Err f) h = h

module _ (b : Board) (o : Option Open) (n : ℕ) (w : Walk) (low : opener o ≤ 4) (i : InWalk w) (h : SectionsLow b) where
  auction_low : SectionsLow (auction_closed b (opener o) n w)
  auction_low =
      chosen (λ x. SectionsLow x) w.bidding.any
      (with_sections b b.table (record { first = n + 1; count = w.bidding.count; seat = opener o; end = w.bidding.end }) b.play b.trump)
      b
      (λ e. record { auction_seat = low; auction_end = i.calls_inside; play_seat = h.play_seat; play_end = h.play_end; trump_in = h.trump_in; trump_of_contract = h.trump_of_contract })
      (λ e. h)

  play_low : SectionsLow (play_closed b (opener o) n w)
  play_low =
      chosen (λ x. SectionsLow x) w.tricks.any
      (with_sections b b.table b.auction (record { first = n + 1; count = (last_trick w.tricks).state.count; seat = opener o; end = w.tricks.end }) b.contract)
      b
      (λ e. record { auction_seat = h.auction_seat; auction_end = h.auction_end; play_seat = low; play_end = i.tricks_in.end_low; trump_in = h.trump_of_contract; trump_of_contract = h.trump_of_contract })
      (λ e. h)

  table_low : SectionsLow (table_closed b w)
  table_low = go w.rows
    where
      go : (t : Option (List ℕ)) → SectionsLow (rows_taken b t)
      go None = h
      go (Some cells) = rows_low b (gathered cells) h

closed_step : (c : Conventions) (r : List ℕ) (s : State) → Ready s → Step Ready (closed c r s)
unfolding closed
closed_step c r s h =
    let o = s.section in
    let w = walked_all c r o s.board.contract in
    let v = w.state in
    let x = section_step c r o s.board.contract h.opener_low in
    let low = h.opener_low in
    let i = x.left in
    let b = h.board_in in
    chosen (λ o. Step Ready o) (eqb (kind_of s.section) 0) (record { state = s; entries = [] }) (closed_by s w)
    (λ e. record { left = h; given = none })
    (λ e.
    record {
      left = record {
        opener_low = omega arith;
        kind_low = omega arith;
        board_in =
            chosen (λ x. SectionsLow x) (eqb (kind_of o) 1) (auction_closed s.board (opener o) s.n v) (cond (eqb (kind_of o) 2) (play_closed s.board (opener o) s.n v) (table_closed s.board v))
            (λ f. auction_low s.board o s.n v low i b)
            (λ f.
            chosen (λ x. SectionsLow x) (eqb (kind_of o) 2) (play_closed s.board (opener o) s.n v) (table_closed s.board v)
            (λ g. play_low s.board o s.n v low i b)
            (λ g. table_low s.board o s.n v low i b));
      };
      given = all_append x.given (last_said (kind_of s.section) v i);
    })

-- ---- lines

record Opens (o : Option Open) : Type 0 where
  seat_in : opener o ≤ 4
  kind_in : kind_of o ≤ 3

open_low : (c : Conventions) (k : ℕ) (value : List ℕ) (q : ℕ) (split : Option Span) → Opens (open_by c k value q split)
unfolding open_by
open_low c k value q split =
    let seat = seat_of c (first_character value) in
    let rows : Option Open = Some (record { kind = Optimum; at = q; split = split }) in
    let none_open : Opens no_open = record { seat_in = omega arith; kind_in = omega arith } in
    let seated : (kind : ℕ → Kind) → kind_number (kind seat) ≤ 3 → kind_seat (kind seat) ≤ 4 → Opens (seat_open kind seat q split) = λ kind h g.
    chosen (λ x. Opens x) (ltb seat 4) (Some (record { kind = kind seat; at = q; split = split })) no_open
    (λ e. record { seat_in = g; kind_in = h })
    (λ e. none_open) in
    chosen (λ x. Opens x) (eqb k 15) (seat_open Auction seat q split) (cond (eqb k 16) (seat_open Play seat q split) (cond (eqb k 19) rows no_open)) (λ e. seated Auction (omega arith) (seat_low c (first_character value)))
    (λ e.
    chosen (λ x. Opens x) (eqb k 16) (seat_open Play seat q split) (cond (eqb k 19) rows no_open) (λ f. seated Play (omega arith) (seat_low c (first_character value)))
    (λ f. chosen (λ x. Opens x) (eqb k 19) rows no_open (λ g. record { seat_in = omega arith; kind_in = omega arith }) (λ g. none_open)))

tagged_step : (c : Conventions) (s : State) (p : ℕ) (l : List ℕ) (q : ℕ) (t : TagPlaces) (split : Option Span) → Ready s → Step Ready (tagged c s p l q t split)
unfolding tagged applied contract_by
tagged_step c s p l q t split h =
    let k = tag_number (cut t.name l) in
    let value = cut t.value l in
    let o = open_low c k value q split in
    let b = h.board_in in
    record {
      left = record {
        opener_low = o.seat_in;
        kind_low = o.kind_in;
        board_in = record {
          auction_seat = b.auction_seat;
          auction_end = b.auction_end;
          play_seat = b.play_seat;
          play_end = b.play_end;
          trump_in = b.trump_in;
          trump_of_contract = cond_low (eqb k 9 && is_kept_contract value) (contract_trump c value) s.board.contract 4 (trump_low c value) b.trump_of_contract;
        };
      };
      given = one (other_said 1 (p + t.name.start) t.name.len 0 (omega arith) (omega arith)) (one (other_said 2 (p + t.value.start) t.value.len 0 (omega arith) (omega arith)) none);
    }

adding_step : (s : State) (es : List Entry) → Ready s → All Said es → Step Ready (adding s es)
adding_step s es h a = record { left = record { opener_low = h.opener_low; kind_low = h.kind_low; board_in = h.board_in }; given = a }

directed_step : (s : State) (p : ℕ) (d : Span) → Ready s → Step Ready (directed s p d)
directed_step s p d h = adding_step s (entry 3 (p + d.start) d.len s.tags ∷ []) h (one (directive_said (p + d.start) d.len s.tags) none)

maybe_said : (b : Bool) (e : Entry) → Said e → All Said (cond b [] (e ∷ []))
maybe_said true e h = none
maybe_said false e h = one h none

data_step : (s : State) (p : ℕ) (d : Span) → Ready s → Step Ready (data_added s p d)
data_step s p d h =
    let k = (kind_of s.section) in
    let e = entry 5 (p + d.start) d.len k in
    adding_step s (cond (eqb k 0) [] (e ∷ [])) h (maybe_said (eqb k 0) e (other_said 5 (p + d.start) d.len k (omega arith) (omega (arith, h.kind_low))))

commentary_ready : (s : State) (o : Option ℕ) → Ready s → Ready (with_commentary s o)
commentary_ready s o h = record { opener_low = h.opener_low; kind_low = h.kind_low; board_in = h.board_in }

blocked_step : (r : List ℕ) (s : State) (i j : ℕ) → Ready s → Step Ready (blocked r s i j)
unfolding blocked
blocked_step r s i j h =
    let e = entry 4 i (j - i) s.tags in
    adding_step (with_commentary s None) (cond (is_all_white r i j) [] (e ∷ [])) (commentary_ready s None h) (maybe_said (is_all_white r i j) e (block_said i (j - i) s.tags))

then_step : (o k : Out State) → Step Ready o → Step Ready k → Step Ready (and_then o k)
then_step o k a b = record { left = b.left; given = all_append a.given b.given }

reading_step : (c : Conventions) (s : State) (p : ℕ) (l : List ℕ) (q : ℕ) (t : TagReading) → Ready s → Step Ready (read_by c s p l q t)
reading_step c s p l q (Plain t) h = tagged_step c s p l q t no_span h
reading_step c s p l q (WithComment t d) h =
    let o = tagged c s p l q t no_span in
    let a = tagged_step c s p l q t no_span h in
    then_step o (directed o.state p d) a (directed_step o.state p d a.left)
reading_step c s p l q (WithData t d) h =
    let o = tagged c s p l q t (Some (at p d)) in
    let a = tagged_step c s p l q t (Some (at p d)) h in
    then_step o (data_added o.state p d) a (data_step o.state p d a.left)

-- ---- a record

record Keeps (s : State) (o : Out State) : Type 0 where
  keeps : Ready s → Step Ready o

record_step : (c : Conventions) (r : List ℕ) → Step Ready (record_out c r)
record_step c r =
    all_lines.keeps
    (record {
      opener_low = omega arith;
      kind_low = omega arith;
      board_in = record { auction_seat = omega arith; auction_end = omega arith; play_seat = omega arith; play_end = omega arith; trump_in = omega arith; trump_of_contract = omega arith };
    })
  where
    all_lines : Keeps no_state (record_out c r)
    all_lines =
        HoldsOfRecord c r (λ p s q o. Keeps s o)
        record {
          together = λ p q z s o k a b. record { keeps = λ h. let x = a.keeps h in then_step o k x (b.keeps x.left) };
          closing = λ p s. record { keeps = closed_step c r s };
          idle = λ p s l i n. record { keeps = λ h. record { left = h; given = none } };
          quiet = λ p s l i n k. record { keeps = λ h. record { left = h; given = none } };
          opening = λ p s l i n k b. record { keeps = λ h. record { left = commentary_ready s (Some (p + length (lead l) + 1)) h; given = none } };
          bracing = λ p s l i n k b. record { keeps = blocked_step r s (p + length (lead l) + 1) (p + last_brace l) };
          commentary = λ p s l i n k. record { keeps = blocked_step r s (block_of s) (p + last_brace l) };
          directing = λ p s l d i n k. record { keeps = directed_step s p d };
          dating = λ p s l d i n k. record { keeps = data_step s p d };
          tagging = λ p s l t i k. record { keeps = reading_step c s p l (p + length l) t };
        }

-- THEOREM. The seats, ends and trump of a record's sections are low.
pub SectionsFit : (c : Conventions) (r : List ℕ) → SectionsLow (record_out c r).state.board
SectionsFit c r = (record_step c r).left.board_in

-- ---- marks

-- The words of an entry that are no places.
pub record Fits (e : Entry) : Type 0 where
  pub mark_fits : e.z < 4294967296
  pub leader_fits : e.kind ≡ 8 → e.x ≤ 4
  pub winner_fits : e.kind ≡ 8 → e.y ≤ 4

tag_one_lem : (e : Entry) → tag_one e ≤ 1
tag_one_lem e = cond_low (eqb e.kind 1) 1 0 1 (omega arith) (omega arith)

each_fits : {n m : ℕ} {es : List Entry} → AnchoredEntries n es → All Said es → n + length es ≤ m → m < 4294967296 → All Fits es
each_fits free none h l = none
each_fits {n = n} {m = m} (next {e = e} {es = es} k a) (one s b) h l =
    let z : e.z < 4294967296 = by_cases (is_remark e.kind) (λ t. omega (arith, k.marked t)) (λ t. s.mark_said t) in
    one (record { mark_fits = z; leader_fits = s.leader_said; winner_fits = s.winner_said })
    (each_fits a b (omega (arith, tag_one_lem e)) l)

-- THEOREM. The words of a record's entries that are no places lose nothing.
pub MarksFit : (c : Conventions) (r : List ℕ) → length r ≤ 16777215 → All Fits (record_out c r).entries
MarksFit c r h = each_fits {m = length (record_out c r).entries} (TagsBefore c r) (record_step c r).given (omega arith) (omega (arith, EntriesFew c r))
