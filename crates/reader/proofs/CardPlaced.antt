-- Where the card of a record points to: a value's word to a value entry of the record, a section's words to a run of its calls or
-- tricks, which lies inside the record's entries.
use Rattle.reader.specs.Boards.{in_block, block_of}
use Rattle.std.specs.Prelude.{Some}
use Prim.Native.Nat.{ℕ, ◌+◌, ◌-◌}
use mathlib.Core.Path.{◌≡◌, refl, sym, ap}
use mathlib.Core.Logic.{◌⊎◌, inl, inr}
use mathlib.Core.Bool.{Bool, true, false, cond}
use mathlib.Core.List.{List, [], ◌∷◌, ◌++◌, append_assoc, append-nil}
use native.Mathlib.Omega.{arith}
use lib.Dec.{eqb}
use lib.ListN.{length, length-append}
use borrow.Author.Tests.{eqb-true}
use Rattle.tables.specs.declared.letters.Conventions.{Conventions}
use Rattle.tables.specs.Text.{lead}
use Rattle.tables.specs.Tables.{TableReading, gathered}
use Rattle.tables.proofs.Laws.{either}
use Rattle.reader.specs.declared.store.Entry.{Entry}
use Rattle.reader.specs.declared.tag.Span.{Span}
use Rattle.reader.specs.declared.tag.Tag.{Tag as TagPlaces}
use Rattle.reader.specs.declared.line.Line.{Line}
use Rattle.reader.specs.declared.line.Line.TheVariants.{Blank, Brace, Directive, Tag as TagOn, Bracket, Data}
use Rattle.reader.specs.declared.line.TagReading.{TagReading}
use Rattle.reader.specs.declared.line.TagReading.TheVariants.{Plain, WithComment, WithData}
use Rattle.reader.specs.declared.section.Open.{Open}
use Rattle.reader.specs.declared.section.Walk.{Walk}
use Rattle.reader.specs.declared.board.Values.{Values}
use Rattle.reader.specs.declared.board.Section.{Section}
use Rattle.reader.specs.declared.board.Board.{Board}
use Rattle.reader.specs.declared.board.State.{State}
use Rattle.reader.specs.Lines.{line_kind, has_brace, last_brace}
use Rattle.reader.specs.Tag.{cut}
use Rattle.reader.specs.Names.{tag_number}
use Rattle.reader.specs.Pieces.{Piece, Out, and_then, entry, raw_lines}
use Rattle.reader.specs.Play.{last_trick}
use Rattle.reader.specs.Sections.{walked, no_walk, walked_all, section_data, kind_of, opener}
use Rattle.reader.specs.Boards.{applied, with_sections, rows_closed, rows_taken, board_closed, closed_entries, closed_by, closed, no_span, at, tagged, directed, data_added, read_by, tag_line_out, with_commentary, blocked, braced, in_commentary, line_by, line_out, lines_out, no_board, no_state, record_out, is_all_white}
use Rattle.reader.specs.Fellows.{Stands}
use Rattle.reader.proofs.EntryLaws.{All, none, one, all_append, all_map, Inside, out_all_lem, out_count}
use Rattle.reader.proofs.AuctionLaws.{CallsInside, calls_counted}
use Rattle.reader.proofs.PlayLaws.{TricksOnly, LastTrickOnly, tricks_counted, last_counted}
use Rattle.reader.proofs.ApplyLaws.{AllPlaces, applied_places}
use Rattle.reader.proofs.Counts.{any, chosen}
use Rattle.reader.proofs.StandLaws.{stands_left, stands_right}
use Rattle.std.specs.Prelude.{Ok, Err, Option, Some, None}

-- The kinds of entries: 2 a value, 6 a call, 7 an annotation, 8 a trick.
abbrev pub IsValueKind : ℕ → Type 0
IsValueKind k = k ≡ 2

abbrev pub IsCallKind : ℕ → Type 0
IsCallKind k = (k ≡ 6) ⊎ (k ≡ 7)

abbrev pub IsTrickKind : ℕ → Type 0
IsTrickKind k = k ≡ 8

-- A word first, with count, is 0, or one more than the place of so many entries in a row, all of kinds K.
pub data Points (K : ℕ → Type 0) (es : List Entry) (first count : ℕ) : Type 0 where
  absent : first ≡ 0 → Points K es first count
  there : (j : ℕ) (run : List Entry) → first ≡ j + 1 → Stands es j run → length run ≡ count → All (λ e. K e.kind) run → Points K es first count

-- The board of a record with the entries es.
pub record BoardPlaced (es : List Entry) (b : Board) : Type 0 where
  pub values : AllPlaces (λ v. Points IsValueKind es v 1) b.values
  pub auction : Points IsCallKind es b.auction.first b.auction.count
  pub play : Points IsTrickKind es b.play.first b.play.count

-- ---- more entries behind

points_grow : {K : ℕ → Type 0} {es : List Entry} {first count : ℕ} (new : List Entry) → Points K es first count → Points K (es ++ new) first count
points_grow new (absent e) = absent e
points_grow new (there j run e s l a) = there j run e (stands_left new s) l a

places_map : {P Q : ℕ → Type 0} {v : Values} → ((x : ℕ) → P x → Q x) → AllPlaces P v → AllPlaces Q v
places_map f a =
    record {
      id_place = f _ a.id_place;
      event_place = f _ a.event_place;
      site_place = f _ a.site_place;
      date_place = f _ a.date_place;
      contract_place = f _ a.contract_place;
      north_place = f _ a.north_place;
      east_place = f _ a.east_place;
      south_place = f _ a.south_place;
      west_place = f _ a.west_place;
      deal_place = f _ a.deal_place;
      score_place = f _ a.score_place;
      par_place = f _ a.par_place;
    }

-- Throughout a record: the entries so far are counted, and the board points into them.
record Kept (es : List Entry) (n : ℕ) (b : Board) : Type 0 where
  counted : length es ≡ n
  placed : BoardPlaced es b

board_grows : {es : List Entry} {b : Board} (new : List Entry) → BoardPlaced es b → BoardPlaced (es ++ new) b
board_grows new h = record { values = places_map (λ x p. points_grow new p) h.values; auction = points_grow new h.auction; play = points_grow new h.play }

kept_grows : {es : List Entry} {n : ℕ} {b : Board} (new : List Entry) → Kept es n b → Kept (es ++ new) (n + length new) b
kept_grows {es} new h = record { counted = rw length-append (omega (arith, h.counted)); placed = board_grows new h.placed }

abbrev Keeps : State → Out State → Type 0
Keeps s o = (es : List Entry) → Kept es s.n s.board → Kept (es ++ o.entries) o.state.n o.state.board

keeps_none : (s t : State) → t.n ≡ s.n → t.board ≡ s.board → Keeps s (record { state = t; entries = [] })
keeps_none s t e f es h = rw (append-nil, e, f) h

keeps_then : (s : State) (o p : Out State) → Keeps s o → Keeps o.state p → Keeps s (and_then o p)
keeps_then s o p f g es h = rw (append_assoc es o.entries p.entries) at (g (es ++ o.entries) (f es h))

-- ---- a section that closes

-- A run of new entries stands behind those before.
stands_new : (es : List Entry) {n : ℕ} (new : List Entry) → length es ≡ n → Stands (es ++ new) n new
stands_new es new e = record { before = es; after = []; whole = ap (λ (l : List Entry). es ++ l) (sym (append-nil new)); count = e }

closed_kept : (b : Board) (o : Option Open) (n : ℕ) (w : Walk) (es new : List Entry) → Kept es n b
    → (eqb (kind_of o) 1 ≡ true → (length new ≡ w.bidding.count) × All (λ e. IsCallKind e.kind) new)
    → (eqb (kind_of o) 1 ≡ false → eqb (kind_of o) 2 ≡ true → (length new ≡ (last_trick w.tricks).state.count) × All (λ e. IsTrickKind e.kind) new)
    → Kept (es ++ new) (n + length new) (board_closed b o n w)
closed_kept b o n w es new h calls tricks = go (eqb (kind_of o) 1) refl (eqb (kind_of o) 2) refl w.bidding.any w.tricks.any w.rows
  where
    grown : Kept (es ++ new) (n + length new) b
    grown = kept_grows new h

    auction : Section
    auction = record { first = n + 1; count = w.bidding.count; seat = opener o; end = w.bidding.end }

    play : Section
    play = record { first = n + 1; count = (last_trick w.tricks).state.count; seat = opener o; end = w.tricks.end }

    rows : (x : TableReading) → Kept (es ++ new) (n + length new) (rows_closed b x)
    rows (Ok cells) = record { counted = grown.counted; placed = record { values = grown.placed.values; auction = grown.placed.auction; play = grown.placed.play } }
    rows (Err f) = grown

    go : (x : Bool) → eqb (kind_of o) 1 ≡ x → (y : Bool) → eqb (kind_of o) 2 ≡ y → (called played : Bool) (t : Option (List ℕ))
        → Kept (es ++ new) (n + length new)
        (cond x (cond called (with_sections b b.table auction b.play b.trump) b)
        (cond y (cond played (with_sections b b.table b.auction play b.contract) b)
        (rows_taken b t)))
    go true ex y ey true played t =
        let f = calls ex in
        record {
          counted = grown.counted;
          placed = record { values = grown.placed.values; auction = there n new refl (stands_new es new h.counted) f.0 f.1; play = grown.placed.play };
        }
    go true ex y ey false played t = grown
    go false ex true ey called true t =
        let f = tricks ex ey in
        record {
          counted = grown.counted;
          placed = record { values = grown.placed.values; auction = grown.placed.auction; play = there n new refl (stands_new es new h.counted) f.0 f.1 };
        }
    go false ex true ey called false t = grown
    go false ex false ey called played None = grown
    go false ex false ey called played (Some cells) = rows (gathered cells)

call_kind : (lo hi : ℕ) (e : Entry) → Inside lo hi e → IsCallKind e.kind
call_kind lo hi e i = either (eqb e.kind 6) (eqb e.kind 7) i.placed (λ t. inl (eqb-true e.kind 6 t)) (λ t. inr (eqb-true e.kind 7 t))

no_calls : no_walk.bidding.count ≡ 0
unfolding no_walk
no_calls = refl

no_tricks_lem : no_walk.tricks.count ≡ 0
unfolding no_walk
no_tricks_lem = refl

module _ (c : Conventions) (o : Option Open) (trump : ℕ) (w : Walk) (q : Piece) where
  calls_each : eqb (kind_of o) 1 ≡ true → All (λ e. IsCallKind e.kind) (walked c o trump w q).entries
  unfolding walked
  calls_each x = rw x (all_map (call_kind q.at (q.at + length q.bytes)) (CallsInside c w.bidding q))

  calls_count : eqb (kind_of o) 1 ≡ true → (walked c o trump w q).state.bidding.count ≡ w.bidding.count + length (walked c o trump w q).entries
  unfolding walked
  calls_count x = rw x (calls_counted c w.bidding q)

  tricks_each : eqb (kind_of o) 1 ≡ false → eqb (kind_of o) 2 ≡ true → All (λ e. IsTrickKind e.kind) (walked c o trump w q).entries
  unfolding walked
  tricks_each x y = rw (x, y) (all_map (λ e u. u.trick) (TricksOnly c (opener o) trump w.tricks q))

  tricks_count : eqb (kind_of o) 1 ≡ false → eqb (kind_of o) 2 ≡ true → (walked c o trump w q).state.tricks.count ≡ w.tricks.count + length (walked c o trump w q).entries
  unfolding walked
  tricks_count x y = rw (x, y) (tricks_counted c (opener o) trump w.tricks q)

module _ (c : Conventions) (r : List ℕ) (o : Option Open) (trump : ℕ) where
  calls_run : eqb (kind_of o) 1 ≡ true
      → (length (closed_entries o (walked_all c r o trump)) ≡ (walked_all c r o trump).state.bidding.count) × All (λ e. IsCallKind e.kind) (closed_entries o (walked_all c r o trump))
  unfolding walked_all
  calls_run x =
      let y : eqb (kind_of o) 2 ≡ false = ap (λ (k : ℕ). eqb k 2) (eqb-true (kind_of o) 1 x) in
      let a = out_all_lem (walked c o trump) {P = λ e. IsCallKind e.kind} (λ w q u. calls_each c o trump w q x) no_walk (any (section_data r o)) in
      let n = out_count (walked c o trump) (λ (w : Walk). w.bidding.count) (λ w q. calls_count c o trump w q x) no_walk (section_data r o) in
      rw (y, append-nil) (omega (arith, no_calls, n), a)

  tricks_run : eqb (kind_of o) 1 ≡ false → eqb (kind_of o) 2 ≡ true
      → (length (closed_entries o (walked_all c r o trump)) ≡ (last_trick (walked_all c r o trump).state.tricks).state.count) × All (λ e. IsTrickKind e.kind) (closed_entries o (walked_all c r o trump))
  unfolding walked_all
  tricks_run x y =
      let a = out_all_lem (walked c o trump) {P = λ e. IsTrickKind e.kind} (λ w q u. tricks_each c o trump w q x y) no_walk (any (section_data r o)) in
      let n = out_count (walked c o trump) (λ (w : Walk). w.tricks.count) (λ w q. tricks_count c o trump w q x y) no_walk (section_data r o) in
      let t = (walked_all c r o trump).state.tricks in
      rw y (rw length-append (omega (arith, no_tricks_lem, n, (last_counted t).count)), all_append a (all_map (λ e u. u.trick) (LastTrickOnly t)))

closed_keeps : (c : Conventions) (r : List ℕ) (s : State) → Keeps s (closed c r s)
unfolding closed
closed_keeps c r s =
    let w = walked_all c r s.section s.board.contract in
    chosen (Keeps s) (eqb (kind_of s.section) 0) (record { state = s; entries = [] }) (closed_by s w)
    (λ e. keeps_none s s refl refl)
    (λ e es h.
    closed_kept s.board s.section s.n w.state es (closed_entries s.section w) h
    (calls_run c r s.section s.board.contract)
    (tricks_run c r s.section s.board.contract))

-- ---- one line

applied_placed : (c : Conventions) (k : ℕ) (value : List ℕ) (place : ℕ) (b : Board) (es : List Entry) → Points IsValueKind es place 1 → BoardPlaced es b → BoardPlaced es (applied c k value place b)
unfolding applied
applied_placed c k value place b es p h =
    record { values = applied_places (λ v. Points IsValueKind es v 1) c k value place b p h.values; auction = h.auction; play = h.play }

tagged_keeps : (c : Conventions) (s : State) (p : ℕ) (l : List ℕ) (q : ℕ) (t : TagPlaces) (split : Option Span) → Keeps s (tagged c s p l q t split)
unfolding tagged
tagged_keeps c s p l q t split es h =
    let name = entry 1 (p + t.name.start) t.name.len 0 in
    let value = entry 2 (p + t.value.start) t.value.len 0 in
    let new : List Entry = name ∷ value ∷ [] in
    let grown = kept_grows new h in
    let second : Stands new 1 (value ∷ []) = record { before = name ∷ []; after = []; whole = refl; count = refl } in
    let stands = stands_right es second in
    let here : Points IsValueKind (es ++ new) (s.n + 2) 1 = there (length es + 1) (value ∷ []) (omega (arith, h.counted)) stands refl (one refl none) in
    record { counted = grown.counted; placed = applied_placed c (tag_number (cut t.name l)) (cut t.value l) (s.n + 2) s.board (es ++ new) here grown.placed }

reading_keeps : (c : Conventions) (s : State) (p : ℕ) (l : List ℕ) (q : ℕ) (t : TagReading) → Keeps s (read_by c s p l q t)
reading_keeps c s p l q (Plain t) = tagged_keeps c s p l q t no_span
reading_keeps c s p l q (WithComment t d) =
    let o = tagged c s p l q t no_span in
    keeps_then s o (directed o.state p d) (tagged_keeps c s p l q t no_span) (λ es h. kept_grows (directed o.state p d).entries h)
reading_keeps c s p l q (WithData t d) =
    let o = tagged c s p l q t (Some (at p d)) in
    keeps_then s o (data_added o.state p d) (tagged_keeps c s p l q t (Some (at p d))) (λ es h. kept_grows (data_added o.state p d).entries h)

tag_keeps : (c : Conventions) (r : List ℕ) (s : State) (p : ℕ) (l : List ℕ) (t : TagReading) → Keeps s (tag_line_out c r s p l t)
unfolding tag_line_out
tag_keeps c r s p l t =
    keeps_then s (closed c r s) (read_by c (closed c r s).state p l (p + length l) t) (closed_keeps c r s) (reading_keeps c (closed c r s).state p l (p + length l) t)

blocked_keeps : (r : List ℕ) (s : State) (i j : ℕ) → Keeps s (blocked r s i j)
unfolding blocked
blocked_keeps r s i j es h = kept_grows (cond (is_all_white r i j) [] (entry 4 i (j - i) s.tags ∷ [])) h

commentary_keeps : (r : List ℕ) (s : State) (p : ℕ) (l : List ℕ) → Keeps s (in_commentary r s p l)
unfolding in_commentary
commentary_keeps r s p l =
    chosen (Keeps s) (has_brace l) (blocked r s (block_of s) (p + last_brace l)) (record { state = s; entries = [] })
    (λ e. blocked_keeps r s (block_of s) (p + last_brace l))
    (λ e. keeps_none s s refl refl)

brace_keeps : (r : List ℕ) (s : State) (p : ℕ) (l : List ℕ) → Keeps s (braced r s p l)
unfolding braced
brace_keeps r s p l =
    let t = with_commentary s (Some (p + length (lead l) + 1)) in
    chosen (Keeps s) (has_brace l) (blocked r s (p + length (lead l) + 1) (p + last_brace l)) (record { state = t; entries = [] })
    (λ e. blocked_keeps r s (p + length (lead l) + 1) (p + last_brace l))
    (λ e. keeps_none s t refl refl)

kind_keeps : (c : Conventions) (r : List ℕ) (s : State) (p : ℕ) (l : List ℕ) (k : Line) → Keeps s (line_by c r s p l k)
kind_keeps c r s p l Blank = keeps_none s s refl refl
kind_keeps c r s p l Brace = brace_keeps r s p l
kind_keeps c r s p l (Directive d) = λ es h. kept_grows (directed s p d).entries h
kind_keeps c r s p l (TagOn t) = tag_keeps c r s p l t
kind_keeps c r s p l Bracket = keeps_none s s refl refl
kind_keeps c r s p l (Data d) = λ es h. kept_grows (data_added s p d).entries h

line_keeps : (c : Conventions) (r : List ℕ) (s : State) (p : ℕ) (l : List ℕ) → Keeps s (line_out c r s p l)
unfolding line_out
line_keeps c r s p l =
    chosen (Keeps s) (in_block s) (in_commentary r s p l) (line_by c r s p l (line_kind l)) (λ e. commentary_keeps r s p l) (λ e. kind_keeps c r s p l (line_kind l))

-- ---- the lines of a record

lines_keep : (c : Conventions) (r : List ℕ) (s : State) (p : ℕ) (ls : List (List ℕ)) → Keeps s (lines_out c r s p ls)
lines_keep c r s p [] = closed_keeps c r s
lines_keep c r s p (l ∷ ls) =
    keeps_then s (line_out c r s p l) (lines_out c r (line_out c r s p l).state (p + length l) ls) (line_keeps c r s p l) (lines_keep c r (line_out c r s p l).state (p + length l) ls)

no_kept : Kept [] 0 no_board
no_kept =
    record {
      counted = refl;
      placed = record {
        values = record {
          id_place = absent refl;
          event_place = absent refl;
          site_place = absent refl;
          date_place = absent refl;
          contract_place = absent refl;
          north_place = absent refl;
          east_place = absent refl;
          south_place = absent refl;
          west_place = absent refl;
          deal_place = absent refl;
          score_place = absent refl;
          par_place = absent refl;
        };
        auction = absent refl;
        play = absent refl;
      };
    }

-- THEOREM. The board of every record points into the record's entries.
pub RecordPlaced : (c : Conventions) (r : List ℕ) → BoardPlaced (record_out c r).entries (record_out c r).state.board
unfolding record_out
RecordPlaced c r = (lines_keep c r no_state 0 (raw_lines r) [] no_kept).placed
