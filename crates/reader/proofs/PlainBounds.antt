-- What is read of a board is in range: number, seats and result, eight hand words, and twenty cells of 0 to 13.
use Prim.Native.Nat.{ℕ, zero, suc, ◌+◌}
use mathlib.Core.Path.{◌≡◌, refl, ◌∙◌}
use mathlib.Core.Bool.{Bool, true, false, cond, ◌||◌}
use mathlib.Core.List.{List, [], ◌∷◌}
use native.Mathlib.Omega.{arith}
use lib.Dec.{leb, ltb, eqb}
use lib.ListN.{length, set, length-set}
use borrow.Author.Tests.{eqb-true, ltb-false, le-leb}
use Rattle.tables.specs.declared.letters.Conventions.{Conventions}
use Rattle.tables.specs.declared.refusal.Refusal.TheVariants.{Declarer, Denomination, Over}
use Rattle.tables.specs.Text.{fields, first_character}
use Rattle.tables.specs.Numbers.{Number, number_of}
use Rattle.tables.specs.Letters.{every, seat_of, strain_of}
use Rattle.tables.specs.Tables.{cell_of, result_row, strain_row, fields_row, row_with, row_of, missing, gathered, gives, Row}
use Rattle.tables.proofs.Laws.{by_cases, both}
use Rattle.reader.specs.declared.tag.Span.{Span}
use Rattle.reader.specs.declared.tag.Tag.{Tag as TagPlaces}
use Rattle.reader.specs.declared.line.TagReading.{TagReading}
use Rattle.reader.specs.declared.line.TagReading.TheVariants.{Plain, WithComment, WithData}
use Rattle.reader.specs.declared.section.Open.{Open}
use Rattle.reader.specs.declared.section.Walk.{Walk}
use Rattle.reader.specs.declared.board.Board.{Board}
use Rattle.reader.specs.declared.board.State.{State}
use Rattle.reader.specs.Tag.{cut}
use Rattle.reader.specs.Names.{tag_number}
use Rattle.reader.specs.Pieces.{Piece, Out, out_all}
use Rattle.reader.specs.Play.{played_piece}
use Rattle.reader.specs.Auction.{called_piece}
use Rattle.reader.specs.Sections.{row_stored, rowed_piece, section_data, walked, no_walk, walked_all, kind_of, opener}
use Rattle.reader.specs.Boards.{rows_closed, closed_by, closed, no_span, at, tagged, read_by, blocked, no_state, record_out}
use Rattle.reader.specs.Plain.{PlainBoard, plain_by, plain_of}
use Rattle.reader.specs.Kept.{TableKept}
use Rattle.reader.proofs.ApplyBounds.{IdentityLow, DealSized, Bounded, no_board_bounded, applied_bounded}
use Rattle.reader.proofs.Counts.{chosen}
use Rattle.reader.proofs.PlainSteps.{board_cases, closed_leaves, HoldsOfRecord}
use Rattle.std.specs.Prelude.{Some, None, Ok, Err, Option, IfSome}

-- ---- rows

-- A cell while rows are gathered: not given yet, or 0 to 13.
abbrev is_cell : ℕ → Bool
is_cell x = eqb x 255 || leb x 13

abbrev SmallRow : Row → Type 0
SmallRow (Ok None) = Unit {0}
SmallRow (Ok (Some x)) = is_cell x.tricks ≡ true
SmallRow (Err f) = Unit {0}

or_last : (b c : Bool) → c ≡ true → (b || c) ≡ true
or_last true c e = refl
or_last false c e = e

result_small : (n cell : ℕ) (m : Number) → SmallRow (result_row n cell m)
result_small n cell None = tt
result_small n cell (Some v) =
    chosen SmallRow (ltb 13 v) (Err (Over n)) (gives cell v) (λ t. tt) (λ t. or_last (eqb v 255) (leb v 13) (le-leb v 13 (ltb-false 13 v t)))

fields_small : (c : Conventions) (n : ℕ) (d s t : List ℕ) → SmallRow (fields_row c n d s t)
unfolding fields_row
fields_small c n d s t =
    let seat = seat_of c (first_character d) in
    chosen SmallRow (ltb 3 seat) (Err (Declarer n)) (strain_row n seat (strain_of c s) t) (λ e. tt)
    (λ e. chosen SmallRow (ltb 4 (strain_of c s)) (Err (Denomination n)) (result_row n (cell_of seat (strain_of c s)) (number_of 255 t)) (λ f. tt) (λ f. result_small n (cell_of seat (strain_of c s)) (number_of 255 t)))

with_small : (c : Conventions) (n : ℕ) (fs : List (List ℕ)) → SmallRow (row_with c n fs)
with_small c n [] = tt
with_small c n (d ∷ []) = tt
with_small c n (d ∷ s ∷ []) = tt
with_small c n (d ∷ s ∷ t ∷ []) = fields_small c n d s t
with_small c n (d ∷ s ∷ t ∷ u ∷ us) = tt

row_small : (c : Conventions) (n : ℕ) (row : List ℕ) → SmallRow (row_of c n row)
unfolding row_of
row_small c n row = with_small c n (fields row)

set_cells : (l : List ℕ) (k v : ℕ) → is_cell v ≡ true → every is_cell l ≡ true → every is_cell (set l k v) ≡ true
set_cells [] k v h e = refl
set_cells (x ∷ xs) zero v h e = rw (h, (both (is_cell x) (every is_cell xs) e).1)
set_cells (x ∷ xs) (suc k) v h e = let z = both (is_cell x) (every is_cell xs) e in rw (z.0, set_cells xs k v h z.1)

-- The cells of the rows so far, none after a bad row.
record CellsIn (cells : List ℕ) : Type 0 where
  twenty : length cells ≡ 20
  cells_in : every is_cell cells ≡ true

abbrev RowsIn : Option (List ℕ) → Type 0
RowsIn w = IfSome w CellsIn

stored_in : (r : Row) (w : Option (List ℕ)) → SmallRow r → RowsIn w → RowsIn (row_stored r w)
stored_in (Ok given) None s h = tt
stored_in (Ok None) (Some cells) s h = h
stored_in (Ok (Some x)) (Some cells) s h = record { twenty = length-set cells x.place x.tricks ∙ h.twenty; cells_in = set_cells cells x.place x.tricks s h.cells_in }
stored_in (Err f) w s h = tt

rowed_in : (c : Conventions) (w : Option (List ℕ)) (q : Piece) → RowsIn w → RowsIn (rowed_piece c w q)
unfolding rowed_piece
rowed_in c w q h = stored_in (row_of c 0 q.bytes) w (row_small c 0 q.bytes) h

walked_in : (c : Conventions) (o : Option Open) (trump : ℕ) (w : Walk) (q : Piece) → RowsIn w.rows → RowsIn (walked c o trump w q).state.rows
unfolding walked
walked_in c o trump w q h =
    let calls : Out Walk = record { state = record { bidding = (called_piece c w.bidding q).state; tricks = w.tricks; rows = w.rows }; entries = (called_piece c w.bidding q).entries } in
    let cards : Out Walk =
    record {
      state = record { bidding = w.bidding; tricks = (played_piece c (opener o) trump w.tricks q).state; rows = w.rows };
      entries = (played_piece c (opener o) trump w.tricks q).entries;
    } in
    let row : Out Walk = record { state = record { bidding = w.bidding; tricks = w.tricks; rows = rowed_piece c w.rows q }; entries = [] } in
    chosen (λ (x : Out Walk). RowsIn x.state.rows) (eqb (kind_of o) 1) calls (cond (eqb (kind_of o) 2) cards row) (λ e. h)
    (λ e. chosen (λ (x : Out Walk). RowsIn x.state.rows) (eqb (kind_of o) 2) cards row (λ f. h) (λ f. rowed_in c w.rows q h))

pieces_in : (c : Conventions) (o : Option Open) (trump : ℕ) (w : Walk) (qs : List Piece) → RowsIn w.rows → RowsIn (out_all (walked c o trump) w qs).state.rows
pieces_in c o trump w [] h = h
pieces_in c o trump w (q ∷ qs) h = pieces_in c o trump (walked c o trump w q).state qs (walked_in c o trump w q h)

section_in : (c : Conventions) (r : List ℕ) (o : Option Open) (trump : ℕ) → RowsIn (walked_all c r o trump).state.rows
unfolding walked_all no_walk
section_in c r o trump = pieces_in c o trump no_walk (section_data r o) (record { twenty = refl; cells_in = refl })

none_missing : (l : List ℕ) → every is_cell l ≡ true → missing l ≡ 0 → every (λ t. leb t 13) l ≡ true
none_missing [] e m = refl
none_missing (x ∷ xs) e m =
    let z = both (is_cell x) (every is_cell xs) e in
    by_cases (eqb x 255)
    (λ t. let y : suc (missing xs) ≡ 0 = rw t at m in absurd (omega arith))
    (λ t. let y : leb x 13 ≡ true = rw t at z.0 in rw (y, none_missing xs z.1 (rw t at m)))

-- ---- a section that closes

rows_kept : (b : Board) (l : List ℕ) → CellsIn l → TableKept b.table → TableKept (rows_closed b (gathered l)).table
unfolding gathered
rows_kept b l i h =
    by_cases (eqb (missing l) 0)
    (λ e. rw e (record { kind_low = omega arith; twenty = i.twenty; cells_low = none_missing l i.cells_in (eqb-true (missing l) 0 e); none_zero = λ k. absurd (omega arith) }))
    (λ e. rw e h)

closed_kept : (c : Conventions) (r : List ℕ) (s : State) → TableKept s.board.table → TableKept (closed c r s).state.board.table
unfolding closed
closed_kept c r s h =
    let w = walked_all c r s.section s.board.contract in
    chosen (λ (o : Out State). TableKept o.state.board.table) (eqb (kind_of s.section) 0) (record { state = s; entries = [] }) (closed_by s w)
    (λ e. h)
    (λ e.
    board_cases (λ b. TableKept b.table) s.board s.section s.n w.state h (λ a. h) (λ a. h)
    (λ cells e. rows_kept s.board cells (rw e at (section_in c r s.section s.board.contract)) h))

closed_bounded : (c : Conventions) (r : List ℕ) (s : State) → Bounded s.board → Bounded (closed c r s).state.board
closed_bounded c r s h =
    let l = closed_leaves c r s in
    record {
      id_low = rw l.id_left h.id_low;
      deal_in = rw l.deal_left h.deal_in;
      table_in = closed_kept c r s h.table_in;
      contract_in = rw l.contract_left h.contract_in;
    }

-- ---- a line

tagged_bounded : (c : Conventions) (s : State) (p : ℕ) (l : List ℕ) (q : ℕ) (t : TagPlaces) (split : Option Span) → Bounded s.board → Bounded (tagged c s p l q t split).state.board
unfolding tagged
tagged_bounded c s p l q t split h = applied_bounded c (tag_number (cut t.name l)) (cut t.value l) (s.n + 2) s.board h

reading_bounded : (c : Conventions) (s : State) (p : ℕ) (l : List ℕ) (q : ℕ) (t : TagReading) → Bounded s.board → Bounded (read_by c s p l q t).state.board
reading_bounded c s p l q (Plain t) h = tagged_bounded c s p l q t no_span h
reading_bounded c s p l q (WithComment t d) h = tagged_bounded c s p l q t no_span h
reading_bounded c s p l q (WithData t d) h = tagged_bounded c s p l q t (Some (at p d)) h

blocked_board : (r : List ℕ) (s : State) (i j : ℕ) → Bounded s.board → Bounded (blocked r s i j).state.board
unfolding blocked
blocked_board r s i j h = h

record Keeps (s : State) (o : Out State) : Type 0 where
  keeps : Bounded s.board → Bounded o.state.board

-- THEOREM. The board of every record has its numbers in range, eight words of hands and twenty cells of 0 to 13.
pub RecordBounded : (c : Conventions) (r : List ℕ) → Bounded (record_out c r).state.board
RecordBounded c r = steps.keeps no_board_bounded
  where
    steps : Keeps no_state (record_out c r)
    steps =
        HoldsOfRecord c r (λ p s q o. Keeps s o)
        record {
          together = λ p q z s o k a b. record { keeps = λ h. b.keeps (a.keeps h) };
          closing = λ p s. record { keeps = closed_bounded c r s };
          idle = λ p s l i n. record { keeps = λ h. h };
          quiet = λ p s l i n b. record { keeps = λ h. h };
          opening = λ p s l i n k b. record { keeps = λ h. h };
          bracing = λ p s l i n k b. record { keeps = blocked_board r s _ _ };
          commentary = λ p s l i n b. record { keeps = blocked_board r s _ _ };
          directing = λ p s l d i n k. record { keeps = λ h. h };
          dating = λ p s l d i n k. record { keeps = λ h. h };
          tagging = λ p s l t i k. record { keeps = reading_bounded c s p l (p + length l) t };
        }

-- THEOREM. So it is on a plain board.
pub record PlainBounded (p : PlainBoard) : Type 0 where
  pub id_in : IdentityLow p.id
  pub deal_in : DealSized p.deal
  pub table_in : TableKept p.table

pub PlainBounds : (c : Conventions) (r : List ℕ) → PlainBounded (plain_of c r)
unfolding plain_of plain_by
PlainBounds c r =
    let h = RecordBounded c r in
    record { id_in = h.id_low; deal_in = h.deal_in; table_in = h.table_in }
