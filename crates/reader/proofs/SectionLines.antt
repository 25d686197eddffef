-- A section that closes is walked over the very data lines that have entries: those of kind 5 from its tag's line on, up to the tag, the
-- blank line or the end of the record that closes it.
use Rattle.reader.specs.Boards.{in_block, block_of}
use Rattle.std.specs.Prelude.{Option, Some}
use Rattle.reader.specs.declared.section.Kind.TheVariants.{Auction, Play, Optimum}
use Rattle.reader.specs.declared.section.Kind.{Kind}
use Prim.Native.Nat.{ℕ, ◌+◌}
use mathlib.Core.Path.{◌≡◌, refl, sym, ap, ◌∙◌}
use mathlib.Core.Bool.{Bool, false, cond}
use mathlib.Core.List.{List, [], ◌∷◌, ◌++◌}
use native.Mathlib.Omega.{arith}
use lib.Dec.{ltb, eqb}
use lib.ListN.{length, drop}
use borrow.Author.Tests.{ne_eqb}
use Rattle.tables.specs.declared.letters.Conventions.{Conventions}
use Rattle.tables.specs.Text.{lead, first_character}
use Rattle.tables.specs.Letters.{seat_of}
use Rattle.tables.proofs.Laws.{by_cases, clash}
use Rattle.reader.specs.declared.store.Entry.{Entry}
use Rattle.reader.specs.declared.tag.Span.{Span}
use Rattle.reader.specs.declared.line.Line.{Line}
use Rattle.reader.specs.declared.line.Line.TheVariants.{Blank, Brace, Directive, Tag as TagOn, Bracket, Data}
use Rattle.reader.specs.declared.line.TagReading.{TagReading}
use Rattle.reader.specs.declared.line.TagReading.TheVariants.{Plain, WithComment, WithData}
use Rattle.reader.specs.declared.section.Open.{Open}
use Rattle.reader.specs.declared.board.State.{State}
use Rattle.reader.specs.Tag.{cut}
use Rattle.reader.specs.Names.{tag_number}
use Rattle.reader.specs.Lines.{line_kind, has_brace, last_brace}
use Rattle.reader.specs.LineSteps.{LinePlaced}
use Rattle.reader.specs.Pieces.{Piece, Out, and_then, raw_lines}
use Rattle.reader.specs.Sections.{commentary_after, stops_at, data_piece, piece_of, data_in, split_piece, section_data, kind_of, lines_at, split_off}
use Rattle.reader.specs.Boards.{no_open, seat_open, open_by, closed, no_span, at, tagged, read_by, tag_line_out, is_all_white, blocked, braced, in_commentary, line_by, line_out}
use Rattle.reader.specs.BoardSteps.{unchanged}
use Rattle.reader.specs.Plain.{bytes_of}
use Rattle.reader.proofs.EntryLaws.{All, none, one}
use Rattle.reader.proofs.Inside.{LineInside}
use Rattle.reader.proofs.SectionLaws.{LineAt}
use Rattle.reader.proofs.Counts.{chosen, ReadingLate, line_late, line_keeps, closes_tag, next_line_lem}
use Rattle.reader.proofs.PlainLaws.{PartPlaced}
use Rattle.reader.proofs.PlainSteps.{Late, closed_late, first_line}

-- The data lines that entries of the record r name: those of kind 5, with their places.
abbrev pub data_pieces : List ℕ → List Entry → List Piece
data_pieces r [] = []
data_pieces r (e ∷ es) = cond (eqb e.kind 5) (record { at = e.x; bytes = bytes_of r e } ∷ data_pieces r es) (data_pieces r es)

-- The lines up to the tag or the blank line, outside commentary, that closes a section.
abbrev pub section_lines : Bool → List (List ℕ) → List (List ℕ)
section_lines commentary [] = []
section_lines commentary (l ∷ ls) = cond (stops_at commentary l) [] (l ∷ section_lines (commentary_after commentary l) ls)

-- Some lines of the record r, from the place p on, in the state s.
abbrev pub lines_read : Conventions → List ℕ → State → ℕ → List (List ℕ) → Out State
lines_read c r s p [] = unchanged s
lines_read c r s p (l ∷ ls) = and_then (line_out c r s p l) (lines_read c r (line_out c r s p l).state (p + length l) ls)

-- The section o is still open after x, and its data are the data lines that the entries of x name.
pub record Walked (r : List ℕ) (o : Option Open) (x : Out State) : Type 0 where
  pub still_open : x.state.section ≡ o
  pub data_are : section_data r o ≡ data_pieces r x.entries

-- ---- entries that are no data lines

pieces_append : (r : List ℕ) (es fs : List Entry) → data_pieces r (es ++ fs) ≡ data_pieces r es ++ data_pieces r fs
pieces_append r [] fs = refl
pieces_append r (e ∷ es) fs =
    by_cases (eqb e.kind 5)
    (λ t. rw (t, pieces_append r es fs))
    (λ t. rw t (pieces_append r es fs))

late_pieces : (r : List ℕ) {es : List Entry} → All Late es → data_pieces r es ≡ []
late_pieces r none = refl
late_pieces r (one {x = e} l a) = rw (ne_eqb e.kind 5 (λ u. omega (arith, l.late, u))) (late_pieces r a)

blocked_pieces : (r : List ℕ) (s : State) (i j : ℕ) → data_pieces r (blocked r s i j).entries ≡ []
unfolding blocked
blocked_pieces r s i j = by_cases (is_all_white r i j) (λ t. rw t) (λ t. rw t)

-- ---- a line of a section

module _ (c : Conventions) (r : List ℕ) (s : State) (p : ℕ) (l : List ℕ) (i : LineAt r p l) (o : eqb (kind_of s.section) 0 ≡ false) where
  commentary_pieces : data_pieces r (in_commentary r s p l).entries ≡ []
  unfolding in_commentary
  commentary_pieces = by_cases (has_brace l) (λ t. rw t (blocked_pieces r s (block_of s) (p + last_brace l))) (λ t. rw t)

  brace_pieces : data_pieces r (braced r s p l).entries ≡ []
  unfolding braced
  brace_pieces = by_cases (has_brace l) (λ t. rw t (blocked_pieces r s (p + length (lead l) + 1) (p + last_brace l))) (λ t. rw t)

  kind_pieces : (k : Line) → line_kind l ≡ k → stops_at false l ≡ false → LinePlaced k (length l) → data_pieces r (line_by c r s p l k).entries ≡ data_piece p l k
  kind_pieces Blank e h j = refl
  kind_pieces Brace e h j = brace_pieces
  kind_pieces (Directive d) e h j = refl
  kind_pieces (TagOn t) e h j = clash (sym h ∙ closes_tag l t e)
  kind_pieces Bracket e h j = refl
  kind_pieces (Data d) e h j = rw (o, PartPlaced r l p d.start d.len i.bytes j)

  line_pieces_lem : stops_at (in_block s) l ≡ false → data_pieces r (line_out c r s p l).entries ≡ piece_of (in_block s) p l
  unfolding line_out piece_of
  line_pieces_lem h =
      chosen (λ (x : Out State). data_pieces r x.entries ≡ piece_of (in_block s) p l) (in_block s) (in_commentary r s p l) (line_by c r s p l (line_kind l))
      (λ e. commentary_pieces ∙ ap (λ (b : Bool). piece_of b p l) (sym e))
      (λ e. kind_pieces (line_kind l) refl (rw e at h) (LineInside l) ∙ ap (λ (b : Bool). piece_of b p l) (sym e))

-- ---- the lines of a section

lines_walked : (c : Conventions) (r : List ℕ) (s : State) (p : ℕ) (ls : List (List ℕ)) → raw_lines (drop p r) ≡ ls → eqb (kind_of s.section) 0 ≡ false
    → ((lines_read c r s p (section_lines (in_block s) ls)).state.section ≡ s.section)
    × (data_pieces r (lines_read c r s p (section_lines (in_block s) ls)).entries ≡ data_in (in_block s) p ls)
lines_walked c r s p [] e o = (refl, refl)
lines_walked c r s p (l ∷ ls) e o =
    by_cases (stops_at (in_block s) l)
    (λ t. rw t (refl, refl))
    (λ t.
    let k = line_keeps c r s p l t in
    let x = line_out c r s p l in
    let q : eqb (kind_of x.state.section) 0 ≡ false = rw k.section_kept o in
    let z = lines_walked c r x.state (p + length l) ls (next_line_lem r p l ls e).rest q in
    let m = line_pieces_lem c r s p l (first_line r p l ls e) o t in
    rw (t, ← k.commentary_is)
    (z.0 ∙ k.section_kept, pieces_append r x.entries _ ∙ rw (m, z.1)))

-- ---- the tag's line

-- An open section that starts at q, with what was split off its tag's line.
record Starts (q : ℕ) (split : Option Span) (o : Option Open) : Type 0 where
  starts : eqb (kind_of o) 0 ≡ false → (lines_at o ≡ q) × (split_off o ≡ split)

none_starts : (q : ℕ) (split : Option Span) → Starts q split no_open
none_starts q split = record { starts = λ h. clash (sym h) }

seat_starts : (kind : ℕ → Kind) (seat q : ℕ) (split : Option Span) → Starts q split (seat_open kind seat q split)
seat_starts kind seat q split =
    chosen (Starts q split) (ltb seat 4) (Some (record { kind = kind seat; at = q; split = split })) no_open (λ e. record { starts = λ h. (refl, refl) }) (λ e. none_starts q split)

open_starts : (c : Conventions) (k : ℕ) (value : List ℕ) (q : ℕ) (split : Option Span) → Starts q split (open_by c k value q split)
unfolding open_by
open_starts c k value q split =
    let seat = seat_of c (first_character value) in
    let rows : Option Open = Some (record { kind = Optimum; at = q; split = split }) in
    chosen (Starts q split) (eqb k 15) (seat_open Auction seat q split) (cond (eqb k 16) (seat_open Play seat q split) (cond (eqb k 19) rows no_open)) (λ e. seat_starts Auction seat q split)
    (λ e.
    chosen (Starts q split) (eqb k 16) (seat_open Play seat q split) (cond (eqb k 19) rows no_open) (λ f. seat_starts Play seat q split)
    (λ f. chosen (Starts q split) (eqb k 19) rows no_open (λ g. record { starts = λ h. (refl, refl) }) (λ g. none_starts q split)))

-- After a tag's line its section starts behind the line, and the line's data is what was split off.
record Opened (r : List ℕ) (q : ℕ) (x : Out State) : Type 0 where
  commentary_off : (in_block x.state) ≡ false
  lines_at : lines_at x.state.section ≡ q
  split_is : data_pieces r x.entries ≡ split_piece r (split_off x.state.section)

module _ (c : Conventions) (r : List ℕ) (s : State) (p : ℕ) (l : List ℕ) (q : ℕ) where
  reading_opens : (t : TagReading) → ReadingLate t → eqb (kind_of (read_by c s p l q t).state.section) 0 ≡ false → Opened r q (read_by c s p l q t)
  unfolding tagged
  reading_opens (Plain t) j o =
      let a = (open_starts c (tag_number (cut t.name l)) (cut t.value l) q no_span).starts o in
      record { commentary_off = refl; lines_at = a.0; split_is = ap (split_piece r) (sym a.1) }
  reading_opens (WithComment t d) j o =
      let a = (open_starts c (tag_number (cut t.name l)) (cut t.value l) q no_span).starts o in
      record { commentary_off = refl; lines_at = a.0; split_is = ap (split_piece r) (sym a.1) }
  reading_opens (WithData t d) j o =
      let a = (open_starts c (tag_number (cut t.name l)) (cut t.value l) q (Some (at p d))).starts o in
      record { commentary_off = refl; lines_at = a.0; split_is = rw o refl ∙ ap (split_piece r) (sym a.1) }

  closed_opens : (t : TagReading) → Opened r q (read_by c (closed c r s).state p l q t) → Opened r q (and_then (closed c r s) (read_by c (closed c r s).state p l q t))
  closed_opens t h =
      record {
        commentary_off = h.commentary_off;
        lines_at = h.lines_at;
        split_is = pieces_append r (closed c r s).entries (read_by c (closed c r s).state p l q t).entries ∙ rw (late_pieces r (closed_late c r s)) h.split_is;
      }

line_tag : (c : Conventions) (r : List ℕ) (s : State) (p : ℕ) (l : List ℕ) (t : TagReading) → in_block s ≡ false → line_kind l ≡ TagOn t
    → line_out c r s p l ≡ and_then (closed c r s) (read_by c (closed c r s).state p l (p + length l) t)
unfolding line_out tag_line_out
line_tag c r s p l t n k =
    chosen (λ (x : Out State). x ≡ and_then (closed c r s) (read_by c (closed c r s).state p l (p + length l) t)) (in_block s) (in_commentary r s p l) (line_by c r s p l (line_kind l))
    (λ e. clash (sym n ∙ e))
    (λ e. ap (line_by c r s p l) k)

-- THEOREM. Where a tag, in any state, opens a section, the data over which the section is walked when it closes are the data lines that
-- the entries of the tag's line, and of the lines of its section, name.
pub SectionLines : (c : Conventions) (r : List ℕ) (s : State) (p : ℕ) (l : List ℕ) (t : TagReading) → LineAt r p l → in_block s ≡ false → line_kind l ≡ TagOn t
    → eqb (kind_of (line_out c r s p l).state.section) 0 ≡ false
    → Walked r (line_out c r s p l).state.section (lines_read c r s p (l ∷ section_lines false (raw_lines (drop (p + length l) r))))
unfolding section_data
SectionLines c r s p l t i n k o =
    let q = p + length l in
    let e = line_tag c r s p l t n k in
    let j : ReadingLate t = rw k at (line_late l) in
    let h : Opened r q (line_out c r s p l) = moved e (closed_opens c r s p l q t (reading_opens c r (closed c r s).state p l q t j (ap (λ (x : Out State). eqb (kind_of x.state.section) 0) (sym e) ∙ o))) in
    walked (line_out c r s p l) h o
  where
    moved : {q : ℕ} {x y : Out State} → x ≡ y → Opened r q y → Opened r q x
    moved e h = rw e h

    walked : (x : Out State) → Opened r (p + length l) x → eqb (kind_of x.state.section) 0 ≡ false
        → Walked r x.state.section (and_then x (lines_read c r x.state (p + length l) (section_lines false (raw_lines (drop (p + length l) r)))))
    walked x h o =
        let q = p + length l in
        let z = lines_walked c r x.state q (raw_lines (drop q r)) refl o in
        let w = ap (λ (b : Bool). lines_read c r x.state q (section_lines b (raw_lines (drop q r)))) h.commentary_off in
        record {
          still_open = ap (λ (y : Out State). y.state.section) (sym w) ∙ z.0;
          data_are =
              ap (λ (m : ℕ). split_piece r (split_off x.state.section) ++ data_in false m (raw_lines (drop m r))) h.lines_at
              ∙ ap (λ (b : Bool). split_piece r (split_off x.state.section) ++ data_in b q (raw_lines (drop q r))) (sym h.commentary_off)
              ∙ ap (λ (qs : List Piece). split_piece r (split_off x.state.section) ++ qs) (sym z.1 ∙ ap (λ (y : Out State). data_pieces r y.entries) w)
              ∙ ap (λ (qs : List Piece). qs ++ data_pieces r (lines_read c r x.state q (section_lines false (raw_lines (drop q r)))).entries) (sym h.split_is)
              ∙ sym (pieces_append r x.entries (lines_read c r x.state q (section_lines false (raw_lines (drop q r)))).entries);
        }
