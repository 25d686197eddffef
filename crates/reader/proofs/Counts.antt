-- How many entries a text has: at most four for each byte. A line outside sections adds at most three, a section that closes at most
-- two for each byte of its data and the last trick; its data lies between its tag and the line that closes it.
use Rattle.reader.specs.Sections.{span_of}
use Rattle.reader.specs.Boards.{in_block, block_of}
use Rattle.reader.specs.declared.section.Kind.TheVariants.{Auction, Play, Optimum}
use Rattle.reader.specs.declared.section.Kind.{Kind}
use Prim.Native.Nat.{ℕ, suc, ◌+◌, ◌*◌, ◌≤◌, ◌<◌}
use mathlib.Core.Path.{◌≡◌, refl, sym, ap, ◌∙◌}
use mathlib.Core.Bool.{Bool, true, false, cond, ◌||◌}
use mathlib.Core.List.{List, [], ◌∷◌, ◌++◌}
use native.Mathlib.Omega.{arith}
use lib.Dec.{ltb, eqb}
use lib.ListN.{length, take, drop, get_or, length-append, length-map, length-take, length-drop}
use borrow.Author.Tests.{ltb-true, ltb-false}
use Rattle.tables.specs.declared.letters.Conventions.{Conventions}
use Rattle.tables.specs.Text.{lead, trim_start, before, first_character}
use Rattle.tables.specs.Letters.{seat_of}
use Rattle.tables.proofs.Laws.{by_cases, clash, stop}
use Rattle.reader.specs.declared.tag.Span.{Span}
use Rattle.reader.specs.declared.tag.Tag.{Tag as TagPlaces}
use Rattle.std.specs.Prelude.{Option, Some, None, option_and_then}
use Rattle.reader.specs.declared.line.Line.{Line}
use Rattle.reader.specs.declared.line.Line.TheVariants.{Blank, Brace, Directive, Tag as TagOn, Bracket, Data}
use Rattle.reader.specs.declared.line.TagReading.{TagReading}
use Rattle.reader.specs.declared.line.TagReading.TheVariants.{Plain, WithComment, WithData}
use Rattle.reader.specs.declared.section.Open.{Open}
use Rattle.reader.specs.declared.section.Walk.{Walk}
use Rattle.reader.specs.declared.board.State.{State}
use Rattle.reader.specs.declared.store.Entry.{Entry}
use Rattle.reader.specs.Store.{flat}
use Rattle.reader.specs.Tag.{TagLine, cut, trim_part, with_data, data_after, split_of, data_bracket, tag_line}
use Rattle.reader.specs.Names.{tag_number}
use Rattle.reader.specs.Lines.{is_blank, has_brace, last_brace, split_as, split_line, bracket_as, bracket_line, kind_by, line_kind, opens_board}
use Rattle.reader.specs.LineSteps.{LinePlaced, ReadingPlaced}
use Rattle.reader.specs.Pieces.{Piece, Out, entry, raw_lines}
use Rattle.reader.specs.Sections.{commentary_after, closes_section, stops_at, data_piece, piece_of, data_in, split_piece, section_data, walked, no_walk, walked_all, kind_of, opener, kind_number}
use Rattle.reader.specs.Boards.{last_entries, closed, no_span, at, seat_open, open_by, tagged, data_added, tag_line_out, blocked, braced, in_commentary, line_by, line_out, lines_out, no_state, record_out, is_all_white}
use Rattle.reader.specs.Records.{records_of}
use Rattle.reader.specs.Editions.{cards_from, entries_from, cards_of, entries_of}
use Rattle.reader.proofs.Tags.{with_tag}
use Rattle.reader.proofs.EntryLaws.{All, none, one, bytes_in, out_few}
use Rattle.reader.proofs.AuctionLaws.{CallsFew}
use Rattle.reader.proofs.PlayLaws.{TricksFew, last_counted}
use Rattle.reader.proofs.SectionLaws.{LineAt, line_at_lem}
use Rattle.reader.proofs.Inside.{LineInside}
use Rattle.reader.proofs.Seams.{records_fit, records_few}

-- ---- a section

walked_few : (c : Conventions) (o : Option Open) (trump : ℕ) (w : Walk) (q : Piece) → length (walked c o trump w q).entries ≤ 2 * length q.bytes
unfolding walked
walked_few c o trump w q =
    by_cases (eqb (kind_of o) 1)
    (λ e. rw e (CallsFew c w.bidding q))
    (λ e.
    by_cases (eqb (kind_of o) 2)
    (λ f. rw (e, f) (omega (arith, TricksFew c (opener o) trump w.tricks q)))
    (λ f. rw (e, f) (omega arith)))

pub any : {A : Type 0} (xs : List A) → All (λ (x : A). Unit {0}) xs
any [] = none
any (x ∷ xs) = one tt (any xs)

-- The data of a section adds at most two entries for each of its bytes.
pub SectionFew : (c : Conventions) (r : List ℕ) (o : Option Open) (trump : ℕ) → length (walked_all c r o trump).entries ≤ 2 * bytes_in (section_data r o)
unfolding walked_all
SectionFew c r o trump = out_few (walked c o trump) 2 (λ w q u. walked_few c o trump w q) no_walk (any (section_data r o))

last_few : (kind : ℕ) (w : Walk) → length (last_entries kind w) ≤ 1
last_few kind w = by_cases (eqb kind 2) (λ e. rw e (last_counted w.tricks).few) (λ e. rw e (omega arith))

-- The most entries that closing a section may add.
abbrev pub closing_most : List ℕ → Option Open → ℕ
closing_most r o = cond (eqb (kind_of o) 0) 0 (2 * bytes_in (section_data r o) + 1)

pub ClosedFew : (c : Conventions) (r : List ℕ) (s : State) → length (closed c r s).entries ≤ closing_most r s.section
unfolding closed
ClosedFew c r s =
    by_cases (eqb (kind_of s.section) 0)
    (λ e. rw e (omega arith))
    (λ e.
    let w = walked_all c r s.section s.board.contract in
    rw (e, length-append) (omega (arith, SectionFew c r s.section s.board.contract, last_few (kind_of s.section) w.state)))

-- ---- the data of a section

pub bytes_append : (xs ys : List Piece) → bytes_in (xs ++ ys) ≡ bytes_in xs + bytes_in ys
bytes_append [] ys = omega arith
bytes_append (x ∷ xs) ys = omega (arith, bytes_append xs ys)

pub cut_few : (s : Span) (l : List ℕ) → length (cut s l) ≤ length l
cut_few s l = rw (length-take, length-drop) (omega arith)

pub cut_len : (s : Span) (l : List ℕ) → length (cut s l) ≤ s.len
cut_len s l = rw length-take (omega arith)

data_few : (p : ℕ) (l : List ℕ) (k : Line) → bytes_in (data_piece p l k) ≤ length l
data_few p l Blank = omega arith
data_few p l Brace = omega arith
data_few p l (Directive s) = omega arith
data_few p l (TagOn t) = omega arith
data_few p l Bracket = omega arith
data_few p l (Data s) = omega (arith, cut_few s l)

pub piece_few : (commentary : Bool) (p : ℕ) (l : List ℕ) → bytes_in (piece_of commentary p l) ≤ length l
unfolding piece_of
piece_few true p l = omega arith
piece_few false p l = data_few p l (line_kind l)

-- A line has no more data than bytes.
data_step : (commentary : Bool) (p : ℕ) (l : List ℕ) (ls : List (List ℕ)) → bytes_in (data_in commentary p (l ∷ ls)) ≤ length l + bytes_in (data_in (commentary_after commentary l) (p + length l) ls)
data_step commentary p l ls =
    by_cases (stops_at commentary l)
    (λ e. rw e (omega arith))
    (λ e. rw (e, bytes_append (piece_of commentary p l)) (omega (arith, piece_few commentary p l)))

split_few : (r : List ℕ) (s : Option Span) → bytes_in (split_piece r s) ≤ (span_of s).len
split_few r None = omega arith
split_few r (Some s) = omega (arith, cut_len s r)

-- A section just opened at q: what was split off, and what follows.
abbrev opened_most : List ℕ → ℕ → Option Span → ℕ
opened_most r q split = 2 * (span_of split).len + 1 + 2 * bytes_in (data_in false q (raw_lines (drop q r)))

kind_most : (r : List ℕ) (kind : Kind) (q : ℕ) (split : Option Span) → closing_most r (Some (record { kind = kind; at = q; split = split })) ≤ opened_most r q split
unfolding section_data
kind_most r kind q split =
    by_cases (eqb (kind_number kind) 0)
    (λ e. rw e (omega arith))
    (λ e. rw (e, bytes_append (split_piece r split)) (omega (arith, split_few r split)))

seat_most : (r : List ℕ) (kind : ℕ → Kind) (seat q : ℕ) (split : Option Span) → closing_most r (seat_open kind seat q split) ≤ opened_most r q split
seat_most r kind seat q split = by_cases (ltb seat 4) (λ e. rw e (kind_most r (kind seat) q split)) (λ e. rw e (omega arith))

open_most : (c : Conventions) (r : List ℕ) (k : ℕ) (value : List ℕ) (q : ℕ) (split : Option Span) → closing_most r (open_by c k value q split) ≤ opened_most r q split
unfolding open_by
open_most c r k value q split =
    by_cases (eqb k 15)
    (λ e. rw e (seat_most r Auction (seat_of c (first_character value)) q split))
    (λ e.
    by_cases (eqb k 16)
    (λ f. rw (e, f) (seat_most r Play (seat_of c (first_character value)) q split))
    (λ f. by_cases (eqb k 19) (λ g. rw (e, f, g) (kind_most r Optimum q split)) (λ g. rw (e, f, g) (omega arith))))

-- ---- data split off a tag's line is not empty, and stands behind a byte at least

abbrev pub ReadingLate : TagReading → Type 0
ReadingLate (Plain t) = Unit {0}
ReadingLate (WithComment t d) = Unit {0}
ReadingLate (WithData t d) = (0 < d.start) × (eqb d.len 0 ≡ false)

abbrev pub LineLate : Line → Type 0
LineLate Blank = Unit {0}
LineLate Brace = Unit {0}
LineLate (Directive d) = Unit {0}
LineLate (TagOn t) = ReadingLate t
LineLate Bracket = Unit {0}
LineLate (Data d) = Unit {0}

late_data : (g : TagPlaces) (e : ℕ) (line : List ℕ) → LineLate (split_as (with_data g (trim_part (e + 1) (length line) line)))
unfolding trim_part
late_data g e line = by_cases (eqb (trim_part (e + 1) (length line) line).len 0) (λ t. rw t tt) (λ t. rw t (omega arith, t))

late_pair : (t : TagLine) (e : ℕ) (line : List ℕ) → LineLate (split_as (with_tag t (e + 1) line))
late_pair None e line = tt
late_pair (Some (t, None)) e line = late_data t e line
late_pair (Some (t, Some c)) e line = late_data t e line

late_split : (c : Option ℕ) (line : List ℕ) → LineLate (split_as (option_and_then (λ k. data_after (k + 1) line) c))
unfolding data_after
late_split None line = tt
late_split (Some k) line = late_pair (tag_line (take (k + 1) line)) k line

late_bracket : (t : TagLine) (line : List ℕ) → LineLate (bracket_as t line)
unfolding split_line split_of
late_bracket None line = late_split (data_bracket line) line
late_bracket (Some (t, None)) line = tt
late_bracket (Some (t, Some c)) line = tt

late_by : (b : ℕ) (line : List ℕ) → LineLate (kind_by b line)
unfolding bracket_line
late_by b line =
    by_cases (eqb b 123)
    (λ e. rw e tt)
    (λ e.
    by_cases (eqb b 59 || eqb b 37)
    (λ f. rw (e, f) tt)
    (λ f. by_cases (eqb b 91) (λ g. rw (e, f, g) (late_bracket (tag_line line) line)) (λ g. rw (e, f, g) tt)))

pub line_late : (line : List ℕ) → LineLate (line_kind line)
unfolding line_kind
line_late line = by_cases (is_blank line) (λ e. rw e tt) (λ e. rw e (late_by (get_or (trim_start line) 0 0) line))

-- ---- one line

few_if : (b : Bool) (e : Entry) → length (cond b [] (e ∷ [])) ≤ 1
few_if true e = omega arith
few_if false e = omega arith

added_few : (s : State) (p : ℕ) (g : Span) → length (data_added s p g).entries ≤ 1
added_few s p g = few_if (eqb (kind_of s.section) 0) (entry 5 (p + g.start) g.len (kind_of s.section))

pub chosen : {A : Type 0} (P : A → Type 0) (b : Bool) (x y : A) → (b ≡ true → P x) → (b ≡ false → P y) → P (cond b x y)
chosen P true x y h k = h refl
chosen P false x y h k = k refl

-- After a line of n bytes, with lines ls from q on. Closing the open section adds at most past, for its data up to q, and two for each
-- byte of its data from q on. d is what past was before the line: the line's entries, and what it adds to past, are at most 4 n.
record Bounded (r : List ℕ) (n q : ℕ) (ls : List (List ℕ)) (d : ℕ) (o : Out State) : Type 0 where
  past : ℕ
  closing : closing_most r o.state.section ≤ past + 2 * bytes_in (data_in (in_block o.state) q ls)
  few : length o.entries + past ≤ 4 * n + d

-- A line that leaves the section as it is.
pub record Keeps (s : State) (l : List ℕ) (o : Out State) : Type 0 where
  pub section_kept : o.state.section ≡ s.section
  pub commentary_is : (in_block o.state) ≡ commentary_after (in_block s) l
  pub few : length o.entries ≤ 1

keeps_bounded : (r : List ℕ) (s : State) (p : ℕ) (l : List ℕ) (ls : List (List ℕ)) (d : ℕ) {o : Out State}
    → closing_most r s.section ≤ d + 2 * bytes_in (data_in (in_block s) p (l ∷ ls)) → 0 < length l → Keeps s l o → Bounded r (length l) (p + length l) ls d o
keeps_bounded r s p l ls d h f k =
    record {
      past = d + 2 * length l;
      closing = rw (k.section_kept, k.commentary_is) (omega (arith, h, data_step (in_block s) p l ls));
      few = omega (arith, k.few);
    }

commentary_keeps : (r : List ℕ) (s : State) (p : ℕ) (l : List ℕ) → in_block s ≡ true → Keeps s l (in_commentary r s p l)
unfolding in_commentary blocked commentary_after
commentary_keeps r s p l e =
    by_cases (has_brace l)
    (λ b. rw b (record { section_kept = refl; commentary_is = rw (e, b); few = few_if (is_all_white r (block_of s) (p + last_brace l)) _ }))
    (λ b. rw b (record { section_kept = refl; commentary_is = rw (e, b); few = omega arith }))

brace_keeps : (r : List ℕ) (s : State) (p : ℕ) (l : List ℕ) → in_block s ≡ false → line_kind l ≡ Brace → Keeps s l (braced r s p l)
unfolding braced blocked commentary_after
brace_keeps r s p l e k =
    by_cases (has_brace l)
    (λ b. rw b (record { section_kept = refl; commentary_is = rw (e, k, b); few = few_if (is_all_white r (p + length (lead l) + 1) (p + last_brace l)) _ }))
    (λ b. rw b (record { section_kept = refl; commentary_is = rw (e, k, b); few = omega arith }))

-- So do all lines but tags.
kind_keeps : (c : Conventions) (r : List ℕ) (s : State) (p : ℕ) (l : List ℕ) (k : Line) → line_kind l ≡ k → in_block s ≡ false → opens_board k ≡ false → Keeps s l (line_by c r s p l k)
unfolding commentary_after
kind_keeps c r s p l Blank e z n = record { section_kept = refl; commentary_is = rw (z, e); few = omega arith }
kind_keeps c r s p l Brace e z n = brace_keeps r s p l z e
kind_keeps c r s p l (Directive g) e z n = record { section_kept = refl; commentary_is = rw (z, e); few = omega arith }
kind_keeps c r s p l (TagOn t) e z n = clash (sym n)
kind_keeps c r s p l Bracket e z n = record { section_kept = refl; commentary_is = rw (z, e); few = omega arith }
kind_keeps c r s p l (Data g) e z n = record { section_kept = refl; commentary_is = rw (z, e); few = added_few s p g }

pub line_keeps : (c : Conventions) (r : List ℕ) (s : State) (p : ℕ) (l : List ℕ) → stops_at (in_block s) l ≡ false → Keeps s l (line_out c r s p l)
unfolding line_out stops_at
line_keeps c r s p l h =
    chosen (λ (o : Out State). Keeps s l o) (in_block s) (in_commentary r s p l) (line_by c r s p l (line_kind l))
    (λ e. commentary_keeps r s p l e)
    (λ e. kind_keeps c r s p l (line_kind l) refl e (no_tag_lem (line_kind l) (rw e at h)))
  where
    no_tag_lem : (k : Line) → closes_section k ≡ false → opens_board k ≡ false
    no_tag_lem Blank q = refl
    no_tag_lem Brace q = refl
    no_tag_lem (Directive g) q = refl
    no_tag_lem (TagOn t) q = q
    no_tag_lem Bracket q = refl
    no_tag_lem (Data g) q = refl

pub closes_tag : (l : List ℕ) (t : TagReading) → line_kind l ≡ TagOn t → stops_at false l ≡ true
unfolding stops_at
closes_tag l t k = rw k

module _ (c : Conventions) (r : List ℕ) (s : State) (p : ℕ) (l : List ℕ) (ls : List (List ℕ)) (d : ℕ) (f : 0 < length l) (n : raw_lines (drop (p + length l) r) ≡ ls) where
  tag_bounded : (t : TagReading) → closing_most r s.section ≤ d → ReadingPlaced t (length l) → ReadingLate t → Bounded r (length l) (p + length l) ls d (tag_line_out c r s p l t)
  unfolding tag_line_out tagged
  tag_bounded (Plain t) h i j =
      record {
        past = 1;
        closing = rw (← n) (omega (arith, open_most c r (tag_number (cut t.name l)) (cut t.value l) (p + length l) no_span));
        few = rw length-append (omega (arith, ClosedFew c r s));
      }
  tag_bounded (WithComment t g) h i j =
      record {
        past = 1;
        closing = rw (← n) (omega (arith, open_most c r (tag_number (cut t.name l)) (cut t.value l) (p + length l) no_span));
        few = rw length-append (omega (arith, ClosedFew c r s));
      }
  tag_bounded (WithData t g) h i j =
      record {
        past = 2 * g.len + 1;
        closing = rw (← n) (omega (arith, open_most c r (tag_number (cut t.name l)) (cut t.value l) (p + length l) (Some (at p g))));
        few =
            rw length-append
            (omega (arith, ClosedFew c r s, i.1, j.0, added_few (tagged c (closed c r s).state p l (p + length l) t (Some (at p g))).state p g));
      }

  kind_bounded : (k : Line) → line_kind l ≡ k → in_block s ≡ false → closing_most r s.section ≤ d + 2 * bytes_in (data_in (in_block s) p (l ∷ ls))
      → LinePlaced k (length l) → LineLate k → Bounded r (length l) (p + length l) ls d (line_by c r s p l k)
  kind_bounded (TagOn t) e z h i j =
      let g : data_in (in_block s) p (l ∷ ls) ≡ [] = rw (z, closes_tag l t e) in
      tag_bounded t (omega (arith, rw g at h)) i j
  kind_bounded Blank e z h i j = keeps_bounded r s p l ls d h f (kind_keeps c r s p l Blank e z refl)
  kind_bounded Brace e z h i j = keeps_bounded r s p l ls d h f (kind_keeps c r s p l Brace e z refl)
  kind_bounded (Directive g) e z h i j = keeps_bounded r s p l ls d h f (kind_keeps c r s p l (Directive g) e z refl)
  kind_bounded Bracket e z h i j = keeps_bounded r s p l ls d h f (kind_keeps c r s p l Bracket e z refl)
  kind_bounded (Data g) e z h i j = keeps_bounded r s p l ls d h f (kind_keeps c r s p l (Data g) e z refl)

  line_bounded : closing_most r s.section ≤ d + 2 * bytes_in (data_in (in_block s) p (l ∷ ls)) → Bounded r (length l) (p + length l) ls d (line_out c r s p l)
  unfolding line_out
  line_bounded h =
      chosen (λ o. Bounded r (length l) (p + length l) ls d o) (in_block s) (in_commentary r s p l) (line_by c r s p l (line_kind l))
      (λ e. keeps_bounded r s p l ls d h f (commentary_keeps r s p l e))
      (λ e. kind_bounded (line_kind l) refl e h (LineInside l) (line_late l))

-- ---- the lines of a record

-- The line at the place p of a record, and the lines that follow it.
pub record NextLine (r : List ℕ) (p : ℕ) (l : List ℕ) (ls : List (List ℕ)) : Type 0 where
  pub filled : 0 < length l
  pub inside : p + length l ≤ length r
  pub rest : raw_lines (drop (p + length l) r) ≡ ls

pub next_line_lem : (r : List ℕ) (p : ℕ) (l : List ℕ) (ls : List (List ℕ)) → raw_lines (drop p r) ≡ l ∷ ls → NextLine r p l ls
next_line_lem r p l ls e =
    by_cases (ltb p (length r))
    (λ t.
    let k = line_at_lem r p (take (length (before 10 (drop p r)) + 1) (drop p r)) (ltb-true p (length r) t) refl in
    moved k (sym k.lines ∙ e))
    (λ t.
    let z : raw_lines (drop p r) ≡ [] = rw (stop r p (ltb-false p (length r) t)) in
    let y : ◌≡◌ {A = List (List ℕ)} [] (l ∷ ls) = sym z ∙ e in
    let x : ◌≡◌ {A = ℕ} 0 1 = cc in
    absurd (omega arith))
  where
    moved : {m : List ℕ} → LineAt r p m → m ∷ raw_lines (drop (p + length m) r) ≡ l ∷ ls → NextLine r p l ls
    moved {m} k e =
        let a : m ≡ l = cc in
        let b : raw_lines (drop (p + length m) r) ≡ ls = cc in
        record { filled = rw a at k.filled; inside = rw a at k.inside; rest = rw a at b }

lines_few : (c : Conventions) (r : List ℕ) (ls : List (List ℕ)) (s : State) (p d : ℕ) → p ≤ length r → raw_lines (drop p r) ≡ ls
    → closing_most r s.section ≤ d + 2 * bytes_in (data_in (in_block s) p ls) → length (lines_out c r s p ls).entries + 4 * p ≤ 4 * length r + d
lines_few c r [] s p d i e h = omega (arith, ClosedFew c r s)
lines_few c r (l ∷ ls) s p d i e h =
    let n = next_line_lem r p l ls e in
    let y = line_bounded c r s p l ls d n.filled n.rest h in
    let g = lines_few c r ls (line_out c r s p l).state (p + length l) y.past n.inside n.rest y.closing in
    rw length-append (omega (arith, y.few, g))

-- THEOREM. A record has at most four entries for each byte.
pub EntriesFew : (c : Conventions) (r : List ℕ) → length (record_out c r).entries ≤ 4 * length r
unfolding record_out
EntriesFew c r = omega (arith, lines_few c r (raw_lines r) no_state 0 0 (omega arith) refl (omega arith))

-- ---- a text

from_few : (c : Conventions) (a : ℕ) (rs : List (List ℕ)) → length (entries_from c a rs) ≤ 4 * length (flat rs)
from_few c a [] = omega arith
from_few c a (r ∷ rs) =
    rw (length-append, length-map)
    (omega (arith, EntriesFew c r, from_few c (a + length r) rs, length-append r (flat rs)))

-- THEOREM. So has a text.
pub TextEntriesFew : (c : Conventions) (text : List ℕ) → length (entries_of c text) ≤ 4 * length text
unfolding entries_of
TextEntriesFew c text = omega (arith, from_few c 0 (records_of text), records_fit text)

-- The number of entries of a text that is not overlong has 32 bits.
pub EntriesFit : (c : Conventions) (text : List ℕ) → length text ≤ 16777215 → length (entries_of c text) < 4294967296
EntriesFit c text h = omega (arith, TextEntriesFew c text)

pub cards_few : (c : Conventions) (a n : ℕ) (rs : List (List ℕ)) → length (cards_from c a n rs) ≡ length rs
cards_few c a n [] = refl
cards_few c a n (r ∷ rs) = ap suc (cards_few c (a + length r) (n + length (record_out c r).entries) rs)

-- THEOREM. A text has at most one board for each byte.
pub TextBoardsFew : (c : Conventions) (text : List ℕ) → length (cards_of c text) ≤ length text
unfolding cards_of
TextBoardsFew c text = rw (cards_few c 0 0 (records_of text)) (records_few text)
