-- Every entry of a record, and of a text, has a kind 1 to 8, and all but a trick lie inside it.
use Rattle.std.specs.Prelude.{None}
use Rattle.reader.specs.Sections.{span_of}
use Rattle.reader.specs.Boards.{in_block, block_of}
use Rattle.std.specs.Prelude.{Option, Some}
use Rattle.reader.specs.declared.section.Kind.TheVariants.{Auction, Play, Optimum}
use Rattle.reader.specs.declared.section.Kind.{Kind}
use Prim.Native.Nat.{ℕ, ◌+◌, ◌-◌, ◌≤◌}
use mathlib.Core.Path.{◌≡◌, refl, sym, ◌∙◌}
use mathlib.Core.Bool.{Bool, true, false, cond}
use mathlib.Core.List.{List, [], ◌∷◌, map}
use native.Mathlib.Omega.{arith}
use lib.Dec.{ltb, eqb}
use lib.ListN.{length, drop, get_or, length-append}
use borrow.Author.Tests.{ltb-true, ltb-false, eqb-true, ne_eqb}
use Rattle.tables.specs.declared.letters.Conventions.{Conventions}
use Rattle.tables.specs.Text.{lead, first_character}
use Rattle.tables.specs.Letters.{seat_of}
use Rattle.tables.proofs.Laws.{by_cases, either, clash}
use Rattle.reader.specs.declared.store.Entry.{Entry}
use Rattle.reader.specs.declared.tag.Span.{Span}
use Rattle.reader.specs.declared.tag.Tag.{Tag as TagPlaces}
use Rattle.reader.specs.declared.line.Line.{Line}
use Rattle.reader.specs.declared.line.Line.TheVariants.{Blank, Brace, Directive, Tag as TagOn, Bracket, Data}
use Rattle.reader.specs.declared.line.TagReading.{TagReading}
use Rattle.reader.specs.declared.line.TagReading.TheVariants.{Plain, WithComment, WithData}
use Rattle.reader.specs.declared.section.Open.{Open}
use Rattle.reader.specs.declared.section.Walk.{Walk}
use Rattle.reader.specs.declared.board.State.{State}
use Rattle.reader.specs.Store.{low_word, flat, entry_words}
use Rattle.reader.specs.Tag.{cut}
use Rattle.reader.specs.TagSteps.{SpanInside, TagInside}
use Rattle.reader.specs.Names.{tag_number}
use Rattle.reader.specs.Lines.{has_brace, last_brace, line_kind}
use Rattle.reader.specs.LineSteps.{LinePlaced, ReadingPlaced}
use Rattle.reader.specs.Pieces.{Piece, Out, entry, raw_lines}
use Rattle.reader.specs.Sections.{commentary_after, stops_at, data_piece, piece_of, data_in, split_piece, section_data, walked, no_walk, walked_all, kind_of, opener, lines_at, split_off}
use Rattle.reader.specs.Boards.{last_entries, closed, closed_by, no_span, no_open, at, seat_open, open_by, tagged, data_added, read_by, tag_line_out, with_commentary, blocked, braced, in_commentary, line_by, line_out, lines_out, no_state, record_out, is_all_white}
use Rattle.reader.specs.Records.{records_of}
use Rattle.reader.specs.Editions.{entries_from, entries_of}
use Rattle.reader.proofs.EntryLaws.{All, none, one, all_append, all_map, Inside, Trick, out_all_lem}
use Rattle.reader.proofs.AuctionLaws.{CallsInside}
use Rattle.reader.proofs.PlayLaws.{TricksOnly, LastTrickOnly}
use Rattle.reader.proofs.Inside.{LineInside}
use Rattle.reader.proofs.Seams.{records_fit}
use Rattle.reader.proofs.Counts.{chosen, cut_len, next_line_lem}
use Rattle.reader.proofs.LineLaws.{brace_inside}

-- An entry of a record of n bytes.
pub record Placed (n : ℕ) (e : Entry) : Type 0 where
  pub kind_some : 1 ≤ e.kind
  pub kind_low : e.kind ≤ 8
  pub inside : (e.kind ≡ 8 → ⊥) → e.x + e.y ≤ n

-- ---- calls, annotations, tricks

call_placed : (n lo hi : ℕ) (e : Entry) → hi ≤ n → Inside lo hi e → Placed n e
call_placed n lo hi e h i =
    either (eqb e.kind 6) (eqb e.kind 7) i.placed
    (λ t. let k = eqb-true e.kind 6 t in record { kind_some = omega arith; kind_low = omega arith; inside = λ z. omega (arith, i.ends) })
    (λ t. let k = eqb-true e.kind 7 t in record { kind_some = omega arith; kind_low = omega arith; inside = λ z. omega (arith, i.ends) })

trick_placed : (n : ℕ) (e : Entry) → Trick e → Placed n e
trick_placed n e t = record { kind_some = omega (arith, t.trick); kind_low = omega (arith, t.trick); inside = λ z. absurd (z t.trick) }

-- ---- sections

-- A piece of a record of n bytes.
record Within (n : ℕ) (q : Piece) : Type 0 where
  ends : q.at + length q.bytes ≤ n

walked_placed : (c : Conventions) (o : Option Open) (trump n : ℕ) (w : Walk) (q : Piece) → Within n q → All (Placed n) (walked c o trump w q).entries
unfolding walked
walked_placed c o trump n w q h =
    by_cases (eqb (kind_of o) 1)
    (λ e. rw e (all_map (λ x i. call_placed n q.at (q.at + length q.bytes) x h.ends i) (CallsInside c w.bidding q)))
    (λ e.
    by_cases (eqb (kind_of o) 2)
    (λ f. rw (e, f) (all_map (trick_placed n) (TricksOnly c (opener o) trump w.tricks q)))
    (λ f. rw (e, f) none))

data_within : (r : List ℕ) (p : ℕ) (l : List ℕ) (k : Line) → p + length l ≤ length r → LinePlaced k (length l) → All (Within (length r)) (data_piece p l k)
data_within r p l Blank h i = none
data_within r p l Brace h i = none
data_within r p l (Directive s) h i = none
data_within r p l (TagOn t) h i = none
data_within r p l Bracket h i = none
data_within r p l (Data s) h i = one {x = record { at = p + s.start; bytes = cut s l }} (record { ends = omega (arith, cut_len s l) }) none

piece_within : (r : List ℕ) (commentary : Bool) (p : ℕ) (l : List ℕ) → p + length l ≤ length r → All (Within (length r)) (piece_of commentary p l)
unfolding piece_of
piece_within r true p l h = none
piece_within r false p l h = data_within r p l (line_kind l) h (LineInside l)

lines_within : (r : List ℕ) (commentary : Bool) (p : ℕ) (ls : List (List ℕ)) → raw_lines (drop p r) ≡ ls → All (Within (length r)) (data_in commentary p ls)
lines_within r commentary p [] e = none
lines_within r commentary p (l ∷ ls) e =
    let n = next_line_lem r p l ls e in
    let a = piece_within r commentary p l n.inside in
    let b = lines_within r (commentary_after commentary l) (p + length l) ls n.rest in
    by_cases (stops_at commentary l) (λ t. rw t none) (λ t. rw t (all_append a b))

split_within : (r : List ℕ) (s : Option Span) → SpanInside (span_of s) (length r) → All (Within (length r)) (split_piece r s)
split_within r None h = none
split_within r (Some s) h = one {x = record { at = s.start; bytes = cut s r }} (record { ends = omega (arith, cut_len s r) }) none

section_placed : (c : Conventions) (r : List ℕ) (o : Option Open) (trump : ℕ) → SpanInside (span_of (split_off o)) (length r) → All (Placed (length r)) (walked_all c r o trump).entries
unfolding walked_all section_data
section_placed c r o trump h =
    out_all_lem (walked c o trump) (λ w q i. walked_placed c o trump (length r) w q i) no_walk
    (all_append (split_within r (split_off o) h) (lines_within r false (lines_at o) (raw_lines (drop (lines_at o) r)) refl))

last_placed : (n kind : ℕ) (w : Walk) → All (Placed n) (last_entries kind w)
last_placed n kind w = by_cases (eqb kind 2) (λ e. rw e (all_map (trick_placed n) (LastTrickOnly w.tricks))) (λ e. rw e none)

-- ---- one line

-- A step's entries lie inside, and so does what was split off the tag of its section.
record Stays (n : ℕ) (o : Out State) : Type 0 where
  placed : All (Placed n) o.entries
  split : SpanInside (span_of (split_off o.state.section)) n

closed_stays : (c : Conventions) (r : List ℕ) (s : State) → SpanInside (span_of (split_off s.section)) (length r) → Stays (length r) (closed c r s)
unfolding closed
closed_stays c r s h =
    let w = walked_all c r s.section s.board.contract in
    chosen (λ o. Stays (length r) o) (eqb (kind_of s.section) 0) (record { state = s; entries = [] }) (closed_by s w)
    (λ e. record { placed = none; split = h })
    (λ e. record { placed = all_append (section_placed c r s.section s.board.contract h) (last_placed (length r) (kind_of s.section) w.state); split = omega arith })

-- An entry that stands at a span of the line at p.
at_placed : (n k p m z : ℕ) (d : Span) → 1 ≤ k → k ≤ 8 → p + m ≤ n → SpanInside d m → Placed n (entry k (p + d.start) d.len z)
at_placed n k p m z d a b h i = record { kind_some = a; kind_low = b; inside = λ x. omega arith }

open_split : (c : Conventions) (k : ℕ) (value : List ℕ) (q n : ℕ) (split : Option Span) → SpanInside (span_of split) n → SpanInside (span_of (split_off (open_by c k value q split))) n
unfolding open_by
open_split c k value q n split h =
    let P : Option Open → Type 0 = λ o. SpanInside (span_of (split_off o)) n in
    let x : Option Open = Some (record { kind = Optimum; at = q; split = split }) in
    chosen P (eqb k 15) (seat_open Auction (seat_of c (first_character value)) q split) (cond (eqb k 16) (seat_open Play (seat_of c (first_character value)) q split) (cond (eqb k 19) x no_open)) (λ e. seat Auction)
    (λ e.
    chosen P (eqb k 16) (seat_open Play (seat_of c (first_character value)) q split) (cond (eqb k 19) x no_open) (λ f. seat Play)
    (λ f. chosen P (eqb k 19) x no_open (λ g. h) (λ g. omega arith)))
  where
    seat : (kind : ℕ → Kind) → SpanInside (span_of (split_off (seat_open kind (seat_of c (first_character value)) q split))) n
    seat kind =
        chosen (λ (o : Option Open). SpanInside (span_of (split_off o)) n) (ltb (seat_of c (first_character value)) 4)
        (Some (record { kind = kind (seat_of c (first_character value)); at = q; split = split }))
        no_open
        (λ e. h)
        (λ e. omega arith)

tagged_stays : (c : Conventions) (s : State) (p : ℕ) (l : List ℕ) (q n : ℕ) (t : TagPlaces) (split : Option Span) → p + length l ≤ n → TagInside t (length l) → SpanInside (span_of split) n
    → Stays n (tagged c s p l q t split)
unfolding tagged
tagged_stays c s p l q n t split h i j =
    record {
      placed = one (at_placed n 1 p (length l) 0 t.name (omega arith) (omega arith) h i.name_inside) (one (at_placed n 2 p (length l) 0 t.value (omega arith) (omega arith) h i.value_inside) none);
      split = open_split c (tag_number (cut t.name l)) (cut t.value l) q n split j;
    }

data_placed : (s : State) (p n m : ℕ) (d : Span) → p + m ≤ n → SpanInside d m → All (Placed n) (data_added s p d).entries
data_placed s p n m d h i =
    chosen (λ es. All (Placed n) es) (eqb (kind_of s.section) 0) [] (entry 5 (p + d.start) d.len (kind_of s.section) ∷ []) (λ e. none)
    (λ e. one (at_placed n 5 p m (kind_of s.section) d (omega arith) (omega arith) h i) none)

reading_stays : (c : Conventions) (s : State) (p : ℕ) (l : List ℕ) (q n : ℕ) (t : TagReading) → p + length l ≤ n → ReadingPlaced t (length l) → Stays n (read_by c s p l q t)
reading_stays c s p l q n (Plain t) h i = tagged_stays c s p l q n t no_span h i (omega arith)
reading_stays c s p l q n (WithComment t d) h i =
    let a = tagged_stays c s p l q n t no_span h i.0 (omega arith) in
    let z = (tagged c s p l q t no_span).state.tags in
    record { placed = all_append a.placed (one (at_placed n 3 p (length l) z d (omega arith) (omega arith) h i.1) none); split = a.split }
reading_stays c s p l q n (WithData t d) h i =
    let a = tagged_stays c s p l q n t (Some (at p d)) h i.0 (omega (arith, i.1)) in
    record { placed = all_append a.placed (data_placed (tagged c s p l q t (Some (at p d))).state p n (length l) d h i.1); split = a.split }

all_white : (r : List ℕ) (i j : ℕ) → j ≤ i → is_all_white r i j ≡ true
all_white r i j h = let z : j - i ≡ 0 = omega arith in rw z

blocked_stays : (r : List ℕ) (s : State) (i j : ℕ) → j ≤ length r → SpanInside (span_of (split_off s.section)) (length r) → Stays (length r) (blocked r s i j)
unfolding blocked
blocked_stays r s i j h k =
    record {
      placed =
          chosen (λ es. All (Placed (length r)) es) (is_all_white r i j) [] (entry 4 i (j - i) s.tags ∷ []) (λ e. none)
          (λ e.
          by_cases (ltb i j)
          (λ t. one {x = entry 4 i (j - i) s.tags} (record { kind_some = omega arith; kind_low = omega arith; inside = λ x. omega (arith, ltb-true i j t) }) none)
          (λ t. clash (sym e ∙ all_white r i j (ltb-false i j t))));
      split = k;
    }

module _ (c : Conventions) (r : List ℕ) (s : State) (p : ℕ) (l : List ℕ) (h : p + length l ≤ length r) (k : SpanInside (span_of (split_off s.section)) (length r)) where
  commentary_stays : Stays (length r) (in_commentary r s p l)
  unfolding in_commentary
  commentary_stays =
      chosen (λ o. Stays (length r) o) (has_brace l) (blocked r s (block_of s) (p + last_brace l)) (record { state = s; entries = [] })
      (λ e. blocked_stays r s (block_of s) (p + last_brace l) (omega (arith, brace_inside l)) k)
      (λ e. record { placed = none; split = k })

  brace_stays : Stays (length r) (braced r s p l)
  unfolding braced
  brace_stays =
      chosen (λ o. Stays (length r) o) (has_brace l) (blocked r s (p + length (lead l) + 1) (p + last_brace l)) (record { state = with_commentary s (Some (p + length (lead l) + 1)); entries = [] })
      (λ e. blocked_stays r s (p + length (lead l) + 1) (p + last_brace l) (omega (arith, brace_inside l)) k)
      (λ e. record { placed = none; split = k })

  tag_stays : (t : TagReading) → ReadingPlaced t (length l) → Stays (length r) (tag_line_out c r s p l t)
  unfolding tag_line_out
  tag_stays t i =
      let a = closed_stays c r s k in
      let b = reading_stays c (closed c r s).state p l (p + length l) (length r) t h i in
      record { placed = all_append a.placed b.placed; split = b.split }

  kind_stays : (m : Line) → LinePlaced m (length l) → Stays (length r) (line_by c r s p l m)
  kind_stays Blank i = record { placed = none; split = k }
  kind_stays Brace i = brace_stays
  kind_stays (Directive d) i = record { placed = one (at_placed (length r) 3 p (length l) s.tags d (omega arith) (omega arith) h i) none; split = k }
  kind_stays (TagOn t) i = tag_stays t i
  kind_stays Bracket i = record { placed = none; split = k }
  kind_stays (Data d) i = record { placed = data_placed s p (length r) (length l) d h i; split = k }

  line_stays : Stays (length r) (line_out c r s p l)
  unfolding line_out
  line_stays =
      chosen (λ o. Stays (length r) o) (in_block s) (in_commentary r s p l) (line_by c r s p l (line_kind l)) (λ e. commentary_stays) (λ e. kind_stays (line_kind l) (LineInside l))

-- ---- the lines of a record

lines_placed : (c : Conventions) (r : List ℕ) (s : State) (p : ℕ) (ls : List (List ℕ)) → raw_lines (drop p r) ≡ ls → SpanInside (span_of (split_off s.section)) (length r)
    → All (Placed (length r)) (lines_out c r s p ls).entries
lines_placed c r s p [] e k = (closed_stays c r s k).placed
lines_placed c r s p (l ∷ ls) e k =
    let n = next_line_lem r p l ls e in
    let a = line_stays c r s p l n.inside k in
    all_append a.placed (lines_placed c r (line_out c r s p l).state (p + length l) ls n.rest a.split)

-- THEOREM. Every entry of a record is placed.
pub EntriesPlaced : (c : Conventions) (r : List ℕ) → All (Placed (length r)) (record_out c r).entries
unfolding record_out
EntriesPlaced c r = lines_placed c r no_state 0 (raw_lines r) refl (omega arith)

-- ---- a text

-- The words of an entry of a text of n bytes.
pub record WordsPlaced (n : ℕ) (ws : List ℕ) : Type 0 where
  pub kind_some : 1 ≤ get_or ws 0 0
  pub kind_low : get_or ws 0 0 ≤ 8
  pub inside : (get_or ws 0 0 ≡ 8 → ⊥) → get_or ws 1 0 + get_or ws 2 0 ≤ n

words_placed : (a n m : ℕ) (e : Entry) → a + n ≤ m → Placed n e → WordsPlaced m (entry_words a e)
unfolding entry_words
words_placed a n m e h i =
    let k : low_word e.kind ≡ e.kind = omega (arith, i.kind_low) in
    record {
      kind_some = rw k i.kind_some;
      kind_low = rw k i.kind_low;
      inside = λ z.
          let y : e.kind ≡ 8 → ⊥ = λ t. z (k ∙ t) in
          rw (ne_eqb e.kind 8 y) (omega (arith, i.inside y));
    }

pub all_words : {A B : Type 0} {P : A → Type 0} {Q : B → Type 0} (f : A → B) {xs : List A} → ((x : A) → P x → Q (f x)) → All P xs → All Q (map f xs)
all_words f g none = none
all_words f g (one {x} p a) = one (g x p) (all_words f g a)

from_placed : (c : Conventions) (a m : ℕ) (rs : List (List ℕ)) → a + length (flat rs) ≤ m → All (WordsPlaced m) (entries_from c a rs)
from_placed c a m [] h = none
from_placed c a m (r ∷ rs) h =
    let l = length-append r (flat rs) in
    all_append
    (all_words (entry_words a) (λ e i. words_placed a (length r) m e (omega arith) i) (EntriesPlaced c r))
    (from_placed c (a + length r) m rs (omega arith))

-- THEOREM. Every entry of a text, as it is written out, has a kind 1 to 8, and all but a trick lie inside the text.
pub TextPlaced : (c : Conventions) (text : List ℕ) → All (WordsPlaced (length text)) (entries_of c text)
unfolding entries_of
TextPlaced c text = from_placed c 0 (length text) (records_of text) (omega (arith, records_fit text))
