-- The entries of a record's state are counted.
use Rattle.reader.specs.Boards.{in_block, block_of}
use Rattle.std.specs.Prelude.{Option, Some}
use Prim.Native.Nat.{ℕ, ◌+◌}
use mathlib.Core.Path.{◌≡◌, refl, sym, ◌∙◌}
use mathlib.Core.Bool.{Bool, true, false, cond}
use mathlib.Core.List.{List, [], ◌∷◌}
use native.Mathlib.Nat.{add-zero}
use native.Mathlib.Omega.{arith}
use lib.Dec.{eqb}
use lib.ListN.{length, length-append}
use Rattle.tables.specs.declared.letters.Conventions.{Conventions}
use Rattle.reader.specs.declared.tag.Span.{Span}
use Rattle.reader.specs.declared.tag.Tag.{Tag}
use Rattle.reader.specs.declared.board.State.{State}
use Rattle.reader.specs.declared.line.TagReading.{TagReading}
use Rattle.reader.specs.declared.line.TagReading.TheVariants.{Plain, WithComment, WithData}
use Rattle.reader.specs.declared.line.Line.{Line}
use Rattle.reader.specs.declared.line.Line.TheVariants.{Blank, Brace, Directive, Bracket, Data, Tag as TagOn}
use Rattle.reader.specs.Lines.{line_kind, has_brace, last_brace}
use Rattle.tables.specs.Text.{lead}
use Rattle.reader.specs.Sections.{walked_all, kind_of}
use Rattle.reader.specs.Pieces.{Out, and_then, raw_lines}
use Rattle.reader.specs.Boards.{no_span, at, closed_by, closed, tagged, directed, data_added, read_by, tag_line_out, with_commentary, blocked, braced, in_commentary, line_by, line_out, lines_out, no_state, record_out}

-- A step from s that counts its entries.
abbrev pub Counts : State → Out State → Type 0
Counts s o = o.state.n ≡ s.n + length o.entries

counts_none : (s t : State) → t.n ≡ s.n → Counts s (record { state = t; entries = [] })
counts_none s t e = e ∙ sym (add-zero s.n)

counts_then : (s : State) (o p : Out State) → Counts s o → Counts o.state p → Counts s (and_then o p)
counts_then s o p e f = f ∙ rw length-append (omega arith)

counts_cond : (b : Bool) (s : State) (o p : Out State) → Counts s o → Counts s p → Counts s (cond b o p)
counts_cond true s o p e f = e
counts_cond false s o p e f = f

pub closed_counts : (c : Conventions) (r : List ℕ) (s : State) → Counts s (closed c r s)
unfolding closed
closed_counts c r s =
    counts_cond (eqb (kind_of s.section) 0) s (record { state = s; entries = [] }) (closed_by s (walked_all c r s.section s.board.contract)) (counts_none s s refl) refl

pub tagged_counts : (c : Conventions) (s : State) (p : ℕ) (l : List ℕ) (q : ℕ) (t : Tag) (d : Option Span) → Counts s (tagged c s p l q t d)
unfolding tagged
tagged_counts c s p l q t d = refl

read_counts : (c : Conventions) (s : State) (p : ℕ) (l : List ℕ) (q : ℕ) (t : TagReading) → Counts s (read_by c s p l q t)
read_counts c s p l q (Plain t) = tagged_counts c s p l q t no_span
read_counts c s p l q (WithComment t d) = counts_then s (tagged c s p l q t no_span) (directed (tagged c s p l q t no_span).state p d) (tagged_counts c s p l q t no_span) refl
read_counts c s p l q (WithData t d) = counts_then s (tagged c s p l q t (Some (at p d))) (data_added (tagged c s p l q t (Some (at p d))).state p d) (tagged_counts c s p l q t (Some (at p d))) refl

tag_counts : (c : Conventions) (r : List ℕ) (s : State) (p : ℕ) (l : List ℕ) (t : TagReading) → Counts s (tag_line_out c r s p l t)
unfolding tag_line_out
tag_counts c r s p l t = counts_then s (closed c r s) (read_by c (closed c r s).state p l (p + length l) t) (closed_counts c r s) (read_counts c (closed c r s).state p l (p + length l) t)

blocked_counts : (r : List ℕ) (s : State) (i j : ℕ) → Counts s (blocked r s i j)
unfolding blocked
blocked_counts r s i j = refl

braced_counts : (r : List ℕ) (s : State) (p : ℕ) (l : List ℕ) → Counts s (braced r s p l)
unfolding braced
braced_counts r s p l =
    let o = blocked r s (p + length (lead l) + 1) (p + last_brace l) in
    let t = with_commentary s (Some (p + length (lead l) + 1)) in
    counts_cond (has_brace l) s o (record { state = t; entries = [] }) (blocked_counts r s (p + length (lead l) + 1) (p + last_brace l)) (counts_none s t refl)

commentary_counts : (r : List ℕ) (s : State) (p : ℕ) (l : List ℕ) → Counts s (in_commentary r s p l)
unfolding in_commentary
commentary_counts r s p l =
    counts_cond (has_brace l) s (blocked r s (block_of s) (p + last_brace l)) (record { state = s; entries = [] }) (blocked_counts r s (block_of s) (p + last_brace l)) (counts_none s s refl)

by_counts : (c : Conventions) (r : List ℕ) (s : State) (p : ℕ) (l : List ℕ) (k : Line) → Counts s (line_by c r s p l k)
by_counts c r s p l Blank = counts_none s s refl
by_counts c r s p l Brace = braced_counts r s p l
by_counts c r s p l (Directive d) = refl
by_counts c r s p l (TagOn t) = tag_counts c r s p l t
by_counts c r s p l Bracket = counts_none s s refl
by_counts c r s p l (Data d) = refl

pub line_counts : (c : Conventions) (r : List ℕ) (s : State) (p : ℕ) (l : List ℕ) → Counts s (line_out c r s p l)
unfolding line_out
line_counts c r s p l = counts_cond (in_block s) s (in_commentary r s p l) (line_by c r s p l (line_kind l)) (commentary_counts r s p l) (by_counts c r s p l (line_kind l))

pub lines_counts : (c : Conventions) (r : List ℕ) (s : State) (p : ℕ) (ls : List (List ℕ)) → Counts s (lines_out c r s p ls)
lines_counts c r s p [] = closed_counts c r s
lines_counts c r s p (l ∷ ls) = counts_then s (line_out c r s p l) (lines_out c r (line_out c r s p l).state (p + length l) ls) (line_counts c r s p l) (lines_counts c r (line_out c r s p l).state (p + length l) ls)

-- A record's count is that of its entries.
pub record_counts : (c : Conventions) (r : List ℕ) → (record_out c r).state.n ≡ length (record_out c r).entries
unfolding record_out
record_counts c r = lines_counts c r no_state 0 (raw_lines r) ∙ omega arith
