-- Laws of a tag's line.
use Rattle.reader.specs.Sections.{span_of}
use Rattle.reader.specs.Boards.{in_block, block_of}
use Rattle.std.specs.Prelude.{Some, None}
use Rattle.std.specs.Prelude.{Option}
use Prim.Native.Nat.{ℕ, ◌+◌, ◌≤◌}
use mathlib.Core.Path.{◌≡◌, refl, ap}
use mathlib.Core.Bool.{Bool, true, false, cond}
use mathlib.Core.List.{List, [], ◌∷◌}
use native.Mathlib.Omega.{arith}
use lib.Dec.{eqb}
use lib.ListN.{length}
use Rattle.tables.specs.declared.letters.Conventions.{Conventions}
use Rattle.tables.specs.Text.{lead}
use Rattle.reader.specs.declared.board.Board.{Board}
use Rattle.reader.specs.declared.board.State.{State}
use Rattle.reader.specs.declared.line.Line.{Line}
use Rattle.reader.specs.declared.line.Line.TheVariants.{Blank, Brace, Directive, Tag as TagOn, Bracket, Data}
use Rattle.reader.specs.declared.line.TagReading.{TagReading}
use Rattle.reader.specs.declared.line.TagReading.TheVariants.{Plain, WithComment, WithData}
use Rattle.reader.specs.declared.section.Open.{Open}
use Rattle.reader.specs.declared.section.Walk.{Walk}
use Rattle.reader.specs.declared.store.Entry.{Entry}
use Rattle.reader.specs.declared.tag.Span.{Span}
use Rattle.reader.specs.declared.tag.Tag.{Tag}
use Rattle.reader.specs.Boards.{applied, open_by, no_span, at, adding, counted_state, closed, closed_by, tagged, directed, data_entries, data_added, read_by, tag_line_out, with_commentary, blocked, braced, in_commentary, line_by, line_out}
use Rattle.reader.specs.BoardSteps.{Sound, Stepped}
use Rattle.reader.specs.Lines.{line_kind, has_brace, last_brace}
use Rattle.reader.specs.Names.{tag_number}
use Rattle.reader.specs.Pieces.{Out, and_then, entry}
use Rattle.reader.specs.declared.store.Entries.{Entries}
use Rattle.reader.specs.PieceSteps.{Adds, Emits}
use Rattle.reader.specs.Sections.{walked_all, kind_of}
use Rattle.reader.specs.Tag.{cut}
use Rattle.reader.proofs.ApplyLaws.{Opened, open_early}
use Rattle.reader.proofs.PieceLaws.{adds_then, emits_then}

-- ---- what holds of a state

-- It holds at every later place, and with more entries.
pub sound_later : {p q : ℕ} {s : State} → p ≤ q → Sound p s → Sound q s
sound_later {p} {q} {s} h k =
    record {
      lines_before = omega (arith, h, k.lines_before);
      split_before = omega (arith, h, k.split_before);
      block_before = omega (arith, h, k.block_before);
    }

pub counted_sound : {p : ℕ} {s : State} (n : ℕ) → Sound p s → Sound p (counted_state s n)
counted_sound n k =
    record {
      lines_before = k.lines_before;
      split_before = k.split_before;
      block_before = k.block_before;
    }

-- ---- a tag

opened_sound : (c : Conventions) (k : ℕ) (value : List ℕ) (p q : ℕ) (split : Option Span) (s t : State) →
    Sound p s →
    p ≤ q →
    (span_of split).start + (span_of split).len ≤ q →
    t.section ≡ open_by c k value q split →
    block_of t ≤ q + 1 →
    Sound q t
opened_sound c k value p q split s t h pq sq e b =
    let o : Opened q split t.section = rw e (open_early c k value q split) in
    record {
      lines_before = o.lines_early;
      split_before = omega (arith, o.split_end, sq);
      block_before = b;
    }

-- A tag's step from its parts: its two entries, its board and its section.
pub tag_stepped :
    (c : Conventions) (l : List ℕ) (t : Tag) (split : Option Span) {s : State} {p q k : ℕ} {name value : List ℕ} {e e' e'' : Entries} {board : Board} {section : Option Open} →
    Sound p s →
    p ≤ q →
    (span_of split).start + (span_of split).len ≤ q →
    Adds e e' (entry 1 (p + t.name.start) t.name.len 0 ∷ []) →
    Adds e' e'' (entry 2 (p + t.value.start) t.value.len 0 ∷ []) →
    name ≡ cut t.name l →
    k ≡ tag_number name →
    value ≡ cut t.value l →
    board ≡ applied c k value (s.n + 2) s.board →
    section ≡ open_by c k value q split →
    Stepped q e e'' (record { board = board; section = section; tags = s.tags + 1; n = s.n + 2; commentary = None }) (tagged c s p l q t split)
unfolding tagged
tag_stepped c l t split {s} {p} {q} {k} {name} {value} {e} {e'} {e''} {board} {section} h pq sq e1 e2 en ek ev eb es =
    record {
      emits = record { answer = rw (eb, es, ek, en, ev); adds = adds_then e1 e2 };
      sound = opened_sound c k value p q split s _ h pq sq es (omega arith);
    }

-- ---- a tag with its comment or its data

stepped_then :
    {q : ℕ} {r r' : State} {e e' e'' : Entries} {o : Out State} (f : State → List Entry) →
    Stepped q e e' r o →
    Emits e' e'' r' (adding r (f r)) →
    Stepped q e e'' r' (and_then o (adding o.state (f o.state)))
stepped_then {r = r} {o = o} f h k =
    record {
      emits = emits_then h.emits (rw (← h.emits.answer) k);
      sound = rw k.answer (counted_sound (length (f r)) h.sound);
    }

pub read_comment :
    (c : Conventions) (s : State) (p : ℕ) (l : List ℕ) {q : ℕ} {r r' : State} {e e' e'' : Entries} {t : TagReading} {x : Tag} {d : Span} →
    t ≡ WithComment x d →
    Stepped q e e' r (tagged c s p l q x no_span) →
    Emits e' e'' r' (directed r p d) →
    Stepped q e e'' r' (read_by c s p l q t)
read_comment c s p l {d = d} et h f = rw et (stepped_then (λ (y : State). entry 3 (p + d.start) d.len y.tags ∷ []) h f)

pub read_data :
    (c : Conventions) (s : State) (p : ℕ) (l : List ℕ) {q : ℕ} {r r' : State} {e e' e'' : Entries} {t : TagReading} {x : Tag} {d split : Span} →
    t ≡ WithData x d →
    split ≡ at p d →
    Stepped q e e' r (tagged c s p l q x (Some split)) →
    Emits e' e'' r' (data_added r p d) →
    Stepped q e e'' r' (read_by c s p l q t)
read_data c s p l {d = d} et es h f = rw et (stepped_then (λ (x : State). data_entries x.section p d) (rw es at h) f)

-- ---- sections closed before a tag

pub closed_tags : (c : Conventions) (r : List ℕ) (s : State) → (closed c r s).state.tags ≡ s.tags
unfolding closed
closed_tags c r s = go (eqb (kind_of s.section) 0) (walked_all c r s.section s.board.contract)
  where
    go : (t : Bool) (w : Out Walk) → (cond t (record { state = s; entries = [] }) (closed_by s w)).state.tags ≡ s.tags
    go true w = refl
    go false w = refl

pub closed_sound : {p : ℕ} (c : Conventions) (r : List ℕ) (s : State) → Sound p s → Sound p (closed c r s).state
unfolding closed
closed_sound {p} c r s h = go (eqb (kind_of s.section) 0) (walked_all c r s.section s.board.contract)
  where
    go : (t : Bool) (w : Out Walk) → Sound p (cond t (record { state = s; entries = [] }) (closed_by s w)).state
    go true w = h
    go false w =
        record {
          lines_before = omega arith;
          split_before = omega arith;
          block_before = h.block_before;
        }

pub read_closed_lem :
    (c : Conventions) (s : State) (p : ℕ) (w l : List ℕ) (t : TagReading) {r r' : State} {e e' e'' : Entries} →
    Emits e e' r (closed c w s) →
    Stepped (p + length l) e' e'' r' (read_by c r p l (p + length l) t) →
    Stepped (p + length l) e e'' r' (tag_line_out c w s p l t)
unfolding tag_line_out
read_closed_lem c s p w l t {r = r} h k =
    record {
      emits = emits_then h (rw (← h.answer) k.emits);
      sound = k.sound;
    }

-- ---- where the data of a tag's line ends

-- ---- the number of tags

pub read_tags : (c : Conventions) (w : List ℕ) (s : State) (p : ℕ) (l : List ℕ) (t : TagReading) → (tag_line_out c w s p l t).state.tags ≡ s.tags + 1
unfolding tag_line_out tagged
read_tags c w s p l (Plain t) = ap (λ (k : ℕ). k + 1) (closed_tags c w s)
read_tags c w s p l (WithComment t d) = ap (λ (k : ℕ). k + 1) (closed_tags c w s)
read_tags c w s p l (WithData t d) = ap (λ (k : ℕ). k + 1) (closed_tags c w s)

-- A line adds one tag at most.
pub line_tags_lem : (c : Conventions) (r : List ℕ) (s : State) (p : ℕ) (l : List ℕ) → (line_out c r s p l).state.tags ≤ s.tags + 1
unfolding line_out in_commentary braced blocked
line_tags_lem c r s p l = go (in_block s)
  where
    brace : (t : Bool) (i j : ℕ) → (cond t (blocked r s i j) (record { state = with_commentary s (Some i); entries = [] })).state.tags ≤ s.tags + 1
    brace true i j = omega arith
    brace false i j = omega arith

    in_commentary_lem : (t : Bool) (j : ℕ) → (cond t (blocked r s (block_of s) j) (record { state = s; entries = [] })).state.tags ≤ s.tags + 1
    in_commentary_lem true j = omega arith
    in_commentary_lem false j = omega arith

    by : (k : Line) → (line_by c r s p l k).state.tags ≤ s.tags + 1
    by Blank = omega arith
    by Brace = brace (has_brace l) (p + length (lead l) + 1) (p + last_brace l)
    by (Directive d) = omega arith
    by (TagOn t) = omega (arith, read_tags c r s p l t)
    by Bracket = omega arith
    by (Data d) = omega arith

    go : (t : Bool) → (cond t (in_commentary r s p l) (line_by c r s p l (line_kind l))).state.tags ≤ s.tags + 1
    go true = in_commentary_lem (has_brace l) (p + last_brace l)
    go false = by (line_kind l)
