-- Laws of the loop over a record's lines.
use Prim.Native.Nat.{ℕ, ◌+◌, ◌*◌, ◌≤◌}
use mathlib.Core.Path.{◌≡◌, refl, ap, ◌∙◌}
use mathlib.Core.List.{List}
use native.Mathlib.Omega.{arith}
use lib.ListN.{length, drop}
use Rattle.tables.specs.declared.letters.Conventions.{Conventions}
use Rattle.tables.proofs.Laws.{stop}
use Rattle.reader.specs.declared.board.State.{State}
use Rattle.reader.specs.declared.store.Entries.{Entries}
use Rattle.reader.specs.Pieces.{raw_lines}
use Rattle.reader.specs.PieceSteps.{Adds, Emits}
use Rattle.reader.specs.Boards.{closed, line_out, lines_out, no_state, record_out}
use Rattle.reader.specs.BoardSteps.{Sound, Stepped}
use Rattle.reader.proofs.BoardLaws.{line_counts, lines_counts, record_counts}
use Rattle.reader.proofs.Counts.{EntriesFew}
use Rattle.reader.proofs.PieceLaws.{adds_then}
use Rattle.reader.proofs.SectionLaws.{LineAt}
use Rattle.reader.proofs.TagStepLaws.{line_tags_lem}

-- What is left of the lines, from the state s and the entries l, leaves what all of them leave from the start.
pub record LinesLeft (c : Conventions) (r : List ℕ) (l₀ l : Entries) (s : State) (p : ℕ) : Type 0 where
  pub answer : (lines_out c r s p (raw_lines (drop p r))).state ≡ (record_out c r).state
  pub adds : (l' : Entries) → Adds l l' (lines_out c r s p (raw_lines (drop p r))).entries → Adds l₀ l' (record_out c r).entries
  pub start : l.start ≡ l₀.start
  pub counted : l.count ≡ l₀.count + s.n
  pub sound : Sound p s
  pub inside : p ≤ length r
  pub tags_few : s.tags ≤ p

pub lines_start : (c : Conventions) (r : List ℕ) (l : Entries) (s : State) → s ≡ no_state → LinesLeft c r l l s 0
unfolding record_out
lines_start c r l s e =
    rw e
    (record {
      answer = refl;
      adds = λ l' h. h;
      start = refl;
      counted = omega arith;
      sound = record { lines_before = omega arith; split_before = omega arith; block_before = omega arith };
      inside = omega arith;
      tags_few = omega arith;
    })

-- There are never more entries than those of the record.
pub left_few : {c : Conventions} {r : List ℕ} {l₀ l : Entries} {s : State} {p : ℕ} → LinesLeft c r l₀ l s p → s.n ≤ 4 * length r
left_few {c} {r} {s = s} {p = p} k =
    omega (arith, lines_counts c r s p (raw_lines (drop p r)), ap (λ (x : State). x.n) k.answer, record_counts c r, EntriesFew c r)

-- One line is read.
pub lines_next : {c : Conventions} {r : List ℕ} {l₀ l : Entries} {s : State} {p : ℕ} → LinesLeft c r l₀ l s p
    → (x : List ℕ) → LineAt r p x → (l' : Entries) (t : State) → Stepped (p + length x) l l' t (line_out c r s p x) → LinesLeft c r l₀ l' t (p + length x)
lines_next {c} {r} {l₀} {l} {s} {p} k x e l' t g =
    let o = line_out c r s p x in
    let q = lines_out c r o.state (p + length x) (raw_lines (drop (p + length x) r)) in
    record {
      answer = rw g.emits.answer (rw e.lines at k.answer);
      adds = λ l'' h. k.adds l'' (rw e.lines (adds_then g.emits.adds (rw g.emits.answer at h)));
      start = g.emits.adds.start ∙ k.start;
      counted = rw g.emits.answer (omega (arith, line_counts c r s p x, g.emits.adds.count, k.counted));
      sound = g.sound;
      inside = e.inside;
      tags_few = rw g.emits.answer (omega (arith, line_tags_lem c r s p x, k.tags_few, e.filled));
    }

-- All lines were read, and the open section is closed.
pub lines_done : {c : Conventions} {r : List ℕ} {l₀ l : Entries} {s : State} {p : ℕ} → LinesLeft c r l₀ l s p → length r ≤ p
    → (l' : Entries) (t : State) → Emits l l' t (closed c r s) → Emits l₀ l' t (record_out c r)
lines_done {r = r} {p = p} k h l' t g =
    let e = stop r p h in
    record { answer = g.answer ∙ rw e at k.answer; adds = k.adds l' (rw e g.adds) }
