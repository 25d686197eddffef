-- Laws of the walk from line to line of a text: it meets the lines by which records are read, in their order.
use Prim.Native.Nat.{ℕ, zero, suc, ◌+◌, ◌-◌, ◌≤◌}
use mathlib.Core.Path.{◌≡◌, refl, sym, ap, ◌∙◌}
use mathlib.Core.List.{List, []}
use native.Mathlib.Omega.{arith}
use lib.Dec.{leb, leb-zero, leb-suc-zero, leb-suc-suc}
use lib.ListN.{length, drop, get_or, length-take, length-drop}
use denote.Ref.{Bor}
use borrow.Author.Tests.{leb-true, leb-false}
use Rattle.tables.proofs.Laws.{by_cases, stop}
use Rattle.tables.specs.declared.lines.Lines.{Lines}
use Rattle.tables.specs.LineWalk.{IsNextLine, line_at, line_end, lines_of, at_end, next_line, past_lines}
use Rattle.reader.specs.Pieces.{raw_lines}
use Rattle.reader.proofs.SectionLaws.{LineAt, line_at_lem}

-- The line at a place ends where the text does, or before.
pub line_fits : (text : List ℕ) (e : ℕ) → length (line_at text e) ≤ length text - e
line_fits text e = rw (length-take, length-drop) (omega arith)

-- A walk at the place e.
abbrev at : Bor (List ℕ) → ℕ → Lines
at s e = record { text = s; next = e }

-- Past the end there is no line.
none_left : (text : List ℕ) (e : ℕ) → length text ≤ e → raw_lines (drop e text) ≡ []
none_left text e h = ap raw_lines (stop text e h)

-- The same from any place on: the k-th line from there, and whether it is the end.
lines_from : (s : Bor (List ℕ)) (k e : ℕ) → next_line (past_lines k (at s e)) ≡ get_or (raw_lines (drop e s.now)) k []
lines_from s zero e =
    by_cases (leb (length s.now) e)
    (λ t. rw (stop s.now e (leb-true (length s.now) e t)))
    (λ t. rw (line_at_lem s.now e (line_at s.now e) (leb-false (length s.now) e t) refl).lines)
lines_from s (suc k) e =
    lines_from s k (line_end s.now e) ∙
    by_cases (leb (length s.now) e)
    (λ t.
    let h = leb-true (length s.now) e t in
    rw (none_left s.now e h, none_left s.now (line_end s.now e) (omega arith)))
    (λ t. rw (line_at_lem s.now e (line_at s.now e) (leb-false (length s.now) e t) refl).lines)

ends_from : (s : Bor (List ℕ)) (k e : ℕ) → at_end (past_lines k (at s e)) ≡ leb (length (raw_lines (drop e s.now))) k
ends_from s zero e =
    by_cases (leb (length s.now) e)
    (λ t. rw (t, none_left s.now e (leb-true (length s.now) e t)))
    (λ t. rw (t, (line_at_lem s.now e (line_at s.now e) (leb-false (length s.now) e t) refl).lines, leb-suc-zero))
ends_from s (suc k) e =
    ends_from s k (line_end s.now e) ∙
    by_cases (leb (length s.now) e)
    (λ t.
    let h = leb-true (length s.now) e t in
    rw (none_left s.now e h, none_left s.now (line_end s.now e) (omega arith)) (leb-zero k ∙ sym (leb-zero (suc k))))
    (λ t. rw ((line_at_lem s.now e (line_at s.now e) (leb-false (length s.now) e t) refl).lines, leb-suc-suc))

-- The k-th line of a walk from the text's start, counted from 0, is the k-th of the text's lines.
pub WalkLines : (s : Bor (List ℕ)) (k : ℕ) → next_line (past_lines k (lines_of s)) ≡ get_or (raw_lines s.now) k []
WalkLines s k = lines_from s k 0

-- It is at its end when it is past as many lines as the text has, and not before.
pub WalkEnds : (s : Bor (List ℕ)) (k : ℕ) → at_end (past_lines k (lines_of s)) ≡ leb (length (raw_lines s.now)) k
WalkEnds s k = ends_from s k 0

-- ---- the line that comes

pub line_of_next : {w v : Lines} {l : List ℕ} (text : List ℕ) (e : ℕ) → IsNextLine w l v → w.text.now ≡ text → w.next ≡ e → LineAt text e l
line_of_next {w} {v} {l} text e n t p = rw (← t, ← p) (line_at_lem w.text.now w.next l (leb-false (length w.text.now) w.next n.left) n.line_is)

pub next_place : {w v : Lines} {l : List ℕ} → IsNextLine w l v → (v.text ≡ w.text) × (v.next ≡ w.next + length l)
next_place n = (ap (λ (x : Lines). x.text) n.walk_is, ap (λ (x : Lines). x.next) n.walk_is ∙ rw n.line_is)
