-- How many bytes the lines of a board are: its tags and their data once, each directive and each block once at most.
use Prim.Native.Nat.{ℕ, suc, ◌+◌, ◌*◌, ◌≤◌}
use mathlib.Core.Path.{◌≡◌, refl, sym, ap, ◌∙◌}
use mathlib.Core.Bool.{Bool, true, false, ◌&&◌, not, and-false}
use mathlib.Core.List.{List, [], ◌∷◌, ◌++◌, map}
use mathlib.Core.Option.{Option, none, some}
use native.Mathlib.Nat.{add-mul, mul-le-mul_right}
use native.Mathlib.Numerals.{unary_clauses}
use native.Mathlib.Omega.{arith}
use lib.ListN.{length, length-append}
use Rattle.reader.proofs.EntryLaws.{sum_of}
use Rattle.tables.proofs.Laws.{by_cases, clash}
use Rattle.reader.specs.Words.{same}
use Rattle.reader.specs.Tag.{tag_text}
use Rattle.reader.specs.Plain.{TagPair, Remark, PlainBoard}
use Rattle.reader.proofs.WordLaws.{same_is}
use Rattle.reader.proofs.PlainSizes.{remarks_size}
use Rattle.writer.specs.Tags.{WrittenTag}
use Rattle.writer.specs.Remarks.{Anchored, anchored_from, directives_of, blocks_of, those, is_leading, is_under, wrote, tag_unwritten, goes_after, WrittenLine, tag_line, data_line, directive_line, block_line, directive_lines, block_lines, directives_after, blocks_after, tags_lines, leading_lines, body_lines, line_text, lines_text}
use Rattle.writer.proofs.NamesOnce.{once}
use Rattle.writer.proofs.PlaceLaws.{same_flip, times_placed, placed_none, placed_some}

-- ---- sums

pub text_append : (ls ms : List WrittenLine) → length (lines_text (ls ++ ms)) ≡ length (lines_text ls) + length (lines_text ms)
text_append [] ms = omega arith
text_append (l ∷ ls) ms =
    omega (arith, length-append (line_text l) (lines_text (ls ++ ms)), length-append (line_text l) (lines_text ls), text_append ls ms)

-- The bytes of remarks, m more for each, f times each.
abbrev spread : ℕ → (Anchored → ℕ) → List Anchored → ℕ
spread m f [] = 0
spread m f (k ∷ ks) = f k * (length k.bytes + m) + spread m f ks

spread_add : (m : ℕ) (f g : Anchored → ℕ) (ks : List Anchored) → spread m f ks + spread m g ks ≡ spread m (λ k. f k + g k) ks
spread_add m f g [] = refl
spread_add m f g (k ∷ ks) = omega (arith, spread_add m f g ks, add-mul (f k) (g k) (length k.bytes + m))

spread_most : (m n : ℕ) (f : Anchored → ℕ) (ks : List Anchored) → ((k : Anchored) → f k ≤ n) → spread m f ks ≤ spread m (λ k. n) ks
spread_most m n f [] h = omega arith
spread_most m n f (k ∷ ks) h = omega (arith, mul-le-mul_right (length k.bytes + m) (h k), spread_most m n f ks h)

spread_none : (m : ℕ) (ks : List Anchored) → spread m (λ k. 0) ks ≡ 0
spread_none m [] = refl
spread_none m (k ∷ ks) = omega (arith, spread_none m ks)

-- Those that meet a test, once each, on lines that are m bytes longer.
remarks_spread : (m : ℕ) (f : Anchored → WrittenLine) → ((k : Anchored) → length (line_text (f k)) ≡ length k.bytes + m)
    → (p : Anchored → Bool) (ks : List Anchored) → length (lines_text (map f (those p ks))) ≡ spread m (λ k. once (p k)) ks
remarks_spread m f h p [] = refl
remarks_spread m f h p (k ∷ ks) =
    let i = remarks_spread m f h p ks in
    by_cases (p k)
    (λ e. rw e (omega (arith, h k, length-append (line_text (f k)) (lines_text (map f (those p ks))))))
    (λ e. rw e (omega arith))

directives_spread : (p : Anchored → Bool) (ks : List Anchored) → length (lines_text (directive_lines (those p ks))) ≡ spread 1 (λ k. once (p k)) ks
unfolding line_text
directives_spread p ks = remarks_spread 1 (λ k. directive_line k.number k.bytes) (λ k. length-append k.bytes (10 ∷ [])) p ks

blocks_spread : (p : Anchored → Bool) (ks : List Anchored) → length (lines_text (block_lines (those p ks))) ≡ spread 3 (λ k. once (p k)) ks
unfolding line_text
blocks_spread p ks = remarks_spread 3 (λ k. block_line k.number k.bytes) (λ k. omega (arith, length-append k.bytes (125 ∷ 10 ∷ []))) p ks

-- ---- the lines of tags

-- The bytes of data lines, and of tags with their data lines, an LF for each.
abbrev pub data_size : List (List ℕ) → ℕ
data_size ds = sum_of (λ d. length d + 1) ds

abbrev pub tag_size : WrittenTag → ℕ
tag_size w = length w.name + length w.value + 6 + data_size w.lines

abbrev pub written_size : List WrittenTag → ℕ
written_size ws = sum_of tag_size ws

data_size_lem : (ds : List (List ℕ)) → length (lines_text (map data_line ds)) ≡ data_size ds
unfolding line_text
data_size_lem [] = refl
data_size_lem (d ∷ ds) = rw (length-append, length-append) (omega (arith, data_size_lem ds))

tag_size_lem : (n v : List ℕ) → length (line_text (tag_line n v)) ≡ length n + length v + 6
unfolding line_text tag_text
tag_size_lem n v = simp length-append (omega arith)

-- After how many of the tags a block is written: after the first of its name.
abbrev first : List WrittenTag → List WrittenTag → Anchored → ℕ
first earlier [] k = 0
first earlier (w ∷ ws) k = once (not (wrote w.name earlier) && is_under w.name k) + first (earlier ++ w ∷ []) ws k

after_spread : (ks : List Anchored) (earlier : List WrittenTag) (w : WrittenTag)
    → length (lines_text (blocks_after ks earlier w)) ≡ spread 3 (λ k. once (not (wrote w.name earlier) && is_under w.name k)) ks
unfolding blocks_after
after_spread ks earlier w = by_cases (wrote w.name earlier) (λ e. rw e (sym (spread_none 3 ks))) (λ e. rw e (blocks_spread (is_under w.name) ks))

tags_size_lem : (ds ks : List Anchored) (earlier ws : List WrittenTag)
    → length (lines_text (tags_lines ds ks earlier ws)) ≡ written_size ws + spread 1 (λ k. times_placed k.anchor earlier ws) ds + spread 3 (first earlier ws) ks
unfolding directives_after
tags_size_lem ds ks earlier [] = rw (spread_none 1 ds, spread_none 3 ks)
tags_size_lem ds ks earlier (w ∷ ws) =
    let here = goes_after (earlier ++ w ∷ ws) (length earlier) in
    let u : Anchored → ℕ = λ k. once (here k) in
    let f : Anchored → ℕ = λ k. once (not (wrote w.name earlier) && is_under w.name k) in
    let more = earlier ++ w ∷ [] in
    let D = directive_lines (those here ds) in
    let a = length-append (line_text (tag_line w.name w.value)) (lines_text (map data_line w.lines ++ (D ++ (blocks_after ks earlier w ++ tags_lines ds ks more ws)))) in
    let b = text_append (map data_line w.lines) (D ++ (blocks_after ks earlier w ++ tags_lines ds ks more ws)) in
    let d = text_append D (blocks_after ks earlier w ++ tags_lines ds ks more ws) in
    let e = text_append (blocks_after ks earlier w) (tags_lines ds ks more ws) in
    omega (
      arith,
      a,
      b,
      d,
      e,
      tag_size_lem w.name w.value,
      data_size_lem w.lines,
      directives_spread here ds,
      after_spread ks earlier w,
      tags_size_lem ds ks more ws,
      spread_add 1 u (λ k. times_placed k.anchor more ws) ds,
      spread_add 3 f (first more ws) ks,
    )

-- ---- how often a remark is written

once_few : (x : Bool) → once x ≤ 1
once_few true = omega arith
once_few false = omega arith

wrote_append : (n : List ℕ) (ws vs : List WrittenTag) → wrote n ws ≡ true → wrote n (ws ++ vs) ≡ true
wrote_append n [] vs e = clash e
wrote_append n (w ∷ ws) vs e = by_cases (same n w.name) (λ t. rw t) (λ t. rw t (wrote_append n ws vs (rw t at e)))

wrote_last : (n : List ℕ) (ws : List WrittenTag) (w : WrittenTag) → same n w.name ≡ true → wrote n (ws ++ w ∷ []) ≡ true
wrote_last n [] w e = rw e
wrote_last n (v ∷ ws) w e = by_cases (same n v.name) (λ t. rw t) (λ t. rw t (wrote_last n ws w e))

abbrev anchored_to : ℕ → List ℕ → Option TagPair → Anchored
anchored_to i b o = record { number = i; bytes = b; anchor = o }

module _ (i : ℕ) (b : List ℕ) where
  directive_most : (o : Option TagPair) (ws : List WrittenTag) → once (is_leading (anchored_to i b o)) + (times_placed o [] ws + once (tag_unwritten ws (anchored_to i b o))) ≤ 1
  directive_most none ws = omega (arith, placed_none [] ws)
  directive_most (some t) ws =
      let p = placed_some t ws in
      by_cases (wrote t.name ws) (λ e. rw e (omega (arith, rw e at p))) (λ e. rw e (omega (arith, rw e at p)))

  first_none : (earlier ws : List WrittenTag) → first earlier ws (anchored_to i b none) ≡ 0
  first_none earlier [] = refl
  first_none earlier (w ∷ ws) = rw (and-false, first_none (earlier ++ w ∷ []) ws)

  first_over : (t : TagPair) (earlier ws : List WrittenTag) → wrote t.name earlier ≡ true → first earlier ws (anchored_to i b (some t)) ≡ 0
  first_over t earlier [] e = refl
  first_over t earlier (w ∷ ws) e =
      let n = t.name in
      let r = first_over t (earlier ++ w ∷ []) ws (wrote_append n earlier (w ∷ []) e) in
      by_cases (same w.name n)
      (λ x.
      let u : wrote w.name earlier ≡ true = ap (λ (m : List ℕ). wrote m earlier) (same_is w.name n x) ∙ e in
      rw (x, u) (omega arith))
      (λ x. rw (x, and-false) (omega arith))

  first_once : (t : TagPair) (earlier ws : List WrittenTag) → first earlier ws (anchored_to i b (some t)) ≤ once (wrote t.name ws)
  first_once t earlier [] = omega arith
  first_once t earlier (w ∷ ws) =
      let n = t.name in
      by_cases (same n w.name)
      (λ x.
      let r = first_over t (earlier ++ w ∷ []) ws (wrote_last n earlier w x) in
      let f = once_few (not (wrote w.name earlier) && same w.name n) in
      rw x (omega arith))
      (λ x. rw (same_flip w.name n, x, and-false) (omega (arith, first_once t (earlier ++ w ∷ []) ws)))

  block_most : (o : Option TagPair) (ws : List WrittenTag)
      → once (is_leading (anchored_to i b o)) + (first [] ws (anchored_to i b o) + once (tag_unwritten ws (anchored_to i b o))) ≤ 1
  block_most none ws = omega (arith, first_none [] ws)
  block_most (some t) ws =
      let f = first_once t [] ws in
      by_cases (wrote t.name ws) (λ e. rw e (omega (arith, rw e at f))) (λ e. rw e (omega (arith, rw e at f)))

-- ---- the lines of a board

-- Every remark once.
all_spread : (m : ℕ) (ts : List TagPair) (i : ℕ) (ks : List Remark) → spread m (λ k. 1) (anchored_from ts i ks) ≡ remarks_size ks + m * length ks
all_spread m ts i [] = simp unary_clauses
all_spread m ts i (k ∷ ks) =
    let e : m * suc (length ks) ≡ m + m * length ks = simp unary_clauses (omega arith) in
    omega (arith, e, all_spread m ts (i + 1) ks)

-- THEOREM. The bytes of a board's lines: its written tags with their data, each directive and each block once at most.
pub LinesSize : (b : PlainBoard) (ws : List WrittenTag)
    → length (lines_text (leading_lines b)) + length (lines_text (body_lines b ws))
    ≤ written_size ws + (remarks_size b.directives + length b.directives) + (remarks_size b.blocks + 3 * length b.blocks)
unfolding leading_lines body_lines directives_of blocks_of
LinesSize b ws =
    let ds = directives_of b in
    let ks = blocks_of b in
    let lead : Anchored → ℕ = λ k. once (is_leading k) in
    let placed : Anchored → ℕ = λ k. times_placed k.anchor [] ws in
    let lost : Anchored → ℕ = λ k. once (tag_unwritten ws k) in
    omega (
      arith,
      text_append (block_lines (those is_leading ks)) (tags_lines ds ks [] ws ++ (block_lines (those (tag_unwritten ws) ks) ++ directive_lines (those (tag_unwritten ws) ds))),
      text_append (tags_lines ds ks [] ws) (block_lines (those (tag_unwritten ws) ks) ++ directive_lines (those (tag_unwritten ws) ds)),
      text_append (block_lines (those (tag_unwritten ws) ks)) (directive_lines (those (tag_unwritten ws) ds)),
      directives_spread is_leading ds,
      directives_spread (tag_unwritten ws) ds,
      blocks_spread is_leading ks,
      blocks_spread (tag_unwritten ws) ks,
      tags_size_lem ds ks [] ws,
      spread_add 1 placed lost ds,
      spread_add 1 lead (λ k. placed k + lost k) ds,
      spread_add 3 (first [] ws) lost ks,
      spread_add 3 lead (λ k. first [] ws k + lost k) ks,
      spread_most 1 1 (λ k. lead k + (placed k + lost k)) ds (λ k. directive_most k.number k.bytes k.anchor ws),
      spread_most 3 1 (λ k. lead k + (first [] ws k + lost k)) ks (λ k. block_most k.number k.bytes k.anchor ws),
      all_spread 1 b.tags 0 b.directives,
      all_spread 3 b.tags 0 b.blocks,
    )
