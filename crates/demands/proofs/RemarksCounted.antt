-- A directive and a block are written once.
use Prim.Native.Nat.{ℕ, zero, suc, ◌+◌, ◌<◌}
use mathlib.Core.Path.{◌≡◌, refl, sym, ap, ◌∙◌}
use mathlib.Core.Bool.{Bool, true, false, cond, ◌&&◌, ◌||◌, not, and-true, and-false, or-true, or-false}
use mathlib.Core.List.{List, [], ◌∷◌, ◌++◌}
use mathlib.Core.Option.{Option, none, some}
use native.Mathlib.Nat.{zero-add, add-zero}
use native.Mathlib.Omega.{arith}
use lib.Dec.{eqb}
use lib.ListN.{length, get_elem?}
use borrow.Author.Tests.{eq-eqb, ne_eqb}
use Rattle.tables.proofs.Laws.{by_cases}
use Rattle.reader.specs.Words.{same}
use Rattle.reader.specs.Plain.{TagPair, Remark}
use Rattle.reader.proofs.WordLaws.{same_is}
use Rattle.writer.specs.Tags.{WrittenTag}
use Rattle.writer.specs.Remarks.{Anchored, anchor_of, anchored_from, those, is_leading, same_name, is_under, wrote, unwritten, tag_unwritten, goes_after, tags_lines}
use Rattle.writer.proofs.NamesOnce.{once}
use Rattle.writer.proofs.GroupLines.{wrote_append}
use Rattle.writer.proofs.PlaceLaws.{same_flip, times_placed, placed_none, placed_some}
use Rattle.demands.specs.NothingLost.{Kind, directive, block, line_of, is_remark_line, times}
use Rattle.demands.proofs.LinesWritten.{remark_lines, times_never, directives_under, blocks_under, times_data, times_tags, all_lines, times_all, numbered}

-- ---- how often a remark is written

is_line : (kind : Kind) (i j : ℕ) (x : List ℕ) → is_remark_line kind i (line_of kind j x) ≡ eqb i j
is_line directive i j x = refl
is_line block i j x = refl

those_times : (kind : Kind) (i : ℕ) (t : Anchored → Bool) (k : Anchored) (ks : List Anchored)
    → times (is_remark_line kind i) (remark_lines kind (those t (k ∷ ks))) ≡ once (t k && eqb i k.number) + times (is_remark_line kind i) (remark_lines kind (those t ks))
those_times kind i t k ks = by_cases (t k) (λ e. rw (e, is_line kind i k.number k.bytes)) (λ e. rw (e, zero-add))

and_once : (x y : Bool) → y ≡ false → once (x && y) ≡ 0
and_once true y e = rw e
and_once false y e = refl

number_low : (kind : Kind) (t : Anchored → Bool) (ts : List TagPair) (i j : ℕ) (rs : List Remark) → i < j → times (is_remark_line kind i) (remark_lines kind (those t (anchored_from ts j rs))) ≡ 0
number_low kind t ts i j [] h = refl
number_low kind t ts i j (r ∷ rs) h =
    omega (
      arith,
      those_times kind i t (numbered ts j r) (anchored_from ts (j + 1) rs),
      and_once (t (numbered ts j r)) (eqb i j) (ne_eqb i j (λ e. omega arith)),
      number_low kind t ts i (j + 1) rs (omega arith),
    )

-- A remark is among those that meet a test once, where it meets it.
remark_times : (kind : Kind) (t : Anchored → Bool) (ts : List TagPair) (i j m : ℕ) (rs : List Remark) (k : Remark) → i ≡ j + m → get_elem? rs m ≡ some k
    → times (is_remark_line kind i) (remark_lines kind (those t (anchored_from ts j rs))) ≡ once (t (numbered ts i k))
remark_times kind t ts i j m [] k q h = let z : ◌≡◌ {A = ℕ} 0 1 = cc in absurd (omega arith)
remark_times kind t ts i j zero (r ∷ rs) k q h =
    let same_remark : r ≡ k = cc in
    let j_is : j ≡ i = omega arith in
    rw (← same_remark, ← j_is)
    (those_times kind j t (numbered ts j r) (anchored_from ts (j + 1) rs)
    ∙ rw (number_low kind t ts j (j + 1) rs (omega arith), eq-eqb j j refl, and-true, add-zero))
remark_times kind t ts i j (suc m) (r ∷ rs) k q h =
    omega (
      arith,
      those_times kind i t (numbered ts j r) (anchored_from ts (j + 1) rs),
      and_once (t (numbered ts j r)) (eqb i j) (ne_eqb i j (λ e. omega arith)),
      remark_times kind t ts i (j + 1) m rs k (omega arith) h,
    )

directive_tags : (ts : List TagPair) (rs : List Remark) (ks : List Anchored) (earlier ws : List WrittenTag) (i : ℕ) (k : Remark) → get_elem? rs i ≡ some k
    → times (is_remark_line directive i) (tags_lines (anchored_from ts 0 rs) ks earlier ws) ≡ times_placed (anchor_of ts k.before) earlier ws
directive_tags ts rs ks earlier [] i k h = refl
directive_tags ts rs ks earlier (w ∷ ws) i k h =
    omega (
      arith,
      times_tags (is_remark_line directive i) (anchored_from ts 0 rs) ks earlier ws w,
      times_data (is_remark_line directive i) w.lines (λ d. refl),
      remark_times directive (goes_after (earlier ++ w ∷ ws) (length earlier)) ts i 0 i rs k (omega arith) h,
      times_never (is_remark_line directive i) block (blocks_under ks earlier w) (λ j x. refl),
      directive_tags ts rs ks (earlier ++ w ∷ []) ws i k h,
    )

-- Under the first tag of its anchor's name.
abbrev times_first : Option TagPair → List WrittenTag → List WrittenTag → ℕ
times_first a earlier [] = 0
times_first a earlier (w ∷ ws) = cond (wrote w.name earlier) 0 (once (same_name w.name a)) + times_first a (earlier ++ w ∷ []) ws

first_none : (earlier ws : List WrittenTag) → times_first none earlier ws ≡ 0
first_none earlier [] = refl
first_none earlier (w ∷ ws) = by_cases (wrote w.name earlier) (λ e. rw e (omega (arith, first_none (earlier ++ w ∷ []) ws))) (λ e. rw e (omega (arith, first_none (earlier ++ w ∷ []) ws)))

first_some : (t : TagPair) (earlier ws : List WrittenTag) → times_first (some t) earlier ws ≡ once (not (wrote t.name earlier) && wrote t.name ws)
first_some t earlier [] = rw and-false
first_some t earlier (w ∷ ws) =
    let n = t.name in
    let i : times_first (some t) (earlier ++ w ∷ []) ws ≡ once (not (wrote n earlier || (same n w.name || false)) && wrote n ws) =
    first_some t (earlier ++ w ∷ []) ws ∙ rw wrote_append in
    by_cases (same n w.name)
    (λ e.
    let z : times_first (some t) (earlier ++ w ∷ []) ws ≡ 0 = i ∙ rw (e, or-true) in
    let m : wrote w.name earlier ≡ wrote n earlier = ap (λ (l : List ℕ). wrote l earlier) (sym (same_is n w.name e)) in
    rw (z, m, same_flip w.name n, e) (now_first (wrote n earlier)))
    (λ e.
    let z : times_first (some t) (earlier ++ w ∷ []) ws ≡ once (not (wrote n earlier) && wrote n ws) = i ∙ rw (e, or-false) in
    rw (z, same_flip w.name n, e) (not_now (wrote w.name earlier) (once (not (wrote n earlier) && wrote n ws))))
  where
    now_first : (x : Bool) → cond x 0 1 + 0 ≡ once (not x && true)
    now_first true = refl
    now_first false = refl

    not_now : (x : Bool) (k : ℕ) → cond x 0 0 + k ≡ k
    not_now true k = zero-add k
    not_now false k = zero-add k

block_tags : (ts : List TagPair) (rs : List Remark) (ds : List Anchored) (earlier ws : List WrittenTag) (i : ℕ) (k : Remark) → get_elem? rs i ≡ some k
    → times (is_remark_line block i) (tags_lines ds (anchored_from ts 0 rs) earlier ws) ≡ times_first (anchor_of ts k.before) earlier ws
block_tags ts rs ds earlier [] i k h = refl
block_tags ts rs ds earlier (w ∷ ws) i k h =
    let e = remark_times block (is_under w.name) ts i 0 i rs k (omega arith) h in
    let first : times (is_remark_line block i) (remark_lines block (blocks_under (anchored_from ts 0 rs) earlier w)) ≡ cond (wrote w.name earlier) 0 (once (same_name w.name (anchor_of ts k.before))) =
    by_cases (wrote w.name earlier) (λ x. rw x) (λ x. rw x e) in
    omega (
      arith,
      times_tags (is_remark_line block i) ds (anchored_from ts 0 rs) earlier ws w,
      times_data (is_remark_line block i) w.lines (λ d. refl),
      times_never (is_remark_line block i) directive (directives_under ds earlier w ws) (λ j x. refl),
      first,
      block_tags ts rs ds (earlier ++ w ∷ []) ws i k h,
    )

-- A test is met, or it is not.
pub one_of : (x : Bool) → once x + once (not x) ≡ 1
one_of true = refl
one_of false = refl

-- A directive goes before every tag, or after one of them, or to the end.
pub one_place : (ws : List WrittenTag) (d : Anchored) → once (is_leading d) + (times_placed d.anchor [] ws + once (tag_unwritten ws d)) ≡ 1
one_place ws d = by_anchor d.number d.bytes d.anchor
  where
    by_anchor : (i : ℕ) (x : List ℕ) (a : Option TagPair) → once (is_leading (record { number = i; bytes = x; anchor = a })) + (times_placed a [] ws + once (unwritten ws a)) ≡ 1
    by_anchor i x none = rw (placed_none [] ws)
    by_anchor i x (some t) = rw (placed_some t ws, zero-add) (one_of (wrote t.name ws))

pub directive_times : (ts : List TagPair) (rs : List Remark) (ks : List Anchored) (ws : List WrittenTag) (i : ℕ) (k : Remark) → get_elem? rs i ≡ some k
    → times (is_remark_line directive i) (all_lines (anchored_from ts 0 rs) ks ws) ≡ 1
directive_times ts rs ks ws i k h =
    omega (
      arith,
      times_all (is_remark_line directive i) (anchored_from ts 0 rs) ks ws,
      remark_times directive is_leading ts i 0 i rs k (omega arith) h,
      times_never (is_remark_line directive i) block (those is_leading ks) (λ j x. refl),
      directive_tags ts rs ks [] ws i k h,
      times_never (is_remark_line directive i) block (those (tag_unwritten ws) ks) (λ j x. refl),
      remark_times directive (tag_unwritten ws) ts i 0 i rs k (omega arith) h,
      one_place ws (numbered ts i k),
    )

pub block_times : (ts : List TagPair) (rs : List Remark) (ds : List Anchored) (ws : List WrittenTag) (i : ℕ) (k : Remark) → get_elem? rs i ≡ some k
    → times (is_remark_line block i) (all_lines ds (anchored_from ts 0 rs) ws) ≡ 1
block_times ts rs ds ws i k h =
    omega (
      arith,
      times_all (is_remark_line block i) ds (anchored_from ts 0 rs) ws,
      remark_times block is_leading ts i 0 i rs k (omega arith) h,
      times_never (is_remark_line block i) directive (those is_leading ds) (λ j x. refl),
      block_tags ts rs ds [] ws i k h,
      times_never (is_remark_line block i) directive (those (tag_unwritten ws) ds) (λ j x. refl),
      remark_times block (tag_unwritten ws) ts i 0 i rs k (omega arith) h,
      all_one (anchor_of ts k.before),
    )
  where
    all_one : (a : Option TagPair) → once (is_leading (record { number = i; bytes = k.bytes; anchor = a })) + (times_first a [] ws + once (unwritten ws a)) ≡ 1
    all_one none = rw (first_none [] ws)
    all_one (some t) = rw (first_some t [] ws, zero-add) (one_of (wrote t.name ws))
