-- Laws of the written tag after which a directive goes.
use Prim.Native.Nat.{ℕ, suc, ◌+◌, ◌≤◌, ◌<◌}
use mathlib.Core.Path.{◌≡◌, refl, sym, ap, ◌∙◌}
use mathlib.Core.Bool.{Bool, true, false, cond, ◌&&◌, ◌||◌, not, not-not}
use mathlib.Core.List.{List, [], ◌∷◌, ◌++◌, append-nil, append_assoc}
use mathlib.Core.Option.{Option, none, some}
use native.Mathlib.Nat.{zero-add}
use native.Mathlib.Omega.{arith}
use lib.Dec.{eqb, ltb}
use lib.ListN.{length, length-append}
use borrow.Author.Tests.{eq-eqb, ne_eqb, lt-ltb, le-ltb, eqb-true, eqb-false}
use Rattle.tables.proofs.Laws.{by_cases, neither, clash}
use Rattle.reader.specs.Words.{same}
use Rattle.reader.specs.Plain.{TagPair}
use Rattle.reader.proofs.WordLaws.{same_self, same_is}
use Rattle.writer.specs.Tags.{WrittenTag}
use Rattle.writer.specs.Remarks.{wrote, of_name, of_name_and_value, first_meeting, place_of, goes_to}
use Rattle.writer.proofs.NamesOnce.{once}

-- ---- the first tag that meets a test

-- One of the tags meets it.
abbrev pub meets : (WrittenTag → Bool) → List WrittenTag → Bool
meets p [] = false
meets p (w ∷ ws) = p w || meets p ws

pub meets_append : (p : WrittenTag → Bool) (ws vs : List WrittenTag) → meets p (ws ++ vs) ≡ (meets p ws || meets p vs)
meets_append p [] vs = refl
meets_append p (w ∷ ws) vs = by_cases (p w) (λ e. rw e) (λ e. rw e (meets_append p ws vs))

pub meets_name : (t : TagPair) (ws : List WrittenTag) → meets (of_name t) ws ≡ wrote t.name ws
meets_name t [] = refl
meets_name t (w ∷ ws) = rw (meets_name t ws)

pub first_most : (p : WrittenTag → Bool) (ws : List WrittenTag) → first_meeting p ws ≤ length ws
first_most p [] = omega arith
first_most p (w ∷ ws) = by_cases (p w) (λ e. rw e (omega arith)) (λ e. rw e (omega (arith, first_most p ws)))

pub first_none : (p : WrittenTag → Bool) (ws : List WrittenTag) → meets p ws ≡ false → first_meeting p ws ≡ length ws
first_none p [] e = refl
first_none p (w ∷ ws) e =
    let h = neither (p w) (meets p ws) e in
    rw h.0 (ap suc (first_none p ws h.1))

pub first_met : (p : WrittenTag → Bool) (ws : List WrittenTag) → meets p ws ≡ true → first_meeting p ws < length ws
first_met p [] e = let z : ◌≡◌ {A = ℕ} 0 1 = cc in absurd (omega arith)
first_met p (w ∷ ws) e = by_cases (p w) (λ x. rw x (omega arith)) (λ x. rw x (omega (arith, first_met p ws (rw x at e))))

pub met_less : (p : WrittenTag → Bool) (ws : List WrittenTag) → ltb (first_meeting p ws) (length ws) ≡ meets p ws
met_less p ws =
    by_cases (meets p ws)
    (λ e. lt-ltb _ _ (first_met p ws e) ∙ sym e)
    (λ e. rw (first_none p ws e) (le-ltb (length ws) (length ws) (omega arith) ∙ sym e))

-- It is the tag w exactly where w meets it and none before does.
pub first_at : (p : WrittenTag → Bool) (earlier : List WrittenTag) (w : WrittenTag) (later : List WrittenTag)
    → eqb (first_meeting p (earlier ++ w ∷ later)) (length earlier) ≡ (p w && not (meets p earlier))
first_at p [] w later = by_cases (p w) (λ e. rw e) (λ e. rw e (ne_eqb (suc (first_meeting p later)) 0 (λ z. omega (arith, z))))
first_at p (v ∷ earlier) w later =
    by_cases (p v)
    (λ e. rw e (ne_eqb 0 (suc (length earlier)) (λ z. omega (arith, z)) ∙ by_cases (p w) (λ x. rw x) (λ x. rw x)))
    (λ e. rw e (eqb_suc (first_meeting p (earlier ++ w ∷ later)) (length earlier) ∙ first_at p earlier w later))
  where
    eqb_suc : (m n : ℕ) → eqb (suc m) (suc n) ≡ eqb m n
    eqb_suc m n =
        by_cases (eqb m n)
        (λ e. eq-eqb (suc m) (suc n) (ap suc (eqb-true m n e)) ∙ sym e)
        (λ e. ne_eqb (suc m) (suc n) (λ z. eqb-false m n e (omega (arith, z))) ∙ sym e)

-- ---- where a directive goes

pub place_most : (ws : List WrittenTag) (t : TagPair) → place_of ws t ≤ length ws
unfolding place_of
place_most ws t =
    by_cases (ltb (first_meeting (of_name_and_value t) ws) (length ws))
    (λ e. rw e (first_most (of_name_and_value t) ws))
    (λ e. rw e (first_most (of_name t) ws))

-- After w: where w is the first of that name and value; where none has both, the first of that name.
pub goes_at : (t : TagPair) (earlier : List WrittenTag) (w : WrittenTag) (later : List WrittenTag)
    → eqb (place_of (earlier ++ w ∷ later) t) (length earlier)
    ≡ cond (meets (of_name_and_value t) (earlier ++ w ∷ later)) (of_name_and_value t w && not (meets (of_name_and_value t) earlier)) (of_name t w && not (meets (of_name t) earlier))
unfolding place_of
goes_at t earlier w later =
    by_cases (meets (of_name_and_value t) (earlier ++ w ∷ later))
    (λ e. rw (met_less (of_name_and_value t) (earlier ++ w ∷ later), e) (first_at (of_name_and_value t) earlier w later))
    (λ e. rw (met_less (of_name_and_value t) (earlier ++ w ∷ later), e) (first_at (of_name t) earlier w later))

-- A tag of that name and value has that name.
pub both_name : (t : TagPair) (ws : List WrittenTag) → meets (of_name t) ws ≡ false → meets (of_name_and_value t) ws ≡ false
both_name t [] e = refl
both_name t (w ∷ ws) e =
    let h = neither (of_name t w) (meets (of_name t) ws) e in
    rw (h.0, both_name t ws h.1)

-- To the board's end exactly where the name is not written.
pub place_end : (ws : List WrittenTag) (t : TagPair) → eqb (place_of ws t) (length ws) ≡ not (wrote t.name ws)
unfolding place_of
place_end ws t =
    by_cases (meets (of_name_and_value t) ws)
    (λ e.
    let n : meets (of_name t) ws ≡ true = by_cases (meets (of_name t) ws) (λ x. x) (λ x. clash (sym (both_name t ws x) ∙ e)) in
    let m = first_met (of_name_and_value t) ws e in
    rw (met_less (of_name_and_value t) ws, e, ← meets_name t ws, n) (ne_eqb (first_meeting (of_name_and_value t) ws) (length ws) (λ z. omega (arith, z, m))))
    (λ e.
    rw (met_less (of_name_and_value t) ws, e, ← meets_name t ws)
    (by_cases (meets (of_name t) ws)
    (λ x.
    let m = first_met (of_name t) ws x in
    rw x (ne_eqb (first_meeting (of_name t) ws) (length ws) (λ z. omega (arith, z, m))))
    (λ x. rw (x, first_none (of_name t) ws x) (eq-eqb (length ws) (length ws) refl))))

-- ---- a name that is written once

pub same_flip : (a b : List ℕ) → same a b ≡ same b a
same_flip a b =
    by_cases (same a b)
    (λ e. rw (same_is a b e))
    (λ e. by_cases (same b a) (λ f. clash (sym e ∙ rw (same_is b a f) (same_self a))) (λ f. e ∙ sym f))

-- Where no other tag has the name of the anchor, a directive goes after w exactly where w has it.
pub goes_alone : (t : TagPair) (earlier : List WrittenTag) (w : WrittenTag) (later : List WrittenTag)
    → (of_name t w ≡ true → (meets (of_name t) earlier ≡ false) × (meets (of_name t) later ≡ false))
    → eqb (place_of (earlier ++ w ∷ later) t) (length earlier) ≡ same w.name t.name
goes_alone t earlier w later h =
    goes_at t earlier w later
    ∙ by_cases (of_name t w)
    (λ e.
    let x = h e in
    rw (meets_append, both_name t earlier x.0, both_name t later x.1, x.0, e, same_flip w.name t.name, e)
    (by_cases (same t.value w.value) (λ v. rw v) (λ v. rw v)))
    (λ e.
    rw (e, same_flip w.name t.name, e)
    (by_cases (meets (of_name_and_value t) (earlier ++ w ∷ later)) (λ v. rw v) (λ v. rw v)))

-- ---- after how many tags

-- After how many tags a directive with the anchor a goes, earlier being those before them.
abbrev pub times_placed : Option TagPair → List WrittenTag → List WrittenTag → ℕ
times_placed a earlier [] = 0
times_placed a earlier (w ∷ ws) = once (goes_to (earlier ++ w ∷ ws) (length earlier) a) + times_placed a (earlier ++ w ∷ []) ws

pub placed_none : (earlier ws : List WrittenTag) → times_placed none earlier ws ≡ 0
placed_none earlier [] = refl
placed_none earlier (w ∷ ws) = omega (arith, placed_none (earlier ++ w ∷ []) ws)

-- Not after the tags behind that one.
placed_before : (t : TagPair) (earlier ws : List WrittenTag) → place_of (earlier ++ ws) t < length earlier → times_placed (some t) earlier ws ≡ 0
placed_before t earlier [] h = refl
placed_before t earlier (w ∷ ws) h =
    rw (ne_eqb (place_of (earlier ++ w ∷ ws) t) (length earlier) (λ e. omega arith), zero-add)
    (placed_before t (earlier ++ w ∷ []) ws (rw append_assoc (simp length-append (omega arith))))

-- Once after that one, if it is among the tags.
placed_once : (t : TagPair) (earlier ws : List WrittenTag) → length earlier ≤ place_of (earlier ++ ws) t
    → times_placed (some t) earlier ws ≡ once (not (eqb (place_of (earlier ++ ws) t) (length (earlier ++ ws))))
placed_once t earlier [] h =
    rw (append-nil earlier) (rw (eq-eqb (place_of earlier t) (length earlier) (omega (arith, place_most earlier t, rw (append-nil earlier) at h))))
placed_once t earlier (w ∷ ws) h =
    let p = place_of (earlier ++ w ∷ ws) t in
    let more : length earlier < length (earlier ++ w ∷ ws) = simp length-append (omega arith) in
    by_cases (eqb p (length earlier))
    (λ e.
    rw (e, ne_eqb p (length (earlier ++ w ∷ ws)) (λ x. omega (arith, eqb-true p (length earlier) e)))
    (omega (arith, placed_before t (earlier ++ w ∷ []) ws (rw append_assoc (simp length-append (omega (arith, eqb-true p (length earlier) e)))))))
    (λ e. rw (e, zero-add) (rw append_assoc at (placed_once t (earlier ++ w ∷ []) ws (rw append_assoc (simp length-append (omega (arith, eqb-false p (length earlier) e)))))))

-- Once, where its anchor's name is written.
pub placed_some : (t : TagPair) (ws : List WrittenTag) → times_placed (some t) [] ws ≡ once (wrote t.name ws)
placed_some t ws = placed_once t [] ws (omega arith) ∙ rw (place_end ws t, not-not)
