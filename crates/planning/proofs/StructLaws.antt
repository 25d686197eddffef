-- Laws of slips as structs: what is stored in them is stored in their numbers, and so the plan with structs is the plan with numbers.
use Prim.Native.Nat.{ℕ, zero, suc, ◌+◌, ◌*◌, ◌≤◌, ◌<◌}
use mathlib.Core.Path.{◌≡◌, refl, sym, ap, ◌∙◌, subst}
use mathlib.Core.Bool.{Bool}
use mathlib.Core.List.{List, [], ◌∷◌}
use native.Mathlib.Omega.{arith}
use lib.ListN.{length, set, replicate}
use borrow.Author.Tests.{le-leb, lt-leb}
use Rattle.std.specs.Prelude.{is_ok}
use Rattle.std.proofs.lemmas.List.Edits.{sets}
use Rattle.tables.specs.declared.letters.Conventions.{Conventions}
use Rattle.reader.specs.Store.{put, lent}
use Rattle.planning.specs.declared.slips.Slip.{Slip}
use Rattle.planning.specs.Slips.{slips_of, five_of, slip_numbers}
use Rattle.planning.specs.Plans.{Boxes, Planning, plans_of, planning_of, BoxesAfter}
use Rattle.planning.specs.Demands.{SamePlan}

pub numbers_length : (slips : List Slip) → length (slip_numbers slips) ≡ 5 * length slips
unfolding slip_numbers
numbers_length [] = refl
numbers_length (s ∷ ss) = omega (arith, numbers_length ss)

-- Structs of zeros.
abbrev pub no_slip : Slip
no_slip = record { position = 0; north = 0; east = 0; south = 0; west = 0 }

pub none_numbers : (n : ℕ) → slip_numbers (replicate n no_slip) ≡ replicate (5 * n) 0
unfolding slip_numbers
none_numbers zero = refl
none_numbers (suc n) =
    let e : 5 * suc n ≡ suc (suc (suc (suc (suc (5 * n))))) = omega arith in
    rw (e, none_numbers n)

set_numbers : (ss : List Slip) (n : ℕ) (s : Slip) → n < length ss → sets (slip_numbers ss) (5 * n) (five_of s) ≡ slip_numbers (set ss n s)
unfolding slip_numbers
set_numbers [] n s h = absurd (omega arith)
set_numbers (x ∷ ss) zero s h = refl
set_numbers (x ∷ ss) (suc n) s h =
    let e : 5 * suc n ≡ suc (suc (suc (suc (suc (5 * n))))) = omega arith in
    rw (e, set_numbers ss n s (omega arith))

-- A slip stored, or one for which there is no room.
pub slip_put : (ss : List Slip) (n : ℕ) (s : Slip) → n < length ss → slip_numbers (set ss n s) ≡ put 5 (slip_numbers ss) n (five_of s)
unfolding put
slip_put ss n s h =
    let l : 5 * n + 5 ≤ length (slip_numbers ss) = omega (arith, numbers_length ss) in
    rw (le-leb _ _ l) (sym (set_numbers ss n s h))

pub slip_full : (ss : List Slip) (n : ℕ) (s : Slip) → length ss ≤ n → slip_numbers ss ≡ put 5 (slip_numbers ss) n (five_of s)
unfolding put
slip_full ss n s h =
    let l : length (slip_numbers ss) < 5 * n + 5 = omega (arith, numbers_length ss) in
    rw (lt-leb _ _ l)

boxes_same : {c : Conventions} {well : Bool} {old new : List ℕ} {boxes boxes₁ boxes₂ : Boxes} → BoxesAfter c well old new boxes boxes₁ → BoxesAfter c well old new boxes boxes₂ → boxes₁ ≡ boxes₂
boxes_same {boxes₁ = b} p q = λ i.
    record {
      old_cards = (p.old_cards ∙ sym q.old_cards) i;
      old_entries = (p.old_entries ∙ sym q.old_entries) i;
      new_cards = (p.new_cards ∙ sym q.new_cards) i;
      new_entries = (p.new_entries ∙ sym q.new_entries) i;
    }

-- Nothing cites it: it says that the two are one.
pub the_same_plan : SamePlan
the_same_plan c old new boxes numbers slips boxes₁ boxes₂ numbers' slips' r₁ r₂ e p q =
    let js = slips_of (plans_of c old new) in
    let n : length numbers ≡ length (slip_numbers slips) = e ∙ sym (numbers_length slips) in
    let same : r₁ ≡ r₂ = p.answer ∙ ap (planning_of c old new boxes) n ∙ sym q.answer in
    let b : BoxesAfter c (is_ok r₂) old new boxes boxes₁ = subst (λ (r : Planning). BoxesAfter c (is_ok r) old new boxes boxes₁) same p.boxes_left in
    (same, boxes_same b q.boxes_left, p.slips_after ∙ ap (λ (r : Planning). lent (is_ok r) (length numbers) js) same ∙ ap (λ (k : ℕ). lent (is_ok r₂) k js) n ∙ sym q.slips_after)
