-- What golavimes_plan lists: exactly the unsolved deals, each once, and inside the stretch alone.
use Prim.Native.Nat.{ℕ}
use mathlib.Core.Path.{◌≡◌, refl, sym, ap, ◌∙◌}
use mathlib.Core.List.{List, [], ◌∷◌, ◌++◌}
use native.Mathlib.Omega.{arith}
use lib.ListN.{length, get_or}
use Rattle.tables.specs.declared.letters.Conventions.{Conventions}
use Rattle.reader.specs.declared.edition.ReadRefusal.{ReadRefusal}
use Rattle.reader.specs.declared.edition.ReadRefusal.TheVariants.{Overlong, BoxFull, ListFull}
use Rattle.planning.specs.declared.plan.PlanRefusal.TheVariants.{Edition, SlipsShort}
use Rattle.planning.specs.declared.plan.Totals.{Totals}
use Rattle.reader.specs.Editions.{read_number}
use Rattle.planning.specs.Plans.{Boxes, planning_of, IsPlanned, Planning}
use Rattle.demands.proofs.Listed.{listed_exactly_once}
use Rattle.demands.proofs.Inside.{listed_inside}
use Rattle.golavimes.specs.Answers.{plan_numbers, PlanOut}
use Rattle.demands.specs.Demand1.{Refusal}
use Rattle.demands.specs.Demand3.{PlannedWhenTaken, ListedExactly, OneSlip, RestZero, InsideAlone}
use Rattle.demands.proofs.Refusing.{Met, nothing, this, later, plan_met}
use Rattle.std.specs.Prelude.{Ok, Err}

-- ---- both taken, and slips enough

-- A refusal that is not said is not met, and one that is not met leaves those behind it.
record Past (answer : List ℕ) (f : Refusal) (fs : List Refusal) : Type 1 where
  not_met : f.when → ⊥
  behind : Met answer fs

past_number : {answer : List ℕ} {f : Refusal} {fs : List Refusal} → (get_or answer 0 0 ≡ f.number → ⊥) → Met answer (f ∷ fs) → Past answer f fs
past_number h (this w s) = absurd (h s.number_said)
past_number h (later w m) = record { not_met = w; behind = m }

past_when : {answer : List ℕ} {f : Refusal} {fs : List Refusal} → (f.when → ⊥) → Met answer (f ∷ fs) → Met answer fs
past_when h (this w s) = absurd (h w)
past_when h (later w m) = m

met_none : {answer : List ℕ} → Met answer [] → get_or answer 0 0 ≡ 0
met_none (nothing s) = s.number_said

pub planned_when_taken : PlannedWhenTaken
planned_when_taken c old new boxes slips boxes' slips' answer' r o =
    let m = plan_met c old new boxes slips answer' o.told in (
      λ z.
          let e : get_or answer' 0 0 ≡ 0 = sym o.returned ∙ z in
          let a = past_number (λ x. omega arith) m in
          let b = past_number (λ x. omega arith) a.behind in
          let d = past_number (λ x. omega arith) b.behind in
          let f = past_number (λ x. omega arith) d.behind in
          let g = past_number (λ x. omega arith) f.behind in
          let h = past_number (λ x. omega arith) g.behind in
          let i = past_number (λ x. omega arith) h.behind in
          record {
            old_taken = record { not_overlong = a.not_met; box_not_full = b.not_met; list_not_full = d.not_met };
            new_taken = record { not_overlong = f.not_met; box_not_full = g.not_met; list_not_full = h.not_met };
            slips_enough = i.not_met;
          },
      λ p.
          o.returned
          ∙ met_none
          (past_when p.slips_enough
          (past_when p.new_taken.list_not_full
          (past_when p.new_taken.box_not_full
          (past_when p.new_taken.not_overlong
          (past_when p.old_taken.list_not_full
          (past_when p.old_taken.box_not_full
          (past_when p.old_taken.not_overlong m))))))),
    )

-- ---- what is listed

-- No refusal's number is 0.
pub read_number_lem : (f : ReadRefusal) → read_number f ≡ 0 → ⊥
read_number_lem (Overlong n) e = omega arith
read_number_lem (BoxFull n) e = omega arith
read_number_lem (ListFull n) e = omega arith

-- The answer that begins with 0 is a list, with its totals.
pub record HasTotals (p : Planning) : Type 0 where
  pub totals : Totals
  pub is : p ≡ Ok totals

listed_zero : (p : Planning) → get_or (plan_numbers p) 0 0 ≡ 0 → HasTotals p
listed_zero (Ok t) e = record { totals = t; is = refl }
listed_zero (Err (Edition f)) e = absurd (read_number_lem f.refusal e)
listed_zero (Err (SlipsShort n)) e = absurd (omega arith)

-- What was promised of planning itself, and the boards to solve in the answer.
pub record Promised (c : Conventions) (old new : List ℕ) (boxes : Boxes) (slips : List ℕ) (boxes' : Boxes) (slips' answer' : List ℕ) : Type 0 where
  pub totals : Totals
  pub planned : IsPlanned c old new boxes slips boxes' slips' (Ok totals)
  pub solve_told : get_or answer' 9 0 ≡ totals.solve
  pub boards_told : get_or answer' 3 0 ≡ totals.boards

pub promised : (c : Conventions) (old new : List ℕ) (boxes : Boxes) (slips : List ℕ) (boxes' : Boxes) (slips' answer' : List ℕ)
    → PlanOut c old new boxes slips boxes' slips' answer' 0 → Promised c old new boxes slips boxes' slips' answer'
promised c old new boxes slips boxes' slips' answer' o =
    let p = planning_of c old new boxes (length slips) in
    let l = listed_zero p (sym (ap (λ (a : List ℕ). get_or a 0 0) o.told) ∙ sym o.returned) in
    record {
      totals = l.totals;
      planned = record { answer = sym l.is; boxes_left = rw l.is at o.boxes_left; slips_after = rw l.is at o.slips_after };
      solve_told = ap (λ (a : List ℕ). get_or a 9 0) (o.told ∙ ap plan_numbers l.is);
      boards_told = ap (λ (a : List ℕ). get_or a 3 0) (o.told ∙ ap plan_numbers l.is);
    }

pub listed_exactly : ListedExactly
listed_exactly c old new boxes slips boxes' slips' answer' o h =
    let p = promised c old new boxes slips boxes' slips' answer' o in
    rw p.solve_told ((listed_exactly_once c old new boxes slips boxes' slips' p.totals p.planned).exactly h)

pub one_slip : OneSlip
one_slip c old new boxes slips boxes' slips' answer' o h j k lj lk a b =
    let p = promised c old new boxes slips boxes' slips' answer' o in
    (listed_exactly_once c old new boxes slips boxes' slips' p.totals p.planned).once h j k (rw p.solve_told at lj) (rw p.solve_told at lk) a b

pub rest_zero : RestZero
rest_zero c old new boxes slips boxes' slips' answer' o =
    let p = promised c old new boxes slips boxes' slips' answer' o in
    rw p.solve_told (listed_exactly_once c old new boxes slips boxes' slips' p.totals p.planned).rest_zero

pub inside_alone : InsideAlone
inside_alone c front middle middle' back boxes slips boxes' slips' answer' al o solved h l =
    let p = promised c (front ++ (middle ++ back)) (front ++ (middle' ++ back)) boxes slips boxes' slips' answer' o in
    listed_inside c front middle middle' back boxes slips boxes' slips' p.totals al p.planned solved h (rw p.solve_told at l)
