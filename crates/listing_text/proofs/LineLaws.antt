-- Laws of the lines of a listing.
use Prim.Native.Nat.{ℕ, ◌+◌, ◌*◌, ◌≤◌, ◌<◌}
use mathlib.Core.Bool.{Bool, true, false, cond}
use mathlib.Core.List.{List, [], ◌∷◌, ◌++◌}
use native.Mathlib.Nat.{le_trans}
use native.Mathlib.Omega.{arith}
use lib.Dec.{eqb}
use lib.ListN.{length, length-append}
use Rattle.tables.specs.Text.{ascii}
use Rattle.tables.specs.Numbers.{decimal}
use Rattle.tables.proofs.PageLaws.{decimal_few}
use Rattle.reader.specs.declared.edition.ReadRefusal.{ReadRefusal}
use Rattle.reader.specs.declared.edition.ReadRefusal.TheVariants.{Overlong, BoxFull, ListFull}
use Rattle.reader.specs.Editions.{read_number}
use Rattle.planning.specs.declared.state.BoardState.{BoardState}
use Rattle.planning.specs.declared.state.BoardState.TheVariants as state
use Rattle.planning.specs.declared.plan.PlanRefusal.{PlanRefusal}
use Rattle.planning.specs.declared.plan.PlanRefusal.TheVariants.{Edition, SlipsShort}
use Rattle.planning.specs.declared.plan.Totals.{Totals}
use Rattle.planning.specs.States.{BoardPlan, from_of}
use Rattle.planning.specs.Plans.{plan_number, plan_edition}
use Rattle.listing_text.specs.Listing.{pair, state_text, board_line, listing_lines, total_line, refused_line}

read_low : (f : ReadRefusal) → read_number f < 4294967296
read_low (Overlong n) = omega arith
read_low (BoxFull n) = omega arith
read_low (ListFull n) = omega arith

pub number_low : (f : PlanRefusal) → plan_number f < 4294967296
number_low (Edition f) = read_low f.refusal
number_low (SlipsShort n) = omega arith

-- ---- how long a line is

pub few : (xs ys : List ℕ) (a b : ℕ) → length xs ≤ a → length ys ≤ b → length (xs ++ ys) ≤ a + b
few xs ys a b h g = rw (length-append xs ys) (omega arith)

pair_few : (name : List ℕ) (n : ℕ) → length (pair name n) ≤ length name + 10
pair_few name n = few name (decimal n) (length name) 10 (omega arith) (decimal_few n)

state_few : (s : BoardState) → length (state_text s) ≤ 12
unfolding state_text
state_few state.Blank = omega arith
state_few state.Own = omega arith
state_few (state.Old k) = omega arith
state_few (state.Near k) = omega arith
state_few (state.Twin k) = omega arith
state_few state.Solve = omega arith

-- A text and a pair behind it.
then_pair : (xs name : List ℕ) (n a : ℕ) → length xs ≤ a → length (xs ++ pair name n) ≤ a + (length name + 10)
then_pair xs name n a h = few xs (pair name n) a (length name + 10) h (pair_few name n)

-- A text and the end of its line.
then_end : (xs : List ℕ) (a : ℕ) → length xs ≤ a → length (xs ++ (10 ∷ [])) ≤ a + 1
then_end xs a h = few xs (10 ∷ []) a 1 h (omega arith)

pub board_few : (p : ℕ) (s : BoardState) → length (board_line p s) ≤ 60
unfolding board_line
board_few p s =
    let x₁ : List ℕ = pair (ascii "board=") p in
    let x₂ : List ℕ = x₁ ++ state_text s in
    let x₃ : List ℕ = x₂ ++ pair (ascii " from=") (from_of s) in
    let h₁ : length x₁ ≤ 16 = pair_few (ascii "board=") p in
    let h₂ : length x₂ ≤ 28 = few x₁ (state_text s) 16 12 h₁ (state_few s) in
    let h₃ : length x₃ ≤ 44 = then_pair x₂ (ascii " from=") (from_of s) 28 h₂ in
    let h₄ : length (x₃ ++ (10 ∷ [])) ≤ 45 = then_end x₃ 44 h₃ in
    le_trans h₄ (omega arith)

pub total_few : (t : Totals) → length (total_line t) ≤ 200
unfolding total_line
total_few t =
    let x₁ : List ℕ = pair (ascii "total=") t.boards in
    let x₂ : List ℕ = x₁ ++ pair (ascii " blank=") t.blank in
    let x₃ : List ℕ = x₂ ++ pair (ascii " own=") t.own in
    let x₄ : List ℕ = x₃ ++ pair (ascii " old=") t.old in
    let x₅ : List ℕ = x₄ ++ pair (ascii " near=") t.near in
    let x₆ : List ℕ = x₅ ++ pair (ascii " twin=") t.twin in
    let x₇ : List ℕ = x₆ ++ pair (ascii " solve=") t.solve in
    let h₁ : length x₁ ≤ 16 = pair_few (ascii "total=") t.boards in
    let h₂ : length x₂ ≤ 33 = then_pair x₁ (ascii " blank=") t.blank 16 h₁ in
    let h₃ : length x₃ ≤ 48 = then_pair x₂ (ascii " own=") t.own 33 h₂ in
    let h₄ : length x₄ ≤ 63 = then_pair x₃ (ascii " old=") t.old 48 h₃ in
    let h₅ : length x₅ ≤ 79 = then_pair x₄ (ascii " near=") t.near 63 h₄ in
    let h₆ : length x₆ ≤ 95 = then_pair x₅ (ascii " twin=") t.twin 79 h₅ in
    let h₇ : length x₇ ≤ 112 = then_pair x₆ (ascii " solve=") t.solve 95 h₆ in
    let h₈ : length (x₇ ++ (10 ∷ [])) ≤ 113 = then_end x₇ 112 h₇ in
    le_trans h₈ (omega arith)

edition_few : (b : Bool) → length (cond b (ascii "old") (ascii "new")) ≤ 3
edition_few true = omega arith
edition_few false = omega arith

pub refused_few : (f : PlanRefusal) → length (refused_line f) ≤ 100
unfolding refused_line
refused_few f =
    let word : List ℕ = cond (eqb (plan_edition f) 1) (ascii "old") (ascii "new") in
    let x₁ : List ℕ = pair (ascii "refused=") (plan_number f) in
    let x₂ : List ℕ = x₁ ++ ascii " edition=" in
    let x₃ : List ℕ = x₂ ++ word in
    let h₁ : length x₁ ≤ 18 = pair_few (ascii "refused=") (plan_number f) in
    let h₂ : length x₂ ≤ 27 = few x₁ (ascii " edition=") 18 9 h₁ (omega arith) in
    let h₃ : length x₃ ≤ 30 = few x₂ word 27 3 h₂ (edition_few (eqb (plan_edition f) 1)) in
    let h₄ : length (x₃ ++ (10 ∷ [])) ≤ 31 = then_end x₃ 30 h₃ in
    le_trans h₄ (omega arith)

-- THEOREM. The lines of boards have at most 60 bytes each.
pub LinesFew : (js : List BoardPlan) → length (listing_lines js) ≤ 60 * length js
LinesFew [] = omega arith
LinesFew (j ∷ js) = omega (arith, few (board_line j.position j.state) (listing_lines js) 60 (60 * length js) (board_few j.position j.state) (LinesFew js))
