-- Totals add up.
use Prim.Native.Nat.{ℕ, suc, ◌+◌}
use mathlib.Core.Path.{◌≡◌, ◌∙◌, ap}
use mathlib.Core.Bool.{cond}
use mathlib.Core.List.{List, [], ◌∷◌}
use native.Mathlib.Omega.{arith}
use lib.Dec.{eqb}
use lib.ListN.{length}
use Rattle.planning.proofs.SlipLaws.{slips_count}
use Rattle.planning.specs.declared.state.BoardState.{BoardState}
use Rattle.planning.specs.declared.state.BoardState.TheVariants.{Blank, Own, Old, Near, Twin, Solve}
use Rattle.planning.specs.States.{BoardPlan, state_number}
use Rattle.planning.specs.Slips.{count_of, totals_of}
use Rattle.planning.specs.Demands.{TotalsAddUp}

-- How one board counts.
one : (s : BoardState) (a b d e f g : ℕ) →
    suc (a + b + d + e + f + g)
    ≡ cond (eqb (state_number s) 0) (a + 1) a
    + cond (eqb (state_number s) 1) (b + 1) b
    + cond (eqb (state_number s) 2) (d + 1) d
    + cond (eqb (state_number s) 3) (e + 1) e
    + cond (eqb (state_number s) 4) (f + 1) f
    + cond (eqb (state_number s) 5) (g + 1) g
one Blank a b d e f g = omega arith
one Own a b d e f g = omega arith
one (Old k) a b d e f g = omega arith
one (Near k) a b d e f g = omega arith
one (Twin k) a b d e f g = omega arith
one Solve a b d e f g = omega arith

sum_is : (js : List BoardPlan) → length js ≡ count_of 0 js + count_of 1 js + count_of 2 js + count_of 3 js + count_of 4 js + count_of 5 js
sum_is [] = omega arith
sum_is (j ∷ js) = ap suc (sum_is js) ∙ one j.state (count_of 0 js) (count_of 1 js) (count_of 2 js) (count_of 3 js) (count_of 4 js) (count_of 5 js)

pub totals_add_up : TotalsAddUp
unfolding totals_of
totals_add_up js = record { sum = sum_is js; slips = slips_count js }
