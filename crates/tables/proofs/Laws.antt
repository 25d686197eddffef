-- Laws that the proofs of functions share.
use Prim.Native.Nat.{ℕ, ◌+◌, ◌-◌, ◌≤◌, ◌<◌}
use mathlib.Core.Path.{◌≡◌, refl, sym, ◌∙◌}
use mathlib.Core.Bool.{Bool, true, false, ◌&&◌, ◌||◌, false≢true}
use mathlib.Core.List.{List, [], ◌∷◌}
use native.Mathlib.Nat.{le_of_eq}
use native.Mathlib.Numerals.{add-one}
use lib.ListN.{length, drop, take, get_or, length-drop, drop_of_length-le}
use lib.Dec.{eqb}
use lib.Seq.{drop-cons, take_all}
use borrow.Author.Tests.{eqb-true, eqb-false}

-- One turn of a loop over a list: what is left is its first element and the rest.
pub step : (s : List ℕ) (i : ℕ) → i < length s → drop i s ≡ get_or s i 0 ∷ drop (i + 1) s
step s i h = rw (add-one, drop-cons s i 0)

-- The loop's end: nothing is left.
pub stop : (s : List ℕ) (i : ℕ) → length s ≤ i → drop i s ≡ []
stop s i h = drop_of_length-le s h

-- What `&s[a..]` is.
pub rest : (s : List ℕ) (a : ℕ) → take (length s - a) (drop a s) ≡ drop a s
rest s a = take_all _ _ (le_of_eq (length-drop a s))

-- What `is_empty` says.
pub is_empty_yes : (s : List ℕ) {r : Bool} → r ≡ eqb (length s) 0 → r ≡ true → length s ≡ 0
is_empty_yes s e t = eqb-true (length s) 0 (sym e ∙ t)

pub is_empty_no : (s : List ℕ) {r : Bool} → r ≡ eqb (length s) 0 → r ≡ false → length s ≡ 0 → ⊥
is_empty_no s e t = eqb-false (length s) 0 (sym e ∙ t)

-- A case for each value of a test, with its equation.
pub by_cases : {P : Type 0} (b : Bool) → (b ≡ true → P) → (b ≡ false → P) → P
by_cases true f g = f refl
by_cases false f g = g refl

pub clash : {C : Type 0} → false ≡ true → C
clash e = absurd (false≢true e)

pub both : (a b : Bool) → (a && b) ≡ true → (a ≡ true) × (b ≡ true)
both true b e = (refl, e)
both false b e = (cc, cc)

pub either : {P : Type 0} (a b : Bool) → (a || b) ≡ true → (a ≡ true → P) → (b ≡ true → P) → P
either true b e f g = f refl
either false b e f g = g e

pub neither : (a b : Bool) → (a || b) ≡ false → (a ≡ false) × (b ≡ false)
neither true b e = (cc, cc)
neither false b e = (refl, e)
