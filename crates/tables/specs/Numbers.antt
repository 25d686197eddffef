-- Numbers in a text: an optional `+`, then one or more digits and no more, within a limit. Signed ones also take `-`.
use Rattle.std.specs.Prelude.{ℕ, zero, suc, ◌+◌, ◌-◌, ◌*◌, ◌/◌, ◌%◌, List, [], ◌∷◌, cond, ltb, eqb, Option, Some, None}

-- A number, where the text is one.
abbrev pub Number : Type 0
Number = Option ℕ

-- Digits, 0 to 9 (48 to 57), behind the number v; above the limit is no number.
abbrev pub digits_from : ℕ → List ℕ → ℕ → Number
digits_from limit [] v = Some v
digits_from limit (b ∷ bs) v =
    cond (ltb b 48) None
    (cond (ltb 57 b) None
    (cond (ltb limit (v * 10 + (b - 48))) None (digits_from limit bs (v * 10 + (b - 48)))))

-- One or more digits.
abbrev pub some_digits : ℕ → List ℕ → Number
some_digits limit [] = None
some_digits limit (b ∷ bs) = digits_from limit (b ∷ bs) 0

-- A number from 0 to the limit; `+` (43) may stand before it.
abbrev pub number_of : ℕ → List ℕ → Number
number_of limit [] = None
number_of limit (b ∷ bs) = cond (eqb b 43) (some_digits limit bs) (some_digits limit (b ∷ bs))

abbrev pub raised : ℕ → Number → Number
raised half None = None
raised half (Some v) = Some (half + v)

abbrev pub lowered : ℕ → Number → Number
lowered half None = None
lowered half (Some v) = Some (half - v)

-- A signed number from -half to half - 1, given as the number plus half; `-` (45) or `+` may stand before it.
abbrev pub signed_of : ℕ → List ℕ → Number
signed_of half [] = None
signed_of half (b ∷ bs) = cond (eqb b 45) (lowered half (some_digits half bs)) (raised half (number_of (half - 1) (b ∷ bs)))

-- The decimal digits (0 is 48) of n before acc, at most f + 1 of them.
unfoldable pub digits : ℕ → ℕ → List ℕ → List ℕ
digits zero n acc = (48 + n % 10) ∷ acc
digits (suc f) n acc = cond (ltb n 10) ((48 + n % 10) ∷ acc) (digits f (n / 10) ((48 + n % 10) ∷ acc))

-- A number below 2 ^ 32 in decimal, without leading zeros.
unfoldable pub decimal : ℕ → List ℕ
decimal n = digits 9 n []
