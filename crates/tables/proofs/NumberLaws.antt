-- Laws of numbers in a text.
use Prim.Native.Nat.{ℕ, zero, suc, ◌+◌, ◌-◌, ◌*◌, ◌/◌, ◌%◌, ◌^◌, ◌≤◌, ◌<◌}
use mathlib.Core.Path.{◌≡◌, refl, ap, ◌∙◌}
use mathlib.Core.Bool.{cond}
use mathlib.Core.List.{List, [], ◌∷◌}
use native.Mathlib.Omega.{arith}
use native.Mathlib.Nat.{pow-succ'}
use lib.Dec.{ltb, eqb}
use lib.ListN.{length, drop, get_or}
use borrow.Author.Tests.{ltb-true, ltb-false, le-ltb, ne_eqb}
use Rattle.std.specs.Prelude.{Some, None}
use Rattle.tables.specs.Numbers.{digits_from, some_digits, number_of, digits, decimal}
use Rattle.tables.proofs.Laws.{by_cases}

pub digits_none : (limit : ℕ) (s : List ℕ) → length s ≡ 0 → None ≡ some_digits limit s
digits_none limit [] e = refl
digits_none limit (b ∷ bs) e = absurd (omega arith)

-- Nothing cites it: it says the definition of what begins with a digit in full.
pub digits_some : (limit : ℕ) (s : List ℕ) → (length s ≡ 0 → ⊥) → digits_from limit s 0 ≡ some_digits limit s
digits_some limit [] e = absurd (e refl)
digits_some limit (b ∷ bs) e = refl

pub number_is : (limit : ℕ) (s : List ℕ) → number_of limit s ≡ cond (eqb (get_or s 0 0) 43) (some_digits limit (drop 1 s)) (some_digits limit s)
number_is limit [] = refl
number_is limit (b ∷ bs) = refl

-- A digit behind the number v, where the limit allows it.
digit_read : (limit v d : ℕ) (bs : List ℕ) → d < 10 → v * 10 + d ≤ limit → digits_from limit ((48 + d) ∷ bs) v ≡ digits_from limit bs (v * 10 + d)
digit_read limit v d bs hd h =
    let e : 48 + d - 48 ≡ d = omega arith in
    rw (le-ltb (48 + d) 48 (omega arith), le-ltb 57 (48 + d) (omega arith), e, le-ltb limit (v * 10 + d) h)

digits_read : (limit f n : ℕ) (acc : List ℕ) → n < 10 ^ suc f → n ≤ limit → digits_from limit (digits f n acc) 0 ≡ digits_from limit acc n
unfolding digits
digits_read limit zero n acc h l =
    let h' : n < 10 = h in
    let e : 0 * 10 + n % 10 ≡ n = omega arith in
    digit_read limit 0 (n % 10) acc (omega arith) (omega arith) ∙ ap (λ (k : ℕ). digits_from limit acc k) e
digits_read limit (suc f) n acc h l =
    let h' : n < 10 * 10 ^ suc f = rw pow-succ' at h in
    by_cases (ltb n 10)
    (λ t.
    let g = ltb-true n 10 t in
    let e : 0 * 10 + n % 10 ≡ n = omega arith in
    rw t (digit_read limit 0 (n % 10) acc (omega arith) (omega arith) ∙ ap (λ (k : ℕ). digits_from limit acc k) e))
    (λ t.
    let g = ltb-false n 10 t in
    let e : n / 10 * 10 + n % 10 ≡ n = omega arith in
    rw t (digits_read limit f (n / 10) ((48 + n % 10) ∷ acc) (omega arith) (omega arith) ∙ digit_read limit (n / 10) (n % 10) acc (omega arith) (omega arith) ∙ ap (λ (k : ℕ). digits_from limit acc k) e))

-- What is written in decimal begins with a digit.
pub record Starts (s : List ℕ) : Type 0 where
  pub first : ℕ
  pub others : List ℕ
  pub is : s ≡ first ∷ others
  pub low : 48 ≤ first
  pub high : first ≤ 57

digits_begin : (f n : ℕ) (acc : List ℕ) → Starts (digits f n acc)
unfolding digits
digits_begin zero n acc = record { first = 48 + n % 10; others = acc; is = refl; low = omega arith; high = omega arith }
digits_begin (suc f) n acc =
    by_cases (ltb n 10)
    (λ t. rw t (record { first = 48 + n % 10; others = acc; is = refl; low = omega arith; high = omega arith }))
    (λ t. rw t (digits_begin f (n / 10) ((48 + n % 10) ∷ acc)))

pub decimal_starts : (n : ℕ) → Starts (decimal n)
unfolding decimal
decimal_starts n = digits_begin 9 n []

number_digits : (limit : ℕ) (s : List ℕ) → Starts s → number_of limit s ≡ digits_from limit s 0
number_digits limit s t =
    let e = ne_eqb t.first 43 (λ k. omega (arith, t.low)) in
    rw (t.is, e)

-- A number that was written in decimal is read back, whatever the limit that it keeps.
pub DecimalBack : (limit n : ℕ) → n < 4294967296 → n ≤ limit → number_of limit (decimal n) ≡ Some n
unfolding decimal
DecimalBack limit n h l = number_digits limit (decimal n) (decimal_starts n) ∙ digits_read limit 9 n [] (omega arith) l
