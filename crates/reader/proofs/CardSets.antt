-- Sets of cards: bits of numbers, sums of powers of two, cards placed one after the other.
use Prim.Native.Nat.{ℕ, zero, suc, ◌+◌, ◌*◌, ◌/◌, ◌%◌, ◌^◌, ◌<◌, ◌≤◌}
use lib.Dec.{ltb, eqb, eqb-suc-suc}
use lib.ListN.{length}
use native.Mathlib.Nat.{div-eq_of_lt, mul_comm, mul_assoc, mul-add, mul-one, pow-succ', pow-zero, div-one, div-div-eq-div-mul, pow-le-pow_right, add-zero}
use Rattle.tables.specs.Letters.{every, among, distinct}
use borrow.Author.Tests.{lt-ltb, ltb-true, eqb-true, eqb-false, eq-eqb, ne_eqb, not-true}
use mathlib.Core.Path.{◌≡◌, refl, sym, ap, ◌∙◌}
use mathlib.Core.Bool.{Bool, true, false, cond, not, ◌&&◌, ◌||◌}
use mathlib.Core.List.{List, [], ◌∷◌, ◌++◌}
use native.Mathlib.Omega.{arith}
use lib.Count as Count
use Rattle.tables.proofs.Laws.{by_cases, both, clash}
use Rattle.std.specs.Prelude.{Some, None}
use Rattle.reader.specs.Deals.{bit, has, hand_bits, ones, card_count}
use Rattle.reader.specs.DealSteps.{HandRead, place}

-- ---- bits

-- What the code computes is the bit.
pub bit_is : (k x : ℕ) → x / 2 ^ k % 2 ≡ bit k x
bit_is zero x = rw (pow-zero, div-one)
bit_is (suc k) x = rw (pow-succ', ← div-div-eq-div-mul x 2 (2 ^ k)) (bit_is k (x / 2))

pub bit_small : (k x : ℕ) → bit k x ≤ 1
bit_small zero x = omega arith
bit_small (suc k) x = bit_small k (x / 2)

pub bit_off : (k x : ℕ) → has k x ≡ false → bit k x ≡ 0
unfolding has
bit_off k x e = omega (arith, bit_small k x, eqb-false (bit k x) 1 e)

pub bit_on : (k x : ℕ) → has k x ≡ true → bit k x ≡ 1
unfolding has
bit_on k x e = eqb-true (bit k x) 1 e

pub bit_zero : (k : ℕ) → bit k 0 ≡ 0
bit_zero zero = refl
bit_zero (suc k) = bit_zero k

-- A number below 2 ^ n has no bit from n on.
pub bit_high : (n k x : ℕ) → n ≤ k → x < 2 ^ n → bit k x ≡ 0
bit_high zero k x h hx =
    let z : x ≡ 0 = omega (arith, rw pow-zero at hx) in
    rw z (bit_zero k)
bit_high (suc n) zero x h hx = absurd (omega arith)
bit_high (suc n) (suc k) x h hx =
    let h' : x < 2 * 2 ^ n = rw pow-succ' at hx in
    bit_high n k (x / 2) (omega arith) (omega arith)

-- A bit that is not there is added: the number stays below 2 ^ n.
pub add_below : (n k x : ℕ) → k < n → x < 2 ^ n → bit k x ≡ 0 → x + 2 ^ k < 2 ^ n
add_below zero k x h hx e = absurd (omega arith)
add_below (suc n) zero x h hx e =
    let h' : x < 2 * 2 ^ n = rw pow-succ' at hx in
    rw (pow-succ', pow-zero) (omega arith)
add_below (suc n) (suc k) x h hx e =
    let h' : x < 2 * 2 ^ n = rw pow-succ' at hx in
    let i : x / 2 + 2 ^ k < 2 ^ n = add_below n k (x / 2) (omega arith) (omega arith) e in
    rw (pow-succ' 2 n, pow-succ' 2 k) (omega arith)

pub power_fits : (k : ℕ) → k < 52 → 2 ^ k ≤ 2251799813685248
power_fits k h = pow-le-pow_right {n = 2} (omega arith) {i = k} {j = 51} (omega arith)

-- Bit d after card k was added.
pub bit_add : (k d x : ℕ) → bit k x ≡ 0 → bit d (x + 2 ^ k) ≡ cond (eqb d k) 1 (bit d x)
bit_add zero zero x e = rw pow-zero (omega arith)
bit_add zero (suc d) x e =
    let h : (x + 1) / 2 ≡ x / 2 = omega arith in
    let n : eqb (suc d) 0 ≡ false = ne_eqb (suc d) 0 (λ z. omega arith) in
    rw (pow-zero, h, n)
bit_add (suc k) zero x e =
    let n : eqb 0 (suc k) ≡ false = ne_eqb 0 (suc k) (λ z. omega arith) in
    rw (pow-succ', n) (omega arith)
bit_add (suc k) (suc d) x e =
    let h : (x + 2 * 2 ^ k) / 2 ≡ x / 2 + 2 ^ k = omega arith in
    rw (pow-succ', h, eqb-suc-suc) (bit_add k d (x / 2) e)

has_add : (k d x : ℕ) → has k x ≡ false → has d (x + 2 ^ k) ≡ (eqb d k || has d x)
unfolding has
has_add k d x e = rw (bit_add k d x (bit_off k x e)) (by_cases (eqb d k) (λ t. rw t) (λ t. rw t))

-- ---- counts

ones_is : (n x : ℕ) → x < 2 ^ n → ones n x ≡ Count.ones x
unfolding ones Count.ones Count.ones_in
ones_is zero x h =
    let z : x ≡ 0 = omega (arith, rw pow-zero at h) in
    rw z
ones_is (suc n) x h =
    let h' : x < 2 * 2 ^ n = rw pow-succ' at h in
    rw (ones_is n (x / 2) (omega arith)) (sym (Count.ones_step x))

-- The machine's count of bits.
pub count_is : (x : ℕ) → x < 2 ^ 64 → Count.ones x ≡ card_count x
unfolding card_count
count_is x h = sym (ones_is 64 x h)

-- The cards below 2 ^ 52 are all cards.
pub count_deck : (x : ℕ) → x < 2 ^ 52 → card_count x ≡ ones 52 x
unfolding card_count
count_deck x h = ones_is 64 x (omega arith) ∙ sym (ones_is 52 x h)

-- ---- how often a card stands in a list

abbrev pub times : ℕ → List ℕ → ℕ
times i [] = 0
times i (k ∷ ks) = cond (eqb k i) (suc (times i ks)) (times i ks)

pub times_append : (i : ℕ) (a b : List ℕ) → times i (a ++ b) ≡ times i a + times i b
times_append i [] b = omega arith
times_append i (k ∷ ks) b =
    let h = times_append i ks b in
    by_cases (eqb k i) (λ t. rw (t, h) (omega arith)) (λ t. rw (t, h))

pub among_times : (i : ℕ) (ks : List ℕ) → among i ks ≡ false → times i ks ≡ 0
among_times i [] e = refl
among_times i (k ∷ ks) e = by_cases (eqb k i) (λ t. clash (sym (rw t at e))) (λ t. rw t (among_times i ks (rw t at e)))

times_among : (i : ℕ) (ks : List ℕ) → times i ks ≡ 0 → among i ks ≡ false
times_among i [] e = refl
times_among i (k ∷ ks) e = by_cases (eqb k i) (λ t. absurd (omega (arith, rw t at e))) (λ t. rw t (times_among i ks (rw t at e)))

-- Distinct cards are those that stand once.
pub distinct_times : (ks : List ℕ) → distinct ks ≡ true → (i : ℕ) → times i ks ≤ 1
distinct_times [] e i = omega arith
distinct_times (k ∷ ks) e i =
    let h = both (not (among k ks)) (distinct ks) e in
    let j = distinct_times ks h.1 i in
    by_cases (eqb k i)
    (λ t. rw t (omega (arith, rw (eqb-true k i t) at (among_times k ks (not-true (among k ks) h.0)))))
    (λ t. rw t j)

pub times_distinct : (ks : List ℕ) → ((i : ℕ) → times i ks ≤ 1) → distinct ks ≡ true
times_distinct [] h = refl
times_distinct (k ∷ ks) h =
    let own : times k (k ∷ ks) ≤ 1 = h k in
    let z : times k ks ≡ 0 = omega (arith, rw (eq-eqb k k refl) at own) in
    rw (times_among k ks z) (times_distinct ks (λ i. tail i))
  where
    tail : (i : ℕ) → times i ks ≤ 1
    tail i = by_cases (eqb k i) (λ t. omega (arith, rw t at (h i))) (λ t. rw t at (h i))

-- The bits of distinct cards' number are the cards.
pub bit_total : (ks : List ℕ) → distinct ks ≡ true → (i : ℕ) → bit i (hand_bits ks) ≡ times i ks
bit_total [] e i = bit_zero i
bit_total (k ∷ ks) e i =
    let h = both (not (among k ks)) (distinct ks) e in
    let z : times k ks ≡ 0 = among_times k ks (not-true (among k ks) h.0) in
    let o : bit k (hand_bits ks) ≡ 0 = bit_total ks h.1 k ∙ z in
    let s : 2 ^ k + hand_bits ks ≡ hand_bits ks + 2 ^ k = omega arith in
    rw (s, bit_add k i (hand_bits ks) o)
    (by_cases (eqb k i)
    (λ t.
    let q = eqb-true k i t in
    rw (t, eq-eqb i k (sym q)) (ap suc (sym (rw q at z))))
    (λ t. rw (t, ne_eqb i k (λ q. eqb-false k i t (sym q))) (bit_total ks h.1 i)))

-- ---- lists of cards

-- There are 52 cards.
abbrev pub in_pack : ℕ → Bool
in_pack k = ltb k 52

pub distinct_front : (a b : List ℕ) → distinct (a ++ b) ≡ true → distinct a ≡ true
distinct_front a b e = times_distinct a (λ i. omega (arith, distinct_times (a ++ b) e i, times_append i a b))

pub distinct_back : (a b : List ℕ) → distinct (a ++ b) ≡ true → distinct b ≡ true
distinct_back a b e = times_distinct b (λ i. omega (arith, distinct_times (a ++ b) e i, times_append i a b))

-- The first of distinct cards is not in the others' number.
first_off : (k : ℕ) (ks : List ℕ) → distinct (k ∷ ks) ≡ true → bit k (hand_bits ks) ≡ 0
first_off k ks e =
    let h = both (not (among k ks)) (distinct ks) e in
    bit_total ks h.1 k ∙ among_times k ks (not-true (among k ks) h.0)

pub total_below : (ks : List ℕ) → distinct ks ≡ true → every in_pack ks ≡ true → hand_bits ks < 2 ^ 52
total_below [] e f = omega arith
total_below (k ∷ ks) e f =
    let h = both (not (among k ks)) (distinct ks) e in
    let g = both (in_pack k) (every in_pack ks) f in
    omega (arith, add_below 52 k (hand_bits ks) (ltb-true k 52 g.0) (total_below ks h.1 g.1) (first_off k ks e))

ones_add : (n k x : ℕ) → k < n → bit k x ≡ 0 → ones n (x + 2 ^ k) ≡ ones n x + 1
unfolding ones
ones_add zero k x h e = absurd (omega arith)
ones_add (suc n) zero x h e =
    let q : (x + 1) / 2 ≡ x / 2 = omega arith in
    rw (pow-zero, q) (omega arith)
ones_add (suc n) (suc k) x h e =
    let q : (x + 2 * 2 ^ k) / 2 ≡ x / 2 + 2 ^ k = omega arith in
    rw (pow-succ', q, ones_add n k (x / 2) (omega arith) e) (omega arith)

ones_zero : (n : ℕ) → ones n 0 ≡ 0
unfolding ones
ones_zero zero = refl
ones_zero (suc n) = rw (ones_zero n)

-- A number of distinct cards has as many.
pub count_total : (ks : List ℕ) → distinct ks ≡ true → every in_pack ks ≡ true → card_count (hand_bits ks) ≡ length ks
unfolding card_count
count_total [] e f = ones_zero 64
count_total (k ∷ ks) e f =
    let h = both (not (among k ks)) (distinct ks) e in
    let g = both (in_pack k) (every in_pack ks) f in
    let l = ltb-true k 52 g.0 in
    let s : 2 ^ k + hand_bits ks ≡ hand_bits ks + 2 ^ k = omega arith in
    rw (s, ones_add 64 k (hand_bits ks) (omega arith) (first_off k ks e), count_total ks h.1 g.1) (omega arith)

-- ---- cards placed one after the other

-- None of the cards is in x.
abbrev free : ℕ → List ℕ → Bool
free x [] = true
free x (k ∷ ks) = not (has k x) && free x ks

shuffle : (p q r s : Bool) → (not (p || q) && (not r && s)) ≡ (not (p || r) && (not q && s))
shuffle true q r s = refl
shuffle false true true s = refl
shuffle false true false s = refl
shuffle false false r s = refl

free_add : (k x : ℕ) (ds : List ℕ) → has k x ≡ false → free (x + 2 ^ k) ds ≡ (not (among k ds) && free x ds)
free_add k x [] e = refl
free_add k x (d ∷ ds) e = rw (has_add k d x e, free_add k x ds e) (shuffle (eqb d k) (has d x) (among k ds) (free x ds))

swap : (p q r : Bool) → ((p && q) && r) ≡ (q && (p && r))
swap true q r = refl
swap false true r = refl
swap false false r = refl

place_is : (x : ℕ) (ks : List ℕ) → place x ks ≡ cond (free x ks && distinct ks) (Some (x + hand_bits ks)) None
place_is x [] = rw add-zero
place_is x (k ∷ ks) =
    let a : x + 2 ^ k + hand_bits ks ≡ x + (2 ^ k + hand_bits ks) = omega arith in
    by_cases (has k x) (λ e. rw e) (λ e. rw (e, place_is (x + 2 ^ k) ks, free_add k x ks e, swap (not (among k ks)) (free x ks) (distinct ks), a))

free_zero : (ks : List ℕ) → free 0 ks ≡ true
unfolding has
free_zero [] = refl
free_zero (k ∷ ks) = rw (bit_zero k) (free_zero ks)

-- Cards are placed where they are distinct, and their number is the sum of their bits.
pub place_all : (ks : List ℕ) → place 0 ks ≡ cond (distinct ks) (Some (hand_bits ks)) None
place_all ks = place_is 0 ks ∙ rw (free_zero ks, zero_left (hand_bits ks))
  where
    zero_left : (n : ℕ) → 0 + n ≡ n
    zero_left n = omega arith

pub place_sum : (x : ℕ) (ks : List ℕ) {y : ℕ} → place x ks ≡ Some y → y ≡ x + hand_bits ks
place_sum x ks {y} e =
    by_cases (free x ks && distinct ks)
    (λ t. let h : Some (x + hand_bits ks) ≡ Some y = rw (place_is x ks, t) at e in cc)
    (λ t. let h : None ≡ Some y = rw (place_is x ks, t) at e in let z : ◌≡◌ {A = ℕ} 0 1 = cc in absurd (omega arith))

-- More cards are placed into what the first have made.
abbrev pub place_more : HandRead → List ℕ → HandRead
place_more None b = None
place_more (Some y) b = place y b

pub place_append : (x : ℕ) (a b : List ℕ) → place x (a ++ b) ≡ place_more (place x a) b
place_append x [] b = refl
place_append x (k ∷ ks) b = by_cases (has k x) (λ e. rw e) (λ e. rw e (place_append (x + 2 ^ k) ks b))

-- ---- the cards of a number, from high to low

unfoldable pub down : ℕ → ℕ → List ℕ
down zero x = []
down (suc k) x = cond (has k x) (k ∷ down k x) (down k x)

pub down_none : (x : ℕ) → down 0 x ≡ []
unfolding down
down_none x = refl

pub down_more : (k x : ℕ) → down (suc k) x ≡ cond (has k x) (k ∷ down k x) (down k x)
unfolding down
down_more k x = refl

pub down_zero : (k : ℕ) → down k 0 ≡ []
unfolding down has
down_zero zero = refl
down_zero (suc k) = rw (bit_zero k) (down_zero k)

among_down : (i k x : ℕ) → k ≤ i → among i (down k x) ≡ false
unfolding down
among_down i zero x h = refl
among_down i (suc k) x h =
    let n : eqb k i ≡ false = ne_eqb k i (λ z. omega arith) in
    let j = among_down i k x (omega arith) in
    by_cases (has k x) (λ t. rw (t, n, j)) (λ t. rw (t, j))

pub distinct_down : (k x : ℕ) → distinct (down k x) ≡ true
unfolding down
distinct_down zero x = refl
distinct_down (suc k) x =
    let i = distinct_down k x in
    by_cases (has k x) (λ t. rw (t, among_down k k x (omega arith), i)) (λ t. rw (t, i))

pack_down : (k x : ℕ) → k ≤ 52 → every in_pack (down k x) ≡ true
unfolding down
pack_down zero x h = refl
pack_down (suc k) x h =
    let i = pack_down k x (omega arith) in
    by_cases (has k x) (λ t. rw (t, lt-ltb k 52 (omega arith), i)) (λ t. rw (t, i))

two_out : (p h : ℕ) → 2 * p * h ≡ p * (2 * h)
two_out p h = rw (mul_comm 2 p, mul_assoc p 2 h)

-- What is below k, and what is above.
total_down : (k x : ℕ) → hand_bits (down k x) + 2 ^ k * (x / 2 ^ k) ≡ x
unfolding down
total_down zero x = rw (pow-zero, div-one) (omega arith)
total_down (suc k) x =
    let p = 2 ^ k in
    let q = x / 2 ^ k in
    let i : hand_bits (down k x) + p * q ≡ x = total_down k x in
    let d : x / (2 * p) ≡ q / 2 = rw (mul_comm 2 p) (sym (div-div-eq-div-mul x p 2)) in
    let b : q % 2 ≡ bit k x = bit_is k x in
    rw (pow-succ', d, two_out p (q / 2))
    (by_cases (has k x)
    (λ t.
    let e : q ≡ 2 * (q / 2) + 1 = omega (arith, bit_on k x t) in
    let m : p * q ≡ p * (2 * (q / 2)) + p = ap (λ (n : ℕ). p * n) e ∙ mul-add p (2 * (q / 2)) 1 ∙ ap (λ (n : ℕ). p * (2 * (q / 2)) + n) (mul-one p) in
    rw t (omega arith))
    (λ t.
    let e : q ≡ 2 * (q / 2) = omega (arith, bit_off k x t) in
    let m : p * q ≡ p * (2 * (q / 2)) = ap (λ (n : ℕ). p * n) e in
    rw t (omega arith)))

-- The cards of x make x.
pub total_deck : (x : ℕ) → x < 2 ^ 52 → hand_bits (down 52 x) ≡ x
total_deck x h =
    let z : x / 2 ^ 52 ≡ 0 = div-eq_of_lt h in
    omega (arith, total_down 52 x, z)

pub times_deck : (x i : ℕ) → x < 2 ^ 52 → times i (down 52 x) ≡ bit i x
times_deck x i h = sym (rw (total_deck x h) at (bit_total (down 52 x) (distinct_down 52 x) i))

pub count_down : (x : ℕ) → x < 2 ^ 52 → length (down 52 x) ≡ card_count x
count_down x h = sym (rw (total_deck x h) at (count_total (down 52 x) (distinct_down 52 x) (pack_down 52 x (omega arith))))
