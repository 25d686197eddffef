-- Laws of texts put one after the other on a page.
use Prim.Native.Nat.{ℕ, zero, suc, ◌+◌, ◌-◌, ◌*◌, ◌/◌, ◌%◌, ◌^◌, ◌≤◌, ◌<◌}
use mathlib.Core.Path.{◌≡◌, refl, sym, ap, ◌∙◌}
use mathlib.Core.Bool.{cond, ◌&&◌}
use mathlib.Core.List.{List, [], ◌∷◌, ◌++◌, append_assoc}
use native.Mathlib.Nat.{add-zero, le_of_eq}
use native.Mathlib.Numerals.{add-one}
use native.Mathlib.Omega.{arith}
use native.Mathlib.Nat.{pow-succ'}
use lib.Dec.{ltb, leb}
use lib.ListN.{length, drop, take, set, replicate, length-append, length-replicate, length-set, drop_of_length-le}
use lib.Seq.{sets, sets-eq, length-sets, drop-cons, take-append_seam, get_or-set_same, drop-set-lt}
use borrow.Author.Tests.{leb-true, lt-ltb, le-ltb, ltb-true, ltb-false}
use Rattle.tables.specs.declared.refusal.Refusal.{Refusal}
use Rattle.std.specs.Prelude.{Bool, Result}
use Rattle.tables.specs.Numbers.{digits, decimal}
use Rattle.tables.specs.Page.{Wrote, right, answer_of, page_of}
use Rattle.tables.specs.PageSteps.{Put, PageEnded, Digits}
use Rattle.tables.proofs.Laws.{by_cases}

pub sets_append : (xs ys l : List ℕ) (i : ℕ) → sets l i (xs ++ ys) ≡ sets (sets l i xs) (i + length xs) ys
sets_append [] ys l i = rw add-zero
sets_append (x ∷ xs) ys l i =
    let e : suc i + length xs ≡ i + suc (length xs) = omega arith in
    sets_append xs ys (set l i x) (suc i) ∙ rw e

-- two texts in a row are one
pub put_then : {p : List ℕ} {at : ℕ} {xs : List ℕ} {p' : List ℕ} {m : ℕ} {ys p'' : List ℕ} {r : ℕ} → Put p at xs p' m → Put p' m ys p'' r → Put p at (xs ++ ys) p'' r
put_then {p} {at} {xs} {p'} {m} {ys} {p''} {r} a b =
    record {
      after = b.after ∙ rw (a.after, a.next) (sym (sets_append xs ys p at));
      next = rw (length-append xs ys) (omega (arith, a.next, b.next));
    }

-- what is left to put: rest at k now leaves what bs at `at` leaves at the start
pub record ToPut (page₀ : List ℕ) (at : ℕ) (bs page : List ℕ) (k : ℕ) (rest : List ℕ) : Type 0 where
  pub after : sets page k rest ≡ sets page₀ at bs
  pub next : k + length rest ≡ at + length bs
  pub kept : length page ≡ length page₀

pub to_put : (p : List ℕ) (at : ℕ) (bs : List ℕ) → ToPut p at bs p at bs
to_put p at bs = record { after = refl; next = refl; kept = refl }

-- one text of it is put
pub putting : {p₀ : List ℕ} {at : ℕ} {bs p : List ℕ} {k : ℕ} (xs rest : List ℕ) {p' : List ℕ} {k' : ℕ} → ToPut p₀ at bs p k (xs ++ rest) → Put p k xs p' k' → ToPut p₀ at bs p' k' rest
putting {p₀} {at} {bs} {p} {k} xs rest {p'} {k'} t a =
    record {
      after = rw (a.after, a.next) (sym (sets_append xs rest p k) ∙ t.after);
      next = omega (arith, a.next, rw length-append at t.next);
      kept = rw (a.after, length-sets) t.kept;
    }

pub put_all_lem : {p₀ : List ℕ} {at : ℕ} {bs p : List ℕ} {k : ℕ} → ToPut p₀ at bs p k [] → Put p₀ at bs p k
put_all_lem {p₀} {at} {bs} {p} {k} t = record { after = t.after; next = omega (arith, t.next) }

-- ---- digits

pub drop_set : (l : List ℕ) (k d : ℕ) → k < length l → drop k (set l k d) ≡ d ∷ drop (k + 1) l
drop_set l k d h =
    let h' : k < length (set l k d) = rw length-set h in
    let h'' : k < suc k = omega arith in
    rw (drop-cons (set l k d) k 0 h', get_or-set_same l k d 0 h, add-one, drop-set-lt (suc k) l k d h'')

pub digits_last : (k m : ℕ) (acc : List ℕ) → m < 10 → digits k m acc ≡ (48 + m % 10) ∷ acc
unfolding digits
digits_last zero m acc h = refl
digits_last (suc k) m acc h = rw (lt-ltb _ _ h)

pub digits_more : (k m : ℕ) (acc : List ℕ) → 0 < k → 10 ≤ m → digits k m acc ≡ digits (k - 1) (m / 10) ((48 + m % 10) ∷ acc)
unfolding digits
digits_more zero m acc z h = absurd (omega arith)
digits_more (suc k) m acc z h =
    let e : suc k - 1 ≡ k = omega arith in
    rw (le-ltb _ _ h, e)

pub digits_start : (n : ℕ) (buf : List ℕ) → length buf ≡ 10 → digits 9 n (drop 10 buf) ≡ decimal n
unfolding decimal
digits_start n buf e = rw (drop_of_length-le buf (le_of_eq e))

pub digits_found : (n k m d : ℕ) (buf : List ℕ) → k ≤ 9 → length buf ≡ 10 → digits k m (drop (k + 1) buf) ≡ decimal n → m < 10 → d ≡ 48 + m % 10 → Digits n (set buf k d) k
digits_found n k m d buf hk el inv h ed = record { stand = rw (drop_set buf k d (omega arith), ed, ← digits_last k m (drop (k + 1) buf) h) inv; inside = hk }

pub digits_end : (n k m d : ℕ) (buf : List ℕ) → k ≡ 0 → length buf ≡ 10 → digits k m (drop (k + 1) buf) ≡ decimal n → d ≡ 48 + m % 10 → Digits n (set buf 0 d) 0
unfolding digits
digits_end n k m d buf ek el inv ed = record { stand = rw (drop_set buf 0 d (omega arith), ed) (rw ek at inv); inside = omega arith }

pub digits_on : (n k m d : ℕ) (buf : List ℕ) → 0 < k → k ≤ 9 → length buf ≡ 10 → digits k m (drop (k + 1) buf) ≡ decimal n → 10 ≤ m → d ≡ 48 + m % 10
    → digits (k - 1) (m / 10) (drop (k - 1 + 1) (set buf k d)) ≡ decimal n
digits_on n k m d buf z hk el inv h ed =
    let e : k - 1 + 1 ≡ k = omega arith in
    rw (e, drop_set buf k d (omega arith), ed, ← digits_more k m (drop (k + 1) buf) z h) inv

digits_append : (k m : ℕ) (acc : List ℕ) → digits k m acc ≡ digits k m [] ++ acc
unfolding digits
digits_append zero m acc = refl
digits_append (suc k) m acc =
    let d = 48 + m % 10 in
    by_cases (ltb m 10)
    (λ t. rw t)
    (λ t. rw t (digits_append k (m / 10) (d ∷ acc) ∙ rw (digits_append k (m / 10) (d ∷ []), append_assoc)))

-- More digits are allowed than the number has.
digits_enough : (k m : ℕ) (acc : List ℕ) → m < 10 ^ suc k → digits (suc k) m acc ≡ digits k m acc
unfolding digits
digits_enough zero m acc h =
    let h' : m < 10 = h in
    rw (lt-ltb m 10 h')
digits_enough (suc k) m acc h =
    let h' : m < 10 * 10 ^ suc k = rw pow-succ' at h in
    by_cases (ltb m 10)
    (λ t. rw t)
    (λ t. rw t (digits_enough k (m / 10) ((48 + m % 10) ∷ acc) (omega arith)))

pub decimal_one : (n : ℕ) → n < 10 → decimal n ≡ (48 + n % 10) ∷ []
unfolding decimal digits
decimal_one n h = rw (lt-ltb n 10 h)

digits_long : (n : ℕ) → 10 ≤ n → digits 9 n [] ≡ digits 8 (n / 10) ((48 + n % 10) ∷ [])
unfolding digits
digits_long n h = rw (le-ltb n 10 h)

-- The last digit stands behind the others.
pub decimal_more : (n : ℕ) → n < 4294967296 → 10 ≤ n → decimal n ≡ decimal (n / 10) ++ (48 + n % 10) ∷ []
unfolding decimal
decimal_more n l h =
    let last = (48 + n % 10) ∷ [] in
    digits_long n h ∙ digits_append 8 (n / 10) last ∙ ap (λ (s : List ℕ). s ++ last) (sym (digits_enough 8 (n / 10) [] (omega arith)))

digits_few : (k m : ℕ) (acc : List ℕ) → length (digits k m acc) ≤ suc k + length acc
unfolding digits
digits_few zero m acc = omega arith
digits_few (suc k) m acc =
    by_cases (ltb m 10)
    (λ t. rw t (omega arith))
    (λ t. rw t (omega (arith, digits_few k (m / 10) ((48 + m % 10) ∷ acc))))

pub decimal_few : (n : ℕ) → length (decimal n) ≤ 10
unfolding decimal
decimal_few n = digits_few 9 n []

pub right_few : (w n : ℕ) → length (right w (decimal n)) ≤ w + 10
unfolding right
right_few w n = rw (length-append, length-replicate) (omega (arith, decimal_few n))

digits_some : (k m : ℕ) (acc : List ℕ) → length acc < length (digits k m acc)
unfolding digits
digits_some zero m acc = omega arith
digits_some (suc k) m acc =
    by_cases (ltb m 10)
    (λ t. rw t (omega arith))
    (λ t. rw t (omega (arith, digits_some k (m / 10) ((48 + m % 10) ∷ acc))))

decimal_some : (n : ℕ) → 0 < length (decimal n)
unfolding decimal
decimal_some n = digits_some 9 n []

decimal_two : (n : ℕ) → n < 4294967296 → 10 ≤ n → 2 ≤ length (decimal n)
decimal_two n l h = rw (decimal_more n l h, length-append) (omega (arith, decimal_some (n / 10)))

right_whole : (w n : ℕ) → w ≤ length (decimal n) → right w (decimal n) ≡ decimal n
unfolding right
right_whole w n h =
    let e : w - length (decimal n) ≡ 0 = omega arith in
    rw e

right_space : (n : ℕ) → n < 10 → right 2 (decimal n) ≡ 32 ∷ decimal n
unfolding right
right_space n h = rw (decimal_one n h)

-- In two places a number of one digit has a space before it.
pub right_is : (wide : Bool) (n : ℕ) → n < 4294967296 → right (cond wide 2 1) (decimal n) ≡ cond (ltb n 10 && wide) (32 ∷ decimal n) (decimal n)
right_is wide n l =
    by_cases (ltb n 10)
    (λ t.
    by_cases wide
    (λ u. rw (t, u) (right_space n (ltb-true n 10 t)))
    (λ u. rw (t, u) (right_whole 1 n (decimal_some n))))
    (λ t.
    by_cases wide
    (λ u. rw (t, u) (right_whole 2 n (decimal_two n l (ltb-false n 10 t))))
    (λ u. rw (t, u) (right_whole 1 n (decimal_some n))))

-- ---- the end

put_start : (bs page : List ℕ) → length bs ≤ length page → take (length bs) (sets page 0 bs) ≡ bs
put_start bs page h = rw (sets-eq bs page 0 (omega arith)) (take-append_seam bs _)

page_then : (bs page : List ℕ) → cond (leb (length bs) (length page)) (take (length bs) (sets page 0 bs) ++ replicate (length page - length bs) 0) (replicate (length page) 0) ≡ page_of bs (length page)
unfolding page_of
page_then bs page =
    by_cases (leb (length bs) (length page))
    (λ e. rw (e, put_start bs page (leb-true (length bs) (length page) e)))
    (λ e. rw e)

-- a text put at 0 and finished is a page written
pub finished : {bs page page₁ : List ℕ} {n : ℕ} {page' : List ℕ} {r : Result ℕ Refusal} → Put page 0 bs page₁ n → PageEnded n page₁ page' r → Wrote bs page page' r
unfolding answer_of
finished {bs} {page} {page₁} {n} {page'} {r} p f =
    let el : length page₁ ≡ length page = rw (p.after, length-sets) in
    let en : n ≡ length bs = omega (arith, p.next) in
    record {
      told = rw (← en, ← el) f.told;
      page_left = rw (el, en) at f.page_left ∙ ap (λ (l : List ℕ). cond (leb (length bs) (length page)) (take (length bs) l ++ replicate (length page - length bs) 0) (replicate (length page) 0)) p.after ∙ page_then bs page;
    }
