-- Laws of runs of block stores.
use Prim.Native.Nat.{ℕ, zero, suc, ◌+◌, ◌*◌, ◌-◌, ◌≤◌}
use mathlib.Core.Path.{◌≡◌, sym, ◌∙◌}
use mathlib.Core.List.{List, [], ◌∷◌, ◌++◌, map, append_assoc, append-nil}
use native.Mathlib.Nat.{add-zero, mul-zero, mul-suc, sub-zero, zero-sub}
use native.Mathlib.Numerals.{add-one}
use borrow.Author.Tests.{le-leb}
use lib.Seq.{sets-eq, take_at, drop-append-add}
use native.Mathlib.Omega.{arith}
use lib.ListN.{length, drop, replicate, length-append, length-replicate}
use Rattle.reader.specs.Store.{put, put_all, flat, padded}

-- first some blocks, then the others
pub put_all_append : (w : ℕ) (l : List ℕ) (n : ℕ) (xs ys : List (List ℕ)) → put_all w l n (xs ++ ys) ≡ put_all w (put_all w l n xs) (n + length xs) ys
put_all_append w l n [] ys = rw add-zero
put_all_append w l n (x ∷ xs) ys =
    let e : (n + 1) + length xs ≡ n + suc (length xs) = omega arith in
    put_all_append w (put w l n x) (n + 1) xs ys ∙ rw e

-- ---- blocks put into zeros

-- each block has w words
pub data Blocks (w : ℕ) : List (List ℕ) → Type 0 where
  none : Blocks w []
  one : {x : List ℕ} {xs : List (List ℕ)} → length x ≡ w → Blocks w xs → Blocks w (x ∷ xs)

pub blocks_append : {w : ℕ} {xs ys : List (List ℕ)} → Blocks w xs → Blocks w ys → Blocks w (xs ++ ys)
blocks_append none b = b
blocks_append (one e a) b = one e (blocks_append a b)

pub blocks_map : {A : Type 0} (w : ℕ) (f : A → List ℕ) → ((x : A) → length (f x) ≡ w) → (xs : List A) → Blocks w (map f xs)
blocks_map w f h [] = none
blocks_map w f h (x ∷ xs) = one (h x) (blocks_map w f h xs)

pub length_flat : {w : ℕ} {xs : List (List ℕ)} → Blocks w xs → length (flat xs) ≡ w * length xs
length_flat {w} none = sym (mul-zero w)
length_flat {w} (one {x} {xs} e b) = rw (length-append, mul-suc) (omega (arith, length_flat b))

drop_replicate : (n m : ℕ) → drop {A = ℕ} n (replicate m 0) ≡ replicate (m - n) 0
drop_replicate zero m = rw sub-zero
drop_replicate (suc n) zero = rw zero-sub
drop_replicate (suc n) (suc m) =
    let e : suc m - suc n ≡ m - n = omega arith in
    rw e (drop_replicate n m)

-- a block put right behind p
put_next : (w n m : ℕ) (p x : List ℕ) → length p ≡ w * n → length x ≡ w → w ≤ m → put w (p ++ replicate m 0) n x ≡ p ++ x ++ replicate (m - w) 0
unfolding put
put_next w n m p x ep ex h =
    let l : List ℕ = p ++ replicate m 0 in
    let el : length l ≡ w * n + m = rw (length-append, length-replicate) (omega arith) in
    let fits : w * n + w ≤ length l = omega arith in
    let fits' : w * n + length x ≤ length l = omega arith in
    let ed : w * n + length x ≡ length p + w = omega arith in
    rw (le-leb _ _ fits, sets-eq x l (w * n) fits', take_at p (replicate m 0) (w * n) ep, ed, drop-append-add p (replicate m 0) w, drop_replicate)

put_from : (w : ℕ) {xs : List (List ℕ)} (b : Blocks w xs) (n m : ℕ) (p : List ℕ) → length p ≡ w * n → w * length xs ≤ m
    → put_all w (p ++ replicate m 0) n xs ≡ p ++ flat xs ++ replicate (m - length (flat xs)) 0
put_from w none n m p ep h = rw (append-nil, sub-zero)
put_from w (one {x} {xs} e b) n m p ep h =
    let h₁ : w * length xs + w ≤ m = rw mul-suc at h in
    let e₁ : length (p ++ x) ≡ w * (n + 1) = rw (length-append, add-one, mul-suc) (omega arith) in
    let e₂ : m - w - length (flat xs) ≡ m - length (x ++ flat xs) = rw length-append (omega arith) in
    rw (put_next w n m p x ep e (omega arith)) (put_from w b (n + 1) (m - w) (p ++ x) e₁ (omega arith) ∙ rw (append_assoc p x (flat xs), e₂))

pub put_zeros : (w L : ℕ) {xs : List (List ℕ)} → Blocks w xs → w * length xs ≤ L → put_all w (replicate L 0) 0 xs ≡ padded L (flat xs)
put_zeros w L b h = put_from w b 0 L [] (sym (mul-zero w)) h
