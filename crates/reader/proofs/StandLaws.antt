-- What stands in a list.
use Prim.Native.Nat.{ℕ, zero, suc, ◌+◌, ◌≤◌, ◌<◌}
use mathlib.Core.Path.{◌≡◌, refl, sym, ap, ◌∙◌}
use mathlib.Core.List.{List, [], ◌∷◌, ◌++◌, map, append_assoc}
use native.Mathlib.Omega.{arith}
use lib.ListN.{length, length-append, length-map}
use Rattle.reader.specs.Fellows.{Stands}

-- An element that stands at a list's place stands there too once the list goes on.
pub stands_left : {A : Type 0} {xs ws : List A} {k : ℕ} (ys : List A) → Stands xs k ws → Stands (xs ++ ys) k ws
stands_left {ws = ws} ys s =
    record {
      before = s.before;
      after = s.after ++ ys;
      whole = ap (λ l. l ++ ys) s.whole ∙ append_assoc s.before (ws ++ s.after) ys ∙ ap (λ l. s.before ++ l) (append_assoc ws s.after ys);
      count = s.count;
    }

-- And moved, once the list stands behind another.
pub stands_right : {A : Type 0} (xs : List A) {ys ws : List A} {k : ℕ} → Stands ys k ws → Stands (xs ++ ys) (length xs + k) ws
stands_right xs {ws = ws} s =
    record {
      before = xs ++ s.before;
      after = s.after;
      whole = ap (λ l. xs ++ l) s.whole ∙ sym (append_assoc xs s.before (ws ++ s.after));
      count = rw length-append (omega (arith, s.count));
    }

pub map_append : {A B : Type 0} (f : A → B) (xs ys : List A) → map f (xs ++ ys) ≡ map f xs ++ map f ys
map_append f [] ys = refl
map_append f (x ∷ xs) ys = ap (λ l. f x ∷ l) (map_append f xs ys)

pub stands_map : {A B : Type 0} (f : A → B) {xs ws : List A} {k : ℕ} → Stands xs k ws → Stands (map f xs) k (map f ws)
stands_map f {ws = ws} s =
    record {
      before = map f s.before;
      after = map f s.after;
      whole = ap (map f) s.whole ∙ map_append f s.before (ws ++ s.after) ∙ ap (λ l. map f s.before ++ l) (map_append f ws s.after);
      count = length-map s.before f ∙ s.count;
    }

-- It fits.
pub stands_fit : {A : Type 0} {xs ws : List A} {k : ℕ} → Stands xs k ws → k + length ws ≤ length xs
stands_fit {ws = ws} s =
    rw (s.whole, length-append, length-append) (omega (arith, s.count))

-- Two elements that stand at the same place of a list are one.
same_element : {A : Type 0} (xs zs ys ws : List A) (x z : A) → xs ++ (x ∷ ys) ≡ zs ++ (z ∷ ws) → length xs ≡ length zs → x ≡ z
same_element [] [] ys ws x z e h = cc
same_element [] (v ∷ zs) ys ws x z e h = absurd (omega arith)
same_element (u ∷ xs) [] ys ws x z e h = absurd (omega arith)
same_element (u ∷ xs) (v ∷ zs) ys ws x z e h =
    let f : xs ++ (x ∷ ys) ≡ zs ++ (z ∷ ws) = cc in
    same_element xs zs ys ws x z f (omega arith)

pub stands_same : {A : Type 0} {l : List A} {k : ℕ} {x z : A} → Stands l k (x ∷ []) → Stands l k (z ∷ []) → x ≡ z
stands_same {x = x} {z = z} s t = same_element s.before t.before s.after t.after x z (sym s.whole ∙ t.whole) (s.count ∙ sym t.count)

-- Every place of a list has its element.
pub record Element {A : Type 0} (l : List A) (k : ℕ) : Type 0 where
  pub element : A
  pub stands : Stands l k (element ∷ [])

pub element_at : {A : Type 0} (l : List A) (k : ℕ) → k < length l → Element l k
element_at [] k h = absurd (omega arith)
element_at (x ∷ xs) zero h = record { element = x; stands = record { before = []; after = xs; whole = refl; count = refl } }
element_at (x ∷ xs) (suc k) h =
    let e = element_at xs k (omega arith) in
    let s = e.stands in
    record {
      element = e.element;
      stands = record { before = x ∷ s.before; after = s.after; whole = ap (λ l. x ∷ l) s.whole; count = ap suc s.count };
    }

-- An element of a list in two parts is one of the first or of the second.
pub data Side {A : Type 0} (k : ℕ) (x : A) (xs ys : List A) : Type 0 where
  first : Stands xs k (x ∷ []) → Side k x xs ys
  second : (j : ℕ) → k ≡ length xs + j → Stands ys j (x ∷ []) → Side k x xs ys

side_more : {A : Type 0} {k : ℕ} {x : A} (u : A) {xs ys : List A} → Side k x xs ys → Side (suc k) x (u ∷ xs) ys
side_more u (first s) = first (record { before = u ∷ s.before; after = s.after; whole = ap (λ l. u ∷ l) s.whole; count = ap suc s.count })
side_more u (second j h s) = second j (omega arith) s

split_side : {A : Type 0} (x : A) (bs cs xs ys : List A) → xs ++ ys ≡ bs ++ (x ∷ cs) → Side (length bs) x xs ys
split_side x bs cs [] ys e = second (length bs) (omega arith) (record { before = bs; after = cs; whole = e; count = refl })
split_side x [] cs (u ∷ xs) ys e =
    let f : u ≡ x = cc in
    first (record { before = []; after = xs; whole = rw f; count = refl })
split_side x (b ∷ bs) cs (u ∷ xs) ys e =
    let g : xs ++ ys ≡ bs ++ (x ∷ cs) = cc in
    side_more u (split_side x bs cs xs ys g)

pub stands_side : {A : Type 0} {k : ℕ} {x : A} (xs ys : List A) → Stands (xs ++ ys) k (x ∷ []) → Side k x xs ys
stands_side {x = x} xs ys s = rw s.count at (split_side x s.before s.after xs ys s.whole)
