-- Laws of the entries that a run of steps over tokens adds: how many they are, and what holds of each.
use Prim.Native.Nat.{ℕ, suc, ◌+◌, ◌*◌, ◌≤◌, ◌<◌}
use mathlib.Core.Path.{◌≡◌, sym}
use mathlib.Core.Bool.{true, ◌||◌}
use mathlib.Core.List.{List, [], ◌∷◌, ◌++◌}
use native.Mathlib.Nat.{add-zero, mul-add}
use native.Mathlib.Omega.{arith}
use lib.Dec.{eqb}
use lib.ListN.{length, length-append}
use Rattle.tables.specs.Text.{is_white}
use Rattle.tables.proofs.Laws.{by_cases}
use Rattle.reader.specs.declared.store.Entry.{Entry}
use Rattle.reader.specs.Pieces.{Piece, Out, out_all, tokens_at, join_token, prepend_token}

-- P holds of each.
pub data All {A : Type 0} (P : A → Type 0) : List A → Type 0 where
  none : All P []
  one : {x : A} {xs : List A} → P x → All P xs → All P (x ∷ xs)

pub all_append : {A : Type 0} {P : A → Type 0} {xs ys : List A} → All P xs → All P ys → All P (xs ++ ys)
all_append none b = b
all_append (one p a) b = one p (all_append a b)

pub all_map : {A : Type 0} {P Q : A → Type 0} {xs : List A} → ((x : A) → P x → Q x) → All P xs → All Q xs
all_map f none = none
all_map f (one {x} p a) = one (f x p) (all_map f a)

-- A call or an annotation whose text lies between the places lo and hi.
pub record Inside (lo hi : ℕ) (e : Entry) : Type 0 where
  pub placed : (eqb e.kind 6 || eqb e.kind 7) ≡ true
  pub starts : lo ≤ e.x
  pub ends : e.x + e.y ≤ hi

-- A trick, which has no place.
pub record Trick (e : Entry) : Type 0 where
  pub trick : e.kind ≡ 8

-- ---- tokens

-- A token has a byte, and lies between the places lo and hi.
pub record Lies (lo hi : ℕ) (t : Piece) : Type 0 where
  pub starts : lo ≤ t.at
  pub ends : t.at + length t.bytes ≤ hi
  pub some : 0 < length t.bytes

lies_later : {lo hi : ℕ} {ts : List Piece} → All (Lies (lo + 1) hi) ts → All (Lies lo hi) ts
lies_later a = all_map (λ t h. record { starts = omega (arith, h.starts); ends = h.ends; some = h.some }) a

lies_first : (p b hi : ℕ) → p < hi → Lies p hi (record { at = p; bytes = b ∷ [] })
lies_first p b hi h = record { starts = omega arith; ends = omega arith; some = omega arith }

prepend_lies : (p b hi : ℕ) (ts : List Piece) → p < hi → All (Lies (p + 1) hi) ts → All (Lies p hi) (prepend_token p b ts)
prepend_lies p b hi [] h a = one (lies_first p b hi h) none
prepend_lies p b hi (t ∷ ts) h (one q a) = one {x = record { at = p; bytes = b ∷ t.bytes }} (record { starts = omega arith; ends = omega (arith, q.starts, q.ends); some = omega arith }) (lies_later a)

join_lies : (p b hi : ℕ) (bs : List ℕ) (ts : List Piece) → p < hi → All (Lies (p + 1) hi) ts → All (Lies p hi) (join_token p b bs ts)
join_lies p b hi [] ts h a = one (lies_first p b hi h) (lies_later a)
join_lies p b hi (c ∷ cs) ts h a = by_cases (is_white c) (λ e. rw e (one (lies_first p b hi h) (lies_later a))) (λ e. rw e (prepend_lies p b hi ts h a))

tokens_lie : (p hi : ℕ) (s : List ℕ) → p + length s ≤ hi → All (Lies p hi) (tokens_at p s)
tokens_lie p hi [] h = none
tokens_lie p hi (b ∷ bs) h =
    let a = tokens_lie (p + 1) hi bs (omega arith) in
    by_cases (is_white b) (λ e. rw e (lies_later a)) (λ e. rw e (join_lies p b hi bs (tokens_at (p + 1) bs) (omega arith) a))

-- The tokens of a piece lie inside it.
pub TokensInside : (p : ℕ) (s : List ℕ) → All (Lies p (p + length s)) (tokens_at p s)
TokensInside p s = tokens_lie p (p + length s) s (omega arith)

abbrev pub bytes_in : List Piece → ℕ
bytes_in [] = 0
bytes_in (t ∷ ts) = length t.bytes + bytes_in ts

prepend_bytes : (p b : ℕ) (ts : List Piece) → bytes_in (prepend_token p b ts) ≤ suc (bytes_in ts)
prepend_bytes p b [] = omega arith
prepend_bytes p b (t ∷ ts) = omega arith

join_bytes : (p b : ℕ) (bs : List ℕ) (ts : List Piece) → bytes_in (join_token p b bs ts) ≤ suc (bytes_in ts)
join_bytes p b [] ts = omega arith
join_bytes p b (c ∷ cs) ts = by_cases (is_white c) (λ e. rw e (omega arith)) (λ e. rw e (prepend_bytes p b ts))

pub tokens_bytes : (p : ℕ) (s : List ℕ) → bytes_in (tokens_at p s) ≤ length s
tokens_bytes p [] = omega arith
tokens_bytes p (b ∷ bs) =
    let h = tokens_bytes (p + 1) bs in
    by_cases (is_white b) (λ e. rw e (omega arith)) (λ e. rw e (omega (arith, join_bytes p b bs (tokens_at (p + 1) bs))))

-- ---- runs of steps

pub out_all_lem : {A B : Type 0} (f : A → B → Out A) {P : Entry → Type 0} {Q : B → Type 0} → ((a : A) (b : B) → Q b → All P (f a b).entries)
    → (a : A) {bs : List B} → All Q bs → All P (out_all f a bs).entries
out_all_lem f h a none = none
out_all_lem f h a (one {x = b} {xs = bs} q qs) = all_append (h a b q) (out_all_lem f h (f a b).state qs)

pub out_few : {A : Type 0} (f : A → Piece → Out A) (k : ℕ) {Q : Piece → Type 0} → ((a : A) (t : Piece) → Q t → length (f a t).entries ≤ k * length t.bytes)
    → (a : A) {ts : List Piece} → All Q ts → length (out_all f a ts).entries ≤ k * bytes_in ts
out_few f k h a none = omega arith
out_few f k h a (one {x = t} {xs = ts} q qs) = rw (length-append, mul-add) (omega (arith, h a t q, out_few f k h (f a t).state qs))

-- A count in the state that each step keeps.
pub out_count : {A B : Type 0} (f : A → B → Out A) (count : A → ℕ) → ((a : A) (b : B) → count (f a b).state ≡ count a + length (f a b).entries)
    → (a : A) (bs : List B) → count (out_all f a bs).state ≡ count a + length (out_all f a bs).entries
out_count f count h a [] = sym (add-zero (count a))
out_count f count h a (b ∷ bs) = rw length-append (omega (arith, h a b, out_count f count h (f a b).state bs))

-- ---- sums

abbrev pub sum_of : {A : Type 0} → (A → ℕ) → List A → ℕ
sum_of f [] = 0
sum_of f (x ∷ xs) = f x + sum_of f xs

pub sum_append : {A : Type 0} (f : A → ℕ) (xs ys : List A) → sum_of f (xs ++ ys) ≡ sum_of f xs + sum_of f ys
sum_append f [] ys = omega arith
sum_append f (x ∷ xs) ys = omega (arith, sum_append f xs ys)
