-- Laws of the search for the first card that passes a test.
use Prim.Native.Nat.{ℕ, zero, suc, ◌+◌, ◌≤◌, ◌<◌}
use mathlib.Core.Path.{◌≡◌, refl, sym, ◌∙◌}
use mathlib.Core.Logic.{◌↔◌}
use mathlib.Core.Bool.{Bool, true, false}
use mathlib.Core.List.{List, [], ◌∷◌, ◌++◌}
use native.Mathlib.Omega.{arith}
use lib.ListN.{length, take}
use Rattle.tables.proofs.Laws.{by_cases, clash}
use Rattle.planning.specs.States.{first_from}
use Rattle.planning.specs.Slips.{card_from, card_at}
use Rattle.planning.specs.Demands.{Among, here, there, None, First}

-- ---- cards by number

pub card_among : (xs : List (List ℕ)) (i : ℕ) → i < length xs → Among (card_from xs i) xs
card_among [] i h = absurd (omega arith)
card_among (x ∷ xs) zero h = here
card_among (x ∷ xs) (suc i) h = there (card_among xs i (omega arith))

-- It is the first, or one of the others.
pub among_cases : (P : List ℕ → Type 0) {x y : List ℕ} {xs : List (List ℕ)} → Among y (x ∷ xs) → P x → (Among y xs → P y) → P y
among_cases P here p f = p
among_cases P (there a) p f = f a

-- A card of a list has a number.
pub record Numbered (x : List ℕ) (xs : List (List ℕ)) : Type 0 where
  pub number : ℕ
  pub below : number < length xs
  pub is : card_from xs number ≡ x

pub numbered : {x : List ℕ} {xs : List (List ℕ)} → Among x xs → Numbered x xs
numbered here = record { number = 0; below = omega arith; is = refl }
numbered (there a) = let n = numbered a in record { number = suc n.number; below = omega (arith, n.below); is = n.is }

pub among_right : {x : List ℕ} (xs : List (List ℕ)) {ys : List (List ℕ)} → Among x ys → Among x (xs ++ ys)
among_right [] a = a
among_right (x ∷ xs) a = there (among_right xs a)

pub among_take : {x : List ℕ} (n : ℕ) (xs : List (List ℕ)) → Among x (take n xs) → Among x xs
among_take zero xs a = elim a [ ]
among_take (suc n) [] a = elim a [ ]
among_take (suc n) (y ∷ ys) here = here
among_take (suc n) (y ∷ ys) (there a) = there (among_take n ys a)

pub take_card : (n i : ℕ) (xs : List (List ℕ)) → i < n → card_from (take n xs) i ≡ card_from xs i
take_card zero i xs h = absurd (omega arith)
take_card (suc n) i [] h = refl
take_card (suc n) zero (x ∷ xs) h = refl
take_card (suc n) (suc i) (x ∷ xs) h = take_card n i xs (omega arith)

-- ---- the search

-- Found as the card number i, from 0.
pub record FoundAt (test : List ℕ → Bool) (k m : ℕ) (xs : List (List ℕ)) : Type 0 where
  pub index : ℕ
  pub number : m ≡ k + index
  pub below : index < length xs
  pub passes : test (card_from xs index) ≡ true
  pub fails_before : (j : ℕ) → j < index → test (card_from xs j) ≡ false

pub found : (test : List ℕ → Bool) (k m : ℕ) (xs : List (List ℕ)) → first_from test k xs ≡ m → (m ≡ 0 → ⊥) → FoundAt test k m xs
found test k m [] e n = absurd (n (sym e))
found test k m (x ∷ xs) e n =
    by_cases (test x)
    (λ t. let h = rw t at e in record { index = 0; number = omega arith; below = omega arith; passes = t; fails_before = λ j i. absurd (omega arith) })
    (λ t.
    let f = found test (k + 1) m xs (rw t at e) n in
    record {
      index = suc f.index;
      number = omega (arith, f.number);
      below = omega (arith, f.below);
      passes = f.passes;
      fails_before = before f.index f.fails_before t;
    })
  where
    before : (i : ℕ) → ((j : ℕ) → j < i → test (card_from xs j) ≡ false) → test x ≡ false → (j : ℕ) → j < suc i → test (card_from (x ∷ xs) j) ≡ false
    before i g t zero h = t
    before i g t (suc j) h = g j (omega arith)

pub found_none : (test : List ℕ → Bool) (k : ℕ) (xs : List (List ℕ)) → 0 < k → first_from test k xs ≡ 0 → (x : List ℕ) → Among x xs → test x ≡ false
found_none test k [] h e y a = elim a [ ]
found_none test k (x ∷ xs) h e y a =
    by_cases (test x)
    (λ t. let z = rw t at e in absurd (omega arith))
    (λ t. among_cases (λ z. test z ≡ false) a t (λ b. found_none test (k + 1) xs (omega arith) (rw t at e) y b))

pub none_found : (test : List ℕ → Bool) (k : ℕ) (xs : List (List ℕ)) → ((x : List ℕ) → Among x xs → test x ≡ false) → first_from test k xs ≡ 0
none_found test k [] h = refl
none_found test k (x ∷ xs) h = rw (h x here) (none_found test (k + 1) xs (λ y a. h y (there a)))

pub found_first : (test : List ℕ → Bool) (k i : ℕ) (xs : List (List ℕ)) → i < length xs → test (card_from xs i) ≡ true
    → ((j : ℕ) → j < i → test (card_from xs j) ≡ false) → first_from test k xs ≡ k + i
found_first test k i [] h t g = absurd (omega arith)
found_first test k zero (x ∷ xs) h t g = rw t (omega arith)
found_first test k (suc i) (x ∷ xs) h t g =
    rw (g 0 (omega arith)) (found_first test (k + 1) i xs (omega arith) t (λ j l. g (suc j) (omega arith)) ∙ omega arith)

-- ---- the same with what the test says of a card

abbrev pub Tells : (List ℕ → Bool) → (List ℕ → Type 0) → List (List ℕ) → Type 0
Tells test P xs = (x : List ℕ) → Among x xs → (test x ≡ true) ↔ P x

module _ (test : List ℕ → Bool) (P : List ℕ → Type 0) (xs : List (List ℕ)) (tells : Tells test P xs) where
  no_pass : (x : List ℕ) → Among x xs → (P x → ⊥) → test x ≡ false
  no_pass x a n = by_cases (test x) (λ t. absurd (n ((tells x a).0 t))) (λ t. t)

  no_hold : (x : List ℕ) → Among x xs → test x ≡ false → P x → ⊥
  no_hold x a t p = clash (sym t ∙ (tells x a).1 p)

  pub zero_none : first_from test 1 xs ≡ 0 → None P xs
  zero_none e x a p = no_hold x a (found_none test 1 xs (omega arith) e x a) p

  pub none_zero : None P xs → first_from test 1 xs ≡ 0
  none_zero n = none_found test 1 xs (λ x a. no_pass x a (n x a))

  pub found_is_first : (k : ℕ) → first_from test 1 xs ≡ suc k → First P xs (suc k)
  found_is_first k e =
      let f = found test 1 (suc k) xs e (λ z. omega arith) in
      let i : f.index ≡ k = omega (arith, f.number) in
      let b : k < length xs = omega (arith, f.below) in
      record {
        from_one = omega arith;
        is_there = omega arith;
        holds = (tells (card_from xs k) (card_among xs k b)).0 (rw i at f.passes);
        none_before = before (rw i at f.fails_before) b;
      }
    where
      before : {k : ℕ} → ((j : ℕ) → j < k → test (card_from xs j) ≡ false) → k < length xs → (i : ℕ) → 1 ≤ i → i < suc k → P (card_at xs i) → ⊥
      before g b zero o l p = omega arith
      before g b (suc j) o l p = no_hold (card_from xs j) (card_among xs j (omega arith)) (g j (omega arith)) p

  pub first_is_found : (k : ℕ) → First P xs k → first_from test 1 xs ≡ k
  first_is_found zero f = absurd (omega (arith, f.from_one))
  first_is_found (suc k) f =
      let b : k < length xs = omega (arith, f.is_there) in
      found_first test 1 k xs b ((tells (card_from xs k) (card_among xs k b)).1 f.holds)
      (λ j l. no_pass (card_from xs j) (card_among xs j (omega arith)) (f.none_before (suc j) (omega arith) (omega arith)))
      ∙ omega arith
