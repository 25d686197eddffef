-- Laws of letters: what is written is read back, in either case, by every accepted set of letters.
use Prim.Native.Nat.{ℕ, zero, suc, ◌+◌, ◌-◌, ◌≤◌, ◌<◌}
use mathlib.Core.Path.{◌≡◌, refl, sym, ap}
use mathlib.Core.Bool.{Bool, true, false, cond, not}
use mathlib.Core.List.{List, [], ◌∷◌}
use native.Mathlib.Omega.{arith}
use lib.Dec.{leb, ltb, eqb}
use Rattle.std.specs.Prelude.{Option, Some, None, unwrap_or, IfSome}
use lib.ListN.{length, take, drop, get_or, length-take, length-drop}
use lib.Seq.{get_or-take, get_or-drop}
use borrow.Author.Tests.{eqb-true, eqb-false, eq-eqb, ne_eqb, lt-ltb, le-ltb, ltb-true, ltb-false, leb-true, le-leb, lt-leb, not-true}
use Rattle.tables.specs.declared.letters.Conventions.{Conventions}
use Rattle.tables.specs.Letters.{Accepted, built_in, is_capital, capital, index_in, down_from, seat_of, suit_of, honour_of, rank_of, strain_of, seat_letter, suit_letter, strain_token, rank_letter, suit_letters, every, among, distinct, is_plain}
use Rattle.tables.proofs.Laws.{by_cases, both, neither}
use Rattle.tables.proofs.TextLaws.{above_white}

-- ---- capitals

capital_range : (b : ℕ) → is_capital b ≡ true → (65 ≤ b) × (b ≤ 90)
unfolding is_capital
capital_range b e =
    let h = both (leb 65 b) (leb b 90) e in
    (leb-true 65 b h.0, leb-true b 90 h.1)

-- A capital is read as itself, and so is its small letter.
pub capital_same : (b : ℕ) → is_capital b ≡ true → capital b ≡ b
unfolding capital
capital_same b e =
    let h = capital_range b e in
    rw (lt-ltb b 97 (omega arith))

pub capital_small : (b : ℕ) → is_capital b ≡ true → capital (b + 32) ≡ b
unfolding capital
capital_small b e =
    let h = capital_range b e in
    let d : b + 32 - 32 ≡ b = omega arith in
    rw (le-ltb (b + 32) 97 (omega arith), le-ltb 122 (b + 32) (omega arith), d)

pub capital_plain : (b : ℕ) → is_capital b ≡ true → is_plain b ≡ true
unfolding is_plain
capital_plain b e =
    let h = capital_range b e in
    rw (above_white b (omega arith), ne_eqb b 34 (λ k. omega arith), ne_eqb b 91 (λ k. omega arith), ne_eqb b 93 (λ k. omega arith), ne_eqb b 58 (λ k. omega arith), ne_eqb b 46 (λ k. omega arith), le-leb 48 b (omega arith), lt-leb b 57 (omega arith))

-- ---- places in a list

pub every_at : (p : ℕ → Bool) (l : List ℕ) (i : ℕ) → every p l ≡ true → i < length l → p (get_or l i 0) ≡ true
every_at p [] i e h = absurd (omega arith)
every_at p (x ∷ xs) zero e h = (both (p x) (every p xs) e).0
every_at p (x ∷ xs) (suc i) e h = every_at p xs i (both (p x) (every p xs) e).1 (omega arith)

not_among : (x : ℕ) (l : List ℕ) (i : ℕ) → among x l ≡ false → i < length l → eqb (get_or l i 0) x ≡ false
not_among x [] i e h = absurd (omega arith)
not_among x (y ∷ ys) zero e h = (neither (eqb y x) (among x ys) e).0
not_among x (y ∷ ys) (suc i) e h = not_among x ys i (neither (eqb y x) (among x ys) e).1 (omega arith)

eqb_flip : (x y : ℕ) → eqb x y ≡ false → eqb y x ≡ false
eqb_flip x y e = ne_eqb y x (λ k. eqb-false x y e (sym k))

-- In a list without repetition each element is found at its own place.
index_back : (l : List ℕ) (i : ℕ) → distinct l ≡ true → i < length l → index_in l (get_or l i 0) ≡ i
index_back [] i e h = absurd (omega arith)
index_back (x ∷ xs) zero e h = rw (eq-eqb x x refl)
index_back (x ∷ xs) (suc i) e h =
    let k = both (not (among x xs)) (distinct xs) e in
    let a : among x xs ≡ false = not-true (among x xs) k.0 in
    rw (eqb_flip (get_or xs i 0) x (not_among x xs i a (omega arith))) (ap suc (index_back xs i k.1 (omega arith)))

-- ---- letters compared one by one

-- The letter at place a stands first of those from a on.
letter_first : (l : List ℕ) (a n : ℕ) → a < length l → take (suc n) (drop a l) ≡ get_or l a 0 ∷ take n (drop (suc a) l)
letter_first [] a n h = absurd (omega arith)
letter_first (x ∷ xs) zero n h = refl
letter_first (x ∷ xs) (suc a) n h = letter_first xs a n (omega arith)

-- The place of x where y stands first.
index_first : (x y : ℕ) (ys : List ℕ) → index_in (y ∷ ys) x ≡ cond (eqb y x) 0 (suc (index_in ys x))
index_first x y ys = by_cases (eqb y x) (λ q. rw q) (λ q. rw q)

suit_chosen : (p q r s : Bool) → cond p 3 (cond q 2 (cond r 1 (cond s 0 4))) ≡ down_from 3 4 4 (cond p 0 (suc (cond q 0 (suc (cond r 0 (suc (cond s 0 1)))))))
suit_chosen true q r s = refl
suit_chosen false true r s = refl
suit_chosen false false true s = refl
suit_chosen false false false true = refl
suit_chosen false false false false = refl

honour_chosen : (p q r s t : Bool) → cond p 12 (cond q 11 (cond r 10 (cond s 9 (cond t 8 13)))) ≡ down_from 12 5 13 (cond p 0 (suc (cond q 0 (suc (cond r 0 (suc (cond s 0 (suc (cond t 0 1)))))))))
honour_chosen true q r s t = refl
honour_chosen false true r s t = refl
honour_chosen false false true s t = refl
honour_chosen false false false true t = refl
honour_chosen false false false false true = refl
honour_chosen false false false false false = refl

-- A suit, chosen by comparing with the letters of clubs, diamonds, hearts and spades.
pub suit_read : (c : Conventions) (b k : ℕ) → length c.letters ≡ 13 → k ≡ capital b
    → cond (eqb (get_or c.letters 4 0) k) 3 (cond (eqb (get_or c.letters 5 0) k) 2 (cond (eqb (get_or c.letters 6 0) k) 1 (cond (eqb (get_or c.letters 7 0) k) 0 4))) ≡ suit_of c b
unfolding suit_of
suit_read c b k n e =
    let l = c.letters in
    rw (
      letter_first l 4 3 (rw n (omega arith)),
      letter_first l 5 2 (rw n (omega arith)),
      letter_first l 6 1 (rw n (omega arith)),
      letter_first l 7 0 (rw n (omega arith)),
      ← e,
      index_first k (get_or l 4 0) (get_or l 5 0 ∷ get_or l 6 0 ∷ get_or l 7 0 ∷ []),
      index_first k (get_or l 5 0) (get_or l 6 0 ∷ get_or l 7 0 ∷ []),
      index_first k (get_or l 6 0) (get_or l 7 0 ∷ []),
      index_first k (get_or l 7 0) [],
    )
    (suit_chosen (eqb (get_or l 4 0) k) (eqb (get_or l 5 0) k) (eqb (get_or l 6 0) k) (eqb (get_or l 7 0) k))

-- A rank, chosen by comparing with the letters of the ten, jack, queen, king and ace.
pub honour_read : (c : Conventions) (b k : ℕ) → length c.letters ≡ 13 → k ≡ capital b
    → cond (eqb (get_or c.letters 8 0) k) 12 (cond (eqb (get_or c.letters 9 0) k) 11 (cond (eqb (get_or c.letters 10 0) k) 10 (cond (eqb (get_or c.letters 11 0) k) 9 (cond (eqb (get_or c.letters 12 0) k) 8 13)))) ≡ honour_of c b
unfolding honour_of
honour_read c b k n e =
    let l = c.letters in
    rw (
      letter_first l 8 4 (rw n (omega arith)),
      letter_first l 9 3 (rw n (omega arith)),
      letter_first l 10 2 (rw n (omega arith)),
      letter_first l 11 1 (rw n (omega arith)),
      letter_first l 12 0 (rw n (omega arith)),
      ← e,
      index_first k (get_or l 8 0) (get_or l 9 0 ∷ get_or l 10 0 ∷ get_or l 11 0 ∷ get_or l 12 0 ∷ []),
      index_first k (get_or l 9 0) (get_or l 10 0 ∷ get_or l 11 0 ∷ get_or l 12 0 ∷ []),
      index_first k (get_or l 10 0) (get_or l 11 0 ∷ get_or l 12 0 ∷ []),
      index_first k (get_or l 11 0) (get_or l 12 0 ∷ []),
      index_first k (get_or l 12 0) [],
    )
    (honour_chosen (eqb (get_or l 8 0) k) (eqb (get_or l 9 0) k) (eqb (get_or l 10 0) k) (eqb (get_or l 11 0) k) (eqb (get_or l 12 0) k))

-- The same as Options.
suit_some : (p q r s : Bool) → let suit : Option ℕ = cond p (Some 3) (cond q (Some 2) (cond r (Some 1) (cond s (Some 0) None))) in (unwrap_or suit 4 ≡ cond p 3 (cond q 2 (cond r 1 (cond s 0 4)))) × IfSome suit (λ x. x < 4)
suit_some true q r s = (refl, omega arith)
suit_some false true r s = (refl, omega arith)
suit_some false false true s = (refl, omega arith)
suit_some false false false true = (refl, omega arith)
suit_some false false false false = (refl, tt)

honour_some : (p q r s t : Bool) → let rank : Option ℕ = cond p (Some 12) (cond q (Some 11) (cond r (Some 10) (cond s (Some 9) (cond t (Some 8) None)))) in (unwrap_or rank 13 ≡ cond p 12 (cond q 11 (cond r 10 (cond s 9 (cond t 8 13))))) × IfSome rank (λ x. x < 13)
honour_some true q r s t = (refl, omega arith)
honour_some false true r s t = (refl, omega arith)
honour_some false false true s t = (refl, omega arith)
honour_some false false false true t = (refl, omega arith)
honour_some false false false false true = (refl, omega arith)
honour_some false false false false false = (refl, tt)

pub suit_answer : (c : Conventions) (b k : ℕ) → length c.letters ≡ 13 → k ≡ capital b
    → let l = c.letters in
    let suit : Option ℕ = cond (eqb (get_or l 4 0) k) (Some 3) (cond (eqb (get_or l 5 0) k) (Some 2) (cond (eqb (get_or l 6 0) k) (Some 1) (cond (eqb (get_or l 7 0) k) (Some 0) None))) in
    (unwrap_or suit 4 ≡ suit_of c b) × IfSome suit (λ x. x < 4)
suit_answer c b k n e =
    let l = c.letters in
    rw (← suit_read c b k n e) (suit_some (eqb (get_or l 4 0) k) (eqb (get_or l 5 0) k) (eqb (get_or l 6 0) k) (eqb (get_or l 7 0) k))

pub honour_answer : (c : Conventions) (b k : ℕ) → length c.letters ≡ 13 → k ≡ capital b
    → let l = c.letters in
    let rank : Option ℕ = cond (eqb (get_or l 8 0) k) (Some 12) (cond (eqb (get_or l 9 0) k) (Some 11) (cond (eqb (get_or l 10 0) k) (Some 10) (cond (eqb (get_or l 11 0) k) (Some 9) (cond (eqb (get_or l 12 0) k) (Some 8) None)))) in
    (unwrap_or rank 13 ≡ honour_of c b) × IfSome rank (λ x. x < 13)
honour_answer c b k n e =
    let l = c.letters in
    rw (← honour_read c b k n e) (honour_some (eqb (get_or l 8 0) k) (eqb (get_or l 9 0) k) (eqb (get_or l 10 0) k) (eqb (get_or l 11 0) k) (eqb (get_or l 12 0) k))

-- ---- written and read back

module _ (c : Conventions) (ok : Accepted c) where
  letter_capital : (i : ℕ) → i < 13 → is_capital (get_or c.letters i 0) ≡ true
  letter_capital i h = every_at is_capital c.letters i ok.capitals (rw ok.thirteen h)

  -- A letter is no white space, quote, bracket, colon, dot or digit.
  pub letter_plain : (i : ℕ) → i < 13 → is_plain (get_or c.letters i 0) ≡ true
  letter_plain i h = capital_plain (get_or c.letters i 0) (letter_capital i h)

  group_length : (n a : ℕ) → a + n ≤ 13 → length (take n (drop a c.letters)) ≡ n
  group_length n a h = simp (length-take, length-drop, ok.thirteen) (omega arith)

  group_at : (n a i : ℕ) → i < n → get_or (take n (drop a c.letters)) i 0 ≡ get_or c.letters (a + i) 0
  group_at n a i h = rw (get_or-take, get_or-drop)

  -- The letter at place i of a group is found at i.
  group_back : (n a i : ℕ) → a + n ≤ 13 → i < n → distinct (take n (drop a c.letters)) ≡ true
      → index_in (take n (drop a c.letters)) (capital (get_or c.letters (a + i) 0)) ≡ i
  group_back n a i h hi d =
      rw (capital_same (get_or c.letters (a + i) 0) (letter_capital (a + i) (omega arith)), ← group_at n a i hi)
      (index_back (take n (drop a c.letters)) i d (rw (group_length n a h) hi))

  pub seat_back : (s : ℕ) → s < 4 → seat_of c (seat_letter c s) ≡ s
  unfolding seat_of
  seat_back s h =
      let e : 0 + s ≡ s = omega arith in
      rw e at (group_back 4 0 s (omega arith) h ok.seats_differ)

  pub suit_back : (s : ℕ) → s < 4 → suit_of c (suit_letter c s) ≡ s
  unfolding suit_of
  suit_back s h =
      let e : 4 + (3 - s) ≡ 7 - s = omega arith in
      let d : 3 - (3 - s) ≡ s = omega arith in
      rw (rw e at (group_back 4 4 (3 - s) (omega arith) (omega arith) ok.suits_differ), lt-ltb (3 - s) 4 (omega arith), d)

  honour_back : (r : ℕ) → 8 ≤ r → r < 13 → honour_of c (get_or c.letters (20 - r) 0) ≡ r
  unfolding honour_of
  honour_back r l h =
      let e : 8 + (12 - r) ≡ 20 - r = omega arith in
      let d : 12 - (12 - r) ≡ r = omega arith in
      rw (rw e at (group_back 5 8 (12 - r) (omega arith) (omega arith) ok.honours_differ), lt-ltb (12 - r) 5 (omega arith), d)

  pub rank_back : (r : ℕ) → r < 13 → rank_of c (rank_letter c r) ≡ r
  unfolding rank_of
  rank_back r h =
      by_cases (ltb r 8)
      (λ t.
      let g = ltb-true r 8 t in
      let d : 50 + r - 50 ≡ r = omega arith in
      rw (t, le-ltb (50 + r) 50 (omega arith), le-ltb 57 (50 + r) (omega arith), d))
      (λ t.
      let g = ltb-false r 8 t in
      let k = capital_range (get_or c.letters (20 - r) 0) (letter_capital (20 - r) (omega arith)) in
      rw (t, le-ltb (get_or c.letters (20 - r) 0) 50 (omega arith), lt-ltb 57 (get_or c.letters (20 - r) 0) (omega arith))
      (honour_back r (omega arith) h))

  suit_not_n : (s : ℕ) → s < 4 → eqb (capital (suit_letter c s)) 78 ≡ false
  suit_not_n s h =
      let e : 4 + (3 - s) ≡ 7 - s = omega arith in
      rw (capital_same (suit_letter c s) (letter_capital (7 - s) (omega arith)))
      (rw e at (rw (group_at 4 4 (3 - s) (omega arith)) at (not_among 78 (suit_letters c) (3 - s) ok.no_suit_n (rw (group_length 4 4 (omega arith)) (omega arith)))))

  pub strain_back : (s : ℕ) → s < 5 → strain_of c (strain_token c s) ≡ s
  unfolding capital
  strain_back s h =
      by_cases (eqb s 4)
      (λ t. rw t (sym (eqb-true s 4 t)))
      (λ t.
      let g : s < 4 = omega (arith, eqb-false s 4 t) in
      rw t (rw (suit_not_n s g, suit_back s g, lt-ltb s 4 g)))

-- The built-in letters are accepted.
pub built_in_accepted : Accepted built_in
unfolding built_in is_capital
built_in_accepted = record {
  thirteen = refl;
  capitals = refl;
  seats_differ = refl;
  suits_differ = refl;
  honours_differ = refl;
  no_suit_n = refl;
  no_suit_x = refl;
}
