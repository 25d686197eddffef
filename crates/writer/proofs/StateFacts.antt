-- Facts of the states of boards: what they look at, what stands behind near and twin, and the boards one by one.
use Prim.Native.Nat.{ℕ, zero, suc, ◌+◌, ◌≤◌, ◌<◌}
use mathlib.Core.Path.{◌≡◌, refl, sym, ap, ◌∙◌}
use mathlib.Core.Bool.{Bool, true, false, cond}
use mathlib.Core.List.{List, [], ◌∷◌, ◌++◌, map, append-nil}
use native.Mathlib.Omega.{arith}
use lib.Dec.{eqb}
use lib.ListN.{length, take}
use lib.Seq.{append_snoc, length-take-le}
use borrow.Author.Tests.{ne_eqb}
use Rattle.tables.proofs.Laws.{by_cases, both, clash}
use Rattle.reader.specs.Words.{same}
use Rattle.reader.proofs.WordLaws.{same_is}
use Rattle.planning.specs.declared.state.BoardState.{BoardState}
use Rattle.planning.specs.declared.state.BoardState.TheVariants.{Blank, Own, Old, Near, Twin, Solve}
use Rattle.planning.specs.Cards.{card_deal, is_whole, has_table, has_deal, fits}
use Rattle.planning.specs.States.{BoardPlan, first_from, first_with, or_else, state_number, state_of, board_plans_from, board_plans}
use Rattle.planning.specs.Slips.{count_of, card_from}
use Rattle.planning.specs.PlanSteps.{tally}
use Rattle.planning.proofs.FoundLaws.{found, found_none, none_found, card_among, numbered, take_card}

-- ---- cards that no state tells apart

-- Both whole or neither, both with a table or neither, with the same deal.
pub record Alike (x y : List ℕ) : Type 0 where
  pub whole : is_whole x ≡ is_whole y
  pub table : has_table x ≡ has_table y
  pub deal : card_deal x ≡ card_deal y

-- Card by card.
pub data Likes : List (List ℕ) → List (List ℕ) → Type 0 where
  none : Likes [] []
  one : {x y : List ℕ} {xs ys : List (List ℕ)} → Alike x y → Likes xs ys → Likes (x ∷ xs) (y ∷ ys)

pub likes_self : (xs : List (List ℕ)) → Likes xs xs
likes_self [] = none
likes_self (x ∷ xs) = one (record { whole = refl; table = refl; deal = refl }) (likes_self xs)

pub likes_append : {xs ys us vs : List (List ℕ)} → Likes xs ys → Likes us vs → Likes (xs ++ us) (ys ++ vs)
likes_append none m = m
likes_append (one a l) m = one a (likes_append l m)

pub likes_take : (k : ℕ) {xs ys : List (List ℕ)} → Likes xs ys → Likes (take k xs) (take k ys)
likes_take zero l = none
likes_take (suc k) none = none
likes_take (suc k) (one a l) = one a (likes_take k l)

-- By their numbers.
pub likes_nth : (xs ys : List (List ℕ)) → length xs ≡ length ys → ((i : ℕ) → i < length ys → Alike (card_from xs i) (card_from ys i))
    → Likes xs ys
likes_nth [] [] e h = none
likes_nth [] (y ∷ ys) e h = absurd (omega arith)
likes_nth (x ∷ xs) [] e h = absurd (omega arith)
likes_nth (x ∷ xs) (y ∷ ys) e h = one (h 0 (omega arith)) (likes_nth xs ys (omega arith) (λ i l. h (suc i) (omega arith)))

fits_alike : (tabled : Bool) (d : List ℕ) {x y : List ℕ} → Alike x y → fits tabled d x ≡ fits tabled d y
unfolding fits has_deal
fits_alike tabled d a = rw (a.whole, a.table, a.deal)

first_likes : (tabled : Bool) (d : List ℕ) (p : ℕ) {xs ys : List (List ℕ)} → Likes xs ys
    → first_from (fits tabled d) p xs ≡ first_from (fits tabled d) p ys
first_likes tabled d p none = refl
first_likes tabled d p (one a l) = rw (fits_alike tabled d a, first_likes tabled d (p + 1) l)

-- A state is the same among alike cards.
pub state_likes : (os : List (List ℕ)) {ns ms es fs : List (List ℕ)} (card : List ℕ) → Likes ns ms → Likes es fs
    → state_of os ns es card ≡ state_of os ms fs card
unfolding state_of first_with
state_likes os card n e = rw (first_likes true (card_deal card) 1 n, first_likes false (card_deal card) 1 e)

-- ---- what stands behind near and twin

suc_not : (k : ℕ) → eqb (suc k) 0 ≡ false
suc_not k = ne_eqb (suc k) 0 (λ e. omega arith)

-- What near and twin say of the search for their sources.
abbrev Sought : List (List ℕ) → List (List ℕ) → List (List ℕ) → List ℕ → BoardState → Type 0
Sought os ns es x Blank = Unit {0}
Sought os ns es x Own = Unit {0}
Sought os ns es x (Old k) = Unit {0}
Sought os ns es x (Near k) = first_with true (card_deal x) ns ≡ k
Sought os ns es x (Twin k) = (first_with true (card_deal x) os ≡ 0) × (first_with true (card_deal x) ns ≡ 0) × (first_with false (card_deal x) es ≡ k)
Sought os ns es x Solve = Unit {0}

module _ (os ns es : List (List ℕ)) (x : List ℕ) where
  sought : Sought os ns es x (state_of os ns es x)
  unfolding state_of
  sought =
      let d = card_deal x in
      go (is_whole x) (has_table x) (first_with true d os) (first_with true d ns) (first_with false d es) refl refl refl
    where
      go : (w t : Bool) (a b c : ℕ) → first_with true (card_deal x) os ≡ a → first_with true (card_deal x) ns ≡ b
          → first_with false (card_deal x) es ≡ c
          → Sought os ns es x (cond w (cond t Own (or_else Old a (or_else Near b (or_else Twin c Solve)))) Blank)
      go false t a b c ea eb ec = tt
      go true true a b c ea eb ec = tt
      go true false (suc a) b c ea eb ec = rw (suc_not a) tt
      go true false zero (suc b) c ea eb ec = rw (suc_not b) eb
      go true false zero zero (suc c) ea eb ec = rw (suc_not c) (ea, eb, ec)
      go true false zero zero zero ea eb ec = tt

-- The state of the board number i, from 0.
abbrev pub state_here : List (List ℕ) → List (List ℕ) → ℕ → BoardState
state_here os ns i = state_of os ns (take i ns) (card_from ns i)

-- The source of near is an own board.
pub near_own : (os ns es : List (List ℕ)) (x : List ℕ) (i : ℕ) → state_of os ns es x ≡ Near (suc i)
    → (i < length ns) × (state_here os ns i ≡ Own)
unfolding first_with fits has_deal state_of
near_own os ns es x i e =
    let d = card_deal x in
    let s : first_from (fits true d) 1 ns ≡ suc i = rw e at (sought os ns es x) in
    let f = found (fits true d) 1 (suc i) ns s (λ z. omega arith) in
    let q : f.index ≡ i = omega (arith, f.number) in
    let y = card_from ns i in
    let h = both (has_deal d y) (has_table y) (rw q at f.passes) in
    let w = both (is_whole y) (same d (card_deal y)) h.0 in
    (omega (arith, f.below), rw (w.0, h.1))

-- The source of a twin, the first board before it with the deal, is a solve board.
module _ (os ns : List (List ℕ)) (k : ℕ) (inside : k ≤ length ns) (x : List ℕ) (i : ℕ) where
  none_before : (d : List ℕ) → i < k → ((j : ℕ) → j < i → fits false d (card_from (take k ns) j) ≡ false) → first_with false d (take i ns) ≡ 0
  unfolding first_with
  none_before d l before =
      none_found (fits false d) 1 (take i ns)
      (λ z a.
      let n = numbered a in
      let b : n.number < i = omega (arith, n.below, length-take-le i ns (omega arith)) in
      let q : card_from (take k ns) n.number ≡ z =
      take_card k n.number ns (omega arith) ∙ sym (take_card i n.number ns b) ∙ n.is in
      rw q at (before n.number b))

  -- A board with the deal d, where no board with it has a table and no board before it has the deal.
  solves : (d y : List ℕ) → has_deal d y ≡ true → fits true d y ≡ false → first_with true d os ≡ 0 → first_with true d ns ≡ 0
      → first_with false d (take i ns) ≡ 0
      → state_of os ns (take i ns) y ≡ Solve
  unfolding state_of fits has_deal
  solves d y h f eo en et =
      let w = both (is_whole y) (same d (card_deal y)) h in
      let t : has_table y ≡ false = by_cases (has_table y) (λ q. clash (sym (rw (w.0, w.1, q) at f))) (λ q. q) in
      rw (w.0, t, ← same_is d (card_deal y) w.1, eo, en, et)

  pub twin_solve : state_of os ns (take k ns) x ≡ Twin (suc i) → (i < k) × (state_here os ns i ≡ Solve)
  unfolding first_with fits
  twin_solve e =
      let d = card_deal x in
      let s = rw e at (sought os ns (take k ns) x) in
      let f = found (fits false d) 1 (suc i) (take k ns) s.2 (λ z. omega arith) in
      let q : f.index ≡ i = omega (arith, f.number) in
      let l : i < k = omega (arith, f.below, length-take-le k ns inside) in
      let y = card_from ns i in
      let p : fits false d y ≡ true = rw (q, take_card k i ns l) at f.passes in
      let h : has_deal d y ≡ true = (both (has_deal d y) true p).0 in
      let g = found_none (fits true d) 1 ns (omega arith) s.1 y (card_among ns i (omega arith)) in
      (l, solves d y h g s.0 s.1 (none_before d l (rw q at f.fails_before)))

-- ---- the boards one by one

-- The board number i, from 0.
abbrev pub board_of : List (List ℕ) → List (List ℕ) → ℕ → BoardPlan
board_of os ns i = record { position = i + 1; card = card_from ns i; state = state_here os ns i }

map_from : (f : BoardPlan → List ℕ) (os ns : List (List ℕ)) (p : ℕ) (e xs : List (List ℕ)) (i : ℕ) → i < length xs
    → card_from (map f (board_plans_from os ns p e xs)) i
    ≡ f (record { position = i + p; card = card_from xs i; state = state_of os ns (e ++ take i xs) (card_from xs i) })
map_from f os ns p e [] i h = absurd (omega arith)
map_from f os ns p e (x ∷ xs) zero h =
    let z : 0 + p ≡ p = omega arith in
    rw (append-nil, z)
map_from f os ns p e (x ∷ xs) (suc i) h =
    let z : i + (p + 1) ≡ suc i + p = omega arith in
    map_from f os ns (p + 1) (e ++ (x ∷ [])) xs i (omega arith) ∙ rw (append_snoc e x (take i xs), z)

-- What is made of each board.
pub map_plans : (f : BoardPlan → List ℕ) (os ns : List (List ℕ)) (i : ℕ) → i < length ns
    → card_from (map f (board_plans os ns)) i ≡ f (board_of os ns i)
unfolding board_plans
map_plans f os ns i h = map_from f os ns 1 [] ns i h

swap : (a b : Bool) (n : ℕ) → cond a (cond b (n + 1) n + 1) (cond b (n + 1) n) ≡ cond b (cond a (n + 1) n + 1) (cond a (n + 1) n)
swap true true n = refl
swap true false n = refl
swap false true n = refl
swap false false n = refl

count_from : (c : ℕ) (os ns : List (List ℕ)) (p : ℕ) (e xs : List (List ℕ)) (i : ℕ) → i < length xs
    → count_of c (take (suc i) (board_plans_from os ns p e xs))
    ≡ tally c (state_of os ns (e ++ take i xs) (card_from xs i)) (count_of c (take i (board_plans_from os ns p e xs)))
count_from c os ns p e [] i h = absurd (omega arith)
count_from c os ns p e (x ∷ xs) zero h = rw append-nil
count_from c os ns p e (x ∷ xs) (suc i) h =
    let js = board_plans_from os ns (p + 1) (e ++ (x ∷ [])) xs in
    let s = state_of os ns (e ++ (x ∷ take i xs)) (card_from xs i) in
    let r : count_of c (take (suc i) js) ≡ tally c s (count_of c (take i js)) =
    count_from c os ns (p + 1) (e ++ (x ∷ [])) xs i (omega arith) ∙ rw (append_snoc e x (take i xs)) in
    ap (tally c (state_of os ns e x)) r ∙ swap (eqb (state_number (state_of os ns e x)) c) (eqb (state_number s) c) (count_of c (take i js))

-- One board more is counted.
pub count_more : (c : ℕ) (os ns : List (List ℕ)) (i : ℕ) → i < length ns
    → count_of c (take (i + 1) (board_plans os ns)) ≡ tally c (state_here os ns i) (count_of c (take i (board_plans os ns)))
unfolding board_plans
count_more c os ns i h =
    let z : i + 1 ≡ suc i = omega arith in
    rw z (count_from c os ns 1 [] ns i h)
