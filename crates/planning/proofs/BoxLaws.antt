-- Laws of the cards in lent words.
use Prim.Native.Nat.{ℕ, zero, suc, ◌+◌, ◌*◌, ◌-◌, ◌/◌, ◌≤◌, ◌<◌}
use mathlib.Core.Path.{◌≡◌, refl, ap, ◌∙◌}
use mathlib.Core.List.{List, ◌∷◌, ◌++◌, append_assoc}
use native.Mathlib.Omega.{arith}
use lib.Dec.{ltb}
use lib.ListN.{length, take, drop, replicate}
use lib.Seq.{drop-drop, take_at, drop_at}
use Rattle.std.specs.Simd.{first_chunks}
use borrow.Author.Tests.{ltb-false}
use Rattle.std.specs.Prelude.{Ok, is_ok}
use Rattle.tables.specs.declared.letters.Conventions.{Conventions}
use Rattle.tables.proofs.Laws.{by_cases, clash}
use Rattle.reader.specs.declared.edition.Counts.{Counts}
use Rattle.reader.specs.Store.{flat, padded}
use Rattle.reader.specs.Editions.{counts_of, counts_answer, reading_of}
use Rattle.reader.specs.EditionSteps.{FullCards, none, one}
use Rattle.planning.specs.Cards.{card_here}
use Rattle.planning.specs.PlanSteps.{cards_in}
use Rattle.planning.specs.Slips.{card_from}

-- ---- the first n cards

pub cards_count : (n : ℕ) (box : List ℕ) → length (cards_in n box) ≡ n
cards_count zero box = refl
cards_count (suc n) box = rw (cards_count n (drop 64 box))

-- The card at the next index.
here_next : (k : ℕ) (box : List ℕ) → card_here k (drop 64 box) ≡ card_here (suc k) box
here_next k box =
    let e : 64 + 64 * k ≡ 64 * suc k = omega arith in
    rw (drop-drop (64 * k) 64 box, e)

-- The k-th card.
pub card_nth : (n k : ℕ) (box : List ℕ) → k < n → card_from (cards_in n box) k ≡ card_here k box
card_nth zero k box h = absurd (omega arith)
card_nth (suc n) zero box h = refl
card_nth (suc n) (suc k) box h = card_nth n k (drop 64 box) (omega arith) ∙ here_next k box

-- The first k of n cards.
pub cards_take : (k n : ℕ) (box : List ℕ) → k ≤ n → cards_in k box ≡ take k (cards_in n box)
cards_take zero n box h = refl
cards_take (suc k) zero box h = absurd (omega arith)
cards_take (suc k) (suc n) box h = rw (cards_take k n (drop 64 box) (omega arith))

-- The first n of the blocks of 64 words.
pub chunks_take : (n m : ℕ) (box : List ℕ) → n ≤ m → take n (first_chunks 64 m box) ≡ cards_in n box
chunks_take zero m box h = refl
chunks_take (suc n) zero box h = absurd (omega arith)
chunks_take (suc n) (suc m) box h = rw (chunks_take n m (drop 64 box) (omega arith))

-- The cards from index k on.
pub cards_drop : (k n : ℕ) (box : List ℕ) → k ≤ n → drop k (cards_in n box) ≡ cards_in (n - k) (drop (64 * k) box)
cards_drop zero n box h =
    let e : n - 0 ≡ n = omega arith in
    rw e
cards_drop (suc k) zero box h = absurd (omega arith)
cards_drop (suc k) (suc n) box h =
    let e : 64 + 64 * k ≡ 64 * suc k = omega arith in
    let f : suc n - suc k ≡ n - k = omega arith in
    cards_drop k n (drop 64 box) (omega arith) ∙ rw (drop-drop (64 * k) 64 box, e, f)

-- n cards, split at the k-th.
pub cards_split : (n k : ℕ) (box : List ℕ) → k < n → cards_in n box ≡ cards_in k box ++ (card_here k box ∷ cards_in (n - suc k) (drop (64 * suc k) box))
cards_split zero k box h = absurd (omega arith)
cards_split (suc n) zero box h =
    let e : suc n - 1 ≡ n = omega arith in
    rw e
cards_split (suc n) (suc k) box h =
    let e : 64 + 64 * suc k ≡ 64 * suc (suc k) = omega arith in
    let f : suc n - suc (suc k) ≡ n - suc k = omega arith in
    rw (cards_split n k (drop 64 box) (omega arith), here_next k box, drop-drop (64 * suc k) 64 box, e, f)

-- ---- cards that were stored

-- Cards read back from the words that hold them.
pub cards_front : {xs : List (List ℕ)} (rest : List ℕ) → FullCards xs → cards_in (length xs) (flat xs ++ rest) ≡ xs
cards_front rest none = refl
cards_front rest (one {x} {xs} e w) =
    rw (append_assoc x (flat xs) rest, take_at x (flat xs ++ rest) 64 e, drop_at x (flat xs ++ rest) 64 e, cards_front rest w)

pub cards_back : (xs : List (List ℕ)) (l : ℕ) → FullCards xs → 64 * length xs ≤ l → cards_in (length xs) (padded l (flat xs)) ≡ xs
cards_back xs l w h = cards_front (replicate (l - length (flat xs)) 0) w

-- ---- a taken edition fits

-- An edition that was taken: its counts, and that everything fits.
pub record TakenFits (n : Counts) (lc le : ℕ) (k : Counts) : Type 0 where
  pub counts_are : k ≡ n
  pub cards_fit : 64 * n.boards ≤ lc
  pub entries_fit : 4 * n.entries ≤ le

verdict_fits : (lc le : ℕ) (n k : Counts) → counts_answer lc le n ≡ Ok k → TakenFits n lc le k
verdict_fits lc le n k h =
    by_cases (ltb (lc / 64) n.boards)
    (λ f. clash (ap is_ok (rw f at h)))
    (λ f.
    by_cases (ltb (le / 4) n.entries)
    (λ g. clash (ap is_ok (rw (f, g) at h)))
    (λ g.
    let q = rw (f, g) at h in
    record {
      counts_are = cc;
      cards_fit = omega (arith, ltb-false (lc / 64) n.boards f);
      entries_fit = omega (arith, ltb-false (le / 4) n.entries g);
    }))

pub taken_fits : (c : Conventions) (text : List ℕ) (lc le : ℕ) (k : Counts) → reading_of c text lc le ≡ Ok k → TakenFits (counts_of c text) lc le k
unfolding reading_of
taken_fits c text lc le k h =
    by_cases (ltb 16777215 (length text))
    (λ f. clash (ap is_ok (rw f at h)))
    (λ f. verdict_fits lc le (counts_of c text) k (rw f at h))
