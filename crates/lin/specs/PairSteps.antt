-- How the code goes from pair to pair.
use Rattle.std.specs.Prelude.{ℕ, ◌+◌, ◌-◌, ◌≤◌, ◌<◌, ◌≡◌, Option, Some, None, List, [], ◌∷◌, ◌++◌, length, take, drop}
use Rattle.std.specs.Iterator.{Count, at_most}
use Rattle.lin.specs.declared.pairs.PairAt.{PairAt}
use Rattle.lin.specs.declared.pairs.Pairs.{Pairs}
use Rattle.lin.specs.Pairs.{Pair, pairs_of}

-- ---- pairs

-- The part of a text from start to end.
abbrev pub between : List ℕ → ℕ → ℕ → List ℕ
between text start end = take (end - start) (drop start text)

-- A pair, as the code gives it.
abbrev pub pair_of : PairAt → Pair
pair_of p = record { command = p.command; value = p.value.now }

-- The pairs that are left.
abbrev pub pairs_left : Pairs → List Pair
pairs_left s = pairs_of (drop s.at s.text.now)

-- The pairs of a text that goes on behind x are those of x and those of what follows.
abbrev pub Sealed : List ℕ → Type 0
Sealed x = (y : List ℕ) → pairs_of (x ++ y) ≡ pairs_of x ++ pairs_of y

-- The pair p is the first of those that are left; the others stand from the place behind it on.
pub record IsNext (s : Pairs) (p : PairAt) (t : Pairs) : Type 0 where
  pub pairs_are : pairs_left s ≡ pair_of p ∷ pairs_left t
  pub alone : pairs_of (between s.text.now s.at p.end) ≡ pair_of p ∷ []
  pub sealed : p.end ≤ length s.text.now → Sealed (between s.text.now s.at p.end)
  pub same_text : t.text ≡ s.text
  pub place : t.at ≡ p.end
  pub behind : s.at + 1 < p.end
  pub inside : p.end ≤ length s.text.now + 1

abbrev pub NextIs : Pairs → Option PairAt → Pairs → Type 0
NextIs s (Some p) t = IsNext s p t
NextIs s None t = pairs_left s ≡ []

-- No more pairs come than bytes, and one.
abbrev pub pairs_room : Pairs → Count
pairs_room s = at_most (length s.text.now + 1 - s.at)
