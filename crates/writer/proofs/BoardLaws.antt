-- Laws of a board's groups of tags.
use Prim.Native.Nat.{ℕ, ◌+◌, ◌≤◌, ◌<◌}
use mathlib.Core.Path.{◌≡◌, refl}
use mathlib.Core.List.{List, []}
use mathlib.Core.Option as Math
use mathlib.Core.Option.{none, some}
use denote.Ref.{Bor}
use native.Mathlib.Omega.{arith}
use borrow.Author.Tests.{lt-ltb, le-ltb, ne_eqb}
use Rattle.std.proofs.Common.{Option, None, Some}
use Rattle.std.specs.Option.{MatchOption, unwrap_or}
use Rattle.tables.specs.Text.{ascii}
use Rattle.writer.specs.Tags.{or_empty, result_text}
use Rattle.writer.specs.Held.{place_bytes, items_at}
use Rattle.writer.specs.Items.{name_index, result_in, scoring_at, deal_place}

module _ (text entries : List ℕ) (first count place : ℕ) where
  pub scoring_found : place ≡ name_index (ascii "Scoring") (items_at text entries first count) → place < count
      → scoring_at text entries first count ≡ place_bytes text entries (first + place + 1)
  unfolding scoring_at
  scoring_found e h = rw (← e, lt-ltb _ _ h)

  pub scoring_none : name_index (ascii "Scoring") (items_at text entries first count) ≡ count → scoring_at text entries first count ≡ []
  unfolding scoring_at
  scoring_none e = rw (le-ltb (name_index (ascii "Scoring") (items_at text entries first count)) count (omega arith))

-- The entries before the first Deal tag.
module _ (text entries : List ℕ) (first count : ℕ) where
  pub deal_at : (o : Option ℕ)
      → MatchOption o (name_index (ascii "Deal") (items_at text entries first count) ≡ count) (λ n. (n ≡ name_index (ascii "Deal") (items_at text entries first count)) × (n < count))
      → (unwrap_or o 0 ≡ deal_place text entries first count) × (unwrap_or o 0 ≤ count)
  unfolding deal_place
  deal_at None m = (rw (le-ltb (name_index (ascii "Deal") (items_at text entries first count)) count (omega arith)), omega arith)
  deal_at (Some n) m = (rw (← m.0, lt-ltb n count m.1), omega (arith, m.1))

-- ---- the result

-- None is written as nothing; any other is written by its value.
pub no_outcome : (r : ℕ) → result_text (result_in 0 r) ≡ []
unfolding result_text
no_outcome r = refl

pub some_outcome : (met r : ℕ) → (met ≡ 0 → ⊥) → result_text (result_in met r) ≡ result_text (result_in 1 r)
unfolding result_text
some_outcome met r h = rw (ne_eqb met 0 h)

-- ---- a value

-- One that is not there is written as nothing.
pub value_put : (v : Math.Option (List ℕ)) (o : Option (Bor (List ℕ))) (e r : Bor (List ℕ))
    → r ≡ unwrap_or o e → MatchOption o (v ≡ none) (λ b. v ≡ some b.now) → e.now ≡ [] → r.now ≡ or_empty v
value_put v None e r u m z = rw (u, m) z
value_put v (Some b) e r u m z = rw (u, m)
