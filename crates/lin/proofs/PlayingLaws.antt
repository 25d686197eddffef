-- Laws of the cards of a text, and of the lines of their tricks.
use Prim.Native.Nat.{ℕ, ◌+◌}
use mathlib.Core.Path.{◌≡◌}
use mathlib.Core.Bool.{◌&&◌}
use mathlib.Core.List.{List, [], ◌∷◌, ◌++◌}
use lib.Dec.{ltb}
use borrow.Author.Tests.{eq-eqb, ne_eqb}
use Rattle.tables.specs.declared.letters.Conventions.{Conventions}
use Rattle.tables.specs.Text.{trimmed}
use Rattle.lin.specs.declared.pairs.Command.TheVariants.{Pc}
use Rattle.lin.specs.declared.playing.LinTrick.{LinTrick}
use Rattle.lin.specs.Pairs.{is_pair}
use Rattle.lin.specs.Playing.{card_in, cards_played}
use Rattle.lin.specs.PlayingSteps.{card_at, trick_text, taken, next_trick, last_line, trick_texts}
use Rattle.tables.proofs.Laws.{by_cases}
use Rattle.lin.proofs.PairLaws.{Gives}

-- ---- the cards

pub cards_given : (c : Conventions) → Gives (card_at c) (cards_played c)
unfolding card_at
cards_given c = record { first = λ p ps. by_cases (is_pair Pc p && ltb (card_in c (trimmed p.value)) 52) (λ t. rw t) (λ t. rw t) }

-- ---- the lines from an open trick on: u is the trick t with the card k

module _ (c : Conventions) (lead trump : ℕ) (t : LinTrick) where
  pub tricks_end : (cs : List ℕ) → cs ≡ [] → trick_texts c lead trump t cs ≡ last_line c lead t
  tricks_end cs e = rw e

  pub tricks_full : (u v : LinTrick) (k : ℕ) (cs ks : List ℕ) → cs ≡ k ∷ ks → u ≡ taken t k → u.count ≡ 4 → v ≡ next_trick trump u → trick_texts c lead trump t cs ≡ trick_text c lead u ++ trick_texts c lead trump v ks
  tricks_full u v k cs ks a e h w =
      let d : t.count + 1 ≡ 4 = rw e at h in
      rw (a, w, e, eq-eqb (t.count + 1) 4 d)

  pub tricks_more : (u : LinTrick) (k : ℕ) (cs ks : List ℕ) → cs ≡ k ∷ ks → u ≡ taken t k → (u.count ≡ 4 → ⊥) → trick_texts c lead trump t cs ≡ trick_texts c lead trump u ks
  tricks_more u k cs ks a e h =
      let d : t.count + 1 ≡ 4 → ⊥ = rw e at h in
      rw (a, e, ne_eqb (t.count + 1) 4 d)
