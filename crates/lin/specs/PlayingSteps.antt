-- How the code puts the lines of a play, card by card.
use Rattle.std.specs.Prelude.{ℕ, ◌+◌, ◌≤◌, cond, ◌&&◌, Option, Some, None, List, [], ◌∷◌, ◌++◌, eqb, ltb}
use Rattle.tables.specs.declared.letters.Conventions.{Conventions}
use Rattle.tables.specs.Text.{trimmed}
use Rattle.reader.specs.Play.{no_slots, with_slot, winner_of, slot_of}
use Rattle.reader.specs.TokenSteps.{Low}
use Rattle.lin.specs.declared.playing.LinTrick.{LinTrick}
use Rattle.lin.specs.declared.pairs.Command.TheVariants.{Pc}
use Rattle.lin.specs.Pairs.{Pair, is_pair}
use Rattle.lin.specs.Playing.{card_in, slot_at, slot_word}

-- The card of a pair, where it is one.
unfoldable pub card_at : Conventions → Pair → Option ℕ
card_at c p = cond (is_pair Pc p && ltb (card_in c (trimmed p.value)) 52) (Some (card_in c (trimmed p.value))) None

pub record FineTrick (t : LinTrick) : Type 0 where
  pub leader_low : t.leader ≤ 255
  pub slots_low : Low t.slots

abbrev pub word_text : Conventions → ℕ → LinTrick → ℕ → List ℕ
word_text c lead t j = slot_word c (slot_at t.slots (slot_of lead j t.leader))

-- A trick's line with its LF (10); blanks (32) between the words.
unfoldable pub trick_text : Conventions → ℕ → LinTrick → List ℕ
trick_text c lead t =
    word_text c lead t 0 ++ (32 ∷ []) ++ word_text c lead t 1 ++ (32 ∷ []) ++ word_text c lead t 2 ++ (32 ∷ []) ++ word_text c lead t 3 ++ (10 ∷ [])

abbrev pub empty_trick : ℕ → LinTrick
empty_trick leader = record { leader = leader; slots = no_slots; count = 0 }

abbrev pub taken : LinTrick → ℕ → LinTrick
taken t card = record { leader = t.leader; slots = with_slot t.slots t.count card; count = t.count + 1 }

abbrev pub next_trick : ℕ → LinTrick → LinTrick
next_trick trump t = empty_trick (winner_of trump t.leader t.slots)

unfoldable pub last_line : Conventions → ℕ → LinTrick → List ℕ
last_line c lead t = cond (eqb t.count 0) [] (trick_text c lead t)

-- The lines from the open trick t on.
abbrev pub trick_texts : Conventions → ℕ → ℕ → LinTrick → List ℕ → List ℕ
trick_texts c lead trump t [] = last_line c lead t
trick_texts c lead trump t (k ∷ ks) =
    cond (eqb (t.count + 1) 4)
    (trick_text c lead (taken t k) ++ trick_texts c lead trump (next_trick trump (taken t k)) ks)
    (trick_texts c lead trump (taken t k) ks)
