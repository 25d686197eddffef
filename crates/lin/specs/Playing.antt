-- The cards (`pc`), their tricks, and the data lines of the play.
use Rattle.std.specs.Prelude.{ℕ, cond, ◌&&◌, List, [], ◌∷◌, map, eqb, ltb, length}
use Rattle.tables.specs.declared.letters.Conventions.{Conventions}
use Rattle.tables.specs.Text.{ascii, trimmed}
use Rattle.reader.specs.declared.play.Slots.{Slots}
use Rattle.reader.specs.Words.{card_named, card_token}
use Rattle.reader.specs.Play.{winner_of, slot_of}
use Rattle.reader.specs.Plain.{PlainTrick}
use Rattle.writer.specs.Sections.{spaced}
use Rattle.lin.specs.declared.pairs.Command.TheVariants.{Pc}
use Rattle.lin.specs.Pairs.{Pair, is_pair}

-- ---- cards

-- A card is exactly a suit and a rank: a longer form is none (52).
unfoldable pub card_in : Conventions → List ℕ → ℕ
card_in c t = cond (eqb (length t) 2) (card_named c t) 52

-- The cards in the order of the text; a value is trimmed, and one that is no card is dropped.
abbrev pub cards_played : Conventions → List Pair → List ℕ
cards_played c [] = []
cards_played c (p ∷ ps) = cond (is_pair Pc p && ltb (card_in c (trimmed p.value)) 52) (card_in c (trimmed p.value) ∷ cards_played c ps) (cards_played c ps)

-- ---- tricks

-- Slots from the trick's own leader on, 255 for an empty one.
abbrev pub slots : ℕ → ℕ → ℕ → ℕ → Slots
slots a b d e = record { a = a; b = b; c = d; d = e }

abbrev pub full_trick : ℕ → ℕ → Slots → PlainTrick
full_trick trump leader s = record { leader = leader; winner = winner_of trump leader s; slots = s }

abbrev pub part_trick : ℕ → Slots → PlainTrick
part_trick leader s = record { leader = leader; winner = 4; slots = s }

-- Four cards make a trick, and its winner leads the next. The last may have fewer, and then no winner (4).
abbrev pub tricks_from : ℕ → ℕ → List ℕ → List PlainTrick
tricks_from trump leader [] = []
tricks_from trump leader (a ∷ []) = part_trick leader (slots a 255 255 255) ∷ []
tricks_from trump leader (a ∷ b ∷ []) = part_trick leader (slots a b 255 255) ∷ []
tricks_from trump leader (a ∷ b ∷ d ∷ []) = part_trick leader (slots a b d 255) ∷ []
tricks_from trump leader (a ∷ b ∷ d ∷ e ∷ ks) =
    full_trick trump leader (slots a b d e) ∷ tricks_from trump (winner_of trump leader (slots a b d e)) ks

-- ---- lines

-- The slot k, from 0.
unfoldable pub slot_at : Slots → ℕ → ℕ
slot_at s k = cond (eqb k 0) s.a (cond (eqb k 1) s.b (cond (eqb k 2) s.c s.d))

-- A card, or `-` for a seat without one.
unfoldable pub slot_word : Conventions → ℕ → List ℕ
slot_word c k = cond (ltb k 52) (card_token c k) (ascii "-")

-- The word of the j-th seat from the opening leader on: its card stands in the slot that is counted from the trick's own leader.
abbrev pub seat_word : Conventions → ℕ → PlainTrick → ℕ → List ℕ
seat_word c lead t j = slot_word c (slot_at t.slots (slot_of lead j t.leader))

-- A trick's line: four words, by seat from the opening leader on.
abbrev pub trick_line : Conventions → ℕ → PlainTrick → List ℕ
trick_line c lead t = spaced (seat_word c lead t 0 ∷ seat_word c lead t 1 ∷ seat_word c lead t 2 ∷ seat_word c lead t 3 ∷ [])

abbrev pub trick_lines : Conventions → ℕ → List PlainTrick → List (List ℕ)
trick_lines c lead ts = map (trick_line c lead) ts
