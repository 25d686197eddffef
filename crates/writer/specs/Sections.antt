-- The data lines of written sections, and notes. Auctions are PBN 2.1 section 3.5, plays 3.6.
use Rattle.std.specs.Prelude.{ℕ, zero, suc, ◌+◌, Bool, false, cond, ◌&&◌, List, [], ◌∷◌, ◌++◌, map, eqb, ltb, Some, None}
use Rattle.std.proofs.Math.Option.{Option, none, some}
use Rattle.tables.specs.declared.letters.Conventions.{Conventions}
use Rattle.tables.specs.Text.{ascii, trimmed, before}
use Rattle.tables.specs.Numbers.{Number, number_of, decimal}
use Rattle.reader.specs.declared.play.Slots.{Slots}
use Rattle.reader.specs.Words.{same, call_token, card_token}
use Rattle.reader.specs.Plain.{TagPair, PlainCall, PlainAuction, PlainTrick, PlainPlay}

-- Tokens in a row, one blank (32) between them.
abbrev pub spaced : List (List ℕ) → List ℕ
spaced [] = []
spaced (t ∷ []) = t
spaced (t ∷ u ∷ ts) = t ++ 32 ∷ spaced (u ∷ ts)

-- The end of a section on a line of its own: `+` is 1, `*` is 2.
unfoldable pub end_lines : ℕ → List (List ℕ)
end_lines end = cond (eqb end 1) (ascii "+" ∷ []) (cond (eqb end 2) (ascii "*" ∷ []) [])

-- ---- auctions

-- A call, followed directly by its annotations.
abbrev pub call_text : Conventions → PlainCall → List ℕ
call_text c k = call_token c k.code ++ k.annotation

-- Four calls a line.
abbrev pub rounds : List (List ℕ) → List (List ℕ)
rounds [] = []
rounds (a ∷ []) = spaced (a ∷ []) ∷ []
rounds (a ∷ b ∷ []) = spaced (a ∷ b ∷ []) ∷ []
rounds (a ∷ b ∷ d ∷ []) = spaced (a ∷ b ∷ d ∷ []) ∷ []
rounds (a ∷ b ∷ d ∷ e ∷ ts) = spaced (a ∷ b ∷ d ∷ e ∷ []) ∷ rounds ts

-- Whether the last call is `+`, which is the end's mark already.
abbrev pub ends_continued : List PlainCall → Bool
ends_continued [] = false
ends_continued (k ∷ []) = eqb k.code 38
ends_continued (k ∷ l ∷ ks) = ends_continued (l ∷ ks)

-- Its rounds, then its end, unless the last call is `+`.
unfoldable pub auction_lines : Conventions → PlainAuction → List (List ℕ)
auction_lines c a = rounds (map (call_text c) a.calls) ++ cond (ends_continued a.calls) [] (end_lines a.end)

-- ---- notes

-- What follows the first colon (58); none where there is no colon.
abbrev pub after_colon : List ℕ → Option (List ℕ)
after_colon [] = none
after_colon (b ∷ bs) = cond (eqb b 58) (some bs) (after_colon bs)

abbrev pub is_number : ℕ → Number → Bool
is_number n None = false
is_number n (Some v) = eqb v n

-- The text of the note n that a tag gives: a Note tag whose bytes before its first colon (58), trimmed, are the number n, from 0 to 255. The
-- text is all that follows the colon.
unfoldable pub note_in : ℕ → TagPair → Option (List ℕ)
note_in n t =
    cond (same (ascii "Note") t.name && is_number n (number_of 255 (trimmed (before 58 t.value)))) (after_colon t.value) none

abbrev pub later : Option (List ℕ) → Option (List ℕ) → Option (List ℕ)
later none x = x
later (some y) x = some y

-- The note n of the tags behind an auction: the last one replaces the others.
abbrev pub note_at : ℕ → List TagPair → Option (List ℕ)
note_at n [] = none
note_at n (t ∷ ts) = later (note_at n ts) (note_in n t)

-- The values of the notes from the number n on, k numbers long, by rising number: `n:text`, with a colon (58).
abbrev pub note_value : ℕ → Option (List ℕ) → List (List ℕ)
note_value n none = []
note_value n (some text) = (decimal n ++ 58 ∷ text) ∷ []

unfoldable pub notes_from : ℕ → ℕ → List TagPair → List (List ℕ)
notes_from zero n ts = []
notes_from (suc k) n ts = note_value n (note_at n ts) ++ notes_from k (n + 1) ts

-- All of them.
unfoldable pub note_values : List TagPair → List (List ℕ)
note_values ts = notes_from 256 0 ts

-- ---- plays

-- The card in a slot; 255 is an empty slot.
abbrev pub in_slot : ℕ → List ℕ
in_slot k = cond (ltb k 52) (k ∷ []) []

-- The cards of a trick from its own leader on, without gaps.
abbrev pub trick_cards : Slots → List ℕ
trick_cards s = in_slot s.a ++ (in_slot s.b ++ (in_slot s.c ++ in_slot s.d))

-- A trick without cards has no line.
abbrev pub cards_lines : Conventions → List ℕ → List (List ℕ)
cards_lines c [] = []
cards_lines c (k ∷ ks) = spaced (map (card_token c) (k ∷ ks)) ∷ []

abbrev pub tricks_lines : Conventions → List PlainTrick → List (List ℕ)
tricks_lines c [] = []
tricks_lines c (t ∷ ts) = cards_lines c (trick_cards t.slots) ++ tricks_lines c ts

-- A line for each trick with cards, then the end.
unfoldable pub play_lines : Conventions → PlainPlay → List (List ℕ)
play_lines c p = tricks_lines c p.tricks ++ end_lines p.end
