-- A LIN text is a run of pairs, `command|value|`. What they are, and the commands that count.
use Rattle.std.specs.Prelude.{ℕ, Bool, false, cond, ◌||◌, List, [], ◌∷◌, eqb}
use Rattle.tables.specs.Text.{ascii, trimmed, prepend}
use Rattle.reader.specs.Words.{same_word}
use Rattle.lin.specs.declared.pairs.Command.{Command}
use Rattle.lin.specs.declared.pairs.Command.TheVariants.{Qx, Heading, Md, Sv, Mb, Pc, Other}

-- The parts of a text between the bytes x; a text without one is one part.
abbrev pub parts : ℕ → List ℕ → List (List ℕ)
parts x [] = [] ∷ []
parts x (b ∷ bs) = cond (eqb b x) ([] ∷ parts x bs) (prepend b (parts x bs))

-- ---- commands

-- The place of a command among those that count, by which two are compared.
abbrev pub place_of : Command → ℕ
place_of Qx = 1
place_of Heading = 2
place_of Md = 3
place_of Sv = 4
place_of Mb = 5
place_of Pc = 6
place_of Other = 0

-- The commands that count are qx, mn and pn (Heading), md, sv, mb, pc; any other is Other.
abbrev pub command_named : List ℕ → Command
command_named t =
    cond (same_word (ascii "QX") t) Qx
    (cond (same_word (ascii "MN") t || same_word (ascii "PN") t) Heading
    (cond (same_word (ascii "MD") t) Md
    (cond (same_word (ascii "SV") t) Sv
    (cond (same_word (ascii "MB") t) Mb
    (cond (same_word (ascii "PC") t) Pc Other)))))

-- A command is trimmed, and taken in either case.
unfoldable pub command_of : List ℕ → Command
command_of s = command_named (trimmed s)

-- ---- pairs

-- A command, and its value as it stands.
pub record Pair : Type 0 where
  pub command : Command
  pub value : List ℕ

-- Parts in pairs; a last command without a value is dropped.
abbrev pub paired : List (List ℕ) → List Pair
paired [] = []
paired (c ∷ []) = []
paired (c ∷ v ∷ ps) = record { command = command_of c; value = v } ∷ paired ps

-- The pairs of a text, which is cut at every bar (124). There are no escapes; a last value needs no bar behind it.
unfoldable pub pairs_of : List ℕ → List Pair
pairs_of s = paired (parts 124 s)

-- The pair has the command k; one of the pairs has it.
abbrev pub is_pair : Command → Pair → Bool
is_pair k p = eqb (place_of p.command) (place_of k)

abbrev pub has_pair : Command → List Pair → Bool
has_pair k [] = false
has_pair k (p ∷ ps) = is_pair k p || has_pair k ps
