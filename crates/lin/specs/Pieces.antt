-- Which pairs make a board.
use Rattle.std.specs.Prelude.{ℕ, Bool, false, cond, ◌&&◌, ◌||◌, not, List, [], ◌∷◌, eqb, length}
use Rattle.tables.specs.Text.{trimmed, lines}
use Rattle.lin.specs.declared.pairs.Command.TheVariants.{Qx, Heading, Md}
use Rattle.lin.specs.Pairs.{Pair, pairs_of, is_pair, has_pair}

-- ---- a text with a qx

-- Pairs that begin with a qx, or with mn and pn and then a qx.
abbrev pub opens : List Pair → Bool
opens [] = false
opens (p ∷ ps) = is_pair Qx p || (is_pair Heading p && opens ps)

abbrev pub pair_before : Pair → List (List Pair) → List (List Pair)
pair_before p [] = (p ∷ []) ∷ []
pair_before p (q ∷ qs) = (p ∷ q) ∷ qs

-- The pairs are split at each qx; the mn and pn right before it go along with it. So a pair is the last of its piece where the pairs
-- behind it begin with such a run and it is not of the run itself.
abbrev pub split : List Pair → List (List Pair)
split [] = []
split (p ∷ ps) = cond (opens ps && not (is_pair Heading p)) ((p ∷ []) ∷ split ps) (pair_before p (split ps))

-- Pieces without an md are no boards.
abbrev pub with_deal : List (List Pair) → List (List Pair)
with_deal [] = []
with_deal (x ∷ xs) = cond (has_pair Md x) (x ∷ with_deal xs) (with_deal xs)

-- ---- a text without one

-- Every line that is not blank is a board, whatever it holds: its pairs, once it is trimmed.
abbrev pub line_pieces : List (List ℕ) → List (List Pair)
line_pieces [] = []
line_pieces (l ∷ ls) = cond (eqb (length (trimmed l)) 0) (line_pieces ls) (pairs_of (trimmed l) ∷ line_pieces ls)

-- ---- the boards of a text, each as its pairs

unfoldable pub board_pieces : List ℕ → List (List Pair)
board_pieces text = cond (has_pair Qx (pairs_of text)) (with_deal (split (pairs_of text))) (line_pieces (lines text))
