-- The meanings of words: calls, cards, contracts, vulnerability, ends of sections. Words and letters are taken in either
-- case, ASCII alone; a word is the whole text, not trimmed.
use Rattle.std.specs.Prelude.{ℕ, ◌+◌, ◌-◌, ◌*◌, ◌/◌, ◌%◌, List, [], ◌∷◌, Bool, ◌||◌, cond, not, ltb, eqb, length, replicate}
use Rattle.std.specs.Cmp.Lexicographic.{pointwise}
use Rattle.tables.specs.declared.letters.Conventions.{Conventions}
use Rattle.tables.specs.Text.{ascii, front, is_inside, single}
use Rattle.tables.specs.Letters.{capital, suit_of, rank_of, strain_of, suit_letter, rank_letter, strain_token, every}

-- ---- equal texts

abbrev pub same : List ℕ → List ℕ → Bool
same a b = pointwise eqb a b

-- A word in capitals, and a token in either case.
abbrev pub same_word : List ℕ → List ℕ → Bool
same_word word token = pointwise (λ x y. eqb x (capital y)) word token

-- ---- calls

-- The digits 1 to 7 (49 to 55; 0 is 48) are levels; any other byte is 0.
unfoldable pub level_of : ℕ → ℕ
level_of b = cond (ltb b 49) 0 (cond (ltb 55 b) 0 (b - 48))

-- A bid's code from its level, 1 to 7, and its strain, C D H S NT from 0: 1C is 1, 7NT is 35. 47 where either is none.
unfoldable pub bid_code : ℕ → ℕ → ℕ
bid_code level strain =
    cond (eqb level 0) 47
    (cond (ltb 7 level) 47
    (cond (ltb 4 strain) 47
    (5 * (level - 1) + strain + 1)))

-- A bid is a level and a strain.
abbrev pub bid_of : Conventions → List ℕ → ℕ
bid_of c [] = 47
bid_of c (l ∷ s) = bid_code (level_of l) (strain_of c s)

-- Pass, P or - .
unfoldable pub is_pass : List ℕ → Bool
is_pass t = same_word (ascii "PASS") t || same_word (ascii "P") t || same (ascii "-") t

-- `_` (95).
abbrev pub is_underscore : ℕ → Bool
is_underscore b = eqb 95 b

-- One to eight underscores are 39 to 46.
unfoldable pub underscore_code : List ℕ → ℕ
underscore_code t =
    cond (eqb (length t) 0) 47
    (cond (ltb 8 (length t)) 47
    (cond (every is_underscore t) (38 + length t) 47))

-- A call that is no bid: pass 0, X 36, XX 37, + 38, underscores 39 to 46; 47 where it is none.
unfoldable pub sign_code : List ℕ → ℕ
sign_code t =
    cond (is_pass t) 0
    (cond (same_word (ascii "X") t) 36
    (cond (same_word (ascii "XX") t) 37
    (cond (same (ascii "+") t) 38
    (underscore_code t))))

-- A call: a bid, or else a call that is no bid; 47 where it is neither.
unfoldable pub call_of : Conventions → List ℕ → ℕ
call_of c t = cond (ltb (bid_of c t) 47) (bid_of c t) (sign_code t)

-- As written: Pass, a level (1 is 49) and a strain's letter or NT, X, XX, +, underscores (95).
abbrev pub bid_token : Conventions → ℕ → List ℕ
bid_token c n = (49 + n / 5) ∷ strain_token c (n % 5)

unfoldable pub call_token : Conventions → ℕ → List ℕ
call_token c k =
    cond (eqb k 0) (ascii "Pass")
    (cond (ltb k 36) (bid_token c (k - 1))
    (cond (eqb k 36) (ascii "X")
    (cond (eqb k 37) (ascii "XX")
    (cond (eqb k 38) (ascii "+")
    (replicate (k - 38) 95)))))

-- ---- what stands beside calls

-- An annotation begins with `=` (61), `!` (33), `?` (63) or `$` (36).
unfoldable pub is_mark : ℕ → Bool
is_mark b = eqb b 61 || eqb b 33 || eqb b 63 || eqb b 36

abbrev pub is_call_byte : ℕ → Bool
is_call_byte b = not (is_mark b)

-- A token's call: what stands before its annotation, all of it where there is none.
abbrev pub call_part : List ℕ → List ℕ
call_part t = front is_call_byte t

-- + ends a section with 1, * with 2; any other token is no end.
unfoldable pub section_end : List ℕ → ℕ
section_end t = cond (same (ascii "+") t) 1 (cond (same (ascii "*") t) 2 0)

-- All pass.
unfoldable pub is_all_pass : List ℕ → Bool
is_all_pass t = same_word (ascii "AP") t

-- ---- contracts

-- Nothing, X or XX, behind a contract's strain.
unfoldable pub is_doubling : List ℕ → Bool
is_doubling t = same [] t || same_word (ascii "X") t || same_word (ascii "XX") t

-- A strain's suit; notrump and no strain have none, which is 4.
abbrev pub trump_suit : ℕ → ℕ
trump_suit strain = cond (ltb strain 4) strain 4

-- The trump suit of a contract: a level, a strain, then nothing, X or XX. Notrump gives 4 as no contract does, so that only
-- strains of one letter count.
unfoldable pub contract_trump : Conventions → List ℕ → ℕ
contract_trump c [] = 4
contract_trump c (l ∷ []) = 4
contract_trump c (l ∷ s ∷ d) =
    cond (eqb (level_of l) 0) 4
    (cond (is_doubling d) (trump_suit (strain_of c (s ∷ []))) 4)

-- ---- vulnerability

-- None, Love or - .
unfoldable pub is_no_side : List ℕ → Bool
is_no_side t = same_word (ascii "NONE") t || same_word (ascii "LOVE") t || same (ascii "-") t

-- All or Both.
unfoldable pub is_both_sides : List ℕ → Bool
is_both_sides t = same_word (ascii "ALL") t || same_word (ascii "BOTH") t

-- 0 none, 1 NS, 2 EW, 3 all; 4 where it is no vulnerability.
unfoldable pub vulnerability_of : List ℕ → ℕ
vulnerability_of t =
    cond (is_no_side t) 0
    (cond (same_word (ascii "NS") t) 1
    (cond (same_word (ascii "EW") t) 2
    (cond (is_both_sides t) 3 4)))

-- As written.
unfoldable pub vulnerability_token : ℕ → List ℕ
vulnerability_token k =
    cond (eqb k 0) (ascii "None")
    (cond (eqb k 1) (ascii "NS")
    (cond (eqb k 2) (ascii "EW") (ascii "All")))

-- ---- cards

-- A card's number from its suit and rank; 52 where either is none.
unfoldable pub card_number : ℕ → ℕ → ℕ
card_number suit rank = cond (ltb 3 suit) 52 (cond (ltb 12 rank) 52 (13 * suit + rank))

-- The card that a token's first two characters name, suit and rank; what follows them is ignored. A character of more than
-- one byte is no letter: a first one ends in a byte 80 to BF, and a second one is given as 0.
unfoldable pub card_named : Conventions → List ℕ → ℕ
card_named c [] = 52
card_named c (s ∷ []) = 52
card_named c (s ∷ r ∷ more) = cond (is_inside r) 52 (card_number (suit_of c s) (rank_of c (single r more)))

-- As written: a suit's letter and a rank's.
abbrev pub card_token : Conventions → ℕ → List ℕ
card_token c k = suit_letter c (k / 13) ∷ rank_letter c (k % 13) ∷ []
