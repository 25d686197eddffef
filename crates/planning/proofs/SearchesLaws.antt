-- Laws of the searches for a board, and of their numbers, board after board.
use Prim.Native.Nat.{ℕ, ◌+◌, ◌-◌, ◌*◌, ◌≤◌, ◌<◌}
use mathlib.Core.Path.{◌≡◌, sym, ap}
use mathlib.Core.Bool.{Bool, true, false}
use mathlib.Core.List.{List, [], ◌∷◌}
use native.Mathlib.Omega.{arith}
use lib.ListN.{length, get_or, take, length-take}
use Rattle.reader.specs.Store.{put}
use Rattle.planning.specs.Cards.{card_deal}
use Rattle.planning.specs.PlanSteps.{plan_here}
use Rattle.planning.specs.States.{BoardPlan, board_plans}
use Rattle.planning.specs.Searches.{searched, old_sought, near_sought, twin_sought, words_if, old_words, near_words, twin_words, search_numbers, words_in_all}
use Rattle.planning.proofs.BoardLaws.{boards_left, left_first, left_step, left_none, boards_count}
use Rattle.planning.proofs.PlanLaws.{Rows, rows_first, rows_next}
use Rattle.planning.proofs.SearchLaws.{few_words}

-- ---- few words

if_few : (made : Bool) (tabled : Bool) (d : List ℕ) (cards : List (List ℕ)) → words_if made (searched tabled d cards) ≤ 8 * length cards
if_few true tabled d cards = few_words tabled d cards
if_few false tabled d cards = omega arith

-- The words of a board's searches.
abbrev board_words : List (List ℕ) → List (List ℕ) → BoardPlan → ℕ
board_words olds news j = old_words olds j + near_words news j + twin_words news j

board_few : (olds news : List (List ℕ)) (j : BoardPlan) → length olds ≤ 16777215 → length news ≤ 16777215 → board_words olds news j ≤ 402653160
unfolding old_words near_words twin_words
board_few olds news j ho hn =
    let d = card_deal j.card in
    let s = j.state in
    let earlier = take (j.position - 1) news in
    omega (arith, if_few (old_sought s) true d olds, if_few (near_sought s) true d news, if_few (twin_sought s) false d earlier, length-take (j.position - 1) news)

all_few : (olds news : List (List ℕ)) (js : List BoardPlan) → length olds ≤ 16777215 → length news ≤ 16777215 → words_in_all olds news js ≤ 402653160 * length js
all_few olds news [] ho hn = omega arith
all_few olds news (j ∷ js) ho hn = omega (arith, board_few olds news j ho hn, all_few olds news js ho hn)

-- ---- five numbers a board, stored board after board, and their words

pub record SearchRows (os ns : List (List ℕ)) (numbers₀ : List ℕ) (k : ℕ) (numbers : List ℕ) (words : ℕ) : Type 0 where
  pub rows : Rows (search_numbers os ns) os ns numbers₀ k numbers
  pub words_in : words + words_in_all os ns (boards_left os ns k) ≡ words_in_all os ns (board_plans os ns)

pub search_rows_first : (os ns : List (List ℕ)) (numbers : List ℕ) → SearchRows os ns numbers 0 numbers 0
search_rows_first os ns numbers =
    record { rows = rows_first (search_numbers os ns) os ns numbers; words_in = omega (arith, ap (words_in_all os ns) (sym (left_first os ns))) }

-- Three of the five numbers are words.
abbrev pub five_words : List ℕ → ℕ
five_words five = get_or five 2 0 + get_or five 3 0 + get_or five 4 0

words_five : {five : List ℕ} (olds news : List (List ℕ)) (j : BoardPlan) → five ≡ search_numbers olds news j → five_words five ≡ board_words olds news j
unfolding search_numbers
words_five olds news j e = rw e

module _ {os ns : List (List ℕ)} {numbers₀ : List ℕ} {k : ℕ} {numbers : List ℕ} {words : ℕ} (i : SearchRows os ns numbers₀ k numbers words) where
  words_step : {five : List ℕ} → k < length ns → five ≡ search_numbers os ns (plan_here os ns k)
      → words + five_words five + words_in_all os ns (boards_left os ns (k + 1)) ≡ words_in_all os ns (board_plans os ns)
  words_step h e =
      let w = rw (left_step os ns k h) at i.words_in in
      omega (arith, words_five os ns (plan_here os ns k) e, w)

  pub search_rows_next : {numbers' five : List ℕ} → k < length ns → five ≡ search_numbers os ns (plan_here os ns k)
      → numbers' ≡ put 5 numbers k five → length numbers' ≡ length numbers → SearchRows os ns numbers₀ (k + 1) numbers' (words + five_words five)
  search_rows_next h ef ep el = record { rows = rows_next i.rows h ef ep el; words_in = words_step h ef }

  -- The words of all boards are a number of 64 bits, so those of the boards so far are.
  pub search_rows_fit : {five : List ℕ} → length os ≤ 16777215 → length ns ≤ 16777215 → k < length ns → five ≡ search_numbers os ns (plan_here os ns k)
      → words + five_words five < 9007199254740992
  search_rows_fit ho hn h ef =
      omega (arith, words_step h ef, all_few os ns (board_plans os ns) ho hn, boards_count os ns)

  pub search_rows_end : length ns ≤ k → words ≡ words_in_all os ns (board_plans os ns)
  search_rows_end h = omega (arith, rw (left_none os ns k h) at i.words_in)
