-- The answers of finishing, and its contract.
use Rattle.std.specs.Result.{result_and}
use Rattle.std.specs.Prelude.{ℕ, ◌+◌, ◌*◌, ◌≡◌, cond, List, [], ◌∷◌, eqb, leb, ltb, length, Result, Ok, Err, is_ok}
use Rattle.tables.specs.declared.letters.Conventions.{Conventions}
use Rattle.planning.specs.Slips.{totals_of}
use Rattle.planning.specs.Plans.{editions_number, editions_carries, edition_refused, Boxes, editions_of, plans_of, BoxesAfter, Editions}
use Rattle.writer.specs.declared.finish.FinishRefusal.{FinishRefusal}
use Rattle.writer.specs.declared.finish.FinishRefusal.TheVariants.{Edition, Answers, Impossible, PageFull}
use Rattle.writer.specs.Writings.{page_after}
use Rattle.writer.specs.Given.{finished_text}

-- ---- refusals: 1 to 3 of the old edition, then of the new; 5 answers (the boards to solve); 6 impossible (the first index of a byte above
-- 13); 7 page full (the bytes needed)

abbrev pub finish_number : FinishRefusal → ℕ
finish_number (Edition f) = editions_number f
finish_number (Answers n) = 5
finish_number (Impossible n) = 6
finish_number (PageFull n) = 7

abbrev pub finish_carries : FinishRefusal → ℕ
finish_carries (Edition f) = editions_carries f
finish_carries (Answers n) = n
finish_carries (Impossible n) = n
finish_carries (PageFull n) = n

-- 0 none, 1 old, 2 new.
abbrev pub finish_edition : FinishRefusal → ℕ
finish_edition (Edition f) = edition_refused f
finish_edition (Answers n) = 0
finish_edition (Impossible n) = 0
finish_edition (PageFull n) = 0

-- ---- the answer

-- The index of the first byte above 13; as many as there are bytes, where none is.
abbrev pub first_above : List ℕ → ℕ
first_above [] = 0
first_above (b ∷ bs) = cond (ltb 13 b) 0 (first_above bs + 1)

-- For n bytes to write on a page of m, the answers let through.
abbrev pub finished_on : ℕ → ℕ → Result ℕ FinishRefusal
finished_on n m = cond (leb n m) (Ok n) (Err (PageFull n))

-- Whether answers are let through, where solve boards are to be solved: 20 bytes a slip, none above 13.
abbrev pub checked_of : ℕ → List ℕ → Result (Unit {0}) FinishRefusal
checked_of solve answers =
    cond (eqb (length answers) (20 * solve))
    (cond (eqb (first_above answers) (length answers)) (Ok tt) (Err (Impossible (first_above answers))))
    (Err (Answers solve))

abbrev pub answered_by : ℕ → List ℕ → Result ℕ FinishRefusal → Result ℕ FinishRefusal
answered_by solve answers done = result_and (checked_of solve answers) done

abbrev pub finished_by : Editions → ℕ → List ℕ → Result ℕ FinishRefusal → Result ℕ FinishRefusal
finished_by (Ok n) solve answers done = answered_by solve answers done
finished_by (Err f) solve answers done = Err (Edition f)

-- For both texts, with these boxes, answers and a page of m bytes lent.
unfoldable pub finishing_of : Conventions → List ℕ → List ℕ → Boxes → List ℕ → ℕ → Result ℕ FinishRefusal
finishing_of c old new boxes answers m =
    finished_by (editions_of c old new boxes) (totals_of (plans_of c old new)).solve answers (finished_on (length (finished_text c old new answers)) m)

-- ---- the contract

-- The contract of finish: the answer, every byte of the page and every word of the boxes. What is not used is zero; after a refusal all is.
pub record IsFinished (c : Conventions) (old new : List ℕ) (boxes : Boxes) (answers page : List ℕ) (r : Result ℕ FinishRefusal) (boxes' : Boxes) (page' : List ℕ) : Type 0 where
  pub answer : r ≡ finishing_of c old new boxes answers (length page)
  pub boxes_left : BoxesAfter c (is_ok r) old new boxes boxes'
  pub page_left : page' ≡ page_after (is_ok r) (finished_text c old new answers) (length page)
