-- What a public writer answers, and the page afterwards.
use Rattle.std.specs.Prelude.{ℕ, ◌-◌, ◌≡◌, cond, List, ◌++◌, leb, length, replicate, Result, Ok, Err}
use Rattle.tables.specs.declared.refusal.Refusal.{Refusal}
use Rattle.tables.specs.declared.refusal.Refusal.TheVariants.{PageFull}

-- The answer to writing bs on a page of n bytes: how many bytes it is, or that the page is too short (7).
unfoldable pub answer_of : List ℕ → ℕ → Result ℕ Refusal
answer_of bs n = cond (leb (length bs) n) (Ok (length bs)) (Err (PageFull (length bs)))

-- The page then: bs and zeros behind it, or nothing but zeros.
unfoldable pub page_of : List ℕ → ℕ → List ℕ
page_of bs n = cond (leb (length bs) n) (bs ++ replicate (n - length bs) 0) (replicate n 0)

-- bs is written on a page, whatever the page held: the contract of every public writer.
pub record Wrote (bs page page' : List ℕ) (r : Result ℕ Refusal) : Type 0 where
  pub told : r ≡ answer_of bs (length page)
  pub page_left : page' ≡ page_of bs (length page)

-- A text to the right in w places: blanks (32) before one that is shorter.
unfoldable pub right : ℕ → List ℕ → List ℕ
right w bs = replicate (w - length bs) 32 ++ bs
