-- The end of converting a text.
use Rattle.std.specs.Prelude.{ℕ, ◌≡◌, cond, Option, Some, None, List, length, replicate, Result, Err, is_ok}
use Rattle.tables.specs.PageSteps.{cleared}
use Rattle.lin.specs.declared.pieces.Progress.{Progress}
use Rattle.lin.specs.declared.convert.Converted.{Converted}
use Rattle.lin.specs.declared.convert.LinRefusal.{LinRefusal}
use Rattle.lin.specs.declared.convert.LinRefusal.TheVariants.{NoDeal}
use Rattle.lin.specs.Conversions.{lin_page_answer}

-- For what was put, n bytes, with a page of m bytes.
abbrev pub put_answer : Option Progress → ℕ → ℕ → Result Converted LinRefusal
put_answer None n m = Err NoDeal
put_answer (Some g) n m = cond g.any (lin_page_answer n g.boards m) (Err NoDeal)

pub record ConvertingEnded (put : Option Progress) (n : ℕ) (page : List ℕ) (r : Result Converted LinRefusal) (page' : List ℕ) : Type 0 where
  pub told : r ≡ put_answer put n (length page)
  pub page_left : page' ≡ cond (is_ok r) (cleared page n) (replicate (length page) 0)
