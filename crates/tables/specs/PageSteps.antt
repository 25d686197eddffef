-- What the inner functions of a page promise.
use Rattle.std.specs.Prelude.{ℕ, ◌+◌, ◌-◌, ◌≤◌, ◌≡◌, cond, List, ◌++◌, leb, length, replicate, take, drop, Result, Ok, Err}
use Rattle.std.proofs.lemmas.List.Edits.{sets}
use Rattle.tables.specs.declared.refusal.Refusal.{Refusal}
use Rattle.tables.specs.declared.refusal.Refusal.TheVariants.{PageFull}
use Rattle.tables.specs.Numbers.{decimal}

-- The contract of an inner writer: bs is put at `at`, what lies past the page's end goes nowhere, and r is the place behind.
pub record Put (page : List ℕ) (at : ℕ) (bs : List ℕ) (page' : List ℕ) (r : ℕ) : Type 0 where
  pub after : page' ≡ sets page at bs
  pub next : r ≡ at + length bs

-- The first n bytes, and zeros after them.
abbrev pub cleared : List ℕ → ℕ → List ℕ
cleared page n = take n page ++ replicate (length page - n) 0

-- The end of a page on which n bytes were put.
pub record PageEnded (n : ℕ) (page page' : List ℕ) (r : Result ℕ Refusal) : Type 0 where
  pub told : r ≡ cond (leb n (length page)) (Ok n) (Err (PageFull n))
  pub page_left : page' ≡ cond (leb n (length page)) (cleared page n) (replicate (length page) 0)

-- The digits of n stand in buf from r on.
pub record Digits (n : ℕ) (buf : List ℕ) (r : ℕ) : Type 0 where
  pub stand : drop r buf ≡ decimal n
  pub inside : r ≤ 9
