-- A page put, and the end of writing.
use Rattle.std.specs.Prelude.{ℕ, ◌≤◌, ◌≡◌, List, length}
use Rattle.tables.specs.PageSteps.{Put}

-- bs, n bytes long, is put on lent bytes from their start. For more than 2 ^ 39 bytes nothing but the page's length is promised.
pub record PagePut (page bs page' : List ℕ) (n : ℕ) : Type 0 where
  pub put : length bs ≤ 549755813888 → Put page 0 bs page' n
  pub kept : length page' ≡ length page
