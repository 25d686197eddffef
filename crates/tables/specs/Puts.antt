-- The contract of every function that puts text on a page, which counts on past the page's end. Places are counted up to 2 ^ 40, which no
-- text here comes near; for a longer one nothing but the page's length is promised.
use Rattle.std.specs.Prelude.{ℕ, ◌+◌, ◌≤◌, ◌≡◌, List, length}
use Rattle.tables.specs.declared.page.Page.{Page}
use Rattle.tables.specs.PageSteps.{Put}

-- bs is put on the page p at its place, and q is the page afterwards, on the same lent bytes.
pub record Puts (p : Page) (bs : List ℕ) (q : Page) : Type 0 where
  pub put : p.at + length bs ≤ 1099511627776 → Put p.bytes.now p.at bs q.bytes.now q.at
  pub kept : length q.bytes.now ≡ length p.bytes.now
  pub same : q.bytes.ghost_name ≡ p.bytes.ghost_name
