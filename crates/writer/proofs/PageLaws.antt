-- Laws of a board's scan, of the header and of parts in a row.
use Prim.Native.Nat.{ℕ, suc, ◌+◌, ◌-◌, ◌≤◌, ◌<◌}
use mathlib.Core.Path.{◌≡◌, refl, ◌∙◌}
use mathlib.Core.Bool.{false}
use mathlib.Core.List.{List, [], ◌∷◌, ◌++◌}
use native.Mathlib.Omega.{arith}
use lib.Dec.{eqb}
use lib.ListN.{length, length-append}
use borrow.Author.Tests.{eqb-true, eqb-false}
use Rattle.tables.specs.declared.letters.Conventions.{Conventions}
use Rattle.tables.proofs.Laws.{by_cases}
use Rattle.tables.specs.declared.page.Page.{Page}
use Rattle.tables.specs.Puts.{Puts}
use Rattle.tables.proofs.PutsLaws.{puts_then}
use Rattle.std.specs.List.{list_any}
use Rattle.reader.specs.Plain.{Item}
use Rattle.writer.specs.Pages.{built_in_header}
use Rattle.writer.specs.Items.{is_remark, has_remarks}
use Rattle.writer.specs.BoardTexts.{header_held, next_held, parts_held}

-- ---- whether there are remarks

pub has_any : (is : List Item) → list_any (λ i. is_remark i.kind) is ≡ has_remarks is
has_any [] = refl
has_any (i ∷ is) = rw (has_any is)

-- ---- the header

none_long : (xs : List ℕ) → length xs ≡ 0 → xs ≡ []
none_long [] e = refl
none_long (x ∷ xs) e = absurd (omega arith)

-- No directive was put: the built-in header is.
pub header_built : {p : Page} {lead : List ℕ} {q r : Page} → Puts p lead q → q.at ≡ p.at → Puts q built_in_header r → Puts p (header_held lead) r
unfolding header_held
header_built {p} {lead} {q} {r} a e b =
    by_cases (eqb (length lead) 0)
    (λ t.
    let z = none_long lead (eqb-true (length lead) 0 t) in
    rw t (puts_then (rw z at a) b))
    (λ t. rw t (record {
      put = λ h. absurd (too_long h t);
      kept = b.kept ∙ a.kept;
      same = b.same ∙ a.same;
    }))
  where
    too_long : p.at + length (lead ++ 10 ∷ []) ≤ 1099511627776 → eqb (length lead) 0 ≡ false → ⊥
    too_long h t =
        let n : p.at + (length lead + 1) ≤ 1099511627776 = rw length-append at h in
        let x = a.put (omega arith) in
        eqb-false (length lead) 0 t (omega (arith, x.next, e))

-- Directives were put: an empty line follows them.
pub header_own : {p : Page} {lead : List ℕ} {q r : Page} → Puts p lead q → (q.at ≡ p.at → ⊥) → Puts q (10 ∷ []) r → Puts p (header_held lead) r
unfolding header_held
header_own {p} {lead} {q} {r} a e b =
    by_cases (eqb (length lead) 0)
    (λ t. rw t (record {
      put = λ h. absurd (none_put h (eqb-true (length lead) 0 t));
      kept = b.kept ∙ a.kept;
      same = b.same ∙ a.same;
    }))
    (λ t. rw t (puts_then a b))
  where
    none_put : p.at + length built_in_header ≤ 1099511627776 → length lead ≡ 0 → ⊥
    none_put h z =
        let x = a.put (omega arith) in
        e (omega (arith, x.next))

-- ---- parts in a row

pub parts_step : (c : Conventions) (text cards entries : List ℕ) (b n : ℕ) → b < n
    → parts_held c text cards entries b (n - b) ≡ next_held c text cards entries b ++ parts_held c text cards entries (b + 1) (n - (b + 1))
parts_step c text cards entries b n h =
    let z : n - b ≡ suc (n - (b + 1)) = omega arith in
    rw z

pub parts_none : (c : Conventions) (text cards entries : List ℕ) (b n : ℕ) → n ≤ b → parts_held c text cards entries b (n - b) ≡ []
parts_none c text cards entries b n h =
    let z : n - b ≡ 0 = omega arith in
    rw z
