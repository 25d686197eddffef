-- Laws of texts put one after the other on a page, whose contract is Puts.
use Prim.Native.Nat.{ℕ, ◌+◌, ◌≤◌}
use mathlib.Core.Path.{◌≡◌, refl, ◌∙◌, subst}
use mathlib.Core.List.{List, [], ◌++◌}
use native.Mathlib.Omega.{arith}
use lib.ListN.{length, length-append}
use Rattle.tables.specs.declared.page.Page.{Page}
use Rattle.tables.specs.declared.refusal.Refusal.{Refusal}
use Rattle.std.specs.Prelude.{Result}
use Rattle.tables.specs.Page.{Wrote}
use Rattle.tables.specs.PageSteps.{PageEnded}
use Rattle.tables.specs.Puts.{Puts}
use Rattle.tables.proofs.PageLaws.{put_then, ToPut, to_put, putting, put_all_lem, finished}

-- Two texts in a row are one.
pub puts_then : {p : Page} {xs : List ℕ} {q : Page} {ys : List ℕ} {r : Page} → Puts p xs q → Puts q ys r → Puts p (xs ++ ys) r
puts_then {p} {xs} {q} {ys} {r} a b =
    record {
      put = λ h.
          let n : p.at + (length xs + length ys) ≤ 1099511627776 = rw length-append at h in
          let first = a.put (omega arith) in
          put_then first (b.put (omega (arith, first.next)));
      kept = b.kept ∙ a.kept;
      same = b.same ∙ a.same;
    }

-- The text is another that is equal.
pub puts_as : {p : Page} {xs : List ℕ} {q : Page} {ys : List ℕ} → xs ≡ ys → Puts p xs q → Puts p ys q
puts_as e a = rw (← e) a

-- Nothing is put.
pub puts_nothing : (p : Page) → Puts p [] p
puts_nothing p = record { put = λ h. record { after = refl; next = omega arith }; kept = refl; same = refl }

-- What is left to put: the page p₀ is to have bs, and p what is left of it, rest.
pub record PutsLeft (p₀ : Page) (bs : List ℕ) (p : Page) (rest : List ℕ) : Type 0 where
  pub left : p₀.at + length bs ≤ 1099511627776 → ToPut p₀.bytes.now p₀.at bs p.bytes.now p.at rest
  pub kept : length p.bytes.now ≡ length p₀.bytes.now
  pub same : p.bytes.ghost_name ≡ p₀.bytes.ghost_name

pub puts_first : (p : Page) (bs : List ℕ) → PutsLeft p bs p bs
puts_first p bs = record { left = λ h. to_put p.bytes.now p.at bs; kept = refl; same = refl }

-- One text of it is put.
pub puts_next : {p₀ : Page} {bs : List ℕ} {p : Page} (xs rest : List ℕ) {q : Page} → PutsLeft p₀ bs p (xs ++ rest) → Puts p xs q → PutsLeft p₀ bs q rest
puts_next {p₀} {bs} {p} xs rest {q} t a =
    record {
      left = λ h.
          let l = t.left h in
          let n : p.at + (length xs + length rest) ≡ p₀.at + length bs = rw length-append at l.next in
          putting xs rest l (a.put (omega arith));
      kept = a.kept ∙ t.kept;
      same = a.same ∙ t.same;
    }

-- The same text is left.
pub puts_same : {p₀ : Page} {bs : List ℕ} {p : Page} {rest rest' : List ℕ} → rest ≡ rest' → PutsLeft p₀ bs p rest → PutsLeft p₀ bs p rest'
puts_same e t = rw (← e) t

pub puts_all : {p₀ : Page} {bs : List ℕ} {p : Page} → PutsLeft p₀ bs p [] → Puts p₀ bs p
puts_all t = record { put = λ h. put_all_lem (t.left h); kept = t.kept; same = t.same }

-- A page on which bs was put from its start, and which was finished, is written.
pub ended : {page : List ℕ} {p : Page} {bs : List ℕ} {q : Page} {page₁ page' : List ℕ} {r : Result ℕ Refusal} → PageEnded q.at q.bytes.now page₁ r → Puts p bs q → p.at ≡ 0 → p.bytes.now ≡ page → page₁ ≡ page' → length bs ≤ 1099511627776 → Wrote bs page page' r
ended {page} {p} {bs} {q} {page₁} {page'} {r} e a z b f h = finished (rw (← b) (rw z at (a.put (omega (arith, z))))) (subst (λ (l : List ℕ). PageEnded q.at q.bytes.now l r) f e)
