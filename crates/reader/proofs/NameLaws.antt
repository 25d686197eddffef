-- Laws of tag names.
use Prim.Native.Nat.{ℕ, zero, suc, ◌+◌, ◌-◌, ◌≤◌, ◌<◌}
use mathlib.Core.Path.{◌≡◌, refl, sym, ap, ◌∙◌}
use mathlib.Core.Bool.{Bool, true, ◌&&◌}
use mathlib.Core.List.{List, [], ◌∷◌, map}
use native.Mathlib.Omega.{arith}
use lib.Dec.{eqb}
use lib.ListN.{get_or}
use Rattle.std.specs.Prelude.{Option, Some, option_map}
use denote.Ref.{Bor}
use Rattle.std.specs.List.{find}
use borrow.Author.Tests.{eqb-true, eqb-false}
use Rattle.tables.proofs.Laws.{by_cases, both}
use Rattle.reader.specs.Words.{same}
use Rattle.reader.specs.Names.{tag_names, number_in, tag_number, number_of}
use Rattle.reader.specs.declared.names.TagName.{TagName}
use Rattle.reader.proofs.WordLaws.{same_is}

-- ---- the table of names is the list, in its order

-- Numbered from n on.
abbrev pub Numbered : List (Bor (List ℕ) × TagName) → ℕ → Type 0
Numbered [] n = Unit {0}
Numbered (x ∷ xs) n = (number_of (Some x.1) ≡ n) × Numbered xs (n + 1)

-- The number of the name in a row that was found.
abbrev pub number_found : Option (Bor (List ℕ) × TagName) → ℕ
number_found o = number_of (option_map (λ x. x.1) o)

found : (t : List ℕ) (xs : List (Bor (List ℕ) × TagName)) (n : ℕ) → Numbered xs n → number_found (find (λ x. same x.0.now t) xs) ≡ number_in (map (λ x. x.0.now) xs) t n
found t [] n h = refl
found t (x ∷ xs) n h = by_cases (same x.0.now t) (λ e. rw e h.0) (λ e. rw e (found t xs (n + 1) h.1))

-- The rows xs that a walk goes over, and the row that it found.
pub name_found : (t : List ℕ) (o : Option (Bor (List ℕ) × TagName)) {s xs : List (Bor (List ℕ) × TagName)} → s ≡ xs → o ≡ find (λ x. same x.0.now t) xs → Numbered xs 1 → map (λ x. x.0.now) xs ≡ tag_names → number_found o ≡ tag_number t
unfolding tag_number
name_found t o {xs = xs} w e h f = ap number_found e ∙ (found t xs 1 h ∙ ap (λ (ws : List (List ℕ)). number_in ws t 1) f)

-- ---- a name by its number

-- ---- names and their numbers

number_low : (ws : List (List ℕ)) (t : List ℕ) (n : ℕ) → 0 < number_in ws t n → n ≤ number_in ws t n
number_low [] t n h = absurd (omega arith)
number_low (w ∷ ws) t n h =
    by_cases (same w t)
    (λ e. rw e (omega arith))
    (λ e.
    let i = number_low ws t (n + 1) (rw e at h) in
    rw e (omega arith))

number_is : (ws : List (List ℕ)) (t : List ℕ) (n : ℕ) → 0 < number_in ws t n → t ≡ get_or ws (number_in ws t n - n) []
number_is [] t n h = absurd (omega arith)
number_is (w ∷ ws) t n h =
    by_cases (same w t)
    (λ e.
    let z : n - n ≡ 0 = omega arith in
    rw (e, z) (sym (same_is w t e)))
    (λ e.
    let g = rw e at h in
    let i = number_low ws t (n + 1) g in
    let z : number_in ws t (n + 1) - n ≡ suc (number_in ws t (n + 1) - (n + 1)) = omega arith in
    rw (e, z) (number_is ws t (n + 1) g))

-- A text with a number is the name of that number.
pub tag_name : (t : List ℕ) → 0 < tag_number t → t ≡ get_or tag_names (tag_number t - 1) []
unfolding tag_number
tag_name t h = number_is tag_names t 1 h

abbrev pub all_below : (ℕ → Bool) → ℕ → Bool
all_below p zero = true
all_below p (suc m) = p m && all_below p m

pub at_below : (p : ℕ → Bool) (m n : ℕ) → all_below p m ≡ true → n < m → p n ≡ true
at_below p zero n e h = absurd (omega arith)
at_below p (suc m) n e h =
    let k = both (p m) (all_below p m) e in
    by_cases (eqb n m)
    (λ t. rw (eqb-true n m t) k.0)
    (λ t. at_below p m n k.1 (omega (arith, eqb-false n m t)))

-- Each name has its own number.
pub tag_number_back : (n : ℕ) → n < 21 → tag_number (get_or tag_names n []) ≡ n + 1
unfolding tag_names tag_number
tag_number_back n h = eqb-true (tag_number (get_or tag_names n [])) (n + 1) (at_below (λ m. eqb (tag_number (get_or tag_names m [])) (m + 1)) 21 n refl h)
