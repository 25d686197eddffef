use Rattle.std.proofs.Common.{◌≡◌, ℕ, Bool, true, false, ◌&&◌, List, [], ◌∷◌, length, replicate, eqb, refl, sym, ◌∙◌, rules, tests, eqb-true, eq-eqb}
use Rattle.std.specs.List.{list_all}
use Rattle.std.proofs.lemmas.Iterator.{YieldsList-from_slice}
use Rattle.std.proofs.lemmas.Iterator.Search.{all_from_yields_List}
use Rattle.recorded.proofs.pages.is_zero.Goals as goal

zeros_all : (s : List ℕ) → s ≡ replicate (length s) 0 → list_all (λ b. eqb b 0) s ≡ true
zeros_all [] e = refl
zeros_all (b ∷ bs) e = let z : b ≡ 0 = cc in let k : bs ≡ replicate (length bs) 0 = cc in rw (eq-eqb b 0 z, zeros_all bs k)

all_zeros : (s : List ℕ) → list_all (λ b. eqb b 0) s ≡ true → s ≡ replicate (length s) 0
all_zeros [] e = refl
all_zeros (b ∷ bs) e = more (eqb b 0) refl e (all_zeros bs)
  where
    more : (t : Bool) → eqb b 0 ≡ t → (t && list_all (λ x. eqb x 0) bs) ≡ true → (list_all (λ x. eqb x 0) bs ≡ true → bs ≡ replicate (length bs) 0) → b ∷ bs ≡ 0 ∷ replicate (length bs) 0
    more true z h f = let k = eqb-true b 0 z in let m = f h in cc
    more false z h f = let k : ◌≡◌ {A = Bool} false true = h in cc

pub returns : goal.returns
returns c =
    let r = all_from_yields_List (λ b. eqb b 0) _ _ c.all.result c.all.ensures.ran (YieldsList-from_slice c.args.s.now cc) (λ x b q k. search (rules, tests)) in
    (λ t. all_zeros _ (sym r ∙ t), λ e. r ∙ zeros_all _ e)
