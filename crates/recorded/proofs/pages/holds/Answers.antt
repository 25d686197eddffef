use Rattle.std.proofs.Common.{◌≡◌, ℕ, ◌-◌, Bool, true, false, List, [], ◌∷◌, ◌++◌, length, ap, sym, ◌∙◌, arith, length-append, Some, None}
use Rattle.std.proofs.lemmas.Bool.Decides.{Decides-eqb}
use Rattle.std.proofs.lemmas.Slice.Eq.{strip_prefix_is}
use Rattle.recorded.proofs.pages.holds.Goals as goal

same_rest : (p a b : List ℕ) → p ++ a ≡ p ++ b → a ≡ b
same_rest [] a b e = e
same_rest (x ∷ xs) a b e = let k : xs ++ a ≡ xs ++ b = cc in same_rest xs a b k

left_over : (page p rest : List ℕ) → page ≡ p ++ rest → length page - length p ≡ length rest
left_over page p rest e = omega (arith, ap length e, length-append p rest)

pub returns-in-Some : goal.returns-in-Some
returns-in-Some c =
    let page = c.args.page.now in
    let p = c.args.bytes.now in
    let rest = c.in-Some.rest.now in
    let e = strip_prefix_is Decides-eqb page p (Some c.in-Some.rest) c.in-Some.ensures.cases in
    let n = left_over page p rest e in
    rw n (λ t. e ∙ ap (λ (x : List ℕ). p ++ x) (c.is_zero.ensures.0 t), λ h. c.is_zero.ensures.1 (same_rest p rest _ (sym e ∙ h)))

pub returns-in-None : goal.returns-in-None
returns-in-None c =
    let f = strip_prefix_is Decides-eqb c.args.page.now c.args.bytes.now None c.in-None.ensures.cases in
    (λ t. let k : ◌≡◌ {A = Bool} false true = t in cc, λ h. absurd (f _ h))
