-- Laws of commands and pairs.
use Prim.Native.Nat.{ℕ, suc, ◌+◌, ◌-◌, ◌≤◌, ◌<◌}
use mathlib.Core.Path.{◌≡◌, refl, sym, ap, ◌∙◌}
use mathlib.Core.Bool.{true, false, cond}
use mathlib.Core.List.{List, [], ◌∷◌, ◌++◌, append_assoc}
use native.Mathlib.Omega.{arith}
use lib.Dec.{eqb, ltb}
use denote.Enum.Bare.{sameb, same_true, same_false}
use lib.ListN.{length, take, drop, length-drop, length-append}
use lib.Seq.{drop-drop, take_all, drop-append_seam, take-append_seam}
use borrow.Author.Tests.{ltb-true, ltb-false, lt-ltb, le-ltb, eqb-true, eq-eqb, ne_eqb}
use Rattle.std.specs.Prelude.{Option, Some, None, IfSome, unwrap_or}
use Rattle.tables.specs.Text.{differs, before, prepend}
use Rattle.tables.proofs.Laws.{by_cases, stop}
use Rattle.tables.proofs.TextLaws.{front_few, take_front}
use Rattle.lin.specs.declared.pairs.PairAt.{PairAt}
use Rattle.lin.specs.declared.pairs.Pairs.{Pairs}
use Rattle.lin.specs.declared.pairs.Command.{Command}
use Rattle.lin.specs.contracts.pairs.Command.{the_type}
use Rattle.lin.specs.declared.pairs.Command.TheVariants.{Qx, Heading, Md, Sv, Mb, Pc, Other}
use Rattle.lin.specs.Pairs.{parts, place_of, command_of, Pair, paired, pairs_of}
use Rattle.lin.specs.PairSteps.{Sealed, pair_of, pairs_left, IsNext}

-- ---- commands

-- A command is told by its place.
placed : ℕ → Command
placed k = cond (eqb k 1) Qx (cond (eqb k 2) Heading (cond (eqb k 3) Md (cond (eqb k 4) Sv (cond (eqb k 5) Mb (cond (eqb k 6) Pc Other)))))

placed_place : (k : Command) → placed (place_of k) ≡ k
unfolding placed
placed_place Qx = refl
placed_place Heading = refl
placed_place Md = refl
placed_place Sv = refl
placed_place Mb = refl
placed_place Pc = refl
placed_place Other = refl

pub same_command : (k m : Command) → eqb (place_of k) (place_of m) ≡ true → k ≡ m
same_command k m e = sym (placed_place k) ∙ ap placed (eqb-true _ _ e) ∙ placed_place m

pub other_command : (k m : Command) → (k ≡ m → ⊥) → eqb (place_of k) (place_of m) ≡ false
other_command k m f = ne_eqb _ _ (λ e. f (sym (placed_place k) ∙ ap placed e ∙ placed_place m))

-- What `==` tells of two commands.
pub same_place : (k m : Command) → sameb the_type k m ≡ eqb (place_of k) (place_of m)
same_place k m =
    by_cases (sameb the_type k m)
    (λ e. rw (e, same_true the_type tt k m e, eq-eqb (place_of m) (place_of m) refl))
    (λ e. rw (e, other_command k m (same_false the_type k m e)))

-- A code below n, or none.
pub coded : (o : Option ℕ) (k n : ℕ) → unwrap_or o n ≡ k → IfSome o (λ x. x < n) → o ≡ cond (ltb k n) (Some k) None
coded (Some x) k n e h = rw (← e, lt-ltb x n h)
coded None k n e h = rw (← e, le-ltb n n (omega arith))

-- ---- parts

-- A text without the byte is one part; else the bytes before the first are, and then the parts of what follows it.
prepend_one : (b : ℕ) (ps : List (List ℕ)) (p : List ℕ) (qs : List (List ℕ)) → ps ≡ p ∷ qs → prepend b ps ≡ (b ∷ p) ∷ qs
prepend_one b ps p qs e = rw e

pub parts_whole : (x : ℕ) (s : List ℕ) → length s ≤ length (before x s) → parts x s ≡ s ∷ []
parts_whole x [] h = refl
parts_whole x (b ∷ bs) h =
    by_cases (eqb b x)
    (λ e. absurd (none e h))
    (λ e. rw e (prepend_one b (parts x bs) bs [] (parts_whole x bs (shorter e h))))
  where
    none : eqb b x ≡ true → length (b ∷ bs) ≤ length (before x (b ∷ bs)) → ⊥
    none e h = let z : length (before x (b ∷ bs)) ≡ 0 = rw e in omega (arith, h, z)

    shorter : eqb b x ≡ false → length (b ∷ bs) ≤ length (before x (b ∷ bs)) → length bs ≤ length (before x bs)
    shorter e h = let z : length (before x (b ∷ bs)) ≡ suc (length (before x bs)) = rw e in omega (arith, h, z)

pub parts_cut : (x : ℕ) (s : List ℕ) → length (before x s) < length s → parts x s ≡ before x s ∷ parts x (drop (length (before x s) + 1) s)
parts_cut x [] h = absurd (omega arith)
parts_cut x (b ∷ bs) h =
    by_cases (eqb b x)
    (λ e. rw e)
    (λ e.
    let n = length (before x bs) in
    let z : suc n + 1 ≡ suc (n + 1) = omega arith in
    rw (e, z) (prepend_one b (parts x bs) (before x bs) (parts x (drop (n + 1) bs)) (parts_cut x bs (shorter e h))))
  where
    shorter : eqb b x ≡ false → length (before x (b ∷ bs)) < length (b ∷ bs) → length (before x bs) < length bs
    shorter e h = let z : length (before x (b ∷ bs)) ≡ suc (length (before x bs)) = rw e in omega (arith, h, z)

-- ---- pairs

-- The text behind the first x.
abbrev pub behind : ℕ → List ℕ → List ℕ
behind x s = drop (length (before x s) + 1) s

-- Nothing is behind a text's only part.
behind_none : (x : ℕ) (s : List ℕ) → length s ≤ length (before x s) → behind x s ≡ []
behind_none x s h = stop s (length (before x s) + 1) (omega arith)

before_whole : (x : ℕ) (s : List ℕ) → length s ≤ length (before x s) → before x s ≡ s
before_whole x s h = sym (take_front (differs x) s) ∙ take_all (length (before x s)) s h

-- A command before the parts of a text: its value is the first of them.
paired_rest : (c s : List ℕ) → paired (c ∷ parts 124 s) ≡ record { command = command_of c; value = before 124 s } ∷ pairs_of (behind 124 s)
unfolding pairs_of
paired_rest c s =
    by_cases (ltb (length (before 124 s)) (length s))
    (λ e. rw (parts_cut 124 s (ltb-true (length (before 124 s)) (length s) e)))
    (λ e.
    let h = ltb-false (length (before 124 s)) (length s) e in
    rw (parts_whole 124 s h, behind_none 124 s h, before_whole 124 s h))

-- A text without a bar has no pair.
pub pairs_none : (s : List ℕ) → length s ≤ length (before 124 s) → pairs_of s ≡ []
unfolding pairs_of
pairs_none s h = rw (parts_whole 124 s h)

-- The first pair of a text with a bar, and the others.
pub pairs_some : (s : List ℕ) → length (before 124 s) < length s
    → pairs_of s ≡ record { command = command_of (before 124 s); value = before 124 (behind 124 s) } ∷ pairs_of (behind 124 (behind 124 s))
unfolding pairs_of
pairs_some s h = ap paired (parts_cut 124 s h) ∙ paired_rest (before 124 s) (behind 124 s)

-- ---- texts of pairs

-- No x stands before the first x; and what a text is with one.
before_free : (x : ℕ) (s : List ℕ) → before x (before x s) ≡ before x s
before_free x [] = refl
before_free x (b ∷ bs) = by_cases (eqb b x) (λ e. rw e) (λ e. rw (e, e, before_free x bs))

before_at : (x : ℕ) (s r : List ℕ) → before x (before x s ++ x ∷ r) ≡ before x s
before_at x [] r = rw (eq-eqb x x refl)
before_at x (b ∷ bs) r = by_cases (eqb b x) (λ e. rw (e, eq-eqb x x refl)) (λ e. rw (e, e, before_at x bs r))

behind_at_lem : (x : ℕ) (s r : List ℕ) → behind x (before x s ++ x ∷ r) ≡ r
behind_at_lem x s r =
    let w = before x s in
    rw (before_at x s r)
    (sym (drop-drop 1 (length w) (w ++ x ∷ r)) ∙ ap (drop 1) (drop-append_seam w (x ∷ r)))

cut_is : (x : ℕ) (s : List ℕ) → length (before x s) < length s → s ≡ before x s ++ x ∷ behind x s
cut_is x [] h = absurd (omega arith)
cut_is x (b ∷ bs) h =
    by_cases (eqb b x)
    (λ e. rw (e, eqb-true b x e))
    (λ e.
    let z : length (before x (b ∷ bs)) ≡ suc (length (before x bs)) = rw e in
    let n = length (before x bs) in
    let more : suc n + 1 ≡ suc (n + 1) = omega arith in
    rw (e, more) (ap (λ (t : List ℕ). b ∷ t) (cut_is x bs (omega (arith, h, z)))))

-- The first pair of a text: its command stands at the front of s, its value at that of t.
abbrev first_pair : List ℕ → List ℕ → Pair
first_pair s t = record { command = command_of (before 124 s); value = before 124 t }

-- With the bar behind it, and at the text's end.
pairs_first : (s t r : List ℕ) → pairs_of (before 124 s ++ 124 ∷ (before 124 t ++ 124 ∷ r)) ≡ first_pair s t ∷ pairs_of r
pairs_first s t r =
    let u = before 124 s ++ 124 ∷ (before 124 t ++ 124 ∷ r) in
    let l : length (before 124 u) < length u = rw (before_at 124 s (before 124 t ++ 124 ∷ r), length-append (before 124 s) (124 ∷ (before 124 t ++ 124 ∷ r))) (omega arith) in
    let a : before 124 u ≡ before 124 s = before_at 124 s (before 124 t ++ 124 ∷ r) in
    let b : behind 124 u ≡ before 124 t ++ 124 ∷ r = behind_at_lem 124 s (before 124 t ++ 124 ∷ r) in
    pairs_some u l
    ∙ ap (λ (x : List ℕ). record { command = command_of x; value = before 124 (behind 124 u) } ∷ pairs_of (behind 124 (behind 124 u))) a
    ∙ ap (λ (x : List ℕ). record { command = command_of (before 124 s); value = before 124 x } ∷ pairs_of (behind 124 x)) b
    ∙ ap (λ (x : List ℕ). record { command = command_of (before 124 s); value = x } ∷ pairs_of (behind 124 (before 124 t ++ 124 ∷ r))) (before_at 124 t r)
    ∙ ap (λ (x : List ℕ). first_pair s t ∷ pairs_of x) (behind_at_lem 124 t r)

pub nothing_paired : pairs_of [] ≡ []
unfolding pairs_of
nothing_paired = refl

pairs_last : (s t : List ℕ) → pairs_of (before 124 s ++ 124 ∷ before 124 t) ≡ first_pair s t ∷ []
pairs_last s t =
    let v = before 124 t in
    let u = before 124 s ++ 124 ∷ v in
    let l : length (before 124 u) < length u = rw (before_at 124 s v, length-append (before 124 s) (124 ∷ v)) (omega arith) in
    let f = before_free 124 t in
    let n : behind 124 v ≡ [] = behind_none 124 v (rw f (omega arith)) in
    let a : before 124 u ≡ before 124 s = before_at 124 s v in
    let b : behind 124 u ≡ v = behind_at_lem 124 s v in
    pairs_some u l
    ∙ ap (λ (x : List ℕ). record { command = command_of x; value = before 124 (behind 124 u) } ∷ pairs_of (behind 124 (behind 124 u))) a
    ∙ ap (λ (x : List ℕ). record { command = command_of (before 124 s); value = before 124 x } ∷ pairs_of (behind 124 x)) b
    ∙ ap (λ (x : List ℕ). record { command = command_of (before 124 s); value = x } ∷ pairs_of (behind 124 v)) f
    ∙ ap (λ (x : List ℕ). first_pair s t ∷ pairs_of x) n
    ∙ ap (λ (ps : List Pair). first_pair s t ∷ ps) nothing_paired

-- ---- at their places

take_cut : (w v r : List ℕ) (n : ℕ) → n ≡ length w + 1 + length v + 1 → take n (w ++ 124 ∷ (v ++ 124 ∷ r)) ≡ w ++ 124 ∷ (v ++ 124 ∷ [])
take_cut w v r n e =
    let x = w ++ 124 ∷ (v ++ 124 ∷ []) in
    let a : w ++ 124 ∷ (v ++ 124 ∷ r) ≡ x ++ r = simp append_assoc in
    let k : n ≡ length x = e ∙ simp length-append (omega arith) in
    rw (a, k) (take-append_seam x r)

-- The text u of the first pair.
record FirstText (s t u : List ℕ) : Type 0 where
  alone : pairs_of u ≡ first_pair s t ∷ []
  sealed : length (before 124 t) < length t → Sealed u

first_cut : (s t : List ℕ) (n : ℕ) → length (before 124 s) < length s → t ≡ behind 124 s → length (before 124 t) < length t
    → n ≡ length (before 124 s) + 1 + length (before 124 t) + 1 → FirstText s t (take n s)
first_cut s t n h e l k =
    let w = before 124 s in
    let v = before 124 t in
    let whole : s ≡ w ++ 124 ∷ (v ++ 124 ∷ behind 124 t) = cut_is 124 s h ∙ ap (λ (x : List ℕ). w ++ 124 ∷ x) (sym e ∙ cut_is 124 t l) in
    let u : take n s ≡ w ++ 124 ∷ (v ++ 124 ∷ []) = ap (take n) whole ∙ take_cut w v (behind 124 t) n k in
    let one = pairs_first s t [] ∙ ap (λ (ps : List Pair). first_pair s t ∷ ps) nothing_paired in
    record {
      alone = ap pairs_of u ∙ one;
      sealed = λ m y.
          let a : (w ++ 124 ∷ (v ++ 124 ∷ [])) ++ y ≡ w ++ 124 ∷ (v ++ 124 ∷ y) = simp append_assoc in
          rw u (ap pairs_of a ∙ pairs_first s t y ∙ ap (λ (ps : List Pair). ps ++ pairs_of y) (sym one));
    }

first_whole : (s t : List ℕ) (n : ℕ) → length (before 124 s) < length s → t ≡ behind 124 s → length t ≤ length (before 124 t)
    → n ≡ length (before 124 s) + 1 + length (before 124 t) + 1 → FirstText s t (take n s)
first_whole s t n h e l k =
    let w = before 124 s in
    let v = before 124 t in
    let same = before_whole 124 t l in
    let whole : s ≡ w ++ 124 ∷ v = cut_is 124 s h ∙ ap (λ (x : List ℕ). w ++ 124 ∷ x) (sym e ∙ sym same) in
    let size : length s ≤ n = omega (arith, k, ap length whole, length-append w (124 ∷ v)) in
    record {
      alone = ap pairs_of (take_all n s size ∙ whole) ∙ pairs_last s t;
      sealed = λ m. absurd (omega (arith, l, m));
    }

first_text : (s t : List ℕ) (n : ℕ) → length (before 124 s) < length s → t ≡ behind 124 s
    → n ≡ length (before 124 s) + 1 + length (before 124 t) + 1 → FirstText s t (take n s)
first_text s t n h e k =
    by_cases (ltb (length (before 124 t)) (length t))
    (λ l. first_cut s t n h e (ltb-true (length (before 124 t)) (length t) l) k)
    (λ l. first_whole s t n h e (ltb-false (length (before 124 t)) (length t) l) k)

pub next_is : (s : Pairs) (p : PairAt) (t : Pairs)
    → (let text = s.text.now in let rest = drop s.at text in let bar = length (before 124 rest) in let back = drop (bar + 1) rest in
    bar < length rest
    → p.command ≡ command_of (before 124 rest)
    → p.value.now ≡ before 124 back
    → p.end ≡ s.at + bar + 1 + length (before 124 back) + 1
    → t.text ≡ s.text
    → t.at ≡ p.end
    → IsNext s p t)
next_is s p t h k v e same place =
    let text = s.text.now in
    let at = s.at in
    let rest = drop at text in
    let bar = length (before 124 rest) in
    let back = drop (bar + 1) rest in
    let n = length (before 124 back) in
    let few = front_few (differs 124) back in
    let far : at + (bar + 1 + (n + 1)) ≡ p.end = omega (arith, e) in
    let next : drop p.end text ≡ drop (n + 1) back = sym (drop-drop (n + 1) (bar + 1) rest ∙ drop-drop (bar + 1 + (n + 1)) at text ∙ ap (λ (i : ℕ). drop i text) far) in
    let whole = length-drop at text in
    let most = length-drop (bar + 1) rest in
    let wide : p.end - at ≡ bar + 1 + n + 1 = omega (arith, e) in
    let first = first_text rest back (p.end - at) h refl wide in
    record {
      pairs_are = rw (v, place, same, next, k) (pairs_some rest h);
      alone = rw (v, k) first.alone;
      sealed = λ l. first.sealed (omega (arith, e, l, h, whole, most));
      same_text = same;
      place = place;
      behind = omega (arith, e);
      inside = omega (arith, e, few, h, whole, most);
    }

-- ---- the values that pairs give, one after the other

-- What stands first, where there is a value.
abbrev pub put_first : Option ℕ → List ℕ → List ℕ
put_first None ks = ks
put_first (Some k) ks = k ∷ ks

pub record Gives (at : Pair → Option ℕ) (from : List Pair → List ℕ) : Type 0 where
  pub first : (p : Pair) (ps : List Pair) → from (p ∷ ps) ≡ put_first (at p) (from ps)

-- Where the next pair is p.
module _ {at : Pair → Option ℕ} {from : List Pair → List ℕ} (g : Gives at from) {s : Pairs} {p : PairAt} {r : Pairs} (n : IsNext s p r) where
  pub value_met : {k : ℕ} → at (pair_of p) ≡ Some k → from (pairs_left s) ≡ k ∷ from (pairs_left r)
  value_met e = rw (n.pairs_are, g.first (pair_of p) (pairs_left r), e)

  pub value_none : at (pair_of p) ≡ None → from (pairs_left s) ≡ from (pairs_left r)
  value_none e = rw (n.pairs_are, g.first (pair_of p) (pairs_left r), e)
