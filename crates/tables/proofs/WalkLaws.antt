-- Laws of a walk from line to line, which gives each line with its LF: the LF changes neither the fields of a line nor the trimmed line.
use Prim.Native.Nat.{ℕ, zero, suc, ◌+◌, ◌<◌}
use mathlib.Core.Path.{◌≡◌, refl, sym, ap, ◌∙◌}
use mathlib.Core.Bool.{cond}
use mathlib.Core.List.{List, [], ◌∷◌}
use native.Mathlib.Omega.{arith}
use lib.Dec.{eqb}
use lib.ListN.{length, drop, take, length-drop}
use lib.Seq.{drop-drop}
use borrow.Author.Tests.{eqb-true, leb-false}
use Rattle.tables.specs.declared.lines.Lines.{Lines}
use Rattle.tables.specs.Text.{is_white, keep_end, trim_end, trimmed, join_field, fields, lines, before}
use Rattle.tables.specs.LineWalk.{line_at, IsNextLine}
use Rattle.tables.proofs.Laws.{by_cases}
use Rattle.tables.proofs.TextLaws.{lines_step}

pub line_fields : (s : List ℕ) → fields (take (length (before 10 s) + 1) s) ≡ fields (before 10 s)
unfolding is_white
line_fields [] = refl
line_fields (b ∷ []) = by_cases (eqb b 10) (λ e. rw (e, eqb-true b 10 e)) (λ e. rw e)
line_fields (b ∷ c ∷ cs) =
    by_cases (eqb b 10)
    (λ e. rw (e, eqb-true b 10 e))
    (λ e.
    by_cases (eqb c 10)
    (λ f. rw (e, f, eqb-true c 10 f))
    (λ f.
    let m = length (before 10 cs) in
    let d : suc (suc m) + 1 ≡ suc (suc (m + 1)) = omega arith in
    let d' : suc m + 1 ≡ suc (m + 1) = omega arith in
    rw (e, f, d) (ap (λ (fs : List (List ℕ)). cond (is_white b) fs (join_field b (c ∷ []) fs)) (rw (f, d') at (line_fields (c ∷ cs))))))

end_trimmed : (s : List ℕ) → trim_end (take (length (before 10 s) + 1) s) ≡ trim_end (before 10 s)
unfolding is_white
end_trimmed [] = refl
end_trimmed (b ∷ bs) =
    by_cases (eqb b 10)
    (λ e. rw (e, eqb-true b 10 e))
    (λ e.
    let d : suc (length (before 10 bs)) + 1 ≡ suc (length (before 10 bs) + 1) = omega arith in
    rw (e, d) (ap (keep_end b) (end_trimmed bs)))

pub line_trimmed : (s : List ℕ) → trimmed (take (length (before 10 s) + 1) s) ≡ trimmed (before 10 s)
unfolding trimmed is_white
line_trimmed [] = refl
line_trimmed (b ∷ bs) =
    by_cases (eqb b 10)
    (λ e. rw (e, eqb-true b 10 e))
    (λ e.
    let d : suc (length (before 10 bs)) + 1 ≡ suc (length (before 10 bs) + 1) = omega arith in
    by_cases (is_white b)
    (λ w. rw (e, d, w) (line_trimmed bs))
    (λ w. rw (e, d, w) (ap (keep_end b) (end_trimmed bs))))

drop_taken : (k : ℕ) (s : List ℕ) → drop (length (take k s)) s ≡ drop k s
drop_taken zero s = refl
drop_taken (suc k) [] = refl
drop_taken (suc k) (b ∷ bs) = drop_taken k bs

-- The lines that are left: the bytes of the next before its LF, and those that are left behind it.
pub lines_walk : {w v : Lines} {l : List ℕ} → IsNextLine w l v → lines (drop w.next w.text.now) ≡ before 10 (drop w.next w.text.now) ∷ lines (drop v.next v.text.now)
lines_walk {w} s =
    let rest = drop w.next w.text.now in
    let z : 0 < length rest = rw length-drop (omega (arith, leb-false (length w.text.now) w.next s.left)) in
    let behind = sym (drop-drop (length (line_at w.text.now w.next)) w.next w.text.now) ∙ drop_taken (length (before 10 rest) + 1) rest in
    lines_step rest z ∙ ap (λ (t : List ℕ). before 10 rest ∷ lines t) (sym (ap (λ (x : Lines). drop x.next x.text.now) s.walk_is ∙ behind))
