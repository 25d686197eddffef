-- Laws of the steps of finishing: the answers are checked, the page is put and ended.
use Prim.Native.Nat.{ℕ, ◌*◌, ◌/◌, ◌%◌, ◌≤◌, ◌<◌}
use mathlib.Core.Path.{◌≡◌, refl, sym, ap, ◌∙◌}
use mathlib.Core.Bool.{true, false, cond}
use mathlib.Core.List.{List, [], ◌∷◌}
use native.Mathlib.Omega.{arith}
use lib.Dec.{eqb, leb, ltb}
use lib.ListN.{length}
use borrow.Author.Tests.{ltb-true, ltb-false, eq-eqb, ne_eqb}
use Rattle.std.proofs.Common.{Option, None, Some}
use Rattle.std.proofs.lemmas.List.Recursion.{is_position_or_len}
use Rattle.std.specs.List.{position_or_len}
use Rattle.std.specs.Option.{MatchOption}
use Rattle.std.specs.Result.{result_and}
use Rattle.std.specs.Prelude.{Result, Ok, Err, is_ok}
use Rattle.tables.specs.declared.letters.Conventions.{Conventions}
use Rattle.tables.specs.Page.{page_of}
use Rattle.tables.specs.PageSteps.{PageEnded as PageFinished}
use Rattle.tables.proofs.PageLaws.{finished}
use Rattle.tables.specs.declared.page.Page.{Page}
use Rattle.tables.proofs.Laws.{by_cases, clash}
use Rattle.planning.specs.Plans.{Boxes, four}
use Rattle.writer.specs.declared.finish.FinishRefusal.{FinishRefusal}
use Rattle.writer.specs.declared.finish.FinishRefusal.TheVariants.{Answers, Impossible}
use Rattle.writer.specs.Writings.{page_after}
use Rattle.writer.specs.WritingSteps.{PagePut}
use Rattle.writer.specs.Finishings.{first_above, finished_on, checked_of}
use Rattle.writer.specs.GivenCards.{marked, given_cleared, changed_all, given_box, tabled_page, BoardsPut, BoardsEnded}
use Rattle.writer.proofs.WriteLaws.{page_put}
use Rattle.tables.specs.declared.refusal.Refusal.{Refusal}

-- ---- the first byte above 13

above_most : (bs : List ℕ) → first_above bs ≤ length bs
above_most [] = omega arith
above_most (b ∷ bs) = by_cases (ltb 13 b) (λ t. rw t (omega arith)) (λ t. rw t (omega (arith, above_most bs)))

-- It is what `position` finds.
pub above_found : (bs : List ℕ) (r : Option ℕ) → r ≡ cond (ltb (position_or_len (ltb 13) bs) (length bs)) (Some (position_or_len (ltb 13) bs)) None
    → MatchOption r (length bs ≡ first_above bs) (λ i. (i ≡ first_above bs) × (i < length bs))
above_found bs r e =
    let q = is_position_or_len first_above (ltb 13) refl (λ x xs. ap (cond (ltb 13 x) 0) (omega arith)) bs in
    by_cases (ltb (position_or_len (ltb 13) bs) (length bs))
    (λ t. rw (e, t) (omega (arith, q), ltb-true _ _ t))
    (λ t. rw (e, t) (omega (arith, above_most bs, q, ltb-false _ _ t)))

-- ---- the answers checked

module _ (solve : ℕ) (answers : List ℕ) where
  pub check_odd : (length answers % 20 ≡ 0 → ⊥) → Err (Answers solve) ≡ checked_of solve answers
  check_odd h = rw (ne_eqb (length answers) (20 * solve) (λ u. h (omega arith)))

  pub check_count : (length answers / 20 ≡ solve → ⊥) → Err (Answers solve) ≡ checked_of solve answers
  check_count h = rw (ne_eqb (length answers) (20 * solve) (λ u. h (omega arith)))

  module _ (o : length answers % 20 ≡ 0) (n : length answers / 20 ≡ solve) where
    twenty_each : eqb (length answers) (20 * solve) ≡ true
    twenty_each = eq-eqb (length answers) (20 * solve) (omega arith)

    pub check_above : {k : ℕ} → k ≡ first_above answers → (k ≡ length answers → ⊥) → Err (Impossible k) ≡ checked_of solve answers
    check_above {k} e h = rw (twenty_each, ← e, ne_eqb k (length answers) h)

    pub check_right : {k : ℕ} → k ≡ first_above answers → k ≡ length answers → Ok tt ≡ checked_of solve answers
    check_right {k} e h = rw (twenty_each, ← e, eq-eqb k (length answers) h)

-- ---- editions that were read, finished

finished_is : (n m : ℕ) → is_ok (finished_on n m) ≡ leb n m
finished_is n m = by_cases (leb n m) (λ q. rw q) (λ q. rw q)

page_is : (bs : List ℕ) (m : ℕ) → page_of bs m ≡ page_after (leb (length bs) m) bs m
unfolding page_of
page_is bs m = refl

module _ {c : Conventions} {new : List ℕ} {m n : ℕ} {oc nc ne answers nc₂ : List ℕ} {p q : Page} (oe : List ℕ) {page page₂ : List ℕ} {r : Result ℕ FinishRefusal}
    (start : p.at ≡ 0) (bytes : p.bytes.now ≡ page) where
  -- The answers are right, and the page was put and ended.
  pub boards_right : {u : Unit {0}} {f : Result ℕ Refusal} → BoardsPut c new m n oc nc ne answers p (Ok u) nc₂ q → PageFinished q.at q.bytes.now page₂ f
      → r ≡ finished_on q.at (length q.bytes.now) → {page' : List ℕ} → page₂ ≡ page'
      → BoardsEnded c new m n (four oc oe nc ne) answers page r (four oc oe nc₂ ne) page'
  boards_right {u} b ended told same =
      let boxes = four oc oe nc ne in
      let bs = tabled_page c new m n boxes answers in
      let g = b.gave in
      let put : PagePut page bs q.bytes.now q.at = rw g.cards_after at (page_put (b.page_put refl) start bytes refl) in
      let cards : nc₂ ≡ changed_all given_cleared n (changed_all marked n (given_box m n boxes answers)) =
      b.cards_after refl ∙ ap (λ (l : List ℕ). changed_all given_cleared n (changed_all marked n l)) g.cards_after in
      let well : is_ok r ≡ leb q.at (length q.bytes.now) = ap is_ok told ∙ finished_is q.at (length q.bytes.now) in
      let lp = put.kept in
      let done = finished_on (length bs) (length page) in
      record {
        answer = λ few.
            let ek : q.at ≡ length bs = omega (arith, (put.put (omega arith)).next) in
            told
            ∙ rw (ek, lp, ← g.solve_count) (ap (λ (x : Result (Unit {0}) FinishRefusal). result_and x done) b.answer);
        boxes_left = λ h. rw cards;
        page_left = λ few h.
            let ek : q.at ≡ length bs = omega (arith, (put.put (omega arith)).next) in
            let fits : leb (length bs) (length page) ≡ true = rw (ek, lp) at (sym well ∙ h) in
            sym same ∙ (finished (put.put (omega arith)) ended).page_left ∙ page_is bs (length page) ∙ rw fits;
      }

  -- They are wrong.
  pub boards_wrong : {f : FinishRefusal} → BoardsPut c new m n oc nc ne answers p (Err f) nc₂ q → r ≡ Err f → {boxes' : Boxes}
      → BoardsEnded c new m n (four oc oe nc ne) answers page r boxes' page₂
  boards_wrong {f} b e =
      let w : is_ok r ≡ false = ap is_ok e in
      let done = finished_on (length (tabled_page c new m n (four oc oe nc ne) answers)) (length page) in
      record {
        answer = λ few. e ∙ rw (← b.gave.solve_count) (ap (λ (x : Result (Unit {0}) FinishRefusal). result_and x done) b.answer);
        boxes_left = λ h. clash (sym w ∙ h);
        page_left = λ few h. clash (sym w ∙ h);
      }
