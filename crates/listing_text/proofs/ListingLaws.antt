-- Laws of the listing: editions with a limit, the lines of all boards, and the page.
use Prim.Native.Nat.{ℕ, ◌*◌, ◌/◌, ◌≤◌}
use mathlib.Core.Path.{◌≡◌, refl, sym, ap, ◌∙◌, subst, subst⁻¹}
use mathlib.Core.Bool.{Bool, true, false, cond}
use mathlib.Core.List.{List, ◌++◌}
use native.Mathlib.Omega.{arith}
use lib.Dec.{ltb, leb}
use lib.ListN.{length, replicate, length-replicate, length-append}
use Rattle.std.specs.Prelude.{is_ok, Ok, Err, Result}
use Rattle.std.specs.Result.{is_err}
use Rattle.tables.specs.declared.letters.Conventions.{Conventions}
use Rattle.tables.specs.Page.{Wrote}
use Rattle.tables.specs.PageSteps.{PageEnded}
use Rattle.tables.specs.Puts.{Puts}
use Rattle.tables.specs.declared.page.Page.{Page}
use Rattle.tables.proofs.Laws.{by_cases, clash}
use Rattle.tables.proofs.PutsLaws.{ended}
use Rattle.reader.specs.Store.{zeros, put_all, lent}
use Rattle.reader.specs.Editions.{reading_of}
use Rattle.reader.proofs.StoreLaws.{Blocks, put_zeros}
use Rattle.reader.proofs.Counts.{TextBoardsFew}
use Rattle.planning.specs.declared.editions.EditionsRefusal.{EditionsRefusal}
use Rattle.planning.specs.declared.plan.PlanRefusal.{PlanRefusal}
use Rattle.planning.specs.declared.plan.PlanRefusal.TheVariants.{Edition}
use Rattle.planning.specs.declared.editions.Both.{Both}
use Rattle.planning.specs.declared.plan.Totals.{Totals}
use Rattle.planning.specs.PlanSteps.{cards_in, BoxesKept, PlanEnded}
use Rattle.planning.specs.States.{BoardPlan, board_plans}
use Rattle.planning.specs.Slips.{slips_of, totals_of}
use Rattle.planning.specs.Plans.{Boxes, editions_of, plans_of, slips_answer, planned_by, BoxesAfter, BothRead, Editions, Planning}
use Rattle.listing_text.specs.Limited.{limited_of, limited_both}
use Rattle.listing_text.specs.ListingSteps.{BothLimited, Countable, PageKept, BoardsOnPage}
use Rattle.listing_text.specs.Listing.{listing_lines, total_line, refused_line, list_text, listing_plan, well_on, ListingFor, IsListing}
use Rattle.listing_text.proofs.LineLaws.{LinesFew, total_few}
use Rattle.planning.proofs.BothLaws.{both_are_taken, taken_short}
use Rattle.planning.proofs.BoardLaws.{boards_count}
use Rattle.planning.proofs.PlanLaws.{count_few}
use Rattle.planning.proofs.SlipLaws.{slips_count, slips_five}
use Rattle.planning.proofs.AnswerLaws.{SameRoom, boxes_kept, listed_fits, solve_sum, there, boards_are}
use Rattle.tables.specs.declared.refusal.Refusal.{Refusal}

-- ---- two editions that were taken are within the limit

pub limited_taken : (c : Conventions) (limit : ℕ) (text : List ℕ) (lc le : ℕ) → is_ok (limited_of c limit text lc le) ≡ true → limited_of c limit text lc le ≡ reading_of c text lc le
unfolding limited_of
limited_taken c limit text lc le h =
    by_cases (ltb limit (length text))
    (λ e. clash (rw e at h))
    (λ e. rw e)

-- What both editions taken within the limit say: they are taken without it, and short.
record TakenBoth (c : Conventions) (limit : ℕ) (old new : List ℕ) (boxes : Boxes) : Type 0 where
  plain : limited_both c limit old new boxes ≡ editions_of c old new boxes
  old_short : length old ≤ 16777215
  new_short : length new ≤ 16777215

taken_both : (c : Conventions) (limit : ℕ) (old new : List ℕ) (boxes : Boxes) → is_ok (limited_both c limit old new boxes) ≡ true → TakenBoth c limit old new boxes
unfolding limited_both editions_of
taken_both c limit old new boxes h =
    let lc = length boxes.old_cards in
    let le = length boxes.old_entries in
    let nc = length boxes.new_cards in
    let ne = length boxes.new_entries in
    let t = both_are_taken (limited_of c limit old lc le) (limited_of c limit new nc ne) h in
    let eo = limited_taken c limit old lc le t.0 in
    let en = limited_taken c limit new nc ne t.1 in
    record {
      plain = rw (eo, en);
      old_short = taken_short c old lc le (sym (ap is_ok eo) ∙ t.0);
      new_short = taken_short c new nc ne (sym (ap is_ok en) ∙ t.1);
    }

module _ {c : Conventions} {limit : ℕ} {old new : List ℕ} {boxes boxes' : Boxes} {r : Editions} (b : BothLimited c limit old new boxes boxes' r) where
  within : {n : Both} → r ≡ Ok n → TakenBoth c limit old new boxes
  within e = taken_both c limit old new boxes (sym (ap is_ok b.answer) ∙ ap is_ok e)

  pub limited_both_lem : {n : Both} → r ≡ Ok n → BothRead c old new boxes boxes' r
  limited_both_lem e = record { answer = b.answer ∙ (within e).plain; boxes_left = b.boxes_left }

  -- The lent cards are there, and few.
  pub limited_room : {n : Both} → r ≡ Ok n
      → (64 * n.old.boards ≤ length boxes'.old_cards) × (64 * n.new.boards ≤ length boxes'.new_cards) × (n.old.boards ≤ 16777215) × (n.new.boards ≤ 16777215)
  limited_room e =
      let t = there (limited_both_lem e) e in (
        t.0.room,
        t.1.room,
        omega (arith, t.0.count, TextBoardsFew c old, (within e).old_short),
        omega (arith, t.1.count, TextBoardsFew c new, (within e).new_short),
      )

-- ---- totals fit 32 bits

totals_low : (js : List BoardPlan) → length js ≤ 16777215 → Countable (totals_of js)
unfolding totals_of
totals_low js h = record {
  boards_low = omega arith;
  blank_low = omega (arith, count_few 0 js);
  own_low = omega (arith, count_few 1 js);
  old_low = omega (arith, count_few 2 js);
  near_low = omega (arith, count_few 3 js);
  twin_low = omega (arith, count_few 4 js);
  solve_low = omega (arith, count_few 5 js);
}

abbrev totals_in : Planning → Totals → Totals
totals_in (Ok t) d = t
totals_in (Err f) d = d

-- The totals are those of the boards.
listed_totals : (l : ℕ) {t u : Totals} → Ok u ≡ slips_answer l t → u ≡ t
listed_totals l {t} {u} h =
    by_cases (ltb l t.solve)
    (λ e. clash (sym (ap is_ok (rw e at h))))
    (λ e. ap (λ (p : Planning). totals_in p t) (rw e at h))

pub listed_low : (os ns : List (List ℕ)) {boxes : Boxes} {slips : List ℕ} {boxes' : Boxes} {slips' : List ℕ} {t u : Totals} {q : Planning} → t ≡ totals_of (board_plans os ns) → length ns ≤ 16777215
    → PlanEnded boxes slips t q boxes' slips' → q ≡ Ok u → Countable u
listed_low os ns {slips = slips} {t = t} {u = u} et h p e =
    let js = board_plans os ns in
    let eu : u ≡ totals_of js = listed_totals (length slips / 5) (sym e ∙ p.answer) ∙ et in
    subst⁻¹ Countable eu (totals_low js (rw (boards_count os ns) h))

-- ---- the end

-- A page is finished: the other lent words stay, unless the text does not fit.
pub listing_fits : {n : ℕ} {page page' : List ℕ} {r : Result ℕ Refusal} (boxes : Boxes) (slips : List ℕ) → PageEnded n page page' r → is_err r ≡ false → PageKept n boxes slips page boxes slips page' r
listing_fits {n} {page} boxes slips e t =
    by_cases (leb n (length page))
    (λ q. record { end = e; boxes_left = rw q (record { old_cards = refl; old_entries = refl; new_cards = refl; new_entries = refl }); slips_after = rw q })
    (λ q. clash (sym t ∙ ap is_err e.told ∙ rw q))

pub listing_full : {n : ℕ} {boxes boxes' : Boxes} {slips slips' page page' : List ℕ} {r : Result ℕ Refusal} → PageEnded n page page' r → is_err r ≡ true → BoxesKept false boxes boxes' → slips' ≡ zeros slips
    → PageKept n boxes slips page boxes' slips' page' r
listing_full {n} {page = page} e t k z =
    by_cases (leb n (length page))
    (λ q. clash (sym (ap is_err e.told ∙ rw q) ∙ t))
    (λ q. record { end = e; boxes_left = rw q k; slips_after = rw q z })

-- What the answer of the plan is called does not matter.
listed_as : {js : List BoardPlan} {boxes : Boxes} {slips page : List ℕ} {boxes' : Boxes} {slips' page' : List ℕ} {r : Result ℕ Refusal} (q : Planning) → q ≡ slips_answer (length slips / 5) (totals_of js)
    → Wrote (list_text q js) page page' r → BoxesKept (well_on q js (length page)) boxes boxes' → slips' ≡ cond (well_on q js (length page)) (put_all 5 slips 0 (slips_of js)) (zeros slips)
    → BoardsOnPage js boxes slips page boxes' slips' page' r
listed_as {js} {boxes} {slips} {page} {boxes'} {slips'} {page'} {r} q e w k s = record {
  wrote = subst (λ (p : Planning). Wrote (list_text p js) page page' r) e w;
  boxes_left = subst (λ (p : Planning). BoxesKept (well_on p js (length page)) boxes boxes') e k;
  slips_after = subst (λ (p : Planning). slips' ≡ cond (well_on p js (length page)) (put_all 5 slips 0 (slips_of js)) (zeros slips)) e s;
}

module _ (js : List BoardPlan) (slips : List ℕ) {boxes : Boxes} {ps : List ℕ} {boxes' : Boxes} {slips' : List ℕ} {t : Totals} {q : Planning}
    (f : (t ≡ totals_of js) × (ps ≡ put_all 5 slips 0 (slips_of js))) (el : length ps ≡ length slips) (p : PlanEnded boxes ps t q boxes' slips') where
  answer_is : q ≡ slips_answer (length slips / 5) (totals_of js)
  answer_is = p.answer ∙ ap (λ (k : ℕ). slips_answer (k / 5) t) el ∙ ap (slips_answer (length slips / 5)) f.0

  -- The plan is refused.
  pub boards_refused : {g : PlanRefusal} {page page' : List ℕ} {r : Result ℕ Refusal} → q ≡ Err g → Wrote (refused_line g) page page' r
      → BoardsOnPage js boxes slips page boxes' slips' page' r
  unfolding well_on
  boards_refused {g} e w =
      listed_as
      (Err g)
      (sym e ∙ answer_is)
      w
      (subst (λ (x : Planning). BoxesKept (is_ok x) boxes boxes') e p.boxes_left)
      (subst (λ (x : Planning). slips' ≡ cond (is_ok x) ps (zeros ps)) e p.slips_after ∙ rw el)

  -- Planning is not refused, and the lent words are kept.
  listed_boxes : {u : Totals} → q ≡ Ok u → BoxesKept true boxes boxes' × (slips' ≡ ps)
  listed_boxes e = (
    subst (λ (x : Planning). BoxesKept (is_ok x) boxes boxes') e p.boxes_left,
    subst (λ (x : Planning). slips' ≡ cond (is_ok x) ps (zeros ps)) e p.slips_after,
  )

  pub boards_listed : (a b : ℕ) {u : Totals} {boxes'' : Boxes} {slips'' page page₁ page' : List ℕ} {p₀ p₁ : Page} {r : Result ℕ Refusal} → js ≡ board_plans (cards_in a boxes.old_cards) (cards_in b boxes.new_cards) → q ≡ Ok u
      → Puts p₀ (listing_lines (board_plans (cards_in a boxes'.old_cards) (cards_in b boxes'.new_cards)) ++ total_line u) p₁ → p₀.at ≡ 0 → p₀.bytes.now ≡ page → length js ≤ 16777215
      → PageKept p₁.at boxes' slips' p₁.bytes.now boxes'' slips'' page₁ r → page₁ ≡ page'
      → BoardsOnPage js boxes slips page boxes'' slips'' page' r
  unfolding well_on
  boards_listed a b {u} {boxes''} {slips''} {page} {page'} {p₀} {p₁} ej e w at0 from few z left =
      let k = listed_boxes e in
      let same : board_plans (cards_in a boxes'.old_cards) (cards_in b boxes'.new_cards) ≡ js = rw (k.0.old_cards, k.0.new_cards) (sym ej) in
      let text = listing_lines js ++ total_line u in
      let w' : Puts p₀ text p₁ = rw same at w in
      let short : length text ≤ 1099511627776 = rw length-append (omega (arith, LinesFew js, total_few u, few)) in
      let en : p₁.at ≡ length text = omega (arith, (w'.put (omega (arith, at0, short))).next, at0) in
      let ep : length p₁.bytes.now ≡ length page = w'.kept ∙ ap length from in
      let fit : leb p₁.at (length p₁.bytes.now) ≡ leb (length text) (length page) = rw (en, ep) in
      let z' : BoxesKept (leb (length text) (length page)) boxes' boxes'' = subst (λ (x : Bool). BoxesKept x boxes' boxes'') fit z.boxes_left in
      let well = leb (length text) (length page) in
      listed_as
      (Ok u)
      (sym e ∙ answer_is)
      (ended z.end w' at0 from left short)
      record {
        old_cards = rw k.0.old_cards at z'.old_cards;
        old_entries = rw k.0.old_entries at z'.old_entries;
        new_cards = rw k.0.new_cards at z'.new_cards;
        new_entries = rw k.0.new_entries at z'.new_entries;
      }
      (subst (λ (x : Bool). slips'' ≡ cond x slips' (zeros slips')) fit z.slips_after ∙ slips_same well slips (k.1 ∙ f.1) (ap length k.1 ∙ el))
    where
      slips_same : (x : Bool) (zs : List ℕ) {xs ys : List ℕ} → xs ≡ ys → length xs ≡ length zs → cond x xs (zeros xs) ≡ cond x ys (zeros zs)
      slips_same true zs ex lx = ex
      slips_same false zs ex lx = rw lx

-- ---- the whole

well_listed : (p : Planning) (js : List BoardPlan) (n : ℕ) → well_on p js n ≡ true → is_ok p ≡ true
unfolding well_on
well_listed (Ok t) js n h = refl
well_listed (Err f) js n h = clash h

-- Blocks put into zeros, or zeros.
slips_well : (b : Bool) (L : ℕ) {xs : List (List ℕ)} {w : List ℕ} → Blocks 5 xs → (b ≡ true → 5 * length xs ≤ L) → w ≡ cond b (put_all 5 (replicate L 0) 0 xs) (replicate L 0) → w ≡ lent b L xs
slips_well true L k h e = e ∙ put_zeros 5 L k (h refl)
slips_well false L k h e = e

module _ {c : Conventions} {limit : ℕ} {old new : List ℕ} {boxes boxes' : Boxes} {slips zs page : List ℕ} {r : Editions} (b : BothLimited c limit old new boxes boxes' r) (z : zs ≡ zeros slips) where
  pub list_refused : {f : EditionsRefusal} {page' : List ℕ} {w : Result ℕ Refusal} → r ≡ Err f → Wrote (refused_line (Edition f)) page page' w
      → IsListing c limit old new boxes slips page boxes' zs page' w
  unfolding listing_plan well_on
  list_refused {f} e p =
      let a : limited_both c limit old new boxes ≡ Err f = sym b.answer ∙ e in
      let well : is_ok r ≡ false = ap is_ok e in
      record {
        wrote = rw a p;
        boxes_left = rw a (rw well at b.boxes_left);
        slips_after = rw a z;
      }

  pub list_both : {n : Both} {boxes'' : Boxes} {slips'' page' : List ℕ} {w : Result ℕ Refusal} → r ≡ Ok n → SameRoom boxes boxes'
      → BoardsOnPage (board_plans (cards_in n.old.boards boxes'.old_cards) (cards_in n.new.boards boxes'.new_cards)) boxes' zs page boxes'' slips'' page' w
      → IsListing c limit old new boxes slips page boxes'' slips'' page' w
  unfolding listing_plan
  list_both {n} {boxes''} {slips''} {page'} {w} e room g =
      let ls = length slips in
      let js = plans_of c old new in
      let t = totals_of js in
      let a : limited_both c limit old new boxes ≡ Ok n = sym b.answer ∙ e in
      let same : board_plans (cards_in n.old.boards boxes'.old_cards) (cards_in n.new.boards boxes'.new_cards) ≡ js = boards_are (limited_both_lem b e) e in
      let lz : length zs ≡ ls = ap length z ∙ length-replicate ls 0 in
      let g' : BoardsOnPage js boxes' zs page boxes'' slips'' page' w = subst (λ (x : List BoardPlan). BoardsOnPage x boxes' zs page boxes'' slips'' page' w) same g in
      let q = slips_answer (ls / 5) t in
      let well = well_on q js (length page) in
      let full : BoxesAfter c true old new boxes boxes' = subst (λ (x : Editions). BoxesAfter c (is_ok x) old new boxes boxes') e b.boxes_left in
      let ks : BoxesKept well boxes' boxes'' = subst (λ (k : ℕ). BoxesKept (well_on (slips_answer (k / 5) t) js (length page)) boxes' boxes'') lz g'.boxes_left in
      let es : t.solve ≡ length (slips_of js) = solve_sum js ∙ sym (slips_count js) in
      let sl : slips'' ≡ cond well (put_all 5 zs 0 (slips_of js)) (zeros zs) = subst (λ (k : ℕ). slips'' ≡ cond (well_on (slips_answer (k / 5) t) js (length page)) (put_all 5 zs 0 (slips_of js)) (zeros zs)) lz g'.slips_after in
      let sl' : slips'' ≡ cond well (put_all 5 (replicate ls 0) 0 (slips_of js)) (replicate ls 0) = sl ∙ rw (lz, z) in
      let h : well ≡ true → 5 * length (slips_of js) ≤ ls = λ x. omega (arith, listed_fits ls t (well_listed q js (length page) x), es) in
      let whole : ListingFor c q old new boxes slips page boxes'' slips'' page' w =
      record {
        wrote = subst (λ (k : ℕ). Wrote (list_text (slips_answer (k / 5) t) js) page page' w) lz g'.wrote;
        boxes_left = boxes_kept well full room ks;
        slips_after = slips_well well ls (slips_five js) h sl';
      } in
      subst⁻¹ (λ (x : Editions). ListingFor c (planned_by x (ls / 5) t) old new boxes slips page boxes'' slips'' page' w) a whole
