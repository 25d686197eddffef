-- The worked pair is finished: the finished edition is read, and nothing of it is listed.
use Prim.Native.Nat.{ℕ, zero, suc, ◌*◌, ◌-◌, ◌/◌, ◌<◌}
use mathlib.Core.Path.{◌≡◌, refl, sym, ap, ◌∙◌}
use mathlib.Core.Bool.{true, false}
use mathlib.Core.List.{List, [], ◌∷◌, append-nil}
use native.Mathlib.Omega.{arith}
use lib.Dec.{ltb}
use lib.ListN.{length, get_or, length-replicate}
use lib.Seq.{take_all}
use borrow.Author.Tests.{ltb-true}
use Rattle.std.specs.Prelude.{Ok, is_ok}
use Rattle.tables.specs.declared.letters.Conventions.{Conventions}
use Rattle.tables.specs.Letters.{built_in}
use Rattle.tables.proofs.Laws.{by_cases}
use Rattle.tables.proofs.LetterLaws.{built_in_accepted}
use Rattle.reader.specs.Deals.{ones, card_count, whole_hands, hand_words, hands_of_words}
use Rattle.reader.specs.Store.{lent}
use Rattle.reader.specs.Editions.{reading_of, cards_of, entries_of, counts_of}
use Rattle.planning.specs.declared.plan.Totals.{Totals}
use Rattle.planning.specs.Cards.{card_deal, is_whole, has_table}
use Rattle.planning.specs.States.{state_of, board_plans}
use Rattle.planning.specs.Slips.{card_from, slips_of, totals_of}
use Rattle.planning.specs.Plans.{Boxes, editions_of, planning_of, plans_of}
use Rattle.planning.proofs.AnswerLaws.{solve_sum}
use Rattle.planning.proofs.SlipLaws.{slips_count}
use Rattle.writer.specs.Given.{finished_text}
use Rattle.writer.specs.Writings.{page_after}
use Rattle.writer.specs.Finishings.{finishing_of}
use Rattle.writer.proofs.FinishedPages.{FinishedMost}
use Rattle.golavimes.specs.Answers.{plan_numbers, finishing_numbers, EditionOut, PlanOut, FinishOut}
use Rattle.demands.specs.Demand1.{boards_in, entries_in, solve_in}
use Rattle.demands.specs.Demand3.{IsTaken, Plannable, Finishable, finished_part, AllFinished}
use Rattle.demands.specs.Finished.{FinishedEdition}
use Rattle.demands.specs.Boards.{by_read, by_plan, as_old, as_new}
use Rattle.demands.specs.Worked.{old, new, boxes, slips, boxes', slips', answer', answers, finished, page, finish_answer', cards, entries, cards', entries', read_answer', again, again', again_answer', WorkedFinished}
use Rattle.demands.proofs.FinishedBack.{finished_back}
use Rattle.demands.proofs.FinishRefusing.{is_done}
use Rattle.demands.proofs.Listing.{planned_when_taken}
use Rattle.demands.proofs.Finishing.{has_table_lem, boxes_after, boxes_are, finished_when_answered, finished_right, nothing_left}
use Rattle.demands.proofs.WorkedCards.{new_cards}
use Rattle.demands.proofs.Worked.{worked_pair, worked_answers}

-- ---- what the C functions hand back, of any editions that are taken

not_below : (a b : ℕ) → (a < b → ⊥) → ltb a b ≡ false
not_below a b h = by_cases (ltb a b) (λ e. absurd (h (ltb-true a b e))) (λ e. e)

taken_reading : (c : Conventions) (text cards entries : List ℕ) → IsTaken c text cards entries
    → reading_of c text (length cards) (length entries) ≡ Ok (counts_of c text)
unfolding reading_of
taken_reading c text cards entries t =
    rw (
      not_below 16777215 (length text) t.not_overlong,
      not_below (length cards / 64) (boards_in c text) t.box_not_full,
      not_below (length entries / 4) (entries_in c text) t.list_not_full,
    )

pub read_out : (c : Conventions) (text cards entries : List ℕ) → IsTaken c text cards entries
    → EditionOut c text cards entries (lent true (length cards) (cards_of c text)) (lent true (length entries) (entries_of c text))
    (0 ∷ 0 ∷ 0 ∷ boards_in c text ∷ entries_in c text ∷ []) 0
read_out c text cards entries t =
    let e = taken_reading c text cards entries t in
    record { told = rw e; cards_after = rw e; entries_after = rw e; returned = refl }

-- Finished on a page that is just long enough.
finish_out : (c : Conventions) (old new : List ℕ) (boxes : Boxes) (answers page : List ℕ)
    → Finishable c old new boxes answers page → length page ≡ length (finished_text c old new answers)
    → FinishOut c old new boxes answers page (boxes_after c true old new boxes) (finished_text c old new answers)
    (0 ∷ 0 ∷ 0 ∷ length (finished_text c old new answers) ∷ []) 0
unfolding finishing_of
finish_out c old new boxes answers page f l =
    let text = finished_text c old new answers in
    let w = finishing_of c old new boxes answers (length page) in
    let r = get_or (finishing_numbers w) 0 0 in
    let well = is_ok w in
    let after = boxes_after c well old new boxes in
    let on_page = page_after well text (length page) in
    let z =
    (finished_when_answered c old new boxes answers page after on_page (finishing_numbers w) r
    (record {
      told = refl;
      lent_after = record { answer = refl; boxes_left = boxes_are c well old new boxes; page_left = refl };
      returned = refl;
    })).1 f in
    let e : w ≡ Ok (length text) =
    (is_done (editions_of c old new boxes) (solve_in c old new) answers (length text) (length page) z).is in
    let n : length text - length text ≡ 0 = omega arith in
    record {
      told = rw e;
      lent_after = record {
        answer = refl;
        boxes_left = rw e (boxes_are c true old new boxes);
        page_left = rw (e, l, n) (sym (append-nil text));
      };
      returned = refl;
    }

-- Planned with enough slips lent.
pub plan_out : (c : Conventions) (old new : List ℕ) (boxes : Boxes) (slips : List ℕ) → Plannable c old new boxes slips
    → PlanOut c old new boxes slips (boxes_after c true old new boxes) (lent true (length slips) (slips_of (plans_of c old new)))
    (plan_numbers (Ok (totals_of (plans_of c old new)))) 0
unfolding planning_of editions_of
plan_out c old new boxes slips f =
    let p : planning_of c old new boxes (length slips) ≡ Ok (totals_of (plans_of c old new)) =
    rw (
      taken_reading c old boxes.old_cards boxes.old_entries f.old_taken,
      taken_reading c new boxes.new_cards boxes.new_entries f.new_taken,
      not_below (length slips / 5) (solve_in c old new) f.slips_enough,
    ) in
    record { told = rw p; boxes_left = rw p (boxes_are c true old new boxes); slips_after = rw p; returned = refl }

-- With none, where no board is to be solved.
plan_none : (c : Conventions) (old new : List ℕ) (boxes : Boxes) (t : Totals)
    → IsTaken c old boxes.old_cards boxes.old_entries → IsTaken c new boxes.new_cards boxes.new_entries
    → totals_of (plans_of c old new) ≡ t → t.solve ≡ 0
    → PlanOut c old new boxes [] (boxes_after c true old new boxes) [] (plan_numbers (Ok t)) 0
plan_none c old new boxes t to tn e z =
    let js = plans_of c old new in
    let n = ap (λ (u : Totals). u.solve) e in
    let none : slips_of js ≡ [] = sym (take_all 0 (slips_of js) (omega (arith, slips_count js, solve_sum js))) in
    rw (none, e) at (plan_out c old new boxes [] (record { old_taken = to; new_taken = tn; slips_enough = λ h. omega arith }))

-- ---- it is finished

taken : Plannable built_in old new boxes slips
taken = (planned_when_taken built_in old new boxes slips boxes' slips' answer' 0 worked_pair.planned).0 refl

finishable : Finishable built_in old new boxes answers page
finishable =
    record {
      old_taken = taken.old_taken;
      new_taken = taken.new_taken;
      twenty_each = λ h. h worked_answers.answered.twenty_each;
      none_above = λ h. omega arith;
      page_long = λ h. omega (arith, length-replicate {A = ℕ} (length finished) 0);
    }

finish : FinishOut built_in old new boxes answers page boxes' finished finish_answer' 0
finish = finish_out built_in old new boxes answers page finishable (length-replicate {A = ℕ} (length finished) 0)

part : finished_part finished finish_answer' ≡ finished
part = take_all (length finished) finished (omega arith)

-- ---- it is read

back : FinishedEdition built_in old new answers finished
back = finished_back built_in built_in_accepted old new answers worked_answers.answered

three : boards_in built_in finished ≡ 3
three = back.as_many ∙ ap length new_cards

finished_taken : IsTaken built_in finished cards entries
finished_taken =
    record {
      not_overlong = λ h. omega (arith, FinishedMost built_in old new answers);
      box_not_full = λ h. omega (arith, three);
      list_not_full = λ h. omega (arith, length-replicate {A = ℕ} (4 * entries_in built_in finished) 0);
    }

read : EditionOut built_in finished cards entries cards' entries' read_answer' 0
read = rw (three, length-replicate {A = ℕ} (4 * entries_in built_in finished) 0) at (read_out built_in finished cards entries finished_taken)

-- ---- each of its boards has a table of its own

abbrev all_own : Totals
all_own = record { boards = 3; blank = 0; own = 3; old = 0; near = 0; twin = 0; solve = 0 }

own_totals : (olds xs : List (List ℕ)) → length xs ≡ 3
    → ((k : ℕ) → k < 3 → (is_whole (card_from xs k) ≡ true) × (has_table (card_from xs k) ≡ true))
    → totals_of (board_plans olds xs) ≡ all_own
unfolding board_plans state_of totals_of
own_totals olds [] e h = absurd (omega arith)
own_totals olds (x ∷ []) e h = absurd (omega arith)
own_totals olds (x ∷ y ∷ []) e h = absurd (omega arith)
own_totals olds (x ∷ y ∷ z ∷ []) e h =
    let a = h 0 (omega arith) in
    let b = h 1 (omega arith) in
    let d = h 2 (omega arith) in
    rw (a.0, a.1, b.0, b.1, d.0, d.1)
own_totals olds (x ∷ y ∷ z ∷ w ∷ xs) e h = absurd (omega arith)

new_whole : (k : ℕ) → k < 3 → is_whole (card_from (cards_of built_in new) k) ≡ true
unfolding ones card_count whole_hands hand_words hands_of_words card_deal is_whole
new_whole zero l = rw new_cards
new_whole (suc zero) l = rw new_cards
new_whole (suc (suc zero)) l = rw new_cards
new_whole (suc (suc (suc k))) l = absurd (omega arith)

each_own : (k : ℕ) → k < 3
    → (is_whole (card_from (cards_of built_in finished) k) ≡ true) × (has_table (card_from (cards_of built_in finished) k) ≡ true)
each_own k l =
    let m : k < length (cards_of built_in new) = omega (arith, three, back.as_many) in
    ((back.each k m).whole ∙ new_whole k l, has_table_lem built_in old new answers finished back k m (new_whole k l))

plan_again : PlanOut built_in old finished again [] again' [] again_answer' 0
plan_again =
    rw (length-replicate {A = ℕ} (4 * entries_in built_in finished) 0) at
    (plan_none built_in old finished again all_own taken.old_taken finished_taken
    (own_totals (cards_of built_in old) (cards_of built_in finished) three each_own) refl)

pub worked_finished : WorkedFinished
worked_finished =
    record {
      finish = finish;
      part = part;
      read = read;
      plan_again = plan_again;
      old_taken = taken.old_taken;
      finished_taken = finished_taken;
    }

-- ---- so the last sentences of demand 3 hold of it

pub worked_right : AllFinished built_in old new boxes'.old_cards boxes'.new_cards (get_or answer' 9 0) slips' answers finished cards'
worked_right =
    rw part at
    (finished_right built_in built_in_accepted old new boxes answers page boxes' finished finish_answer' finish
    boxes slips boxes' slips' answer' worked_pair.planned
    boxes'.old_cards boxes'.old_entries boxes'.new_cards boxes'.new_entries cards' entries'
    (as_old (by_plan worked_pair.planned)) (as_new (by_plan worked_pair.planned)) (rw part (by_read read)))

pub worked_left : get_or again_answer' 9 0 ≡ 0
worked_left =
    (nothing_left built_in built_in_accepted old new boxes answers page boxes' finished finish_answer' finish old again [] again' [] again_answer' 0
    (rw part plan_again) taken.old_taken (rw part finished_taken)).1
