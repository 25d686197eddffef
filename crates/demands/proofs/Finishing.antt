-- The finished edition: when there is one, what it holds, that nothing is left to solve in it, and that no deal of it is listed again.
use Prim.Native.Nat.{ℕ, suc, ◌+◌, ◌-◌, ◌*◌, ◌<◌}
use mathlib.Core.Path.{◌≡◌, refl, sym, ap, ◌∙◌}
use mathlib.Core.Bool.{Bool, true}
use mathlib.Core.List.{List, [], ◌∷◌, ◌++◌}
use native.Mathlib.Omega.{arith}
use lib.Dec.{ltb, leb}
use lib.ListN.{length, get_or, replicate}
use lib.Seq.{take_at, take_all}
use borrow.Author.Tests.{ltb-true, ltb-false, le-leb, ne_eqb}
use Rattle.std.specs.Prelude.{Result, Ok, Err}
use Rattle.tables.specs.declared.letters.Conventions.{Conventions}
use Rattle.tables.specs.Letters.{Accepted, every}
use Rattle.tables.proofs.Laws.{by_cases, clash}
use Rattle.reader.specs.declared.deal.Hands.{Hands}
use Rattle.reader.specs.Store.{flat, padded, lent}
use Rattle.reader.specs.Editions.{reading_of, cards_of, entries_of}
use Rattle.planning.specs.declared.plan.Totals.{Totals}
use Rattle.planning.specs.Cards.{is_whole, has_table, card_here}
use Rattle.planning.specs.States.{BoardPlan, state_number, from_of, state_at}
use Rattle.planning.specs.Slips.{slips_of, count_of, card_from}
use Rattle.planning.specs.Plans.{Boxes, editions_of, plans_of, BoxesAfter, state_by, Editions}
use Rattle.planning.specs.Demands.{Among, WithDeal, Tabled, Some, slip_here}
use Rattle.planning.proofs.AnswerLaws.{solve_sum}
use Rattle.planning.proofs.CardLaws.{CardsHanded}
use Rattle.planning.proofs.FoundLaws.{card_among, numbered}
use Rattle.planning.proofs.SlipLaws.{slips_count}
use Rattle.writer.specs.declared.finish.FinishRefusal.{FinishRefusal}
use Rattle.writer.specs.declared.finish.FinishRefusal.TheVariants.{Edition, Answers, Impossible, PageFull}
use Rattle.writer.specs.Pages.{written_text}
use Rattle.writer.specs.Writings.{writing_of}
use Rattle.writer.specs.Given.{tables_of, finished_text}
use Rattle.writer.specs.Finishings.{first_above, finishing_of}
use Rattle.golavimes.specs.Answers.{state_numbers, writing_numbers, finishing_numbers, WritingOut, PlanOut, FinishOut}
use Rattle.demands.specs.Demand1.{solve_in, Begins, refusal}
use Rattle.demands.specs.Demand3.{IsTaken, FinishedAt, finished_part, FinishedRight, FinishedWhenAnswered, NothingLeft, NeverTwice, WrittenWhenNoneWanted}
use Rattle.demands.specs.Finished.{Answered, no_table, FinishedEdition}
use Rattle.demands.proofs.Listed.{told, all_listed, no_solve}
use Rattle.demands.proofs.Listing.{read_number_lem, promised, planned_when_taken, listed_exactly}
use Rattle.demands.proofs.Handed.{writing_zero}
use Rattle.demands.proofs.ReadAlike.{cards_handed}
use Rattle.demands.proofs.FinishedBack.{finished_back, none_wanted}
use Rattle.demands.proofs.FinishRefusing.{finish_refuses, is_done}
use Rattle.demands.proofs.FinishedTables.{whole_kind, own_cells, blank_has, blank_kind, blank_cells, cells_from}
use Rattle.std.specs.Prelude.{Ok, Err, is_ok}

-- ---- when it is finished

-- An answer that begins with 0 names no edition.
no_edition : (w : Result ℕ FinishRefusal) → get_or (finishing_numbers w) 0 0 ≡ 0 → get_or (finishing_numbers w) 1 0 ≡ 0
no_edition (Ok n) e = refl
no_edition (Err (Edition f)) e = absurd (read_number_lem f.refusal e)
no_edition (Err (Answers n)) e = refl
no_edition (Err (Impossible n)) e = refl
no_edition (Err (PageFull n)) e = refl

pub finished_when_answered : FinishedWhenAnswered
finished_when_answered c old new boxes answers page boxes' page' answer' r o =
    let w = finishing_of c old new boxes answers (length page) in
    let f = (finish_refuses c old new boxes answers page boxes' page' answer' r o).refused in
    let none = f.1.1.1.1.1.1.1.1.1.exactly in (
      λ z.
          let e : get_or answer' 0 0 ≡ 0 = sym o.returned ∙ z in
          let b : Begins answer' (refusal 0 0 0 (Unit {0})) =
          record { number_is = e; edition_is = rw o.told (no_edition w (rw o.told at e)) } in
          let n = (none.0 b).0 in
          record {
            old_taken = record {
              not_overlong = n.0.0.0.0.0.0.0.0.1;
              box_not_full = n.0.0.0.0.0.0.0.1;
              list_not_full = n.0.0.0.0.0.0.1;
            };
            new_taken = record {
              not_overlong = n.0.0.0.0.0.1;
              box_not_full = n.0.0.0.0.1;
              list_not_full = n.0.0.0.1;
            };
            twenty_each = n.0.0.1;
            none_above = n.0.1;
            page_long = n.1;
          },
      λ p.
          let a = p.old_taken in
          let b = p.new_taken in
          o.returned
          ∙ (none.1 (
            (((((((((tt, a.not_overlong), a.box_not_full), a.list_not_full), b.not_overlong), b.box_not_full), b.list_not_full), p.twenty_each), p.none_above), p.page_long),
            tt,
          )).number_is,
    )

-- ---- what is finished

-- No byte is above 13 where the first such index is their number.
none_above : (bs : List ℕ) → first_above bs ≡ length bs → every (λ n. leb n 13) bs ≡ true
none_above [] e = refl
none_above (b ∷ bs) e =
    by_cases (ltb 13 b)
    (λ t. let z = rw t at e in absurd (omega arith))
    (λ t. let z = rw t at e in rw (le-leb b 13 (ltb-false 13 b t)) (none_above bs (omega arith)))

-- Both editions were taken, the answers were let through, and the finished edition is its text.
record Done (c : Conventions) (old new : List ℕ) (boxes : Boxes) (answers page' answer' : List ℕ) : Type 0 where
  both_taken : is_ok (editions_of c old new boxes) ≡ true
  answered : Answered c old new answers
  part : finished_part page' answer' ≡ finished_text c old new answers

done : (c : Conventions) (old new : List ℕ) (boxes : Boxes) (answers page : List ℕ) (boxes' : Boxes) (page' answer' : List ℕ)
    → FinishOut c old new boxes answers page boxes' page' answer' 0 → Done c old new boxes answers page' answer'
unfolding finishing_of
done c old new boxes answers page boxes' page' answer' o =
    let text = finished_text c old new answers in
    let d =
    is_done (editions_of c old new boxes) (solve_in c old new) answers (length text) (length page)
    (sym (ap (λ (l : List ℕ). get_or l 0 0) o.told) ∙ sym o.returned) in
    let a : answer' ≡ 0 ∷ 0 ∷ 0 ∷ length text ∷ [] = o.told ∙ ap finishing_numbers d.is in
    let p : page' ≡ text ++ replicate (length page - length text) 0 = rw d.is at o.lent_after.page_left in
    record {
      both_taken = d.taken;
      answered = record { twenty_each = d.twenty; possible = none_above answers d.possible };
      part = rw (a, p) (take_at text (replicate (length page - length text) 0) (length text) refl);
    }

-- ---- what golavimes_plan and golavimes_state answer

-- As many slips as boards to solve, and zeros behind them.
record Slipped (c : Conventions) (old new slips slips' answer' : List ℕ) : Type 0 where
  solve_is : get_or answer' 9 0 ≡ count_of 5 (plans_of c old new)
  slips_are : slips' ≡ padded (length slips) (flat (slips_of (plans_of c old new)))

slipped : (c : Conventions) (old new : List ℕ) (boxes : Boxes) (slips : List ℕ) (boxes' : Boxes) (slips' answer' : List ℕ)
    → PlanOut c old new boxes slips boxes' slips' answer' 0 → Slipped c old new slips slips' answer'
slipped c old new boxes slips boxes' slips' answer' o =
    let p = promised c old new boxes slips boxes' slips' answer' o in
    let t = (told c old new boxes slips boxes' slips' p.totals p.planned).totals in
    record {
      solve_is = p.solve_told ∙ ap (λ (u : Totals). u.solve) t ∙ solve_sum (plans_of c old new);
      slips_are = p.planned.slips_after;
    }

state_told : (e : Editions) (js : List BoardPlan) (p : ℕ) (answer : List ℕ) → answer ≡ state_numbers e (state_by e js p) → 0 ≡ get_or answer 0 0
    → (get_or answer 3 0 ≡ state_number (state_at js p)) × (get_or answer 4 0 ≡ from_of (state_at js p))
state_told (Ok n) js p answer e z = rw e (refl, refl)
state_told (Err f) js p answer e z = absurd (read_number_lem f.refusal (sym (rw e at z)))

-- ---- the boards of the finished edition

module _ (c : Conventions) (old new answers finished : List ℕ) (e : FinishedEdition c old new answers finished) where
  -- A whole board has a table.
  pub has_table_lem : (k : ℕ) → k < length (cards_of c new) → is_whole (card_from (cards_of c new) k) ≡ true
      → has_table (card_from (cards_of c finished) k) ≡ true
  has_table_lem k l w =
      let t = get_or (tables_of c old new answers) k no_table in
      (e.each k l).table ∙ rw (ne_eqb t.kind 0 (whole_kind c old new answers k l w))

  all_tables : (x : List ℕ) → Among x (cards_of c finished) → is_whole x ≡ true → has_table x ≡ true
  all_tables x a w =
      let n = numbered a in
      let k = n.number in
      let l : k < length (cards_of c new) = omega (arith, n.below, e.as_many) in
      let v : is_whole (card_from (cards_of c new) k) ≡ true = sym (e.each k l).whole ∙ rw n.is w in
      rw n.is at (has_table_lem k l v)

  -- A board with a deal has it in the finished edition, and a table.
  same_deal : (k : ℕ) → k < length (cards_of c new) → (h : Hands) → WithDeal h (card_from (cards_of c new) k)
      → WithDeal h (card_from (cards_of c finished) k)
  same_deal k l h d =
      record { whole = (e.each k l).whole ∙ d.whole; hands = (e.each k l).hands d.whole ∙ d.hands }

  tabled : (k : ℕ) → k < length (cards_of c new) → (h : Hands) → WithDeal h (card_from (cards_of c new) k)
      → Tabled h (card_from (cards_of c finished) k)
  tabled k l h d = record { deal = same_deal k l h d; table = has_table_lem k l d.whole }

  some_tabled : (h : Hands) → Some (WithDeal h) (cards_of c new) → Some (Tabled h) (cards_of c finished)
  some_tabled h s =
      let n = numbered s.among in
      let k = n.number in
      record {
        card = card_from (cards_of c finished) k;
        among = card_among (cards_of c finished) k (omega (arith, n.below, e.as_many));
        holds = tabled k n.below h (rw n.is s.holds);
      }

  -- The board number k, from 0, by the cards that the definitions read.
  board_finished : (old_cards new_cards slips : List ℕ) (n : ℕ)
      → ((j : ℕ) → j < length (cards_of c old) → card_here j old_cards ≡ card_from (cards_of c old) j)
      → ((j : ℕ) → j < length (cards_of c new) → card_here j new_cards ≡ card_from (cards_of c new) j)
      → length answers ≡ 20 * count_of 5 (plans_of c old new)
      → slips ≡ padded n (flat (slips_of (plans_of c old new)))
      → (k : ℕ) → k < length (cards_of c new)
      → FinishedAt c old new old_cards new_cards (count_of 5 (plans_of c old new)) slips answers k
      (card_from (cards_of c new) k) (card_from (cards_of c finished) k)
  board_finished old_cards new_cards slips n olds_are news_are twenty are k l =
      let f = e.each k l in
      record {
        same_deal = same_deal k l;
        no_deal = λ w. f.whole ∙ w;
        no_deal_table = λ w. f.table ∙ blank_has c old new answers k l w;
        no_deal_cells = λ w t. f.cells (blank_kind c old new answers k l w t) ∙ blank_cells c old new answers k l w;
        with_table = tabled k l;
        own_cells = λ h t.
            f.cells (whole_kind c old new answers k l t.deal.whole) ∙ own_cells c old new answers k l t.deal.whole t.table;
        cells_from = λ h d boxes boxes' answer' o.
            let m : k + 1 ≡ suc k = omega arith in
            let s = rw m at (state_told (editions_of c old new boxes) (plans_of c old new) (k + 1) answer' o.told o.returned) in
            rw (s.0, s.1, f.cells (whole_kind c old new answers k l d.whole), ← d.hands)
            (cells_from c old new answers k l old_cards new_cards slips n olds_are news_are twenty are d.whole);
      }

-- ---- nothing to solve

-- Where every whole board of the new edition has a table no board is to be solved.
none_to_solve : (c : Conventions) (old new : List ℕ) → ((x : List ℕ) → Among x (cards_of c new) → is_whole x ≡ true → has_table x ≡ true)
    → count_of 5 (plans_of c old new) ≡ 0
none_to_solve c old new all =
    let js = plans_of c old new in
    let slips = padded 0 (flat (slips_of js)) in
    let l = all_listed (cards_of c old) (cards_of c new) (CardsHanded c old) (CardsHanded c new) (count_of 5 js) 0 slips refl refl in
    by_cases (ltb 0 (count_of 5 js))
    (λ b. absurd (no_solve c old new (slip_here 0 slips) all (l.of_solve 0 (ltb-true 0 (count_of 5 js) b))))
    (λ b. omega (arith, ltb-false 0 (count_of 5 js) b))

-- Planning it then lists nothing, whatever slips are lent.
lists_nothing : (c : Conventions) (old new : List ℕ) → ((x : List ℕ) → Among x (cards_of c new) → is_whole x ≡ true → has_table x ≡ true)
    → (boxes : Boxes) (slips : List ℕ) (boxes' : Boxes) (slips' answer' : List ℕ) (r : ℕ)
    → PlanOut c old new boxes slips boxes' slips' answer' r
    → IsTaken c old boxes.old_cards boxes.old_entries → IsTaken c new boxes.new_cards boxes.new_entries
    → (r ≡ 0) × (get_or answer' 9 0 ≡ 0) × (slips' ≡ replicate (length slips) 0)
lists_nothing c old new all boxes slips boxes' slips' answer' r o to tn =
    let js = plans_of c old new in
    let none = none_to_solve c old new all in
    let z : r ≡ 0 =
    (planned_when_taken c old new boxes slips boxes' slips' answer' r o).1
    (record { old_taken = to; new_taken = tn; slips_enough = λ h. omega (arith, solve_sum js) }) in
    let p = slipped c old new boxes slips boxes' slips' answer' (rw z at o) in
    let no_slips : slips_of js ≡ [] = sym (take_all 0 (slips_of js) (omega (arith, slips_count js))) in
    let all_zero : length slips - 0 ≡ length slips = omega arith in (
      z,
      p.solve_is ∙ none,
      p.slips_are ∙ rw (no_slips, all_zero),
    )

-- ---- the theorems

edition : (c : Conventions) → Accepted c → (old new : List ℕ) (boxes : Boxes) (answers page' answer' : List ℕ) → Done c old new boxes answers page' answer'
    → FinishedEdition c old new answers (finished_part page' answer')
edition c a old new boxes answers page' answer' d = rw d.part (finished_back c a old new answers d.answered)

pub finished_right : FinishedRight
finished_right c a old new boxes answers page boxes' page' answer' o lent slips lent' slips' plan po oc oe nc ne cards entries ho hn hf =
    let d = done c old new boxes answers page boxes' page' answer' o in
    let finished = finished_part page' answer' in
    let e = edition c a old new boxes answers page' answer' d in
    let js = plans_of c old new in
    let p = slipped c old new lent slips lent' slips' plan po in
    let twenty : length answers ≡ 20 * count_of 5 js = d.answered.twenty_each ∙ ap (λ (n : ℕ). 20 * n) (solve_sum js) in
    let olds_are = cards_handed c old oc oe ho in
    let news_are = cards_handed c new nc ne hn in
    record {
      as_many = e.as_many;
      each = λ k l.
          rw (p.solve_is, news_are k l, cards_handed c finished cards entries hf k (omega (arith, e.as_many)))
          (board_finished c old new answers finished e oc nc slips' (length slips) olds_are news_are twenty p.slips_are k l);
    }

pub nothing_left : NothingLeft
nothing_left c a old new boxes answers page boxes' page' answer' o other other_boxes slips other_boxes' slips' other_answer' r po to tn =
    let d = done c old new boxes answers page boxes' page' answer' o in
    let finished = finished_part page' answer' in
    lists_nothing c other finished (all_tables c old new answers finished (edition c a old new boxes answers page' answer' d))
    other_boxes slips other_boxes' slips' other_answer' r po to tn

pub never_twice : NeverTwice
never_twice c a old new boxes answers page boxes' page' answer' o later later_boxes slips later_boxes' slips' later_answer' po h s l =
    let d = done c old new boxes answers page boxes' page' answer' o in
    let finished = finished_part page' answer' in
    let t = some_tabled c old new answers finished (edition c a old new boxes answers page' answer' d) h s in
    ((listed_exactly c finished later later_boxes slips later_boxes' slips' later_answer' po h).0 l).none_old t.card t.among t.holds

-- ---- where no board gets a table

-- The boxes that are handed back.
abbrev pub boxes_after : Conventions → Bool → List ℕ → List ℕ → Boxes → Boxes
boxes_after c well old new boxes =
    record {
      old_cards = lent well (length boxes.old_cards) (cards_of c old);
      old_entries = lent well (length boxes.old_entries) (entries_of c old);
      new_cards = lent well (length boxes.new_cards) (cards_of c new);
      new_entries = lent well (length boxes.new_entries) (entries_of c new);
    }

pub boxes_are : (c : Conventions) (well : Bool) (old new : List ℕ) (boxes : Boxes)
    → BoxesAfter c well old new boxes (boxes_after c well old new boxes)
boxes_are c well old new boxes = record { old_cards = refl; old_entries = refl; new_cards = refl; new_entries = refl }

-- golavimes_state can be asked once both editions were taken.
asked : (e : Editions) (js : List BoardPlan) (p : ℕ) → is_ok e ≡ true
    → (0 ≡ get_or (state_numbers e (state_by e js p)) 0 0) × (get_or (state_numbers e (state_by e js p)) 3 0 ≡ state_number (state_at js p))
asked (Ok n) js p t = (refl, refl)
asked (Err f) js p t = clash t

-- What golavimes_write puts on the page.
written_part : (c : Conventions) (text cards entries page cards' entries' page' answer' : List ℕ)
    → WritingOut c text cards entries page cards' entries' page' answer' 0 → finished_part page' answer' ≡ written_text c text
unfolding writing_of
written_part c text cards entries page cards' entries' page' answer' o =
    let bs = written_text c text in
    let w =
    (writing_zero bs (length page) (reading_of c text (length cards) (length entries))
    (sym (ap (λ (l : List ℕ). get_or l 0 0) o.told) ∙ sym o.returned)).1 in
    let a : answer' ≡ 0 ∷ 0 ∷ 0 ∷ length bs ∷ [] = o.told ∙ ap writing_numbers w in
    let p : page' ≡ bs ++ replicate (length page - length bs) 0 = rw w at o.lent_after.page_left in
    rw (a, p) (take_at bs (replicate (length page - length bs) 0) (length bs) refl)

pub written_when_none_wanted : WrittenWhenNoneWanted
written_when_none_wanted c old new boxes answers page boxes' page' answer' o cards entries w_page cards' entries' w_page' w_answer' wo h =
    let d = done c old new boxes answers page boxes' page' answer' o in
    let e = editions_of c old new boxes in
    let js = plans_of c old new in
    let low : (p : ℕ) → state_number (state_at js p) < 2 =
    λ p.
    let s = asked e js p d.both_taken in
    let l = h p boxes (boxes_after c (is_ok e) old new boxes) (state_numbers e (state_by e js p))
    (record { told = refl; boxes_left = boxes_are c (is_ok e) old new boxes; returned = s.0 }) in
    rw s.1 at l in
    d.part ∙ none_wanted c old new answers low ∙ sym (written_part c new cards entries w_page cards' entries' w_page' w_answer' wo)
