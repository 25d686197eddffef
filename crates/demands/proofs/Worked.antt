-- The worked pair meets every premise of demand 3, and one deal of it is listed.
use Prim.Native.Nat.{ℕ}
use mathlib.Core.Path.{◌≡◌, refl}
use mathlib.Core.Bool.{true}
use mathlib.Core.List.{List, []}
use native.Mathlib.Omega.{arith}
use Rattle.tables.specs.Letters.{built_in}
use Rattle.reader.specs.Deals.{ones, card_count, whole_hands, hand_words, hands_of_words}
use Rattle.reader.specs.Store.{lent}
use Rattle.reader.specs.Editions.{reading_of, cards_of}
use Rattle.planning.specs.Cards.{card_deal, hands_of, is_whole, has_table, has_deal, fits}
use Rattle.planning.specs.States.{first_with, state_of, board_plans}
use Rattle.planning.specs.Slips.{slip_of, slips_of, totals_of}
use Rattle.planning.specs.Plans.{editions_of, planning_of, plans_of}
use Rattle.planning.specs.Demands.{Among, here, there, Tabled, Some, AllSolved, OnlyInside}
use Rattle.planning.proofs.FoundLaws.{among_cases}
use Rattle.writer.specs.Given.{answer_at, table_of, tables_of}
use Rattle.golavimes.specs.Answers.{plan_numbers, PlanOut}
use Rattle.demands.specs.Worked.{worked_front, old_stretch, new_stretch, worked_back, old, new, deal_a, deal_b, deal_d, boxes, slips, boxes', slips', answer', WorkedPair, WorkedAnswers}
use Rattle.demands.specs.Boards.{by_plan, as_old, as_new}
use Rattle.demands.specs.Demand3.{OutsideAlike}
use Rattle.demands.proofs.ReadAlike.{outside_read_alike}
use Rattle.demands.proofs.Listing.{inside_alone}
use Rattle.demands.proofs.WorkedCards.{front_card, back_card, olds, old_cards, new_cards, old_entries, new_entries, alike}
use Rattle.std.specs.Prelude.{is_ok}

told : answer' ≡ plan_numbers (planning_of built_in old new boxes 5)
unfolding ones card_count whole_hands hand_words hands_of_words card_deal is_whole has_table has_deal fits first_with state_of board_plans totals_of reading_of editions_of planning_of
told = rw (old_cards, new_cards, old_entries, new_entries)

slips_are : slips' ≡ lent true 5 (slips_of (plans_of built_in old new))
unfolding ones card_count whole_hands hand_words hands_of_words card_deal is_whole has_table has_deal fits first_with state_of board_plans slip_of
slips_are = rw (old_cards, new_cards)

is_listed : is_ok (planning_of built_in old new boxes 5) ≡ true
unfolding ones card_count whole_hands hand_words hands_of_words card_deal is_whole has_table has_deal fits first_with state_of board_plans totals_of reading_of editions_of planning_of
is_listed = rw (old_cards, new_cards, old_entries, new_entries)

planned : PlanOut built_in old new boxes slips boxes' slips' answer' 0
planned =
    record {
      told = told;
      boxes_left = rw is_listed (record { old_cards = refl; old_entries = refl; new_cards = refl; new_entries = refl });
      slips_after = rw is_listed slips_are;
      returned = refl;
    }

front_tabled : Tabled deal_a front_card
unfolding ones card_count whole_hands hand_words hands_of_words card_deal is_whole has_table
front_tabled = record { deal = record { whole = refl; hands = refl }; table = refl }

back_tabled : Tabled deal_d back_card
unfolding ones card_count whole_hands hand_words hands_of_words card_deal is_whole has_table
back_tabled = record { deal = record { whole = refl; hands = refl }; table = refl }

among_none : {P : Type 0} {x : List ℕ} → Among x [] → P
among_none a = elim a [ ]

-- Both boards with the deal a have a table on the first, the third has its own.
solved_cards : AllSolved olds
unfolding hand_words hands_of_words card_deal
solved_cards x a w =
    let P : List ℕ → Type 0 = λ y. Some (Tabled (hands_of y)) olds in
    let first : Some (Tabled deal_a) olds = record { card = front_card; among = here; holds = front_tabled } in
    let last : Some (Tabled deal_d) olds = record { card = back_card; among = there (there here); holds = back_tabled } in
    among_cases P a first (λ b. among_cases P b first (λ d. among_cases P d last (λ e. among_none e)))

pub worked_pair : WorkedPair
unfolding hand_words
worked_pair =
    record {
      alike = alike;
      planned = planned;
      solved = rw old_cards solved_cards;
      solved_in_front = rw old_cards (record { card = front_card; among = here; holds = (front_tabled, omega arith) });
      solved_in_back = rw old_cards (record { card = back_card; among = there (there here); holds = (back_tabled, omega arith) });
      listed = record { slip = 0; below = omega arith; holds = record { north = refl; east = refl; south = refl; west = refl } };
    }

-- ---- so the sentences of demand 3 hold of it: boards outside the stretch are read alike, and the listed deal is inside it alone

pub worked_alike : OutsideAlike built_in worked_front old_stretch new_stretch worked_back boxes'.old_cards boxes'.old_entries boxes'.new_cards boxes'.new_entries
worked_alike =
    (outside_read_alike built_in worked_front old_stretch new_stretch worked_back boxes'.old_cards boxes'.old_entries boxes'.new_cards boxes'.new_entries
    worked_pair.alike (as_old (by_plan worked_pair.planned)) (as_new (by_plan worked_pair.planned))).0

pub worked_inside : OnlyInside worked_front new_stretch deal_b (cards_of built_in new)
worked_inside =
    inside_alone built_in worked_front old_stretch new_stretch worked_back boxes slips boxes' slips' answer'
    worked_pair.alike worked_pair.planned worked_pair.solved deal_b worked_pair.listed

-- ---- the answers

pub worked_answers : WorkedAnswers
unfolding ones card_count whole_hands hand_words hands_of_words card_deal is_whole has_table has_deal fits first_with state_of board_plans totals_of answer_at table_of tables_of
worked_answers =
    record {
      answered = record { twenty_each = rw (old_cards, new_cards); possible = refl };
      cells_given = rw (old_cards, new_cards);
    }
