-- Laws of the answers that rest on both editions read: one for each answer.
use Prim.Native.Nat.{ℕ, ◌+◌, ◌*◌, ◌/◌, ◌≤◌}
use mathlib.Core.Path.{◌≡◌, refl, sym, ap, ◌∙◌, subst}
use mathlib.Core.Bool.{Bool, true, false, cond}
use mathlib.Core.List.{List, [], ◌∷◌}
use native.Mathlib.Omega.{arith}
use borrow.Author.Tests.{ltb-false}
use lib.Dec.{ltb, leb}
use lib.ListN.{length, replicate, length-replicate}
use lib.Seq.{length-sets}
use Rattle.std.specs.Prelude.{Option, Result, Ok, Err, is_ok}
use Rattle.std.specs.Result.{IsErrAnd}
use Rattle.tables.specs.declared.letters.Conventions.{Conventions}
use Rattle.tables.proofs.Laws.{by_cases, clash}
use Rattle.reader.specs.Store.{zeros, put, put_all}
use Rattle.reader.specs.Editions.{cards_of}
use Rattle.reader.proofs.EditionLaws.{ended}
use Rattle.reader.proofs.CardLength.{CardsWhole}
use Rattle.reader.proofs.Counts.{TextBoardsFew}
use Rattle.planning.specs.declared.state.BoardState.{BoardState}
use Rattle.planning.specs.declared.behind.Behind.{Behind}
use Rattle.planning.specs.declared.editions.Both.{Both}
use Rattle.planning.specs.declared.editions.LentBoxes.{LentBoxes}
use Rattle.planning.specs.declared.editions.EditionsRefusal.{EditionsRefusal}
use Rattle.planning.specs.declared.plan.PlanRefusal.{PlanRefusal}
use Rattle.planning.specs.declared.plan.PlanRefusal.TheVariants.{Edition, SlipsShort}
use Rattle.planning.specs.declared.plan.Totals.{Totals}
use Rattle.planning.specs.PlanSteps.{cards_in, BoxesKept, PlanEnded}
use Rattle.planning.specs.States.{BoardPlan, board_plans, state_at}
use Rattle.planning.specs.Searches.{searches_from, words_in_all}
use Rattle.planning.specs.Slips.{slips_of, count_of, totals_of, behind_at, numbers_from}
use Rattle.planning.specs.Plans.{Boxes, words_of, SameLent, Editions, Planning, editions_of, plans_of, slips_answer, planning_of, BoxesAfter, BothRead, IsPlanned, old_reading, new_reading, StateTold, BehindTold, BoardsTold, SearchesTold}
use Rattle.planning.proofs.BothLaws.{CardsThere, both_cards, both_are_taken, taken_short}
use Rattle.planning.proofs.SlipLaws.{slips_count, slips_five}

-- ---- the end of planning

-- Lent words, kept or set to 0.
kept : (b : Bool) (L : ℕ) {p w w' : List ℕ} → w ≡ p → length w ≡ L → w' ≡ cond b w (zeros w) → w' ≡ cond b p (replicate L 0)
kept true L e el f = f ∙ e
kept false L e el f = f ∙ rw el

-- Boxes with as many words as before.
pub record SameRoom (boxes boxes' : Boxes) : Type 0 where
  pub old_cards : length boxes'.old_cards ≡ length boxes.old_cards
  pub old_entries : length boxes'.old_entries ≡ length boxes.old_entries
  pub new_cards : length boxes'.new_cards ≡ length boxes.new_cards
  pub new_entries : length boxes'.new_entries ≡ length boxes.new_entries

-- So it is with the same boxes lent.
pub same_room : {b b' : LentBoxes} → SameLent b b' → SameRoom (words_of b) (words_of b')
same_room s = record { old_cards = s.old_cards_room; old_entries = s.old_entries_room; new_cards = s.new_cards_room; new_entries = s.new_entries_room }

-- Boxes that were filled, and then kept or set to 0.
pub boxes_kept : (well : Bool) {c : Conventions} {old new : List ℕ} {boxes boxes' boxes'' : Boxes} → BoxesAfter c true old new boxes boxes' → SameRoom boxes boxes' → BoxesKept well boxes' boxes''
    → BoxesAfter c well old new boxes boxes''
boxes_kept well {boxes = boxes} f s k =
    record {
      old_cards = kept well (length boxes.old_cards) f.old_cards s.old_cards k.old_cards;
      old_entries = kept well (length boxes.old_entries) f.old_entries s.old_entries k.old_entries;
      new_cards = kept well (length boxes.new_cards) f.new_cards s.new_cards k.new_cards;
      new_entries = kept well (length boxes.new_entries) f.new_entries s.new_entries k.new_entries;
    }

-- Where the answer is no refusal, the slips fit.
pub listed_fits : (ls : ℕ) (t : Totals) → is_ok (slips_answer (ls / 5) t) ≡ true → 5 * t.solve ≤ ls
listed_fits ls t e = go (ltb (ls / 5) t.solve) refl e
  where
    go : (f : Bool) → ltb (ls / 5) t.solve ≡ f → is_ok {E = PlanRefusal} (cond f (Err (SlipsShort t.solve)) (Ok t)) ≡ true → 5 * t.solve ≤ ls
    go true ef h = clash h
    go false ef h = omega (arith, ltb-false (ls / 5) t.solve ef)

pub solve_sum : (js : List BoardPlan) → (totals_of js).solve ≡ count_of 5 js
unfolding totals_of
solve_sum js = refl

-- As many words as before.
put_length : (w : ℕ) (l : List ℕ) (n : ℕ) (ws : List ℕ) → length (put w l n ws) ≡ length l
unfolding put
put_length w l n ws = by_cases (leb (w * n + w) (length l)) (λ e. rw (e, length-sets)) (λ e. rw e)

put_all_length : (w : ℕ) (l : List ℕ) (n : ℕ) (xs : List (List ℕ)) → length (put_all w l n xs) ≡ length l
put_all_length w l n [] = refl
put_all_length w l n (x ∷ xs) = put_all_length w (put w l n x) (n + 1) xs ∙ put_length w l n x

-- What a `?` passes on: a refusal that is given.
pub passed_on : {T E : Type 0} (r : Result T E) {f : E} → IsErrAnd r (λ g. g ≡ f) → r ≡ Err f
passed_on (Ok t) h = absurd h
passed_on (Err g) h = ap Err h

-- ---- answers, given both editions read

module _ {c : Conventions} {old new : List ℕ} {boxes boxes' : Boxes} {r : Editions} (b : BothRead c old new boxes boxes' r) where
  -- The same of an equal answer.
  as_told : {q : Editions} → r ≡ q → BothRead c old new boxes boxes' q
  as_told e = subst (λ (x : Editions). BothRead c old new boxes boxes' x) e b

  -- After a refusal.
  pub none_left : {f : EditionsRefusal} → r ≡ Err f → BoxesAfter c false old new boxes boxes'
  none_left e = let well : is_ok r ≡ false = ap is_ok e in rw well at b.boxes_left

  pub answer_none : {f : EditionsRefusal} → r ≡ Err f → editions_of c old new boxes ≡ Err f
  answer_none e = sym b.answer ∙ e

  module _ {n : Both} (e : r ≡ Ok n) where
    pub all_left : BoxesAfter c true old new boxes boxes'
    all_left = let well : is_ok r ≡ true = ap is_ok e in rw well at b.boxes_left

    pub answer_both : editions_of c old new boxes ≡ Ok n
    answer_both = sym b.answer ∙ e

    -- The lent cards are those of the texts.
    pub there : CardsThere c old boxes'.old_cards n.old.boards × CardsThere c new boxes'.new_cards n.new.boards
    there = both_cards (as_told e) (CardsWhole c old) (CardsWhole c new)

    -- So there is room for them.
    pub rooms : (64 * n.old.boards ≤ length boxes'.old_cards) × (64 * n.new.boards ≤ length boxes'.new_cards)
    rooms = (there.0.room, there.1.room)

    pub boards_are : board_plans (cards_in n.old.boards boxes'.old_cards) (cards_in n.new.boards boxes'.new_cards) ≡ plans_of c old new
    boards_are = rw (there.0.cards, there.1.cards)

    -- Neither edition has more boards than a text may have bytes.
    pub boards_low : (n.old.boards ≤ 16777215) × (n.new.boards ≤ 16777215)
    unfolding editions_of
    boards_low =
        let t = both_are_taken (old_reading c old boxes) (new_reading c new boxes) (rw (← b.answer, e)) in
        let ho = taken_short c old (length boxes.old_cards) (length boxes.old_entries) t.0 in
        let hn = taken_short c new (length boxes.new_cards) (length boxes.new_entries) t.1 in
        (omega (arith, ho, there.0.count, TextBoardsFew c old), omega (arith, hn, there.1.count, TextBoardsFew c new))

    module _ {olds news : List (List ℕ)} (eo : olds ≡ cards_in n.old.boards boxes'.old_cards) (en : news ≡ cards_in n.new.boards boxes'.new_cards) where
      pub state_told : {p : ℕ} {s : BoardState} → s ≡ state_at (board_plans olds news) p → StateTold c old new boxes boxes' p (Ok (n, s))
      state_told {p} {s} f =
          let g : s ≡ state_at (plans_of c old new) p = f ∙ rw (eo, en, there.0.cards, there.1.cards) in
          record { answer = rw (answer_both, g); boxes_left = all_left }

      pub behind_told : {p : ℕ} {s : Option Behind} → s ≡ behind_at olds news (board_plans olds news) p → BehindTold c old new boxes boxes' p (Ok (n, s))
      behind_told {p} {s} f =
          let g : s ≡ behind_at (cards_of c old) (cards_of c new) (plans_of c old new) p = f ∙ rw (eo, en, there.0.cards, there.1.cards) in
          record { answer = rw (answer_both, g); boxes_left = all_left }

      pub boards_told : {zs numbers numbers' : List ℕ} → zs ≡ zeros numbers → numbers' ≡ put_all 5 zs 0 (numbers_from olds news (board_plans olds news)) → BoardsTold c old new boxes numbers boxes' numbers' (Ok n)
      boards_told z f = record { editions_read = as_told e; numbers_after = f ∙ rw (z, eo, en, there.0.cards, there.1.cards) }

      pub searches_told : {words : ℕ} {zs numbers numbers' : List ℕ} → zs ≡ zeros numbers
          → (words ≡ words_in_all olds news (board_plans olds news)) × (numbers' ≡ put_all 5 zs 0 (searches_from olds news (board_plans olds news)))
          → SearchesTold c old new boxes numbers boxes' numbers' (Ok (record { both = n; words = words }))
      searches_told {words} z f =
          let g : words ≡ words_in_all (cards_of c old) (cards_of c new) (plans_of c old new) = f.0 ∙ rw (eo, en, there.0.cards, there.1.cards) in
          record { answer = rw (answer_both, g); boxes_left = all_left; numbers_after = f.1 ∙ rw (answer_both, z, eo, en, there.0.cards, there.1.cards) }

      pub plan_listed : {slips zs ps : List ℕ} {t : Totals} {q : Planning} {boxes'' : Boxes} {slips'' : List ℕ} → SameRoom boxes boxes'
          → zs ≡ zeros slips
          → (t ≡ totals_of (board_plans olds news)) × (ps ≡ put_all 5 zs 0 (slips_of (board_plans olds news)))
          → PlanEnded boxes' ps t q boxes'' slips''
          → IsPlanned c old new boxes slips boxes'' slips'' q
      unfolding planning_of
      plan_listed {slips} {zs} {ps} {t} {q} {boxes''} {slips''} room z f g =
          let ls = length slips in
          let js = plans_of c old new in
          let same : board_plans olds news ≡ js = rw (eo, en) boards_are in
          let et : t ≡ totals_of js = f.0 ∙ ap totals_of same in
          let el : length ps ≡ ls = ap length f.1 ∙ put_all_length 5 zs 0 (slips_of (board_plans olds news)) ∙ ap length z ∙ length-replicate ls 0 in
          let eq : q ≡ slips_answer (ls / 5) t = g.answer ∙ ap (λ (k : ℕ). slips_answer (k / 5) t) el in
          let es : t.solve ≡ length (slips_of js) = ap (λ (x : Totals). x.solve) et ∙ solve_sum js ∙ sym (slips_count js) in
          let ep : ps ≡ put_all 5 (replicate ls 0) 0 (slips_of js) = f.1 ∙ rw (z, same) in
          record {
            answer = eq ∙ ap (slips_answer (ls / 5)) et ∙ rw answer_both;
            boxes_left = boxes_kept (is_ok q) all_left room g.boxes_left;
            slips_after = ended 5 ls (is_ok q) (slips_five js) (λ h. omega (arith, listed_fits ls t (sym (ap is_ok eq) ∙ h), es)) el ep g.slips_after;
          }

  module _ {f : EditionsRefusal} (e : r ≡ Err f) where
    pub plan_refused : {g : PlanRefusal} {slips slips' : List ℕ} → g ≡ Edition f → slips' ≡ zeros slips → IsPlanned c old new boxes slips boxes' slips' (Err g)
    unfolding planning_of
    plan_refused h z = record { answer = rw (answer_none e, h); boxes_left = none_left e; slips_after = z }
