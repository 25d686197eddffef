-- The answers of planning, and its contracts.
use Rattle.std.specs.Prelude.{ℕ, ◌/◌, ◌≡◌, Bool, cond, List, ltb, length, replicate, Option, None, Result, Ok, Err, is_ok}
use Rattle.tables.specs.declared.letters.Conventions.{Conventions}
use Rattle.tables.specs.declared.refused.Edition.TheVariants.{Old, New}
use Rattle.tables.specs.Refusals.{edition_number}
use Rattle.reader.specs.declared.edition.Counts.{Counts}
use Rattle.reader.specs.declared.edition.ReadRefusal.{ReadRefusal}
use Rattle.reader.specs.Store.{put_all, lent}
use Rattle.reader.specs.Editions.{read_number, read_carries, reading_of, cards_of, entries_of}
use Rattle.planning.specs.declared.state.BoardState.{BoardState}
use Rattle.planning.specs.declared.state.BoardState.TheVariants.{Blank}
use Rattle.planning.specs.declared.behind.Behind.{Behind}
use Rattle.planning.specs.declared.editions.EditionsRefusal.{EditionsRefusal}
use Rattle.planning.specs.declared.editions.Both.{Both}
use Rattle.planning.specs.declared.editions.LentBoxes.{LentBoxes}
use Rattle.planning.specs.declared.plan.Totals.{Totals}
use Rattle.planning.specs.declared.plan.PlanRefusal.{PlanRefusal}
use Rattle.planning.specs.declared.plan.PlanRefusal.TheVariants.{Edition, SlipsShort}
use Rattle.planning.specs.declared.searches.Searched.{Searched}
use Rattle.planning.specs.States.{BoardPlan, board_plans, state_at}
use Rattle.planning.specs.Searches.{searches_from, words_in_all}
use Rattle.planning.specs.Slips.{slips_of, totals_of, behind_at, part_of, numbers_from}

-- ---- refusals: 1 to 3 of the old edition, then of the new, then 4 slips short (the boards to solve)

abbrev pub editions_number : EditionsRefusal → ℕ
editions_number f = read_number f.refusal

abbrev pub editions_carries : EditionsRefusal → ℕ
editions_carries f = read_carries f.refusal

-- The edition that is refused: 1 old, 2 new.
abbrev pub edition_refused : EditionsRefusal → ℕ
edition_refused f = edition_number f.edition

abbrev pub plan_number : PlanRefusal → ℕ
plan_number (Edition f) = editions_number f
plan_number (SlipsShort n) = 4

abbrev pub plan_carries : PlanRefusal → ℕ
plan_carries (Edition f) = editions_carries f
plan_carries (SlipsShort n) = n

-- 0 none, 1 old, 2 new.
abbrev pub plan_edition : PlanRefusal → ℕ
plan_edition (Edition f) = edition_refused f
plan_edition (SlipsShort n) = 0

-- ---- what is lent for both editions

-- The four boxes: words lent for the cards and the entries of the old edition, and of the new.
pub record Boxes : Type 0 where
  pub old_cards : List ℕ
  pub old_entries : List ℕ
  pub new_cards : List ℕ
  pub new_entries : List ℕ

abbrev pub four : List ℕ → List ℕ → List ℕ → List ℕ → Boxes
four oc oe nc ne = record { old_cards = oc; old_entries = oe; new_cards = nc; new_entries = ne }

-- The words of lent boxes.
abbrev pub words_of : LentBoxes → Boxes
words_of b = four b.old_cards.now b.old_entries.now b.new_cards.now b.new_entries.now

-- The same boxes are lent, with as many words as before. It stands in each contract of a function that is lent boxes: it is said of LentBoxes before
-- and after the call, and a ghost field or an invariant of LentBoxes speaks of one value alone.
pub record SameLent (b b' : LentBoxes) : Type 0 where
  pub old_cards : b'.old_cards.ghost_name ≡ b.old_cards.ghost_name
  pub old_entries : b'.old_entries.ghost_name ≡ b.old_entries.ghost_name
  pub new_cards : b'.new_cards.ghost_name ≡ b.new_cards.ghost_name
  pub new_entries : b'.new_entries.ghost_name ≡ b.new_entries.ghost_name
  pub old_cards_room : length b'.old_cards.now ≡ length b.old_cards.now
  pub old_entries_room : length b'.old_entries.now ≡ length b.old_entries.now
  pub new_cards_room : length b'.new_cards.now ≡ length b.new_cards.now
  pub new_entries_room : length b'.new_entries.now ≡ length b.new_entries.now

-- The reading of each edition into its boxes.
abbrev pub old_reading : Conventions → List ℕ → Boxes → Result Counts ReadRefusal
old_reading c old boxes = reading_of c old (length boxes.old_cards) (length boxes.old_entries)

abbrev pub new_reading : Conventions → List ℕ → Boxes → Result Counts ReadRefusal
new_reading c new boxes = reading_of c new (length boxes.new_cards) (length boxes.new_entries)

-- ---- both editions

-- The boards and entries of each edition, or a refusal.
abbrev pub Editions : Type 0
Editions = Result Both EditionsRefusal

abbrev pub new_after : Counts → Result Counts ReadRefusal → Editions
new_after m (Ok n) = Ok (record { old = m; new = n })
new_after m (Err f) = Err (record { edition = New; refusal = f })

abbrev pub both_after : Result Counts ReadRefusal → Result Counts ReadRefusal → Editions
both_after (Ok m) new = new_after m new
both_after (Err f) new = Err (record { edition = Old; refusal = f })

-- The answer for the texts, with these boxes lent.
unfoldable pub editions_of : Conventions → List ℕ → List ℕ → Boxes → Editions
editions_of c old new boxes = both_after (old_reading c old boxes) (new_reading c new boxes)

-- The boards of the new edition.
abbrev pub plans_of : Conventions → List ℕ → List ℕ → List BoardPlan
plans_of c old new = board_plans (cards_of c old) (cards_of c new)

-- ---- the plan

-- The totals, or a refusal.
abbrev pub Planning : Type 0
Planning = Result Totals PlanRefusal

abbrev pub slips_answer : ℕ → Totals → Planning
slips_answer slips t = cond (ltb slips t.solve) (Err (SlipsShort t.solve)) (Ok t)

abbrev pub planned_by : Editions → ℕ → Totals → Planning
planned_by (Ok n) slips t = slips_answer slips t
planned_by (Err f) slips t = Err (Edition f)

-- The answer; ls numbers are lent for slips, five a slip, and a tail too short for one counts as none.
unfoldable pub planning_of : Conventions → List ℕ → List ℕ → Boxes → ℕ → Planning
planning_of c old new boxes ls = planned_by (editions_of c old new boxes) (ls / 5) (totals_of (plans_of c old new))

-- ---- contracts: boxes are the four before the call, boxes' the four after it

-- Each box afterwards.
pub record BoxesAfter (c : Conventions) (well : Bool) (old new : List ℕ) (boxes boxes' : Boxes) : Type 0 where
  pub old_cards : boxes'.old_cards ≡ lent well (length boxes.old_cards) (cards_of c old)
  pub old_entries : boxes'.old_entries ≡ lent well (length boxes.old_entries) (entries_of c old)
  pub new_cards : boxes'.new_cards ≡ lent well (length boxes.new_cards) (cards_of c new)
  pub new_entries : boxes'.new_entries ≡ lent well (length boxes.new_entries) (entries_of c new)

-- Both editions are read.
pub record BothRead (c : Conventions) (old new : List ℕ) (boxes boxes' : Boxes) (r : Editions) : Type 0 where
  pub answer : r ≡ editions_of c old new boxes
  pub boxes_left : BoxesAfter c (is_ok r) old new boxes boxes'

-- The contract of plan: the answer, and every lent number.
pub record IsPlanned (c : Conventions) (old new : List ℕ) (boxes : Boxes) (slips : List ℕ) (boxes' : Boxes) (slips' : List ℕ) (r : Planning) : Type 0 where
  pub answer : r ≡ planning_of c old new boxes (length slips)
  pub boxes_left : BoxesAfter c (is_ok r) old new boxes boxes'
  pub slips_after : slips' ≡ lent (is_ok r) (length slips) (slips_of (plans_of c old new))

-- The state at a position: blank after a refusal.
abbrev pub state_by : Editions → List BoardPlan → ℕ → BoardState
state_by (Ok n) js p = state_at js p
state_by (Err f) js p = Blank

-- The record behind a board: nothing after a refusal.
abbrev pub behind_by : Editions → Conventions → List ℕ → List ℕ → ℕ → Option Behind
behind_by (Ok n) c old new p = behind_at (cards_of c old) (cards_of c new) (plans_of c old new) p
behind_by (Err f) c old new p = None

-- ls lent numbers afterwards: fives, as many whole ones as fit, and zeros behind them; zeros after a refusal.
abbrev pub fives_after : Editions → List (List ℕ) → ℕ → List ℕ
fives_after (Ok n) fives ls = put_all 5 (replicate ls 0) 0 fives
fives_after (Err f) fives ls = replicate ls 0

-- Five a board: its state and the record behind it, or its searches.
abbrev pub boards_after : Editions → Conventions → List ℕ → List ℕ → ℕ → List ℕ
boards_after r c old new ls = fives_after r (numbers_from (cards_of c old) (cards_of c new) (plans_of c old new)) ls

abbrev pub searches_after : Editions → Conventions → List ℕ → List ℕ → ℕ → List ℕ
searches_after r c old new ls = fives_after r (searches_from (cards_of c old) (cards_of c new) (plans_of c old new)) ls

-- The words compared for all boards: 0 after a refusal.
abbrev pub words_by : Editions → Conventions → List ℕ → List ℕ → ℕ
words_by (Ok n) c old new = words_in_all (cards_of c old) (cards_of c new) (plans_of c old new)
words_by (Err f) c old new = 0

-- What is answered for both editions: the boards and entries of each, and x, where they were taken.
abbrev pub answered : {A : Type 0} → Editions → A → Result (Both × A) EditionsRefusal
answered (Ok n) x = Ok (n, x)
answered (Err f) x = Err f

-- The contract of state_at: both editions, and the state, or a refusal.
pub record StateTold (c : Conventions) (old new : List ℕ) (boxes boxes' : Boxes) (p : ℕ) (r : Result (Both × BoardState) EditionsRefusal) : Type 0 where
  pub answer : r ≡ answered (editions_of c old new boxes) (state_at (plans_of c old new) p)
  pub boxes_left : BoxesAfter c (is_ok r) old new boxes boxes'

-- The contract of place_behind: both editions, and the record behind a board, or a refusal.
pub record BehindTold (c : Conventions) (old new : List ℕ) (boxes boxes' : Boxes) (p : ℕ) (r : Result (Both × Option Behind) EditionsRefusal) : Type 0 where
  pub answer : r ≡ answered (editions_of c old new boxes) (behind_at (cards_of c old) (cards_of c new) (plans_of c old new) p)
  pub boxes_left : BoxesAfter c (is_ok r) old new boxes boxes'

-- The contract of record_behind: a part of the old or the new text, empty where there is nothing.
pub record PartTold (c : Conventions) (old new : List ℕ) (boxes boxes' : Boxes) (p : ℕ) (part : List ℕ) : Type 0 where
  pub bytes : part ≡ part_of old new (behind_by (editions_of c old new boxes) c old new p)
  pub boxes_left : BoxesAfter c (is_ok (editions_of c old new boxes)) old new boxes boxes'

-- The contract of plan_boards: five numbers a board.
pub record BoardsTold (c : Conventions) (old new : List ℕ) (boxes : Boxes) (numbers : List ℕ) (boxes' : Boxes) (numbers' : List ℕ) (r : Editions) : Type 0 where
  pub editions_read : BothRead c old new boxes boxes' r
  pub numbers_after : numbers' ≡ boards_after r c old new (length numbers)

-- Both editions, and the words compared for all boards, or a refusal.
abbrev pub searched_by : Editions → Conventions → List ℕ → List ℕ → Result Searched EditionsRefusal
searched_by (Ok n) c old new = Ok (record { both = n; words = words_by (Ok n) c old new })
searched_by (Err f) c old new = Err f

-- The contract of plan_searches: five numbers a board, and the words compared for all boards, whether their numbers fit or not.
pub record SearchesTold (c : Conventions) (old new : List ℕ) (boxes : Boxes) (numbers : List ℕ) (boxes' : Boxes) (numbers' : List ℕ) (r : Result Searched EditionsRefusal) : Type 0 where
  pub answer : r ≡ searched_by (editions_of c old new boxes) c old new
  pub boxes_left : BoxesAfter c (is_ok r) old new boxes boxes'
  pub numbers_after : numbers' ≡ searches_after (editions_of c old new boxes) c old new (length numbers)
