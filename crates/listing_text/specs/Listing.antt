-- The listing: a line for each board and the totals, or a refusal alone.
use Rattle.std.specs.Prelude.{ℕ, ◌/◌, ◌≤◌, ◌≡◌, Bool, true, false, cond, ◌&&◌, List, [], ◌∷◌, ◌++◌, eqb, leb, length, Result, Ok, Err, is_ok}
use Rattle.tables.specs.Text.{ascii}
use Rattle.tables.specs.Numbers.{decimal}
use Rattle.tables.specs.Page.{answer_of, Wrote}
use Rattle.tables.specs.declared.letters.Conventions.{Conventions}
use Rattle.reader.specs.Store.{lent}
use Rattle.planning.specs.declared.state.BoardState.{BoardState}
use Rattle.planning.specs.declared.state.BoardState.TheVariants.{Blank, Own, Old, Near, Twin, Solve}
use Rattle.planning.specs.declared.plan.PlanRefusal.{PlanRefusal}
use Rattle.planning.specs.declared.plan.PlanRefusal.TheVariants as refusal
use Rattle.planning.specs.declared.plan.Totals.{Totals}
use Rattle.planning.specs.States.{BoardPlan, from_of}
use Rattle.planning.specs.Slips.{slips_of, totals_of}
use Rattle.planning.specs.Plans.{plan_number, plan_edition, Boxes, plans_of, planned_by, BoxesAfter, Planning}
use Rattle.listing_text.specs.Limited.{limited_both}
use Rattle.tables.specs.declared.refusal.Refusal.{Refusal}

-- A name and a number.
abbrev pub pair : List ℕ → ℕ → List ℕ
pair name n = name ++ decimal n

-- ` state=` and the state's word.
unfoldable pub state_text : BoardState → List ℕ
state_text Blank = ascii " state=blank"
state_text Own = ascii " state=own"
state_text (Old k) = ascii " state=old"
state_text (Near k) = ascii " state=near"
state_text (Twin k) = ascii " state=twin"
state_text Solve = ascii " state=solve"

-- A board's line: its position, its state and its source board. Each line ends with an LF (10).
unfoldable pub board_line : ℕ → BoardState → List ℕ
board_line p s = pair (ascii "board=") p ++ state_text s ++ pair (ascii " from=") (from_of s) ++ (10 ∷ [])

abbrev pub listing_lines : List BoardPlan → List ℕ
listing_lines [] = []
listing_lines (j ∷ js) = board_line j.position j.state ++ listing_lines js

-- The totals, and an LF (10).
unfoldable pub total_line : Totals → List ℕ
total_line t =
    pair (ascii "total=") t.boards ++ pair (ascii " blank=") t.blank ++ pair (ascii " own=") t.own ++ pair (ascii " old=") t.old
    ++ pair (ascii " near=") t.near ++ pair (ascii " twin=") t.twin ++ pair (ascii " solve=") t.solve ++ (10 ∷ [])

-- A refusal of the old edition, or of the new; one of slips is told of the new, whose boards they are. An LF (10) ends it.
unfoldable pub refused_line : PlanRefusal → List ℕ
refused_line f = pair (ascii "refused=") (plan_number f) ++ ascii " edition=" ++ cond (eqb (plan_edition f) 1) (ascii "old") (ascii "new") ++ (10 ∷ [])

-- The text of a plan's answer, js the boards of the new edition.
abbrev pub list_text : Planning → List BoardPlan → List ℕ
list_text (Ok t) js = listing_lines js ++ total_line t
list_text (Err f) js = refused_line f

-- ---- the plan with a limit

-- The plan's answer with the limit.
unfoldable pub listing_plan : Conventions → ℕ → List ℕ → List ℕ → Boxes → ℕ → Planning
listing_plan c limit old new boxes ls = planned_by (limited_both c limit old new boxes) (ls / 5) (totals_of (plans_of c old new))

-- ---- contracts

-- All went well: planning is not refused, and the text fits a page of n bytes.
unfoldable pub well_on : Planning → List BoardPlan → ℕ → Bool
well_on p js n = is_ok p && leb (length (list_text p js)) n

-- A listing on a page, p the plan's answer: the text, or refusal 7 with the bytes that it has; and every lent word, zero after any refusal.
pub record ListingFor (c : Conventions) (p : Planning) (old new : List ℕ) (boxes : Boxes) (slips page : List ℕ) (boxes' : Boxes) (slips' page' : List ℕ) (r : Result ℕ Refusal) : Type 0 where
  pub wrote : Wrote (list_text p (plans_of c old new)) page page' r
  pub boxes_left : BoxesAfter c (well_on p (plans_of c old new) (length page)) old new boxes boxes'
  pub slips_after : slips' ≡ lent (well_on p (plans_of c old new) (length page)) (length slips) (slips_of (plans_of c old new))

-- The contract of list.
abbrev pub IsListing : Conventions → ℕ → List ℕ → List ℕ → Boxes → List ℕ → List ℕ → Boxes → List ℕ → List ℕ → Result ℕ Refusal → Type 0
IsListing c limit old new boxes slips page boxes' slips' page' r =
    ListingFor c (listing_plan c limit old new boxes (length slips)) old new boxes slips page boxes' slips' page' r

-- ---- the listing program lends 128 cards an edition (8,192 words), 128 slips (640 numbers) and a page of 8,192 bytes

-- Refused because fewer slips are lent than there are boards to solve.
abbrev pub slips_short : Planning → Bool
slips_short (Ok t) = false
slips_short (Err (refusal.Edition f)) = false
slips_short (Err (refusal.SlipsShort n)) = true

-- THEOREM (proofs/ListingTheorems.antt). With 128 cards an edition the text has at most 8,192 bytes.
abbrev pub PageEnough : Type 0
PageEnough =
    (c : Conventions) (limit : ℕ) (old new : List ℕ) (boxes : Boxes) (ls : ℕ) → length boxes.new_cards ≡ 8192
    → length (list_text (listing_plan c limit old new boxes ls) (plans_of c old new)) ≤ 8192

-- THEOREM (proofs/ListingTheorems.antt). So a page of 8,192 bytes is never too short: refusal 7 is never told.
abbrev pub PageNeverFull : Type 0
PageNeverFull =
    (c : Conventions) (limit : ℕ) (old new : List ℕ) (boxes : Boxes) (ls : ℕ) → length boxes.new_cards ≡ 8192
    → answer_of (list_text (listing_plan c limit old new boxes ls) (plans_of c old new)) 8192
    ≡ Ok (length (list_text (listing_plan c limit old new boxes ls) (plans_of c old new)))

-- THEOREM (proofs/ListingTheorems.antt). With 128 cards an edition and 128 slips, refusal 4 is never met.
abbrev pub SlipsEnough : Type 0
SlipsEnough = (c : Conventions) (limit : ℕ) (old new : List ℕ) (boxes : Boxes) → length boxes.new_cards ≡ 8192 → slips_short (listing_plan c limit old new boxes 640) ≡ false
