-- What planning promises beyond its contracts, as statements; the file that proves each is named beside it, in crates/demands (SamePlan,
-- FoundSame and WordsFew: in planning), where no edit of planning pays for it. A card is one that the definitions read from its edition's
-- text.
use Rattle.std.specs.Prelude.{ℕ, zero, suc, ◌+◌, ◌-◌, ◌*◌, ◌/◌, ◌≤◌, ◌<◌, ◌≡◌, ◌↔◌, Bool, true, false, List, [], ◌∷◌, ◌++◌, length, get_or, take, drop, replicate, Ok, is_ok}
use Rattle.tables.specs.declared.letters.Conventions.{Conventions}
use Rattle.reader.specs.declared.deal.Hands.{Hands}
use Rattle.reader.specs.Deals.{whole_hands}
use Rattle.reader.specs.Records.{records_of, AlikeBut}
use Rattle.reader.specs.Editions.{cards_of}
use Rattle.planning.specs.declared.state.BoardState.{BoardState}
use Rattle.planning.specs.declared.state.BoardState.TheVariants.{Blank, Own, Old, Near, Twin, Solve}
use Rattle.planning.specs.declared.editions.Both.{Both}
use Rattle.planning.specs.declared.searches.Searched.{Searched}
use Rattle.planning.specs.declared.plan.Totals.{Totals}
use Rattle.planning.specs.declared.slips.Slip.{Slip}
use Rattle.planning.specs.Cards.{hands_of, is_whole, has_table, fits}
use Rattle.planning.specs.States.{BoardPlan, first_with, state_number, from_of, state_at}
use Rattle.planning.specs.Searches.{compared, searched, old_sought, near_sought, twin_sought, search_numbers}
use Rattle.planning.specs.Slips.{slip_of, slips_of, slip_numbers, totals_of, card_at, behind_at, part_of, behind_numbers}
use Rattle.planning.specs.Plans.{Boxes, Planning, old_reading, new_reading, plans_of, IsPlanned, PartTold, BoardsTold, SearchesTold}

-- ---- boards and their deals

-- x is one of the cards.
pub data Among (x : List ℕ) : List (List ℕ) → Type 0 where
  here : {xs : List (List ℕ)} → Among x (x ∷ xs)
  there : {y : List ℕ} {xs : List (List ℕ)} → Among x xs → Among x (y ∷ xs)

-- A board with the deal h: it is whole, and its four hands are h.
pub record WithDeal (h : Hands) (card : List ℕ) : Type 0 where
  pub whole : is_whole card ≡ true
  pub hands : hands_of card ≡ h

-- A board with the deal h and a table.
pub record Tabled (h : Hands) (card : List ℕ) : Type 0 where
  pub deal : WithDeal h card
  pub table : has_table card ≡ true

-- P holds of one of the cards.
pub record Some (P : List ℕ → Type 0) (cards : List (List ℕ)) : Type 0 where
  pub card : List ℕ
  pub among : Among card cards
  pub holds : P card

-- P holds of none of the cards.
abbrev pub None : (List ℕ → Type 0) → List (List ℕ) → Type 0
None P cards = (x : List ℕ) → Among x cards → P x → ⊥

-- The card number k, from 1, is the first of the cards that P holds of.
pub record First (P : List ℕ → Type 0) (cards : List (List ℕ)) (k : ℕ) : Type 0 where
  pub from_one : 1 ≤ k
  pub is_there : k ≤ length cards
  pub holds : P (card_at cards k)
  pub none_before : (i : ℕ) → 1 ≤ i → i < k → P (card_at cards i) → ⊥

-- ---- slips

-- The slip number k, from 0, of lent numbers.
abbrev pub slip_here : ℕ → List ℕ → List ℕ
slip_here k slips = take 5 (drop (5 * k) slips)

-- A slip holds the hands h.
pub record Holds (h : Hands) (slip : List ℕ) : Type 0 where
  pub north : get_or slip 1 0 ≡ h.north
  pub east : get_or slip 2 0 ≡ h.east
  pub south : get_or slip 3 0 ≡ h.south
  pub west : get_or slip 4 0 ≡ h.west

-- A deal is listed if one of the slips handed back, the first solve ones, holds its hands.
pub record ListedIn (h : Hands) (solve : ℕ) (slips : List ℕ) : Type 0 where
  pub slip : ℕ
  pub below : slip < solve
  pub holds : Holds h (slip_here slip slips)

-- A new board has the deal h, and no board of either edition with the deal h has a table.
pub record Unsolved (h : Hands) (olds news : List (List ℕ)) : Type 0 where
  pub some_new : Some (WithDeal h) news
  pub none_old : None (Tabled h) olds
  pub none_new : None (Tabled h) news

-- A slip is a board's position from 1 and its hands, and the state of the board at that position is solve.
pub record OfSolve (js : List BoardPlan) (news : List (List ℕ)) (slip : List ℕ) : Type 0 where
  pub position : ℕ
  pub from_one : 1 ≤ position
  pub is_there : position ≤ length news
  pub is : slip ≡ slip_of position (card_at news position)
  pub state : state_at js position ≡ Solve

-- A slip for the board at the position p.
pub record SlipFor (p : ℕ) (card : List ℕ) (solve : ℕ) (slips : List ℕ) : Type 0 where
  pub slip : ℕ
  pub below : slip < solve
  pub is : slip_here slip slips ≡ slip_of p card

-- THEOREM (demands/proofs/Listed.antt). Both editions taken and slips enough: a deal is listed exactly when it is unsolved, and once; every slip is
-- that of a solve board, in board order, and every solve board has one; the rest of the lent numbers is zero, and holds no hands of 13
-- cards.
pub record ListedOnce (js : List BoardPlan) (olds news : List (List ℕ)) (solve : ℕ) (slips : List ℕ) : Type 0 where
  pub exactly : (h : Hands) → ListedIn h solve slips ↔ Unsolved h olds news
  pub once : (h : Hands) (j k : ℕ) → j < solve → k < solve → Holds h (slip_here j slips) → Holds h (slip_here k slips) → j ≡ k
  pub of_solve : (k : ℕ) → k < solve → OfSolve js news (slip_here k slips)
  pub board_order : (j k : ℕ) → j < k → k < solve → get_or (slip_here j slips) 0 0 < get_or (slip_here k slips) 0 0
  pub each_solve : (p : ℕ) → state_at js p ≡ Solve → SlipFor p (card_at news p) solve slips
  pub rest_zero : drop (5 * solve) slips ≡ replicate (length slips - 5 * solve) 0
  pub nowhere_else : (h : Hands) (k : ℕ) → whole_hands h ≡ true → Holds h (slip_here k slips) → k < solve

abbrev pub ListedExactlyOnce : Type 0
ListedExactlyOnce =
    (c : Conventions) (old new : List ℕ) (boxes : Boxes) (slips : List ℕ) (boxes' : Boxes) (slips' : List ℕ) (t : Totals)
    → IsPlanned c old new boxes slips boxes' slips' (Ok t)
    → ListedOnce (plans_of c old new) (cards_of c old) (cards_of c new) t.solve slips'

-- THEOREM (demands/proofs/Listed.antt). Planning is not refused where both editions are taken and slips are enough, whatever else is lent.
abbrev pub PlannedIfTaken : Type 0
PlannedIfTaken =
    (c : Conventions) (old new : List ℕ) (boxes : Boxes) (slips : List ℕ) (boxes' : Boxes) (slips' : List ℕ) (r : Planning)
    → IsPlanned c old new boxes slips boxes' slips' r
    → is_ok (old_reading c old boxes) ≡ true
    → is_ok (new_reading c new boxes) ≡ true
    → (totals_of (plans_of c old new)).solve ≤ length slips / 5
    → r ≡ Ok (totals_of (plans_of c old new))

-- THEOREM (demands/proofs/Listed.antt). Where every whole board of the new edition has a table, nothing is listed: every lent number is zero.
abbrev pub NothingListed : Type 0
NothingListed =
    (c : Conventions) (old new : List ℕ) (boxes : Boxes) (slips : List ℕ) (boxes' : Boxes) (slips' : List ℕ) (t : Totals)
    → IsPlanned c old new boxes slips boxes' slips' (Ok t)
    → ((x : List ℕ) → Among x (cards_of c new) → is_whole x ≡ true → has_table x ≡ true)
    → (t.solve ≡ 0) × (slips' ≡ replicate (length slips') 0)

-- THEOREM (planning/proofs/StructLaws.antt). Planned with structs, and with five numbers for each of them: the same answer, the same boxes, and the structs'
-- numbers are the numbers.
abbrev pub SamePlan : Type 0
SamePlan =
    (c : Conventions) (old new : List ℕ) (boxes : Boxes) (numbers : List ℕ) (slips : List Slip) (boxes₁ boxes₂ : Boxes) (numbers' : List ℕ) (slips' : List Slip) (r₁ r₂ : Planning)
    → length numbers ≡ 5 * length slips
    → IsPlanned c old new boxes numbers boxes₁ numbers' r₁
    → IsPlanned c old new boxes (slip_numbers slips) boxes₂ (slip_numbers slips') r₂
    → (r₁ ≡ r₂) × (boxes₁ ≡ boxes₂) × (numbers' ≡ slip_numbers slips')

-- ---- inside the stretch

-- Words 60 and 61, the record's start and end. A record lies in the front, in the stretch behind it, or in the back.
abbrev pub InFront : List ℕ → List ℕ → Type 0
InFront front card = get_or card 61 0 ≤ length front

abbrev pub InStretch : List ℕ → List ℕ → List ℕ → Type 0
InStretch front middle card = (length front ≤ get_or card 60 0) × (get_or card 61 0 ≤ length (front ++ middle))

abbrev pub InBack : List ℕ → List ℕ → List ℕ → Type 0
InBack front middle card = length (front ++ middle) ≤ get_or card 60 0

-- The deal h is that of a board inside the stretch and of none outside, in the front or in the back.
pub record OnlyInside (front middle : List ℕ) (h : Hands) (cards : List (List ℕ)) : Type 0 where
  pub inside : Some (λ x. WithDeal h x × InStretch front middle x) cards
  pub none_in_front : None (λ x. WithDeal h x × InFront front x) cards
  pub none_in_back : None (λ x. WithDeal h x × InBack front middle x) cards

-- For each whole board some board of the same deal has a table.
abbrev pub AllSolved : List (List ℕ) → Type 0
AllSolved cards = (x : List ℕ) → Among x cards → is_whole x ≡ true → Some (Tabled (hands_of x)) cards

-- THEOREM (demands/proofs/Inside.antt). Two editions alike but for a stretch, the old one solved: each listed deal is that of a new board inside
-- the stretch and of none outside.
abbrev pub ListedInside : Type 0
ListedInside =
    (c : Conventions) (front middle middle' back : List ℕ) (boxes : Boxes) (slips : List ℕ) (boxes' : Boxes) (slips' : List ℕ) (t : Totals)
    → AlikeBut front middle middle' back
    → IsPlanned c (front ++ (middle ++ back)) (front ++ (middle' ++ back)) boxes slips boxes' slips' (Ok t)
    → AllSolved (cards_of c (front ++ (middle ++ back)))
    → (h : Hands) → ListedIn h t.solve slips'
    → OnlyInside front middle' h (cards_of c (front ++ (middle' ++ back)))

-- ---- states

-- A whole board without a table.
pub record Bare (card : List ℕ) : Type 0 where
  pub whole : is_whole card ≡ true
  pub no_table : has_table card ≡ false

-- What each state says of a board: blank, it is not whole; own, it has a table; old, an old board has deal and table; near, a new one
-- has; twin, an earlier new board has the deal; solve, none of these. The source is the first such board.
abbrev pub StateIs : List (List ℕ) → List (List ℕ) → List (List ℕ) → List ℕ → BoardState → Type 0
StateIs olds news earlier card Blank = is_whole card ≡ false
StateIs olds news earlier card Own = (is_whole card ≡ true) × (has_table card ≡ true)
StateIs olds news earlier card (Old k) = Bare card × First (Tabled (hands_of card)) olds k
StateIs olds news earlier card (Near k) = Bare card × None (Tabled (hands_of card)) olds × First (Tabled (hands_of card)) news k
StateIs olds news earlier card (Twin k) =
    Bare card × None (Tabled (hands_of card)) olds × None (Tabled (hands_of card)) news × First (WithDeal (hands_of card)) earlier k
StateIs olds news earlier card Solve =
    Bare card × None (Tabled (hands_of card)) olds × None (Tabled (hands_of card)) news × None (WithDeal (hands_of card)) earlier

-- THEOREM (demands/proofs/StatesMean.antt). The state at a position of the new edition is s exactly when the board there is as s says.
abbrev pub StatesMean : Type 0
StatesMean =
    (c : Conventions) (old new : List ℕ) (p : ℕ) → 1 ≤ p → p ≤ length (cards_of c new) → (s : BoardState)
    → (state_at (plans_of c old new) p ≡ s) ↔ StateIs (cards_of c old) (cards_of c new) (take (p - 1) (cards_of c new)) (card_at (cards_of c new) p) s

-- THEOREM (demands/proofs/StatesMean.antt). Outside the positions 1 to boards the state is blank.
abbrev pub BlankOutside : Type 0
BlankOutside =
    (c : Conventions) (old new : List ℕ)
    → (state_at (plans_of c old new) 0 ≡ Blank) × ((p : ℕ) → length (cards_of c new) < p → state_at (plans_of c old new) p ≡ Blank)

-- THEOREM (demands/proofs/StatesMean.antt). A twin's source stands before it and is a solve board.
abbrev pub TwinsOfSolve : Type 0
TwinsOfSolve =
    (c : Conventions) (old new : List ℕ) (p k : ℕ) → state_at (plans_of c old new) p ≡ Twin k
    → (1 ≤ k) × (k < p) × (state_at (plans_of c old new) k ≡ Solve)

-- THEOREM (demands/proofs/StatesMean.antt). The source of near is an own board.
abbrev pub NearOfOwn : Type 0
NearOfOwn = (c : Conventions) (old new : List ℕ) (p k : ℕ) → state_at (plans_of c old new) p ≡ Near k → state_at (plans_of c old new) k ≡ Own

-- THEOREM (demands/proofs/StatesMean.antt). What a state's search gives: 0 exactly when no card fits, and a number from 1 exactly when the card
-- of that number is the first that fits.
abbrev pub FirstMeans : Type 0
FirstMeans =
    (tabled : Bool) (d : List ℕ) (cards : List (List ℕ))
    → ((first_with tabled d cards ≡ 0) ↔ None (λ x. fits tabled d x ≡ true) cards)
    × ((k : ℕ) → (first_with tabled d cards ≡ suc k) ↔ First (λ x. fits tabled d x ≡ true) cards (suc k))

-- ---- searches

-- The cards up to the board found, from 1; all of them where none is found.
abbrev pub up_to : ℕ → List (List ℕ) → List (List ℕ)
up_to zero cards = cards
up_to (suc k) cards = take (suc k) cards

-- The words compared on each of the cards, together.
abbrev pub compared_on : Bool → List ℕ → List (List ℕ) → ℕ
compared_on tabled d [] = 0
compared_on tabled d (x ∷ xs) = compared tabled d x + compared_on tabled d xs

-- THEOREM (planning/proofs/SearchLaws.antt). The search that passes over boards and leaves them at the first word that differs finds the first
-- board that fits.
abbrev pub FoundSame : Type 0
FoundSame = (tabled : Bool) (d : List ℕ) (cards : List (List ℕ)) → (searched tabled d cards).board ≡ first_with tabled d cards

-- THEOREM (demands/proofs/SearchesMean.antt). The words that it compares are those of every board up to the one found, or of all where none is
-- found: none on a board that is passed over, else the equal ones from the front and the first that differs.
abbrev pub WordsCompared : Type 0
WordsCompared =
    (tabled : Bool) (d : List ℕ) (cards : List (List ℕ)) → (searched tabled d cards).words ≡ compared_on tabled d (up_to (first_with tabled d cards) cards)

-- THEOREM (planning/proofs/SearchLaws.antt). At most 8 words a board.
abbrev pub WordsFew : Type 0
WordsFew = (tabled : Bool) (d : List ℕ) (cards : List (List ℕ)) → (searched tabled d cards).words ≤ 8 * length cards

-- THEOREM (demands/proofs/SearchesMean.antt). All 8 words of a board that fits are compared. (Of any other board of an edition at most 6:
-- LeftBySix in demands/specs/Searches.antt.)
abbrev pub FoundEight : Type 0
FoundEight = (tabled : Bool) (d card : List ℕ) → length d ≡ 8 → fits tabled d card ≡ true → compared tabled d card ≡ 8

-- Which searches are made for a board in the state s: that for old if it is whole and has no table, that for near if besides no old board has
-- its deal and a table, that for twin if besides no new one has.
pub record SearchesMade (olds news : List (List ℕ)) (card : List ℕ) (s : BoardState) : Type 0 where
  pub old : (old_sought s ≡ true) ↔ Bare card
  pub near : (near_sought s ≡ true) ↔ (Bare card × None (Tabled (hands_of card)) olds)
  pub twin : (twin_sought s ≡ true) ↔ (Bare card × None (Tabled (hands_of card)) olds × None (Tabled (hands_of card)) news)

-- THEOREM (demands/proofs/SearchesMean.antt). So it is at every position of the new edition.
abbrev pub SearchesMadeAt : Type 0
SearchesMadeAt =
    (c : Conventions) (old new : List ℕ) (p : ℕ) → 1 ≤ p → p ≤ length (cards_of c new)
    → SearchesMade (cards_of c old) (cards_of c new) (card_at (cards_of c new) p) (state_at (plans_of c old new) p)

-- ---- the record behind a board

-- The record of the board at a position from 1: boards are in the order of the text's records.
abbrev pub record_at : List ℕ → ℕ → List ℕ
record_at text p = get_or (records_of text) (p - 1) []

-- The record behind the board at the position p in a state: the old source board's, the new source board's for near and twin, else its own.
abbrev pub record_behind : List ℕ → List ℕ → ℕ → BoardState → List ℕ
record_behind old new p Blank = record_at new p
record_behind old new p Own = record_at new p
record_behind old new p (Old k) = record_at old k
record_behind old new p (Near k) = record_at new k
record_behind old new p (Twin k) = record_at new k
record_behind old new p Solve = record_at new p

-- A part is the whole record behind a board, byte for byte, and not empty.
pub record IsBehind (old new : List ℕ) (p : ℕ) (s : BoardState) (part : List ℕ) : Type 0 where
  pub is : part ≡ record_behind old new p s
  pub filled : 0 < length part

-- THEOREM (demands/proofs/RecordsBehind.antt). The places behind a board are those of the record behind it, neither text having more than 16,777,215
-- bytes.
abbrev pub PlacesBehind : Type 0
PlacesBehind =
    (c : Conventions) (old new : List ℕ) (p : ℕ) → length old ≤ 16777215 → length new ≤ 16777215 → 1 ≤ p → p ≤ length (cards_of c new)
    → IsBehind old new p (state_at (plans_of c old new) p) (part_of old new (behind_at (cards_of c old) (cards_of c new) (plans_of c old new) p))

-- THEOREM (demands/proofs/RecordsBehind.antt). Both editions taken: what is handed back for a board of the new edition is the record behind it.
abbrev pub RecordsBehind : Type 0
RecordsBehind =
    (c : Conventions) (old new : List ℕ) (boxes boxes' : Boxes) (p : ℕ) (part : List ℕ)
    → PartTold c old new boxes boxes' p part
    → is_ok (old_reading c old boxes) ≡ true
    → is_ok (new_reading c new boxes) ≡ true
    → 1 ≤ p → p ≤ length (cards_of c new)
    → IsBehind old new p (state_at (plans_of c old new) p) part

-- ---- totals

-- THEOREM (demands/proofs/TotalsAdd.antt). Totals add up, whatever the boards; there are as many slips as solve boards.
pub record AddUp (js : List BoardPlan) (t : Totals) : Type 0 where
  pub sum : t.boards ≡ t.blank + t.own + t.old + t.near + t.twin + t.solve
  pub slips : length (slips_of js) ≡ t.solve

abbrev pub TotalsAddUp : Type 0
TotalsAddUp = (js : List BoardPlan) → AddUp js (totals_of js)

-- THEOREM (demands/proofs/Listed.antt). Those that are handed back do, and are of as many boards as the new edition has.
abbrev pub TotalsTold : Type 0
TotalsTold =
    (c : Conventions) (old new : List ℕ) (boxes : Boxes) (slips : List ℕ) (boxes' : Boxes) (slips' : List ℕ) (t : Totals)
    → IsPlanned c old new boxes slips boxes' slips' (Ok t)
    → (t.boards ≡ length (cards_of c new)) × AddUp (plans_of c old new) t

-- ---- the numbers of boards

-- The five numbers of the board at a position: its state, its source board, and edition, start and end of the record behind it.
abbrev pub five_at : List (List ℕ) → List (List ℕ) → List BoardPlan → ℕ → List ℕ
five_at olds news js p = state_number (state_at js p) ∷ from_of (state_at js p) ∷ behind_numbers (behind_at olds news js p)

-- Its state, its source board, and the words compared in its searches.
abbrev pub searches_at : List (List ℕ) → List (List ℕ) → List BoardPlan → ℕ → List ℕ
searches_at olds news js p = search_numbers olds news (record { position = p; card = card_at news p; state = state_at js p })

-- Five numbers a board, in board order, for each board that has five of the lent numbers; behind those of the last such board all are zero:
-- behind all boards where each has its five, else in a tail too short for five.
pub record Numbered (five : ℕ → List ℕ) (boards lent : ℕ) (numbers : List ℕ) : Type 0 where
  pub as_many : length numbers ≡ lent
  pub each : (k : ℕ) → k < boards → 5 * k + 5 ≤ lent → slip_here k numbers ≡ five (suc k)
  pub rest_zero : boards ≤ lent / 5 → drop (5 * boards) numbers ≡ replicate (length numbers - 5 * boards) 0
  pub tail_zero : lent / 5 ≤ boards → drop (5 * (lent / 5)) numbers ≡ replicate (length numbers - 5 * (lent / 5)) 0

-- THEOREM (demands/proofs/Numbered.antt). Both editions taken: the numbers of the boards are handed back, as many as fit.
abbrev pub NumbersTold : Type 0
NumbersTold =
    (c : Conventions) (old new : List ℕ) (boxes : Boxes) (numbers : List ℕ) (boxes' : Boxes) (numbers' : List ℕ) (n : Both)
    → BoardsTold c old new boxes numbers boxes' numbers' (Ok n)
    → Numbered (five_at (cards_of c old) (cards_of c new) (plans_of c old new)) (length (cards_of c new)) (length numbers) numbers'

-- THEOREM (demands/proofs/Numbered.antt). So are those of their searches.
abbrev pub SearchNumbersTold : Type 0
SearchNumbersTold =
    (c : Conventions) (old new : List ℕ) (boxes : Boxes) (numbers : List ℕ) (boxes' : Boxes) (numbers' : List ℕ) (n : Searched)
    → SearchesTold c old new boxes numbers boxes' numbers' (Ok n)
    → Numbered (searches_at (cards_of c old) (cards_of c new) (plans_of c old new)) (length (cards_of c new)) (length numbers) numbers'
