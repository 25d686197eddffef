-- Demand 3, sentence by sentence, in the user's order. A deal is four hands; a board has it if it is whole (word 9 is 1, 13 cards in each
-- hand) and its hands are these (`WithDeal`); it carries a table if word 38 is not 0 (`Tabled`: both). A board's card is the one that the
-- definitions read from its edition's text (`cards_of`), and is what the lent words hold (`CardsHanded`, below). A deal is listed if one of
-- the slips handed back, answer[9] of them, holds its four hands (`ListedIn`). The statements hold for every set of letters c, those on the
-- finished edition for every set that is allowed (`Accepted`), as the built-in ones are; the C functions read with the built-in ones. The
-- file of proofs/ that proves each is named beside it; specs/Worked.antt has a pair of editions that meets every premise.
use Rattle.std.specs.Prelude.{ℕ, ◌+◌, ◌-◌, ◌*◌, ◌≤◌, ◌<◌, ◌≡◌, ◌↔◌, true, false, List, [], ◌++◌, length, get_or, take, drop, replicate}
use Rattle.tables.specs.declared.letters.Conventions.{Conventions}
use Rattle.tables.specs.Letters.{Accepted}
use Rattle.reader.specs.declared.deal.Hands.{Hands}
use Rattle.reader.specs.Records.{AlikeBut}
use Rattle.reader.specs.Editions.{cards_of}
use Rattle.planning.specs.Cards.{is_whole, has_table, card_here}
use Rattle.planning.specs.Plans.{Boxes}
use Rattle.planning.specs.Demands.{WithDeal, Tabled, Some, slip_here, Holds, ListedIn, Unsolved, InFront, InBack, AllSolved, OnlyInside}
use Rattle.writer.specs.Given.{finished_text}
use Rattle.golavimes.specs.Answers.{EditionOut, WritingOut, PlanOut, StateOut, FinishOut}
use Rattle.demands.specs.Demand1.{boards_in, entries_in, solve_in, Overlong, BoxFull, ListFull, SlipsShort, NotTwentyEach, SomeAbove, PageFull}
use Rattle.demands.specs.Boards.{HandedBack, Board, record_start, board_here, ReadAlike}

-- ---- "Whatever two editions hold, if both are read without refusal and slips are enough, .."

-- An edition is read without refusal when none of 1 to 3 is met.
pub record IsTaken (c : Conventions) (text cards entries : List ℕ) : Type 0 where
  pub not_overlong : Overlong text → ⊥
  pub box_not_full : BoxFull c text cards → ⊥
  pub list_not_full : ListFull c text entries → ⊥

-- Both are, and slips are enough.
pub record Plannable (c : Conventions) (old new : List ℕ) (boxes : Boxes) (slips : List ℕ) : Type 0 where
  pub old_taken : IsTaken c old boxes.old_cards boxes.old_entries
  pub new_taken : IsTaken c new boxes.new_cards boxes.new_entries
  pub slips_enough : SlipsShort c old new slips → ⊥

-- THEOREM (proofs/Listing.antt). That is so exactly when golavimes_plan returns 0.
abbrev pub PlannedWhenTaken : Type 0
PlannedWhenTaken =
    (c : Conventions) (old new : List ℕ) (boxes : Boxes) (slips : List ℕ) (boxes' : Boxes) (slips' answer' : List ℕ) (r : ℕ)
    → PlanOut c old new boxes slips boxes' slips' answer' r
    → (r ≡ 0) ↔ Plannable c old new boxes slips

-- ---- ".. a whole deal is listed for solving exactly when a board of the new one has it and no board of either with that deal carries a
-- table."

-- THEOREM (proofs/Listing.antt).
abbrev pub ListedExactly : Type 0
ListedExactly =
    (c : Conventions) (old new : List ℕ) (boxes : Boxes) (slips : List ℕ) (boxes' : Boxes) (slips' answer' : List ℕ)
    → PlanOut c old new boxes slips boxes' slips' answer' 0
    → (h : Hands) → ListedIn h (get_or answer' 9 0) slips' ↔ Unsolved h (cards_of c old) (cards_of c new)

-- ---- "It is listed once."

-- THEOREM (proofs/Listing.antt). Two slips that hold its hands are one.
abbrev pub OneSlip : Type 0
OneSlip =
    (c : Conventions) (old new : List ℕ) (boxes : Boxes) (slips : List ℕ) (boxes' : Boxes) (slips' answer' : List ℕ)
    → PlanOut c old new boxes slips boxes' slips' answer' 0
    → (h : Hands) (j k : ℕ) → j < get_or answer' 9 0 → k < get_or answer' 9 0 → Holds h (slip_here j slips') → Holds h (slip_here k slips') → j ≡ k

-- THEOREM (proofs/Listing.antt). Behind the slips handed back all that is lent is zero.
abbrev pub RestZero : Type 0
RestZero =
    (c : Conventions) (old new : List ℕ) (boxes : Boxes) (slips : List ℕ) (boxes' : Boxes) (slips' answer' : List ℕ)
    → PlanOut c old new boxes slips boxes' slips' answer' 0
    → drop (5 * get_or answer' 9 0) slips' ≡ replicate (length slips' - 5 * get_or answer' 9 0) 0

-- ---- "If the two are alike but for a stretch between seams, every board outside the stretch is read alike in both."

-- The fellow of a board: the other edition, of so many boards, has a board whose record starts at the place, only one, and the two are
-- read alike.
pub record HasFellow (board : Board) (place boards : ℕ) (cards entries : List ℕ) : Type 0 where
  pub fellow : ℕ
  pub is_there : fellow < boards
  pub starts : record_start (card_here fellow cards) ≡ place
  pub only : (j : ℕ) → j < boards → record_start (card_here j cards) ≡ place → j ≡ fellow
  pub alike : ReadAlike board (board_here fellow cards entries)

-- Every board of the edition front, middle, back whose record lies in the front or in the back has its fellow in the edition front, other,
-- back: at the same place of the front, or at the same place of the back.
pub record OutsideAlike (c : Conventions) (front middle other back cards entries cards' entries' : List ℕ) : Type 0 where
  pub in_front : (k : ℕ) → k < boards_in c (front ++ (middle ++ back)) → InFront front (card_here k cards)
      → HasFellow (board_here k cards entries) (record_start (card_here k cards)) (boards_in c (front ++ (other ++ back))) cards' entries'
  pub in_back : (k : ℕ) → k < boards_in c (front ++ (middle ++ back)) → InBack front middle (card_here k cards)
      → HasFellow (board_here k cards entries)
      (length (front ++ other) + (record_start (card_here k cards) - length (front ++ middle)))
      (boards_in c (front ++ (other ++ back))) cards' entries'

-- THEOREM (proofs/ReadAlike.antt). For the boards of either edition.
abbrev pub OutsideReadAlike : Type 0
OutsideReadAlike =
    (c : Conventions) (front middle middle' back cards entries cards' entries' : List ℕ)
    → AlikeBut front middle middle' back
    → HandedBack c (front ++ (middle ++ back)) cards entries
    → HandedBack c (front ++ (middle' ++ back)) cards' entries'
    → OutsideAlike c front middle middle' back cards entries cards' entries'
    × OutsideAlike c front middle' middle back cards' entries' cards entries

-- THEOREM (proofs/ReadAlike.antt). The cards in the lent words are those that the definitions read from the text.
abbrev pub CardsHanded : Type 0
CardsHanded =
    (c : Conventions) (text cards entries : List ℕ) → HandedBack c text cards entries
    → (k : ℕ) → k < boards_in c text → card_here k cards ≡ get_or (cards_of c text) k []

-- THEOREM (proofs/ReadAlike.antt). There are as many as the answer says: answer[3] of the text read, of the new edition when planning;
-- golavimes_read tells the entries too. golavimes_plan tells the boards to solve, which refusals 4 and 5 carry: as many as slips handed back.
pub record CountsTold : Type 0 where
  pub by_read : (c : Conventions) (text cards entries cards' entries' answer' : List ℕ) → EditionOut c text cards entries cards' entries' answer' 0
      → (get_or answer' 3 0 ≡ boards_in c text) × (get_or answer' 4 0 ≡ entries_in c text)
  pub by_plan : (c : Conventions) (old new : List ℕ) (boxes : Boxes) (slips : List ℕ) (boxes' : Boxes) (slips' answer' : List ℕ)
      → PlanOut c old new boxes slips boxes' slips' answer' 0
      → (get_or answer' 3 0 ≡ boards_in c new) × (get_or answer' 9 0 ≡ solve_in c old new)

-- ---- "If, besides, each whole deal of the old one has a table on some old board, each listed deal belongs to a board of the new one inside
-- the stretch, and to none outside."

-- THEOREM (proofs/Listing.antt).
abbrev pub InsideAlone : Type 0
InsideAlone =
    (c : Conventions) (front middle middle' back : List ℕ) (boxes : Boxes) (slips : List ℕ) (boxes' : Boxes) (slips' answer' : List ℕ)
    → AlikeBut front middle middle' back
    → PlanOut c (front ++ (middle ++ back)) (front ++ (middle' ++ back)) boxes slips boxes' slips' answer' 0
    → AllSolved (cards_of c (front ++ (middle ++ back)))
    → (h : Hands) → ListedIn h (get_or answer' 9 0) slips'
    → OnlyInside front middle' h (cards_of c (front ++ (middle' ++ back)))

-- ---- "Whatever the answers are, when every listed deal has one and the finished edition is written and itself read without refusal, it has
-- as many boards as the new edition. At each position it has the same whole deal, with the cells of its own table or else of the one that
-- document 01's Finishing gives it, or no whole deal where the new edition has none."

-- The finished edition, the written one, or a converted LIN text: the first bytes of the page as handed back, as many as answer[3] says.
abbrev pub finished_part : List ℕ → List ℕ → List ℕ
finished_part page answer = take (get_or answer 3 0) page

-- The cells of a board, words 18 to 37.
abbrev pub cells : List ℕ → List ℕ
cells card = take 20 (drop 18 card)

-- The source board has the deal h and a table, and the cells are its. Its number is from, counted from 1; cards are those of its edition
-- as handed back.
pub record SourceOf (h : Hands) (cards : List ℕ) (from : ℕ) (table : List ℕ) : Type 0 where
  pub from_one : 1 ≤ from
  pub tabled : Tabled h (card_here (from - 1) cards)
  pub cells_are : table ≡ cells (card_here (from - 1) cards)

-- A slip, one of the first listed ones, holds the hands h; the cells are the answers for that slip, 20 bytes, in cell order.
pub record AnswersOf (h : Hands) (listed : ℕ) (slips answers table : List ℕ) : Type 0 where
  pub slip : ℕ
  pub below : slip < listed
  pub holds : Holds h (slip_here slip slips)
  pub answered : table ≡ take 20 (drop (20 * slip) answers)

-- Where the cells of a finished board with the deal h come from, by what golavimes_state answers for its position, state and source board
-- from 1: its own (1, card is the board of the new edition), the old source's (2), the new source's (3); for twin (4) and solve (5) the
-- answers for the slip that holds its hands. The slips handed back are the first listed ones.
pub data CellsFrom (h : Hands) (card old_cards new_cards : List ℕ) (listed : ℕ) (slips answers : List ℕ) (state from : ℕ) (table : List ℕ) : Type 0 where
  own : state ≡ 1 → table ≡ cells card → CellsFrom h card old_cards new_cards listed slips answers state from table
  old : state ≡ 2 → SourceOf h old_cards from table → CellsFrom h card old_cards new_cards listed slips answers state from table
  near : state ≡ 3 → SourceOf h new_cards from table → CellsFrom h card old_cards new_cards listed slips answers state from table
  twin : state ≡ 4 → AnswersOf h listed slips answers table → CellsFrom h card old_cards new_cards listed slips answers state from table
  solve : state ≡ 5 → AnswersOf h listed slips answers table → CellsFrom h card old_cards new_cards listed slips answers state from table

-- The board at the index k, from 0, card in the new edition, finished in the finished one: the same whole deal with a table, or none. A
-- board without a whole deal keeps the table that it has, or has none.
pub record FinishedAt (c : Conventions) (old new old_cards new_cards : List ℕ) (listed : ℕ) (slips answers : List ℕ) (k : ℕ) (card finished : List ℕ) : Type 0 where
  pub same_deal : (h : Hands) → WithDeal h card → WithDeal h finished
  pub no_deal : is_whole card ≡ false → is_whole finished ≡ false
  pub no_deal_table : is_whole card ≡ false → has_table finished ≡ has_table card
  pub no_deal_cells : is_whole card ≡ false → has_table card ≡ true → cells finished ≡ cells card
  pub with_table : (h : Hands) → WithDeal h card → Tabled h finished
  pub own_cells : (h : Hands) → Tabled h card → cells finished ≡ cells card
  pub cells_from : (h : Hands) → WithDeal h card → (boxes boxes' : Boxes) (answer' : List ℕ) → StateOut c old new boxes boxes' (k + 1) answer' 0
      → CellsFrom h card old_cards new_cards listed slips answers (get_or answer' 3 0) (get_or answer' 4 0) (cells finished)

-- The finished edition page_text beside the new one: as many boards, and each finished. old_cards and new_cards are the cards of both
-- editions as handed back, cards those of page_text.
pub record AllFinished (c : Conventions) (old new old_cards new_cards : List ℕ) (listed : ℕ) (slips answers page_text cards : List ℕ) : Type 0 where
  pub as_many : boards_in c page_text ≡ boards_in c new
  pub each : (k : ℕ) → k < boards_in c new → FinishedAt c old new old_cards new_cards listed slips answers k (card_here k new_cards) (card_here k cards)

-- THEOREM (proofs/Finishing.antt). golavimes_finish and golavimes_plan returned 0 for the same editions, each with any boxes, and slips were
-- enough; each of the three editions was read without refusal.
abbrev pub FinishedRight : Type 0
FinishedRight =
    (c : Conventions) → Accepted c → (old new : List ℕ) (boxes : Boxes) (answers page : List ℕ) (boxes' : Boxes) (page' answer' : List ℕ)
    → FinishOut c old new boxes answers page boxes' page' answer' 0
    → (plan_boxes : Boxes) (slips : List ℕ) (plan_boxes' : Boxes) (slips' plan_answer' : List ℕ)
    → PlanOut c old new plan_boxes slips plan_boxes' slips' plan_answer' 0
    → (old_cards old_entries new_cards new_entries cards entries : List ℕ)
    → HandedBack c old old_cards old_entries
    → HandedBack c new new_cards new_entries
    → HandedBack c (finished_part page' answer') cards entries
    → AllFinished c old new old_cards new_cards (get_or plan_answer' 9 0) slips' answers (finished_part page' answer') cards

-- Both editions are read without refusal, every listed deal has its answer, 20 bytes for each board to solve and none above 13, and the page
-- is long enough.
pub record Finishable (c : Conventions) (old new : List ℕ) (boxes : Boxes) (answers page : List ℕ) : Type 0 where
  pub old_taken : IsTaken c old boxes.old_cards boxes.old_entries
  pub new_taken : IsTaken c new boxes.new_cards boxes.new_entries
  pub twenty_each : NotTwentyEach c old new answers → ⊥
  pub none_above : SomeAbove answers → ⊥
  pub page_long : PageFull (finished_text c old new answers) page → ⊥

-- THEOREM (proofs/Finishing.antt). It is finished exactly then.
abbrev pub FinishedWhenAnswered : Type 0
FinishedWhenAnswered =
    (c : Conventions) (old new : List ℕ) (boxes : Boxes) (answers page : List ℕ) (boxes' : Boxes) (page' answer' : List ℕ) (r : ℕ)
    → FinishOut c old new boxes answers page boxes' page' answer' r
    → (r ≡ 0) ↔ Finishable c old new boxes answers page

-- ---- "Planned as the new edition against any old one that is read without refusal, it lists nothing."

-- THEOREM (proofs/Finishing.antt). Whatever slips are lent: no board is to be solved, and every lent number is zero.
abbrev pub NothingLeft : Type 0
NothingLeft =
    (c : Conventions) → Accepted c → (old new : List ℕ) (boxes : Boxes) (answers page : List ℕ) (boxes' : Boxes) (page' answer' : List ℕ)
    → FinishOut c old new boxes answers page boxes' page' answer' 0
    → (other : List ℕ) (other_boxes : Boxes) (slips : List ℕ) (other_boxes' : Boxes) (slips' other_answer' : List ℕ) (r : ℕ)
    → PlanOut c other (finished_part page' answer') other_boxes slips other_boxes' slips' other_answer' r
    → IsTaken c other other_boxes.old_cards other_boxes.old_entries
    → IsTaken c (finished_part page' answer') other_boxes.new_cards other_boxes.new_entries
    → (r ≡ 0) × (get_or other_answer' 9 0 ≡ 0) × (slips' ≡ replicate (length slips) 0)

-- ---- The manual's promise: "an unchanged deal is never solved twice."

-- THEOREM (proofs/Finishing.antt). The finished edition is kept, and planned as the old one beside any later edition: no deal that a board of
-- the edition finished has is listed.
abbrev pub NeverTwice : Type 0
NeverTwice =
    (c : Conventions) → Accepted c → (old new : List ℕ) (boxes : Boxes) (answers page : List ℕ) (boxes' : Boxes) (page' answer' : List ℕ)
    → FinishOut c old new boxes answers page boxes' page' answer' 0
    → (later : List ℕ) (later_boxes : Boxes) (slips : List ℕ) (later_boxes' : Boxes) (slips' later_answer' : List ℕ)
    → PlanOut c (finished_part page' answer') later later_boxes slips later_boxes' slips' later_answer' 0
    → (h : Hands) → Some (WithDeal h) (cards_of c new) → ListedIn h (get_or later_answer' 9 0) slips' → ⊥

-- ---- Document 01's Finishing: "the edition is then what `write_pbn` writes."

-- THEOREM (proofs/Finishing.antt). Where golavimes_state answers blank (0) or own (1) for every position, so that no board gets a table, the
-- finished edition is byte for byte what golavimes_write writes the new one as.
abbrev pub WrittenWhenNoneWanted : Type 0
WrittenWhenNoneWanted =
    (c : Conventions) (old new : List ℕ) (boxes : Boxes) (answers page : List ℕ) (boxes' : Boxes) (page' answer' : List ℕ)
    → FinishOut c old new boxes answers page boxes' page' answer' 0
    → (cards entries write_page cards' entries' write_page' write_answer' : List ℕ)
    → WritingOut c new cards entries write_page cards' entries' write_page' write_answer' 0
    → ((p : ℕ) (state_boxes state_boxes' : Boxes) (state_answer' : List ℕ) → StateOut c old new state_boxes state_boxes' p state_answer' 0
    → get_or state_answer' 3 0 < 2)
    → finished_part page' answer' ≡ finished_part write_page' write_answer'
