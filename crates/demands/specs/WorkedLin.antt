-- A worked LIN text that meets every premise of specs/Lin.antt: two boards with calls and cards, the first with a whole deal; it is converted,
-- and its page is read, and planned beside an empty old edition.
use Rattle.std.specs.Prelude.{ℕ, ◌*◌, ◌≡◌, true, List, [], ◌∷◌, length, replicate, Ok}
use Rattle.tables.specs.Text.{ascii}
use Rattle.tables.specs.Letters.{built_in}
use Rattle.reader.specs.Store.{lent}
use Rattle.reader.specs.Editions.{cards_of, entries_of}
use Rattle.planning.specs.Slips.{slips_of, totals_of}
use Rattle.planning.specs.Plans.{Boxes, plans_of}
use Rattle.lin.specs.LinBoards.{LinBoard, lin_boards}
use Rattle.golavimes.specs.Answers.{plan_numbers, EditionOut, PlanOut, LinOut}
use Rattle.demands.specs.Demand1.{entries_in, solve_in}
use Rattle.demands.specs.Demand3.{finished_part}
use Rattle.demands.specs.Lin.{Thirteen, dealing_at}

-- South has the spades, West the hearts, North the diamonds, and East, whose hand is not given, the clubs. South plays 1S and ruffs the first
-- trick, then leads the ace. On the second board, dealt by North, only South has a card, and East has led.
abbrev pub worked_text : List ℕ
worked_text = ascii "md|1SAKQJT98765432,HAKQJT98765432,DAKQJT98765432|sv|b|mb|1S|mb|p|mb|p|mb|p|pc|HA|pc|D2|pc|C2|pc|S2|pc|SA|\nmd|3SA|mb|1N!|an|strong|pc|D2|\n"

-- The cards of a suit are 0 to 12 for clubs, then diamonds, hearts and spades; the calls are 1 to 35 for bids, 0 for Pass.
abbrev pub worked_boards : List LinBoard
worked_boards =
    record {
      dealing =
          record {
            dealer = 2;
            north = 25 ∷ 24 ∷ 23 ∷ 22 ∷ 21 ∷ 20 ∷ 19 ∷ 18 ∷ 17 ∷ 16 ∷ 15 ∷ 14 ∷ 13 ∷ [];
            east = 12 ∷ 11 ∷ 10 ∷ 9 ∷ 8 ∷ 7 ∷ 6 ∷ 5 ∷ 4 ∷ 3 ∷ 2 ∷ 1 ∷ 0 ∷ [];
            south = 51 ∷ 50 ∷ 49 ∷ 48 ∷ 47 ∷ 46 ∷ 45 ∷ 44 ∷ 43 ∷ 42 ∷ 41 ∷ 40 ∷ 39 ∷ [];
            west = 38 ∷ 37 ∷ 36 ∷ 35 ∷ 34 ∷ 33 ∷ 32 ∷ 31 ∷ 30 ∷ 29 ∷ 28 ∷ 27 ∷ 26 ∷ [];
          };
      vulnerability = 3;
      calls = 4 ∷ 0 ∷ 0 ∷ 0 ∷ [];
      cards = 38 ∷ 13 ∷ 0 ∷ 39 ∷ 51 ∷ [];
    }
    ∷ record {
      dealing = record { dealer = 0; north = []; east = []; south = 51 ∷ []; west = [] };
      vulnerability = 0;
      calls = 5 ∷ [];
      cards = 13 ∷ [];
    }
    ∷ []

abbrev pub worked_page : List ℕ
worked_page = ascii "% PBN 2.1\n% EXPORT\n\n[Event \"\"]\n[Site \"\"]\n[Date \"\"]\n[West \"\"]\n[North \"\"]\n[East \"\"]\n[South \"\"]\n[Dealer \"S\"]\n[Vulnerable \"All\"]\n[Deal \"S:AKQJT98765432... .AKQJT98765432.. ..AKQJT98765432. ...AKQJT98765432\"]\n[Scoring \"\"]\n[Declarer \"S\"]\n[Contract \"1S\"]\n[Result \"\"]\n[Auction \"S\"]\n1S Pass Pass Pass\n[Play \"W\"]\nHA D2 C2 S2\n- - - SA\n\n[Event \"\"]\n[Site \"\"]\n[Date \"\"]\n[West \"\"]\n[North \"\"]\n[East \"\"]\n[South \"\"]\n[Dealer \"N\"]\n[Vulnerable \"None\"]\n[Deal \"N:- - A... -\"]\n[Scoring \"\"]\n[Declarer \"N\"]\n[Contract \"1NT\"]\n[Result \"\"]\n[Auction \"N\"]\n1NT\n[Play \"E\"]\nD2 - - -\n"

-- The page is just long enough. No refusal; its bytes and its boards.
abbrev pub empty_page : List ℕ
empty_page = replicate (length worked_page) 0

abbrev pub lin_answer' : List ℕ
lin_answer' = 0 ∷ 0 ∷ 0 ∷ length worked_page ∷ 2 ∷ []

-- Two cards are lent for it, and as many entries as it has; what golavimes_read hands back.
abbrev pub lin_cards : List ℕ
lin_cards = replicate 128 0

abbrev pub lin_entries : List ℕ
lin_entries = replicate (4 * entries_in built_in worked_page) 0

abbrev pub lin_cards' : List ℕ
lin_cards' = lent true 128 (cards_of built_in worked_page)

abbrev pub lin_entries' : List ℕ
lin_entries' = lent true (4 * entries_in built_in worked_page) (entries_of built_in worked_page)

abbrev pub lin_read_answer' : List ℕ
lin_read_answer' = 0 ∷ 0 ∷ 0 ∷ 2 ∷ entries_in built_in worked_page ∷ []

-- As many slips are lent as there are boards to solve; what golavimes_plan hands back.
abbrev pub lin_boxes : Boxes
lin_boxes = record { old_cards = []; old_entries = []; new_cards = lin_cards; new_entries = lin_entries }

abbrev pub lin_slips : List ℕ
lin_slips = replicate (5 * solve_in built_in [] worked_page) 0

abbrev pub lin_boxes' : Boxes
lin_boxes' = record { old_cards = lent true 0 (cards_of built_in []); old_entries = lent true 0 (entries_of built_in []); new_cards = lin_cards'; new_entries = lin_entries' }

abbrev pub lin_slips' : List ℕ
lin_slips' = lent true (5 * solve_in built_in [] worked_page) (slips_of (plans_of built_in [] worked_page))

abbrev pub lin_plan_answer' : List ℕ
lin_plan_answer' = plan_numbers (Ok (totals_of (plans_of built_in [] worked_page)))

-- THEOREM (proofs/WorkedLin.antt).
pub record WorkedLin : Type 0 where
  pub boards_are : lin_boards built_in worked_text ≡ worked_boards
  pub out : LinOut built_in worked_text empty_page worked_page lin_answer' 0
  pub part : finished_part worked_page lin_answer' ≡ worked_page
  pub read : EditionOut built_in worked_page lin_cards lin_entries lin_cards' lin_entries' lin_read_answer' 0
  pub planned : PlanOut built_in [] worked_page lin_boxes lin_slips lin_boxes' lin_slips' lin_plan_answer' 0
  pub whole : Thirteen (dealing_at built_in worked_text 0)
