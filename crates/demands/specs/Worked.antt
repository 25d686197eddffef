-- A worked pair of editions that meets every premise of demand 3: both are read, slips are enough, they are alike but for a stretch, each
-- whole deal of the old one has a table on some old board, solved deals stand in the front and in the back, one deal is listed, it is
-- answered, the finished edition is written and itself read, and it is planned against the old one.
use Rattle.std.specs.Prelude.{ℕ, ◌*◌, ◌≡◌, true, List, [], ◌∷◌, ◌++◌, map, length, get_or, replicate}
use Rattle.tables.specs.Text.{ascii}
use Rattle.tables.specs.Letters.{built_in}
use Rattle.reader.specs.declared.deal.Hands.{Hands}
use Rattle.reader.specs.Records.{AlikeBut}
use Rattle.reader.specs.Store.{lent}
use Rattle.reader.specs.Editions.{cards_of, entries_of}
use Rattle.planning.specs.Plans.{Boxes}
use Rattle.planning.specs.Demands.{Tabled, Some, ListedIn, InFront, InBack, AllSolved}
use Rattle.writer.specs.Given.{tables_of, finished_text}
use Rattle.golavimes.specs.Answers.{EditionOut, PlanOut, FinishOut}
use Rattle.demands.specs.Demand1.{entries_in}
use Rattle.demands.specs.Demand3.{IsTaken, finished_part}
use Rattle.demands.specs.Finished.{Answered}

-- The front: the deal a (N has the spades, E the hearts, S the diamonds, W the clubs) with a table. The back: the deal d, turned from S, with a
-- table. The old stretch: a again, without a table. The new stretch: the deal b, turned from E.
abbrev pub worked_front : List ℕ
worked_front = ascii "[Deal \"N:AKQJT98765432... .AKQJT98765432.. ..AKQJT98765432. ...AKQJT98765432\"]\n[DoubleDummyTricks \"00000000000000000000\"]\n\n"

abbrev pub old_stretch : List ℕ
old_stretch = ascii "[Event \"x\"]\n[Deal \"N:AKQJT98765432... .AKQJT98765432.. ..AKQJT98765432. ...AKQJT98765432\"]\n\n"

abbrev pub new_stretch : List ℕ
new_stretch = ascii "[Deal \"E:AKQJT98765432... .AKQJT98765432.. ..AKQJT98765432. ...AKQJT98765432\"]\n\n"

abbrev pub worked_back : List ℕ
worked_back = ascii "[Deal \"S:AKQJT98765432... .AKQJT98765432.. ..AKQJT98765432. ...AKQJT98765432\"]\n[DoubleDummyTricks \"0123456789abcd012345\"]\n"

abbrev pub old : List ℕ
old = worked_front ++ (old_stretch ++ worked_back)

abbrev pub new : List ℕ
new = worked_front ++ (new_stretch ++ worked_back)

-- All spades, hearts, diamonds and clubs are 4503049871556608, 549688705024, 67100672 and 8191.
abbrev pub deal_a : Hands
deal_a = record { north = 4503049871556608; east = 549688705024; south = 67100672; west = 8191 }

abbrev pub deal_b : Hands
deal_b = record { north = 8191; east = 4503049871556608; south = 549688705024; west = 67100672 }

abbrev pub deal_d : Hands
deal_d = record { north = 67100672; east = 8191; south = 4503049871556608; west = 549688705024 }

-- Three cards and twelve entries are lent for the old edition, three and ten for the new, and one slip.
abbrev pub boxes : Boxes
boxes = record { old_cards = replicate 192 0; old_entries = replicate 48 0; new_cards = replicate 192 0; new_entries = replicate 40 0 }

abbrev pub slips : List ℕ
slips = replicate 5 0

-- What golavimes_plan hands back: the second board is to be solved.
abbrev pub boxes' : Boxes
boxes' =
    record {
      old_cards = lent true 192 (cards_of built_in old);
      old_entries = lent true 48 (entries_of built_in old);
      new_cards = lent true 192 (cards_of built_in new);
      new_entries = lent true 40 (entries_of built_in new);
    }

abbrev pub slips' : List ℕ
slips' = 2 ∷ 8191 ∷ 4503049871556608 ∷ 549688705024 ∷ 67100672 ∷ []

-- No refusal; three boards, none blank, two with a table of their own, none old, near or twin, one to solve.
abbrev pub answer' : List ℕ
answer' = 0 ∷ 0 ∷ 0 ∷ 3 ∷ 0 ∷ 2 ∷ 0 ∷ 0 ∷ 0 ∷ 1 ∷ []

-- THEOREM (proofs/Worked.antt).
pub record WorkedPair : Type 0 where
  pub alike : AlikeBut worked_front old_stretch new_stretch worked_back
  pub planned : PlanOut built_in old new boxes slips boxes' slips' answer' 0
  pub solved : AllSolved (cards_of built_in old)
  pub solved_in_front : Some (λ x. Tabled deal_a x × InFront worked_front x) (cards_of built_in old)
  pub solved_in_back : Some (λ x. Tabled deal_d x × InBack worked_front old_stretch x) (cards_of built_in old)
  pub listed : ListedIn deal_b (get_or answer' 9 0) slips'

-- ---- the solver's answers for the one slip: seven tricks in every cell

abbrev pub answers : List ℕ
answers = replicate 20 7

-- The cells of the table in the back.
abbrev pub ladder : List ℕ
ladder = 0 ∷ 1 ∷ 2 ∷ 3 ∷ 4 ∷ 5 ∷ 6 ∷ 7 ∷ 8 ∷ 9 ∷ 10 ∷ 11 ∷ 12 ∷ 13 ∷ 0 ∷ 1 ∷ 2 ∷ 3 ∷ 4 ∷ 5 ∷ []

-- THEOREM (proofs/Worked.antt). They are let through; the first and the third board keep their own cells, the second gets the answers.
pub record WorkedAnswers : Type 0 where
  pub answered : Answered built_in old new answers
  pub cells_given : map (λ t. t.cells) (tables_of built_in old new answers) ≡ replicate 20 0 ∷ answers ∷ ladder ∷ []

-- ---- the finished edition, on a page that is just long enough

abbrev pub finished : List ℕ
finished = finished_text built_in old new answers

abbrev pub page : List ℕ
page = replicate (length finished) 0

-- What golavimes_finish answers: no refusal; the bytes written. The boxes are as planning leaves them.
abbrev pub finish_answer' : List ℕ
finish_answer' = 0 ∷ 0 ∷ 0 ∷ length finished ∷ []

-- Three cards are lent for it, and as many entries as it has.
abbrev pub cards : List ℕ
cards = replicate 192 0

abbrev pub entries : List ℕ
entries = replicate (4 * entries_in built_in finished) 0

-- What golavimes_read hands back.
abbrev pub cards' : List ℕ
cards' = lent true 192 (cards_of built_in finished)

abbrev pub entries' : List ℕ
entries' = lent true (4 * entries_in built_in finished) (entries_of built_in finished)

abbrev pub read_answer' : List ℕ
read_answer' = 0 ∷ 0 ∷ 0 ∷ 3 ∷ entries_in built_in finished ∷ []

-- It is planned against the old edition, no slip being lent: three boards, each with a table of its own.
abbrev pub again : Boxes
again = record { old_cards = boxes.old_cards; old_entries = boxes.old_entries; new_cards = cards; new_entries = entries }

abbrev pub again' : Boxes
again' = record { old_cards = boxes'.old_cards; old_entries = boxes'.old_entries; new_cards = cards'; new_entries = entries' }

abbrev pub again_answer' : List ℕ
again_answer' = 0 ∷ 0 ∷ 0 ∷ 3 ∷ 0 ∷ 3 ∷ 0 ∷ 0 ∷ 0 ∷ 0 ∷ []

-- THEOREM (proofs/WorkedFinished.antt). The premises of FinishedRight and NothingLeft are met, as WorkedPair has the plan.
pub record WorkedFinished : Type 0 where
  pub finish : FinishOut built_in old new boxes answers page boxes' finished finish_answer' 0
  pub part : finished_part finished finish_answer' ≡ finished
  pub read : EditionOut built_in finished cards entries cards' entries' read_answer' 0
  pub plan_again : PlanOut built_in old finished again [] again' [] again_answer' 0
  pub old_taken : IsTaken built_in old again.old_cards again.old_entries
  pub finished_taken : IsTaken built_in finished again.new_cards again.new_entries
