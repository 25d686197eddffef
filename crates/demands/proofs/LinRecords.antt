-- The boards of a LIN text are well, and its page has one record for each.
use Prim.Native.Nat.{ℕ, suc}
use mathlib.Core.Path.{◌≡◌, refl, ap, ◌∙◌}
use mathlib.Core.Bool.{Bool, true, ◌&&◌}
use mathlib.Core.List.{List, [], ◌∷◌, ◌++◌, map}
use lib.Dec.{ltb}
use lib.ListN.{length}
use Rattle.tables.specs.declared.letters.Conventions.{Conventions}
use Rattle.tables.specs.Text.{trimmed}
use Rattle.tables.specs.Letters.{Accepted, every}
use Rattle.tables.proofs.Laws.{by_cases, both}
use Rattle.tables.proofs.RowLaws.{every_append}
use Rattle.reader.specs.Records.{records_of}
use Rattle.reader.proofs.EntryLaws.{All, none, one}
use Rattle.writer.specs.Pages.{built_in_header}
use Rattle.lin.specs.declared.pairs.Command.TheVariants.{Mb, Pc}
use Rattle.lin.specs.Pairs.{Pair, is_pair}
use Rattle.lin.specs.Pieces.{board_pieces}
use Rattle.lin.specs.Dealing.{no_dealing, dealing_from, all_cards, is_deal}
use Rattle.lin.specs.Bidding.{call_in, calls_from}
use Rattle.lin.specs.Playing.{card_in, cards_played}
use Rattle.lin.specs.LinBoards.{LinBoard, board_of, lin_boards, all_deals, lin_plain, lin_play, lin_lines, lin_next, lin_page}
use Rattle.lin.proofs.DealingLaws.{dealing_packed}
use Rattle.lin.proofs.SurveyLaws.{dealer_low, vulnerability_low}
use Rattle.demands.specs.PageBack.{parts_text, part_records}
use Rattle.demands.specs.Lin.{WellBoard, lin_own, LinRecord, last, ended, only, first}
use Rattle.demands.specs.LinSteps.{AllWell, none_well, one_well, lin_records, EachRecord, no_record, a_record}
use Rattle.demands.proofs.PageWalk.{body_tag, Walked, LedWalk, HeadedWalk, PartsRecords, NoRecords}
use Rattle.demands.proofs.LinWritable.{LinLinesGood}

-- ---- what the boards of a text are

calls_low : (c : Conventions) (ps : List Pair) → every (λ k. ltb k 47) (calls_from c ps) ≡ true
calls_low c [] = refl
calls_low c (p ∷ ps) =
    by_cases (is_pair Mb p && ltb (call_in c p.value) 47)
    (λ e. rw (e, (both (is_pair Mb p) (ltb (call_in c p.value) 47) e).1) (calls_low c ps))
    (λ e. rw e (calls_low c ps))

cards_low : (c : Conventions) (ps : List Pair) → every (λ k. ltb k 52) (cards_played c ps) ≡ true
cards_low c [] = refl
cards_low c (p ∷ ps) =
    let k = card_in c (trimmed p.value) in
    by_cases (is_pair Pc p && ltb k 52)
    (λ e. rw (e, (both (is_pair Pc p) (ltb k 52) e).1) (cards_low c ps))
    (λ e. rw e (cards_low c ps))

four_low : (s w n e : List ℕ) → every (λ k. ltb k 52) s ≡ true → every (λ k. ltb k 52) w ≡ true → every (λ k. ltb k 52) n ≡ true → every (λ k. ltb k 52) e ≡ true
    → every (λ k. ltb k 52) (s ++ (w ++ (n ++ e))) ≡ true
four_low s w n e a b d f =
    let p : ℕ → Bool = λ k. ltb k 52 in
    every_append p s (w ++ (n ++ e)) a (every_append p w (n ++ e) b (every_append p n e d f))

dealt_low : (c : Conventions) (ps : List Pair) → every (λ k. ltb k 52) (all_cards (dealing_from c no_dealing ps)) ≡ true
dealt_low c ps =
    let d = dealing_from c no_dealing ps in
    let p = dealing_packed c ps in
    four_low d.south d.west d.north d.east p.south_pack p.west_pack p.north_pack p.east_pack

-- THEOREM. The board of some pairs is well where it makes a deal.
pub BoardWell : (c : Conventions) (ps : List Pair) → is_deal (board_of c ps).dealing ≡ true → WellBoard (board_of c ps)
unfolding board_of
BoardWell c ps e =
    record {
      makes_deal = e;
      dealt_low = dealt_low c ps;
      dealer_low = dealer_low c ps;
      vulnerability_low = vulnerability_low c ps;
      calls_low = calls_low c ps;
      cards_low = cards_low c ps;
    }

all_well : (c : Conventions) (xs : List (List Pair)) → all_deals (map (board_of c) xs) ≡ true → AllWell (map (board_of c) xs)
all_well c [] e = none_well
all_well c (x ∷ xs) e =
    let h = both (is_deal (board_of c x).dealing) (all_deals (map (board_of c) xs)) e in
    one_well (BoardWell c x h.0) (all_well c xs h.1)

-- THEOREM. So are all boards of a text where they all do.
pub BoardsWell : (c : Conventions) (text : List ℕ) → all_deals (lin_boards c text) ≡ true → AllWell (lin_boards c text)
unfolding lin_boards
BoardsWell c text e = all_well c (board_pieces text) e

-- ---- the records of a page

own_walk : (c : Conventions) → Accepted c → (b : LinBoard) → WellBoard b → Walked (lin_own c b)
unfolding lin_lines
own_walk c ok b w = LedWalk [] (lin_lines c b) refl refl (LinLinesGood c ok b w) (body_tag c (lin_plain c b) (lin_play c b))

first_walk : (c : Conventions) → Accepted c → (b : LinBoard) → WellBoard b → Walked (built_in_header ++ lin_own c b)
unfolding lin_lines
first_walk c ok b w = HeadedWalk [] (lin_lines c b) refl refl (LinLinesGood c ok b w) (body_tag c (lin_plain c b) (lin_play c b))

own_walks : (c : Conventions) → Accepted c → (bs : List LinBoard) → AllWell bs → All (λ b. Walked (lin_own c b)) bs
own_walks c ok [] none_well = none
own_walks c ok (b ∷ bs) (one_well w a) = one (own_walk c ok b w) (own_walks c ok bs a)

next_parts_lem : (c : Conventions) (bs : List LinBoard) → lin_next c bs ≡ parts_text (lin_own c) bs
next_parts_lem c [] = refl
next_parts_lem c (b ∷ bs) = ap (λ (t : List ℕ). (10 ∷ lin_own c b) ++ t) (next_parts_lem c bs)

-- THEOREM. The page of well boards has one record for each board.
pub LinRecords : (c : Conventions) → Accepted c → (bs : List LinBoard) → AllWell bs → records_of (lin_page c bs) ≡ lin_records c bs
LinRecords c ok [] none_well = NoRecords
LinRecords c ok (b ∷ bs) (one_well w a) =
    rw (next_parts_lem c bs) (PartsRecords (lin_own c) (built_in_header ++ lin_own c b) bs (first_walk c ok b w) (own_walks c ok bs a))

-- ---- one by one

-- own is a text of b, alone and with its empty line.
rest_records : (c : Conventions) (b : LinBoard) (own : List ℕ) (bs : List LinBoard) → LinRecord c b own → LinRecord c b (own ++ 10 ∷ [])
    → EachRecord c (b ∷ bs) (part_records (lin_own c) own bs)
rest_records c b own [] x y = a_record x no_record
rest_records c b own (d ∷ ds) x y = a_record y (rest_records c d (lin_own c d) ds last ended)

-- THEOREM. Each of them is a record of its board.
pub LinEach : (c : Conventions) (bs : List LinBoard) → EachRecord c bs (lin_records c bs)
LinEach c [] = no_record
LinEach c (b ∷ bs) = rest_records c b (built_in_header ++ lin_own c b) bs only first

pub EachCount : (c : Conventions) {bs : List LinBoard} {rs : List (List ℕ)} → EachRecord c bs rs → length rs ≡ length bs
EachCount c no_record = refl
EachCount c (a_record x e) = ap suc (EachCount c e)

-- THEOREM. So it has as many records as boards.
pub LinCount : (c : Conventions) → Accepted c → (bs : List LinBoard) → AllWell bs → length (records_of (lin_page c bs)) ≡ length bs
LinCount c ok bs a = ap length (LinRecords c ok bs a) ∙ EachCount c (LinEach c bs)
