-- A finished edition reads back with the deals of the new one and the tables given: the proof of specs/Finished.antt.
use Prim.Native.Nat.{ℕ, zero, suc, ◌+◌, ◌*◌, ◌/◌, ◌≤◌, ◌<◌}
use mathlib.Core.Path.{◌≡◌, refl, sym, ap, ◌∙◌}
use mathlib.Core.Bool.{true, not}
use mathlib.Core.List.{List, [], ◌∷◌, ◌++◌, map}
use native.Mathlib.Omega.{arith}
use lib.Dec.{eqb, leb, ltb}
use lib.ListN.{length, get_or, drop, length-append, length-drop, length-map}
use lib.Seq.{length-take-le}
use borrow.Author.Tests.{ltb-true}
use Rattle.tables.specs.declared.letters.Conventions.{Conventions}
use Rattle.tables.specs.Letters.{Accepted, every}
use Rattle.tables.proofs.Laws.{by_cases}
use Rattle.reader.specs.declared.board.TableCard.{TableCard}
use Rattle.reader.specs.Deals.{hands_of_words}
use Rattle.reader.specs.Boards.{record_out}
use Rattle.reader.specs.Records.{records_of}
use Rattle.reader.specs.Editions.{card_of, cards_from, cards_of}
use Rattle.reader.specs.Plain.{PlainBoard, plain_of, plain_boards}
use Rattle.reader.specs.Kept.{DealKept, OnCard}
use Rattle.reader.proofs.EntryLaws.{All, none, one}
use Rattle.reader.proofs.Counts.{cards_few}
use Rattle.reader.proofs.PlainDeal.{PlainDealKept}
use Rattle.reader.proofs.PlainBounds.{PlainBounds}
use Rattle.reader.proofs.CardKept.{CardKept}
use Rattle.planning.specs.declared.state.BoardState.{BoardState}
use Rattle.planning.specs.declared.state.BoardState.TheVariants.{Blank, Own, Old, Near, Twin, Solve}
use Rattle.planning.specs.Cards.{card_deal, hands_of, is_whole, has_table}
use Rattle.planning.specs.States.{BoardPlan, state_of, state_number, board_plans_from, board_plans, plan_from, state_in}
use Rattle.planning.specs.Slips.{card_at}
use Rattle.planning.specs.Plans.{plans_of}
use Rattle.planning.proofs.BoardLaws.{plans_count}
use Rattle.planning.proofs.StateLaws.{Reaches, state_reach}
use Rattle.writer.specs.Pages.{page_text, written_text}
use Rattle.writer.specs.Given.{slip_index, answer_at, cells_of, own_table, table_for, table_of, with_table, with_tables, tables_of, finished_boards, finished_text}
use Rattle.demands.specs.PageBack.{tags_as_written}
use Rattle.demands.specs.Finished.{no_table, FinishedCard, FinishedBack, NoneWanted}
use Rattle.demands.proofs.WrittenTagsBack.{finished_tags}
use Rattle.demands.proofs.TablesBack.{whole_deal, Twenty, DealAndTable, TagsGiveBoard}
use Rattle.reader.proofs.WordTokens.{every_take, every_drop}

-- ---- every table given has twenty cells, each at most 13

-- The bytes for a slip.
answer_twenty : (answers : List ℕ) → every (λ n. leb n 13) answers ≡ true → (i : ℕ) → Twenty (answer_at answers i)
unfolding answer_at
answer_twenty answers e i =
    by_cases (ltb i (length answers / 20))
    (λ t.
    let h = ltb-true i (length answers / 20) t in
    let rest = drop (20 * i) answers in
    rw t
    (record {
      twenty = length-take-le 20 rest (omega (arith, length-drop (20 * i) answers));
      low = every_take (λ n. leb n 13) 20 rest (every_drop (λ n. leb n 13) (20 * i) answers e);
    }))
    (λ t. rw t (record { twenty = refl; low = refl }))

-- The cells of a card.
record CellsTwenty (card : List ℕ) : Type 0 where
  cells_twenty : Twenty (cells_of card)

card_twenty : (c : Conventions) (a n : ℕ) (r : List ℕ) → Twenty (cells_of (card_of c a n r))
card_twenty c a n r =
    let t = (PlainBounds c r).table_in in
    rw (CardKept c a n r).words_18 (record { twenty = t.twenty; low = t.cells_low })

cards_twenty : (c : Conventions) (a n : ℕ) (rs : List (List ℕ)) → All CellsTwenty (cards_from c a n rs)
cards_twenty c a n [] = none
cards_twenty c a n (r ∷ rs) =
    one (record { cells_twenty = card_twenty c a n r }) (cards_twenty c (a + length r) (n + length (record_out c r).entries) rs)

edition_twenty : (c : Conventions) (text : List ℕ) → All CellsTwenty (cards_of c text)
unfolding cards_of
edition_twenty c text = cards_twenty c 0 0 (records_of text)

from_twenty : {xs : List (List ℕ)} → All CellsTwenty xs → (k : ℕ) → k < length xs → Twenty (cells_of (get_or xs k []))
from_twenty none k h = absurd (omega arith)
from_twenty (one t a) zero h = t.cells_twenty
from_twenty (one t a) (suc k) h = from_twenty a k (omega arith)

at_twenty : {xs : List (List ℕ)} → All CellsTwenty xs → (k : ℕ) → 0 < k → k ≤ length xs → Twenty (cells_of (card_at xs k))
at_twenty a zero h l = absurd (omega arith)
at_twenty a (suc k) h l = from_twenty a k (omega arith)

-- The table of a board.
record TableTwenty (t : TableCard) : Type 0 where
  table_twenty : Twenty t.cells

-- What the tables are taken from: cards and answers.
record Sources (olds news : List (List ℕ)) (answers : List ℕ) : Type 0 where
  of_old : All CellsTwenty olds
  of_new : All CellsTwenty news
  of_answers : every (λ n. leb n 13) answers ≡ true

module _ (olds news : List (List ℕ)) (js : List BoardPlan) (answers : List ℕ) (s : Sources olds news answers) where
  for_twenty : (p : ℕ) (card : List ℕ) → Twenty (cells_of card) → (state : BoardState) → Reaches (length olds) (length news) state
      → Twenty (table_for olds news js answers p card state).cells
  for_twenty p card w Blank r = w
  for_twenty p card w Own r = w
  for_twenty p card w (Old k) r = at_twenty s.of_old k r.0 r.1
  for_twenty p card w (Near k) r = at_twenty s.of_new k r.0 r.1
  for_twenty p card w (Twin k) r = answer_twenty answers s.of_answers (slip_index js k)
  for_twenty p card w Solve r = answer_twenty answers s.of_answers (slip_index js p)

  all_twenty : (p : ℕ) (earlier xs : List (List ℕ)) → All CellsTwenty xs → length earlier + length xs ≤ length news
      → All TableTwenty (map (table_of olds news js answers) (board_plans_from olds news p earlier xs))
  unfolding table_of
  all_twenty p earlier [] none l = none
  all_twenty p earlier (x ∷ xs) (one w a) l =
      let r = state_reach olds news earlier x (omega arith) in
      one (record { table_twenty = for_twenty p x w.cells_twenty (state_of olds news earlier x) r })
      (all_twenty (p + 1) (earlier ++ (x ∷ [])) xs a (omega (arith, length-append earlier (x ∷ []))))

tables_twenty : (c : Conventions) (old new answers : List ℕ) → every (λ n. leb n 13) answers ≡ true
    → All TableTwenty (tables_of c old new answers)
unfolding tables_of board_plans
tables_twenty c old new answers e =
    all_twenty (cards_of c old) (cards_of c new) (plans_of c old new) answers
    (record { of_old = edition_twenty c old; of_new = edition_twenty c new; of_answers = e })
    1 [] (cards_of c new) (edition_twenty c new) (omega arith)

tables_count : (c : Conventions) (old new answers : List ℕ) → length (tables_of c old new answers) ≡ length (records_of new)
unfolding tables_of board_plans cards_of
tables_count c old new answers =
    length-map (plans_of c old new) (table_of (cards_of c old) (cards_of c new) (plans_of c old new) answers)
    ∙ plans_count (cards_of c old) (cards_of c new) 1 [] (cards_of c new)
    ∙ cards_few c 0 0 (records_of new)

-- ---- boards with other tables

with_count : (ts : List TableCard) (bs : List PlainBoard) → length ts ≡ length bs → length (with_tables ts bs) ≡ length bs
with_count [] bs e = e
with_count (t ∷ ts) [] e = absurd (omega arith)
with_count (t ∷ ts) (b ∷ bs) e = ap suc (with_count ts bs (omega arith))

-- Only its table differs, which the deal does not look at.
with_deal_lem : (c : Conventions) (t : TableCard) (b : PlainBoard) → DealKept c b → DealKept c (with_table t b)
unfolding with_table
with_deal_lem c t b k =
    record {
      kind_is = k.kind_is;
      words_are = k.words_are;
      hands_proper = k.hands_proper;
      words_back = k.words_back;
      read_again = k.read_again;
      kept_again = k.kept_again;
    }

-- ---- cards

pub card_whole : (x : List ℕ) (p : PlainBoard) → OnCard x p → is_whole x ≡ whole_deal p.deal
unfolding is_whole card_deal
card_whole x p h = rw (h.word_9, h.words_10)

pub card_hands : (x : List ℕ) (p : PlainBoard) → OnCard x p → hands_of x ≡ hands_of_words p.deal.words
unfolding card_deal
card_hands x p h = ap hands_of_words h.words_10

pub card_table : (x : List ℕ) (p : PlainBoard) → OnCard x p → has_table x ≡ not (eqb p.table.kind 0)
unfolding has_table
card_table x p h = rw h.word_38

-- The card y of a board that has the deal of p and the table t.
card_finished : (t : TableCard) (x y : List ℕ) (p q : PlainBoard) → OnCard x p → OnCard y q → DealAndTable q (with_table t p)
    → FinishedCard t x y
unfolding with_table
card_finished t x y p q hx hy s =
    let d = s.same_deal in
    let e = s.same_table in
    record {
      whole = card_whole y q hy ∙ d.same_whole ∙ sym (card_whole x p hx);
      hands = λ w. card_hands y q hy ∙ ap hands_of_words (d.same_words (sym (card_whole x p hx) ∙ w)) ∙ sym (card_hands x p hx);
      table = card_table y q hy ∙ ap not e.same_kind;
      cells = λ n. hy.words_18 ∙ e.same_cells n;
    }

-- ---- record by record

module _ (c : Conventions) (ok : Accepted c) where
  one_finished : (a n a' n' : ℕ) (t : TableCard) (r q : List ℕ) → Twenty t.cells
      → (plain_of c q).tags ≡ tags_as_written c (with_table t (plain_of c r)) → FinishedCard t (card_of c a n r) (card_of c a' n' q)
  unfolding with_table
  one_finished a n a' n' t r q w e =
      card_finished t (card_of c a n r) (card_of c a' n' q) (plain_of c r) (plain_of c q) (CardKept c a n r) (CardKept c a' n' q)
      (TagsGiveBoard c ok q (with_table t (plain_of c r)) e (with_deal_lem c t (plain_of c r) (PlainDealKept c r)) w)

  -- rs are the records of the new edition, qs those of the finished one.
  each_finished : (a n a' n' : ℕ) (ts : List TableCard) (rs qs : List (List ℕ)) → All TableTwenty ts → length ts ≡ length rs
      → map (λ r. (plain_of c r).tags) qs ≡ map (tags_as_written c) (with_tables ts (map (plain_of c) rs))
      → (k : ℕ) → k < length rs → FinishedCard (get_or ts k no_table) (get_or (cards_from c a n rs) k []) (get_or (cards_from c a' n' qs) k [])
  each_finished a n a' n' ts [] qs w l e k h = absurd (omega arith)
  each_finished a n a' n' [] (r ∷ rs) qs w l e k h = absurd (omega arith)
  each_finished a n a' n' (t ∷ ts) (r ∷ rs) [] w l e k h = let z : ◌≡◌ {A = ℕ} 0 1 = cc in absurd (omega arith)
  each_finished a n a' n' (t ∷ ts) (r ∷ rs) (q ∷ qs) (one u w) l e zero h =
      let f : (plain_of c q).tags ≡ tags_as_written c (with_table t (plain_of c r)) = cc in
      one_finished a n a' n' t r q u.table_twenty f
  each_finished a n a' n' (t ∷ ts) (r ∷ rs) (q ∷ qs) (one u w) l e (suc k) h =
      let f : map (λ r. (plain_of c r).tags) qs ≡ map (tags_as_written c) (with_tables ts (map (plain_of c) rs)) = cc in
      let m = n + length (record_out c r).entries in
      let m' = n' + length (record_out c q).entries in
      each_finished (a + length r) m (a' + length q) m' ts rs qs w (omega arith) f k (omega arith)

-- THEOREM. A finished edition reads back with the deals of the new one and the tables given.
pub finished_back : FinishedBack
unfolding finished_text finished_boards plain_boards cards_of
finished_back c ok old new answers h =
    let rs = records_of new in
    let ts = tables_of c old new answers in
    let bs = with_tables ts (map (plain_of c) rs) in
    let qs = records_of (page_text c bs) in
    let e = finished_tags c c ok old new answers in
    let l = tables_count c old new answers in
    let m : length qs ≡ length rs = sym (length-map qs (λ r. (plain_of c r).tags)) ∙ ap length e ∙ length-map bs (tags_as_written c)
    ∙ with_count ts (map (plain_of c) rs) (l ∙ sym (length-map rs (plain_of c))) ∙ length-map rs (plain_of c) in
    record {
      as_many = cards_few c 0 0 qs ∙ m ∙ sym (cards_few c 0 0 rs);
      each = λ k i.
          each_finished c ok 0 0 0 0 ts rs qs (tables_twenty c old new answers h.possible) l e k (omega (arith, cards_few c 0 0 rs));
    }

-- ---- where no board wants a table

own_table_lem : (c : Conventions) (a n : ℕ) (r : List ℕ) → with_table (own_table (card_of c a n r)) (plain_of c r) ≡ plain_of c r
unfolding with_table
own_table_lem c a n r = rw ((CardKept c a n r).words_18, (CardKept c a n r).word_38)

own_for : (olds news : List (List ℕ)) (js : List BoardPlan) (answers : List ℕ) (p : ℕ) (card : List ℕ) (s : BoardState) → state_number s < 2
    → table_for olds news js answers p card s ≡ own_table card
own_for olds news js answers p card Blank h = refl
own_for olds news js answers p card Own h = refl
own_for olds news js answers p card (Old k) h = absurd (omega arith)
own_for olds news js answers p card (Near k) h = absurd (omega arith)
own_for olds news js answers p card (Twin k) h = absurd (omega arith)
own_for olds news js answers p card Solve h = absurd (omega arith)

module _ (c : Conventions) (olds news : List (List ℕ)) (js : List BoardPlan) (answers : List ℕ) where
  own_tables : (p : ℕ) (earlier : List (List ℕ)) (a n : ℕ) (rs : List (List ℕ))
      → ((k : ℕ) → state_number (state_in (plan_from (board_plans_from olds news p earlier (cards_from c a n rs)) k)) < 2)
      → with_tables (map (table_of olds news js answers) (board_plans_from olds news p earlier (cards_from c a n rs))) (map (plain_of c) rs)
      ≡ map (plain_of c) rs
  unfolding table_of
  own_tables p earlier a n [] h = refl
  own_tables p earlier a n (r ∷ rs) h =
      let x = card_of c a n r in
      let m = n + length (record_out c r).entries in
      rw (own_for olds news js answers p x (state_of olds news earlier x) (h 0), own_table_lem c a n r)
      (ap (λ (bs : List PlainBoard). plain_of c r ∷ bs) (own_tables (p + 1) (earlier ++ (x ∷ [])) (a + length r) m rs (λ k. h (suc k))))

-- THEOREM. Where no board wants a table the finished edition is what the new one is written as.
pub none_wanted : NoneWanted
unfolding finished_text finished_boards written_text plain_boards tables_of board_plans cards_of
none_wanted c old new answers h =
    ap (page_text c) (own_tables c (cards_of c old) (cards_of c new) (plans_of c old new) answers 1 [] 0 0 (records_of new) (λ k. h (suc k)))
