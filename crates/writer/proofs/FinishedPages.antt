-- The page of an edition whose cards were given other tables, and how long a finished edition can be.
use Prim.Native.Nat.{ℕ, zero, suc, ◌+◌, ◌/◌, ◌*◌, ◌≤◌, ◌<◌}
use mathlib.Core.Path.{◌≡◌, refl, sym, ap, ◌∙◌}
use mathlib.Core.List.{List, [], ◌∷◌, map}
use native.Mathlib.Nat.{add-zero, zero-add}
use native.Mathlib.Omega.{arith}
use lib.Dec.{ltb}
use lib.ListN.{length, take, drop, get_or, length-map, length-take, length-replicate}
use Rattle.tables.specs.declared.letters.Conventions.{Conventions}
use Rattle.tables.proofs.Laws.{by_cases}
use Rattle.reader.specs.declared.board.TableCard.{TableCard}
use Rattle.reader.specs.Records.{records_of}
use Rattle.reader.specs.Editions.{cards_of}
use Rattle.reader.specs.Plain.{PlainBoard, plain_boards}
use Rattle.reader.proofs.EntryLaws.{All, none, one}
use Rattle.reader.proofs.Counts.{cards_few}
use Rattle.planning.specs.declared.state.BoardState.{BoardState}
use Rattle.planning.specs.declared.state.BoardState.TheVariants.{Blank, Own, Old, Near, Twin, Solve}
use Rattle.planning.specs.States.{BoardPlan, board_plans}
use Rattle.planning.specs.Slips.{card_at}
use Rattle.planning.specs.Plans.{plans_of}
use Rattle.planning.proofs.BoardLaws.{plans_count}
use Rattle.writer.specs.Pages.{page_text}
use Rattle.writer.specs.Held.{card_word, card_part, board_items, items_up_to, section_items, auction_held, play_held, values_held, board_held, boards_held, seen}
use Rattle.writer.specs.BoardTexts.{page_held}
use Rattle.writer.specs.Given.{slip_index, answer_at, table_for, table_of, with_table, with_tables, tables_of, finished_boards, finished_text}
use Rattle.writer.proofs.SeenSame.{SeenPage}
use Rattle.writer.proofs.Sizes.{BoardsSized, over, next, TablePut, EditionSized, PageMost}
use Rattle.writer.proofs.HeldBoards.{Holds, HeldBoards}
use Rattle.writer.proofs.HeldItems.{EntriesHeld, EveryHeldBoard}
use Rattle.writer.proofs.HeldPages.{page_is}

-- ---- cards with other tables

-- The table of the card k.
abbrev pub table_held : List ℕ → ℕ → TableCard
table_held cards k = record { kind = card_word cards k 38; cells = card_part cards k 18 20 }

-- The words of the cards with other tables, ts, in words 18 to 38 of each card: all other words are the same.
pub record OtherTables (cards tabled : List ℕ) (ts : List TableCard) : Type 0 where
  pub low_words : (k i : ℕ) → k < length ts → i < 18 → card_word tabled k i ≡ card_word cards k i
  pub high_words : (k i : ℕ) → k < length ts → 38 < i → i < 64 → card_word tabled k i ≡ card_word cards k i
  pub tables : (k : ℕ) → k < length ts → table_held tabled k ≡ get_or ts k (record { kind = 0; cells = [] })

-- Those of one card.
record OtherTable (cards tabled : List ℕ) (k : ℕ) : Type 0 where
  low : (i : ℕ) → i < 18 → card_word tabled k i ≡ card_word cards k i
  high : (i : ℕ) → 38 < i → i < 64 → card_word tabled k i ≡ card_word cards k i

module _ (text cards tabled entries : List ℕ) (k : ℕ) (o : OtherTable cards tabled k) where
  part_same : (i n : ℕ) → i + n ≤ 18 → card_part tabled k i n ≡ card_part cards k i n
  part_same i zero h = refl
  part_same i (suc n) h = rw (o.low i (omega arith), part_same (i + 1) n (omega arith))

  items_same : board_items text tabled entries k ≡ board_items text cards entries k
  unfolding board_items
  items_same = rw (o.low 0 (omega arith), o.low 1 (omega arith))

  values_same : values_held text tabled entries k ≡ values_held text cards entries k
  unfolding values_held
  values_same =
      rw (
        o.high 39 (omega arith) (omega arith),
        o.high 40 (omega arith) (omega arith),
        o.high 41 (omega arith) (omega arith),
        o.high 42 (omega arith) (omega arith),
        o.high 43 (omega arith) (omega arith),
        o.high 44 (omega arith) (omega arith),
        o.high 45 (omega arith) (omega arith),
        o.high 46 (omega arith) (omega arith),
        o.high 47 (omega arith) (omega arith),
        o.high 48 (omega arith) (omega arith),
        o.high 49 (omega arith) (omega arith),
        o.high 50 (omega arith) (omega arith),
      )

  auction_same : auction_held text tabled entries k ≡ auction_held text cards entries k
  unfolding auction_held items_up_to section_items
  auction_same =
      rw (
        o.low 0 (omega arith),
        o.high 51 (omega arith) (omega arith),
        o.high 52 (omega arith) (omega arith),
        o.high 53 (omega arith) (omega arith),
        o.high 54 (omega arith) (omega arith),
      )

  play_same : play_held text tabled entries k ≡ play_held text cards entries k
  unfolding play_held section_items
  play_same =
      rw (
        o.high 55 (omega arith) (omega arith),
        o.high 56 (omega arith) (omega arith),
        o.high 57 (omega arith) (omega arith),
        o.high 58 (omega arith) (omega arith),
      )

  -- The board has the other table, and is otherwise the same.
  board_with : board_held text tabled entries k ≡ with_table (table_held tabled k) (board_held text cards entries k)
  unfolding board_held with_table
  board_with =
      rw (
        o.low 2 (omega arith),
        o.low 3 (omega arith),
        o.low 4 (omega arith),
        o.low 5 (omega arith),
        o.low 6 (omega arith),
        o.low 7 (omega arith),
        o.low 8 (omega arith),
        o.low 9 (omega arith),
        part_same 10 8 (omega arith),
        values_same,
        items_same,
        auction_same,
        play_same,
        o.high 59 (omega arith) (omega arith),
      )

  entries_with : EntriesHeld text cards entries k → EntriesHeld text tabled entries k
  entries_with f =
      let e0 = o.low 0 (omega arith) in
      let e1 = o.low 1 (omega arith) in
      let e51 = o.high 51 (omega arith) (omega arith) in
      let e52 = o.high 52 (omega arith) (omega arith) in
      record {
        marked = rw (e0, e1) f.marked;
        paired = rw (e0, e1) f.paired;
        auction_inside = λ z.
            let s = f.auction_inside (rw e51 at z) in
            record { starts = rw (e0, e51) s.starts; ends = rw (e0, e1, e51, e52) s.ends };
      }

-- ---- the page

-- The boards from k on, with the tables ts.
boards_with : (text cards tabled entries : List ℕ) (k : ℕ) (ts : List TableCard)
    → ((j : ℕ) → j < length ts → OtherTable cards tabled (k + j))
    → ((j : ℕ) → j < length ts → table_held tabled (k + j) ≡ get_or ts j (record { kind = 0; cells = [] }))
    → boards_held text tabled entries k (length ts) ≡ with_tables ts (boards_held text cards entries k (length ts))
boards_with text cards tabled entries k [] o h = refl
boards_with text cards tabled entries k (t ∷ ts) o h =
    let z = add-zero k in
    let first : board_held text tabled entries k ≡ with_table t (board_held text cards entries k) =
    board_with text cards tabled entries k (rw z at (o 0 (omega arith)))
    ∙ ap (λ (x : TableCard). with_table x (board_held text cards entries k)) (rw z at (h 0 (omega arith))) in
    let rest = boards_with text cards tabled entries (k + 1) ts
    (λ j l. let y : k + 1 + j ≡ k + suc j = omega arith in rw y (o (suc j) (omega arith)))
    (λ j l. let y : k + 1 + j ≡ k + suc j = omega arith in rw y (h (suc j) (omega arith))) in
    rw (first, rest)

seen_with : (ts : List TableCard) (bs : List PlainBoard) → map seen (with_tables ts bs) ≡ with_tables ts (map seen bs)
unfolding seen with_table
seen_with [] bs = refl
seen_with (t ∷ ts) [] = refl
seen_with (t ∷ ts) (b ∷ bs) = rw (seen_with ts bs)

-- THEOREM. The page of cards with other tables is that of the edition's plain boards with these tables.
pub PageWith : (c : Conventions) (text cards tabled entries : List ℕ) (ts : List TableCard)
    → Holds c text cards entries → OtherTables cards tabled ts → length ts ≡ length (cards_of c text)
    → page_held c text tabled entries (length (cards_of c text)) ≡ page_text c (with_tables ts (plain_boards c text))
PageWith c text cards tabled entries ts t o e =
    let n = length (cards_of c text) in
    let other : (k : ℕ) → k < length ts → OtherTable cards tabled k = λ k h.
    record { low = λ i. o.low_words k i h; high = λ i. o.high_words k i h } in
    let held : (k : ℕ) → k < n → EntriesHeld text tabled entries k = λ k h.
    entries_with text cards tabled entries k (other k (omega (arith, e, h))) (EveryHeldBoard c text cards entries t k h).entries_held in
    let boards : boards_held text tabled entries 0 n ≡ with_tables ts (boards_held text cards entries 0 n) =
    rw e at (boards_with text cards tabled entries 0 ts (λ j l. rw (zero-add j) (other j l)) (λ j l. rw (zero-add j) (o.tables j l))) in
    page_is c text tabled entries n held
    ∙ ap (page_text c) (boards ∙ ap (with_tables ts) (HeldBoards c text cards entries t) ∙ sym (seen_with ts (plain_boards c text)))
    ∙ SeenPage c (with_tables ts (plain_boards c text))

-- ---- how long

-- A table of at most 20 cells.
abbrev FewCells : TableCard → Type 0
FewCells t = length t.cells ≤ 20

first_few : (l : List ℕ) → length (take 20 l) ≤ 20
first_few l = rw length-take (omega arith)

answer_few : (answers : List ℕ) (i : ℕ) → length (answer_at answers i) ≤ 20
unfolding answer_at
answer_few answers i =
    by_cases (ltb i (length answers / 20))
    (λ q. rw q (first_few (drop (20 * i) answers)))
    (λ q. rw (q, length-replicate {A = ℕ} 20 0) (omega arith))

table_few : (olds news : List (List ℕ)) (js : List BoardPlan) (answers : List ℕ) (p : ℕ) (card : List ℕ) (s : BoardState)
    → FewCells (table_for olds news js answers p card s)
table_few olds news js answers p card Blank = first_few (drop 18 card)
table_few olds news js answers p card Own = first_few (drop 18 card)
table_few olds news js answers p card (Old k) = first_few (drop 18 (card_at olds k))
table_few olds news js answers p card (Near k) = first_few (drop 18 (card_at news k))
table_few olds news js answers p card (Twin k) = answer_few answers (slip_index js k)
table_few olds news js answers p card Solve = answer_few answers (slip_index js p)

tables_few : (olds news : List (List ℕ)) (js : List BoardPlan) (answers : List ℕ) (ks : List BoardPlan)
    → All FewCells (map (table_of olds news js answers) ks)
unfolding table_of
tables_few olds news js answers [] = none
tables_few olds news js answers (k ∷ ks) =
    one (table_few olds news js answers k.position k.card k.state) (tables_few olds news js answers ks)

-- THEOREM. There is a table for each board of the new edition.
pub TablesCount : (c : Conventions) (old new answers : List ℕ) → length (tables_of c old new answers) ≡ length (cards_of c new)
unfolding tables_of board_plans
TablesCount c old new answers = length-map (plans_of c old new) _ ∙ plans_count (cards_of c old) (cards_of c new) 1 [] (cards_of c new)

-- Boards that are so sized stay so with tables of at most 20 cells.
tables_sized : {rs : List (List ℕ)} {bs : List PlainBoard} {ts : List TableCard}
    → BoardsSized rs bs → All FewCells ts → length ts ≡ length rs → BoardsSized rs (with_tables ts bs)
unfolding with_table
tables_sized over none e = over
tables_sized over (one f fs) e = absurd (omega (arith, e))
tables_sized (next m h) none e = absurd (omega (arith, e))
tables_sized (next {r = r} {b = b} m h) (one {x = t} f fs) e = next (TablePut (length r) b t f m) (tables_sized h fs (omega (arith, e)))

-- THEOREM. A finished edition has at most 177 bytes for each byte of the new edition, and 20.
pub FinishedMost : (c : Conventions) (old new answers : List ℕ) → length (finished_text c old new answers) ≤ 177 * length new + 20
unfolding finished_text finished_boards tables_of cards_of
FinishedMost c old new answers =
    let js = plans_of c old new in
    let few = tables_few (cards_of c old) (cards_of c new) js answers js in
    PageMost c new (tables_sized (EditionSized c new) few (TablesCount c old new answers ∙ cards_few c 0 0 (records_of new)))

-- THEOREM. It is below 2 ^ 32 bytes where the new edition is not overlong.
pub FinishedFew : (c : Conventions) (old new answers : List ℕ) → length new ≤ 16777215
    → length (finished_text c old new answers) < 4294967296
FinishedFew c old new answers h = omega (arith, FinishedMost c old new answers)
