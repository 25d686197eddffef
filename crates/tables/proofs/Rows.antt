-- A table written as rows is read back, whatever the order of its rows; the last row for a cell wins, and the first that is
-- refused is the answer.
use Prim.Native.Nat.{ℕ, zero, suc, ◌+◌, ◌-◌, ◌/◌, ◌%◌, ◌≤◌, ◌<◌}
use mathlib.Core.Path.{◌≡◌, refl, sym, ap, ◌∙◌}
use mathlib.Core.Bool.{Bool, true, false, cond, ◌||◌}
use mathlib.Core.List.Memᴰ
use mathlib.Core.List.{List, [], ◌∷◌, ◌++◌, Memᴰ}
use mathlib.Core.Logic.{◌⊎◌, inl, inr}
use native.Mathlib.Omega.{arith}
use lib.Dec.{leb, ltb, eqb}
use lib.ListN.{length, get_or, set, replicate, length-set}
use lib.Seq.{ext_get_or, get_or-set_same, get_or-set_other, append_snoc}
use borrow.Author.Tests.{eqb-true, eqb-false, lt-ltb, le-ltb, ltb-true}
use Rattle.std.specs.Prelude.{Ok, Err}
use Rattle.tables.specs.declared.refusal.Refusal.{Refusal}
use Rattle.tables.specs.declared.letters.Conventions.{Conventions}
use Rattle.tables.specs.Text.{lines, differs}
use Rattle.tables.specs.Letters.{Accepted, every}
use Rattle.tables.specs.Tables.{gives, width_of, row_order, row_text, rows_from, rows_text, fields_row, row_of, stored_row, gather, table_of_rows}
use Rattle.tables.proofs.Laws.{by_cases}
use Rattle.tables.proofs.LetterLaws.{seat_back, strain_back}
use Rattle.tables.proofs.NumberLaws.{DecimalBack}
use Rattle.tables.proofs.RowLaws.{same_place, order_seat, cell_back, row_fields, row_line, line_then, unless_passes, unless_holds, stored_length, stored_other, gathered_holds, gathered_full, cell_small, RowNumber}

-- ---- the width of the result column

-- A cell of the list meets a test.
abbrev pub any : (ℕ → Bool) → List ℕ → Bool
any p [] = false
any p (x ∷ xs) = p x || any p xs

width_turn : (a b : Bool) → ◌≡◌ {A = ℕ} (cond a 2 (cond b 2 1)) (cond (a || b) 2 1)
width_turn true b = refl
width_turn false b = refl

-- The column is 2 wide where a cell exceeds 9, and 1 wide otherwise.
pub Width : (cells : List ℕ) → width_of cells ≡ cond (any (λ t. ltb 9 t) cells) 2 1
Width [] = refl
Width (t ∷ ts) = rw (Width ts) (width_turn (ltb 9 t) (any (λ t. ltb 9 t) ts))

-- A cell above 9.
pub record AboveNine (cells : List ℕ) : Type 0 where
  pub cell : ℕ
  pub inside : cell < length cells
  pub above : 9 < get_or cells cell 0

-- A column 2 wide has a cell above 9.
pub WidthTwo : (cells : List ℕ) → width_of cells ≡ 2 → AboveNine cells
WidthTwo [] e = absurd (omega arith)
WidthTwo (t ∷ ts) e =
    by_cases (ltb 9 t)
    (λ b. record { cell = 0; inside = omega arith; above = ltb-true 9 t b })
    (λ b. let a = WidthTwo ts (rw b at e) in record { cell = suc a.cell; inside = omega (arith, a.inside); above = a.above })

-- A cell above 9 makes the column 2 wide.
pub WidthTwoBack : (cells : List ℕ) (k : ℕ) → 9 < get_or cells k 0 → width_of cells ≡ 2
WidthTwoBack [] k h = absurd (omega arith)
WidthTwoBack (t ∷ ts) zero h = rw (lt-ltb 9 t h)
WidthTwoBack (t ∷ ts) (suc k) h = by_cases (ltb 9 t) (λ b. rw b) (λ b. rw b (WidthTwoBack ts k h))

-- ---- one row

-- For every accepted set of letters: the row that is written for a cell, whatever its width and its number, is read as that
-- cell with its tricks.
pub RowBack : (c : Conventions) → Accepted c → (w k t n : ℕ) → k < 20 → t ≤ 13 → row_of c n (row_text c w k t) ≡ gives k t
unfolding row_of fields_row
RowBack c ok w k t n h l =
    let s = order_seat (k / 5) (omega arith) in
    rw (
      row_fields c ok w k t h,
      seat_back c ok (row_order (k / 5)) s,
      le-ltb 3 (row_order (k / 5)) (omega arith),
      strain_back c ok (4 - k % 5) (omega arith),
      le-ltb 4 (4 - k % 5) (omega arith),
      cell_back k h,
      DecimalBack 255 t (omega arith) (omega arith),
      le-ltb 13 t l,
    )

-- ---- rows in any order

-- The row gives a cell of the table, whatever its number.
pub record GivesCell (c : Conventions) (cells row : List ℕ) : Type 0 where
  pub cell : ℕ
  pub inside : cell < 20
  pub reads : (n : ℕ) → row_of c n row ≡ gives cell (get_or cells cell 0)

-- One of the rows names the cell k.
pub record Named (c : Conventions) (rows : List (List ℕ)) (k : ℕ) : Type 0 where
  pub row : List ℕ
  pub stands : Memᴰ row rows
  pub value : ℕ
  pub reads : (n : ℕ) → row_of c n row ≡ gives k value

-- A cell named by a row or by one of the others.
named_cases : {P : Type 0} (c : Conventions) (row : List ℕ) (rows : List (List ℕ)) (k : ℕ) → Named c (row ∷ rows) k
    → ((v : ℕ) → row_of c 0 row ≡ gives k v → P) → (Named c rows k → P) → P
named_cases {P} c row rows k a f g = pick (Memᴰ.cases_cons a.stands)
  where
    pick : (a.row ≡ row) ⊎ Memᴰ a.row rows → P
    pick (inl e) = f a.value (rw e at (a.reads 0))
    pick (inr m) = g (record { row = a.row; stands = m; value = a.value; reads = a.reads })

module _ (c : Conventions) (cells : List ℕ) where
  -- Each cell is there already, or a row names it.
  abbrev Covered : List (List ℕ) → List ℕ → Type 0
  Covered rows now = (k : ℕ) → k < 20 → (get_or now k 0 ≡ get_or cells k 0) ⊎ Named c rows k

  covered_turn : (row : List ℕ) (rows : List (List ℕ)) (now : List ℕ) (j : ℕ) → j < length now → row_of c 0 row ≡ gives j (get_or cells j 0)
      → Covered (row ∷ rows) now → Covered rows (set now j (get_or cells j 0))
  covered_turn row rows now j hj e cov k h =
      by_cases (eqb k j)
      (λ t. inl (rw (eqb-true k j t) (get_or-set_same now j (get_or cells j 0) 0 hj)))
      (λ t. pick (eqb-false k j t) (cov k h))
    where
      pick : (k ≡ j → ⊥) → (get_or now k 0 ≡ get_or cells k 0) ⊎ Named c (row ∷ rows) k → (get_or (set now j (get_or cells j 0)) k 0 ≡ get_or cells k 0) ⊎ Named c rows k
      pick d (inl same) = inl (get_or-set_other now j k (get_or cells j 0) 0 d ∙ same)
      pick d (inr a) = named_cases c row rows k a (λ v q. absurd (d (same_place (sym q ∙ e)))) (λ b. inr b)

  covered_end : (now : List ℕ) → length now ≡ 20 → length cells ≡ 20 → Covered [] now → now ≡ cells
  covered_end now ln lc cov = ext_get_or 0 now cells (ln ∙ sym lc) (λ i h. pick i (cov i (omega arith)))
    where
      pick : (i : ℕ) → (get_or now i 0 ≡ get_or cells i 0) ⊎ Named c [] i → get_or now i 0 ≡ get_or cells i 0
      pick i (inl e) = e
      pick i (inr a) = absurd (Memᴰ.not-nil a.stands)

  gather_any : length cells ≡ 20 → every (λ t. leb t 13) cells ≡ true → (rows : List (List ℕ)) (n : ℕ) (now : List ℕ) → length now ≡ 20
      → ((row : List ℕ) → Memᴰ row rows → GivesCell c cells row) → Covered rows now → gather c rows n now ≡ Ok cells
  gather_any lc small [] n now ln gives cov = rw (covered_end now ln lc cov) (gathered_full cells small)
  gather_any lc small (row ∷ rows) n now ln gives cov =
      let g = gives row (Memᴰ.head refl) in
      rw (g.reads n)
      (gather_any lc small rows (n + 1) (set now g.cell (get_or cells g.cell 0)) (rw length-set ln)
      (λ r m. gives r (Memᴰ.tail m))
      (covered_turn row rows now g.cell (omega (arith, g.inside)) (g.reads 0) cov))

-- Rows that each give a cell of the table, and together name all its cells, are read as the table: in any order, and however
-- often each of them stands there.
pub AnyOrder : (c : Conventions) (cells : List ℕ) → length cells ≡ 20 → every (λ t. leb t 13) cells ≡ true → (rows : List (List ℕ))
    → ((row : List ℕ) → Memᴰ row rows → GivesCell c cells row) → ((k : ℕ) → k < 20 → Named c rows k)
    → (n : ℕ) → gather c rows n (replicate 20 255) ≡ Ok cells
AnyOrder c cells lc small rows gives names n = gather_any c cells lc small rows n (replicate 20 255) refl gives (λ k h. inr (names k h))

-- The row is one of those that are written for the table.
pub record WrittenRow (c : Conventions) (cells row : List ℕ) : Type 0 where
  pub cell : ℕ
  pub inside : cell < 20
  pub is : row ≡ row_text c (width_of cells) cell (get_or cells cell 0)

-- Rows as a text, an LF after each.
abbrev pub joined : List (List ℕ) → List ℕ
joined [] = []
joined (row ∷ rows) = (row ++ (10 ∷ [])) ++ joined rows

joined_lines : (rows : List (List ℕ)) → ((row : List ℕ) → Memᴰ row rows → every (differs 10) row ≡ true) → lines (joined rows) ≡ rows
joined_lines [] f = refl
joined_lines (row ∷ rows) f =
    let e = line_then row (joined rows) (f row (Memᴰ.head refl)) in
    ap lines (append_snoc row 10 (joined rows)) ∙ e ∙ ap (λ (l : List (List ℕ)). row ∷ l) (joined_lines rows (λ r m. f r (Memᴰ.tail m)))

module _ (c : Conventions) (ok : Accepted c) (cells : List ℕ) (lc : length cells ≡ 20) (small : every (λ t. leb t 13) cells ≡ true) where
  own_row : (k : ℕ) → k < 20 → (n : ℕ) → row_of c n (row_text c (width_of cells) k (get_or cells k 0)) ≡ gives k (get_or cells k 0)
  own_row k h n = RowBack c ok (width_of cells) k (get_or cells k 0) n h (cell_small cells k small)

  -- For every accepted set of letters and every table of cells 0 to 13: rows that are all written for the table, each of the
  -- twenty among them, are read as the table.
  pub RowsAnyOrder : (rows : List (List ℕ)) → ((row : List ℕ) → Memᴰ row rows → WrittenRow c cells row)
      → ((k : ℕ) → k < 20 → Memᴰ (row_text c (width_of cells) k (get_or cells k 0)) rows)
      → (n : ℕ) → gather c rows n (replicate 20 255) ≡ Ok cells
  RowsAnyOrder rows written all n =
      AnyOrder c cells lc small rows
      (λ row m. let g = written row m in record { cell = g.cell; inside = g.inside; reads = λ i. ap (λ (r : List ℕ). row_of c i r) g.is ∙ own_row g.cell g.inside i })
      (λ k h. record { row = row_text c (width_of cells) k (get_or cells k 0); stands = all k h; value = get_or cells k 0; reads = own_row k h })
      n

  -- The same of the text that the rows make.
  pub TextAnyOrder : (rows : List (List ℕ)) → ((row : List ℕ) → Memᴰ row rows → WrittenRow c cells row)
      → ((k : ℕ) → k < 20 → Memᴰ (row_text c (width_of cells) k (get_or cells k 0)) rows)
      → table_of_rows c (joined rows) ≡ Ok cells
  unfolding table_of_rows
  TextAnyOrder rows written all =
      rw (joined_lines rows (λ row m. let g = written row m in rw g.is (row_line c ok (width_of cells) g.cell (get_or cells g.cell 0) g.inside)))
      (RowsAnyOrder rows written all 0)

-- ---- the rows of a table, in the order in which they are written

abbrev row_list : Conventions → ℕ → ℕ → List ℕ → List (List ℕ)
row_list c w i [] = []
row_list c w i (t ∷ ts) = row_text c w i t ∷ row_list c w (i + 1) ts

rows_joined : (c : Conventions) (w i : ℕ) (ts : List ℕ) → rows_from c w i ts ≡ joined (row_list c w i ts)
rows_joined c w i [] = refl
rows_joined c w i (t ∷ ts) = rw (rows_joined c w (i + 1) ts)

-- What stands at a place of the list, and at which place a row of it stands.
list_all : (c : Conventions) (w i : ℕ) (ts : List ℕ) (k : ℕ) → k < length ts → Memᴰ (row_text c w (i + k) (get_or ts k 0)) (row_list c w i ts)
list_all c w i [] k h = absurd (omega arith)
list_all c w i (t ∷ ts) zero h =
    let e : i + 0 ≡ i = omega arith in
    rw e (Memᴰ.head refl)
list_all c w i (t ∷ ts) (suc k) h =
    let e : i + suc k ≡ i + 1 + k = omega arith in
    rw e (Memᴰ.tail (list_all c w (i + 1) ts k (omega arith)))

-- The row is that of the k-th of the cells ts, which stand from i on.
record At (c : Conventions) (w i : ℕ) (ts row : List ℕ) : Type 0 where
  place : ℕ
  inside : place < length ts
  is : row ≡ row_text c w (i + place) (get_or ts place 0)

list_only : (c : Conventions) (w i : ℕ) (ts row : List ℕ) → Memᴰ row (row_list c w i ts) → At c w i ts row
list_only c w i [] row m = absurd (Memᴰ.not-nil m)
list_only c w i (t ∷ ts) row m = pick (λ n. list_only c w (i + 1) ts row n) (Memᴰ.cases_cons m)
  where
    pick : (Memᴰ row (row_list c w (i + 1) ts) → At c w (i + 1) ts row) → (row ≡ row_text c w i t) ⊎ Memᴰ row (row_list c w (i + 1) ts) → At c w i (t ∷ ts) row
    pick f (inl e) =
        let z : i + 0 ≡ i = omega arith in
        record { place = 0; inside = omega arith; is = rw z e }
    pick f (inr n) =
        let a = f n in
        let z : i + suc a.place ≡ i + 1 + a.place = omega arith in
        record { place = suc a.place; inside = omega (arith, a.inside); is = rw z a.is }

-- For every accepted set of letters and every table of cells 0 to 13: the rows that are written for it are read as the same
-- table.
pub RowsBack : (c : Conventions) → Accepted c → (cells : List ℕ) → length cells ≡ 20 → every (λ t. leb t 13) cells ≡ true
    → table_of_rows c (rows_text c cells) ≡ Ok cells
unfolding rows_text
RowsBack c ok cells lc small =
    rw (rows_joined c (width_of cells) 0 cells)
    (TextAnyOrder c ok cells lc small (row_list c (width_of cells) 0 cells)
    (λ row m.
    let a = list_only c (width_of cells) 0 cells row m in
    let e : 0 + a.place ≡ a.place = omega arith in
    record { cell = a.place; inside = omega (arith, a.inside); is = rw e at a.is })
    (λ k h. let e : 0 + k ≡ k = omega arith in rw e at (list_all c (width_of cells) 0 cells k (omega arith))))

-- ---- the last row for a cell

-- Rows that do not name the cell k leave it as it was.
others_keep : (c : Conventions) (rows : List (List ℕ)) (n : ℕ) (now ts : List ℕ) (k : ℕ) → gather c rows n now ≡ Ok ts
    → ((row : List ℕ) (m v : ℕ) → Memᴰ row rows → row_of c m row ≡ gives k v → ⊥) → get_or ts k 0 ≡ get_or now k 0
others_keep c [] n now ts k e f = rw (gathered_holds now e)
others_keep c (row ∷ rows) n now ts k e f =
    others_keep c rows (n + 1) (stored_row now (row_of c n row)) ts k (unless_holds (row_of c n row) _ e) (λ r m v s. f r m v (Memᴰ.tail s))
    ∙ stored_other now (row_of c n row) k (λ v. f row n v (Memᴰ.head refl))

-- Where a table is read, a row that gives the cell k the tricks v, and no row after it names k, then k has v.
pub LastWins : (c : Conventions) (earlier : List (List ℕ)) (row : List ℕ) (later : List (List ℕ)) (n : ℕ) (now ts : List ℕ) (k v m : ℕ)
    → gather c (earlier ++ row ∷ later) n now ≡ Ok ts → k < length now → row_of c m row ≡ gives k v
    → ((r : List ℕ) (i u : ℕ) → Memᴰ r later → row_of c i r ≡ gives k u → ⊥) → get_or ts k 0 ≡ v
LastWins c [] row later n now ts k v m e h q f =
    let s = rw (RowNumber c m n row q) at e in
    others_keep c later (n + 1) (set now k v) ts k s f ∙ get_or-set_same now k v 0 h
LastWins c (r ∷ rs) row later n now ts k v m e h q f =
    LastWins c rs row later (n + 1) (stored_row now (row_of c n r)) ts k v m (unless_holds (row_of c n r) _ e) (rw stored_length h) q f

-- ---- the first row that is refused

-- A refusal of the row at its number, where no row before it is refused, is the answer, whatever follows.
pub FirstFault : (c : Conventions) (earlier : List (List ℕ)) (row : List ℕ) (later : List (List ℕ)) (n : ℕ) (now : List ℕ) (f : Refusal)
    → ((r : List ℕ) (i : ℕ) (g : Refusal) → Memᴰ r earlier → row_of c i r ≡ Err g → ⊥) → row_of c (n + length earlier) row ≡ Err f
    → gather c (earlier ++ row ∷ later) n now ≡ Err f
FirstFault c [] row later n now f ok e =
    let z : n + 0 ≡ n = omega arith in
    rw (rw z at e)
FirstFault c (r ∷ rs) row later n now f ok e =
    let z : n + suc (length rs) ≡ n + 1 + length rs = omega arith in
    unless_passes (row_of c n r) _ (λ g. ok r n g (Memᴰ.head refl))
    ∙ FirstFault c rs row later (n + 1) (stored_row now (row_of c n r)) f (λ s i g m. ok s i g (Memᴰ.tail m)) (rw z at e)
