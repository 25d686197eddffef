-- The table of each board of the finished edition, by the state of the board of the new one.
use Prim.Native.Nat.{ℕ, zero, suc, ◌+◌, ◌-◌, ◌*◌, ◌<◌}
use mathlib.Core.Path.{◌≡◌, refl, sym, ◌∙◌, ap}
use mathlib.Core.Bool.{true, false, not}
use mathlib.Core.List.{List}
use native.Mathlib.Omega.{arith}
use lib.Dec.{eqb}
use lib.ListN.{length, get_or, take}
use borrow.Author.Tests.{eq-eqb}
use Rattle.tables.specs.declared.letters.Conventions.{Conventions}
use Rattle.tables.proofs.Laws.{clash}
use Rattle.reader.specs.declared.board.TableCard.{TableCard}
use Rattle.reader.specs.Store.{flat, padded}
use Rattle.reader.specs.Editions.{cards_of}
use Rattle.planning.specs.declared.state.BoardState.{BoardState}
use Rattle.planning.specs.declared.state.BoardState.TheVariants.{Blank, Own, Old, Near, Twin, Solve}
use Rattle.planning.specs.Cards.{hands_of, is_whole, has_table, card_here}
use Rattle.planning.specs.States.{board_plans, state_at, state_number, from_of}
use Rattle.planning.specs.Slips.{count_of, slips_of, card_from}
use Rattle.planning.specs.Plans.{plans_of}
use Rattle.planning.specs.Demands.{StateIs}
use Rattle.planning.proofs.FoundLaws.{take_card}
use Rattle.writer.specs.Given.{cells_of, own_table, table_for, table_of, tables_of}
use Rattle.demands.specs.Demand1.{boards_in}
use Rattle.demands.specs.Demand3.{AnswersOf, CellsFrom}
use Rattle.demands.specs.Demand3 as cells
use Rattle.demands.specs.Finished.{no_table}
use Rattle.demands.proofs.MeaningLaws.{plan_here_lem, state_here_lem, mapped_at}
use Rattle.demands.proofs.StatesMean.{states_mean, twins_of_solve}
use Rattle.demands.proofs.FinishedSlips.{slip_answers}

-- ---- the table of a position

-- The table of the board number k, from 0.
abbrev pub table_here : Conventions → List ℕ → List ℕ → List ℕ → ℕ → BoardState → TableCard
table_here c old new answers k s =
    table_for (cards_of c old) (cards_of c new) (plans_of c old new) answers (suc k) (card_from (cards_of c new) k) s

pub table_at : (c : Conventions) (old new answers : List ℕ) (k : ℕ) → k < length (cards_of c new)
    → get_or (tables_of c old new answers) k no_table ≡ table_here c old new answers k (state_at (plans_of c old new) (suc k))
unfolding tables_of table_of
table_at c old new answers k h =
    let olds = cards_of c old in
    let news = cards_of c new in
    let js = board_plans olds news in
    let n : 1 + k ≡ suc k = omega arith in
    let e = mapped_at (table_of olds news js answers) js k no_table (plan_here_lem olds news k h) in
    rw (n, ← state_here_lem olds news k h) at e

-- ---- by its state

module _ (c : Conventions) (old new answers : List ℕ) (k : ℕ) (below : k < length (cards_of c new)) where
  abbrev card : List ℕ
  card = card_from (cards_of c new) k

  abbrev IsAs : BoardState → Type 0
  IsAs s = StateIs (cards_of c old) (cards_of c new) (take k (cards_of c new)) card s

  -- What the state says of the board, and what says it.
  pub says : (s : BoardState) → state_at (plans_of c old new) (suc k) ≡ s → IsAs s
  says s e = let n : suc k - 1 ≡ k = omega arith in rw n at ((states_mean c old new (suc k) (omega arith) (omega arith) s).0 e)

  own_state : is_whole card ≡ true → has_table card ≡ true → state_at (plans_of c old new) (suc k) ≡ Own
  own_state w t = (states_mean c old new (suc k) (omega arith) (omega arith) Own).1 (w, t)

  -- A whole board gets a table.
  kind_of : (s : BoardState) → IsAs s → is_whole card ≡ true → (table_here c old new answers k s).kind ≡ 0 → ⊥
  unfolding has_table
  kind_of Blank e w z = clash (sym e ∙ w)
  kind_of Own e w z = clash (rw (eq-eqb (get_or card 38 0) 0 z) at e.1)
  kind_of (Old j) e w z = omega arith
  kind_of (Near j) e w z = omega arith
  kind_of (Twin j) e w z = omega arith
  kind_of Solve e w z = omega arith

  pub whole_kind : is_whole card ≡ true → (get_or (tables_of c old new answers) k no_table).kind ≡ 0 → ⊥
  whole_kind w z =
      let s = state_at (plans_of c old new) (suc k) in
      kind_of s (says s refl) w (sym (ap (λ (t : TableCard). t.kind) (table_at c old new answers k below)) ∙ z)

  -- A board with a table keeps its cells.
  pub own_cells : is_whole card ≡ true → has_table card ≡ true → (get_or (tables_of c old new answers) k no_table).cells ≡ cells_of card
  own_cells w t =
      ap (λ (x : TableCard). x.cells) (table_at c old new answers k below ∙ ap (table_here c old new answers k) (own_state w t))

  -- A board that is not whole keeps what it has.
  blank_table : is_whole card ≡ false → get_or (tables_of c old new answers) k no_table ≡ own_table card
  blank_table w =
      table_at c old new answers k below
      ∙ ap (table_here c old new answers k) ((states_mean c old new (suc k) (omega arith) (omega arith) Blank).1 w)

  pub blank_has : is_whole card ≡ false → not (eqb (get_or (tables_of c old new answers) k no_table).kind 0) ≡ has_table card
  unfolding has_table
  blank_has w = rw (blank_table w)

  pub blank_kind : is_whole card ≡ false → has_table card ≡ true → (get_or (tables_of c old new answers) k no_table).kind ≡ 0 → ⊥
  blank_kind w t z = clash (rw (eq-eqb (get_or (tables_of c old new answers) k no_table).kind 0 z) at (blank_has w ∙ t))

  pub blank_cells : is_whole card ≡ false → (get_or (tables_of c old new answers) k no_table).cells ≡ cells_of card
  blank_cells w = ap (λ (x : TableCard). x.cells) (blank_table w)

  module _ (old_cards new_cards slips : List ℕ) (n : ℕ)
      (olds_are : (j : ℕ) → j < boards_in c old → card_here j old_cards ≡ card_from (cards_of c old) j)
      (news_are : (j : ℕ) → j < boards_in c new → card_here j new_cards ≡ card_from (cards_of c new) j)
      (twenty : length answers ≡ 20 * count_of 5 (plans_of c old new))
      (are : slips ≡ padded n (flat (slips_of (plans_of c old new)))) where
    abbrev Cells : BoardState → Type 0
    Cells s =
        CellsFrom (hands_of card) card old_cards new_cards (count_of 5 (plans_of c old new)) slips answers
        (state_number s) (from_of s) (table_here c old new answers k s).cells

    from_slip : (j : ℕ) → j < length (cards_of c new) → state_at (plans_of c old new) (suc j) ≡ Solve
        → AnswersOf (hands_of (card_from (cards_of c new) j)) (count_of 5 (plans_of c old new)) slips answers
        (table_here c old new answers j Solve).cells
    from_slip j l e = slip_answers (cards_of c old) (cards_of c new) answers slips n twenty are j l e

    cells_of_lem : (s : BoardState) → state_at (plans_of c old new) (suc k) ≡ s → IsAs s → is_whole card ≡ true → Cells s
    cells_of_lem Blank q e w = clash (sym e ∙ w)
    cells_of_lem Own q e w = cells.own refl refl
    cells_of_lem (Old zero) q e w = absurd (omega (arith, e.1.from_one))
    cells_of_lem (Old (suc j)) q e w =
        let m : suc j - 1 ≡ j = omega arith in
        let l : j < boards_in c old = omega (arith, e.1.is_there) in
        cells.old refl (record { from_one = e.1.from_one; tabled = rw (m, olds_are j l) e.1.holds; cells_are = rw (m, olds_are j l) })
    cells_of_lem (Near zero) q e w = absurd (omega (arith, e.2.from_one))
    cells_of_lem (Near (suc j)) q e w =
        let m : suc j - 1 ≡ j = omega arith in
        let l : j < boards_in c new = omega (arith, e.2.is_there) in
        cells.near refl (record { from_one = e.2.from_one; tabled = rw (m, news_are j l) e.2.holds; cells_are = rw (m, news_are j l) })
    cells_of_lem (Twin zero) q e w = absurd (omega (arith, e.3.from_one))
    cells_of_lem (Twin (suc j)) q e w =
        let t = twins_of_solve c old new (suc k) (suc j) q in
        let l : j < k = omega (arith, t.1) in
        let f = rw (take_card k j (cards_of c new) l) at e.3.holds in
        cells.twin refl (rw f.hands at (from_slip j (omega arith) t.2))
    cells_of_lem Solve q e w = cells.solve refl (from_slip k below q)

    -- Where its cells come from.
    pub cells_from : is_whole card ≡ true
        → CellsFrom (hands_of card) card old_cards new_cards (count_of 5 (plans_of c old new)) slips answers
        (state_number (state_at (plans_of c old new) (suc k))) (from_of (state_at (plans_of c old new) (suc k)))
        (get_or (tables_of c old new answers) k no_table).cells
    cells_from w =
        let s = state_at (plans_of c old new) (suc k) in
        rw (table_at c old new answers k below) (cells_of_lem s refl (says s refl) w)
