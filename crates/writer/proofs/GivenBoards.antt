-- The new edition's cards with the tables that they get: marked they have these tables, and cleared again they are what was read.
use Prim.Native.Nat.{ℕ, zero, suc, ◌+◌, ◌<◌}
use mathlib.Core.Path.{◌≡◌, refl, sym, ap, ◌∙◌}
use mathlib.Core.Bool.{Bool, true, false, ◌&&◌, not}
use mathlib.Core.List.{List, [], ◌∷◌, ◌++◌, map, append_assoc}
use native.Mathlib.Omega.{arith}
use lib.Dec.{eqb}
use lib.ListN.{length, get_or, take, drop, replicate, length-append, length-replicate, take-append-drop}
use lib.Seq.{take_at, drop_at, get_or_at, drop-cons, drop-drop, length-take-le}
use borrow.Author.Tests.{eqb-true, eqb-false}
use Rattle.tables.specs.declared.letters.Conventions.{Conventions}
use Rattle.tables.proofs.Laws.{by_cases, clash}
use Rattle.reader.specs.declared.board.TableCard.{TableCard}
use Rattle.reader.specs.Boards.{record_out}
use Rattle.reader.specs.Records.{records_of}
use Rattle.reader.specs.Kept.{TableKept}
use Rattle.reader.specs.Editions.{card_of, cards_from, cards_of}
use Rattle.reader.proofs.EntryLaws.{All, none, one}
use Rattle.reader.proofs.CardLength.{CardLength}
use Rattle.reader.proofs.CardKept.{CardKept}
use Rattle.reader.proofs.PlainBounds.{PlainBounds}
use Rattle.planning.specs.declared.state.BoardState.{BoardState}
use Rattle.planning.specs.declared.state.BoardState.TheVariants.{Old, Near, Twin, Solve}
use Rattle.planning.specs.Cards.{card_deal, is_whole, has_table, fits}
use Rattle.planning.specs.States.{BoardPlan, first_with, or_else, state_of, board_plans_from}
use Rattle.planning.specs.Slips.{card_from, card_at}
use Rattle.planning.proofs.FoundLaws.{found}
use Rattle.writer.specs.Given.{slip_index, answer_at, cells_of, own_table, given, table_for, table_of}
use Rattle.writer.specs.GivenCards.{with_cells, with_kind, given_card, marked, given_cleared}
use Rattle.writer.proofs.ChangedCards.{marked_stays, cleared_stays}
use Rattle.writer.proofs.GiveCells.{given_length, given_alike, answer_length}

-- ---- a card in parts

-- Words 0 to 17, the cells, the kind and words 39 to 63.
abbrev pub joined : List ℕ → List ℕ → ℕ → List ℕ → List ℕ
joined a cs k d = a ++ (cs ++ (k ∷ d))

card_parts : (x : List ℕ) → length x ≡ 64 → x ≡ joined (take 18 x) (cells_of x) (get_or x 38 0) (drop 39 x)
card_parts x e =
    let d = drop 18 x in
    let back : drop 20 d ≡ get_or x 38 0 ∷ drop 39 x = drop-drop 20 18 x ∙ drop-cons x 38 0 (omega arith) in
    sym
    (ap (λ (l : List ℕ). take 18 x ++ (take 20 d ++ l)) (sym back)
    ∙ ap (λ (l : List ℕ). take 18 x ++ l) (take-append-drop 20 d)
    ∙ take-append-drop 18 x)

module _ (a cs : List ℕ) (k : ℕ) (d : List ℕ) (la : length a ≡ 18) (lc : length cs ≡ 20) where
  front_long : length (a ++ cs) ≡ 38
  front_long = length-append a cs ∙ omega arith

  front_first : joined a cs k d ≡ (a ++ cs) ++ (k ∷ d)
  front_first = sym (append_assoc a cs (k ∷ d))

  pub kind_of : get_or (joined a cs k d) 38 0 ≡ k
  kind_of = ap (λ (l : List ℕ). get_or l 38 0) front_first ∙ get_or_at (a ++ cs) k d 0 38 front_long

  pub cells_of_lem : cells_of (joined a cs k d) ≡ cs
  cells_of_lem = ap (take 20) (drop_at a (cs ++ (k ∷ d)) 18 la) ∙ take_at cs (k ∷ d) 20 lc

  from_38 : drop 38 (joined a cs k d) ≡ k ∷ d
  from_38 = ap (drop 38) front_first ∙ drop_at (a ++ cs) (k ∷ d) 38 front_long

  from_39 : drop 39 (joined a cs k d) ≡ d
  from_39 = sym (drop-drop 1 38 (joined a cs k d)) ∙ ap (drop 1) from_38

  with_cells_lem : (ws : List ℕ) → with_cells ws (joined a cs k d) ≡ joined a ws k d
  unfolding with_cells
  with_cells_lem ws =
      ap (λ (l : List ℕ). take 18 (joined a cs k d) ++ (ws ++ l)) from_38
      ∙ ap (λ (l : List ℕ). l ++ (ws ++ (k ∷ d))) (take_at a (cs ++ (k ∷ d)) 18 la)

  with_kind_lem : (v : ℕ) → with_kind v (joined a cs k d) ≡ joined a cs v d
  unfolding with_kind
  with_kind_lem v =
      let front : take 38 (joined a cs k d) ≡ a ++ cs = ap (take 38) front_first ∙ take_at (a ++ cs) (k ∷ d) 38 front_long in
      ap (λ (l : List ℕ). take 38 (joined a cs k d) ++ v ∷ l) from_39
      ∙ ap (λ (l : List ℕ). l ++ v ∷ d) front
      ∙ append_assoc a cs (v ∷ d)

-- ---- the cards of an edition

-- A card as it is read: 64 words, and a table of a kind up to 2, or none and no cells.
pub record CardFit (x : List ℕ) : Type 0 where
  pub long : length x ≡ 64
  pub table : TableKept (own_table x)

card_fit : (c : Conventions) (a n : ℕ) (r : List ℕ) → CardFit (card_of c a n r)
card_fit c a n r =
    let k = CardKept c a n r in
    let t = (PlainBounds c r).table_in in
    record {
      long = CardLength c a n r;
      table = record {
        kind_low = rw k.word_38 t.kind_low;
        twenty = rw k.words_18 t.twenty;
        cells_low = rw k.words_18 t.cells_low;
        none_zero = λ z. k.words_18 ∙ t.none_zero (sym k.word_38 ∙ z);
      };
    }

cards_fit : (c : Conventions) (a n : ℕ) (rs : List (List ℕ)) → All CardFit (cards_from c a n rs)
cards_fit c a n [] = none
cards_fit c a n (r ∷ rs) = one (card_fit c a n r) (cards_fit c (a + length r) (n + length (record_out c r).entries) rs)

-- THEOREM. So is every card of an edition.
pub CardsFit : (c : Conventions) (text : List ℕ) → All CardFit (cards_of c text)
unfolding cards_of
CardsFit c text = cards_fit c 0 0 (records_of text)

fit_at : {xs : List (List ℕ)} → All CardFit xs → (i : ℕ) → i < length xs → CardFit (card_from xs i)
fit_at none i h = absurd (omega arith)
fit_at (one f fs) zero h = f
fit_at (one f fs) (suc i) h = fit_at fs i (omega arith)

-- ---- the table that a board gets

-- t is the table of a board whose card is x; g is its card with the cells given, and once that is marked, it has the table; cleared
-- again, it is x.
pub record TableGiven (x : List ℕ) (t : TableCard) (g : List ℕ) : Type 0 where
  pub long : length x ≡ 64
  pub given_long : length g ≡ 64
  pub twenty : length t.cells ≡ 20
  pub is : marked g ≡ joined (take 18 x) t.cells t.kind (drop 39 x)
  pub back : given_cleared (marked g) ≡ x

-- So of all boards: their cards, tables, and cards with cells given.
pub data AllGiven : List (List ℕ) → List TableCard → List (List ℕ) → Type 0 where
  no_board_lem : AllGiven [] [] []
  and_board : {x : List ℕ} {t : TableCard} {g : List ℕ} {xs : List (List ℕ)} {ts : List TableCard} {gs : List (List ℕ)} → TableGiven x t g
      → AllGiven xs ts gs → AllGiven (x ∷ xs) (t ∷ ts) (g ∷ gs)

module _ (x : List ℕ) (f : CardFit x) where
  front_18 : length (take 18 x) ≡ 18
  front_18 = length-take-le 18 x (omega (arith, f.long))

  -- A board that keeps its own table, or has none.
  own_given : (is_whole x && not (has_table x)) ≡ false → TableGiven x (own_table x) (with_cells (cells_of x) x)
  own_given h =
      let p = card_parts x f.long in
      let same : with_cells (cells_of x) x ≡ x =
      ap (with_cells (cells_of x)) p
      ∙ with_cells_lem (take 18 x) (cells_of x) (get_or x 38 0) (drop 39 x) front_18 f.table.twenty (cells_of x)
      ∙ sym p in
      let stays : marked (with_cells (cells_of x) x) ≡ x = ap marked same ∙ marked_stays x h in
      record {
        long = f.long;
        given_long = ap length same ∙ f.long;
        twenty = f.table.twenty;
        is = stays ∙ p;
        back = ap given_cleared stays ∙ cleared_stays x (λ u. omega (arith, f.table.kind_low));
      }

  no_kind : has_table x ≡ false → get_or x 38 0 ≡ 0
  unfolding has_table
  no_kind h = by_cases (eqb (get_or x 38 0) 0) (λ q. eqb-true (get_or x 38 0) 0 q) (λ q. clash (sym (rw q at h)))

  -- A board that is given cells.
  cells_given : (cs : List ℕ) → length cs ≡ 20 → is_whole x ≡ true → has_table x ≡ false → TableGiven x (given cs) (with_cells cs x)
  unfolding marked given_cleared
  cells_given cs l w h =
      let a = take 18 x in
      let b = cells_of x in
      let k = get_or x 38 0 in
      let d = drop 39 x in
      let p = card_parts x f.long in
      let lb = f.table.twenty in
      let k0 : k ≡ 0 = no_kind h in
      let g : with_cells cs x ≡ joined a cs k d = ap (with_cells cs) p ∙ with_cells_lem a b k d front_18 lb cs in
      let alike = given_alike cs x l f.long in
      let m : marked (with_cells cs x) ≡ joined a cs 3 d =
      rw (alike.whole, alike.table, w, h) (ap (with_kind 3) g ∙ with_kind_lem a cs k d front_18 l 3) in
      let z : given_cleared (joined a cs 3 d) ≡ joined a (replicate 20 0) 0 d =
      rw (kind_of a cs 3 d front_18 l)
      (ap (with_kind 0) (with_cells_lem a cs 3 d front_18 l (replicate 20 0))
      ∙ with_kind_lem a (replicate 20 0) 3 d front_18 (length-replicate {A = ℕ} 20 0) 0) in
      let e : joined a (replicate 20 0) 0 d ≡ joined a b k d = rw (k0, f.table.none_zero k0) in
      record {
        long = f.long;
        given_long = given_length cs x l f.long;
        twenty = l;
        is = m;
        back = ap given_cleared m ∙ z ∙ e ∙ sym p;
      }

-- The cells of a board that was found.
found_twenty : (tabled : Bool) (d : List ℕ) (xs : List (List ℕ)) → All CardFit xs → eqb (first_with tabled d xs) 0 ≡ false
    → length (cells_of (card_at xs (first_with tabled d xs))) ≡ 20
unfolding first_with
found_twenty tabled d xs fs q =
    let m = first_with tabled d xs in
    let h = found (fits tabled d) 1 m xs refl (eqb-false m 0 q) in
    let e : m ≡ suc h.index = omega (arith, h.number) in
    ap (λ (k : ℕ). length (cells_of (card_at xs k))) e ∙ (fit_at fs h.index h.below).table.twenty

module _ (olds news : List (List ℕ)) (of : All CardFit olds) (nf : All CardFit news) (js : List BoardPlan) (answers : List ℕ) where
  -- The state of a whole board without a table.
  abbrev sourced : List (List ℕ) → List ℕ → BoardState
  sourced earlier d =
      or_else Old (first_with true d olds)
      (or_else Near (first_with true d news) (or_else Twin (first_with false d earlier) Solve))

  -- Its cells.
  record Cells (t : TableCard) : Type 0 where
    cells : List ℕ
    is : t ≡ given cells
    twenty : length cells ≡ 20

  sourced_cells : (p : ℕ) (x : List ℕ) (earlier : List (List ℕ)) (d : List ℕ)
      → Cells (table_for olds news js answers p x (sourced earlier d))
  sourced_cells p x earlier d =
      by_cases (eqb (first_with true d olds) 0)
      (λ q.
      by_cases (eqb (first_with true d news) 0)
      (λ r.
      by_cases (eqb (first_with false d earlier) 0)
      (λ s.
      let i = slip_index js p in
      rw (q, r, s) (record { cells = answer_at answers i; is = refl; twenty = answer_length answers i }))
      (λ s.
      let i = slip_index js (first_with false d earlier) in
      rw (q, r, s) (record { cells = answer_at answers i; is = refl; twenty = answer_length answers i })))
      (λ r.
      rw (q, r) (record { cells = cells_of (card_at news (first_with true d news)); is = refl; twenty = found_twenty true d news nf r })))
      (λ q. rw q (record { cells = cells_of (card_at olds (first_with true d olds)); is = refl; twenty = found_twenty true d olds of q }))

  -- A board of the new edition.
  abbrev board : ℕ → List (List ℕ) → List ℕ → BoardPlan
  board p earlier x = record { position = p; card = x; state = state_of olds news earlier x }

  board_given : (p : ℕ) (earlier : List (List ℕ)) (x : List ℕ) → CardFit x
      → TableGiven x (table_of olds news js answers (board p earlier x)) (given_card olds news js answers (board p earlier x))
  unfolding table_of given_card state_of
  board_given p earlier x f =
      by_cases (is_whole x)
      (λ w.
      by_cases (has_table x)
      (λ t. rw (w, t) (own_given x f (rw (w, t))))
      (λ t.
      let s = sourced_cells p x earlier (card_deal x) in
      rw (w, t, s.is) (cells_given x f s.cells s.twenty w t)))
      (λ w. rw w (own_given x f (rw w)))

  -- THEOREM. So it is of all boards.
  pub boards_given : (p : ℕ) (earlier : List (List ℕ)) {xs : List (List ℕ)} → All CardFit xs
      → AllGiven xs
      (map (table_of olds news js answers) (board_plans_from olds news p earlier xs))
      (map (given_card olds news js answers) (board_plans_from olds news p earlier xs))
  boards_given p earlier none = no_board_lem
  boards_given p earlier (one {x} f fs) = and_board (board_given p earlier x f) (boards_given (p + 1) (earlier ++ (x ∷ [])) fs)
