-- Laws of finishing a whole edition.
use Prim.Native.Nat.{ℕ, zero, suc, ◌+◌, ◌*◌, ◌-◌, ◌/◌, ◌≤◌, ◌<◌}
use mathlib.Core.Path.{◌≡◌, refl, sym, ap, ◌∙◌}
use mathlib.Core.Bool.{true, false}
use mathlib.Core.List.{List, [], ◌∷◌, ◌++◌, map, append_assoc}
use native.Mathlib.Omega.{arith}
use lib.Dec.{ltb}
use lib.ListN.{length, get_or, take, drop, replicate, length-append, length-map, get_or-append}
use lib.Seq.{drop_at, get_or-take, get_or-drop, get_or-append-add, drop-append-add, length-take-le}
use borrow.Author.Tests.{lt-ltb}
use Rattle.std.specs.Prelude.{Result, Ok, Err, is_ok}
use Rattle.std.specs.Result.{is_err}
use Rattle.tables.specs.declared.letters.Conventions.{Conventions}
use Rattle.tables.proofs.Laws.{clash}
use Rattle.reader.specs.declared.board.TableCard.{TableCard}
use Rattle.reader.specs.declared.edition.Counts.{Counts}
use Rattle.reader.specs.declared.edition.ReadRefusal.{ReadRefusal}
use Rattle.reader.specs.Store.{flat, padded, zeros}
use Rattle.reader.specs.Editions.{reading_of, cards_of, entries_of}
use Rattle.reader.specs.EditionSteps.{FullCards}
use Rattle.reader.specs.EditionSteps as whole
use Rattle.reader.proofs.StoreLaws.{length_flat}
use Rattle.reader.proofs.EditionLaws.{card_blocks}
use Rattle.reader.proofs.CardLength.{CardsWhole}
use Rattle.planning.specs.declared.editions.EditionsRefusal.{EditionsRefusal}
use Rattle.planning.specs.States.{BoardPlan, board_plans}
use Rattle.planning.specs.declared.editions.Both.{Both}
use Rattle.planning.specs.Plans.{Boxes, old_reading, new_reading, both_after, editions_of, plans_of, BoxesAfter, BothRead, Editions}
use Rattle.planning.specs.PlanSteps.{BoxesKept}
use Rattle.planning.proofs.BothLaws.{both_are_taken}
use Rattle.planning.proofs.AnswerLaws.{SameRoom, there, boards_are}
use Rattle.writer.specs.declared.finish.FinishRefusal.TheVariants.{Edition}
use Rattle.writer.specs.declared.finish.FinishRefusal.{FinishRefusal}
use Rattle.writer.specs.Held.{card_word}
use Rattle.writer.specs.Given.{tables_of, finished_boards, finished_text}
use Rattle.writer.specs.GivenCards.{given_cards, marked, given_cleared, changed_all, given_box, tabled_page, BoardsEnded}
use Rattle.writer.specs.Finishings.{finishing_of, IsFinished}
use Rattle.writer.proofs.WriteLaws.{no_answer}
use Rattle.writer.proofs.HeldBoards.{Holds, taken_holds}
use Rattle.writer.proofs.ChangedCards.{marked_long, changed_flat, changed_whole}
use Rattle.writer.proofs.GiveCells.{part_here_lem}
use Rattle.writer.proofs.GivenBoards.{joined, kind_of, cells_of_lem, CardsFit, TableGiven, AllGiven, no_board_lem, and_board, boards_given}
use Rattle.writer.proofs.FinishedPages.{OtherTables, PageWith, TablesCount, FinishedFew}

-- ---- one card

module _ {x : List ℕ} {t : TableCard} {g : List ℕ} (b : TableGiven x t g) where
  front_18 : length (take 18 x) ≡ 18
  front_18 = length-take-le 18 x (omega (arith, b.long))

  marked_64 : length (marked g) ≡ 64
  marked_64 = marked_long g b.given_long

  -- Its words before and behind the table are those that were read.
  low_word : (i : ℕ) → i < 18 → get_or (marked g) i 0 ≡ get_or x i 0
  low_word i h =
      ap (λ (l : List ℕ). get_or l i 0) b.is
      ∙ get_or-append (take 18 x) (t.cells ++ (t.kind ∷ drop 39 x)) 0 i (omega (arith, front_18))
      ∙ get_or-take 18 x i 0 h

  high_word : (i : ℕ) → get_or (marked g) (39 + i) 0 ≡ get_or x (39 + i) 0
  high_word i =
      let f = take 18 x ++ (t.cells ++ (t.kind ∷ [])) in
      let lf : length f ≡ 39 =
      length-append (take 18 x) (t.cells ++ (t.kind ∷ [])) ∙ rw (length-append t.cells (t.kind ∷ []), front_18, b.twenty) in
      let ends : f ++ drop 39 x ≡ joined (take 18 x) t.cells t.kind (drop 39 x) =
      append_assoc (take 18 x) (t.cells ++ (t.kind ∷ [])) (drop 39 x)
      ∙ ap (λ (l : List ℕ). take 18 x ++ l) (append_assoc t.cells (t.kind ∷ []) (drop 39 x)) in
      let e : length f + i ≡ 39 + i = ap (λ (n : ℕ). n + i) lf in
      ap (λ (l : List ℕ). get_or l (39 + i) 0) (b.is ∙ sym ends)
      ∙ ap (λ (n : ℕ). get_or (f ++ drop 39 x) n 0) (sym e)
      ∙ get_or-append-add f (drop 39 x) i 0
      ∙ get_or-drop 39 x i 0

  -- Its table, words standing behind it.
  behind : (r : List ℕ) → marked g ++ r ≡ joined (take 18 x) t.cells t.kind (drop 39 x ++ r)
  behind r =
      ap (λ (l : List ℕ). l ++ r) b.is
      ∙ append_assoc (take 18 x) (t.cells ++ (t.kind ∷ drop 39 x)) r
      ∙ ap (λ (l : List ℕ). take 18 x ++ l) (append_assoc t.cells (t.kind ∷ drop 39 x) r)

  first_kind : (r : List ℕ) → get_or (marked g ++ r) 38 0 ≡ t.kind
  first_kind r =
      ap (λ (l : List ℕ). get_or l 38 0) (behind r)
      ∙ kind_of (take 18 x) t.cells t.kind (drop 39 x ++ r) front_18 b.twenty

  first_cells : (r : List ℕ) → take 20 (drop 18 (marked g ++ r)) ≡ t.cells
  first_cells r =
      ap (λ (l : List ℕ). take 20 (drop 18 l)) (behind r)
      ∙ cells_of_lem (take 18 x) t.cells t.kind (drop 39 x ++ r) front_18 b.twenty

-- ---- cards in a row

module _ (y ys r : List ℕ) (l : length y ≡ 64) where
  word_first : (i : ℕ) → i < 64 → get_or ((y ++ ys) ++ r) (64 * 0 + i) 0 ≡ get_or y i 0
  word_first i h =
      let z : 64 * 0 + i ≡ i = omega arith in
      ap (λ (n : ℕ). get_or ((y ++ ys) ++ r) n 0) z
      ∙ ap (λ (s : List ℕ). get_or s i 0) (append_assoc y ys r)
      ∙ get_or-append y (ys ++ r) 0 i (omega arith)

  word_next : (k i : ℕ) → get_or ((y ++ ys) ++ r) (64 * suc k + i) 0 ≡ get_or (ys ++ r) (64 * k + i) 0
  word_next k i =
      let z : 64 * suc k + i ≡ length y + (64 * k + i) = omega arith in
      ap (λ (n : ℕ). get_or ((y ++ ys) ++ r) n 0) z
      ∙ ap (λ (s : List ℕ). get_or s (length y + (64 * k + i)) 0) (append_assoc y ys r)
      ∙ get_or-append-add y (ys ++ r) (64 * k + i) 0

  part_next : (k i : ℕ) → drop (64 * suc k + i) ((y ++ ys) ++ r) ≡ drop (64 * k + i) (ys ++ r)
  part_next k i =
      let z : 64 * suc k + i ≡ length y + (64 * k + i) = omega arith in
      ap (λ (n : ℕ). drop n ((y ++ ys) ++ r)) z
      ∙ ap (drop (length y + (64 * k + i))) (append_assoc y ys r)
      ∙ drop-append-add y (ys ++ r) (64 * k + i)

-- A word that every card keeps.
row_word : (i : ℕ) → i < 64 → ((x : List ℕ) (t : TableCard) (g : List ℕ) → TableGiven x t g → get_or (marked g) i 0 ≡ get_or x i 0)
    → {xs : List (List ℕ)} {ts : List TableCard} {gs : List (List ℕ)} → AllGiven xs ts gs
    → (r : List ℕ) (k : ℕ) → get_or (flat (map marked gs) ++ r) (64 * k + i) 0 ≡ get_or (flat xs ++ r) (64 * k + i) 0
row_word i h e no_board_lem r k = refl
row_word i h e (and_board {x} {t} {g} {xs} {ts} {gs} b bs) r zero =
    word_first (marked g) (flat (map marked gs)) r (marked_64 b) i h ∙ e x t g b ∙ sym (word_first x (flat xs) r b.long i h)
row_word i h e (and_board {x} {t} {g} {xs} {ts} {gs} b bs) r (suc k) =
    word_next (marked g) (flat (map marked gs)) r (marked_64 b) k i ∙ row_word i h e bs r k ∙ sym (word_next x (flat xs) r b.long k i)

-- The table of each.
row_table : {xs : List (List ℕ)} {ts : List TableCard} {gs : List (List ℕ)} → AllGiven xs ts gs → (r : List ℕ) (k : ℕ) → k < length ts
    → record {
      kind = get_or (flat (map marked gs) ++ r) (64 * k + 38) 0;
      cells = take 20 (drop (64 * k + 18) (flat (map marked gs) ++ r));
    } ≡ get_or ts k (record { kind = 0; cells = [] })
row_table no_board_lem r k h = absurd (omega arith)
row_table (and_board {x} {t} {g} {xs} {ts} {gs} b bs) r zero h =
    let y = marked g in
    let ys = flat (map marked gs) in
    let kd : get_or ((y ++ ys) ++ r) (64 * 0 + 38) 0 ≡ t.kind =
    ap (λ (s : List ℕ). get_or s 38 0) (append_assoc y ys r) ∙ first_kind b (ys ++ r) in
    let cs : take 20 (drop (64 * 0 + 18) ((y ++ ys) ++ r)) ≡ t.cells =
    ap (λ (s : List ℕ). take 20 (drop 18 s)) (append_assoc y ys r) ∙ first_cells b (ys ++ r) in
    rw (kd, cs)
row_table (and_board {x} {t} {g} {xs} {ts} {gs} b bs) r (suc k) h =
    let y = marked g in
    let ys = flat (map marked gs) in
    rw (word_next y ys r (marked_64 b) k 38, part_next y ys r (marked_64 b) k 18) (row_table bs r k (omega arith))

-- ---- all boards

given_whole : {xs : List (List ℕ)} {ts : List TableCard} {gs : List (List ℕ)} → AllGiven xs ts gs → FullCards gs
given_whole no_board_lem = whole.none
given_whole (and_board b bs) = whole.one b.given_long (given_whole bs)

given_count : {xs : List (List ℕ)} {ts : List TableCard} {gs : List (List ℕ)} → AllGiven xs ts gs → length gs ≡ length xs
given_count no_board_lem = refl
given_count (and_board b bs) = ap suc (given_count bs)

table_count : {xs : List (List ℕ)} {ts : List TableCard} {gs : List (List ℕ)} → AllGiven xs ts gs → length ts ≡ length xs
table_count no_board_lem = refl
table_count (and_board b bs) = ap suc (table_count bs)

all_back : {xs : List (List ℕ)} {ts : List TableCard} {gs : List (List ℕ)} → AllGiven xs ts gs → map given_cleared (map marked gs) ≡ xs
all_back no_board_lem = refl
all_back (and_board b bs) = rw (b.back, all_back bs)

module _ {xs : List (List ℕ)} {ts : List TableCard} {gs : List (List ℕ)} (a : AllGiven xs ts gs) (w : FullCards xs) (r : List ℕ) where
  abbrev tabled : List ℕ
  tabled = flat (map marked gs) ++ r

  tabled_whole : FullCards (map marked gs)
  tabled_whole = changed_whole marked marked_long (given_whole a)

  tabled_count : length (map marked gs) ≡ length xs
  tabled_count = length-map gs marked ∙ given_count a

  tabled_flat : length (flat (map marked gs)) ≡ 64 * length xs
  tabled_flat = length_flat (card_blocks tabled_whole) ∙ ap (λ (n : ℕ). 64 * n) tabled_count

  tabled_long : length tabled ≡ length (flat xs ++ r)
  tabled_long = length-append (flat (map marked gs)) r ∙ rw (tabled_flat, ← length_flat (card_blocks w)) (sym (length-append (flat xs) r))

  word_same : (i : ℕ) → i < 64 → ((x : List ℕ) (t : TableCard) (g : List ℕ) → TableGiven x t g → get_or (marked g) i 0 ≡ get_or x i 0)
      → (k : ℕ) → card_word tabled k i ≡ card_word (flat xs ++ r) k i
  unfolding card_word
  word_same i h e k = rw (tabled_long, row_word i h e a r k)

  -- THEOREM. Marked, the cards have the tables given, and are otherwise what was read.
  pub GivenTables : OtherTables (flat xs ++ r) tabled ts
  unfolding card_word
  GivenTables =
      record {
        low_words = λ k i h l. word_same i (omega arith) (λ x t g b. low_word b i l) k;
        high_words = λ k i h l u.
            let z : 39 + (i - 39) ≡ i = omega arith in
            word_same i u (λ x t g b. rw z at (high_word b (i - 39))) k;
        tables = λ k h.
            let room : 64 * k + 64 ≤ length tabled = omega (arith, length-append (flat (map marked gs)) r, tabled_flat, table_count a) in
            let q : ltb k (length tabled / 64) ≡ true = lt-ltb k (length tabled / 64) (omega arith) in
            rw (part_here_lem tabled k room, q) (row_table a r k h);
      }

-- ---- an edition that was read

read_holds : {c : Conventions} {text : List ℕ} (cards entries : List ℕ) {cards' entries' : List ℕ} (q : Result Counts ReadRefusal)
    → q ≡ reading_of c text (length cards) (length entries) → is_ok q ≡ true
    → cards' ≡ padded (length cards) (flat (cards_of c text)) → entries' ≡ padded (length entries) (flat (entries_of c text))
    → Holds c text cards' entries'
read_holds cards entries (Ok n) a t ec ee =
    taken_holds {cards = cards} {entries = entries} (record { answer = a; cards_after = ec; entries_after = ee })
read_holds cards entries (Err f) a t ec ee = clash t

module _ {c : Conventions} {old new : List ℕ} {boxes boxes₁ : Boxes} {q : Editions} {both : Both}
    (b : BothRead c old new boxes boxes₁ q) (e : q ≡ Ok both) where
  filled : BoxesAfter c true old new boxes boxes₁
  filled = rw (ap is_ok e) at b.boxes_left

  new_holds : Holds c new boxes₁.new_cards boxes₁.new_entries
  unfolding editions_of
  new_holds =
      let t : is_ok (both_after (old_reading c old boxes) (new_reading c new boxes)) ≡ true = sym (ap is_ok b.answer) ∙ ap is_ok e in
      let taken = (both_are_taken (old_reading c old boxes) (new_reading c new boxes) t).1 in
      read_holds boxes.new_cards boxes.new_entries (new_reading c new boxes) refl taken filled.new_cards filled.new_entries

  module _ (answers : List ℕ) where
    abbrev boards : List BoardPlan
    boards = plans_of c old new

    abbrev given_all : List (List ℕ)
    given_all = given_cards (cards_of c old) (cards_of c new) boards answers

    abbrev rest : List ℕ
    rest = replicate (length boxes.new_cards - length (flat (cards_of c new))) 0

    all_given_lem : AllGiven (cards_of c new) (tables_of c old new answers) given_all
    unfolding tables_of board_plans
    all_given_lem = boards_given (cards_of c old) (cards_of c new) (CardsFit c old) (CardsFit c new) boards answers 1 [] (CardsFit c new)

    box_read : boxes₁.new_cards ≡ flat (cards_of c new) ++ rest
    box_read = filled.new_cards

    count_is : both.new.boards ≡ length (cards_of c new)
    count_is = (there b e).1.count

    box_given : given_box both.old.boards both.new.boards boxes₁ answers ≡ flat given_all ++ rest
    box_given =
        let l : length (flat (cards_of c new)) ≡ 64 * both.new.boards =
        length_flat (card_blocks (CardsWhole c new)) ∙ ap (λ (k : ℕ). 64 * k) (sym count_is) in
        let d : drop (64 * both.new.boards) boxes₁.new_cards ≡ rest = ap (drop (64 * both.new.boards)) box_read ∙ drop_at (flat (cards_of c new)) rest (64 * both.new.boards) l in
        rw (d, (there b e).0.cards, (there b e).1.cards)

    box_marked : changed_all marked both.new.boards (given_box both.old.boards both.new.boards boxes₁ answers) ≡ flat (map marked given_all) ++ rest
    box_marked =
        let l : both.new.boards ≡ length given_all = count_is ∙ sym (given_count all_given_lem) in
        ap (changed_all marked both.new.boards) box_given
        ∙ ap (λ (k : ℕ). changed_all marked k (flat given_all ++ rest)) l
        ∙ changed_flat marked (given_whole all_given_lem) rest

    -- The given tables taken away, the cards are what was read.
    box_back : changed_all given_cleared both.new.boards (changed_all marked both.new.boards (given_box both.old.boards both.new.boards boxes₁ answers)) ≡ boxes₁.new_cards
    box_back =
        let ys = map marked given_all in
        let l : both.new.boards ≡ length ys = count_is ∙ sym (tabled_count all_given_lem (CardsWhole c new) rest) in
        ap (changed_all given_cleared both.new.boards) box_marked
        ∙ ap (λ (k : ℕ). changed_all given_cleared k (flat ys ++ rest)) l
        ∙ changed_flat given_cleared (tabled_whole all_given_lem (CardsWhole c new) rest) rest
        ∙ ap (λ (xs : List (List ℕ)). flat xs ++ rest) (all_back all_given_lem)
        ∙ sym box_read

    -- The page is that of the finished edition.
    page_is : tabled_page c new both.old.boards both.new.boards boxes₁ answers ≡ finished_text c old new answers
    unfolding finished_text finished_boards
    page_is =
        let ts = tables_of c old new answers in
        let other : OtherTables boxes₁.new_cards (flat (map marked given_all) ++ rest) ts =
        rw box_read (GivenTables all_given_lem (CardsWhole c new) rest) in
        let tabled = flat (map marked given_all) ++ rest in
        let count = TablesCount c old new answers in
        rw (box_marked, count_is) (PageWith c new boxes₁.new_cards tabled boxes₁.new_entries ts new_holds other count)

  -- Both editions were read, and the new one finished.
  module _ {answers page page' : List ℕ} {r : Result ℕ FinishRefusal} {boxes' : Boxes}
      (d : BoardsEnded c new both.old.boards both.new.boards boxes₁ answers page r boxes' page') where
    few : length (tabled_page c new both.old.boards both.new.boards boxes₁ answers) ≤ 549755813888
    few = rw (page_is answers) (omega (arith, FinishedFew c old new answers new_holds.short))

    pub finish_told : r ≡ finishing_of c old new boxes answers (length page)
    unfolding finishing_of
    finish_told =
        let a : editions_of c old new boxes ≡ Ok both = sym b.answer ∙ e in
        d.answer few ∙ rw (a, page_is answers, boards_are b e)

    pub finish_done : is_ok r ≡ true → IsFinished c old new boxes answers page r boxes' page'
    finish_done h =
        record {
          answer = finish_told;
          boxes_left = rw (h, d.boxes_left h, box_back answers) filled;
          page_left = d.page_left few h ∙ rw (page_is answers, h);
        }

-- An edition was refused.
pub finish_refused : {c : Conventions} {old new : List ℕ} {boxes boxes' : Boxes} {q : Editions} {f : EditionsRefusal} {g : FinishRefusal}
    (answers : List ℕ) (m : ℕ) → BothRead c old new boxes boxes' q → q ≡ Err f → g ≡ Edition f → Err g ≡ finishing_of c old new boxes answers m
unfolding finishing_of
finish_refused {c} {old} {new} {boxes} {f = f} answers m b e h =
    let a : editions_of c old new boxes ≡ Err f = sym b.answer ∙ e in
    rw (a, h)

-- All that was lent is set to 0 after a refusal.
pub finish_zero : {c : Conventions} {old new : List ℕ} {boxes boxes₁ boxes₂ : Boxes} {answers page : List ℕ} (page₁ : List ℕ) {page₂ : List ℕ} {r : Result ℕ FinishRefusal}
    → r ≡ finishing_of c old new boxes answers (length page) → is_err r ≡ true → SameRoom boxes boxes₁ → BoxesKept false boxes₁ boxes₂
    → length page₁ ≡ length page → page₂ ≡ zeros page₁ → IsFinished c old new boxes answers page r boxes₂ page₂
finish_zero page₁ {r = r} a err s z kp y =
    let h = no_answer r err in
    record {
      answer = a;
      boxes_left = rw h (record {
        old_cards = z.old_cards ∙ rw s.old_cards;
        old_entries = z.old_entries ∙ rw s.old_entries;
        new_cards = z.new_cards ∙ rw s.new_cards;
        new_entries = z.new_entries ∙ rw s.new_entries;
      });
      page_left = y ∙ rw (h, kp);
    }
