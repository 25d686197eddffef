-- The pass over the boards of the new edition: what stands on the cards once the first of them have got their cells.
use Prim.Native.Nat.{ℕ, zero, suc, ◌+◌, ◌*◌, ◌-◌, ◌≤◌, ◌<◌}
use mathlib.Core.Path.{◌≡◌, refl, sym, ap, ◌∙◌}
use mathlib.Core.List.{List, [], ◌∷◌, ◌++◌}
use native.Mathlib.Omega.{arith}
use lib.Dec.{ltb}
use lib.ListN.{length, take, drop, length-map, take-append-drop, get_or-append}
use lib.Seq.{sets, length-sets, take_at, take_all, take-suc, get_or-append-add, get_or-drop, length-take-le}
use borrow.Author.Tests.{ltb-true, ltb-false}
use Rattle.tables.proofs.Laws.{by_cases}
use Rattle.reader.specs.Store.{flat}
use Rattle.reader.specs.EditionSteps.{FullCards}
use Rattle.reader.proofs.StoreLaws.{length_flat}
use Rattle.reader.proofs.EditionLaws.{card_blocks}
use Rattle.planning.specs.declared.state.BoardState.{BoardState}
use Rattle.planning.specs.declared.state.BoardState.TheVariants.{Blank, Own, Old, Near, Twin, Solve}
use Rattle.planning.specs.Cards.{card_here}
use Rattle.planning.specs.PlanSteps.{cards_in, tally}
use Rattle.planning.specs.States.{BoardPlan, board_plans, state_of}
use Rattle.planning.specs.Slips.{count_of, totals_of, card_from, card_at}
use Rattle.planning.proofs.BoxLaws.{cards_count, card_nth, cards_take, cards_drop}
use Rattle.planning.proofs.BoardLaws.{plans_count}
use Rattle.planning.proofs.CardWords.{here_length}
use Rattle.planning.proofs.StateLaws.{Reaches, state_reach}
use Rattle.planning.proofs.PlanLaws.{count_few}
use Rattle.planning.proofs.FoundLaws.{take_card}
use Rattle.writer.specs.Given.{slip_index, answer_at, cells_of, table_for, table_of}
use Rattle.writer.specs.GivenCards.{with_cells, given_card, given_cards, cells_at, source_cells, Gave}
use Rattle.writer.proofs.StateFacts.{Likes, likes_self, likes_append, likes_take, likes_nth, state_likes, state_here, near_own, twin_solve, board_of, map_plans, count_more}
use Rattle.writer.proofs.GiveCells.{given_length, given_cells, given_alike, cells_length, part_cells, whole_take, whole_nth, flat_more, cards_on, cells_put, answer_length}

-- ---- the cells that boards get

-- Each card, by its number, has 64 words.
abbrev pub Sized : List (List ℕ) → Type 0
Sized xs = (i : ℕ) → i < length xs → length (card_from xs i) ≡ 64

pub cards_sized : (n : ℕ) (box : List ℕ) → 64 * n ≤ length box → Sized (cards_in n box)
cards_sized n box h i l =
    let m : i < n = rw (cards_count n box) at l in
    rw (card_nth n i box m) (here_length i box (omega arith))

-- The card at a position, from 1.
at_sized : (xs : List (List ℕ)) (k : ℕ) → Sized xs → 0 < k → k ≤ length xs → length (card_at xs k) ≡ 64
at_sized xs zero s h g = absurd (omega arith)
at_sized xs (suc k) s h g = s k (omega arith)

-- A board's cells are 20 words.
table_cells : (os ns : List (List ℕ)) (js : List BoardPlan) (answers : List ℕ) (p : ℕ) (card : List ℕ) (s : BoardState) → Sized os → Sized ns
    → length card ≡ 64
    → Reaches (length os) (length ns) s → length (table_for os ns js answers p card s).cells ≡ 20
table_cells os ns js answers p card Blank so sn e r = cells_length card e
table_cells os ns js answers p card Own so sn e r = cells_length card e
table_cells os ns js answers p card (Old k) so sn e r = cells_length (card_at os k) (at_sized os k so r.0 r.1)
table_cells os ns js answers p card (Near k) so sn e r = cells_length (card_at ns k) (at_sized ns k sn r.0 r.1)
table_cells os ns js answers p card (Twin k) so sn e r = answer_length answers (slip_index js k)
table_cells os ns js answers p card Solve so sn e r = answer_length answers (slip_index js p)

-- ---- the cards of an edition, each with its cells

-- The cards, given the cards of both editions.
abbrev pub all_given : List (List ℕ) → List (List ℕ) → List ℕ → List (List ℕ)
all_given os ns answers = given_cards os ns (board_plans os ns) answers

-- The cells that the board number i gets in a state; those that it gets in its own.
abbrev table_here : List (List ℕ) → List (List ℕ) → List ℕ → ℕ → BoardState → List ℕ
table_here os ns answers i s = (table_for os ns (board_plans os ns) answers (i + 1) (card_from ns i) s).cells

unfoldable pub cells_for : List (List ℕ) → List (List ℕ) → List ℕ → ℕ → List ℕ
cells_for os ns answers i = (table_of os ns (board_plans os ns) answers (board_of os ns i)).cells

module _ (os ns : List (List ℕ)) (answers : List ℕ) where
  -- The card number i.
  pub given_nth : (i : ℕ) → i < length ns → card_from (all_given os ns answers) i ≡ with_cells (cells_for os ns answers i) (card_from ns i)
  unfolding cells_for given_card
  given_nth i h = map_plans (given_card os ns (board_plans os ns) answers) os ns i h

  plans_length : length (board_plans os ns) ≡ length ns
  unfolding board_plans
  plans_length = plans_count os ns 1 [] ns

  -- As many as boards.
  pub given_count : length (all_given os ns answers) ≡ length ns
  given_count = length-map (board_plans os ns) (given_card os ns (board_plans os ns) answers) ∙ plans_length

  -- An own board keeps its cells; a solve board gets its answer.
  own_cells : (i : ℕ) → state_here os ns i ≡ Own → cells_for os ns answers i ≡ cells_of (card_from ns i)
  unfolding cells_for table_of
  own_cells i e = ap (table_here os ns answers i) e

  solve_cells : (i : ℕ) → state_here os ns i ≡ Solve → cells_for os ns answers i ≡ answer_at answers (count_of 5 (take i (board_plans os ns)))
  unfolding cells_for table_of
  solve_cells i e =
      let z : i + 1 - 1 ≡ i = omega arith in
      ap (table_here os ns answers i) e
      ∙ ap (λ (n : ℕ). answer_at answers (count_of 5 (take n (board_plans os ns)))) z

  module _ (so : Sized os) (sn : Sized ns) where
    -- Its cells are 20 words.
    pub cells_few : (i : ℕ) → i < length ns → length (cells_for os ns answers i) ≡ 20
    unfolding cells_for table_of
    cells_few i h =
        table_cells os ns (board_plans os ns) answers (i + 1) (card_from ns i) (state_here os ns i) so sn (sn i h)
        (state_reach os ns (take i ns) (card_from ns i) (omega (arith, length-take-le i ns (omega arith))))

    -- Each has 64 words.
    pub given_whole : FullCards (all_given os ns answers)
    given_whole =
        whole_nth (all_given os ns answers)
        (λ i l.
        let h : i < length ns = rw given_count at l in
        rw (given_nth i h) (given_length (cells_for os ns answers i) (card_from ns i) (cells_few i h) (sn i h)))

    -- No state tells them from the cards.
    pub given_likes : Likes (all_given os ns answers) ns
    given_likes =
        likes_nth (all_given os ns answers) ns given_count
        (λ i h. rw (given_nth i h) (given_alike (cells_for os ns answers i) (card_from ns i) (cells_few i h) (sn i h)))

    -- The first k cards with their cells, the others as they were.
    mixed_likes : (k : ℕ) → Likes (take k (all_given os ns answers) ++ drop k ns) ns
    mixed_likes k = rw (take-append-drop k ns) at (likes_append (likes_take k given_likes) (likes_self (drop k ns)))

-- They are those of its table.
source_is : (os ns : List (List ℕ)) (answers : List ℕ) (i : ℕ) (s : BoardState) → state_here os ns i ≡ s
    → table_here os ns answers i s ≡ cells_for os ns answers i
unfolding cells_for table_of
source_is os ns answers i s e = ap (table_here os ns answers i) (sym e)

one_more : (k : ℕ) → k + 1 ≡ suc k
one_more k = omega arith

-- ---- the loop, at index k of n cards

-- The first k boards have their cells, the words behind their cards are as they were, and slip of them are to be solved.
pub record Giving (os : List (List ℕ)) (n : ℕ) (box₀ answers : List ℕ) (k slip : ℕ) (box : List ℕ) : Type 0 where
  pub inside : k ≤ n
  pub slip_is : slip ≡ count_of 5 (take k (board_plans os (cards_in n box₀)))
  pub box_is : box ≡ flat (take k (all_given os (cards_in n box₀) answers)) ++ drop (64 * k) box₀
  pub box_length : length box ≡ length box₀

pub giving_first : (os : List (List ℕ)) (n : ℕ) (box answers : List ℕ) → Giving os n box answers 0 0 box
giving_first os n box answers = record { inside = omega arith; slip_is = refl; box_is = refl; box_length = refl }

module _ (m : ℕ) (old : List ℕ) (n : ℕ) (box₀ answers : List ℕ) (ho : 64 * m ≤ length old) (hn : 64 * n ≤ length box₀) where
  module _ {k slip : ℕ} {box : List ℕ} (g : Giving (cards_in m old) n box₀ answers k slip box) where
    front_count : length (take k (all_given (cards_in m old) (cards_in n box₀) answers)) ≡ k
    front_count =
        length-take-le k (all_given (cards_in m old) (cards_in n box₀) answers)
        (omega (arith, given_count (cards_in m old) (cards_in n box₀) answers, cards_count n box₀, g.inside))

    -- The cards as they are: the first k with their cells, the others as they were.
    cards_mixed : cards_in n box ≡ take k (all_given (cards_in m old) (cards_in n box₀) answers) ++ drop k (cards_in n box₀)
    cards_mixed =
        let os = cards_in m old in
        let ns = cards_in n box₀ in
        let front = take k (all_given os ns answers) in
        let w = whole_take k (given_whole os ns answers (cards_sized m old ho) (cards_sized n box₀ hn)) in
        let z : n ≡ length front + (n - k) = omega (arith, front_count, g.inside) in
        ap (cards_in n) g.box_is
        ∙ ap (λ (i : ℕ). cards_in i (flat front ++ drop (64 * k) box₀)) z
        ∙ cards_on (n - k) (drop (64 * k) box₀) w
        ∙ ap (λ (l : List (List ℕ)). front ++ l) (sym (cards_drop k n box₀ g.inside))

    here_before : (i : ℕ) → i < k
        → card_here i box ≡ with_cells (cells_for (cards_in m old) (cards_in n box₀) answers i) (card_from (cards_in n box₀) i)
    here_before i h =
        let os = cards_in m old in
        let ns = cards_in n box₀ in
        let gs = all_given os ns answers in
        let l : i < n = omega (arith, g.inside) in
        sym (card_nth n i box l)
        ∙ ap (λ (x : List (List ℕ)). card_from x i) cards_mixed
        ∙ get_or-append (take k gs) (drop k ns) [] i (omega (arith, front_count))
        ∙ take_card k i gs h
        ∙ given_nth os ns answers i (omega (arith, cards_count n box₀))

    here_after : (i : ℕ) → k ≤ i → i < n → card_here i box ≡ card_from (cards_in n box₀) i
    here_after i h l =
        let os = cards_in m old in
        let ns = cards_in n box₀ in
        let front = take k (all_given os ns answers) in
        let z : i ≡ length front + (i - k) = omega (arith, front_count) in
        let y : k + (i - k) ≡ i = omega arith in
        sym (card_nth n i box l)
        ∙ ap (λ (x : List (List ℕ)). card_from x i) cards_mixed
        ∙ ap (λ (j : ℕ). card_from (front ++ drop k ns) j) z
        ∙ get_or-append-add front (drop k ns) (i - k) []
        ∙ get_or-drop k ns (i - k) []
        ∙ ap (card_from ns) y

    cells_before : (i : ℕ) → i < k → cells_at box i ≡ cells_for (cards_in m old) (cards_in n box₀) answers i
    cells_before i h =
        let os = cards_in m old in
        let ns = cards_in n box₀ in
        let sn = cards_sized n box₀ hn in
        let l : i < length ns = omega (arith, g.inside, cards_count n box₀) in
        part_cells box i (omega (arith, g.box_length, g.inside))
        ∙ ap cells_of (here_before i h)
        ∙ given_cells (cells_for os ns answers i) (card_from ns i) (cells_few os ns answers (cards_sized m old ho) sn i l) (sn i l)

    cells_after_lem : (i : ℕ) → k ≤ i → i < n → cells_at box i ≡ cells_of (card_from (cards_in n box₀) i)
    cells_after_lem i h l = part_cells box i (omega (arith, g.box_length)) ∙ ap cells_of (here_after i h l)

    -- The state of the next board is found on the cards as they are.
    giving_state : k < n
        → state_of (cards_in m old) (cards_in n box) (cards_in k box) (card_here k box) ≡ state_here (cards_in m old) (cards_in n box₀) k
    giving_state h =
        let os = cards_in m old in
        let ns = cards_in n box₀ in
        let gs = all_given os ns answers in
        let so = cards_sized m old ho in
        let sn = cards_sized n box₀ hn in
        let before : cards_in k box ≡ take k gs =
        cards_take k n box g.inside ∙ ap (take k) cards_mixed ∙ take_at (take k gs) (drop k ns) k front_count in
        ap (λ (x : List (List ℕ)). state_of os x (cards_in k box) (card_here k box)) cards_mixed
        ∙ ap (λ (x : List (List ℕ)). state_of os (take k gs ++ drop k ns) x (card_here k box)) before
        ∙ ap (state_of os (take k gs ++ drop k ns) (take k gs)) (here_after k (omega arith) h)
        ∙ state_likes os (card_from ns k) (mixed_likes os ns answers so sn k) (likes_take k (given_likes os ns answers so sn))

    here_reach : k < n → Reaches (length (cards_in m old)) (length (cards_in n box₀)) (state_here (cards_in m old) (cards_in n box₀) k)
    here_reach h =
        let ns = cards_in n box₀ in
        let c = cards_count n box₀ in
        state_reach (cards_in m old) ns (take k ns) (card_from ns k) (omega (arith, length-take-le k ns (omega arith)))

    old_cells : (j : ℕ) → 0 < j → j ≤ m → cells_at old (j - 1) ≡ cells_of (card_at (cards_in m old) j)
    old_cells zero h l = absurd (omega arith)
    old_cells (suc j) h l =
        let z : suc j - 1 ≡ j = omega arith in
        rw z (part_cells old j (omega arith) ∙ ap cells_of (sym (card_nth m j old (omega arith))))

    near_cells : (j : ℕ) → j < n → state_here (cards_in m old) (cards_in n box₀) j ≡ Own
        → cells_at box j ≡ cells_of (card_from (cards_in n box₀) j)
    near_cells j h e =
        by_cases (ltb j k)
        (λ t. cells_before j (ltb-true j k t) ∙ own_cells (cards_in m old) (cards_in n box₀) answers j e)
        (λ t. cells_after_lem j (omega (arith, ltb-false j k t)) h)

    -- The cells that it gets are found there too.
    giving_source : k < n → (s : BoardState) → state_here (cards_in m old) (cards_in n box₀) k ≡ s
        → source_cells old box k s answers slip
        ≡ table_here (cards_in m old) (cards_in n box₀) answers k s
    giving_source h Blank e = cells_after_lem k (omega arith) h
    giving_source h Own e = cells_after_lem k (omega arith) h
    giving_source h (Old j) e =
        let r : Reaches (length (cards_in m old)) (length (cards_in n box₀)) (Old j) = rw e at (here_reach h) in
        old_cells j r.0 (rw (cards_count m old) at r.1)
    giving_source h (Near zero) e = absurd (omega (arith, (rw e at (here_reach h)).0))
    giving_source h (Near (suc j)) e =
        let z : suc j - 1 ≡ j = omega arith in
        let o = near_own (cards_in m old) (cards_in n box₀) (take k (cards_in n box₀)) (card_from (cards_in n box₀) k) j e in
        rw z (near_cells j (rw (cards_count n box₀) at o.0) o.1)
    giving_source h (Twin zero) e = absurd (omega (arith, (rw e at (here_reach h)).0))
    giving_source h (Twin (suc j)) e =
        let z : suc j - 1 ≡ j = omega arith in
        let o = twin_solve (cards_in m old) (cards_in n box₀) k (rw (cards_count n box₀) g.inside) (card_from (cards_in n box₀) k) j e in
        rw z (cells_before j o.0 ∙ solve_cells (cards_in m old) (cards_in n box₀) answers j o.1)
    giving_source h Solve e =
        let z : k + 1 - 1 ≡ k = omega arith in
        rw (z, g.slip_is)

    -- One board more has its cells.
    pub giving_next : {s : BoardState} {cells box' : List ℕ} {slip' : ℕ} → k < n
        → s ≡ state_of (cards_in m old) (cards_in n box) (cards_in k box) (card_here k box)
        → cells ≡ source_cells old box k s answers slip → box' ≡ sets box (64 * k + 18) cells → slip' ≡ tally 5 s slip
        → Giving (cards_in m old) n box₀ answers (k + 1) slip' box'
    giving_next {s} {cells} {box'} {slip'} h es ec eb ei =
        let os = cards_in m old in
        let ns = cards_in n box₀ in
        let js = board_plans os ns in
        let gs = all_given os ns answers in
        let so = cards_sized m old ho in
        let sn = cards_sized n box₀ hn in
        let l : k < length ns = rw (cards_count n box₀) h in
        let here : state_here os ns k ≡ s = sym (es ∙ giving_state h) in
        let is : cells ≡ cells_for os ns answers k = ec ∙ giving_source h s here ∙ source_is os ns answers k s here in
        let few : length cells ≡ 20 = ap length is ∙ cells_few os ns answers so sn k l in
        let front : length (flat (take k gs)) ≡ 64 * k =
        length_flat (card_blocks (whole_take k (given_whole os ns answers so sn))) ∙ ap (λ (i : ℕ). 64 * i) front_count in
        let card : with_cells cells (card_here k box₀) ≡ card_from gs k =
        ap (λ (x : List ℕ). with_cells x (card_here k box₀)) is ∙ ap (with_cells (cells_for os ns answers k)) (sym (card_nth n k box₀ h))
        ∙ sym (given_nth os ns answers k l) in
        let next : take (k + 1) gs ≡ take k gs ++ (card_from gs k ∷ []) =
        ap (λ (i : ℕ). take i gs) (one_more k) ∙ take-suc gs k [] (omega (arith, given_count os ns answers)) in
        let more : flat (take k gs) ++ card_from gs k ≡ flat (take (k + 1) gs) = sym (ap flat next ∙ flat_more (take k gs) (card_from gs k)) in
        record {
          inside = omega arith;
          slip_is = ei ∙ ap (tally 5 s) g.slip_is ∙ ap (λ (x : BoardState). tally 5 x (count_of 5 (take k js))) (sym here)
              ∙ sym (count_more 5 os ns k l);
          box_is =
              eb
              ∙ ap (λ (x : List ℕ). sets x (64 * k + 18) cells) g.box_is
              ∙ cells_put (flat (take k gs)) box₀ cells k front (omega arith) few
              ∙ ap (λ (x : List ℕ). flat (take k gs) ++ x ++ drop (64 * (k + 1)) box₀) card
              ∙ ap (λ (x : List ℕ). x ++ drop (64 * (k + 1)) box₀) more;
          box_length = ap length eb ∙ length-sets box (64 * k + 18) cells ∙ g.box_length;
        }

    -- No more boards are to be solved than there are.
    pub giving_few : slip ≤ n
    giving_few =
        let js = board_plans (cards_in m old) (cards_in n box₀) in
        let c : k ≤ length js = rw (plans_length (cards_in m old) (cards_in n box₀) answers, cards_count n box₀) g.inside in
        omega (arith, g.slip_is, count_few 5 (take k js), length-take-le k js c, g.inside)

    -- All have.
    pub giving_end : n ≤ k → Gave (cards_in m old) (cards_in n box₀) box₀ n answers slip box
    unfolding totals_of
    giving_end h =
        let os = cards_in m old in
        let ns = cards_in n box₀ in
        let js = board_plans os ns in
        let gs = all_given os ns answers in
        let z : k ≡ n = omega (arith, g.inside) in
        let c = cards_count n box₀ in
        let lj : length js ≤ k = omega (arith, plans_length os ns answers) in
        let lg : length gs ≤ k = omega (arith, given_count os ns answers) in
        record {
          solve_count = g.slip_is ∙ ap (count_of 5) (take_all k js lj);
          cards_after = g.box_is ∙ ap (λ (x : List (List ℕ)). flat x ++ drop (64 * k) box₀) (take_all k gs lg)
              ∙ ap (λ (i : ℕ). flat gs ++ drop (64 * i) box₀) z;
        }
