-- Laws of the cells on a card, and of cards in lent words.
use Prim.Native.Nat.{ℕ, zero, suc, ◌+◌, ◌*◌, ◌-◌, ◌/◌, ◌≤◌, ◌<◌}
use mathlib.Core.Path.{◌≡◌, refl, sym, ap, ◌∙◌}
use mathlib.Core.List.{List, [], ◌∷◌, ◌++◌, append_assoc, append-nil}
use native.Mathlib.Omega.{arith}
use lib.Dec.{ltb}
use lib.ListN.{length, take, drop, get_or, set, replicate, length-append, length-drop, take-append-drop, get_or-append}
use lib.Seq.{sets, sets-eq, take_at, drop_at, take-append-le, drop-append-le, take-append-add, drop-append-add, take-take, drop-drop, length-take-le, take_all, take-suc, take-suc-set, get_or-append-add, get_or-drop}
use borrow.Author.Tests.{lt-ltb, ltb-true, le-ltb}
use Rattle.tables.proofs.Laws.{step, by_cases}
use Rattle.reader.specs.Store.{flat}
use Rattle.reader.specs.EditionSteps.{FullCards, none, one}
use Rattle.planning.specs.Cards.{card_deal, is_whole, has_table, card_here}
use Rattle.planning.specs.PlanSteps.{cards_in}
use Rattle.planning.specs.Slips.{card_from}
use Rattle.planning.proofs.CardWords.{here_length}
use Rattle.writer.specs.Held.{card_word, card_part}
use Rattle.writer.specs.Given.{answer_at, cells_of}
use Rattle.writer.specs.GivenCards.{with_cells, cells_at}
use Rattle.writer.proofs.StateFacts.{Alike}

-- ---- a card with other cells

module _ (cells card : List ℕ) (e : length cells ≡ 20) (f : length card ≡ 64) where
  front_length : length (take 18 card) ≡ 18
  front_length = length-take-le 18 card (omega arith)

  pub given_length : length (with_cells cells card) ≡ 64
  unfolding with_cells
  given_length =
      let m = length-drop 38 card in
      let n = length-append cells (drop 38 card) in
      length-append (take 18 card) (cells ++ drop 38 card) ∙ omega (arith, front_length)

  -- Those are its cells.
  pub given_cells : cells_of (with_cells cells card) ≡ cells
  unfolding with_cells
  given_cells = ap (take 20) (drop_at (take 18 card) (cells ++ drop 38 card) 18 front_length) ∙ take_at cells (drop 38 card) 20 e

  given_front : (i : ℕ) → i < 18 → get_or (with_cells cells card) i 0 ≡ get_or card i 0
  unfolding with_cells
  given_front i h =
      get_or-append (take 18 card) (cells ++ drop 38 card) 0 i (rw front_length h)
      ∙ sym (get_or-append (take 18 card) (drop 18 card) 0 i (rw front_length h))
      ∙ ap (λ (l : List ℕ). get_or l i 0) (take-append-drop 18 card)

  given_back : get_or (with_cells cells card) 38 0 ≡ get_or card 38 0
  unfolding with_cells
  given_back =
      let z : 38 ≡ length (take 18 card) + (length cells + 0) = omega (arith, front_length) in
      ap (λ (n : ℕ). get_or (take 18 card ++ (cells ++ drop 38 card)) n 0) z
      ∙ get_or-append-add (take 18 card) (cells ++ drop 38 card) (length cells + 0) 0
      ∙ get_or-append-add cells (drop 38 card) 0 0
      ∙ get_or-drop 38 card 0 0

  given_deal : card_deal (with_cells cells card) ≡ card_deal card
  unfolding card_deal with_cells
  given_deal =
      let l : 10 ≤ length (take 18 card) = omega (arith, front_length) in
      let m : 8 ≤ length (drop 10 (take 18 card)) = rw (length-drop 10 (take 18 card), front_length) (omega arith) in
      let part : (q : List ℕ) → take 8 (drop 10 (take 18 card ++ q)) ≡ take 8 (drop 10 (take 18 card)) = λ q.
      ap (take 8) (drop-append-le 10 (take 18 card) q l) ∙ take-append-le 8 (drop 10 (take 18 card)) q m in
      part (cells ++ drop 38 card) ∙ sym (part (drop 18 card)) ∙ ap (λ (x : List ℕ). take 8 (drop 10 x)) (take-append-drop 18 card)

  -- No state tells it from the card.
  pub given_alike : Alike (with_cells cells card) card
  unfolding is_whole has_table
  given_alike =
      record {
        whole = rw (given_front 9 (omega arith), given_deal);
        table = rw given_back;
        deal = given_deal;
      }

-- The cells of a card are 20 words.
pub cells_length : (card : List ℕ) → length card ≡ 64 → length (cells_of card) ≡ 20
cells_length card e = length-take-le 20 (drop 18 card) (rw (length-drop 18 card) (omega arith))

-- ---- the words of a card in lent words

-- The n words from i on, where there is such a card and where there is none.
part_words : (cards : List ℕ) (k i n : ℕ) → k < length cards / 64 → 64 * k + i + n ≤ length cards
    → card_part cards k i n ≡ take n (drop (64 * k + i) cards)
unfolding card_word
part_words cards k i zero h g = refl
part_words cards k i (suc n) h g =
    let z : 64 * k + (i + 1) ≡ 64 * k + i + 1 = omega arith in
    let rest = part_words cards k (i + 1) n h (omega arith) in
    rw (lt-ltb k (length cards / 64) h, step cards (64 * k + i) (omega arith), ← z) (ap (λ (l : List ℕ). get_or cards (64 * k + i) 0 ∷ l) rest)

pub part_here_lem : (cards : List ℕ) (k : ℕ) → 64 * k + 64 ≤ length cards → card_part cards k 18 20 ≡ take 20 (drop (64 * k + 18) cards)
part_here_lem cards k h = part_words cards k 18 20 (omega arith) (omega arith)

pub part_none : (cards : List ℕ) (k i n : ℕ) → length cards / 64 ≤ k → card_part cards k i n ≡ replicate n 0
unfolding card_word
part_none cards k i zero h = refl
part_none cards k i (suc n) h = rw (le-ltb k (length cards / 64) h, part_none cards k (i + 1) n h)

-- They are the cells of the card there.
pub part_cells : (cards : List ℕ) (k : ℕ) → 64 * k + 64 ≤ length cards → cells_at cards k ≡ cells_of (card_here k cards)
unfolding cells_at
part_cells cards k h =
    let d = drop (64 * k) cards in
    let l : length d ≡ length cards - 64 * k = length-drop (64 * k) cards in
    let m : 18 ≤ length (take 64 d) = rw (here_length k cards h) (omega arith) in
    let n : 20 ≤ length (drop 18 (take 64 d)) = rw (length-drop 18 (take 64 d), here_length k cards h) (omega arith) in
    let p : take 20 (drop 18 d) ≡ take 20 (drop 18 (take 64 d)) =
    ap (λ (x : List ℕ). take 20 (drop 18 x)) (sym (take-append-drop 64 d))
    ∙ ap (take 20) (drop-append-le 18 (take 64 d) (drop 64 d) m)
    ∙ take-append-le 20 (drop 18 (take 64 d)) (drop 64 d) n in
    part_here_lem cards k h ∙ ap (take 20) (sym (drop-drop 18 (64 * k) cards)) ∙ p

sets_all : (w : List ℕ) → length w ≡ 20 → sets (replicate 20 0) 0 w ≡ w
sets_all w l =
    let z : 0 + length w ≡ 20 = omega arith in
    sets-eq w (replicate 20 0) 0 (omega arith) ∙ ap (λ (n : ℕ). w ++ drop n (replicate 20 0)) z ∙ append-nil w

-- No card, no cells.
pub cells_none : (cards : List ℕ) (k : ℕ) → length cards / 64 ≤ k → replicate 20 0 ≡ cells_at cards k
unfolding cells_at
cells_none cards k h = sym (part_none cards k 18 20 h)

-- They are copied.
pub cells_copied : (cards r : List ℕ) (k : ℕ) → k < length cards / 64
    → r ≡ sets (replicate 20 0) 0 (take (64 * k + 18 + 20 - (64 * k + 18)) (drop (64 * k + 18) cards)) → r ≡ cells_at cards k
unfolding cells_at
cells_copied cards r k h e =
    let w = take 20 (drop (64 * k + 18) cards) in
    let z : 64 * k + 18 + 20 - (64 * k + 18) ≡ 20 = omega arith in
    let l : length w ≡ 20 = length-take-le 20 (drop (64 * k + 18) cards) (rw (length-drop (64 * k + 18) cards) (omega arith)) in
    e ∙ ap (λ (n : ℕ). sets (replicate 20 0) 0 (take n (drop (64 * k + 18) cards))) z ∙ sets_all w l ∙ sym (part_here_lem cards k (omega arith))

-- ---- cards in a row

-- Each has 64 words: so have the first k, and so have all where each by its number has.
pub whole_take : (k : ℕ) {xs : List (List ℕ)} → FullCards xs → FullCards (take k xs)
whole_take zero w = none
whole_take (suc k) none = none
whole_take (suc k) (one e w) = one e (whole_take k w)

pub whole_nth : (xs : List (List ℕ)) → ((i : ℕ) → i < length xs → length (card_from xs i) ≡ 64) → FullCards xs
whole_nth [] h = none
whole_nth (x ∷ xs) h = one (h 0 (omega arith)) (whole_nth xs (λ i l. h (suc i) (omega arith)))

-- One card more.
pub flat_more : (xs : List (List ℕ)) (x : List ℕ) → flat (xs ++ (x ∷ [])) ≡ flat xs ++ x
flat_more [] x = append-nil x
flat_more (y ∷ ys) x = rw (flat_more ys x, append_assoc y (flat ys) x)

-- Cards, and further words behind them.
pub cards_on : {xs : List (List ℕ)} (m : ℕ) (rest : List ℕ) → FullCards xs → cards_in (length xs + m) (flat xs ++ rest) ≡ xs ++ cards_in m rest
cards_on m rest none =
    let z : 0 + m ≡ m = omega arith in
    rw z
cards_on m rest (one {x} {xs} e w) =
    let z : suc (length xs) + m ≡ suc (length xs + m) = omega arith in
    rw (z, append_assoc x (flat xs) rest, take_at x (flat xs ++ rest) 64 e, drop_at x (flat xs ++ rest) 64 e, cards_on m rest w)

-- Cells put on the card at index k, behind k cards.
pub cells_put : (front box cells : List ℕ) (k : ℕ) → length front ≡ 64 * k → 64 * k + 64 ≤ length box → length cells ≡ 20
    → sets (front ++ drop (64 * k) box) (64 * k + 18) cells ≡ front ++ with_cells cells (card_here k box) ++ drop (64 * (k + 1)) box
unfolding with_cells
cells_put front box cells k ef h ec =
    let d = drop (64 * k) box in
    let ed : length d ≡ length box - 64 * k = length-drop (64 * k) box in
    let el : length (front ++ d) ≡ length front + length d = length-append front d in
    let z : 64 * k + 18 ≡ length front + 18 = omega arith in
    let y : 64 * k + 18 + length cells ≡ length front + 38 = omega arith in
    let c : length (take 64 d) ≡ 64 = here_length k box h in
    let w : 64 * k + 64 ≡ 64 * (k + 1) = omega arith in
    let t : drop 64 d ≡ drop (64 * (k + 1)) box = drop-drop 64 (64 * k) box ∙ ap (λ (n : ℕ). drop n box) w in
    let before : take (64 * k + 18) (front ++ d) ≡ front ++ take 18 (take 64 d) =
    ap (λ (n : ℕ). take n (front ++ d)) z
    ∙ take-append-add front d 18
    ∙ ap (λ (l : List ℕ). front ++ l) (sym (take-take 18 64 d (omega arith))) in
    let behind : drop (64 * k + 18 + length cells) (front ++ d) ≡ drop 38 (take 64 d) ++ drop (64 * (k + 1)) box =
    ap (λ (n : ℕ). drop n (front ++ d)) y
    ∙ drop-append-add front d 38
    ∙ ap (drop 38) (sym (take-append-drop 64 d))
    ∙ drop-append-le 38 (take 64 d) (drop 64 d) (omega arith)
    ∙ ap (λ (l : List ℕ). drop 38 (take 64 d) ++ l) t in
    sets-eq cells (front ++ d) (64 * k + 18) (omega arith) ∙ rw (before, behind) (simp append_assoc)

-- ---- answers

pub answer_length : (answers : List ℕ) (i : ℕ) → length (answer_at answers i) ≡ 20
unfolding answer_at
answer_length answers i =
    by_cases (ltb i (length answers / 20))
    (λ t.
    let h : 20 ≤ length (drop (20 * i) answers) = rw (length-drop (20 * i) answers) (omega (arith, ltb-true i (length answers / 20) t)) in
    rw t (length-take-le 20 (drop (20 * i) answers) h))
    (λ t. rw t)

-- One cell more is copied.
pub cells_more : (answers cells : List ℕ) (slip i v : ℕ) → slip < length answers / 20 → i < 20 → length cells ≡ 20
    → v ≡ get_or answers (20 * slip + i) 0
    → take i cells ≡ take i (drop (20 * slip) answers) → take (i + 1) (set cells i v) ≡ take (i + 1) (drop (20 * slip) answers)
cells_more answers cells slip i v h g l ev e =
    let src = drop (20 * slip) answers in
    let z : i + 1 ≡ suc i = omega arith in
    let m : i < length src = rw (length-drop (20 * slip) answers) (omega arith) in
    rw (z, take-suc-set cells i v (omega arith), take-suc src i 0 m, get_or-drop (20 * slip) answers i 0, ← ev, e)

-- All are.
pub cells_answered : (answers cells : List ℕ) (slip i : ℕ) → slip < length answers / 20 → 20 ≤ i → i ≤ 20 → length cells ≡ 20
    → take i cells ≡ take i (drop (20 * slip) answers)
    → cells ≡ answer_at answers slip
unfolding answer_at
cells_answered answers cells slip i h g m l e =
    let z : i ≡ 20 = omega arith in
    rw (lt-ltb slip (length answers / 20) h) (sym (take_all 20 cells (omega arith)) ∙ (rw z at e))

pub answers_none : (answers : List ℕ) (slip : ℕ) → length answers / 20 ≤ slip → replicate 20 0 ≡ answer_at answers slip
unfolding answer_at
answers_none answers slip h = rw (le-ltb slip (length answers / 20) h)
