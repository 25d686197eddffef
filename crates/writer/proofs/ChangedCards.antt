-- Laws of the cards in lent words, changed one after the other.
use Prim.Native.Nat.{ℕ, zero, suc, ◌+◌, ◌*◌, ◌-◌, ◌≤◌, ◌<◌}
use mathlib.Core.Path.{◌≡◌, refl, sym, ap, ◌∙◌}
use mathlib.Core.Bool.{true, false, ◌&&◌, not}
use mathlib.Core.List.{List, [], ◌∷◌, ◌++◌, map, append_assoc, map-append}
use native.Mathlib.Omega.{arith}
use lib.Dec.{eqb}
use lib.ListN.{length, get_or, take, drop, set, replicate, length-append, length-map, length-drop, take-append-drop}
use lib.Seq.{sets, sets-eq, set_split, take_at, drop_at, take-add, take-take, drop-drop, drop-append-le, length-take-le}
use borrow.Author.Tests.{eq-eqb, ne_eqb}
use Rattle.tables.proofs.Laws.{by_cases}
use Rattle.reader.specs.Store.{flat}
use Rattle.reader.specs.EditionSteps.{FullCards}
use Rattle.reader.specs.EditionSteps as whole
use Rattle.reader.proofs.StoreLaws.{Blocks, none, one, length_flat}
use Rattle.reader.proofs.EditionLaws.{card_blocks}
use Rattle.planning.specs.Cards.{is_whole, has_table, card_here}
use Rattle.planning.specs.PlanSteps.{cards_in}
use Rattle.planning.proofs.BoxLaws.{cards_split, cards_count, cards_front}
use Rattle.planning.proofs.CardWords.{here_length, word_here}
use Rattle.writer.specs.GivenCards.{with_cells, with_kind, marked, given_cleared, changed_at, changed_all}
use Rattle.writer.proofs.GiveCells.{given_length, flat_more}

-- ---- a part of one card

-- Words of the card at index k, from i to before j, replaced.
part_changed : (k i j : ℕ) (ws box : List ℕ) → i ≤ j → j ≤ 64 → 64 * k + 64 ≤ length box
    → take (64 * k + i) box ++ (ws ++ drop (64 * k + j) box) ≡ changed_at (λ (x : List ℕ). take i x ++ (ws ++ drop j x)) k box
part_changed k i j ws box hi hj h =
    let d = drop (64 * k) box in
    let front : take (64 * k + i) box ≡ take (64 * k) box ++ take i (take 64 d) =
    take-add (64 * k) i box ∙ ap (λ (l : List ℕ). take (64 * k) box ++ l) (sym (take-take i 64 d (omega arith))) in
    let back : drop (64 * k + j) box ≡ drop j (take 64 d) ++ drop (64 * k + 64) box =
    sym (drop-drop j (64 * k) box)
    ∙ ap (drop j) (sym (take-append-drop 64 d))
    ∙ drop-append-le j (take 64 d) (drop 64 d) (rw (here_length k box h) hj)
    ∙ ap (λ (l : List ℕ). drop j (take 64 d) ++ l) (drop-drop 64 (64 * k) box) in
    rw (front, back) (simp append_assoc)

-- ---- the kind set

pub kind_set : (k v : ℕ) (box : List ℕ) → 64 * k + 64 ≤ length box → set box (64 * k + 38) v ≡ changed_at (with_kind v) k box
unfolding with_kind
kind_set k v box h =
    let e : suc (64 * k + 38) ≡ 64 * k + 39 = omega arith in
    set_split box (64 * k + 38) v (omega arith) ∙ rw e (part_changed k 38 39 (v ∷ []) box (omega arith) (omega arith) h)

-- ---- cells and kind set to 0

cleared_parts : (x : List ℕ) → length x ≡ 64 → with_kind 0 (with_cells (replicate 20 0) x) ≡ take 18 x ++ (replicate 21 0 ++ drop 39 x)
unfolding with_kind with_cells
cleared_parts x e =
    let a = take 18 x ++ replicate 20 0 in
    let la : length a ≡ 38 = length-append (take 18 x) (replicate 20 0) ∙ rw (length-take-le 18 x (omega arith)) in
    let s : take 18 x ++ (replicate 20 0 ++ drop 38 x) ≡ a ++ drop 38 x = sym (append_assoc (take 18 x) (replicate 20 0) (drop 38 x)) in
    let d : drop 39 (a ++ drop 38 x) ≡ drop 39 x =
    sym (drop-drop 1 38 (a ++ drop 38 x)) ∙ ap (drop 1) (drop_at a (drop 38 x) 38 la) ∙ drop-drop 1 38 x in
    rw (s, take_at a (drop 38 x) 38 la, d) (append_assoc (take 18 x) (replicate 20 0) (0 ∷ drop 39 x))

pub cells_cleared : (k : ℕ) (box : List ℕ) → 64 * k + 64 ≤ length box
    → sets box (64 * k + 18) (replicate 21 0) ≡ changed_at (λ (x : List ℕ). with_kind 0 (with_cells (replicate 20 0) x)) k box
cells_cleared k box h =
    let e : 64 * k + 18 + 21 ≡ 64 * k + 39 = omega arith in
    sets-eq (replicate 21 0) box (64 * k + 18) (omega arith)
    ∙ append_assoc (take (64 * k + 18) box) (replicate 21 0) (drop (64 * k + 18 + 21) box)
    ∙ rw e (part_changed k 18 39 (replicate 21 0) box (omega arith) (omega arith) h)
    ∙ ap (λ (x : List ℕ). take (64 * k) box ++ (x ++ drop (64 * k + 64) box)) (sym (cleared_parts (card_here k box) (here_length k box h)))

-- ---- one card

-- A card that stays.
card_stays : (f : List ℕ → List ℕ) (k : ℕ) (box : List ℕ) → f (card_here k box) ≡ card_here k box → box ≡ changed_at f k box
card_stays f k box e =
    let d = drop (64 * k) box in
    let whole : take (64 * k) box ++ (take 64 d ++ drop 64 d) ≡ box =
    ap (λ (l : List ℕ). take (64 * k) box ++ l) (take-append-drop 64 d) ∙ take-append-drop (64 * k) box in
    sym (rw (e, sym (drop-drop 64 (64 * k) box)) whole)

-- The test of a mark, and of its removal.
pub mark_set : (k : ℕ) (box box' : List ℕ) → 64 * k + 64 ≤ length box
    → (is_whole (card_here k box) && not (has_table (card_here k box))) ≡ true → box' ≡ set box (64 * k + 38) 3
    → box' ≡ changed_at marked k box
unfolding marked
mark_set k box box' h t e = e ∙ kind_set k 3 box h ∙ rw t

pub marked_stays : (x : List ℕ) → (is_whole x && not (has_table x)) ≡ false → marked x ≡ x
unfolding marked
marked_stays x t = rw t

pub mark_none : (k : ℕ) (box : List ℕ) → (is_whole (card_here k box) && not (has_table (card_here k box))) ≡ false
    → box ≡ changed_at marked k box
mark_none k box t = card_stays marked k box (marked_stays (card_here k box) t)

pub clear_set : (k : ℕ) (box box' : List ℕ) → 64 * k + 64 ≤ length box → get_or box (64 * k + 38) 0 ≡ 3
    → box' ≡ sets box (64 * k + 18) (replicate 21 0)
    → box' ≡ changed_at given_cleared k box
unfolding given_cleared
clear_set k box box' h t e =
    let q : eqb (get_or (card_here k box) 38 0) 3 ≡ true = eq-eqb (get_or (card_here k box) 38 0) 3 (word_here k 38 box (omega arith) ∙ t) in
    e ∙ cells_cleared k box h ∙ rw q

pub cleared_stays : (x : List ℕ) → (get_or x 38 0 ≡ 3 → ⊥) → given_cleared x ≡ x
unfolding given_cleared
cleared_stays x t = rw (ne_eqb (get_or x 38 0) 3 t)

pub clear_none : (k : ℕ) (box : List ℕ) → (get_or box (64 * k + 38) 0 ≡ 3 → ⊥) → box ≡ changed_at given_cleared k box
clear_none k box t = card_stays given_cleared k box (cleared_stays (card_here k box) (λ u. t (sym (word_here k 38 box (omega arith)) ∙ u)))

-- ---- a card keeps its length

kind_long : (v : ℕ) (x : List ℕ) → length x ≡ 64 → length (with_kind v x) ≡ 64
unfolding with_kind
kind_long v x e = length-append (take 38 x) (v ∷ drop 39 x) ∙ rw (length-take-le 38 x (omega arith), length-drop 39 x) (omega arith)

pub marked_long : (x : List ℕ) → length x ≡ 64 → length (marked x) ≡ 64
unfolding marked
marked_long x e = by_cases (is_whole x && not (has_table x)) (λ q. rw q (kind_long 3 x e)) (λ q. rw q e)

pub cleared_long : (x : List ℕ) → length x ≡ 64 → length (given_cleared x) ≡ 64
unfolding given_cleared
cleared_long x e =
    by_cases (eqb (get_or x 38 0) 3)
    (λ q. rw q (kind_long 0 (with_cells (replicate 20 0) x) (given_length (replicate 20 0) x refl e)))
    (λ q. rw q e)

-- ---- all cards, one after the other

cards_blocks : (n : ℕ) (box : List ℕ) → 64 * n ≤ length box → Blocks 64 (cards_in n box)
cards_blocks zero box h = none
cards_blocks (suc n) box h = one (length-take-le 64 box (omega arith)) (cards_blocks n (drop 64 box) (rw length-drop (omega arith)))

changed_blocks : (f : List ℕ → List ℕ) → ((x : List ℕ) → length x ≡ 64 → length (f x) ≡ 64) → {xs : List (List ℕ)} → Blocks 64 xs
    → Blocks 64 (map f xs)
changed_blocks f g none = none
changed_blocks f g (one {x} e b) = one (g x e) (changed_blocks f g b)

-- The first k of n cards are changed.
pub record ChangedTo (f : List ℕ → List ℕ) (n : ℕ) (box₀ : List ℕ) (k : ℕ) (box : List ℕ) : Type 0 where
  pub inside : k ≤ n
  pub same_length : length box ≡ length box₀
  pub words : box ≡ changed_all f k box₀

pub changed_first : (f : List ℕ → List ℕ) (n : ℕ) (box : List ℕ) → ChangedTo f n box 0 box
changed_first f n box = record { inside = omega arith; same_length = refl; words = refl }

pub changed_next : {f : List ℕ → List ℕ} {n k : ℕ} {box₀ box box' : List ℕ} → ((x : List ℕ) → length x ≡ 64 → length (f x) ≡ 64)
    → ChangedTo f n box₀ k box → k < n → 64 * n ≤ length box₀
    → box' ≡ changed_at f k box → length box' ≡ length box → ChangedTo f n box₀ (k + 1) box'
changed_next {f} {n} {k} {box₀} {box} {box'} g i h r e l =
    let p = flat (map f (cards_in k box₀)) in
    let q = drop (64 * k) box₀ in
    let lp : length p ≡ 64 * k = length_flat (changed_blocks f g (cards_blocks k box₀ (omega (arith, i.inside)))) ∙ rw (count k) in
    let here : card_here k (p ++ q) ≡ card_here k box₀ = ap (take 64) (drop_at p q (64 * k) lp) in
    let back : drop (64 * k + 64) (p ++ q) ≡ drop (64 * (k + 1)) box₀ =
    sym (drop-drop 64 (64 * k) (p ++ q)) ∙ ap (drop 64) (drop_at p q (64 * k) lp) ∙ drop-drop 64 (64 * k) box₀ ∙ rw (steps k) in
    let z : k + 1 - suc k ≡ 0 = omega arith in
    let more : cards_in (k + 1) box₀ ≡ cards_in k box₀ ++ (card_here k box₀ ∷ []) = cards_split (k + 1) k box₀ (omega arith) ∙ rw z in
    let front : flat (map f (cards_in (k + 1) box₀)) ≡ p ++ f (card_here k box₀) =
    rw more (ap flat (map-append f (cards_in k box₀) (card_here k box₀ ∷ [])) ∙ flat_more (map f (cards_in k box₀)) (f (card_here k box₀))) in
    record {
      inside = omega arith;
      same_length = l ∙ i.same_length;
      words =
          e
          ∙ rw (i.words, take_at p q (64 * k) lp, here, back, front)
          (sym (append_assoc p (f (card_here k box₀)) (drop (64 * (k + 1)) box₀)));
    }
  where
    count : (k : ℕ) → length (map f (cards_in k box₀)) ≡ k
    count k = rw (length-map, cards_count k box₀)

    steps : (k : ℕ) → 64 * k + 64 ≡ 64 * (k + 1)
    steps k = omega arith

pub changed_end : {f : List ℕ → List ℕ} {n k : ℕ} {box₀ box : List ℕ} → ChangedTo f n box₀ k box → n ≤ k → box ≡ changed_all f n box₀
changed_end {f} {n} {k} {box₀} i h =
    let e : k ≡ n = omega (arith, i.inside) in
    i.words ∙ rw e

-- As many words as before.
pub changed_length : (f : List ℕ → List ℕ) → ((x : List ℕ) → length x ≡ 64 → length (f x) ≡ 64) → (n : ℕ) (box : List ℕ)
    → 64 * n ≤ length box → length (changed_all f n box) ≡ length box
changed_length f g n box h =
    let e : length (map f (cards_in n box)) ≡ n = length-map (cards_in n box) f ∙ cards_count n box in
    let l : length (flat (map f (cards_in n box))) ≡ 64 * n = length_flat (changed_blocks f g (cards_blocks n box h)) ∙ rw e in
    length-append (flat (map f (cards_in n box))) (drop (64 * n) box) ∙ rw (l, length-drop (64 * n) box) (omega arith)

-- Cards in a row, changed.
pub changed_flat : (f : List ℕ → List ℕ) {xs : List (List ℕ)} → FullCards xs → (rest : List ℕ)
    → changed_all f (length xs) (flat xs ++ rest) ≡ flat (map f xs) ++ rest
changed_flat f {xs} w rest = rw (cards_front rest w, drop_at (flat xs) rest (64 * length xs) (length_flat (card_blocks w)))

pub changed_whole : (f : List ℕ → List ℕ) → ((x : List ℕ) → length x ≡ 64 → length (f x) ≡ 64) → {xs : List (List ℕ)} → FullCards xs
    → FullCards (map f xs)
changed_whole f g whole.none = whole.none
changed_whole f g (whole.one {x} e w) = whole.one (g x e) (changed_whole f g w)
