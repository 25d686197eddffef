-- The words of a card by their numbers; those from 1 to 38 do not depend on where the record stands.
use Prim.Native.Nat.{ℕ, suc, ◌+◌, ◌≤◌, ◌<◌}
use mathlib.Core.Path.{◌≡◌, refl, sym, ◌∙◌}
use mathlib.Core.List.{List, [], ◌∷◌, ◌++◌}
use native.Mathlib.Omega.{arith}
use lib.Dec.{ltb}
use lib.ListN.{length, get_or, length-append, get_or-append}
use borrow.Author.Tests.{ltb-true, ltb-false}
use Rattle.tables.specs.declared.letters.Conventions.{Conventions}
use Rattle.tables.proofs.Laws.{by_cases}
use Rattle.reader.specs.declared.board.Board.{Board}
use Rattle.reader.specs.Store.{low_word}
use Rattle.reader.specs.Boards.{record_out}
use Rattle.reader.specs.Editions.{head_words, value_words, section_words, tail_words, back_words, card_words, card_of}
use Rattle.reader.proofs.PlainBounds.{RecordBounded}

-- An element of a list that stands behind another.
get_behind : (xs ys : List ℕ) (n i : ℕ) → length xs ≡ n → get_or (xs ++ ys) (n + i) 0 ≡ get_or ys i 0
get_behind [] ys n i e = let z : n + i ≡ i = omega arith in rw z
get_behind (x ∷ xs) ys n i e =
    let z : n + i ≡ suc (length xs + i) = omega arith in
    rw z (get_behind xs ys (length xs) i refl)

-- The words of a card before word 38.
abbrev first_words : ℕ → ℕ → Board → List ℕ
first_words n count b = head_words n count b ++ b.deal.words ++ b.table.cells

first_length : (c : Conventions) (n : ℕ) (r : List ℕ) → length (first_words n (length (record_out c r).entries) (record_out c r).state.board) ≡ 38
first_length c n r =
    let b = (record_out c r).state.board in
    let h = RecordBounded c r in
    let w = head_words n (length (record_out c r).entries) b in
    let g : length (w ++ b.deal.words) ≡ 18 = length-append w b.deal.words ∙ omega (arith, h.deal_in.words_eight) in
    length-append (w ++ b.deal.words) b.table.cells ∙ omega (arith, h.table_in.twenty)

module _ (c : Conventions) (a n : ℕ) (r : List ℕ) where
  -- Words 0 and 1.
  pub word_0 : get_or (card_of c a n r) 0 0 ≡ low_word n
  unfolding card_words
  word_0 = refl

  pub word_1 : get_or (card_of c a n r) 1 0 ≡ low_word (length (record_out c r).entries)
  unfolding card_words
  word_1 = refl

  -- Words 38 to 63.
  pub word_back : (i : ℕ) → get_or (card_of c a n r) (38 + i) 0 ≡ get_or (back_words a (a + length r) n (record_out c r).state.board) i 0
  unfolding card_words
  word_back i = get_behind (first_words n (length (record_out c r).entries) (record_out c r).state.board) _ 38 i (first_length c n r)

  word_front : (i : ℕ) → suc i ≤ 38 → get_or (card_of c a n r) i 0 ≡ get_or (first_words n (length (record_out c r).entries) (record_out c r).state.board) i 0
  unfolding card_words
  word_front i h = get_or-append (first_words n (length (record_out c r).entries) (record_out c r).state.board) _ 0 i (omega (arith, first_length c n r))

-- Words 39 to 50.
pub value_word : (c : Conventions) (a n : ℕ) (r : List ℕ) (i : ℕ) → i < 12 → get_or (card_of c a n r) (39 + i) 0 ≡ get_or (value_words n (record_out c r).state.board.values) i 0
value_word c a n r i h =
    let b = (record_out c r).state.board in
    let v = value_words n b.values in
    let z : 39 + i ≡ 38 + suc i = omega arith in
    rw z (word_back c a n r (suc i)) ∙ get_or-append v (section_words n b.auction ++ section_words n b.play ++ tail_words a (a + length r) b) 0 i (omega arith)

-- THEOREM. Two cards of one record, wherever it stands, have the same words 1 to 38: number, seats, result, deal, hands and table.
pub SameWords : (c : Conventions) (a n a' n' : ℕ) (r : List ℕ) (i : ℕ) → i ≤ 37 → get_or (card_of c a n r) (suc i) 0 ≡ get_or (card_of c a' n' r) (suc i) 0
SameWords c a n a' n' r i h =
    by_cases (ltb (suc i) 38)
    (λ t. let k = ltb-true (suc i) 38 t in word_front c a n r (suc i) (omega arith) ∙ sym (word_front c a' n' r (suc i) (omega arith)))
    (λ t.
    let k : suc i ≡ 38 + 0 = omega (arith, ltb-false (suc i) 38 t) in
    rw k (word_back c a n r 0 ∙ sym (word_back c a' n' r 0)))
