-- What the inner functions that read an edition promise.
use Rattle.std.specs.Prelude.{ℕ, ◌+◌, ◌≡◌, List, [], ◌∷◌, map, cond, length, Result, is_ok}
use Rattle.tables.specs.declared.letters.Conventions.{Conventions}
use Rattle.reader.specs.declared.edition.Counts.{Counts}
use Rattle.reader.specs.declared.edition.ReadRefusal.{ReadRefusal}
use Rattle.reader.specs.Store.{zeros, put, put_all, entry_words}
use Rattle.reader.specs.Boards.{record_out}
use Rattle.reader.specs.Editions.{card_of, cards_of, entries_of, counts_of, counts_answer}

-- A record r at a read as the k-th board, n entries before it: how many entries there are then, its card and its entries.
pub record RecordIn (c : Conventions) (r : List ℕ) (a k n : ℕ) (cards entries : List ℕ) (m : ℕ) (cards' entries' : List ℕ) : Type 0 where
  pub answer : m ≡ n + length (record_out c r).entries
  pub card : cards' ≡ put 64 cards k (card_of c a n r)
  pub words : entries' ≡ put_all 4 entries n (map (entry_words a) (record_out c r).entries)
  pub whole : length (card_of c a n r) ≡ 64

-- Every card has 64 words.
pub data FullCards : List (List ℕ) → Type 0 where
  none : FullCards []
  one : {x : List ℕ} {xs : List (List ℕ)} → length x ≡ 64 → FullCards xs → FullCards (x ∷ xs)

-- All records of a text read.
pub record AllIn (c : Conventions) (text cards entries : List ℕ) (r : Counts) (cards' entries' : List ℕ) : Type 0 where
  pub counts : r ≡ counts_of c text
  pub cards_put : cards' ≡ put_all 64 cards 0 (cards_of c text)
  pub entries_put : entries' ≡ put_all 4 entries 0 (entries_of c text)
  pub whole : FullCards (cards_of c text)

-- The answer for the counts, and the words: as they were, or zeros after a refusal.
pub record ReadingEnded (cards entries : List ℕ) (n : Counts) (r : Result Counts ReadRefusal) (cards' entries' : List ℕ) : Type 0 where
  pub answer : r ≡ counts_answer (length cards) (length entries) n
  pub cards_after : cards' ≡ cond (is_ok r) cards (zeros cards)
  pub entries_after : entries' ≡ cond (is_ok r) entries (zeros entries)
