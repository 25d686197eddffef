-- Lines with their LF, parts of a text with their places, and what a step of reading comes to.
use Rattle.std.specs.Prelude.{ℕ, ◌+◌, List, [], ◌∷◌, ◌++◌, Bool, true, false, cond, eqb}
use Rattle.tables.specs.Text.{is_white}
use Rattle.reader.specs.declared.store.Entry.{Entry}

-- A byte in front of lines: an LF is a line of its own, any other byte goes in front of the first line.
abbrev pub join_line : Bool → ℕ → List (List ℕ) → List (List ℕ)
join_line true b ls = (b ∷ []) ∷ ls
join_line false b [] = (b ∷ []) ∷ []
join_line false b (l ∷ ls) = (b ∷ l) ∷ ls

-- The lines of a text, each with its LF (10); the last may have none.
abbrev pub raw_lines : List ℕ → List (List ℕ)
raw_lines [] = []
raw_lines (b ∷ bs) = join_line (eqb b 10) b (raw_lines bs)

-- Bytes with the place where they stand in their record.
pub record Piece : Type 0 where
  pub at : ℕ
  pub bytes : List ℕ

-- A byte at p joins the token behind it where no white space stands between.
abbrev pub prepend_token : ℕ → ℕ → List Piece → List Piece
prepend_token p b [] = record { at = p; bytes = b ∷ [] } ∷ []
prepend_token p b (t ∷ ts) = record { at = p; bytes = b ∷ t.bytes } ∷ ts

abbrev pub join_token : ℕ → ℕ → List ℕ → List Piece → List Piece
join_token p b [] ts = record { at = p; bytes = b ∷ [] } ∷ ts
join_token p b (c ∷ cs) ts = cond (is_white c) (record { at = p; bytes = b ∷ [] } ∷ ts) (prepend_token p b ts)

-- The tokens of a text that stands at p: its longest parts without white space.
abbrev pub tokens_at : ℕ → List ℕ → List Piece
tokens_at p [] = []
tokens_at p (b ∷ bs) = cond (is_white b) (tokens_at (p + 1) bs) (join_token p b bs (tokens_at (p + 1) bs))

abbrev pub tokens_of : Piece → List Piece
tokens_of q = tokens_at q.at q.bytes

-- What a step comes to: the state after it, and the entries that it adds.
pub record Out (A : Type 0) : Type 0 where
  pub state : A
  pub entries : List Entry

-- One step after another.
abbrev pub and_then : {A : Type 0} → Out A → Out A → Out A
and_then o p = record { state = p.state; entries = o.entries ++ p.entries }

abbrev pub out_all : {A B : Type 0} → (A → B → Out A) → A → List B → Out A
out_all f a [] = record { state = a; entries = [] }
out_all f a (b ∷ bs) = and_then (f a b) (out_all f (f a b).state bs)

abbrev pub entry : ℕ → ℕ → ℕ → ℕ → Entry
entry k x y z = record { kind = k; x = x; y = y; z = z }
