-- Lent words: what a store of a block leaves, a run of such stores, and the words of blocks followed by zeros.
use Rattle.std.specs.Prelude.{ℕ, ◌+◌, ◌*◌, ◌-◌, ◌%◌, Bool, cond, List, [], ◌∷◌, ◌++◌, leb, eqb, length, replicate}
use Rattle.std.proofs.lemmas.List.Edits.{sets}
use Rattle.reader.specs.declared.store.Entry.{Entry}

-- A word has 32 bits.
abbrev pub low_word : ℕ → ℕ
low_word x = x % 4294967296

-- As many zeros as the list has words.
abbrev pub zeros : List ℕ → List ℕ
zeros l = replicate (length l) 0

-- l with ws as its n-th block of w words, where l has an n-th whole block.
unfoldable pub put : ℕ → List ℕ → ℕ → List ℕ → List ℕ
put w l n ws = cond (leb (w * n + w) (length l)) (sets l (w * n) ws) l

-- The blocks put one after the other, from the n-th on.
abbrev pub put_all : ℕ → List ℕ → ℕ → List (List ℕ) → List ℕ
put_all w l n [] = l
put_all w l n (x ∷ xs) = put_all w (put w l n x) (n + 1) xs

-- The blocks' words in a row.
abbrev pub flat : List (List ℕ) → List ℕ
flat [] = []
flat (x ∷ xs) = x ++ flat xs

-- The words, and zeros up to n words.
abbrev pub padded : ℕ → List ℕ → List ℕ
padded n ws = ws ++ replicate (n - length ws) 0

-- n lent words after a call: the blocks and zeros behind them where all went well, nothing but zeros after a refusal.
abbrev pub lent : Bool → ℕ → List (List ℕ) → List ℕ
lent well n blocks = cond well (padded n (flat blocks)) (replicate n 0)

-- The four words of an entry of a record that starts at the place a of its edition: a trick (kind 8) has no place.
abbrev pub moved : ℕ → ℕ → ℕ → ℕ
moved a kind x = cond (eqb kind 8) x (a + x)

unfoldable pub entry_words : ℕ → Entry → List ℕ
entry_words a e = low_word e.kind ∷ low_word (moved a e.kind e.x) ∷ low_word e.y ∷ low_word e.z ∷ []
