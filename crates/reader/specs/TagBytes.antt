-- A second reading of a tag line, as bytes without places, and which names and values can be written. The contracts cite Tag; that both
-- readings agree is proved in proofs/Tags.antt.
use Rattle.std.specs.Prelude.{ℕ, List, [], ◌∷◌, ◌++◌, Bool, true, false, ◌&&◌, cond, not, eqb, Some, None}
use Rattle.std.proofs.Math.Option.{Option, none, some}
use Rattle.tables.specs.Text.{is_white, is_word, word, past_word, trimmed}
use Rattle.tables.specs.Letters.{every, among}
use Rattle.reader.specs.Tag.{TagLine, Split, cut, is_comment}

-- One partial answer after another; the first that is missing ends it.
infixl 10 ◌>>=◌
abbrev pub ◌>>=◌ : {A B : Type 0} → Option A → (A → Option B) → Option B
◌>>=◌ none f = none
◌>>=◌ (some a) f = f a

-- A text cut in two.
pub record Cut : Type 0 where
  pub front : List ℕ
  pub rest : List ℕ

-- One byte more in front.
abbrev pub push : ℕ → Option Cut → Option Cut
push b none = none
push b (some k) = some (record { front = b ∷ k.front; rest = k.rest })

-- Whether a text that ends with b ends with a quote (34), white space apart, where q says it of the text before b.
abbrev pub quoted : Bool → ℕ → Bool
quoted q b = cond (is_white b) q (eqb b 34)

-- Cut at the first `]` (93) with a quote before it, white space apart. The `]` is in neither part.
abbrev pub close : Bool → List ℕ → Option Cut
close q [] = none
close q (b ∷ bs) = cond (eqb b 93 && q) (some (record { front = []; rest = bs })) (push b (close (quoted q b) bs))

-- Cut behind the first x.
abbrev pub past : ℕ → List ℕ → Option Cut
past x [] = none
past x (b ∷ bs) = cond (eqb b x) (some (record { front = b ∷ []; rest = bs })) (push b (past x bs))

-- What follows a first byte x; what stands before a last byte x.
abbrev pub behind : ℕ → List ℕ → Option (List ℕ)
behind x [] = none
behind x (b ∷ bs) = cond (eqb b x) (some bs) none

abbrev pub ahead : ℕ → List ℕ → Option (List ℕ)
ahead x [] = none
ahead x (b ∷ []) = cond (eqb b x) (some []) none
ahead x (b ∷ c ∷ cs) = ahead x (c ∷ cs) >>= λ l. some (b ∷ l)

-- What stands between two quotes (34).
abbrev pub unquote : List ℕ → Option (List ℕ)
unquote t = behind 34 t >>= ahead 34

-- A text that is not empty.
abbrev pub filled : List ℕ → Option (List ℕ)
filled [] = none
filled (b ∷ bs) = some (b ∷ bs)

-- After a tag: nothing, or a comment.
abbrev pub comment_bytes : List ℕ → Option (Option (List ℕ))
comment_bytes [] = some none
comment_bytes (b ∷ bs) = cond (is_comment (b ∷ bs)) (some (some (b ∷ bs))) none

pub record TagBytes : Type 0 where
  pub name : List ℕ
  pub value : List ℕ
  pub comment : Option (List ℕ)

-- A tag, whose line starts with `[` (91), and the comment after it.
unfoldable pub read_tag : List ℕ → Option TagBytes
read_tag line = do
  body ← behind 91 (trimmed line)
  k ← close false body
  gap ← filled (past_word k.front)
  u ← unquote (trimmed gap)
  c ← comment_bytes (trimmed k.rest)
  some (record { name = word k.front; value = u; comment = c })

pub record SplitBytes : Type 0 where
  pub name : List ℕ
  pub value : List ℕ
  pub section : List ℕ

-- A tag up to the first `]` (93) after the line's second quote (34), and the data behind it.
unfoldable pub read_split : List ℕ → Option SplitBytes
read_split line = do
  a ← past 34 line
  b ← past 34 a.rest
  c ← past 93 b.rest
  t ← read_tag (a.front ++ (b.front ++ c.front))
  d ← filled (trimmed c.rest)
  some (record { name = t.name; value = t.value; section = d })

-- The bytes that stand at the places of an answer.
abbrev pub tag_bytes : TagLine → List ℕ → Option TagBytes
tag_bytes None line = none
tag_bytes (Some (t, None)) line = some (record { name = cut t.name line; value = cut t.value line; comment = none })
tag_bytes (Some (t, Some c)) line = some (record { name = cut t.name line; value = cut t.value line; comment = some (cut c line) })

abbrev pub split_bytes : Split → List ℕ → Option SplitBytes
split_bytes None line = none
split_bytes (Some (t, d)) line = some (record { name = cut t.name line; value = cut t.value line; section = cut d line })

-- ---- what can be written

-- No `]` (93) with a quote before it, white space apart; q says whether a quote stands before the text.
abbrev pub unclosed : Bool → List ℕ → Bool
unclosed q [] = true
unclosed q (b ∷ bs) = not (eqb b 93 && q) && unclosed (quoted q b) bs

-- A name has no white space, and no `]` after a quote.
unfoldable pub good_name : List ℕ → Bool
good_name n = every is_word n && unclosed false n

-- A value has no LF (10), and no `]` that stands first or after a quote, white space apart.
unfoldable pub good_value : List ℕ → Bool
good_value v = not (among 10 v) && unclosed true v
