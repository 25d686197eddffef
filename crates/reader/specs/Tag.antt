-- A tag line, `[Name "value"]`, perhaps with a comment or with section data after it. Places are counted in the line as given.
use Rattle.std.specs.Prelude.{ℕ, ◌+◌, ◌-◌, List, [], ◌∷◌, ◌++◌, Bool, false, ◌&&◌, Option, Some, None, option_and_then, cond, ltb, eqb, length, get_or, take, drop}
use Rattle.tables.specs.Text.{lead, trim_start, trim_end, trimmed, word}
use Rattle.tables.specs.Letters.{among}
use Rattle.reader.specs.declared.tag.Span.{Span}
use Rattle.reader.specs.declared.tag.Tag.{Tag}

-- One part after another; the first that is missing ends it.
infixl 10 ◌>>=◌
abbrev pub ◌>>=◌ : {A B : Type 0} → Option A → (A → Option B) → Option B
o >>= f = option_and_then f o

-- ---- parts of a line

-- The bytes that stand at a span.
abbrev pub cut : Span → List ℕ → List ℕ
cut p s = take p.len (drop p.start s)

-- The bytes from place a up to place e.
abbrev pub part : ℕ → ℕ → List ℕ → List ℕ
part a e s = drop a (take e s)

-- The last byte of a text, 0 where it is empty; d is the byte before it.
abbrev pub last_after : ℕ → List ℕ → ℕ
last_after d [] = d
last_after d (b ∷ bs) = last_after b bs

abbrev pub last_byte : List ℕ → ℕ
last_byte s = last_after 0 s

-- Where a text lies once it is trimmed, and where the part from a up to e does.
unfoldable pub trim_span : List ℕ → Span
trim_span s = record { start = length (lead s); len = length (trimmed s) }

unfoldable pub trim_part : ℕ → ℕ → List ℕ → Span
trim_part a e s = record { start = a + length (lead (part a e s)); len = length (trimmed (part a e s)) }

-- ---- the parts of a tag

-- The trimmed line starts with `[` (91); the body starts behind it.
unfoldable pub bracket_of : List ℕ → Option ℕ
bracket_of line = cond (eqb (get_or (trim_start line) 0 0) 91) (Some (length (lead line) + 1)) None

-- A text that ends with a quote (34), the white space off its end.
unfoldable pub ends_quoted : List ℕ → Bool
ends_quoted s = eqb (last_byte (trim_end s)) 34

-- The first `]` (93) such that the body before it ends with a quote, white space apart. k is the place of the next byte, f the
-- body before it.
abbrev pub close_at : ℕ → List ℕ → List ℕ → Option ℕ
close_at k f [] = None
close_at k f (b ∷ bs) = cond (eqb b 93 && ends_quoted f) (Some k) (close_at (k + 1) (f ++ b ∷ []) bs)

-- The length of the name, which is what stands before the first white byte; there must be one. It may be empty.
unfoldable pub name_of : List ℕ → Option ℕ
name_of s = cond (ltb (length (word s)) (length s)) (Some (length (word s))) None

-- A value has an opening and a closing quote (34), which are two bytes.
unfoldable pub is_quoted : List ℕ → Bool
is_quoted s = cond (ltb (length s) 2) false (eqb (get_or s 0 0) 34 && eqb (last_byte s) 34)

-- The value is what stands between the quotes.
abbrev pub value_in : Span → List ℕ → Option Span
value_in t line = cond (is_quoted (cut t line)) (Some (record { start = t.start + 1; len = t.len - 2 })) None

unfoldable pub value_of : ℕ → ℕ → List ℕ → Option Span
value_of a e line = value_in (trim_part a e line) line

-- A comment after a tag: `;` (59) and anything, or `{` (123) closed by a `}` (125) on the line.
unfoldable pub is_comment : List ℕ → Bool
is_comment s = cond (eqb (get_or s 0 0) 123) (among 125 s) (eqb (get_or s 0 0) 59)

-- What follows a tag, trimmed: nothing or a comment, and None where it is something else.
abbrev pub comment_in : Span → List ℕ → Option (Option Span)
comment_in t line = cond (eqb t.len 0) (Some None) (cond (is_comment (cut t line)) (Some (Some t)) None)

unfoldable pub comment_of : ℕ → List ℕ → Option (Option Span)
comment_of a line = comment_in (trim_part a (length line) line) line

-- ---- a tag and the comment after it

-- None where the line is no tag.
abbrev pub TagLine : Type 0
TagLine = Option (Tag × Option Span)

-- The body starts at a, its closing bracket stands at e, and its name has n bytes.
unfoldable pub tag_line : List ℕ → TagLine
tag_line line = do
  a ← bracket_of line
  e ← close_at a [] (drop a line)
  n ← name_of (part a e line)
  value ← value_of (a + n) e line
  comment ← comment_of (e + 1) line
  Some (record { name = record { start = a; len = n }; value = value }, comment)

-- ---- a tag with section data after its bracket

-- The first x; k is the place of the next byte.
abbrev pub find_at : ℕ → ℕ → List ℕ → Option ℕ
find_at x k [] = None
find_at x k (b ∷ bs) = cond (eqb b x) (Some k) (find_at x (k + 1) bs)

-- The first `]` (93) after the second quote (34).
unfoldable pub data_bracket : List ℕ → Option ℕ
data_bracket line = do
  o ← find_at 34 0 line
  q ← find_at 34 (o + 1) (drop (o + 1) line)
  find_at 93 (q + 1) (drop (q + 1) line)

-- A tag, and the data.
abbrev pub Split : Type 0
Split = Option (Tag × Span)

-- Data that is empty once it is trimmed is none.
abbrev pub with_data : Tag → Span → Split
with_data t d = cond (eqb d.len 0) None (Some (t, d))

-- The tag that the line up to e is, whether or not a comment follows it, and the data from there.
unfoldable pub data_after : ℕ → List ℕ → Split
data_after e line = do
  (tag, comment) ← tag_line (take e line)
  with_data tag (trim_part e (length line) line)

unfoldable pub split_of : List ℕ → Split
split_of line = do
  k ← data_bracket line
  data_after (k + 1) line

-- ---- written

-- The line `[name "value"]`: `[` (91), the name, a blank (32), a quote (34), the value, a quote, `]` (93).
unfoldable pub tag_text : List ℕ → List ℕ → List ℕ
tag_text n v = 91 ∷ (n ++ 32 ∷ 34 ∷ (v ++ 34 ∷ 93 ∷ []))
