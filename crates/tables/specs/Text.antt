-- White space, trimming, fields, lines and characters of a text, which is a list of bytes.
use Rattle.std.specs.Prelude.{ℕ, List, [], ◌∷◌, Bool, ◌&&◌, ◌||◌, cond, not, leb, eqb}
use Prim.Native.Char.{code}
use Prim.Native.String as S
use Prim.Native.String.{String}

-- A text in quotes, as bytes.
abbrev pub ascii : String → List ℕ
ascii S.[] = []
ascii (S.◌∷◌ c s) = code c ∷ ascii s

-- White space is tab, LF, VT, FF, CR (9 to 13) and blank (32).
unfoldable pub is_white : ℕ → Bool
is_white b = leb 9 b && leb b 13 || eqb b 32

-- The longest front of a text whose bytes all meet a test, and what follows it.
abbrev pub front : (ℕ → Bool) → List ℕ → List ℕ
front p [] = []
front p (b ∷ bs) = cond (p b) (b ∷ front p bs) []

abbrev pub beyond : (ℕ → Bool) → List ℕ → List ℕ
beyond p [] = []
beyond p (b ∷ bs) = cond (p b) (beyond p bs) (b ∷ bs)

-- The white space at a text's start, and the text without it.
abbrev pub lead : List ℕ → List ℕ
lead s = front is_white s

abbrev pub trim_start : List ℕ → List ℕ
trim_start s = beyond is_white s

-- A text without the white space at its end: white space goes where nothing is left behind it.
abbrev pub keep_end : ℕ → List ℕ → List ℕ
keep_end b [] = cond (is_white b) [] (b ∷ [])
keep_end b (c ∷ cs) = b ∷ c ∷ cs

abbrev pub trim_end : List ℕ → List ℕ
trim_end [] = []
trim_end (b ∷ bs) = keep_end b (trim_end bs)

-- A text trimmed at both ends.
unfoldable pub trimmed : List ℕ → List ℕ
trimmed s = trim_end (trim_start s)

-- b put before the first of the parts, or as the only part.
abbrev pub prepend : ℕ → List (List ℕ) → List (List ℕ)
prepend b [] = (b ∷ []) ∷ []
prepend b (p ∷ ps) = (b ∷ p) ∷ ps

-- Fields: the longest parts without white space. A byte joins the field behind it where no white space stands between.
abbrev pub join_field : ℕ → List ℕ → List (List ℕ) → List (List ℕ)
join_field b [] fs = (b ∷ []) ∷ fs
join_field b (c ∷ cs) fs = cond (is_white c) ((b ∷ []) ∷ fs) (prepend b fs)

abbrev pub fields : List ℕ → List (List ℕ)
fields [] = []
fields (b ∷ bs) = cond (is_white b) (fields bs) (join_field b bs (fields bs))

abbrev pub is_word : ℕ → Bool
is_word b = not (is_white b)

-- The bytes before the first white space, and the text from there on.
abbrev pub word : List ℕ → List ℕ
word s = front is_word s

abbrev pub past_word : List ℕ → List ℕ
past_word s = beyond is_word s

-- Lines end at LF (10). What follows the last LF is a line where it is not empty.
abbrev pub lines : List ℕ → List (List ℕ)
lines [] = []
lines (b ∷ bs) = cond (eqb b 10) ([] ∷ lines bs) (prepend b (lines bs))

-- The bytes before the first x, all of them where there is none.
abbrev pub differs : ℕ → ℕ → Bool
differs x b = not (eqb b x)

abbrev pub before : ℕ → List ℕ → List ℕ
before x s = front (differs x) s

-- The bytes before the first LF (10).
abbrev pub line : List ℕ → List ℕ
line s = before 10 s

-- Bytes 80 to BF (hexadecimal; 128 to 191) stand inside a character.
unfoldable pub is_inside : ℕ → Bool
is_inside b = leb 128 b && leb b 191

-- A character is a byte with the bytes 80 to BF right after it. One of a single byte is given as that byte. One of more is
-- no letter and no digit: it is given as 0, which is neither.
abbrev pub single : ℕ → List ℕ → ℕ
single b [] = b
single b (c ∷ cs) = cond (is_inside c) 0 b

-- The characters that start in what follows a character's first byte.
abbrev pub starts : List ℕ → List ℕ
starts [] = []
starts (b ∷ bs) = cond (is_inside b) (starts bs) (single b bs ∷ starts bs)

-- The characters of a text. Its first byte starts one, whatever it is.
abbrev pub characters : List ℕ → List ℕ
characters [] = []
characters (b ∷ bs) = single b bs ∷ starts bs

-- The first character, 0 where the text is empty.
abbrev pub first_character : List ℕ → ℕ
first_character [] = 0
first_character (b ∷ bs) = single b bs
