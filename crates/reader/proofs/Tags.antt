-- Tags as bytes: what stands at the places of a tag, and that a tag which is written is read back.
use Prim.Native.Nat.{ℕ, zero, suc, ◌+◌}
use mathlib.Core.Path.{◌≡◌, refl, sym, ap, ◌∙◌}
use mathlib.Core.Bool.{Bool, true, false, cond, ◌&&◌}
use mathlib.Core.List.{List, [], ◌∷◌, ◌++◌, append_assoc, append-nil}
use mathlib.Core.Option.{Option, none, some}
use native.Mathlib.Omega.{arith}
use lib.Dec.{ltb, eqb}
use lib.ListN.{length, drop, take, length-append}
use lib.Seq.{take-append_seam, drop-append_seam, take-append-add, drop-append-add, take-length}
use borrow.Author.Tests.{lt-ltb, le-ltb, eqb-true, ne_eqb}
use Rattle.tables.specs.Text.{is_white, is_word, front, beyond, lead, trim_start, keep_end, trim_end, trimmed, word, past_word}
use Rattle.tables.proofs.Laws.{by_cases, clash, both}
use Rattle.tables.proofs.TextLaws.{take_kept}
use Rattle.reader.specs.declared.tag.Span.{Span}
use Rattle.reader.specs.declared.tag.Tag.{Tag}
use Rattle.std.specs.Prelude.{Option as Maybe, Some, None, option_and_then}
use Rattle.reader.specs.Tag.{TagLine, Split, cut, part, last_after, trim_part, bracket_of, ends_quoted, close_at, name_of, is_quoted, value_of, is_comment, comment_of, tag_line, find_at, with_data, data_bracket, data_after, split_of}
use Rattle.reader.specs.TagBytes.{◌>>=◌, Cut, push, quoted, close, past, behind, ahead, unquote, filled, comment_bytes, TagBytes, read_tag, tag_bytes, read_split, split_bytes}
use Rattle.reader.proofs.TagLaws.{trim_twice}

-- ---- what holds of any partial answer

pub opt_cases : {A P : Type 0} (o : Option A) → (o ≡ none → P) → ((a : A) → o ≡ some a → P) → P
opt_cases none f g = f refl
opt_cases (some a) f g = g a refl

pub never : {A C : Type 0} {a : A} → ◌≡◌ {A = Option A} none (some a) → C
never e = let z : ◌≡◌ {A = ℕ} 0 1 = cc in absurd (omega arith)

pub some_inj : {A : Type 0} {a b : A} → some a ≡ some b → a ≡ b
some_inj e = cc

pub bind_some : {A B P : Type 0} (m : Option A) {f : A → Option B} {b : B} → m >>= f ≡ some b → ((a : A) → m ≡ some a → f a ≡ some b → P) → P
bind_some none e go = never e
bind_some (some a) e go = go a refl e

pub cond_some : {A : Type 0} (b : Bool) {x a : A} → cond b (some x) none ≡ some a → (b ≡ true) × (x ≡ a)
cond_some true e = (refl, cc)
cond_some false e = never e

pub push_some : {P : Type 0} (b : ℕ) (o : Option Cut) {k : Cut} → push b o ≡ some k → ((j : Cut) → o ≡ some j → k ≡ record { front = b ∷ j.front; rest = j.rest } → P) → P
push_some b none e go = never e
push_some b (some j) e go = go j refl (sym (some_inj e))

-- ---- a tag once one of its parts is known: the comment; the name, which stands at a and has n bytes; the closing bracket, at e

abbrev pub with_comment : Maybe (Maybe Span) → Tag → TagLine
with_comment o t = option_and_then (λ c. Some (t, c)) o

abbrev pub with_name : Maybe ℕ → ℕ → ℕ → List ℕ → TagLine
with_name o a e line =
    option_and_then (λ n. option_and_then (λ v. with_comment (comment_of (e + 1) line) (record { name = record { start = a; len = n }; value = v })) (value_of (a + n) e line)) o

abbrev pub with_close : Maybe ℕ → ℕ → List ℕ → TagLine
with_close o a line = option_and_then (λ e. with_name (name_of (part a e line)) a e line) o

-- Section data from e on, once the tag before it is known.
abbrev pub with_tag : TagLine → ℕ → List ℕ → Split
with_tag t e line = option_and_then (λ p. with_data p.0 (trim_part e (length line) line)) t

-- ---- fronts and trimming

pub front_whole : (p : ℕ → Bool) (s : List ℕ) → front p s ++ beyond p s ≡ s
front_whole p [] = refl
front_whole p (b ∷ bs) = by_cases (p b) (λ e. rw e (rw (front_whole p bs))) (λ e. rw e)

end_white : (l : List ℕ) (b : ℕ) → is_white b ≡ true → trim_end (l ++ b ∷ []) ≡ trim_end l
end_white [] b e = rw e
end_white (x ∷ xs) b e = rw (end_white xs b e)

pub end_last : (l : List ℕ) (b : ℕ) → is_white b ≡ false → trim_end (l ++ b ∷ []) ≡ l ++ b ∷ []
end_last [] b e = rw e
end_last (x ∷ []) b e = rw e
end_last (x ∷ y ∷ ys) b e = rw (end_last (y ∷ ys) b e)

pub keep_is : (b : ℕ) (l : List ℕ) → is_white b ≡ false → keep_end b l ≡ b ∷ l
keep_is b [] e = rw e
keep_is b (x ∷ xs) e = refl

-- A text is the white space at its start, the trimmed text, and the white space at its end.
abbrev pub trail : List ℕ → List ℕ
trail s = drop (length (trim_end s)) s

split_at : (n : ℕ) (s : List ℕ) → take n s ++ drop n s ≡ s
split_at zero s = refl
split_at (suc n) [] = refl
split_at (suc n) (b ∷ bs) = rw (split_at n bs)

end_whole : (s : List ℕ) → trim_end s ++ trail s ≡ s
end_whole s = rw take_kept at (split_at (length (trim_end s)) s)

pub trim_whole : (s : List ℕ) → lead s ++ (trimmed s ++ trail (trim_start s)) ≡ s
unfolding trimmed
trim_whole s = rw (end_whole (trim_start s)) (front_whole is_white s)

-- ---- the closing bracket: the text before it and a flag

last_snoc : (d : ℕ) (l : List ℕ) (b : ℕ) → last_after d (l ++ b ∷ []) ≡ b
last_snoc d [] b = refl
last_snoc d (x ∷ xs) b = last_snoc x xs b

ends_more : (f : List ℕ) (b : ℕ) → ends_quoted (f ++ b ∷ []) ≡ quoted (ends_quoted f) b
unfolding ends_quoted
ends_more f b = by_cases (is_white b) (λ e. rw (e, end_white f b e)) (λ e. rw (e, end_last f b e, last_snoc 0 f b))

abbrev pub place_of : ℕ → Option Cut → Maybe ℕ
place_of k none = None
place_of k (some c) = Some (k + length c.front)

place_push : (k b : ℕ) (o : Option Cut) → place_of (k + 1) o ≡ place_of k (push b o)
place_push k b none = refl
place_push k b (some c) = ap Some (omega arith)

close_is : (k : ℕ) (f s : List ℕ) (q : Bool) → ends_quoted f ≡ q → close_at k f s ≡ place_of k (close q s)
close_is k f [] q e = refl
close_is k f (b ∷ bs) q e =
    by_cases (eqb b 93 && q)
    (λ t. rw (e, t) (ap Some (omega arith)))
    (λ t. rw (e, t) (close_is (k + 1) (f ++ b ∷ []) bs (quoted q b) (rw (ends_more f b, e)) ∙ place_push k b (close (quoted q b) bs)))

pub close_at_lem : (q : Bool) (s : List ℕ) {k : Cut} → close q s ≡ some k → s ≡ k.front ++ 93 ∷ k.rest
close_at_lem q [] e = never e
close_at_lem q (b ∷ bs) e =
    by_cases (eqb b 93 && q)
    (λ t. rw (← some_inj (rw t at e)) (rw (eqb-true b 93 (both (eqb b 93) q t).0)))
    (λ t. push_some b (close (quoted q b) bs) (rw t at e) (λ j p r. rw (r, ← close_at_lem (quoted q b) bs p)))

-- White space at the end of the line is in the rest.
abbrev rest_trimmed : Option Cut → Option Cut
rest_trimmed none = none
rest_trimmed (some k) = some (record { front = k.front; rest = trim_end k.rest })

rest_push : (b : ℕ) (o : Option Cut) → push b (rest_trimmed o) ≡ rest_trimmed (push b o)
rest_push b none = refl
rest_push b (some k) = refl

white_bracket : (b : ℕ) → is_white b ≡ true → eqb b 93 ≡ false
unfolding is_white
white_bracket b w = by_cases (eqb b 93) (λ t. clash (rw (eqb-true b 93 t) at w)) (λ t. t)

close_trim : (q : Bool) (s : List ℕ) → close q (trim_end s) ≡ rest_trimmed (close q s)
close_trim q [] = refl
close_trim q (b ∷ bs) = kept (trim_end bs) refl (close_trim (quoted q b) bs)
  where
    same : (t : List ℕ) → trim_end bs ≡ t → close (quoted q b) t ≡ rest_trimmed (close (quoted q b) bs) → close q (b ∷ t) ≡ rest_trimmed (close q (b ∷ bs))
    same t d e = by_cases (eqb b 93 && q) (λ h. rw (h, d)) (λ h. rw (h, e) (rest_push b (close (quoted q b) bs)))

    kept : (t : List ℕ) → trim_end bs ≡ t → close (quoted q b) t ≡ rest_trimmed (close (quoted q b) bs) → close q (keep_end b t) ≡ rest_trimmed (close q (b ∷ bs))
    kept [] d e =
        by_cases (is_white b)
        (λ w.
        let x : close q (keep_end b []) ≡ none = rw w in
        let y : none ≡ rest_trimmed (close q (b ∷ bs)) = rw (white_bracket b w) (ap (push b) e ∙ rest_push b (close (quoted q b) bs)) in
        x ∙ y)
        (λ w. ap (close q) (keep_is b [] w) ∙ same [] d e)
    kept (c ∷ cs) d e = same (c ∷ cs) d e

-- ---- quotes

ahead_by : {P : Type 0} (d y : ℕ) (t : List ℕ) → ((u : List ℕ) → y ∷ t ≡ u ++ 34 ∷ [] → eqb (last_after d (y ∷ t)) 34 ≡ true → ahead 34 (y ∷ t) ≡ some u → P) →
    (eqb (last_after d (y ∷ t)) 34 ≡ false → ahead 34 (y ∷ t) ≡ none → P) → P
ahead_by d y [] f g = by_cases (eqb y 34) (λ e. f [] (rw (eqb-true y 34 e)) e (rw e)) (λ e. g e (rw e))
ahead_by d y (c ∷ cs) f g = ahead_by y c cs (λ u e h a. f (y ∷ u) (rw e) h (rw a)) (λ h a. g h (rw a))

-- A text in quotes is one that has something between its quotes.
value_by : {P : Type 0} (t : List ℕ) → ((u : List ℕ) → t ≡ 34 ∷ (u ++ 34 ∷ []) → is_quoted t ≡ true → unquote t ≡ some u → P) → (is_quoted t ≡ false → unquote t ≡ none → P) → P
unfolding is_quoted
value_by [] f g = g refl refl
value_by (x ∷ []) f g = g refl (by_cases (eqb x 34) (λ e. rw e) (λ e. rw e))
value_by (x ∷ y ∷ ys) f g =
    let two : ltb (suc (suc (length ys))) 2 ≡ false = le-ltb (suc (suc (length ys))) 2 (omega arith) in
    by_cases (eqb x 34)
    (λ e. ahead_by x y ys (λ u h l a. f u (rw (eqb-true x 34 e, h)) (rw (two, e, l)) (rw (e, a))) (λ l a. g (rw (two, e, l)) (rw (e, a))))
    (λ e. g (rw (two, e)) (rw e))

pub unquote_is : (t : List ℕ) {u : List ℕ} → unquote t ≡ some u → t ≡ 34 ∷ (u ++ 34 ∷ [])
unquote_is t {u} e = value_by t (λ v h q a. rw (h, some_inj (sym a ∙ e))) (λ q a. never (sym a ∙ e))

-- ---- the same answers with places as sums of lengths: a is where the body starts

abbrev pub comment_as : List ℕ → ℕ → Maybe (Maybe Span)
comment_as t s = cond (eqb (length t) 0) (Some None) (cond (is_comment t) (Some (Some (record { start = s; len = length t }))) None)

abbrev pub place_value : Option (List ℕ) → ℕ → Span → List ℕ → ℕ → TagLine
place_value none s n r c = None
place_value (some u) s n r c = with_comment (comment_as (trimmed r) (c + length (lead r))) (record { name = n; value = record { start = s; len = length u } })

abbrev pub place_name : List ℕ → ℕ → List ℕ → List ℕ → TagLine
place_name [] a w r = None
place_name (b ∷ bs) a w r =
    place_value (unquote (trimmed (b ∷ bs))) (a + length w + length (lead (b ∷ bs)) + 1) (record { start = a; len = length w }) r (a + length (w ++ b ∷ bs) + 1)

abbrev pub place_tag : Option Cut → ℕ → TagLine
place_tag none a = None
place_tag (some k) a = place_name (past_word k.front) a (word k.front) k.rest

-- t stands behind p, w and l.
stands : (p w l t y q g : List ℕ) → l ++ (t ++ y) ≡ g → take (length t) (drop (length p + length w + length l) (p ++ ((w ++ g) ++ q))) ≡ t
stands p w l t y q g e =
    let a : p ++ ((w ++ g) ++ q) ≡ (p ++ (w ++ l)) ++ (t ++ (y ++ q)) = rw (← e) (simp append_assoc) in
    let n : length p + length w + length l ≡ length (p ++ (w ++ l)) = simp length-append (omega arith) in
    rw (a, n, drop-append_seam, take-append_seam)

part_gap : (p w g q : List ℕ) → part (length p + length w) (length p + length (w ++ g)) (p ++ ((w ++ g) ++ q)) ≡ g
part_gap p w g q = rw (take-append-add p ((w ++ g) ++ q) (length (w ++ g)), take-append_seam (w ++ g) q, drop-append-add p (w ++ g) (length w), drop-append_seam w g)

value_is : (p w g q : List ℕ) {P : Type 0} →
    ((u : List ℕ) → unquote (trimmed g) ≡ some u → value_of (length p + length w) (length p + length (w ++ g)) (p ++ ((w ++ g) ++ q)) ≡ Some (record { start = length p + length w + length (lead g) + 1; len = length u }) → P) →
    (unquote (trimmed g) ≡ none → value_of (length p + length w) (length p + length (w ++ g)) (p ++ ((w ++ g) ++ q)) ≡ None → P) → P
unfolding value_of trim_part
value_is p w g q found missing =
    let c = stands p w (lead g) (trimmed g) (trail (trim_start g)) q g (trim_whole g) in
    value_by (trimmed g)
    (λ u h t e. found u e (rw (part_gap p w g q, c, t) (ap (λ (n : ℕ). Some (record { start = length p + length w + length (lead g) + 1; len = n })) (omega (arith, simp length-append at (ap length h))))))
    (λ t e. missing e (rw (part_gap p w g q, c, t)))

part_all : (p q : List ℕ) → part (length p) (length (p ++ q)) (p ++ q) ≡ q
part_all p q = rw (take-length (p ++ q), drop-append_seam)

-- t stands behind p and l.
stands_near : (p l t y r : List ℕ) → l ++ (t ++ y) ≡ r → take (length t) (drop (length p + length l) (p ++ r)) ≡ t
stands_near p l t y r e =
    let a : p ++ r ≡ (p ++ l) ++ (t ++ y) = rw (← e) (simp append_assoc) in
    let n : length p + length l ≡ length (p ++ l) = simp length-append in
    rw (a, n, drop-append_seam, take-append_seam)

comment_is : (p r : List ℕ) → comment_of (length p) (p ++ r) ≡ comment_as (trimmed r) (length p + length (lead r))
unfolding comment_of trim_part
comment_is p r =
    let c = stands_near p (lead r) (trimmed r) (trail (trim_start r)) r (trim_whole r) in
    rw (part_all p r, c)

-- What follows the bracket that closes f.
comment_behind : (p f r : List ℕ) → comment_of (length p + length f + 1) (p ++ (f ++ 93 ∷ r)) ≡ comment_as (trimmed r) (length p + length f + 1 + length (lead r))
comment_behind p f r =
    let a : p ++ (f ++ 93 ∷ r) ≡ (p ++ (f ++ 93 ∷ [])) ++ r = simp append_assoc in
    let n : length p + length f + 1 ≡ length (p ++ (f ++ 93 ∷ [])) = simp length-append (omega arith) in
    rw (a, n) (comment_is (p ++ (f ++ 93 ∷ [])) r)

name_is : (p w r : List ℕ) (b : ℕ) (bs f : List ℕ) → w ++ b ∷ bs ≡ f → word f ≡ w →
    with_name (name_of f) (length p) (length p + length f) (p ++ (f ++ 93 ∷ r)) ≡ place_name (b ∷ bs) (length p) w r
unfolding name_of
name_is p w r b bs f e ew =
    let n : length w + suc (length bs) ≡ length f = simp length-append at (ap length e) in
    rw (ew, lt-ltb (length w) (length f) (omega arith), ← e)
    (value_is p w (b ∷ bs) (93 ∷ r)
    (λ u h v. rw (h, v, comment_behind p (w ++ b ∷ bs) r))
    (λ h v. rw (h, v)))

named : (p f r : List ℕ) → with_name (name_of f) (length p) (length p + length f) (p ++ (f ++ 93 ∷ r)) ≡ place_name (past_word f) (length p) (word f) r
unfolding name_of
named p f r = by (past_word f) (front_whole is_word f)
  where
    by : (g : List ℕ) → word f ++ g ≡ f → with_name (name_of f) (length p) (length p + length f) (p ++ (f ++ 93 ∷ r)) ≡ place_name g (length p) (word f) r
    by [] e = let n : length (word f) ≡ length f = ap length (sym (append-nil (word f)) ∙ e) in rw (le-ltb (length (word f)) (length f) (omega arith))
    by (b ∷ bs) e = name_is p (word f) r b bs f e refl

-- ---- a line, by its body

tag_at : (p s : List ℕ) → with_close (close_at (length p) [] s) (length p) (p ++ s) ≡ place_tag (close false s) (length p)
unfolding ends_quoted
tag_at p s = rw (close_is (length p) [] s false refl) (by (close false s) refl)
  where
    by : (o : Option Cut) → close false s ≡ o → with_close (place_of (length p) o) (length p) (p ++ s) ≡ place_tag o (length p)
    by none e = refl
    by (some k) e =
        let w = close_at_lem false s e in
        let h : part (length p) (length p + length k.front) (p ++ (k.front ++ 93 ∷ k.rest)) ≡ k.front =
        rw (take-append-add p (k.front ++ 93 ∷ k.rest) (length k.front), take-append_seam, drop-append_seam) in
        rw (w, h) (named p k.front k.rest)

-- A line that starts with a bracket, white space apart, is the white space, the bracket and the body.
pub line_by_lem : (line : List ℕ) {P : Type 0} → ((s : List ℕ) → trim_start line ≡ 91 ∷ s → lead line ++ 91 ∷ s ≡ line → P) → (behind 91 (trimmed line) ≡ none → bracket_of line ≡ None → P) → P
unfolding bracket_of trimmed is_white
line_by_lem line {P} found missing = by (trim_start line) refl
  where
    kept : (b : ℕ) (t : List ℕ) → eqb b 91 ≡ false → behind 91 (keep_end b t) ≡ none
    kept b [] e = by_cases (is_white b) (λ w. rw w) (λ w. rw (w, e))
    kept b (c ∷ cs) e = rw e

    by : (t : List ℕ) → trim_start line ≡ t → P
    by [] e = missing (rw e) (rw e)
    by (b ∷ bs) e =
        by_cases (eqb b 91)
        (λ h. let d : trim_start line ≡ 91 ∷ bs = rw (← eqb-true b 91 h) e in found bs d (rw (← d) (front_whole is_white line)))
        (λ h. missing (rw e (kept b (trim_end bs) h)) (rw (e, h)))

bracket_is : (line s : List ℕ) → trim_start line ≡ 91 ∷ s → bracket_of line ≡ Some (length (lead line) + 1)
unfolding bracket_of
bracket_is line s e = rw e

pub trimmed_is : (line s : List ℕ) → trim_start line ≡ 91 ∷ s → trimmed line ≡ 91 ∷ trim_end s
unfolding trimmed is_white
trimmed_is line s e = rw e (keep_is 91 (trim_end s) refl)

drop_behind : (p s line : List ℕ) (n : ℕ) → line ≡ p ++ s → n ≡ length p → drop n line ≡ s
drop_behind p s line n e h = rw (e, h, drop-append_seam)

-- The answer for a line whose body is s.
pub tag_placed : (line s : List ℕ) → trim_start line ≡ 91 ∷ s → lead line ++ 91 ∷ s ≡ line → tag_line line ≡ place_tag (close false s) (length (lead line) + 1)
unfolding tag_line
tag_placed line s e w =
    let p : line ≡ (lead line ++ 91 ∷ []) ++ s = sym w ∙ simp append_assoc in
    let n : length (lead line) + 1 ≡ length (lead line ++ 91 ∷ []) = simp length-append in
    let d : drop (length (lead line) + 1) line ≡ s = drop_behind (lead line ++ 91 ∷ []) s line (length (lead line) + 1) p n in
    rw (bracket_is line s e, d, n) (ap (λ (l : List ℕ). with_close (close_at (length (lead line ++ 91 ∷ [])) [] s) (length (lead line ++ 91 ∷ [])) l) p ∙ tag_at (lead line ++ 91 ∷ []) s)

-- ---- the bytes at the places

-- The line's end, and z behind it: places stay what they are in a longer text.
bytes_comment : (t w u L : List ℕ) (n : Span) (s c : ℕ) → cut n L ≡ w → take (length u) (drop s L) ≡ u → take (length t) (drop c L) ≡ t →
    tag_bytes (with_comment (comment_as t c) (record { name = n; value = record { start = s; len = length u } })) L
    ≡ (comment_bytes t >>= λ x. some (record { name = w; value = u; comment = x }))
bytes_comment [] w u L n s c hn hv hc = rw (hn, hv)
bytes_comment (x ∷ xs) w u L n s c hn hv hc =
    let z : eqb (suc (length xs)) 0 ≡ false = ne_eqb (suc (length xs)) 0 (λ k. omega arith) in
    by_cases (is_comment (x ∷ xs)) (λ t. rw (z, t, hn, hv, hc)) (λ t. rw (z, t))

bytes_value : (o : Option (List ℕ)) (p w g r z : List ℕ) → unquote (trimmed g) ≡ o →
    tag_bytes (place_value o (length p + length w + length (lead g) + 1) (record { start = length p; len = length w }) r (length p + length (w ++ g) + 1)) ((p ++ ((w ++ g) ++ 93 ∷ r)) ++ z)
    ≡ (o >>= λ u. comment_bytes (trimmed r) >>= λ x. some (record { name = w; value = u; comment = x }))
bytes_value none p w g r z e = refl
bytes_value (some u) p w g r z e =
    let L = (p ++ ((w ++ g) ++ 93 ∷ r)) ++ z in
    let q = unquote_is (trimmed g) e in
    let gs : (lead g ++ 34 ∷ []) ++ (u ++ (34 ∷ trail (trim_start g))) ≡ g = simp append_assoc (rw (q, append_assoc) at (trim_whole g)) in
    let a1 : L ≡ p ++ (w ++ (g ++ 93 ∷ (r ++ z))) = simp append_assoc in
    let a2 : L ≡ p ++ ((w ++ g) ++ 93 ∷ (r ++ z)) = simp append_assoc in
    let hn : take (length w) (drop (length p) L) ≡ w = rw (a1, drop-append_seam, take-append_seam) in
    let n2 : length p + length w + length (lead g) + 1 ≡ length p + length w + length (lead g ++ 34 ∷ []) = simp length-append (omega arith) in
    let hv : take (length u) (drop (length p + length w + length (lead g) + 1) L) ≡ u = rw (a2, n2) (stands p w (lead g ++ 34 ∷ []) u (34 ∷ trail (trim_start g)) (93 ∷ (r ++ z)) g gs) in
    let a3 : L ≡ (p ++ ((w ++ g) ++ 93 ∷ [])) ++ (r ++ z) = simp append_assoc in
    let n3 : length p + length (w ++ g) + 1 ≡ length (p ++ ((w ++ g) ++ 93 ∷ [])) = simp length-append (omega arith) in
    let rs : lead r ++ (trimmed r ++ (trail (trim_start r) ++ z)) ≡ r ++ z = simp append_assoc at (ap (λ (l : List ℕ). l ++ z) (trim_whole r)) in
    let hc : take (length (trimmed r)) (drop (length p + length (w ++ g) + 1 + length (lead r)) L) ≡ trimmed r =
    rw (a3, n3) (stands_near (p ++ ((w ++ g) ++ 93 ∷ [])) (lead r) (trimmed r) (trail (trim_start r) ++ z) (r ++ z) rs) in
    bytes_comment (trimmed r) w u L (record { start = length p; len = length w }) (length p + length w + length (lead g) + 1) (length p + length (w ++ g) + 1 + length (lead r)) hn hv hc

bytes_name : (g p w r z : List ℕ) → tag_bytes (place_name g (length p) w r) ((p ++ ((w ++ g) ++ 93 ∷ r)) ++ z)
    ≡ (filled g >>= λ y. unquote (trimmed y) >>= λ u. comment_bytes (trimmed r) >>= λ x. some (record { name = w; value = u; comment = x }))
bytes_name [] p w r z = refl
bytes_name (b ∷ bs) p w r z = bytes_value (unquote (trimmed (b ∷ bs))) p w (b ∷ bs) r z refl

bytes_front : (f w g p r z : List ℕ) → w ++ g ≡ f → tag_bytes (place_name g (length p) w r) ((p ++ (f ++ 93 ∷ r)) ++ z)
    ≡ (filled g >>= λ y. unquote (trimmed y) >>= λ u. comment_bytes (trimmed r) >>= λ x. some (record { name = w; value = u; comment = x }))
bytes_front f w g p r z e = rw (← e) (bytes_name g p w r z)

-- The reading once the closing bracket is known.
abbrev read_closed : Option Cut → Option TagBytes
read_closed o =
    o >>= λ k. filled (past_word k.front) >>= λ y. unquote (trimmed y) >>= λ u. comment_bytes (trimmed k.rest) >>= λ x. some (record { name = word k.front; value = u; comment = x })

bytes_closed : (o : Option Cut) (p s z : List ℕ) → close false s ≡ o → tag_bytes (place_tag o (length p)) ((p ++ s) ++ z) ≡ read_closed o
bytes_closed none p s z e = refl
bytes_closed (some k) p s z e = rw (close_at_lem false s e) (bytes_front k.front (word k.front) (past_word k.front) p k.rest z (front_whole is_word k.front))

end_end : (s : List ℕ) → trim_end (trim_end s) ≡ trim_end s
end_end [] = refl
end_end (b ∷ bs) = kept (trim_end bs) (end_end bs)
  where
    kept : (t : List ℕ) → trim_end t ≡ t → trim_end (keep_end b t) ≡ keep_end b t
    kept [] e = by_cases (is_white b) (λ w. rw w) (λ w. rw (w, w))
    kept (c ∷ cs) e = rw e

trimmed_end : (s : List ℕ) → trimmed (trim_end s) ≡ trimmed s
unfolding trimmed
trimmed_end [] = refl
trimmed_end (b ∷ bs) =
    by_cases (is_white b)
    (λ w. rw w (white (trim_end bs) w (trimmed_end bs)))
    (λ w. rw (w, keep_is b (trim_end bs) w, w, end_end bs) (keep_is b (trim_end bs) w))
  where
    white : (t : List ℕ) → is_white b ≡ true → trim_end (trim_start t) ≡ trim_end (trim_start bs) → trim_end (trim_start (keep_end b t)) ≡ trim_end (trim_start bs)
    white [] w e = rw w e
    white (c ∷ cs) w e = rw w e

closed_trimmed : (o : Option Cut) → read_closed o ≡ read_closed (rest_trimmed o)
closed_trimmed none = refl
closed_trimmed (some k) = rw (trimmed_end k.rest)

pub no_tag_lem : (line : List ℕ) → bracket_of line ≡ None → tag_line line ≡ None
unfolding tag_line
no_tag_lem line n = rw n

-- What stands at a tag's places, also where more text follows the line.
pub tag_bytes_more : (line z : List ℕ) → tag_bytes (tag_line line) (line ++ z) ≡ read_tag line
unfolding read_tag
tag_bytes_more line z =
    line_by_lem line
    (λ s e w.
    let n : length (lead line) + 1 ≡ length (lead line ++ 91 ∷ []) = simp length-append in
    let l : line ≡ (lead line ++ 91 ∷ []) ++ s = sym w ∙ simp append_assoc in
    let b = bytes_closed (close false s) (lead line ++ 91 ∷ []) s z refl in
    rw (trimmed_is line s e, close_trim false s, tag_placed line s e w, n)
    (ap (λ (x : List ℕ). tag_bytes (place_tag (close false s) (length (lead line ++ 91 ∷ []))) (x ++ z)) l ∙ b ∙ closed_trimmed (close false s)))
    (λ e n. rw (e, no_tag_lem line n))

-- THEOREM. The bytes at the places of a tag line are its name, its value and its comment.
pub TagStands : (line : List ℕ) → tag_bytes (tag_line line) line ≡ read_tag line
TagStands line = rw append-nil at (tag_bytes_more line [])

-- ---- section data split off

pub past_at : (x : ℕ) (s : List ℕ) {k : Cut} → past x s ≡ some k → s ≡ k.front ++ k.rest
past_at x [] e = never e
past_at x (b ∷ bs) e =
    by_cases (eqb b x)
    (λ t. rw (← some_inj (rw t at e)))
    (λ t. push_some b (past x bs) (rw t at e) (λ j p r. rw (r, ← past_at x bs p)))

-- A search for x that starts at place k.
find_by : {P : Type 0} (x k : ℕ) (s : List ℕ) → ((c : Cut) → past x s ≡ some c → (q : ℕ) → find_at x k s ≡ Some q → q + 1 ≡ k + length c.front → P) →
    (past x s ≡ none → find_at x k s ≡ None → P) → P
find_by x k [] found missing = missing refl refl
find_by x k (b ∷ bs) found missing =
    by_cases (eqb b x)
    (λ t. found (record { front = b ∷ []; rest = bs }) (rw t) k (rw t) refl)
    (λ t.
    find_by x (k + 1) bs
    (λ c e q f n. found (record { front = b ∷ c.front; rest = c.rest }) (rw (t, e)) q (rw (t, f)) (omega arith))
    (λ e f. missing (rw (t, e)) (rw (t, f))))

bytes_data : (t : List ℕ) (tag : Tag) (a : ℕ) (L : List ℕ) → take (length t) (drop a L) ≡ t →
    split_bytes (with_data tag (record { start = a; len = length t })) L ≡ (filled t >>= λ d. some (record { name = cut tag.name L; value = cut tag.value L; section = d }))
bytes_data [] tag a L h = refl
bytes_data (x ∷ xs) tag a L h = rw (ne_eqb (suc (length xs)) 0 (λ k. omega arith), h)

bytes_pair : (t : TagLine) (f r : List ℕ) → split_bytes (with_tag t (length f) (f ++ r)) (f ++ r)
    ≡ (tag_bytes t (f ++ r) >>= λ b. filled (trimmed r) >>= λ d. some (record { name = b.name; value = b.value; section = d }))
unfolding trim_part
bytes_pair None f r = refl
bytes_pair (Some (t, None)) f r = rw (part_all f r) (bytes_data (trimmed r) t (length f + length (lead r)) (f ++ r) (stands_near f (lead r) (trimmed r) (trail (trim_start r)) r (trim_whole r)))
bytes_pair (Some (t, Some c)) f r = rw (part_all f r) (bytes_data (trimmed r) t (length f + length (lead r)) (f ++ r) (stands_near f (lead r) (trimmed r) (trail (trim_start r)) r (trim_whole r)))

-- The front f of the line, and what follows it.
bytes_after : (line f r : List ℕ) (e : ℕ) → line ≡ f ++ r → e ≡ length f →
    split_bytes (data_after e line) line ≡ (read_tag f >>= λ b. filled (trimmed r) >>= λ d. some (record { name = b.name; value = b.value; section = d }))
unfolding data_after
bytes_after line f r e h n = rw (h, n, take-append_seam f r, ← tag_bytes_more f r) (bytes_pair (tag_line f) f r)

-- THEOREM. The bytes at the places of a tag with section data are its name, its value and the data.
pub SplitStands : (line : List ℕ) → split_bytes (split_of line) line ≡ read_split line
unfolding split_of data_bracket read_split
SplitStands line =
    find_by 34 0 line
    (λ a ea o fo no.
    let wa = past_at 34 line ea in
    let da = drop_behind a.front a.rest line (o + 1) wa (omega arith) in
    rw (ea, fo, da)
    (find_by 34 (o + 1) a.rest
    (λ b eb q fq nq.
    let wb = past_at 34 a.rest eb in
    let lb : line ≡ (a.front ++ b.front) ++ b.rest = wa ∙ rw wb (simp append_assoc) in
    let db = drop_behind (a.front ++ b.front) b.rest line (q + 1) lb (simp length-append (omega arith)) in
    rw (eb, fq, db)
    (find_by 93 (q + 1) b.rest
    (λ c ec k fk nk.
    let wc = past_at 93 b.rest ec in
    let lc : line ≡ (a.front ++ (b.front ++ c.front)) ++ c.rest = lb ∙ rw wc (simp append_assoc) in
    rw (ec, fk) (bytes_after line (a.front ++ (b.front ++ c.front)) c.rest (k + 1) lc (simp length-append (omega arith))))
    (λ e f. rw (e, f))))
    (λ e f. rw (e, f))))
    (λ e f. rw (e, f))

-- ---- the trimmed line reads the same

pub trimmed_twice : (s : List ℕ) → trimmed (trimmed s) ≡ trimmed s
unfolding trimmed
trimmed_twice s = trimmed_end (trim_start s) ∙ ap trim_end (trim_twice s)

-- THEOREM. A tag is read alike from a line and from the trimmed line.
pub TagTrimmed : (line : List ℕ) → read_tag (trimmed line) ≡ read_tag line
unfolding read_tag
TagTrimmed line = rw (trimmed_twice line)

tag_white : (b : ℕ) (s : List ℕ) → is_white b ≡ true → read_tag (b ∷ s) ≡ read_tag s
unfolding read_tag trimmed
tag_white b s e = rw e

white_not : (x b : ℕ) → is_white x ≡ false → is_white b ≡ true → eqb b x ≡ false
white_not x b n w = by_cases (eqb b x) (λ t. clash (sym n ∙ rw (eqb-true b x t) at w)) (λ t. t)

past_trim : (x : ℕ) (s : List ℕ) → is_white x ≡ false → past x (trim_end s) ≡ rest_trimmed (past x s)
past_trim x [] n = refl
past_trim x (b ∷ bs) n = kept (trim_end bs) refl (past_trim x bs n)
  where
    same : (t : List ℕ) → trim_end bs ≡ t → past x t ≡ rest_trimmed (past x bs) → past x (b ∷ t) ≡ rest_trimmed (past x (b ∷ bs))
    same t d e = by_cases (eqb b x) (λ h. rw (h, d)) (λ h. rw (h, e) (rest_push b (past x bs)))

    kept : (t : List ℕ) → trim_end bs ≡ t → past x t ≡ rest_trimmed (past x bs) → past x (keep_end b t) ≡ rest_trimmed (past x (b ∷ bs))
    kept [] d e =
        by_cases (is_white b)
        (λ w. rw (w, white_not x b n w) (ap (push b) e ∙ rest_push b (past x bs)))
        (λ w. ap (past x) (keep_is b [] w) ∙ same [] d e)
    kept (c ∷ cs) d e = same (c ∷ cs) d e

split_white : (b : ℕ) (s : List ℕ) → is_white b ≡ true → read_split (b ∷ s) ≡ read_split s
unfolding read_split is_white
split_white b s w =
    opt_cases (past 34 s)
    (λ e. rw (white_not 34 b refl w, e))
    (λ a e.
    opt_cases (past 34 a.rest)
    (λ f. rw (white_not 34 b refl w, e, f))
    (λ c f.
    opt_cases (past 93 c.rest)
    (λ g. rw (white_not 34 b refl w, e, f, g))
    (λ d g. rw (white_not 34 b refl w, e, f, g, tag_white b (a.front ++ (c.front ++ d.front)) w))))

split_start : (s : List ℕ) → read_split (trim_start s) ≡ read_split s
split_start [] = refl
split_start (b ∷ bs) = by_cases (is_white b) (λ w. rw w (split_start bs ∙ sym (split_white b bs w))) (λ w. rw w)

split_end : (s : List ℕ) → read_split (trim_end s) ≡ read_split s
unfolding read_split is_white
split_end s =
    opt_cases (past 34 s)
    (λ e. rw (past_trim 34 s refl, e))
    (λ a e.
    opt_cases (past 34 a.rest)
    (λ f. rw (past_trim 34 s refl, e, past_trim 34 a.rest refl, f))
    (λ c f.
    opt_cases (past 93 c.rest)
    (λ g. rw (past_trim 34 s refl, e, past_trim 34 a.rest refl, f, past_trim 93 c.rest refl, g))
    (λ d g. rw (past_trim 34 s refl, e, past_trim 34 a.rest refl, f, past_trim 93 c.rest refl, g, trimmed_end d.rest))))

-- THEOREM. A tag with section data is read alike from a line and from the trimmed line.
pub SplitTrimmed : (line : List ℕ) → read_split (trimmed line) ≡ read_split line
unfolding trimmed
SplitTrimmed line = split_end (trim_start line) ∙ split_start line
