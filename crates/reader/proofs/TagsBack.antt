-- A tag that is written is read back, and whatever a line yields can be written.
use Prim.Native.Nat.{ℕ, zero, suc, ◌+◌}
use mathlib.Core.Path.{◌≡◌, refl, sym, ap, ◌∙◌}
use mathlib.Core.Bool.{Bool, true, false, not, ◌&&◌, ◌||◌}
use mathlib.Core.List.{List, [], ◌∷◌, ◌++◌, append_assoc, append-nil}
use mathlib.Core.Option.{Option, some}
use native.Mathlib.Omega.{arith}
use lib.Dec.{leb, eqb}
use lib.ListN.{length, drop, get_or}
use borrow.Author.Tests.{eqb-true, ne_eqb, not-true, leb-true}
use Rattle.tables.specs.Text.{is_white, is_word, front, lead, trim_start, trim_end, trimmed, word, past_word, before}
use Rattle.tables.specs.Letters.{every, among}
use Rattle.tables.proofs.Laws.{by_cases, both, neither}
use Rattle.reader.specs.declared.tag.Tag.{Tag as TagPlaces}
use Rattle.std.specs.Prelude.{Some, None}
use Rattle.reader.specs.declared.line.TagReading.{TagReading}
use Rattle.reader.specs.declared.line.TagReading.TheVariants.{Plain, WithComment, WithData}
use Rattle.reader.specs.declared.line.Line.TheVariants.{Blank, Brace, Directive, Tag, Data}
use Rattle.reader.specs.Tag.{TagLine, Split, cut, trim_span, tag_line, split_of, tag_text}
use Rattle.reader.specs.TagBytes.{Cut, push, quoted, close, past, behind, ahead, unquote, filled, comment_bytes, TagBytes, read_tag, tag_bytes, SplitBytes, read_split, split_bytes, unclosed, good_name, good_value}
use Rattle.reader.specs.TagSteps.{is_digit}
use Rattle.reader.specs.Lines.{is_blank, split_as, split_line, bracket_as, bracket_line, line_kind}
use Rattle.reader.specs.LineSteps.{tag_in}
use Rattle.reader.proofs.Tags.{never, some_inj, bind_some, push_some, cond_some, front_whole, trail, trim_whole, end_last, close_at_lem, unquote_is, past_at, trimmed_is, tag_placed, TagStands, SplitStands}

-- ---- no bracket closes a text

-- Whether a text that starts after a quote, or not, ends with one, white space apart.
abbrev state : Bool → List ℕ → Bool
state q [] = q
state q (b ∷ bs) = state (quoted q b) bs

unclosed_append : (q : Bool) (l j : List ℕ) → unclosed q (l ++ j) ≡ true → (unclosed q l ≡ true) × (unclosed (state q l) j ≡ true)
unclosed_append q [] j e = (refl, e)
unclosed_append q (b ∷ bs) j e =
    let h = both (not (eqb b 93 && q)) (unclosed (quoted q b) (bs ++ j)) e in
    let i = unclosed_append (quoted q b) bs j h.1 in
    (rw (h.0, i.0), i.1)

close_open : (q : Bool) (s : List ℕ) {k : Cut} → close q s ≡ some k → unclosed q k.front ≡ true
close_open q [] e = never e
close_open q (b ∷ bs) e =
    by_cases (eqb b 93 && q)
    (λ t. rw (← some_inj (rw t at e)))
    (λ t. push_some b (close (quoted q b) bs) (rw t at e) (λ j p r. rw (r, t, close_open (quoted q b) bs p)))

abbrev push_all : List ℕ → Option Cut → Option Cut
push_all [] o = o
push_all (b ∷ bs) o = push b (push_all bs o)

push_all_some : (l : List ℕ) (k : Cut) → push_all l (some k) ≡ some (record { front = l ++ k.front; rest = k.rest })
push_all_some [] k = refl
push_all_some (b ∷ bs) k = rw (push_all_some bs k)

close_append : (q : Bool) (l j : List ℕ) → unclosed q l ≡ true → close q (l ++ j) ≡ push_all l (close (state q l) j)
close_append q [] j e = refl
close_append q (b ∷ bs) j e =
    let h = both (not (eqb b 93 && q)) (unclosed (quoted q b) bs) e in
    rw (not-true (eqb b 93 && q) h.0, close_append (quoted q b) bs j h.1)

-- ---- names

name_at : (n j : List ℕ) → every is_word n ≡ true → (word (n ++ 32 ∷ j) ≡ n) × (past_word (n ++ 32 ∷ j) ≡ 32 ∷ j)
unfolding is_white
name_at [] j e = (refl, refl)
name_at (b ∷ bs) j e =
    let h = both (is_word b) (every is_word bs) e in
    let i = name_at bs j h.1 in
    (rw (h.0, i.0), rw (h.0, i.1))

every_front : (p : ℕ → Bool) (s : List ℕ) → every p (front p s) ≡ true
every_front p [] = refl
every_front p (b ∷ bs) = by_cases (p b) (λ e. rw (e, e, every_front p bs)) (λ e. rw e)

-- ---- written and read back

ahead_at : (l : List ℕ) → ahead 34 (l ++ 34 ∷ []) ≡ some l
ahead_at [] = refl
ahead_at (x ∷ []) = refl
ahead_at (x ∷ y ∷ ys) = rw (ahead_at (y ∷ ys))

closes_at : (n v : List ℕ) → unclosed false n ≡ true → unclosed true v ≡ true →
    close false (n ++ 32 ∷ 34 ∷ (v ++ 34 ∷ 93 ∷ [])) ≡ some (record { front = n ++ 32 ∷ 34 ∷ (v ++ 34 ∷ []); rest = [] })
unfolding is_white
closes_at n v hn hv = rw (close_append false n (32 ∷ 34 ∷ (v ++ 34 ∷ 93 ∷ [])) hn, close_append true v (34 ∷ 93 ∷ []) hv, push_all_some v, push_all_some n)

-- The places of the tag `[name "value"]`.
abbrev pub places_of : List ℕ → List ℕ → TagPlaces
places_of n v = record { name = record { start = 1; len = length n }; value = record { start = length n + 3; len = length v } }

tag_text_lem : (n v : List ℕ) → every is_word n ≡ true → unclosed false n ≡ true → unclosed true v ≡ true → tag_line (tag_text n v) ≡ Some (places_of n v, None)
unfolding tag_text is_white trimmed
tag_text_lem n v hw hn hv =
    let s = n ++ 32 ∷ 34 ∷ (v ++ 34 ∷ 93 ∷ []) in
    let w = name_at n (34 ∷ (v ++ 34 ∷ [])) hw in
    tag_placed (91 ∷ s) s refl refl ∙
    rw (closes_at n v hn hv, w.0, w.1, end_last (34 ∷ v) 34 refl, ahead_at v)
    (ap (λ (a : ℕ). Some (record { name = record { start = 1; len = length n }; value = record { start = a; len = length v } }, None)) (omega arith))

-- A line that starts with a bracket.
pub kind_bracket : (line s : List ℕ) → trim_start line ≡ 91 ∷ s → line_kind line ≡ bracket_line line
unfolding line_kind is_blank
kind_bracket line s e = rw (trimmed_is line s e, ne_eqb (suc (length (trim_end s))) 0 (λ k. omega arith), e)

-- THEOREM. For every name and value that meet the condition, the line `[name "value"]` is a plain tag with just that name and value.
pub TagsBack : (n v : List ℕ) → good_name n ≡ true → good_value v ≡ true → line_kind (tag_text n v) ≡ Tag (Plain (places_of n v))
unfolding good_name good_value tag_text is_white bracket_line
TagsBack n v gn gv =
    let a = both (every is_word n) (unclosed false n) gn in
    let b = both (not (among 10 v)) (unclosed true v) gv in
    let s = n ++ 32 ∷ 34 ∷ (v ++ 34 ∷ 93 ∷ []) in
    kind_bracket (91 ∷ s) s refl ∙ ap (λ (t : TagLine). bracket_as t (91 ∷ s)) (tag_text_lem n v a.0 a.1 b.1)

-- ---- what a line yields

pub among_append : (x : ℕ) (l j : List ℕ) → among x (l ++ j) ≡ false → (among x l ≡ false) × (among x j ≡ false)
among_append x [] j e = (refl, e)
among_append x (b ∷ bs) j e =
    let h = neither (eqb b x) (among x (bs ++ j)) e in
    let i = among_append x bs j h.1 in
    (rw (h.0, i.0), i.1)

pub among_trimmed : (x : ℕ) (s : List ℕ) → among x s ≡ false → among x (trimmed s) ≡ false
among_trimmed x s e =
    let h : among x (lead s ++ (trimmed s ++ trail (trim_start s))) ≡ false = ap (among x) (trim_whole s) ∙ e in
    (among_append x (trimmed s) (trail (trim_start s)) (among_append x (lead s) (trimmed s ++ trail (trim_start s)) h).1).0

pub behind_is : (x : ℕ) (s : List ℕ) {r : List ℕ} → behind x s ≡ some r → s ≡ x ∷ r
behind_is x [] e = never e
behind_is x (b ∷ bs) e = let h = cond_some (eqb b x) e in cc (eqb-true b x h.0, h.1)

filled_is : (s : List ℕ) {r : List ℕ} → filled s ≡ some r → s ≡ r
filled_is [] e = never e
filled_is (b ∷ bs) e = some_inj e

-- What stands between the quotes of a text that no bracket closes.
value_open : (q : Bool) (g u : List ℕ) → unclosed q g ≡ true → trimmed g ≡ 34 ∷ (u ++ 34 ∷ []) → unclosed true u ≡ true
unfolding is_white
value_open q g u e h =
    let a : unclosed q (lead g ++ (trimmed g ++ trail (trim_start g))) ≡ true = ap (unclosed q) (trim_whole g) ∙ e in
    let b = (unclosed_append (state q (lead g)) (trimmed g) (trail (trim_start g)) (unclosed_append q (lead g) (trimmed g ++ trail (trim_start g)) a).1).0 in
    let c : unclosed (state q (lead g)) (34 ∷ (u ++ 34 ∷ [])) ≡ true = rw h at b in
    (unclosed_append true u (34 ∷ []) c).0

-- A name and a value that can be written.
abbrev pub Good : List ℕ → List ℕ → Type 0
Good n v = (good_name n ≡ true) × (good_value v ≡ true)

read_good : (line : List ℕ) {t : TagBytes} → among 10 line ≡ false → read_tag line ≡ some t → Good t.name t.value
unfolding read_tag good_name good_value
read_good line h e =
    bind_some (behind 91 (trimmed line)) e λ body e1 r1.
    bind_some (close false body) r1 λ k e2 r2.
    bind_some (filled (past_word k.front)) r2 λ g e3 r3.
    bind_some (unquote (trimmed g)) r3 λ u e4 r4.
    bind_some (comment_bytes (trimmed k.rest)) r4 λ c e5 r5.
    let b : among 10 (91 ∷ body) ≡ false = rw (behind_is 91 (trimmed line) e1) at (among_trimmed 10 line h) in
    let bf = (among_append 10 k.front (93 ∷ k.rest) (rw (close_at_lem false body e2) at b)).0 in
    let fw : word k.front ++ g ≡ k.front = ap (λ (x : List ℕ). word k.front ++ x) (sym (filled_is (past_word k.front) e3)) ∙ front_whole is_word k.front in
    let o = unclosed_append false (word k.front) g (ap (unclosed false) fw ∙ close_open false body e2) in
    let q = unquote_is (trimmed g) e4 in
    let m = (among_append 10 (word k.front) g (ap (among 10) fw ∙ bf)).1 in
    let mt : among 10 (34 ∷ (u ++ 34 ∷ [])) ≡ false = rw q at (among_trimmed 10 g m) in
    let mu = (among_append 10 u (34 ∷ []) mt).0 in
    let vo = value_open (state false (word k.front)) g u o.1 q in
    rw (← some_inj r5) (rw (every_front is_word k.front, o.0), rw (mu, vo))

split_good : (line : List ℕ) {t : SplitBytes} → among 10 line ≡ false → read_split line ≡ some t → Good t.name t.value
unfolding read_split
split_good line h e =
    bind_some (past 34 line) e λ a e1 r1.
    bind_some (past 34 a.rest) r1 λ b e2 r2.
    bind_some (past 93 b.rest) r2 λ c e3 r3.
    bind_some (read_tag (a.front ++ (b.front ++ c.front))) r3 λ t e4 r4.
    bind_some (filled (trimmed c.rest)) r4 λ d e5 r5.
    let l : line ≡ (a.front ++ (b.front ++ c.front)) ++ c.rest = past_at 34 line e1 ∙ rw (past_at 34 a.rest e2, past_at 93 b.rest e3) (simp append_assoc) in
    let m = (among_append 10 (a.front ++ (b.front ++ c.front)) c.rest (rw l at h)).0 in
    rw (← some_inj r5) (read_good (a.front ++ (b.front ++ c.front)) m e4)

-- A line that holds a tag starts with a bracket.
kind_tag : (line : List ℕ) (r : TagReading) → line_kind line ≡ Tag r → bracket_line line ≡ Tag r
unfolding line_kind
kind_tag line r e =
    let b = get_or (trim_start line) 0 0 in
    by_cases (is_blank line)
    (λ t. let z : Blank ≡ Tag r = rw t at e in cc)
    (λ t.
    by_cases (eqb b 123)
    (λ u. let z : Brace ≡ Tag r = rw (t, u) at e in cc)
    (λ u.
    by_cases (eqb b 59 || eqb b 37)
    (λ w. let z : Directive (trim_span line) ≡ Tag r = rw (t, u, w) at e in cc)
    (λ w.
    by_cases (eqb b 91)
    (λ x. rw (t, u, w, x) at e)
    (λ x. let z : Data (trim_span line) ≡ Tag r = rw (t, u, w, x) at e in cc))))

-- THEOREM. Whatever a line yields can be written: the name and the value of any tag that a line without LF holds, alone, with a comment
-- or with section data, meet the condition.
pub TagsGood : (line : List ℕ) (r : TagReading) → among 10 line ≡ false → line_kind line ≡ Tag r → Good (cut (tag_in r).name line) (cut (tag_in r).value line)
unfolding bracket_line split_line
TagsGood line r h e = whole (tag_line line) (kind_tag line r e) (TagStands line)
  where
    split : (d : Split) → split_as d ≡ Tag r → split_bytes d line ≡ read_split line → Good (cut (tag_in r).name line) (cut (tag_in r).value line)
    split None k e2 = let z : ◌≡◌ {A = ℕ} 0 1 = cc in absurd (omega arith)
    split (Some (t, d)) k e2 = let z : WithData t d ≡ r = cc in rw (← z) (split_good line h (sym e2))

    whole : (t : TagLine) → bracket_as t line ≡ Tag r → tag_bytes t line ≡ read_tag line → Good (cut (tag_in r).name line) (cut (tag_in r).value line)
    whole None k e2 = split (split_of line) k (SplitStands line)
    whole (Some (t, None)) k e2 = let z : Plain t ≡ r = cc in rw (← z) (read_good line h (sym e2))
    whole (Some (t, Some c)) k e2 = let z : WithComment t c ≡ r = cc in rw (← z) (read_good line h (sym e2))

-- ---- digits, and the text of a note

digit_bracket : (b : ℕ) → is_digit b ≡ true → eqb b 93 ≡ false
digit_bracket b e = let d = both (leb 48 b) (leb b 57) e in ne_eqb b 93 (λ k. omega (arith, leb-true b 57 d.1))

digit_feed : (b : ℕ) → is_digit b ≡ true → eqb b 10 ≡ false
digit_feed b e = let d = both (leb 48 b) (leb b 57) e in ne_eqb b 10 (λ k. omega (arith, leb-true 48 b d.0))

-- Digits before a text that no bracket closes.
digits_open : (q : Bool) (d r : List ℕ) → every is_digit d ≡ true → ((t : Bool) → unclosed t r ≡ true) → unclosed q (d ++ r) ≡ true
digits_open q [] r e h = h q
digits_open q (b ∷ bs) r e h =
    let k = both (is_digit b) (every is_digit bs) e in
    rw (digit_bracket b k.0, digits_open (quoted q b) bs r k.1 h)

digits_line : (d r : List ℕ) → every is_digit d ≡ true → among 10 r ≡ false → among 10 (d ++ r) ≡ false
digits_line [] r e h = h
digits_line (b ∷ bs) r e h =
    let k = both (is_digit b) (every is_digit bs) e in
    rw (digit_feed b k.0, digits_line bs r k.1 h)

-- THEOREM. Digits can be written.
pub DigitsGood : (d : List ℕ) → every is_digit d ≡ true → good_value d ≡ true
unfolding good_value
DigitsGood d e =
    let a = rw append-nil at (digits_line d [] e refl) in
    let b = rw append-nil at (digits_open true d [] e (λ t. refl)) in
    rw (a, b)

-- What follows the first colon.
abbrev pub after_colon : List ℕ → List ℕ
after_colon v = drop (length (before 58 v) + 1) v

colon_open : (q : Bool) (v : List ℕ) → unclosed q v ≡ true → unclosed false (after_colon v) ≡ true
unfolding is_white
colon_open q [] e = refl
colon_open q (b ∷ bs) e =
    let h = both (not (eqb b 93 && q)) (unclosed (quoted q b) bs) e in
    by_cases (eqb b 58)
    (λ t. rw t (rw (eqb-true b 58 t) at h.1))
    (λ t.
    let d : suc (length (before 58 bs)) + 1 ≡ suc (length (before 58 bs) + 1) = omega arith in
    rw (t, d) (colon_open (quoted q b) bs h.1))

among_drop : (x n : ℕ) (s : List ℕ) → among x s ≡ false → among x (drop n s) ≡ false
among_drop x zero s e = e
among_drop x (suc n) [] e = e
among_drop x (suc n) (b ∷ bs) e = among_drop x n bs (neither (eqb b x) (among x bs) e).1

-- THEOREM. Digits, a colon and what follows the first colon of a value that can be written, as in a note, can be written.
pub NotesGood : (d v : List ℕ) → every is_digit d ≡ true → good_value v ≡ true → good_value (d ++ 58 ∷ after_colon v) ≡ true
unfolding good_value is_white
NotesGood d v e g =
    let k = both (not (among 10 v)) (unclosed true v) g in
    let a = among_drop 10 (length (before 58 v) + 1) v (not-true (among 10 v) k.0) in
    let b = colon_open true v k.1 in
    rw (digits_line d (58 ∷ after_colon v) e a, digits_open true d (58 ∷ after_colon v) e (λ t. b))
