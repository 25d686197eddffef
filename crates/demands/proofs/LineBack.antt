-- A written line, with its LF, reads as what it was written as.
use Prim.Native.Nat.{ℕ, suc, ◌+◌}
use mathlib.Core.Path.{◌≡◌, refl, sym, ap, ◌∙◌}
use mathlib.Core.Bool.{Bool, true, false, not, ◌&&◌, ◌||◌}
use mathlib.Core.List.{List, [], ◌∷◌, ◌++◌, append_assoc}
use mathlib.Core.Option.{none, some}
use native.Mathlib.Omega.{arith}
use lib.Dec.{eqb}
use lib.ListN.{length, take, drop, length-append}
use lib.Seq.{drop-append_seam, take-append_seam}
use borrow.Author.Tests.{eqb-true, ne_eqb, not-true}
use Rattle.tables.specs.Text.{is_white, is_word, lead, trim_start, trim_end, trimmed}
use Rattle.tables.specs.Letters.{every, among}
use Rattle.tables.proofs.Laws.{by_cases, both, either, neither, clash}
use Rattle.reader.specs.declared.tag.Tag.{Tag as TagPlaces}
use Rattle.std.specs.Prelude.{Some, None}
use Rattle.reader.specs.declared.line.Line.TheVariants.{Brace, Directive, Tag, Data}
use Rattle.reader.specs.declared.line.TagReading.TheVariants.{Plain, WithComment, WithData}
use Rattle.reader.specs.Tag.{TagLine, Split, cut, trim_span, is_comment, split_of, tag_line as readTagLine, tag_text}
use Rattle.reader.specs.TagBytes.{TagBytes, tag_bytes, read_tag, good_name, good_value, unclosed}
use Rattle.reader.specs.Lines.{is_blank, has_brace, last_brace, kind_by, split_as, split_line, bracket_as, bracket_line, line_kind}
use Rattle.reader.specs.Pieces.{join_line, raw_lines}
use Rattle.reader.specs.Plain.{good_directive, good_block}
use Rattle.reader.proofs.WordLaws.{same_is, and_false}
use Rattle.reader.proofs.Tags.{never, some_inj, keep_is, trim_whole, trail, TagStands, TagTrimmed}
use Rattle.reader.proofs.TagsBack.{places_of, Good, TagsBack}
use Rattle.writer.specs.Remarks.{WrittenLine, tag_line, data_line, directive_line, block_line, line_text}
use Rattle.demands.specs.PageBack.{is_trimmed, starts_data, good_data, good_line, Shut, last, more, up_to_brace, ReadsAs, tag, section, directive, comment, block}

-- ---- bytes

pub or_true : (a : Bool) → (a || true) ≡ true
or_true true = refl
or_true false = refl

pub among_both : (x : ℕ) (l j : List ℕ) → among x l ≡ false → among x j ≡ false → among x (l ++ j) ≡ false
among_both x [] j e f = f
among_both x (b ∷ bs) j e f = let h = neither (eqb b x) (among x bs) e in rw (h.0, among_both x bs j h.1 f)

among_behind : (x : ℕ) (l j : List ℕ) → among x j ≡ true → among x (l ++ j) ≡ true
among_behind x [] j e = e
among_behind x (b ∷ bs) j e = rw (among_behind x bs j e) (or_true (eqb b x))

among_front : (x : ℕ) (l j : List ℕ) → among x l ≡ true → among x (l ++ j) ≡ true
among_front x [] j e = clash e
among_front x (b ∷ bs) j e = either (eqb b x) (among x bs) e (λ t. rw t) (λ t. rw (among_front x bs j t) (or_true (eqb b x)))

-- White space at a text's end.
end_feed : (l : List ℕ) → trim_end (l ++ 10 ∷ []) ≡ trim_end l
unfolding is_white
end_feed [] = refl
end_feed (b ∷ bs) = rw (end_feed bs)

-- ---- one line

-- A text without LF, and then an LF, is one line.
raw_one : (l r : List ℕ) → among 10 l ≡ false → raw_lines (l ++ 10 ∷ r) ≡ (l ++ 10 ∷ []) ∷ raw_lines r
raw_one [] r e = refl
raw_one (b ∷ bs) r e = let h = neither (eqb b 10) (among 10 bs) e in rw (h.0, raw_one bs r h.1)

-- A line whose first byte is not white: its kind goes by that byte, and it is not blank.
not_blank : (b : ℕ) (bs : List ℕ) → is_white b ≡ false → is_blank (b ∷ bs) ≡ false
unfolding is_blank trimmed
not_blank b bs w = rw (w, keep_is b (trim_end bs) w) (ne_eqb (suc (length (trim_end bs))) 0 (λ k. omega arith))

kind_first : (b : ℕ) (bs : List ℕ) → is_white b ≡ false → line_kind (b ∷ bs) ≡ kind_by b (b ∷ bs)
unfolding line_kind
kind_first b bs w = rw (not_blank b bs w, w)

pub cut_trim : (l : List ℕ) → cut (trim_span l) l ≡ trimmed l
unfolding trim_span
cut_trim l = ap (cut (trim_span l)) (sym (trim_whole l)) ∙ part_of (lead l) (trimmed l) (trail (trim_start l))
  where
    part_of : (a b c : List ℕ) → take (length b) (drop (length a) (a ++ (b ++ c))) ≡ b
    part_of a b c = rw (drop-append_seam, take-append_seam)

trimmed_feed : (b : ℕ) (bs : List ℕ) → is_white b ≡ false → trimmed (b ∷ (bs ++ 10 ∷ [])) ≡ trimmed (b ∷ bs)
unfolding trimmed
trimmed_feed b bs w = rw (w, end_feed bs)

-- ---- a tag

pub wrong : {P : Type 0} → ◌≡◌ {A = ℕ} 0 1 → P
wrong e = absurd (omega arith)

split_not_plain : {P : Type 0} (x : Split) {t : TagPlaces} → split_as x ≡ Tag (Plain t) → P
split_not_plain None e = wrong cc
split_not_plain (Some (u, d)) {t} e = let z : WithData u d ≡ Plain t = cc in wrong cc

-- The bytes at the places of the tag `[name "value"]`.
name_cut : (n v : List ℕ) → cut (places_of n v).name (tag_text n v) ≡ n
unfolding tag_text
name_cut n v = take-append_seam n (32 ∷ 34 ∷ (v ++ 34 ∷ 93 ∷ []))

value_cut : (n v : List ℕ) → cut (places_of n v).value (tag_text n v) ≡ v
unfolding tag_text
value_cut n v =
    let a : tag_text n v ≡ (91 ∷ (n ++ 32 ∷ 34 ∷ [])) ++ (v ++ 34 ∷ 93 ∷ []) = simp append_assoc in
    let k : length n + 3 ≡ length (91 ∷ (n ++ 32 ∷ 34 ∷ [])) = simp length-append (omega arith) in
    rw (a, k, drop-append_seam, take-append_seam)

bracket_first : (s : List ℕ) → line_kind (91 ∷ s) ≡ bracket_line (91 ∷ s)
unfolding is_white
bracket_first s = kind_first 91 s refl

plain_bytes : (n v : List ℕ) (x : TagLine) → bracket_as x (tag_text n v) ≡ Tag (Plain (places_of n v)) → tag_bytes x (tag_text n v) ≡ some (record { name = n; value = v; comment = none })
unfolding split_line
plain_bytes n v None e = split_not_plain (split_of (tag_text n v)) e
plain_bytes n v (Some (t, None)) e =
    let z : Plain t ≡ Plain (places_of n v) = cc in
    let y : t ≡ places_of n v = cc in
    rw (y, name_cut n v, value_cut n v)
plain_bytes n v (Some (t, Some c)) e = let z : WithComment t c ≡ Plain (places_of n v) = cc in wrong cc

tag_bytes_lem : (n v : List ℕ) → Good n v → read_tag (tag_text n v) ≡ some (record { name = n; value = v; comment = none })
unfolding bracket_line tag_text
tag_bytes_lem n v g =
    let s = n ++ 32 ∷ 34 ∷ (v ++ 34 ∷ 93 ∷ []) in
    sym (TagStands (91 ∷ s)) ∙ plain_bytes n v (readTagLine (91 ∷ s)) (sym (bracket_first s) ∙ TagsBack n v g.0 g.1)

-- A line that starts with a bracket and whose bytes are those of a tag without a comment.
plain_by : (n v l : List ℕ) (x : TagLine) → line_kind l ≡ bracket_as x l → tag_bytes x l ≡ some (record { name = n; value = v; comment = none }) → ReadsAs (tag_line n v) (l ∷ [])
plain_by n v l None k e = never e
plain_by n v l (Some (t, None)) k e =
    let z = some_inj e in
    tag {t = t} k (ap (λ (b : TagBytes). b.name) z) (ap (λ (b : TagBytes). b.value) z)
plain_by n v l (Some (t, Some c)) k e =
    let z : some (cut c l) ≡ none = ap (λ (b : TagBytes). b.comment) (some_inj e) in
    never (sym z)

pub word_feed : (n : List ℕ) → every is_word n ≡ true → among 10 n ≡ false
unfolding is_white
word_feed [] e = refl
word_feed (b ∷ bs) e =
    let h = both (is_word b) (every is_word bs) e in
    by_cases (eqb b 10) (λ t. clash (rw (eqb-true b 10 t) at h.0)) (λ t. rw (t, word_feed bs h.1))

tag_feed : (n v : List ℕ) → Good n v → among 10 (tag_text n v) ≡ false
unfolding good_name good_value tag_text
tag_feed n v g =
    let a = both (every is_word n) (unclosed false n) g.0 in
    let b = both (not (among 10 v)) (unclosed true v) g.1 in
    among_both 10 n (32 ∷ 34 ∷ (v ++ 34 ∷ 93 ∷ [])) (word_feed n a.0) (among_both 10 v (34 ∷ 93 ∷ []) (not-true (among 10 v) b.0) refl)

tag_back : (n v : List ℕ) → Good n v → ReadsAs (tag_line n v) ((tag_text n v ++ 10 ∷ []) ∷ [])
unfolding bracket_line tag_text is_white
tag_back n v g =
    let s = n ++ 32 ∷ 34 ∷ (v ++ 34 ∷ 93 ∷ []) in
    let l : List ℕ = 91 ∷ (s ++ 10 ∷ []) in
    let e : read_tag l ≡ read_tag (91 ∷ s) = sym (TagTrimmed l) ∙ ap read_tag (trimmed_feed 91 s refl) ∙ TagTrimmed (91 ∷ s) in
    plain_by n v l (readTagLine l) (bracket_first (s ++ 10 ∷ [])) (TagStands l ∙ e ∙ tag_bytes_lem n v g)

-- ---- data and directives

data_back : (d : List ℕ) → good_data d ≡ true → ReadsAs (data_line d) (raw_lines (d ++ 10 ∷ []))
data_back [] e = clash e
data_back (b ∷ bs) e =
    let h = both (starts_data b) (not (among 10 (b ∷ bs)) && is_trimmed (b ∷ bs)) e in
    let i = both (not (among 10 (b ∷ bs))) (is_trimmed (b ∷ bs)) h.1 in
    let w = neither (is_white b) _ (not-true _ h.0) in
    let x = neither (eqb b 123) _ w.1 in
    let y = neither (eqb b 59) _ x.1 in
    let z = neither (eqb b 37) (eqb b 91) y.1 in
    let l : List ℕ = b ∷ (bs ++ 10 ∷ []) in
    let k : line_kind l ≡ Data (trim_span l) = kind_first b (bs ++ 10 ∷ []) w.0 ∙ rw (x.0, y.0, z.0, z.1) in
    rw (raw_one (b ∷ bs) [] (not-true (among 10 (b ∷ bs)) i.0)) (section {s = trim_span l} k (cut_trim l ∙ trimmed_feed b bs w.0 ∙ same_is (trimmed (b ∷ bs)) (b ∷ bs) i.1))

-- `;` and `%`.
sign_back : (i b : ℕ) (bs : List ℕ) → is_trimmed (b ∷ bs) ≡ true → is_white b ≡ false → eqb b 123 ≡ false → (eqb b 59 || eqb b 37) ≡ true → ReadsAs (directive_line i (b ∷ bs)) ((b ∷ (bs ++ 10 ∷ [])) ∷ [])
sign_back i b bs m w n e =
    let l : List ℕ = b ∷ (bs ++ 10 ∷ []) in
    let k : line_kind l ≡ Directive (trim_span l) = kind_first b (bs ++ 10 ∷ []) w ∙ rw (n, e) in
    directive {d = b ∷ bs} {s = trim_span l} (rw n) k (cut_trim l ∙ trimmed_feed b bs w ∙ same_is (trimmed (b ∷ bs)) (b ∷ bs) m)

-- `{`, closed on the line.
brace_kind : (r : List ℕ) → line_kind (123 ∷ r) ≡ Brace
unfolding is_white
brace_kind r = kind_first 123 r refl

first_back : (i b : ℕ) (bs : List ℕ) → is_trimmed (b ∷ bs) ≡ true → (eqb b 37 || is_comment (b ∷ bs)) ≡ true → ReadsAs (directive_line i (b ∷ bs)) ((b ∷ (bs ++ 10 ∷ [])) ∷ [])
unfolding is_comment has_brace is_white
first_back i b bs n e =
    by_cases (eqb b 123)
    (λ t.
    let q = eqb-true b 123 t in
    let m : among 125 (123 ∷ bs) ≡ true = rw q at e in
    rw q (comment {d = 123 ∷ bs} refl (brace_kind (bs ++ 10 ∷ [])) (among_front 125 (123 ∷ bs) (10 ∷ []) m)))
    (λ t.
    let u : (eqb b 37 || eqb b 59) ≡ true = rw t at e in
    either (eqb b 37) (eqb b 59) u
    (λ x. let q = eqb-true b 37 x in rw q (sign_back i 37 bs (rw q at n) refl refl refl))
    (λ x. let q = eqb-true b 59 x in rw q (sign_back i 59 bs (rw q at n) refl refl refl)))

directive_back : (i : ℕ) (d : List ℕ) → good_directive d ≡ true → is_trimmed d ≡ true → ReadsAs (directive_line i d) (raw_lines (d ++ 10 ∷ []))
unfolding good_directive is_comment
directive_back i [] e n = clash e
directive_back i (b ∷ bs) e n =
    let h = both (not (among 10 (b ∷ bs))) (eqb b 37 || is_comment (b ∷ bs)) e in
    rw (raw_one (b ∷ bs) [] (not-true (among 10 (b ∷ bs)) h.0)) (first_back i b bs n h.1)

-- ---- a block

-- The last `}` of a text that ends with one and an LF.
last_brace_lem : (x : List ℕ) → last_brace (x ++ 125 ∷ 10 ∷ []) ≡ length x
last_brace_lem [] = refl
last_brace_lem (b ∷ bs) = rw (among_behind 125 bs (125 ∷ 10 ∷ []) refl, and_false (eqb b 125)) (ap suc (last_brace_lem bs))

-- Lines of commentary whose text is v.
data Inside (v : List ℕ) : List (List ℕ) → Type 0 where
  inside : {l : List ℕ} {ls : List (List ℕ)} → Shut (l ∷ ls) → up_to_brace l ls ≡ v → Inside v (l ∷ ls)

-- A text without LF, a `}` and an LF.
inside_line : (x : List ℕ) → among 10 x ≡ false → Inside x (raw_lines (x ++ 125 ∷ 10 ∷ []))
unfolding has_brace
inside_line x n =
    let a : x ++ 125 ∷ 10 ∷ [] ≡ (x ++ 125 ∷ []) ++ 10 ∷ [] = simp append_assoc in
    let l : List ℕ = x ++ 125 ∷ 10 ∷ [] in
    let q : raw_lines l ≡ l ∷ [] = ap raw_lines a ∙ raw_one (x ++ 125 ∷ []) [] (among_both 10 x (125 ∷ []) n refl) ∙ ap (λ (y : List ℕ). y ∷ []) (sym a) in
    rw q (inside (last {l = l} (among_behind 125 x (125 ∷ 10 ∷ []) refl)) (rw (last_brace_lem x, take-append_seam)))

-- A byte that is no `}` in front.
inside_byte : (b : ℕ) (v : List ℕ) (ls : List (List ℕ)) → eqb b 125 ≡ false → Inside v ls → Inside (b ∷ v) (join_line false b ls)
unfolding has_brace
inside_byte b v [] n a = elim a [ ]
inside_byte b v (l ∷ []) n (inside (more h s) u) = elim s [ ]
inside_byte b v (l ∷ []) n (inside (last h) u) = inside (last {l = b ∷ l} (rw (n, h))) (rw n (ap (λ (x : List ℕ). b ∷ x) u))
inside_byte b v (l ∷ m ∷ ms) n (inside (more h s) u) = inside (more {l = b ∷ l} (rw (n, h)) s) (ap (λ (x : List ℕ). b ∷ x) u)

inside_feed : (v : List ℕ) (ls : List (List ℕ)) → Inside v ls → Inside (10 ∷ v) ((10 ∷ []) ∷ ls)
unfolding has_brace
inside_feed v [] a = elim a [ ]
inside_feed v (l ∷ ls) (inside s u) = inside (more {l = 10 ∷ []} refl s) (ap (λ (x : List ℕ). 10 ∷ x) u)

-- The lines of what follows a block's `{`.
inside_lines : (v : List ℕ) → good_block v ≡ true → Inside v (raw_lines (v ++ 125 ∷ 10 ∷ []))
inside_lines [] e = inside_line [] refl
inside_lines (b ∷ bs) e =
    let h = both (not (eqb b 125 && among 10 bs)) (good_block bs) e in
    by_cases (eqb b 10)
    (λ t. let q = eqb-true b 10 t in rw q (inside_feed bs (raw_lines (bs ++ 125 ∷ 10 ∷ [])) (inside_lines bs h.1)))
    (λ t.
    by_cases (eqb b 125)
    (λ u.
    let n : among 10 bs ≡ false = rw u at (not-true (eqb b 125 && among 10 bs) h.0) in
    inside_line (b ∷ bs) (rw (t, n)))
    (λ u. rw t (inside_byte b bs (raw_lines (bs ++ 125 ∷ 10 ∷ [])) u (inside_lines bs h.1))))

block_by : (i : ℕ) (v : List ℕ) (ls : List (List ℕ)) → Inside v ls → ReadsAs (block_line i v) (join_line false 123 ls)
block_by i v [] a = elim a [ ]
block_by i v (l ∷ ls) (inside s u) = block (brace_kind l) s u

-- THEOREM. Each line that can be written, with its LF, reads as what it was written as.
pub LineBack : (l : WrittenLine) → good_line l ≡ true → ReadsAs l (raw_lines (line_text l))
unfolding line_text
LineBack (tag_line n v) e =
    let g = both (good_name n) (good_value v) e in
    rw (raw_one (tag_text n v) [] (tag_feed n v g)) (tag_back n v g)
LineBack (data_line d) e = data_back d e
LineBack (directive_line i d) e = let h = both (good_directive d) (is_trimmed d) e in directive_back i d h.0 h.1
LineBack (block_line i v) e = block_by i v (raw_lines (v ++ 125 ∷ 10 ∷ [])) (inside_lines v e)
