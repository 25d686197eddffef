-- No directive of a plain board has white space at either end.
use Prim.Native.Nat.{ℕ, ◌+◌}
use mathlib.Core.Path.{◌≡◌, refl, sym, ap, ◌∙◌}
use mathlib.Core.Bool.{Bool, true, false, ◌||◌}
use mathlib.Core.List.{List, [], ◌∷◌, ◌++◌}
use mathlib.Core.Option.{some}
use lib.Dec.{eqb}
use lib.ListN.{length, get_or}
use Rattle.tables.specs.declared.letters.Conventions.{Conventions}
use Rattle.tables.specs.Text.{trim_start, trimmed, past_word}
use Rattle.tables.proofs.Laws.{by_cases, both}
use Rattle.std.specs.Prelude.{Some, None}
use Rattle.reader.specs.Tag.{TagLine, Split, cut, trim_span, is_comment, split_of, tag_line}
use Rattle.reader.specs.TagBytes.{close, behind, unquote, filled, comment_bytes, TagBytes, tag_bytes, read_tag}
use Rattle.reader.specs.Lines.{is_blank, split_as, split_line, bracket_as, bracket_line, line_kind}
use Rattle.reader.specs.Pieces.{raw_lines}
use Rattle.reader.specs.Sections.{commentary_after}
use Rattle.reader.specs.Plain.{Remark, plain_of}
use Rattle.reader.proofs.WordLaws.{same_self}
use Rattle.reader.proofs.Tags.{some_inj, bind_some, cond_some, TagStands, trimmed_twice}
use Rattle.demands.specs.PageBack.{all, is_trimmed}
use Rattle.reader.proofs.LineTags.{directives_on, line_tags, line_directives, directives_of_lines, DirectivesOfLines}
use Rattle.demands.proofs.LineBack.{wrong, cut_trim}

pub all_append : {A : Type 0} (p : A → Bool) (xs ys : List A) → all p xs ≡ true → all p ys ≡ true → all p (xs ++ ys) ≡ true
all_append p [] ys e f = f
all_append p (x ∷ xs) ys e f = let h = both (p x) (all p xs) e in rw (h.0, all_append p xs ys h.1 f)

abbrev bytes_trimmed : Remark → Bool
bytes_trimmed k = is_trimmed k.bytes

is_trimmed_lem : (s t : List ℕ) → s ≡ trimmed t → is_trimmed s ≡ true
is_trimmed_lem s t e = rw (e, trimmed_twice t) (same_self (trimmed t))

-- A comment behind a tag.
comment_is : (y : List ℕ) {x : List ℕ} → comment_bytes y ≡ some (some x) → x ≡ y
comment_is [] e = wrong cc
comment_is (b ∷ bs) e = sym (some_inj (cond_some (is_comment (b ∷ bs)) e).1)

comment_trimmed : (l x : List ℕ) {t : TagBytes} → read_tag l ≡ some t → t.comment ≡ some x → is_trimmed x ≡ true
unfolding read_tag
comment_trimmed l x e q =
    bind_some (behind 91 (trimmed l)) e λ body e1 r1.
    bind_some (close false body) r1 λ k e2 r2.
    bind_some (filled (past_word k.front)) r2 λ g e3 r3.
    bind_some (unquote (trimmed g)) r3 λ u e4 r4.
    bind_some (comment_bytes (trimmed k.rest)) r4 λ c e5 r5.
    let z : c ≡ some x = ap (λ (t : TagBytes). t.comment) (some_inj r5) ∙ q in
    is_trimmed_lem x k.rest (comment_is (trimmed k.rest) (e5 ∙ ap some z))

split_trimmed : (x : Split) (l : List ℕ) (n : ℕ) → all bytes_trimmed (directives_on (split_as x) l n) ≡ true
split_trimmed None l n = refl
split_trimmed (Some (t, d)) l n = refl

bracket_trimmed : (x : TagLine) (l : List ℕ) (n : ℕ) → tag_bytes x l ≡ read_tag l → all bytes_trimmed (directives_on (bracket_as x l) l n) ≡ true
unfolding split_line
bracket_trimmed None l n e = split_trimmed (split_of l) l n
bracket_trimmed (Some (t, None)) l n e = refl
bracket_trimmed (Some (t, Some d)) l n e = rw (comment_trimmed l (cut d l) (sym e) refl)

kind_trimmed : (l : List ℕ) (n : ℕ) → all bytes_trimmed (directives_on (line_kind l) l n) ≡ true
unfolding line_kind bracket_line
kind_trimmed l n =
    let b = get_or (trim_start l) 0 0 in
    by_cases (is_blank l)
    (λ t. rw t)
    (λ t.
    by_cases (eqb b 123)
    (λ u. rw (t, u))
    (λ u.
    by_cases (eqb b 59 || eqb b 37)
    (λ w. rw (t, u, w, is_trimmed_lem (cut (trim_span l) l) l (cut_trim l)))
    (λ w. by_cases (eqb b 91) (λ x. rw (t, u, w, x) (bracket_trimmed (tag_line l) l n (TagStands l))) (λ x. rw (t, u, w, x)))))

line_trimmed : (commentary : Bool) (l : List ℕ) (n : ℕ) → all bytes_trimmed (line_directives commentary l n) ≡ true
unfolding line_directives
line_trimmed true l n = refl
line_trimmed false l n = kind_trimmed l n

lines_trimmed : (commentary : Bool) (n : ℕ) (ls : List (List ℕ)) → all bytes_trimmed (directives_of_lines commentary n ls) ≡ true
lines_trimmed commentary n [] = refl
lines_trimmed commentary n (l ∷ ls) =
    all_append bytes_trimmed (line_directives commentary l n) (directives_of_lines (commentary_after commentary l) (n + length (line_tags commentary l)) ls)
    (line_trimmed commentary l n) (lines_trimmed (commentary_after commentary l) (n + length (line_tags commentary l)) ls)

-- THEOREM. The directives of a plain board are trimmed.
pub PlainTrimmed : (c : Conventions) (r : List ℕ) → all (λ k. is_trimmed k.bytes) (plain_of c r).directives ≡ true
PlainTrimmed c r = rw (DirectivesOfLines c r) (lines_trimmed false 0 (raw_lines r))
