-- Laws of commentary and of lines by their first byte.
use Prim.Native.Nat.{ℕ, zero, suc, ◌+◌, ◌≤◌, ◌<◌}
use mathlib.Core.Path.{◌≡◌, refl, sym, ap, ◌∙◌}
use mathlib.Core.Bool.{true, false, cond, not, ◌||◌}
use mathlib.Core.List.{List, [], ◌∷◌}
use native.Mathlib.Nat.{le_of_eq}
use native.Mathlib.Omega.{arith}
use lib.Dec.{eqb}
use lib.ListN.{length, take, drop, get_or, length-take, length-drop, get_or-eq_default}
use lib.Seq.{drop-drop}
use borrow.Author.Tests.{eqb-true}
use Rattle.tables.specs.Text.{is_white, lead, trim_start, before}
use Rattle.tables.proofs.Laws.{by_cases}
use Rattle.std.specs.Prelude.{Some, None}
use Rattle.reader.specs.Tag.{TagLine, Split, tag_line, split_of}
use Rattle.reader.specs.Lines.{is_blank, has_brace, split_as, split_line, bracket_as, bracket_line, kind_by, line_kind}
use Rattle.tables.specs.LineWalk.{line_at}
use Rattle.reader.specs.Pieces.{raw_lines}
use Rattle.reader.specs.Sections.{opens_commentary, commentary_after}
use Rattle.reader.proofs.TagLaws.{byte_front}
use Rattle.reader.proofs.LineLaws.{blank_is}
use Rattle.reader.proofs.PieceLaws.{raw_step}

-- ---- commentary

split_no_commentary : (s : Split) (l : List ℕ) → opens_commentary (split_as s) l ≡ false
split_no_commentary (Some (t, d)) l = refl
split_no_commentary None l = refl

tag_no_commentary : (t : TagLine) (l : List ℕ) → opens_commentary (bracket_as t l) l ≡ false
unfolding split_line
tag_no_commentary None l = split_no_commentary (split_of l) l
tag_no_commentary (Some (t, None)) l = refl
tag_no_commentary (Some (t, Some c)) l = refl

by_commentary : (b : ℕ) (l : List ℕ) → opens_commentary (kind_by b l) l ≡ cond (eqb b 123) (not (has_brace l)) false
unfolding bracket_line
by_commentary b l =
    by_cases (eqb b 123)
    (λ e. rw e)
    (λ e.
    by_cases (eqb b 59 || eqb b 37)
    (λ f. rw (e, f))
    (λ f. by_cases (eqb b 91) (λ g. rw (e, f, g) (tag_no_commentary (tag_line l) l)) (λ g. rw (e, f, g))))

-- The byte after the white space at a blank line's start is none.
blank_byte : (l : List ℕ) → is_blank l ≡ true → get_or l (length (lead l)) 0 ≡ 0
blank_byte l e = get_or-eq_default l 0 (le_of_eq (sym (eqb-true (length (lead l)) (length l) (blank_is l ∙ e))))

pub commentary_opens : (l : List ℕ) → commentary_after false l ≡ cond (eqb (get_or l (length (lead l)) 0) 123) (not (has_brace l)) false
unfolding commentary_after line_kind
commentary_opens l =
    by_cases (is_blank l)
    (λ e. rw (e, blank_byte l e))
    (λ e. rw (e, byte_front is_white l) (by_commentary (get_or (trim_start l) 0 0) l))

-- ---- the next line of a text

drop_taken : (k : ℕ) (s : List ℕ) → drop (length (take k s)) s ≡ drop k s
drop_taken zero s = refl
drop_taken (suc k) [] = refl
drop_taken (suc k) (b ∷ bs) = drop_taken k bs

-- The line at the place e, with its LF.
pub record LineAt (text : List ℕ) (e : ℕ) (l : List ℕ) : Type 0 where
  pub filled : 0 < length l
  pub inside : e + length l ≤ length text
  pub bytes : l ≡ take (length l) (drop e text)
  pub lines : raw_lines (drop e text) ≡ l ∷ raw_lines (drop (e + length l) text)

pub taken_len : (k : ℕ) (s : List ℕ) → take (length (take k s)) s ≡ take k s
taken_len zero s = refl
taken_len (suc k) [] = refl
taken_len (suc k) (b ∷ bs) = ap (λ (l : List ℕ). b ∷ l) (taken_len k bs)

pub line_at_lem : (text : List ℕ) (e : ℕ) (l : List ℕ) → e < length text → l ≡ line_at text e → LineAt text e l
line_at_lem text e l h q =
    let k : ℕ = length (before 10 (drop e text)) + 1 in
    let s : List ℕ = drop e text in
    let some : 0 < length s = rw length-drop (omega arith) in
    record {
      filled = rw (q, length-take) (omega arith);
      inside = rw (q, length-take) (omega (arith, length-drop e text));
      bytes = rw q (sym (taken_len k s));
      lines = raw_step s some ∙ rw q (ap (λ (x : List ℕ). take k s ∷ raw_lines x) (sym (drop_taken k s) ∙ drop-drop (length (take k s)) e text));
    }
