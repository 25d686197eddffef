-- Every place that a line's answer has lies inside the line.
use Prim.Native.Nat.{ℕ, suc, ◌+◌, ◌≤◌}
use mathlib.Core.Path.{◌≡◌, refl, ap}
use mathlib.Core.Bool.{false, ◌||◌}
use mathlib.Core.List.{List, [], ◌∷◌, ◌++◌, append_assoc}
use mathlib.Core.Option.{Option, none, some}
use native.Mathlib.Omega.{arith}
use lib.Dec.{eqb}
use lib.ListN.{length, take, get_or, length-append, length-take}
use borrow.Author.Tests.{ne_eqb, eqb-false}
use Rattle.tables.specs.Text.{is_word, lead, trim_start, trimmed, word, past_word}
use Rattle.tables.proofs.Laws.{by_cases}
use Rattle.reader.specs.declared.tag.Tag.{Tag as TagPlaces}
use Rattle.std.specs.Prelude.{Option as Maybe, Some, None, option_and_then}
use Rattle.reader.specs.Tag.{TagLine, Split, part, trim_span, trim_part, is_comment, tag_line, with_data, data_bracket, data_after, split_of}
use Rattle.reader.specs.TagSteps.{TagPlaced, TagInside, SpanInside, SplitPlaced}
use Rattle.reader.specs.TagBytes.{Cut, close, unquote}
use Rattle.reader.specs.Lines.{is_blank, split_as, split_line, bracket_as, bracket_line, line_kind}
use Rattle.reader.specs.LineSteps.{LinePlaced}
use Rattle.reader.proofs.TagLaws.{length_part}
use Rattle.reader.proofs.Tags.{with_comment, with_tag, trim_whole, front_whole, close_at_lem, unquote_is, comment_as, place_value, place_name, place_tag, line_by_lem, tag_placed, no_tag_lem}

-- The trimmed text, and the white space before it, are no longer than the text.
pub trim_length : (s : List ℕ) → length (lead s) + length (trimmed s) ≤ length s
trim_length s = omega (arith, simp length-append at (ap length (trim_whole s)))

inside_comment : (t : List ℕ) (g : TagPlaces) (n c : ℕ) → TagInside g n → c + length t ≤ n → TagPlaced (with_comment (comment_as t c) g) n
inside_comment [] g n c h k = (h, tt)
inside_comment (x ∷ xs) g n c h k =
    let z : eqb (suc (length xs)) 0 ≡ false = ne_eqb (suc (length xs)) 0 (λ e. omega arith) in
    by_cases (is_comment (x ∷ xs)) (λ t. rw (z, t) (h, k)) (λ t. rw (z, t) tt)

inside_value : (o : Option (List ℕ)) (p w g r : List ℕ) → unquote (trimmed g) ≡ o →
    TagPlaced (place_value o (length p + length w + length (lead g) + 1) (record { start = length p; len = length w }) r (length p + length (w ++ g) + 1)) (length (p ++ ((w ++ g) ++ 93 ∷ r)))
inside_value none p w g r e = tt
inside_value (some u) p w g r e =
    let q = simp length-append at (ap length (unquote_is (trimmed g) e)) in
    let a = trim_length g in
    let b = trim_length r in
    inside_comment (trimmed r) _ (length (p ++ ((w ++ g) ++ 93 ∷ r))) (length p + length (w ++ g) + 1 + length (lead r))
    (record { name_inside = simp length-append (omega arith); value_inside = simp length-append (omega arith) })
    (simp length-append (omega arith))

inside_name : (g p w r f : List ℕ) → w ++ g ≡ f → TagPlaced (place_name g (length p) w r) (length (p ++ (f ++ 93 ∷ r)))
inside_name [] p w r f e = tt
inside_name (b ∷ bs) p w r f e = rw (← e) (inside_value (unquote (trimmed (b ∷ bs))) p w (b ∷ bs) r refl)

inside_closed : (o : Option Cut) (p s : List ℕ) → close false s ≡ o → TagPlaced (place_tag o (length p)) (length (p ++ s))
inside_closed none p s e = tt
inside_closed (some k) p s e = rw (close_at_lem false s e) (inside_name (past_word k.front) p (word k.front) k.rest k.front (front_whole is_word k.front))

pub TagInsideLine : (line : List ℕ) → TagPlaced (tag_line line) (length line)
TagInsideLine line =
    line_by_lem line
    (λ s e w.
    let n : length (lead line) + 1 ≡ length (lead line ++ 91 ∷ []) = simp length-append in
    let a : (lead line ++ 91 ∷ []) ++ s ≡ line = simp append_assoc w in
    let l : length ((lead line ++ 91 ∷ []) ++ s) ≡ length line = ap length a in
    rw (tag_placed line s e w, n, ← l) (inside_closed (close false s) (lead line ++ 91 ∷ []) s refl))
    (λ e n. rw (no_tag_lem line n) tt)

-- ---- section data, and every kind of line

-- A part that is not empty once it is trimmed lies inside the line.
part_inside : (e : ℕ) (line : List ℕ) → ((trim_part e (length line) line).len ≡ 0 → ⊥) → SpanInside (trim_part e (length line) line) (length line)
unfolding trim_part
part_inside e line h =
    let t = trim_length (part e (length line) line) in
    let k = length_part e (length line) line in
    omega (arith, h)

wider : (g : TagPlaces) (m n : ℕ) → m ≤ n → TagInside g m → TagInside g n
wider g m n h i = record { name_inside = omega (arith, i.name_inside); value_inside = omega (arith, i.value_inside) }

inside_data : (g : TagPlaces) (e : ℕ) (line : List ℕ) → TagInside g (length (take e line)) → SplitPlaced (with_data g (trim_part e (length line) line)) (length line)
inside_data g e line h =
    let l : length (take e line) ≤ length line = rw length-take (omega arith) in
    by_cases (eqb (trim_part e (length line) line).len 0)
    (λ t. rw t tt)
    (λ t. rw t (wider g (length (take e line)) (length line) l h, part_inside e line (eqb-false _ 0 t)))

inside_pair : (t : TagLine) (e : ℕ) (line : List ℕ) → TagPlaced t (length (take e line)) → SplitPlaced (with_tag t e line) (length line)
inside_pair None e line h = tt
inside_pair (Some (t, None)) e line h = inside_data t e line h.0
inside_pair (Some (t, Some c)) e line h = inside_data t e line h.0

inside_split : (c : Maybe ℕ) (line : List ℕ) → SplitPlaced (option_and_then (λ k. data_after (k + 1) line) c) (length line)
unfolding data_after
inside_split None line = tt
inside_split (Some k) line = inside_pair (tag_line (take (k + 1) line)) (k + 1) line (TagInsideLine (take (k + 1) line))

pub SplitInsideLine : (line : List ℕ) → SplitPlaced (split_of line) (length line)
unfolding split_of
SplitInsideLine line = inside_split (data_bracket line) line

inside_as : (d : Split) (n : ℕ) → SplitPlaced d n → LinePlaced (split_as d) n
inside_as None n h = tt
inside_as (Some (t, d)) n h = h

inside_bracket : (t : TagLine) (line : List ℕ) → TagPlaced t (length line) → LinePlaced (bracket_as t line) (length line)
unfolding split_line
inside_bracket None line h = inside_as (split_of line) (length line) (SplitInsideLine line)
inside_bracket (Some (t, None)) line h = h.0
inside_bracket (Some (t, Some c)) line h = h

span_inside : (line : List ℕ) → SpanInside (trim_span line) (length line)
unfolding trim_span
span_inside line = trim_length line

-- THEOREM. Every place in a line's kind lies inside the line.
pub LineInside : (line : List ℕ) → LinePlaced (line_kind line) (length line)
unfolding line_kind bracket_line
LineInside line =
    let b = get_or (trim_start line) 0 0 in
    by_cases (is_blank line)
    (λ t. rw t tt)
    (λ t.
    by_cases (eqb b 123)
    (λ u. rw (t, u) tt)
    (λ u.
    by_cases (eqb b 59 || eqb b 37)
    (λ w. rw (t, u, w) (span_inside line))
    (λ w.
    by_cases (eqb b 91)
    (λ x. rw (t, u, w, x) (inside_bracket (tag_line line) line (TagInsideLine line)))
    (λ x. rw (t, u, w, x) (span_inside line)))))
