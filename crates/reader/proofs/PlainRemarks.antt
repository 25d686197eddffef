-- The directives and the blocks of a plain board can be written: a directive stands on one line, and no block ends before its last line.
use Rattle.std.specs.Prelude.{Option}
use Rattle.reader.specs.Boards.{in_block, block_of}
use Rattle.reader.specs.Sections.{kind_of}
use Prim.Native.Nat.{ℕ, zero, suc, ◌+◌, ◌-◌, ◌≤◌, ◌<◌}
use mathlib.Core.Path.{◌≡◌, refl, sym, ap, ◌∙◌}
use mathlib.Core.Bool.{Bool, true, false, ◌&&◌, ◌||◌, not}
use mathlib.Core.List.{List, [], ◌∷◌, ◌++◌, map}
use mathlib.Core.Option.{some}
use native.Mathlib.Omega.{arith}
use lib.Dec.{leb, eqb}
use lib.ListN.{length, take, drop, get_or, length-append}
use lib.Seq.{drop-append_seam, take-append_seam, take-add, drop-drop}
use borrow.Author.Tests.{eqb-true, eqb-false, ne_eqb, not-true, leb-true, leb-false}
use Rattle.tables.specs.declared.letters.Conventions.{Conventions}
use Rattle.tables.specs.Text.{is_white, lead, trim_start, trim_end, trimmed, past_word}
use Rattle.tables.specs.Letters.{among}
use Rattle.tables.proofs.Laws.{by_cases, both, either, neither, clash}
use Rattle.reader.specs.declared.store.Entry.{Entry}
use Rattle.reader.specs.declared.tag.Span.{Span}
use Rattle.reader.specs.declared.tag.Tag.{Tag as TagPlaces}
use Rattle.std.specs.Prelude.{Some, None}
use Rattle.reader.specs.declared.line.Line.{Line}
use Rattle.reader.specs.declared.line.Line.TheVariants.{Blank, Brace, Directive, Tag as TagOn, Data}
use Rattle.reader.specs.declared.line.TagReading.{TagReading}
use Rattle.reader.specs.declared.line.TagReading.TheVariants.{Plain, WithComment, WithData}
use Rattle.reader.specs.declared.board.State.{State}
use Rattle.reader.specs.Tag.{TagLine, Split, cut, trim_span, is_comment, tag_line, split_of}
use Rattle.reader.specs.TagBytes.{close, behind, unquote, filled, comment_bytes, TagBytes, tag_bytes, read_tag}
use Rattle.reader.specs.Lines.{is_blank, has_brace, last_brace, split_as, split_line, bracket_as, bracket_line, line_kind}
use Rattle.reader.specs.LineSteps.{LinePlaced, ReadingPlaced}
use Rattle.reader.specs.Pieces.{Out, entry}
use Rattle.reader.specs.Boards.{no_span, at, tagged, data_added, read_by, is_all_white, with_commentary, blocked, no_state, record_out}
use Rattle.reader.specs.Plain.{bytes_of, item_of, items_of, Remark, remarks_in, starts_line, without_returns, block_value, plain_by, plain_of, good_directive, good_block}
use Rattle.reader.proofs.EntryLaws.{All, none, one, all_append, all_map}
use Rattle.reader.proofs.Tags.{some_inj, bind_some, cond_some, trail, trim_whole, keep_is, close_at_lem, TagStands, TagTrimmed}
use Rattle.reader.proofs.Inside.{LineInside}
use Rattle.reader.proofs.SectionLaws.{LineAt}
use Rattle.reader.proofs.Counts.{chosen}
use Rattle.reader.proofs.PlainLaws.{PartPlaced}
use Rattle.reader.proofs.PlainTags.{feed_last, line_feed, no_feed}
use Rattle.reader.proofs.PlainSteps.{Late, closed_late, closed_keeps, HoldsOfRecord}
use Rattle.reader.proofs.TagsBack.{among_append, among_trimmed}
use Rattle.reader.proofs.TagsBack.{behind_is}

-- ---- bytes that are not among others

among_both : (x : ℕ) (l j : List ℕ) → among x l ≡ false → among x j ≡ false → among x (l ++ j) ≡ false
among_both x [] j e f = f
among_both x (b ∷ bs) j e f = let h = neither (eqb b x) (among x bs) e in rw (h.0, among_both x bs j h.1 f)

among_drop : (x n : ℕ) (l : List ℕ) → among x l ≡ false → among x (drop n l) ≡ false
among_drop x zero l e = e
among_drop x (suc n) [] e = refl
among_drop x (suc n) (b ∷ bs) e = among_drop x n bs (neither (eqb b x) (among x bs) e).1

among_take : (x n : ℕ) (l : List ℕ) → among x l ≡ false → among x (take n l) ≡ false
among_take x zero l e = refl
among_take x (suc n) [] e = refl
among_take x (suc n) (b ∷ bs) e = let h = neither (eqb b x) (among x bs) e in rw (h.0, among_take x n bs h.1)

-- ---- a directive

first_kept : (u : List ℕ) → is_white (get_or u 0 0) ≡ false → get_or (trim_end u) 0 0 ≡ get_or u 0 0
first_kept [] e = refl
first_kept (b ∷ bs) e = ap (λ (l : List ℕ). get_or l 0 0) (keep_is b (trim_end bs) e)

part_of : (a b c : List ℕ) → take (length b) (drop (length a) (a ++ (b ++ c))) ≡ b
part_of a b c = rw (drop-append_seam, take-append_seam)

cut_trim : (l : List ℕ) → cut (trim_span l) l ≡ trimmed l
unfolding trim_span
cut_trim l = ap (λ (x : List ℕ). take (length (trimmed l)) (drop (length (lead l)) x)) (sym (trim_whole l)) ∙ part_of (lead l) (trimmed l) (trail (trim_start l))

-- A line that starts with `;` or `%`.
sign_good : (l : List ℕ) → feed_last l ≡ true → (eqb (get_or (trim_start l) 0 0) 59 || eqb (get_or (trim_start l) 0 0) 37) ≡ true → good_directive (trimmed l) ≡ true
unfolding good_directive is_comment trimmed is_white
sign_good l h e =
    let b = get_or (trim_start l) 0 0 in
    let n = no_feed l h in
    either (eqb b 59) (eqb b 37) e
    (λ t.
    let k = eqb-true b 59 t in
    let f = first_kept (trim_start l) (ap is_white k) ∙ k in
    rw (n, f))
    (λ t.
    let k = eqb-true b 37 t in
    let f = first_kept (trim_start l) (ap is_white k) ∙ k in
    rw (n, f))

wrong : {P : Type 0} → ◌≡◌ {A = ℕ} 0 1 → P
wrong e = absurd (omega arith)

split_no_directive : {P : Type 0} (x : Split) {d : Span} → split_as x ≡ Directive d → P
split_no_directive None e = wrong cc
split_no_directive (Some (t, g)) e = wrong cc

bracket_no_directive : {P : Type 0} (x : TagLine) (l : List ℕ) {d : Span} → bracket_as x l ≡ Directive d → P
unfolding split_line
bracket_no_directive None l e = split_no_directive (split_of l) e
bracket_no_directive (Some (t, None)) l e = wrong cc
bracket_no_directive (Some (t, Some g)) l e = wrong cc

directive_good : (l : List ℕ) (d : Span) → feed_last l ≡ true → line_kind l ≡ Directive d → good_directive (cut d l) ≡ true
unfolding line_kind bracket_line
directive_good l d h e =
    let b = get_or (trim_start l) 0 0 in
    by_cases (is_blank l)
    (λ t. let z : Blank ≡ Directive d = rw t at e in wrong cc)
    (λ t.
    by_cases (eqb b 123)
    (λ u. let z : Brace ≡ Directive d = rw (t, u) at e in wrong cc)
    (λ u.
    by_cases (eqb b 59 || eqb b 37)
    (λ w.
    let z : Directive (trim_span l) ≡ Directive d = rw (t, u, w) at e in
    let y : trim_span l ≡ d = cc in
    rw (← y, cut_trim l) (sign_good l h w))
    (λ w.
    by_cases (eqb b 91)
    (λ x. bracket_no_directive (tag_line l) l (rw (t, u, w, x) at e))
    (λ x. let z : Data (trim_span l) ≡ Directive d = rw (t, u, w, x) at e in wrong cc))))

-- ---- a comment behind a tag

comment_is : (y : List ℕ) {x : List ℕ} → comment_bytes y ≡ some (some x) → (y ≡ x) × (is_comment y ≡ true)
comment_is [] e = wrong cc
comment_is (b ∷ bs) e = let h = cond_some (is_comment (b ∷ bs)) e in (some_inj h.1, h.0)

read_comment : (m : List ℕ) {t : TagBytes} (x : List ℕ) → among 10 m ≡ false → read_tag m ≡ some t → t.comment ≡ some x → good_directive x ≡ true
unfolding read_tag good_directive
read_comment m x h e q =
    bind_some (behind 91 (trimmed m)) e λ body e1 r1.
    bind_some (close false body) r1 λ k e2 r2.
    bind_some (filled (past_word k.front)) r2 λ g e3 r3.
    bind_some (unquote (trimmed g)) r3 λ u e4 r4.
    bind_some (comment_bytes (trimmed k.rest)) r4 λ c e5 r5.
    let z : c ≡ some x = ap (λ (t : TagBytes). t.comment) (some_inj r5) ∙ q in
    let w = comment_is (trimmed k.rest) (e5 ∙ ap some z) in
    let b : among 10 (91 ∷ body) ≡ false = rw (behind_is 91 (trimmed m) e1) at (among_trimmed 10 m h) in
    let f = (among_append 10 k.front (93 ∷ k.rest) (rw (close_at_lem false body e2) at b)).1 in
    let a = among_trimmed 10 k.rest f in
    rw (← w.0) (ends (trimmed k.rest) a w.1)
  where
    last : (b : Bool) → (b || true) ≡ true
    last true = refl
    last false = refl

    ends : (y : List ℕ) → among 10 y ≡ false → is_comment y ≡ true → (not (among 10 y) && (eqb (get_or y 0 0) 37 || is_comment y)) ≡ true
    ends y a i = rw (a, i) (last (eqb (get_or y 0 0) 37))

-- The line of such a tag.
split_no_comment : {P : Type 0} (x : Split) {t : TagPlaces} {d : Span} → split_as x ≡ TagOn (WithComment t d) → P
split_no_comment None e = wrong cc
split_no_comment (Some (u, g)) {t} {d} e = let z : WithData u g ≡ WithComment t d = cc in wrong cc

comment_by : (l : List ℕ) (t : TagPlaces) (d : Span) (x : TagLine) → feed_last l ≡ true → bracket_as x l ≡ TagOn (WithComment t d) → tag_bytes x l ≡ read_tag l → good_directive (cut d l) ≡ true
unfolding split_line
comment_by l t d None h e f = split_no_comment (split_of l) e
comment_by l t d (Some (u, None)) h e f = let z : Plain u ≡ WithComment t d = cc in wrong cc
comment_by l t d (Some (u, Some g)) h e f =
    let z : WithComment u g ≡ WithComment t d = cc in
    let y : g ≡ d = cc in
    rw (← y) (read_comment (trimmed l) (cut g l) (no_feed l h) (TagTrimmed l ∙ sym f) refl)

comment_good : (l : List ℕ) (t : TagPlaces) (d : Span) → feed_last l ≡ true → line_kind l ≡ TagOn (WithComment t d) → good_directive (cut d l) ≡ true
unfolding line_kind bracket_line
comment_good l t d h e =
    let b = get_or (trim_start l) 0 0 in
    by_cases (is_blank l)
    (λ i. let z : Blank ≡ TagOn (WithComment t d) = rw i at e in wrong cc)
    (λ i.
    by_cases (eqb b 123)
    (λ u. let z : Brace ≡ TagOn (WithComment t d) = rw (i, u) at e in wrong cc)
    (λ u.
    by_cases (eqb b 59 || eqb b 37)
    (λ w. let z : Directive (trim_span l) ≡ TagOn (WithComment t d) = rw (i, u, w) at e in wrong cc)
    (λ w.
    by_cases (eqb b 91)
    (λ x. comment_by l t d (tag_line l) h (rw (i, u, w, x) at e) (TagStands l))
    (λ x. let z : Data (trim_span l) ≡ TagOn (WithComment t d) = rw (i, u, w, x) at e in wrong cc))))

-- ---- a block

-- The last `}` of a line stands on it; what stands before a byte of a line has no LF.
brace_on : (l : List ℕ) → among 125 l ≡ true → last_brace l < length l
brace_on [] e = clash e
brace_on (b ∷ bs) e =
    by_cases (eqb b 125 && not (among 125 bs))
    (λ t. rw t (omega arith))
    (λ t. rw t (omega (arith, brace_on bs (later (eqb b 125) (among 125 bs) e t))))
  where
    later : (x y : Bool) → (x || y) ≡ true → (x && not y) ≡ false → y ≡ true
    later true true e f = refl
    later true false e f = sym f
    later false y e f = e

feed_take : (l : List ℕ) (k : ℕ) → feed_last l ≡ true → k < length l → among 10 (take k l) ≡ false
feed_take l zero e h = refl
feed_take [] (suc k) e h = absurd (omega arith)
feed_take (b ∷ []) (suc k) e h = absurd (omega arith)
feed_take (b ∷ c ∷ cs) (suc k) e h =
    let z = both (not (eqb b 10)) (feed_last (c ∷ cs)) e in
    rw (not-true (eqb b 10) z.0, feed_take (c ∷ cs) k z.1 (omega arith))

-- No `}` and then no LF.
block_end : (ys : List ℕ) → among 10 ys ≡ false → good_block ys ≡ true
block_end [] e = refl
block_end (b ∷ bs) e =
    let h = neither (eqb b 10) (among 10 bs) e in
    rw (h.1, block_end bs h.1) (no (eqb b 125))
  where
    no : (t : Bool) → (not (t && false) && true) ≡ true
    no true = refl
    no false = refl

block_append : (xs ys : List ℕ) → among 125 xs ≡ false → among 10 ys ≡ false → good_block (xs ++ ys) ≡ true
block_append [] ys e f = block_end ys f
block_append (b ∷ bs) ys e f = let h = neither (eqb b 125) (among 125 bs) e in rw (h.0, block_append bs ys h.1 f)

returns_feed : (b : List ℕ) → among 10 (without_returns b) ≡ among 10 b
returns_feed [] = refl
returns_feed (b ∷ bs) =
    by_cases (eqb b 13 && starts_line bs)
    (λ e.
    let k = eqb-true b 13 (both (eqb b 13) (starts_line bs) e).0 in
    let n : eqb b 10 ≡ false = ne_eqb b 10 (λ u. omega arith) in
    rw (e, n, returns_feed bs))
    (λ e. rw (e, returns_feed bs))

returns_good : (b : List ℕ) → good_block b ≡ true → good_block (without_returns b) ≡ true
returns_good [] h = refl
returns_good (b ∷ bs) h =
    let z = both (not (eqb b 125 && among 10 bs)) (good_block bs) h in
    by_cases (eqb b 13 && starts_line bs)
    (λ e. rw e (returns_good bs z.1))
    (λ e. rw (e, returns_feed bs, z.0, returns_good bs z.1))

-- ---- one line

-- A directive or a block of the record r that can be written.
pub record RemarkGood (r : List ℕ) (e : Entry) : Type 0 where
  pub directive : e.kind ≡ 3 → good_directive (bytes_of r e) ≡ true
  pub block : e.kind ≡ 4 → good_block (bytes_of r e) ≡ true

neither_good : (r : List ℕ) (e : Entry) → (e.kind ≡ 3 → ⊥) → (e.kind ≡ 4 → ⊥) → RemarkGood r e
neither_good r e x y = record { directive = λ u. absurd (x u); block = λ u. absurd (y u) }

late_good : (r : List ℕ) {es : List Entry} → All Late es → All (RemarkGood r) es
late_good r a = all_map (λ e l. neither_good r e (λ u. omega (arith, l.late, u)) (λ u. omega (arith, l.late, u))) a

-- While commentary is open at the place p, no `}` stands between its block's start and p.
record Clear (r : List ℕ) (p : ℕ) (commentary : Bool) (block : ℕ) : Type 0 where
  starts : commentary ≡ true → block ≤ p
  clear : commentary ≡ true → among 125 (take (p - block) (drop block r)) ≡ false

not_open : (r : List ℕ) (p : ℕ) {commentary : Bool} (block : ℕ) → commentary ≡ false → Clear r p commentary block
not_open r p block e = record { starts = λ t. clash (sym e ∙ t); clear = λ t. clash (sym e ∙ t) }

carried : {r : List ℕ} {p : ℕ} {n m : Bool} {b d : ℕ} → m ≡ n → d ≡ b → Clear r p n b → Clear r p m d
carried e f h = rw (e, f) h

-- A step: its directives and blocks can be written.
record Remarked (r : List ℕ) (p : ℕ) (s : State) (q : ℕ) (o : Out State) : Type 0 where
  good : Clear r p (in_block s) (block_of s) → All (RemarkGood r) o.entries
  after : Clear r p (in_block s) (block_of s) → Clear r q (in_block o.state) (block_of o.state)

-- From a place at or before p on to the byte k of the line at p.
extend : (r : List ℕ) (p : ℕ) (l : List ℕ) (block k : ℕ) → LineAt r p l → block ≤ p → k ≤ length l → take (p + k - block) (drop block r) ≡ take (p - block) (drop block r) ++ take k l
extend r p l block k i h j =
    let n : p + k - block ≡ p - block + k = omega arith in
    let m : block + (p - block) ≡ p + 0 = omega arith in
    rw (n, take-add (p - block) k (drop block r), drop-drop (p - block) block r, m, PartPlaced r l p 0 k i.bytes (omega arith))

brace_lead : (l : List ℕ) → line_kind l ≡ Brace → length (lead l) + 1 ≤ length l
unfolding line_kind is_blank
brace_lead l e =
    let a = simp length-append at (ap length (trim_whole l)) in
    by_cases (eqb (length (trimmed l)) 0)
    (λ t. let z : Blank ≡ Brace = rw t at e in wrong cc)
    (λ t. some_left (length (trimmed l)) (eqb-false (length (trimmed l)) 0 t) (omega arith))
  where
    some_left : (n : ℕ) → (n ≡ 0 → ⊥) → length (lead l) + n ≤ length l → length (lead l) + 1 ≤ length l
    some_left zero x y = absurd (x refl)
    some_left (suc n) x y = omega arith

module _ (c : Conventions) (r : List ℕ) (p : ℕ) (s : State) (l : List ℕ) (i : LineAt r p l) where
  quiet_remarked : in_block s ≡ true → has_brace l ≡ false → Remarked r p s (p + length l) (record { state = s; entries = [] })
  unfolding has_brace
  quiet_remarked n b =
      record {
        good = λ h. none;
        after = λ h.
            record {
              starts = λ t. omega (arith, h.starts t);
              clear = λ t. rw (extend r p l (block_of s) (length l) i (h.starts t) (omega arith)) (among_both 125 (take (p - (block_of s)) (drop (block_of s) r)) (take (length l) l) (h.clear t) (among_take 125 (length l) l b));
            };
      }

  opening_remarked : line_kind l ≡ Brace → has_brace l ≡ false → Remarked r p s (p + length l) (record { state = with_commentary s (Some (p + length (lead l) + 1)); entries = [] })
  unfolding has_brace
  opening_remarked k b =
      let x = length (lead l) + 1 in
      let y = length l - x in
      let j = brace_lead l k in
      let e : p + length (lead l) + 1 ≡ p + x = omega arith in
      let f : p + length l - (p + x) ≡ y = omega arith in
      record {
        good = λ h. none;
        after = λ h.
            record {
              starts = λ t. omega arith;
              clear = λ t. rw (e, f, PartPlaced r l p x y i.bytes (omega arith)) (among_take 125 y (drop x l) (among_drop 125 x l b));
            };
      }

  bracing_good : has_brace l ≡ true → good_block (take (p + last_brace l - (p + length (lead l) + 1)) (drop (p + length (lead l) + 1) r)) ≡ true
  unfolding has_brace
  bracing_good b =
      let x = length (lead l) + 1 in
      let y = last_brace l - x in
      let w = brace_on l b in
      let e : p + length (lead l) + 1 ≡ p + x = omega arith in
      let f : p + last_brace l - (p + x) ≡ y = omega arith in
      by_cases (leb x (last_brace l))
      (λ t.
      let u = leb-true x (last_brace l) t in
      let v : x + y ≡ last_brace l = omega arith in
      let g : among 10 (take x l ++ take y (drop x l)) ≡ false = ap (among 10) (sym (take-add x y l) ∙ ap (λ (n : ℕ). take n l) v) ∙ feed_take l (last_brace l) (line_feed r p l i) w in
      rw (e, f, PartPlaced r l p x y i.bytes (omega arith)) (block_end (take y (drop x l)) (among_append 10 (take x l) (take y (drop x l)) g).1))
      (λ t.
      let u = leb-false x (last_brace l) t in
      let v : y ≡ 0 = omega arith in
      rw (e, f, v))

  commentary_good : in_block s ≡ true → has_brace l ≡ true → Clear r p (in_block s) (block_of s) → good_block (take (p + last_brace l - (block_of s)) (drop (block_of s) r)) ≡ true
  unfolding has_brace
  commentary_good n b h =
      let w = brace_on l b in
      rw (extend r p l (block_of s) (last_brace l) i (h.starts n) (omega arith))
      (block_append (take (p - (block_of s)) (drop (block_of s) r)) (take (last_brace l) l) (h.clear n) (feed_take l (last_brace l) (line_feed r p l i) w))

  blocked_remarked : (a j : ℕ) → (Clear r p (in_block s) (block_of s) → good_block (take (j - a) (drop a r)) ≡ true) → Remarked r p s (p + length l) (blocked r s a j)
  unfolding blocked
  blocked_remarked a j g =
      record {
        good = λ h.
            chosen (λ es. All (RemarkGood r) es) (is_all_white r a j) [] (entry 4 a (j - a) s.tags ∷ []) (λ e. none)
            (λ e. one {x = entry 4 a (j - a) s.tags} (record { directive = λ u. wrong (omega arith); block = λ u. g h }) none);
        after = λ h. not_open r (p + length l) 0 refl;
      }

  directive_at : (d : Span) (z : ℕ) → d.start + d.len ≤ length l → good_directive (cut d l) ≡ true → RemarkGood r (entry 3 (p + d.start) d.len z)
  directive_at d z j g =
      record { directive = λ u. ap good_directive (PartPlaced r l p d.start d.len i.bytes j) ∙ g; block = λ u. wrong (omega arith) }

  data_good : (t : State) (d : Span) → All (RemarkGood r) (data_added t p d).entries
  data_good t d =
      chosen (λ es. All (RemarkGood r) es) (eqb (kind_of t.section) 0) [] (entry 5 (p + d.start) d.len (kind_of t.section) ∷ []) (λ e. none)
      (λ e. one {x = entry 5 (p + d.start) d.len (kind_of t.section)} (neither_good r _ (λ u. omega arith) (λ u. omega arith)) none)

  tagged_good : (q : ℕ) (t : TagPlaces) (split : Option Span) → All (RemarkGood r) (tagged c s p l q t split).entries
  unfolding tagged
  tagged_good q t split =
      one {x = entry 1 (p + t.name.start) t.name.len 0} (neither_good r _ (λ u. omega arith) (λ u. omega arith))
      (one {x = entry 2 (p + t.value.start) t.value.len 0} (neither_good r _ (λ u. omega arith) (λ u. omega arith)) none)

  reading_good : (q : ℕ) (t : TagReading) → line_kind l ≡ TagOn t → ReadingPlaced t (length l) → All (RemarkGood r) (read_by c s p l q t).entries
  reading_good q (Plain t) k j = tagged_good q t no_span
  reading_good q (WithComment t d) k j =
      all_append (tagged_good q t no_span)
      (one {x = entry 3 (p + d.start) d.len (tagged c s p l q t no_span).state.tags} (directive_at d (tagged c s p l q t no_span).state.tags j.1 (comment_good l t d (line_feed r p l i) k)) none)
  reading_good q (WithData t d) k j = all_append (tagged_good q t (Some (at p d))) (data_good (tagged c s p l q t (Some (at p d))).state d)

  reading_closed : (q : ℕ) (t : TagReading) → in_block (read_by c s p l q t).state ≡ false
  unfolding tagged
  reading_closed q (Plain t) = refl
  reading_closed q (WithComment t d) = refl
  reading_closed q (WithData t d) = refl

inside_of : (l : List ℕ) (k : Line) → line_kind l ≡ k → LinePlaced k (length l)
inside_of l k e = rw e at (LineInside l)

-- THEOREM. Every directive and every block of a record can be written.
pub RemarksGood : (c : Conventions) (r : List ℕ) → All (RemarkGood r) (record_out c r).entries
RemarksGood c r = steps.good (not_open r 0 0 refl)
  where
    steps : Remarked r 0 no_state (length r) (record_out c r)
    steps =
        HoldsOfRecord c r (Remarked r)
        record {
          together = λ p q z s o k a b. record { good = λ h. all_append (a.good h) (b.good (a.after h)); after = λ h. b.after (a.after h) };
          closing = λ p s. record { good = λ h. late_good r (closed_late c r s); after = λ h. carried (closed_keeps c r s).commentary_kept (closed_keeps c r s).block_kept h };
          idle = λ p s l i n. record { good = λ h. none; after = λ h. not_open r (p + length l) (block_of s) n };
          quiet = λ p s l i n b. quiet_remarked c r p s l i n b;
          opening = λ p s l i n k b. opening_remarked c r p s l i k b;
          bracing = λ p s l i n k b. blocked_remarked c r p s l i (p + length (lead l) + 1) (p + last_brace l) (λ h. bracing_good c r p s l i b);
          commentary = λ p s l i n b. blocked_remarked c r p s l i (block_of s) (p + last_brace l) (λ h. commentary_good c r p s l i n b h);
          directing = λ p s l d i n k.
              record {
                good = λ h. one {x = entry 3 (p + d.start) d.len s.tags} (directive_at c r p s l i d s.tags (inside_of l (Directive d) k) (directive_good l d (line_feed r p l i) k)) none;
                after = λ h. not_open r (p + length l) (block_of s) n;
              };
          dating = λ p s l d i n k. record { good = λ h. data_good c r p s l i s d; after = λ h. not_open r (p + length l) (block_of s) n };
          tagging = λ p s l t i k.
              record {
                good = λ h. reading_good c r p s l i (p + length l) t k (inside_of l (TagOn t) k);
                after = λ h. not_open r (p + length l) (block_of (read_by c s p l (p + length l) t).state) (reading_closed c r p s l i (p + length l) t);
              };
        }

-- ---- the plain board

pub record Directives (k : Remark) : Type 0 where
  pub directive_good : good_directive k.bytes ≡ true

pub record Blocks (k : Remark) : Type 0 where
  pub block_good : good_block k.bytes ≡ true

items_directives : (r : List ℕ) {es : List Entry} → All (RemarkGood r) es → All Directives (remarks_in 3 (items_of r es))
unfolding item_of
items_directives r none = none
items_directives r (one {x = e} g a) =
    by_cases (eqb e.kind 3)
    (λ t. rw t (one {x = record { bytes = bytes_of r e; before = e.z }} (record { directive_good = g.directive (eqb-true e.kind 3 t) }) (items_directives r a)))
    (λ t. rw t (items_directives r a))

items_blocks : (r : List ℕ) {es : List Entry} → All (RemarkGood r) es → All Blocks (map block_value (remarks_in 4 (items_of r es)))
unfolding item_of
items_blocks r none = none
items_blocks r (one {x = e} g a) =
    by_cases (eqb e.kind 4)
    (λ t. rw t (one {x = record { bytes = without_returns (bytes_of r e); before = e.z }} (record { block_good = returns_good (bytes_of r e) (g.block (eqb-true e.kind 4 t)) }) (items_blocks r a)))
    (λ t. rw t (items_blocks r a))

-- THEOREM. Every directive of a plain board can be written on a line of its own, and every block between braces.
pub PlainDirectives : (c : Conventions) (r : List ℕ) → All Directives (plain_of c r).directives
unfolding plain_of plain_by
PlainDirectives c r = items_directives r (RemarksGood c r)

pub PlainBlocks : (c : Conventions) (r : List ℕ) → All Blocks (plain_of c r).blocks
unfolding plain_of plain_by
PlainBlocks c r = items_blocks r (RemarksGood c r)
