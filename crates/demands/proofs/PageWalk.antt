-- The walk over the records of a written page: no line of a board closes its record.
use Prim.Native.Nat.{ℕ}
use mathlib.Core.Path.{◌≡◌, refl, sym, ap, ◌∙◌}
use mathlib.Core.Bool.{Bool, true, false, not, ◌&&◌, ◌||◌}
use mathlib.Core.List.{List, [], ◌∷◌, ◌++◌, append_assoc, append-nil}
use lib.Dec.{eqb}
use borrow.Author.Tests.{not-true}
use Rattle.tables.specs.declared.letters.Conventions.{Conventions}
use Rattle.tables.specs.Text.{ascii, is_white, trimmed}
use Rattle.tables.proofs.Laws.{by_cases, both, clash}
use Rattle.reader.specs.declared.line.Line.{Line as Kind}
use Rattle.reader.specs.declared.line.Line.TheVariants.{Blank, Brace, Directive, Tag, Bracket, Data}
use Rattle.reader.specs.declared.record.Scan.{Scan}
use Rattle.reader.specs.Store.{flat}
use Rattle.reader.specs.Lines.{is_blank, has_brace, line_kind, opens_board}
use Rattle.reader.specs.Pieces.{join_line, raw_lines}
use Rattle.reader.specs.Sections.{opens_commentary, commentary_after}
use Rattle.reader.specs.Records.{fresh, scanned, closes_record, records_from, records_of}
use Rattle.reader.specs.Tag.{tag_text}
use Rattle.reader.specs.Plain.{PlainBoard, good_directive}
use Rattle.writer.specs.Tags.{head_tags, written_tags}
use Rattle.writer.specs.Remarks.{Anchored, directives_of, blocks_of, those, is_leading, WrittenLine, tag_line, data_line, directive_line, block_line, directive_lines, block_lines, leading_lines, body_lines, line_text, lines_text}
use Rattle.writer.specs.Pages.{own_play, built_in_header, page_header, first_part, next_part, next_parts, page_text}
use Rattle.demands.specs.PageBack.{all, good_line, Shut, last, more, ReadsAs, tag, section, directive, comment, block, own_text, parts_text, part_records, page_records}
use Rattle.demands.proofs.LineBack.{or_true, LineBack}
use Rattle.reader.proofs.Seams.{flat_raw}
use Rattle.reader.proofs.EntryLaws.{All, none, one}

-- ---- the lines of a text that ends with an LF, and of what follows it

some_lines : {P : Type 0} (t : List ℕ) → ((l : List ℕ) (ls : List (List ℕ)) → raw_lines (t ++ 10 ∷ []) ≡ l ∷ ls → P) → P
some_lines [] go = go (10 ∷ []) [] refl
some_lines (b ∷ bs) go = cases (eqb b 10) (raw_lines (bs ++ 10 ∷ [])) go
  where
    cases : {P : Type 0} (t : Bool) (ls : List (List ℕ)) → ((m : List ℕ) (ms : List (List ℕ)) → join_line t b ls ≡ m ∷ ms → P) → P
    cases true ls k = k (b ∷ []) ls refl
    cases false [] k = k (b ∷ []) [] refl
    cases false (l ∷ ls) k = k (b ∷ l) ls refl

feed_lines : (t r : List ℕ) → raw_lines (t ++ 10 ∷ r) ≡ raw_lines (t ++ 10 ∷ []) ++ raw_lines r
feed_lines [] r = refl
feed_lines (b ∷ bs) r = rw (feed_lines bs r) (by_cases (eqb b 10) (λ e. rw e) (λ e. some_lines bs (λ l ls p. rw (e, p))))

feed_then : (t r : List ℕ) → raw_lines ((t ++ 10 ∷ []) ++ r) ≡ raw_lines (t ++ 10 ∷ []) ++ raw_lines r
feed_then t r = rw append_assoc (feed_lines t r)

-- A written line ends with its LF.
pub line_then : (l : WrittenLine) (r : List ℕ) → raw_lines (line_text l ++ r) ≡ raw_lines (line_text l) ++ raw_lines r
unfolding line_text
line_then (tag_line n v) r = feed_then (tag_text n v) r
line_then (data_line d) r = feed_then d r
line_then (directive_line i d) r = feed_then d r
line_then (block_line i v) r =
    let t : List ℕ = 123 ∷ (v ++ 125 ∷ []) in
    let a : 123 ∷ (v ++ 125 ∷ 10 ∷ []) ≡ t ++ 10 ∷ [] = simp append_assoc in
    ap (λ (x : List ℕ). raw_lines (x ++ r)) a ∙ feed_then t r ∙ ap (λ (x : List ℕ). raw_lines x ++ raw_lines r) (sym a)

-- ---- a walk over lines none of which closes a record

abbrev ran : Scan → List (List ℕ) → Scan
ran s [] = s
ran s (l ∷ ls) = ran (scanned s l) ls

abbrev calm : Scan → List (List ℕ) → Bool
calm s [] = true
calm s (l ∷ ls) = not (closes_record s l) && calm (scanned s l) ls

calm_walk : (s : Scan) (text : List ℕ) (ls r : List (List ℕ)) → calm s ls ≡ true → records_from s text (ls ++ r) ≡ records_from (ran s ls) (text ++ flat ls) r
calm_walk s text [] r e = rw append-nil
calm_walk s text (l ∷ ls) r e =
    let h = both (not (closes_record s l)) (calm (scanned s l) ls) e in
    rw (not-true (closes_record s l) h.0) (rw append_assoc at (calm_walk (scanned s l) (text ++ l) ls r h.1))

-- Outside commentary, and inside it; m says whether a tag was met.
abbrev pub outside : Bool → Scan
outside m = record { commentary = false; met = m }

abbrev inside : Bool → Scan
inside m = record { commentary = true; met = m }

-- Lines that stand outside commentary and close no record; o says whether they hold a tag.
record Passes (m o : Bool) (ls : List (List ℕ)) : Type 0 where
  calmly : calm (outside m) ls ≡ true
  lands : ran (outside m) ls ≡ outside (m || o)

abbrev is_filled : Kind → Bool
is_filled Blank = false
is_filled Brace = true
is_filled (Directive s) = true
is_filled (Tag t) = true
is_filled Bracket = true
is_filled (Data s) = true

not_blank : (l : List ℕ) → is_filled (line_kind l) ≡ true → is_blank l ≡ false
unfolding line_kind
not_blank l e = by_cases (is_blank l) (λ t. clash (rw t at e)) (λ t. t)

closes_none : (m : Bool) (l : List ℕ) → is_blank l ≡ false → closes_record (outside m) l ≡ false
unfolding closes_record
closes_none true l e = e
closes_none false l e = refl

one_passes : (m : Bool) (l : List ℕ) (k : Kind) → line_kind l ≡ k → is_filled k ≡ true → opens_commentary k l ≡ false → Passes m (opens_board k) (l ∷ [])
unfolding scanned commentary_after
one_passes m l k e f n =
    let b = not_blank l (rw e f) in
    record { calmly = rw (closes_none m l b); lands = rw (e, n) }

record Ends (m : Bool) (ls : List (List ℕ)) : Type 0 where
  calmly : calm (inside m) ls ≡ true
  lands : ran (inside m) ls ≡ outside m

shut_ends : (m : Bool) (ls : List (List ℕ)) → Shut ls → Ends m ls
unfolding scanned commentary_after closes_record
shut_ends m [] a = elim a [ ]
shut_ends m (l ∷ []) (last h) = record { calmly = refl; lands = rw h }
shut_ends m (l ∷ ls) (more h s) = let i = shut_ends m ls s in record { calmly = rw h i.calmly; lands = rw h i.lands }

-- ---- written lines

abbrev pub is_tag_line : WrittenLine → Bool
is_tag_line (tag_line n v) = true
is_tag_line (data_line d) = false
is_tag_line (directive_line i d) = false
is_tag_line (block_line i v) = false

or_false : (m : Bool) → (m || false) ≡ m
or_false true = refl
or_false false = refl

reads_pass : (m : Bool) (l : WrittenLine) (ls : List (List ℕ)) → ReadsAs l ls → Passes m (is_tag_line l) ls
unfolding scanned commentary_after has_brace
reads_pass m (tag_line n v) [] a = elim a [ ]
reads_pass m (tag_line n v) (l ∷ (_ ∷ _)) a = elim a [ ]
reads_pass m (data_line d) [] a = elim a [ ]
reads_pass m (data_line d) (l ∷ (_ ∷ _)) a = elim a [ ]
reads_pass m (directive_line i d) [] a = elim a [ ]
reads_pass m (directive_line i d) (l ∷ (_ ∷ _)) a = elim a [ ]
reads_pass m (block_line i v) [] a = elim a [ ]
reads_pass m (tag_line n v) (l ∷ []) (tag {t = t} k x y) = one_passes m l _ k refl refl
reads_pass m (data_line d) (l ∷ []) (section k x) = one_passes m l _ k refl refl
reads_pass m (directive_line i d) (l ∷ []) (directive g k x) = one_passes m l _ k refl refl
reads_pass m (directive_line i d) (l ∷ []) (comment g k h) = one_passes m l Brace k refl (rw h)
reads_pass m (block_line i v) (b ∷ []) (block {l = l} k (last h) u) = one_passes m (123 ∷ l) Brace k refl (rw h)
reads_pass m (block_line i v) (b ∷ ls) (block {l = l} k (more h s) u) =
    let i = shut_ends m ls s in
    let b = not_blank (123 ∷ l) (rw k) in
    record { calmly = rw (closes_none m (123 ∷ l) b, k, h, or_false m) i.calmly; lands = rw (k, h, or_false m) i.lands }

abbrev pub any_tag : List WrittenLine → Bool
any_tag [] = false
any_tag (l ∷ ls) = is_tag_line l || any_tag ls

or_assoc : (a b d : Bool) → ((a || b) || d) ≡ (a || (b || d))
or_assoc true b d = refl
or_assoc false b d = refl

-- Written lines, and what follows them; text is the record's so far.
lines_walk : (m : Bool) (text : List ℕ) (ls : List WrittenLine) (r : List ℕ) → all good_line ls ≡ true
    → records_from (outside m) text (raw_lines (lines_text ls ++ r)) ≡ records_from (outside (m || any_tag ls)) (text ++ lines_text ls) (raw_lines r)
lines_walk m text [] r e = rw (append-nil, or_false m)
lines_walk m text (l ∷ ls) r e =
    let h = both (good_line l) (all good_line ls) e in
    let p = reads_pass m l (raw_lines (line_text l)) (LineBack l h.0) in
    let i = lines_walk (m || is_tag_line l) (text ++ line_text l) ls r h.1 in
    rw (append_assoc (line_text l) (lines_text ls) r, line_then l (lines_text ls ++ r), calm_walk (outside m) text (raw_lines (line_text l)) (raw_lines (lines_text ls ++ r)) p.calmly, p.lands, flat_raw (line_text l))
    (i ∙ rw (append_assoc text (line_text l) (lines_text ls), or_assoc m (is_tag_line l) (any_tag ls)))

-- ---- a board

no_tags : (ks : List Anchored) → any_tag (directive_lines ks) ≡ false
no_tags [] = refl
no_tags (k ∷ ks) = no_tags ks

tag_behind_lem : (xs ys : List WrittenLine) → any_tag ys ≡ true → any_tag (xs ++ ys) ≡ true
tag_behind_lem [] ys e = e
tag_behind_lem (x ∷ xs) ys e = rw (tag_behind_lem xs ys e) (or_true (is_tag_line x))

-- Every board has an Event tag.
pub body_tag : (c : Conventions) (b : PlainBoard) (play : List (List ℕ)) → any_tag (body_lines b (written_tags c b play)) ≡ true
unfolding body_lines written_tags head_tags
body_tag c b play = tag_behind_lem (block_lines (those is_leading (blocks_of b))) _ refl

-- The lines of a board can be written.
pub record GoodLines (c : Conventions) (b : PlainBoard) : Type 0 where
  pub leading_good : all good_line (leading_lines b) ≡ true
  pub body_good : all good_line (body_lines b (written_tags c b (own_play c b.play))) ≡ true

-- A record's text: from its start on, and whatever follows, its lines close no record, and they hold a tag.
pub record Walked (own : List ℕ) : Type 0 where
  pub walked : (r : List ℕ) → records_from fresh [] (raw_lines (own ++ r)) ≡ records_from (outside true) own (raw_lines r)

-- Lines without a tag, and lines with one.
pub LedWalk : (hs ls : List WrittenLine) → all good_line hs ≡ true → any_tag hs ≡ false → all good_line ls ≡ true → any_tag ls ≡ true → Walked (lines_text hs ++ lines_text ls)
LedWalk hs ls g n h t =
    record {
      walked = λ r.
          rw (append_assoc (lines_text hs) (lines_text ls) r)
          (lines_walk false [] hs (lines_text ls ++ r) g ∙ rw n (lines_walk false (lines_text hs) ls r h ∙ rw t));
    }

-- ---- the header

-- An empty line before any tag closes no record.
blank_before : (text r : List ℕ) → records_from fresh text (raw_lines (10 ∷ r)) ≡ records_from fresh (text ++ 10 ∷ []) (raw_lines r)
unfolding closes_record scanned commentary_after line_kind is_blank trimmed is_white
blank_before text r = refl

-- Directives and an empty line.
directives_walk : (ls : List WrittenLine) (r : List ℕ) → all good_line ls ≡ true → any_tag ls ≡ false → records_from fresh [] (raw_lines ((lines_text ls ++ 10 ∷ []) ++ r)) ≡ records_from fresh (lines_text ls ++ 10 ∷ []) (raw_lines r)
directives_walk ls r g n =
    rw (append_assoc (lines_text ls) (10 ∷ []) r) (lines_walk false [] ls (10 ∷ r) g ∙ rw n (blank_before (lines_text ls) r))

-- The header as lines, and the empty line behind them.
abbrev pub header_lines : List WrittenLine → List WrittenLine
header_lines [] = directive_line 0 (ascii "% PBN 2.1") ∷ directive_line 1 (ascii "% EXPORT") ∷ []
header_lines (l ∷ ls) = l ∷ ls

pub header_lines_lem : (ls : List WrittenLine) → page_header ls ≡ lines_text (header_lines ls) ++ 10 ∷ []
unfolding built_in_header line_text
header_lines_lem [] = refl
header_lines_lem (l ∷ ls) = refl

pub header_good : (ls : List WrittenLine) → all good_line ls ≡ true → all good_line (header_lines ls) ≡ true
unfolding good_directive trimmed is_white
header_good [] e = refl
header_good (l ∷ ls) e = e

header_none : (ls : List WrittenLine) → any_tag ls ≡ false → any_tag (header_lines ls) ≡ false
header_none [] e = refl
header_none (l ∷ ls) e = e

header_walk : (ls : List WrittenLine) (r : List ℕ) → all good_line ls ≡ true → any_tag ls ≡ false → records_from fresh [] (raw_lines (page_header ls ++ r)) ≡ records_from fresh (page_header ls) (raw_lines r)
header_walk ls r g n = rw (header_lines_lem ls) (directives_walk (header_lines ls) r (header_good ls g) (header_none ls n))

pub HeadedWalk : (hs ls : List WrittenLine) → all good_line hs ≡ true → any_tag hs ≡ false → all good_line ls ≡ true → any_tag ls ≡ true → Walked (page_header hs ++ lines_text ls)
HeadedWalk hs ls g n h t =
    record {
      walked = λ r.
          rw (append_assoc (page_header hs) (lines_text ls) r)
          (header_walk hs (lines_text ls ++ r) g n ∙ (lines_walk false (page_header hs) ls r h ∙ rw t));
    }

own_walk : (c : Conventions) (b : PlainBoard) → GoodLines c b → Walked (own_text c b)
unfolding leading_lines
own_walk c b g =
    let play = own_play c b.play in
    LedWalk (leading_lines b) (body_lines b (written_tags c b play)) g.leading_good (no_tags (those is_leading (directives_of b))) g.body_good (body_tag c b play)

first_walk : (c : Conventions) (b : PlainBoard) → GoodLines c b → Walked (first_part c b)
unfolding first_part leading_lines
first_walk c b g =
    let play = own_play c b.play in
    HeadedWalk (leading_lines b) (body_lines b (written_tags c b play)) g.leading_good (no_tags (those is_leading (directives_of b))) g.body_good (body_tag c b play)

-- ---- the page

pub data AllLined (c : Conventions) : List PlainBoard → Type 0 where
  no_boards : AllLined c []
  a_board : {b : PlainBoard} {bs : List PlainBoard} → GoodLines c b → AllLined c bs → AllLined c (b ∷ bs)

-- The empty line between two boards closes the record of the earlier.
blank_after : (text r : List ℕ) → records_from (outside true) text (raw_lines (10 ∷ r)) ≡ (text ++ 10 ∷ []) ∷ records_from fresh [] (raw_lines r)
unfolding closes_record is_blank trimmed is_white
blank_after text r = refl

parts_after : {A : Type 0} (f : A → List ℕ) (own : List ℕ) {xs : List A} → All (λ x. Walked (f x)) xs → records_from (outside true) own (raw_lines (parts_text f xs)) ≡ part_records f own xs
parts_after f own none = refl
parts_after f own (one {x = x} {xs = xs} w a) =
    blank_after own (f x ++ parts_text f xs)
    ∙ ap (λ (rs : List (List ℕ)). (own ++ 10 ∷ []) ∷ rs) (w.walked (parts_text f xs) ∙ parts_after f (f x) a)

-- THEOREM. Texts in a row, the first of them own, have one record for each.
pub PartsRecords : {A : Type 0} (f : A → List ℕ) (own : List ℕ) (xs : List A) → Walked own → All (λ x. Walked (f x)) xs → records_of (own ++ parts_text f xs) ≡ part_records f own xs
unfolding records_of
PartsRecords f own xs w a = w.walked (parts_text f xs) ∙ parts_after f own a

-- A page without boards is the header alone.
pub NoRecords : records_of built_in_header ≡ []
unfolding records_of built_in_header closes_record scanned commentary_after line_kind is_blank trimmed is_white
NoRecords = refl

next_parts_lem : (c : Conventions) (bs : List PlainBoard) → next_parts c bs ≡ parts_text (own_text c) bs
unfolding next_part
next_parts_lem c [] = refl
next_parts_lem c (b ∷ bs) = ap (λ (t : List ℕ). (10 ∷ own_text c b) ++ t) (next_parts_lem c bs)

own_walks : (c : Conventions) (bs : List PlainBoard) → AllLined c bs → All (λ b. Walked (own_text c b)) bs
own_walks c [] no_boards = none
own_walks c (b ∷ bs) (a_board g h) = one (own_walk c b g) (own_walks c bs h)

-- THEOREM. Where every line can be written, the page has one record for each board: its lines, the header in the first.
pub LinedRecords : (c : Conventions) (bs : List PlainBoard) → AllLined c bs → records_of (page_text c bs) ≡ page_records c bs
LinedRecords c [] no_boards = NoRecords
LinedRecords c (b ∷ bs) (a_board g h) = rw (next_parts_lem c bs) (PartsRecords (own_text c) (first_part c b) bs (first_walk c b g) (own_walks c bs h))
