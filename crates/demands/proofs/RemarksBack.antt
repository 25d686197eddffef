-- The directives and the blocks of a written page's records are those of its boards, each under the tag line above it.
use Prim.Native.Nat.{ℕ, suc, ◌+◌, ◌-◌, ◌<◌}
use mathlib.Core.Path.{◌≡◌, refl, sym, ap, ◌∙◌}
use mathlib.Core.Bool.{Bool, true, false, cond}
use mathlib.Core.List.{List, [], ◌∷◌, ◌++◌, append_assoc, append-nil, map, map-append, map_congr_left}
use mathlib.Core.Option.{Option, none, some}
use native.Mathlib.Nat.{add-zero}
use native.Mathlib.Numerals.{add-one}
use native.Mathlib.Omega.{arith}
use lib.Dec.{eqb}
use lib.ListN.{length, take, drop, get_elem?, length-append}
use lib.Seq.{append_snoc, take-append-le}
use borrow.Author.Tests.{eqb-true, not-false}
use Rattle.tables.specs.declared.letters.Conventions.{Conventions}
use Rattle.tables.specs.Text.{ascii, is_white, lead, trimmed}
use Rattle.tables.specs.Letters.{Accepted, every, among}
use Rattle.tables.proofs.Laws.{by_cases, both, either, clash}
use Rattle.reader.specs.Lines.{is_blank, has_brace, last_brace, line_kind}
use Rattle.reader.specs.Pieces.{raw_lines}
use Rattle.reader.specs.Sections.{commentary_after}
use Rattle.reader.specs.Records.{records_of}
use Rattle.reader.specs.Plain.{TagPair, Remark, PlainBoard, block_value, plain_of, plain_boards}
use Rattle.reader.proofs.WordLaws.{and_false}
use Rattle.writer.specs.Tags.{WrittenTag, written_tags}
use Rattle.writer.specs.Remarks.{Anchored, anchor_of, anchored_from, directives_of, blocks_of, those, is_leading, tag_unwritten, is_under, wrote, goes_after, WrittenLine, tag_line, data_line, directive_line, block_line, directive_lines, block_lines, directives_after, blocks_after, tags_lines, leading_lines, body_lines, line_text, lines_text}
use Rattle.writer.specs.Pages.{own_play, body_text, first_part, page_text, written_text}
use Rattle.writer.specs.Given.{finished_boards, finished_text}
use Rattle.demands.specs.PageBack.{all, good_line, is_signed, Shut, last, more, up_to_brace, ReadsAs, tag, section, directive, comment, block, AllWritable, all_none, all_one, own_text, records_after, tag_pair, tags_as_written, AnchoredBytes, anchored_bytes, Texts, as_directives, as_blocks, block_text, comment_text, under, all_under, under_tags, last_tag_from, read_back, remarks_back, built_in_back, page_back, RemarksRead, EditionRemarks, FinishedRemarks}
use Rattle.reader.proofs.LineTags.{line_tags, line_directives, directives_of_lines, DirectivesOfLines, block_on, inner_block, line_blocks, block_after, blocks_of_lines, BlocksOfLines}
use Rattle.demands.proofs.LineBack.{wrong, LineBack}
use Rattle.demands.proofs.PageWalk.{GoodLines, line_then, header_lines, header_lines_lem, header_good}
use Rattle.demands.proofs.BoardWritable.{LinesGood}
use Rattle.demands.proofs.PageBack.{PageRecords, all_plain, all_finished}
use Rattle.demands.proofs.WrittenTagsBack.{pairs_in, header_pairs, leading_pairs, body_pairs, own_tags, first_tags, Holds, alone, ended}

-- ---- what written lines give

-- Directives or blocks.
abbrev texts_on : Texts → WrittenLine → List (List ℕ)
texts_on t (tag_line n v) = []
texts_on t (data_line d) = []
texts_on t (directive_line i d) = t.of_directive d
texts_on t (block_line i v) = t.of_block v

-- With n tags before them.
abbrev remarked : ℕ → List (List ℕ) → List Remark
remarked n [] = []
remarked n (x ∷ xs) = record { bytes = x; before = n } ∷ remarked n xs

-- One more tag stands before what follows a tag line.
abbrev tags_after : ℕ → WrittenLine → ℕ
tags_after n (tag_line m v) = n + 1
tags_after n (data_line d) = n
tags_after n (directive_line i d) = n
tags_after n (block_line i v) = n

abbrev remarks_at : Texts → ℕ → List WrittenLine → List Remark
remarks_at t n [] = []
remarks_at t n (l ∷ ls) = remarked n (texts_on t l) ++ remarks_at t (tags_after n l) ls

abbrev count_after : ℕ → List WrittenLine → ℕ
count_after n [] = n
count_after n (l ∷ ls) = count_after (tags_after n l) ls

-- The remarks that lines with n tags before them read as are those that t says of written lines.
record Reads (t : Texts) (read : ℕ → List (List ℕ) → List Remark) : Type 0 where
  of_none : (n : ℕ) → read n [] ≡ []
  of_blank : (n : ℕ) (r : List (List ℕ)) → read n ((10 ∷ []) ∷ r) ≡ read n r
  of_line : (n : ℕ) (l : WrittenLine) (ls r : List (List ℕ)) → ReadsAs l ls → read n (ls ++ r) ≡ remarked n (texts_on t l) ++ read (tags_after n l) r

-- ---- directives

shut_directives : (n : ℕ) (ls r : List (List ℕ)) → Shut ls → directives_of_lines true n (ls ++ r) ≡ directives_of_lines false n r
unfolding line_tags line_directives commentary_after
shut_directives n [] r a = elim a [ ]
shut_directives n (l ∷ []) r (last h) = rw (h, add-zero n)
shut_directives n (l ∷ ls) r (more h s) = rw (h, add-zero n) (shut_directives n ls r s)

line_directives_lem : (n : ℕ) (l : WrittenLine) (ls r : List (List ℕ)) → ReadsAs l ls → directives_of_lines false n (ls ++ r) ≡ remarked n (texts_on as_directives l) ++ directives_of_lines false (tags_after n l) r
unfolding line_tags line_directives commentary_after has_brace
line_directives_lem n (tag_line m v) [] r a = elim a [ ]
line_directives_lem n (tag_line m v) (l ∷ (_ ∷ _)) r a = elim a [ ]
line_directives_lem n (data_line d) [] r a = elim a [ ]
line_directives_lem n (data_line d) (l ∷ (_ ∷ _)) r a = elim a [ ]
line_directives_lem n (directive_line i d) [] r a = elim a [ ]
line_directives_lem n (directive_line i d) (l ∷ (_ ∷ _)) r a = elim a [ ]
line_directives_lem n (block_line i v) [] r a = elim a [ ]
line_directives_lem n (tag_line m v) (l ∷ []) r (tag k x y) = rw k
line_directives_lem n (data_line d) (l ∷ []) r (section k x) = rw (k, add-zero n)
line_directives_lem n (directive_line i d) (l ∷ []) r (directive g k x) = rw (k, add-zero n, g, x)
line_directives_lem n (directive_line i d) (l ∷ []) r (comment g k h) = rw (k, h, add-zero n, g)
line_directives_lem n (block_line i v) (l ∷ []) r (block k (last h) u) = rw (k, h, add-zero n)
line_directives_lem n (block_line i v) (l ∷ ls) r (block k (more h s) u) = rw (k, h, add-zero n) (shut_directives n ls r s)

directives_read : Reads as_directives (directives_of_lines false)
unfolding line_tags line_directives commentary_after line_kind is_blank trimmed is_white
directives_read = record { of_none = λ n. refl; of_blank = λ n r. rw (add-zero n); of_line = line_directives_lem }

-- ---- blocks

-- Blocks as a plain board has them.
abbrev blocks_read : ℕ → List (List ℕ) → List Remark
blocks_read n ls = map block_value (blocks_of_lines false [] n ls)

block_value_lem : (n : ℕ) (v : List ℕ) → map block_value (block_on v n) ≡ remarked n (block_text v)
block_value_lem n v = by_cases (every is_white v) (λ e. rw e) (λ e. rw e)

-- What was gathered before does not matter where commentary is closed.
any_text : (g h : List ℕ) (n : ℕ) (r : List (List ℕ)) → blocks_of_lines false g n r ≡ blocks_of_lines false h n r
unfolding line_blocks block_after
any_text g h n [] = refl
any_text g h n (l ∷ ls) = refl

shut_blocks : (g : List ℕ) (n : ℕ) (l : List ℕ) (ls r : List (List ℕ)) → Shut (l ∷ ls) → blocks_of_lines true g n ((l ∷ ls) ++ r) ≡ block_on (g ++ up_to_brace l ls) n ++ blocks_of_lines false [] n r
unfolding line_tags line_blocks block_after commentary_after
shut_blocks g n l [] r (more h s) = elim s [ ]
shut_blocks g n l [] r (last h) = rw (h, add-zero n, any_text (g ++ l) [] n r)
shut_blocks g n l (m ∷ ms) r (more h s) = rw (h, add-zero n, shut_blocks (g ++ l) n m ms r s, append_assoc g l (up_to_brace m ms))

-- The text of a comment in braces.
among_feed : (d : List ℕ) → among 125 (d ++ 10 ∷ []) ≡ among 125 d
among_feed [] = refl
among_feed (b ∷ bs) = rw (among_feed bs)

brace_kept : (d : List ℕ) → among 125 d ≡ true → (last_brace (d ++ 10 ∷ []) ≡ last_brace d) × (last_brace d < length d)
brace_kept [] e = clash e
brace_kept (b ∷ bs) e =
    by_cases (among 125 bs)
    (λ t.
    let h = brace_kept bs t in
    rw (among_feed bs, t, and_false (eqb b 125)) (ap suc h.0, omega (arith, h.1)))
    (λ t.
    let q : eqb b 125 ≡ true = either (eqb b 125) (among 125 bs) e (λ u. u) (λ u. clash (sym t ∙ u)) in
    rw (among_feed bs, t, q) (refl, omega arith))

comment_inner : (d : List ℕ) → is_signed d ≡ false → among 125 d ≡ true → inner_block (d ++ 10 ∷ []) ≡ comment_text d
unfolding is_white
comment_inner [] g e = let z : ◌≡◌ {A = ℕ} 0 1 = cc in wrong z
comment_inner (b ∷ bs) g e =
    let q : b ≡ 123 = eqb-true b 123 (not-false (eqb b 123) g) in
    let m : among 125 (123 ∷ bs) ≡ true = rw q at e in
    let h = brace_kept (123 ∷ bs) m in
    rw (q, h.0) (take-append-le (last_brace (123 ∷ bs) - 1) bs (10 ∷ []) (omega (arith, h.1)))

block_inner : (l : List ℕ) → inner_block (123 ∷ l) ≡ take (last_brace l) l
unfolding is_white
block_inner l = let e : suc (last_brace l) - 1 ≡ last_brace l = omega arith in rw e

value_then : (n : ℕ) (v : List ℕ) (ks : List Remark) → map block_value (block_on v n ++ ks) ≡ remarked n (block_text v) ++ map block_value ks
value_then n v ks = map-append block_value (block_on v n) ks ∙ rw (block_value_lem n v)

line_blocks_lem : (n : ℕ) (l : WrittenLine) (ls r : List (List ℕ)) → ReadsAs l ls → blocks_read n (ls ++ r) ≡ remarked n (texts_on as_blocks l) ++ blocks_read (tags_after n l) r
unfolding line_tags line_blocks block_after commentary_after has_brace is_white
line_blocks_lem n (tag_line m v) [] r a = elim a [ ]
line_blocks_lem n (tag_line m v) (l ∷ (_ ∷ ms)) r a = elim a [ ]
line_blocks_lem n (data_line d) [] r a = elim a [ ]
line_blocks_lem n (data_line d) (l ∷ (m ∷ ms)) r a = elim a [ ]
line_blocks_lem n (directive_line i d) [] r a = elim a [ ]
line_blocks_lem n (directive_line i d) (l ∷ (m ∷ ms)) r a = elim a [ ]
line_blocks_lem n (block_line i v) [] r a = elim a [ ]
line_blocks_lem n (block_line i v) (_ ∷ []) r (block {l = l} k (more h s) u) = elim s [ ]
line_blocks_lem n (tag_line m v) (l ∷ []) r (tag k x y) = rw (k, any_text (drop (length (lead l) + 1) l) [] (n + 1) r)
line_blocks_lem n (data_line d) (l ∷ []) r (section k x) = rw (k, add-zero n, any_text (drop (length (lead l) + 1) l) [] n r)
line_blocks_lem n (directive_line i d) (l ∷ []) r (directive g k x) = rw (k, add-zero n, any_text (drop (length (lead l) + 1) l) [] n r, g)
line_blocks_lem n (directive_line i d) (l ∷ []) r (comment g k h) =
    let f : List ℕ = d ++ 10 ∷ [] in
    let e : blocks_of_lines false [] n (f ∷ r) ≡ block_on (comment_text d) n ++ blocks_of_lines false [] n r
    = rw (k, h, add-zero n, comment_inner d g (sym (among_feed d) ∙ h), any_text (drop (length (lead f) + 1) f) [] n r) in
    ap (map block_value) e ∙ rw g (value_then n (comment_text d) (blocks_of_lines false [] n r))
line_blocks_lem n (block_line i v) (b ∷ []) r (block {l = l} k (last h) u) =
    let e : blocks_of_lines false [] n ((123 ∷ l) ∷ r) ≡ block_on v n ++ blocks_of_lines false [] n r
    = rw (k, h, add-zero n, block_inner l, u, any_text l [] n r) in
    ap (map block_value) e ∙ value_then n v (blocks_of_lines false [] n r)
line_blocks_lem n (block_line i v) (b ∷ m ∷ ms) r (block {l = l} k (more h s) u) =
    let e : blocks_of_lines false [] n ((123 ∷ l) ∷ m ∷ (ms ++ r)) ≡ block_on v n ++ blocks_of_lines false [] n r
    = rw (k, h, add-zero n) (shut_blocks l n m ms r s ∙ rw u) in
    ap (map block_value) e ∙ value_then n v (blocks_of_lines false [] n r)

blocks_read_lem : Reads as_blocks blocks_read
unfolding line_tags line_blocks block_after commentary_after line_kind is_blank trimmed is_white
blocks_read_lem = record { of_none = λ n. refl; of_blank = λ n r. rw (add-zero n, any_text [] [] n r); of_line = line_blocks_lem }

-- ---- anchors

-- The tag of the last tag line.
abbrev tag_after : Option TagPair → WrittenLine → Option TagPair
tag_after a (tag_line m v) = some (record { name = m; value = v })
tag_after a (data_line d) = a
tag_after a (directive_line i d) = a
tag_after a (block_line i v) = a

abbrev tag_behind : Option TagPair → List WrittenLine → Option TagPair
tag_behind a [] = a
tag_behind a (l ∷ ls) = tag_behind (tag_after a l) ls

tag_append : (a : Option TagPair) (xs ys : List WrittenLine) → tag_behind a (xs ++ ys) ≡ tag_behind (tag_behind a xs) ys
tag_append a [] ys = refl
tag_append a (x ∷ xs) ys = tag_append (tag_after a x) xs ys

-- A remark's bytes and its anchor among the tags ts.
abbrev place_in : List TagPair → Remark → AnchoredBytes
place_in ts k = (k.bytes, anchor_of ts k.before)

anchored_places : (ts : List TagPair) (i : ℕ) (ks : List Remark) → map anchored_bytes (anchored_from ts i ks) ≡ map (place_in ts) ks
anchored_places ts i [] = refl
anchored_places ts i (k ∷ ks) = rw (anchored_places ts (i + 1) ks)

remarked_places : (ts : List TagPair) (n : ℕ) (a : Option TagPair) (xs : List (List ℕ)) → anchor_of ts n ≡ a → map (place_in ts) (remarked n xs) ≡ under a xs
remarked_places ts n a [] e = refl
remarked_places ts n a (x ∷ xs) e = rw (e, remarked_places ts n a xs e)

tag_behind_lem : (pre : List TagPair) (p : TagPair) (q : List TagPair) → get_elem? (pre ++ p ∷ q) (length pre) ≡ some p
tag_behind_lem [] p q = refl
tag_behind_lem (x ∷ xs) p q = tag_behind_lem xs p q

abbrev places_at : Texts → Option TagPair → List WrittenLine → List AnchoredBytes
places_at t a [] = []
places_at t a (l ∷ ls) = under a (texts_on t l) ++ places_at t (tag_after a l) ls

module _ (t : Texts) where
  anchors_at : (ts pre post : List TagPair) (m : ℕ) (a : Option TagPair) (ls : List WrittenLine) → ts ≡ pre ++ (pairs_in ls ++ post) → m ≡ length pre → anchor_of ts m ≡ a
      → map (place_in ts) (remarks_at t m ls) ≡ places_at t a ls
  anchors_at ts pre post m a [] e em ea = refl
  anchors_at ts pre post m a (tag_line n v ∷ ls) e em ea =
      let p : TagPair = record { name = n; value = v } in
      let e' : ts ≡ (pre ++ p ∷ []) ++ (pairs_in ls ++ post) = e ∙ sym (append_snoc pre p (pairs_in ls ++ post)) in
      let em' : m + 1 ≡ length (pre ++ p ∷ []) = simp length-append (omega arith) in
      let ea' : anchor_of ts (m + 1) ≡ some p = rw (add-one, e, em) (tag_behind_lem pre p (pairs_in ls ++ post)) in
      anchors_at ts (pre ++ p ∷ []) post (m + 1) (some p) ls e' em' ea'
  anchors_at ts pre post m a (data_line d ∷ ls) e em ea = anchors_at ts pre post m a ls e em ea
  anchors_at ts pre post m a (directive_line i d ∷ ls) e em ea =
      map-append (place_in ts) (remarked m (t.of_directive d)) (remarks_at t m ls) ∙ rw (remarked_places ts m a (t.of_directive d) ea, anchors_at ts pre post m a ls e em ea)
  anchors_at ts pre post m a (block_line i v ∷ ls) e em ea =
      map-append (place_in ts) (remarked m (t.of_block v)) (remarks_at t m ls) ∙ rw (remarked_places ts m a (t.of_block v) ea, anchors_at ts pre post m a ls e em ea)

  -- ---- the lines of a board

  places_append : (a : Option TagPair) (xs ys : List WrittenLine) → places_at t a (xs ++ ys) ≡ places_at t a xs ++ places_at t (tag_behind a xs) ys
  places_append a [] ys = refl
  places_append a (x ∷ xs) ys =
      rw (places_append (tag_after a x) xs ys) (sym (append_assoc (under a (texts_on t x)) (places_at t (tag_after a x) xs) (places_at t (tag_behind (tag_after a x) xs) ys)))

  -- Lines of one group, under the anchor a: what they give, and no tag among them.
  record Group (a : Option TagPair) (ls : List WrittenLine) (ps : List AnchoredBytes) : Type 0 where
    gives : places_at t a ls ≡ ps
    same_tag : tag_behind a ls ≡ a

  group_then : {a : Option TagPair} {xs : List WrittenLine} {ps : List AnchoredBytes} (ys : List WrittenLine) → Group a xs ps → places_at t a (xs ++ ys) ≡ ps ++ places_at t a ys
  group_then {a} {xs} {ps} ys g = rw (places_append a xs ys, g.gives, g.same_tag)

  group_tag : {a : Option TagPair} {xs : List WrittenLine} {ps : List AnchoredBytes} (ys : List WrittenLine) → Group a xs ps → tag_behind a (xs ++ ys) ≡ tag_behind a ys
  group_tag {a} {xs} {ps} ys g = rw (tag_append a xs ys, g.same_tag)

  data_group : (a : Option TagPair) (ds : List (List ℕ)) → Group a (map data_line ds) []
  data_group a [] = record { gives = refl; same_tag = refl }
  data_group a (d ∷ ds) = let h = data_group a ds in record { gives = h.gives; same_tag = h.same_tag }

  directives_group : (a : Option TagPair) (ks : List Anchored) → Group a (directive_lines ks) (all_under t.of_directive a ks)
  directives_group a [] = record { gives = refl; same_tag = refl }
  directives_group a (k ∷ ks) = let h = directives_group a ks in record { gives = rw h.gives; same_tag = h.same_tag }

  blocks_group : (a : Option TagPair) (ks : List Anchored) → Group a (block_lines ks) (all_under t.of_block a ks)
  blocks_group a [] = record { gives = refl; same_tag = refl }
  blocks_group a (k ∷ ks) = let h = blocks_group a ks in record { gives = rw h.gives; same_tag = h.same_tag }

  after_group : (a : Option TagPair) (ks : List Anchored) (earlier : List WrittenTag) (w : WrittenTag)
      → Group a (blocks_after ks earlier w) (cond (wrote w.name earlier) [] (all_under t.of_block a (those (is_under w.name) ks)))
  unfolding blocks_after
  after_group a ks earlier w = by (wrote w.name earlier)
    where
      by : (s : Bool) → Group a (cond s [] (block_lines (those (is_under w.name) ks))) (cond s [] (all_under t.of_block a (those (is_under w.name) ks)))
      by true = record { gives = refl; same_tag = refl }
      by false = blocks_group a (those (is_under w.name) ks)

  module _ (ds ks : List Anchored) where
    last_tag_lem : (a : Option TagPair) (earlier ws : List WrittenTag) → tag_behind a (tags_lines ds ks earlier ws) ≡ last_tag_from a ws
    unfolding directives_after
    last_tag_lem a earlier [] = refl
    last_tag_lem a earlier (w ∷ ws) =
        let b = some (tag_pair w) in
        let here = directives_after ds (earlier ++ w ∷ ws) (length earlier) in
        let rest = tags_lines ds ks (earlier ++ w ∷ []) ws in
        group_tag (here ++ (blocks_after ks earlier w ++ rest)) (data_group b w.lines)
        ∙ group_tag (blocks_after ks earlier w ++ rest) (directives_group b (those (goes_after (earlier ++ w ∷ ws) (length earlier)) ds))
        ∙ group_tag rest (after_group b ks earlier w)
        ∙ last_tag_lem b (earlier ++ w ∷ []) ws

    tags_places : (a : Option TagPair) (earlier ws : List WrittenTag) → places_at t a (tags_lines ds ks earlier ws) ≡ under_tags t ds ks earlier ws
    unfolding directives_after
    tags_places a earlier [] = refl
    tags_places a earlier (w ∷ ws) =
        let b = some (tag_pair w) in
        let here = directives_after ds (earlier ++ w ∷ ws) (length earlier) in
        let rest = tags_lines ds ks (earlier ++ w ∷ []) ws in
        group_then (here ++ (blocks_after ks earlier w ++ rest)) (data_group b w.lines)
        ∙ group_then (blocks_after ks earlier w ++ rest) (directives_group b (those (goes_after (earlier ++ w ∷ ws) (length earlier)) ds))
        ∙ rw (group_then rest (after_group b ks earlier w), tags_places b (earlier ++ w ∷ []) ws)

  leading_places : (b : PlainBoard) → places_at t none (leading_lines b) ≡ all_under t.of_directive none (those is_leading (directives_of b))
  unfolding leading_lines
  leading_places b = (directives_group none (those is_leading (directives_of b))).gives

  header_places : (ls : List WrittenLine) (ps : List AnchoredBytes) → places_at t none ls ≡ ps → places_at t none (header_lines ls) ≡ built_in_back t ls ++ ps
  header_places [] ps e = rw (← e) (ap (λ (x : List AnchoredBytes). under none (t.of_directive (ascii "% PBN 2.1")) ++ x) (append-nil _) ∙ sym (append-nil _))
  header_places (l ∷ ls) ps e = e

  body_places : (b : PlainBoard) (ws : List WrittenTag) → all_under t.of_directive none (those is_leading (directives_of b)) ++ places_at t none (body_lines b ws) ≡ read_back t (directives_of b) (blocks_of b) ws
  unfolding body_lines
  body_places b ws =
      let ds = directives_of b in
      let ks = blocks_of b in
      let a = last_tag_from none ws in
      let lost = block_lines (those (tag_unwritten ws) ks) ++ directive_lines (those (tag_unwritten ws) ds) in
      ap (λ (x : List AnchoredBytes). all_under t.of_directive none (those is_leading ds) ++ x)
      (group_then (tags_lines ds ks [] ws ++ lost) (blocks_group none (those is_leading ks))
      ∙ ap (λ (x : List AnchoredBytes). all_under t.of_block none (those is_leading ks) ++ x)
      (places_append none (tags_lines ds ks [] ws) lost
      ∙ rw (tags_places ds ks none [] ws, last_tag_lem ds ks none [] ws, group_then (directive_lines (those (tag_unwritten ws) ds)) (blocks_group a (those (tag_unwritten ws) ks)), (directives_group a (those (tag_unwritten ws) ds)).gives)))

  -- Lines hs without tags, then the lines of a board's body, whose tags are ts.
  lines_places : (ts : List TagPair) (hs ls : List WrittenLine) → pairs_in hs ≡ [] → ts ≡ pairs_in ls → map (place_in ts) (remarks_at t 0 hs ++ remarks_at t 0 ls) ≡ places_at t none hs ++ places_at t none ls
  lines_places ts hs ls n e =
      let x = anchors_at ts [] ts 0 none hs (rw n) refl refl in
      let y = anchors_at ts [] [] 0 none ls (e ∙ sym (append-nil (pairs_in ls))) refl refl in
      map-append (place_in ts) (remarks_at t 0 hs) (remarks_at t 0 ls) ∙ rw (x, y)

  own_places : (c : Conventions) (b : PlainBoard)
      → map (place_in (tags_as_written c b)) (remarks_at t 0 (leading_lines b) ++ remarks_at t 0 (body_lines b (written_tags c b (own_play c b.play)))) ≡ remarks_back t c b
  own_places c b =
      let ws = written_tags c b (own_play c b.play) in
      lines_places (tags_as_written c b) (leading_lines b) (body_lines b ws) (leading_pairs b) (sym (body_pairs b ws)) ∙ rw (leading_places b) (body_places b ws)

  first_places : (c : Conventions) (b : PlainBoard)
      → map (place_in (tags_as_written c b)) (remarks_at t 0 (header_lines (leading_lines b)) ++ remarks_at t 0 (body_lines b (written_tags c b (own_play c b.play)))) ≡ built_in_back t (leading_lines b) ++ remarks_back t c b
  first_places c b =
      let ws = written_tags c b (own_play c b.play) in
      let lead = all_under t.of_directive none (those is_leading (directives_of b)) in
      let body = places_at t none (body_lines b ws) in
      lines_places (tags_as_written c b) (header_lines (leading_lines b)) (body_lines b ws) (header_pairs (leading_lines b) (leading_pairs b)) (sym (body_pairs b ws))
      ∙ ap (λ (x : List AnchoredBytes). x ++ body) (header_places (leading_lines b) lead (leading_places b))
      ∙ append_assoc (built_in_back t (leading_lines b)) lead body
      ∙ ap (λ (x : List AnchoredBytes). built_in_back t (leading_lines b) ++ x) (body_places b ws)

-- ---- records

-- Lines that hold no tag.
abbrev IsTagless : List WrittenLine → Type 0
IsTagless ls = (n : ℕ) → count_after n ls ≡ n

directives_tagless : (ks : List Anchored) → IsTagless (directive_lines ks)
directives_tagless [] n = refl
directives_tagless (k ∷ ks) n = directives_tagless ks n

leading_tagless : (b : PlainBoard) → IsTagless (leading_lines b)
unfolding leading_lines
leading_tagless b = directives_tagless (those is_leading (directives_of b))

header_tagless : (ls : List WrittenLine) → IsTagless ls → IsTagless (header_lines ls)
header_tagless [] h n = refl
header_tagless (l ∷ ls) h n = h n

-- A text whose remarks, with no more behind it, are ks.
abbrev Gives : (ℕ → List (List ℕ) → List Remark) → List ℕ → List Remark → Type 0
Gives read own ks = (r : List ℕ) → ((n : ℕ) → read n (raw_lines r) ≡ []) → read 0 (raw_lines (own ++ r)) ≡ ks

-- The remarks of a record that are read, in their places.
abbrev places_read : (ℕ → List (List ℕ) → List Remark) → Conventions → List ℕ → List AnchoredBytes
places_read read d r = map (place_in (plain_of d r).tags) (read 0 (raw_lines r))

module _ (t : Texts) (read : ℕ → List (List ℕ) → List Remark) (reads : Reads t read) where
  lines_read_lem : (n : ℕ) (ls : List WrittenLine) (r : List ℕ) → all good_line ls ≡ true → read n (raw_lines (lines_text ls ++ r)) ≡ remarks_at t n ls ++ read (count_after n ls) (raw_lines r)
  lines_read_lem n [] r e = refl
  lines_read_lem n (l ∷ ls) r e =
      let h = both (good_line l) (all good_line ls) e in
      let rest = read (count_after (tags_after n l) ls) (raw_lines r) in
      rw (append_assoc (line_text l) (lines_text ls) r, line_then l (lines_text ls ++ r), append_assoc (remarked n (texts_on t l)) (remarks_at t (tags_after n l) ls) rest)
      (reads.of_line n l (raw_lines (line_text l)) (raw_lines (lines_text ls ++ r)) (LineBack l h.0)
      ∙ ap (λ (x : List Remark). remarked n (texts_on t l) ++ x) (lines_read_lem (tags_after n l) ls r h.1))

  module _ (c : Conventions) (b : PlainBoard) (g : GoodLines c b) where
    body_read : (r : List ℕ) → ((n : ℕ) → read n (raw_lines r) ≡ []) → read 0 (raw_lines (body_text c b ++ r)) ≡ remarks_at t 0 (body_lines b (written_tags c b (own_play c b.play)))
    body_read r e =
        let ls = body_lines b (written_tags c b (own_play c b.play)) in
        lines_read_lem 0 ls r g.body_good ∙ rw (e (count_after 0 ls), append-nil)

    own_read : Gives read (own_text c b) (remarks_at t 0 (leading_lines b) ++ remarks_at t 0 (body_lines b (written_tags c b (own_play c b.play))))
    own_read r e =
        rw (append_assoc (lines_text (leading_lines b)) (body_text c b) r)
        (lines_read_lem 0 (leading_lines b) (body_text c b ++ r) g.leading_good ∙ rw (leading_tagless b 0, body_read r e))

    first_read : Gives read (first_part c b) (remarks_at t 0 (header_lines (leading_lines b)) ++ remarks_at t 0 (body_lines b (written_tags c b (own_play c b.play))))
    unfolding first_part
    first_read r e =
        let hs = header_lines (leading_lines b) in
        rw (header_lines_lem (leading_lines b), append_assoc (lines_text hs ++ 10 ∷ []) (body_text c b) r, append_assoc (lines_text hs) (10 ∷ []) (body_text c b ++ r))
        (lines_read_lem 0 hs (10 ∷ (body_text c b ++ r)) (header_good (leading_lines b) g.leading_good)
        ∙ rw (header_tagless (leading_lines b) (leading_tagless b) 0, reads.of_blank 0 (raw_lines (body_text c b ++ r)), body_read r e))

  alone_places : (d : Conventions) (own : List ℕ) (ts : List TagPair) (ks : List Remark) → Holds own ts → Gives read own ks → places_read read d own ≡ map (place_in ts) ks
  alone_places d own ts ks h g = rw (alone d own ts h, rw (append-nil own) at (g [] (λ n. reads.of_none n)))

  ended_places : (d : Conventions) (own : List ℕ) (ts : List TagPair) (ks : List Remark) → Holds own ts → Gives read own ks → places_read read d (own ++ 10 ∷ []) ≡ map (place_in ts) ks
  ended_places d own ts ks h g = rw (ended d own ts h, g (10 ∷ []) (λ n. reads.of_blank n [] ∙ reads.of_none n))

  records_places : (c d : Conventions) → Accepted c → (own : List ℕ) (ts : List TagPair) (ks : List Remark) (bs : List PlainBoard) → Holds own ts → Gives read own ks → AllWritable bs
      → map (places_read read d) (records_after c own bs) ≡ map (place_in ts) ks ∷ map (remarks_back t c) bs
  records_places c d ok own ts ks [] h g all_none = rw (alone_places d own ts ks h g)
  records_places c d ok own ts ks (b ∷ bs) h g (all_one w a) =
      let l = LinesGood c ok b w in
      rw (ended_places d own ts ks h g, records_places c d ok (own_text c b) (tags_as_written c b) _ bs (own_tags c b l) (own_read c b l) a, own_places t c b)

  page_places : (c d : Conventions) → Accepted c → (bs : List PlainBoard) → AllWritable bs → map (places_read read d) (records_of (page_text c bs)) ≡ page_back t c bs
  page_places c d ok [] all_none = rw (PageRecords c ok [] all_none)
  page_places c d ok (b ∷ bs) (all_one w a) =
      let l = LinesGood c ok b w in
      rw (PageRecords c ok (b ∷ bs) (all_one w a))
      (records_places c d ok (first_part c b) (tags_as_written c b) _ bs (first_tags c b l) (first_read c b l) a ∙ rw (first_places t c b))

  -- The same of the remarks that a plain board has.
  read_back_lem : (c d : Conventions) → Accepted c → (bs : List PlainBoard) → AllWritable bs → (had : PlainBoard → List Anchored)
      → ((r : List ℕ) → map anchored_bytes (had (plain_of d r)) ≡ places_read read d r) → map (λ r. map anchored_bytes (had (plain_of d r))) (records_of (page_text c bs)) ≡ page_back t c bs
  read_back_lem c d ok bs w had placed =
      map_congr_left {f = λ r. map anchored_bytes (had (plain_of d r))} {g = places_read read d} {l = records_of (page_text c bs)} (λ r m. placed r) ∙ page_places c d ok bs w

-- ---- the theorems

directives_placed : (d : Conventions) (r : List ℕ) → map anchored_bytes (directives_of (plain_of d r)) ≡ places_read (directives_of_lines false) d r
unfolding directives_of
directives_placed d r = anchored_places (plain_of d r).tags 0 (plain_of d r).directives ∙ rw (DirectivesOfLines d r)

blocks_placed : (d : Conventions) (r : List ℕ) → map anchored_bytes (blocks_of (plain_of d r)) ≡ places_read blocks_read d r
unfolding blocks_of
blocks_placed d r = anchored_places (plain_of d r).tags 0 (plain_of d r).blocks ∙ rw (BlocksOfLines d r)

-- A page has the remarks of its boards.
page_remarks : (c d : Conventions) → Accepted c → (bs : List PlainBoard) → AllWritable bs → RemarksRead c d (page_text c bs) bs
page_remarks c d ok bs w = record {
  directives = read_back_lem as_directives (directives_of_lines false) directives_read c d ok bs w directives_of (directives_placed d);
  blocks = read_back_lem as_blocks blocks_read blocks_read_lem c d ok bs w blocks_of (blocks_placed d);
}

-- THEOREM.
pub edition_remarks : EditionRemarks
unfolding written_text plain_boards
edition_remarks c d ok text = page_remarks c d ok (plain_boards c text) (all_plain c (records_of text))

-- THEOREM.
pub finished_remarks : FinishedRemarks
unfolding finished_text
finished_remarks c d ok old new answers = page_remarks c d ok (finished_boards c old new answers) (all_finished c old new answers)
