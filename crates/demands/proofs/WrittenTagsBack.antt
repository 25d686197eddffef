-- The tags of a written page's records are the written tags of its boards.
use Prim.Native.Nat.{ℕ}
use mathlib.Core.Path.{◌≡◌, refl, sym, ap, ◌∙◌}
use mathlib.Core.Bool.{Bool, true, false, cond}
use mathlib.Core.List.{List, [], ◌∷◌, ◌++◌, append_assoc, append-nil, map}
use lib.ListN.{length}
use Rattle.tables.specs.declared.letters.Conventions.{Conventions}
use Rattle.tables.specs.Text.{is_white, trimmed}
use Rattle.tables.specs.Letters.{Accepted}
use Rattle.tables.proofs.Laws.{both}
use Rattle.reader.specs.Lines.{is_blank, has_brace, line_kind}
use Rattle.reader.specs.Pieces.{raw_lines}
use Rattle.reader.specs.Sections.{commentary_after}
use Rattle.reader.specs.Records.{records_of}
use Rattle.reader.specs.Plain.{TagPair, PlainBoard, plain_of, plain_boards}
use Rattle.writer.specs.Tags.{WrittenTag, written_tags}
use Rattle.writer.specs.Remarks.{Anchored, directives_of, blocks_of, those, is_leading, tag_unwritten, is_under, wrote, goes_after, WrittenLine, tag_line, data_line, directive_line, block_line, directive_lines, block_lines, directives_after, blocks_after, tags_lines, leading_lines, body_lines, line_text, lines_text}
use Rattle.writer.specs.Pages.{own_play, body_text, page_header, first_part, page_text, written_text}
use Rattle.writer.specs.Given.{finished_boards, finished_text}
use Rattle.demands.specs.PageBack.{all, good_line, Shut, last, more, ReadsAs, tag, section, directive, comment, block, Writable, AllWritable, all_none, all_one, own_text, records_after, tag_pair, tags_as_written, EditionTags, FinishedTags}
use Rattle.reader.proofs.LineTags.{line_tags, tags_of_lines, TagsOfLines}
use Rattle.demands.proofs.LineBack.{LineBack}
use Rattle.demands.proofs.PageWalk.{GoodLines, line_then, header_lines, header_lines_lem, header_good}
use Rattle.demands.proofs.BoardWritable.{LinesGood}
use Rattle.demands.proofs.PageBack.{PageRecords, all_plain, all_finished}

-- ---- lines

-- The tags of written lines.
abbrev pub pairs_on : WrittenLine → List TagPair
pairs_on (tag_line n v) = record { name = n; value = v } ∷ []
pairs_on (data_line d) = []
pairs_on (directive_line i d) = []
pairs_on (block_line i v) = []

abbrev pub pairs_in : List WrittenLine → List TagPair
pairs_in [] = []
pairs_in (l ∷ ls) = pairs_on l ++ pairs_in ls

shut_tags : (ls r : List (List ℕ)) → Shut ls → tags_of_lines true (ls ++ r) ≡ tags_of_lines false r
unfolding line_tags commentary_after
shut_tags [] r a = elim a [ ]
shut_tags (l ∷ []) r (last h) = rw h
shut_tags (l ∷ ls) r (more h s) = rw h (shut_tags ls r s)

reads_tags : (l : WrittenLine) (ls r : List (List ℕ)) → ReadsAs l ls → tags_of_lines false (ls ++ r) ≡ pairs_on l ++ tags_of_lines false r
unfolding line_tags commentary_after has_brace
reads_tags (tag_line n v) [] r a = elim a [ ]
reads_tags (tag_line n v) (l ∷ (_ ∷ _)) r a = elim a [ ]
reads_tags (data_line d) [] r a = elim a [ ]
reads_tags (data_line d) (l ∷ (_ ∷ _)) r a = elim a [ ]
reads_tags (directive_line i d) [] r a = elim a [ ]
reads_tags (directive_line i d) (l ∷ (_ ∷ _)) r a = elim a [ ]
reads_tags (block_line i v) [] r a = elim a [ ]
reads_tags (tag_line n v) (l ∷ []) r (tag k x y) = rw (k, x, y)
reads_tags (data_line d) (l ∷ []) r (section k x) = rw k
reads_tags (directive_line i d) (l ∷ []) r (directive g k x) = rw k
reads_tags (directive_line i d) (l ∷ []) r (comment g k h) = rw (k, h)
reads_tags (block_line i v) (l ∷ []) r (block k (last h) u) = rw (k, h)
reads_tags (block_line i v) (l ∷ ls) r (block k (more h s) u) = rw (k, h) (shut_tags ls r s)

pub lines_tags : (ls : List WrittenLine) (r : List ℕ) → all good_line ls ≡ true → tags_of_lines false (raw_lines (lines_text ls ++ r)) ≡ pairs_in ls ++ tags_of_lines false (raw_lines r)
lines_tags [] r e = refl
lines_tags (l ∷ ls) r e =
    let h = both (good_line l) (all good_line ls) e in
    rw (append_assoc (line_text l) (lines_text ls) r, line_then l (lines_text ls ++ r), append_assoc (pairs_on l) (pairs_in ls) (tags_of_lines false (raw_lines r)))
    (reads_tags l (raw_lines (line_text l)) (raw_lines (lines_text ls ++ r)) (LineBack l h.0) ∙ ap (λ (x : List TagPair). pairs_on l ++ x) (lines_tags ls r h.1))

-- ---- the lines of a board

pub pairs_append : (xs ys : List WrittenLine) → pairs_in (xs ++ ys) ≡ pairs_in xs ++ pairs_in ys
pairs_append [] ys = refl
pairs_append (x ∷ xs) ys = rw (pairs_append xs ys) (sym (append_assoc (pairs_on x) (pairs_in xs) (pairs_in ys)))

no_pairs : {A : Type 0} (f : A → WrittenLine) → ((x : A) → pairs_on (f x) ≡ []) → (xs : List A) → pairs_in (map f xs) ≡ []
no_pairs f h [] = refl
no_pairs f h (x ∷ xs) = rw (h x) (no_pairs f h xs)

no_directive_pairs : (ks : List Anchored) → pairs_in (directive_lines ks) ≡ []
no_directive_pairs ks = no_pairs (λ (k : Anchored). directive_line k.number k.bytes) (λ k. refl) ks

no_block_pairs : (ks : List Anchored) → pairs_in (block_lines ks) ≡ []
no_block_pairs ks = no_pairs (λ (k : Anchored). block_line k.number k.bytes) (λ k. refl) ks

after_pairs : (ds ks : List Anchored) (earlier : List WrittenTag) (w : WrittenTag) (ws : List WrittenTag) (ls : List WrittenLine)
    → pairs_in (map data_line w.lines ++ (directives_after ds ws (length earlier) ++ (blocks_after ks earlier w ++ ls))) ≡ pairs_in ls
unfolding directives_after blocks_after
after_pairs ds ks earlier w ws ls =
    let here = directives_after ds ws (length earlier) in
    rw (
      pairs_append (map data_line w.lines) (here ++ (blocks_after ks earlier w ++ ls)),
      no_pairs data_line (λ d. refl) w.lines,
      pairs_append here (blocks_after ks earlier w ++ ls),
      no_directive_pairs (those (goes_after ws (length earlier)) ds),
      pairs_append (blocks_after ks earlier w) ls,
      blocks (wrote w.name earlier),
    )
  where
    blocks : (t : Bool) → pairs_in (cond t [] (block_lines (those (is_under w.name) ks))) ≡ []
    blocks true = refl
    blocks false = no_block_pairs (those (is_under w.name) ks)

tags_pairs : (ds ks : List Anchored) (earlier ws : List WrittenTag) → pairs_in (tags_lines ds ks earlier ws) ≡ map tag_pair ws
tags_pairs ds ks earlier [] = refl
tags_pairs ds ks earlier (w ∷ ws) =
    ap (λ (x : List TagPair). tag_pair w ∷ x)
    (after_pairs ds ks earlier w (earlier ++ w ∷ ws) (tags_lines ds ks (earlier ++ w ∷ []) ws) ∙ tags_pairs ds ks (earlier ++ w ∷ []) ws)

pub leading_pairs : (b : PlainBoard) → pairs_in (leading_lines b) ≡ []
unfolding leading_lines
leading_pairs b = no_directive_pairs (those is_leading (directives_of b))

pub body_pairs : (b : PlainBoard) (ws : List WrittenTag) → pairs_in (body_lines b ws) ≡ map tag_pair ws
unfolding body_lines
body_pairs b ws =
    let ds = directives_of b in
    let ks = blocks_of b in
    let lost = block_lines (those (tag_unwritten ws) ks) ++ directive_lines (those (tag_unwritten ws) ds) in
    rw (
      pairs_append (block_lines (those is_leading ks)) (tags_lines ds ks [] ws ++ lost),
      no_block_pairs (those is_leading ks),
      pairs_append (tags_lines ds ks [] ws) lost,
      tags_pairs ds ks [] ws,
      pairs_append (block_lines (those (tag_unwritten ws) ks)) (directive_lines (those (tag_unwritten ws) ds)),
      no_block_pairs (those (tag_unwritten ws) ks),
      no_directive_pairs (those (tag_unwritten ws) ds),
      append-nil,
    )

-- ---- records

-- Nothing, or an empty line.
blank_tags : (r : List ℕ) → tags_of_lines false (raw_lines (10 ∷ r)) ≡ tags_of_lines false (raw_lines r)
unfolding line_tags commentary_after line_kind is_blank trimmed is_white
blank_tags r = refl

directives_tags : (ls : List WrittenLine) (r : List ℕ) → all good_line ls ≡ true → pairs_in ls ≡ [] → tags_of_lines false (raw_lines ((lines_text ls ++ 10 ∷ []) ++ r)) ≡ tags_of_lines false (raw_lines r)
directives_tags ls r e n = rw (append_assoc (lines_text ls) (10 ∷ []) r) (lines_tags ls (10 ∷ r) e ∙ rw n (blank_tags r))

pub header_pairs : (ls : List WrittenLine) → pairs_in ls ≡ [] → pairs_in (header_lines ls) ≡ []
header_pairs [] e = refl
header_pairs (l ∷ ls) e = e

pub header_tags : (ls : List WrittenLine) (r : List ℕ) → all good_line ls ≡ true → pairs_in ls ≡ [] → tags_of_lines false (raw_lines (page_header ls ++ r)) ≡ tags_of_lines false (raw_lines r)
header_tags ls r e n = rw (header_lines_lem ls) (directives_tags (header_lines ls) r (header_good ls e) (header_pairs ls n))

module _ (c : Conventions) (b : PlainBoard) (g : GoodLines c b) where
  body_tags : (r : List ℕ) → tags_of_lines false (raw_lines (body_text c b ++ r)) ≡ tags_as_written c b ++ tags_of_lines false (raw_lines r)
  body_tags r =
      let ws = written_tags c b (own_play c b.play) in
      lines_tags (body_lines b ws) r g.body_good ∙ ap (λ (x : List TagPair). x ++ tags_of_lines false (raw_lines r)) (body_pairs b ws)

  pub own_tags : (r : List ℕ) → tags_of_lines false (raw_lines (own_text c b ++ r)) ≡ tags_as_written c b ++ tags_of_lines false (raw_lines r)
  own_tags r =
      rw (append_assoc (lines_text (leading_lines b)) (body_text c b) r)
      (lines_tags (leading_lines b) (body_text c b ++ r) g.leading_good ∙ rw (leading_pairs b) (body_tags r))

  pub first_tags : (r : List ℕ) → tags_of_lines false (raw_lines (first_part c b ++ r)) ≡ tags_as_written c b ++ tags_of_lines false (raw_lines r)
  unfolding first_part
  first_tags r =
      rw (append_assoc (page_header (leading_lines b)) (body_text c b) r)
      (header_tags (leading_lines b) (body_text c b ++ r) g.leading_good (leading_pairs b) ∙ body_tags r)

-- A record whose tags are ts, whatever follows.
abbrev pub Holds : List ℕ → List TagPair → Type 0
Holds own ts = (r : List ℕ) → tags_of_lines false (raw_lines (own ++ r)) ≡ ts ++ tags_of_lines false (raw_lines r)

pub alone : (d : Conventions) (own : List ℕ) (ts : List TagPair) → Holds own ts → (plain_of d own).tags ≡ ts
alone d own ts h = TagsOfLines d own ∙ rw (append-nil own, append-nil ts) at (h [])

pub ended : (d : Conventions) (own : List ℕ) (ts : List TagPair) → Holds own ts → (plain_of d (own ++ 10 ∷ [])).tags ≡ ts
ended d own ts h = TagsOfLines d (own ++ 10 ∷ []) ∙ h (10 ∷ []) ∙ rw (blank_tags [], append-nil)

-- THEOREM. A board's written text, alone or with the empty line that ends it, reads back with the written tags, whatever the letters.
pub WrittenTagsBack : (c d : Conventions) → Accepted c → (b : PlainBoard) → Writable b → ((plain_of d (own_text c b)).tags ≡ tags_as_written c b) × ((plain_of d (own_text c b ++ 10 ∷ [])).tags ≡ tags_as_written c b)
WrittenTagsBack c d ok b w = let h = own_tags c b (LinesGood c ok b w) in (alone d (own_text c b) (tags_as_written c b) h, ended d (own_text c b) (tags_as_written c b) h)

-- So it does with the file's header.
pub FirstTagsBack : (c d : Conventions) → Accepted c → (b : PlainBoard) → Writable b → ((plain_of d (first_part c b)).tags ≡ tags_as_written c b) × ((plain_of d (first_part c b ++ 10 ∷ [])).tags ≡ tags_as_written c b)
FirstTagsBack c d ok b w = let h = first_tags c b (LinesGood c ok b w) in (alone d (first_part c b) (tags_as_written c b) h, ended d (first_part c b) (tags_as_written c b) h)

records_tags : (c d : Conventions) → Accepted c → (own : List ℕ) (ts : List TagPair) (bs : List PlainBoard) → Holds own ts → AllWritable bs
    → map (λ r. (plain_of d r).tags) (records_after c own bs) ≡ ts ∷ map (tags_as_written c) bs
records_tags c d ok own ts [] h all_none = rw (alone d own ts h)
records_tags c d ok own ts (b ∷ bs) h (all_one w a) =
    rw (ended d own ts h, records_tags c d ok (own_text c b) (tags_as_written c b) bs (own_tags c b (LinesGood c ok b w)) a)

-- THEOREM. The tags of each record of a page, read with any letters, are the written tags of its board.
pub PageTags : (c d : Conventions) → Accepted c → (bs : List PlainBoard) → AllWritable bs → map (λ r. (plain_of d r).tags) (records_of (page_text c bs)) ≡ map (tags_as_written c) bs
PageTags c d ok [] all_none = rw (PageRecords c ok [] all_none)
PageTags c d ok (b ∷ bs) (all_one w a) =
    rw (PageRecords c ok (b ∷ bs) (all_one w a)) (records_tags c d ok (first_part c b) (tags_as_written c b) bs (first_tags c b (LinesGood c ok b w)) a)

-- THEOREM. So it is with what an edition is written as, and with what a new one is finished as.
pub edition_tags : EditionTags
unfolding written_text plain_boards
edition_tags c d ok text = PageTags c d ok (plain_boards c text) (all_plain c (records_of text))

pub finished_tags : FinishedTags
unfolding finished_text
finished_tags c d ok old new answers = PageTags c d ok (finished_boards c old new answers) (all_finished c old new answers)
