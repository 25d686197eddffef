-- How long a page can be: at most 177 bytes for each byte of the text, and the 20 of the header; so below 2 ^ 32.
use Prim.Native.Nat.{ℕ, zero, suc, ◌+◌, ◌-◌, ◌*◌, ◌≤◌, ◌<◌}
use mathlib.Core.Path.{◌≡◌, refl}
use mathlib.Core.Bool.{Bool, true, false, cond, ◌&&◌, not}
use mathlib.Core.List.{List, [], ◌∷◌, ◌++◌, map}
use mathlib.Core.Option.{none as nothing, some}
use native.Mathlib.Omega.{arith}
use lib.Dec.{eqb}
use lib.ListN.{length, take, drop, length-append, length-map, length-take, length-drop}
use borrow.Author.Tests.{eqb-true, ne_eqb}
use Rattle.tables.specs.declared.letters.Conventions.{Conventions}
use Rattle.tables.proofs.Laws.{by_cases, clash, both, either}
use Rattle.reader.specs.declared.store.Entry.{Entry}
use Rattle.reader.specs.declared.board.TableCard.{TableCard}
use Rattle.reader.specs.declared.board.Section.{Section}
use Rattle.reader.specs.declared.record.Scan.{Scan}
use Rattle.reader.specs.Store.{flat}
use Rattle.reader.specs.Tag.{cut}
use Rattle.reader.specs.Lines.{line_kind, opens_board, is_blank}
use Rattle.reader.specs.Pieces.{raw_lines}
use Rattle.reader.specs.Records.{fresh, scanned, closes_record, emit, records_from, records_of}
use Rattle.reader.specs.Boards.{record_out}
use Rattle.reader.specs.Plain.{Item, item_of, items_of, bytes_of, PlainAuction, PlainPlay, PlainBoard, value_at, remarks_in, in_force, items_within, calls_in, tricks_in, plain_auction, plain_play, plain_by, plain_of, plain_boards, plain_list}
use Rattle.reader.proofs.EntryLaws.{All, none, one}
use Rattle.reader.proofs.Tags.{opt_cases}
use Rattle.reader.proofs.Counts.{chosen, EntriesFew}
use Rattle.reader.proofs.Seams.{records_fit}
use Rattle.reader.proofs.PlainCalls.{CallWritable, PlainCalls}
use Rattle.reader.proofs.PlainAnnotations.{calls_size, PlainAnnotations}
use Rattle.reader.proofs.PlainBounds.{PlainBounds}
use Rattle.writer.specs.Tags.{or_empty, written_tags}
use Rattle.writer.specs.Remarks.{WrittenLine, lines_text, leading_lines}
use Rattle.writer.specs.Pages.{own_play, body_text, built_in_header, page_header, first_part, next_part, next_parts, page_text, written_text}
use Rattle.writer.proofs.NamesOnce.{once}
use Rattle.writer.proofs.Shares.{TagLineLong, PlainShares}
use Rattle.writer.proofs.RemarkSizes.{LinesSize}
use Rattle.writer.proofs.TagSizes.{calls_of, tricks_of, BoardSized, WrittenSize}

-- ---- a board's part

-- THEOREM. A board's lines, and one byte more, are at most 177 bytes for each byte of its record.
pub PartSize : (c : Conventions) (n : ℕ) (b : PlainBoard) → BoardSized n b → length (lines_text (leading_lines b)) + length (body_text c b) + 1 ≤ 177 * n
PartSize c n b m =
    let ws = written_tags c b (own_play c b.play) in
    omega (arith, LinesSize b ws, WrittenSize c n b m, m.long, m.shared, m.counted)

-- ---- the page

-- Boards that are so sized, each by its own record.
pub data BoardsSized : List (List ℕ) → List PlainBoard → Type 0 where
  over : BoardsSized [] []
  next : {r : List ℕ} {rs : List (List ℕ)} {b : PlainBoard} {bs : List PlainBoard} → BoardSized (length r) b → BoardsSized rs bs → BoardsSized (r ∷ rs) (b ∷ bs)

header_few : (ls : List WrittenLine) → length (page_header ls) ≤ length (lines_text ls) + 20
unfolding built_in_header
header_few [] = omega arith
header_few (l ∷ ls) = omega (arith, length-append (lines_text (l ∷ ls)) (10 ∷ []))

parts_few : (c : Conventions) {rs : List (List ℕ)} {bs : List PlainBoard} → BoardsSized rs bs → length (next_parts c bs) ≤ 177 * length (flat rs)
unfolding next_part
parts_few c over = omega arith
parts_few c (next {r = r} {rs = rs} {b = b} {bs = bs} m h) =
    omega (
      arith,
      length-append (next_part c b) (next_parts c bs),
      length-append (lines_text (leading_lines b)) (body_text c b),
      length-append r (flat rs),
      PartSize c (length r) b m,
      parts_few c h,
    )

-- THEOREM. A page of such boards has at most 177 bytes for each byte of their records, and 20.
pub PageSize : (c : Conventions) {rs : List (List ℕ)} {bs : List PlainBoard} → BoardsSized rs bs → length (page_text c bs) ≤ 177 * length (flat rs) + 20
unfolding first_part built_in_header
PageSize c over = omega arith
PageSize c (next {r = r} {rs = rs} {b = b} {bs = bs} m h) =
    omega (
      arith,
      length-append (first_part c b) (next_parts c bs),
      length-append (page_header (leading_lines b)) (body_text c b),
      header_few (leading_lines b),
      length-append r (flat rs),
      PartSize c (length r) b m,
      parts_few c h,
    )

-- ---- plain boards

-- How many items are of the kind k.
abbrev kind_count : ℕ → List Item → ℕ
kind_count k [] = 0
kind_count k (i ∷ is) = once (eqb i.kind k) + kind_count k is

count_split : (k n : ℕ) (is : List Item) → kind_count k (take n is) + kind_count k (drop n is) ≡ kind_count k is
count_split k zero is = omega arith
count_split k (suc n) [] = omega arith
count_split k (suc n) (i ∷ is) = omega (arith, count_split k n is)

count_within : (k : ℕ) (s : Section) (is : List Item) → kind_count k (items_within s is) ≤ kind_count k is
count_within k s is = omega (arith, count_split k s.count (drop (s.first - 1) is), count_split k (s.first - 1) is)

calls_count : (is : List Item) → length (calls_in is) ≡ kind_count 6 is
calls_count [] = refl
calls_count (i ∷ is) = by_cases (eqb i.kind 6) (λ e. rw e (omega (arith, calls_count is))) (λ e. rw e (omega (arith, calls_count is)))

tricks_count : (is : List Item) → length (tricks_in is) ≡ kind_count 8 is
tricks_count [] = refl
tricks_count (i ∷ is) = by_cases (eqb i.kind 8) (λ e. rw e (omega (arith, tricks_count is))) (λ e. rw e (omega (arith, tricks_count is)))

blocks_count : (is : List Item) → length (remarks_in 4 is) ≡ kind_count 4 is
blocks_count [] = refl
blocks_count (i ∷ is) = by_cases (eqb i.kind 4) (λ e. rw e (omega (arith, blocks_count is))) (λ e. rw e (omega (arith, blocks_count is)))

-- An item has one kind.
kinds_few : (is : List Item) → kind_count 6 is + kind_count 8 is + kind_count 4 is ≤ length is
kinds_few [] = omega arith
kinds_few (i ∷ is) =
    let r = kinds_few is in
    by_cases (eqb i.kind 6)
    (λ e.
    let k = eqb-true i.kind 6 e in
    rw (e, ne_eqb i.kind 8 (λ u. omega (arith, k, u)), ne_eqb i.kind 4 (λ u. omega (arith, k, u))) (omega arith))
    (λ e.
    by_cases (eqb i.kind 8)
    (λ f. rw (e, f, ne_eqb i.kind 4 (λ u. omega (arith, eqb-true i.kind 8 f, u))) (omega arith))
    (λ f. by_cases (eqb i.kind 4) (λ g. rw (e, f, g) (omega arith)) (λ g. rw (e, f, g) (omega arith))))

force_calls : (s : Section) (a : PlainAuction) → length (calls_of (in_force s a)) ≤ length a.calls
force_calls s a = chosen (λ o. length (calls_of o) ≤ length a.calls) (eqb s.first 0) nothing (some a) (λ e. omega arith) (λ e. omega arith)

force_tricks : (s : Section) (p : PlainPlay) → length (tricks_of (in_force s p)) ≤ length p.tricks
force_tricks s p = chosen (λ o. length (tricks_of o) ≤ length p.tricks) (eqb s.first 0) nothing (some p) (λ e. omega arith) (λ e. omega arith)

plain_counted : (c : Conventions) (r : List ℕ)
    → length (calls_of (plain_of c r).auction) + length (tricks_of (plain_of c r).play) + length (plain_of c r).blocks ≤ 4 * length r
unfolding plain_of plain_by
plain_counted c r =
    let es = (record_out c r).entries in
    let b = (record_out c r).state.board in
    let is = items_of r es in
    rw length-map
    (omega (
      arith,
      EntriesFew c r,
      length-map es (item_of r),
      kinds_few is,
      blocks_count is,
      force_calls b.auction (plain_auction b.auction is),
      calls_count (items_within b.auction is),
      count_within 6 b.auction is,
      force_tricks b.play (plain_play b.play is),
      tricks_count (items_within b.play is),
      count_within 8 b.play is,
    ))

plain_annotated : (c : Conventions) (r : List ℕ) → calls_size (calls_of (plain_of c r).auction) ≤ 2 * length r
plain_annotated c r =
    opt_cases (plain_of c r).auction (λ e. rw e (omega arith)) (λ a e. rw e (PlainAnnotations c r a e))

plain_writable : (c : Conventions) (r : List ℕ) → All CallWritable (calls_of (plain_of c r).auction)
plain_writable c r = opt_cases (plain_of c r).auction (λ e. rw e none) (λ a e. rw e (PlainCalls c r a e))

bytes_within : (r : List ℕ) (e : Entry) → length (bytes_of r e) ≤ length r
bytes_within r e =
    chosen (λ (l : List ℕ). length l ≤ length r) (eqb e.kind 8) [] (cut (record { start = e.x; len = e.y }) r)
    (λ t. omega arith)
    (λ t. rw (length-take, length-drop) (omega arith))

value_within : (r : List ℕ) (k : ℕ) (es : List Entry) → length (or_empty (value_at k (items_of r es))) ≤ length r
unfolding item_of
value_within r k [] = omega arith
value_within r k (e ∷ es) = by_cases (eqb k 1) (λ t. rw t (bytes_within r e)) (λ t. rw t (value_within r (k - 1) es))

plain_values_lem : (c : Conventions) (r : List ℕ) → All (λ o. length (or_empty o) ≤ length r) (plain_list (plain_of c r).values)
unfolding plain_of plain_by
plain_values_lem c r =
    let es = (record_out c r).entries in
    let v = (record_out c r).state.board.values in
    one (value_within r v.id es)
    (one (value_within r v.event es)
    (one (value_within r v.site es)
    (one (value_within r v.date es)
    (one (value_within r v.contract es)
    (one (value_within r v.north es)
    (one (value_within r v.east es)
    (one (value_within r v.south es)
    (one (value_within r v.west es)
    (one (value_within r v.deal es)
    (one (value_within r v.score es)
    (one (value_within r v.par es) none)))))))))))

-- THEOREM. The plain board of a record of five bytes or more is so sized, and the same board with another table of at most 20 cells.
pub PlainSized : (c : Conventions) (r : List ℕ) → 5 ≤ length r → BoardSized (length r) (plain_of c r)
PlainSized c r h =
    record {
      long = h;
      shared = PlainShares c r;
      counted = plain_counted c r;
      annotated = plain_annotated c r;
      calls_good = plain_writable c r;
      values_few = plain_values_lem c r;
      cells_few = omega (arith, (PlainBounds c r).table_in.twenty);
    }

pub TablePut : (n : ℕ) (b : PlainBoard) (t : TableCard) → length t.cells ≤ 20 → BoardSized n b
    → BoardSized n (record { id = b.id; deal = b.deal; table = t; values = b.values; tags = b.tags; directives = b.directives; blocks = b.blocks; auction = b.auction; play = b.play; trump = b.trump })
TablePut n b t h m =
    record { long = m.long; shared = m.shared; counted = m.counted; annotated = m.annotated; calls_good = m.calls_good; values_few = m.values_few; cells_few = h }

-- ---- every record holds a tag

emit_long : (b : Bool) (x : List ℕ) (rs : List (List ℕ)) → (b ≡ true → 5 ≤ length x) → All (λ r. 5 ≤ length r) rs → All (λ r. 5 ≤ length r) (emit b x rs)
emit_long true x rs h a = one (h refl) a
emit_long false x rs h a = a

met_long : (s : Scan) (text l : List ℕ) → (s.met ≡ true → 5 ≤ length text) → (scanned s l).met ≡ true → 5 ≤ length (text ++ l)
unfolding scanned
met_long s text l h e =
    let n = length-append text l in
    by_cases s.commentary
    (λ t. omega (arith, h (rw t at e)))
    (λ t. either s.met (opens_board (line_kind l)) (rw t at e) (λ m. omega (arith, h m)) (λ o. omega (arith, TagLineLong l o)))

records_long : (s : Scan) (text : List ℕ) (ls : List (List ℕ)) → (s.met ≡ true → 5 ≤ length text) → All (λ r. 5 ≤ length r) (records_from s text ls)
unfolding closes_record
records_long s text [] h = emit_long s.met text [] h none
records_long s text (l ∷ ls) h =
    emit_long (closes_record s l) (text ++ l) _
    (λ t. omega (arith, h (both s.met (is_blank l) (both (not s.commentary) (s.met && is_blank l) t).1).0, length-append text l))
    (records_long (cond (closes_record s l) fresh (scanned s l)) (cond (closes_record s l) [] (text ++ l)) ls (kept (closes_record s l)))
  where
    kept : (b : Bool) → (cond b fresh (scanned s l)).met ≡ true → 5 ≤ length (cond b [] (text ++ l))
    kept true e = clash e
    kept false e = met_long s text l h e

-- THEOREM. A record has five bytes or more.
pub RecordsLong : (text : List ℕ) → All (λ r. 5 ≤ length r) (records_of text)
unfolding records_of
RecordsLong text = records_long fresh [] (raw_lines text) (λ e. clash e)

-- ---- an edition

plain_sized : (c : Conventions) {rs : List (List ℕ)} → All (λ r. 5 ≤ length r) rs → BoardsSized rs (map (plain_of c) rs)
plain_sized c none = over
plain_sized c (one {x = r} h a) = next (PlainSized c r h) (plain_sized c a)

-- THEOREM. The plain boards of an edition are such boards.
pub EditionSized : (c : Conventions) (text : List ℕ) → BoardsSized (records_of text) (plain_boards c text)
unfolding plain_boards
EditionSized c text = plain_sized c (RecordsLong text)

-- THEOREM. A page of an edition's boards, whatever their tables, has at most 177 bytes for each byte of the edition, and 20.
pub PageMost : (c : Conventions) (text : List ℕ) {bs : List PlainBoard} → BoardsSized (records_of text) bs → length (page_text c bs) ≤ 177 * length text + 20
PageMost c text a = omega (arith, PageSize c a, records_fit text)

-- THEOREM. It is below 2 ^ 32 bytes where the edition is not overlong.
pub PageFew : (c : Conventions) (text : List ℕ) {bs : List PlainBoard} → length text ≤ 16777215 → BoardsSized (records_of text) bs → length (page_text c bs) < 4294967296
PageFew c text h a = omega (arith, PageMost c text a)

pub BytesFew : (c : Conventions) (text : List ℕ) → length text ≤ 16777215 → length (written_text c text) < 4294967296
unfolding written_text
BytesFew c text h = PageFew c text h (EditionSized c text)
