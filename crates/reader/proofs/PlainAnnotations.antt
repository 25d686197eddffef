-- The annotations of a plain board's auction have at most twice the bytes of its record: the auction in force is that of one section.
use Rattle.reader.specs.Boards.{block_of}
use Prim.Native.Nat.{ℕ, zero, suc, ◌+◌, ◌-◌, ◌*◌, ◌≤◌}
use mathlib.Core.Path.{◌≡◌, refl, sym, ap, ◌∙◌}
use mathlib.Core.Bool.{Bool, true, false, cond}
use mathlib.Core.List.{List, [], ◌∷◌, ◌++◌, append_assoc}
use mathlib.Core.Option.{none as nothing, some}
use native.Mathlib.Nat.{add-zero}
use native.Mathlib.Omega.{arith}
use lib.Dec.{ltb, eqb}
use lib.ListN.{length, take, drop, length-append, take-append-drop}
use lib.Seq.{take_at, drop_at, length-take-le}
use borrow.Author.Tests.{eqb-true, eqb-false, ne_eqb}
use Rattle.tables.specs.declared.letters.Conventions.{Conventions}
use Rattle.tables.specs.Text.{lead}
use Rattle.tables.specs.Tables.{TableReading, gathered}
use Rattle.tables.proofs.Laws.{by_cases}
use Rattle.reader.specs.declared.store.Entry.{Entry}
use Rattle.reader.specs.declared.tag.Span.{Span}
use Rattle.reader.specs.declared.tag.Tag.{Tag as TagPlaces}
use Rattle.reader.specs.declared.auction.CallToken.{CallToken}
use Rattle.reader.specs.declared.auction.CallToken.TheVariants.{Plus, Star, AllPass, Annotation, Call, NoCall}
use Rattle.reader.specs.declared.auction.Bidding.{Bidding}
use Rattle.reader.specs.declared.line.TagReading.{TagReading}
use Rattle.reader.specs.declared.line.TagReading.TheVariants.{Plain, WithComment, WithData}
use Rattle.reader.specs.declared.section.Open.{Open}
use Rattle.reader.specs.declared.section.Walk.{Walk}
use Rattle.reader.specs.declared.board.Section.{Section}
use Rattle.reader.specs.declared.board.Board.{Board}
use Rattle.reader.specs.declared.board.State.{State}
use Rattle.reader.specs.Lines.{last_brace}
use Rattle.reader.specs.Pieces.{Piece, Out, out_all, and_then, entry, tokens_of, raw_lines}
use Rattle.reader.specs.Auction.{call_token_of, bidding, called_by, called, called_piece}
use Rattle.reader.specs.Play.{last_trick}
use Rattle.reader.specs.Sections.{commentary_after, stops_at, piece_of, data_in, split_piece, section_data, walked, no_walk, walked_all, kind_of, opener, lines_at, split_off}
use Rattle.reader.specs.Boards.{applied, with_sections, auction_closed, play_closed, rows_closed, rows_taken, table_closed, closed_entries, last_entries, closed_by, closed, no_span, at, tagged, directed, data_added, read_by, blocked, no_state, record_out}
use Rattle.reader.specs.Plain.{item_of, items_of, PlainCall, PlainAuction, annotations_first, calls_in, plain_auction, plain_by, plain_of}
use Rattle.reader.proofs.EntryLaws.{sum_append, sum_of, All, none, one, Trick, bytes_in, tokens_bytes}
use Rattle.reader.proofs.Tags.{never}
use Rattle.reader.proofs.PlayLaws.{TricksOnly, LastTrickOnly}
use Rattle.reader.proofs.WalkLaws.{section_count}
use Rattle.reader.proofs.BoardLaws.{Counts, closed_counts}
use Rattle.reader.proofs.Counts.{chosen, next_line_lem, bytes_append, cut_few, piece_few}
use Rattle.reader.proofs.PlainLaws.{force_is}
use Rattle.reader.proofs.PlainWords.{entries_within, within_items}
use Rattle.reader.proofs.PlainSizes.{bytes_few}
use Rattle.reader.proofs.PlainSteps.{HoldsOfRecord}
use Rattle.std.specs.Prelude.{Ok, Err, Option, Some, None}

-- The bytes of the annotations among entries.
abbrev annotation_one : Entry → ℕ
annotation_one e = cond (eqb e.kind 7) e.y 0

abbrev annotation_size : List Entry → ℕ
annotation_size es = sum_of annotation_one es

annotation_append : (es fs : List Entry) → annotation_size (es ++ fs) ≡ annotation_size es + annotation_size fs
annotation_append = sum_append annotation_one

annotation_take : (n : ℕ) (es : List Entry) → annotation_size (take n es) ≤ annotation_size es
annotation_take zero es = omega arith
annotation_take (suc n) [] = omega arith
annotation_take (suc n) (e ∷ es) = omega (arith, annotation_take n es)

tricks_none : {es : List Entry} → All Trick es → annotation_size es ≡ 0
tricks_none none = refl
tricks_none (one {x = e} t a) = rw (ne_eqb e.kind 7 (λ u. omega (arith, t.trick, u))) (omega (arith, tricks_none a))

-- ---- one section

token_annotations : (k : CallToken) (b : Bidding) (t : Piece) → annotation_size (called_by k b t).entries ≤ length t.bytes
token_annotations Plus b t = omega arith
token_annotations Star b t = omega arith
token_annotations AllPass b t = omega arith
token_annotations Annotation b t =
    chosen (λ (o : Out Bidding). annotation_size o.entries ≤ length t.bytes) b.made (record { state = bidding true b.end false (b.count + 1); entries = entry 7 t.at (length t.bytes) 0 ∷ [] }) (record { state = bidding false b.end false b.count; entries = [] })
    (λ e. omega arith)
    (λ e. omega arith)
token_annotations (Call code k) b t =
    let n = length t.bytes - k in
    chosen (λ es. annotation_size (entry 6 t.at k code ∷ es) ≤ length t.bytes) (ltb 0 n) (entry 7 (t.at + k) n 0 ∷ []) [] (λ e. omega arith) (λ e. omega arith)
token_annotations NoCall b t = omega arith

called_annotations : (c : Conventions) (b : Bidding) (t : Piece) → annotation_size (called c b t).entries ≤ length t.bytes
unfolding called
called_annotations c b t =
    chosen (λ (o : Out Bidding). annotation_size o.entries ≤ length t.bytes) b.stopped (record { state = b; entries = [] }) (called_by (call_token_of c t.bytes) b t) (λ e. omega arith) (λ e. token_annotations (call_token_of c t.bytes) b t)

out_annotations : {A : Type 0} (f : A → Piece → Out A) → ((a : A) (q : Piece) → annotation_size (f a q).entries ≤ length q.bytes) → (a : A) (qs : List Piece) → annotation_size (out_all f a qs).entries ≤ bytes_in qs
out_annotations f h a [] = omega arith
out_annotations f h a (q ∷ qs) = rw annotation_append (omega (arith, h a q, out_annotations f h (f a q).state qs))

piece_annotations : (c : Conventions) (b : Bidding) (q : Piece) → annotation_size (called_piece c b q).entries ≤ length q.bytes
unfolding called_piece
piece_annotations c b q = omega (arith, out_annotations (called c) (λ x t. called_annotations c x t) b (tokens_of q), tokens_bytes q.at q.bytes)

walked_annotations : (c : Conventions) (o : Option Open) (trump : ℕ) (w : Walk) (q : Piece) → annotation_size (walked c o trump w q).entries ≤ length q.bytes
unfolding walked
walked_annotations c o trump w q =
    by_cases (eqb (kind_of o) 1)
    (λ e. rw e (piece_annotations c w.bidding q))
    (λ e. by_cases (eqb (kind_of o) 2) (λ f. rw (e, f) (omega (arith, tricks_none (TricksOnly c (opener o) trump w.tricks q)))) (λ f. rw (e, f) (omega arith)))

lines_few : (r : List ℕ) (commentary : Bool) (p : ℕ) (ls : List (List ℕ)) → raw_lines (drop p r) ≡ ls → bytes_in (data_in commentary p ls) ≤ length r - p
lines_few r commentary p [] e = omega arith
lines_few r commentary p (l ∷ ls) e =
    let n = next_line_lem r p l ls e in
    let i = lines_few r (commentary_after commentary l) (p + length l) ls n.rest in
    by_cases (stops_at commentary l) (λ t. rw t (omega arith)) (λ t. rw (t, bytes_append (piece_of commentary p l)) (omega (arith, piece_few commentary p l, n.inside)))

split_few : (r : List ℕ) (s : Option Span) → bytes_in (split_piece r s) ≤ length r
split_few r None = omega arith
split_few r (Some s) = omega (arith, cut_few s r)

section_annotations : (c : Conventions) (r : List ℕ) (o : Option Open) (trump : ℕ) → annotation_size (walked_all c r o trump).entries ≤ 2 * length r
unfolding walked_all section_data
section_annotations c r o trump =
    let a = split_piece r (split_off o) in
    let b = data_in false (lines_at o) (raw_lines (drop (lines_at o) r)) in
    omega (arith, out_annotations (walked c o trump) (λ w q. walked_annotations c o trump w q) no_walk (a ++ b), bytes_append a b, split_few r (split_off o), lines_few r false (lines_at o) (raw_lines (drop (lines_at o) r)) refl)

last_annotations : (kind : ℕ) (w : Walk) → annotation_size (last_entries kind w) ≡ 0
last_annotations kind w = by_cases (eqb kind 2) (λ e. rw e (tricks_none (LastTrickOnly w.tricks))) (λ e. rw e)

-- ---- the auction in force

-- No section, or one whose entries are among es and have annotations of at most n bytes.
data Within (n : ℕ) (es : List Entry) (s : Section) : Type 0 where
  absent : s.first ≡ 0 → Within n es s
  inside : (xs ws ys : List Entry) → es ≡ xs ++ (ws ++ ys) → s.first ≡ length xs + 1 → s.count ≡ length ws → annotation_size ws ≤ n → Within n es s

within_more : {n : ℕ} {es : List Entry} {s : Section} (fs : List Entry) → Within n es s → Within n (es ++ fs) s
within_more fs (absent e) = absent e
within_more fs (inside xs ws ys e a b h) = inside xs ws (ys ++ fs) (rw e (append_assoc xs (ws ++ ys) fs ∙ ap (λ (l : List Entry). xs ++ l) (append_assoc ws ys fs))) a b h

record Holding (r : List ℕ) (s : State) (o : Out State) : Type 0 where
  counts : Counts s o
  holds_on : (es : List Entry) → length es ≡ s.n → Within (2 * length r) es s.board.auction → Within (2 * length r) (es ++ o.entries) o.state.board.auction

same_auction : (r : List ℕ) (s : State) (o : Out State) → Counts s o → o.state.board.auction ≡ s.board.auction → Holding r s o
same_auction r s o n e = record { counts = n; holds_on = λ es h a. kept o.state.board.auction e (within_more o.entries a) }
  where
    kept : {n : ℕ} {xs : List Entry} (v : Section) → v ≡ s.board.auction → Within n xs s.board.auction → Within n xs v
    kept v e a = rw e a

closed_holds : (c : Conventions) (r : List ℕ) (s : State) (es : List Entry) → length es ≡ s.n → Within (2 * length r) es s.board.auction
    → Within (2 * length r) (es ++ (closed c r s).entries) (closed c r s).state.board.auction
unfolding closed
closed_holds c r s es n h =
    let b = s.board in
    let o = s.section in
    let w = walked_all c r o b.contract in
    let v = w.state in
    let E = closed_entries o w in
    let k = v.bidding.count in
    let m = 2 * length r in
    let P : Board → Type 0 = λ x. Within m (es ++ E) x.auction in
    let old : P b = within_more E h in
    let sec : Section = record { first = s.n + 1; count = k; seat = opener o; end = v.bidding.end } in
    let l = length-append w.entries (last_entries (kind_of o) v) in
    let q = section_count c r o b.contract in
    let few : k ≤ length E = omega arith in
    let size : annotation_size (take k E) ≤ m = omega (arith, annotation_take k E, annotation_append w.entries (last_entries (kind_of o) v), section_annotations c r o b.contract, last_annotations (kind_of o) v) in
    let new : Within m (es ++ E) sec = inside es (take k E) (drop k E) (ap (λ (x : List Entry). es ++ x) (sym (take-append-drop k E))) (omega arith) (sym (length-take-le k E few)) size in
    chosen (λ (x : Out State). Within m (es ++ x.entries) x.state.board.auction) (eqb (kind_of o) 0) (record { state = s; entries = [] }) (closed_by s w) (λ e. within_more [] h)
    (λ e.
    chosen P (eqb (kind_of o) 1) (auction_closed b (opener o) s.n v) (cond (eqb (kind_of o) 2) (play_closed b (opener o) s.n v) (table_closed b v))
    (λ f. chosen P v.bidding.any (with_sections b b.table sec b.play b.trump) b (λ g. new) (λ g. old))
    (λ f.
    chosen P (eqb (kind_of o) 2) (play_closed b (opener o) s.n v) (table_closed b v)
    (λ g.
    chosen P v.tricks.any
    (with_sections b b.table b.auction (record { first = s.n + 1; count = (last_trick v.tricks).state.count; seat = opener o; end = v.tricks.end }) b.contract) b (λ j. old) (λ j. old))
    (λ g. rows_hold b v.rows old)))
  where
    table_holds : {n : ℕ} {xs : List Entry} (b : Board) (g : TableReading) → Within n xs b.auction → Within n xs (rows_closed b g).auction
    table_holds b (Ok cells) h = h
    table_holds b (Err f) h = h

    rows_hold : {n : ℕ} {xs : List Entry} (b : Board) (t : Option (List ℕ)) → Within n xs b.auction → Within n xs (rows_taken b t).auction
    rows_hold b None h = h
    rows_hold b (Some cells) h = table_holds b (gathered cells) h

together_holds : (r : List ℕ) (s : State) (o k : Out State) → Holding r s o → Holding r o.state k → Holding r s (and_then o k)
together_holds r s o k a b =
    record {
      counts = b.counts ∙ rw length-append (omega (arith, a.counts));
      holds_on = λ es h z.
          let n : length (es ++ o.entries) ≡ o.state.n = rw length-append (omega (arith, a.counts)) in
          moved (append_assoc es o.entries k.entries) (b.holds_on (es ++ o.entries) n (a.holds_on es h z));
    }
  where
    moved : {n : ℕ} {xs ys : List Entry} {v : Section} → xs ≡ ys → Within n xs v → Within n ys v
    moved e z = rw e at z

tagged_holds : (c : Conventions) (r : List ℕ) (s : State) (p : ℕ) (l : List ℕ) (q : ℕ) (t : TagPlaces) (split : Option Span) → Holding r s (tagged c s p l q t split)
unfolding tagged applied
tagged_holds c r s p l q t split = same_auction r s (tagged c s p l q t split) refl refl

reading_holds : (c : Conventions) (r : List ℕ) (s : State) (p : ℕ) (l : List ℕ) (q : ℕ) (t : TagReading) → Holding r s (read_by c s p l q t)
reading_holds c r s p l q (Plain t) = tagged_holds c r s p l q t no_span
reading_holds c r s p l q (WithComment t d) =
    let o = tagged c s p l q t no_span in
    together_holds r s o (directed o.state p d) (tagged_holds c r s p l q t no_span) (same_auction r o.state (directed o.state p d) refl refl)
reading_holds c r s p l q (WithData t d) =
    let o = tagged c s p l q t (Some (at p d)) in
    together_holds r s o (data_added o.state p d) (tagged_holds c r s p l q t (Some (at p d))) (same_auction r o.state (data_added o.state p d) refl refl)

blocked_holds : (r : List ℕ) (s : State) (i j : ℕ) → Holding r s (blocked r s i j)
unfolding blocked
blocked_holds r s i j = same_auction r s (blocked r s i j) refl refl

record_holds : (c : Conventions) (r : List ℕ) → Holding r no_state (record_out c r)
record_holds c r =
    HoldsOfRecord c r (λ p s q o. Holding r s o)
    record {
      together = λ p q z s o k a b. together_holds r s o k a b;
      closing = λ p s. record { counts = closed_counts c r s; holds_on = closed_holds c r s };
      idle = λ p s l i n. same_auction r s (record { state = s; entries = [] }) (sym (add-zero s.n)) refl;
      quiet = λ p s l i n b. same_auction r s (record { state = s; entries = [] }) (sym (add-zero s.n)) refl;
      opening = λ p s l i n k b. same_auction r s (record { state = _; entries = [] }) (sym (add-zero s.n)) refl;
      bracing = λ p s l i n k b. blocked_holds r s (p + length (lead l) + 1) (p + last_brace l);
      commentary = λ p s l i n b. blocked_holds r s (block_of s) (p + last_brace l);
      directing = λ p s l d i n k. same_auction r s (directed s p d) refl refl;
      dating = λ p s l d i n k. same_auction r s (data_added s p d) refl refl;
      tagging = λ p s l t i k. reading_holds c r s p l (p + length l) t;
    }

-- ---- the plain board

abbrev pub calls_size : List PlainCall → ℕ
calls_size [] = 0
calls_size (k ∷ ks) = length k.annotation + calls_size ks

calls_size_lem : (r : List ℕ) (es : List Entry) → calls_size (calls_in (items_of r es)) + length (annotations_first (items_of r es)) ≤ annotation_size es
unfolding item_of
calls_size_lem r [] = omega arith
calls_size_lem r (e ∷ es) =
    let i = calls_size_lem r es in
    by_cases (eqb e.kind 6)
    (λ t.
    let k = eqb-true e.kind 6 t in
    rw (t, ne_eqb e.kind 7 (λ u. omega (arith, k, u))) (omega arith))
    (λ t.
    by_cases (eqb e.kind 7)
    (λ u. rw (t, u, length-append) (omega (arith, bytes_few r e)))
    (λ u. rw (t, u) (omega arith)))

within_size : {n : ℕ} (es : List Entry) (s : Section) → Within n es s → (s.first ≡ 0 → ⊥) → annotation_size (entries_within s es) ≤ n
within_size es s (absent e) x = absurd (x e)
within_size es s (inside xs ws ys e a b h) x =
    let f : s.first - 1 ≡ length xs = omega arith in
    let d : drop (s.first - 1) es ≡ ws ++ ys = ap (drop (s.first - 1)) e ∙ drop_at xs (ws ++ ys) (s.first - 1) (sym f) in
    let g : entries_within s es ≡ ws = ap (take s.count) d ∙ take_at ws ys s.count (sym b) in
    omega (arith, ap annotation_size g)

-- THEOREM. The annotations of a plain board's calls have at most twice the bytes of its record.
pub PlainAnnotations : (c : Conventions) (r : List ℕ) (a : PlainAuction) → (plain_of c r).auction ≡ some a → calls_size a.calls ≤ 2 * length r
unfolding plain_of plain_by
PlainAnnotations c r a e =
    let es = (record_out c r).entries in
    let s = (record_out c r).state.board.auction in
    let w = (record_holds c r).holds_on [] refl (absent refl) in
    let f = ap (λ (x : PlainAuction). calls_size x.calls) (force_is s (plain_auction s (items_of r es)) a e) in
    let g = ap (λ l. calls_size (calls_in l)) (within_items r s es) in
    by_cases (eqb s.first 0)
    (λ t. never_some (rw t at e))
    (λ t. omega (arith, f, g, calls_size_lem r (entries_within s es), within_size es s w (eqb-false s.first 0 t)))
  where
    never_some : nothing ≡ some a → calls_size a.calls ≤ 2 * length r
    never_some e = never e
