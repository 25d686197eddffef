-- A record of written lines, read line by line: the auction and the play that are in force, and the trump of the contract, after each tag
-- with its data lines.
use Rattle.reader.specs.Boards.{in_block}
use Rattle.std.specs.Prelude.{None}
use Rattle.std.specs.Prelude.{Option as Maybe, Some}
use Rattle.reader.specs.declared.section.Kind.TheVariants.{Auction, Play}
use Prim.Native.Nat.{ℕ, ◌+◌, ◌-◌, ◌≤◌, ◌<◌}
use mathlib.Core.Path.{◌≡◌, refl, sym, ap, ◌∙◌}
use mathlib.Core.Bool.{Bool, true, false, cond, ◌||◌}
use mathlib.Core.List.{List, [], ◌∷◌, ◌++◌, map, append_assoc, append-nil, map-append}
use mathlib.Core.Option.{Option, none, some}
use native.Mathlib.Omega.{arith}
use lib.Dec.{ltb, eqb}
use lib.ListN.{length, take, drop, length-append, length-drop, length-map}
use lib.Seq.{drop-append-le, take-append-le, drop-drop, drop-append_seam, take_all}
use borrow.Author.Tests.{ne_eqb, lt-ltb}
use Rattle.tables.specs.declared.letters.Conventions.{Conventions}
use Rattle.tables.specs.Text.{ascii, is_white, trimmed, first_character}
use Rattle.tables.specs.Letters.{Accepted, every, seat_of}
use Rattle.tables.proofs.Laws.{by_cases, both, neither}
use Rattle.tables.proofs.LetterLaws.{seat_back}
use Rattle.reader.specs.declared.store.Entry.{Entry}
use Rattle.reader.specs.declared.tag.Span.{Span}
use Rattle.reader.specs.declared.line.Line.{Line}
use Rattle.reader.specs.declared.line.Line.TheVariants.{Blank, Tag, Data}
use Rattle.reader.specs.declared.line.TagReading.TheVariants.{Plain}
use Rattle.reader.specs.declared.board.Section.{Section}
use Rattle.reader.specs.declared.board.Board.{Board}
use Rattle.reader.specs.declared.board.State.{State}
use Rattle.reader.specs.declared.section.Open.{Open}
use Rattle.reader.specs.declared.section.Walk.{Walk}
use Rattle.reader.specs.Store.{flat}
use Rattle.reader.specs.Lines.{is_blank, line_kind}
use Rattle.reader.specs.Words.{call_token}
use Rattle.reader.specs.Tag.{cut, trim_span}
use Rattle.reader.specs.TagBytes.{good_name}
use Rattle.reader.specs.Names.{tag_number, auction_name, play_name, optimum_result_table_name}
use Rattle.reader.proofs.NamePins.{name_auction, name_play}
use Rattle.reader.specs.Pieces.{Out, entry, raw_lines}
use Rattle.reader.specs.Play.{last_trick}
use Rattle.reader.specs.Sections.{stops_at, data_in, split_piece, lines_data, section_data, walked_all, kind_of, opener, lines_at, split_off}
use Rattle.reader.specs.Boards.{applied, contract_by, data_entries, with_sections, board_closed, closed_entries, closed_state, closed_by, open_by, no_open, no_board, no_span, closed, tagged, tag_line_out, in_commentary, line_by, line_out, lines_out, no_state, record_out}
use Rattle.reader.specs.Plain.{Item, item_of, items_of, in_force, items_within, PlainCall, calls_in, plain_auction, PlainTrick, PlainPlay, plain_play, tricks_in, plain_by, plain_of}
use Rattle.reader.proofs.Seams.{flat_raw}
use Rattle.writer.specs.Remarks.{WrittenLine, tag_line, data_line, line_text, lines_text}
use Rattle.demands.specs.Lin.{Calls, auction_calls}
use Rattle.demands.specs.PageBack.{all, good_data, good_line, ReadsAs, tag, section}
use Rattle.demands.proofs.LineBack.{LineBack}
use Rattle.demands.proofs.PageWalk.{line_then}
use Rattle.demands.proofs.BoardWritable.{seat_good}
use Rattle.demands.proofs.SectionTokens.{texts, Stops, DataBack}
use Rattle.demands.proofs.LinAuction.{CallEntries, AuctionRead, calls_inside, calls_length, calls_good, AuctionBack}
use Rattle.demands.proofs.LinPlay.{entry_of, PlayRead, tricks_good, PlayBack, TricksIn}
use Rattle.writer.specs.Tags.{seat_text}
use Rattle.writer.specs.Pages.{built_in_header}
use Rattle.writer.specs.Sections.{rounds}
use Rattle.lin.specs.Playing.{tricks_from, trick_lines}
use Rattle.lin.specs.LinBoards.{plain_call}

-- ---- sections among the entries

abbrev pub auction_seen : List ℕ → Section → List Entry → Option Calls
auction_seen r s es = in_force s (s.seat, calls_in (items_within s (items_of r es)))

abbrev pub play_seen : List ℕ → Section → List Entry → Option PlainPlay
play_seen r s es = in_force s (plain_play s (items_of r es))

-- The auction, the play and the contract's trump of a board with its entries.
pub record Seen (r : List ℕ) (b : Board) (es : List Entry) (a : Option Calls) (p : Option PlainPlay) (trump : ℕ) : Type 0 where
  pub auction_is : auction_seen r b.auction es ≡ a
  pub auction_in : b.auction.first - 1 + b.auction.count ≤ length es
  pub play_is : play_seen r b.play es ≡ p
  pub play_in : b.play.first - 1 + b.play.count ≤ length es
  pub contract_is : b.contract ≡ trump

-- The entries of a section are not touched by entries behind them.
within_more : (r : List ℕ) (s : Section) (es fs : List Entry) → s.first - 1 + s.count ≤ length es → items_within s (items_of r (es ++ fs)) ≡ items_within s (items_of r es)
within_more r s es fs h =
    let is = items_of r es in
    let n = length-map es (item_of r) in
    let d = length-drop (s.first - 1) is in
    ap (λ (xs : List Item). take s.count (drop (s.first - 1) xs)) (map-append (item_of r) es fs)
    ∙ ap (λ (xs : List Item). take s.count xs) (drop-append-le (s.first - 1) is (items_of r fs) (omega arith))
    ∙ take-append-le s.count (drop (s.first - 1) is) (items_of r fs) (omega arith)

-- A section that begins behind some entries has those that follow.
pub within_own : (r : List ℕ) (s : Section) (es fs : List Entry) → s.first ≡ length es + 1 → s.count ≡ length fs → items_within s (items_of r (es ++ fs)) ≡ items_of r fs
within_own r s es fs f k =
    let is = items_of r es in
    let js = items_of r fs in
    let n : s.first - 1 ≡ length is = rw (length-map es (item_of r)) (omega arith) in
    ap (λ (xs : List Item). take s.count (drop (s.first - 1) xs)) (map-append (item_of r) es fs)
    ∙ ap (λ (m : ℕ). take s.count (drop m (is ++ js))) n
    ∙ ap (λ (xs : List Item). take s.count xs) (drop-append_seam is js)
    ∙ take_all s.count js (rw (length-map fs (item_of r)) (omega arith))

seen_more : (r : List ℕ) (b : Board) (es fs : List Entry) {a : Option Calls} {p : Option PlainPlay} {trump : ℕ} → Seen r b es a p trump → Seen r b (es ++ fs) a p trump
seen_more r b es fs h =
    let n = length-append es fs in
    record {
      auction_is = ap (λ (is : List Item). in_force b.auction (b.auction.seat, calls_in is)) (within_more r b.auction es fs h.auction_in) ∙ h.auction_is;
      auction_in = omega (arith, h.auction_in);
      play_is = ap (λ (is : List Item). in_force b.play (record { leader = b.play.seat; end = b.play.end; tricks = tricks_in is })) (within_more r b.play es fs h.play_in) ∙ h.play_is;
      play_in = omega (arith, h.play_in);
      contract_is = h.contract_is;
    }

-- A tag changes the contract alone.
seen_applied : (c : Conventions) (r : List ℕ) (k : ℕ) (v : List ℕ) (place : ℕ) (b : Board) (es : List Entry) {a : Option Calls} {p : Option PlainPlay} {trump : ℕ}
    → Seen r b es a p trump → Seen r (applied c k v place b) es a p (contract_by c k v trump)
unfolding applied
seen_applied c r k v place b es h =
    record { auction_is = h.auction_is; auction_in = h.auction_in; play_is = h.play_is; play_in = h.play_in; contract_is = ap (contract_by c k v) h.contract_is }

-- ---- where reading stands

-- Of the record r, read from its start: the entries es so far, the state s, the place q, the text that is left.
pub record LinesRead (c : Conventions) (r : List ℕ) (s : State) (es : List Entry) (q : ℕ) (text : List ℕ) : Type 0 where
  pub so_far : record_out c r ≡ record { state = (lines_out c r s q (raw_lines text)).state; entries = es ++ (lines_out c r s q (raw_lines text)).entries }
  pub left : drop q r ≡ text

-- What a step behind the entries es leaves.
pub record SectionSettled (r : List ℕ) (es : List Entry) (x : Out State) (a : Option Calls) (p : Option PlainPlay) (trump : ℕ) : Type 0 where
  pub counted : x.state.n ≡ length (es ++ x.entries)
  pub seen : Seen r x.state.board (es ++ x.entries) a p trump

-- Before a tag, a blank line or the end: once the open section is closed, the board is as said.
pub record At (c : Conventions) (r : List ℕ) (text : List ℕ) (a : Option Calls) (p : Option PlainPlay) (trump : ℕ) : Type 0 where
  pub state : State
  pub entries : List Entry
  pub place : ℕ
  pub reached : LinesRead c r state entries place text
  pub quiet : in_block state ≡ false
  pub settled : SectionSettled r entries (closed c r state) a p trump

-- Within the section o.
pub record InSection (c : Conventions) (r : List ℕ) (o : Maybe Open) (text : List ℕ) (a : Option Calls) (p : Option PlainPlay) (trump : ℕ) : Type 0 where
  pub state : State
  pub entries : List Entry
  pub place : ℕ
  pub reached : LinesRead c r state entries place text
  pub quiet : in_block state ≡ false
  pub section_is : state.section ≡ o
  pub counted : state.n ≡ length entries
  pub seen : Seen r state.board entries a p trump

-- ---- one line

reach_line : (c : Conventions) (r : List ℕ) (s : State) (es : List Entry) (q : ℕ) (text m rest : List ℕ) → LinesRead c r s es q text → raw_lines text ≡ m ∷ raw_lines rest → text ≡ m ++ rest
    → LinesRead c r (line_out c r s q m).state (es ++ (line_out c r s q m).entries) (q + length m) rest
reach_line c r s es q text m rest h e f =
    let x = line_out c r s q m in
    let y = lines_out c r x.state (q + length m) (raw_lines rest) in
    record {
      so_far =
          h.so_far
          ∙ ap (λ (ls : List (List ℕ)). record { state = (lines_out c r s q ls).state; entries = es ++ (lines_out c r s q ls).entries }) e
          ∙ ap (λ (fs : List Entry). record { state = y.state; entries = fs }) (sym (append_assoc es x.entries y.entries));
      left = sym (drop-drop (length m) q r) ∙ ap (drop (length m)) (h.left ∙ f) ∙ drop-append_seam m rest;
    }

line_by_lem : (c : Conventions) (r : List ℕ) (s : State) (q : ℕ) (m : List ℕ) (k : Line) → in_block s ≡ false → line_kind m ≡ k → line_out c r s q m ≡ line_by c r s q m k
unfolding line_out
line_by_lem c r s q m k n e =
    ap (λ (b : Bool). cond {A = Out State} b (in_commentary r s q m) (line_by c r s q m (line_kind m))) n ∙ ap (line_by c r s q m) e

-- The only line of a text.
one_line : (l : WrittenLine) (m rest : List ℕ) → raw_lines (line_text l) ≡ m ∷ [] → (raw_lines (line_text l ++ rest) ≡ m ∷ raw_lines rest) × (line_text l ++ rest ≡ m ++ rest)
one_line l m rest e =
    let t : line_text l ≡ m = sym (flat_raw (line_text l)) ∙ ap flat e ∙ append-nil m in
    (line_then l rest ∙ ap (λ (ls : List (List ℕ)). ls ++ raw_lines rest) e, ap (λ (x : List ℕ). x ++ rest) t)

moved : {c : Conventions} {r : List ℕ} (es : List Entry) {q : ℕ} {text : List ℕ} {x y : Out State} → x ≡ y → LinesRead c r x.state (es ++ x.entries) q text → LinesRead c r y.state (es ++ y.entries) q text
moved es e h = rw e at h

-- What closing the section o comes to, w being its data walked.
abbrev pub closed_with : State → Maybe Open → Out Walk → Out State
closed_with s o w = record { state = closed_state s (board_closed s.board o s.n w.state) (length (closed_entries o w)); entries = closed_entries o w }

settled_by : {r : List ℕ} {es : List Entry} {x y : Out State} {a : Option Calls} {p : Option PlainPlay} {trump : ℕ} → x ≡ y → SectionSettled r es y a p trump → SectionSettled r es x a p trump
settled_by e h = rw e h

-- ---- a tag

-- After the tag's line, at the place from where its section starts.
pub record TagRead (c : Conventions) (r n v rest : List ℕ) (a : Option Calls) (p : Option PlainPlay) (trump : ℕ) : Type 0 where
  pub from : ℕ
  pub here : drop from r ≡ rest
  pub inside : InSection c r (open_by c (tag_number n) v from no_span) rest a p (contract_by c (tag_number n) v trump)

module _ (c : Conventions) (r : List ℕ) {a : Option Calls} {p : Option PlainPlay} {trump : ℕ} where
  tag_by : (n v rest : List ℕ) (ls : List (List ℕ)) → raw_lines (line_text (tag_line n v)) ≡ ls → ReadsAs (tag_line n v) ls → At c r (line_text (tag_line n v) ++ rest) a p trump → TagRead c r n v rest a p trump
  unfolding tag_line_out tagged
  tag_by n v rest [] e a h = elim a [ ]
  tag_by n v rest (m ∷ (_ ∷ _)) e a h = elim a [ ]
  tag_by n v rest (m ∷ []) e (tag {t = t} k x y) h =
      let s = h.state in
      let es = h.entries in
      let q = h.place in
      let z = closed c r s in
      let o = one_line (tag_line n v) m rest e in
      let w = reach_line c r s es q (line_text (tag_line n v) ++ rest) m rest h.reached o.0 o.1 in
      let u = moved es (line_by_lem c r s q m (Tag (Plain t)) h.quiet k) w in
      let two : List Entry = entry 1 (q + t.name.start) t.name.len 0 ∷ entry 2 (q + t.value.start) t.value.len 0 ∷ [] in
      let l = length-append (es ++ z.entries) two in
      let g : (es ++ z.entries) ++ two ≡ es ++ (z.entries ++ two) = append_assoc es z.entries two in
      record {
        from = q + length m;
        here = w.left;
        inside =
            record {
              state = _;
              entries = es ++ (z.entries ++ two);
              place = q + length m;
              reached = u;
              quiet = refl;
              section_is = rw (x, y);
              counted = ap (λ (i : ℕ). i + 2) h.settled.counted ∙ sym l ∙ ap length g;
              seen = rw (← x, ← y) (placed g (seen_applied c r (tag_number (cut t.name m)) (cut t.value m) (z.state.n + 2) z.state.board ((es ++ z.entries) ++ two) (seen_more r z.state.board (es ++ z.entries) two h.settled.seen)));
            };
      }
    where
      placed : {b : Board} {es fs : List Entry} {a : Option Calls} {p : Option PlainPlay} {trump : ℕ} → es ≡ fs → Seen r b es a p trump → Seen r b fs a p trump
      placed e h = rw e at h

  -- A tag that can be written.
  pub tag_read : (n v rest : List ℕ) → good_line (tag_line n v) ≡ true → At c r (line_text (tag_line n v) ++ rest) a p trump → TagRead c r n v rest a p trump
  tag_read n v rest g h = tag_by n v rest (raw_lines (line_text (tag_line n v))) refl (LineBack (tag_line n v) g) h

  -- ---- its data lines

  data_by : (o : Maybe Open) (d rest : List ℕ) (ls : List (List ℕ)) → raw_lines (line_text (data_line d)) ≡ ls → ReadsAs (data_line d) ls → InSection c r o (line_text (data_line d) ++ rest) a p trump → InSection c r o rest a p trump
  data_by o d rest [] e a h = elim a [ ]
  data_by o d rest (m ∷ (_ ∷ _)) e a h = elim a [ ]
  data_by o d rest (m ∷ []) e (section {s = t} k x) h =
      let s = h.state in
      let es = h.entries in
      let q = h.place in
      let f = one_line (data_line d) m rest e in
      let w = reach_line c r s es q (line_text (data_line d) ++ rest) m rest h.reached f.0 f.1 in
      let u = moved es (line_by_lem c r s q m (Data t) h.quiet k) w in
      let more = data_entries s.section q t in
      record {
        state = _;
        entries = es ++ more;
        place = q + length m;
        reached = u;
        quiet = h.quiet;
        section_is = h.section_is;
        counted = ap (λ (i : ℕ). i + length more) h.counted ∙ sym (length-append es more);
        seen = seen_more r s.board es more h.seen;
      }

  pub data_read : (o : Maybe Open) (ds : List (List ℕ)) (rest : List ℕ) → all good_data ds ≡ true → InSection c r o (lines_text (map data_line ds) ++ rest) a p trump → InSection c r o rest a p trump
  data_read o [] rest e h = h
  data_read o (d ∷ ds) rest e h =
      let g = both (good_data d) (all good_data ds) e in
      let more = lines_text (map data_line ds) in
      let i : InSection c r o (line_text (data_line d) ++ (more ++ rest)) a p trump = rw (append_assoc (line_text (data_line d)) more rest) at h in
      data_read o ds rest g.1 (data_by o d (more ++ rest) (raw_lines (line_text (data_line d))) refl (LineBack (data_line d) g.0) i)

  -- ---- the end of a section

  -- No section: nothing is left to close.
  pub none_closes : (o : Maybe Open) (rest : List ℕ) → kind_of o ≡ 0 → InSection c r o rest a p trump → At c r rest a p trump
  unfolding closed
  none_closes o rest k h =
      let s = h.state in
      let e : closed c r s ≡ record { state = s; entries = [] } = ap (λ (x : Maybe Open). cond {A = Out State} (eqb (kind_of x) 0) (record { state = s; entries = [] }) (closed_by s (walked_all c r s.section s.board.contract))) h.section_is ∙ rw k in
      record {
        state = s;
        entries = h.entries;
        place = h.place;
        reached = h.reached;
        quiet = h.quiet;
        settled = rw e (record { counted = rw (append-nil h.entries) h.counted; seen = rw (append-nil h.entries) h.seen });
      }

  -- A section with data.
  pub section_closes : (o : Maybe Open) (rest : List ℕ) {b : Option Calls} {d : Option PlainPlay} {trump' : ℕ} (h : InSection c r o rest a p trump) → eqb (kind_of o) 0 ≡ false
      → SectionSettled r h.entries (closed_with h.state o (walked_all c r o trump)) b d trump' → At c r rest b d trump'
  unfolding closed
  section_closes o rest h k g =
      let s = h.state in
      let e : closed c r s ≡ closed_with s o (walked_all c r o trump) =
      ap (λ (x : Maybe Open). cond {A = Out State} (eqb (kind_of x) 0) (record { state = s; entries = [] }) (closed_with s x (walked_all c r x s.board.contract))) h.section_is
      ∙ ap (λ (b : Bool). cond {A = Out State} b (record { state = s; entries = [] }) (closed_with s o (walked_all c r o s.board.contract))) k
      ∙ ap (λ (t : ℕ). closed_with s o (walked_all c r o t)) h.seen.contract_is in
      record { state = s; entries = h.entries; place = h.place; reached = h.reached; quiet = h.quiet; settled = settled_by e g }

-- The data of a section are the lines that were written.
section_texts : (r : List ℕ) (o : Maybe Open) (ds : List (List ℕ)) (rest : List ℕ) → split_off o ≡ no_span → drop (lines_at o) r ≡ lines_text (map data_line ds) ++ rest → all good_data ds ≡ true → Stops rest → texts (section_data r o) ≡ ds
unfolding section_data
section_texts r o ds rest n e g s =
    ap (λ (x : Maybe Span). texts (split_piece r x ++ lines_data r o)) n
    ∙ ap (λ (x : List ℕ). texts (data_in false (lines_at o) (raw_lines x))) e
    ∙ DataBack ds rest g s (lines_at o)

-- ---- an auction, and a play

in_force_lem : {A : Type 0} (s : Section) (x : A) (n : ℕ) → s.first ≡ n + 1 → in_force s x ≡ some x
in_force_lem s x n e = rw (ne_eqb s.first 0 (λ u. omega arith))

auction_own : (r : List ℕ) (x : Section) (es fs : List Entry) (ks : List ℕ) → x.first ≡ length es + 1 → x.count ≡ length fs → CallEntries ks fs → auction_seen r x (es ++ fs) ≡ some (x.seat, map plain_call ks)
auction_own r x es fs ks f n h =
    in_force_lem x (x.seat, calls_in (items_within x (items_of r (es ++ fs)))) (length es) f
    ∙ ap (λ (is : List Item). some (x.seat, calls_in is)) (within_own r x es fs f n)
    ∙ ap (λ (ds : List PlainCall). some (x.seat, ds)) (calls_inside r ks fs h)

play_own : (r : List ℕ) (x : Section) (es fs : List Entry) (ts : List PlainTrick) → x.first ≡ length es + 1 → x.count ≡ length fs → x.end ≡ 0 → tricks_in (items_of r fs) ≡ ts
    → play_seen r x (es ++ fs) ≡ some (record { leader = x.seat; end = 0; tricks = ts })
play_own r x es fs ts f n z h =
    in_force_lem x (plain_play x (items_of r (es ++ fs))) (length es) f
    ∙ ap (λ (is : List Item). some (record { leader = x.seat; end = x.end; tricks = tricks_in is })) (within_own r x es fs f n)
    ∙ ap (λ (j : ℕ). some (record { leader = x.seat; end = j; tricks = tricks_in (items_of r fs) })) z
    ∙ ap (λ (us : List PlainTrick). some (record { leader = x.seat; end = 0; tricks = us })) h

-- What closing comes to, once its board and its entries are known.
closed_as : (s : State) (o : Maybe Open) (w : Out Walk) (b : Board) (fs : List Entry) → board_closed s.board o s.n w.state ≡ b → closed_entries o w ≡ fs → closed_with s o w ≡ record { state = closed_state s b (length fs); entries = fs }
closed_as s o w b fs e f =
    ap (λ (d : Board). record { state = closed_state s d (length (closed_entries o w)); entries = closed_entries o w }) e
    ∙ ap (λ (gs : List Entry). record { state = closed_state s b (length gs); entries = gs }) f

module _ (r : List ℕ) {a : Option Calls} {p : Option PlainPlay} {trump : ℕ} where
  auction_settled : (s : State) (o : Maybe Open) (w : Out Walk) (es : List Entry) (k : ℕ) (ks : List ℕ) → kind_of o ≡ 1 → AuctionRead (k ∷ ks) w → s.n ≡ length es → Seen r s.board es a p trump
      → SectionSettled r es (closed_with s o w) (some (opener o, map plain_call (k ∷ ks))) p trump
  auction_settled s o w es k ks z h n v =
      let x : Section = record { first = s.n + 1; count = w.state.bidding.count; seat = opener o; end = w.state.bidding.end } in
      let b = with_sections s.board s.board.table x s.board.play s.board.trump in
      let l = calls_length (k ∷ ks) w.entries h.given in
      let m = length-append es w.entries in
      let y = seen_more r s.board es w.entries v in
      settled_by (closed_as s o w b w.entries (rw (z, h.any_is)) (rw z (append-nil w.entries)))
      record {
        counted = ap (λ (j : ℕ). j + length w.entries) n ∙ sym m;
        seen =
            record {
              auction_is = auction_own r x es w.entries (k ∷ ks) (ap (λ (j : ℕ). j + 1) n) (h.counted ∙ sym l) h.given;
              auction_in = omega (arith, h.counted);
              play_is = y.play_is;
              play_in = y.play_in;
              contract_is = y.contract_is;
            };
      }

  play_settled : (s : State) (o : Maybe Open) (w : Out Walk) (es : List Entry) (t : PlainTrick) (ts : List PlainTrick) → kind_of o ≡ 2 → PlayRead (t ∷ ts) w → tricks_in (items_of r (map entry_of (t ∷ ts))) ≡ t ∷ ts → s.n ≡ length es
      → Seen r s.board es a p trump → SectionSettled r es (closed_with s o w) a (some (record { leader = opener o; end = 0; tricks = t ∷ ts })) trump
  play_settled s o w es t ts z h q n v =
      let x : Section = record { first = s.n + 1; count = (last_trick w.state.tricks).state.count; seat = opener o; end = w.state.tricks.end } in
      let b = with_sections s.board s.board.table s.board.auction x s.board.contract in
      let new = map entry_of (t ∷ ts) in
      let l = length-map (t ∷ ts) entry_of in
      let m = length-append es new in
      let y = seen_more r s.board es new v in
      settled_by (closed_as s o w b new (rw (z, h.any_is)) (rw z h.given))
      record {
        counted = ap (λ (j : ℕ). j + length new) n ∙ sym m;
        seen =
            record {
              auction_is = y.auction_is;
              auction_in = y.auction_in;
              play_is = play_own r x es new (t ∷ ts) (ap (λ (j : ℕ). j + 1) n) (h.counted ∙ sym l) h.no_end q;
              play_in = omega (arith, h.counted);
              contract_is = y.contract_is;
            };
      }

-- ---- what follows a section

pub blank_stops : (rest : List ℕ) → Stops (10 ∷ rest)
unfolding stops_at line_kind is_blank trimmed is_white
blank_stops rest = record { no_data = λ p. refl }

tag_stops_by : (n v rest : List ℕ) (ls : List (List ℕ)) → raw_lines (line_text (tag_line n v)) ≡ ls → ReadsAs (tag_line n v) ls → Stops (line_text (tag_line n v) ++ rest)
unfolding stops_at
tag_stops_by n v rest [] e a = elim a [ ]
tag_stops_by n v rest (m ∷ (_ ∷ _)) e a = elim a [ ]
tag_stops_by n v rest (m ∷ []) e (tag k x y) = record { no_data = λ p. ap (data_in false p) (one_line (tag_line n v) m rest e).0 ∙ rw k }

pub tag_stops : (n v rest : List ℕ) → good_line (tag_line n v) ≡ true → Stops (line_text (tag_line n v) ++ rest)
tag_stops n v rest g = tag_stops_by n v rest (raw_lines (line_text (tag_line n v))) refl (LineBack (tag_line n v) g)

-- ---- a tag with its section

-- The numbers of the tags that open a section.
abbrev pub is_section : ℕ → Bool
is_section k = eqb k auction_name || (eqb k play_name || eqb k optimum_result_table_name)

none_opens : (c : Conventions) (k : ℕ) (v : List ℕ) (q : ℕ) → is_section k ≡ false → kind_of (open_by c k v q no_span) ≡ 0
unfolding open_by
none_opens c k v q e =
    let x = neither (eqb k auction_name) _ e in
    let y = neither (eqb k play_name) (eqb k optimum_result_table_name) x.1 in
    rw (x.0, y.0, y.1)

pub seat_read : (c : Conventions) → Accepted c → (d : ℕ) → d < 4 → seat_of c (first_character (seat_text c d)) ≡ d
unfolding seat_text
seat_read c ok d h = rw (lt-ltb d 4 h) (seat_back c ok d h)

auction_opens : (c : Conventions) → Accepted c → (d q : ℕ) → d < 4 → open_by c auction_name (seat_text c d) q no_span ≡ Some (record { kind = Auction d; at = q; split = no_span })
unfolding open_by
auction_opens c ok d q h = rw (seat_read c ok d h, lt-ltb d 4 h)

play_opens : (c : Conventions) → Accepted c → (d q : ℕ) → d < 4 → open_by c play_name (seat_text c d) q no_span ≡ Some (record { kind = Play d; at = q; split = no_span })
unfolding open_by
play_opens c ok d q h = rw (seat_read c ok d h, lt-ltb d 4 h)

blank_kind : line_kind (10 ∷ []) ≡ Blank
unfolding line_kind is_blank trimmed is_white
blank_kind = refl

module _ (c : Conventions) (ok : Accepted c) (r : List ℕ) {a : Option Calls} {p : Option PlainPlay} {trump : ℕ} where
  auction_closes : (o : Maybe Open) (k : ℕ) (ks : List ℕ) (rest : List ℕ) → kind_of o ≡ 1 → split_off o ≡ no_span → every (λ j. ltb j 47) (k ∷ ks) ≡ true → Stops rest
      → drop (lines_at o) r ≡ lines_text (map data_line (rounds (map (call_token c) (k ∷ ks)))) ++ rest
      → InSection c r o rest a p trump → At c r rest (some (opener o, map plain_call (k ∷ ks))) p trump
  unfolding walked_all
  auction_closes o k ks rest z n e s d h =
      let q = section_texts r o (rounds (map (call_token c) (k ∷ ks))) rest n d (calls_good c ok (k ∷ ks) e) s in
      section_closes c r o rest h (rw z)
      (auction_settled r h.state o (walked_all c r o trump) h.entries k ks z (AuctionBack c ok o trump (section_data r o) (k ∷ ks) z e q) h.counted h.seen)

  play_closes : (o : Maybe Open) (ks : List ℕ) (t : PlainTrick) (ts : List PlainTrick) (rest : List ℕ) → kind_of o ≡ 2 → split_off o ≡ no_span → opener o < 4 → every (λ j. ltb j 52) ks ≡ true → Stops rest
      → tricks_from trump (opener o) ks ≡ t ∷ ts
      → drop (lines_at o) r ≡ lines_text (map data_line (trick_lines c (opener o) (t ∷ ts))) ++ rest
      → InSection c r o rest a p trump → At c r rest a (some (record { leader = opener o; end = 0; tricks = t ∷ ts })) trump
  unfolding walked_all
  play_closes o ks t ts rest z n l e s m d h =
      let q = section_texts r o (trick_lines c (opener o) (t ∷ ts)) rest n d (tricks_good c ok (opener o) (t ∷ ts)) s in
      let b = rw m at (PlayBack c ok o trump (section_data r o) ks z l e (q ∙ ap (trick_lines c (opener o)) (sym m))) in
      section_closes c r o rest h (rw z)
      (play_settled r h.state o (walked_all c r o trump) h.entries t ts z b (rw m at (TricksIn r trump (opener o) ks e)) h.counted h.seen)

  -- A tag that opens no section.
  pub plain_tag : (n v rest : List ℕ) → good_line (tag_line n v) ≡ true → is_section (tag_number n) ≡ false → At c r (line_text (tag_line n v) ++ rest) a p trump → At c r rest a p (contract_by c (tag_number n) v trump)
  plain_tag n v rest g e h = let t = tag_read c r n v rest g h in none_closes c r (open_by c (tag_number n) v t.from no_span) rest (none_opens c (tag_number n) v t.from e) t.inside

  -- An auction with calls.
  pub auction_tag_lem : (d k : ℕ) (ks : List ℕ) (rest : List ℕ) → d < 4 → every (λ j. ltb j 47) (k ∷ ks) ≡ true → Stops rest
      → At c r (line_text (tag_line (ascii "Auction") (seat_text c d)) ++ (lines_text (map data_line (rounds (map (call_token c) (k ∷ ks)))) ++ rest)) a p trump
      → At c r rest (some (d, map plain_call (k ∷ ks))) p trump
  unfolding contract_by good_name is_white
  auction_tag_lem d k ks rest l e s h =
      let ds = rounds (map (call_token c) (k ∷ ks)) in
      let t = tag_read c r (ascii "Auction") (seat_text c d) (lines_text (map data_line ds) ++ rest) (rw (seat_good c ok d)) h in
      let o : Maybe Open = Some (record { kind = Auction d; at = t.from; split = no_span }) in
      let q : open_by c (tag_number (ascii "Auction")) (seat_text c d) t.from no_span ≡ o = ap (λ (i : ℕ). open_by c i (seat_text c d) t.from no_span) name_auction ∙ auction_opens c ok d t.from l in
      let w : InSection c r o (lines_text (map data_line ds) ++ rest) a p trump = rw (q, name_auction) at t.inside in
      auction_closes o k ks rest refl refl e s t.here (data_read c r o ds rest (calls_good c ok (k ∷ ks) e) w)

  -- A play with tricks.
  pub play_tag : (lead : ℕ) (ks : List ℕ) (t : PlainTrick) (ts : List PlainTrick) (rest : List ℕ) → lead < 4 → every (λ j. ltb j 52) ks ≡ true → Stops rest → tricks_from trump lead ks ≡ t ∷ ts
      → At c r (line_text (tag_line (ascii "Play") (seat_text c lead)) ++ (lines_text (map data_line (trick_lines c lead (t ∷ ts))) ++ rest)) a p trump
      → At c r rest a (some (record { leader = lead; end = 0; tricks = t ∷ ts })) trump
  unfolding contract_by good_name is_white
  play_tag lead ks t ts rest l e s m h =
      let ds = trick_lines c lead (t ∷ ts) in
      let i = tag_read c r (ascii "Play") (seat_text c lead) (lines_text (map data_line ds) ++ rest) (rw (seat_good c ok lead)) h in
      let o : Maybe Open = Some (record { kind = Play lead; at = i.from; split = no_span }) in
      let q : open_by c (tag_number (ascii "Play")) (seat_text c lead) i.from no_span ≡ o = ap (λ (j : ℕ). open_by c j (seat_text c lead) i.from no_span) name_play ∙ play_opens c ok lead i.from l in
      let w : InSection c r o (lines_text (map data_line ds) ++ rest) a p trump = rw (q, name_play) at i.inside in
      play_closes o ks t ts rest refl refl l e s m i.here (data_read c r o ds rest (tricks_good c ok lead (t ∷ ts)) w)

-- ---- blank lines, the start and the end

pub blank_at : (c : Conventions) (r rest : List ℕ) {a : Option Calls} {p : Option PlainPlay} {trump : ℕ} → At c r (10 ∷ rest) a p trump → At c r rest a p trump
blank_at c r rest h =
    let s = h.state in
    let w = reach_line c r s h.entries h.place (10 ∷ rest) (10 ∷ []) rest h.reached refl refl in
    let u = moved h.entries (line_by_lem c r s h.place (10 ∷ []) Blank h.quiet blank_kind) w in
    record { state = s; entries = h.entries; place = h.place + 1; reached = rw (append-nil h.entries) at u; quiet = h.quiet; settled = h.settled }

pub start_at : (c : Conventions) (r : List ℕ) → At c r r none none 4
unfolding record_out closed
start_at c r =
    record {
      state = no_state;
      entries = [];
      place = 0;
      reached = record { so_far = refl; left = refl };
      quiet = refl;
      settled = record { counted = refl; seen = record { auction_is = refl; auction_in = omega arith; play_is = refl; play_in = omega arith; contract_is = refl } };
    }

calls_of_lem : (s : Section) (is : List Item) → auction_calls (in_force s (plain_auction s is)) ≡ in_force s (s.seat, calls_in (items_within s is))
calls_of_lem s is = by_cases (eqb s.first 0) (λ e. rw e) (λ e. rw e)

-- A record's auction, but for its end and the tags before it, and its play.
pub record SectionsRead (c : Conventions) (r : List ℕ) (a : Option Calls) (p : Option PlainPlay) : Type 0 where
  pub auction : auction_calls (plain_of c r).auction ≡ a
  pub play : (plain_of c r).play ≡ p

pub end_at : (c : Conventions) (r : List ℕ) {a : Option Calls} {p : Option PlainPlay} {trump : ℕ} → At c r [] a p trump → SectionsRead c r a p
unfolding plain_of plain_by
end_at c r h =
    let x = closed c r h.state in
    let es = h.entries ++ x.entries in
    let b = x.state.board in
    let v = h.settled.seen in
    record {
      auction = ap (λ (o : Out State). auction_calls (in_force o.state.board.auction (plain_auction o.state.board.auction (items_of r o.entries)))) h.reached.so_far ∙ calls_of_lem b.auction (items_of r es) ∙ v.auction_is;
      play = ap (λ (o : Out State). in_force o.state.board.play (plain_play o.state.board.play (items_of r o.entries))) h.reached.so_far ∙ v.play_is;
    }

-- Behind the built-in header: two directives and a blank line.
pub header_at : (c : Conventions) (text : List ℕ) → At c (built_in_header ++ text) text none none 4
unfolding record_out closed built_in_header line_out line_kind is_blank trimmed is_white trim_span
header_at c text =
    record {
      state = record { board = no_board; section = no_open; tags = 0; n = 2; commentary = None };
      entries = entry 3 0 9 0 ∷ entry 3 10 8 0 ∷ [];
      place = 20;
      reached = record { so_far = refl; left = refl };
      quiet = refl;
      settled = record { counted = refl; seen = record { auction_is = refl; auction_in = omega arith; play_is = refl; play_in = omega arith; contract_is = refl } };
    }
