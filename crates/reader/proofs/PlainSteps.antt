-- What a section that closes adds; and: what holds of every line of a record, and of two steps together, holds of the record.
use Rattle.reader.specs.Boards.{in_block, block_of}
use Rattle.std.specs.Prelude.{Some}
use Prim.Native.Nat.{ℕ, ◌+◌, ◌≤◌}
use mathlib.Core.Path.{◌≡◌, refl, sym, ◌∙◌}
use mathlib.Core.Bool.{Bool, true, false, cond}
use mathlib.Core.List.{List, [], ◌∷◌, head-eq_of_cons-eq}
use native.Mathlib.Omega.{arith}
use lib.Dec.{eqb}
use lib.ListN.{length, take, drop, length-drop}
use borrow.Author.Tests.{eqb-true}
use Rattle.tables.specs.declared.letters.Conventions.{Conventions}
use Rattle.tables.specs.Text.{lead, before}
use Rattle.tables.proofs.Laws.{by_cases, either}
use Rattle.tables.specs.Tables.{TableReading, gathered}
use Rattle.reader.specs.declared.store.Entry.{Entry}
use Rattle.reader.specs.declared.tag.Span.{Span}
use Rattle.reader.specs.declared.line.Line.{Line}
use Rattle.reader.specs.declared.line.Line.TheVariants.{Blank, Brace, Directive, Tag as TagOn, Bracket, Data}
use Rattle.reader.specs.declared.line.TagReading.{TagReading}
use Rattle.reader.specs.declared.section.Open.{Open}
use Rattle.reader.specs.declared.section.Walk.{Walk}
use Rattle.reader.specs.declared.board.TableCard.{TableCard}
use Rattle.reader.specs.declared.board.Section.{Section}
use Rattle.reader.specs.declared.board.Board.{Board}
use Rattle.reader.specs.declared.board.State.{State}
use Rattle.reader.specs.Play.{last_trick}
use Rattle.reader.specs.Lines.{has_brace, last_brace, line_kind}
use Rattle.reader.specs.Pieces.{Piece, Out, and_then, join_line, raw_lines}
use Rattle.reader.specs.Sections.{section_data, walked, no_walk, walked_all, kind_of, opener}
use Rattle.reader.specs.Boards.{with_sections, rows_closed, rows_taken, board_closed, last_entries, closed_by, closed, directed, data_added, read_by, tag_line_out, with_commentary, blocked, braced, in_commentary, line_by, line_out, lines_out, no_state, record_out}
use Rattle.reader.proofs.EntryLaws.{All, none, all_append, all_map, Inside, Trick, out_all_lem}
use Rattle.reader.proofs.AuctionLaws.{CallsInside}
use Rattle.reader.proofs.PlayLaws.{TricksOnly, LastTrickOnly}
use Rattle.reader.proofs.SectionLaws.{LineAt, line_at_lem}
use Rattle.reader.proofs.Counts.{any, chosen, next_line_lem}
use Rattle.std.specs.Prelude.{Ok, Err, Option, Some, None}

-- ---- a section that closes adds calls, annotations and tricks alone

pub record Late (e : Entry) : Type 0 where
  pub late : 6 ≤ e.kind

call_late : (lo hi : ℕ) (e : Entry) → Inside lo hi e → Late e
call_late lo hi e i =
    either (eqb e.kind 6) (eqb e.kind 7) i.placed
    (λ t. record { late = omega (arith, eqb-true e.kind 6 t) })
    (λ t. record { late = omega (arith, eqb-true e.kind 7 t) })

trick_late : (e : Entry) → Trick e → Late e
trick_late e t = record { late = omega (arith, t.trick) }

walked_late : (c : Conventions) (o : Option Open) (trump : ℕ) (w : Walk) (q : Piece) → All Late (walked c o trump w q).entries
unfolding walked
walked_late c o trump w q =
    by_cases (eqb (kind_of o) 1)
    (λ e. rw e (all_map (λ x i. call_late q.at (q.at + length q.bytes) x i) (CallsInside c w.bidding q)))
    (λ e.
    by_cases (eqb (kind_of o) 2)
    (λ f. rw (e, f) (all_map trick_late (TricksOnly c (opener o) trump w.tricks q)))
    (λ f. rw (e, f) none))

section_late : (c : Conventions) (r : List ℕ) (o : Option Open) (trump : ℕ) → All Late (walked_all c r o trump).entries
unfolding walked_all
section_late c r o trump = out_all_lem (walked c o trump) (λ w q u. walked_late c o trump w q) no_walk (any (section_data r o))

last_late : (kind : ℕ) (w : Walk) → All Late (last_entries kind w)
last_late kind w = by_cases (eqb kind 2) (λ e. rw e (all_map trick_late (LastTrickOnly w.tricks))) (λ e. rw e none)

pub closed_late : (c : Conventions) (r : List ℕ) (s : State) → All Late (closed c r s).entries
unfolding closed
closed_late c r s =
    let w = walked_all c r s.section s.board.contract in
    chosen (λ (o : Out State). All Late o.entries) (eqb (kind_of s.section) 0) (record { state = s; entries = [] }) (closed_by s w)
    (λ e. none)
    (λ e. all_append (section_late c r s.section s.board.contract) (last_late (kind_of s.section) w.state))

-- It leaves the tags and the commentary as they are.
pub record Keeping (s t : State) : Type 0 where
  pub tags_kept : t.tags ≡ s.tags
  pub commentary_kept : in_block t ≡ in_block s
  pub block_kept : block_of t ≡ block_of s

pub closed_keeps : (c : Conventions) (r : List ℕ) (s : State) → Keeping s (closed c r s).state
unfolding closed
closed_keeps c r s =
    chosen (λ (o : Out State). Keeping s o.state) (eqb (kind_of s.section) 0) (record { state = s; entries = [] }) (closed_by s (walked_all c r s.section s.board.contract))
    (λ e. record { tags_kept = refl; commentary_kept = refl; block_kept = refl })
    (λ e. record { tags_kept = refl; commentary_kept = refl; block_kept = refl })

-- It leaves what tags alone change.
pub record Leaves (b d : Board) : Type 0 where
  pub id_left : d.id ≡ b.id
  pub deal_left : d.deal ≡ b.deal
  pub values_left : d.values ≡ b.values
  pub contract_left : d.contract ≡ b.contract

pub leaves_all : (b : Board) → Leaves b b
leaves_all b = record { id_left = refl; deal_left = refl; values_left = refl; contract_left = refl }

sections_leave : (b : Board) (table : TableCard) (auction play : Section) (trump : ℕ) → Leaves b (with_sections b table auction play trump)
sections_leave b table auction play trump = record { id_left = refl; deal_left = refl; values_left = refl; contract_left = refl }

rows_leave : (b : Board) (x : TableReading) → Leaves b (rows_closed b x)
rows_leave b (Ok cells) = sections_leave b (record { kind = 2; cells = cells }) b.auction b.play b.trump
rows_leave b (Err f) = leaves_all b

-- What a closed section makes of a board: nothing, an auction, a play, or what its rows give.
pub board_cases : (P : Board → Type 0) (b : Board) (o : Option Open) (n : ℕ) (w : Walk) → P b
    → ((a : Section) → P (with_sections b b.table a b.play b.trump))
    → ((a : Section) → P (with_sections b b.table b.auction a b.contract))
    → ((cells : List ℕ) → w.rows ≡ Some cells → P (rows_closed b (gathered cells)))
    → P (board_closed b o n w)
board_cases P b o n w same auction play rows = go (eqb (kind_of o) 1) (eqb (kind_of o) 2) w.bidding.any w.tricks.any w.rows refl
  where
    called : Section
    called = record { first = n + 1; count = w.bidding.count; seat = opener o; end = w.bidding.end }

    played : Section
    played = record { first = n + 1; count = (last_trick w.tricks).state.count; seat = opener o; end = w.tricks.end }

    go : (x y calls cards : Bool) (t : Option (List ℕ)) → w.rows ≡ t
        → P
        (cond x (cond calls (with_sections b b.table called b.play b.trump) b)
        (cond y (cond cards (with_sections b b.table b.auction played b.contract) b)
        (rows_taken b t)))
    go true y true cards t e = auction called
    go true y false cards t e = same
    go false true calls true t e = play played
    go false true calls false t e = same
    go false false calls cards None e = same
    go false false calls cards (Some cells) e = rows cells e

pub closed_leaves : (c : Conventions) (r : List ℕ) (s : State) → Leaves s.board (closed c r s).state.board
unfolding closed
closed_leaves c r s =
    let w = walked_all c r s.section s.board.contract in
    chosen (λ (o : Out State). Leaves s.board o.state.board) (eqb (kind_of s.section) 0) (record { state = s; entries = [] }) (closed_by s w)
    (λ e. leaves_all s.board)
    (λ e.
    let b = s.board in
    board_cases (Leaves b) b s.section s.n w.state (leaves_all b)
    (λ a. sections_leave b b.table a b.play b.trump)
    (λ a. sections_leave b b.table b.auction a b.contract)
    (λ cells e. rows_leave b (gathered cells)))

-- ---- steps

-- P p s q o is about a step of the record r from the state s, at the place p, that comes to o, at the place q. It holds of two steps
-- together, of a section that closes, and of every kind of line.
pub record Steps (c : Conventions) (r : List ℕ) (P : ℕ → State → ℕ → Out State → Type 0) : Type 0 where
  pub together : (p q z : ℕ) (s : State) (o k : Out State) → P p s q o → P q o.state z k → P p s z (and_then o k)
  pub closing : (p : ℕ) (s : State) → P p s p (closed c r s)
  pub idle : (p : ℕ) (s : State) (l : List ℕ) → LineAt r p l → in_block s ≡ false → P p s (p + length l) (record { state = s; entries = [] })
  pub quiet : (p : ℕ) (s : State) (l : List ℕ) → LineAt r p l → in_block s ≡ true → has_brace l ≡ false → P p s (p + length l) (record { state = s; entries = [] })
  pub opening : (p : ℕ) (s : State) (l : List ℕ) → LineAt r p l → in_block s ≡ false → line_kind l ≡ Brace → has_brace l ≡ false → P p s (p + length l) (record { state = with_commentary s (Some (p + length (lead l) + 1)); entries = [] })
  pub bracing : (p : ℕ) (s : State) (l : List ℕ) → LineAt r p l → in_block s ≡ false → line_kind l ≡ Brace → has_brace l ≡ true → P p s (p + length l) (blocked r s (p + length (lead l) + 1) (p + last_brace l))
  pub commentary : (p : ℕ) (s : State) (l : List ℕ) → LineAt r p l → in_block s ≡ true → has_brace l ≡ true → P p s (p + length l) (blocked r s (block_of s) (p + last_brace l))
  pub directing : (p : ℕ) (s : State) (l : List ℕ) (d : Span) → LineAt r p l → in_block s ≡ false → line_kind l ≡ Directive d → P p s (p + length l) (directed s p d)
  pub dating : (p : ℕ) (s : State) (l : List ℕ) (d : Span) → LineAt r p l → in_block s ≡ false → line_kind l ≡ Data d → P p s (p + length l) (data_added s p d)
  pub tagging : (p : ℕ) (s : State) (l : List ℕ) (t : TagReading) → LineAt r p l → line_kind l ≡ TagOn t → P p s (p + length l) (read_by c s p l (p + length l) t)

module _ (c : Conventions) (r : List ℕ) (P : ℕ → State → ℕ → Out State → Type 0) (h : Steps c r P) where
  commentary_step : (p : ℕ) (s : State) (l : List ℕ) → LineAt r p l → in_block s ≡ true → P p s (p + length l) (in_commentary r s p l)
  unfolding in_commentary
  commentary_step p s l i n =
      chosen (λ o. P p s (p + length l) o) (has_brace l) (blocked r s (block_of s) (p + last_brace l)) (record { state = s; entries = [] })
      (λ e. h.commentary p s l i n e)
      (λ e. h.quiet p s l i n e)

  brace_step : (p : ℕ) (s : State) (l : List ℕ) → LineAt r p l → in_block s ≡ false → line_kind l ≡ Brace → P p s (p + length l) (braced r s p l)
  unfolding braced
  brace_step p s l i n k =
      chosen (λ o. P p s (p + length l) o) (has_brace l) (blocked r s (p + length (lead l) + 1) (p + last_brace l)) (record { state = with_commentary s (Some (p + length (lead l) + 1)); entries = [] })
      (λ e. h.bracing p s l i n k e)
      (λ e. h.opening p s l i n k e)

  tag_step : (p : ℕ) (s : State) (l : List ℕ) (t : TagReading) → LineAt r p l → line_kind l ≡ TagOn t → P p s (p + length l) (tag_line_out c r s p l t)
  unfolding tag_line_out
  tag_step p s l t i k =
      h.together p p (p + length l) s (closed c r s) (read_by c (closed c r s).state p l (p + length l) t) (h.closing p s) (h.tagging p (closed c r s).state l t i k)

  kind_step : (p : ℕ) (s : State) (l : List ℕ) (m : Line) → LineAt r p l → in_block s ≡ false → line_kind l ≡ m → P p s (p + length l) (line_by c r s p l m)
  kind_step p s l Blank i n k = h.idle p s l i n
  kind_step p s l Brace i n k = brace_step p s l i n k
  kind_step p s l (Directive d) i n k = h.directing p s l d i n k
  kind_step p s l (TagOn t) i n k = tag_step p s l t i k
  kind_step p s l Bracket i n k = h.idle p s l i n
  kind_step p s l (Data d) i n k = h.dating p s l d i n k

  line_step : (p : ℕ) (s : State) (l : List ℕ) → LineAt r p l → P p s (p + length l) (line_out c r s p l)
  unfolding line_out
  line_step p s l i =
      chosen (λ o. P p s (p + length l) o) (in_block s) (in_commentary r s p l) (line_by c r s p l (line_kind l))
      (λ e. commentary_step p s l i e)
      (λ e. kind_step p s l (line_kind l) i e refl)

-- ---- the lines of a record

raw_none : (s : List ℕ) → raw_lines s ≡ [] → s ≡ []
raw_none [] e = refl
raw_none (b ∷ bs) e = glued (eqb b 10) (raw_lines bs) e
  where
    glued : (t : Bool) (ls : List (List ℕ)) → join_line t b ls ≡ [] → b ∷ bs ≡ []
    glued true ls e = cc
    glued false [] e = cc
    glued false (l ∷ ls) e = cc

-- The first of the lines from p on.
pub first_line : (r : List ℕ) (p : ℕ) (l : List ℕ) (ls : List (List ℕ)) → raw_lines (drop p r) ≡ l ∷ ls → LineAt r p l
first_line r p l ls e =
    let n = next_line_lem r p l ls e in
    let k = line_at_lem r p (take (length (before 10 (drop p r)) + 1) (drop p r)) (omega (arith, n.filled, n.inside)) refl in
    moved k (head-eq_of_cons-eq (sym k.lines ∙ e))
  where
    moved : {m : List ℕ} → LineAt r p m → m ≡ l → LineAt r p l
    moved k z = rw z at k

lines_step : (c : Conventions) (r : List ℕ) (P : ℕ → State → ℕ → Out State → Type 0) → Steps c r P → (p : ℕ) (s : State) (ls : List (List ℕ)) → p ≤ length r → raw_lines (drop p r) ≡ ls
    → P p s (length r) (lines_out c r s p ls)
lines_step c r P h p s [] i e =
    let l = length-drop p r in
    let z : length (drop p r) ≡ 0 = rw (raw_none (drop p r) e) in
    ended (length r) (omega arith)
  where
    ended : (z : ℕ) → z ≡ p → P p s z (closed c r s)
    ended z q = rw q (h.closing p s)
lines_step c r P h p s (l ∷ ls) i e =
    let n = next_line_lem r p l ls e in
    let o = line_out c r s p l in
    h.together p (p + length l) (length r) s o (lines_out c r o.state (p + length l) ls)
    (line_step c r P h p s l (first_line r p l ls e))
    (lines_step c r P h (p + length l) o.state ls n.inside n.rest)

-- THEOREM. Such a P holds of a record, from its start to its end.
pub HoldsOfRecord : (c : Conventions) (r : List ℕ) (P : ℕ → State → ℕ → Out State → Type 0) → Steps c r P → P 0 no_state (length r) (record_out c r)
unfolding record_out
HoldsOfRecord c r P h = lines_step c r P h 0 no_state (raw_lines r) (omega arith) refl
