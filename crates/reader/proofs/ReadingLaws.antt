-- Laws of the lines of a record.
use Rattle.reader.specs.Boards.{in_block, block_of}
use Rattle.std.specs.Prelude.{None}
use Prim.Native.Nat.{ℕ, suc, ◌+◌, ◌-◌, ◌*◌, ◌≤◌}
use native.Mathlib.Nat.{add-zero}
use mathlib.Core.Path.{◌≡◌, refl, sym, ap, ◌∙◌}
use mathlib.Core.Bool.{Bool, true, false, cond}
use Rattle.reader.specs.declared.section.Kind.{Kind}
use Rattle.reader.specs.declared.section.Kind.TheVariants.{Auction, Play, Optimum}
use mathlib.Core.List.{List, [], ◌∷◌, ◌++◌}
use native.Mathlib.Omega.{arith}
use lib.Dec.{eqb, eqb-suc-suc}
use lib.ListN.{length, take, drop, length-append}
use borrow.Author.Tests.{ne_eqb}
use Rattle.tables.specs.Text.{is_white, lead}
use Rattle.tables.specs.Letters.{every}
use Rattle.tables.proofs.Laws.{by_cases}
use Rattle.tables.specs.declared.letters.Conventions.{Conventions}
use Rattle.reader.specs.declared.board.Board.{Board}
use Rattle.reader.specs.declared.board.State.{State}
use Rattle.reader.specs.declared.section.Walk.{Walk}
use Rattle.reader.specs.declared.section.Open.{Open}
use Rattle.reader.specs.declared.store.Entry.{Entry}
use Rattle.reader.specs.declared.line.TagReading.{TagReading}
use Rattle.reader.specs.declared.line.Line.{Line}
use Rattle.reader.specs.declared.line.Line.TheVariants.{Blank, Brace, Tag as TagOn, Bracket}
use Rattle.reader.specs.Lines.{is_blank, line_kind, has_brace}
use Rattle.reader.specs.declared.play.Tricks.{Tricks}
use Rattle.reader.specs.declared.store.Entries.{Entries}
use Rattle.reader.specs.Pieces.{Out, entry}
use Rattle.reader.specs.PieceSteps.{Adds, Emits}
use Rattle.reader.specs.Play.{last_trick}
use Rattle.reader.specs.Sections.{kind_number, walked_all, kind_of, kind_number}
use Rattle.reader.specs.SectionSteps.{Walks, walk_count}
use Rattle.reader.specs.Boards.{board_closed, last_entries, closed_state, closed, with_commentary, counted_state, adding, tag_line_out, blocked, braced, in_commentary, line_by, line_out}
use Rattle.reader.specs.BoardSteps.{LastStored, Sound, Stepped}
use Rattle.reader.proofs.PieceLaws.{adds_none, adds_then, emits_none}
use Rattle.reader.proofs.PlayLaws.{last_counted}
use Rattle.reader.proofs.LineLaws.{blank_is}
use Rattle.reader.proofs.TagStepLaws.{sound_later}
use Rattle.reader.proofs.WalkLaws.{section_count}
use Rattle.std.specs.Prelude.{Some}

-- A text is blank where all of it is white.
lead_all : (s : List ℕ) → eqb (length (lead s)) (length s) ≡ every is_white s
lead_all [] = refl
lead_all (b ∷ bs) = by_cases (is_white b) (λ e. rw e (eqb-suc-suc (length (lead bs)) (length bs) ∙ lead_all bs)) (λ e. rw e (ne_eqb 0 (suc (length bs)) (λ k. omega arith)))

blank_all : (s : List ℕ) → is_blank s ≡ every is_white s
blank_all s = sym (blank_is s) ∙ lead_all s

-- ---- sections

-- The last trick's entry stands behind the section's own.
pub last_stored : (w : Walk) (kind : Kind) {lead : ℕ} (l l' : Entries) (t : Tricks) → kind ≡ Play lead → Emits l l' t (last_trick w.tricks)
    → t.count ≤ w.tricks.count + 1 → LastStored (kind_number kind) w l l' (w.bidding.count + t.count)
last_stored w kind l l' t k e few =
    let g = last_counted w.tricks in
    let f : t.count ≡ w.tricks.count + length (last_trick w.tricks).entries = rw e.answer g.count in
    rw k (record { adds = e.adds; counted = omega (arith, f); few = omega arith })

-- A section is closed: what the walk stored, what the last trick added, and the board.
closed_as : (c : Conventions) (r : List ℕ) (s : State) (most : ℕ) (l l₁ l₂ : Entries) (w : Walk) (k : ℕ) (b : Board) (t : State)
    → eqb (kind_of s.section) 0 ≡ false
    → Walks most l l₁ w (walked_all c r s.section s.board.contract)
    → LastStored (kind_of s.section) w l₁ l₂ k
    → b ≡ board_closed s.board s.section s.n w → t ≡ closed_state s b k → most ≤ 6 * length r
    → Emits l l₂ t (closed c r s) × (t.n ≤ s.n + 6 * length r + 1)
unfolding closed
closed_as c r s most l l₁ l₂ w k b t z e g eb et h =
    let ws = walked_all c r s.section s.board.contract in
    let en : walk_count w ≡ length ws.entries = ap walk_count e.emits.answer ∙ section_count c r s.section s.board.contract in
    let ek : k ≡ length (ws.entries ++ last_entries (kind_of s.section) ws.state) =
    g.counted ∙ rw (en, e.emits.answer) (sym (length-append ws.entries (last_entries (kind_of s.section) ws.state))) in
    let adds : Adds l l₂ (ws.entries ++ last_entries (kind_of s.section) ws.state) = adds_then e.emits.adds (rw e.emits.answer at g.adds) in (
      record { answer = rw z (et ∙ rw (eb, e.emits.answer, ek)); adds = rw z adds },
      omega (arith, g.few, e.few, ap (λ (x : State). x.n) et),
    )

kind_some : (k : Kind) → eqb (kind_number k) 0 ≡ false
kind_some (Auction dealer) = refl
kind_some (Play lead) = refl
kind_some Optimum = refl

pub section_closed : (c : Conventions) (r : List ℕ) (s : State) (o : Open) → s.section ≡ Some o → (most : ℕ) (l l₁ l₂ : Entries) (w : Walk) (k : ℕ) (b : Board) (t : State)
    → Walks most l l₁ w (walked_all c r (Some o) s.board.contract)
    → LastStored (kind_number o.kind) w l₁ l₂ k
    → b ≡ board_closed s.board (Some o) s.n w → t ≡ closed_state s b k → most ≤ 6 * length r
    → Emits l l₂ t (closed c r s) × (t.n ≤ s.n + 6 * length r + 1)
section_closed c r s o eo most l l₁ l₂ w k b t e g eb et h = closed_as c r s most l l₁ l₂ w k b t (rw eo (kind_some o.kind)) (rw eo e) (rw eo g) (rw eo eb) et h

-- There is none to close.
pub section_none : (c : Conventions) (r : List ℕ) (s : State) (l : Entries) → eqb (kind_of s.section) 0 ≡ true → Emits l l s (closed c r s)
unfolding closed
section_none c r s l z = rw z (emits_none l s)

-- ---- commentary

pub block_none : (r : List ℕ) (s : State) (i j : ℕ) (l : Entries) → is_blank (take (j - i) (drop i r)) ≡ true → Emits l l (with_commentary s None) (blocked r s i j)
unfolding blocked
block_none r s i j l e = rw (← blank_all (take (j - i) (drop i r)), e) (record { answer = rw add-zero; adds = adds_none l })

pub block_some : (r : List ℕ) (s : State) (i j : ℕ) (l l' : Entries) → is_blank (take (j - i) (drop i r)) ≡ false → Adds l l' (entry 4 i (j - i) s.tags ∷ [])
    → Emits l l' (counted_state (with_commentary s None) 1) (blocked r s i j)
unfolding blocked
block_some r s i j l l' e h = rw (← blank_all (take (j - i) (drop i r)), e) (record { answer = refl; adds = h })

-- A block that was closed leaves none open.
pub block_zero : (r : List ℕ) (s t : State) (i j : ℕ) {l l' : Entries} → Emits l l' t (blocked r s i j) → block_of t ≡ 0
unfolding blocked
block_zero r s t i j e = ap (λ (x : State). (block_of x)) e.answer

-- ---- one line

-- Other commentary, and more entries, leave a section as it was.
pub sound_commentary : {p : ℕ} {s : State} (t : State) → Sound p s → (q : ℕ) → p ≤ q → t.section ≡ s.section → block_of t ≤ q + 1 → Sound q t
sound_commentary {p} {s} t k q h e g =
    record {
      lines_before = rw e (omega (arith, k.lines_before));
      split_before = rw e (omega (arith, k.split_before));
      block_before = g;
    }

module _ (c : Conventions) (r : List ℕ) (s : State) (p : ℕ) (l : List ℕ) (ok : Sound p s) where
  skipped : {w : Entries} {o : Out State} → o ≡ record { state = s; entries = [] } → Stepped (p + length l) w w s o
  skipped {w} e = rw e (record { emits = emits_none w s; sound = sound_later (omega arith) ok })

  out_plain : (k : Line) → in_block s ≡ false → line_kind l ≡ k → line_out c r s p l ≡ line_by c r s p l k
  unfolding line_out
  out_plain k e ek =
      ap (λ (b : Bool). cond b (in_commentary r s p l) (line_by c r s p l (line_kind l))) e ∙ ap (λ (x : Line). line_by c r s p l x) ek

  out_commentary : in_block s ≡ true → line_out c r s p l ≡ in_commentary r s p l
  unfolding line_out
  out_commentary e = ap (λ (b : Bool). cond b (in_commentary r s p l) (line_by c r s p l (line_kind l))) e

  -- Blank lines, and `[` lines that are no tags.
  pub line_blank : {w : Entries} → in_block s ≡ false → line_kind l ≡ Blank → Stepped (p + length l) w w s (line_out c r s p l)
  line_blank e k = skipped (out_plain Blank e k)

  pub line_bracket : {w : Entries} → in_block s ≡ false → line_kind l ≡ Bracket → Stepped (p + length l) w w s (line_out c r s p l)
  line_bracket e k = skipped (out_plain Bracket e k)

  -- A line that adds entries: a directive, or data.
  pub line_adds : {w w' : Entries} {t : State} (k : Line) (es : List Entry) → in_block s ≡ false → line_kind l ≡ k → line_by c r s p l k ≡ adding s es → Emits w w' t (adding s es) → Stepped (p + length l) w w' t (line_out c r s p l)
  line_adds {w} {w'} {t} k es e ek h g =
      rw (out_plain k e ek, h)
      (record {
        emits = g;
        sound = sound_commentary t ok (p + length l) (omega arith) (ap (λ (x : State). x.section) g.answer) (omega (arith, ap (λ (x : State). block_of x) g.answer, ok.block_before));
      })

  -- A tag.
  pub line_tag : {w w' : Entries} {t : State} (x : TagReading) → in_block s ≡ false → line_kind l ≡ TagOn x → Stepped (p + length l) w w' t (tag_line_out c r s p l x) → Stepped (p + length l) w w' t (line_out c r s p l)
  line_tag x e k g = rw (out_plain (TagOn x) e k) g

  -- Commentary leaves the section as it was.
  commentary_step : {w w' : Entries} {t : State} {o : Out State} → Emits w w' t o → o.state.section ≡ s.section → block_of t ≤ p + length l + 1 → Stepped (p + length l) w w' t o
  commentary_step {w} {w'} {t} e es eb = record { emits = e; sound = sound_commentary t ok (p + length l) (omega arith) (rw e.answer es) eb }

  brace_kept : (braced r s p l).state.section ≡ s.section
  unfolding braced blocked
  brace_kept = by_cases (has_brace l) (λ b. rw b) (λ b. rw b)

  pub line_braced : {w w' : Entries} {t : State} → in_block s ≡ false → line_kind l ≡ Brace → Emits w w' t (braced r s p l) → block_of t ≤ p + length l + 1 → Stepped (p + length l) w w' t (line_out c r s p l)
  line_braced {w} {w'} {t} e k g h = rw (out_plain Brace e k) (commentary_step g brace_kept h)

  commentary_kept : (in_commentary r s p l).state.section ≡ s.section
  unfolding in_commentary blocked
  commentary_kept = by_cases (has_brace l) (λ b. rw b) (λ b. rw b)

  pub line_commentary : {w w' : Entries} {t : State} → in_block s ≡ true → Emits w w' t (in_commentary r s p l) → block_of t ≤ p + 1 → Stepped (p + length l) w w' t (line_out c r s p l)
  line_commentary {w} {w'} {t} e g h = rw (out_commentary e) (commentary_step g commentary_kept (omega arith))
