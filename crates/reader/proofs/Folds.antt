-- What the tags of a record make of its board: deal, table and identity are folds over the tags in their order.
use Rattle.reader.specs.Boards.{in_block, block_of}
use Rattle.reader.specs.declared.section.Kind.TheVariants.{Auction, Play}
use Rattle.reader.specs.declared.section.Kind.{Kind}
use Prim.Native.Nat.{ℕ, ◌+◌, ◌≤◌}
use mathlib.Core.Path.{◌≡◌, refl, sym, ap, ◌∙◌}
use mathlib.Core.Bool.{Bool, true, false, cond}
use mathlib.Core.List.{List, [], ◌∷◌, ◌++◌}
use native.Mathlib.Omega.{arith}
use lib.Dec.{ltb, eqb}
use lib.ListN.{length}
use borrow.Author.Tests.{eqb-false, ne_eqb}
use Rattle.tables.specs.declared.letters.Conventions.{Conventions}
use Rattle.tables.specs.Text.{lead, first_character}
use Rattle.tables.specs.Letters.{seat_of}
use Rattle.tables.specs.Tables.{TableReading, gathered}
use Rattle.tables.proofs.Laws.{by_cases}
use Rattle.reader.specs.declared.tag.Span.{Span}
use Rattle.reader.specs.declared.line.Line.{Line}
use Rattle.reader.specs.declared.line.Line.TheVariants.{Blank, Brace, Directive, Tag as TagOn, Bracket, Data}
use Rattle.reader.specs.declared.line.TagReading.{TagReading}
use Rattle.reader.specs.declared.line.TagReading.TheVariants.{Plain, WithComment, WithData}
use Rattle.reader.specs.declared.board.Identity.{Identity}
use Rattle.reader.specs.declared.board.DealCard.{DealCard}
use Rattle.reader.specs.declared.board.TableCard.{TableCard}
use Rattle.reader.specs.declared.board.Section.{Section}
use Rattle.reader.specs.declared.board.Board.{Board}
use Rattle.reader.specs.declared.board.State.{State}
use Rattle.reader.specs.declared.section.Open.{Open}
use Rattle.reader.specs.Names.{tag_number}
use Rattle.reader.specs.Lines.{has_brace, last_brace, line_kind}
use Rattle.reader.specs.Pieces.{Out, raw_lines}
use Rattle.reader.specs.Sections.{commentary_after, walked_all, kind_of, opener, kind_number}
use Rattle.reader.specs.Boards.{identity_by, deal_by, table_by, applied, open_by, seat_open, no_open, with_sections, auction_closed, play_closed, rows_closed, rows_taken, table_closed, closed_by, closed, tagged, read_by, tag_line_out, with_commentary, blocked, braced, in_commentary, line_by, line_out, lines_out, no_board, no_state, record_out}
use Rattle.reader.specs.BoardSteps.{split_in}
use Rattle.reader.specs.Plain.{TagPair, plain_of}
use Rattle.reader.proofs.EntryLaws.{All, none, one}
use Rattle.reader.proofs.Counts.{chosen}
use Rattle.reader.proofs.LineTags.{pair_on, tags_on, line_tags, tags_of_lines, line_commentary, TagsOfLines}
use Rattle.std.specs.Prelude.{Ok, Err, Option, Some, None}

-- ---- folds over tags

-- By each tag's number and value, from a on.
abbrev pub fold_tags : {A : Type 0} → (ℕ → List ℕ → A → A) → A → List TagPair → A
fold_tags f a [] = a
fold_tags f a (t ∷ ts) = fold_tags f (f (tag_number t.name) t.value a) ts

pub fold_append : {A : Type 0} (f : ℕ → List ℕ → A → A) (a : A) (ts us : List TagPair) → fold_tags f a (ts ++ us) ≡ fold_tags f (fold_tags f a ts) us
fold_append f a [] us = refl
fold_append f a (t ∷ ts) us = fold_append f (f (tag_number t.name) t.value a) ts us

-- Deal, table and identity of tags.
abbrev pub fold_deal : Conventions → List TagPair → DealCard
fold_deal c ts = fold_tags (deal_by c) no_board.deal ts

abbrev pub fold_table : List TagPair → TableCard
fold_table ts = fold_tags table_by no_board.table ts

abbrev pub fold_identity : Conventions → List TagPair → Identity
fold_identity c ts = fold_tags (identity_by c) no_board.id ts

-- The tag's number is such.
pub record Numbered (Fine : ℕ → Type 0) (t : TagPair) : Type 0 where
  pub numbered : Fine (tag_number t.name)

all_parts : {A : Type 0} {P : A → Type 0} (xs ys : List A) → All P (xs ++ ys) → All P xs × All P ys
all_parts [] ys a = (none, a)
all_parts (x ∷ xs) ys (one p a) = let h = all_parts xs ys a in (one p h.0, h.1)

-- ---- a section that closes

-- It leaves the board, but for its sections; the table changes only with an open section that is neither auction nor play.
closed_board : (c : Conventions) (r : List ℕ) (s : State) (P : Board → Type 0) → P s.board
    → ((t : TableCard) (a p : Section) (trump : ℕ) → (kind_of s.section ≤ 2 → t ≡ s.board.table) → P (with_sections s.board t a p trump))
    → P (closed c r s).state.board
unfolding closed
closed_board c r s P same other =
    let b = s.board in
    let w = walked_all c r s.section b.contract in
    let v = w.state in
    let o = s.section in
    chosen (λ (x : Out State). P x.state.board) (eqb (kind_of o) 0) (record { state = s; entries = [] }) (closed_by s w) (λ e. same)
    (λ e.
    chosen P (eqb (kind_of o) 1) (auction_closed b (opener o) s.n v) (cond (eqb (kind_of o) 2) (play_closed b (opener o) s.n v) (table_closed b v))
    (λ f. chosen P v.bidding.any (with_sections b b.table _ b.play b.trump) b (λ g. other b.table _ b.play b.trump (λ h. refl)) (λ g. same))
    (λ f.
    chosen P (eqb (kind_of o) 2) (play_closed b (opener o) s.n v) (table_closed b v)
    (λ g. chosen P v.tricks.any (with_sections b b.table b.auction _ b.contract) b (λ h. other b.table b.auction _ b.contract (λ i. refl)) (λ h. same))
    (λ g.
    taken v.rows (eqb-false (kind_of o) 0 e) (eqb-false (kind_of o) 1 f) (eqb-false (kind_of o) 2 g))))
  where
    high : (k : ℕ) → k ≤ 2 → (k ≡ 0 → ⊥) → (k ≡ 1 → ⊥) → (k ≡ 2 → ⊥) → ⊥
    high k h x y z = omega (arith, x, y, z)

    rows : (g : TableReading) → (kind_of s.section ≡ 0 → ⊥) → (kind_of s.section ≡ 1 → ⊥) → (kind_of s.section ≡ 2 → ⊥) → P (rows_closed s.board g)
    rows (Ok cells) x y z = other (record { kind = 2; cells = cells }) s.board.auction s.board.play s.board.trump (λ h. absurd (high (kind_of s.section) h x y z))
    rows (Err f) x y z = same

    taken : (t : Option (List ℕ)) → (kind_of s.section ≡ 0 → ⊥) → (kind_of s.section ≡ 1 → ⊥) → (kind_of s.section ≡ 2 → ⊥) → P (rows_taken s.board t)
    taken None x y z = same
    taken (Some cells) x y z = rows (gathered cells) x y z

-- ---- a tag

record After (c : Conventions) (s : State) (p : ℕ) (l : List ℕ) (q : ℕ) (t : TagReading) (o : State) : Type 0 where
  board_then : o.board ≡ applied c (tag_number (pair_on t l).name) (pair_on t l).value (s.n + 2) s.board
  section_then : o.section ≡ open_by c (tag_number (pair_on t l).name) (pair_on t l).value q (split_in p t)

reading_state : (c : Conventions) (s : State) (p : ℕ) (l : List ℕ) (q : ℕ) (t : TagReading) → After c s p l q t (read_by c s p l q t).state
unfolding tagged
reading_state c s p l q (Plain t) = record { board_then = refl; section_then = refl }
reading_state c s p l q (WithComment t d) = record { board_then = refl; section_then = refl }
reading_state c s p l q (WithData t d) = record { board_then = refl; section_then = refl }

-- ---- a record

-- The part g of a board of the record r follows its tags by f: a tag changes it so, and a section that closes leaves it, where it is one
-- of Kept. A tag with a number of Fine opens such a section or none.
pub record Follows {A : Type 0} (c : Conventions) (r : List ℕ) (g : Board → A) (f : ℕ → List ℕ → A → A) (Fine : ℕ → Type 0) (Kept : Option Open → Type 0) : Type 0 where
  pub by_tag : (k : ℕ) (value : List ℕ) (place : ℕ) (b : Board) → g (applied c k value place b) ≡ f k value (g b)
  pub kept : (s : State) → Kept s.section → g (closed c r s).state.board ≡ g s.board
  pub none_open : Kept no_open
  pub opened : (k : ℕ) (value : List ℕ) (q : ℕ) (split : Option Span) → Fine k → Kept (open_by c k value q split)

module _ {A : Type 0} (c : Conventions) (r : List ℕ) (g : Board → A) (f : ℕ → List ℕ → A → A) (Fine : ℕ → Type 0) (Kept : Option Open → Type 0) (h : Follows c r g f Fine Kept) where
  -- A step from s follows the tags ts.
  record Step (s : State) (ts : List TagPair) (t : State) : Type 0 where
    folded : g t.board ≡ fold_tags f (g s.board) ts
    still : Kept t.section

  tag_step : (p : ℕ) (l : List ℕ) (s : State) (t : TagReading) → Kept s.section → All (Numbered Fine) (pair_on t l ∷ []) → Step s (pair_on t l ∷ []) (tag_line_out c r s p l t).state
  unfolding tag_line_out
  tag_step p l s t k (one n none) =
      let o = (closed c r s).state in
      let e = reading_state c o p l (p + length l) t in
      record {
        folded = ap g e.board_then ∙ h.by_tag (tag_number (pair_on t l).name) (pair_on t l).value (o.n + 2) o.board ∙ ap (f (tag_number (pair_on t l).name) (pair_on t l).value) (h.kept s k);
        still = rw e.section_then (h.opened (tag_number (pair_on t l).name) (pair_on t l).value (p + length l) (split_in p t) n.numbered);
      }

  -- Whether commentary opens or closes, the board and its section stay.
  kind_step : (p : ℕ) (l : List ℕ) (s : State) (m : Line) → Kept s.section → All (Numbered Fine) (tags_on m l) → Step s (tags_on m l) (line_by c r s p l m).state
  unfolding braced blocked
  kind_step p l s Blank k a = record { folded = refl; still = k }
  kind_step p l s Brace k a =
      chosen (λ (o : Out State). Step s [] o.state) (has_brace l) (blocked r s (p + length (lead l) + 1) (p + last_brace l))
      (record { state = with_commentary s (Some (p + length (lead l) + 1)); entries = [] }) (λ e. record { folded = refl; still = k }) (λ e. record { folded = refl; still = k })
  kind_step p l s (Directive d) k a = record { folded = refl; still = k }
  kind_step p l s (TagOn t) k a = tag_step p l s t k a
  kind_step p l s Bracket k a = record { folded = refl; still = k }
  kind_step p l s (Data d) k a = record { folded = refl; still = k }

  line_step : (p : ℕ) (l : List ℕ) (s : State) → Kept s.section → All (Numbered Fine) (line_tags (in_block s) l) → Step s (line_tags (in_block s) l) (line_out c r s p l).state
  unfolding line_out line_tags in_commentary blocked
  line_step p l s k = by_commentary (in_block s)
    where
      by_commentary : (b : Bool) → All (Numbered Fine) (cond b [] (tags_on (line_kind l) l)) → Step s (cond b [] (tags_on (line_kind l) l)) (cond b (in_commentary r s p l) (line_by c r s p l (line_kind l))).state
      by_commentary true a =
          chosen (λ (o : Out State). Step s [] o.state) (has_brace l) (blocked r s (block_of s) (p + last_brace l)) (record { state = s; entries = [] })
          (λ e. record { folded = refl; still = k })
          (λ e. record { folded = refl; still = k })
      by_commentary false a = kind_step p l s (line_kind l) k a

  lines_fold : (p : ℕ) (s : State) (ls : List (List ℕ)) → Kept s.section → All (Numbered Fine) (tags_of_lines (in_block s) ls)
      → g (lines_out c r s p ls).state.board ≡ fold_tags f (g s.board) (tags_of_lines (in_block s) ls)
  lines_fold p s [] k a = h.kept s k
  lines_fold p s (l ∷ ls) k a =
      let o = (line_out c r s p l).state in
      let n = line_commentary c r p l s in
      let parts = all_parts (line_tags (in_block s) l) (tags_of_lines (commentary_after (in_block s) l) ls) a in
      let x = line_step p l s k parts.0 in
      let y : g (lines_out c r o (p + length l) ls).state.board ≡ fold_tags f (g o.board) (tags_of_lines (commentary_after (in_block s) l) ls)
      = on (g o.board) n parts.1 (lines_fold (p + length l) o ls x.still) in
      y ∙ rw x.folded (sym (fold_append f (g s.board) (line_tags (in_block s) l) (tags_of_lines (commentary_after (in_block s) l) ls)))
    where
      on : {x : A} (b : A) {m n : Bool} → m ≡ n → All (Numbered Fine) (tags_of_lines n ls) → (All (Numbered Fine) (tags_of_lines m ls) → x ≡ fold_tags f b (tags_of_lines m ls)) → x ≡ fold_tags f b (tags_of_lines n ls)
      on b e a y = (rw e at y) a

  -- THEOREM. The board's part that follows the tags is the fold over the record's tags, in their order, from that of an empty board.
  pub RecordFolds : All (Numbered Fine) (plain_of c r).tags → g (record_out c r).state.board ≡ fold_tags f (g no_board) (plain_of c r).tags
  unfolding record_out
  RecordFolds a = rw (TagsOfLines c r) (lines_fold 0 no_state (raw_lines r) h.none_open (rw (TagsOfLines c r) at a))

-- ---- deal, table, identity

every_tag : (ts : List TagPair) → All (Numbered (λ k. Unit {0})) ts
every_tag [] = none
every_tag (t ∷ ts) = one (record { numbered = tt }) (every_tag ts)

-- THEOREM. A part of the board that tags alone change, whatever section closes, is the fold over the record's tags.
pub PartFolds : {A : Type 0} (c : Conventions) (r : List ℕ) (g : Board → A) (f : ℕ → List ℕ → A → A)
    → ((k : ℕ) (value : List ℕ) (place : ℕ) (b : Board) → g (applied c k value place b) ≡ f k value (g b))
    → ((b : Board) (t : TableCard) (a p : Section) (trump : ℕ) → g (with_sections b t a p trump) ≡ g b)
    → g (record_out c r).state.board ≡ fold_tags f (g no_board) (plain_of c r).tags
PartFolds c r g f by_tag by_section =
    RecordFolds c r g f (λ k. Unit {0}) (λ o. Unit {0})
    record {
      by_tag = by_tag;
      kept = λ s k. closed_board c r s (λ (b : Board). g b ≡ g s.board) refl (λ t a p trump e. by_section s.board t a p trump);
      none_open = tt;
      opened = λ k value q split n. tt;
    }
    (every_tag (plain_of c r).tags)

-- THEOREM. So the deal of a record is that of its tags.
pub DealFolds : (c : Conventions) (r : List ℕ) → (record_out c r).state.board.deal ≡ fold_deal c (plain_of c r).tags
unfolding applied
DealFolds c r = PartFolds c r (λ b. b.deal) (deal_by c) (λ k value place b. refl) (λ b t a p trump. refl)

-- THEOREM. So is its identity.
pub IdentityFolds : (c : Conventions) (r : List ℕ) → (record_out c r).state.board.id ≡ fold_identity c (plain_of c r).tags
unfolding applied
IdentityFolds c r = PartFolds c r (λ b. b.id) (identity_by c) (λ k value place b. refl) (λ b t a p trump. refl)

-- Only an OptimumResultTable, 19, opens a section that is neither an auction nor a play.
seat_low : (kind : ℕ → Kind) (seat q : ℕ) (split : Option Span) → kind_number (kind seat) ≤ 2 → kind_of (seat_open kind seat q split) ≤ 2
seat_low kind seat q split h = chosen (λ (o : Option Open). kind_of o ≤ 2) (ltb seat 4) (Some (record { kind = kind seat; at = q; split = split })) no_open (λ e. h) (λ e. omega arith)

open_low : (c : Conventions) (k : ℕ) (value : List ℕ) (q : ℕ) (split : Option Span) → (k ≡ 19 → ⊥) → kind_of (open_by c k value q split) ≤ 2
unfolding open_by
open_low c k value q split n =
    let seat = seat_of c (first_character value) in
    by_cases (eqb k 15)
    (λ e. rw e (seat_low Auction seat q split (omega arith)))
    (λ e. by_cases (eqb k 16) (λ f. rw (e, f) (seat_low Play seat q split (omega arith))) (λ f. rw (e, f, ne_eqb k 19 n) (omega arith)))

table_follows : (c : Conventions) (r : List ℕ) → Follows c r (λ b. b.table) table_by (λ k. k ≡ 19 → ⊥) (λ o. kind_of o ≤ 2)
unfolding applied
table_follows c r =
    record {
      by_tag = λ k value place b. refl;
      kept = λ s k. closed_board c r s (λ (b : Board). b.table ≡ s.board.table) refl (λ t a p trump e. e k);
      none_open = omega arith;
      opened = λ k value q split n. open_low c k value q split n;
    }

-- THEOREM. The table of a record without an OptimumResultTable is that of its tags.
pub TableFolds : (c : Conventions) (r : List ℕ) → All (Numbered (λ k. k ≡ 19 → ⊥)) (plain_of c r).tags → (record_out c r).state.board.table ≡ fold_table (plain_of c r).tags
TableFolds c r a = RecordFolds c r (λ b. b.table) table_by (λ k. k ≡ 19 → ⊥) (λ o. kind_of o ≤ 2) (table_follows c r) a

-- ---- a fold that heeds one number alone

pub record Heeds {A : Type 0} (f : ℕ → List ℕ → A → A) (n : ℕ) : Type 0 where
  pub passes : (k : ℕ) (value : List ℕ) (a : A) → (k ≡ n → ⊥) → f k value a ≡ a

module _ {A : Type 0} (f : ℕ → List ℕ → A → A) (n : ℕ) (h : Heeds f n) where
  -- THEOREM. Tags of other numbers change nothing.
  pub FoldNone : (a : A) {ts : List TagPair} → All (Numbered (λ k. k ≡ n → ⊥)) ts → fold_tags f a ts ≡ a
  FoldNone a none = refl
  FoldNone a (one {x = t} o os) = rw (h.passes (tag_number t.name) t.value a o.numbered) (FoldNone a os)

  -- THEOREM. Among tags of other numbers one tag of the number alone counts.
  pub FoldOne : (a : A) (xs : List TagPair) (t : TagPair) (ys : List TagPair) → All (Numbered (λ k. k ≡ n → ⊥)) xs → tag_number t.name ≡ n → All (Numbered (λ k. k ≡ n → ⊥)) ys
      → fold_tags f a (xs ++ t ∷ ys) ≡ f n t.value a
  FoldOne a xs t ys x e y = rw (fold_append f a xs (t ∷ ys), FoldNone a x, e) (FoldNone (f n t.value a) y)

-- The deal heeds Deal, 4; the table DoubleDummyTricks, 18.
pub deal_heeds : (c : Conventions) → Heeds (deal_by c) 4
unfolding deal_by
deal_heeds c = record { passes = λ k value d n. rw (ne_eqb k 4 n) }

pub table_heeds : Heeds table_by 18
unfolding table_by
table_heeds = record { passes = λ k value t n. rw (ne_eqb k 18 n) }
