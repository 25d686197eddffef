-- A board's written tags read back with its deal and its table.
use Prim.Native.Nat.{ℕ, ◌<◌}
use Prim.Native.String.{String}
use mathlib.Core.Path.{◌≡◌, refl, sym, ap, ◌∙◌}
use mathlib.Core.Bool.{Bool, true, false, ◌&&◌, ◌||◌, not}
use mathlib.Core.List.{List, [], ◌∷◌, ◌++◌, append_assoc, map}
use mathlib.Core.Option.{Option, none as nothing, some}
use native.Mathlib.Omega.{arith}
use lib.Dec.{eqb, ltb, leb}
use lib.ListN.{length, drop}
use borrow.Author.Tests.{eqb-true, eqb-false, not-true, ltb-true}
use Rattle.tables.specs.declared.letters.Conventions.{Conventions}
use Rattle.tables.specs.Text.{ascii, trimmed}
use Rattle.tables.specs.Letters.{Accepted, every}
use Rattle.tables.specs.Tables.{digits_text}
use Rattle.tables.proofs.Laws.{by_cases, both, clash}
use Rattle.tables.proofs.Digits.{DigitsBack}
use Rattle.reader.specs.declared.board.DealCard.{DealCard}
use Rattle.reader.specs.declared.board.TableCard.{TableCard}
use Rattle.reader.specs.Names.{tag_names, tag_number}
use Rattle.reader.specs.Deals.{hands_of_words, whole_hands, card_count, ones}
use Rattle.reader.specs.Boards.{deal_by, table_by, is_kept, no_board}
use Rattle.reader.specs.Plain.{TagPair, PlainAuction, PlainPlay, PlainBoard, plain_of}
use Rattle.reader.specs.Kept.{DealKept}
use Rattle.reader.proofs.EntryLaws.{All, none, one, all_append as each_append}
use Rattle.reader.proofs.StandLaws.{map_append}
use Rattle.reader.proofs.DealBack.{DealBack}
use Rattle.reader.proofs.PlainLaws.{plain_keeps}
use Rattle.reader.proofs.PlainDeal.{DealCases}
use Rattle.reader.proofs.Folds.{fold_tags, fold_append, fold_deal, fold_table, Numbered, Heeds, FoldNone, FoldOne, DealFolds, TableFolds, deal_heeds, table_heeds}
use Rattle.writer.specs.Sections.{note_values}
use Rattle.writer.specs.Tags.{WrittenTag, tag_of, or_empty, if_there, seat_text, result_text, first_seat, deal_value, named, first_value, is_extra, extras_from, before_deal, from_deal, early_extras, late_extras, dealer_tags, head_tags, table_tags, deal_tags, note_tag, auction_tags, play_tags, written_tags}
use Rattle.writer.specs.Pages.{own_play}
use Rattle.demands.specs.PageBack.{all, tag_pair, tags_as_written}
use Rattle.demands.proofs.TrimmedDirectives.{all_append}

-- ---- the tags among which the deal and the table stand

-- None of the numbers 4 Deal, 18 DoubleDummyTricks, 19 OptimumResultTable.
abbrev is_quiet : ℕ → Bool
is_quiet k = not (eqb k 4 || (eqb k 18 || eqb k 19))

abbrev quiet : WrittenTag → Bool
quiet w = is_quiet (tag_number w.name)

there_quiet : (name : String) (o : Option (List ℕ)) → is_quiet (tag_number (ascii name)) ≡ true → all quiet (if_there name o) ≡ true
there_quiet name nothing e = refl
there_quiet name (some v) e = rw e

dealer_quiet : (c : Conventions) (s : ℕ) → all quiet (dealer_tags c s) ≡ true
unfolding tag_names tag_number
dealer_quiet c s = by_cases (ltb s 4) (λ e. rw e) (λ e. rw e)

head_quiet : (c : Conventions) (b : PlainBoard) → all quiet (head_tags c b) ≡ true
unfolding head_tags tag_names tag_number
head_quiet c b =
    all_append quiet (if_there "Board" b.values.id) _ (there_quiet "Board" b.values.id refl)
    (all_append quiet (dealer_tags c b.id.dealer) _ (dealer_quiet c b.id.dealer) refl)

extra_number : (t : TagPair) → is_extra t ≡ true → tag_number t.name ≡ 0
unfolding is_extra
extra_number t e = eqb-true (tag_number t.name) 0 (both (eqb (tag_number t.name) 0) _ e).0

extras_quiet : (seen ts : List TagPair) → all quiet (extras_from seen ts) ≡ true
extras_quiet seen [] = refl
extras_quiet seen (t ∷ ts) =
    by_cases (is_extra t && not (named t.name seen))
    (λ e. rw (e, extra_number t (both (is_extra t) (not (named t.name seen)) e).0) (extras_quiet (seen ++ t ∷ []) ts))
    (λ e. rw e (extras_quiet (seen ++ t ∷ []) ts))

notes_quiet : (vs : List (List ℕ)) → all quiet (map note_tag vs) ≡ true
unfolding tag_names tag_number
notes_quiet [] = refl
notes_quiet (v ∷ vs) = notes_quiet vs

auction_quiet : (c : Conventions) (ts : List TagPair) (o : Option PlainAuction) → all quiet (auction_tags c ts o) ≡ true
unfolding auction_tags tag_names tag_number
auction_quiet c ts nothing = refl
auction_quiet c ts (some a) = notes_quiet (note_values (drop a.before ts))

play_quiet : (c : Conventions) (play : List (List ℕ)) (o : Option PlainPlay) → all quiet (play_tags c play o) ≡ true
unfolding play_tags tag_names tag_number
play_quiet c play nothing = refl
play_quiet c play (some p) = refl

-- The tags before the Deal tag; that tag; those between it and the table; those behind the table.
abbrev before : Conventions → PlainBoard → List WrittenTag
before c b = head_tags c b ++ early_extras b.tags

abbrev deal_tag : Conventions → PlainBoard → WrittenTag
deal_tag c b = tag_of "Deal" (deal_value c b b.values.deal)

abbrev between : Conventions → PlainBoard → List WrittenTag
between c b =
    tag_of "Scoring" (first_value (ascii "Scoring") b.tags)
    ∷ tag_of "Declarer" (seat_text c b.id.declarer)
    ∷ tag_of "Contract" (or_empty b.values.contract)
    ∷ tag_of "Result" (result_text b.id)
    ∷ []

abbrev optimum : PlainBoard → List WrittenTag
optimum b = if_there "OptimumScore" b.values.score ++ if_there "ParContract" b.values.par

abbrev behind : Conventions → PlainBoard → List (List ℕ) → List WrittenTag
behind c b play = optimum b ++ (late_extras b.tags ++ (auction_tags c b.tags b.auction ++ play_tags c play b.play))

written_parts : (c : Conventions) (b : PlainBoard) (play : List (List ℕ))
    → written_tags c b play ≡ (before c b ++ deal_tag c b ∷ between c b) ++ (table_tags b.table ++ behind c b play)
unfolding written_tags deal_tags
written_parts c b play = simp append_assoc

before_quiet : (c : Conventions) (b : PlainBoard) → all quiet (before c b) ≡ true
unfolding early_extras
before_quiet c b = all_append quiet (head_tags c b) (early_extras b.tags) (head_quiet c b) (extras_quiet [] (before_deal b.tags))

between_quiet : (c : Conventions) (b : PlainBoard) → all quiet (between c b) ≡ true
unfolding tag_names tag_number
between_quiet c b = refl

behind_quiet : (c : Conventions) (b : PlainBoard) (play : List (List ℕ)) → all quiet (behind c b play) ≡ true
unfolding late_extras tag_names tag_number
behind_quiet c b play =
    let score = if_there "OptimumScore" b.values.score in
    let par = if_there "ParContract" b.values.par in
    let bids = auction_tags c b.tags b.auction in
    let plays = play_tags c play b.play in
    all_append quiet (score ++ par) (late_extras b.tags ++ (bids ++ plays))
    (all_append quiet score par (there_quiet "OptimumScore" b.values.score refl) (there_quiet "ParContract" b.values.par refl))
    (all_append quiet (late_extras b.tags) (bids ++ plays) (extras_quiet (before_deal b.tags) (from_deal b.tags))
    (all_append quiet bids plays (auction_quiet c b.tags b.auction) (play_quiet c play b.play)))

-- ---- tags without a number

-- No tag has the number n.
abbrev Without : ℕ → List WrittenTag → Type 0
Without n ws = All (Numbered (λ k. k ≡ n → ⊥)) (map tag_pair ws)

without_append : (n : ℕ) (ws vs : List WrittenTag) → Without n ws → Without n vs → Without n (ws ++ vs)
without_append n ws vs a b = rw (map_append tag_pair ws vs) (each_append a b)

quiet_without : (n : ℕ) → is_quiet n ≡ false → (ws : List WrittenTag) → all quiet ws ≡ true → Without n ws
quiet_without n q [] e = none
quiet_without n q (w ∷ ws) e =
    let h = both (quiet w) (all quiet ws) e in
    one (record { numbered = λ k. clash (sym q ∙ ap is_quiet (sym k) ∙ h.0) }) (quiet_without n q ws h.1)

one_without : (n : ℕ) (w : WrittenTag) → eqb (tag_number w.name) n ≡ false → Without n (w ∷ [])
one_without n w e = one (record { numbered = eqb-false (tag_number w.name) n e }) none

table_without : (n : ℕ) (t : TableCard) → eqb 18 n ≡ false → Without n (table_tags t)
unfolding table_tags tag_names tag_number
table_without n t e =
    by_cases (eqb t.kind 0)
    (λ k. rw k none)
    (λ k. rw k (one_without n (tag_of "DoubleDummyTricks" (digits_text t.cells)) e))

-- ---- the deal and the table of the written tags

deal_number : tag_number (ascii "Deal") ≡ 4
unfolding tag_names tag_number
deal_number = refl

front_without : (n : ℕ) → is_quiet n ≡ false → eqb 4 n ≡ false → (c : Conventions) (b : PlainBoard)
    → Without n (before c b ++ deal_tag c b ∷ between c b)
front_without n q e c b =
    without_append n (before c b) (deal_tag c b ∷ between c b) (quiet_without n q (before c b) (before_quiet c b))
    (without_append n (deal_tag c b ∷ []) (between c b)
    (one_without n (deal_tag c b) (rw deal_number e))
    (quiet_without n q (between c b) (between_quiet c b)))

rest_without : (n : ℕ) → is_quiet n ≡ false → eqb 18 n ≡ false → (c : Conventions) (b : PlainBoard) (play : List (List ℕ))
    → Without n (table_tags b.table ++ behind c b play)
rest_without n q e c b play =
    without_append n (table_tags b.table) (behind c b play)
    (table_without n b.table e)
    (quiet_without n q (behind c b play) (behind_quiet c b play))

pub deal_told : (c : Conventions) (b : PlainBoard) (play : List (List ℕ))
    → fold_deal c (map tag_pair (written_tags c b play)) ≡ deal_by c 4 (deal_value c b b.values.deal) no_board.deal
deal_told c b play =
    let tables = table_tags b.table in
    let rest = between c b ++ (tables ++ behind c b play) in
    rw (
      written_parts c b play,
      append_assoc (before c b) (deal_tag c b ∷ between c b) (tables ++ behind c b play),
      map_append tag_pair (before c b) (deal_tag c b ∷ rest),
    )
    (FoldOne (deal_by c) 4 (deal_heeds c) no_board.deal (map tag_pair (before c b)) (tag_pair (deal_tag c b)) (map tag_pair rest)
    (quiet_without 4 refl (before c b) (before_quiet c b)) deal_number
    (without_append 4 (between c b) (tables ++ behind c b play)
    (quiet_without 4 refl (between c b) (between_quiet c b))
    (rest_without 4 refl refl c b play)))

-- Tags without the number heeded stand around ws.
fold_within : {A : Type 0} (f : ℕ → List ℕ → A → A) (n : ℕ) → Heeds f n → (a : A) (xs ws ys : List WrittenTag) → Without n xs → Without n ys
    → fold_tags f a (map tag_pair (xs ++ (ws ++ ys))) ≡ fold_tags f a (map tag_pair ws)
fold_within f n h a xs ws ys x y =
    rw (
      map_append tag_pair xs (ws ++ ys),
      map_append tag_pair ws ys,
      fold_append f a (map tag_pair xs) (map tag_pair ws ++ map tag_pair ys),
      FoldNone f n h a x,
      fold_append f a (map tag_pair ws) (map tag_pair ys),
    )
    (FoldNone f n h (fold_tags f a (map tag_pair ws)) y)

pub table_told : (c : Conventions) (b : PlainBoard) (play : List (List ℕ))
    → fold_table (map tag_pair (written_tags c b play)) ≡ fold_table (map tag_pair (table_tags b.table))
table_told c b play =
    rw (written_parts c b play)
    (fold_within table_by 18 table_heeds no_board.table (before c b ++ deal_tag c b ∷ between c b) (table_tags b.table) (behind c b play)
    (front_without 18 refl refl c b) (quiet_without 18 refl (behind c b play) (behind_quiet c b play)))

pub no_rows : (c : Conventions) (b : PlainBoard) (play : List (List ℕ)) → Without 19 (written_tags c b play)
no_rows c b play =
    rw (written_parts c b play)
    (without_append 19 (before c b ++ deal_tag c b ∷ between c b) (table_tags b.table ++ behind c b play)
    (front_without 19 refl refl c b)
    (rest_without 19 refl refl c b play))

-- ---- the deal is the same

-- The deal is whole: it parsed, and each hand has 13 cards.
abbrev pub whole_deal : DealCard → Bool
whole_deal d = eqb d.kind 1 && whole_hands (hands_of_words d.words)

-- A deal that is whole where the other is, with its words then.
pub record SameDeal (d e : DealCard) : Type 0 where
  pub same_whole : whole_deal d ≡ whole_deal e
  pub same_words : whole_deal e ≡ true → d.words ≡ e.words

seat_low : (s : ℕ) → first_seat s < 4
seat_low s = by_cases (ltb s 4) (λ e. rw e (ltb-true s 4 e)) (λ e. rw e (omega arith))

-- The deal of hands, as it is written and read.
hands_again : (c : Conventions) → Accepted c → (b : PlainBoard) → DealKept c b → b.values.deal ≡ nothing
    → deal_by c 4 (deal_value c b b.values.deal) no_board.deal ≡ record { kind = 1; words = b.deal.words }
unfolding deal_by
hands_again c ok b k e =
    let seat = first_seat b.id.dealer in
    rw (e, DealBack c ok seat (seat_low b.id.dealer) (hands_of_words b.deal.words) k.hands_proper, k.words_back)

-- No hand of eight zeros has 13 cards.
none_whole : whole_hands (hands_of_words (0 ∷ 0 ∷ 0 ∷ 0 ∷ 0 ∷ 0 ∷ 0 ∷ 0 ∷ [])) ≡ false
unfolding whole_hands hands_of_words card_count ones
none_whole = refl

-- A deal kept unparsed is kept again.
value_again : (c : Conventions) (b : PlainBoard) → DealKept c b → (v : List ℕ) → b.values.deal ≡ some v
    → (deal_by c 4 (deal_value c b b.values.deal) no_board.deal).kind ≡ 2
unfolding deal_by is_kept
value_again c b k v e =
    let n = k.read_again v e in
    rw (e, n, not-true (eqb (length (trimmed v)) 0) (rw n at (k.kept_again v e)))

deal_again : (c : Conventions) → Accepted c → (b : PlainBoard) → DealKept c b
    → SameDeal (deal_by c 4 (deal_value c b b.values.deal) no_board.deal) b.deal
deal_again c ok b k =
    DealCases c b k
    (λ q e f. rw (hands_again c ok b k f) (record { same_whole = rw (q, k.words_are, e, none_whole); same_words = λ w. refl }))
    (λ h q e f. rw (hands_again c ok b k f) (record { same_whole = rw q; same_words = λ w. refl }))
    (λ v q f. record { same_whole = rw (value_again c b k v f, q); same_words = λ w. clash (rw q at w) })

-- ---- the table is the same

-- Twenty cells, each at most 13.
pub record Twenty (cells : List ℕ) : Type 0 where
  pub twenty : length cells ≡ 20
  pub low : every (λ n. leb n 13) cells ≡ true

-- A table that is there where the other is, with its cells then.
pub record SameTable (d e : TableCard) : Type 0 where
  pub same_kind : eqb d.kind 0 ≡ eqb e.kind 0
  pub same_cells : (e.kind ≡ 0 → ⊥) → d.cells ≡ e.cells

table_again : (t : TableCard) → Twenty t.cells → SameTable (fold_table (map tag_pair (table_tags t))) t
unfolding table_tags table_by tag_names tag_number
table_again t w =
    by_cases (eqb t.kind 0)
    (λ e. rw e (record { same_kind = rw e; same_cells = λ n. absurd (n (eqb-true t.kind 0 e)) }))
    (λ e. rw (e, DigitsBack t.cells w.twenty w.low) (record { same_kind = rw e; same_cells = λ n. refl }))

-- ---- a record with the written tags of a board

-- The board d has the deal and the table of the board b.
pub record DealAndTable (d b : PlainBoard) : Type 0 where
  pub same_deal : SameDeal d.deal b.deal
  pub same_table : SameTable d.table b.table

-- THEOREM. A record whose tags are the written tags of a board has its deal and its table.
pub TagsGiveBoard : (c : Conventions) → Accepted c → (r : List ℕ) (b : PlainBoard) → (plain_of c r).tags ≡ tags_as_written c b
    → DealKept c b → Twenty b.table.cells → DealAndTable (plain_of c r) b
TagsGiveBoard c ok r b e k w =
    let p = own_play c b.play in
    let s = plain_keeps c r in
    let d = s.deal_kept ∙ DealFolds c r ∙ ap (fold_deal c) e ∙ deal_told c b p in
    let t = s.table_kept ∙ TableFolds c r (rw e (no_rows c b p)) ∙ ap fold_table e ∙ table_told c b p in
    record { same_deal = rw d (deal_again c ok b k); same_table = rw t (table_again b.table w) }
