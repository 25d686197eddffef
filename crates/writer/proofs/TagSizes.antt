-- How many bytes the written tags of a board are.
use Prim.Native.Nat.{ℕ, zero, suc, ◌+◌, ◌-◌, ◌*◌, ◌%◌, ◌≤◌, ◌<◌}
use Prim.Native.String.{String}
use mathlib.Core.Path.{◌≡◌, refl, ap}
use mathlib.Core.Bool.{Bool, cond, ◌&&◌, not, and-false}
use mathlib.Core.List.{List, [], ◌∷◌, ◌++◌, map}
use mathlib.Core.Option.{Option, none, some}
use native.Mathlib.Nat.{le_trans}
use native.Mathlib.Omega.{arith}
use lib.Dec.{eqb, ltb}
use lib.ListN.{length, drop, replicate, length-append, length-map, length-replicate}
use borrow.Author.Tests.{eqb-true, ne_eqb}
use Rattle.tables.specs.declared.letters.Conventions.{Conventions}
use Rattle.tables.specs.Text.{ascii, trimmed, before}
use Rattle.tables.specs.Numbers.{Number, number_of, decimal}
use Rattle.tables.specs.Letters.{strain_token}
use Rattle.tables.specs.Tables.{digit_byte}
use Rattle.tables.proofs.Laws.{by_cases}
use Rattle.tables.proofs.PageLaws.{decimal_few}
use Rattle.reader.specs.declared.play.Slots.{Slots}
use Rattle.reader.specs.declared.board.Identity.{Identity}
use Rattle.reader.specs.declared.board.TableCard.{TableCard}
use Rattle.reader.specs.Words.{same, call_token, bid_token, card_token, vulnerability_token}
use Rattle.reader.specs.Deals.{hands_of_words}
use Rattle.reader.specs.Plain.{TagPair, PlainCall, PlainAuction, PlainTrick, PlainPlay, PlainValues, PlainBoard, plain_list}
use Rattle.reader.proofs.EntryLaws.{sum_append, All, none as over, one}
use Rattle.reader.proofs.Counts.{chosen}
use Rattle.reader.proofs.DealBack.{deal_few}
use Rattle.reader.proofs.PlainSizes.{tags_size, remarks_size}
use Rattle.reader.proofs.PlainCalls.{CallWritable}
use Rattle.reader.proofs.PlainAnnotations.{calls_size}
use Rattle.writer.specs.Sections.{spaced, end_lines, call_text, rounds, ends_continued, auction_lines, after_colon, is_number, note_in, later, note_at, note_value, notes_from, note_values, in_slot, trick_cards, cards_lines, tricks_lines, play_lines}
use Rattle.writer.specs.Tags.{WrittenTag, tag_of, or_empty, if_there, seat_text, vulnerability, result_text, first_seat, deal_value, is_named, named, first_value, is_extra, extras_from, until_deal, since_deal, before_deal, from_deal, early_extras, late_extras, dealer_tags, head_tags, table_tags, deal_tags, note_tag, auction_tags, play_tags, written_tags}
use Rattle.writer.specs.Pages.{own_play}
use Rattle.writer.proofs.RemarkSizes.{data_size, tag_size, written_size}
use Rattle.std.specs.Prelude.{Some, None}

written_append : (ws vs : List WrittenTag) → written_size (ws ++ vs) ≡ written_size ws + written_size vs
written_append = sum_append tag_size

data_append : (ds es : List (List ℕ)) → data_size (ds ++ es) ≡ data_size ds + data_size es
data_append = sum_append (λ d. length d + 1)

-- ---- sections

-- Tokens in a row, with an LF, have a byte more for each.
spaced_size : (t : List ℕ) (ts : List (List ℕ)) → length (spaced (t ∷ ts)) + 1 ≡ data_size (t ∷ ts)
spaced_size t [] = omega arith
spaced_size t (u ∷ ts) = rw length-append (omega (arith, spaced_size u ts))

rounds_size : (ts : List (List ℕ)) → data_size (rounds ts) ≡ data_size ts
rounds_size [] = refl
rounds_size (a ∷ []) = omega (arith, spaced_size a [])
rounds_size (a ∷ b ∷ []) = omega (arith, spaced_size a (b ∷ []))
rounds_size (a ∷ b ∷ d ∷ []) = omega (arith, spaced_size a (b ∷ d ∷ []))
rounds_size (a ∷ b ∷ d ∷ e ∷ ts) = omega (arith, spaced_size a (b ∷ d ∷ e ∷ []), rounds_size ts)

pub strain_few : (c : Conventions) (s : ℕ) → length (strain_token c s) ≤ 2
strain_few c s = by_cases (eqb s 4) (λ e. rw e (omega arith)) (λ e. rw e (omega arith))

pub bid_few : (c : Conventions) (n : ℕ) → length (bid_token c n) ≤ 8
bid_few c n = omega (arith, strain_few c (n % 5))

pub token_few : (c : Conventions) (k : ℕ) → k < 47 → length (call_token c k) ≤ 8
unfolding call_token
token_few c k h =
    let P : List ℕ → Type 0 = λ t. length t ≤ 8 in
    chosen P (eqb k 0) (ascii "Pass") _ (λ e. omega arith)
    (λ e.
    chosen P (ltb k 36) (bid_token c (k - 1)) _ (λ e. bid_few c (k - 1))
    (λ e.
    chosen P (eqb k 36) (ascii "X") _ (λ e. omega arith)
    (λ e.
    chosen P (eqb k 37) (ascii "XX") _ (λ e. omega arith)
    (λ e. chosen P (eqb k 38) (ascii "+") (replicate (k - 38) 95) (λ e. omega arith) (λ e. omega (arith, length-replicate {A = ℕ} (k - 38) 95))))))

calls_size_lem : (c : Conventions) {ks : List PlainCall} → All CallWritable ks → data_size (map (call_text c) ks) ≤ 9 * length ks + calls_size ks
calls_size_lem c over = omega arith
calls_size_lem c (one {x = k} {xs = ks} g a) = omega (arith, token_few c k.code g.code_is_low, length-append (call_token c k.code) k.annotation, calls_size_lem c a)

end_size : (n : ℕ) → data_size (end_lines n) ≤ 2
unfolding end_lines
end_size n = by_cases (eqb n 1) (λ e. rw e (omega arith)) (λ e. by_cases (eqb n 2) (λ f. rw (e, f) (omega arith)) (λ f. rw (e, f) (omega arith)))

auction_size : (c : Conventions) (a : PlainAuction) → All CallWritable a.calls → data_size (auction_lines c a) ≤ 9 * length a.calls + calls_size a.calls + 2
unfolding auction_lines
auction_size c a g =
    let ts = map (call_text c) a.calls in
    let ends = cond (ends_continued a.calls) [] (end_lines a.end) in
    let e : data_size ends ≤ 2 = chosen (λ ds. data_size ds ≤ 2) (ends_continued a.calls) [] (end_lines a.end) (λ t. omega arith) (λ t. end_size a.end) in
    omega (arith, data_append (rounds ts) ends, rounds_size ts, calls_size_lem c g)

slot_few : (k : ℕ) → length (in_slot k) ≤ 1
slot_few k = by_cases (ltb k 52) (λ e. rw e (omega arith)) (λ e. rw e (omega arith))

trick_few : (s : Slots) → length (trick_cards s) ≤ 4
trick_few s = simp length-append (omega (arith, slot_few s.a, slot_few s.b, slot_few s.c, slot_few s.d))

tokens_size : (c : Conventions) (ks : List ℕ) → data_size (map (card_token c) ks) ≡ 3 * length ks
tokens_size c [] = refl
tokens_size c (k ∷ ks) = omega (arith, tokens_size c ks)

cards_size : (c : Conventions) (ks : List ℕ) → data_size (cards_lines c ks) ≡ 3 * length ks
cards_size c [] = refl
cards_size c (k ∷ ks) = omega (arith, spaced_size (card_token c k) (map (card_token c) ks), tokens_size c ks)

tricks_size : (c : Conventions) (ts : List PlainTrick) → data_size (tricks_lines c ts) ≤ 12 * length ts
tricks_size c [] = omega arith
tricks_size c (t ∷ ts) = omega (arith, data_append (cards_lines c (trick_cards t.slots)) (tricks_lines c ts), cards_size c (trick_cards t.slots), trick_few t.slots, tricks_size c ts)

play_size : (c : Conventions) (p : PlainPlay) → data_size (play_lines c p) ≤ 12 * length p.tricks + 2
unfolding play_lines
play_size c p = omega (arith, data_append (tricks_lines c p.tricks) (end_lines p.end), tricks_size c p.tricks, end_size p.end)

-- ---- notes

-- The most that a note takes: its tag's line with a number of ten digits.
abbrev note_cost : Option (List ℕ) → ℕ
note_cost none = 0
note_cost (some v) = 21 + length v

abbrev notes_cost : ℕ → ℕ → List TagPair → ℕ
notes_cost zero n ts = 0
notes_cost (suc k) n ts = note_cost (note_at n ts) + notes_cost k (n + 1) ts

value_cost : (n : ℕ) (o : Option (List ℕ)) → written_size (map note_tag (note_value n o)) ≤ note_cost o
value_cost n none = omega arith
value_cost n (some v) = rw length-append (omega (arith, decimal_few n))

map_append : (vs us : List (List ℕ)) → map note_tag (vs ++ us) ≡ map note_tag vs ++ map note_tag us
map_append [] us = refl
map_append (v ∷ vs) us = ap (λ (l : List WrittenTag). note_tag v ∷ l) (map_append vs us)

notes_cost_lem : (k n : ℕ) (ts : List TagPair) → written_size (map note_tag (notes_from k n ts)) ≤ notes_cost k n ts
unfolding notes_from
notes_cost_lem zero n ts = omega arith
notes_cost_lem (suc k) n ts =
    rw (map_append (note_value n (note_at n ts)) (notes_from k (n + 1) ts), written_append)
    (omega (arith, value_cost n (note_at n ts), notes_cost_lem k (n + 1) ts))

-- What the numbers from n on take of one tag: only one number is its own.
abbrev tag_cost : Bool → Number → Option (List ℕ) → ℕ → ℕ → ℕ
tag_cost a m o zero n = 0
tag_cost a m o (suc k) n = note_cost (cond (a && is_number n m) o none) + tag_cost a m o k (n + 1)

past_cost : (a : Bool) (v : ℕ) (o : Option (List ℕ)) (k n : ℕ) → v < n → tag_cost a (Some v) o k n ≡ 0
past_cost a v o zero n h = refl
past_cost a v o (suc k) n h = rw (ne_eqb v n (λ e. omega (arith, e)), and-false) (omega (arith, past_cost a v o k (n + 1) (omega arith)))

tag_cost_lem : (a : Bool) (m : Number) (o : Option (List ℕ)) (k n : ℕ) → tag_cost a m o k n ≤ note_cost o
tag_cost_lem a m o zero n = omega arith
tag_cost_lem a None o (suc k) n = rw and-false (omega (arith, tag_cost_lem a None o k (n + 1)))
tag_cost_lem a (Some v) o (suc k) n =
    by_cases (eqb v n)
    (λ e.
    let p = past_cost a v o k (n + 1) (omega (arith, eqb-true v n e)) in
    let f : note_cost (cond (a && eqb v n) o none) ≤ note_cost o = chosen (λ x. note_cost x ≤ note_cost o) (a && eqb v n) o none (λ t. omega arith) (λ t. omega arith) in
    omega arith)
    (λ e. rw (e, and-false) (omega (arith, tag_cost_lem a (Some v) o k (n + 1))))

later_cost : (x y : Option (List ℕ)) → note_cost (later x y) ≤ note_cost x + note_cost y
later_cost none y = omega arith
later_cost (some v) y = omega arith

colon_few : (v : List ℕ) → note_cost (after_colon v) ≤ 21 + length v
colon_few [] = omega arith
colon_few (b ∷ bs) = by_cases (eqb b 58) (λ e. rw e (omega arith)) (λ e. rw e (omega (arith, colon_few bs)))

more_cost : (k n : ℕ) (t : TagPair) (ts : List TagPair)
    → notes_cost k n (t ∷ ts) ≤ notes_cost k n ts + tag_cost (same (ascii "Note") t.name) (number_of 255 (trimmed (before 58 t.value))) (after_colon t.value) k n
unfolding note_in
more_cost zero n t ts = omega arith
more_cost (suc k) n t ts = omega (arith, later_cost (note_at n ts) (note_in n t), more_cost k (n + 1) t ts)

none_cost : (k n : ℕ) → notes_cost k n [] ≡ 0
none_cost zero n = refl
none_cost (suc k) n = omega (arith, none_cost k (n + 1))

all_cost : (k n : ℕ) (ts : List TagPair) → notes_cost k n ts ≤ tags_size ts + 21 * length ts
all_cost k n [] = omega (arith, none_cost k n)
all_cost k n (t ∷ ts) =
    let o = after_colon t.value in
    omega (arith, more_cost k n t ts, tag_cost_lem (same (ascii "Note") t.name) (number_of 255 (trimmed (before 58 t.value))) o k n, colon_few t.value, all_cost k n ts)

drop_few : (k : ℕ) (ts : List TagPair) → tags_size (drop k ts) + 21 * length (drop k ts) ≤ tags_size ts + 21 * length ts
drop_few zero ts = omega arith
drop_few (suc k) [] = omega arith
drop_few (suc k) (t ∷ ts) = omega (arith, drop_few k ts)

notes_all : (k n : ℕ) (ts : List TagPair) → written_size (map note_tag (notes_from k n ts)) ≤ tags_size ts + 21 * length ts
notes_all k n ts = omega (arith, notes_cost_lem k n ts, all_cost k n ts)

notes_size : (k : ℕ) (ts : List TagPair) → written_size (map note_tag (note_values (drop k ts))) ≤ tags_size ts + 21 * length ts
unfolding note_values
notes_size k ts = le_trans (notes_all 256 0 (drop k ts)) (drop_few k ts)

-- ---- supplemental tags

-- A tag as it stands, its line.
abbrev extra_size : List TagPair → ℕ
extra_size ts = tags_size ts + 6 * length ts

extras_size : (seen ts : List TagPair) → written_size (extras_from seen ts) ≤ extra_size ts
extras_size seen [] = omega arith
extras_size seen (t ∷ ts) =
    let i = extras_size (seen ++ t ∷ []) ts in
    by_cases (is_extra t && not (named t.name seen)) (λ e. rw e (omega arith)) (λ e. rw e (omega arith))

until_few : (ts : List TagPair) → extra_size (until_deal ts) ≤ extra_size ts
until_few [] = omega arith
until_few (t ∷ ts) = by_cases (is_named (ascii "Deal") t) (λ e. rw e (omega arith)) (λ e. rw e (omega (arith, until_few ts)))

since_few : (ts : List TagPair) → extra_size (since_deal ts) ≤ extra_size ts
since_few [] = omega arith
since_few (t ∷ ts) = by_cases (is_named (ascii "Deal") t) (λ e. rw e (omega arith)) (λ e. rw e (omega (arith, since_few ts)))

early_size : (ts : List TagPair) → written_size (early_extras ts) ≤ extra_size ts
unfolding early_extras
early_size ts =
    let h = chosen (λ us. extra_size us ≤ extra_size ts) (named (ascii "Deal") ts) (until_deal ts) [] (λ e. until_few ts) (λ e. omega arith) in
    omega (arith, h, extras_size [] (before_deal ts))

late_size : (ts : List TagPair) → written_size (late_extras ts) ≤ extra_size ts
unfolding late_extras
late_size ts =
    let h = chosen (λ us. extra_size us ≤ extra_size ts) (named (ascii "Deal") ts) (since_deal ts) ts (λ e. since_few ts) (λ e. omega arith) in
    omega (arith, h, extras_size (before_deal ts) (from_deal ts))

first_few : (n : List ℕ) (ts : List TagPair) → length (first_value n ts) ≤ tags_size ts
first_few n [] = omega arith
first_few n (t ∷ ts) = by_cases (is_named n t) (λ e. rw e (omega arith)) (λ e. rw e (omega (arith, first_few n ts)))

-- ---- the other tags

there_size : (name : String) (o : Option (List ℕ)) → written_size (if_there name o) ≤ length (ascii name) + 6 + length (or_empty o)
there_size name none = omega arith
there_size name (some v) = omega arith

pub seat_few : (c : Conventions) (s : ℕ) → length (seat_text c s) ≤ 1
unfolding seat_text
seat_few c s = by_cases (ltb s 4) (λ e. rw e (omega arith)) (λ e. rw e (omega arith))

pub vulnerability_few : (k : ℕ) → length (vulnerability_token k) ≤ 4
unfolding vulnerability_token
vulnerability_few k =
    by_cases (eqb k 0)
    (λ e. rw e (omega arith))
    (λ e. by_cases (eqb k 1) (λ f. rw (e, f) (omega arith)) (λ f. by_cases (eqb k 2) (λ g. rw (e, f, g) (omega arith)) (λ g. rw (e, f, g) (omega arith))))

result_few : (i : Identity) → length (result_text i) ≤ 11
unfolding result_text
result_few i =
    chosen (λ (t : List ℕ). length t ≤ 11) (eqb i.result_met 0) [] (cond (ltb i.result 128) (45 ∷ decimal (128 - i.result)) (decimal (i.result - 128)))
    (λ e. omega arith)
    (λ e.
    chosen (λ (t : List ℕ). length t ≤ 11) (ltb i.result 128) (45 ∷ decimal (128 - i.result)) (decimal (i.result - 128))
    (λ f. omega (arith, decimal_few (128 - i.result)))
    (λ f. omega (arith, decimal_few (i.result - 128))))

value_few : (c : Conventions) (b : PlainBoard) (o : Option (List ℕ)) → length (deal_value c b o) ≤ 225 + length (or_empty o)
value_few c b none = omega (arith, deal_few c (first_seat b.id.dealer) (hands_of_words b.deal.words))
value_few c b (some v) = omega arith

dealer_size : (c : Conventions) (s : ℕ) → written_size (dealer_tags c s) ≤ 13
dealer_size c s = by_cases (ltb s 4) (λ e. rw e (omega (arith, seat_few c s))) (λ e. rw e (omega arith))

table_size : (t : TableCard) → length t.cells ≤ 20 → written_size (table_tags t) ≤ 43
unfolding table_tags
table_size t h = by_cases (eqb t.kind 0) (λ e. rw e (omega arith)) (λ e. rw e (omega (arith, length-map t.cells digit_byte)))

head_size : (c : Conventions) (b : PlainBoard)
    → written_size (head_tags c b)
    ≤ 117 + (length (or_empty b.values.event) + length (or_empty b.values.site) + length (or_empty b.values.date) + length (or_empty b.values.id) + length (or_empty b.values.west) + length (or_empty b.values.north) + length (or_empty b.values.east) + length (or_empty b.values.south))
unfolding head_tags
head_size c b =
    let v = tag_of "Vulnerable" (vulnerability_token (vulnerability b.id)) ∷ [] in
    let d = dealer_tags c b.id.dealer in
    let players = tag_of "West" (or_empty b.values.west) ∷ tag_of "North" (or_empty b.values.north) ∷ tag_of "East" (or_empty b.values.east) ∷ tag_of "South" (or_empty b.values.south) ∷ (d ++ v) in
    omega (
      arith,
      written_append (if_there "Board" b.values.id) players,
      written_append d v,
      there_size "Board" b.values.id,
      dealer_size c b.id.dealer,
      vulnerability_few (vulnerability b.id),
    )

deal_size : (c : Conventions) (b : PlainBoard) → length b.table.cells ≤ 20
    → written_size (deal_tags c b)
    ≤ 378 + (length (or_empty b.values.deal) + length (or_empty b.values.contract) + length (or_empty b.values.score) + length (or_empty b.values.par)) + tags_size b.tags
unfolding deal_tags
deal_size c b h =
    let s = if_there "OptimumScore" b.values.score in
    let p = if_there "ParContract" b.values.par in
    omega (
      arith,
      written_append (table_tags b.table) (s ++ p),
      written_append s p,
      there_size "OptimumScore" b.values.score,
      there_size "ParContract" b.values.par,
      table_size b.table h,
      value_few c b b.values.deal,
      first_few (ascii "Scoring") b.tags,
      seat_few c b.id.declarer,
      result_few b.id,
    )

-- The calls of an auction, the tricks of a play; none where there is none.
abbrev pub calls_of : Option PlainAuction → List PlainCall
calls_of none = []
calls_of (some a) = a.calls

abbrev pub tricks_of : Option PlainPlay → List PlainTrick
tricks_of none = []
tricks_of (some p) = p.tricks

auction_tags_lem : (c : Conventions) (ts : List TagPair) (o : Option PlainAuction) → All CallWritable (calls_of o)
    → written_size (auction_tags c ts o) ≤ 16 + 9 * length (calls_of o) + calls_size (calls_of o) + tags_size ts + 21 * length ts
unfolding auction_tags
auction_tags_lem c ts none g = omega arith
auction_tags_lem c ts (some a) g = omega (arith, seat_few c a.dealer, auction_size c a g, notes_size a.before ts)

play_tags_lem : (c : Conventions) (o : Option PlainPlay) → written_size (play_tags c (own_play c o) o) ≤ 13 + 12 * length (tricks_of o)
unfolding play_tags
play_tags_lem c none = omega arith
play_tags_lem c (some p) = omega (arith, seat_few c p.leader, play_size c p)

-- ---- all tags of a board

-- How large the board of a record of n bytes is.
pub record BoardSized (n : ℕ) (b : PlainBoard) : Type 0 where
  pub long : 5 ≤ n
  pub shared : tags_size b.tags + 4 * length b.tags + (remarks_size b.directives + length b.directives) + remarks_size b.blocks ≤ n + 1
  pub counted : length (calls_of b.auction) + length (tricks_of b.play) + length b.blocks ≤ 4 * n
  pub annotated : calls_size (calls_of b.auction) ≤ 2 * n
  pub calls_good : All CallWritable (calls_of b.auction)
  pub values_few : All (λ o. length (or_empty o) ≤ n) (plain_list b.values)
  pub cells_few : length b.table.cells ≤ 20

-- The values of the head's tags and of the deal's.
record ValuesFew (n : ℕ) (v : PlainValues) : Type 0 where
  head_few : length (or_empty v.event) + length (or_empty v.site) + length (or_empty v.date) + length (or_empty v.id) + length (or_empty v.west) + length (or_empty v.north) + length (or_empty v.east) + length (or_empty v.south) ≤ 8 * n
  deal_few : length (or_empty v.deal) + length (or_empty v.contract) + length (or_empty v.score) + length (or_empty v.par) ≤ 4 * n

values_sum : (n : ℕ) (v : PlainValues) → All (λ o. length (or_empty o) ≤ n) (plain_list v) → ValuesFew n v
values_sum n v (one a (one b (one d (one e (one f (one g (one h (one i (one j (one k (one l (one m over)))))))))))) = record { head_few = omega arith; deal_few = omega arith }

-- THEOREM. The written tags of a board, with their data lines.
pub WrittenSize : (c : Conventions) (n : ℕ) (b : PlainBoard) → BoardSized n b
    → written_size (written_tags c b (own_play c b.play)) ≤ 524 + 14 * n + 4 * tags_size b.tags + 33 * length b.tags + 9 * length (calls_of b.auction) + 12 * length (tricks_of b.play)
unfolding written_tags
WrittenSize c n b m =
    let head = head_tags c b in
    let early = early_extras b.tags in
    let deal = deal_tags c b in
    let late = late_extras b.tags in
    let auction = auction_tags c b.tags b.auction in
    let play = play_tags c (own_play c b.play) b.play in
    let v = values_sum n b.values m.values_few in
    omega (
      arith,
      written_append head (early ++ (deal ++ (late ++ (auction ++ play)))),
      written_append early (deal ++ (late ++ (auction ++ play))),
      written_append deal (late ++ (auction ++ play)),
      written_append late (auction ++ play),
      written_append auction play,
      head_size c b,
      early_size b.tags,
      deal_size c b m.cells_few,
      late_size b.tags,
      auction_tags_lem c b.tags b.auction m.calls_good,
      play_tags_lem c b.play,
      v.head_few,
      v.deal_few,
      m.annotated,
    )
