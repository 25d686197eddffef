-- Every board that was read can be written, and every line of a board that can be written can.
use Prim.Native.Nat.{ℕ, zero, suc, ◌+◌, ◌-◌, ◌/◌, ◌%◌, ◌<◌}
use Prim.Native.String.{String}
use mathlib.Core.Path.{◌≡◌, refl, sym, ap}
use mathlib.Core.Bool.{Bool, true, false, cond, not, ◌&&◌, ◌||◌}
use mathlib.Core.List.{List, [], ◌∷◌, ◌++◌, map}
use mathlib.Core.Option.{Option, none, some}
use native.Mathlib.Omega.{arith}
use lib.Dec.{leb, ltb, eqb}
use lib.ListN.{length, drop}
use borrow.Author.Tests.{eqb-false, ltb-true, ltb-false, leb-true, ne_eqb, lt-ltb, lt-leb, le-leb, not-true}
use Rattle.tables.specs.declared.letters.Conventions.{Conventions}
use Rattle.tables.specs.Text.{ascii, is_white, is_word, keep_end, trim_end, trimmed, before}
use Rattle.tables.specs.Numbers.{number_of, digits, decimal}
use Rattle.tables.specs.Letters.{Accepted, is_capital, seat_letter, suit_letter, every, among}
use Rattle.tables.specs.Tables.{digit_byte, digits_text}
use Rattle.tables.proofs.Laws.{by_cases, both, neither, clash}
use Rattle.tables.proofs.LetterLaws.{every_at}
use Rattle.tables.proofs.RowLaws.{every_append}
use Rattle.tables.proofs.Digits.{at_each}
use Rattle.reader.specs.declared.board.Identity.{Identity}
use Rattle.reader.specs.declared.board.TableCard.{TableCard}
use Rattle.reader.specs.declared.play.Slots.{Slots}
use Rattle.reader.specs.TagBytes.{quoted, unclosed, good_name, good_value}
use Rattle.reader.specs.TagSteps.{is_digit}
use Rattle.reader.specs.Words.{call_token, card_token, vulnerability_token, same}
use Rattle.reader.specs.Deals.{hands_of_words, deal_text}
use Rattle.reader.specs.Plain.{TagPair, Remark, PlainCall, PlainAuction, PlainTrick, PlainPlay, PlainValues, PlainBoard, plain_list, plain_of, good_directive, good_block}
use Rattle.reader.proofs.EntryLaws.{All, none as no_more, one}
use Rattle.reader.proofs.WordLaws.{same_self}
use Rattle.reader.proofs.Tags.{never, some_inj, keep_is}
use Rattle.reader.proofs.TagsBack.{after_colon as colonRest, NotesGood}
use Rattle.reader.proofs.DealBack.{in_value, DealInValue}
use Rattle.reader.proofs.WordTokens.{call_word, card_word_lem}
use Rattle.reader.proofs.PlainTags.{PlainWritable}
use Rattle.reader.proofs.PlainValues.{ValueGood, PlainValuesGood}
use Rattle.reader.proofs.PlainRemarks.{PlainDirectives, PlainBlocks}
use Rattle.reader.proofs.PlainCalls.{CallWritable, PlainCalls}
use Rattle.writer.specs.Sections.{spaced, end_lines, call_text, rounds, ends_continued, auction_lines, after_colon, is_number, note_in, later, note_at, note_value, notes_from, note_values, in_slot, trick_cards, cards_lines, tricks_lines, play_lines}
use Rattle.writer.specs.Tags.{WrittenTag, tag_of, or_empty, if_there, seat_text, vulnerability, result_text, first_seat, deal_value, is_named, named, first_value, is_extra, extras_from, until_deal, since_deal, before_deal, from_deal, early_extras, late_extras, dealer_tags, head_tags, table_tags, deal_tags, note_tag, auction_tags, play_tags, written_tags}
use Rattle.writer.specs.Remarks.{Anchored, anchored_from, directives_of, blocks_of, those, is_leading, is_under, tag_unwritten, goes_after, wrote, data_line, directive_line, block_line, directive_lines, block_lines, directives_after, blocks_after, tags_lines, leading_lines, body_lines}
use Rattle.writer.specs.Pages.{own_play}
use Rattle.demands.specs.PageBack.{all, is_trimmed, good_tag, good_if_there, good_call, calls_of, Writable, starts_data, good_data, good_line}
use Rattle.demands.proofs.TrimmedDirectives.{all_append, PlainTrimmed}
use Rattle.demands.proofs.LineBack.{among_both, word_feed}
use Rattle.demands.proofs.PageWalk.{GoodLines}

-- ---- lists all of which meet a test

all_map : {A B : Type 0} (p : B → Bool) (f : A → B) (xs : List A) → all (λ x. p (f x)) xs ≡ true → all p (map f xs) ≡ true
all_map p f [] e = refl
all_map p f (x ∷ xs) e = let h = both (p (f x)) (all (λ y. p (f y)) xs) e in rw (h.0, all_map p f xs h.1)

all_drop : {A : Type 0} (p : A → Bool) (n : ℕ) (xs : List A) → all p xs ≡ true → all p (drop n xs) ≡ true
all_drop p zero xs e = e
all_drop p (suc n) [] e = refl
all_drop p (suc n) (x ∷ xs) e = all_drop p n xs (both (p x) (all p xs) e).1

all_of : {A : Type 0} {P : A → Type 0} (p : A → Bool) → ((x : A) → P x → p x ≡ true) → (xs : List A) → All P xs → all p xs ≡ true
all_of p f [] no_more = refl
all_of p f (x ∷ xs) (one h a) = rw (f x h, all_of p f xs a)

-- A choice of two, each of which does.
chosen : {A : Type 0} (p : A → Bool) (t : Bool) (xs ys : List A) → all p xs ≡ true → all p ys ≡ true → all p (cond t xs ys) ≡ true
chosen p true xs ys e f = e
chosen p false xs ys e f = f

-- ---- every board that was read

calls_good : (o : Option PlainAuction) → ((a : PlainAuction) → o ≡ some a → All CallWritable a.calls) → all good_call (calls_of o) ≡ true
calls_good none f = refl
calls_good (some a) f = all_of good_call (λ k w. rw (lt-ltb k.code 47 w.code_is_low, w.no_white)) a.calls (f a refl)

value_good : (o : Option (List ℕ)) → ValueGood o → good_if_there o ≡ true
value_good none w = refl
value_good (some v) w = w.value_good v refl

-- THEOREM. Every board that was read can be written.
pub PlainIsWritable : (c : Conventions) (r : List ℕ) → Writable (plain_of c r)
PlainIsWritable c r =
    record {
      tags_good = all_of good_tag (λ t w. rw (w.writable.0, w.writable.1)) (plain_of c r).tags (PlainWritable c r);
      values_good = all_of good_if_there value_good (plain_list (plain_of c r).values) (PlainValuesGood c r);
      directives_good = all_of (λ k. good_directive k.bytes) (λ k w. w.directive_good) (plain_of c r).directives (PlainDirectives c r);
      directives_trimmed = PlainTrimmed c r;
      blocks_good = all_of (λ k. good_block k.bytes) (λ k w. w.block_good) (plain_of c r).blocks (PlainBlocks c r);
      calls_good = calls_good (plain_of c r).auction (PlainCalls c r);
    }

-- So can a board that differs from such a board in other parts alone, as in its table.
pub WritableLike : {b d : PlainBoard} → Writable b → d.tags ≡ b.tags → d.values ≡ b.values → d.directives ≡ b.directives → d.blocks ≡ b.blocks → d.auction ≡ b.auction → Writable d
WritableLike w e f g h i =
    record {
      tags_good = rw e w.tags_good;
      values_good = rw f w.values_good;
      directives_good = rw g w.directives_good;
      directives_trimmed = rw g w.directives_trimmed;
      blocks_good = rw h w.blocks_good;
      calls_good = rw i w.calls_good;
    }

-- ---- data lines

-- A token that may stand first on a data line.
abbrev pub begins : List ℕ → Bool
begins [] = false
begins (b ∷ bs) = starts_data b

abbrev pub is_token : List ℕ → Bool
is_token t = begins t && every is_word t

begins_append : (x y : List ℕ) → begins x ≡ true → begins (x ++ y) ≡ true
begins_append [] y e = clash e
begins_append (b ∷ bs) y e = e

spaced_feed : (ts : List (List ℕ)) → all is_token ts ≡ true → among 10 (spaced ts) ≡ false
spaced_feed [] e = refl
spaced_feed (t ∷ []) e =
    let h = both (is_token t) true e in
    word_feed t (both (begins t) (every is_word t) h.0).1
spaced_feed (t ∷ u ∷ ts) e =
    let h = both (is_token t) (all is_token (u ∷ ts)) e in
    among_both 10 t (32 ∷ spaced (u ∷ ts)) (word_feed t (both (begins t) (every is_word t) h.0).1) (spaced_feed (u ∷ ts) h.1)

data_by : (l : List ℕ) → begins l ≡ true → among 10 l ≡ false → trim_end l ≡ l → good_data l ≡ true
unfolding trimmed
data_by [] e f g = clash e
data_by (b ∷ bs) e f g = let w = (neither (is_white b) _ (not-true _ e)).0 in rw (e, f, w, g) (same_self (b ∷ bs))

spaced_begins : (t : List ℕ) (ts : List (List ℕ)) → begins t ≡ true → begins (spaced (t ∷ ts)) ≡ true
spaced_begins t [] e = e
spaced_begins t (u ∷ us) e = begins_append t (32 ∷ spaced (u ∷ us)) e

-- No white space at the end.
word_end : (t : List ℕ) → every is_word t ≡ true → trim_end t ≡ t
word_end [] e = refl
word_end (b ∷ bs) e = let h = both (is_word b) (every is_word bs) e in rw (word_end bs h.1) (keep_is b bs (not-true (is_white b) h.0))

end_after : (l : List ℕ) (x : ℕ) (xs : List ℕ) → trim_end (x ∷ xs) ≡ x ∷ xs → trim_end (l ++ x ∷ xs) ≡ l ++ x ∷ xs
end_after [] x xs e = e
end_after (b ∷ []) x xs e = ap (keep_end b) e
end_after (b ∷ c ∷ cs) x xs e = ap (keep_end b) (end_after (c ∷ cs) x xs e)

blank_end : (s : List ℕ) → begins s ≡ true → trim_end s ≡ s → trim_end (32 ∷ s) ≡ 32 ∷ s
blank_end [] e f = clash e
blank_end (x ∷ xs) e f = ap (keep_end 32) f

spaced_end : (ts : List (List ℕ)) → all is_token ts ≡ true → trim_end (spaced ts) ≡ spaced ts
spaced_end [] e = refl
spaced_end (t ∷ []) e = word_end t (both (begins t) (every is_word t) (both (is_token t) true e).0).1
spaced_end (t ∷ u ∷ ts) e =
    let h = both (is_token t) (all is_token (u ∷ ts)) e in
    let i = both (is_token u) (all is_token ts) h.1 in
    let b = spaced_begins u ts (both (begins u) (every is_word u) i.0).0 in
    end_after t 32 (spaced (u ∷ ts)) (blank_end (spaced (u ∷ ts)) b (spaced_end (u ∷ ts) h.1))

pub spaced_data : (t : List ℕ) (ts : List (List ℕ)) → all is_token (t ∷ ts) ≡ true → good_data (spaced (t ∷ ts)) ≡ true
spaced_data t ts e =
    let h = both (is_token t) (all is_token ts) e in
    data_by (spaced (t ∷ ts)) (spaced_begins t ts (both (begins t) (every is_word t) h.0).0) (spaced_feed (t ∷ ts) e) (spaced_end (t ∷ ts) e)

-- Four tokens a line.
pub rounds_data : (ts : List (List ℕ)) → all is_token ts ≡ true → all good_data (rounds ts) ≡ true
rounds_data [] e = refl
rounds_data (a ∷ []) e = rw (spaced_data a [] e)
rounds_data (a ∷ b ∷ []) e = rw (spaced_data a (b ∷ []) e)
rounds_data (a ∷ b ∷ d ∷ []) e = rw (spaced_data a (b ∷ d ∷ []) e)
rounds_data (a ∷ b ∷ d ∷ f ∷ ts) e =
    let h = both (is_token a) _ e in
    let i = both (is_token b) _ h.1 in
    let j = both (is_token d) _ i.1 in
    let k = both (is_token f) (all is_token ts) j.1 in
    rw (spaced_data a (b ∷ d ∷ f ∷ []) (rw (h.0, i.0, j.0, k.0)), rounds_data ts k.1)

ends_data : (end : ℕ) → all good_data (end_lines end) ≡ true
unfolding end_lines is_white trimmed
ends_data end = chosen good_data (eqb end 1) _ _ refl (chosen good_data (eqb end 2) _ _ refl refl)

level_begins : (q : ℕ) → q < 7 → starts_data (49 + q) ≡ true
unfolding is_white
level_begins q h = at_each (λ n. starts_data (49 + n)) 7 refl q h

capital_begins : (b : ℕ) → is_capital b ≡ true → starts_data b ≡ true
unfolding is_capital is_white
capital_begins b e =
    let d = both (leb 65 b) (leb b 90) e in
    let l = leb-true 65 b d.0 in
    let h = leb-true b 90 d.1 in
    rw (le-leb 9 b (omega arith), lt-leb b 13 (omega arith), ne_eqb b 32 (λ k. omega arith), ne_eqb b 123 (λ k. omega arith), ne_eqb b 59 (λ k. omega arith), ne_eqb b 37 (λ k. omega arith), ne_eqb b 91 (λ k. omega arith))

pub call_begins : (c : Conventions) (k : ℕ) → k < 47 → begins (call_token c k) ≡ true
unfolding call_token is_white
call_begins c k h =
    by_cases (eqb k 0)
    (λ t. rw t)
    (λ z.
    by_cases (ltb k 36)
    (λ t. rw (z, t) (level_begins ((k - 1) / 5) (omega (arith, ltb-true k 36 t))))
    (λ y.
    by_cases (eqb k 36)
    (λ t. rw (z, y, t))
    (λ x.
    by_cases (eqb k 37)
    (λ t. rw (z, y, x, t))
    (λ w.
    by_cases (eqb k 38)
    (λ t. rw (z, y, x, w, t))
    (λ v.
    let d : k - 38 ≡ suc (k - 39) = omega (arith, ltb-false k 36 y, eqb-false k 36 x, eqb-false k 37 w, eqb-false k 38 v) in
    rw (z, y, x, w, v, d))))))

-- The cards of a trick are cards.
slot_cards : (k : ℕ) → every (λ j. ltb j 52) (in_slot k) ≡ true
slot_cards k = by_cases (ltb k 52) (λ t. rw (t, t)) (λ t. rw t)

cards_of_trick : (s : Slots) → every (λ k. ltb k 52) (trick_cards s) ≡ true
cards_of_trick s =
    let p : ℕ → Bool = λ k. ltb k 52 in
    every_append p (in_slot s.a) _ (slot_cards s.a) (every_append p (in_slot s.b) _ (slot_cards s.b) (every_append p (in_slot s.c) (in_slot s.d) (slot_cards s.c) (slot_cards s.d)))

module _ (c : Conventions) (ok : Accepted c) where
  call_token_lem : (k : PlainCall) → good_call k ≡ true → is_token (call_text c k) ≡ true
  call_token_lem k e =
      let h = both (ltb k.code 47) (every is_word k.annotation) e in
      let l = ltb-true k.code 47 h.0 in
      rw (begins_append (call_token c k.code) k.annotation (call_begins c k.code l), every_append is_word (call_token c k.code) k.annotation (call_word c ok k.code l) h.1)

  calls_tokens : (ks : List PlainCall) → all good_call ks ≡ true → all is_token (map (call_text c) ks) ≡ true
  calls_tokens [] e = refl
  calls_tokens (k ∷ ks) e = let h = both (good_call k) (all good_call ks) e in rw (call_token_lem k h.0, calls_tokens ks h.1)

  auction_data : (a : PlainAuction) → all good_call a.calls ≡ true → all good_data (auction_lines c a) ≡ true
  unfolding auction_lines
  auction_data a e =
      all_append good_data (rounds (map (call_text c) a.calls)) _ (rounds_data (map (call_text c) a.calls) (calls_tokens a.calls e))
      (chosen good_data (ends_continued a.calls) [] (end_lines a.end) refl (ends_data a.end))

  pub card_token_lem : (k : ℕ) → k < 52 → is_token (card_token c k) ≡ true
  card_token_lem k h =
      let i = 7 - k / 13 in
      let s = every_at is_capital c.letters i ok.capitals (rw ok.thirteen (omega arith)) in
      rw (capital_begins (suit_letter c (k / 13)) s, card_word_lem c ok k h)

  cards_tokens : (ks : List ℕ) → every (λ k. ltb k 52) ks ≡ true → all is_token (map (card_token c) ks) ≡ true
  cards_tokens [] e = refl
  cards_tokens (k ∷ ks) e = let h = both (ltb k 52) (every (λ j. ltb j 52) ks) e in rw (card_token_lem k (ltb-true k 52 h.0), cards_tokens ks h.1)

  cards_data : (ks : List ℕ) → every (λ k. ltb k 52) ks ≡ true → all good_data (cards_lines c ks) ≡ true
  cards_data [] e = refl
  cards_data (k ∷ ks) e = rw (spaced_data (card_token c k) (map (card_token c) ks) (cards_tokens (k ∷ ks) e))

  tricks_data : (ts : List PlainTrick) → all good_data (tricks_lines c ts) ≡ true
  tricks_data [] = refl
  tricks_data (t ∷ ts) = all_append good_data (cards_lines c (trick_cards t.slots)) (tricks_lines c ts) (cards_data (trick_cards t.slots) (cards_of_trick t.slots)) (tricks_data ts)

  play_data : (o : Option PlainPlay) → all good_data (own_play c o) ≡ true
  unfolding play_lines
  play_data none = refl
  play_data (some p) = all_append good_data (tricks_lines c p.tricks) (end_lines p.end) (tricks_data p.tricks) (ends_data p.end)

-- ---- values

-- No LF and no `]`.
abbrev pub is_safe : ℕ → Bool
is_safe b = not (eqb b 10 || eqb b 93)

pub safe_good : (v : List ℕ) → every is_safe v ≡ true → good_value v ≡ true
unfolding good_value
safe_good v e = rw (no_feed v e, no_close true v e)
  where
    no_feed : (l : List ℕ) → every is_safe l ≡ true → among 10 l ≡ false
    no_feed [] e = refl
    no_feed (b ∷ bs) e =
        let h = both (is_safe b) (every is_safe bs) e in
        let s = neither (eqb b 10) (eqb b 93) (not-true (eqb b 10 || eqb b 93) h.0) in
        rw (s.0, no_feed bs h.1)

    no_close : (q : Bool) (l : List ℕ) → every is_safe l ≡ true → unclosed q l ≡ true
    no_close q [] e = refl
    no_close q (b ∷ bs) e =
        let h = both (is_safe b) (every is_safe bs) e in
        let s = neither (eqb b 10) (eqb b 93) (not-true (eqb b 10 || eqb b 93) h.0) in
        rw (s.1, no_close (quoted q b) bs h.1)

pub every_implied : (p q : ℕ → Bool) → ((b : ℕ) → p b ≡ true → q b ≡ true) → (s : List ℕ) → every p s ≡ true → every q s ≡ true
every_implied p q f [] e = refl
every_implied p q f (x ∷ xs) e = let h = both (p x) (every p xs) e in rw (f x h.0, every_implied p q f xs h.1)

last_digit : (n : ℕ) → is_digit (48 + n % 10) ≡ true
last_digit n = rw (le-leb 48 (48 + n % 10) (omega arith), le-leb (48 + n % 10) 57 (omega arith))

digits_are : (f n : ℕ) (acc : List ℕ) → every is_digit acc ≡ true → every is_digit (digits f n acc) ≡ true
unfolding digits
digits_are zero n acc e = rw (last_digit n, e)
digits_are (suc f) n acc e =
    let h : every is_digit ((48 + n % 10) ∷ acc) ≡ true = rw (last_digit n, e) in
    by_cases (ltb n 10) (λ t. rw t h) (λ t. rw t (digits_are f (n / 10) ((48 + n % 10) ∷ acc) h))

decimal_digits : (n : ℕ) → every is_digit (decimal n) ≡ true
unfolding decimal
decimal_digits n = digits_are 9 n [] refl

digit_safe : (b : ℕ) → is_digit b ≡ true → is_safe b ≡ true
digit_safe b e =
    let d = both (leb 48 b) (leb b 57) e in
    rw (ne_eqb b 10 (λ k. omega (arith, leb-true 48 b d.0)), ne_eqb b 93 (λ k. omega (arith, leb-true b 57 d.1)))

decimal_safe : (n : ℕ) → every is_safe (decimal n) ≡ true
decimal_safe n = every_implied is_digit is_safe digit_safe (decimal n) (decimal_digits n)

result_good : (i : Identity) → good_value (result_text i) ≡ true
unfolding result_text
result_good i =
    safe_good _
    (by_cases (eqb i.result_met 0)
    (λ t. rw t)
    (λ t. by_cases (ltb i.result 128) (λ u. rw (t, u) (decimal_safe (128 - i.result))) (λ u. rw (t, u) (decimal_safe (i.result - 128)))))

vulnerability_good : (k : ℕ) → good_value (vulnerability_token k) ≡ true
unfolding vulnerability_token good_value is_white
vulnerability_good k =
    by_cases (eqb k 0) (λ t. rw t) (λ t. by_cases (eqb k 1) (λ u. rw (t, u)) (λ u. by_cases (eqb k 2) (λ w. rw (t, u, w)) (λ w. rw (t, u, w))))

cell_safe : (t : ℕ) → is_safe (digit_byte t) ≡ true
unfolding digit_byte
cell_safe t =
    by_cases (ltb t 10)
    (λ a. rw (a, ne_eqb (48 + t) 10 (λ k. omega arith), ne_eqb (48 + t) 93 (λ k. omega (arith, ltb-true t 10 a))))
    (λ a. by_cases (ltb t 13) (λ b. rw (a, b, ne_eqb (87 + t) 10 (λ k. omega arith), ne_eqb (87 + t) 93 (λ k. omega (arith, ltb-false t 10 a)))) (λ b. rw (a, b)))

cells_safe : (ts : List ℕ) → every is_safe (digits_text ts) ≡ true
cells_safe [] = refl
cells_safe (t ∷ ts) = rw (cell_safe t, cells_safe ts)

in_value_safe : (b : ℕ) → in_value b ≡ true → is_safe b ≡ true
in_value_safe b e =
    let h = neither (eqb b 10) _ (not-true _ e) in
    let i = neither (eqb b 34) _ h.1 in
    let j = neither (eqb b 91) (eqb b 93) i.1 in
    rw (h.0, j.1)

first_seat_lem : (d : ℕ) → first_seat d < 4
first_seat_lem d = by_cases (ltb d 4) (λ t. rw t (ltb-true d 4 t)) (λ t. rw t (omega arith))

pub capital_safe : (b : ℕ) → is_capital b ≡ true → is_safe b ≡ true
unfolding is_capital
capital_safe b e =
    let d = both (leb 65 b) (leb b 90) e in
    rw (ne_eqb b 10 (λ k. omega (arith, leb-true 65 b d.0)), ne_eqb b 93 (λ k. omega (arith, leb-true b 90 d.1)))

or_empty_good : (o : Option (List ℕ)) → good_if_there o ≡ true → good_value (or_empty o) ≡ true
unfolding good_value
or_empty_good none e = refl
or_empty_good (some v) e = e

module _ (c : Conventions) (ok : Accepted c) where
  pub seat_good : (s : ℕ) → good_value (seat_text c s) ≡ true
  unfolding seat_text
  seat_good s =
      safe_good _
      (by_cases (ltb s 4)
      (λ t. rw (t, capital_safe (seat_letter c s) (every_at is_capital c.letters s ok.capitals (rw ok.thirteen (omega (arith, ltb-true s 4 t))))))
      (λ t. rw t))

  deal_good : (b : PlainBoard) (o : Option (List ℕ)) → good_if_there o ≡ true → good_value (deal_value c b o) ≡ true
  deal_good b none e =
      let t = deal_text c (first_seat b.id.dealer) (hands_of_words b.deal.words) in
      safe_good t (every_implied in_value is_safe in_value_safe t (DealInValue c ok (first_seat b.id.dealer) (first_seat_lem b.id.dealer) (hands_of_words b.deal.words)))
  deal_good b (some v) e = e

-- ---- notes

colon_rest : (v x : List ℕ) → after_colon v ≡ some x → x ≡ colonRest v
colon_rest [] x e = never e
colon_rest (b ∷ bs) x e =
    by_cases (eqb b 58)
    (λ t. rw t (sym (some_inj (rw t at e))))
    (λ t.
    let d : suc (length (before 58 bs)) + 1 ≡ suc (length (before 58 bs) + 1) = omega arith in
    rw (t, d) (colon_rest bs x (rw t at e)))

-- A note's text that can be written behind its number.
abbrev good_note : ℕ → Option (List ℕ) → Bool
good_note n none = true
good_note n (some x) = good_value (decimal n ++ 58 ∷ x)

note_by : (n : ℕ) (v : List ℕ) (o : Option (List ℕ)) → after_colon v ≡ o → good_value v ≡ true → good_note n o ≡ true
note_by n v none e g = refl
note_by n v (some x) e g = rw (colon_rest v x e) (NotesGood (decimal n) v (decimal_digits n) g)

note_in_good : (n : ℕ) (t : TagPair) → good_tag t ≡ true → good_note n (note_in n t) ≡ true
unfolding note_in
note_in_good n t e = by (same (ascii "Note") t.name && is_number n (number_of 255 (trimmed (before 58 t.value))))
  where
    by : (s : Bool) → good_note n (cond s (after_colon t.value) none) ≡ true
    by true = note_by n t.value (after_colon t.value) refl (both (good_name t.name) (good_value t.value) e).1
    by false = refl

later_good : (n : ℕ) (x y : Option (List ℕ)) → good_note n x ≡ true → good_note n y ≡ true → good_note n (later x y) ≡ true
later_good n none y e f = f
later_good n (some x) y e f = e

note_at_good : (n : ℕ) (ts : List TagPair) → all good_tag ts ≡ true → good_note n (note_at n ts) ≡ true
note_at_good n [] e = refl
note_at_good n (t ∷ ts) e =
    let h = both (good_tag t) (all good_tag ts) e in
    later_good n (note_at n ts) (note_in n t) (note_at_good n ts h.1) (note_in_good n t h.0)

note_value_good : (n : ℕ) (o : Option (List ℕ)) → good_note n o ≡ true → all good_value (note_value n o) ≡ true
note_value_good n none e = refl
note_value_good n (some x) e = rw e

notes_good : (k n : ℕ) (ts : List TagPair) → all good_tag ts ≡ true → all good_value (notes_from k n ts) ≡ true
unfolding notes_from
notes_good zero n ts e = refl
notes_good (suc k) n ts e = all_append good_value (note_value n (note_at n ts)) (notes_from k (n + 1) ts) (note_value_good n (note_at n ts) (note_at_good n ts e)) (notes_good k (n + 1) ts e)

-- ---- written tags

abbrev pub good_written : WrittenTag → Bool
good_written w = (good_name w.name && good_value w.value) && all good_data w.lines

tag_good : (s : String) (v : List ℕ) → good_name (ascii s) ≡ true → good_value v ≡ true → good_written (tag_of s v) ≡ true
tag_good s v n e = rw (n, e)

if_there_good : (s : String) (o : Option (List ℕ)) → good_name (ascii s) ≡ true → good_if_there o ≡ true → all good_written (if_there s o) ≡ true
if_there_good s none n e = refl
if_there_good s (some v) n e = rw (tag_good s v n e)

extras_good : (seen ts : List TagPair) → all good_tag ts ≡ true → all good_written (extras_from seen ts) ≡ true
extras_good seen [] e = refl
extras_good seen (t ∷ ts) e =
    let h = both (good_tag t) (all good_tag ts) e in
    let i = extras_good (seen ++ t ∷ []) ts h.1 in
    chosen good_written (is_extra t && not (named t.name seen)) _ (extras_from (seen ++ t ∷ []) ts) (rw (h.0, i)) i

until_good : (ts : List TagPair) → all good_tag ts ≡ true → all good_tag (until_deal ts) ≡ true
until_good [] e = refl
until_good (t ∷ ts) e =
    let h = both (good_tag t) (all good_tag ts) e in
    chosen good_tag (is_named (ascii "Deal") t) [] (t ∷ until_deal ts) refl (rw (h.0, until_good ts h.1))

since_good : (ts : List TagPair) → all good_tag ts ≡ true → all good_tag (since_deal ts) ≡ true
since_good [] e = refl
since_good (t ∷ ts) e =
    let h = both (good_tag t) (all good_tag ts) e in
    chosen good_tag (is_named (ascii "Deal") t) (t ∷ ts) (since_deal ts) e (since_good ts h.1)

early_good : (ts : List TagPair) → all good_tag ts ≡ true → all good_written (early_extras ts) ≡ true
unfolding early_extras
early_good ts e = extras_good [] (before_deal ts) (chosen good_tag (named (ascii "Deal") ts) (until_deal ts) [] (until_good ts e) refl)

late_good : (ts : List TagPair) → all good_tag ts ≡ true → all good_written (late_extras ts) ≡ true
unfolding late_extras
late_good ts e = extras_good (before_deal ts) (from_deal ts) (chosen good_tag (named (ascii "Deal") ts) (since_deal ts) ts (since_good ts e) e)

first_value_good : (n : List ℕ) (ts : List TagPair) → all good_tag ts ≡ true → good_value (first_value n ts) ≡ true
unfolding good_value
first_value_good n [] e = refl
first_value_good n (t ∷ ts) e =
    let h = both (good_tag t) (all good_tag ts) e in
    by_cases (is_named n t) (λ s. rw s (both (good_name t.name) (good_value t.value) h.0).1) (λ s. rw s (first_value_good n ts h.1))

-- The twelve values.
record GoodValues (v : PlainValues) : Type 0 where
  id_good : good_if_there v.id ≡ true
  event_good : good_if_there v.event ≡ true
  site_good : good_if_there v.site ≡ true
  date_good : good_if_there v.date ≡ true
  contract_good : good_if_there v.contract ≡ true
  north_good : good_if_there v.north ≡ true
  east_good : good_if_there v.east ≡ true
  south_good : good_if_there v.south ≡ true
  west_good : good_if_there v.west ≡ true
  deal_good : good_if_there v.deal ≡ true
  score_good : good_if_there v.score ≡ true
  par_good : good_if_there v.par ≡ true

values_each : (v : PlainValues) → all good_if_there (plain_list v) ≡ true → GoodValues v
values_each v e =
    let a = both (good_if_there v.id) _ e in
    let b = both (good_if_there v.event) _ a.1 in
    let d = both (good_if_there v.site) _ b.1 in
    let f = both (good_if_there v.date) _ d.1 in
    let g = both (good_if_there v.contract) _ f.1 in
    let h = both (good_if_there v.north) _ g.1 in
    let i = both (good_if_there v.east) _ h.1 in
    let j = both (good_if_there v.south) _ i.1 in
    let k = both (good_if_there v.west) _ j.1 in
    let l = both (good_if_there v.deal) _ k.1 in
    let m = both (good_if_there v.score) _ l.1 in
    let n = both (good_if_there v.par) true m.1 in
    record {
      id_good = a.0;
      event_good = b.0;
      site_good = d.0;
      date_good = f.0;
      contract_good = g.0;
      north_good = h.0;
      east_good = i.0;
      south_good = j.0;
      west_good = k.0;
      deal_good = l.0;
      score_good = m.0;
      par_good = n.0;
    }

note_tags_lem : (vs : List (List ℕ)) → all good_value vs ≡ true → all good_written (map note_tag vs) ≡ true
unfolding good_name is_white
note_tags_lem [] e = refl
note_tags_lem (v ∷ vs) e = let h = both (good_value v) (all good_value vs) e in rw (h.0, note_tags_lem vs h.1)

module _ (c : Conventions) (ok : Accepted c) where
  head_good : (b : PlainBoard) → GoodValues b.values → all good_written (head_tags c b) ≡ true
  unfolding head_tags good_name is_white
  head_good b v =
      rw (
        or_empty_good b.values.event v.event_good,
        or_empty_good b.values.site v.site_good,
        or_empty_good b.values.date v.date_good,
      )
      (all_append good_written (if_there "Board" b.values.id) _ (if_there_good "Board" b.values.id refl v.id_good)
      (rw (
        or_empty_good b.values.west v.west_good,
        or_empty_good b.values.north v.north_good,
        or_empty_good b.values.east v.east_good,
        or_empty_good b.values.south v.south_good,
      )
      (all_append good_written (dealer_tags c b.id.dealer) _
      (chosen good_written (ltb b.id.dealer 4) (tag_of "Dealer" (seat_text c b.id.dealer) ∷ []) [] (rw (seat_good c ok b.id.dealer)) refl)
      (rw (vulnerability_good (vulnerability b.id))))))

  table_good : (t : TableCard) → all good_written (table_tags t) ≡ true
  unfolding table_tags good_name is_white
  table_good t = chosen good_written (eqb t.kind 0) [] (tag_of "DoubleDummyTricks" (digits_text t.cells) ∷ []) refl (rw (safe_good (digits_text t.cells) (cells_safe t.cells)))

  deal_tags_good : (b : PlainBoard) → GoodValues b.values → all good_tag b.tags ≡ true → all good_written (deal_tags c b) ≡ true
  unfolding deal_tags good_name is_white
  deal_tags_good b v e =
      rw (
        deal_good c ok b b.values.deal v.deal_good,
        first_value_good (ascii "Scoring") b.tags e,
        seat_good c ok b.id.declarer,
        or_empty_good b.values.contract v.contract_good,
        result_good b.id,
      )
      (all_append good_written (table_tags b.table) _ (table_good b.table)
      (all_append good_written (if_there "OptimumScore" b.values.score) _ (if_there_good "OptimumScore" b.values.score refl v.score_good) (if_there_good "ParContract" b.values.par refl v.par_good)))

  auction_tags_good : (ts : List TagPair) (o : Option PlainAuction) → all good_tag ts ≡ true → all good_call (calls_of o) ≡ true → all good_written (auction_tags c ts o) ≡ true
  unfolding auction_tags good_name is_white note_values
  auction_tags_good ts none e f = refl
  auction_tags_good ts (some a) e f =
      rw (seat_good c ok a.dealer, auction_data c ok a f)
      (note_tags_lem (note_values (drop a.before ts)) (notes_good 256 0 (drop a.before ts) (all_drop good_tag a.before ts e)))

  play_tags_good : (play : List (List ℕ)) (o : Option PlainPlay) → all good_data play ≡ true → all good_written (play_tags c play o) ≡ true
  unfolding play_tags good_name is_white
  play_tags_good play none e = refl
  play_tags_good play (some p) e = rw (seat_good c ok p.leader, e)

  -- THEOREM. The written tags of a board that can be written can be written, with any data lines of its play that can.
  pub TagsWritable : (b : PlainBoard) (play : List (List ℕ)) → Writable b → all good_data play ≡ true → all good_written (written_tags c b play) ≡ true
  unfolding written_tags
  TagsWritable b play w e =
      let v = values_each b.values w.values_good in
      let t = w.tags_good in
      all_append good_written (head_tags c b) _ (head_good b v)
      (all_append good_written (early_extras b.tags) _ (early_good b.tags t)
      (all_append good_written (deal_tags c b) _ (deal_tags_good b v t)
      (all_append good_written (late_extras b.tags) _ (late_good b.tags t)
      (all_append good_written (auction_tags c b.tags b.auction) _ (auction_tags_good b.tags b.auction t w.calls_good) (play_tags_good play b.play e)))))

-- ---- lines

abbrev pub good_bytes : (List ℕ → Bool) → Anchored → Bool
good_bytes p k = p k.bytes

pub anchored_good : (p : List ℕ → Bool) (ts : List TagPair) (i : ℕ) (ks : List Remark) → all (λ k. p k.bytes) ks ≡ true → all (good_bytes p) (anchored_from ts i ks) ≡ true
anchored_good p ts i [] e = refl
anchored_good p ts i (k ∷ ks) e = let h = both (p k.bytes) (all (λ j. p j.bytes) ks) e in rw (h.0, anchored_good p ts (i + 1) ks h.1)

pub those_good : (p : Anchored → Bool) (t : Anchored → Bool) (ks : List Anchored) → all p ks ≡ true → all p (those t ks) ≡ true
those_good p t [] e = refl
those_good p t (k ∷ ks) e =
    let h = both (p k) (all p ks) e in
    let i = those_good p t ks h.1 in
    chosen p (t k) (k ∷ those t ks) (those t ks) (rw (h.0, i)) i

-- A directive that can be written, and is trimmed.
abbrev good_trimmed : List ℕ → Bool
good_trimmed d = good_directive d && is_trimmed d

both_good : (ks : List Remark) → all (λ k. good_directive k.bytes) ks ≡ true → all (λ k. is_trimmed k.bytes) ks ≡ true → all (λ k. good_trimmed k.bytes) ks ≡ true
both_good [] e f = refl
both_good (k ∷ ks) e f =
    let g = both (good_directive k.bytes) (all (λ j. good_directive j.bytes) ks) e in
    let h = both (is_trimmed k.bytes) (all (λ j. is_trimmed j.bytes) ks) f in
    rw (g.0, h.0, both_good ks g.1 h.1)

module _ (ds ks : List Anchored) (dg : all (good_bytes good_trimmed) ds ≡ true) (kg : all (good_bytes good_block) ks ≡ true) where
  directives_lined : (t : Anchored → Bool) → all good_line (directive_lines (those t ds)) ≡ true
  directives_lined t = all_map good_line (λ k. directive_line k.number k.bytes) (those t ds) (those_good (good_bytes good_trimmed) t ds dg)

  blocks_lined : (t : Anchored → Bool) → all good_line (block_lines (those t ks)) ≡ true
  blocks_lined t = all_map good_line (λ k. block_line k.number k.bytes) (those t ks) (those_good (good_bytes good_block) t ks kg)

  tags_lined : (earlier ws : List WrittenTag) → all good_written ws ≡ true → all good_line (tags_lines ds ks earlier ws) ≡ true
  unfolding directives_after blocks_after
  tags_lined earlier [] e = refl
  tags_lined earlier (w ∷ ws) e =
      let h = both (good_written w) (all good_written ws) e in
      let i = both (good_name w.name && good_value w.value) (all good_data w.lines) h.0 in
      rw i.0
      (all_append good_line (map data_line w.lines) _ (all_map good_line data_line w.lines i.1)
      (all_append good_line (directives_after ds (earlier ++ w ∷ ws) (length earlier)) _ (directives_lined (goes_after (earlier ++ w ∷ ws) (length earlier)))
      (all_append good_line (blocks_after ks earlier w) _
      (chosen good_line (wrote w.name earlier) [] (block_lines (those (is_under w.name) ks)) refl (blocks_lined (is_under w.name)))
      (tags_lined (earlier ++ w ∷ []) ws h.1))))

-- THEOREM. Every line of a board that can be written can be written, with any data lines of its play that can.
pub BodyGood : (c : Conventions) → Accepted c → (b : PlainBoard) (play : List (List ℕ)) → Writable b → all good_data play ≡ true → all good_line (body_lines b (written_tags c b play)) ≡ true
unfolding body_lines directives_of blocks_of
BodyGood c ok b play w e =
    let ds = directives_of b in
    let ks = blocks_of b in
    let dg = anchored_good good_trimmed b.tags 0 b.directives (both_good b.directives w.directives_good w.directives_trimmed) in
    let kg = anchored_good good_block b.tags 0 b.blocks w.blocks_good in
    let ws = written_tags c b play in
    all_append good_line (block_lines (those is_leading ks)) _ (blocks_lined ds ks dg kg is_leading)
    (all_append good_line (tags_lines ds ks [] ws) _ (tags_lined ds ks dg kg [] ws (TagsWritable c ok b play w e))
    (all_append good_line (block_lines (those (tag_unwritten ws) ks)) _ (blocks_lined ds ks dg kg (tag_unwritten ws)) (directives_lined ds ks dg kg (tag_unwritten ws))))

pub LinesGood : (c : Conventions) → Accepted c → (b : PlainBoard) → Writable b → GoodLines c b
unfolding leading_lines directives_of blocks_of
LinesGood c ok b w =
    let ds = directives_of b in
    let ks = blocks_of b in
    let dg = anchored_good good_trimmed b.tags 0 b.directives (both_good b.directives w.directives_good w.directives_trimmed) in
    let kg = anchored_good good_block b.tags 0 b.blocks w.blocks_good in
    record { leading_good = directives_lined ds ks dg kg is_leading; body_good = BodyGood c ok b (own_play c b.play) w (play_data c ok b.play) }
