-- How long a page can be: at most 256 bytes for each byte of the text, and the 20 of the header.
use Prim.Native.Nat.{ℕ, zero, suc, ◌+◌, ◌-◌, ◌*◌, ◌%◌, ◌≤◌, ◌<◌}
use mathlib.Core.Path.{◌≡◌, refl}
use mathlib.Core.Bool.{true, false, cond, ◌&&◌, ◌||◌, not, and-false}
use mathlib.Core.List.{List, [], ◌∷◌, ◌++◌, map}
use native.Mathlib.Omega.{arith}
use lib.Dec.{eqb, ltb}
use lib.ListN.{length, length-append}
use borrow.Author.Tests.{eqb-true, eqb-false, ltb-true, ltb-false}
use Rattle.tables.specs.declared.letters.Conventions.{Conventions}
use Rattle.tables.specs.Text.{ascii, trimmed, prepend, lines}
use Rattle.tables.proofs.Laws.{by_cases, clash, both, either}
use Rattle.reader.specs.declared.deal.Hands.{Hands}
use Rattle.reader.specs.Words.{call_token, card_token}
use Rattle.reader.specs.Play.{slot_of}
use Rattle.reader.specs.Deals.{deal_text, hand_text}
use Rattle.reader.proofs.Inside.{trim_length}
use Rattle.reader.proofs.Counts.{chosen}
use Rattle.reader.proofs.DealBack.{deal_few}
use Rattle.writer.specs.Tags.{seat_text}
use Rattle.writer.specs.Remarks.{lines_text}
use Rattle.writer.specs.Pages.{built_in_header}
use Rattle.writer.specs.Items.{before_call, tokens_text}
use Rattle.writer.proofs.TagSizes.{token_few, seat_few, vulnerability_few}
use Rattle.lin.specs.declared.playing.LinTrick.{LinTrick}
use Rattle.lin.specs.declared.pairs.Command.TheVariants.{Qx, Heading, Md, Mb, Pc, Other}
use Rattle.lin.specs.Pairs.{parts, place_of, command_named, command_of, Pair, paired, pairs_of, is_pair, has_pair}
use Rattle.lin.specs.Pieces.{opens, pair_before, split, with_deal, line_pieces, board_pieces}
use Rattle.lin.specs.Dealing.{no_dealing, dealt_hands}
use Rattle.lin.specs.declared.bidding.Contract.{Contract}
use Rattle.lin.specs.Bidding.{call_in, calls_from, is_bid, no_contract, with_call, contract_from, contract_token, doubling_text}
use Rattle.lin.specs.BiddingSteps.{last_text}
use Rattle.lin.specs.Playing.{card_in, cards_played, slot_at, slot_word}
use Rattle.lin.specs.PlayingSteps.{word_text, trick_text, empty_trick, taken, next_trick, last_line, trick_texts}
use Rattle.lin.specs.BoardSteps.{lin_head_text, lin_result_text, call_tokens, lin_auction_text, played_text}
use Rattle.lin.specs.LinBoards.{LinBoard, board_of, lin_boards, contract_of, declarer_in, opening_leader, trump_of, lin_lines, lin_next, lin_page, lin_text}
use Rattle.lin.specs.PieceSteps.{is_any}
use Rattle.lin.proofs.BoardTextLaws.{lines_text_lem}
use Rattle.lin.proofs.PairLaws.{same_command}
use Rattle.lin.proofs.BiddingLaws.{contract_keeps}
use Rattle.lin.proofs.SurveyLaws.{dealer_low, vulnerability_low}

-- ---- the contract

record LowContract (k : Contract) : Type 0 where
  bid_low : k.bid < 47
  doubling_low : k.doubling < 47

with_low : (seat : ℕ) (k : Contract) (code : ℕ) → LowContract k → LowContract (with_call seat k code)
unfolding with_call
with_low seat k code l =
    chosen LowContract (is_bid code) _ _
    (λ e. record { bid_low = omega (arith, ltb-true code 36 (both (ltb 0 code) (ltb code 36) e).1); doubling_low = omega arith })
    (λ e.
    chosen LowContract ((eqb code 36 || eqb code 37) && ltb 0 k.bid) _ _
    (λ t.
    record {
      bid_low = l.bid_low;
      doubling_low =
          either (eqb code 36) (eqb code 37) (both (eqb code 36 || eqb code 37) (ltb 0 k.bid) t).0
          (λ u. omega (arith, eqb-true code 36 u)) (λ u. omega (arith, eqb-true code 37 u));
    })
    (λ t. l))

last_few : (c : Conventions) (k : Contract) → LowContract k → length (last_text c k) ≤ 16
unfolding last_text
last_few c k l =
    let P : List ℕ → Type 0 = λ t. length t ≤ 16 in
    chosen P (eqb k.bid 0) [] (contract_token c k) (λ e. omega arith)
    (λ e.
    let d : length (doubling_text c k.doubling) ≤ 8 =
    chosen (λ (t : List ℕ). length t ≤ 8) (eqb k.doubling 0) [] (call_token c k.doubling) (λ t. omega arith) (λ t. token_few c k.doubling l.doubling_low) in
    rw length-append (omega (arith, token_few c k.bid l.bid_low)))

-- ---- the sections

-- Calls by their codes.
abbrev AllLow : List ℕ → Type 0
AllLow [] = Unit {0}
AllLow (k ∷ ks) = (k < 47) × AllLow ks

calls_low : (c : Conventions) (ps : List Pair) → AllLow (calls_from c ps)
calls_low c [] = tt
calls_low c (p ∷ ps) =
    chosen AllLow (is_pair Mb p && ltb (call_in c p.value) 47) _ _
    (λ e. (ltb-true _ _ (both (is_pair Mb p) (ltb (call_in c p.value) 47) e).1, calls_low c ps))
    (λ e. calls_low c ps)

before_few : (n : ℕ) → length (before_call n) ≤ 1
unfolding before_call
before_few n =
    let P : List ℕ → Type 0 = λ t. length t ≤ 1 in
    chosen P (eqb n 0) [] _ (λ e. omega arith) (λ e. chosen P (eqb (n % 4) 0) (10 ∷ []) (32 ∷ []) (λ e. omega arith) (λ e. omega arith))

tokens_few : (c : Conventions) (n : ℕ) (ks : List ℕ) → AllLow ks → length (tokens_text n (call_tokens c ks)) ≤ 1 + 9 * length ks
tokens_few c n [] l = chosen (λ (t : List ℕ). length t ≤ 1) (eqb n 0) [] (10 ∷ []) (λ e. omega arith) (λ e. omega arith)
tokens_few c n (k ∷ ks) l =
    simp length-append (omega (arith, before_few n, token_few c k l.0, tokens_few c (n + 1) ks l.1))

auction_few : (c : Conventions) (dealer : ℕ) (ks : List ℕ) → AllLow ks → length (cond (is_any ks) (lin_auction_text c dealer ks) []) ≤ 15 + 9 * length ks
unfolding lin_auction_text
auction_few c dealer [] l = omega arith
auction_few c dealer (k ∷ ks) l =
    let t = tokens_few c 0 (k ∷ ks) l in
    omega (
      arith,
      seat_few c dealer,
      t,
      length-append (seat_text c dealer) (ascii "\"]\n" ++ tokens_text 0 (call_tokens c (k ∷ ks))),
    )

word_few : (c : Conventions) (k : ℕ) → length (slot_word c k) ≤ 2
unfolding slot_word
word_few c k = chosen (λ (t : List ℕ). length t ≤ 2) (ltb k 52) (card_token c k) (ascii "-") (λ e. omega arith) (λ e. omega arith)

seat_word_few : (c : Conventions) (lead : ℕ) (t : LinTrick) (j : ℕ) → length (word_text c lead t j) ≤ 2
seat_word_few c lead t j = word_few c (slot_at t.slots (slot_of lead j t.leader))

trick_few : (c : Conventions) (lead : ℕ) (t : LinTrick) → length (trick_text c lead t) ≤ 12
unfolding trick_text
trick_few c lead t =
    simp length-append
    (omega (arith, seat_word_few c lead t 0, seat_word_few c lead t 1, seat_word_few c lead t 2, seat_word_few c lead t 3))

tricks_few : (c : Conventions) (lead trump : ℕ) (t : LinTrick) (ks : List ℕ) → length (trick_texts c lead trump t ks) ≤ 12 + 12 * length ks
unfolding last_line
tricks_few c lead trump t [] =
    chosen (λ (x : List ℕ). length x ≤ 12) (eqb t.count 0) [] (trick_text c lead t) (λ e. omega arith) (λ e. trick_few c lead t)
tricks_few c lead trump t (k ∷ ks) =
    chosen (λ (x : List ℕ). length x ≤ 12 + 12 * suc (length ks)) (eqb (t.count + 1) 4) _ _
    (λ e. rw length-append (omega (arith, trick_few c lead (taken t k), tricks_few c lead trump (next_trick trump (taken t k)) ks)))
    (λ e. omega (arith, tricks_few c lead trump (taken t k) ks))

played_few : (c : Conventions) (lead trump : ℕ) (ks : List ℕ) → length (played_text c lead trump ks) ≤ 23 + 12 * length ks
played_few c lead trump ks =
    omega (
      arith,
      seat_few c lead,
      tricks_few c lead trump (empty_trick lead) ks,
      length-append (seat_text c lead) (ascii "\"]\n" ++ trick_texts c lead trump (empty_trick lead) ks),
    )

play_few : (c : Conventions) (bid lead trump : ℕ) (ks : List ℕ)
    → length (cond (eqb bid 0) [] (cond (is_any ks) (played_text c lead trump ks) [])) ≤ 23 + 12 * length ks
play_few c bid lead trump ks =
    let P : List ℕ → Type 0 = λ t. length t ≤ 23 + 12 * length ks in
    chosen P (eqb bid 0) [] _ (λ e. omega arith)
    (λ e. chosen P (is_any ks) (played_text c lead trump ks) [] (λ t. played_few c lead trump ks) (λ t. omega arith))

-- ---- a board

head_few : (c : Conventions) (dealer v : ℕ) (h : Hands) → length (lin_head_text c dealer v h) ≤ 113 + length (deal_text c dealer h)
unfolding lin_head_text
head_few c dealer v h = simp length-append (omega (arith, seat_few c dealer, vulnerability_few v))

result_few : (c : Conventions) (declarer : ℕ) (k : Contract) → length (lin_result_text c declarer k) ≤ 57 + length (last_text c k)
unfolding lin_result_text
result_few c declarer k = simp length-append (omega (arith, seat_few c declarer))

-- A board's lines from those of its parts.
lines_few : (c : Conventions) (ps : List Pair)
    → length (lines_text (lin_lines c (board_of c ps)))
    ≤ 170 + length (deal_text c (board_of c ps).dealing.dealer (dealt_hands (board_of c ps).dealing))
    + length (last_text c (contract_of (board_of c ps)))
    + length (cond (is_any (board_of c ps).calls) (lin_auction_text c (board_of c ps).dealing.dealer (board_of c ps).calls) [])
    + length (cond (eqb (contract_of (board_of c ps)).bid 0) [] (cond (is_any (board_of c ps).cards) (played_text c (opening_leader (board_of c ps)) (trump_of (board_of c ps)) (board_of c ps).cards) []))
lines_few c ps =
    let b = board_of c ps in
    rw (lines_text_lem c b (dealer_low c ps) (vulnerability_low c ps))
    (simp length-append (omega (arith, head_few c b.dealing.dealer b.vulnerability (dealt_hands b.dealing), result_few c (declarer_in b) (contract_of b))))

-- A pair is a call, a card, or neither.
sections_few : (c : Conventions) (ps : List Pair) → length (calls_from c ps) + length (cards_played c ps) ≤ length ps
sections_few c [] = omega arith
sections_few c (p ∷ ps) =
    let r = sections_few c ps in
    by_cases (is_pair Mb p)
    (λ e.
    let f : is_pair Pc p ≡ false = rw (same_command p.command Mb e) in
    by_cases (ltb (call_in c p.value) 47) (λ t. rw (e, f, t) (omega arith)) (λ t. rw (e, f, t) (omega arith)))
    (λ e.
    by_cases (is_pair Pc p && ltb (card_in c (trimmed p.value)) 52) (λ t. rw (e, t) (omega arith)) (λ t. rw (e, t) (omega arith)))

-- A board's lines, and one byte more, by its pairs.
board_few : (c : Conventions) (ps : List Pair) → 1 + length (lines_text (lin_lines c (board_of c ps))) ≤ 450 + 12 * length ps
unfolding board_of contract_of
board_few c ps =
    let b = board_of c ps in
    let k = contract_from 0 no_contract (calls_from c ps) in
    let l = contract_keeps LowContract with_low 0 no_contract (calls_from c ps) (record { bid_low = omega arith; doubling_low = omega arith }) in
    omega (
      arith,
      lines_few c ps,
      deal_few c b.dealing.dealer (dealt_hands b.dealing),
      last_few c k l,
      auction_few c b.dealing.dealer b.calls (calls_low c ps),
      play_few c k.bid (opening_leader b) (trump_of b) b.cards,
      sections_few c ps,
    )

-- ---- bytes of the text

trimmed_few : (s : List ℕ) → length (trimmed s) ≤ length s
trimmed_few s = omega (arith, trim_length s)

-- A command that counts has two bytes.
command_short : (t : List ℕ) → length t < 2 → command_named t ≡ Other
command_short [] h = refl
command_short (b ∷ []) h = simp and-false
command_short (b ∷ d ∷ bs) h = absurd (omega arith)

command_long : (s : List ℕ) → eqb (place_of (command_of s)) 3 ≡ true → 2 ≤ length s
unfolding command_of
command_long s e =
    by_cases (ltb (length (trimmed s)) 2)
    (λ t. clash (rw (command_short (trimmed s) (ltb-true _ _ t)) at e))
    (λ t. omega (arith, ltb-false (length (trimmed s)) 2 t, trimmed_few s))

-- How many bytes pairs have at least: their commands and the bars behind these. Only md is told apart.
abbrev pair_weight : Pair → ℕ
pair_weight p = cond (is_pair Md p) 3 1

abbrev weight_of : List Pair → ℕ
weight_of [] = 0
weight_of (p ∷ ps) = pair_weight p + weight_of ps

weight_some : (p : Pair) → 1 ≤ pair_weight p
weight_some p = chosen (λ (n : ℕ). 1 ≤ n) (is_pair Md p) 3 1 (λ e. omega arith) (λ e. omega arith)

weight_long : (ps : List Pair) → length ps ≤ weight_of ps
weight_long [] = omega arith
weight_long (p ∷ ps) = omega (arith, weight_some p, weight_long ps)

weight_deal : (ps : List Pair) → has_pair Md ps ≡ true → 3 ≤ weight_of ps
weight_deal [] e = clash e
weight_deal (p ∷ ps) e =
    either (is_pair Md p) (has_pair Md ps) e (λ t. rw t (omega arith)) (λ t. omega (arith, weight_deal ps t))

-- Parts, each with its bar.
abbrev parts_size : List (List ℕ) → ℕ
parts_size [] = 0
parts_size (g ∷ gs) = length g + 1 + parts_size gs

parts_size_lem : (x : ℕ) (s : List ℕ) → parts_size (parts x s) ≡ length s + 1
parts_size_lem x [] = refl
parts_size_lem x (b ∷ bs) =
    chosen (λ (gs : List (List ℕ)). parts_size gs ≡ suc (length bs) + 1) (eqb b x) ([] ∷ parts x bs) (prepend b (parts x bs))
    (λ e. omega (arith, parts_size_lem x bs)) (λ e. more (parts x bs) (parts_size_lem x bs))
  where
    more : (gs : List (List ℕ)) → parts_size gs ≡ length bs + 1 → parts_size (prepend b gs) ≡ suc (length bs) + 1
    more [] h = omega arith
    more (g ∷ gs) h = omega arith

paired_few : (gs : List (List ℕ)) → weight_of (paired gs) ≤ parts_size gs - 1
paired_few [] = omega arith
paired_few (g ∷ []) = omega arith
paired_few (g ∷ v ∷ gs) =
    let w : pair_weight (record { command = command_of g; value = v }) ≤ length g + 1 =
    chosen (λ (n : ℕ). n ≤ length g + 1) (eqb (place_of (command_of g)) 3) 3 1 (λ e. omega (arith, command_long g e)) (λ e. omega arith) in
    omega (arith, w, paired_few gs)

pairs_few : (s : List ℕ) → weight_of (pairs_of s) ≤ length s
unfolding pairs_of
pairs_few s = omega (arith, paired_few (parts 124 s), parts_size_lem 124 s)

-- ---- pieces

abbrev pieces_weight : List (List Pair) → ℕ
pieces_weight [] = 0
pieces_weight (g ∷ gs) = weight_of g + pieces_weight gs

before_weight : (p : Pair) (gs : List (List Pair)) → pieces_weight (pair_before p gs) ≡ pair_weight p + pieces_weight gs
before_weight p [] = omega arith
before_weight p (g ∷ gs) = omega arith

split_weight : (ps : List Pair) → pieces_weight (split ps) ≡ weight_of ps
split_weight [] = refl
split_weight (p ∷ ps) =
    let r = split_weight ps in
    chosen (λ (gs : List (List Pair)). pieces_weight gs ≡ pair_weight p + weight_of ps) (opens ps && not (is_pair Heading p)) ((p ∷ []) ∷ split ps) (pair_before p (split ps))
    (λ e. omega arith) (λ e. omega (arith, before_weight p (split ps)))

-- The lines of boards, an empty line before each.
abbrev next_text : Conventions → List (List Pair) → List ℕ
next_text c gs = lin_next c (map (board_of c) gs)

next_size : (c : Conventions) (g : List Pair) (gs : List (List Pair))
    → length (next_text c (g ∷ gs)) ≡ 1 + length (lines_text (lin_lines c (board_of c g))) + length (next_text c gs)
next_size c g gs = omega (arith, length-append (lines_text (lin_lines c (board_of c g))) (next_text c gs))

-- Pieces with an md.
deals_most : (c : Conventions) (gs : List (List Pair)) → length (next_text c (with_deal gs)) ≤ 256 * pieces_weight gs
deals_most c [] = omega arith
deals_most c (g ∷ gs) =
    let r = deals_most c gs in
    by_cases (has_pair Md g)
    (λ e. rw e (omega (arith, next_size c g (with_deal gs), board_few c g, weight_long g, weight_deal g e)))
    (λ e. rw e (omega arith))

-- Lines.
abbrev lines_size : List (List ℕ) → ℕ
lines_size [] = 0
lines_size (l ∷ ls) = length l + lines_size ls

lines_size_lem : (s : List ℕ) → lines_size (lines s) ≤ length s
lines_size_lem [] = omega arith
lines_size_lem (b ∷ bs) =
    chosen (λ (ls : List (List ℕ)). lines_size ls ≤ suc (length bs)) (eqb b 10) ([] ∷ lines bs) (prepend b (lines bs))
    (λ e. omega (arith, lines_size_lem bs)) (λ e. more (lines bs) (lines_size_lem bs))
  where
    more : (ls : List (List ℕ)) → lines_size ls ≤ length bs → lines_size (prepend b ls) ≤ suc (length bs)
    more [] h = omega arith
    more (l ∷ ls) h = omega arith

-- A line of one byte has no pair that counts.
abbrev silent : LinBoard
silent = record { dealing = no_dealing; vulnerability = 0; calls = []; cards = [] }

silent_few : (c : Conventions) (ps : List Pair) → board_of c ps ≡ silent → 1 + length (lines_text (lin_lines c (board_of c ps))) ≤ 256
unfolding contract_of last_text deal_text hand_text
silent_few c ps e = let h = rw e at (lines_few c ps) in rw e (omega arith)

line_short : (c : Conventions) (b : ℕ) → board_of c (pairs_of (b ∷ [])) ≡ silent
unfolding board_of pairs_of command_of trimmed
line_short c b = by_cases (eqb b 124) (λ e. rw e) (λ e. rw e)

line_most : (c : Conventions) (l : List ℕ) → 0 < length l → 1 + length (lines_text (lin_lines c (board_of c (pairs_of l)))) ≤ 256 * length l
line_most c [] h = absurd (omega arith)
line_most c (b ∷ []) h = silent_few c (pairs_of (b ∷ [])) (line_short c b)
line_most c (b ∷ d ∷ bs) h = omega (arith, board_few c (pairs_of (b ∷ d ∷ bs)), weight_long (pairs_of (b ∷ d ∷ bs)), pairs_few (b ∷ d ∷ bs))

pieces_most : (c : Conventions) (ls : List (List ℕ)) → length (next_text c (line_pieces ls)) ≤ 256 * lines_size ls
pieces_most c [] = omega arith
pieces_most c (l ∷ ls) =
    let r = pieces_most c ls in
    by_cases (eqb (length (trimmed l)) 0)
    (λ e. rw e (omega arith))
    (λ e.
    let n : 0 < length (trimmed l) = some_left (length (trimmed l)) (eqb-false (length (trimmed l)) 0 e) in
    rw e (omega (arith, next_size c (pairs_of (trimmed l)) (line_pieces ls), line_most c (trimmed l) n, trimmed_few l)))
  where
    some_left : (n : ℕ) → (n ≡ 0 → ⊥) → 0 < n
    some_left zero h = absurd (h refl)
    some_left (suc n) h = omega arith

-- ---- the page

page_size : (c : Conventions) (bs : List LinBoard) → length (lin_page c bs) ≤ 20 + length (lin_next c bs)
unfolding built_in_header
page_size c [] = omega arith
page_size c (b ∷ bs) = simp length-append (omega arith)

-- THEOREM. The page of a text has at most 256 bytes for each byte of the text, and 20.
pub LinMost : (c : Conventions) (text : List ℕ) → length (lin_text c text) ≤ 20 + 256 * length text
unfolding lin_text lin_boards board_pieces
LinMost c text =
    let P : List (List Pair) → Type 0 = λ gs. length (lin_page c (map (board_of c) gs)) ≤ 20 + 256 * length text in
    chosen P (has_pair Qx (pairs_of text)) (with_deal (split (pairs_of text))) (line_pieces (lines text))
    (λ e.
    omega (
      arith,
      page_size c (map (board_of c) (with_deal (split (pairs_of text)))),
      deals_most c (split (pairs_of text)),
      split_weight (pairs_of text),
      pairs_few text,
    ))
    (λ e. omega (arith, page_size c (map (board_of c) (line_pieces (lines text))), pieces_most c (lines text), lines_size_lem text))

-- So a text that is not overlong has a page below 2 ^ 39.
pub lin_text_few : (c : Conventions) (text : List ℕ) → length text ≤ 16777215 → length (lin_text c text) ≤ 549755813888
lin_text_few c text h = omega (arith, LinMost c text)
