-- A LIN board can be written: its contract is a bid, doubled or not, and its trump is read back from its text.
use Prim.Native.Nat.{ℕ, ◌+◌, ◌-◌, ◌/◌, ◌%◌, ◌<◌}
use mathlib.Core.Path.{◌≡◌, refl, sym, ap, ◌∙◌}
use mathlib.Core.Bool.{true, false, ◌||◌}
use mathlib.Core.List.{List, [], ◌∷◌, ◌++◌, map, append_assoc}
use native.Mathlib.Omega.{arith}
use lib.Dec.{ltb, eqb}
use lib.ListN.{length}
use borrow.Author.Tests.{eqb-true, eqb-false, ne_eqb, not-true}
use Rattle.tables.specs.declared.letters.Conventions.{Conventions}
use Rattle.tables.specs.Text.{ascii}
use Rattle.tables.specs.Letters.{Accepted, is_capital, capital, suit_letter, every}
use Rattle.tables.proofs.Laws.{by_cases, both, either}
use Rattle.tables.proofs.LetterLaws.{every_at}
use Rattle.tables.proofs.RowLaws.{every_append}
use Rattle.reader.specs.TagBytes.{good_value}
use Rattle.reader.specs.Words.{bid_token, call_token, is_doubling, trump_suit, contract_trump}
use Rattle.reader.specs.Names.{contract_name}
use Rattle.reader.specs.Boards.{is_kept_contract, contract_by}
use Rattle.reader.proofs.WordTokens.{contract_back, bid_written}
use Rattle.writer.specs.Tags.{WrittenTag, or_empty, early_extras, late_extras, head_tags, deal_tags, auction_tags, play_tags, written_tags}
use Rattle.lin.specs.declared.bidding.Contract.{Contract}
use Rattle.lin.specs.Bidding.{strain, doubling_text, contract_token}
use Rattle.lin.specs.LinBoards.{LinBoard, contract_of, plain_call, auction_of, play_of, has_bid, trump_of, contract_value, lin_plain, lin_play, lin_lines, opening_leader, lin_tricks}
use Rattle.demands.specs.PageBack.{all, good_if_there, good_call, calls_of, Writable, good_data, good_line}
use Rattle.demands.specs.Lin.{WellBoard}
use Rattle.demands.proofs.BoardWritable.{is_safe, safe_good, capital_safe, good_written, TagsWritable, BodyGood}
use Rattle.demands.proofs.LinContract.{FineContract, ContractFine}
use Rattle.demands.proofs.LinPlay.{tricks_good}

-- ---- the tags

-- The tags up to Result, and those of the sections.
abbrev pub head_of : Conventions → LinBoard → List WrittenTag
head_of c b = head_tags c (lin_plain c b) ++ deal_tags c (lin_plain c b)

abbrev pub sections_of : Conventions → LinBoard → List WrittenTag
sections_of c b = auction_tags c [] (auction_of b.dealing.dealer b.calls) ++ play_tags c (lin_play c b) (play_of b)

pub tags_are : (c : Conventions) (b : LinBoard) → written_tags c (lin_plain c b) (lin_play c b) ≡ head_of c b ++ sections_of c b
unfolding written_tags early_extras late_extras lin_plain
tags_are c b = sym (append_assoc (head_tags c (lin_plain c b)) (deal_tags c (lin_plain c b)) (sections_of c b))

-- ---- the contract

-- The text behind the bid.
doubling_cases : (P : List ℕ → Type 0) (c : Conventions) (d : ℕ) → (eqb d 0 || (eqb d 36 || eqb d 37)) ≡ true → P [] → P (ascii "X") → P (ascii "XX") → P (doubling_text c d)
unfolding call_token
doubling_cases P c d e x y z =
    either (eqb d 0) _ e
    (λ t. rw (eqb-true d 0 t) x)
    (λ u. either (eqb d 36) (eqb d 37) u (λ t. rw (eqb-true d 36 t) y) (λ t. rw (eqb-true d 37 t) z))

bid_token_lem : (c : Conventions) (k : ℕ) → 0 < k → k < 36 → call_token c k ≡ bid_token c (k - 1)
bid_token_lem c k h l = let e : k ≡ k - 1 + 1 = omega arith in ap (call_token c) e ∙ bid_written c (k - 1) (omega arith)

module _ (c : Conventions) (ok : Accepted c) where
  bid_safe : (n : ℕ) → n < 35 → every is_safe (bid_token c n) ≡ true
  bid_safe n h =
      rw (ne_eqb (49 + n / 5) 10 (λ e. omega arith), ne_eqb (49 + n / 5) 93 (λ e. omega arith))
      (by_cases (eqb (n % 5) 4)
      (λ t. rw t)
      (λ t. rw (t, capital_safe (suit_letter c (n % 5)) (every_at is_capital c.letters (7 - n % 5) ok.capitals (rw ok.thirteen (omega arith))))))

  module _ (k : Contract) (h : FineContract k) (some_bid : 0 < k.bid) where
    text_good : good_value (contract_token c k) ≡ true
    text_good =
        let d = doubling_text c k.doubling in
        rw (bid_token_lem c k.bid some_bid h.bid_low)
        (safe_good (bid_token c (k.bid - 1) ++ d)
        (every_append is_safe (bid_token c (k.bid - 1)) d (bid_safe (k.bid - 1) (omega (arith, h.bid_low))) (doubling_cases (λ x. every is_safe x ≡ true) c k.doubling h.doubling_is refl refl refl)))

    text_kept : is_kept_contract (contract_token c k) ≡ true
    text_kept =
        let t = bid_token c (k.bid - 1) ++ doubling_text c k.doubling in
        let l : eqb (length t) 0 ≡ false = ne_eqb (length t) 0 (λ e. omega arith) in
        rw (bid_token_lem c k.bid some_bid h.bid_low, l, ne_eqb 63 (49 + (k.bid - 1) / 5) (λ e. omega (arith, h.bid_low)))

    text_trump : contract_trump c (contract_token c k) ≡ trump_suit (strain k.bid)
    unfolding is_doubling capital
    text_trump =
        let d = doubling_text c k.doubling in
        rw (bid_token_lem c k.bid some_bid h.bid_low)
        (contract_back c ok (k.bid - 1) d (omega (arith, h.bid_low)) (doubling_cases (λ x. is_doubling x ≡ true) c k.doubling h.doubling_is refl refl refl))

  bid_there : (b : LinBoard) → has_bid b ≡ true → 0 < (contract_of b).bid
  bid_there b e = let n = eqb-false (contract_of b).bid 0 (not-true (eqb (contract_of b).bid 0) e) in omega (arith, n)

  value_good : (b : LinBoard) → good_if_there (contract_value c b) ≡ true
  value_good b = by_cases (has_bid b) (λ e. rw e (text_good (contract_of b) (ContractFine b) (bid_there b e))) (λ e. rw e)

  -- THEOREM. With a bid, the trump of the Contract tag's value is the board's.
  pub TrumpBack : (b : LinBoard) → has_bid b ≡ true → contract_by c contract_name (or_empty (contract_value c b)) 4 ≡ trump_of b
  unfolding contract_by
  TrumpBack b e =
      let h = bid_there b e in
      rw (e, text_kept (contract_of b) (ContractFine b) h) (text_trump (contract_of b) (ContractFine b) h)

  calls_writable : (ks : List ℕ) → every (λ k. ltb k 47) ks ≡ true → all good_call (map plain_call ks) ≡ true
  calls_writable [] e = refl
  calls_writable (k ∷ ks) e = let h = both (ltb k 47) (every (λ j. ltb j 47) ks) e in rw (h.0, calls_writable ks h.1)

  auction_writable : (d : ℕ) (ks : List ℕ) → every (λ k. ltb k 47) ks ≡ true → all good_call (calls_of (auction_of d ks)) ≡ true
  auction_writable d [] e = refl
  auction_writable d (k ∷ ks) e = calls_writable (k ∷ ks) e

  -- THEOREM. A LIN board can be written.
  pub LinWritable : (b : LinBoard) → WellBoard b → Writable (lin_plain c b)
  unfolding lin_plain
  LinWritable b w =
      record {
        tags_good = refl;
        values_good = rw (value_good b);
        directives_good = refl;
        directives_trimmed = refl;
        blocks_good = refl;
        calls_good = auction_writable b.dealing.dealer b.calls w.calls_low;
      }

  play_good : (b : LinBoard) → all good_data (lin_play c b) ≡ true
  unfolding lin_play
  play_good b = tricks_good c ok (opening_leader b) (lin_tricks b)

  -- THEOREM. So can its tags, with the data lines of its play.
  pub LinTagsGood : (b : LinBoard) → WellBoard b → all good_written (written_tags c (lin_plain c b) (lin_play c b)) ≡ true
  LinTagsGood b w = TagsWritable c ok (lin_plain c b) (lin_play c b) (LinWritable b w) (play_good b)

  -- THEOREM. So can all its lines.
  pub LinLinesGood : (b : LinBoard) → WellBoard b → all good_line (lin_lines c b) ≡ true
  unfolding lin_lines
  LinLinesGood b w = BodyGood c ok (lin_plain c b) (lin_play c b) (LinWritable b w) (play_good b)
