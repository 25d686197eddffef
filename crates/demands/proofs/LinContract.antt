-- The contract and the declarer of a LIN board.
use Prim.Native.Nat.{ℕ, ◌%◌, ◌<◌}
use mathlib.Core.Path.{◌≡◌, refl, sym, ◌∙◌}
use mathlib.Core.Bool.{Bool, true, false, ◌&&◌, ◌||◌}
use mathlib.Core.List.{List, [], ◌∷◌}
use native.Mathlib.Omega.{arith}
use lib.Dec.{eqb, ltb}
use borrow.Author.Tests.{ltb-true, eq-eqb, not-true}
use Rattle.lin.proofs.BiddingLaws.{contract_keeps}
use Rattle.tables.proofs.Laws.{by_cases, both, either, neither, clash}
use Rattle.lin.specs.declared.bidding.Contract.{Contract}
use Rattle.lin.specs.Bidding.{is_bid, no_contract, with_call, contract_from, strain, next_seat, names, first_to_name, declarer_of}
use Rattle.lin.specs.LinBoards.{LinBoard, contract_of, declarer_in, has_bid}
use Rattle.demands.proofs.LineBack.{or_true}

-- ---- the contract

-- No bid or a bid, and behind it nothing, X or XX.
pub record FineContract (k : Contract) : Type 0 where
  pub bid_low : k.bid < 36
  pub doubling_is : (eqb k.doubling 0 || (eqb k.doubling 36 || eqb k.doubling 37)) ≡ true

call_fine : (seat : ℕ) (k : Contract) (code : ℕ) → FineContract k → FineContract (with_call seat k code)
unfolding with_call
call_fine seat k code h =
    by_cases (is_bid code)
    (λ e. rw e (record { bid_low = ltb-true code 36 (both (ltb 0 code) (ltb code 36) e).1; doubling_is = refl }))
    (λ e.
    by_cases ((eqb code 36 || eqb code 37) && ltb 0 k.bid)
    (λ f. rw (e, f) (record { bid_low = h.bid_low; doubling_is = rw (both (eqb code 36 || eqb code 37) (ltb 0 k.bid) f).0 (or_true (eqb code 0)) }))
    (λ f. rw (e, f) h))

-- THEOREM.
pub ContractFine : (b : LinBoard) → FineContract (contract_of b)
unfolding contract_of
ContractFine b = contract_keeps FineContract call_fine 0 no_contract b.calls (record { bid_low = omega arith; doubling_is = refl })

-- ---- the declarer

-- THEOREM. The declarer is a seat where there is a bid, and 4 where there is none.
pub DeclarerSeat : (b : LinBoard) → has_bid b ≡ true → declarer_in b < 4
unfolding declarer_in declarer_of
DeclarerSeat b e = rw (not-true (eqb (contract_of b).bid 0) e) (omega arith)

pub NoDeclarer : (b : LinBoard) → has_bid b ≡ false → declarer_in b ≡ 4
unfolding declarer_in declarer_of
NoDeclarer b e = by_cases (eqb (contract_of b).bid 0) (λ t. rw t) (λ t. clash (sym (rw t at e)))

-- One of the calls is a bid.
abbrev any_bid : List ℕ → Bool
any_bid [] = false
any_bid (code ∷ codes) = is_bid code || any_bid codes

-- Without one the last bid stays, and who made it.
record SameBid (k l : Contract) : Type 0 where
  same_bid : l.bid ≡ k.bid
  same_bidder : l.bidder ≡ k.bidder

call_same : (seat : ℕ) (k : Contract) (code : ℕ) → is_bid code ≡ false → SameBid k (with_call seat k code)
unfolding with_call
call_same seat k code e =
    rw e
    (by_cases ((eqb code 36 || eqb code 37) && ltb 0 k.bid)
    (λ f. rw f (record { same_bid = refl; same_bidder = refl }))
    (λ f. rw f (record { same_bid = refl; same_bidder = refl })))

calls_same : (seat : ℕ) (k : Contract) (codes : List ℕ) → any_bid codes ≡ false → SameBid k (contract_from seat k codes)
calls_same seat k [] e = record { same_bid = refl; same_bidder = refl }
calls_same seat k (code ∷ codes) e =
    let h = neither (is_bid code) (any_bid codes) e in
    let a = call_same seat k code h.0 in
    let b = calls_same (next_seat seat) (with_call seat k code) codes h.1 in
    record { same_bid = b.same_bid ∙ a.same_bid; same_bidder = b.same_bidder ∙ a.same_bidder }

-- The last bid names its strain itself.
last_names : (seat : ℕ) (k : Contract) (code : ℕ) (codes : List ℕ) → is_bid code ≡ true → any_bid codes ≡ false
    → names (contract_from (next_seat seat) (with_call seat k code) codes) seat code ≡ true
unfolding names with_call
last_names seat k code codes e n =
    let s = calls_same (next_seat seat) (record { bid = code; bidder = seat; doubling = 0 }) codes n in
    rw (e, s.same_bid, s.same_bidder, eq-eqb (strain code) (strain code) refl) (eq-eqb (seat % 2) (seat % 2) refl)

first_named : (seat : ℕ) (k : Contract) (codes : List ℕ) → seat < 4 → any_bid codes ≡ true → first_to_name (contract_from seat k codes) seat codes < 4
first_named seat k [] h e = clash e
first_named seat k (code ∷ codes) h e =
    let l = contract_from (next_seat seat) (with_call seat k code) codes in
    by_cases (names l seat code)
    (λ t. rw t h)
    (λ t.
    rw t
    (by_cases (any_bid codes)
    (λ u. first_named (next_seat seat) (with_call seat k code) codes (omega arith) u)
    (λ u. clash (sym t ∙ last_names seat k code codes (either (is_bid code) (any_bid codes) e (λ b. b) (λ b. clash (sym u ∙ b))) u))))

-- THEOREM. Where there is a bid, one of the last bid's side names its strain: the last bidder does, or a seat before.
pub FirstNamed : (b : LinBoard) → has_bid b ≡ true → first_to_name (contract_of b) 0 b.calls < 4
unfolding contract_of
FirstNamed b e =
    by_cases (any_bid b.calls)
    (λ t. first_named 0 no_contract b.calls (omega arith) t)
    (λ t. clash (rw (calls_same 0 no_contract b.calls t).same_bid at e))
