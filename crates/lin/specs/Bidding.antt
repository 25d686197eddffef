-- The vulnerability (`sv`), the calls (`mb`), the contract and its declarer.
use Rattle.std.specs.Prelude.{ℕ, ◌+◌, ◌-◌, ◌%◌, Bool, cond, ◌&&◌, ◌||◌, List, [], ◌∷◌, ◌++◌, eqb, ltb}
use Rattle.tables.specs.declared.letters.Conventions.{Conventions}
use Rattle.tables.specs.Text.{ascii, trimmed}
use Rattle.reader.specs.Words.{same_word, call_of, call_token}
use Rattle.lin.specs.declared.bidding.Contract.{Contract}
use Rattle.lin.specs.declared.pairs.Command.TheVariants.{Sv, Mb}
use Rattle.lin.specs.Pairs.{Pair, is_pair}

-- ---- vulnerability

-- n or ns; e or ew; b, both or all; anything else is None. In either case.
unfoldable pub vulnerability_in : List ℕ → ℕ
vulnerability_in t =
    cond (same_word (ascii "N") t || same_word (ascii "NS") t) 1
    (cond (same_word (ascii "E") t || same_word (ascii "EW") t) 2
    (cond (same_word (ascii "B") t || (same_word (ascii "BOTH") t || same_word (ascii "ALL") t)) 3 0))

-- The last sv, trimmed, counts; None (0) without one.
abbrev pub vulnerability_from : ℕ → List Pair → ℕ
vulnerability_from v [] = v
vulnerability_from v (p ∷ ps) = vulnerability_from (cond (is_pair Sv p) (vulnerability_in (trimmed p.value)) v) ps

-- ---- calls

-- A text less all `!` (33) at its end, which mark an alert.
abbrev pub keep_alert : ℕ → List ℕ → List ℕ
keep_alert b [] = cond (eqb b 33) [] (b ∷ [])
keep_alert b (d ∷ ds) = b ∷ d ∷ ds

abbrev pub unalerted : List ℕ → List ℕ
unalerted [] = []
unalerted (b ∷ bs) = keep_alert b (unalerted bs)

-- D is X (36) and R is XX (37), in either case; else the calls of PBN. 47 where it is no call. Not trimmed.
unfoldable pub call_named : Conventions → List ℕ → ℕ
call_named c t = cond (same_word (ascii "D") t) 36 (cond (same_word (ascii "R") t) 37 (call_of c t))

unfoldable pub call_in : Conventions → List ℕ → ℕ
call_in c v = call_named c (unalerted v)

-- The codes of the calls; a value that is no call is dropped and takes no seat.
abbrev pub calls_from : Conventions → List Pair → List ℕ
calls_from c [] = []
calls_from c (p ∷ ps) = cond (is_pair Mb p && ltb (call_in c p.value) 47) (call_in c p.value ∷ calls_from c ps) (calls_from c ps)

-- ---- the contract

-- The codes 1 to 35 are bids, from 1C to 7NT; their strains are C D H S NT from 0.
abbrev pub is_bid : ℕ → Bool
is_bid k = ltb 0 k && ltb k 36

abbrev pub strain : ℕ → ℕ
strain k = (k - 1) % 5

abbrev pub next_seat : ℕ → ℕ
next_seat s = (s + 1) % 4

-- A contract, as the code keeps it: the last bid, 0 where there is none; the seat that made it, counted clockwise from the dealer, 0 to 3;
-- the last X (36) or XX (37) behind it, 0 where there is none.
abbrev pub no_contract : Contract
no_contract = record { bid = 0; bidder = 0; doubling = 0 }

-- One more call, by a seat. Whether it is legal is not looked at.
unfoldable pub with_call : ℕ → Contract → ℕ → Contract
with_call seat k code =
    cond (is_bid code) (record { bid = code; bidder = seat; doubling = 0 })
    (cond ((eqb code 36 || eqb code 37) && ltb 0 k.bid) (record { bid = k.bid; bidder = k.bidder; doubling = code }) k)

-- The contract of calls, the first by a seat.
abbrev pub contract_from : ℕ → Contract → List ℕ → Contract
contract_from seat k [] = k
contract_from seat k (code ∷ codes) = contract_from (next_seat seat) (with_call seat k code) codes

-- Two seats of one side.
abbrev pub is_of_side : ℕ → ℕ → Bool
is_of_side s t = eqb (s % 2) (t % 2)

-- A bid of the contract's strain by its side.
unfoldable pub names : Contract → ℕ → ℕ → Bool
names k seat code = is_bid code && (eqb (strain code) (strain k.bid) && is_of_side seat k.bidder)

-- The first of the last bid's side to name its strain.
abbrev pub first_to_name : Contract → ℕ → List ℕ → ℕ
first_to_name k seat [] = 4
first_to_name k seat (code ∷ codes) = cond (names k seat code) seat (first_to_name k (next_seat seat) codes)

-- That caller is the declarer, as a seat: N E S W are 0 to 3; 4 without a bid.
unfoldable pub declarer_of : ℕ → Contract → List ℕ → ℕ
declarer_of dealer k codes = cond (eqb k.bid 0) 4 ((dealer + first_to_name k 0 codes) % 4)

-- As written: the bid, then X or XX.
abbrev pub doubling_text : Conventions → ℕ → List ℕ
doubling_text c d = cond (eqb d 0) [] (call_token c d)

abbrev pub contract_token : Conventions → Contract → List ℕ
contract_token c k = call_token c k.bid ++ doubling_text c k.doubling
