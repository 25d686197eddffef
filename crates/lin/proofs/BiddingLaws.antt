-- Laws of alerts and calls.
use Prim.Native.Nat.{ℕ}
use mathlib.Core.Path.{◌≡◌}
use mathlib.Core.Bool.{true, false, ◌&&◌}
use mathlib.Core.List.{List, [], ◌∷◌, ◌++◌}
use lib.Dec.{eqb, ltb}
use Rattle.tables.specs.declared.letters.Conventions.{Conventions}
use Rattle.lin.specs.declared.pairs.Command.TheVariants.{Mb}
use Rattle.lin.specs.declared.bidding.Contract.{Contract}
use Rattle.lin.specs.Pairs.{is_pair}
use Rattle.lin.specs.Bidding.{unalerted, call_in, calls_from, next_seat, with_call, contract_from}
use Rattle.lin.specs.BiddingSteps.{call_at}
use Rattle.tables.proofs.Laws.{by_cases}
use Rattle.lin.proofs.PairLaws.{Gives}

-- ---- alerts

pub alert_less : (l : List ℕ) (b : ℕ) → eqb b 33 ≡ true → unalerted (l ++ b ∷ []) ≡ unalerted l
alert_less [] b e = rw e
alert_less (x ∷ xs) b e = rw (alert_less xs b e)

pub alert_last : (l : List ℕ) (b : ℕ) → eqb b 33 ≡ false → unalerted (l ++ b ∷ []) ≡ l ++ b ∷ []
alert_last [] b e = rw e
alert_last (x ∷ []) b e = rw e
alert_last (x ∷ y ∷ ys) b e = rw (alert_last (y ∷ ys) b e)

-- ---- the calls

pub calls_given : (c : Conventions) → Gives (call_at c) (calls_from c)
unfolding call_at
calls_given c = record { first = λ p ps. by_cases (is_pair Mb p && ltb (call_in c p.value) 47) (λ t. rw t) (λ t. rw t) }

-- What each call keeps of a contract holds of the last.
pub contract_keeps : (P : Contract → Type 0) → ((seat : ℕ) (k : Contract) (code : ℕ) → P k → P (with_call seat k code)) → (seat : ℕ) (k : Contract) (codes : List ℕ) → P k
    → P (contract_from seat k codes)
contract_keeps P f seat k [] h = h
contract_keeps P f seat k (code ∷ codes) h = contract_keeps P f (next_seat seat) (with_call seat k code) codes (f seat k code h)
