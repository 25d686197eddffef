-- How the code takes a call, and what it puts of a contract.
use Rattle.std.specs.Prelude.{ℕ, cond, ◌&&◌, Option, Some, None, List, [], eqb, ltb}
use Rattle.tables.specs.declared.letters.Conventions.{Conventions}
use Rattle.lin.specs.declared.bidding.Contract.{Contract}
use Rattle.lin.specs.declared.pairs.Command.TheVariants.{Mb}
use Rattle.lin.specs.Pairs.{Pair, is_pair}
use Rattle.lin.specs.Bidding.{call_in, contract_token}

-- The value of the Contract tag: nothing without a bid.
unfoldable pub last_text : Conventions → Contract → List ℕ
last_text c k = cond (eqb k.bid 0) [] (contract_token c k)

-- The call of a pair, where it is one.
unfoldable pub call_at : Conventions → Pair → Option ℕ
call_at c p = cond (is_pair Mb p && ltb (call_in c p.value) 47) (Some (call_in c p.value)) None
