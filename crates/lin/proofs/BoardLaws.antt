-- Laws of a board's calls on the page.
use Prim.Native.Nat.{ℕ, ◌+◌, ◌%◌}
use mathlib.Core.Path.{◌≡◌, sym, ap}
use mathlib.Core.Bool.{cond}
use mathlib.Core.List.{List, [], ◌∷◌, ◌++◌, append_assoc}
use native.Mathlib.Omega.{arith}
use lib.Dec.{eqb, ltb}
use borrow.Author.Tests.{ltb-false}
use Rattle.tables.specs.declared.letters.Conventions.{Conventions}
use Rattle.tables.proofs.Laws.{by_cases}
use Rattle.reader.specs.Words.{call_token, trump_suit}
use Rattle.writer.specs.Items.{before_call, tokens_text}
use Rattle.lin.specs.Pairs.{Pair}
use Rattle.lin.specs.Bidding.{calls_from}
use Rattle.lin.specs.BoardSteps.{call_tokens}

-- A strain of five as a suit: notrump (4) is none.
pub trump_is : (n : ℕ) → n % 5 ≡ trump_suit (n % 5)
trump_is n = by_cases (ltb (n % 5) 4) (λ e. rw e) (λ e. rw e (omega (arith, ltb-false (n % 5) 4 e)))

-- A call more on the page.
pub tokens_turn : (c : Conventions) (n code : ℕ) (ks ls : List ℕ) → ks ≡ code ∷ ls
    → tokens_text n (call_tokens c ks) ≡ (before_call n ++ call_token c code) ++ tokens_text (n + 1) (call_tokens c ls)
tokens_turn c n code ks ls e = rw e (sym (append_assoc (before_call n) (call_token c code) (tokens_text (n + 1) (call_tokens c ls))))

-- No call more, and none at all.
pub tokens_same : (c : Conventions) (n : ℕ) (ks ls : List ℕ) → ks ≡ ls → tokens_text n (call_tokens c ks) ≡ tokens_text n (call_tokens c ls)
tokens_same c n ks ls e = ap (λ (xs : List ℕ). tokens_text n (call_tokens c xs)) e

pub tokens_end : (c : Conventions) (n : ℕ) (ps : List Pair) → ps ≡ [] → tokens_text n (call_tokens c (calls_from c ps)) ≡ cond (eqb n 0) [] (10 ∷ [])
tokens_end c n ps e = rw e
