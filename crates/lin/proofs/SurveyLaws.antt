-- What the walk over a board's pairs finds.
use Prim.Native.Nat.{ℕ, ◌<◌}
use mathlib.Core.Path.{◌≡◌, refl, ap, ◌∙◌}
use mathlib.Core.Bool.{Bool, true, false, cond, ◌&&◌, ◌||◌}
use mathlib.Core.List.{List, [], ◌∷◌}
use native.Mathlib.Omega.{arith}
use lib.Dec.{ltb}
use borrow.Author.Tests.{ltb-true}
use Rattle.tables.specs.declared.letters.Conventions.{Conventions}
use Rattle.tables.specs.Text.{ascii, trimmed, single}
use Rattle.tables.proofs.Laws.{by_cases}
use Rattle.reader.specs.Words.{same_word}
use Rattle.reader.proofs.Counts.{chosen}
use Rattle.lin.specs.declared.survey.Survey.{Survey}
use Rattle.lin.specs.declared.pairs.Command.TheVariants.{Md, Sv, Mb, Pc}
use Rattle.lin.specs.Pairs.{Pair, is_pair}
use Rattle.lin.specs.Dealing.{Dealing, no_dealing, dealer_of, dealing_in, dealing_from}
use Rattle.lin.specs.DealingSteps.{told, told_in}
use Rattle.lin.specs.declared.bidding.Contract.{Contract}
use Rattle.lin.specs.Bidding.{vulnerability_in, vulnerability_from, call_in, calls_from, next_seat, no_contract, with_call, contract_from}
use Rattle.lin.specs.Playing.{card_in, cards_played}
use Rattle.lin.specs.SurveySteps.{no_survey, survey_call, surveyed, survey_from}
use Rattle.lin.specs.LinBoards.{board_of}
use Rattle.lin.specs.PieceSteps.{is_any}
use Rattle.lin.proofs.BoardTextLaws.{SurveyIs}
use Rattle.lin.proofs.PairLaws.{same_command}

-- ---- a pair

-- A case for each command that the survey looks at, and one for the others.
commands : {P : Type 0} (p : Pair)
    → (is_pair Md p ≡ true → is_pair Sv p ≡ false → is_pair Mb p ≡ false → is_pair Pc p ≡ false → P)
    → (is_pair Md p ≡ false → is_pair Sv p ≡ true → is_pair Mb p ≡ false → is_pair Pc p ≡ false → P)
    → (is_pair Md p ≡ false → is_pair Sv p ≡ false → is_pair Mb p ≡ true → is_pair Pc p ≡ false → P)
    → (is_pair Md p ≡ false → is_pair Sv p ≡ false → is_pair Mb p ≡ false → is_pair Pc p ≡ true → P)
    → (is_pair Md p ≡ false → is_pair Sv p ≡ false → is_pair Mb p ≡ false → is_pair Pc p ≡ false → P)
    → P
commands p f₁ f₂ f₃ f₄ f₅ =
    by_cases (is_pair Md p) (λ e. let k = same_command p.command Md e in f₁ e (rw k) (rw k) (rw k))
    (λ e₁.
    by_cases (is_pair Sv p) (λ e. let k = same_command p.command Sv e in f₂ e₁ e (rw k) (rw k))
    (λ e₂.
    by_cases (is_pair Mb p) (λ e. let k = same_command p.command Mb e in f₃ e₁ e₂ e (rw k))
    (λ e₃. by_cases (is_pair Pc p) (λ e. f₄ e₁ e₂ e₃ e) (λ e. f₅ e₁ e₂ e₃ e))))

or_none_lem : (b : Bool) → b ≡ (b || false)
or_none_lem true = refl
or_none_lem false = refl

module _ (c : Conventions) (s : Survey) (p : Pair) where
  deal_step : (surveyed c s p).deal ≡ cond (is_pair Md p) (told_in c s.deal (trimmed p.value)) s.deal
  unfolding surveyed survey_call
  deal_step =
      commands p (λ a b d e. rw a) (λ a b d e. rw (a, b))
      (λ a b d e. rw (a, b, d) (by_cases (ltb (call_in c p.value) 47) (λ t. rw t) (λ t. rw t)))
      (λ a b d e. rw (a, b, d, e)) (λ a b d e. rw (a, b, d, e))

  vulnerability_step : (surveyed c s p).vulnerability ≡ cond (is_pair Sv p) (vulnerability_in (trimmed p.value)) s.vulnerability
  unfolding surveyed survey_call
  vulnerability_step =
      commands p (λ a b d e. rw (a, b)) (λ a b d e. rw (a, b))
      (λ a b d e. rw (a, b, d) (by_cases (ltb (call_in c p.value) 47) (λ t. rw t) (λ t. rw t)))
      (λ a b d e. rw (a, b, d, e)) (λ a b d e. rw (a, b, d, e))

  called_step : (surveyed c s p).called ≡ cond (is_pair Mb p && ltb (call_in c p.value) 47) true s.called
  unfolding surveyed survey_call
  called_step =
      commands p (λ a b d e. rw (a, d)) (λ a b d e. rw (a, b, d))
      (λ a b d e. rw (a, b, d) (by_cases (ltb (call_in c p.value) 47) (λ t. rw t) (λ t. rw t)))
      (λ a b d e. rw (a, b, d, e)) (λ a b d e. rw (a, b, d, e))

  seat_step : (surveyed c s p).seat ≡ cond (is_pair Mb p && ltb (call_in c p.value) 47) (next_seat s.seat) s.seat
  unfolding surveyed survey_call
  seat_step =
      commands p (λ a b d e. rw (a, d)) (λ a b d e. rw (a, b, d))
      (λ a b d e. rw (a, b, d) (by_cases (ltb (call_in c p.value) 47) (λ t. rw t) (λ t. rw t)))
      (λ a b d e. rw (a, b, d, e)) (λ a b d e. rw (a, b, d, e))

  contract_step : (surveyed c s p).contract ≡ cond (is_pair Mb p && ltb (call_in c p.value) 47) (with_call s.seat s.contract (call_in c p.value)) s.contract
  unfolding surveyed survey_call
  contract_step =
      commands p (λ a b d e. rw (a, d)) (λ a b d e. rw (a, b, d))
      (λ a b d e. rw (a, b, d) (by_cases (ltb (call_in c p.value) 47) (λ t. rw t) (λ t. rw t)))
      (λ a b d e. rw (a, b, d, e)) (λ a b d e. rw (a, b, d, e))

  played_step : (surveyed c s p).played ≡ (s.played || (is_pair Pc p && ltb (card_in c (trimmed p.value)) 52))
  unfolding surveyed survey_call
  played_step =
      commands p (λ a b d e. rw (a, e) (or_none_lem s.played)) (λ a b d e. rw (a, b, e) (or_none_lem s.played))
      (λ a b d e. rw (a, b, d, e) (by_cases (ltb (call_in c p.value) 47) (λ t. rw t (or_none_lem s.played)) (λ t. rw t (or_none_lem s.played))))
      (λ a b d e. rw (a, b, d, e)) (λ a b d e. rw (a, b, d, e) (or_none_lem s.played))

-- ---- all pairs, from any survey

vulnerability_from_lem : (c : Conventions) (s : Survey) (ps : List Pair) → (survey_from c s ps).vulnerability ≡ vulnerability_from s.vulnerability ps
vulnerability_from_lem c s [] = refl
vulnerability_from_lem c s (p ∷ ps) =
    vulnerability_from_lem c (surveyed c s p) ps ∙ ap (λ (v : ℕ). vulnerability_from v ps) (vulnerability_step c s p)

called_from : (c : Conventions) (s : Survey) (ps : List Pair) → (survey_from c s ps).called ≡ (s.called || is_any (calls_from c ps))
called_from c s [] = or_none_lem s.called
called_from c s (p ∷ ps) =
    called_from c (surveyed c s p) ps
    ∙ (ap (λ (b : Bool). b || is_any (calls_from c ps)) (called_step c s p)
    ∙ more (is_pair Mb p && ltb (call_in c p.value) 47) s.called (call_in c p.value) (calls_from c ps))
  where
    more : (b d : Bool) (k : ℕ) (ks : List ℕ) → (cond b true d || is_any ks) ≡ (d || is_any (cond b (k ∷ ks) ks))
    more true true k ks = refl
    more true false k ks = refl
    more false d k ks = refl

contract_came_from : (c : Conventions) (s : Survey) (k : Contract) (ps : List Pair) → s.contract ≡ k
    → (survey_from c s ps).contract ≡ contract_from s.seat k (calls_from c ps)
contract_came_from c s k [] e = e
contract_came_from c s k (p ∷ ps) e =
    by_cases (is_pair Mb p && ltb (call_in c p.value) 47)
    (λ t.
    contract_came_from c (surveyed c s p) (with_call s.seat k (call_in c p.value)) ps
    (contract_step c s p ∙ rw (t, e))
    ∙ rw t (ap (λ (n : ℕ). contract_from n (with_call s.seat k (call_in c p.value)) (calls_from c ps)) (seat_step c s p ∙ rw t)))
    (λ t.
    contract_came_from c (surveyed c s p) k ps (contract_step c s p ∙ rw t e)
    ∙ rw t (ap (λ (n : ℕ). contract_from n k (calls_from c ps)) (seat_step c s p ∙ rw t)))

played_from : (c : Conventions) (s : Survey) (ps : List Pair) → (survey_from c s ps).played ≡ (s.played || is_any (cards_played c ps))
played_from c s [] = or_none_lem s.played
played_from c s (p ∷ ps) =
    played_from c (surveyed c s p) ps
    ∙ (ap (λ (b : Bool). b || is_any (cards_played c ps)) (played_step c s p)
    ∙ more (is_pair Pc p && ltb (card_in c (trimmed p.value)) 52) s.played (card_in c (trimmed p.value)) (cards_played c ps))
  where
    more : (b d : Bool) (k : ℕ) (ks : List ℕ) → ((d || b) || is_any ks) ≡ (d || is_any (cond b (k ∷ ks) ks))
    more true true k ks = refl
    more true false k ks = refl
    more false true k ks = refl
    more false false k ks = refl

module _ (c : Conventions) (told_in_lem : (d : Dealing) (v : List ℕ) → told_in c (told d) v ≡ told (dealing_in c d v)) where
  deal_from : (s : Survey) (d : Dealing) (ps : List Pair) → s.deal ≡ told d → (survey_from c s ps).deal ≡ told (dealing_from c d ps)
  deal_from s d [] e = e
  deal_from s d (p ∷ ps) e =
      deal_from (surveyed c s p) (cond (is_pair Md p) (dealing_in c d (trimmed p.value)) d) ps
      (deal_step c s p ∙ by_cases (is_pair Md p) (λ t. rw (t, e, told_in_lem d (trimmed p.value))) (λ t. rw t e))

  -- THEOREM. What the survey of a board's pairs is.
  pub survey_is : (ps : List Pair) → SurveyIs c ps (survey_from c no_survey ps)
  survey_is ps =
      record {
        deal_is = deal_from no_survey no_dealing ps refl;
        vulnerability_is = vulnerability_from_lem c no_survey ps;
        called_is = called_from c no_survey ps;
        contract_is = contract_came_from c no_survey no_contract ps refl;
        played_is = played_from c no_survey ps;
      }

-- ---- seats and sides

dealing_low : (c : Conventions) (d : Dealing) (v : List ℕ) → d.dealer < 4 → (dealing_in c d v).dealer < 4
dealing_low c d [] h = h
dealing_low c d (b ∷ bs) h = chosen (λ (x : Dealing). x.dealer < 4) (ltb (dealer_of (single b bs)) 4) _ _ (λ e. ltb-true _ _ e) (λ e. h)

dealer_from : (c : Conventions) (d : Dealing) (ps : List Pair) → d.dealer < 4 → (dealing_from c d ps).dealer < 4
dealer_from c d [] h = h
dealer_from c d (p ∷ ps) h =
    dealer_from c (cond (is_pair Md p) (dealing_in c d (trimmed p.value)) d) ps
    (chosen (λ (x : Dealing). x.dealer < 4) (is_pair Md p) _ _ (λ e. dealing_low c d (trimmed p.value) h) (λ e. h))

sides_low : (t : List ℕ) → vulnerability_in t < 4
unfolding vulnerability_in
sides_low t =
    let P : ℕ → Type 0 = λ k. k < 4 in
    chosen P (same_word (ascii "N") t || same_word (ascii "NS") t) 1 _ (λ e. omega arith)
    (λ e.
    chosen P (same_word (ascii "E") t || same_word (ascii "EW") t) 2 _ (λ e. omega arith)
    (λ e. chosen P (same_word (ascii "B") t || (same_word (ascii "BOTH") t || same_word (ascii "ALL") t)) 3 0 (λ e. omega arith) (λ e. omega arith)))

sides_from : (v : ℕ) (ps : List Pair) → v < 4 → vulnerability_from v ps < 4
sides_from v [] h = h
sides_from v (p ∷ ps) h =
    sides_from (cond (is_pair Sv p) (vulnerability_in (trimmed p.value)) v) ps
    (chosen (λ (k : ℕ). k < 4) (is_pair Sv p) _ _ (λ e. sides_low (trimmed p.value)) (λ e. h))

-- Every board has a dealer and a vulnerability.
pub dealer_low : (c : Conventions) (ps : List Pair) → (board_of c ps).dealing.dealer < 4
unfolding board_of
dealer_low c ps = dealer_from c no_dealing ps (omega arith)

pub vulnerability_low : (c : Conventions) (ps : List Pair) → (board_of c ps).vulnerability < 4
unfolding board_of
vulnerability_low c ps = sides_from 0 ps (omega arith)
