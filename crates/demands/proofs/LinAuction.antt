-- The calls of a LIN board, written four a line, are read back as they were, without annotations.
use Rattle.std.specs.Prelude.{Option}
use Prim.Native.Nat.{ℕ, suc, ◌+◌, ◌-◌, ◌<◌}
use mathlib.Core.Path.{◌≡◌, refl, ap, ◌∙◌}
use mathlib.Core.Bool.{Bool, true, false, cond}
use mathlib.Core.List.{List, [], ◌∷◌, map, head-eq_of_cons-eq, tail-eq_of_cons-eq}
use native.Mathlib.Omega.{arith}
use lib.Dec.{ltb, eqb}
use lib.ListN.{length}
use lib.Seq.{take-length}
use borrow.Author.Tests.{eqb-true, ltb-true, ne_eqb, le-ltb}
use Rattle.tables.specs.declared.letters.Conventions.{Conventions}
use Rattle.tables.specs.Letters.{Accepted, every}
use Rattle.tables.proofs.Laws.{by_cases, both, clash}
use Rattle.reader.specs.declared.store.Entry.{Entry}
use Rattle.reader.specs.declared.auction.Bidding.{Bidding}
use Rattle.reader.specs.declared.auction.CallToken.{CallToken}
use Rattle.reader.specs.declared.auction.CallToken.TheVariants.{Plus, Call}
use Rattle.reader.specs.declared.section.Open.{Open}
use Rattle.reader.specs.declared.section.Walk.{Walk}
use Rattle.reader.specs.Words.{call_token}
use Rattle.reader.specs.Pieces.{Piece, Out, out_all, entry}
use Rattle.reader.specs.Auction.{call_token_of, called_by, called, no_bidding}
use Rattle.reader.specs.Sections.{walked, no_walk, kind_of}
use Rattle.reader.specs.Plain.{item_of, items_of, annotations_first, calls_in, PlainCall}
use Rattle.reader.proofs.WordTokens.{call_back, call_word, call_alone, call_end, call_not_all_pass}
use Rattle.writer.specs.Sections.{rounds}
use Rattle.lin.specs.LinBoards.{plain_call}
use Rattle.demands.specs.PageBack.{all, good_data}
use Rattle.demands.proofs.BoardWritable.{begins, is_token, rounds_data, call_begins}
use Rattle.demands.proofs.SectionTokens.{texts, words_in_all, RoundsBack, all_tokens, tokens_texts, calls_walked}

-- Entries of calls with these codes, and nothing else.
pub data CallEntries : List ℕ → List Entry → Type 0 where
  no_call : CallEntries [] []
  a_call : {k x y : ℕ} {ks : List ℕ} {es : List Entry} → CallEntries ks es → CallEntries (k ∷ ks) (entry 6 x y k ∷ es)

unannotated : (r : List ℕ) (ks : List ℕ) (es : List Entry) → CallEntries ks es → annotations_first (items_of r es) ≡ []
unfolding item_of
unannotated r [] (e ∷ es) a = elim a [ ]
unannotated r (k ∷ ks) [] a = elim a [ ]
unannotated r [] [] no_call = refl
unannotated r (k ∷ ks) (e ∷ es) (a_call h) = refl

pub calls_inside : (r : List ℕ) (ks : List ℕ) (es : List Entry) → CallEntries ks es → calls_in (items_of r es) ≡ map plain_call ks
unfolding item_of
calls_inside r [] (e ∷ es) a = elim a [ ]
calls_inside r (k ∷ ks) [] a = elim a [ ]
calls_inside r [] [] no_call = refl
calls_inside r (k ∷ ks) (e ∷ es) (a_call h) = rw (unannotated r ks es h) (ap (λ (x : List PlainCall). plain_call k ∷ x) (calls_inside r ks es h))

pub calls_length : (ks : List ℕ) (es : List Entry) → CallEntries ks es → length es ≡ length ks
calls_length [] (e ∷ es) a = elim a [ ]
calls_length (k ∷ ks) [] a = elim a [ ]
calls_length [] [] no_call = refl
calls_length (k ∷ ks) (e ∷ es) (a_call h) = ap suc (calls_length ks es h)

-- ---- one call

-- The token of a call: `+` is a mark of its own, and any other call is the whole of its token.
abbrev mark_or_call : ℕ → ℕ → CallToken
mark_or_call k n = cond (eqb k 38) Plus (Call k n)

-- A step that adds a call.
record OneCall (k : ℕ) (b : Bidding) (o : Out Bidding) : Type 0 where
  x : ℕ
  y : ℕ
  given : o.entries ≡ entry 6 x y k ∷ []
  any_is : o.state.any ≡ true
  going : o.state.stopped ≡ false
  counted : o.state.count ≡ b.count + 1

abbrev pub any_call : Bool → List ℕ → Bool
any_call b [] = b
any_call b (k ∷ ks) = true

any_true : (ks : List ℕ) → any_call true ks ≡ true
any_true [] = refl
any_true (k ∷ ks) = refl

pub record CallsRead (b : Bidding) (ks : List ℕ) (o : Out Bidding) : Type 0 where
  pub given : CallEntries ks o.entries
  pub any_is : o.state.any ≡ any_call b.any ks
  pub counted : o.state.count ≡ b.count + length ks

-- An auction's section: its calls among its entries, and its card.
pub record AuctionRead (ks : List ℕ) (o : Out Walk) : Type 0 where
  pub given : CallEntries ks o.entries
  pub any_is : o.state.bidding.any ≡ any_call false ks
  pub counted : o.state.bidding.count ≡ length ks

module _ (c : Conventions) (ok : Accepted c) where
  call_filled : (k : ℕ) → k < 47 → eqb (length (call_token c k)) 0 ≡ false
  call_filled k h = filled (call_token c k) (call_begins c k h)
    where
      filled : (t : List ℕ) → begins t ≡ true → eqb (length t) 0 ≡ false
      filled [] e = clash e
      filled (b ∷ bs) e = ne_eqb (suc (length bs)) 0 (λ u. omega arith)

  token_of : (k : ℕ) → k < 47 → call_token_of c (call_token c k) ≡ mark_or_call k (length (call_token c k))
  unfolding call_token_of
  token_of k h =
      let z : eqb k 47 ≡ false = ne_eqb k 47 (λ u. omega arith) in
      by_cases (eqb k 38)
      (λ e. rw (call_end c ok k h, e))
      (λ e. rw (call_end c ok k h, e, call_not_all_pass c ok k h, call_alone c ok k h, call_filled k h, take-length (call_token c k), call_back c ok k h, z))

  -- A call's bytes give its own entry alone.
  mark_read : (b : Bidding) (t : Piece) (k n : ℕ) → k < 47 → length t.bytes ≡ n → OneCall k b (called_by (mark_or_call k n) b t)
  mark_read b t k n h e = by (eqb k 38) refl
    where
      none_behind : ltb 0 (length t.bytes - n) ≡ false
      none_behind = le-ltb 0 (length t.bytes - n) (omega arith)

      by : (m : Bool) → eqb k 38 ≡ m → OneCall k b (called_by (cond m Plus (Call k n)) b t)
      by true f = record { x = t.at; y = length t.bytes; given = rw (eqb-true k 38 f); any_is = refl; going = refl; counted = refl }
      by false f = record { x = t.at; y = n; given = rw none_behind; any_is = refl; going = refl; counted = rw none_behind }

  one_read : (b : Bidding) (t : Piece) (k : ℕ) → k < 47 → t.bytes ≡ call_token c k → b.stopped ≡ false → OneCall k b (called c b t)
  unfolding called
  one_read b t k h e g =
      let a : called c b t ≡ called_by (mark_or_call k (length (call_token c k))) b t =
      ap (λ (x : Bool). cond {A = Out Bidding} x (record { state = b; entries = [] }) (called_by (call_token_of c t.bytes) b t)) g
      ∙ ap (λ (x : List ℕ). called_by (call_token_of c x) b t) e
      ∙ ap (λ (x : CallToken). called_by x b t) (token_of k h) in
      moved a (mark_read b t k (length (call_token c k)) h (ap length e))
    where
      moved : {x y : Out Bidding} → x ≡ y → OneCall k b y → OneCall k b x
      moved e z = rw e z

  -- THEOREM. The tokens of calls are read as those calls.
  pub CallsBack : (b : Bidding) (ts : List Piece) (ks : List ℕ) → every (λ k. ltb k 47) ks ≡ true → texts ts ≡ map (call_token c) ks → b.stopped ≡ false → CallsRead b ks (out_all (called c) b ts)
  CallsBack b [] [] e q g = record { given = no_call; any_is = refl; counted = omega arith }
  CallsBack b [] (k ∷ ks) e q g = let z : ◌≡◌ {A = ℕ} 0 1 = cc in absurd (omega arith)
  CallsBack b (t ∷ ts) [] e q g = let z : ◌≡◌ {A = ℕ} 0 1 = cc in absurd (omega arith)
  CallsBack b (t ∷ ts) (k ∷ ks) e q g =
      let h = both (ltb k 47) (every (λ j. ltb j 47) ks) e in
      let q0 : t.bytes ≡ call_token c k = head-eq_of_cons-eq q in
      let q1 : texts ts ≡ map (call_token c) ks = tail-eq_of_cons-eq q in
      let o = one_read b t k (ltb-true k 47 h.0) q0 g in
      let i = CallsBack (called c b t).state ts ks h.1 q1 o.going in
      record {
        given = rw o.given (a_call i.given);
        any_is = i.any_is ∙ ap (λ (x : Bool). any_call x ks) o.any_is ∙ any_true ks;
        counted = i.counted ∙ rw o.counted (omega arith);
      }

  calls_tokens : (ks : List ℕ) → every (λ k. ltb k 47) ks ≡ true → all is_token (map (call_token c) ks) ≡ true
  calls_tokens [] e = refl
  calls_tokens (k ∷ ks) e =
      let h = both (ltb k 47) (every (λ j. ltb j 47) ks) e in
      let l = ltb-true k 47 h.0 in
      rw (call_begins c k l, call_word c ok k l, calls_tokens ks h.1)

  pub calls_good : (ks : List ℕ) → every (λ k. ltb k 47) ks ≡ true → all good_data (rounds (map (call_token c) ks)) ≡ true
  calls_good ks e = rounds_data (map (call_token c) ks) (calls_tokens ks e)

  -- THEOREM. An auction's section whose data are the rounds of calls has those calls.
  pub AuctionBack : (o : Option Open) (trump : ℕ) (qs : List Piece) (ks : List ℕ) → kind_of o ≡ 1 → every (λ k. ltb k 47) ks ≡ true → texts qs ≡ rounds (map (call_token c) ks) → AuctionRead ks (out_all (walked c o trump) no_walk qs)
  unfolding no_walk
  AuctionBack o trump qs ks k e q =
      let w = calls_walked c o trump no_walk qs k in
      let t : texts (all_tokens qs) ≡ map (call_token c) ks = tokens_texts qs ∙ ap words_in_all q ∙ RoundsBack (map (call_token c) ks) (calls_tokens ks e) in
      let r = CallsBack no_bidding (all_tokens qs) ks e t refl in
      record {
        given = moved w.1 r.given;
        any_is = ap (λ (y : Bidding). y.any) w.0 ∙ r.any_is;
        counted = ap (λ (y : Bidding). y.count) w.0 ∙ r.counted ∙ omega arith;
      }
    where
      moved : {xs ys : List Entry} → xs ≡ ys → CallEntries ks ys → CallEntries ks xs
      moved e z = rw e z
