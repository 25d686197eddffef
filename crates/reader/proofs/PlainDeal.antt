-- The deal that a board keeps: word 9, the hands, the value that is kept unparsed.
use Prim.Native.Nat.{ℕ}
use mathlib.Core.Path.{◌≡◌, refl, sym, ap, ◌∙◌}
use mathlib.Core.Bool.{true, cond}
use mathlib.Core.List.{List, [], ◌∷◌}
use mathlib.Core.Option.{Option, none as nothing, some}
use native.Mathlib.Omega.{arith}
use lib.Dec.{eqb}
use lib.ListN.{length}
use Rattle.tables.specs.declared.letters.Conventions.{Conventions}
use Rattle.tables.specs.Text.{trimmed}
use Rattle.tables.proofs.Laws.{by_cases, clash}
use Rattle.reader.specs.declared.deal.Hands.{Hands}
use Rattle.std.specs.Prelude.{Some, None}
use Rattle.reader.specs.declared.board.DealCard.{DealCard}
use Rattle.reader.specs.Names.{tag_number}
use Rattle.reader.specs.Deals.{DealRead, deal_of, hand_words, hands_of_words, Proper, card_count, ones}
use Rattle.reader.specs.Boards.{deal_read, deal_by, is_unparsed, is_kept, applied, no_board, record_out}
use Rattle.reader.specs.Plain.{TagPair, PlainBoard, plain_of}
use Rattle.reader.specs.Kept.{after, kept_by, hands_read, hands_by, last_hands, deal_kind, words_kept, DealKept}
use Rattle.reader.proofs.CardSets.{bit_zero}
use Rattle.reader.proofs.DealLaws.{DealProper, HandsBack}
use Rattle.reader.proofs.PlainLaws.{plain_keeps}
use Rattle.reader.proofs.PlainByTags.{FollowsTags}
use Rattle.reader.proofs.PlainValues.{DealValue, kept_again}

-- ---- the deal follows from the tags

abbrev deal_tag : Conventions → DealCard → TagPair → DealCard
deal_tag c d t = deal_by c (tag_number t.name) t.value d

deal_after : (c : Conventions) (r : List ℕ) → (record_out c r).state.board.deal ≡ after (deal_tag c) no_board.deal (plain_of c r).tags
unfolding applied
deal_after c r =
    FollowsTags c r (λ es b d. b.deal ≡ d) (deal_tag c)
    (record {
      longer = λ es fs b d e. e;
      left = λ es b k d l e. l.deal_left ∙ e;
      by_tag = λ es b d x y name value v e. ap (deal_by c (tag_number name) value) e;
    })
    no_board.deal refl

-- ---- word 9 and the words 10 to 17

-- The deal d after tags of which the last deal that parsed is o, and the last that is kept unparsed v.
record Tells (d : DealCard) (o : Option Hands) (v : Option (List ℕ)) : Type 0 where
  kind_is : d.kind ≡ deal_kind o v
  words_are : d.words ≡ words_kept o

parsed_kind : (h : Hands) (o : Option Hands) (v : Option (List ℕ)) → cond (eqb (deal_kind o v) 2) 2 1 ≡ deal_kind (some h) v
parsed_kind h nothing nothing = refl
parsed_kind h (some g) nothing = refl
parsed_kind h nothing (some v) = refl
parsed_kind h (some g) (some v) = refl

unparsed_kind : (o : Option Hands) (v : List ℕ) → deal_kind o (some v) ≡ 2
unparsed_kind nothing v = refl
unparsed_kind (some h) v = refl

read_tells : (k : DealRead) (value : List ℕ) (d : DealCard) (o : Option Hands) (v : Option (List ℕ)) → Tells d o v
    → Tells (deal_read k value d) (hands_read k o) (cond (is_unparsed k value) (some value) v)
read_tells (Some h) value d o v t = record { kind_is = rw t.kind_is (parsed_kind h o v); words_are = refl }
read_tells None value d o v t =
    by_cases (eqb (length (trimmed value)) 0)
    (λ e. rw e t)
    (λ e. rw e (record { kind_is = sym (unparsed_kind o value); words_are = t.words_are }))

tag_tells : (c : Conventions) (t : TagPair) (d : DealCard) (o : Option Hands) (v : Option (List ℕ)) → Tells d o v → Tells (deal_tag c d t) (hands_by c o t) (kept_by c 4 v t)
unfolding deal_by is_kept
tag_tells c t d o v h =
    by_cases (eqb (tag_number t.name) 4)
    (λ e. rw e (read_tells (deal_of c t.value) t.value d o v h))
    (λ e. rw e h)

after_tells : (c : Conventions) (ts : List TagPair) (d : DealCard) (o : Option Hands) (v : Option (List ℕ)) → Tells d o v
    → Tells (after (deal_tag c) d ts) (after (hands_by c) o ts) (after (kept_by c 4) v ts)
after_tells c [] d o v h = h
after_tells c (t ∷ ts) d o v h = after_tells c ts (deal_tag c d t) (hands_by c o t) (kept_by c 4 v t) (tag_tells c t d o v h)

-- ---- the hands

abbrev ProperIn : Option Hands → Type 0
ProperIn nothing = Unit {0}
ProperIn (some h) = Proper h

read_proper : (c : Conventions) (value : List ℕ) (k : DealRead) (o : Option Hands) → deal_of c value ≡ k → ProperIn o → ProperIn (hands_read k o)
read_proper c value (Some h) o e p = DealProper c value e
read_proper c value None o e p = p

after_proper : (c : Conventions) (ts : List TagPair) (o : Option Hands) → ProperIn o → ProperIn (after (hands_by c) o ts)
after_proper c [] o p = p
after_proper c (t ∷ ts) o p =
    after_proper c ts (hands_by c o t) (by_cases (eqb (tag_number t.name) 4) (λ e. rw e (read_proper c t.value (deal_of c t.value) o refl p)) (λ e. rw e p))

no_hands_lem : Proper (record { north = 0; east = 0; south = 0; west = 0 })
unfolding card_count ones
no_hands_lem =
    record {
      deck = record { north_low = omega arith; east_low = omega arith; south_low = omega arith; west_low = omega arith };
      apart = λ i. omega (arith, bit_zero i);
      north_few = omega arith;
      east_few = omega arith;
      south_few = omega arith;
      west_few = omega arith;
    }

words_proper : (o : Option Hands) → ProperIn o → Proper (hands_of_words (words_kept o))
unfolding hands_of_words
words_proper nothing p = no_hands_lem
words_proper (some h) p = rw (HandsBack h) p

words_again : (o : Option Hands) → hand_words (hands_of_words (words_kept o)) ≡ words_kept o
unfolding hands_of_words hand_words
words_again nothing = refl
words_again (some h) = ap hand_words (HandsBack h)

-- ---- the value that is kept unparsed

no_deal : (c : Conventions) (v : List ℕ) → is_kept c 4 v ≡ true → deal_of c v ≡ None
unfolding is_kept
no_deal c v e = unparsed (deal_of c v) e
  where
    unparsed : (k : DealRead) → is_unparsed k v ≡ true → k ≡ None
    unparsed (Some h) e = clash e
    unparsed None e = refl

-- THEOREM. The deal of a plain board is what document 01 says of words 9 to 17.
pub PlainDealKept : (c : Conventions) (r : List ℕ) → DealKept c (plain_of c r)
PlainDealKept c r =
    let ts = (plain_of c r).tags in
    let o = last_hands c ts in
    let e : (plain_of c r).deal ≡ after (deal_tag c) no_board.deal ts = (plain_keeps c r).deal_kept ∙ deal_after c r in
    let t = after_tells c ts no_board.deal nothing nothing (record { kind_is = refl; words_are = refl }) in
    let w : (plain_of c r).deal.words ≡ words_kept o = ap (λ (d : DealCard). d.words) e ∙ t.words_are in
    let again : (v : List ℕ) → (plain_of c r).values.deal ≡ some v → is_kept c 4 v ≡ true = λ v k. kept_again c 4 ts v (sym (DealValue c r) ∙ k) in
    record {
      kind_is = ap (λ (d : DealCard). d.kind) e ∙ t.kind_is ∙ ap (deal_kind o) (sym (DealValue c r));
      words_are = w;
      hands_proper = rw w (words_proper o (after_proper c ts nothing tt));
      words_back = rw w (words_again o);
      read_again = λ v k. no_deal c v (again v k);
      kept_again = again;
    }

-- THEOREM. Word 9 is 0 where no Deal tag parsed and none is kept, 1 where one parsed and none is kept, 2 where one is kept unparsed; there is
-- no other board.
pub DealCases : {P : Type 0} (c : Conventions) (p : PlainBoard) → DealKept c p
    → (p.deal.kind ≡ 0 → last_hands c p.tags ≡ nothing → p.values.deal ≡ nothing → P)
    → ((h : Hands) → p.deal.kind ≡ 1 → last_hands c p.tags ≡ some h → p.values.deal ≡ nothing → P)
    → ((v : List ℕ) → p.deal.kind ≡ 2 → p.values.deal ≡ some v → P)
    → P
DealCases {P} c p k zero one two = go (last_hands c p.tags) p.values.deal refl refl k.kind_is
  where
    go : (o : Option Hands) (v : Option (List ℕ)) → last_hands c p.tags ≡ o → p.values.deal ≡ v → p.deal.kind ≡ deal_kind o v → P
    go nothing nothing e f q = zero q e f
    go (some h) nothing e f q = one h q e f
    go o (some v) e f q = two v (q ∙ unparsed_kind o v) f
