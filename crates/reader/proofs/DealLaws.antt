-- Laws of reading a deal: the reader's steps are the cards of the text, placed one after the other.
use Prim.Native.Nat.{ℕ, zero, suc, ◌+◌, ◌-◌, ◌*◌, ◌^◌, ◌≤◌, ◌<◌, ◌/◌, ◌%◌}
use mathlib.Core.Bool.{Bool, ◌&&◌, true, false, cond}
use borrow.Author.Tests.{ltb-false, lt-ltb, eqb-true, eqb-false, leb-true, leb-false, le-leb, lt-leb}
use Rattle.tables.specs.Letters.{every, honour_of, honour_letters, index_in, capital, seat_of, rank_of, distinct}
use Rattle.tables.specs.Text.{trimmed, is_white, trim_start, word, past_word, fields}
use Rattle.tables.proofs.Laws.{both, by_cases, step, stop}
use Rattle.reader.proofs.CardSets.{in_pack, distinct_front, distinct_back, distinct_times, times_append, bit_total, total_below, count_total, place_all, place_sum, place_append}
use Rattle.reader.specs.Deals.{DealRead, onward, card_count, whole_hands, Proper, deal_of, hand_words, hands_of_words, from_words, has, hand_bits, card_before, cards_from_suit, at_most, is_dash, cards_named, hand_before, all_named, dealt, four_hands, starts_white, hands_after, turned, turned_deal, deal_in, InDeck}
use Rattle.reader.specs.DealSteps.{HandRead, place, cards_placed, hand_into, add_card, step_of, end_of, run_from, deal_words, IsGrown}
use mathlib.Core.Path.{◌≡◌, refl, sym, ap, ◌∙◌}
use mathlib.Core.List.{List, [], ◌∷◌, ◌++◌}
use native.Mathlib.Omega.{arith}
use lib.Dec.{eqb, ltb, leb}
use lib.ListN.{length, drop, get_or}
use Rattle.tables.specs.declared.letters.Conventions.{Conventions}
use Rattle.tables.proofs.TextLaws.{length_zero, fields_none, fields_some}
use Rattle.reader.specs.declared.deal.Hands.{Hands}
use Rattle.std.specs.Prelude.{Option, Some, None}
use Rattle.reader.specs.declared.deal.PartHand.{PartHand}

-- ---- a hand

placed_card : (x k n : ℕ) (o : Option (List ℕ)) → cards_placed x (at_most n (card_before k o)) ≡ cond (eqb n 0) None (cond (has k x) None (cards_placed (x + 2 ^ k) (at_most (n - 1) o)))
placed_card x k n None = by_cases (eqb n 0) (λ e. rw e) (λ e. rw e (by_cases (has k x) (λ t. rw t) (λ t. rw t)))
placed_card x k n (Some ks) =
    by_cases (eqb n 0)
    (λ e. rw (e, lt-leb (suc (length ks)) n (omega (arith, eqb-true n 0 e))))
    (λ e.
    let p = eqb-false n 0 e in
    by_cases (leb (length ks) (n - 1))
    (λ t. rw (e, t, le-leb (suc (length ks)) n (omega (arith, leb-true (length ks) (n - 1) t))))
    (λ t. rw (e, t, lt-leb (suc (length ks)) n (omega (arith, leb-false (length ks) (n - 1) t))) (by_cases (has k x) (λ u. rw u) (λ u. rw u))))

run_is : (c : Conventions) (t : List ℕ) (x s n : ℕ) → run_from c t (record { cards = x; suit = s; room = n }) ≡ cards_placed x (at_most n (cards_from_suit c t s))
unfolding step_of add_card end_of
run_is c [] x s n = by_cases (eqb s 0) (λ e. rw (e, le-leb 0 n (omega arith))) (λ e. rw e)
run_is c (b ∷ bs) x s n =
    by_cases (eqb b 46)
    (λ e. by_cases (eqb s 0) (λ f. rw (e, f)) (λ f. rw (e, f) (run_is c bs x (s - 1) n)))
    (λ e.
    by_cases (eqb (rank_of c b) 13)
    (λ f. rw (e, f) (by_cases (eqb n 0) (λ g. rw g) (λ g. rw g)))
    (λ f.
    rw (e, f, placed_card x (13 * s + rank_of c b) n (cards_from_suit c bs s))
    (by_cases (eqb n 0) (λ g. rw g)
    (λ g. rw g (by_cases (has (13 * s + rank_of c b) x) (λ u. rw u) (λ u. rw u (run_is c bs (x + 2 ^ (13 * s + rank_of c b)) s (n - 1))))))))

-- Four suits that are no dash.
pub suits_into : (c : Conventions) (x : ℕ) (t : List ℕ) → is_dash t ≡ false → run_from c t (record { cards = x; suit = 3; room = 13 }) ≡ hand_into c x t
unfolding hand_into cards_named
suits_into c x t e = rw e (run_is c t x 3 13)

pub dash_into : (c : Conventions) (x : ℕ) (t : List ℕ) → is_dash t ≡ true → Some x ≡ hand_into c x t
unfolding hand_into cards_named
dash_into c x t e = rw e

-- The first field ends at a white byte, and with the text.
pub word_stop : (s : List ℕ) (i : ℕ) → i < length s → is_white (get_or s i 0) ≡ true → word (drop i s) ≡ []
word_stop s i h e = rw (step s i h, e)

pub word_end : (s : List ℕ) (i : ℕ) → length s ≤ i → word (drop i s) ≡ []
word_end s i h = rw (stop s i h)

-- ---- four hands

read_cases : {P : Type 0} (r : HandRead) → (r ≡ None → P) → ((y : ℕ) → r ≡ Some y → P) → P
read_cases None f g = f refl
read_cases (Some y) f g = g y refl

pub never_held : {P : Type 0} {y : ℕ} → None ≡ Some y → P
never_held e = let z : ◌≡◌ {A = ℕ} 0 1 = cc in absurd (omega arith)

undealt : (a b d e : List ℕ) → place 0 (a ++ (b ++ (d ++ e))) ≡ None → None ≡ dealt a b d e
undealt a b d e h = by_cases (distinct (a ++ (b ++ (d ++ e)))) (λ t. never_held (sym (rw (place_all (a ++ (b ++ (d ++ e))), t) at h))) (λ t. rw t)

pub all_dealt : (ks : List ℕ) {y : ℕ} → place 0 ks ≡ Some y → distinct ks ≡ true
all_dealt ks h = by_cases (distinct ks) (λ t. t) (λ t. never_held (rw (place_all ks, t) at h))

abbrev four : Option (List ℕ) → Option (List ℕ) → Option (List ℕ) → Option (List ℕ) → DealRead
four A B C D = four_hands (hand_before A (hand_before B (hand_before C (hand_before D (Some [])))))

-- Each of the four can be read, or there is no deal.
pieces : (A B C D : Option (List ℕ)) → ((a b d e : List ℕ) → A ≡ Some a → B ≡ Some b → C ≡ Some d → D ≡ Some e → None ≡ dealt a b d e) → None ≡ four A B C D
pieces None B C D h = refl
pieces (Some a) None C D h = refl
pieces (Some a) (Some b) None D h = refl
pieces (Some a) (Some b) (Some d) None h = refl
pieces (Some a) (Some b) (Some d) (Some e) h = h a b d e refl refl refl refl

module _ (A B C D : Option (List ℕ)) where
  bad_first : cards_placed 0 A ≡ None → None ≡ four A B C D
  bad_first h = pieces A B C D (λ a b d e ea eb ed ee. undealt a b d e (place_append 0 a (b ++ (d ++ e)) ∙ rw (rw ea at h)))

  bad_second : {x : ℕ} → cards_placed 0 A ≡ Some x → cards_placed x B ≡ None → None ≡ four A B C D
  bad_second {x} g h =
      pieces A B C D
      (λ a b d e ea eb ed ee.
      undealt a b d e (place_append 0 a (b ++ (d ++ e)) ∙ rw (rw ea at g) (place_append x b (d ++ e) ∙ rw (rw eb at h))))

  bad_third : {x y : ℕ} → cards_placed 0 A ≡ Some x → cards_placed x B ≡ Some y → cards_placed y C ≡ None → None ≡ four A B C D
  bad_third {x} {y} f g h =
      pieces A B C D
      (λ a b d e ea eb ed ee.
      undealt a b d e
      (place_append 0 a (b ++ (d ++ e)) ∙ rw (rw ea at f) (place_append x b (d ++ e) ∙ rw (rw eb at g) (place_append y d e ∙ rw (rw ed at h)))))

  bad_fourth : {x y z : ℕ} → cards_placed 0 A ≡ Some x → cards_placed x B ≡ Some y → cards_placed y C ≡ Some z → cards_placed z D ≡ None → None ≡ four A B C D
  bad_fourth {x} {y} {z} f g h k =
      pieces A B C D
      (λ a b d e ea eb ed ee.
      undealt a b d e
      (place_append 0 a (b ++ (d ++ e)) ∙ rw (rw ea at f) (place_append x b (d ++ e) ∙ rw (rw eb at g) (place_append y d e ∙ rw (rw ed at h) (rw ee at k)))))

all_four : (a b d e : List ℕ) (x y z q : ℕ) → place 0 a ≡ Some x → place x b ≡ Some y → place y d ≡ Some z → place z e ≡ Some q
    → Some (record { north = x; east = y - x; south = z - y; west = q - z }) ≡ dealt a b d e
all_four a b d e x y z q f g h k =
    let w : place 0 (a ++ (b ++ (d ++ e))) ≡ Some q = place_append 0 a (b ++ (d ++ e)) ∙ rw f (place_append x b (d ++ e) ∙ rw g (place_append y d e ∙ rw h k)) in
    let sa = place_sum 0 a f in
    let sb = place_sum x b g in
    let sd = place_sum y d h in
    let se = place_sum z e k in
    let eb : y - x ≡ hand_bits b = omega arith in
    let ed : z - y ≡ hand_bits d = omega arith in
    let ee : q - z ≡ hand_bits e = omega arith in
    let ea : x ≡ hand_bits a = omega arith in
    rw (all_dealt (a ++ (b ++ (d ++ e))) w, eb, ed, ee, ea)

good_four : (A B C D : Option (List ℕ)) (x y z q : ℕ) → cards_placed 0 A ≡ Some x → cards_placed x B ≡ Some y → cards_placed y C ≡ Some z → cards_placed z D ≡ Some q
    → Some (record { north = x; east = y - x; south = z - y; west = q - z }) ≡ four A B C D
good_four None B C D x y z q f g h k = never_held f
good_four (Some a) None C D x y z q f g h k = never_held g
good_four (Some a) (Some b) None D x y z q f g h k = never_held h
good_four (Some a) (Some b) (Some d) None x y z q f g h k = never_held k
good_four (Some a) (Some b) (Some d) (Some e) x y z q f g h k = all_four a b d e x y z q f g h k

pub words_dealt : (c : Conventions) (s t u v : List ℕ) → deal_words c s t u v ≡ four_hands (all_named c (s ∷ t ∷ u ∷ v ∷ []))
unfolding deal_words hand_into
words_dealt c s t u v =
    let A = cards_named c s in
    let B = cards_named c t in
    let C = cards_named c u in
    let D = cards_named c v in
    read_cases (cards_placed 0 A)
    (λ f. rw f (bad_first A B C D f))
    (λ x f. rw f
    (read_cases (cards_placed x B)
    (λ g. rw g (bad_second A B C D f g))
    (λ y g. rw g
    (read_cases (cards_placed y C)
    (λ h. rw h (bad_third A B C D f g h))
    (λ z h. rw h
    (read_cases (cards_placed z D)
    (λ k. rw k (bad_fourth A B C D f g h k))
    (λ q k. rw k (good_four A B C D x y z q f g h k))))))))

-- ---- fields

named_length : (c : Conventions) (ts : List (List ℕ)) {hs : List (List ℕ)} → all_named c ts ≡ Some hs → length hs ≡ length ts
named_length c [] {hs} e = let h : [] ≡ hs = cc in rw (sym h)
named_length c (t ∷ ts) {hs} e = pick (cards_named c t) (all_named c ts) (λ gs q. named_length c ts q) e
  where
    pick : (o : Option (List ℕ)) (p : Option (List (List ℕ))) → ((gs : List (List ℕ)) → p ≡ Some gs → length gs ≡ length ts) → hand_before o p ≡ Some hs → length hs ≡ suc (length ts)
    pick None p i f = absurd (let z : ◌≡◌ {A = ℕ} 0 1 = cc in omega arith)
    pick (Some ks) None i f = absurd (let z : ◌≡◌ {A = ℕ} 0 1 = cc in omega arith)
    pick (Some ks) (Some gs) i f =
        let h : ks ∷ gs ≡ hs = cc in
        rw (sym h) (ap suc (i gs refl))

four_only : (hs : List (List ℕ)) → (length hs ≡ 4 → ⊥) → None ≡ four_hands (Some hs)
four_only [] h = refl
four_only (a ∷ []) h = refl
four_only (a ∷ b ∷ []) h = refl
four_only (a ∷ b ∷ d ∷ []) h = refl
four_only (a ∷ b ∷ d ∷ e ∷ []) h = absurd (h refl)
four_only (a ∷ b ∷ d ∷ e ∷ f ∷ fs) h = refl

-- Fewer or more than four hands are no deal.
not_four : (c : Conventions) (ts : List (List ℕ)) → (length ts ≡ 4 → ⊥) → None ≡ four_hands (all_named c ts)
not_four c ts h = pick (all_named c ts) refl
  where
    pick : (o : Option (List (List ℕ))) → all_named c ts ≡ o → None ≡ four_hands o
    pick None e = refl
    pick (Some hs) e = four_only hs (λ z. h (sym (named_length c ts e) ∙ z))

one_field : (s : List ℕ) → length (fields s) ≤ suc (length (fields (past_word (trim_start s))))
one_field s =
    by_cases (eqb (length (trim_start s)) 0)
    (λ t. rw (fields_none s (eqb-true (length (trim_start s)) 0 t)) (omega arith))
    (λ t. rw (fields_some s (eqb-false (length (trim_start s)) 0 t)) (omega arith))

starts_is : (s : List ℕ) → starts_white s ≡ is_white (get_or s 0 0)
unfolding is_white
starts_is [] = refl
starts_is (b ∷ bs) = refl

starts_kept : (s : List ℕ) → is_white (get_or s 0 0) ≡ false → trim_start s ≡ s
starts_kept [] e = refl
starts_kept (b ∷ bs) e = rw e

pub blank_first : (c : Conventions) (s : List ℕ) → is_white (get_or s 0 0) ≡ true → None ≡ hands_after c s
unfolding hands_after
blank_first c s e = rw (starts_is s, e)

-- The field after x's first begins y.
next_field : (x y : List ℕ) → y ≡ trim_start (past_word x) → (length y ≡ 0 → ⊥) → fields (past_word x) ≡ word y ∷ fields (past_word y)
next_field x y e h = rw e (fields_some (past_word x) (rw e at h))

not_empty : (x y : List ℕ) → y ≡ trim_start (past_word x) → (length y ≡ 0 → ⊥) → length x ≡ 0 → ⊥
not_empty x y e h z = h (ap length e ∙ ap (λ (l : List ℕ). length (trim_start (past_word l))) (length_zero x z))

module _ (c : Conventions) (s t u v : List ℕ) (hs : is_white (get_or s 0 0) ≡ false) (et : t ≡ trim_start (past_word s)) (eu : u ≡ trim_start (past_word t)) (ev : v ≡ trim_start (past_word u)) where
  pub few_hands : length v ≡ 0 → None ≡ hands_after c s
  unfolding hands_after
  few_hands h =
      let a : length (fields s) ≤ suc (length (fields (past_word s))) = rw (starts_kept s hs) at (one_field s) in
      let b : length (fields (past_word s)) ≤ suc (length (fields (past_word t))) = rw (sym et) at (one_field (past_word s)) in
      let d : length (fields (past_word t)) ≤ suc (length (fields (past_word u))) = rw (sym eu) at (one_field (past_word t)) in
      let e : length (fields (past_word u)) ≡ 0 = ap length (fields_none (past_word u) (rw ev at h)) in
      rw (starts_is s, hs) (not_four c (fields s) (λ z. omega arith))

  four_fields : (length v ≡ 0 → ⊥) → fields s ≡ word s ∷ word t ∷ word u ∷ word v ∷ fields (past_word v)
  four_fields h =
      let hu = not_empty u v ev h in
      let ht = not_empty t u eu hu in
      let h0 = not_empty s t et ht in
      let k = starts_kept s hs in
      let f : fields s ≡ word s ∷ fields (past_word s) = rw k at (fields_some s (rw (sym k) at h0)) in
      f ∙ rw (next_field s t et ht, next_field t u eu hu, next_field u v ev h)

  pub many_hands : (length v ≡ 0 → ⊥) → 0 < length (trim_start (past_word v)) → None ≡ hands_after c s
  unfolding hands_after
  many_hands h k =
      let m : fields s ≡ word s ∷ word t ∷ word u ∷ word v ∷ word (trim_start (past_word v)) ∷ fields (past_word (trim_start (past_word v)))
      = four_fields h ∙ rw (fields_some (past_word v) (λ z. omega arith)) in
      rw (starts_is s, hs, m) (not_four c (word s ∷ word t ∷ word u ∷ word v ∷ word (trim_start (past_word v)) ∷ fields (past_word (trim_start (past_word v)))) (λ z. omega arith))

  pub hands_four : (length v ≡ 0 → ⊥) → length (trim_start (past_word v)) ≤ 0 → deal_words c (word s) (word t) (word u) (word v) ≡ hands_after c s
  unfolding hands_after
  hands_four h k =
      let m : fields s ≡ word s ∷ word t ∷ word u ∷ word v ∷ [] = four_fields h ∙ rw (fields_none (past_word v) (omega arith)) in
      words_dealt c (word s) (word t) (word u) (word v) ∙ rw (starts_is s, hs, m)

-- ---- the seat

pub deal_in_is : (c : Conventions) (v : List ℕ) → deal_in c v ≡ cond (eqb (get_or v 1 0) 58) (cond (ltb 3 (seat_of c (get_or v 0 0))) None (turned_deal (seat_of c (get_or v 0 0)) (hands_after c (drop 2 v)))) None
deal_in_is c [] = refl
deal_in_is c (a ∷ []) = refl
deal_in_is c (a ∷ b ∷ rest) = refl

pub turned_deck : (seat : ℕ) (h : Hands) → InDeck h → InDeck (turned seat h)
turned_deck zero h d = d
turned_deck (suc seat) h d =
    let i = turned_deck seat h d in
    record { north_low = i.west_low; east_low = i.north_low; south_low = i.east_low; west_low = i.south_low }

-- ---- bounds

pub end_grown : (x : ℕ) (h : PartHand) → h.cards < 2 ^ 52 → x ≤ h.cards → IsGrown x (end_of h)
unfolding end_of
end_grown x h l g = by_cases (eqb h.suit 0) (λ e. rw e (g, l)) (λ e. rw e tt)

-- ---- what is read is a deal: no card in two hands, at most 13 in each

down_most : (i : ℕ) → cond (ltb i 5) (12 - i) 13 ≤ 13
down_most i = by_cases (ltb i 5) (λ t. rw t (omega arith)) (λ t. rw t (omega arith))

honour_most : (c : Conventions) (b : ℕ) → honour_of c b ≤ 13
unfolding honour_of
honour_most c b = down_most (index_in (honour_letters c) (capital b))

rank_most : (c : Conventions) (b : ℕ) → rank_of c b ≤ 13
unfolding rank_of
rank_most c b =
    by_cases (ltb b 50)
    (λ t. rw t (honour_most c b))
    (λ t. by_cases (ltb 57 b) (λ u. rw (t, u) (honour_most c b)) (λ u. rw (t, u) (omega (arith, ltb-false 57 b u))))

-- A hand of at most 13 of the 52 cards.
abbrev packed : Option (List ℕ) → Bool
packed None = true
packed (Some ks) = every in_pack ks

abbrev fitting : List ℕ → Bool
fitting ks = leb (length ks) 13 && every in_pack ks

abbrev fits : Option (List ℕ) → Bool
fits None = true
fits (Some ks) = fitting ks

abbrev all_fit : List (List ℕ) → Bool
all_fit [] = true
all_fit (h ∷ hs) = fitting h && all_fit hs

abbrev fit_all : Option (List (List ℕ)) → Bool
fit_all None = true
fit_all (Some hs) = all_fit hs

packed_card : (k : ℕ) (o : Option (List ℕ)) → k < 52 → packed o ≡ true → packed (card_before k o) ≡ true
packed_card k None h e = refl
packed_card k (Some ks) h e = rw (lt-ltb k 52 h) e

packed_cards : (c : Conventions) (t : List ℕ) (s : ℕ) → s ≤ 3 → packed (cards_from_suit c t s) ≡ true
packed_cards c [] s h = by_cases (eqb s 0) (λ e. rw e) (λ e. rw e)
packed_cards c (b ∷ bs) s h =
    by_cases (eqb b 46)
    (λ e. by_cases (eqb s 0) (λ f. rw (e, f)) (λ f. rw (e, f) (packed_cards c bs (s - 1) (omega arith))))
    (λ e.
    by_cases (eqb (rank_of c b) 13)
    (λ f. rw (e, f))
    (λ f. rw (e, f) (packed_card (13 * s + rank_of c b) (cards_from_suit c bs s) (omega (arith, rank_most c b, eqb-false (rank_of c b) 13 f)) (packed_cards c bs s h))))

most_fits : (o : Option (List ℕ)) → packed o ≡ true → fits (at_most 13 o) ≡ true
most_fits None e = refl
most_fits (Some ks) e = by_cases (leb (length ks) 13) (λ t. rw t (rw t e)) (λ t. rw t)

named_fits : (c : Conventions) (t : List ℕ) → fits (cards_named c t) ≡ true
unfolding cards_named
named_fits c t = by_cases (is_dash t) (λ e. rw e) (λ e. rw e (most_fits (cards_from_suit c t 3) (packed_cards c t 3 (omega arith))))

hand_fits : (o : Option (List ℕ)) (p : Option (List (List ℕ))) → fits o ≡ true → fit_all p ≡ true → fit_all (hand_before o p) ≡ true
hand_fits None p e f = refl
hand_fits (Some ks) None e f = refl
hand_fits (Some ks) (Some hs) e f = rw e f

each_fits : (c : Conventions) (ts : List (List ℕ)) → fit_all (all_named c ts) ≡ true
each_fits c [] = refl
each_fits c (t ∷ ts) = hand_fits (cards_named c t) (all_named c ts) (named_fits c t) (each_fits c ts)

count_few : (ks : List ℕ) → distinct ks ≡ true → fitting ks ≡ true → card_count (hand_bits ks) ≤ 13
count_few ks d f =
    let h = both (leb (length ks) 13) (every in_pack ks) f in
    rw (count_total ks d h.1) (leb-true (length ks) 13 h.0)

low_total : (ks : List ℕ) → distinct ks ≡ true → fitting ks ≡ true → hand_bits ks < 2 ^ 52
low_total ks d f = total_below ks d (both (leb (length ks) 13) (every in_pack ks) f).1

never_dealt : {P : Type 0} {h : Hands} → None ≡ Some h → P
never_dealt e = let z : ◌≡◌ {A = ℕ} 0 1 = cc in absurd (omega arith)

totals_proper : (n e s w : List ℕ) → distinct (n ++ (e ++ (s ++ w))) ≡ true → fitting n ≡ true → fitting e ≡ true → fitting s ≡ true → fitting w ≡ true
    → Proper (record { north = hand_bits n; east = hand_bits e; south = hand_bits s; west = hand_bits w })
totals_proper n e s w d fn fe fs fw =
    let dn = distinct_front n (e ++ (s ++ w)) d in
    let d1 = distinct_back n (e ++ (s ++ w)) d in
    let de = distinct_front e (s ++ w) d1 in
    let d2 = distinct_back e (s ++ w) d1 in
    let ds = distinct_front s w d2 in
    let dw = distinct_back s w d2 in
    record {
      deck = record { north_low = low_total n dn fn; east_low = low_total e de fe; south_low = low_total s ds fs; west_low = low_total w dw fw };
      apart = λ i. omega (arith, distinct_times (n ++ (e ++ (s ++ w))) d i, times_append i n (e ++ (s ++ w)), times_append i e (s ++ w), times_append i s w, bit_total n dn i, bit_total e de i, bit_total s ds i, bit_total w dw i);
      north_few = count_few n dn fn;
      east_few = count_few e de fe;
      south_few = count_few s ds fs;
      west_few = count_few w dw fw;
    }

dealt_proper : (n e s w : List ℕ) {h : Hands} → all_fit (n ∷ e ∷ s ∷ w ∷ []) ≡ true → dealt n e s w ≡ Some h → Proper h
dealt_proper n e s w {h} f q =
    let fn = both (fitting n) (all_fit (e ∷ s ∷ w ∷ [])) f in
    let fe = both (fitting e) (all_fit (s ∷ w ∷ [])) fn.1 in
    let fs = both (fitting s) (all_fit (w ∷ [])) fe.1 in
    let fw = both (fitting w) true fs.1 in
    by_cases (distinct (n ++ (e ++ (s ++ w))))
    (λ t.
    let g : Some (record { north = hand_bits n; east = hand_bits e; south = hand_bits s; west = hand_bits w }) ≡ Some h = rw t at q in
    let k : record { north = hand_bits n; east = hand_bits e; south = hand_bits s; west = hand_bits w } ≡ h = cc in
    rw (sym k) (totals_proper n e s w t fn.0 fe.0 fs.0 fw.0))
    (λ t. never_dealt (rw t at q))

four_proper : (o : Option (List (List ℕ))) {h : Hands} → fit_all o ≡ true → four_hands o ≡ Some h → Proper h
four_proper None f q = never_dealt q
four_proper (Some []) f q = never_dealt q
four_proper (Some (n ∷ [])) f q = never_dealt q
four_proper (Some (n ∷ e ∷ [])) f q = never_dealt q
four_proper (Some (n ∷ e ∷ s ∷ [])) f q = never_dealt q
four_proper (Some (n ∷ e ∷ s ∷ w ∷ [])) f q = dealt_proper n e s w f q
four_proper (Some (n ∷ e ∷ s ∷ w ∷ x ∷ xs)) f q = never_dealt q

after_proper : (c : Conventions) (s : List ℕ) {h : Hands} → hands_after c s ≡ Some h → Proper h
unfolding hands_after
after_proper c s q = by_cases (starts_white s) (λ e. never_dealt (rw e at q)) (λ e. four_proper (all_named c (fields s)) (each_fits c (fields s)) (rw e at q))

pub onward_proper : (h : Hands) → Proper h → Proper (onward h)
onward_proper h p = record {
  deck = turned_deck 1 h p.deck;
  apart = λ i. omega (arith, p.apart i);
  north_few = p.west_few;
  east_few = p.north_few;
  south_few = p.east_few;
  west_few = p.south_few;
}

pub turned_proper : (seat : ℕ) (h : Hands) → Proper h → Proper (turned seat h)
turned_proper zero h p = p
turned_proper (suc seat) h p = onward_proper (turned seat h) (turned_proper seat h p)

turned_deal_proper : (seat : ℕ) (r : DealRead) {h : Hands} → ((g : Hands) → r ≡ Some g → Proper g) → turned_deal seat r ≡ Some h → Proper h
turned_deal_proper seat None f q = never_dealt q
turned_deal_proper seat (Some g) {h} f q =
    let k : turned seat g ≡ h = cc in
    rw (sym k) (turned_proper seat g (f g refl))

in_proper : (c : Conventions) (v : List ℕ) {h : Hands} → deal_in c v ≡ Some h → Proper h
in_proper c [] q = never_dealt q
in_proper c (a ∷ []) q = never_dealt q
in_proper c (a ∷ b ∷ rest) q =
    by_cases (eqb b 58)
    (λ e.
    by_cases (ltb 3 (seat_of c a))
    (λ f. never_dealt (rw (e, f) at q))
    (λ f. turned_deal_proper (seat_of c a) (hands_after c rest) (λ g k. after_proper c rest k) (rw (e, f) at q)))
    (λ e. never_dealt (rw e at q))

-- Whatever is read as a deal is one.
pub DealProper : (c : Conventions) (value : List ℕ) {h : Hands} → deal_of c value ≡ Some h → Proper h
unfolding deal_of
DealProper c value q = in_proper c (trimmed value) q

-- A whole deal has 13 cards in each hand.
pub WholeHands : (h : Hands) → whole_hands h ≡ true → (card_count h.north ≡ 13) × (card_count h.east ≡ 13) × (card_count h.south ≡ 13) × (card_count h.west ≡ 13)
unfolding whole_hands
WholeHands h e =
    let a = both ((eqb (card_count h.north) 13 && eqb (card_count h.east) 13) && eqb (card_count h.south) 13) (eqb (card_count h.west) 13) e in
    let b = both (eqb (card_count h.north) 13 && eqb (card_count h.east) 13) (eqb (card_count h.south) 13) a.0 in
    let d = both (eqb (card_count h.north) 13) (eqb (card_count h.east) 13) b.0 in
    (eqb-true (card_count h.north) 13 d.0, eqb-true (card_count h.east) 13 d.1, eqb-true (card_count h.south) 13 b.1, eqb-true (card_count h.west) 13 a.1)

-- ---- words

word_pair : (x : ℕ) → from_words (x % 4294967296) (x / 4294967296) ≡ x
word_pair x = omega arith

-- Hands cut into words and put together are the same hands.
pub HandsBack : (h : Hands) → hands_of_words (hand_words h) ≡ h
unfolding hands_of_words hand_words
HandsBack h = rw (word_pair h.north, word_pair h.east, word_pair h.south, word_pair h.west)

-- Words put together and cut again are the same words.
pub WordsBack : (a b c d e f g k : ℕ) → a < 4294967296 → c < 4294967296 → e < 4294967296 → g < 4294967296
    → hand_words (hands_of_words (a ∷ b ∷ c ∷ d ∷ e ∷ f ∷ g ∷ k ∷ [])) ≡ a ∷ b ∷ c ∷ d ∷ e ∷ f ∷ g ∷ k ∷ []
unfolding hands_of_words hand_words
WordsBack a b c d e f g k ha hc he hg =
    rw (low a b ha, high a b ha, low c d hc, high c d hc, low e f he, high e f he, low g k hg, high g k hg)
  where
    low : (x y : ℕ) → x < 4294967296 → (y * 4294967296 + x) % 4294967296 ≡ x
    low x y h = omega arith

    high : (x y : ℕ) → x < 4294967296 → (y * 4294967296 + x) / 4294967296 ≡ y
    high x y h = omega arith

-- Hands are equal exactly where their words are.
pub SameHands : (g h : Hands) → hand_words g ≡ hand_words h → g ≡ h
SameHands g h e = sym (HandsBack g) ∙ ap hands_of_words e ∙ HandsBack h
