-- Laws of reading the deal of a board: the code's steps are the cards of the fields, placed one after the other; the fourth hand is what the
-- other three do not hold.
use Prim.Native.Nat.{ℕ, zero, suc, ◌+◌, ◌-◌, ◌*◌, ◌/◌, ◌^◌, ◌≤◌, ◌<◌}
use mathlib.Core.Path.{◌≡◌, refl, sym, ap, ◌∙◌}
use mathlib.Core.Bool.{Bool, true, false, cond, not, ◌&&◌, ◌||◌}
use mathlib.Core.List.{List, [], ◌∷◌, ◌++◌}
use native.Mathlib.Omega.{arith}
use native.Mathlib.Nat.{pow-succ', one-le-pow}
use lib.Dec.{eqb, ltb}
use lib.ListN.{length, drop, get_or}
use borrow.Author.Tests.{lt-ltb, ltb-true, ltb-false, ne_eqb, leb-true}
use Rattle.tables.specs.declared.letters.Conventions.{Conventions}
use Rattle.tables.specs.Text.{before, prepend, single, starts, characters, first_character, trimmed}
use Rattle.tables.specs.Letters.{suit_of, rank_of, among, distinct, every}
use Rattle.tables.proofs.Laws.{by_cases, both, clash}
use Rattle.tables.proofs.RowLaws.{every_append}
use Rattle.std.specs.Prelude.{Option, Some, None, option_and_then, unwrap_or}
use Rattle.reader.specs.declared.deal.Hands.{Hands}
use Rattle.reader.specs.Words.{card_number}
use Rattle.reader.specs.Deals.{bit, has, hand_bits, ones, card_count, Proper}
use Rattle.reader.specs.DealSteps.{HandRead, place, IsGrown}
use Rattle.reader.proofs.DealLaws.{never_held, all_dealt}
use Rattle.reader.proofs.CardSets.{bit_small, bit_high, times, times_append, distinct_times, times_distinct, distinct_front, distinct_back, bit_total, in_pack, total_below, count_total, count_deck, place_all, place_sum, place_append, down, down_none, down_more, total_deck, times_deck, count_down, among_times}
use Rattle.lin.specs.declared.dealing.LinDealing.{LinDealing}
use Rattle.lin.specs.declared.pairs.Command.TheVariants.{Md}
use Rattle.lin.specs.Pairs.{parts, Pair, is_pair}
use Rattle.lin.specs.Dealing.{Dealing, no_dealing, dealer_of, hand_cards, hand_of, unheld, is_thirteen, east_of, dealt_by, dealing_in, dealing_from, all_cards, has_card, is_hand, is_deal, dealt_hands}
use Rattle.lin.specs.DealingSteps.{letter_step, hand_run, start_part, are_few, field_first, fields_behind, dealt_as, hands_dealt, fields_dealt, told, told_in}
use Rattle.lin.specs.PieceSteps.{any_bits}

-- ---- a hand

hand_run_lem : (c : Conventions) (x : ℕ) (s : Option ℕ) (bs : List ℕ) → hand_run c (record { cards = x; suit = s }) bs ≡ place x (hand_cards c (unwrap_or s 4) bs)
unfolding letter_step
hand_run_lem c x s [] = refl
hand_run_lem c x s (b ∷ bs) =
    by_cases (ltb (suit_of c b) 4)
    (λ t. rw t (hand_run_lem c x (Some (suit_of c b)) bs))
    (λ t.
    let k = card_number (unwrap_or s 4) (rank_of c b) in
    by_cases (ltb k 52)
    (λ u. by_cases (has k x) (λ h. rw (t, u, h)) (λ h. rw (t, u, h) (hand_run_lem c (x + 2 ^ k) s bs)))
    (λ u. rw (t, u) (hand_run_lem c x s bs)))

-- A field without a byte.
pub hand_none : (c : Conventions) (x : ℕ) (s : List ℕ) → length s ≡ 0 → Some x ≡ place x (hand_of c s)
unfolding hand_of
hand_none c x [] h = refl
hand_none c x (b ∷ bs) h = absurd (omega arith)

-- Its first character, and the others.
characters_some : (s : List ℕ) → (length s ≡ 0 → ⊥) → characters s ≡ first_character s ∷ starts (drop 1 s)
characters_some [] h = absurd (h refl)
characters_some (b ∷ bs) h = refl

pub hand_some : (c : Conventions) (x : ℕ) (s : List ℕ) → (length s ≡ 0 → ⊥)
    → option_and_then (λ g. hand_run c g (starts (drop 1 s))) (letter_step c (start_part x) (first_character s)) ≡ place x (hand_of c s)
unfolding hand_of
hand_some c x s h = ap (λ (l : List ℕ). hand_run c (start_part x) l) (sym (characters_some s h)) ∙ hand_run_lem c x None (characters s)

-- ---- fields

prepend_first : (b : ℕ) (ps : List (List ℕ)) → get_or (prepend b ps) 0 [] ≡ b ∷ get_or ps 0 []
prepend_first b [] = refl
prepend_first b (p ∷ ps) = refl

prepend_next : (b k : ℕ) (ps : List (List ℕ)) → get_or (prepend b ps) (suc k) [] ≡ get_or ps (suc k) []
prepend_next b k [] = refl
prepend_next b k (p ∷ ps) = refl

field_first_lem : (s : List ℕ) → get_or (parts 44 s) 0 [] ≡ field_first s
field_first_lem [] = refl
field_first_lem (b ∷ bs) = by_cases (eqb b 44) (λ e. rw e) (λ e. rw (e, prepend_first b (parts 44 bs), field_first_lem bs))

none_at : (k : ℕ) → get_or (parts 44 []) k [] ≡ []
none_at zero = refl
none_at (suc k) = refl

field_next : (s : List ℕ) (k : ℕ) → get_or (parts 44 s) (suc k) [] ≡ get_or (parts 44 (fields_behind s)) k []
field_next [] k = sym (none_at k)
field_next (b ∷ bs) k =
    let d : suc (length (before 44 bs)) + 1 ≡ suc (length (before 44 bs) + 1) = omega arith in
    by_cases (eqb b 44) (λ e. rw e) (λ e. rw (e, prepend_next b k (parts 44 bs), field_next bs k, d))

-- The hands of a value's first four fields.
pub fields_read : (c : Conventions) (s : List ℕ)
    → hands_dealt c (field_first s) (field_first (fields_behind s)) (field_first (fields_behind (fields_behind s))) (field_first (fields_behind (fields_behind (fields_behind s))))
    ≡ fields_dealt c s
unfolding hands_dealt fields_dealt
fields_read c s =
    let t = fields_behind s in
    let u = fields_behind t in
    let v = fields_behind u in
    let a = field_first_lem s in
    let b = field_next s 0 ∙ field_first_lem t in
    let d = field_next s 1 ∙ field_next t 0 ∙ field_first_lem u in
    let e = field_next s 2 ∙ field_next t 1 ∙ field_next u 0 ∙ field_first_lem v in
    rw (a, b, d, e)

-- ---- the fourth hand

-- The cards that x has not.
bit_rest : (n k x : ℕ) → k < n → x < 2 ^ n → bit k (2 ^ n - 1 - x) ≡ 1 - bit k x
bit_rest zero k x h hx = absurd (omega arith)
bit_rest (suc n) zero x h hx =
    let h' : x < 2 * 2 ^ n = rw pow-succ' at hx in
    rw pow-succ' (omega arith)
bit_rest (suc n) (suc k) x h hx =
    let h' : x < 2 * 2 ^ n = rw pow-succ' at hx in
    let q : (2 * 2 ^ n - 1 - x) / 2 ≡ 2 ^ n - 1 - x / 2 = omega arith in
    rw (pow-succ', q) (bit_rest n k (x / 2) (omega arith) (omega arith))

ones_rest : (n x : ℕ) → x < 2 ^ n → ones n (2 ^ n - 1 - x) + ones n x ≡ n
unfolding ones
ones_rest zero x hx = refl
ones_rest (suc n) x hx =
    let h' : x < 2 * 2 ^ n = rw pow-succ' at hx in
    let q : (2 * 2 ^ n - 1 - x) / 2 ≡ 2 ^ n - 1 - x / 2 = omega arith in
    rw (pow-succ', q) (omega (arith, ones_rest n (x / 2) (omega arith)))

-- How often a card stands among cards.
among_some : (i : ℕ) (ks : List ℕ) → among i ks ≡ true → 1 ≤ times i ks
among_some i [] e = clash e
among_some i (k ∷ ks) e = by_cases (eqb k i) (λ t. rw t (omega arith)) (λ t. rw t (among_some i ks (rw t at e)))

among_is : (i : ℕ) (ks : List ℕ) → distinct ks ≡ true → bit i (hand_bits ks) ≡ cond (among i ks) 1 0
among_is i ks d =
    rw (bit_total ks d i)
    (by_cases (among i ks)
    (λ t. rw t (omega (arith, among_some i ks t, distinct_times ks d i)))
    (λ t. rw t (among_times i ks t)))

-- Of cards below 52 that stand once each: the others.
module _ (held : List ℕ) (d : distinct held ≡ true) (f : every in_pack held ≡ true) where
  has_rest : (k : ℕ) → k < 52 → has k (4503599627370495 - hand_bits held) ≡ not (among k held)
  unfolding has
  has_rest k h =
      rw (bit_rest 52 k (hand_bits held) h (total_below held d f), among_is k held d)
      (by_cases (among k held) (λ t. rw t) (λ t. rw t))

  unheld_down : (k : ℕ) → k ≤ 52 → unheld held k ≡ down k (4503599627370495 - hand_bits held)
  unfolding unheld
  unheld_down zero h = sym (down_none (4503599627370495 - hand_bits held))
  unheld_down (suc k) h =
      rw (down_more k (4503599627370495 - hand_bits held), has_rest k (omega arith), unheld_down k (omega arith))
      (by_cases (among k held) (λ t. rw t) (λ t. rw t))

  unheld_bits : hand_bits (unheld held 52) ≡ 4503599627370495 - hand_bits held
  unheld_bits = rw (unheld_down 52 (omega arith)) (total_deck (4503599627370495 - hand_bits held) (omega arith))

  unheld_count : length held + length (unheld held 52) ≡ 52
  unheld_count =
      let x = hand_bits held in
      let y = 4503599627370495 - hand_bits held in
      let l = total_below held d f in
      let a : length held ≡ ones 52 x = sym (count_total held d f) ∙ count_deck x l in
      let b : length (down 52 y) ≡ ones 52 y = count_down y (omega arith) ∙ count_deck y (omega arith) in
      let s : ones 52 y + ones 52 x ≡ 52 = ones_rest 52 x l in
      rw (unheld_down 52 (omega arith)) (omega arith)

  unheld_apart : (i : ℕ) → times i held + times i (unheld held 52) ≤ 1
  unheld_apart i =
      let x = hand_bits held in
      let y = 4503599627370495 - hand_bits held in
      let l = total_below held d f in
      let a : bit i x ≡ times i held = bit_total held d i in
      let b : times i (down 52 y) ≡ bit i y = times_deck y i (omega arith) in
      rw (unheld_down 52 (omega arith))
      (by_cases (ltb i 52)
      (λ t. omega (arith, bit_rest 52 i x (ltb-true i 52 t) l, bit_small i x))
      (λ t. omega (arith, bit_high 52 i x (ltb-false i 52 t) l, bit_high 52 i y (ltb-false i 52 t) (omega arith))))

-- ---- four hands

pack_cards : (c : Conventions) (s : ℕ) (bs : List ℕ) → every in_pack (hand_cards c s bs) ≡ true
pack_cards c s [] = refl
pack_cards c s (b ∷ bs) =
    by_cases (ltb (suit_of c b) 4)
    (λ t. rw t (pack_cards c (suit_of c b) bs))
    (λ t. by_cases (ltb (card_number s (rank_of c b)) 52) (λ u. rw (t, u) (rw u (pack_cards c s bs))) (λ u. rw (t, u) (pack_cards c s bs)))

pack_hand : (c : Conventions) (field : List ℕ) → every in_pack (hand_of c field) ≡ true
unfolding hand_of
pack_hand c field = pack_cards c 4 (characters field)

abbrev of_hands : List ℕ → List ℕ → List ℕ → List ℕ → Dealing
of_hands s w n e = record { dealer = 0; north = n; east = e; south = s; west = w }

undealt : (s w n e : List ℕ) → place 0 (s ++ (w ++ (n ++ e))) ≡ None → None ≡ dealt_as (of_hands s w n e)
undealt s w n e h =
    by_cases (distinct (s ++ (w ++ (n ++ e))))
    (λ t. never_held (sym (rw (place_all (s ++ (w ++ (n ++ e))), t) at h)))
    (λ t. rw t)

pub grown_more : (x y : ℕ) (r : HandRead) → x ≤ y → IsGrown y r → IsGrown x r
grown_more x y (Some z) h g = (omega (arith, g.0), g.1)
grown_more x y None h g = tt

east_all : (c : Conventions) (e s w n : List ℕ) → (eqb (length (trimmed e)) 0 && (is_thirteen s && (is_thirteen w && is_thirteen n))) ≡ true
    → east_of c e s w n ≡ unheld (s ++ (w ++ n)) 52
unfolding east_of
east_all c e s w n t = rw t

east_named : (c : Conventions) (e s w n : List ℕ) → (eqb (length (trimmed e)) 0 && (is_thirteen s && (is_thirteen w && is_thirteen n))) ≡ false
    → east_of c e s w n ≡ hand_of c e
unfolding east_of
east_named c e s w n t = rw t

pack_unheld : (held : List ℕ) (k : ℕ) → k ≤ 52 → every in_pack (unheld held k) ≡ true
unfolding unheld
pack_unheld held zero h = refl
pack_unheld held (suc k) h =
    let i = pack_unheld held k (omega arith) in
    by_cases (among k held) (λ t. rw (t, i)) (λ t. rw (t, lt-ltb k 52 (omega arith), i))

pack_east : (c : Conventions) (e s w n : List ℕ) → every in_pack (east_of c e s w n) ≡ true
pack_east c e s w n =
    by_cases (eqb (length (trimmed e)) 0 && (is_thirteen s && (is_thirteen w && is_thirteen n)))
    (λ t. rw (east_all c e s w n t) (pack_unheld (s ++ (w ++ n)) 52 (omega arith)))
    (λ t. rw (east_named c e s w n t) (pack_hand c e))

-- The hands as they are read: a, b, d and x are the cards of one, two, three and four of them.
module _ (c : Conventions) (s w n e : List ℕ) where
  abbrev south : List ℕ
  south = hand_of c s

  abbrev west : List ℕ
  west = hand_of c w

  abbrev north : List ℕ
  north = hand_of c n

  abbrev east : List ℕ
  east = east_of c e south west north

  pub no_south : place 0 (hand_of c s) ≡ None → None ≡ hands_dealt c s w n e
  unfolding hands_dealt
  no_south h = undealt south west north east (place_append 0 south (west ++ (north ++ east)) ∙ rw h)

  module _ {a : ℕ} (f : place 0 (hand_of c s) ≡ Some a) where
    pub no_west : place a (hand_of c w) ≡ None → None ≡ hands_dealt c s w n e
    unfolding hands_dealt
    no_west h =
        undealt south west north east (place_append 0 south (west ++ (north ++ east)) ∙ rw f (place_append a west (north ++ east) ∙ rw h))

    module _ {b : ℕ} (g : place a (hand_of c w) ≡ Some b) where
      -- The cards of S and W, and more.
      two_placed : (l : List ℕ) → place 0 (south ++ (west ++ l)) ≡ place b l
      two_placed l = place_append 0 south (west ++ l) ∙ rw f (place_append a west l ∙ rw g)

      pub no_north : place b (hand_of c n) ≡ None → None ≡ hands_dealt c s w n e
      unfolding hands_dealt
      no_north h = undealt south west north east (two_placed (north ++ east) ∙ place_append b north east ∙ rw h)

      module _ {d : ℕ} (h : place b (hand_of c n) ≡ Some d) where
        three_placed : (l : List ℕ) → place 0 (south ++ (west ++ (north ++ l))) ≡ place d l
        three_placed l = two_placed (north ++ l) ∙ place_append b north l ∙ rw h

        abbrev held : List ℕ
        held = south ++ (west ++ north)

        held_placed : place 0 held ≡ Some d
        held_placed = two_placed north ∙ h

        once : distinct held ≡ true
        once = all_dealt held held_placed

        pack : every in_pack held ≡ true
        pack = every_append in_pack south (west ++ north) (pack_hand c s) (every_append in_pack west north (pack_hand c w) (pack_hand c n))

        south_is : a ≡ hand_bits south
        south_is = omega (arith, place_sum 0 south f)

        west_is : b - a ≡ hand_bits west
        west_is = omega (arith, place_sum a west g)

        north_is : d - b ≡ hand_bits north
        north_is = omega (arith, place_sum b north h)

        south_count : card_count a ≡ length south
        south_count = rw south_is (count_total south (distinct_front south (west ++ north) once) (pack_hand c s))

        west_count : card_count (b - a) ≡ length west
        west_count = rw west_is (count_total west (distinct_front west north (distinct_back south (west ++ north) once)) (pack_hand c w))

        north_count : card_count (d - b) ≡ length north
        north_count = rw north_is (count_total north (distinct_back west north (distinct_back south (west ++ north) once)) (pack_hand c n))

        -- What the three do not hold makes the pack.
        others_placed : Some 4503599627370495 ≡ place d (unheld held 52)
        others_placed =
            let u = unheld held 52 in
            let o : distinct (held ++ u) ≡ true = times_distinct (held ++ u) (λ i. omega (arith, unheld_apart held once pack i, times_append i held u)) in
            let y : place d u ≡ Some (hand_bits (held ++ u)) = sym (place_append 0 held u ∙ rw held_placed) ∙ (place_all (held ++ u) ∙ rw o) in
            sym (y ∙ ap Some (omega (arith, place_sum d u y, place_sum 0 held held_placed, unheld_bits held once pack, total_below held once pack)))

        -- East's hand, put to the three.
        pub east_placed : cond (eqb (length (trimmed e)) 0 && (eqb (card_count a) 13 && (eqb (card_count (b - a)) 13 && eqb (card_count (d - b)) 13))) (Some 4503599627370495) (place d (hand_of c e))
            ≡ place d (east_of c e (hand_of c s) (hand_of c w) (hand_of c n))
        east_placed =
            rw (south_count, west_count, north_count)
            (by_cases (eqb (length (trimmed e)) 0 && (is_thirteen south && (is_thirteen west && is_thirteen north)))
            (λ t. rw (t, east_all c e south west north t) others_placed)
            (λ t. rw (t, east_named c e south west north t)))

        pub no_east : place d (east_of c e (hand_of c s) (hand_of c w) (hand_of c n)) ≡ None → None ≡ hands_dealt c s w n e
        unfolding hands_dealt
        no_east u = undealt south west north east (three_placed east ∙ u)

        pub all_read : {x : ℕ} → place d (east_of c e (hand_of c s) (hand_of c w) (hand_of c n)) ≡ Some x
            → let r : Hands = record { north = d - b; east = x - d; south = a; west = b - a } in cond (are_few r) (Some r) None ≡ hands_dealt c s w n e
        unfolding hands_dealt
        all_read {x} u =
            let o = all_dealt (south ++ (west ++ (north ++ east))) (three_placed east ∙ u) in
            let east_is : x - d ≡ hand_bits east = omega (arith, place_sum d east u) in
            let t : distinct east ≡ true = distinct_back north east (distinct_back west (north ++ east) (distinct_back south (west ++ (north ++ east)) o)) in
            let east_count : card_count (x - d) ≡ length east = rw east_is (count_total east t (pack_east c e south west north)) in
            rw (o, south_count, west_count, north_count, east_count, west_is, north_is, east_is, south_is)

-- ---- the md in force

pub told_is : (c : Conventions) (t : LinDealing) (v : List ℕ)
    → told_in c t v ≡ cond (ltb (dealer_of (first_character v)) 4) (record { dealer = dealer_of (first_character v); hands = fields_dealt c (drop 1 v) }) t
unfolding told_in dealer_of
told_is c t [] = refl
told_is c t (b ∷ bs) = refl

pub told_in_lem : (c : Conventions) (d : Dealing) (v : List ℕ) → told_in c (told d) v ≡ told (dealing_in c d v)
unfolding told_in fields_dealt
told_in_lem c d [] = refl
told_in_lem c d (b ∷ bs) = by_cases (ltb (dealer_of (single b bs)) 4) (λ t. rw t) (λ t. rw t)

-- Hands that make a deal, and those that make none.
pub dealt_some : (d : Dealing) (h : Hands) → dealt_as d ≡ Some h → (is_deal d ≡ true) × (dealt_hands d ≡ h)
dealt_some d h e = by_cases (is_deal d) (λ t. (t, some_same (rw t at e))) (λ t. clash (sym (none_same (rw t at e))))
  where
    some_same : ◌≡◌ {A = Option Hands} (Some (dealt_hands d)) (Some h) → dealt_hands d ≡ h
    some_same z = cc

    none_same : ◌≡◌ {A = Option Hands} None (Some h) → ◌≡◌ {A = Bool} true false
    none_same z = cc

pub dealt_none : (d : Dealing) → dealt_as d ≡ None → is_deal d ≡ false
dealt_none d e = by_cases (is_deal d) (λ t. some_none (rw t at e)) (λ t. t)
  where
    some_none : ◌≡◌ {A = Option Hands} (Some (dealt_hands d)) None → is_deal d ≡ false
    some_none z = cc

-- ---- the hands of a deal

-- All cards of a dealing are cards of the pack.
pub record Packed (d : Dealing) : Type 0 where
  pub north_pack : every in_pack d.north ≡ true
  pub east_pack : every in_pack d.east ≡ true
  pub south_pack : every in_pack d.south ≡ true
  pub west_pack : every in_pack d.west ≡ true

packed_by : (c : Conventions) (dealer : ℕ) (fs : List (List ℕ)) → Packed (dealt_by c dealer fs)
packed_by c dealer fs = record {
  north_pack = pack_hand c (get_or fs 2 []);
  east_pack = pack_east c (get_or fs 3 []) (hand_of c (get_or fs 0 [])) (hand_of c (get_or fs 1 [])) (hand_of c (get_or fs 2 []));
  south_pack = pack_hand c (get_or fs 0 []);
  west_pack = pack_hand c (get_or fs 1 []);
}

packed_in : (c : Conventions) (d : Dealing) (v : List ℕ) → Packed d → Packed (dealing_in c d v)
packed_in c d [] p = p
packed_in c d (b ∷ bs) p =
    by_cases (ltb (dealer_of (single b bs)) 4)
    (λ t. rw t (packed_by c (dealer_of (single b bs)) (parts 44 bs)))
    (λ t. rw t p)

packed_from : (c : Conventions) (d : Dealing) (ps : List Pair) → Packed d → Packed (dealing_from c d ps)
packed_from c d [] p = p
packed_from c d (q ∷ ps) p =
    packed_from c (cond (is_pair Md q) (dealing_in c d (trimmed q.value)) d) ps
    (by_cases (is_pair Md q) (λ t. rw t (packed_in c d (trimmed q.value) p)) (λ t. rw t p))

few_cards : (ks : List ℕ) → distinct ks ≡ true → every in_pack ks ≡ true → is_hand ks ≡ true → card_count (hand_bits ks) ≤ 13
few_cards ks d f h = rw (count_total ks d f) (leb-true (length ks) 13 h)

pub packed_proper : (d : Dealing) → Packed d → is_deal d ≡ true → Proper (dealt_hands d)
packed_proper d p t =
    let n = d.north in
    let e = d.east in
    let s = d.south in
    let w = d.west in
    let o = both (distinct (all_cards d)) (is_hand s && (is_hand w && (is_hand n && is_hand e))) t in
    let fs = both (is_hand s) (is_hand w && (is_hand n && is_hand e)) o.1 in
    let fw = both (is_hand w) (is_hand n && is_hand e) fs.1 in
    let fn = both (is_hand n) (is_hand e) fw.1 in
    let once = o.0 in
    let ds = distinct_front s (w ++ (n ++ e)) once in
    let d1 = distinct_back s (w ++ (n ++ e)) once in
    let dw = distinct_front w (n ++ e) d1 in
    let d2 = distinct_back w (n ++ e) d1 in
    let dn = distinct_front n e d2 in
    let de = distinct_back n e d2 in
    record {
      deck = record {
        north_low = total_below n dn p.north_pack;
        east_low = total_below e de p.east_pack;
        south_low = total_below s ds p.south_pack;
        west_low = total_below w dw p.west_pack;
      };
      apart = λ i. omega (arith, distinct_times (all_cards d) once i, times_append i s (w ++ (n ++ e)), times_append i w (n ++ e), times_append i n e, bit_total n dn i, bit_total e de i, bit_total s ds i, bit_total w dw i);
      north_few = few_cards n dn p.north_pack fn.0;
      east_few = few_cards e de p.east_pack fn.1;
      south_few = few_cards s ds p.south_pack fs.0;
      west_few = few_cards w dw p.west_pack fw.0;
    }

-- So are those of a board.
pub dealing_packed : (c : Conventions) (ps : List Pair) → Packed (dealing_from c no_dealing ps)
dealing_packed c ps = packed_from c no_dealing ps (record { north_pack = refl; east_pack = refl; south_pack = refl; west_pack = refl })

-- A number is 0 where no card is in it.
bits_none : (ks : List ℕ) → eqb (hand_bits ks) 0 ≡ eqb (length ks) 0
bits_none [] = refl
bits_none (k ∷ ks) = rw (ne_eqb (2 ^ k + hand_bits ks) 0 (λ z. omega (arith, one-le-pow k 2 (omega arith))), ne_eqb (suc (length ks)) 0 (λ z. omega arith))

none_append : (a b : List ℕ) → eqb (length (a ++ b)) 0 ≡ (eqb (length a) 0 && eqb (length b) 0)
none_append [] b = refl
none_append (k ∷ ks) b = rw (ne_eqb (suc (length (ks ++ b))) 0 (λ z. omega arith), ne_eqb (suc (length ks)) 0 (λ z. omega arith))

not_all : (s w n e : Bool) → (not n || (not e || (not s || not w))) ≡ not (s && (w && (n && e)))
not_all true true true true = refl
not_all true true true false = refl
not_all true true false e = refl
not_all true false true true = refl
not_all true false true false = refl
not_all true false false e = refl
not_all false w true true = refl
not_all false w true false = refl
not_all false w false e = refl

pub any_card_lem : (d : Dealing) → any_bits (dealt_hands d) ≡ has_card d
unfolding any_bits
any_card_lem d =
    rw (bits_none d.north, bits_none d.east, bits_none d.south, bits_none d.west, none_append d.south (d.west ++ (d.north ++ d.east)), none_append d.west (d.north ++ d.east), none_append d.north d.east)
    (not_all (eqb (length d.south) 0) (eqb (length d.west) 0) (eqb (length d.north) 0) (eqb (length d.east) 0))
