-- A deal that was written, from any seat, is read back; and what bytes it is written with.
use Prim.Native.Nat.{ℕ, zero, suc, ◌+◌, ◌-◌, ◌*◌, ◌^◌, ◌≤◌, ◌<◌}
use mathlib.Core.Path.{◌≡◌, refl, ap, ◌∙◌}
use mathlib.Core.Bool.{Bool, true, false, cond, not, ◌&&◌, ◌||◌}
use mathlib.Core.List.{List, [], ◌∷◌, ◌++◌, append_assoc, append-nil}
use native.Mathlib.Omega.{arith}
use lib.Dec.{eqb, ltb, leb}
use lib.ListN.{length, get_or, length-append}
use borrow.Author.Tests.{eqb-true, ne_eqb, ltb-true, ltb-false, le-ltb, le-leb, not-true}
use Rattle.tables.specs.declared.letters.Conventions.{Conventions}
use Rattle.tables.specs.Text.{is_white, is_word, keep_end, trim_end, trimmed, fields}
use Rattle.tables.specs.Letters.{Accepted, seat_letter, rank_letter, every, distinct, is_plain}
use Rattle.tables.proofs.Laws.{by_cases, both, neither}
use Rattle.tables.proofs.LetterLaws.{letter_plain, seat_back, rank_back}
use Rattle.tables.proofs.RowLaws.{every_append, field_then, field_last}
use Rattle.tables.proofs.Digits.{at_each}
use Rattle.tables.proofs.RowLaws.{plain_word}
use Rattle.reader.specs.declared.deal.Hands.{Hands}
use Rattle.std.specs.Prelude.{Option, Some}
use Rattle.reader.specs.Deals.{has, card_count, card_before, cards_from_suit, is_dash, cards_named, starts_white, hands_after, card_text, onward, turned, deal_in, deal_of, Proper, ranks_text, suit_text, hand_text, back, clockwise, hands_text, deal_text}
use Rattle.reader.proofs.DealLaws.{DealProper}
use Rattle.reader.proofs.CardSets.{down, down_none, down_more, down_zero, total_deck, times_deck, times_append, times_distinct, count_down}

-- ---- bytes

plain_facts : (b : ℕ) → is_plain b ≡ true → (is_white b ≡ false) × (eqb b 34 ≡ false) × (eqb b 91 ≡ false) × (eqb b 93 ≡ false) × (eqb b 46 ≡ false)
unfolding is_plain
plain_facts b e =
    let w = neither (is_white b) _ (not-true (is_white b || (eqb b 34 || (eqb b 91 || (eqb b 93 || (eqb b 58 || (eqb b 46 || (leb 48 b && leb b 57))))))) e) in
    let q = neither (eqb b 34) (eqb b 91 || (eqb b 93 || (eqb b 58 || (eqb b 46 || (leb 48 b && leb b 57))))) w.1 in
    let o = neither (eqb b 91) (eqb b 93 || (eqb b 58 || (eqb b 46 || (leb 48 b && leb b 57)))) q.1 in
    let s = neither (eqb b 93) (eqb b 58 || (eqb b 46 || (leb 48 b && leb b 57))) o.1 in
    let k = neither (eqb b 58) (eqb b 46 || (leb 48 b && leb b 57)) s.1 in
    let d = neither (eqb b 46) (leb 48 b && leb b 57) k.1 in
    (w.0, q.0, o.0, s.0, d.0)

-- A test that holds of letters and of the digits 2 to 9 holds of each rank's letter.
rank_every : (c : Conventions) → Accepted c → (p : ℕ → Bool) → ((b : ℕ) → is_plain b ≡ true → p b ≡ true) → ((r : ℕ) → r < 8 → p (50 + r) ≡ true) → (r : ℕ) → r < 13 → p (rank_letter c r) ≡ true
rank_every c ok p plain spot r h =
    by_cases (ltb r 8)
    (λ t. rw t (spot r (ltb-true r 8 t)))
    (λ t. let g = ltb-false r 8 t in rw t (plain (get_or c.letters (20 - r) 0) (letter_plain c ok (20 - r) (omega arith))))

-- A hand's text is letters, digits 2 to 9, dots, or a dash; a deal's has blanks and a colon besides.
module _ (c : Conventions) (ok : Accepted c) (p : ℕ → Bool) (plain : (b : ℕ) → is_plain b ≡ true → p b ≡ true) (spot : (r : ℕ) → r < 8 → p (50 + r) ≡ true) (dot : p 46 ≡ true) where
  ranks_every : (s r x : ℕ) → r ≤ 13 → every p (ranks_text c s r x) ≡ true
  unfolding ranks_text card_text
  ranks_every s zero x h = refl
  ranks_every s (suc r) x h =
      let i = ranks_every s r x (omega arith) in
      by_cases (has (13 * s + r) x)
      (λ t. rw (t, rank_every c ok p plain spot r (omega arith)) i)
      (λ t. rw t i)

  suit_every : (s x : ℕ) → every p (suit_text c s x) ≡ true
  unfolding suit_text
  suit_every s x = ranks_every s 13 x (omega arith)

  dash_every : every p (45 ∷ []) ≡ true
  unfolding is_plain is_white
  dash_every = rw (plain 45 refl)

  dot_every : every p (46 ∷ []) ≡ true
  dot_every = rw dot

  pub HandBytes : (x : ℕ) → every p (hand_text c x) ≡ true
  unfolding hand_text
  HandBytes x =
      let s3 = suit_every 3 x in
      let s2 = suit_every 2 x in
      let s1 = suit_every 1 x in
      let s0 = suit_every 0 x in
      let a = every_append p (suit_text c 3 x) (46 ∷ []) s3 dot_every in
      let b = every_append p (suit_text c 3 x ++ (46 ∷ [])) (suit_text c 2 x) a s2 in
      let d = every_append p (suit_text c 3 x ++ (46 ∷ []) ++ suit_text c 2 x) (46 ∷ []) b dot_every in
      let e = every_append p (suit_text c 3 x ++ (46 ∷ []) ++ suit_text c 2 x ++ (46 ∷ [])) (suit_text c 1 x) d s1 in
      let f = every_append p (suit_text c 3 x ++ (46 ∷ []) ++ suit_text c 2 x ++ (46 ∷ []) ++ suit_text c 1 x) (46 ∷ []) e dot_every in
      let g = every_append p (suit_text c 3 x ++ (46 ∷ []) ++ suit_text c 2 x ++ (46 ∷ []) ++ suit_text c 1 x ++ (46 ∷ [])) (suit_text c 0 x) f s0 in
      by_cases (eqb x 0) (λ t. rw t dash_every) (λ t. rw t g)

  hands_every : p 32 ≡ true → (h : Hands) → every p (hands_text c h) ≡ true
  hands_every blank h =
      let k : every p (32 ∷ []) ≡ true = rw blank in
      let n = hand_text c h.north in
      let e = hand_text c h.east in
      let s = hand_text c h.south in
      let w = hand_text c h.west in
      let a = every_append p n (32 ∷ []) (HandBytes h.north) k in
      let b = every_append p (n ++ (32 ∷ [])) e a (HandBytes h.east) in
      let d = every_append p (n ++ (32 ∷ []) ++ e) (32 ∷ []) b k in
      let f = every_append p (n ++ (32 ∷ []) ++ e ++ (32 ∷ [])) s d (HandBytes h.south) in
      let g = every_append p (n ++ (32 ∷ []) ++ e ++ (32 ∷ []) ++ s) (32 ∷ []) f k in
      every_append p (n ++ (32 ∷ []) ++ e ++ (32 ∷ []) ++ s ++ (32 ∷ [])) w g (HandBytes h.west)

  pub DealBytes : p 32 ≡ true → p 58 ≡ true → (seat : ℕ) → seat < 4 → (h : Hands) → every p (deal_text c seat h) ≡ true
  unfolding deal_text
  DealBytes blank colon seat l h = rw (plain (get_or c.letters seat 0) (letter_plain c ok seat (omega arith)), colon) (hands_every blank (clockwise seat h))

-- What may stand in a tag's value: no LF, quote or bracket.
abbrev pub in_value : ℕ → Bool
in_value b = not (eqb b 10 || (eqb b 34 || (eqb b 91 || eqb b 93)))

line_white : (b : ℕ) → is_white b ≡ false → eqb b 10 ≡ false
unfolding is_white
line_white b e = ne_eqb b 10 (λ k. let z : ◌≡◌ {A = Bool} true false = rw k at e in let o : ◌≡◌ {A = ℕ} 0 1 = cc in omega arith)

plain_in_value : (b : ℕ) → is_plain b ≡ true → in_value b ≡ true
plain_in_value b e =
    let f = plain_facts b e in
    rw (line_white b f.0, f.1, f.2, f.3)

pub DealInValue : (c : Conventions) → Accepted c → (seat : ℕ) → seat < 4 → (h : Hands) → every in_value (deal_text c seat h) ≡ true
DealInValue c ok seat l h = DealBytes c ok in_value plain_in_value (λ r k. at_each (λ n. in_value (50 + n)) 8 refl r k) refl refl refl seat l h

-- ---- words and blanks

spot_word : (r : ℕ) → r < 8 → is_word (50 + r) ≡ true
unfolding is_white
spot_word r h = at_each (λ n. is_word (50 + n)) 8 refl r h

dot_word : is_word 46 ≡ true
unfolding is_white
dot_word = refl

pub hand_word : (c : Conventions) → Accepted c → (x : ℕ) → every is_word (hand_text c x) ≡ true
hand_word c ok x = HandBytes c ok is_word plain_word spot_word dot_word x

pub hand_some : (c : Conventions) (x : ℕ) → 0 < length (hand_text c x)
unfolding hand_text
hand_some c x = by_cases (eqb x 0) (λ t. rw t (omega arith)) (λ t. rw t (simp length-append (omega arith)))

starts_word : (l r : List ℕ) → 0 < length l → every is_word l ≡ true → starts_white (l ++ r) ≡ false
starts_word [] r h e = absurd (omega arith)
starts_word (b ∷ bs) r h e = not-true (is_white b) (both (is_word b) (every is_word bs) e).0

fields_then : (l rest : List ℕ) → 0 < length l → every is_word l ≡ true → fields (l ++ 32 ∷ rest) ≡ l ∷ fields rest
fields_then [] rest h e = absurd (omega arith)
fields_then (a ∷ w) rest h e = field_then a w rest e

fields_last : (l : List ℕ) → 0 < length l → every is_word l ≡ true → fields l ≡ l ∷ []
fields_last [] h e = absurd (omega arith)
fields_last (a ∷ w) h e = field_last a w e

keep_some : (b : ℕ) (l : List ℕ) → 0 < length l → keep_end b l ≡ b ∷ l
keep_some b [] h = absurd (omega arith)
keep_some b (d ∷ ds) h = refl

trim_word : (l : List ℕ) → every is_word l ≡ true → trim_end l ≡ l
trim_word [] e = refl
trim_word (b ∷ []) e = rw (not-true (is_white b) (both (is_word b) true e).0)
trim_word (b ∷ d ∷ ds) e = rw (trim_word (d ∷ ds) (both (is_word b) (every is_word (d ∷ ds)) e).1)

trim_after : (l m : List ℕ) → 0 < length m → every is_word m ≡ true → trim_end (l ++ m) ≡ l ++ m
trim_after [] m h e = trim_word m e
trim_after (b ∷ bs) m h e = rw (trim_after bs m h e) (keep_some b (bs ++ m) (simp length-append (omega arith)))

-- ---- a hand is read back

-- The cards of a suit whose ranks are below r, from high to low.
unfoldable suit_down : ℕ → ℕ → ℕ → List ℕ
suit_down s zero x = []
suit_down s (suc r) x = cond (has (13 * s + r) x) ((13 * s + r) ∷ suit_down s r x) (suit_down s r x)

down_suit : (s r x : ℕ) → down (13 * s + r) x ≡ suit_down s r x ++ down (13 * s) x
unfolding suit_down
down_suit s zero x =
    let e : 13 * s + 0 ≡ 13 * s = omega arith in
    rw e
down_suit s (suc r) x =
    let e : 13 * s + suc r ≡ suc (13 * s + r) = omega arith in
    rw (e, down_more (13 * s + r) x) (by_cases (has (13 * s + r) x) (λ t. rw (t, down_suit s r x)) (λ t. rw t (down_suit s r x)))

abbrev with_cards : List ℕ → Option (List ℕ) → Option (List ℕ)
with_cards [] o = o
with_cards (k ∷ ks) o = card_before k (with_cards ks o)

with_some : (ks ds : List ℕ) → with_cards ks (Some ds) ≡ Some (ks ++ ds)
with_some [] ds = refl
with_some (k ∷ ks) ds = rw (with_some ks ds)

no_dash : (t : List ℕ) → 1 < length t → is_dash t ≡ false
no_dash [] h = refl
no_dash (a ∷ []) h = absurd (omega arith)
no_dash (a ∷ b ∷ bs) h = refl

module _ (c : Conventions) (ok : Accepted c) where
  rank_no_dot : (r : ℕ) → r < 13 → eqb (rank_letter c r) 46 ≡ false
  rank_no_dot r h = not-true (eqb (rank_letter c r) 46) (rank_every c ok (λ b. not (eqb b 46)) (λ b e. rw (plain_facts b e).4) (λ n k. at_each (λ m. not (eqb (50 + m) 46)) 8 refl n k) r h)

  cards_ranks : (s r x : ℕ) (rest : List ℕ) → r ≤ 13 → cards_from_suit c (ranks_text c s r x ++ rest) s ≡ with_cards (suit_down s r x) (cards_from_suit c rest s)
  unfolding ranks_text card_text suit_down
  cards_ranks s zero x rest h = refl
  cards_ranks s (suc r) x rest h =
      let i = cards_ranks s r x rest (omega arith) in
      let n : eqb r 13 ≡ false = ne_eqb r 13 (λ z. omega arith) in
      by_cases (has (13 * s + r) x)
      (λ t. rw (t, rank_no_dot r (omega arith), rank_back c ok r (omega arith), n, i))
      (λ t. rw t i)

  cards_suit : (s x : ℕ) (rest : List ℕ) → cards_from_suit c (suit_text c s x ++ rest) s ≡ with_cards (suit_down s 13 x) (cards_from_suit c rest s)
  unfolding suit_text
  cards_suit s x rest = cards_ranks s 13 x rest (omega arith)

  -- The text of a hand that has a card.
  abbrev full : ℕ → List ℕ
  full x = suit_text c 3 x ++ (46 ∷ (suit_text c 2 x ++ (46 ∷ (suit_text c 1 x ++ (46 ∷ (suit_text c 0 x ++ []))))))

  full_cards : (x : ℕ) → cards_from_suit c (full x) 3 ≡ Some (down 52 x)
  full_cards x =
      let d3 : down 52 x ≡ suit_down 3 13 x ++ down 39 x = down_suit 3 13 x in
      let d2 : down 39 x ≡ suit_down 2 13 x ++ down 26 x = down_suit 2 13 x in
      let d1 : down 26 x ≡ suit_down 1 13 x ++ down 13 x = down_suit 1 13 x in
      let d0 : down 13 x ≡ suit_down 0 13 x ++ [] = down_suit 0 13 x ∙ rw (down_none x) in
      rw (cards_suit 3 x _, cards_suit 2 x _, cards_suit 1 x _, cards_suit 0 x [], d3, d2, d1, d0, with_some (suit_down 0 13 x) [], with_some (suit_down 1 13 x) _, with_some (suit_down 2 13 x) _, with_some (suit_down 3 13 x) _)

  full_is : (x : ℕ) → suit_text c 3 x ++ (46 ∷ []) ++ suit_text c 2 x ++ (46 ∷ []) ++ suit_text c 1 x ++ (46 ∷ []) ++ suit_text c 0 x ≡ full x
  full_is x = simp (append_assoc, append-nil)

  full_long : (x : ℕ) → 1 < length (full x)
  full_long x = simp length-append (omega arith)

  -- A written hand names its cards.
  hand_named : (x : ℕ) → x < 2 ^ 52 → card_count x ≤ 13 → cards_named c (hand_text c x) ≡ Some (down 52 x)
  unfolding cards_named hand_text
  hand_named x h few =
      by_cases (eqb x 0)
      (λ e. rw (e, eqb-true x 0 e, down_zero 52))
      (λ e. rw (e, full_is x, no_dash (full x) (full_long x), full_cards x, le-leb (length (down 52 x)) 13 (rw (count_down x h) few)))

  -- ---- four hands are read back

  hands_right : (h : Hands) → hands_text c h ≡ hand_text c h.north ++ (32 ∷ (hand_text c h.east ++ (32 ∷ (hand_text c h.south ++ (32 ∷ hand_text c h.west)))))
  hands_right h = simp append_assoc

  hands_fields : (h : Hands) → fields (hands_text c h) ≡ hand_text c h.north ∷ hand_text c h.east ∷ hand_text c h.south ∷ hand_text c h.west ∷ []
  hands_fields h =
      rw (hands_right h, fields_then (hand_text c h.north) _ (hand_some c h.north) (hand_word c ok h.north), fields_then (hand_text c h.east) _ (hand_some c h.east) (hand_word c ok h.east), fields_then (hand_text c h.south) _ (hand_some c h.south) (hand_word c ok h.south), fields_last (hand_text c h.west) (hand_some c h.west) (hand_word c ok h.west))

  cards_distinct : (h : Hands) → Proper h → distinct (down 52 h.north ++ (down 52 h.east ++ (down 52 h.south ++ down 52 h.west))) ≡ true
  cards_distinct h p =
      let d = p.deck in
      times_distinct (down 52 h.north ++ (down 52 h.east ++ (down 52 h.south ++ down 52 h.west)))
      (λ i.
      rw (times_append i (down 52 h.north) _, times_append i (down 52 h.east) _, times_append i (down 52 h.south) _, times_deck h.north i d.north_low, times_deck h.east i d.east_low, times_deck h.south i d.south_low, times_deck h.west i d.west_low)
      (omega (arith, p.apart i)))

  hands_back : (h : Hands) → Proper h → hands_after c (hands_text c h) ≡ Some h
  unfolding hands_after
  hands_back h p =
      let d = p.deck in
      let s : starts_white (hands_text c h) ≡ false = rw (hands_right h) (starts_word (hand_text c h.north) _ (hand_some c h.north) (hand_word c ok h.north)) in
      rw (s, hands_fields h, hand_named h.north d.north_low p.north_few, hand_named h.east d.east_low p.east_few, hand_named h.south d.south_low p.south_few, hand_named h.west d.west_low p.west_few, cards_distinct h p, total_deck h.north d.north_low, total_deck h.east d.east_low, total_deck h.south d.south_low, total_deck h.west d.west_low)

  -- ---- from any seat

  deal_trimmed : (seat : ℕ) → seat < 4 → (h : Hands) → trimmed (deal_text c seat h) ≡ deal_text c seat h
  unfolding trimmed deal_text
  deal_trimmed seat l h =
      let w = (plain_facts (get_or c.letters seat 0) (letter_plain c ok seat (omega arith))).0 in
      let g = clockwise seat h in
      rw w (trim_after (seat_letter c seat ∷ 58 ∷ (hand_text c g.north ++ (32 ∷ []) ++ hand_text c g.east ++ (32 ∷ []) ++ hand_text c g.south ++ (32 ∷ []))) (hand_text c g.west) (hand_some c g.west) (hand_word c ok g.west))

back_proper : (h : Hands) → Proper h → Proper (back h)
back_proper h p =
    let d = p.deck in
    record {
      deck = record { north_low = d.east_low; east_low = d.south_low; south_low = d.west_low; west_low = d.north_low };
      apart = λ i. omega (arith, p.apart i);
      north_few = p.east_few;
      east_few = p.south_few;
      south_few = p.west_few;
      west_few = p.north_few;
    }

clockwise_proper : (seat : ℕ) (h : Hands) → Proper h → Proper (clockwise seat h)
clockwise_proper zero h p = p
clockwise_proper (suc seat) h p = clockwise_proper seat (back h) (back_proper h p)

-- Hands taken clockwise from a seat and turned by that seat are where they were.
pub turned_clockwise : (seat : ℕ) (h : Hands) → turned seat (clockwise seat h) ≡ h
turned_clockwise zero h = refl
turned_clockwise (suc seat) h = ap onward (turned_clockwise seat (back h))

deal_in_back : (c : Conventions) → Accepted c → (seat : ℕ) → seat < 4 → (h : Hands) → Proper h → deal_in c (deal_text c seat h) ≡ Some h
unfolding deal_text
deal_in_back c ok seat l h p = rw (seat_back c ok seat l, le-ltb 3 seat (omega arith), hands_back c ok (clockwise seat h) (clockwise_proper seat h p), turned_clockwise seat h)

-- A deal that was written from any seat, by any accepted letters, is read back.
pub DealBack : (c : Conventions) → Accepted c → (seat : ℕ) → seat < 4 → (h : Hands) → Proper h → deal_of c (deal_text c seat h) ≡ Some h
unfolding deal_of
DealBack c ok seat l h p = rw (deal_trimmed c ok seat l h) (deal_in_back c ok seat l h p)

-- A deal that was read can be written from any seat, and is read as the same deal.
pub ReadAgain : (c d : Conventions) → Accepted c → (seat : ℕ) → seat < 4 → (value : List ℕ) {h : Hands} → deal_of d value ≡ Some h → deal_of c (deal_text c seat h) ≡ Some h
ReadAgain c d ok seat l value {h} e = DealBack c ok seat l h (DealProper d value e)

-- ---- for writers: one rank at a time, and lengths

pub ranks_more : (c : Conventions) (s r x : ℕ) → 0 < r → ranks_text c s r x ≡ card_text c s (r - 1) x ++ ranks_text c s (r - 1) x
unfolding ranks_text
ranks_more c s zero x h = absurd (omega arith)
ranks_more c s (suc r) x h =
    let e : suc r - 1 ≡ r = omega arith in
    rw e

pub ranks_none : (c : Conventions) (s r x : ℕ) → r ≡ 0 → ranks_text c s r x ≡ []
unfolding ranks_text
ranks_none c s r x e = rw e

ranks_few : (c : Conventions) (s r x : ℕ) → length (ranks_text c s r x) ≤ r
unfolding ranks_text card_text
ranks_few c s zero x = omega arith
ranks_few c s (suc r) x =
    let i = ranks_few c s r x in
    rw length-append (by_cases (has (13 * s + r) x) (λ e. rw e (omega arith)) (λ e. rw e (omega arith)))

pub suit_few : (c : Conventions) (s x : ℕ) → length (suit_text c s x) ≤ 13
unfolding suit_text
suit_few c s x = ranks_few c s 13 x

pub hand_few : (c : Conventions) (x : ℕ) → length (hand_text c x) ≤ 55
unfolding hand_text
hand_few c x =
    by_cases (eqb x 0)
    (λ t. rw t (omega arith))
    (λ t. rw t (simp length-append (omega (arith, suit_few c 3 x, suit_few c 2 x, suit_few c 1 x, suit_few c 0 x))))

pub hands_few : (c : Conventions) (h : Hands) → length (hands_text c h) ≤ 223
hands_few c h = simp length-append (omega (arith, hand_few c h.north, hand_few c h.east, hand_few c h.south, hand_few c h.west))

pub deal_few : (c : Conventions) (seat : ℕ) (h : Hands) → length (deal_text c seat h) ≤ 225
unfolding deal_text
deal_few c seat h = omega (arith, hands_few c (clockwise seat h))
