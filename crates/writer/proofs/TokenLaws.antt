-- Laws of words, deals, auctions and plays as they are put.
use Prim.Native.Nat.{ℕ, min, suc, ◌+◌, ◌-◌, ◌*◌, ◌≤◌, ◌<◌}
use mathlib.Core.Path.{◌≡◌, refl, sym, ap, ◌∙◌}
use mathlib.Core.Bool.{Bool, true, false, cond, ◌&&◌}
use mathlib.Core.List.{List, [], ◌∷◌, ◌++◌, append-nil}
use native.Mathlib.Numerals.{add-one}
use native.Mathlib.Omega.{arith}
use lib.Dec.{eqb, ltb}
use lib.ListN.{length, drop, get_or, replicate}
use lib.Seq.{drop-cons}
use borrow.Author.Tests.{eqb-true, le-ltb, lt-ltb, ltb-false, ltb-true, ne_eqb}
use Rattle.tables.specs.declared.letters.Conventions.{Conventions}
use Rattle.tables.specs.Letters.{rank_letter}
use Rattle.tables.specs.Tables.{digit_byte, digits_text}
use Rattle.tables.proofs.Laws.{both, by_cases}
use Rattle.reader.specs.Words.{call_token}
use Rattle.reader.specs.Plain.{Item}
use Rattle.reader.specs.Deals.{has, card_text, ranks_text}
use Rattle.reader.proofs.DealBack.{ranks_more}
use Rattle.tables.specs.declared.page.Page.{Page}
use Rattle.tables.specs.Puts.{Puts}
use Rattle.tables.proofs.PutsLaws.{PutsLeft, puts_next, puts_same, puts_all}
use Rattle.writer.specs.declared.items.Items.{Items}
use Rattle.writer.specs.Held.{place_bytes, card_word, card_part}
use Rattle.writer.specs.Items.{items_of, item_of, IsNextEntry, before_call, calls_text, last_code, one_more_card, four_slots, slot_text, slots_text, tricks_text}
use Rattle.writer.proofs.RemarkLaws.{items_next, first_item}

-- All that is left is put.
pub puts_last : {p₀ : Page} {bs : List ℕ} {p : Page} (xs : List ℕ) {q : Page} → PutsLeft p₀ bs p xs → Puts p xs q → Puts p₀ bs q
puts_last xs t a = puts_all (puts_next xs [] (puts_same (sym (append-nil xs)) t) a)

-- ---- the same byte in a row

pub repeat_step : (i n b : ℕ) → i < n → replicate (n - i) b ≡ (b ∷ []) ++ replicate (n - (i + 1)) b
repeat_step i n b h =
    let q : n - i ≡ suc (n - (i + 1)) = omega arith in
    rw q

pub repeat_none : (i n b : ℕ) → n ≤ i → replicate (n - i) b ≡ []
repeat_none i n b h =
    let q : n - i ≡ 0 = omega arith in
    rw q

-- ---- words of a card in a row

pub least_digit : (w : ℕ) → digit_byte (min w 13) ≡ digit_byte w
unfolding digit_byte
least_digit w =
    by_cases (ltb w 13)
    (λ t.
    let z : min w 13 ≡ w = omega (arith, ltb-true w 13 t) in
    rw z)
    (λ t.
    let h = ltb-false w 13 t in
    let z : min w 13 ≡ 13 = omega (arith, h) in
    rw (z, le-ltb w 10 (omega (arith, h)), le-ltb w 13 h))

pub digits_step : (cards : List ℕ) (k i n : ℕ) → i < n → digits_text (card_part cards k i (n - i)) ≡ (digit_byte (card_word cards k i) ∷ []) ++ digits_text (card_part cards k (i + 1) (n - (i + 1)))
digits_step cards k i n h =
    let q : n - i ≡ suc (n - (i + 1)) = omega arith in
    rw q

pub digits_none : (cards : List ℕ) (k i n : ℕ) → n ≤ i → digits_text (card_part cards k i (n - i)) ≡ []
digits_none cards k i n h =
    let q : n - i ≡ 0 = omega arith in
    rw q

-- ---- slots of a trick

slots_step : (c : Conventions) (n : ℕ) (ks : List ℕ) (i : ℕ) → i < length ks
    → slots_text c n (drop i ks) ≡ slot_text c n (get_or ks i 0) ++ slots_text c (one_more_card n (get_or ks i 0)) (drop (i + 1) ks)
slots_step c n ks i h = rw (add-one i, drop-cons ks i 0 h)

pub slots_put : (c : Conventions) (n : ℕ) (ks : List ℕ) (i : ℕ) → i < length ks → get_or ks i 0 < 52
    → slots_text c n (drop i ks) ≡ slot_text c n (get_or ks i 0) ++ slots_text c (n + 1) (drop (i + 1) ks)
slots_put c n ks i h q = slots_step c n ks i h ∙ rw (lt-ltb _ _ q)

pub slots_pass : (c : Conventions) (n : ℕ) (ks : List ℕ) (i : ℕ) → i < length ks → 52 ≤ get_or ks i 0
    → slots_text c n (drop i ks) ≡ slots_text c n (drop (i + 1) ks)
slots_pass c n ks i h q = slots_step c n ks i h ∙ rw (le-ltb _ _ q)

-- ---- ranks of a suit

module _ (c : Conventions) (s r x : ℕ) (h : 0 < r) where
  pub ranks_put : has (13 * s + (r - 1)) x ≡ true → ranks_text c s r x ≡ (rank_letter c (r - 1) ∷ []) ++ ranks_text c s (r - 1) x
  unfolding card_text
  ranks_put q = ranks_more c s r x h ∙ rw q

  pub ranks_pass : has (13 * s + (r - 1)) x ≡ false → ranks_text c s r x ≡ ranks_text c s (r - 1) x
  unfolding card_text
  ranks_pass q = ranks_more c s r x h ∙ rw q

-- ---- entries in a row

module _ {is next rest : Items} (s : IsNextEntry is next rest) (c : Conventions) where
  module _ (n : ℕ) (called : Bool) where
    -- A call.
    pub calls_call : (item_of next).kind ≡ 6 → calls_text c n called (items_of is) ≡ before_call n ++ call_token c (item_of next).mark ++ calls_text c (n + 1) true (items_of rest)
    calls_call q = rw (items_next s, q)

    -- An annotation of the last call.
    pub calls_mark : (eqb (item_of next).kind 7 && called) ≡ true
        → calls_text c n called (items_of is) ≡ place_bytes next.text.now next.entries.now next.first ++ calls_text c n called (items_of rest)
    calls_mark q =
        let b = both (eqb (item_of next).kind 7) called q in
        let k = eqb-true _ _ b.0 in
        rw (items_next s, k, b.1, first_item next 7 k (omega arith))

    -- Any other entry.
    pub calls_pass : ((item_of next).kind ≡ 6 → ⊥) → (eqb (item_of next).kind 7 && called) ≡ false → calls_text c n called (items_of is) ≡ calls_text c n false (items_of rest)
    calls_pass m q = rw (items_next s, ne_eqb _ _ m, q)

  pub tricks_put : (item_of next).kind ≡ 8 → tricks_text c (items_of is) ≡ slots_text c 0 (four_slots (item_of next).mark) ++ tricks_text c (items_of rest)
  tricks_put q = rw (items_next s, q)

  pub tricks_pass : ((item_of next).kind ≡ 8 → ⊥) → tricks_text c (items_of is) ≡ tricks_text c (items_of rest)
  tricks_pass m = rw (items_next s, ne_eqb _ _ m)

-- Whether the last call among entries is `+` (code 38), plus saying it of those before them.
pub record PlusSoFar (all : List Item) (plus : Bool) (is : Items) : Type 0 where
  pub last : ℕ
  pub plus_is : plus ≡ eqb last 38
  pub rest_is : last_code 47 all ≡ last_code last (items_of is)

module _ {all : List Item} {plus : Bool} {is next rest : Items} (o : PlusSoFar all plus is) (s : IsNextEntry is next rest) where
  pub plus_call : (item_of next).kind ≡ 6 → PlusSoFar all (eqb (item_of next).mark 38) rest
  plus_call q = record { last = (item_of next).mark; plus_is = refl; rest_is = o.rest_is ∙ rw (items_next s, q) }

  pub plus_pass : ((item_of next).kind ≡ 6 → ⊥) → PlusSoFar all plus rest
  plus_pass m = record { last = o.last; plus_is = o.plus_is; rest_is = o.rest_is ∙ pass_last o.last }
    where
      pass_last : (k : ℕ) → last_code k (items_of is) ≡ last_code k (items_of rest)
      pass_last k =
          let q : cond (eqb (item_of next).kind 6) (item_of next).mark k ≡ k = rw (ne_eqb (item_of next).kind 6 m) in
          ap (last_code k) (items_next s) ∙ ap (λ z. last_code z (items_of rest)) q
