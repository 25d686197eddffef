-- The bounds of a board's numbers, and the lengths of its lists, after any tag.
use Prim.Native.Nat.{ℕ, ◌+◌, ◌-◌, ◌*◌, ◌≤◌}
use mathlib.Core.Path.{◌≡◌, refl, ◌∙◌}
use mathlib.Core.List.{List, [], ◌∷◌, map}
use mathlib.Core.Bool.{Bool, true, false, cond, ◌&&◌, not}
use Rattle.std.specs.Prelude.{Option, Some, None, Ok, Err}
use native.Mathlib.Omega.{arith}
use borrow.Author.Tests.{ltb-true, ltb-false, eqb-true, le-leb}
use lib.Dec.{eqb, ltb, leb}
use lib.ListN.{length, take, length-map, length-take}
use Rattle.tables.specs.declared.letters.Conventions.{Conventions}
use Rattle.tables.specs.Text.{trimmed, first_character, characters, differs}
use Rattle.tables.specs.Numbers.{Number, digits_from, some_digits, number_of, raised, lowered, signed_of}
use Rattle.tables.specs.NumberSteps.{IsWithin}
use Rattle.tables.specs.Letters.{every, seat_of, strain_of, capital}
use Rattle.tables.specs.Tables.{TableReading, digit_of, first_bad, digits_checked, digits_reading, table_of_digits}
use Rattle.tables.specs.declared.refusal.Refusal.TheVariants.{Length}
use Rattle.tables.proofs.Laws.{by_cases}
use Rattle.tables.proofs.TextLaws.{front_few}
use Rattle.reader.specs.declared.board.Identity.{Identity}
use Rattle.reader.specs.declared.board.DealCard.{DealCard}
use Rattle.reader.specs.declared.board.TableCard.{TableCard}
use Rattle.reader.specs.declared.board.Board.{Board}
use Rattle.reader.specs.Words.{level_of, is_doubling, trump_suit, contract_trump, is_no_side, same_word, is_both_sides, vulnerability_of}
use Rattle.reader.specs.Deals.{DealRead, deal_of, hand_words}
use Rattle.reader.specs.Boards.{with_number, with_dealer, with_vulnerability, with_declarer, with_result, identity_by, deal_read, deal_by, digits_table, table_by, is_kept_contract, contract_by, applied, no_board}
use Rattle.reader.specs.Kept.{TableKept}

-- ---- numbers

digits_within : (limit : ℕ) (s : List ℕ) (v : ℕ) → v ≤ limit → IsWithin (digits_from limit s v) limit
digits_within limit [] v h = h
digits_within limit (b ∷ bs) v h =
    go (ltb b 48) (ltb 57 b) (ltb limit (v * 10 + (b - 48))) refl (λ k. digits_within limit bs (v * 10 + (b - 48)) k)
  where
    go :
        (p q r : Bool) →
        ltb limit (v * 10 + (b - 48)) ≡ r →
        (v * 10 + (b - 48) ≤ limit → IsWithin (digits_from limit bs (v * 10 + (b - 48))) limit) →
        IsWithin (cond p None (cond q None (cond r None (digits_from limit bs (v * 10 + (b - 48)))))) limit
    go true q r e f = tt
    go false true r e f = tt
    go false false true e f = tt
    go false false false e f = f (ltb-false limit (v * 10 + (b - 48)) e)

some_within : (limit : ℕ) (s : List ℕ) → IsWithin (some_digits limit s) limit
some_within limit [] = tt
some_within limit (b ∷ bs) = digits_within limit (b ∷ bs) 0 (omega arith)

pub number_within : (limit : ℕ) (s : List ℕ) → IsWithin (number_of limit s) limit
number_within limit [] = tt
number_within limit (b ∷ bs) = go (eqb b 43)
  where
    go : (t : Bool) → IsWithin (cond t (some_digits limit bs) (some_digits limit (b ∷ bs))) limit
    go true = some_within limit bs
    go false = some_within limit (b ∷ bs)

lowered_within : (half : ℕ) (n : Number) → IsWithin (lowered half n) half
lowered_within half None = tt
lowered_within half (Some v) = omega arith

raised_within : (half limit : ℕ) (n : Number) → IsWithin n limit → IsWithin (raised half n) (half + limit)
raised_within half limit None h = tt
raised_within half limit (Some v) h = omega arith

wider : (n : Number) (a b : ℕ) → a ≤ b → IsWithin n a → IsWithin n b
wider None a b h w = tt
wider (Some v) a b h w = omega arith

-- A result plus 128.
pub result_within : (s : List ℕ) → IsWithin (signed_of 128 s) 255
result_within [] = tt
result_within (b ∷ bs) = go (eqb b 45)
  where
    go : (t : Bool) → IsWithin (cond t (lowered 128 (some_digits 128 bs)) (raised 128 (number_of 127 (b ∷ bs)))) 255
    go true = wider (lowered 128 (some_digits 128 bs)) 128 255 (omega arith) (lowered_within 128 (some_digits 128 bs))
    go false = raised_within 128 127 (number_of 127 (b ∷ bs)) (number_within 127 (b ∷ bs))

-- ---- seats, vulnerability, trumps

pub seat_low : (c : Conventions) (b : ℕ) → seat_of c b ≤ 4
unfolding seat_of
seat_low c b = omega (arith, front_few (differs (capital b)) (take 4 c.letters), length-take 4 c.letters)

pub vulnerability_low : (t : List ℕ) → vulnerability_of t ≤ 4
unfolding vulnerability_of
vulnerability_low t = go (is_no_side t) (same_word (78 ∷ 83 ∷ []) t) (same_word (69 ∷ 87 ∷ []) t) (is_both_sides t)
  where
    go : (p q r s : Bool) → cond p 0 (cond q 1 (cond r 2 (cond s 3 4))) ≤ 4
    go true q r s = omega arith
    go false true r s = omega arith
    go false false true s = omega arith
    go false false false true = omega arith
    go false false false false = omega arith

trump_suit_low : (strain : ℕ) → trump_suit strain ≤ 4
trump_suit_low strain = go (ltb strain 4) refl
  where
    go : (t : Bool) → ltb strain 4 ≡ t → cond t strain 4 ≤ 4
    go true e = omega (arith, ltb-true strain 4 e)
    go false e = omega arith

pub trump_low : (c : Conventions) (t : List ℕ) → contract_trump c t ≤ 4
unfolding contract_trump
trump_low c [] = omega arith
trump_low c (l ∷ []) = omega arith
trump_low c (l ∷ s ∷ d) = go (eqb (level_of l) 0) (is_doubling d)
  where
    go : (p q : Bool) → cond p 4 (cond q (trump_suit (strain_of c (s ∷ []))) 4) ≤ 4
    go true q = omega arith
    go false true = trump_suit_low (strain_of c (s ∷ []))
    go false false = omega arith

-- ---- the parts of a board

pub record IdentityLow (i : Identity) : Type 0 where
  pub number_met_low : i.number_met ≤ 1
  pub number_low : i.number ≤ 4294967295
  pub dealer_low : i.dealer ≤ 4
  pub vulnerable_low : i.vulnerability ≤ 4
  pub declarer_low : i.declarer ≤ 4
  pub result_met_low : i.result_met ≤ 1
  pub result_low : i.result ≤ 255

number_put : (i : Identity) (n : Number) → IsWithin n 4294967295 → IdentityLow i → IdentityLow (with_number i n)
number_put i None w h =
    record { number_met_low = omega arith; number_low = omega arith; dealer_low = h.dealer_low; vulnerable_low = h.vulnerable_low; declarer_low = h.declarer_low; result_met_low = h.result_met_low; result_low = h.result_low }
number_put i (Some v) w h =
    record { number_met_low = omega arith; number_low = w; dealer_low = h.dealer_low; vulnerable_low = h.vulnerable_low; declarer_low = h.declarer_low; result_met_low = h.result_met_low; result_low = h.result_low }

result_put : (i : Identity) (n : Number) → IsWithin n 255 → IdentityLow i → IdentityLow (with_result i n)
result_put i None w h =
    record { number_met_low = h.number_met_low; number_low = h.number_low; dealer_low = h.dealer_low; vulnerable_low = h.vulnerable_low; declarer_low = h.declarer_low; result_met_low = omega arith; result_low = omega arith }
result_put i (Some v) w h =
    record { number_met_low = h.number_met_low; number_low = h.number_low; dealer_low = h.dealer_low; vulnerable_low = h.vulnerable_low; declarer_low = h.declarer_low; result_met_low = omega arith; result_low = w }

dealer_put : (i : Identity) (s : ℕ) → s ≤ 4 → IdentityLow i → IdentityLow (with_dealer i s)
dealer_put i s l h =
    record { number_met_low = h.number_met_low; number_low = h.number_low; dealer_low = l; vulnerable_low = h.vulnerable_low; declarer_low = h.declarer_low; result_met_low = h.result_met_low; result_low = h.result_low }

vulnerability_put : (i : Identity) (s : ℕ) → s ≤ 4 → IdentityLow i → IdentityLow (with_vulnerability i s)
vulnerability_put i s l h =
    record { number_met_low = h.number_met_low; number_low = h.number_low; dealer_low = h.dealer_low; vulnerable_low = l; declarer_low = h.declarer_low; result_met_low = h.result_met_low; result_low = h.result_low }

declarer_put : (i : Identity) (s : ℕ) → s ≤ 4 → IdentityLow i → IdentityLow (with_declarer i s)
declarer_put i s l h =
    record { number_met_low = h.number_met_low; number_low = h.number_low; dealer_low = h.dealer_low; vulnerable_low = h.vulnerable_low; declarer_low = l; result_met_low = h.result_met_low; result_low = h.result_low }

identity_low : (c : Conventions) (k : ℕ) (value : List ℕ) (i : Identity) → IdentityLow i → IdentityLow (identity_by c k value i)
unfolding identity_by
identity_low c k value i h = go (eqb k 1) (eqb k 2) (eqb k 3) (eqb k 8) (eqb k 10)
  where
    go :
        (p q r s t : Bool) →
        IdentityLow
        (cond p (with_number i (number_of 4294967295 value))
        (cond q (with_dealer i (seat_of c (first_character value)))
        (cond r (with_vulnerability i (vulnerability_of value))
        (cond s (with_declarer i (seat_of c (first_character value)))
        (cond t (with_result i (signed_of 128 value)) i)))))
    go true q r s t = number_put i (number_of 4294967295 value) (number_within 4294967295 value) h
    go false true r s t = dealer_put i (seat_of c (first_character value)) (seat_low c (first_character value)) h
    go false false true s t = vulnerability_put i (vulnerability_of value) (vulnerability_low value) h
    go false false false true t = declarer_put i (seat_of c (first_character value)) (seat_low c (first_character value)) h
    go false false false false true = result_put i (signed_of 128 value) (result_within value) h
    go false false false false false = h

pub record DealSized (d : DealCard) : Type 0 where
  pub deal_kind_low : d.kind ≤ 2
  pub words_eight : length d.words ≡ 8

kind_two : (t : Bool) (k : ℕ) → k ≤ 2 → cond t k 2 ≤ 2
kind_two true k h = h
kind_two false k h = omega arith

two_one : (t : Bool) → cond t 2 1 ≤ 2
two_one true = omega arith
two_one false = omega arith

deal_read_sized : (r : DealRead) (value : List ℕ) (d : DealCard) → DealSized d → DealSized (deal_read r value d)
unfolding hand_words
deal_read_sized (Some h) value d s = record { deal_kind_low = two_one (eqb d.kind 2); words_eight = refl }
deal_read_sized None value d s = record { deal_kind_low = kind_two (eqb (length (trimmed value)) 0) d.kind s.deal_kind_low; words_eight = s.words_eight }

deal_sized : (c : Conventions) (k : ℕ) (value : List ℕ) (d : DealCard) → DealSized d → DealSized (deal_by c k value d)
unfolding deal_by
deal_sized c k value d s = go (eqb k 4)
  where
    go : (t : Bool) → DealSized (cond t (deal_read (deal_of c value) value d) d)
    go true = deal_read_sized (deal_of c value) value d s
    go false = s

-- A table that was read has twenty cells of 0 to 13.
abbrev is_tricks : ℕ → Bool
is_tricks t = leb t 13

record Twenty (cells : List ℕ) : Type 0 where
  twenty : length cells ≡ 20
  low : every is_tricks cells ≡ true

abbrev TwentyIn : TableReading → Type 0
TwentyIn (Ok cells) = Twenty cells
TwentyIn (Err f) = Unit {0}

digits_low : (xs : List ℕ) (i : ℕ) → first_bad xs i ≡ None → every is_tricks (map digit_of xs) ≡ true
digits_low [] i e = refl
digits_low (x ∷ xs) i e =
    by_cases (ltb 13 (digit_of x))
    (λ t. let h : Some i ≡ None = rw t at e in cc)
    (λ t. rw (le-leb (digit_of x) 13 (ltb-false 13 (digit_of x) t), digits_low xs (i + 1) (rw t at e)))

digits_twenty : (value : List ℕ) → TwentyIn (table_of_digits value)
unfolding table_of_digits digits_reading
digits_twenty value = go (characters (trimmed value)) (eqb (length (characters (trimmed value))) 20) refl
  where
    checked : (xs : List ℕ) (bad : Option ℕ) → first_bad xs 0 ≡ bad → length xs ≡ 20 → TwentyIn (digits_checked xs bad)
    checked xs None b e = record { twenty = length-map xs digit_of ∙ e; low = digits_low xs 0 b }
    checked xs (Some i) b e = tt

    go : (xs : List ℕ) (t : Bool) → eqb (length xs) 20 ≡ t → TwentyIn (cond t (digits_checked xs (first_bad xs 0)) (Err (Length (length xs))))
    go xs true e = checked xs (first_bad xs 0) refl (eqb-true (length xs) 20 e)
    go xs false e = tt

digits_kept : (r : TableReading) → TwentyIn r → TableKept (digits_table r)
digits_kept (Ok cells) e = record { kind_low = omega arith; twenty = e.twenty; cells_low = e.low; none_zero = λ k. absurd (omega arith) }
digits_kept (Err f) e = record { kind_low = omega arith; twenty = refl; cells_low = refl; none_zero = λ k. refl }

table_kept : (k : ℕ) (value : List ℕ) (t : TableCard) → TableKept t → TableKept (table_by k value t)
unfolding table_by
table_kept k value t s = go (eqb k 18 && not (eqb t.kind 2))
  where
    go : (p : Bool) → TableKept (cond p (digits_table (table_of_digits value)) t)
    go true = digits_kept (table_of_digits value) (digits_twenty value)
    go false = s

contract_low : (c : Conventions) (k : ℕ) (value : List ℕ) (trump : ℕ) → trump ≤ 4 → contract_by c k value trump ≤ 4
unfolding contract_by
contract_low c k value trump h = go (eqb k 9 && is_kept_contract value)
  where
    go : (t : Bool) → cond t (contract_trump c value) trump ≤ 4
    go true = trump_low c value
    go false = h

-- ---- a board

pub record Bounded (b : Board) : Type 0 where
  pub id_low : IdentityLow b.id
  pub deal_in : DealSized b.deal
  pub table_in : TableKept b.table
  pub contract_in : b.contract ≤ 4

pub no_board_bounded : Bounded no_board
no_board_bounded =
    record {
      id_low = record { number_met_low = omega arith; number_low = omega arith; dealer_low = omega arith; vulnerable_low = omega arith; declarer_low = omega arith; result_met_low = omega arith; result_low = omega arith };
      deal_in = record { deal_kind_low = omega arith; words_eight = refl };
      table_in = record { kind_low = omega arith; twenty = refl; cells_low = refl; none_zero = λ k. refl };
      contract_in = omega arith;
    }

pub applied_bounded : (c : Conventions) (k : ℕ) (value : List ℕ) (place : ℕ) (b : Board) → Bounded b → Bounded (applied c k value place b)
unfolding applied
applied_bounded c k value place b h =
    record {
      id_low = identity_low c k value b.id h.id_low;
      deal_in = deal_sized c k value b.deal h.deal_in;
      table_in = table_kept k value b.table h.table_in;
      contract_in = contract_low c k value b.contract h.contract_in;
    }
