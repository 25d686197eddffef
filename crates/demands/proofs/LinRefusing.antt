-- Demand 1 of golavimes_lin_to_pbn.
use Prim.Native.Nat.{ℕ, ◌<◌}
use mathlib.Core.Path.{◌≡◌, refl, sym, ap, ◌∙◌}
use mathlib.Core.Bool.{true, false, not}
use mathlib.Core.List.{List, [], ◌∷◌, ◌++◌}
use native.Mathlib.Omega.{arith}
use lib.Dec.{eqb}
use lib.ListN.{length}
use borrow.Author.Tests.{eqb-true, eqb-false, eq-eqb, ne_eqb, ltb-true, ltb-false, leb-true, leb-false, lt-leb, le-leb, not-true}
use Rattle.std.specs.Prelude.{Ok, Err, is_ok}
use Rattle.tables.specs.declared.letters.Conventions.{Conventions}
use Rattle.tables.specs.Letters.{among, distinct}
use Rattle.tables.proofs.Laws.{by_cases, both, either, neither, clash}
use Rattle.reader.proofs.CardSets.{distinct_back}
use Rattle.reader.proofs.TagsBack.{among_append}
use Rattle.lin.specs.declared.convert.LinRefusal.TheVariants as refused
use Rattle.lin.specs.Dealing.{Dealing, all_cards, has_card, is_hand, is_deal}
use Rattle.lin.specs.LinBoards.{LinBoard, lin_boards, any_card, all_deals, lin_text}
use Rattle.lin.specs.Conversions.{gives_deals, converted_of}
use Rattle.golavimes.specs.Answers.{converted_numbers}
use Rattle.demands.specs.Demand1.{Refusal, refusal, Overlong, PageFull, SomeBoard, HasCard, CardTwice, HandOver, north_over, east_over, south_over, west_over, NoDeal, no_card, card_twice, hand_over, NoValues, LinRefuses}
use Rattle.demands.proofs.Refusing.{Met, nothing, this, later, met_by, met_below, first_that_holds, says_by, refused_by, names_none}

-- ---- a board among others

this_board : {P : Dealing → Type 0} (b : LinBoard) (bs : List LinBoard) → P b.dealing → SomeBoard P (b ∷ bs)
this_board b bs p = record { before = []; board = b; behind = bs; whole = refl; holds = p }

later_board : {P : Dealing → Type 0} (b : LinBoard) (bs : List LinBoard) → SomeBoard P bs → SomeBoard P (b ∷ bs)
later_board b bs s =
    record { before = b ∷ s.before; board = s.board; behind = s.behind; whole = ap (λ (x : List LinBoard). b ∷ x) s.whole; holds = s.holds }

other_board : {P Q : Dealing → Type 0} {bs : List LinBoard} (s : SomeBoard P bs) → Q s.board.dealing → SomeBoard Q bs
other_board s q = record { before = s.before; board = s.board; behind = s.behind; whole = s.whole; holds = q }

-- ---- no board has a card

has_card_lem : (d : Dealing) → has_card d ≡ true → HasCard d
has_card_lem d e = let n = eqb-false (length (all_cards d)) 0 (not-true (eqb (length (all_cards d)) 0) e) in omega (arith, n)

any_some : (bs : List LinBoard) → any_card bs ≡ true → SomeBoard HasCard bs
any_some [] e = clash e
any_some (b ∷ bs) e =
    either (has_card b.dealing) (any_card bs) e (λ t. this_board b bs (has_card_lem b.dealing t)) (λ t. later_board b bs (any_some bs t))

any_there : (xs : List LinBoard) (b : LinBoard) (ys : List LinBoard) → HasCard b.dealing → any_card (xs ++ b ∷ ys) ≡ false → ⊥
any_there [] b ys h e =
    let n = (neither (has_card b.dealing) (any_card ys) e).0 in
    clash (sym n ∙ rw (ne_eqb (length (all_cards b.dealing)) 0 (λ z. omega arith)))
any_there (x ∷ xs) b ys h e = any_there xs b ys h (neither (has_card x.dealing) (any_card (xs ++ b ∷ ys)) e).1

-- ---- a card twice

record Split (x : ℕ) (xs : List ℕ) : Type 0 where
  before : List ℕ
  behind : List ℕ
  whole : xs ≡ before ++ x ∷ behind

among_split : (x : ℕ) (xs : List ℕ) → among x xs ≡ true → Split x xs
among_split x [] e = clash e
among_split x (y ∷ ys) e =
    either (eqb y x) (among x ys) e
    (λ t. record { before = []; behind = ys; whole = rw (eqb-true y x t) })
    (λ t. let s = among_split x ys t in record { before = y ∷ s.before; behind = s.behind; whole = ap (λ (l : List ℕ). y ∷ l) s.whole })

record Twice (xs : List ℕ) : Type 0 where
  card : ℕ
  before : List ℕ
  between : List ℕ
  behind : List ℕ
  whole : xs ≡ before ++ card ∷ (between ++ card ∷ behind)

not_distinct : (xs : List ℕ) → distinct xs ≡ false → Twice xs
not_distinct [] e = clash (sym e)
not_distinct (x ∷ xs) e =
    by_cases (among x xs)
    (λ t.
    let s = among_split x xs t in
    record { card = x; before = []; between = s.before; behind = s.behind; whole = ap (λ (l : List ℕ). x ∷ l) s.whole })
    (λ t.
    let s = not_distinct xs (rw t at e) in
    record { card = s.card; before = x ∷ s.before; between = s.between; behind = s.behind; whole = ap (λ (l : List ℕ). x ∷ l) s.whole })

twice_not : (k : ℕ) (xs ys zs : List ℕ) → distinct (xs ++ k ∷ (ys ++ k ∷ zs)) ≡ true → ⊥
twice_not k xs ys zs e =
    let h = both (not (among k (ys ++ k ∷ zs))) _ (distinct_back xs (k ∷ (ys ++ k ∷ zs)) e) in
    let n = among_append k ys (k ∷ zs) (not-true (among k (ys ++ k ∷ zs)) h.0) in
    clash (sym (neither (eqb k k) (among k zs) n.1).0 ∙ eq-eqb k k refl)

-- ---- boards that make no deal

over : (ks : List ℕ) → is_hand ks ≡ false → 13 < length ks
over ks e = leb-false (length ks) 13 e

not_over : (ks : List ℕ) → is_hand ks ≡ true → 13 < length ks → ⊥
not_over ks e h = omega (arith, leb-true (length ks) 13 e)

not_deal : {P : Type 0} (d : Dealing) → is_deal d ≡ false → (CardTwice d → P) → (HandOver d → P) → P
not_deal d e f g =
    by_cases (distinct (all_cards d))
    (λ t.
    by_cases (is_hand d.south)
    (λ s.
    by_cases (is_hand d.west)
    (λ w.
    by_cases (is_hand d.north)
    (λ n. g (east_over (over d.east (rw (t, s, w, n) at e))))
    (λ n. g (north_over (over d.north n))))
    (λ w. g (west_over (over d.west w))))
    (λ s. g (south_over (over d.south s))))
    (λ t.
    let s = not_distinct (all_cards d) t in
    f (record { card = s.card; before = s.before; between = s.between; behind = s.behind; whole = s.whole }))

deal_once : (d : Dealing) → is_deal d ≡ true → CardTwice d → ⊥
deal_once d e s = twice_not s.card s.before s.between s.behind (rw s.whole at (both (distinct (all_cards d)) _ e).0)

deal_few : (d : Dealing) → is_deal d ≡ true → HandOver d → ⊥
deal_few d e o =
    let h = both (distinct (all_cards d)) _ e in
    let s = both (is_hand d.south) _ h.1 in
    let w = both (is_hand d.west) _ s.1 in
    let n = both (is_hand d.north) (is_hand d.east) w.1 in
    elim o [
      | north_over x ↦ not_over d.north n.0 x
      | east_over x ↦ not_over d.east n.1 x
      | south_over x ↦ not_over d.south s.0 x
      | west_over x ↦ not_over d.west w.0 x
    ]

some_not : (bs : List LinBoard) → all_deals bs ≡ false → SomeBoard (λ d. is_deal d ≡ false) bs
some_not [] e = clash (sym e)
some_not (b ∷ bs) e =
    by_cases (is_deal b.dealing)
    (λ t. later_board b bs (some_not bs (rw t at e)))
    (λ t. this_board b bs t)

all_there : (xs : List LinBoard) (b : LinBoard) (ys : List LinBoard) → all_deals (xs ++ b ∷ ys) ≡ true → is_deal b.dealing ≡ true
all_there [] b ys e = (both (is_deal b.dealing) (all_deals ys) e).0
all_there (x ∷ xs) b ys e = all_there xs b ys (both (is_deal x.dealing) (all_deals (xs ++ b ∷ ys)) e).1

some_deal : {P : Dealing → Type 0} (bs : List LinBoard) → all_deals bs ≡ true → (s : SomeBoard P bs) → is_deal s.board.dealing ≡ true
some_deal bs e s = all_there s.before s.board s.behind (rw s.whole at e)

-- THEOREM. The test is the condition.
pub NoDealIs : (bs : List LinBoard) → gives_deals bs ≡ false → NoDeal bs
NoDealIs bs e =
    by_cases (any_card bs)
    (λ t.
    let s = some_not bs (rw t at e) in
    not_deal s.board.dealing s.holds (λ x. card_twice (other_board s x)) (λ x. hand_over (other_board s x)))
    (λ t. no_card (λ s. any_there s.before s.board s.behind s.holds (rw s.whole at t)))

pub DealsAre : (bs : List LinBoard) → gives_deals bs ≡ true → NoDeal bs → ⊥
DealsAre bs e n =
    let h = both (any_card bs) (all_deals bs) e in
    elim n [
      | no_card f ↦ f (any_some bs h.0)
      | card_twice s ↦ deal_once s.board.dealing (some_deal bs h.1 s) s.holds
      | hand_over s ↦ deal_few s.board.dealing (some_deal bs h.1 s) s.holds
    ]

-- ---- the refusals

abbrev lin_refusals : Conventions → List ℕ → List ℕ → List Refusal
lin_refusals c text page =
    refusal 1 0 (length text) (Overlong text) ∷ refusal 16 0 0 (NoDeal (lin_boards c text)) ∷ refusal 7 0 (length (lin_text c text)) (PageFull (lin_text c text) page) ∷ []

converted_met : (c : Conventions) (text page answer : List ℕ) → answer ≡ converted_numbers (converted_of c text (length page)) → Met answer (lin_refusals c text page)
unfolding converted_of
converted_met c text page answer told =
    let n = length (lin_text c text) in
    let bs = lin_boards c text in
    met_below 1 0 (length text) 16777215 (length text)
    (λ t. says_by (converted_numbers (Err (refused.Overlong (length text)))) answer 1 0 (length text) (rw t at told) refl refl refl)
    (λ t.
    met_by (gives_deals bs)
    (λ u.
    later (DealsAre bs u)
    (met_below 7 0 n (length page) n
    (λ v. says_by (converted_numbers (Err (refused.PageFull n))) answer 7 0 n (rw (t, u, lt-leb n (length page) (ltb-true (length page) n v)) at told) refl refl refl)
    (λ v. nothing (says_by (converted_numbers (Ok (record { bytes = n; boards = length bs }))) answer 0 0 0 (rw (t, u, le-leb n (length page) (ltb-false (length page) n v)) at told) refl refl refl))))
    (λ u. this (NoDealIs bs u) (says_by (converted_numbers (Err refused.NoDeal)) answer 16 0 0 (rw (t, u) at told) refl refl refl)))

pub lin_refuses : LinRefuses
lin_refuses c text page page' answer' r o =
    let w = converted_of c text (length page) in
    let refused : (r ≡ 0 → ⊥) → (is_ok w ≡ false) × NoValues 2 answer' =
    refused_by converted_numbers 2 (λ k. refl) (λ f. refl) w o.told o.returned in
    record {
      refused = first_that_holds (lin_refusals c text page) answer' refl (converted_met c text page answer' o.told);
      one_edition = rw o.told (names_none converted_numbers (λ k. refl) (λ f. refl) w);
      returned = o.returned;
      page_zero = λ h. o.lent_after.page_left ∙ rw (refused h).0;
      no_values = λ h. (refused h).1;
    }
