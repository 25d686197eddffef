-- Laws of boards put one after the other.
use Prim.Native.Nat.{ℕ, suc, ◌+◌, ◌≤◌}
use mathlib.Core.Path.{◌≡◌, refl, sym, ap, ◌∙◌}
use mathlib.Core.Bool.{Bool, true, false, cond, ◌&&◌, ◌||◌}
use mathlib.Core.List.{List, [], ◌∷◌, ◌++◌, append_assoc, append-nil, map, map-append}
use native.Mathlib.Omega.{arith}
use lib.Dec.{eqb}
use lib.ListN.{length, length-append}
use borrow.Author.Tests.{ne_eqb}
use Rattle.std.specs.Prelude.{Option, Some, None}
use Rattle.tables.specs.declared.letters.Conventions.{Conventions}
use Rattle.reader.specs.declared.deal.Hands.{Hands}
use Rattle.tables.proofs.Laws.{by_cases, clash}
use Rattle.tables.specs.declared.page.Page.{Page}
use Rattle.tables.specs.Puts.{Puts}
use Rattle.writer.specs.Pages.{built_in_header}
use Rattle.writer.specs.Remarks.{lines_text}
use Rattle.tables.proofs.PutsLaws.{puts_then, puts_as, puts_nothing}
use Rattle.reader.proofs.WordLaws.{and_false}
use Rattle.lin.specs.declared.pieces.Progress.{Progress}
use Rattle.lin.specs.declared.survey.Survey.{Survey}
use Rattle.lin.specs.declared.pairs.Command.TheVariants.{Md}
use Rattle.lin.specs.Pairs.{Pair, has_pair}
use Rattle.lin.specs.Pieces.{with_deal}
use Rattle.lin.specs.Dealing.{Dealing, no_dealing, dealing_from, has_card, is_deal, dealt_hands}
use Rattle.lin.specs.DealingSteps.{dealt_as}
use Rattle.lin.specs.SurveySteps.{no_survey, survey_from}
use Rattle.lin.specs.BoardSteps.{survey_text}
use Rattle.lin.specs.LinBoards.{LinBoard, board_of, any_card, all_deals, lin_lines, lin_next, lin_page}
use Rattle.lin.specs.PieceSteps.{no_progress, above_text, any_bits, part_text, BoardPut, Goes, GoesIf, Gone, GoesAll}
use Rattle.lin.proofs.DealingLaws.{told_in_lem, dealt_some, dealt_none, any_card_lem}
use Rattle.lin.proofs.SurveyLaws.{survey_is, dealer_low, vulnerability_low}
use Rattle.lin.proofs.BoardTextLaws.{board_text}

-- ---- one board

module _ (c : Conventions) (ps : List Pair) where
  -- The board's dealing, as the survey tells it.
  abbrev dealing : Dealing
  dealing = dealing_from c no_dealing ps

  pub survey_dealer : (survey_from c no_survey ps).deal.dealer ≤ 3
  unfolding board_of
  survey_dealer = rw (survey_is c (told_in_lem c) ps).deal_is (omega (arith, dealer_low c ps))

  survey_hands : (s : Survey) → s ≡ survey_from c no_survey ps → s.deal.hands ≡ dealt_as (board_of c ps).dealing
  unfolding board_of
  survey_hands s e = rw (e, (survey_is c (told_in_lem c) ps).deal_is)

  board_any : any_bits (dealt_hands (board_of c ps).dealing) ≡ has_card (board_of c ps).dealing
  unfolding board_of
  board_any = any_card_lem dealing

  survey_text_lem : survey_text c (survey_from c no_survey ps) (dealt_hands (board_of c ps).dealing) ps ≡ lines_text (lin_lines c (board_of c ps))
  survey_text_lem = sym (board_text c ps (survey_from c no_survey ps) (survey_is c (told_in_lem c) ps) (dealer_low c ps) (vulnerability_low c ps))

  -- A board that makes a deal is put; one that does not stops.
  pub goes_good : {p : Page} {g : Progress} {s : Survey} {h : Hands} {p₁ q : Page} {any : Bool} → s ≡ survey_from c no_survey ps → s.deal.hands ≡ Some h
      → any ≡ any_bits h
      → Puts p (above_text (eqb g.boards 0)) p₁ → Puts p₁ (survey_text c s h ps) q
      → Goes c ps p g q (Some (record { boards = g.boards + 1; any = g.any || any }))
  goes_good {p} {g} {s} {h} {p₁} {q} {any} e d k above own =
      let deal = dealt_some (board_of c ps).dealing h (sym (survey_hands s e) ∙ d) in
      let both = puts_then above (puts_as (rw (e, ← deal.1) survey_text_lem) own) in
      record {
        some_is = sym deal.0;
        goes = record { any_is = ap (λ (x : Bool). g.any || x) (k ∙ rw (← deal.1) board_any); boards_are = refl; puts = both };
        lent = record { kept = both.kept; same = both.same };
      }

  pub goes_bad : {p : Page} {g : Progress} {s : Survey} → s ≡ survey_from c no_survey ps → s.deal.hands ≡ None → Goes c ps p g p None
  goes_bad {p} {g} {s} e d =
      let bad = dealt_none (board_of c ps).dealing (sym (survey_hands s e) ∙ d) in
      record { some_is = sym bad; goes = tt; lent = record { kept = refl; same = refl } }

-- ---- boards in a row

all_more : (bs : List LinBoard) (b : LinBoard) → all_deals (bs ++ b ∷ []) ≡ (all_deals bs && is_deal b.dealing)
all_more [] b = and_right (is_deal b.dealing)
  where
    and_right : (p : Bool) → (p && true) ≡ p
    and_right true = refl
    and_right false = refl
all_more (x ∷ bs) b = rw (all_more bs b) (and_assoc (is_deal x.dealing) (all_deals bs) (is_deal b.dealing))
  where
    and_assoc : (p q r : Bool) → (p && (q && r)) ≡ ((p && q) && r)
    and_assoc true q r = refl
    and_assoc false q r = refl

any_more : (bs : List LinBoard) (b : LinBoard) → any_card (bs ++ b ∷ []) ≡ (any_card bs || has_card b.dealing)
any_more [] b = or_right (has_card b.dealing)
  where
    or_right : (p : Bool) → (p || false) ≡ p
    or_right true = refl
    or_right false = refl
any_more (x ∷ bs) b = rw (any_more bs b) (or_assoc (has_card x.dealing) (any_card bs) (has_card b.dealing))
  where
    or_assoc : (p q r : Bool) → (p || (q || r)) ≡ ((p || q) || r)
    or_assoc true q r = refl
    or_assoc false q r = refl

-- The page so far, which is nothing before the first board.
abbrev so_far : Conventions → List LinBoard → List ℕ
so_far c bs = cond (eqb (length bs) 0) [] (lin_page c bs)

next_more : (c : Conventions) (bs : List LinBoard) (b : LinBoard) → lin_next c (bs ++ b ∷ []) ≡ lin_next c bs ++ (10 ∷ lines_text (lin_lines c b))
next_more c [] b = append-nil (10 ∷ lines_text (lin_lines c b))
next_more c (x ∷ bs) b = rw (next_more c bs b) (sym (append_assoc (10 ∷ lines_text (lin_lines c x)) (lin_next c bs) (10 ∷ lines_text (lin_lines c b))))

page_more : (c : Conventions) (bs : List LinBoard) (b : LinBoard) → so_far c bs ++ part_text c (eqb (length bs) 0) b ≡ so_far c (bs ++ b ∷ [])
unfolding above_text
page_more c [] b = sym (append-nil (built_in_header ++ lines_text (lin_lines c b)))
page_more c (x ∷ bs) b =
    let y : eqb (suc (length bs)) 0 ≡ false = ne_eqb (suc (length bs)) 0 (λ w. omega arith) in
    let z : eqb (suc (length (bs ++ b ∷ []))) 0 ≡ false = ne_eqb (suc (length (bs ++ b ∷ []))) 0 (λ w. omega arith) in
    rw (y, z, next_more c bs b)
    (append_assoc (built_in_header ++ lines_text (lin_lines c x)) (lin_next c bs) (10 ∷ lines_text (lin_lines c b)))

all_not : (bs ds : List LinBoard) (b : LinBoard) → is_deal b.dealing ≡ false → all_deals (bs ++ b ∷ ds) ≡ false
all_not [] ds b e = rw e
all_not (x ∷ bs) ds b e = rw (all_not bs ds b e) (and_false (is_deal x.dealing))

pub gone_none : (c : Conventions) (p : Page) → Gone c [] p p no_progress
gone_none c p = record { deals = refl; any_is = refl; boards_are = refl; puts = puts_nothing p }

gone_more : {c : Conventions} {bs : List LinBoard} {b : LinBoard} {p₀ p q : Page} {g r : Progress} → Gone c bs p₀ p g → BoardPut c b p g q r → is_deal b.dealing ≡ true
    → Gone c (bs ++ b ∷ []) p₀ q r
gone_more {c} {bs} {b} n m t =
    let count = n.boards_are in
    record {
      deals = rw (all_more bs b, n.deals, t);
      any_is = m.any_is ∙ rw (any_more bs b, n.any_is);
      boards_are = m.boards_are ∙ rw (count, length-append bs (b ∷ []));
      puts = puts_as (rw count (page_more c bs b)) (puts_then n.puts m.puts);
    }

-- ---- pieces that are left

-- Of all pieces some were put, which make deals, and the rest is left.
pub record Going (c : Conventions) (pieces rest : List (List Pair)) (p₀ p : Page) (g : Progress) : Type 0 where
  pub done : List (List Pair)
  pub pieces_are : pieces ≡ done ++ rest
  pub gone : Gone c (map (board_of c) done) p₀ p g

pub going_first : (c : Conventions) (pieces : List (List Pair)) (p : Page) (g : Progress) → g ≡ no_progress → Going c pieces pieces p p g
going_first c pieces p g e = rw e (record { done = []; pieces_are = refl; gone = gone_none c p })

pub going_same : {c : Conventions} {pieces rest rest' : List (List Pair)} {p₀ p : Page} {g : Progress} → rest ≡ rest' → Going c pieces rest p₀ p g → Going c pieces rest' p₀ p g
going_same e n = rw (← e) n

module _ {c : Conventions} {pieces : List (List Pair)} {x : List Pair} {rest : List (List Pair)} {p₀ p q : Page} {g : Progress} (n : Going c pieces (x ∷ rest) p₀ p g) where
  pub going_next : {r : Progress} → Goes c x p g q (Some r) → Going c pieces rest p₀ q r
  going_next {r} m =
      record {
        done = n.done ++ x ∷ [];
        pieces_are = n.pieces_are ∙ sym (append_assoc n.done (x ∷ []) rest);
        gone = rw (map-append (board_of c) n.done (x ∷ [])) (gone_more n.gone m.goes (sym m.some_is));
      }

  -- A board that makes no deal.
  pub going_off : Goes c x p g q None → GoesAll c pieces p₀ q None
  going_off m =
      record {
        some_is = sym (rw (n.pieces_are, map-append (board_of c) n.done (x ∷ rest)) (all_not (map (board_of c) n.done) (map (board_of c) rest) (board_of c x) (sym m.some_is)));
        gone = tt;
        lent = record { kept = m.lent.kept ∙ n.gone.puts.kept; same = m.lent.same ∙ n.gone.puts.same };
      }

pub going_end : {c : Conventions} {pieces : List (List Pair)} {p₀ p : Page} {g : Progress} → Going c pieces [] p₀ p g → GoesAll c pieces p₀ p (Some g)
going_end {c} {pieces} n =
    let e : pieces ≡ n.done = n.pieces_are ∙ append-nil n.done in
    rw e (record { some_is = sym n.gone.deals; gone = n.gone; lent = record { kept = n.gone.puts.kept; same = n.gone.puts.same } })

-- A piece that counts only with an md.
module _ {c : Conventions} {pieces : List (List Pair)} (x : List Pair) (rest : List (List Pair)) {p₀ p q : Page} {g : Progress} (n : Going c pieces (with_deal (x ∷ rest)) p₀ p g) where
  pub going_if : {r : Progress} → GoesIf c x p g q (Some r) → Going c pieces (with_deal rest) p₀ q r
  going_if {r} m =
      by_cases (has_pair Md x)
      (λ t. going_next (going_same (rw t) n) (m.takes t))
      (λ t. let s = m.skips t in let k : r ≡ g = some_one r g s.1 in rw (s.0, k) (going_same (rw t) n))
    where
      some_one : (r g : Progress) → ◌≡◌ {A = Option Progress} (Some r) (Some g) → r ≡ g
      some_one r g e = cc

  pub going_off_if : GoesIf c x p g q None → GoesAll c pieces p₀ q None
  going_off_if m =
      by_cases (has_pair Md x)
      (λ t. going_off {rest = with_deal rest} (going_same (rw t) n) (m.takes t))
      (λ t. clash (none_some g (m.skips t).1))
    where
      none_some : (g : Progress) → ◌≡◌ {A = Option Progress} None (Some g) → ◌≡◌ {A = Bool} false true
      none_some g e = cc

-- The last piece.
pub going_last : {c : Conventions} {pieces : List (List Pair)} (x : List Pair) {p₀ p q : Page} {g : Progress} (r : Option Progress) → Going c pieces (with_deal (x ∷ [])) p₀ p g → GoesIf c x p g q r → GoesAll c pieces p₀ q r
going_last x (Some r) n m = going_end (going_if x [] n m)
going_last x None n m = going_off_if x [] n m

pub goes_more : {c : Conventions} {x : List Pair} {p q : Page} {g r : Progress} → Goes c x p g q (Some r) → r.boards ≤ g.boards + 1
goes_more m = omega (arith, m.goes.boards_are)

pub if_more : {c : Conventions} {x : List Pair} {p q : Page} {g r : Progress} → GoesIf c x p g q (Some r) → r.boards ≤ g.boards + 1
if_more {c} {x} {p} {q} {g} {r} m =
    by_cases (has_pair Md x) (λ t. goes_more (m.takes t)) (λ t. rw (some_one r g (m.skips t).1) (omega arith))
  where
    some_one : (r g : Progress) → ◌≡◌ {A = Option Progress} (Some r) (Some g) → r ≡ g
    some_one r g e = cc
