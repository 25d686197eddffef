-- Each refusal on its condition, and all that is lent zero after it.
use Prim.Native.Nat.{ℕ, ◌/◌, ◌<◌}
use mathlib.Core.Path.{◌≡◌, refl, sym, ap, ◌∙◌}
use mathlib.Core.Bool.{Bool, true, false, not, ◌&&◌}
use mathlib.Core.List.{List, [], ◌∷◌, ◌++◌}
use lib.Dec.{ltb, eqb}
use lib.ListN.{length, get_or, replicate}
use borrow.Author.Tests.{ltb-true, eq-eqb, lt-ltb}
use Rattle.std.specs.Prelude.{Result, Ok, Err, is_ok}
use Rattle.tables.specs.declared.letters.Conventions.{Conventions}
use Rattle.tables.proofs.Laws.{clash, both}
use Rattle.reader.specs.declared.edition.ReadRefusal.{ReadRefusal}
use Rattle.reader.specs.declared.edition.ReadRefusal.TheVariants as readRefusal
use Rattle.reader.specs.declared.edition.Counts.{Counts}
use Rattle.reader.specs.Editions.{read_number, read_carries, reading_of, cards_of, entries_of, counts_of}
use Rattle.planning.specs.declared.state.BoardState.{BoardState}
use Rattle.planning.specs.declared.editions.EditionsRefusal.{EditionsRefusal}
use Rattle.tables.specs.declared.refused.Edition.TheVariants.{Old, New}
use Rattle.planning.specs.States.{state_number, from_of}
use Rattle.planning.specs.Searches.{searches_from}
use Rattle.planning.specs.Slips.{totals_of, numbers_from}
use Rattle.planning.specs.declared.editions.Both.{Both}
use Rattle.planning.specs.Plans.{Boxes, editions_number, editions_carries, edition_refused, editions_of, planning_of, plans_of, state_by, behind_by, fives_after, words_by, BoxesAfter, Editions, Planning}
use Rattle.golavimes.specs.Answers.{reading_numbers, editions_head, head_then, plan_numbers, part_numbers, new_boards}
use Rattle.demands.specs.Demand1.{Refusal, refusal, Begins, GivenFrom, FirstThatHolds, of_edition, of_editions, solve_in, SlipsShort, BoxesZero, NoValues, ReadRefuses, PlanRefuses, PositionRefusals, StateRefuses, BehindRefuses, NumbersRefusals, BoardsRefuse, SearchesRefuse}

-- ---- the first whose condition holds

-- The answer begins with this number, edition and carried number.
pub record Says (answer : List ℕ) (number edition carries : ℕ) : Type 0 where
  pub number_said : get_or answer 0 0 ≡ number
  pub edition_said : get_or answer 1 0 ≡ edition
  pub carried_said : get_or answer 2 0 ≡ carries

-- One of the refusals is met and said, and none before it is met; or none is.
pub data Met (answer : List ℕ) : List Refusal → Type 1 where
  nothing : Says answer 0 0 0 → Met answer []
  this : {f : Refusal} {fs : List Refusal} → f.when → Says answer f.number f.edition f.carries → Met answer (f ∷ fs)
  later : {f : Refusal} {fs : List Refusal} → (f.when → ⊥) → Met answer fs → Met answer (f ∷ fs)

-- A number and an edition are those of none of the refusals, and not of none at all.
abbrev is_apart : ℕ → ℕ → List Refusal → Bool
is_apart n e [] = not (eqb n 0)
is_apart n e (f ∷ fs) = not (eqb n f.number && eqb e f.edition) && is_apart n e fs

abbrev are_apart : List Refusal → Bool
are_apart [] = true
are_apart (f ∷ fs) = is_apart f.number f.edition fs && are_apart fs

apart_not : (n e m d : ℕ) → not (eqb n m && eqb e d) ≡ true → n ≡ m → e ≡ d → ⊥
apart_not n e m d h p q = clash (rw (eq-eqb n m p, eq-eqb e d q) at h)

-- An answer that says another refusal begins with none of them.
none_given : (fs : List Refusal) (B : Type 0) (answer : List ℕ) (n e k : ℕ) → Says answer n e k → (B → ⊥) → is_apart n e fs ≡ true → GivenFrom B fs answer
none_given [] B answer n e k s b h =
    let z : (Begins answer (refusal 0 0 0 (Unit {0}))) → ⊥ =
    λ g. clash (rw (eq-eqb n 0 (sym s.number_said ∙ g.number_is)) at h) in
    record { exactly = (λ g. absurd (z g), λ p. absurd (b p.0)); carried = λ g. absurd (z g) }
none_given (f ∷ fs) B answer n e k s b h =
    let a = both (not (eqb n f.number && eqb e f.edition)) (is_apart n e fs) h in
    let z : Begins answer f → ⊥ =
    λ g. apart_not n e f.number f.edition a.0 (sym s.number_said ∙ g.number_is) (sym s.edition_said ∙ g.edition_is) in (
      record { exactly = (λ g. absurd (z g), λ p. absurd (b p.0)); carried = λ g. absurd (z g) },
      none_given fs (B × (f.when → ⊥)) answer n e k s (λ p. b p.0) a.1,
    )

not_begun : (answer : List ℕ) (fs : List Refusal) (f : Refusal) → Met answer fs → is_apart f.number f.edition fs ≡ true → Begins answer f → ⊥
not_begun answer fs f (nothing s) h g = clash (rw (eq-eqb f.number 0 (sym g.number_is ∙ s.number_said)) at h)
not_begun answer fs f (this {f = x} {fs = xs} w s) h g =
    let a = both (not (eqb f.number x.number && eqb f.edition x.edition)) (is_apart f.number f.edition xs) h in
    apart_not f.number f.edition x.number x.edition a.0 (sym g.number_is ∙ s.number_said) (sym g.edition_is ∙ s.edition_said)
not_begun answer fs f (later {f = x} {fs = xs} w m) h g =
    let a = both (not (eqb f.number x.number && eqb f.edition x.edition)) (is_apart f.number f.edition xs) h in
    not_begun answer xs f m a.1 g

given_from : (answer : List ℕ) (fs : List Refusal) (B : Type 0) → are_apart fs ≡ true → B → Met answer fs → GivenFrom B fs answer
given_from answer fs B d b (nothing s) =
    record {
      exactly = (λ g. (b, tt), λ p. record { number_is = s.number_said; edition_is = s.edition_said });
      carried = λ g. s.carried_said;
    }
given_from answer fs B d b (this {f = f} {fs = xs} w s) =
    let a = both (is_apart f.number f.edition xs) (are_apart xs) d in (
      record {
        exactly = (λ g. (b, w), λ p. record { number_is = s.number_said; edition_is = s.edition_said });
        carried = λ g. s.carried_said;
      },
      none_given xs (B × (f.when → ⊥)) answer f.number f.edition f.carries s (λ p. p.1 w) a.0,
    )
given_from answer fs B d b (later {f = f} {fs = xs} w m) =
    let a = both (is_apart f.number f.edition xs) (are_apart xs) d in
    let z = not_begun answer xs f m a.0 in (
      record { exactly = (λ g. absurd (z g), λ p. absurd (w p.1)); carried = λ g. absurd (z g) },
      given_from answer xs (B × (f.when → ⊥)) a.1 (b, w) m,
    )

pub first_that_holds : (fs : List Refusal) (answer : List ℕ) → are_apart fs ≡ true → Met answer fs → FirstThatHolds fs answer
first_that_holds fs answer d m = given_from answer fs (Unit {0}) d tt m

-- A case for each value of a test.
pub met_by : {answer : List ℕ} {fs : List Refusal} (b : Bool) → (b ≡ true → Met answer fs) → (b ≡ false → Met answer fs) → Met answer fs
met_by true f g = f refl
met_by false f g = g refl

-- A refusal that is met exactly where one number is below another.
pub met_below : {answer : List ℕ} {fs : List Refusal} (number edition carries a b : ℕ)
    → (ltb a b ≡ true → Says answer number edition carries) → (ltb a b ≡ false → Met answer fs) → Met answer (refusal number edition carries (a < b) ∷ fs)
met_below number edition carries a b f g =
    met_by (ltb a b) (λ t. this (ltb-true a b t) (f t)) (λ t. later (λ h. clash (sym t ∙ lt-ltb a b h)) (g t))

-- ---- an answer by its numbers

pub says_by : (numbers answer : List ℕ) (number edition carries : ℕ) → answer ≡ numbers
    → get_or numbers 0 0 ≡ number → get_or numbers 1 0 ≡ edition → get_or numbers 2 0 ≡ carries → Says answer number edition carries
says_by numbers answer number edition carries e a b d = rw e (record { number_said = a; edition_said = b; carried_said = d })

-- Where a call does not return 0, which it does where nothing is refused, the answer is a refusal's and has no values.
pub refused_by : {T E : Type 0} (of : Result T E → List ℕ) (values : ℕ) → ((x : T) → get_or (of (Ok x)) 0 0 ≡ 0) → ((f : E) → NoValues values (of (Err f)))
    → (w : Result T E) {answer : List ℕ} {r : ℕ} → answer ≡ of w → r ≡ get_or answer 0 0
    → (r ≡ 0 → ⊥) → (is_ok w ≡ false) × NoValues values answer
refused_by of values zero none (Ok x) e s h = absurd (h (s ∙ rw e (zero x)))
refused_by of values zero none (Err f) e s h = (refl, rw e (none f))

-- An answer that names no edition, whether a refusal's or not.
pub names_none : {T E : Type 0} (of : Result T E → List ℕ) → ((x : T) → get_or (of (Ok x)) 1 0 ≡ 0) → ((f : E) → get_or (of (Err f)) 1 0 ≡ 0)
    → (w : Result T E) → get_or (of w) 1 0 ≡ 0
names_none of a b (Ok x) = a x
names_none of a b (Err f) = b f

-- ---- an edition

-- Where it is refused, the answer says so; where it is taken, the refusals behind its own are met or none.
pub edition_met : (e : ℕ) (c : Conventions) (text cards entries answer : List ℕ) (fs : List Refusal)
    → ((f : ReadRefusal) → reading_of c text (length cards) (length entries) ≡ Err f → Says answer (read_number f) e (read_carries f))
    → ((n : Counts) → reading_of c text (length cards) (length entries) ≡ Ok n → Met answer fs)
    → Met answer (of_edition e c text cards entries ++ fs)
unfolding reading_of
edition_met e c text cards entries answer fs refused taken =
    let boards = length (cards_of c text) in
    let count = length (entries_of c text) in
    met_below 1 e (length text) 16777215 (length text)
    (λ t. refused (readRefusal.Overlong (length text)) (rw t))
    (λ t.
    met_below 2 e boards (length cards / 64) boards
    (λ u. refused (readRefusal.BoxFull boards) (rw (t, u)))
    (λ u.
    met_below 3 e count (length entries / 4) count
    (λ v. refused (readRefusal.ListFull count) (rw (t, u, v)))
    (λ v. taken (counts_of c text) (rw (t, u, v)))))

pub read_refuses : ReadRefuses
read_refuses c text cards entries cards' entries' answer' r o =
    let q = reading_of c text (length cards) (length entries) in
    let refused : (r ≡ 0 → ⊥) → (is_ok q ≡ false) × NoValues 2 answer' =
    refused_by reading_numbers 2 (λ n. refl) (λ f. refl) q o.told o.returned in
    record {
      refused = first_that_holds (of_edition 0 c text cards entries) answer' refl
          (edition_met 0 c text cards entries answer' [] (λ f e. says_by (reading_numbers (Err f)) answer' (read_number f) 0 (read_carries f) (rw e at o.told) refl refl refl)
          (λ n e. nothing (says_by (reading_numbers (Ok n)) answer' 0 0 0 (rw e at o.told) refl refl refl)));
      one_edition = rw o.told (names_none reading_numbers (λ n. refl) (λ f. refl) q);
      returned = o.returned;
      cards_zero = λ h. o.cards_after ∙ rw (refused h).0;
      entries_zero = λ h. o.entries_after ∙ rw (refused h).0;
      no_values = λ h. (refused h).1;
    }

-- ---- both editions

pub editions_met : (c : Conventions) (old new : List ℕ) (boxes : Boxes) (answer : List ℕ) (fs : List Refusal)
    → ((f : EditionsRefusal) → editions_of c old new boxes ≡ Err f → Says answer (editions_number f) (edition_refused f) (editions_carries f))
    → ((n : Both) → editions_of c old new boxes ≡ Ok n → Met answer fs)
    → Met answer (of_editions c old new boxes ++ fs)
unfolding editions_of
editions_met c old new boxes answer fs refused both =
    edition_met 1 c old boxes.old_cards boxes.old_entries answer (of_edition 2 c new boxes.new_cards boxes.new_entries ++ fs)
    (λ f e. refused (record { edition = Old; refusal = f }) (rw e))
    (λ m e.
    edition_met 2 c new boxes.new_cards boxes.new_entries answer fs
    (λ f d. refused (record { edition = New; refusal = f }) (rw (e, d)))
    (λ n d. both (record { old = m; new = n }) (rw (e, d))))

-- An answer that begins with the head of what reading both came to.
headed_met : (c : Conventions) (old new : List ℕ) (boxes : Boxes) (answer : List ℕ) (values : List ℕ)
    → answer ≡ head_then (editions_head (editions_of c old new boxes)) values → Met answer (of_editions c old new boxes)
headed_met c old new boxes answer values e =
    editions_met c old new boxes answer []
    (λ f q. rw (e, q) (record { number_said = refl; edition_said = refl; carried_said = refl }))
    (λ n q. nothing (rw (e, q) (record { number_said = refl; edition_said = refl; carried_said = refl })))

pub boxes_zero : (c : Conventions) (well : Bool) (old new : List ℕ) (boxes boxes' : Boxes) → well ≡ false → BoxesAfter c well old new boxes boxes' → BoxesZero boxes boxes'
boxes_zero c well old new boxes boxes' w b =
    record {
      old_cards = b.old_cards ∙ rw w;
      old_entries = b.old_entries ∙ rw w;
      new_cards = b.new_cards ∙ rw w;
      new_entries = b.new_entries ∙ rw w;
    }

-- ---- planning

planned_not : (p : Planning) → (get_or (plan_numbers p) 0 0 ≡ 0 → ⊥) → (is_ok p ≡ false) × NoValues 7 (plan_numbers p)
planned_not (Ok t) h = absurd (h refl)
planned_not (Err f) h = (refl, refl)

pub plan_met : (c : Conventions) (old new : List ℕ) (boxes : Boxes) (slips answer : List ℕ) → answer ≡ plan_numbers (planning_of c old new boxes (length slips))
    → Met answer (of_editions c old new boxes ++ (refusal 4 0 (solve_in c old new) (SlipsShort c old new slips) ∷ []))
unfolding planning_of
plan_met c old new boxes slips answer e =
    let t = totals_of (plans_of c old new) in
    editions_met c old new boxes answer (refusal 4 0 t.solve (length slips / 5 < t.solve) ∷ [])
    (λ f q. rw (e, q) (record { number_said = refl; edition_said = refl; carried_said = refl }))
    (λ n q.
    met_below 4 0 t.solve (length slips / 5) t.solve
    (λ u. rw (e, q, u) (record { number_said = refl; edition_said = refl; carried_said = refl }))
    (λ u. nothing (rw (e, q, u) (record { number_said = refl; edition_said = refl; carried_said = refl }))))

pub plan_refuses : PlanRefuses
plan_refuses c old new boxes slips boxes' slips' answer' r o =
    let q = planning_of c old new boxes (length slips) in
    let refused : (r ≡ 0 → ⊥) → (is_ok q ≡ false) × NoValues 7 (plan_numbers q) =
    λ h. planned_not q (λ z. h (o.returned ∙ ap (λ (l : List ℕ). get_or l 0 0) o.told ∙ z)) in
    record {
      refused = first_that_holds (of_editions c old new boxes ++ (refusal 4 0 (solve_in c old new) (SlipsShort c old new slips) ∷ [])) answer' refl (plan_met c old new boxes slips answer' o.told);
      returned = o.returned;
      boxes_zero = λ h. boxes_zero c (is_ok q) old new boxes boxes' (refused h).0 o.boxes_left;
      slips_zero = λ h. o.slips_after ∙ rw (refused h).0;
      no_values = λ h. rw o.told (refused h).1;
    }

-- ---- a position, and all boards

-- What holds of every refusal holds of what reading both came to, where the answer does not begin with 0.
refused_has : (P : Editions → Type 0) → ((f : EditionsRefusal) → P (Err f)) → (e : Editions) → ((editions_head e).refusal ≡ 0 → ⊥) → P e
refused_has P h (Ok n) z = absurd (z refl)
refused_has P h (Err f) z = h f

-- An answer of the head and so many values, which are zero after a refusal.
module _ (values : ℕ) (of : Editions → List ℕ) (none : (f : EditionsRefusal) → of (Err f) ≡ replicate values 0) (c : Conventions) (old new : List ℕ)
    (boxes boxes' : Boxes) (answer' : List ℕ) (r : ℕ) (told : answer' ≡ head_then (editions_head (editions_of c old new boxes)) (of (editions_of c old new boxes)))
    (after : BoxesAfter c (is_ok (editions_of c old new boxes)) old new boxes boxes') (returned : r ≡ get_or answer' 0 0) where
  not_zero : (r ≡ 0 → ⊥) → (editions_head (editions_of c old new boxes)).refusal ≡ 0 → ⊥
  not_zero h z = h (returned ∙ ap (λ (l : List ℕ). get_or l 0 0) told ∙ z)

  position_refuses : PositionRefusals values c old new boxes boxes' answer' r
  position_refuses =
      let q = editions_of c old new boxes in
      record {
        refused = first_that_holds (of_editions c old new boxes) answer' refl (headed_met c old new boxes answer' (of q) told);
        returned = returned;
        boxes_zero = λ h. boxes_zero c (is_ok q) old new boxes boxes' (refused_has (λ e. is_ok e ≡ false) (λ f. refl) q (not_zero h)) after;
        no_values = λ h. rw told (refused_has (λ e. of e ≡ replicate values 0) none q (not_zero h));
      }

  -- With fives of numbers besides.
  numbers_refuse : (fives : List (List ℕ)) (numbers numbers' : List ℕ) → numbers' ≡ fives_after (editions_of c old new boxes) fives (length numbers)
      → NumbersRefusals values c old new boxes numbers boxes' numbers' answer' r
  numbers_refuse fives numbers numbers' e =
      let n = length numbers in
      let p = position_refuses in
      record {
        refused = p.refused;
        returned = p.returned;
        boxes_zero = p.boxes_zero;
        numbers_zero = λ h. e ∙ refused_has (λ a. fives_after a fives n ≡ replicate n 0) (λ f. refl) (editions_of c old new boxes) (not_zero h);
        no_values = p.no_values;
      }

pub state_refuses : StateRefuses
state_refuses c old new boxes boxes' p answer' r o =
    let s : Editions → BoardState = λ e. state_by e (plans_of c old new) p in
    position_refuses 2 (λ e. state_number (s e) ∷ from_of (s e) ∷ []) (λ f. refl) c old new boxes boxes' answer' r o.told o.boxes_left o.returned

pub behind_refuses : BehindRefuses
behind_refuses c old new boxes boxes' p answer' r o =
    position_refuses 3 (λ e. part_numbers (behind_by e c old new p)) (λ f. refl) c old new boxes boxes' answer' r o.told o.boxes_left o.returned

pub boards_refuse : BoardsRefuse
boards_refuse c old new boxes numbers boxes' numbers' answer' r o =
    numbers_refuse 1 (λ e. new_boards e ∷ []) (λ f. refl) c old new boxes boxes' answer' r o.told o.boxes_left o.returned
    (numbers_from (cards_of c old) (cards_of c new) (plans_of c old new)) numbers numbers' o.numbers_after

pub searches_refuse : SearchesRefuse
searches_refuse c old new boxes numbers boxes' numbers' answer' r o =
    numbers_refuse 2 (λ e. new_boards e ∷ words_by e c old new ∷ []) (λ f. refl) c old new boxes boxes' answer' r o.told o.boxes_left o.returned
    (searches_from (cards_of c old) (cards_of c new) (plans_of c old new)) numbers numbers' o.numbers_after
