-- Five numbers a board are handed back, as many as fit, and zeros behind them.
use Prim.Native.Nat.{ℕ, zero, suc, ◌+◌, ◌-◌, ◌*◌, ◌/◌, ◌≤◌, ◌<◌}
use mathlib.Core.Path.{◌≡◌, refl, sym, ◌∙◌, ap}
use mathlib.Core.List.{List, [], ◌∷◌, ◌++◌}
use native.Mathlib.Omega.{arith}
use lib.Dec.{ltb}
use lib.ListN.{length, get_or, take, drop, replicate, length-append, length-replicate, length-map, take-append-drop}
use lib.Seq.{take_all, length-take-le, get_or-take}
use borrow.Author.Tests.{ltb-true, ltb-false, lt-leb}
use Rattle.planning.proofs.BoardLaws.{boards_count}
use Rattle.tables.proofs.Laws.{by_cases, clash}
use Rattle.reader.specs.Store.{put, put_all, flat, padded}
use Rattle.tables.specs.declared.letters.Conventions.{Conventions}
use Rattle.reader.specs.Editions.{cards_of}
use Rattle.reader.proofs.StoreLaws.{Blocks, none, one, blocks_map, length_flat, put_zeros, put_all_append}
use Rattle.planning.specs.declared.behind.Behind.{Behind}
use Rattle.std.specs.Prelude.{Some, Ok, Err, is_ok}
use Rattle.planning.specs.declared.searches.Searched.{Searched}
use Rattle.planning.specs.States.{BoardPlan, board_plans, state_number, from_of}
use Rattle.planning.specs.Searches.{search_numbers, searches_from}
use Rattle.planning.specs.Slips.{behind_of, behind_numbers, board_numbers, numbers_from}
use Rattle.planning.specs.Plans.{Editions, editions_of, plans_of, searched_by, searches_after}
use Rattle.planning.specs.Demands.{five_at, searches_at, Numbered, NumbersTold, SearchNumbersTold}
use Rattle.planning.proofs.SlipLaws.{fives_length, fives_here}
use Rattle.demands.proofs.MeaningLaws.{plan_here_lem, mapped_at}
use Rattle.demands.proofs.Listed.{behind_zero}

-- ---- blocks of five, as many as fit

-- Past the last whole block nothing is stored.
put_past : (l : List ℕ) (n : ℕ) (xs : List (List ℕ)) → length l < 5 * n + 5 → put_all 5 l n xs ≡ l
unfolding put
put_past l n [] h = refl
put_past l n (x ∷ xs) h = rw (lt-leb (5 * n + 5) (length l) h) (put_past l (n + 1) xs (omega arith))

take_blocks : (n : ℕ) {xs : List (List ℕ)} → Blocks 5 xs → Blocks 5 (take n xs)
take_blocks zero b = none
take_blocks (suc n) none = none
take_blocks (suc n) (one e b) = one e (take_blocks n b)

put_fitting : (L : ℕ) (xs : List (List ℕ)) → Blocks 5 xs → put_all 5 (replicate L 0) 0 xs ≡ padded L (flat (take (L / 5) xs))
put_fitting L xs b =
    let m = L / 5 in
    by_cases (ltb m (length xs))
    (λ t.
    let h = ltb-true m (length xs) t in
    let lm : length (take m xs) ≡ m = length-take-le m xs (omega arith) in
    let lf : length (flat (take m xs)) ≡ 5 * m = length_flat (take_blocks m b) ∙ omega arith in
    let zs : List ℕ = replicate (L - length (flat (take m xs))) 0 in
    let ll : length (flat (take m xs) ++ zs) ≡ L = omega (arith, length-append (flat (take m xs)) zs, length-replicate {A = ℕ} (L - length (flat (take m xs))) 0) in
    ap (put_all 5 (replicate L 0) 0) (sym (take-append-drop m xs))
    ∙ put_all_append 5 (replicate L 0) 0 (take m xs) (drop m xs)
    ∙ ap (λ (l : List ℕ). put_all 5 l (0 + length (take m xs)) (drop m xs)) (put_zeros 5 L (take_blocks m b) (omega arith))
    ∙ put_past (padded L (flat (take m xs))) (0 + length (take m xs)) (drop m xs) (omega arith))
    (λ t.
    let h = ltb-false m (length xs) t in
    put_zeros 5 L b (omega arith) ∙ ap (λ (l : List (List ℕ)). padded L (flat l)) (sym (take_all m xs h)))

-- ---- the numbers of a board

five_long : (b : Behind) (s f : ℕ) → length (s ∷ f ∷ behind_numbers (Some b)) ≡ 5
five_long b s f = refl

numbers_five : (os ns : List (List ℕ)) (js : List BoardPlan) → Blocks 5 (numbers_from os ns js)
unfolding board_numbers
numbers_five os ns js = blocks_map 5 (board_numbers os ns) (λ j. five_long (behind_of os ns j) (state_number j.state) (from_of j.state)) js

searches_five : (os ns : List (List ℕ)) (js : List BoardPlan) → Blocks 5 (searches_from os ns js)
unfolding search_numbers
searches_five os ns js = blocks_map 5 (search_numbers os ns) (λ j. refl) js

numbers_at : (os ns : List (List ℕ)) (k : ℕ) → k < length ns → get_or (numbers_from os ns (board_plans os ns)) k [] ≡ five_at os ns (board_plans os ns) (suc k)
unfolding board_numbers
numbers_at os ns k h =
    let e = plan_here_lem os ns k h in
    mapped_at (board_numbers os ns) (board_plans os ns) k [] e ∙ rw e

searches_at_lem : (os ns : List (List ℕ)) (k : ℕ) → k < length ns → get_or (searches_from os ns (board_plans os ns)) k [] ≡ searches_at os ns (board_plans os ns) (suc k)
searches_at_lem os ns k h =
    let e = plan_here_lem os ns k h in
    let n : 1 + k ≡ suc k = omega arith in
    mapped_at (search_numbers os ns) (board_plans os ns) k [] e ∙ rw (e, n)

-- ---- all boards

all_numbered : (five : ℕ → List ℕ) (boards L : ℕ) (back : List ℕ) {xs : List (List ℕ)} → Blocks 5 xs → length xs ≡ boards
    → ((k : ℕ) → k < boards → get_or xs k [] ≡ five (suc k)) → back ≡ put_all 5 (replicate L 0) 0 xs → Numbered five boards L back
all_numbered five boards L back {xs} b lx at e =
    let m = L / 5 in
    let ws : List ℕ = flat (take m xs) in
    let zs : List ℕ = replicate (L - length ws) 0 in
    let f = take_blocks m b in
    let q : back ≡ padded L ws = e ∙ put_fitting L xs b in
    let few : boards ≤ m → length (take m xs) ≡ boards = λ h. ap length (take_all m xs (omega arith)) ∙ lx in
    let many : m ≤ boards → length (take m xs) ≡ m = λ h. length-take-le m xs (omega arith) in
    let fit : length (take m xs) ≤ m =
    by_cases (ltb m boards)
    (λ t. omega (arith, ltb-true m boards t, many (omega (arith, ltb-true m boards t))))
    (λ t. omega (arith, ltb-false m boards t, few (ltb-false m boards t))) in
    let more : (k : ℕ) → k < boards → k < m → k < length (take m xs) =
    λ k h i.
    by_cases (ltb m boards)
    (λ t. omega (arith, many (omega (arith, ltb-true m boards t))))
    (λ t. omega (arith, few (ltb-false m boards t))) in
    record {
      as_many = ap length q ∙ omega (arith, length-append ws zs, length-replicate {A = ℕ} (L - length ws) 0, fives_length f);
      each = λ k h i.
          rw q (fives_here (take m xs) zs k f (more k h (omega arith)))
          ∙ get_or-take m xs k [] (omega arith) ∙ at k h;
      rest_zero = λ h. behind_zero ws L (5 * boards) back (fives_length f ∙ omega (arith, few h)) q;
      tail_zero = λ h. behind_zero ws L (5 * m) back (fives_length f ∙ omega (arith, many h)) q;
    }

pub numbers_told : NumbersTold
numbers_told c old new boxes numbers boxes' numbers' n b =
    let olds = cards_of c old in
    let news = cards_of c new in
    let js = plans_of c old new in
    all_numbered (five_at olds news js) (length news) (length numbers) numbers' (numbers_five olds news js)
    (length-map js (board_numbers olds news) ∙ boards_count olds news) (numbers_at olds news) b.numbers_after

-- Where both editions were taken.
searches_taken : (e : Editions) (c : Conventions) (old new : List ℕ) (L : ℕ) {n : Searched} → Ok n ≡ searched_by e c old new
    → searches_after e c old new L ≡ put_all 5 (replicate L 0) 0 (searches_from (cards_of c old) (cards_of c new) (plans_of c old new))
searches_taken (Ok k) c old new L h = refl
searches_taken (Err f) c old new L h = clash (sym (ap is_ok h))

pub search_numbers_told : SearchNumbersTold
search_numbers_told c old new boxes numbers boxes' numbers' n b =
    let olds = cards_of c old in
    let news = cards_of c new in
    let js = plans_of c old new in
    all_numbered (searches_at olds news js) (length news) (length numbers) numbers' (searches_five olds news js)
    (length-map js (search_numbers olds news) ∙ boards_count olds news) (searches_at_lem olds news) (b.numbers_after ∙ searches_taken (editions_of c old new boxes) c old new (length numbers) b.answer)
