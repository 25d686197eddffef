-- No two written tags have one name, but notes; and which names are written.
use Prim.Native.String.{String}
use Prim.Native.Nat.{ℕ, suc, ◌+◌, ◌-◌, ◌≤◌, ◌<◌}
use mathlib.Core.Path.{◌≡◌, refl, sym, ap, ◌∙◌}
use mathlib.Core.Bool.{Bool, true, false, cond, ◌&&◌, ◌||◌, not, or-false, or-true, and-false, and-true}
use mathlib.Core.List.{List, [], ◌∷◌, ◌++◌, map}
use mathlib.Core.Option.{Option, none, some}
use native.Mathlib.Nat.{zero-add}
use native.Mathlib.Omega.{arith}
use lib.Dec.{eqb, ltb}
use lib.ListN.{length, drop, get_or}
use borrow.Author.Tests.{eqb-true, eqb-false, eq-eqb, lt-ltb}
use Rattle.tables.specs.declared.letters.Conventions.{Conventions}
use Rattle.tables.specs.Text.{ascii}
use Rattle.tables.proofs.Laws.{by_cases, both, clash}
use Rattle.reader.specs.declared.board.TableCard.{TableCard}
use Rattle.reader.specs.Words.{same}
use Rattle.reader.specs.Names.{tag_names, number_in, tag_number}
use Rattle.reader.specs.Plain.{TagPair, PlainAuction, PlainPlay, PlainBoard}
use Rattle.reader.proofs.WordLaws.{same_self, same_is}
use Rattle.reader.proofs.NameLaws.{tag_name, all_below, at_below}
use Rattle.writer.specs.Sections.{note_values}
use Rattle.writer.specs.Tags.{WrittenTag, named, is_extra, extras_from, until_deal, since_deal, before_deal, from_deal, early_extras, late_extras, if_there, dealer_tags, head_tags, table_tags, deal_tags, note_tag, auction_tags, play_tags, written_tags}
use Rattle.writer.specs.Remarks.{wrote}
use Rattle.writer.specs.declared.present.Present.{Present}
use Rattle.writer.specs.PresentSteps.{is_there, is_any, has_notes, present_of, is_tag_written}

-- ---- how often a name is written

abbrev pub once : Bool → ℕ
once b = cond b 1 0

abbrev pub times_written : List ℕ → List WrittenTag → ℕ
times_written n [] = 0
times_written n (w ∷ ws) = once (same n w.name) + times_written n ws

pub times_append : (n : List ℕ) (ws vs : List WrittenTag) → times_written n (ws ++ vs) ≡ times_written n ws + times_written n vs
times_append n [] vs = omega arith
times_append n (w ∷ ws) vs = omega (arith, times_append n ws vs)

pub wrote_times : (n : List ℕ) (ws : List WrittenTag) → wrote n ws ≡ ltb 0 (times_written n ws)
wrote_times n [] = refl
wrote_times n (w ∷ ws) =
    by_cases (same n w.name)
    (λ e. rw e (sym (lt-ltb 0 (1 + times_written n ws) (omega arith))))
    (λ e. rw (e, zero-add) (wrote_times n ws))

-- ---- numbers for names

-- The number of a tag name, 22 for Scoring, 0 for a supplemental tag that is written as it was read.
abbrev pub number : List ℕ → ℕ
number n = cond (same (ascii "Scoring") n) 22 (tag_number n)

number_few : (ws : List (List ℕ)) (t : List ℕ) (n : ℕ) → 0 < n → number_in ws t n < n + length ws
number_few [] t n h = omega arith
number_few (w ∷ ws) t n h = by_cases (same w t) (λ e. rw e (omega arith)) (λ e. rw e (omega (arith, number_few ws t (n + 1) (omega arith))))

number_most : (n : List ℕ) → tag_number n < 22
unfolding tag_names tag_number
number_most n = number_few tag_names n 1 (omega arith)

tag_same : (n m : List ℕ) → 0 < tag_number n → tag_number n ≡ tag_number m → n ≡ m
tag_same n m h e = tag_name n h ∙ (ap (λ (j : ℕ). get_or tag_names (j - 1) []) e ∙ sym (tag_name m (omega arith)))

-- A name with a number is the only one of that number.
number_same : (n m : List ℕ) → 0 < number n → number n ≡ number m → n ≡ m
number_same n m h e =
    by_cases (same (ascii "Scoring") n)
    (λ x.
    by_cases (same (ascii "Scoring") m)
    (λ y. sym (same_is (ascii "Scoring") n x) ∙ same_is (ascii "Scoring") m y)
    (λ y. absurd (omega (arith, rw (x, y) at e, number_most m))))
    (λ x.
    by_cases (same (ascii "Scoring") m)
    (λ y. absurd (omega (arith, rw (x, y) at e, number_most n)))
    (λ y. tag_same n m (rw x at h) (rw (x, y) at e)))

same_number : (n m : List ℕ) → 0 < number n → same n m ≡ eqb (number n) (number m)
same_number n m h =
    by_cases (eqb (number n) (number m))
    (λ e. ap (same n) (sym (number_same n m h (eqb-true (number n) (number m) e))) ∙ (same_self n ∙ sym e))
    (λ e.
    by_cases (same n m)
    (λ t. clash (sym e ∙ eq-eqb (number n) (number m) (ap number (same_is n m t))))
    (λ t. t ∙ sym e))

abbrev numbers_of : List WrittenTag → List ℕ
numbers_of [] = []
numbers_of (w ∷ ws) = number w.name ∷ numbers_of ws

abbrev times_in : ℕ → List ℕ → ℕ
times_in k [] = 0
times_in k (j ∷ js) = once (eqb k j) + times_in k js

times_numbers : (n : List ℕ) (ws : List WrittenTag) → 0 < number n → times_written n ws ≡ times_in (number n) (numbers_of ws)
times_numbers n [] h = refl
times_numbers n (w ∷ ws) h = rw (same_number n w.name h, times_numbers n ws h)

-- Without a number there are at most those without one.
times_few : (n : List ℕ) (ws : List WrittenTag) → number n ≡ 0 → times_written n ws ≤ times_in 0 (numbers_of ws)
times_few n [] h = omega arith
times_few n (w ∷ ws) h =
    let i = times_few n ws h in
    by_cases (same n w.name)
    (λ e.
    let z : eqb 0 (number w.name) ≡ true = eq-eqb 0 (number w.name) (sym (sym (ap number (same_is n w.name e)) ∙ h)) in
    rw (e, z) (omega arith))
    (λ e. rw e (omega arith))

times_in_append : (k : ℕ) (is js : List ℕ) → times_in k (is ++ js) ≡ times_in k is + times_in k js
times_in_append k [] js = omega arith
times_in_append k (i ∷ is) js = omega (arith, times_in_append k is js)

-- ---- the numbers of the groups

abbrev if_so : Bool → ℕ → List ℕ
if_so b k = cond b (k ∷ []) []

abbrev head_numbers : Present → List ℕ
head_numbers p = 5 ∷ 6 ∷ 7 ∷ (if_so p.board 1 ++ (14 ∷ 11 ∷ 12 ∷ 13 ∷ (if_so p.dealer 2 ++ (3 ∷ []))))

abbrev deal_numbers : Present → List ℕ
deal_numbers p = 4 ∷ 22 ∷ 8 ∷ 9 ∷ 10 ∷ (if_so p.table 18 ++ (if_so p.score 20 ++ if_so p.par 21))

there_numbers : (name : String) (o : Option (List ℕ)) (ws : List WrittenTag)
    → numbers_of (if_there name o ++ ws) ≡ if_so (is_there o) (number (ascii name)) ++ numbers_of ws
there_numbers name none ws = refl
there_numbers name (some v) ws = refl

dealer_numbers : (c : Conventions) (s : ℕ) (ws : List WrittenTag)
    → numbers_of (dealer_tags c s ++ ws) ≡ if_so (ltb s 4) 2 ++ numbers_of ws
unfolding tag_names tag_number
dealer_numbers c s ws = by_cases (ltb s 4) (λ e. rw e) (λ e. rw e)

table_numbers_lem : (t : TableCard) (ws : List WrittenTag)
    → numbers_of (table_tags t ++ ws) ≡ if_so (not (eqb t.kind 0)) 18 ++ numbers_of ws
unfolding table_tags tag_names tag_number
table_numbers_lem t ws = by_cases (eqb t.kind 0) (λ e. rw e) (λ e. rw e)

head_numbers_lem : (c : Conventions) (b : PlainBoard) → numbers_of (head_tags c b) ≡ head_numbers (present_of b)
unfolding head_tags present_of tag_names tag_number
head_numbers_lem c b = rw (there_numbers, dealer_numbers)

deal_numbers_lem : (c : Conventions) (b : PlainBoard) → numbers_of (deal_tags c b) ≡ deal_numbers (present_of b)
unfolding deal_tags present_of tag_names tag_number
deal_numbers_lem c b = rw (table_numbers_lem, there_numbers, par_numbers b.values.par)
  where
    par_numbers : (o : Option (List ℕ)) → numbers_of (if_there "ParContract" o) ≡ if_so (is_there o) 21
    par_numbers none = refl
    par_numbers (some v) = refl

note_times : (k : ℕ) (vs : List (List ℕ)) → times_in k (numbers_of (map note_tag vs)) ≡ cond (eqb k 17) (length vs) 0
unfolding tag_names tag_number
note_times k [] = by_cases (eqb k 17) (λ e. rw e) (λ e. rw e)
note_times k (v ∷ vs) =
    let i = note_times k vs in
    by_cases (eqb k 17)
    (λ e. rw e (omega (arith, rw e at i)))
    (λ e. rw e (omega (arith, rw e at i)))

-- ---- supplemental names

extra_is : (t : TagPair) → is_extra t ≡ eqb (number t.name) 0
unfolding is_extra
extra_is t = by_cases (same (ascii "Scoring") t.name) (λ e. rw (e, and-false)) (λ e. rw (e, and-true))

pub named_append : (n : List ℕ) (ts us : List TagPair) → named n (ts ++ us) ≡ (named n ts || named n us)
named_append n [] us = refl
named_append n (t ∷ ts) us = by_cases (same n t.name) (λ e. rw e) (λ e. rw e (named_append n ts us))

-- A supplemental name is written once where it stands and did not stand before.
extra_times : (n : List ℕ) (seen ts : List TagPair) → number n ≡ 0 → times_written n (extras_from seen ts) ≡ once (named n ts && not (named n seen))
extra_times n seen [] h = refl
extra_times n seen (t ∷ ts) h =
    let i : times_written n (extras_from (seen ++ t ∷ []) ts) ≡ once (named n ts && not (named n seen || (same n t.name || false))) =
    extra_times n (seen ++ t ∷ []) ts h ∙ rw (named_append n seen (t ∷ [])) in
    by_cases (same n t.name)
    (λ e. met e (i ∙ rw (e, or-true, and-false)))
    (λ e.
    let more : times_written n (extras_from (seen ++ t ∷ []) ts) ≡ once (named n ts && not (named n seen)) = i ∙ rw (e, or-false) in
    by_cases (is_extra t && not (named t.name seen))
    (λ x. rw (x, e, zero-add) more)
    (λ x. rw (x, e) more))
  where
    met : same n t.name ≡ true → times_written n (extras_from (seen ++ t ∷ []) ts) ≡ 0
        → times_written n (extras_from seen (t ∷ ts)) ≡ once ((same n t.name || named n ts) && not (named n seen))
    met e None_more =
        let i = same_is n t.name e in
        let k : is_extra t ≡ true = extra_is t ∙ eq-eqb (number t.name) 0 (ap number (sym i) ∙ h) in
        by_cases (named n seen)
        (λ u.
        let v = ap (λ (m : List ℕ). named m seen) (sym i) ∙ u in
        rw (k, v, u, e) None_more)
        (λ u.
        let v = ap (λ (m : List ℕ). named m seen) (sym i) ∙ u in
        rw (k, v, u, e, None_more))

-- Any other name is not written among them.
other_times : (n : List ℕ) (seen ts : List TagPair) → 0 < number n → times_written n (extras_from seen ts) ≡ 0
other_times n seen [] h = refl
other_times n seen (t ∷ ts) h =
    by_cases (is_extra t && not (named t.name seen))
    (λ x.
    by_cases (same n t.name)
    (λ e.
    let z = eqb-true (number t.name) 0 (sym (extra_is t) ∙ (both (is_extra t) (not (named t.name seen)) x).0) in
    absurd (omega (arith, z, ap number (same_is n t.name e))))
    (λ e. rw (x, e, zero-add) (other_times n (seen ++ t ∷ []) ts h)))
    (λ x. rw x (other_times n (seen ++ t ∷ []) ts h))

-- The tags before the first Deal tag and those from there on are all.
deal_split : (ts : List TagPair) → before_deal ts ++ from_deal ts ≡ ts
deal_split ts = by_cases (named (ascii "Deal") ts) (λ e. rw e (there ts e)) (λ e. rw e)
  where
    there : (us : List TagPair) → named (ascii "Deal") us ≡ true → until_deal us ++ since_deal us ≡ us
    there [] e = clash e
    there (t ∷ us) e =
        by_cases (same (ascii "Deal") t.name)
        (λ x. rw x)
        (λ x. rw x (ap (λ (vs : List TagPair). t ∷ vs) (there us (rw x at e))))

extras_times : (n : List ℕ) (ts : List TagPair) → number n ≡ 0 → times_written n (early_extras ts) + times_written n (late_extras ts) ≡ once (named n ts)
unfolding early_extras late_extras
extras_times n ts h =
    rw (extra_times n [] (before_deal ts) h, extra_times n (before_deal ts) (from_deal ts) h)
    (at_one (named n (before_deal ts)) (named n (from_deal ts)) ∙ ap once (sym (named_append n (before_deal ts) (from_deal ts)) ∙ ap (named n) (deal_split ts)))
  where
    at_one : (p q : Bool) → once (p && true) + once (q && not p) ≡ once (p || q)
    at_one true true = refl
    at_one true false = refl
    at_one false true = refl
    at_one false false = refl

-- ---- all tags of a board

-- The groups in a row.
groups_times : (n : List ℕ) (c : Conventions) (b : PlainBoard) (play : List (List ℕ))
    → times_written n (written_tags c b play)
    ≡ times_written n (head_tags c b)
    + (times_written n (early_extras b.tags)
    + (times_written n (deal_tags c b)
    + (times_written n (late_extras b.tags)
    + (times_written n (auction_tags c b.tags b.auction) + times_written n (play_tags c play b.play)))))
unfolding written_tags
groups_times n c b play = simp times_append

-- A test of every Bool.
unfoldable for_bool : (Bool → Bool) → Bool
for_bool p = p true && p false

for_at : (p : Bool → Bool) → for_bool p ≡ true → (x : Bool) → p x ≡ true
unfolding for_bool
for_at p e true = (both (p true) (p false) e).0
for_at p e false = (both (p true) (p false) e).1

-- The numbers of the groups but the notes.
abbrev all_numbers : Present → List ℕ
all_numbers p = head_numbers p ++ (deal_numbers p ++ (if_so p.auction 15 ++ if_so p.play 16))

abbrev times_right : ℕ → Present → Bool
times_right k p = eqb (times_in k (all_numbers p)) (once (not (eqb k 0 || eqb k 17) && is_tag_written p k))

abbrev all_right : ℕ → Bool
all_right k =
    for_bool (λ board.
    for_bool (λ dealer.
    for_bool (λ table.
    for_bool (λ score.
    for_bool (λ par.
    for_bool (λ auction.
    for_bool (λ notes.
    for_bool (λ play.
    times_right k (record { board = board; dealer = dealer; table = table; score = score; par = par; auction = auction; notes = notes; play = play })))))))))

all_right_lem : all_below all_right 23 ≡ true
unfolding for_bool is_tag_written
all_right_lem = refl

number_times : (k : ℕ) (p : Present) → k < 23 → times_right k p ≡ true
number_times k p h =
    for_at _
    (for_at _
    (for_at _
    (for_at _
    (for_at _
    (for_at _
    (for_at _
    (for_at _ (at_below all_right 23 k all_right_lem h) p.board)
    p.dealer)
    p.table)
    p.score)
    p.par)
    p.auction)
    p.notes)
    p.play

abbrev pub note_count : List TagPair → Option PlainAuction → ℕ
note_count ts none = 0
note_count ts (some a) = length (note_values (drop a.before ts))

auction_times : (k : ℕ) (c : Conventions) (ts : List TagPair) (o : Option PlainAuction)
    → times_in k (numbers_of (auction_tags c ts o)) ≡ times_in k (if_so (is_there o) 15) + cond (eqb k 17) (note_count ts o) 0
unfolding auction_tags tag_names tag_number
auction_times k c ts none = by_cases (eqb k 17) (λ e. rw e) (λ e. rw e)
auction_times k c ts (some a) = omega (arith, note_times k (note_values (drop a.before ts)))

play_numbers : (c : Conventions) (play : List (List ℕ)) (o : Option PlainPlay) → numbers_of (play_tags c play o) ≡ if_so (is_there o) 16
unfolding play_tags tag_names tag_number
play_numbers c play none = refl
play_numbers c play (some p) = refl

-- How often a number stands in the groups other than those of supplemental tags.
groups_numbers : (k : ℕ) (c : Conventions) (b : PlainBoard) (play : List (List ℕ)) → k < 23
    → times_in k (numbers_of (head_tags c b))
    + (times_in k (numbers_of (deal_tags c b))
    + (times_in k (numbers_of (auction_tags c b.tags b.auction)) + times_in k (numbers_of (play_tags c play b.play))))
    ≡ once (not (eqb k 0 || eqb k 17) && is_tag_written (present_of b) k) + cond (eqb k 17) (note_count b.tags b.auction) 0
unfolding present_of
groups_numbers k c b play h =
    let p = present_of b in
    let ends = if_so p.auction 15 ++ if_so p.play 16 in
    let t = eqb-true (times_in k (all_numbers p)) (once (not (eqb k 0 || eqb k 17) && is_tag_written p k)) (number_times k p h) in
    let x = times_in_append k (head_numbers p) (deal_numbers p ++ ends) in
    let y = times_in_append k (deal_numbers p) ends in
    let z = times_in_append k (if_so p.auction 15) (if_so p.play 16) in
    rw (head_numbers_lem c b, deal_numbers_lem c b, auction_times k c b.tags b.auction, play_numbers c play b.play)
    (omega (arith, t, x, y, z))

number_less : (n : List ℕ) → number n < 23
number_less n = by_cases (same (ascii "Scoring") n) (λ e. rw e (omega arith)) (λ e. rw e (omega (arith, number_most n)))

supplemental_times : (c : Conventions) (b : PlainBoard) (play : List (List ℕ)) (n : List ℕ) → number n ≡ 0
    → times_written n (written_tags c b play) ≡ once (named n b.tags)
supplemental_times c b play n z =
    omega (
      arith,
      groups_times n c b play,
      groups_numbers 0 c b play (omega arith),
      extras_times n b.tags z,
      times_few n (head_tags c b) z,
      times_few n (deal_tags c b) z,
      times_few n (auction_tags c b.tags b.auction) z,
      times_few n (play_tags c play b.play) z,
    )

known_times : (c : Conventions) (b : PlainBoard) (play : List (List ℕ)) (n : List ℕ) → 0 < number n
    → times_written n (written_tags c b play)
    ≡ once (not (eqb (number n) 0 || eqb (number n) 17) && is_tag_written (present_of b) (number n)) + cond (eqb (number n) 17) (note_count b.tags b.auction) 0
unfolding early_extras late_extras
known_times c b play n z =
    omega (
      arith,
      groups_times n c b play,
      groups_numbers (number n) c b play (number_less n),
      other_times n [] (before_deal b.tags) z,
      other_times n (before_deal b.tags) (from_deal b.tags) z,
      times_numbers n (head_tags c b) z,
      times_numbers n (deal_tags c b) z,
      times_numbers n (auction_tags c b.tags b.auction) z,
      times_numbers n (play_tags c play b.play) z,
    )

-- THEOREM. How often each name is written: a supplemental one once where it stands on the board; Note as often as there are notes; any
-- other once or not at all.
pub TimesWritten : (c : Conventions) (b : PlainBoard) (play : List (List ℕ)) (n : List ℕ)
    → times_written n (written_tags c b play)
    ≡ cond (eqb (number n) 0) (once (named n b.tags)) (cond (eqb (number n) 17) (note_count b.tags b.auction) (once (is_tag_written (present_of b) (number n))))
TimesWritten c b play n =
    by_cases (eqb (number n) 0)
    (λ e. rw e (supplemental_times c b play n (eqb-true (number n) 0 e)))
    (λ e.
    let k = known_times c b play n (omega (arith, eqb-false (number n) 0 e)) in
    by_cases (eqb (number n) 17)
    (λ x. rw (e, x) (k ∙ rw (e, x) (omega arith)))
    (λ x. rw (e, x) (k ∙ rw (e, x) (omega arith))))

note_number_lem : (n : List ℕ) → number n ≡ 17 → same (ascii "Note") n ≡ true
unfolding tag_names tag_number
note_number_lem n e = same_number (ascii "Note") n (omega arith) ∙ eq-eqb 17 (number n) (sym e)

once_few : (x : Bool) → once x ≤ 1
once_few true = omega arith
once_few false = omega arith

-- THEOREM. No two written tags have one name, but notes.
pub NamesOnce : (c : Conventions) (b : PlainBoard) (play : List (List ℕ)) (n : List ℕ) → same (ascii "Note") n ≡ false → times_written n (written_tags c b play) ≤ 1
NamesOnce c b play n h =
    let t = TimesWritten c b play n in
    by_cases (eqb (number n) 0)
    (λ e. omega (arith, rw e at t, once_few (named n b.tags)))
    (λ e.
    by_cases (eqb (number n) 17)
    (λ x. clash (sym h ∙ note_number_lem n (eqb-true (number n) 17 x)))
    (λ x. omega (arith, rw (e, x) at t, once_few (is_tag_written (present_of b) (number n)))))

once_test : (x : Bool) → ltb 0 (once x) ≡ x
once_test true = refl
once_test false = refl

known_test : (p : Present) (k i j : ℕ) → eqb k 0 ≡ false → eqb k 17 ≡ false → ltb 0 (cond (eqb k 0) i (cond (eqb k 17) j (once (is_tag_written p k)))) ≡ is_tag_written p k
known_test p k i j x y = rw (x, y) (once_test (is_tag_written p k))

notes_test : (ts : List TagPair) (o : Option PlainAuction) → ltb 0 (note_count ts o) ≡ has_notes ts o
notes_test ts none = refl
notes_test ts (some a) = some_values (note_values (drop a.before ts))
  where
    some_values : (vs : List (List ℕ)) → ltb 0 (length vs) ≡ is_any vs
    some_values [] = refl
    some_values (v ∷ vs) = lt-ltb 0 (suc (length vs)) (omega arith)

-- THEOREM. A name that stands on the board is written by its number alone. One with a number need not stand there.
pub Written : (c : Conventions) (b : PlainBoard) (play : List (List ℕ)) (n : List ℕ)
    → (tag_number n ≡ 0 → named n b.tags ≡ true)
    → wrote n (written_tags c b play) ≡ is_tag_written (present_of b) (tag_number n)
unfolding tag_names tag_number is_tag_written present_of
Written c b play n h =
    wrote_times n (written_tags c b play)
    ∙ (ap (ltb 0) (TimesWritten c b play n)
    ∙ by_cases (same (ascii "Scoring") n)
    (λ e. rw (e, ap tag_number (sym (same_is (ascii "Scoring") n e))))
    (λ e.
    by_cases (eqb (tag_number n) 0)
    (λ x. rw (e, h (eqb-true (tag_number n) 0 x), eqb-true (tag_number n) 0 x))
    (λ x.
    by_cases (eqb (tag_number n) 17)
    (λ y. rw (e, eqb-true (tag_number n) 17 y) (notes_test b.tags b.auction))
    (λ y. rw e (known_test (present_of b) (tag_number n) (once (named n b.tags)) (note_count b.tags b.auction) x y)))))

-- ---- which groups have notes

note_wrote : (ws : List WrittenTag) → times_written (ascii "Note") ws ≤ 0 → wrote (ascii "Note") ws ≡ false
note_wrote ws h =
    let z : times_written (ascii "Note") ws ≡ 0 = omega arith in
    wrote_times (ascii "Note") ws ∙ ap (ltb 0) z

-- No group but the auction's has a note.
pub record Noteless (c : Conventions) (b : PlainBoard) (play : List (List ℕ)) : Type 0 where
  pub head_noteless : wrote (ascii "Note") (head_tags c b) ≡ false
  pub early_noteless : wrote (ascii "Note") (early_extras b.tags) ≡ false
  pub deal_noteless : wrote (ascii "Note") (deal_tags c b) ≡ false
  pub late_noteless : wrote (ascii "Note") (late_extras b.tags) ≡ false
  pub play_noteless : wrote (ascii "Note") (play_tags c play b.play) ≡ false

pub noteless : (c : Conventions) (b : PlainBoard) (play : List (List ℕ)) → Noteless c b play
unfolding early_extras late_extras tag_names tag_number
noteless c b play =
    let p = present_of b in
    let ends = if_so p.auction 15 ++ if_so p.play 16 in
    let t = eqb-true (times_in 17 (all_numbers p)) 0 (number_times 17 p (omega arith)) in
    let x = times_in_append 17 (head_numbers p) (deal_numbers p ++ ends) in
    let y = times_in_append 17 (deal_numbers p) ends in
    let few : (ws : List WrittenTag) → times_written (ascii "Note") ws ≡ times_in 17 (numbers_of ws) = λ ws. times_numbers (ascii "Note") ws (omega arith) in
    record {
      head_noteless = note_wrote (head_tags c b) (omega (arith, few (head_tags c b), ap (times_in 17) (head_numbers_lem c b), t, x));
      early_noteless = note_wrote (early_extras b.tags) (omega (arith, other_times (ascii "Note") [] (before_deal b.tags) (omega arith)));
      deal_noteless = note_wrote (deal_tags c b) (omega (arith, few (deal_tags c b), ap (times_in 17) (deal_numbers_lem c b), t, x, y));
      late_noteless = note_wrote (late_extras b.tags) (omega (arith, other_times (ascii "Note") (before_deal b.tags) (from_deal b.tags) (omega arith)));
      play_noteless = note_wrote (play_tags c play b.play) (rw (few (play_tags c play b.play), play_numbers c play b.play) (no_play (is_there b.play)));
    }
  where
    no_play : (x : Bool) → times_in 17 (if_so x 16) ≤ 0
    no_play true = omega arith
    no_play false = omega arith
