-- Laws of the play: slots and winners, what a token comes to, and how many entries a piece adds.
use Prim.Native.Nat.{ℕ, ◌+◌, ◌≤◌}
use mathlib.Core.Path.{◌≡◌, refl, sym, ap, ◌∙◌}
use mathlib.Core.Bool.{Bool, true, false, cond}
use mathlib.Core.List.{List, [], ◌∷◌}
use native.Mathlib.Nat.{add-zero}
use native.Mathlib.Omega.{arith}
use borrow.Author.Tests.{eq-eqb, ne_eqb}
use lib.Dec.{ltb, eqb}
use lib.ListN.{length}
use Rattle.tables.specs.declared.letters.Conventions.{Conventions}
use Rattle.tables.proofs.Laws.{clash}
use Rattle.reader.specs.declared.store.Entry.{Entry}
use Rattle.reader.specs.declared.play.Slots.{Slots}
use Rattle.reader.specs.declared.play.Tricks.{Tricks}
use Rattle.reader.proofs.EntryLaws.{All, none, one, Trick, TokensInside, tokens_bytes, out_all_lem, out_few, out_count}
use Rattle.reader.specs.declared.store.Entries.{Entries}
use Rattle.reader.proofs.PieceLaws.{adds_none, emits_none}
use Rattle.reader.specs.Words.{card_named, section_end}
use Rattle.reader.specs.Pieces.{Out, tokens_at, Piece}
use Rattle.reader.specs.PieceSteps.{Adds, Emits}
use Rattle.reader.specs.Play.{with_card, with_slot, slot_of, taking, new_trick, next_leader, trick_entry, opened, is_gap, played, played_bytes, one_more, last_trick, no_tricks, played_token, played_piece}
use Rattle.reader.specs.TokenSteps.{Seated}

pub cond_low : (b : Bool) (x y n : ℕ) → x ≤ n → y ≤ n → cond b x y ≤ n
cond_low true x y n h k = h
cond_low false x y n h k = k

cond_true : {A : Type 0} (b : Bool) (x y : A) → b ≡ true → cond b x y ≡ x
cond_true true x y e = refl
cond_true false x y e = clash e

cond_false : {A : Type 0} (b : Bool) (x y : A) → b ≡ false → cond b x y ≡ y
cond_false true x y e = clash (sym e)
cond_false false x y e = refl

pub none_seated : Seated no_tricks
none_seated = record { leader_low = omega arith; winner_low = omega arith; seat_low = omega arith; slots_low = record { a_low = omega arith; b_low = omega arith; c_low = omega arith; d_low = omega arith } }

-- ---- slots, winners, new tricks

pub card_is : (trump lead : ℕ) (t : Tricks) (card : ℕ) {k : ℕ} {s : Slots} {r : Tricks} → k ≡ slot_of lead t.seat t.leader → s ≡ with_slot t.slots k card → r ≡ with_card trump t s
    → r ≡ with_card trump t (with_slot t.slots (slot_of lead t.seat t.leader) card)
card_is trump lead t card ek es er = er ∙ ap (with_card trump t) (es ∙ ap (λ (j : ℕ). with_slot t.slots j card) ek)

-- ---- counts

pub record Grown (n : ℕ) (o : Out Tricks) : Type 0 where
  pub count : o.state.count ≡ n + length o.entries
  pub few : length o.entries ≤ 1

grown_if : (b : Bool) {n : ℕ} (o p : Out Tricks) → Grown n o → Grown n p → Grown n (cond b o p)
grown_if true o p g h = g
grown_if false o p g h = h

same_grown : (t : Tricks) → Grown t.count (record { state = t; entries = [] })
same_grown t = record { count = sym (add-zero t.count); few = omega arith }

opened_grown : (lead : ℕ) (t : Tricks) → Grown t.count (opened lead t)
unfolding opened
opened_grown lead t =
    let new : Out Tricks = record { state = new_trick (next_leader t.winner t.leader) t.end (t.count + 1); entries = trick_entry t ∷ [] } in
    let first : Out Tricks = record { state = new_trick lead t.end t.count; entries = [] } in
    let old : Out Tricks = record { state = t; entries = [] } in
    grown_if t.any
    (cond (eqb t.seat 4) new old)
    first
    (grown_if (eqb t.seat 4) new old (record { count = refl; few = omega arith }) (same_grown t))
    (record { count = sym (add-zero t.count); few = omega arith })

count_if : (b : Bool) {n : ℕ} (x y : Tricks) → x.count ≡ n → y.count ≡ n → (cond b x y).count ≡ n
count_if true x y e f = e
count_if false x y e f = f

played_count : (c : Conventions) (lead trump : ℕ) (t : Tricks) (bytes : List ℕ) → (played c lead trump t bytes).count ≡ t.count
unfolding played
played_count c lead trump t bytes =
    let card : Tricks = with_card trump t (with_slot t.slots (slot_of lead t.seat t.leader) (card_named c bytes)) in
    let none : Tricks = cond (ltb (card_named c bytes) 52) card t in
    let dash : Tricks = cond (is_gap bytes) (taking t t.end false (t.seat + 1)) none in
    let star : Tricks = cond (eqb (section_end bytes) 2) (taking t 2 true t.seat) dash in
    count_if (eqb (section_end bytes) 1)
    (taking t 1 false (t.seat + 1))
    star
    refl
    (count_if (eqb (section_end bytes) 2) (taking t 2 true t.seat) dash refl
    (count_if (is_gap bytes) (taking t t.end false (t.seat + 1)) none refl (count_if (ltb (card_named c bytes) 52) card t refl refl)))

pub played_grown : (c : Conventions) (lead trump : ℕ) (t : Tricks) (bytes : List ℕ) → Grown t.count (played_bytes c lead trump t bytes)
unfolding played_bytes
played_grown c lead trump t bytes =
    let g = opened_grown lead t in
    grown_if t.stopped
    (record { state = t; entries = [] })
    (record { state = played c lead trump (opened lead t).state bytes; entries = (opened lead t).entries })
    (same_grown t)
    (record { count = played_count c lead trump (opened lead t).state bytes ∙ g.count; few = g.few })

count_of : {r q : Tricks} → r ≡ q → r.count ≡ q.count
count_of e = ap (λ (x : Tricks). x.count) e

pub next_trick_few : (c : Conventions) (lead trump : ℕ) (w : Tricks) (bytes : List ℕ) {r : Tricks} → r ≡ (played_bytes c lead trump w bytes).state → r.count ≤ w.count + 1
next_trick_few c lead trump w bytes e = omega (arith, count_of e, (played_grown c lead trump w bytes).count, (played_grown c lead trump w bytes).few)

-- ---- steps

opened_full : (lead : ℕ) (t : Tricks) → t.any ≡ true → t.seat ≡ 4
    → opened lead t ≡ record { state = new_trick (next_leader t.winner t.leader) t.end (t.count + 1); entries = trick_entry t ∷ [] }
unfolding opened
opened_full lead t ea es = cond_true t.any _ _ ea ∙ cond_true (eqb t.seat 4) _ _ (eq-eqb t.seat 4 es)

opened_same : (lead : ℕ) (t : Tricks) → t.any ≡ true → (t.seat ≡ 4 → ⊥) → opened lead t ≡ record { state = t; entries = [] }
unfolding opened
opened_same lead t ea es = cond_true t.any _ _ ea ∙ cond_false (eqb t.seat 4) _ _ (ne_eqb t.seat 4 es)

opened_first : (lead : ℕ) (t : Tricks) → t.any ≡ false → opened lead t ≡ record { state = new_trick lead t.end t.count; entries = [] }
unfolding opened
opened_first lead t ea = cond_false t.any _ _ ea

played_stopped : (c : Conventions) (lead trump : ℕ) (t : Tricks) (bytes : List ℕ) → t.stopped ≡ true → played_bytes c lead trump t bytes ≡ record { state = t; entries = [] }
unfolding played_bytes
played_stopped c lead trump t bytes e = cond_true t.stopped _ _ e

played_on : (c : Conventions) (lead trump : ℕ) (t : Tricks) (bytes : List ℕ) → t.stopped ≡ false
    → played_bytes c lead trump t bytes ≡ record { state = played c lead trump (opened lead t).state bytes; entries = (opened lead t).entries }
unfolding played_bytes
played_on c lead trump t bytes e = cond_false t.stopped _ _ e

last_open : (t : Tricks) → t.any ≡ true → last_trick t ≡ record { state = one_more t; entries = trick_entry t ∷ [] }
unfolding last_trick
last_open t e = cond_true t.any _ _ e

last_empty : (t : Tricks) → t.any ≡ false → last_trick t ≡ record { state = t; entries = [] }
unfolding last_trick
last_empty t e = cond_false t.any _ _ e

pub open_full : (lead : ℕ) (t : Tricks) {l l' : Entries} {r : Tricks} {m : ℕ} {x : Entry} → t.any ≡ true → t.seat ≡ 4 → x ≡ trick_entry t
    → Adds l l' (x ∷ []) → m ≡ next_leader t.winner t.leader → r ≡ new_trick m t.end (t.count + 1) → Emits l l' r (opened lead t)
open_full lead t ea es ex ew em er = rw (opened_full lead t ea es) (record { answer = er ∙ rw em; adds = rw ex at ew })

pub open_same : (lead : ℕ) (t : Tricks) {l : Entries} → t.any ≡ true → (t.seat ≡ 4 → ⊥) → Emits l l t (opened lead t)
open_same lead t {l} ea es = rw (opened_same lead t ea es) (emits_none l t)

pub open_first : (lead : ℕ) (t : Tricks) {l : Entries} {r : Tricks} → t.any ≡ false → r ≡ new_trick lead t.end t.count → Emits l l r (opened lead t)
open_first lead t {l} ea er = rw (opened_first lead t ea) (record { answer = er; adds = adds_none l })

pub play_stopped : (c : Conventions) (lead trump : ℕ) (t : Tricks) (bytes : List ℕ) {l : Entries} → t.stopped ≡ true → Emits l l t (played_bytes c lead trump t bytes)
play_stopped c lead trump t bytes {l} es = rw (played_stopped c lead trump t bytes es) (emits_none l t)

pub play_on : (c : Conventions) (lead trump : ℕ) (t : Tricks) (bytes : List ℕ) {l l' : Entries} {o r : Tricks} → t.stopped ≡ false
    → Emits l l' o (opened lead t) → r ≡ played c lead trump o bytes → Emits l l' r (played_bytes c lead trump t bytes)
play_on c lead trump t bytes es e er =
    rw (played_on c lead trump t bytes es) (record { answer = er ∙ ap (λ (x : Tricks). played c lead trump x bytes) e.answer; adds = e.adds })

pub last_stored : (t : Tricks) {l l' : Entries} {r : Tricks} {x : Entry} → t.any ≡ true → x ≡ trick_entry t → Adds l l' (x ∷ []) → r ≡ one_more t
    → Emits l l' r (last_trick t) × (r.count ≤ t.count + 1)
last_stored t ea ex ew er = (rw (last_open t ea) (record { answer = er; adds = rw ex at ew }), omega (arith, count_of er))

pub last_none : (t : Tricks) {l : Entries} → t.any ≡ false → Emits l l t (last_trick t) × (t.count ≤ t.count + 1)
last_none t {l} ea = (rw (last_empty t ea) (emits_none l t), omega arith)

-- ---- entries of a piece

-- A piece's tricks are counted in the state.
pub tricks_counted : (c : Conventions) (lead trump : ℕ) (t : Tricks) (q : Piece) → (played_piece c lead trump t q).state.count ≡ t.count + length (played_piece c lead trump t q).entries
unfolding played_piece
tricks_counted c lead trump t q =
    out_count (played_token c lead trump) (λ x. x.count) (λ x b. (played_grown c lead trump x b.bytes).count) t (tokens_at q.at q.bytes)

-- A piece closes at most as many tricks as it has bytes.
pub TricksFew : (c : Conventions) (lead trump : ℕ) (t : Tricks) (q : Piece) → length (played_piece c lead trump t q).entries ≤ length q.bytes
unfolding played_piece
TricksFew c lead trump t q =
    let h =
    out_few (played_token c lead trump) 1 (λ x b l. omega (arith, (played_grown c lead trump x b.bytes).few, l.some)) t (TokensInside q.at q.bytes)
    in
    omega (arith, tokens_bytes q.at q.bytes)

tricks_if : (b : Bool) (o p : Out Tricks) → All Trick o.entries → All Trick p.entries → All Trick (cond b o p).entries
tricks_if true o p g h = g
tricks_if false o p g h = h

opened_tricks : (lead : ℕ) (t : Tricks) → All Trick (opened lead t).entries
unfolding opened
opened_tricks lead t =
    let new : Out Tricks = record { state = new_trick (next_leader t.winner t.leader) t.end (t.count + 1); entries = trick_entry t ∷ [] } in
    let first : Out Tricks = record { state = new_trick lead t.end t.count; entries = [] } in
    let old : Out Tricks = record { state = t; entries = [] } in
    tricks_if t.any (cond (eqb t.seat 4) new old) first (tricks_if (eqb t.seat 4) new old (one (record { trick = refl }) none) none) none

played_tricks : (c : Conventions) (lead trump : ℕ) (t : Tricks) (bytes : List ℕ) → All Trick (played_bytes c lead trump t bytes).entries
unfolding played_bytes
played_tricks c lead trump t bytes =
    tricks_if t.stopped
    (record { state = t; entries = [] })
    (record { state = played c lead trump (opened lead t).state bytes; entries = (opened lead t).entries })
    none
    (opened_tricks lead t)

-- Every entry of a play is a trick.
pub TricksOnly : (c : Conventions) (lead trump : ℕ) (t : Tricks) (q : Piece) → All Trick (played_piece c lead trump t q).entries
unfolding played_piece
TricksOnly c lead trump t q = out_all_lem (played_token c lead trump) (λ x b l. played_tricks c lead trump x b.bytes) t (TokensInside q.at q.bytes)

pub LastTrickOnly : (t : Tricks) → All Trick (last_trick t).entries
unfolding last_trick
LastTrickOnly t = tricks_if t.any (record { state = one_more t; entries = trick_entry t ∷ [] }) (record { state = t; entries = [] }) (one (record { trick = refl }) none) none

pub last_counted : (t : Tricks) → Grown t.count (last_trick t)
unfolding last_trick
last_counted t = grown_if t.any (record { state = one_more t; entries = trick_entry t ∷ [] }) (record { state = t; entries = [] }) (record { count = refl; few = omega arith }) (same_grown t)
