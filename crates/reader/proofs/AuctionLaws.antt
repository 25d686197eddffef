-- Laws of the auction: what each kind of token comes to, how many entries a piece adds, and that each lies inside it.
use Rattle.tables.proofs.TextLaws.{front_few}
use Rattle.reader.specs.declared.store.Entry.{Entry}
use Prim.Native.Nat.{ℕ, ◌+◌, ◌-◌, ◌≤◌, ◌<◌, ◌*◌}
use mathlib.Core.Path.{◌≡◌, refl, sym, ap}
use mathlib.Core.Bool.{Bool, true, false, cond, ◌&&◌, ◌||◌}
use mathlib.Core.List.{List, [], ◌∷◌}
use native.Mathlib.Nat.{add-zero}
use native.Mathlib.Omega.{arith}
use borrow.Author.Tests.{lt-ltb}
use lib.Dec.{ltb, eqb}
use lib.ListN.{length, take}
use Rattle.tables.specs.declared.letters.Conventions.{Conventions}
use Rattle.tables.proofs.Laws.{by_cases, both, clash}
use Rattle.reader.specs.declared.auction.CallToken.{CallToken}
use Rattle.reader.specs.declared.auction.CallToken.TheVariants.{Plus, Star, AllPass, Annotation, Call, NoCall}
use Rattle.reader.specs.declared.auction.Bidding.{Bidding}
use Rattle.tables.specs.Letters.{capital}
use Rattle.reader.specs.Words.{call_of, call_part, is_call_byte, section_end, is_all_pass}
use Rattle.reader.proofs.EntryLaws.{All, none, one, all_map, Inside, TokensInside, tokens_bytes, out_all_lem, out_few, out_count}
use Rattle.reader.specs.declared.store.Entries.{Entries}
use Rattle.reader.proofs.PieceLaws.{adds_none, adds_then}
use Rattle.reader.specs.Pieces.{Piece, Out, entry, tokens_at}
use Rattle.reader.specs.PieceSteps.{Adds, Emits}
use Rattle.reader.specs.Auction.{annotation, bidding, call_out, called_by, call_token_of, called, called_piece}

-- ---- counts

pub record Counted (b : Bidding) (o : Out Bidding) : Type 0 where
  pub count : o.state.count ≡ b.count + length o.entries
  pub few : length o.entries ≤ 3

annotation_few : (p n : ℕ) → length (annotation p n) ≤ 1
annotation_few p n = by_cases (ltb 0 n) (λ e. rw e (omega arith)) (λ e. rw e (omega arith))

by_counted : (k : CallToken) (b : Bidding) (t : Piece) → Counted b (called_by k b t)
by_counted Plus b t = record { count = refl; few = omega arith }
by_counted Star b t = record { count = sym (add-zero b.count); few = omega arith }
by_counted AllPass b t = record { count = refl; few = omega arith }
by_counted Annotation b t =
    by_cases b.made
    (λ e. rw e (record { count = refl; few = omega arith }))
    (λ e. rw e (record { count = sym (add-zero b.count); few = omega arith }))
by_counted (Call code k) b t = record { count = refl; few = omega (arith, annotation_few (t.at + k) (length t.bytes - k)) }
by_counted NoCall b t = record { count = sym (add-zero b.count); few = omega arith }

counted_if : (s : Bool) (b : Bidding) {o : Out Bidding} → Counted b o → Counted b (cond s (record { state = b; entries = [] }) o)
counted_if true b h = record { count = sym (add-zero b.count); few = omega arith }
counted_if false b h = h

pub called_counted : (c : Conventions) (b : Bidding) (t : Piece) → Counted b (called c b t)
unfolding called
called_counted c b t = counted_if b.stopped b (by_counted (call_token_of c t.bytes) b t)

-- ---- one token

called_by_lem : (c : Conventions) (b : Bidding) (t : Piece) {k : CallToken} → b.stopped ≡ false → call_token_of c t.bytes ≡ k → called c b t ≡ called_by k b t
unfolding called
called_by_lem c b t s e = rw (s, e)

count_of : {r q : Bidding} → r ≡ q → r.count ≡ q.count
count_of e = ap (λ (x : Bidding). x.count) e

pub call_annotated : (b : Bidding) (p len k code : ℕ) {l l₁ l₂ : Entries} {r : Bidding} → k < len
    → Adds l l₁ (entry 6 p k code ∷ []) → Adds l₁ l₂ (entry 7 (p + k) (len - k) 0 ∷ [])
    → r ≡ bidding true b.end false (b.count + 2) → Emits l l₂ r (call_out b p len k code) × (r.count ≤ b.count + 3)
call_annotated b p len k code h e₁ e₂ er =
    let z : ltb 0 (len - k) ≡ true = lt-ltb 0 (len - k) (omega arith) in
    (record { answer = rw z er; adds = rw z (adds_then e₁ e₂) }, omega (arith, count_of er))

module _ (c : Conventions) (b : Bidding) (t : Piece) where
  pub step_stopped : {l : Entries} → b.stopped ≡ true → Emits l l b (called c b t) × (b.count ≤ b.count + 3)
  unfolding called
  step_stopped {l} s = (rw s (record { answer = refl; adds = adds_none l }), omega arith)

  pub step_plus : {l l' : Entries} {r : Bidding} → b.stopped ≡ false → call_token_of c t.bytes ≡ Plus
      → Adds l l' (entry 6 t.at (length t.bytes) 38 ∷ []) → r ≡ bidding true 1 false (b.count + 1)
      → Emits l l' r (called c b t) × (r.count ≤ b.count + 3)
  step_plus s e ew er = (rw (called_by_lem c b t s e) (record { answer = er; adds = ew }), omega (arith, count_of er))

  pub step_star : {l : Entries} {r : Bidding} → b.stopped ≡ false → call_token_of c t.bytes ≡ Star
      → r ≡ bidding b.made 2 true b.count → Emits l l r (called c b t) × (r.count ≤ b.count + 3)
  step_star {l} s e er = (rw (called_by_lem c b t s e) (record { answer = er; adds = adds_none l }), omega (arith, count_of er))

  pub step_annotation : {l l' : Entries} {r : Bidding} → b.stopped ≡ false → call_token_of c t.bytes ≡ Annotation → b.made ≡ true
      → Adds l l' (entry 7 t.at (length t.bytes) 0 ∷ []) → r ≡ bidding true b.end false (b.count + 1)
      → Emits l l' r (called c b t) × (r.count ≤ b.count + 3)
  step_annotation s e m ew er = (rw (called_by_lem c b t s e, m) (record { answer = er; adds = ew }), omega (arith, count_of er))

  pub step_lost : {l : Entries} {r : Bidding} → b.stopped ≡ false → call_token_of c t.bytes ≡ Annotation → b.made ≡ false
      → r ≡ bidding false b.end false b.count → Emits l l r (called c b t) × (r.count ≤ b.count + 3)
  step_lost {l} s e m er = (rw (called_by_lem c b t s e, m) (record { answer = er; adds = adds_none l }), omega (arith, count_of er))

  pub step_none : {l : Entries} {r : Bidding} → b.stopped ≡ false → call_token_of c t.bytes ≡ NoCall
      → r ≡ bidding b.made b.end false b.count → Emits l l r (called c b t) × (r.count ≤ b.count + 3)
  step_none {l} s e er = (rw (called_by_lem c b t s e) (record { answer = er; adds = adds_none l }), omega (arith, count_of er))

  -- AP and a call, whose stores their own functions make.
  pub step_as : {l l' : Entries} {r : Bidding} {k : CallToken} → b.stopped ≡ false → call_token_of c t.bytes ≡ k
      → Emits l l' r (called_by k b t) × (r.count ≤ b.count + 3) → Emits l l' r (called c b t) × (r.count ≤ b.count + 3)
  step_as s e h = rw (called_by_lem c b t s e) h

-- ---- entries of a piece

-- A piece's calls and annotations are counted in the state.
pub calls_counted : (c : Conventions) (b : Bidding) (q : Piece) → (called_piece c b q).state.count ≡ b.count + length (called_piece c b q).entries
unfolding called_piece
calls_counted c b q = out_count (called c) (λ x. x.count) (λ x t. (called_counted c x t).count) b (tokens_at q.at q.bytes)

all_pass_two : (t : List ℕ) → is_all_pass t ≡ true → length t ≡ 2
unfolding is_all_pass
all_pass_two [] e = clash e
all_pass_two (x ∷ []) e = clash (both (eqb 65 (capital x)) false e).1
all_pass_two (x ∷ y ∷ []) e = refl
all_pass_two (x ∷ y ∷ z ∷ zs) e = clash (both (eqb 80 (capital y)) false (both (eqb 65 (capital x)) (eqb 80 (capital y) && false) e).1).1

-- What a token adds: at most twice its bytes, and inside it.
record Fits (t : Piece) (es : List Entry) : Type 0 where
  few : length es ≤ 2 * length t.bytes
  inside : All (Inside t.at (t.at + length t.bytes)) es

chosen : {A : Type 0} (P : A → Type 0) (b : Bool) (x y : A) → (b ≡ true → P x) → P y → P (cond b x y)
chosen P true x y h k = h refl
chosen P false x y h k = k

none_fits : (t : Piece) → Fits t []
none_fits t = record { few = omega arith; inside = none }

one_fits : (t : Piece) (kind n z : ℕ) → (eqb kind 6 || eqb kind 7) ≡ true → n ≤ length t.bytes → 0 < length t.bytes → Fits t (entry kind t.at n z ∷ [])
one_fits t kind n z e h s = record { few = omega arith; inside = one {x = entry kind t.at n z} (record { placed = e; starts = omega arith; ends = omega arith }) none }

annotated_inside : (t : Piece) (k : ℕ) → k ≤ length t.bytes → All (Inside t.at (t.at + length t.bytes)) (annotation (t.at + k) (length t.bytes - k))
annotated_inside t k h =
    chosen (λ es. All (Inside t.at (t.at + length t.bytes)) es) (ltb 0 (length t.bytes - k)) (entry 7 (t.at + k) (length t.bytes - k) 0 ∷ []) []
    (λ e. one (record { placed = refl; starts = omega arith; ends = omega arith }) none)
    none

passes_fit : (t : Piece) → length t.bytes ≡ 2 → Fits t (entry 6 t.at (length t.bytes) 0 ∷ entry 6 t.at (length t.bytes) 0 ∷ entry 6 t.at (length t.bytes) 0 ∷ [])
passes_fit t e =
    let i : Inside t.at (t.at + length t.bytes) (entry 6 t.at (length t.bytes) 0) = record { placed = refl; starts = omega arith; ends = omega arith } in
    record { few = omega arith; inside = one i (one i (one i none)) }

call_fits : (t : Piece) (k code : ℕ) → k ≤ length t.bytes → 0 < length t.bytes → Fits t (entry 6 t.at k code ∷ annotation (t.at + k) (length t.bytes - k))
call_fits t k code h s =
    record {
      few = omega (arith, annotation_few (t.at + k) (length t.bytes - k));
      inside = one {x = entry 6 t.at k code} (record { placed = refl; starts = omega arith; ends = omega arith }) (annotated_inside t k h);
    }

token_fits : (c : Conventions) (b : Bidding) (t : Piece) → 0 < length t.bytes → Fits t (called_by (call_token_of c t.bytes) b t).entries
unfolding call_token_of
token_fits c b t s =
    let P : CallToken → Type 0 = λ k. Fits t (called_by k b t).entries in
    let n = length t.bytes in
    let k = length (call_part t.bytes) in
    let hk : k ≤ n = front_few is_call_byte t.bytes in
    let code = call_of c (take k t.bytes) in
    let call : CallToken = cond (eqb code 47) NoCall (Call code k) in
    let part : CallToken = cond (eqb k 0) Annotation call in
    let pass : CallToken = cond (is_all_pass t.bytes) AllPass part in
    let star : CallToken = cond (eqb (section_end t.bytes) 2) Star pass in
    chosen P (eqb (section_end t.bytes) 1) Plus star (λ e. one_fits t 6 n 38 refl (omega arith) s)
    (chosen P (eqb (section_end t.bytes) 2) Star pass (λ e. none_fits t)
    (chosen P (is_all_pass t.bytes) AllPass part (λ e. passes_fit t (all_pass_two t.bytes e))
    (chosen P (eqb k 0) Annotation call
    (λ e. chosen (λ (o : Out Bidding). Fits t o.entries) b.made (record { state = bidding true b.end false (b.count + 1); entries = entry 7 t.at n 0 ∷ [] }) (record { state = bidding false b.end false b.count; entries = [] }) (λ m. one_fits t 7 n 0 refl (omega arith) s) (none_fits t))
    (chosen P (eqb code 47) NoCall (Call code k) (λ e. none_fits t) (call_fits t k code hk s)))))

called_fits : (c : Conventions) (b : Bidding) (t : Piece) → 0 < length t.bytes → Fits t (called c b t).entries
unfolding called
called_fits c b t s =
    chosen (λ (o : Out Bidding). Fits t o.entries) b.stopped (record { state = b; entries = [] }) (called_by (call_token_of c t.bytes) b t) (λ e. none_fits t) (token_fits c b t s)

-- A piece adds at most twice as many entries as it has bytes.
pub CallsFew : (c : Conventions) (b : Bidding) (q : Piece) → length (called_piece c b q).entries ≤ 2 * length q.bytes
unfolding called_piece
CallsFew c b q =
    let h = out_few (called c) 2 (λ x t l. (called_fits c x t l.some).few) b (TokensInside q.at q.bytes) in
    omega (arith, tokens_bytes q.at q.bytes)

-- Every call and every annotation lies inside its piece.
pub CallsInside : (c : Conventions) (b : Bidding) (q : Piece) → All (Inside q.at (q.at + length q.bytes)) (called_piece c b q).entries
unfolding called_piece
CallsInside c b q =
    out_all_lem (called c)
    (λ x t l. all_map (λ e i. record { placed = i.placed; starts = omega (arith, i.starts, l.starts); ends = omega (arith, i.ends, l.ends) }) (called_fits c x t l.some).inside)
    b
    (TokensInside q.at q.bytes)
