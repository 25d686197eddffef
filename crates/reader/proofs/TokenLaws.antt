-- The tokens of a piece, read one after the other.
use Prim.Native.Nat.{ℕ, suc, ◌+◌, ◌-◌, ◌≤◌, ◌<◌}
use mathlib.Core.Path.{◌≡◌, refl, sym, ap, ◌∙◌}
use mathlib.Core.Bool.{Bool, false}
use mathlib.Core.List.{List, [], ◌∷◌}
use native.Mathlib.Omega.{arith}
use lib.ListN.{length, take, drop, length-drop}
use lib.Seq.{drop-drop}
use Rattle.tables.specs.Text.{is_white, is_word, beyond, lead, trim_start, word, past_word}
use Rattle.tables.proofs.Laws.{by_cases}
use Rattle.tables.proofs.TextLaws.{take_front, drop_front, front_few}
use Rattle.reader.specs.Pieces.{Piece, Out, tokens_at}
use Rattle.reader.specs.declared.store.Entries.{Entries}
use Rattle.reader.specs.PieceSteps.{piece, Emits}
use Rattle.reader.specs.declared.tag.Span.{Span}
use Rattle.reader.specs.declared.tokens.Tokens.{Tokens}
use Rattle.reader.specs.Tag.{cut}
use Rattle.reader.specs.Tokens.{token_start, token_len, IsNextToken}
use Rattle.reader.proofs.PieceLaws.{ToEmit, emitting, emitted, tokens_skip, tokens_word}
use Rattle.reader.proofs.TagLaws.{trim_twice}

beyond_few : (p : ℕ → Bool) (s : List ℕ) → length (beyond p s) ≤ length s
beyond_few p [] = omega arith
beyond_few p (b ∷ bs) = by_cases (p b) (λ e. rw e (omega (arith, beyond_few p bs))) (λ e. rw e (omega arith))

-- A trimmed text that is not empty begins with a byte that is not white.
first_of : {P : Type 0} (u : List ℕ) → trim_start u ≡ u → 0 < length u → ((b : ℕ) (bs : List ℕ) → u ≡ b ∷ bs → is_white b ≡ false → P) → P
first_of [] t h go = absurd (omega arith)
first_of (b ∷ bs) t h go =
    by_cases (is_white b)
    (λ e.
    let l : length (trim_start bs) ≤ length bs = beyond_few is_white bs in
    let z : trim_start bs ≡ b ∷ bs = rw e at t in
    let n : length (trim_start bs) ≡ suc (length bs) = rw z in
    absurd (omega arith))
    (λ e. go b bs refl e)

tokens_first : (p : ℕ) (u : List ℕ) → trim_start u ≡ u → 0 < length u → tokens_at p u ≡ piece p (word u) ∷ tokens_at (p + length (word u)) (past_word u)
tokens_first p u t h = first_of u t h (λ b bs e w. rw e (tokens_word p b bs w))

word_some : (u : List ℕ) → trim_start u ≡ u → 0 < length u → 0 < length (word u)
word_some u t h = first_of u t h (λ b bs e w. rw (e, w) (omega arith))

-- From the place i on a text has its next token, and the tokens behind it; or none.
module _ (at : ℕ) (s : List ℕ) (i : ℕ) where
  start_is : drop (token_start s i) s ≡ trim_start (drop i s)
  start_is = sym (drop-drop (length (lead (drop i s))) i s) ∙ drop_front is_white (drop i s)

  from_start : tokens_at (at + i) (drop i s) ≡ tokens_at (at + token_start s i) (drop (token_start s i) s)
  from_start =
      let p : at + i + length (lead (drop i s)) ≡ at + token_start s i = omega arith in
      rw (start_is, ← p) (tokens_skip (at + i) (drop i s))

  is_trimmed : trim_start (drop (token_start s i) s) ≡ drop (token_start s i) s
  is_trimmed = rw start_is (trim_twice (drop i s))

  tokens_next : 0 < token_len s i
      → tokens_at (at + i) (drop i s)
      ≡ piece (at + token_start s i) (take (token_len s i) (drop (token_start s i) s)) ∷ tokens_at (at + (token_start s i + token_len s i)) (drop (token_start s i + token_len s i) s)
  tokens_next h =
      let b = token_start s i in
      let k = token_len s i in
      let u = drop b s in
      let p : at + b + k ≡ at + (b + k) = omega arith in
      from_start ∙ rw (take_front is_word u, ← drop-drop k b s, drop_front is_word u, ← p) (tokens_first (at + b) u is_trimmed (omega (arith, h, front_few is_word u)))

  tokens_none : token_len s i ≡ 0 → tokens_at (at + i) (drop i s) ≡ []
  tokens_none h = from_start ∙ none_of (drop (token_start s i) s) is_trimmed h
    where
      none_of : (u : List ℕ) → trim_start u ≡ u → length (word u) ≡ 0 → tokens_at (at + token_start s i) u ≡ []
      none_of [] t e = refl
      none_of (b ∷ bs) t e = absurd (omega (arith, word_some (b ∷ bs) t (omega arith), e))

-- What f over the tokens of s behind the place i leaves, s standing at the place `at`, is what f over all its tokens leaves from the start.
abbrev pub AtToken : {A : Type 0} (f : A → Piece → Out A) (l₀ : Entries) (o : Out A) (at : ℕ) (s : List ℕ) (l : Entries) (w : A) (i : ℕ) → Type 0
AtToken f l₀ o at s l w i = ToEmit f l₀ o l w (tokens_at (at + i) (drop i s))

-- The token that comes lies in the text.
pub token_inside : {v v' : Tokens} {d : Span} (s : List ℕ) → IsNextToken v d v' → v.text.now ≡ s → (d.start + d.len ≤ length s) × (v'.next ≡ d.start + d.len) × (v.next ≤ d.start)
token_inside {v} {v'} {d} s n e =
    let u = drop (token_start v.text.now v.next) v.text.now in
    let z : length u ≡ length v.text.now - token_start v.text.now v.next = length-drop (token_start v.text.now v.next) v.text.now in
    (rw (← e) (omega (arith, n.start_is, n.len_is, n.some_byte, front_few is_word u, z)), ap (λ (x : Tokens). x.next) n.walk_is, omega (arith, n.start_is))

pub reading_next : {A : Type 0} {f : A → Piece → Out A} {l₀ : Entries} {o : Out A} (at : ℕ) {s : List ℕ} {l : Entries} {w : A} {l' : Entries} {w' : A} {v v' : Tokens} {d : Span} (x : List ℕ)
    → AtToken f l₀ o at s l w v.next → IsNextToken v d v' → v.text.now ≡ s → x ≡ cut d s
    → Emits l l' w' (f w (piece (at + d.start) x)) → AtToken f l₀ o at s l' w' v'.next
reading_next {A} {f} {l₀} {o} at {s} {l} {w} {l'} {w'} {v} {v'} {d} x t n e ex k =
    let es : d.start ≡ token_start s v.next = rw (← e) n.start_is in
    let el : d.len ≡ token_len s v.next = rw (← e) n.len_is in
    let h : 0 < token_len s v.next = rw (← el) n.some_byte in
    let p : v'.next ≡ token_start s v.next + token_len s v.next = ap (λ (y : Tokens). y.next) n.walk_is ∙ omega (arith, es, el) in
    let y : x ≡ take (token_len s v.next) (drop (token_start s v.next) s) = ex ∙ (ap (λ (m : ℕ). take m (drop d.start s)) el ∙ ap (λ (m : ℕ). take (token_len s v.next) (drop m s)) es) in
    rw p (emitting (rw (tokens_next at s v.next h) at t) (rw (← y, ← es) k))

pub reading_done : {A : Type 0} {f : A → Piece → Out A} {l₀ : Entries} {o : Out A} (at : ℕ) {s : List ℕ} {l : Entries} {w : A} (v : Tokens)
    → AtToken f l₀ o at s l w v.next → v.text.now ≡ s → token_len v.text.now v.next ≡ 0 → Emits l₀ l w o
reading_done {A} {f} {l₀} {o} at {s} {l} {w} v t e h = emitted (rw (tokens_none at s v.next (rw e at h)) at t)
