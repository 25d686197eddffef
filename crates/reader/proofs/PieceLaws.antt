-- Laws of steps that add entries, of tokens, and of lines.
use Prim.Native.Nat.{ℕ, suc, ◌+◌, ◌<◌}
use mathlib.Core.Path.{◌≡◌, refl, sym, ap, ◌∙◌}
use mathlib.Core.Bool.{false}
use mathlib.Core.List.{List, [], ◌∷◌, ◌++◌, map}
use native.Mathlib.Nat.{add-zero}
use native.Mathlib.Omega.{arith}
use lib.Dec.{eqb}
use lib.ListN.{length, take, drop, length-map, length-append}
use Rattle.tables.specs.Text.{is_white, word, past_word, trim_start, lead, before}
use Rattle.tables.proofs.Laws.{by_cases}
use Rattle.reader.specs.declared.store.Entry.{Entry}
use Rattle.reader.specs.declared.store.Entries.{Entries}
use Rattle.reader.specs.Store.{put_all, entry_words}
use Rattle.reader.specs.Pieces.{Out, and_then, out_all, raw_lines, tokens_at, prepend_token}
use Rattle.reader.specs.PieceSteps.{piece, Adds, Emits}
use Rattle.reader.proofs.StoreLaws.{put_all_append}

-- ---- steps

map_append : {A B : Type 0} (f : A → B) (xs ys : List A) → map f (xs ++ ys) ≡ map f xs ++ map f ys
map_append f [] ys = refl
map_append f (x ∷ xs) ys = ap (λ (l : List _). f x ∷ l) (map_append f xs ys)

-- Entries put one run after another.
put_run : (a n : ℕ) (l : List ℕ) (xs ys : List Entry) → put_all 4 l n (map (entry_words a) (xs ++ ys)) ≡ put_all 4 (put_all 4 l n (map (entry_words a) xs)) (n + length xs) (map (entry_words a) ys)
put_run a n l xs ys =
    ap (put_all 4 l n) (map_append (entry_words a) xs ys)
    ∙ put_all_append 4 l n (map (entry_words a) xs) (map (entry_words a) ys)
    ∙ ap (λ (k : ℕ). put_all 4 (put_all 4 l n (map (entry_words a) xs)) (n + k) (map (entry_words a) ys)) (length-map xs (entry_words a))

-- Entries added one run after another.
pub adds_none : (l : Entries) → Adds l l []
adds_none l = record { words = refl; count = sym (add-zero l.count); start = refl; lent = refl }

pub adds_then : {l l' l'' : Entries} {xs ys : List Entry} → Adds l l' xs → Adds l' l'' ys → Adds l l'' (xs ++ ys)
adds_then {l} {l'} {l''} {xs} {ys} f g =
    record {
      words = g.words ∙ rw (f.words, f.count, f.start) (sym (put_run l.start l.count l.words.now xs ys));
      count = rw length-append (omega (arith, f.count, g.count));
      start = g.start ∙ f.start;
      lent = g.lent ∙ f.lent;
    }

-- A step that adds nothing.
pub emits_none : {A : Type 0} (l : Entries) (r : A) → Emits l l r (record { state = r; entries = [] })
emits_none l r = record { answer = refl; adds = adds_none l }

-- One step after another.
pub emits_then : {A : Type 0} {l l' l'' : Entries} {r r' : A} {o p : Out A} → Emits l l' r o → Emits l' l'' r' p → Emits l l'' r' (and_then o p)
emits_then e f = record { answer = f.answer; adds = adds_then e.adds f.adds }

-- What is left of a run of steps: f over the rest, from the state s and the entries l on, leaves what f over all leaves from the start.
pub record ToEmit {A B : Type 0} (f : A → B → Out A) (l₀ : Entries) (o : Out A) (l : Entries) (s : A) (rest : List B) : Type 0 where
  pub answer : (out_all f s rest).state ≡ o.state
  pub adds : (l' : Entries) → Adds l l' (out_all f s rest).entries → Adds l₀ l' o.entries
  pub start : l.start ≡ l₀.start

pub to_emit : {A B : Type 0} (f : A → B → Out A) (l : Entries) (s : A) (xs : List B) → ToEmit f l (out_all f s xs) l s xs
to_emit f l s xs = record { answer = refl; adds = λ l' h. h; start = refl }

-- One step of the run.
pub emitting : {A B : Type 0} {f : A → B → Out A} {l₀ : Entries} {o : Out A} {l : Entries} {s : A} {x : B} {rest : List B} {l' : Entries} {s' : A}
    → ToEmit f l₀ o l s (x ∷ rest) → Emits l l' s' (f s x) → ToEmit f l₀ o l' s' rest
emitting {A} {B} {f} {l₀} {o} {l} {s} {x} {rest} {l'} {s'} t e =
    record {
      answer = rw e.answer t.answer;
      adds = λ l'' h. t.adds l'' (adds_then e.adds (rw e.answer at h));
      start = e.adds.start ∙ t.start;
    }

-- The run's end.
pub emitted : {A B : Type 0} {f : A → B → Out A} {l₀ : Entries} {o : Out A} {l : Entries} {s : A} → ToEmit f l₀ o l s [] → Emits l₀ l s o
emitted {l = l} t = record { answer = t.answer; adds = t.adds l (adds_none l) }

-- ---- tokens

pub tokens_skip : (p : ℕ) (s : List ℕ) → tokens_at p s ≡ tokens_at (p + length (lead s)) (trim_start s)
tokens_skip p [] = ap (λ (k : ℕ). tokens_at k []) (sym (add-zero p))
tokens_skip p (b ∷ bs) =
    by_cases (is_white b)
    (λ e.
    let d : p + suc (length (lead bs)) ≡ p + 1 + length (lead bs) = omega arith in
    rw (e, d) (tokens_skip (p + 1) bs))
    (λ e. rw (e, add-zero) (rw e))

pub tokens_word : (p b : ℕ) (bs : List ℕ) → is_white b ≡ false
    → tokens_at p (b ∷ bs) ≡ piece p (word (b ∷ bs)) ∷ tokens_at (p + length (word (b ∷ bs))) (past_word (b ∷ bs))
tokens_word p b [] e = rw e
tokens_word p b (c ∷ cs) e =
    by_cases (is_white c)
    (λ w. rw (e, w) (rw w))
    (λ w.
    let d : p + suc (suc (length (word cs))) ≡ p + 1 + suc (length (word cs)) = omega arith in
    rw (e, w, d) (ap (prepend_token p b) (rw w at (tokens_word (p + 1) c cs w))))

-- ---- lines

pub raw_step : (s : List ℕ) → 0 < length s → raw_lines s ≡ take (length (before 10 s) + 1) s ∷ raw_lines (drop (length (before 10 s) + 1) s)
raw_step [] h = absurd (omega arith)
raw_step (b ∷ []) h = by_cases (eqb b 10) (λ e. rw e) (λ e. rw e)
raw_step (b ∷ c ∷ cs) h =
    by_cases (eqb b 10)
    (λ e. rw e)
    (λ e.
    let d : suc (length (before 10 (c ∷ cs))) + 1 ≡ suc (length (before 10 (c ∷ cs)) + 1) = omega arith in
    rw (e, raw_step (c ∷ cs) (omega arith), d))
