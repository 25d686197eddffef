-- Laws of the pieces of a text: its lines, and its parts between the places where boards start.
use Prim.Native.Nat.{ℕ, ◌+◌, ◌-◌, ◌≤◌, ◌<◌}
use mathlib.Core.Path.{◌≡◌, refl, sym, ap, ◌∙◌}
use mathlib.Core.Bool.{Bool, true, false, ◌&&◌}
use mathlib.Core.List.{List, [], ◌∷◌, ◌++◌, append_assoc, append-nil}
use native.Mathlib.Omega.{arith}
use lib.Dec.{eqb}
use lib.ListN.{length, take, drop, length-drop}
use lib.Seq.{drop-drop, take-add}
use Rattle.std.proofs.lemmas.List.{length-take}
use borrow.Author.Tests.{ne_eqb, leb-true, leb-false}
use Rattle.tables.specs.declared.lines.Lines.{Lines}
use Rattle.tables.specs.Text.{trimmed, before, line}
use Rattle.tables.specs.LineWalk.{IsNextLine, at_end}
use Rattle.tables.proofs.Laws.{stop}
use Rattle.tables.proofs.WalkLaws.{line_trimmed, lines_walk}
use Rattle.lin.specs.declared.pairs.PairAt.{PairAt}
use Rattle.lin.specs.declared.pairs.Pairs.{Pairs}
use Rattle.lin.specs.declared.pairs.Command.TheVariants.{Qx, Heading}
use Rattle.lin.specs.Pairs.{Pair, place_of, pairs_of}
use Rattle.lin.specs.PairSteps.{between, pair_of, Sealed, IsNext}
use Rattle.lin.specs.Pieces.{split, with_deal, line_pieces}
use Rattle.lin.specs.PieceSteps.{lines_left, is_any, split_from}
use Rattle.lin.proofs.PairLaws.{nothing_paired, same_command, other_command}
use Rattle.lin.proofs.PieceLaws.{some_last, split_is}

-- ---- lines

module _ {w v : Lines} {l : List ℕ} (s : IsNextLine w l v) where
  trimmed_line : trimmed l ≡ trimmed (before 10 (drop w.next w.text.now))
  trimmed_line = ap trimmed s.line_is ∙ line_trimmed (drop w.next w.text.now)

  -- A line that is not blank is a piece, a blank one is none.
  pub line_some : {t : List ℕ} → t ≡ trimmed l → (length t ≡ 0 → ⊥) → line_pieces (lines_left w) ≡ pairs_of t ∷ line_pieces (lines_left v)
  line_some {t} k h = rw (lines_walk s, ← trimmed_line, ← k, ne_eqb (length t) 0 h)

  pub line_none : {t : List ℕ} → t ≡ trimmed l → length t ≡ 0 → line_pieces (lines_left w) ≡ line_pieces (lines_left v)
  line_none {t} k h = rw (lines_walk s, ← trimmed_line, ← k, h)

  -- No line is without a byte.
  pub line_behind : (w.next < v.next) × (w.next < length w.text.now)
  line_behind =
      let left = leb-false (length w.text.now) w.next s.left in
      let rest = drop w.next w.text.now in
      (rw s.walk_is (omega (arith, left, length-take (length (line rest) + 1) rest, length-drop w.next w.text.now)), left)

pub no_lines : (w : Lines) → at_end w ≡ true → lines_left w ≡ []
no_lines w e = rw (stop w.text.now w.next (leb-true (length w.text.now) w.next e))

-- ---- parts

between_more : (text : List ℕ) (a b d : ℕ) → a ≤ b → b ≤ d → between text a d ≡ between text a b ++ between text b d
between_more text a b d h k =
    let size : d - a ≡ (b - a) + (d - b) = omega arith in
    let sum : a + (b - a) ≡ b = omega arith in
    let there : drop (b - a) (drop a text) ≡ drop b text = drop-drop (b - a) a text ∙ ap (λ (i : ℕ). drop i text) sum in
    ap (λ (i : ℕ). take i (drop a text)) size ∙ take-add (b - a) (d - b) (drop a text) ∙ ap (λ (s : List ℕ). take (b - a) (drop a text) ++ take (d - b) s) there

between_none : (text : List ℕ) (a : ℕ) → between text a a ≡ []
between_none text a = let z : a - a ≡ 0 = omega arith in ap (λ (i : ℕ). take i (drop a text)) z

nothing_between : (text : List ℕ) (a : ℕ) → pairs_of (between text a a) ≡ []
nothing_between text a = ap pairs_of (between_none text a) ∙ nothing_paired

sealed_none : (text : List ℕ) (a : ℕ) → Sealed (between text a a)
sealed_none text a y = rw (between_none text a, nothing_paired)

sealed_join : (x u : List ℕ) → Sealed x → Sealed u → Sealed (x ++ u)
sealed_join x u s t y =
    ap pairs_of (append_assoc x u y) ∙ s (u ++ y) ∙ ap (λ (ps : List Pair). pairs_of x ++ ps) (t y)
    ∙ sym (append_assoc (pairs_of x) (pairs_of u) (pairs_of y)) ∙ ap (λ (ps : List Pair). ps ++ pairs_of y) (sym (s u))

sealed_more : (text : List ℕ) {a b d : ℕ} → a ≤ b → b ≤ d → Sealed (between text a b) → Sealed (between text b d) → Sealed (between text a d)
sealed_more text {a} {b} {d} h k x y = rw (between_more text a b d h k) (sealed_join (between text a b) (between text b d) x y)

some_behind : (ps qs : List Pair) → is_any qs ≡ true → is_any (ps ++ qs) ≡ true
some_behind [] qs e = e
some_behind (p ∷ ps) qs e = refl

-- Three places: a piece that starts at `start`, the mn and pn behind it that start at `run`, the next pair at `here`.
pub record Places (text : List ℕ) (start run here : ℕ) : Type 0 where
  pub start_run : start ≤ run
  pub run_here : run ≤ here
  pub here_in : here ≤ length text + 1
  pub own_whole : pairs_of (drop start text) ≡ pairs_of (between text start run) ++ pairs_of (drop run text)
  pub run_whole : pairs_of (drop run text) ≡ pairs_of (between text run here) ++ pairs_of (drop here text)
  pub own_some : start < run → is_any (pairs_of (between text start run)) ≡ true
  pub own_sealed : run ≤ length text → Sealed (between text start run)
  pub run_sealed : here ≤ length text → Sealed (between text run here)

pub places_first : (text : List ℕ) → Places text 0 0 0
places_first text =
    record {
      start_run = omega arith;
      run_here = omega arith;
      here_in = omega arith;
      own_whole = rw (nothing_between text 0);
      run_whole = rw (nothing_between text 0);
      own_some = λ h. absurd (omega arith);
      own_sealed = λ h. sealed_none text 0;
      run_sealed = λ h. sealed_none text 0;
    }

-- The pieces from that piece on.
abbrev pub pieces_left : List ℕ → ℕ → ℕ → ℕ → List (List Pair)
pieces_left text start run here = split_from (pairs_of (between text start run)) (pairs_of (between text run here)) (pairs_of (drop here text))

pub left_first : (text : List ℕ) → with_deal (split (pairs_of text)) ≡ with_deal (pieces_left text 0 0 0)
left_first text = sym (split_is (pairs_of text)) ∙ rw (nothing_between text 0)

pub left_last : (text : List ℕ) (start run here : ℕ) → Places text start run here → pairs_of (drop here text) ≡ [] → pieces_left text start run here ≡ pairs_of (drop start text) ∷ []
left_last text start run here t e = rw (t.own_whole, t.run_whole, e, append-nil (pairs_of (between text run here)))

module _ (start run : ℕ) (s : Pairs) (p : PairAt) (r : Pairs) (t : Places s.text.now start run s.at) (i : IsNext s p r) where
  abbrev text : List ℕ
  text = s.text.now

  abbrev here : ℕ
  here = s.at

  abbrev next : ℕ
  next = p.end

  abbrev own : List Pair
  own = pairs_of (between text start run)

  abbrev titles : List Pair
  titles = pairs_of (between text run here)

  rest_is : pairs_of (drop here text) ≡ pair_of p ∷ pairs_of (drop next text)
  rest_is = i.pairs_are ∙ rw (i.same_text, i.place)

  -- What holds at the place behind the pair holds at r.
  at_next : (P : List ℕ → ℕ → Type 0) → P text next → P r.text.now r.at
  at_next P h = rw (i.same_text, i.place) h

  before_next : here ≤ length text
  before_next = omega (arith, i.behind, i.inside)

  run_to : run ≤ length text
  run_to = omega (arith, t.run_here, before_next)

  here_next : here ≤ next
  here_next = omega (arith, i.behind)

  next_in : next ≤ length text + 1
  next_in = omega (arith, i.inside)

  pair_sealed : next ≤ length text → Sealed (between text here next)
  pair_sealed h = i.sealed (omega (arith, h))

  run_more : pairs_of (between text run next) ≡ titles ++ pair_of p ∷ []
  run_more = ap pairs_of (between_more text run here next t.run_here here_next) ∙ t.run_sealed before_next (between text here next) ∙ ap (λ (ps : List Pair). titles ++ ps) i.alone

  run_more_sealed : next ≤ length text → Sealed (between text run next)
  run_more_sealed h = sealed_more text t.run_here here_next (t.run_sealed before_next) (pair_sealed h)

  run_next : run ≤ next
  run_next = omega (arith, t.run_here, here_next)

  own_more : pairs_of (between text start next) ≡ own ++ (titles ++ pair_of p ∷ [])
  own_more = ap pairs_of (between_more text start run next t.start_run run_next) ∙ t.own_sealed run_to (between text run next) ∙ ap (λ (ps : List Pair). own ++ ps) run_more

  own_more_sealed : next ≤ length text → Sealed (between text start next)
  own_more_sealed h = sealed_more text t.start_run run_next (t.own_sealed run_to) (run_more_sealed h)

  whole_more : pairs_of (drop run text) ≡ pairs_of (between text run next) ++ pairs_of (drop next text)
  whole_more =
      t.run_whole ∙ ap (λ (ps : List Pair). titles ++ ps) rest_is
      ∙ sym (append_assoc titles (pair_of p ∷ []) (pairs_of (drop next text))) ∙ ap (λ (ps : List Pair). ps ++ pairs_of (drop next text)) (sym run_more)

  -- Nothing stands between a place and itself.
  whole_here : pairs_of (drop next text) ≡ pairs_of (between text next next) ++ pairs_of (drop next text)
  whole_here = rw (nothing_between text next)

  -- An mn or a pn.
  pub places_title : Places r.text.now start run r.at
  places_title =
      at_next (λ x n. Places x start run n)
      (record {
        start_run = t.start_run;
        run_here = run_next;
        here_in = next_in;
        own_whole = t.own_whole;
        run_whole = whole_more;
        own_some = t.own_some;
        own_sealed = t.own_sealed;
        run_sealed = run_more_sealed;
      })

  pub left_title : p.command ≡ Heading → pieces_left text start run here ≡ pieces_left r.text.now start run r.at
  left_title e = at_next (λ x n. pieces_left text start run here ≡ pieces_left x start run n) (rw (run_more, rest_is, e))

  -- A qx behind a piece, with which the next piece starts.
  pub places_qx : Places r.text.now run r.at r.at
  places_qx =
      at_next (λ x n. Places x run n n)
      (record {
        start_run = run_next;
        run_here = omega arith;
        here_in = next_in;
        own_whole = whole_more;
        run_whole = whole_here;
        own_some = λ h. rw run_more (some_last titles (pair_of p));
        own_sealed = run_more_sealed;
        run_sealed = λ h. sealed_none text next;
      })

  pub left_qx : p.command ≡ Qx → start < run → pieces_left text start run here ≡ own ∷ pieces_left r.text.now run r.at r.at
  left_qx e l = at_next (λ x n. pieces_left text start run here ≡ own ∷ pieces_left x run n n) (rw (run_more, nothing_between text next, rest_is, e, t.own_some l))

  -- Any other pair.
  pub places_other : Places r.text.now start r.at r.at
  places_other =
      at_next (λ x n. Places x start n n)
      (record {
        start_run = omega (arith, t.start_run, run_next);
        run_here = omega arith;
        here_in = next_in;
        own_whole =
            t.own_whole ∙ ap (λ (ps : List Pair). own ++ ps) (whole_more ∙ ap (λ (ps : List Pair). ps ++ pairs_of (drop next text)) run_more)
            ∙ sym (append_assoc own (titles ++ pair_of p ∷ []) (pairs_of (drop next text))) ∙ ap (λ (ps : List Pair). ps ++ pairs_of (drop next text)) (sym own_more);
        run_whole = whole_here;
        own_some = λ h. rw own_more (some_behind own (titles ++ pair_of p ∷ []) (some_last titles (pair_of p)));
        own_sealed = own_more_sealed;
        run_sealed = λ h. sealed_none text next;
      })

  pub left_other : (p.command ≡ Heading → ⊥) → (p.command ≡ Qx → start < run → ⊥) → pieces_left text start run here ≡ pieces_left r.text.now start r.at r.at
  left_other e f =
      at_next (λ x n. pieces_left text start run here ≡ pieces_left x start n n)
      (rw (rest_is, other_command p.command Heading e, goes_on (eqb (place_of p.command) 1) refl, own_more, nothing_between text next))
    where
      same_place : (start < run → ⊥) → run ≡ start
      same_place g = omega (arith, g, t.start_run)

      -- A qx here is the first pair of its piece.
      goes_on : (q : Bool) → eqb (place_of p.command) 1 ≡ q → (eqb (place_of p.command) 1 && is_any own) ≡ false
      goes_on false z = rw z
      goes_on true z =
          let same : run ≡ start = same_place (f (same_command p.command Qx z)) in
          rw (z, same, nothing_between text start)
