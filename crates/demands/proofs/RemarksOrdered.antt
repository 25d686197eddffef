-- The order of the remarks between two tags.
use Prim.Native.Nat.{ℕ, ◌+◌, ◌≤◌, ◌<◌}
use mathlib.Core.Path.{◌≡◌, sym, subst}
use mathlib.Core.Bool.{Bool, true, or-true}
use mathlib.Core.List.{List, [], ◌∷◌, ◌++◌, map, append-nil, append_assoc}
use native.Mathlib.Omega.{arith}
use lib.ListN.{length, length-append}
use Rattle.tables.proofs.Laws.{by_cases}
use Rattle.reader.specs.Plain.{TagPair, Remark}
use Rattle.reader.proofs.WordLaws.{same_self}
use Rattle.reader.proofs.EntryLaws.{All, none as no_more, one, all_append, all_map}
use Rattle.writer.specs.Tags.{WrittenTag}
use Rattle.writer.specs.Remarks.{Anchored, anchored_from, those, is_leading, is_under, wrote, tag_unwritten, goes_after, WrittenLine, tag_line, data_line, directive_line, block_line, tags_lines}
use Rattle.writer.proofs.GroupLines.{wrote_append}
use Rattle.demands.specs.NothingLost.{Kind, directive, block, line_of, until_tag, InOrder, by_rank, as_met}
use Rattle.demands.proofs.LinesWritten.{remark_lines, directives_under, blocks_under, tag_lines, all_lines, until_remarks, numbered, Each, ended, next, each_quiet, each_end, all_data, all_until}

-- Numbers rise.
pub data Rising : List Anchored → Type 0 where
  no_rise : Rising []
  rise : {k : Anchored} {ks : List Anchored} → All (λ j. k.number < j.number) ks → Rising ks → Rising (k ∷ ks)

those_from : (t : Anchored → Bool) (ts : List TagPair) (i j : ℕ) (rs : List Remark) → i < j → All (λ k. i < k.number) (those t (anchored_from ts j rs))
those_from t ts i j [] h = no_more
those_from t ts i j (r ∷ rs) h =
    let a = those_from t ts i (j + 1) rs (omega arith) in
    by_cases (t (numbered ts j r)) (λ e. rw e (one {x = numbered ts j r} h a)) (λ e. rw e a)

pub those_rise : (t : Anchored → Bool) (ts : List TagPair) (j : ℕ) (rs : List Remark) → Rising (those t (anchored_from ts j rs))
those_rise t ts j [] = no_rise
those_rise t ts j (r ∷ rs) =
    by_cases (t (numbered ts j r))
    (λ e. rw e (rise {k = numbered ts j r} (those_from t ts j (j + 1) rs (omega arith)) (those_rise t ts (j + 1) rs)))
    (λ e. rw e (those_rise t ts (j + 1) rs))

module _ (rk : Kind → ℕ → ℕ) where
  -- A remark's line that stands behind the remark of a rank and a number; and one of a higher rank.
  abbrev pub Behind : ℕ → ℕ → WrittenLine → Type 0
  Behind r i (tag_line n v) = Unit {0}
  Behind r i (data_line d) = Unit {0}
  Behind r i (directive_line j x) = InOrder r i (rk directive j) j
  Behind r i (block_line j x) = InOrder r i (rk block j) j

  abbrev Higher : ℕ → WrittenLine → Type 0
  Higher r (tag_line n v) = Unit {0}
  Higher r (data_line d) = Unit {0}
  Higher r (directive_line j x) = r < rk directive j
  Higher r (block_line j x) = r < rk block j

  abbrev pub Ordered : List WrittenLine → WrittenLine → List WrittenLine → Type 0
  Ordered f (tag_line n v) back = Unit {0}
  Ordered f (data_line d) back = Unit {0}
  Ordered f (directive_line i x) back = All (Behind (rk directive i) i) (until_tag back)
  Ordered f (block_line i x) back = All (Behind (rk block i) i) (until_tag back)

  higher_behind : (r i : ℕ) (l : WrittenLine) → Higher r l → Behind r i l
  higher_behind r i (tag_line n v) h = tt
  higher_behind r i (data_line d) h = tt
  higher_behind r i (directive_line j x) h = by_rank h
  higher_behind r i (block_line j x) h = by_rank h

  higher_less : (r s : ℕ) → r ≤ s → (l : WrittenLine) → Higher s l → Higher r l
  higher_less r s q (tag_line n v) h = tt
  higher_less r s q (data_line d) h = tt
  higher_less r s q (directive_line j x) h = omega arith
  higher_less r s q (block_line j x) h = omega arith

  to_behind : (kind : Kind) (r i j : ℕ) (x : List ℕ) → InOrder r i (rk kind j) j → Behind r i (line_of kind j x)
  to_behind directive r i j x h = h
  to_behind block r i j x h = h

  pub from_behind : (kind : Kind) (r i j : ℕ) (x : List ℕ) → Behind r i (line_of kind j x) → InOrder r i (rk kind j) j
  from_behind directive r i j x h = h
  from_behind block r i j x h = h

  to_higher : (kind : Kind) (r j : ℕ) (x : List ℕ) → r < rk kind j → Higher r (line_of kind j x)
  to_higher directive r j x h = h
  to_higher block r j x h = h

  to_ordered : (kind : Kind) (i : ℕ) (x : List ℕ) (f back : List WrittenLine) → All (Behind (rk kind i) i) (until_tag back) → Ordered f (line_of kind i x) back
  to_ordered directive i x f back h = h
  to_ordered block i x f back h = h

  pub from_ordered : (kind : Kind) (i : ℕ) (x : List ℕ) (f back : List WrittenLine) → Ordered f (line_of kind i x) back → All (Behind (rk kind i) i) (until_tag back)
  from_ordered directive i x f back h = h
  from_ordered block i x f back h = h

  -- The remarks of a kind and a rank.
  higher_lines : (kind : Kind) (r s : ℕ) {ks : List Anchored} → r < s → All (λ k. rk kind k.number ≡ s) ks → All (Higher r) (remark_lines kind ks)
  higher_lines kind r s h no_more = no_more
  higher_lines kind r s h (one {x = k} e a) = one (to_higher kind r k.number k.bytes (omega arith)) (higher_lines kind r s h a)

  behind_lines : (kind : Kind) (r i : ℕ) {ks : List Anchored} → All (λ k. rk kind k.number ≡ r) ks → All (λ k. i < k.number) ks → All (Behind r i) (remark_lines kind ks)
  behind_lines kind r i no_more no_more = no_more
  behind_lines kind r i (one {x = k} e a) (one h b) = one (to_behind kind r i k.number k.bytes (as_met (sym e) h)) (behind_lines kind r i a b)

  each_ordered : (kind : Kind) (r : ℕ) {ks : List Anchored} (f ys : List WrittenLine) → All (λ k. rk kind k.number ≡ r) ks → Rising ks → All (Higher r) (until_tag ys)
      → Each Ordered (f ++ remark_lines kind ks) ys → Each Ordered f (remark_lines kind ks ++ ys)
  each_ordered kind r f ys no_more no_rise h e = subst (λ (g : List WrittenLine). Each Ordered g ys) (append-nil f) e
  each_ordered kind r f ys (one {x = k} {xs = ks} q a) (rise lo up) h e =
      let l = line_of kind k.number k.bytes in
      let here : All (Behind r k.number) (until_tag (remark_lines kind ks ++ ys)) =
      subst (All (Behind r k.number)) (sym (until_remarks kind ks ys))
      (all_append (behind_lines kind r k.number a lo) (all_map (higher_behind r k.number) h)) in
      next
      (to_ordered kind k.number k.bytes f (remark_lines kind ks ++ ys) (subst (λ (s : ℕ). All (Behind s k.number) (until_tag (remark_lines kind ks ++ ys))) (sym q) here))
      (each_ordered kind r (f ++ l ∷ []) ys a up h (subst (λ (g : List WrittenLine). Each Ordered g ys) (sym (append_assoc f (l ∷ []) (remark_lines kind ks))) e))

  soon_higher : (r : ℕ) (ds ks : List Anchored) (earlier ws : List WrittenTag) (ys : List WrittenLine) → All (Higher r) (until_tag ys)
      → All (Higher r) (until_tag (tags_lines ds ks earlier ws ++ ys))
  soon_higher r ds ks earlier [] ys h = h
  soon_higher r ds ks earlier (w ∷ ws) ys h = no_more

  -- The ranks of remarks, and their numbers, in the lines of a board whose written tags are ws.
  pub record Ranked (ws : List WrittenTag) (ds ks : List Anchored) : Type 0 where
    pub directives_under_lem : (k : ℕ) → k < length ws → All (λ d. rk directive d.number ≡ 0) (those (goes_after ws k) ds)
    pub blocks_are_under : (n : List ℕ) → wrote n ws ≡ true → All (λ k. rk block k.number ≡ 1) (those (is_under n) ks)
    pub directives_rise : (t : Anchored → Bool) → Rising (those t ds)
    pub blocks_rise : (t : Anchored → Bool) → Rising (those t ks)

  each_ordered_tags : (ds ks : List Anchored) (earlier ws : List WrittenTag) (f ys : List WrittenLine) → Ranked (earlier ++ ws) ds ks → All (Higher 1) (until_tag ys)
      → Each Ordered (f ++ tags_lines ds ks earlier ws) ys → Each Ordered f (tags_lines ds ks earlier ws ++ ys)
  each_ordered_tags ds ks earlier [] f ys r h e = subst (λ (g : List WrittenLine). Each Ordered g ys) (append-nil f) e
  each_ordered_tags ds ks earlier (w ∷ ws) f ys r h e =
      let n = w.name in
      let tag = tag_line n w.value in
      let D = map data_line w.lines in
      let R = remark_lines directive (directives_under ds earlier w ws) in
      let under_ks = blocks_under ks earlier w in
      let B = remark_lines block under_ks in
      let T = tags_lines ds ks (earlier ++ w ∷ []) ws in
      let here : wrote n (earlier ++ w ∷ ws) ≡ true = rw (wrote_append n earlier (w ∷ ws), same_self n, or-true) in
      let inside : length earlier < length (earlier ++ w ∷ ws) = simp length-append (omega arith) in
      let ranks : All (λ k. rk block k.number ≡ 1) under_ks = by_cases (wrote n earlier) (λ x. rw x no_more) (λ x. rw x (r.blocks_are_under n here)) in
      let rises : Rising under_ks = by_cases (wrote n earlier) (λ x. rw x no_rise) (λ x. rw x (r.blocks_rise (is_under n))) in
      let soon = soon_higher 1 ds ks (earlier ++ w ∷ []) ws ys h in
      let above_directives : All (Higher 0) (until_tag (B ++ (T ++ ys))) =
      subst (All (Higher 0)) (sym (until_remarks block under_ks (T ++ ys)))
      (all_append (higher_lines block 0 1 (omega arith) ranks) (all_map (higher_less 0 1 (omega arith)) soon)) in
      subst (λ (X : List WrittenLine). Each Ordered f (X ++ ys)) (sym (tag_lines ds ks earlier ws w))
      (simp append_assoc
      (next tt
      (each_quiet (f ++ tag ∷ []) (R ++ (B ++ (T ++ ys))) (all_data w.lines (λ d g back. tt))
      (each_ordered directive 0 (f ++ tag ∷ [] ++ D) (B ++ (T ++ ys)) (r.directives_under_lem (length earlier) inside) (r.directives_rise (goes_after (earlier ++ w ∷ ws) (length earlier))) above_directives
      (each_ordered block 1 (f ++ tag ∷ [] ++ D ++ R) (T ++ ys) ranks rises soon
      (each_ordered_tags ds ks (earlier ++ w ∷ []) ws (f ++ tag ∷ [] ++ D ++ R ++ B) ys (rw append_assoc r) h
      (simp append_assoc (subst (λ (X : List WrittenLine). Each Ordered (f ++ X) ys) (tag_lines ds ks earlier ws w) e))))))))

  pub each_ordered_all : (ds ks : List Anchored) (ws : List WrittenTag) → Ranked ws ds ks
      → All (λ k. rk directive k.number ≡ 0) (those is_leading ds) → All (λ k. rk block k.number ≡ 1) (those is_leading ks)
      → All (λ k. rk block k.number ≡ 2) (those (tag_unwritten ws) ks) → All (λ k. rk directive k.number ≡ 3) (those (tag_unwritten ws) ds)
      → Each Ordered [] (all_lines ds ks ws)
  each_ordered_all ds ks ws r a0 a1 a2 a3 =
      let A = remark_lines directive (those is_leading ds) in
      let B = remark_lines block (those is_leading ks) in
      let T = tags_lines ds ks [] ws in
      let Y = remark_lines block (those (tag_unwritten ws) ks) in
      let Z = remark_lines directive (those (tag_unwritten ws) ds) in
      let last : All (Higher 2) (until_tag Z) = all_until directive (those (tag_unwritten ws) ds) (higher_lines directive 2 3 (omega arith) a3) in
      let ends : All (Higher 1) (until_tag (Y ++ Z)) =
      subst (All (Higher 1)) (sym (until_remarks block (those (tag_unwritten ws) ks) Z))
      (all_append (higher_lines block 1 2 (omega arith) a2) (all_map (higher_less 1 2 (omega arith)) last)) in
      let tags = soon_higher 1 ds ks [] ws (Y ++ Z) ends in
      let blocks : All (Higher 0) (until_tag (B ++ (T ++ (Y ++ Z)))) =
      subst (All (Higher 0)) (sym (until_remarks block (those is_leading ks) (T ++ (Y ++ Z))))
      (all_append (higher_lines block 0 1 (omega arith) a1) (all_map (higher_less 0 1 (omega arith)) tags)) in
      each_ordered directive 0 [] (B ++ (T ++ (Y ++ Z))) a0 (r.directives_rise is_leading) blocks
      (each_ordered block 1 A (T ++ (Y ++ Z)) a1 (r.blocks_rise is_leading) tags
      (each_ordered_tags ds ks [] ws (A ++ B) (Y ++ Z) r ends
      (each_ordered block 2 (A ++ B ++ T) Z a2 (r.blocks_rise (tag_unwritten ws)) last
      (each_end (each_ordered directive 3 (A ++ B ++ T ++ Y) [] a3 (r.directives_rise (tag_unwritten ws)) no_more ended)))))
