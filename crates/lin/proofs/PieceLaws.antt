-- The pieces as the code goes along them, pair by pair.
use mathlib.Core.Path.{◌≡◌, refl, ◌∙◌, ap}
use mathlib.Core.Bool.{Bool, true, false, cond, ◌&&◌, not}
use mathlib.Core.List.{List, [], ◌∷◌, ◌++◌, append_assoc, append-nil}
use Rattle.tables.proofs.Laws.{by_cases, clash}
use Rattle.lin.specs.declared.pairs.Command.TheVariants.{Qx, Heading}
use Rattle.lin.specs.Pairs.{Pair, is_pair}
use Rattle.lin.specs.Pieces.{opens, pair_before, split, with_deal}
use Rattle.lin.specs.PieceSteps.{is_any, split_from}
use Rattle.lin.proofs.PairLaws.{same_command}

-- Pairs put before the first piece, or as the only one.
abbrev join_all : List Pair → List (List Pair) → List (List Pair)
join_all xs [] = xs ∷ []
join_all xs (g ∷ gs) = (xs ++ g) ∷ gs

join_before : (xs : List Pair) (p : Pair) (gs : List (List Pair)) → join_all (xs ++ p ∷ []) gs ≡ join_all xs (pair_before p gs)
join_before xs p [] = refl
join_before xs p (g ∷ gs) = rw (append_assoc xs (p ∷ []) g)

join_none : (ps : List Pair) → opens ps ≡ true → join_all [] (split ps) ≡ split ps
join_none [] e = clash e
join_none (p ∷ ps) e = some_piece (opens ps && not (is_pair Heading p)) (split ps)
  where
    some_before : (gs : List (List Pair)) → join_all [] (pair_before p gs) ≡ pair_before p gs
    some_before [] = refl
    some_before (g ∷ gs) = refl

    some_piece : (b : Bool) (gs : List (List Pair)) → join_all [] (cond b ((p ∷ []) ∷ gs) (pair_before p gs)) ≡ cond b ((p ∷ []) ∷ gs) (pair_before p gs)
    some_piece true gs = refl
    some_piece false gs = some_before gs

-- A pair that is neither mn nor pn ends the run.
run_ends : (xs : List Pair) (p : Pair) (ps : List Pair)
    → cond (opens ps) ((xs ++ p ∷ []) ∷ join_all [] (split ps)) (join_all ((xs ++ p ∷ []) ++ []) (split ps))
    ≡ join_all xs (cond (opens ps && not false) ((p ∷ []) ∷ split ps) (pair_before p (split ps)))
run_ends xs p ps =
    by_cases (opens ps)
    (λ e. rw (e, join_none ps e))
    (λ e. rw (e, append-nil (xs ++ p ∷ []), join_before xs p (split ps)))

pub some_last : (xs : List Pair) (p : Pair) → is_any (xs ++ p ∷ []) ≡ true
some_last [] p = refl
some_last (x ∷ xs) p = refl

some_more : (xs ys : List Pair) → is_any xs ≡ true → is_any (xs ++ ys) ≡ true
some_more [] ys e = clash e
some_more (x ∷ xs) ys e = refl

-- Behind pairs of a piece, and behind none.
split_behind : (own run ps : List Pair) → is_any own ≡ true
    → split_from own run ps ≡ cond (opens ps) (own ∷ join_all run (split ps)) (join_all (own ++ run) (split ps))
split_behind own run [] s = refl
split_behind own run (p ∷ ps) s =
    by_cases (is_pair Heading p)
    (λ t.
    let q : is_pair Qx p ≡ false = rw (same_command p.command Heading t) in
    rw (t, q) (titled (opens ps) (split_behind own (run ++ p ∷ []) ps s)))
    (λ t.
    by_cases (is_pair Qx p)
    (λ q. rw (t, q, s) (ap (λ (gs : List (List Pair)). own ∷ gs) (split_behind (run ++ p ∷ []) [] ps (some_last run p) ∙ run_ends run p ps)))
    (λ q.
    rw (t, q)
    (split_behind (own ++ (run ++ p ∷ [])) [] ps (some_more own (run ++ p ∷ []) s)
    ∙ (rw (← (append_assoc own run (p ∷ []))) (run_ends (own ++ run) p ps)))))
  where
    titled : (b : Bool) → split_from own (run ++ p ∷ []) ps ≡ cond b (own ∷ join_all (run ++ p ∷ []) (split ps)) (join_all (own ++ (run ++ p ∷ [])) (split ps))
        → split_from own (run ++ p ∷ []) ps ≡ cond b (own ∷ join_all run (cond (b && false) ((p ∷ []) ∷ split ps) (pair_before p (split ps)))) (join_all (own ++ run) (cond (b && false) ((p ∷ []) ∷ split ps) (pair_before p (split ps))))
    titled true h = h ∙ rw (join_before run p (split ps))
    titled false h = h ∙ rw (← (append_assoc own run (p ∷ [])), join_before (own ++ run) p (split ps))

split_first : (run ps : List Pair) → split_from [] run ps ≡ join_all run (split ps)
split_first run [] = refl
split_first run (p ∷ ps) =
    by_cases (is_pair Heading p)
    (λ t. rw t (split_first (run ++ p ∷ []) ps ∙ titled (opens ps)))
    (λ t. rw (t, no_piece_lem (is_pair Qx p)) (split_behind (run ++ p ∷ []) [] ps (some_last run p) ∙ run_ends run p ps))
  where
    titled : (b : Bool) → join_all (run ++ p ∷ []) (split ps) ≡ join_all run (cond (b && false) ((p ∷ []) ∷ split ps) (pair_before p (split ps)))
    titled true = join_before run p (split ps)
    titled false = join_before run p (split ps)

    no_piece_lem : (b : Bool) → (b && false) ≡ false
    no_piece_lem true = refl
    no_piece_lem false = refl

-- Pair by pair, the pieces with an md are those of the split.
pub split_is : (ps : List Pair) → with_deal (split_from [] [] ps) ≡ with_deal (split ps)
split_is ps = rw (split_first [] ps) (none_first (split ps))
  where
    none_first : (gs : List (List Pair)) → with_deal (join_all [] gs) ≡ with_deal gs
    none_first [] = refl
    none_first (g ∷ gs) = refl
