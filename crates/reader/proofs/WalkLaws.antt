-- Laws of walking a section's data.
use Rattle.reader.specs.declared.tag.Span.{Span}
use Rattle.reader.specs.Tag.{cut}
use Rattle.reader.specs.PieceSteps.{piece}
use Rattle.std.specs.Prelude.{None}
use Rattle.reader.specs.Sections.{span_of}
use Rattle.reader.specs.declared.section.Kind.TheVariants.{Auction, Play, Optimum}
use Rattle.std.specs.Prelude.{Option, Some}
use Prim.Native.Nat.{ℕ, ◌+◌, ◌-◌, ◌*◌, ◌≤◌}
use mathlib.Core.Path.{◌≡◌, refl, sym, ap, ◌∙◌}
use mathlib.Core.List.{List, [], ◌∷◌, ◌++◌, append_assoc, append-nil}
use native.Mathlib.Omega.{arith}
use lib.Dec.{eqb}
use lib.ListN.{length, length-take}
use Rattle.tables.specs.declared.letters.Conventions.{Conventions}
use Rattle.tables.specs.Tables.{row_of}
use Rattle.tables.proofs.Laws.{by_cases}
use Rattle.reader.specs.declared.store.Entries.{Entries}
use Rattle.reader.specs.declared.auction.Bidding.{Bidding}
use Rattle.reader.specs.declared.play.Tricks.{Tricks}
use Rattle.reader.specs.declared.section.Next.{Next}
use Rattle.reader.specs.declared.section.Open.{Open}
use Rattle.reader.specs.declared.section.Walk.{Walk}
use Rattle.reader.specs.Pieces.{Piece, Out, and_then, out_all}
use Rattle.reader.specs.PieceSteps.{Emits}
use Rattle.reader.specs.Auction.{called_piece}
use Rattle.reader.specs.Play.{played_piece}
use Rattle.reader.specs.TokenSteps.{Seated}
use Rattle.reader.specs.Sections.{split_piece, lines_data, section_data, row_stored, rowed_piece, walked, no_walk, walked_all, kind_of, opener, lines_at, split_off}
use Rattle.reader.specs.SectionSteps.{data_from, PieceFrom, walk_count, Walks}
use Rattle.reader.proofs.EntryLaws.{out_count}
use Rattle.reader.proofs.AuctionLaws.{calls_counted}
use Rattle.reader.proofs.PlayLaws.{none_seated, tricks_counted}
use Rattle.reader.proofs.PieceLaws.{adds_none, adds_then, ToEmit, to_emit, emitted}

-- ---- the number of entries

walked_count : (c : Conventions) (o : Option Open) (trump : ℕ) (w : Walk) (q : Piece) → walk_count (walked c o trump w q).state ≡ walk_count w + length (walked c o trump w q).entries
unfolding walked
walked_count c o trump w q =
    by_cases (eqb (kind_of o) 1)
    (λ e. rw e (omega (arith, calls_counted c w.bidding q)))
    (λ e.
    by_cases (eqb (kind_of o) 2)
    (λ f. rw (e, f) (omega (arith, tricks_counted c (opener o) trump w.tricks q)))
    (λ f. rw (e, f) (omega arith)))

pub walk_count_lem : (c : Conventions) (o : Option Open) (trump : ℕ) (w : Walk) (qs : List Piece)
    → walk_count (out_all (walked c o trump) w qs).state ≡ walk_count w + length (out_all (walked c o trump) w qs).entries
walk_count_lem c o trump w qs = out_count (walked c o trump) walk_count (walked_count c o trump) w qs

pub no_count : walk_count no_walk ≡ 0
unfolding no_walk
no_count = refl

-- A section has as many entries as its walk counts.
pub section_count : (c : Conventions) (r : List ℕ) (o : Option Open) (trump : ℕ) → walk_count (walked_all c r o trump).state ≡ length (walked_all c r o trump).entries
unfolding walked_all
section_count c r o trump = omega (arith, no_count, walk_count_lem c o trump no_walk (section_data r o))

-- ---- one piece

no_seated : Seated no_walk.tricks
unfolding no_walk
no_seated = none_seated

-- What a section's walk starts with.
pub start_seated : {w : Walk} → w ≡ no_walk → Seated w.tricks
start_seated e = rw e no_seated

pub start_none : {w : Walk} → w ≡ no_walk → walk_count w ≡ 0
start_none e = rw e no_count

pub piece_called : (c : Conventions) (o : Open) (trump : ℕ) (w : Walk) (q : Piece) (k : ℕ) (l l' : Entries) (b : Bidding) {dealer : ℕ} → o.kind ≡ Auction dealer
    → Emits l l' b (called_piece c w.bidding q) → b.count ≤ w.bidding.count + 3 * k → Seated w.tricks
    → Walks (walk_count w + 3 * k) l l' (record { bidding = b; tricks = w.tricks; rows = w.rows }) (walked c (Some o) trump w q)
unfolding walked
piece_called c o trump w q k l l' b h e m s = rw h (record { emits = record { answer = rw e.answer; adds = e.adds }; seated = s; few = omega arith })

pub piece_played : (c : Conventions) (o : Open) (trump : ℕ) (w : Walk) (q : Piece) (k : ℕ) (l l' : Entries) (t : Tricks) {lead : ℕ} → o.kind ≡ Play lead
    → Emits l l' t (played_piece c lead trump w.tricks q) → t.count ≤ w.tricks.count + k → Seated t
    → Walks (walk_count w + 3 * k) l l' (record { bidding = w.bidding; tricks = t; rows = w.rows }) (walked c (Some o) trump w q)
unfolding walked
piece_played c o trump w q k l l' t h e m s = rw h (record { emits = record { answer = rw e.answer; adds = e.adds }; seated = s; few = omega arith })

pub piece_row : (c : Conventions) (o : Open) (trump : ℕ) (w : Walk) (q : Piece) (k : ℕ) (l : Entries) (v : Option (List ℕ)) → o.kind ≡ Optimum
    → v ≡ row_stored (row_of c 0 q.bytes) w.rows → Seated w.tricks
    → Walks (walk_count w + 3 * k) l l (record { bidding = w.bidding; tricks = w.tricks; rows = v }) (walked c (Some o) trump w q)
unfolding walked rowed_piece
piece_row c o trump w q k l v h e s = rw h (record { emits = record { answer = rw e; adds = adds_none l }; seated = s; few = omega arith })

-- ---- the loop

out_append : {A B : Type 0} (f : A → B → Out A) (s : A) (xs ys : List B) → out_all f s (xs ++ ys) ≡ and_then (out_all f s xs) (out_all f (out_all f s xs).state ys)
out_append f s [] ys = refl
out_append f s (x ∷ xs) ys =
    rw (out_append f (f s x).state xs ys, append_assoc (f s x).entries (out_all f (f s x).state xs).entries (out_all f (out_all f (f s x).state xs).state ys).entries)

-- Some steps of a run.
emitting_run : {A B : Type 0} (f : A → B → Out A) (l₀ : Entries) (o : Out A) (l : Entries) (s : A) (xs rest : List B) (l' : Entries) (s' : A)
    → ToEmit f l₀ o l s (xs ++ rest) → Emits l l' s' (out_all f s xs) → ToEmit f l₀ o l' s' rest
emitting_run f l₀ o l s xs rest l' s' t e =
    let d = out_append f s xs rest in
    record {
      answer = rw e.answer (sym (ap (λ (x : Out _). x.state) d) ∙ t.answer);
      adds = λ l'' h. t.adds l'' (rw d (adds_then e.adds (rw e.answer at h)));
      start = e.adds.start ∙ t.start;
    }

-- The walk over the data of the section o, of which the data lines from the place `at` on are left.
pub record Walking (c : Conventions) (r : List ℕ) (o : Option Open) (trump : ℕ) (l₀ : Entries) (w : Walk) (at : ℕ) (l : Entries) : Type 0 where
  pub left : ToEmit (walked c o trump) l₀ (walked_all c r o trump) l w (data_from r at)
  pub counted : l.count ≡ l₀.count + walk_count w
  pub seated : Seated w.tricks
  pub few : walk_count w ≤ 3 * ((span_of (split_off o)).len + (at - (lines_at o)))
  pub from_at : lines_at o ≤ at
  pub inside : at ≤ length r

module _ (c : Conventions) (r : List ℕ) (o : Option Open) (trump : ℕ) where
  length_cut : (d : Span) → length (cut d r) ≤ d.len
  length_cut d = rw length-take (omega arith)

  pub span_walked : (w w' : Walk) (l l' : Entries) (d : Span) {s : List ℕ} → s ≡ cut d r → Walks (walk_count w + 3 * length s) l l' w' (walked c o trump w (piece d.start s))
      → Walks (walk_count w + 3 * d.len) l l' w' (out_all (walked c o trump) w (split_piece r (Some d)))
  span_walked w w' l l' d e k =
      let h = rw e at k in
      record {
        emits = record { answer = h.emits.answer; adds = rw append-nil h.emits.adds };
        seated = h.seated;
        few = omega (arith, h.few, length_cut d);
      }

  pub none_walked : (w : Walk) (l : Entries) → Seated w.tricks → Walks (walk_count w + 3 * 0) l l w (out_all (walked c o trump) w (split_piece r None))
  none_walked w l s = record { emits = record { answer = refl; adds = adds_none l }; seated = s; few = omega arith }

module _ (c : Conventions) (r : List ℕ) (o : Option Open) (trump : ℕ) (l₀ : Entries) where
  all_left : ToEmit (walked c o trump) l₀ (walked_all c r o trump) l₀ no_walk (split_piece r (split_off o) ++ lines_data r o)
  unfolding walked_all section_data
  all_left = to_emit (walked c o trump) l₀ no_walk (split_piece r (split_off o) ++ lines_data r o)

  -- What was split off the tag line is walked.
  pub walking : (w₀ w : Walk) (l : Entries) → w₀ ≡ no_walk → lines_at o ≤ length r
      → Walks (walk_count w₀ + 3 * (span_of (split_off o)).len) l₀ l w (out_all (walked c o trump) w₀ (split_piece r (split_off o))) → Walking c r o trump l₀ w (lines_at o) l
  walking w₀ w l e h k =
      let t : ToEmit (walked c o trump) l₀ (walked_all c r o trump) l₀ w₀ (split_piece r (split_off o) ++ data_from r (lines_at o)) = rw e all_left in
      record {
        left = emitting_run (walked c o trump) l₀ (walked_all c r o trump) l₀ w₀ (split_piece r (split_off o)) (data_from r (lines_at o)) l w t k.emits;
        counted = rw k.emits.answer (omega (arith, start_none e, k.emits.adds.count, walk_count_lem c o trump w₀ (split_piece r (split_off o))));
        seated = k.seated;
        few = omega (arith, start_none e, k.few);
        from_at = omega arith;
        inside = h;
      }

  pub walk_on : (w : Walk) (at : ℕ) (l : Entries) (w' : Walk) (next : Next) (l' : Entries)
      → Walking c r o trump l₀ w at l
      → Walks (walk_count w + 3 * next.piece.len) l l' w' (out_all (walked c o trump) w (split_piece r (Some next.piece)))
      → PieceFrom r at next → Walking c r o trump l₀ w' next.at l'
  walk_on w at l w' next l' v k q =
      let ps : List Piece = split_piece r (Some next.piece) in
      let t : ToEmit (walked c o trump) l₀ (walked_all c r o trump) l w (ps ++ data_from r next.at) = rw q.data_lines at v.left in
      record {
        left = emitting_run (walked c o trump) l₀ (walked_all c r o trump) l w ps (data_from r next.at) l' w' t k.emits;
        counted = rw k.emits.answer (omega (arith, v.counted, k.emits.adds.count, walk_count_lem c o trump w ps));
        seated = k.seated;
        few = omega (arith, k.few, v.few, v.from_at, q.past);
        from_at = omega (arith, v.from_at, q.past);
        inside = q.inside;
      }

  pub walk_ended : (w : Walk) (at : ℕ) (l : Entries) → Walking c r o trump l₀ w at l → data_from r at ≡ []
      → Walks (3 * ((span_of (split_off o)).len + (length r - (lines_at o)))) l₀ l w (walked_all c r o trump)
  walk_ended w at l v e = record { emits = emitted (rw e at v.left); seated = v.seated; few = omega (arith, v.few, v.inside) }
