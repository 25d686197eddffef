-- The lines of a board's tags, group by group: a tag whose name no other has is followed by all directives and all blocks of that name.
use Prim.Native.Nat.{ℕ, ◌≤◌}
use mathlib.Core.Path.{◌≡◌, refl, sym, ap, ◌∙◌}
use mathlib.Core.Bool.{Bool, true, false, cond, ◌||◌, or-false}
use mathlib.Core.List.{List, [], ◌∷◌, ◌++◌, map, append-nil, append_assoc, map-append}
use mathlib.Core.Option.{Option, none, some}
use native.Mathlib.Omega.{arith}
use lib.Dec.{eqb, ltb}
use lib.ListN.{length, drop}
use Rattle.tables.specs.declared.letters.Conventions.{Conventions}
use Rattle.tables.specs.Text.{ascii}
use Rattle.tables.proofs.Laws.{by_cases, neither}
use Rattle.reader.specs.Words.{same}
use Rattle.reader.specs.Plain.{TagPair, PlainAuction, PlainBoard}
use Rattle.reader.proofs.WordLaws.{same_self, same_is}
use Rattle.writer.specs.Sections.{auction_lines, note_values}
use Rattle.writer.specs.Tags.{WrittenTag, seat_text, head_tags, early_extras, deal_tags, late_extras, note_tag, auction_tags, play_tags, written_tags}
use Rattle.writer.specs.Remarks.{Anchored, WrittenLine, tag_line, data_line, those, same_name, is_under, wrote, of_name, of_name_and_value, place_of, goes_to, goes_after, directive_lines, block_lines, directives_after, blocks_after, tags_lines}
use Rattle.writer.specs.PresentSteps.{is_any}
use Rattle.writer.specs.Items.{has_value, note_takes}
use Rattle.writer.proofs.NamesOnce.{times_written, times_append, wrote_times, NamesOnce, noteless}
use Rattle.writer.proofs.NoteLaws.{holds_append}
use Rattle.writer.proofs.PlaceLaws.{meets, meets_append, meets_name, both_name, goes_at, goes_alone, same_flip}

-- ---- tags in a row

pub wrote_append : (n : List ℕ) (ws vs : List WrittenTag) → wrote n (ws ++ vs) ≡ (wrote n ws || wrote n vs)
wrote_append n [] vs = refl
wrote_append n (w ∷ ws) vs = by_cases (same n w.name) (λ e. rw e) (λ e. rw e (wrote_append n ws vs))

those_same : (p q : Anchored → Bool) (ks : List Anchored) → ((k : Anchored) → p k ≡ q k) → those p ks ≡ those q ks
those_same p q [] h = refl
those_same p q (k ∷ ks) h = rw (h k, those_same p q ks h)

-- The lines of some of the tags, those after them given too.
abbrev part_lines : List Anchored → List Anchored → List WrittenTag → List WrittenTag → List WrittenTag → List WrittenLine
part_lines ds ks earlier [] after = []
part_lines ds ks earlier (w ∷ ws) after =
    tag_line w.name w.value
    ∷ (map data_line w.lines
    ++ (directives_after ds (earlier ++ w ∷ (ws ++ after)) (length earlier)
    ++ (blocks_after ks earlier w
    ++ part_lines ds ks (earlier ++ w ∷ []) ws after)))

lines_part : (ds ks : List Anchored) (earlier ws : List WrittenTag) → tags_lines ds ks earlier ws ≡ part_lines ds ks earlier ws []
lines_part ds ks earlier [] = refl
lines_part ds ks earlier (w ∷ ws) = rw (append-nil ws, lines_part ds ks (earlier ++ w ∷ []) ws)

part_append : (ds ks : List Anchored) (earlier ws vs after : List WrittenTag)
    → part_lines ds ks earlier (ws ++ vs) after ≡ part_lines ds ks earlier ws (vs ++ after) ++ part_lines ds ks (earlier ++ ws) vs after
part_append ds ks earlier [] vs after = rw append-nil
part_append ds ks earlier (w ∷ ws) vs after =
    rw (append_assoc ws vs after, part_append ds ks (earlier ++ w ∷ []) ws vs after, append_assoc earlier (w ∷ []) ws) (simp append_assoc)

-- ---- names written once

-- No name but Note is written twice.
abbrev pub OnceEach : List WrittenTag → Type 0
OnceEach ws = (n : List ℕ) → same (ascii "Note") n ≡ false → times_written n ws ≤ 1

not_wrote : (n : List ℕ) (ws : List WrittenTag) → times_written n ws ≡ 0 → wrote n ws ≡ false
not_wrote n ws z = wrote_times n ws ∙ ap (ltb 0) z

-- A tag whose name no other has: its data lines, all directives and all blocks of the name.
abbrev pub first_lines : List Anchored → List Anchored → List WrittenTag → List WrittenLine
first_lines ds ks [] = []
first_lines ds ks (w ∷ ws) =
    tag_line w.name w.value
    ∷ (map data_line w.lines
    ++ (directive_lines (those (is_under w.name) ds)
    ++ (block_lines (those (is_under w.name) ks)
    ++ first_lines ds ks ws)))

goes_under : (earlier : List WrittenTag) (w : WrittenTag) (later : List WrittenTag) → wrote w.name earlier ≡ false → wrote w.name later ≡ false
    → (o : Option TagPair) → goes_to (earlier ++ w ∷ later) (length earlier) o ≡ same_name w.name o
goes_under earlier w later a b none = refl
goes_under earlier w later a b (some t) =
    goes_alone t earlier w later
    (λ e.
    let n = same_is t.name w.name e in
    (meets_name t earlier ∙ rw n a, meets_name t later ∙ rw n b))

part_first : (ds ks : List Anchored) (earlier ws after : List WrittenTag) → OnceEach (earlier ++ (ws ++ after)) → wrote (ascii "Note") ws ≡ false
    → part_lines ds ks earlier ws after ≡ first_lines ds ks ws
unfolding directives_after blocks_after
part_first ds ks earlier [] after h e = refl
part_first ds ks earlier (w ∷ ws) after h e =
    let k = neither (same (ascii "Note") w.name) (wrote (ascii "Note") ws) e in
    let m = rw (same_self w.name) at (times_append w.name earlier (w ∷ (ws ++ after))) in
    let a = not_wrote w.name earlier (omega (arith, h w.name k.0, m)) in
    let b = not_wrote w.name (ws ++ after) (omega (arith, h w.name k.0, m)) in
    rw (
      those_same (goes_after (earlier ++ w ∷ (ws ++ after)) (length earlier)) (is_under w.name) ds (λ d. goes_under earlier w (ws ++ after) a b d.anchor),
      a,
      part_first ds ks (earlier ++ w ∷ []) ws after (λ n x. rw append_assoc (h n x)) k.1,
    )

-- ---- the auction and its notes

-- The directives that a written note takes.
abbrev pub takes_from : List (List ℕ) → List ℕ → List (List ℕ) → Option TagPair → Bool
takes_from earlier v later none = false
takes_from earlier v later (some t) = note_takes earlier v later t

abbrev pub takes_anchored : List (List ℕ) → List ℕ → List (List ℕ) → Anchored → Bool
takes_anchored earlier v later d = takes_from earlier v later d.anchor

-- Blocks follow the first alone.
abbrev pub notes_lines : List Anchored → List Anchored → List (List ℕ) → List (List ℕ) → List WrittenLine
notes_lines ds ks earlier [] = []
notes_lines ds ks earlier (v ∷ vs) =
    tag_line (ascii "Note") v
    ∷ (directive_lines (those (takes_anchored earlier v vs) ds)
    ++ (cond (is_any earlier) [] (block_lines (those (is_under (ascii "Note")) ks))
    ++ notes_lines ds ks (earlier ++ v ∷ []) vs))

notes_wrote : (vs : List (List ℕ)) → wrote (ascii "Note") (map note_tag vs) ≡ is_any vs
notes_wrote [] = refl
notes_wrote (v ∷ vs) = refl

-- Among notes a value is all that tells a tag of that name.
notes_hold : (t : TagPair) (vs : List (List ℕ)) → t.name ≡ ascii "Note" → meets (of_name_and_value t) (map note_tag vs) ≡ has_value t.value vs
notes_hold t [] e = refl
notes_hold t (v ∷ vs) e =
    let q : same t.name (ascii "Note") ≡ true = ap (λ (n : List ℕ). same n (ascii "Note")) e ∙ same_self (ascii "Note") in
    rw (q, notes_hold t vs e)

module _ (others after : List WrittenTag) (x : wrote (ascii "Note") others ≡ false) (y : wrote (ascii "Note") after ≡ false) where
  note_takes_lem : (earlier : List (List ℕ)) (v : List ℕ) (vs : List (List ℕ)) (t : TagPair)
      → eqb (place_of ((others ++ map note_tag earlier) ++ note_tag v ∷ (map note_tag vs ++ after)) t) (length (others ++ map note_tag earlier)) ≡ note_takes earlier v vs t
  note_takes_lem earlier v vs t =
      let before = others ++ map note_tag earlier in
      let behind = map note_tag vs ++ after in
      goes_at t before (note_tag v) behind
      ∙ by_cases (same (ascii "Note") t.name)
      (λ e.
      let n : t.name ≡ ascii "Note" = sym (same_is (ascii "Note") t.name e) in
      let o : meets (of_name t) others ≡ false = meets_name t others ∙ rw n x in
      let a : meets (of_name t) after ≡ false = meets_name t after ∙ rw n y in
      let p : meets (of_name_and_value t) before ≡ has_value t.value earlier = meets_append (of_name_and_value t) others (map note_tag earlier) ∙ rw (both_name t others o) (notes_hold t earlier n) in
      let q : meets (of_name_and_value t) behind ≡ has_value t.value vs = meets_append (of_name_and_value t) (map note_tag vs) after ∙ rw (both_name t after a, or-false) (notes_hold t vs n) in
      let r : meets (of_name t) before ≡ is_any earlier = meets_append (of_name t) others (map note_tag earlier) ∙ rw o (meets_name t (map note_tag earlier) ∙ rw n (notes_wrote earlier)) in
      let s : has_value t.value (earlier ++ v ∷ vs) ≡ (has_value t.value earlier || (same t.value v || has_value t.value vs)) = holds_append t.value earlier (v ∷ vs) in
      rw (meets_append (of_name_and_value t) before (note_tag v ∷ behind), p, q, r, s, n))
      (λ e.
      let n : same t.name (ascii "Note") ≡ false = same_flip t.name (ascii "Note") ∙ e in
      rw (n, e) (by_cases (meets (of_name_and_value t) (before ++ note_tag v ∷ behind)) (λ m. rw m) (λ m. rw m)))

  anchor_takes : (earlier : List (List ℕ)) (v : List ℕ) (vs : List (List ℕ)) (o : Option TagPair)
      → goes_to ((others ++ map note_tag earlier) ++ note_tag v ∷ (map note_tag vs ++ after)) (length (others ++ map note_tag earlier)) o ≡ takes_from earlier v vs o
  anchor_takes earlier v vs none = refl
  anchor_takes earlier v vs (some t) = note_takes_lem earlier v vs t

  part_notes : (ds ks : List Anchored) (earlier vs : List (List ℕ)) → part_lines ds ks (others ++ map note_tag earlier) (map note_tag vs) after ≡ notes_lines ds ks earlier vs
  unfolding directives_after blocks_after
  part_notes ds ks earlier [] = refl
  part_notes ds ks earlier (v ∷ vs) =
      let all = (others ++ map note_tag earlier) ++ note_tag v ∷ (map note_tag vs ++ after) in
      let w : wrote (ascii "Note") (others ++ map note_tag earlier) ≡ is_any earlier = wrote_append (ascii "Note") others (map note_tag earlier) ∙ rw x (notes_wrote earlier) in
      let m : (others ++ map note_tag earlier) ++ note_tag v ∷ [] ≡ others ++ map note_tag (earlier ++ v ∷ [])
      = append_assoc others (map note_tag earlier) (note_tag v ∷ []) ∙ ap (λ (us : List WrittenTag). others ++ us) (sym (map-append note_tag earlier (v ∷ []))) in
      rw (
        those_same (goes_after all (length (others ++ map note_tag earlier))) (takes_anchored earlier v vs) ds (λ d. anchor_takes earlier v vs d.anchor),
        w,
        m,
        part_notes ds ks (earlier ++ v ∷ []) vs,
      )

abbrev pub auction_tag : Conventions → PlainAuction → WrittenTag
auction_tag c a = record { name = ascii "Auction"; value = seat_text c a.dealer; lines = auction_lines c a }

abbrev pub auction_group : Conventions → List Anchored → List Anchored → List TagPair → Option PlainAuction → List WrittenLine
auction_group c ds ks ts none = []
auction_group c ds ks ts (some a) = first_lines ds ks (auction_tag c a ∷ []) ++ notes_lines ds ks [] (note_values (drop a.before ts))

part_auction : (c : Conventions) (ds ks : List Anchored) (ts : List TagPair) (o : Option PlainAuction) (earlier after : List WrittenTag)
    → OnceEach (earlier ++ (auction_tags c ts o ++ after)) → wrote (ascii "Note") earlier ≡ false → wrote (ascii "Note") after ≡ false
    → part_lines ds ks earlier (auction_tags c ts o) after ≡ auction_group c ds ks ts o
unfolding auction_tags
part_auction c ds ks ts none earlier after h x y = refl
part_auction c ds ks ts (some a) earlier after h x y =
    let vs = note_values (drop a.before ts) in
    let z : wrote (ascii "Note") (earlier ++ auction_tag c a ∷ []) ≡ false = rw (wrote_append, x) in
    part_append ds ks earlier (auction_tag c a ∷ []) (map note_tag vs) after
    ∙ (ap (λ (ls : List WrittenLine). ls ++ part_lines ds ks (earlier ++ auction_tag c a ∷ []) (map note_tag vs) after)
    (part_first ds ks earlier (auction_tag c a ∷ []) (map note_tag vs ++ after) h refl)
    ∙ ap (λ (ls : List WrittenLine). first_lines ds ks (auction_tag c a ∷ []) ++ ls)
    (ap (λ (us : List WrittenTag). part_lines ds ks us (map note_tag vs) after) (sym (append-nil (earlier ++ auction_tag c a ∷ [])))
    ∙ part_notes (earlier ++ auction_tag c a ∷ []) after z y ds ks [] vs))

-- ---- all groups

-- THEOREM. The tags of a board are written group by group.
pub GroupLines : (c : Conventions) (b : PlainBoard) (play : List (List ℕ)) (ds ks : List Anchored)
    → tags_lines ds ks [] (written_tags c b play)
    ≡ first_lines ds ks (head_tags c b)
    ++ (first_lines ds ks (early_extras b.tags)
    ++ (first_lines ds ks (deal_tags c b)
    ++ (first_lines ds ks (late_extras b.tags)
    ++ (auction_group c ds ks b.tags b.auction
    ++ first_lines ds ks (play_tags c play b.play)))))
unfolding written_tags
GroupLines c b play ds ks =
    let n = noteless c b play in
    let H = head_tags c b in
    let E = early_extras b.tags in
    let D = deal_tags c b in
    let L = late_extras b.tags in
    let A = auction_tags c b.tags b.auction in
    let P = play_tags c play b.play in
    let h : OnceEach ([] ++ (H ++ (E ++ (D ++ (L ++ (A ++ (P ++ []))))))) = λ m x. rw append-nil (NamesOnce c b play m x) in
    let z : wrote (ascii "Note") (H ++ E ++ D ++ L) ≡ false = rw (wrote_append, wrote_append, wrote_append, n.head_noteless, n.early_noteless, n.deal_noteless, n.late_noteless) in
    let y : wrote (ascii "Note") (P ++ []) ≡ false = rw append-nil n.play_noteless in
    rw (
      lines_part ds ks [] (H ++ (E ++ (D ++ (L ++ (A ++ P))))),
      part_append ds ks [] H (E ++ (D ++ (L ++ (A ++ P)))) [],
      part_append ds ks H E (D ++ (L ++ (A ++ P))) [],
      part_append ds ks (H ++ E) D (L ++ (A ++ P)) [],
      part_append ds ks (H ++ E ++ D) L (A ++ P) [],
      part_append ds ks (H ++ E ++ D ++ L) A P [],
      part_first ds ks [] H ((E ++ (D ++ (L ++ (A ++ P)))) ++ []) (λ m x. simp append_assoc (h m x)) n.head_noteless,
      part_first ds ks H E ((D ++ (L ++ (A ++ P))) ++ []) (λ m x. simp append_assoc (h m x)) n.early_noteless,
      part_first ds ks (H ++ E) D ((L ++ (A ++ P)) ++ []) (λ m x. simp append_assoc (h m x)) n.deal_noteless,
      part_first ds ks (H ++ E ++ D) L ((A ++ P) ++ []) (λ m x. simp append_assoc (h m x)) n.late_noteless,
      part_auction c ds ks b.tags b.auction (H ++ E ++ D ++ L) (P ++ []) (λ m x. simp append_assoc (h m x)) z y,
      part_first ds ks (H ++ E ++ D ++ L ++ A) P [] (λ m x. simp append_assoc (h m x)) n.play_noteless,
    )
