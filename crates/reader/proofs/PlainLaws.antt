-- The plain board: each place is where its bytes stand; the same board and entries, with the same bytes, are the same plain board.
use Prim.Native.Nat.{ℕ, ◌+◌, ◌≤◌}
use mathlib.Core.Path.{◌≡◌, refl, sym, ap, ◌∙◌}
use mathlib.Core.List.{List, [], ◌∷◌, ◌++◌, map, append_assoc, map-append, head-eq_of_cons-eq, tail-eq_of_cons-eq}
use mathlib.Core.Option.{none as nothing, some}
use native.Mathlib.Omega.{arith}
use lib.Dec.{eqb}
use lib.ListN.{length, take, drop, length-append, length-drop, take-append-drop}
use lib.Seq.{drop-append-add, drop-append-le, take-append-le, drop-drop}
use borrow.Author.Tests.{eqb-false}
use Rattle.tables.specs.declared.letters.Conventions.{Conventions}
use Rattle.tables.proofs.Laws.{by_cases}
use Rattle.reader.specs.declared.store.Entry.{Entry}
use Rattle.reader.specs.declared.board.Section.{Section}
use Rattle.reader.specs.declared.board.Board.{Board}
use Rattle.reader.specs.Store.{low_word, flat, entry_words}
use Rattle.reader.specs.Pieces.{raw_lines}
use Rattle.reader.specs.Boards.{record_out}
use Rattle.reader.specs.Records.{fresh, records_of, left_over, AlikeBut}
use Rattle.reader.specs.Editions.{entries_from, entries_of}
use Rattle.reader.specs.Plain.{bytes_of, item_of, items_of, PlainBoard, in_force, plain_by, plain_of, plain_boards, bytes_at, bytes_from}
use Rattle.reader.proofs.EntryLaws.{All, none, one}
use Rattle.reader.proofs.Placed.{Placed, EntriesPlaced}
use Rattle.reader.proofs.Seams.{RecordsCover, Edit}

-- ---- the places are where those bytes stand

-- A part of r, where q stands behind r; and where r stands behind p.
first_part : (r q : List ℕ) (x y : ℕ) → x + y ≤ length r → take y (drop x (r ++ q)) ≡ take y (drop x r)
first_part r q x y h = rw (drop-append-le x r q (omega arith)) (take-append-le y (drop x r) q (rw length-drop (omega arith)))

inner_part : (p r q : List ℕ) (x y : ℕ) → x + y ≤ length r → take y (drop (length p + x) (p ++ (r ++ q))) ≡ take y (drop x r)
inner_part p r q x y h = rw (drop-append-add p (r ++ q) x) (first_part r q x y h)

-- THEOREM. A part of a record that stands at the place a of a text is the part of the text a bytes later.
pub PartPlaced : (text r : List ℕ) (a x y : ℕ) → r ≡ take (length r) (drop a text) → x + y ≤ length r → take y (drop (a + x) text) ≡ take y (drop x r)
PartPlaced text r a x y e h =
    let q = drop (length r) (drop a text) in
    let f : drop a text ≡ r ++ q = sym (take-append-drop (length r) (drop a text)) ∙ ap (λ (l : List ℕ). l ++ q) (sym e) in
    ap (take y) (sym (drop-drop x a text) ∙ ap (drop x) f) ∙ first_part r q x y h

-- A word of 32 bits holds every place of a text that is not overlong.
pub word_small : (x : ℕ) → x ≤ 16777215 → low_word x ≡ x
word_small x h = omega arith

entry_holds : (p r q : List ℕ) (e : Entry) → length (p ++ (r ++ q)) ≤ 16777215 → Placed (length r) e → bytes_at (p ++ (r ++ q)) (entry_words (length p) e) ≡ bytes_of r e
unfolding entry_words
entry_holds p r q e h i =
    let k : low_word e.kind ≡ e.kind = word_small e.kind (omega (arith, i.kind_low)) in
    by_cases (eqb e.kind 8)
    (λ t. rw (k, t))
    (λ t.
    let j = i.inside (eqb-false e.kind 8 t) in
    let l : length (p ++ (r ++ q)) ≡ length p + (length r + length q) = rw (length-append, length-append) in
    let x : low_word (length p + e.x) ≡ length p + e.x = word_small (length p + e.x) (omega arith) in
    let y : low_word e.y ≡ e.y = word_small e.y (omega arith) in
    rw (k, t, x, y) (inner_part p r q e.x e.y j))

entries_hold : (p r q : List ℕ) (es : List Entry) → length (p ++ (r ++ q)) ≤ 16777215 → All (Placed (length r)) es
    → map (bytes_at (p ++ (r ++ q))) (map (entry_words (length p)) es) ≡ map (bytes_of r) es
entries_hold p r q [] h none = refl
entries_hold p r q (e ∷ es) h (one i a) = rw (entry_holds p r q e h i, entries_hold p r q es h a)

from_hold : (c : Conventions) (p : List ℕ) (rs : List (List ℕ)) (q : List ℕ) → length (p ++ (flat rs ++ q)) ≤ 16777215
    → map (bytes_at (p ++ (flat rs ++ q))) (entries_from c (length p) rs) ≡ bytes_from c rs
from_hold c p [] q h = refl
from_hold c p (r ∷ rs) q h =
    let es = (record_out c r).entries in
    let a : p ++ ((r ++ flat rs) ++ q) ≡ p ++ (r ++ (flat rs ++ q)) = rw append_assoc in
    let b : p ++ (r ++ (flat rs ++ q)) ≡ (p ++ r) ++ (flat rs ++ q) = sym (append_assoc p r (flat rs ++ q)) in
    let n : length (p ++ r) ≡ length p + length r = length-append p r in
    let k : length (p ++ (r ++ (flat rs ++ q))) ≤ 16777215 = rw a at h in
    let i = from_hold c (p ++ r) rs q (rw b at k) in
    rw (
      a,
      map-append (bytes_at (p ++ (r ++ (flat rs ++ q)))) (map (entry_words (length p)) es) (entries_from c (length p + length r) rs),
      entries_hold p r (flat rs ++ q) es k (EntriesPlaced c r),
    )
    (ap (λ (l : List (List ℕ)). map (bytes_of r) es ++ l) (rw (b, sym n) i))

-- THEOREM. The bytes of a text that is not overlong, at the places of its entries as they are handed back, are the bytes that its plain
-- boards have, in the same order.
pub PlacesHold : (c : Conventions) (text : List ℕ) → length text ≤ 16777215 → map (bytes_at text) (entries_of c text) ≡ bytes_from c (records_of text)
unfolding entries_of
PlacesHold c text h =
    let w = RecordsCover text in
    rw w at (from_hold c [] (records_of text) (left_over fresh [] (raw_lines text)) (rw w h))

-- ---- one record of a text

flat_append : (xs ys : List (List ℕ)) → flat (xs ++ ys) ≡ flat xs ++ flat ys
flat_append [] ys = refl
flat_append (x ∷ xs) ys = rw (flat_append xs ys) (sym (append_assoc x (flat xs) (flat ys)))

-- What stands before a record, the record, what stands behind it.
around_record : (text : List ℕ) (pre : List (List ℕ)) (r : List ℕ) (post : List (List ℕ)) → records_of text ≡ pre ++ r ∷ post
    → text ≡ flat pre ++ (r ++ (flat post ++ left_over fresh [] (raw_lines text)))
around_record text pre r post e =
    let q = left_over fresh [] (raw_lines text) in
    sym (RecordsCover text) ∙ ap (λ (l : List ℕ). l ++ q) (ap flat e ∙ flat_append pre (r ∷ post)) ∙ simp append_assoc

-- THEOREM. The bytes at the places of one record's entries.
pub RecordHolds : (c : Conventions) (text : List ℕ) (pre : List (List ℕ)) (r : List ℕ) (post : List (List ℕ)) → length text ≤ 16777215 → records_of text ≡ pre ++ r ∷ post
    → map (bytes_at text) (map (entry_words (length (flat pre))) (record_out c r).entries) ≡ map (bytes_of r) (record_out c r).entries
RecordHolds c text pre r post h e = go text (flat pre) (flat post ++ left_over fresh [] (raw_lines text)) (around_record text pre r post e) h
  where
    go : (t p q : List ℕ) → t ≡ p ++ (r ++ q) → length t ≤ 16777215 → map (bytes_at t) (map (entry_words (length p)) (record_out c r).entries) ≡ map (bytes_of r) (record_out c r).entries
    go t p q z k = rw z (entries_hold p r q (record_out c r).entries (rw z at k) (EntriesPlaced c r))

-- ---- the same plain board

-- Entries that hold the same bytes in two records.
items_alike : (r r' : List ℕ) (es : List Entry) → map (bytes_of r) es ≡ map (bytes_of r') es → items_of r es ≡ items_of r' es
unfolding item_of
items_alike r r' [] h = refl
items_alike r r' (e ∷ es) h = rw (head-eq_of_cons-eq h, items_alike r r' es (tail-eq_of_cons-eq h))

-- THEOREM. Two records that come to the same board and the same entries, with places from their starts, and hold the same bytes in every
-- entry have the same plain board. The board is the reader's own, with what no card has; document 01's "read alike" is about cards.
pub SamePlain : (c : Conventions) (r r' : List ℕ) → (record_out c r).state.board ≡ (record_out c r').state.board → (record_out c r).entries ≡ (record_out c r').entries
    → map (bytes_of r) (record_out c r).entries ≡ map (bytes_of r') (record_out c r).entries → plain_of c r ≡ plain_of c r'
unfolding plain_of
SamePlain c r r' b e h =
    rw (items_alike r r' (record_out c r).entries h, e, b)

plain_parts : (c : Conventions) (text f m b : List ℕ) → records_of text ≡ records_of f ++ (records_of m ++ records_of b)
    → plain_boards c text ≡ plain_boards c f ++ (plain_boards c m ++ plain_boards c b)
unfolding plain_boards
plain_parts c text f m b e =
    rw (e, map-append (plain_of c) (records_of f) (records_of m ++ records_of b), map-append (plain_of c) (records_of m) (records_of b))

-- THEOREM. Two editions alike but for a stretch have the same plain boards before the stretch and behind it.
pub PlainAlike : (c : Conventions) (front middle middle' back : List ℕ) → AlikeBut front middle middle' back
    → (plain_boards c (front ++ (middle ++ back)) ≡ plain_boards c front ++ (plain_boards c middle ++ plain_boards c back))
    × (plain_boards c (front ++ (middle' ++ back)) ≡ plain_boards c front ++ (plain_boards c middle' ++ plain_boards c back))
PlainAlike c front middle middle' back a =
    let e = Edit front middle middle' back a in
    (plain_parts c (front ++ (middle ++ back)) front middle back e.0, plain_parts c (front ++ (middle' ++ back)) front middle' back e.1)

-- ---- what the plain board takes over from the board

pub record Keeps (b : Board) (p : PlainBoard) : Type 0 where
  pub id_kept : p.id ≡ b.id
  pub deal_kept : p.deal ≡ b.deal
  pub table_kept : p.table ≡ b.table
  pub trump_kept : p.trump ≡ b.trump

pub plain_keeps : (c : Conventions) (r : List ℕ) → Keeps (record_out c r).state.board (plain_of c r)
unfolding plain_of plain_by
plain_keeps c r = record { id_kept = refl; deal_kept = refl; table_kept = refl; trump_kept = refl }

-- A section in force is the one that was made.
pub force_is : {A : Type 0} (s : Section) (x y : A) → in_force s x ≡ some y → x ≡ y
force_is s x y e = by_cases (eqb s.first 0) (λ t. none_some (sym (rw t at e) ∙ refl)) (λ t. same (rw t at e))
  where
    none_some : some y ≡ nothing → x ≡ y
    none_some u = cc

    same : some x ≡ some y → x ≡ y
    same u = cc
