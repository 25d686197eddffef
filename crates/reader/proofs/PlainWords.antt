-- The words of a card that name entries: each names one of its own record's, and a value's bytes stand at the place of that entry.
use Rattle.reader.specs.Boards.{block_of}
use Prim.Native.Nat.{ℕ, zero, suc, ◌+◌, ◌-◌, ◌≤◌, ◌<◌}
use mathlib.Core.Path.{◌≡◌, refl, sym, ap, ◌∙◌}
use mathlib.Core.Bool.{Bool, false, cond}
use mathlib.Core.List.{List, [], ◌∷◌, ◌++◌, map, head-eq_of_cons-eq, tail-eq_of_cons-eq}
use mathlib.Core.Option.{none as nothing, some}
use native.Mathlib.Omega.{arith}
use lib.Dec.{eqb}
use lib.ListN.{length, take, drop, get_or, length-append, length-map, length-drop}
use lib.Seq.{take_at, drop_at, get_or-append-add, take-append-le, drop-append-le, drop-append-add}
use borrow.Author.Tests.{eqb-true, eqb-false, ne_eqb}
use Rattle.tables.specs.declared.letters.Conventions.{Conventions}
use Rattle.tables.specs.Text.{lead}
use Rattle.tables.specs.Tables.{TableReading, gathered}
use Rattle.tables.proofs.Laws.{by_cases}
use Rattle.reader.specs.declared.store.Entry.{Entry}
use Rattle.reader.specs.declared.tag.Span.{Span}
use Rattle.reader.specs.declared.tag.Tag.{Tag as TagPlaces}
use Rattle.reader.specs.declared.line.TagReading.{TagReading}
use Rattle.reader.specs.declared.line.TagReading.TheVariants.{Plain, WithComment, WithData}
use Rattle.reader.specs.declared.section.Walk.{Walk}
use Rattle.reader.specs.declared.board.Values.{Values}
use Rattle.reader.specs.declared.board.Section.{Section}
use Rattle.reader.specs.declared.board.Board.{Board}
use Rattle.reader.specs.declared.board.State.{State}
use Rattle.reader.specs.Store.{low_word, flat, entry_words}
use Rattle.reader.specs.Names.{tag_number}
use Rattle.reader.specs.Tag.{cut}
use Rattle.reader.specs.Lines.{last_brace}
use Rattle.reader.specs.Pieces.{Out}
use Rattle.reader.specs.Play.{last_trick}
use Rattle.reader.specs.Sections.{walked_all, kind_of, opener}
use Rattle.reader.specs.SectionSteps.{walk_count}
use Rattle.reader.specs.Boards.{value_put, is_kept, values_by, applied, with_sections, auction_closed, play_closed, rows_closed, rows_taken, table_closed, closed_entries, last_entries, closed_by, closed, no_span, at, tagged, read_by, blocked, no_state, record_out}
use Rattle.reader.specs.Records.{records_of}
use Rattle.reader.specs.Editions.{entry_place, value_words, entries_from, entries_of}
use Rattle.reader.specs.Plain.{Item, item_of, items_of, bytes_of, bytes_at, value_at, value_list, plain_list, held_value, items_within, plain_by, plain_of}
use Rattle.reader.proofs.EntryLaws.{All, none, one, all_map}
use Rattle.reader.proofs.PlayLaws.{cond_low, last_counted}
use Rattle.reader.proofs.WalkLaws.{section_count}
use Rattle.reader.proofs.BoardLaws.{record_counts}
use Rattle.reader.proofs.Counts.{chosen, TextEntriesFew, EntriesFit}
use Rattle.reader.proofs.Alike.{entries_in, entries_append}
use Rattle.reader.proofs.PlainSteps.{HoldsOfRecord}
use Rattle.reader.proofs.PlainLaws.{RecordHolds}
use Rattle.std.specs.Prelude.{Ok, Err, Option, Some, None}

-- ---- every word names an entry

-- A section of a record with n entries.
pub record SectionIn (n : ℕ) (s : Section) : Type 0 where
  pub ends : s.first + s.count ≤ n + 1

-- The words of a board name entries among the first n; 0 stands for none.
pub record Refers (n : ℕ) (b : Board) : Type 0 where
  pub values_in : All (λ k. k ≤ n) (value_list b.values)
  pub auction_in : SectionIn n b.auction
  pub play_in : SectionIn n b.play

more : {n m : ℕ} {ks : List ℕ} → n ≤ m → All (λ k. k ≤ n) ks → All (λ k. k ≤ m) ks
more h a = all_map (λ k i. omega arith) a

section_more : {n m : ℕ} {s : Section} → n ≤ m → SectionIn n s → SectionIn m s
section_more h i = record { ends = omega (arith, i.ends) }

refers_more : {n m : ℕ} {b : Board} → n ≤ m → Refers n b → Refers m b
refers_more h i = record { values_in = more h i.values_in; auction_in = section_more h i.auction_in; play_in = section_more h i.play_in }

-- ---- a section that closes

module _ (s : State) (w : Walk) (m : ℕ) (k : walk_count w ≤ m) (h : Refers s.n s.board) where
  auction_refers : Refers (s.n + m) (auction_closed s.board (opener s.section) s.n w)
  auction_refers =
      let b = s.board in
      chosen (λ x. Refers (s.n + m) x) w.bidding.any
      (with_sections b b.table (record { first = s.n + 1; count = w.bidding.count; seat = (opener s.section); end = w.bidding.end }) b.play b.trump)
      b
      (λ e. record { values_in = more (omega arith) h.values_in; auction_in = record { ends = omega arith }; play_in = section_more (omega arith) h.play_in })
      (λ e. refers_more (omega arith) h)

  play_refers : (last_trick w.tricks).state.count ≤ m → Refers (s.n + m) (play_closed s.board (opener s.section) s.n w)
  play_refers z =
      let b = s.board in
      chosen (λ x. Refers (s.n + m) x) w.tricks.any
      (with_sections b b.table b.auction (record { first = s.n + 1; count = (last_trick w.tricks).state.count; seat = (opener s.section); end = w.tricks.end }) b.contract)
      b
      (λ e. record { values_in = more (omega arith) h.values_in; auction_in = section_more (omega arith) h.auction_in; play_in = record { ends = omega arith } })
      (λ e. refers_more (omega arith) h)

  rows_refers : (g : TableReading) → Refers (s.n + m) (rows_closed s.board g)
  rows_refers (Ok cells) = record { values_in = more (omega arith) h.values_in; auction_in = section_more (omega arith) h.auction_in; play_in = section_more (omega arith) h.play_in }
  rows_refers (Err f) = refers_more (omega arith) h

  table_refers : Refers (s.n + m) (table_closed s.board w)
  table_refers =
      go w.rows
    where
      go : (t : Option (List ℕ)) → Refers (s.n + m) (rows_taken s.board t)
      go None = refers_more (omega arith) h
      go (Some cells) = rows_refers (gathered cells)

closed_refers : (c : Conventions) (r : List ℕ) (s : State) → Refers s.n s.board → Refers (closed c r s).state.n (closed c r s).state.board
unfolding closed
closed_refers c r s h =
    let w = walked_all c r s.section s.board.contract in
    let v = w.state in
    let m = length (closed_entries s.section w) in
    let l = length-append w.entries (last_entries (kind_of s.section) v) in
    let n = section_count c r s.section s.board.contract in
    let few : walk_count v ≤ m = omega arith in
    chosen (λ o. Refers o.state.n o.state.board) (eqb (kind_of s.section) 0) (record { state = s; entries = [] }) (closed_by s w) (λ e. h)
    (λ e.
    chosen (λ x. Refers (s.n + m) x) (eqb (kind_of s.section) 1) (auction_closed s.board (opener s.section) s.n v) (cond (eqb (kind_of s.section) 2) (play_closed s.board (opener s.section) s.n v) (table_closed s.board v))
    (λ f. auction_refers s v m few h)
    (λ f.
    chosen (λ x. Refers (s.n + m) x) (eqb (kind_of s.section) 2) (play_closed s.board (opener s.section) s.n v) (table_closed s.board v)
    (λ g.
    let t : last_entries (kind_of s.section) v ≡ (last_trick v.tricks).entries = rw g in
    play_refers s v m few h (omega (arith, ap length t, (last_counted v.tricks).count)))
    (λ g. table_refers s v m few h)))

-- ---- a tag

put_in : (k place n : ℕ) (v : Values) → place ≤ n → All (λ j. j ≤ n) (value_list v) → All (λ j. j ≤ n) (value_list (value_put k place v))
put_in k place n v p (one a (one b (one c (one d (one e (one f (one g (one h (one i (one j (one l (one m none)))))))))))) =
    let low : (t : Bool) (x : ℕ) → x ≤ n → cond t place x ≤ n = λ t x z. cond_low t place x n p z in
    one (low (eqb k 1) v.id a) (one (low (eqb k 5) v.event b) (one (low (eqb k 6) v.site c) (one (low (eqb k 7) v.date d)
    (one (low (eqb k 9) v.contract e) (one (low (eqb k 11) v.north f) (one (low (eqb k 12) v.east g) (one (low (eqb k 13) v.south h)
    (one (low (eqb k 14) v.west i) (one (low (eqb k 4) v.deal j) (one (low (eqb k 20) v.score l) (one (low (eqb k 21) v.par m) none)))))))))))

tagged_refers : (c : Conventions) (s : State) (p : ℕ) (l : List ℕ) (q : ℕ) (t : TagPlaces) (split : Option Span) → Refers s.n s.board → Refers (s.n + 2) (tagged c s p l q t split).state.board
unfolding tagged applied values_by
tagged_refers c s p l q t split h =
    let k = tag_number (cut t.name l) in
    let value = cut t.value l in
    let old = more {n = s.n} {m = s.n + 2} (omega arith) h.values_in in
    record {
      values_in =
          chosen (λ (v : Values). All (λ j. j ≤ s.n + 2) (value_list v)) (is_kept c k value) (value_put k (s.n + 2) s.board.values) s.board.values
          (λ e. put_in k (s.n + 2) (s.n + 2) s.board.values (omega arith) old)
          (λ e. old);
      auction_in = section_more (omega arith) h.auction_in;
      play_in = section_more (omega arith) h.play_in;
    }

reading_refers : (c : Conventions) (s : State) (p : ℕ) (l : List ℕ) (q : ℕ) (t : TagReading) → Refers s.n s.board → Refers (read_by c s p l q t).state.n (read_by c s p l q t).state.board
unfolding tagged
reading_refers c s p l q (Plain t) h = tagged_refers c s p l q t no_span h
reading_refers c s p l q (WithComment t d) h = refers_more {b = (tagged c s p l q t no_span).state.board} (omega arith) (tagged_refers c s p l q t no_span h)
reading_refers c s p l q (WithData t d) h = refers_more {b = (tagged c s p l q t (Some (at p d))).state.board} (omega arith) (tagged_refers c s p l q t (Some (at p d)) h)

-- ---- a record

record Stays (s : State) (o : Out State) : Type 0 where
  stays : Refers s.n s.board → Refers o.state.n o.state.board

blocked_stays : (r : List ℕ) (s : State) (i j : ℕ) → Stays s (blocked r s i j)
unfolding blocked
blocked_stays r s i j = record { stays = λ h. refers_more (omega arith) h }

absent : {ks : List ℕ} → All (λ k. k ≤ 0) ks → All (λ k. k ≤ 0) (0 ∷ ks)
absent a = one {x = 0} (omega arith) a

-- THEOREM. Every word of a card that names an entry names one of its own record.
pub CardRefers : (c : Conventions) (r : List ℕ) → Refers (length (record_out c r).entries) (record_out c r).state.board
CardRefers c r =
    let none_yet : Refers 0 no_state.board =
    record {
      values_in = absent (absent (absent (absent (absent (absent (absent (absent (absent (absent (absent (absent none)))))))))));
      auction_in = record { ends = omega arith };
      play_in = record { ends = omega arith };
    } in
    go (record_counts c r) (steps.stays none_yet)
  where
    go : {n m : ℕ} {b : Board} → n ≡ m → Refers n b → Refers m b
    go e h = rw e at h

    steps : Stays no_state (record_out c r)
    steps =
        HoldsOfRecord c r (λ p s q o. Stays s o)
        record {
          together = λ p q z s o k a b. record { stays = λ h. b.stays (a.stays h) };
          closing = λ p s. record { stays = closed_refers c r s };
          idle = λ p s l i n. record { stays = λ h. h };
          quiet = λ p s l i n k. record { stays = λ h. h };
          opening = λ p s l i n k b. record { stays = λ h. h };
          bracing = λ p s l i n k b. blocked_stays r s (p + length (lead l) + 1) (p + last_brace l);
          commentary = λ p s l i n k. blocked_stays r s (block_of s) (p + last_brace l);
          directing = λ p s l d i n k. record { stays = λ h. refers_more (omega arith) h };
          dating = λ p s l d i n k. record { stays = λ h. refers_more (omega arith) h };
          tagging = λ p s l t i k. record { stays = reading_refers c s p l (p + length l) t };
        }

-- ---- the entries of one record among those of the text

from_length : (c : Conventions) (a : ℕ) (rs : List (List ℕ)) → length (entries_from c a rs) ≡ entries_in c rs
from_length c a [] = refl
from_length c a (r ∷ rs) = rw (length-append, length-map, from_length c (a + length r) rs)

split_entries : (c : Conventions) (text : List ℕ) (pre : List (List ℕ)) (r : List ℕ) (post : List (List ℕ)) → records_of text ≡ pre ++ r ∷ post
    → entries_of c text ≡ entries_from c 0 pre ++ (map (entry_words (length (flat pre))) (record_out c r).entries ++ entries_from c (length (flat pre) + length r) post)
unfolding entries_of
split_entries c text pre r post e =
    let z : 0 + length (flat pre) ≡ length (flat pre) = omega arith in
    ap (entries_from c 0) e ∙ entries_append c 0 pre (r ∷ post) ∙ rw z

-- THEOREM. The entries that a card's words 0 and 1 give are those of its record, at their places in the text.
pub RecordEntries : (c : Conventions) (text : List ℕ) (pre : List (List ℕ)) (r : List ℕ) (post : List (List ℕ)) → records_of text ≡ pre ++ r ∷ post
    → take (length (record_out c r).entries) (drop (entries_in c pre) (entries_of c text)) ≡ map (entry_words (length (flat pre))) (record_out c r).entries
RecordEntries c text pre r post e =
    let es = (record_out c r).entries in
    let m = map (entry_words (length (flat pre))) es in
    rw (split_entries c text pre r post e, drop_at (entries_from c 0 pre) (m ++ entries_from c (length (flat pre) + length r) post) (entries_in c pre) (from_length c 0 pre))
    (take_at m (entries_from c (length (flat pre) + length r) post) (length es) (length-map es (entry_words (length (flat pre)))))

-- ---- values

get_d_later : {A : Type 0} (x : A) (l : List A) (k : ℕ) (d : A) → 0 < k → get_or (x ∷ l) k d ≡ get_or l (k - 1) d
get_d_later x l zero d h = absurd (omega arith)
get_d_later x l (suc k) d h = let z : suc k - 1 ≡ k = omega arith in rw z

pub value_none : (is : List Item) → value_at 0 is ≡ nothing
value_none [] = refl
value_none (i ∷ is) = value_none is

-- The k-th entry from 1 of the record, whose words stand first.
value_some : (text : List ℕ) (a : ℕ) (r : List ℕ) (es : List Entry) (F : List (List ℕ)) (k : ℕ) → 0 < k → k ≤ length es
    → map (bytes_at text) (map (entry_words a) es) ≡ map (bytes_of r) es → value_at k (items_of r es) ≡ some (bytes_at text (get_or (map (entry_words a) es ++ F) (k - 1) []))
unfolding item_of
value_some text a r [] F k p h e = absurd (omega arith)
value_some text a r (x ∷ es) F k p h e =
    by_cases (eqb k 1)
    (λ t.
    let z : k - 1 ≡ 0 = omega (arith, eqb-true k 1 t) in
    rw (t, z) (ap some (sym (head-eq_of_cons-eq e))))
    (λ t.
    let n = eqb-false k 1 t in
    let q : 1 < k = above k p n in
    rw (t, get_d_later (entry_words a x) (map (entry_words a) es ++ F) (k - 1) [] (omega arith))
    (value_some text a r es F (k - 1) (omega arith) (omega arith) (tail-eq_of_cons-eq e)))
  where
    above : (k : ℕ) → 0 < k → (k ≡ 1 → ⊥) → 1 < k
    above zero p n = absurd (omega arith)
    above (suc zero) p n = absurd (n refl)
    above (suc (suc k)) p n = omega arith

module _ (c : Conventions) (text : List ℕ) (pre : List (List ℕ)) (r : List ℕ) (post : List (List ℕ)) (h : length text ≤ 16777215) (e : records_of text ≡ pre ++ r ∷ post) where
  value_held_lem : (k : ℕ) → k ≤ length (record_out c r).entries → value_at k (items_of r (record_out c r).entries) ≡ held_value text (entries_of c text) (entry_place (entries_in c pre) k)
  value_held_lem k i =
      let es = (record_out c r).entries in
      let n = entries_in c pre in
      let a = length (flat pre) in
      let E = entries_from c 0 pre in
      let F = entries_from c (a + length r) post in
      let G = map (entry_words a) es ++ F in
      by_cases (eqb k 0)
      (λ t. rw t (rw (eqb-true k 0 t) (value_none (items_of r es))))
      (λ t.
      let s = split_entries c text pre r post e in
      let f = EntriesFit c text h in
      let l = ap length s ∙ length-append E G ∙ ap (λ (x : ℕ). length E + x) (length-append (map (entry_words a) es) F ∙ ap (λ (x : ℕ). x + length F) (length-map es (entry_words a))) in
      let g = from_length c 0 pre in
      let p : 0 < k = positive k (eqb-false k 0 t) in
      let w : low_word (n + k) ≡ n + k = omega arith in
      let o : eqb (n + k) 0 ≡ false = ne_eqb (n + k) 0 (λ u. omega arith) in
      let j : n + k - 1 ≡ length E + (k - 1) = omega arith in
      rw (t, w, o, s, j, get_or-append-add E G (k - 1) []) (value_some text a r es F k p i (RecordHolds c text pre r post h e)))
    where
      positive : (k : ℕ) → (k ≡ 0 → ⊥) → 0 < k
      positive zero n = absurd (n refl)
      positive (suc k) n = omega arith

  values_held_lem : {ks : List ℕ} → All (λ k. k ≤ length (record_out c r).entries) ks
      → map (λ k. value_at k (items_of r (record_out c r).entries)) ks ≡ map (λ k. held_value text (entries_of c text) (entry_place (entries_in c pre) k)) ks
  values_held_lem none = refl
  values_held_lem (one {x = k} i a) = rw (value_held_lem k i, values_held_lem a)

-- THEOREM. The values of a plain board stand at the places of the entries that the card's words 39 to 50 name, and are absent where the
-- word is 0.
pub ValuesHeld : (c : Conventions) (text : List ℕ) (pre : List (List ℕ)) (r : List ℕ) (post : List (List ℕ)) → length text ≤ 16777215 → records_of text ≡ pre ++ r ∷ post
    → plain_list (plain_of c r).values ≡ map (held_value text (entries_of c text)) (value_words (entries_in c pre) (record_out c r).state.board.values)
unfolding plain_of plain_by
ValuesHeld c text pre r post h e = values_held_lem c text pre r post h e (CardRefers c r).values_in

-- ---- sections

map_take : {A B : Type 0} (f : A → B) (n : ℕ) (l : List A) → take n (map f l) ≡ map f (take n l)
map_take f zero l = refl
map_take f (suc n) [] = refl
map_take f (suc n) (x ∷ l) = ap (λ (t : List _). f x ∷ t) (map_take f n l)

map_drop : {A B : Type 0} (f : A → B) (n : ℕ) (l : List A) → drop n (map f l) ≡ map f (drop n l)
map_drop f zero l = refl
map_drop f (suc n) [] = refl
map_drop f (suc n) (x ∷ l) = map_drop f n l

-- The entries of a section that is in force, of a record, and without places.
abbrev pub entries_within : Section → List Entry → List Entry
entries_within s es = take s.count (drop (s.first - 1) es)

pub within_items : (r : List ℕ) (s : Section) (es : List Entry) → items_within s (items_of r es) ≡ items_of r (entries_within s es)
within_items r s es = ap (take s.count) (map_drop (item_of r) (s.first - 1) es) ∙ map_take (item_of r) s.count (drop (s.first - 1) es)

-- THEOREM. The entries that a card's words 51 and 52, or 55 and 56, give are those of the record's auction, or play, in force: s is one of
-- these, and CardRefers says that it lies in the record.
pub SectionHeld : (c : Conventions) (text : List ℕ) (pre : List (List ℕ)) (r : List ℕ) (post : List (List ℕ)) (s : Section) → length text ≤ 16777215 → records_of text ≡ pre ++ r ∷ post
    → SectionIn (length (record_out c r).entries) s → 0 < s.first
    → take s.count (drop (entry_place (entries_in c pre) s.first - 1) (entries_of c text)) ≡ map (entry_words (length (flat pre))) (entries_within s (record_out c r).entries)
SectionHeld c text pre r post s h e i p =
    let es = (record_out c r).entries in
    let n = entries_in c pre in
    let k = s.first in
    let a = length (flat pre) in
    let f = entry_words a in
    let E = entries_from c 0 pre in
    let F = entries_from c (a + length r) post in
    let M = map f es in
    let t = split_entries c text pre r post e in
    let m = length-map es f in
    let l = ap length t ∙ length-append E (M ++ F) ∙ ap (λ (x : ℕ). length E + x) (length-append M F) in
    let g = from_length c 0 pre in
    let d = length-drop (k - 1) M in
    let w : low_word (n + k) ≡ n + k = omega (arith, TextEntriesFew c text, i.ends) in
    let j : n + k - 1 ≡ length E + (k - 1) = omega arith in
    rw (ne_eqb k 0 (λ u. omega arith), w, t, j, drop-append-add E (M ++ F) (k - 1), drop-append-le (k - 1) M F (omega (arith, i.ends)), take-append-le s.count (drop (k - 1) M) F (omega (arith, i.ends)))
    (ap (take s.count) (map_drop f (k - 1) es) ∙ map_take f s.count (drop (k - 1) es))
