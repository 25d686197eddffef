-- The calls of a plain board can be written: codes are those of calls, and an annotation starts with a mark and has no white space.
use Rattle.std.specs.Prelude.{None}
use Rattle.std.specs.Prelude.{Some}
use Rattle.reader.specs.Boards.{block_of}
use Rattle.std.specs.Prelude.{Option}
use Prim.Native.Nat.{ℕ, zero, suc, ◌+◌, ◌-◌, ◌≤◌, ◌<◌}
use mathlib.Core.Path.{◌≡◌, refl, sym, ap, ◌∙◌}
use mathlib.Core.Bool.{Bool, true, false, cond, ◌||◌}
use mathlib.Core.List.{List, [], ◌∷◌, ◌++◌}
use mathlib.Core.Option.{some}
use native.Mathlib.Nat.{add-zero}
use native.Mathlib.Omega.{arith}
use lib.Dec.{ltb, eqb}
use lib.ListN.{length, take, drop, get_or}
use lib.Seq.{drop-drop, get_or-take, get_or-drop}
use borrow.Author.Tests.{ltb-true, ltb-false, eqb-true, eqb-false, not-false}
use Rattle.tables.specs.declared.letters.Conventions.{Conventions}
use Rattle.tables.specs.Text.{is_white, is_word, lead, ascii}
use Rattle.tables.specs.Letters.{every, strain_of}
use Rattle.tables.proofs.Laws.{by_cases, clash}
use Rattle.tables.proofs.RowLaws.{every_append}
use Rattle.reader.specs.declared.store.Entry.{Entry}
use Rattle.reader.specs.declared.tag.Span.{Span}
use Rattle.reader.specs.declared.tag.Tag.{Tag as TagPlaces}
use Rattle.reader.specs.declared.auction.CallToken.{CallToken}
use Rattle.reader.specs.declared.auction.CallToken.TheVariants.{Plus, Star, AllPass, Annotation, Call, NoCall}
use Rattle.reader.specs.declared.auction.Bidding.{Bidding}
use Rattle.reader.specs.declared.line.Line.{Line}
use Rattle.reader.specs.declared.line.Line.TheVariants.{Blank, Brace, Directive, Tag as TagOn, Bracket, Data}
use Rattle.reader.specs.declared.line.TagReading.{TagReading}
use Rattle.reader.specs.declared.line.TagReading.TheVariants.{Plain, WithComment, WithData}
use Rattle.reader.specs.declared.section.Open.{Open}
use Rattle.reader.specs.declared.section.Walk.{Walk}
use Rattle.reader.specs.declared.board.Section.{Section}
use Rattle.reader.specs.declared.board.State.{State}
use Rattle.reader.specs.Words.{same, same_word, level_of, bid_code, bid_of, is_pass, is_underscore, underscore_code, sign_code, call_of, is_mark, is_call_byte, call_part, section_end, is_all_pass}
use Rattle.reader.specs.Tag.{cut}
use Rattle.reader.specs.Lines.{last_brace, line_kind}
use Rattle.reader.specs.LineSteps.{LinePlaced}
use Rattle.reader.specs.Pieces.{Piece, Out, prepend_token, join_token, tokens_at, entry, raw_lines}
use Rattle.reader.specs.Auction.{call_token_of, annotation, bidding, called_by, called, called_piece}
use Rattle.reader.specs.Sections.{commentary_after, stops_at, data_piece, piece_of, data_in, split_piece, section_data, walked, no_walk, walked_all, kind_of, opener, lines_at, split_off}
use Rattle.reader.specs.Boards.{last_entries, closed_by, closed, no_span, at, tagged, data_added, read_by, is_all_white, blocked, record_out}
use Rattle.reader.specs.Plain.{Item, bytes_of, item_of, items_of, PlainCall, PlainAuction, annotations_first, items_within, calls_in, plain_by, plain_of}
use Rattle.reader.proofs.EntryLaws.{All, none, one, all_append, all_map, Trick, out_all_lem}
use Rattle.reader.proofs.PlayLaws.{cond_low, TricksOnly, LastTrickOnly}
use Rattle.reader.proofs.Inside.{LineInside}
use Rattle.reader.proofs.SectionLaws.{LineAt, taken_len}
use Rattle.reader.proofs.Counts.{chosen, cut_len, next_line_lem}
use Rattle.reader.proofs.PlainLaws.{PartPlaced, force_is}
use Rattle.reader.proofs.PlainWords.{entries_within, within_items}
use Rattle.reader.proofs.PlainSteps.{first_line, HoldsOfRecord}
use Rattle.reader.proofs.WordTokens.{every_take, every_drop}

-- ---- codes

bid_low : (level strain : ℕ) → bid_code level strain ≤ 47
unfolding bid_code
bid_low level strain =
    by_cases (eqb level 0)
    (λ a. rw a (omega arith))
    (λ a.
    by_cases (ltb 7 level)
    (λ b. rw (a, b) (omega arith))
    (λ b. by_cases (ltb 4 strain) (λ d. rw (a, b, d) (omega arith)) (λ d. rw (a, b, d) (omega (arith, ltb-false 7 level b, ltb-false 4 strain d)))))

underscores_low : (t : List ℕ) → underscore_code t ≤ 47
unfolding underscore_code
underscores_low t =
    by_cases (eqb (length t) 0)
    (λ a. rw a (omega arith))
    (λ a. by_cases (ltb 8 (length t)) (λ b. rw (a, b) (omega arith)) (λ b. rw (a, b) (cond_low (every is_underscore t) (38 + length t) 47 47 (omega (arith, ltb-false 8 (length t) b)) (omega arith))))

sign_low : (t : List ℕ) → sign_code t ≤ 47
unfolding sign_code
sign_low t =
    cond_low (is_pass t) 0 _ 47 (omega arith)
    (cond_low (same_word (ascii "X") t) 36 _ 47 (omega arith)
    (cond_low (same_word (ascii "XX") t) 37 _ 47 (omega arith) (cond_low (same (ascii "+") t) 38 (underscore_code t) 47 (omega arith) (underscores_low t))))

bids_low : (c : Conventions) (t : List ℕ) → bid_of c t ≤ 47
bids_low c [] = omega arith
bids_low c (l ∷ s) = bid_low (level_of l) (strain_of c s)

-- The code of a call, or 47.
pub call_low : (c : Conventions) (t : List ℕ) → call_of c t ≤ 47
unfolding call_of
call_low c t = cond_low (ltb (bid_of c t) 47) (bid_of c t) (sign_code t) 47 (bids_low c t) (sign_low t)

-- ---- tokens

-- Bytes that stand at their place of r.
record Stands (r : List ℕ) (q : Piece) : Type 0 where
  stands : q.bytes ≡ take (length q.bytes) (drop q.at r)

record Token (r : List ℕ) (t : Piece) : Type 0 where
  here : t.bytes ≡ take (length t.bytes) (drop t.at r)
  worded : every is_word t.bytes ≡ true
  some_byte : 0 < length t.bytes

drop_one : (r : List ℕ) (p b : ℕ) (bs : List ℕ) → b ∷ bs ≡ take (suc (length bs)) (drop p r) → drop p r ≡ b ∷ drop (p + 1) r
drop_one r p b bs e = go (drop p r) e (drop-drop 1 p r)
  where
    go : (s : List ℕ) → b ∷ bs ≡ take (suc (length bs)) s → drop 1 s ≡ drop (p + 1) r → s ≡ b ∷ drop (p + 1) r
    go [] e f = let z : ◌≡◌ {A = ℕ} 0 1 = cc in absurd (omega arith)
    go (x ∷ xs) e f = let z : x ≡ b = cc in rw (z, f)

rest_stands : (r : List ℕ) (p b : ℕ) (bs : List ℕ) → b ∷ bs ≡ take (suc (length bs)) (drop p r) → bs ≡ take (length bs) (drop (p + 1) r)
rest_stands r p b bs e = go (rw (drop_one r p b bs e) at e)
  where
    go : b ∷ bs ≡ b ∷ take (length bs) (drop (p + 1) r) → bs ≡ take (length bs) (drop (p + 1) r)
    go f = cc

-- A token that begins with the byte at p.
longer : (r : List ℕ) (p b : ℕ) (t : List ℕ) → drop p r ≡ b ∷ drop (p + 1) r → is_white b ≡ false → t ≡ take (length t) (drop (p + 1) r) → every is_word t ≡ true → Token r (record { at = p; bytes = b ∷ t })
longer r p b t d w h e = record { here = rw d (ap (λ (l : List ℕ). b ∷ l) h); worded = rw (w, e); some_byte = omega arith }

-- Where the first byte is no white space, the first token stands there.
record Headed (p : ℕ) (ts : List Piece) : Type 0 where
  headed : (t : Piece) (us : List Piece) → ts ≡ t ∷ us → t.at ≡ p

join_headed : (p b : ℕ) (bs : List ℕ) (ts : List Piece) → Headed p (join_token p b bs ts)
join_headed p b bs ts = by_bytes bs ts
  where
    first : (x : Piece) (xs : List Piece) → x.at ≡ p → Headed p (x ∷ xs)
    first x xs h = record { headed = λ t us e. let z : x ≡ t = cc in sym (ap (λ (y : Piece). y.at) z) ∙ h }

    by_tokens : (ts : List Piece) → Headed p (prepend_token p b ts)
    by_tokens [] = first (record { at = p; bytes = b ∷ [] }) [] refl
    by_tokens (t ∷ ts) = first (record { at = p; bytes = b ∷ t.bytes }) ts refl

    by_bytes : (bs : List ℕ) (ts : List Piece) → Headed p (join_token p b bs ts)
    by_bytes [] ts = first (record { at = p; bytes = b ∷ [] }) ts refl
    by_bytes (c ∷ cs) ts = chosen (λ x. Headed p x) (is_white c) (record { at = p; bytes = b ∷ [] } ∷ ts) (prepend_token p b ts) (λ e. first (record { at = p; bytes = b ∷ [] }) ts refl) (λ e. by_tokens ts)

tokens_headed : (p c : ℕ) (cs : List ℕ) → is_white c ≡ false → Headed p (tokens_at p (c ∷ cs))
tokens_headed p c cs w = rw w (join_headed p c cs (tokens_at (p + 1) cs))

module _ (r : List ℕ) (p b : ℕ) (d : drop p r ≡ b ∷ drop (p + 1) r) (w : is_white b ≡ false) where
  prepend_tokens : (ts : List Piece) → Headed (p + 1) ts → All (Token r) ts → All (Token r) (prepend_token p b ts)
  prepend_tokens [] h none = one (longer r p b [] d w refl refl) none
  prepend_tokens (t ∷ ts) h (one k a) =
      let z = h.headed t ts refl in
      one (longer r p b t.bytes d w (k.here ∙ ap (λ (n : ℕ). take (length t.bytes) (drop n r)) z) k.worded) a

  join_tokens : (bs : List ℕ) → All (Token r) (tokens_at (p + 1) bs) → All (Token r) (join_token p b bs (tokens_at (p + 1) bs))
  join_tokens [] a = one (longer r p b [] d w refl refl) a
  join_tokens (c ∷ cs) a =
      by_cases (is_white c)
      (λ e. rw e (one (longer r p b [] d w refl refl) (rw e at a)))
      (λ e.
      chosen (λ ts. All (Token r) ts) (is_white c) (record { at = p; bytes = b ∷ [] } ∷ tokens_at (p + 1) (c ∷ cs)) (prepend_token p b (tokens_at (p + 1) (c ∷ cs)))
      (λ f. one (longer r p b [] d w refl refl) a)
      (λ f. prepend_tokens (tokens_at (p + 1) (c ∷ cs)) (tokens_headed (p + 1) c cs e) a))

tokens_stand : (r : List ℕ) (p : ℕ) (s : List ℕ) → s ≡ take (length s) (drop p r) → All (Token r) (tokens_at p s)
tokens_stand r p [] e = none
tokens_stand r p (b ∷ bs) e =
    let a = tokens_stand r (p + 1) bs (rest_stands r p b bs e) in
    chosen (λ ts. All (Token r) ts) (is_white b) (tokens_at (p + 1) bs) (join_token p b bs (tokens_at (p + 1) bs)) (λ w. a) (λ w. join_tokens r p b (drop_one r p b bs e) w bs a)

-- ---- what a token adds

-- A call or an annotation of the record r that can be written.
pub record CallGood (r : List ℕ) (e : Entry) : Type 0 where
  pub code_low : e.kind ≡ 6 → e.z < 47
  pub worded : e.kind ≡ 7 → every is_word (bytes_of r e) ≡ true
  pub marked : e.kind ≡ 7 → is_mark (get_or (bytes_of r e) 0 0) ≡ true

other_good : (r : List ℕ) (e : Entry) → (e.kind ≡ 6 → ⊥) → (e.kind ≡ 7 → ⊥) → CallGood r e
other_good r e x y = record { code_low = λ u. absurd (x u); worded = λ u. absurd (y u); marked = λ u. absurd (y u) }

code_good : (r : List ℕ) (p n code : ℕ) → code < 47 → CallGood r (entry 6 p n code)
code_good r p n code h = record { code_low = λ u. h; worded = λ u. absurd (omega arith); marked = λ u. absurd (omega arith) }

-- The byte behind a call's part of a token is a mark.
mark_first : (s : List ℕ) → length (call_part s) < length s → is_mark (get_or s (length (call_part s)) 0) ≡ true
mark_first [] h = absurd (omega arith)
mark_first (b ∷ bs) h =
    by_cases (is_call_byte b)
    (λ e. let g : length (call_part (b ∷ bs)) ≡ suc (length (call_part bs)) = rw e in rw e (mark_first bs (omega arith)))
    (λ e. rw e (not-false (is_mark b) e))

-- The annotation from the byte k of a token on.
annotation_good : (r : List ℕ) (t : Piece) (k : ℕ) → Token r t → k < length t.bytes → is_mark (get_or t.bytes k 0) ≡ true → CallGood r (entry 7 (t.at + k) (length t.bytes - k) 0)
annotation_good r t k h l m =
    let n = length t.bytes - k in
    let b = PartPlaced r t.bytes t.at k n h.here (omega arith) in
    let f : get_or (take n (drop k t.bytes)) 0 0 ≡ get_or t.bytes (k + 0) 0 = get_or-take n (drop k t.bytes) 0 0 (omega arith) ∙ get_or-drop k t.bytes 0 0 in
    record {
      code_low = λ u. absurd (omega arith);
      worded = λ u. ap (every is_word) b ∙ every_take is_word n (drop k t.bytes) (every_drop is_word k t.bytes h.worded);
      marked = λ u. ap (λ (s : List ℕ). is_mark (get_or s 0 0)) b ∙ ap is_mark (f ∙ ap (λ (j : ℕ). get_or t.bytes j 0) (add-zero k)) ∙ m;
    }

module _ (c : Conventions) (r : List ℕ) (t : Piece) (h : Token r t) where
  annotated_good : All (CallGood r) (annotation (t.at + length (call_part t.bytes)) (length t.bytes - length (call_part t.bytes)))
  annotated_good =
      let k = length (call_part t.bytes) in
      let n = length t.bytes in
      chosen (λ es. All (CallGood r) es) (ltb 0 (n - k)) (entry 7 (t.at + k) (n - k) 0 ∷ []) []
      (λ e.
      let l : k < n = omega (arith, ltb-true 0 (n - k) e) in
      one (annotation_good r t k h l (mark_first t.bytes l)) none)
      (λ e. none)

  alone_good : eqb (length (call_part t.bytes)) 0 ≡ true → All (CallGood r) (entry 7 t.at (length t.bytes) 0 ∷ [])
  alone_good e =
      let k = length (call_part t.bytes) in
      let z : k ≡ 0 = eqb-true k 0 e in
      let m : is_mark (get_or t.bytes 0 0) ≡ true = ap (λ (j : ℕ). is_mark (get_or t.bytes j 0)) (sym z) ∙ mark_first t.bytes (omega (arith, h.some_byte)) in
      one (moved {m = length t.bytes} (add-zero t.at) (omega arith) (annotation_good r t 0 h h.some_byte m)) none
    where
      moved : {p q n m : ℕ} → p ≡ q → n ≡ m → CallGood r (entry 7 p n 0) → CallGood r (entry 7 q m 0)
      moved e f g = rw (e, f) at g

  token_good : (b : Bidding) → All (CallGood r) (called_by (call_token_of c t.bytes) b t).entries
  unfolding call_token_of
  token_good b =
      let P : CallToken → Type 0 = λ k. All (CallGood r) (called_by k b t).entries in
      let n = length t.bytes in
      let k = length (call_part t.bytes) in
      let code = call_of c (take k t.bytes) in
      let call : CallToken = cond (eqb code 47) NoCall (Call code k) in
      let part : CallToken = cond (eqb k 0) Annotation call in
      let pass : CallToken = cond (is_all_pass t.bytes) AllPass part in
      let star : CallToken = cond (eqb (section_end t.bytes) 2) Star pass in
      let zero_pass = code_good r t.at n 0 (omega arith) in
      chosen P (eqb (section_end t.bytes) 1) Plus star (λ e. one (code_good r t.at n 38 (omega arith)) none)
      (λ e.
      chosen P (eqb (section_end t.bytes) 2) Star pass (λ f. none)
      (λ f.
      chosen P (is_all_pass t.bytes) AllPass part (λ g. one zero_pass (one zero_pass (one zero_pass none)))
      (λ g.
      chosen P (eqb k 0) Annotation call
      (λ z.
      chosen (λ (o : Out Bidding). All (CallGood r) o.entries) b.made (record { state = bidding true b.end false (b.count + 1); entries = entry 7 t.at n 0 ∷ [] }) (record { state = bidding false b.end false b.count; entries = [] })
      (λ m. alone_good z)
      (λ m. none))
      (λ z.
      chosen P (eqb code 47) NoCall (Call code k) (λ q. none)
      (λ q. one (code_good r t.at k code (below code (call_low c (take k t.bytes)) (eqb-false code 47 q))) annotated_good)))))
    where
      below : (x : ℕ) → x ≤ 47 → (x ≡ 47 → ⊥) → x < 47
      below x h n = by_cases (ltb x 47) (λ t. ltb-true x 47 t) (λ t. let u = ltb-false x 47 t in absurd (n (omega arith)))

  called_good : (b : Bidding) → All (CallGood r) (called c b t).entries
  unfolding called
  called_good b = chosen (λ (o : Out Bidding). All (CallGood r) o.entries) b.stopped (record { state = b; entries = [] }) (called_by (call_token_of c t.bytes) b t) (λ e. none) (λ e. token_good b)

-- ---- the data of a section stands in the record

data_stands : (r : List ℕ) (p : ℕ) (l : List ℕ) (k : Line) → LineAt r p l → LinePlaced k (length l) → All (Stands r) (data_piece p l k)
data_stands r p l Blank i j = none
data_stands r p l Brace i j = none
data_stands r p l (Directive s) i j = none
data_stands r p l (TagOn t) i j = none
data_stands r p l Bracket i j = none
data_stands r p l (Data s) i j =
    let b = PartPlaced r l p s.start (length (cut s l)) i.bytes (omega (arith, cut_len s l)) in
    one {x = record { at = p + s.start; bytes = cut s l }} (record { stands = sym (b ∙ taken_len s.len (drop s.start l)) }) none

piece_stands : (r : List ℕ) (commentary : Bool) (p : ℕ) (l : List ℕ) → LineAt r p l → All (Stands r) (piece_of commentary p l)
unfolding piece_of
piece_stands r true p l i = none
piece_stands r false p l i = data_stands r p l (line_kind l) i (LineInside l)

lines_stand : (r : List ℕ) (commentary : Bool) (p : ℕ) (ls : List (List ℕ)) → raw_lines (drop p r) ≡ ls → All (Stands r) (data_in commentary p ls)
lines_stand r commentary p [] e = none
lines_stand r commentary p (l ∷ ls) e =
    let n = next_line_lem r p l ls e in
    let a = piece_stands r commentary p l (first_line r p l ls e) in
    let b = lines_stand r (commentary_after commentary l) (p + length l) ls n.rest in
    by_cases (stops_at commentary l) (λ t. rw t none) (λ t. rw t (all_append a b))

split_stands : (r : List ℕ) (s : Option Span) → All (Stands r) (split_piece r s)
split_stands r None = none
split_stands r (Some s) = one {x = record { at = s.start; bytes = cut s r }} (record { stands = sym (taken_len s.len (drop s.start r)) }) none

section_stands : (r : List ℕ) (o : Option Open) → All (Stands r) (section_data r o)
unfolding section_data
section_stands r o = all_append (split_stands r (split_off o)) (lines_stand r false (lines_at o) (raw_lines (drop (lines_at o) r)) refl)

-- ---- a section that closes

calls_good : (c : Conventions) (r : List ℕ) (b : Bidding) (q : Piece) → Stands r q → All (CallGood r) (called_piece c b q).entries
unfolding called_piece
calls_good c r b q h = out_all_lem (called c) (λ x t k. called_good c r t k x) b (tokens_stand r q.at q.bytes h.stands)

trick_good : (r : List ℕ) (e : Entry) → Trick e → CallGood r e
trick_good r e t = other_good r e (λ u. omega (arith, t.trick, u)) (λ u. omega (arith, t.trick, u))

walked_good : (c : Conventions) (r : List ℕ) (o : Option Open) (trump : ℕ) (w : Walk) (q : Piece) → Stands r q → All (CallGood r) (walked c o trump w q).entries
unfolding walked
walked_good c r o trump w q h =
    by_cases (eqb (kind_of o) 1)
    (λ e. rw e (calls_good c r w.bidding q h))
    (λ e. by_cases (eqb (kind_of o) 2) (λ f. rw (e, f) (all_map (trick_good r) (TricksOnly c (opener o) trump w.tricks q))) (λ f. rw (e, f) none))

section_good : (c : Conventions) (r : List ℕ) (o : Option Open) (trump : ℕ) → All (CallGood r) (walked_all c r o trump).entries
unfolding walked_all
section_good c r o trump = out_all_lem (walked c o trump) (λ w q h. walked_good c r o trump w q h) no_walk (section_stands r o)

last_good : (r : List ℕ) (kind : ℕ) (w : Walk) → All (CallGood r) (last_entries kind w)
last_good r kind w = by_cases (eqb kind 2) (λ e. rw e (all_map (trick_good r) (LastTrickOnly w.tricks))) (λ e. rw e none)

closed_good : (c : Conventions) (r : List ℕ) (s : State) → All (CallGood r) (closed c r s).entries
unfolding closed
closed_good c r s =
    let w = walked_all c r s.section s.board.contract in
    chosen (λ (o : Out State). All (CallGood r) o.entries) (eqb (kind_of s.section) 0) (record { state = s; entries = [] }) (closed_by s w)
    (λ e. none)
    (λ e. all_append (section_good c r s.section s.board.contract) (last_good r (kind_of s.section) w.state))

-- ---- a record

plain_one : (r : List ℕ) (kind p n z : ℕ) → kind ≤ 5 → CallGood r (entry kind p n z)
plain_one r kind p n z h = other_good r (entry kind p n z) (λ u. omega arith) (λ u. omega arith)

maybe_one : (r : List ℕ) (b : Bool) (kind p n z : ℕ) → kind ≤ 5 → All (CallGood r) (cond b [] (entry kind p n z ∷ []))
maybe_one r true kind p n z h = none
maybe_one r false kind p n z h = one (plain_one r kind p n z h) none

blocked_calls : (r : List ℕ) (s : State) (i j : ℕ) → All (CallGood r) (blocked r s i j).entries
unfolding blocked
blocked_calls r s i j = maybe_one r (is_all_white r i j) 4 i (j - i) s.tags (omega arith)

data_calls : (r : List ℕ) (s : State) (p : ℕ) (d : Span) → All (CallGood r) (data_added s p d).entries
data_calls r s p d = maybe_one r (eqb (kind_of s.section) 0) 5 (p + d.start) d.len (kind_of s.section) (omega arith)

tagged_calls : (c : Conventions) (r : List ℕ) (s : State) (p : ℕ) (l : List ℕ) (q : ℕ) (t : TagPlaces) (split : Option Span) → All (CallGood r) (tagged c s p l q t split).entries
unfolding tagged
tagged_calls c r s p l q t split =
    one (plain_one r 1 (p + t.name.start) t.name.len 0 (omega arith)) (one (plain_one r 2 (p + t.value.start) t.value.len 0 (omega arith)) none)

reading_calls : (c : Conventions) (r : List ℕ) (s : State) (p : ℕ) (l : List ℕ) (q : ℕ) (t : TagReading) → All (CallGood r) (read_by c s p l q t).entries
reading_calls c r s p l q (Plain t) = tagged_calls c r s p l q t no_span
reading_calls c r s p l q (WithComment t d) =
    all_append (tagged_calls c r s p l q t no_span) (one (plain_one r 3 (p + d.start) d.len (tagged c s p l q t no_span).state.tags (omega arith)) none)
reading_calls c r s p l q (WithData t d) = all_append (tagged_calls c r s p l q t (Some (at p d))) (data_calls r (tagged c s p l q t (Some (at p d))).state p d)

-- THEOREM. Every call and every annotation of a record can be written.
pub CallsGood : (c : Conventions) (r : List ℕ) → All (CallGood r) (record_out c r).entries
CallsGood c r =
    HoldsOfRecord c r (λ p s q o. All (CallGood r) o.entries)
    record {
      together = λ p q z s o k a b. all_append a b;
      closing = λ p s. closed_good c r s;
      idle = λ p s l i n. none;
      quiet = λ p s l i n b. none;
      opening = λ p s l i n k b. none;
      bracing = λ p s l i n k b. blocked_calls r s (p + length (lead l) + 1) (p + last_brace l);
      commentary = λ p s l i n b. blocked_calls r s (block_of s) (p + last_brace l);
      directing = λ p s l d i n k. one (plain_one r 3 (p + d.start) d.len s.tags (omega arith)) none;
      dating = λ p s l d i n k. data_calls r s p d;
      tagging = λ p s l t i k. reading_calls c r s p l (p + length l) t;
    }

-- ---- the plain board

-- A call whose code is that of a call, with an annotation of no white space that is empty or starts with a mark.
pub record CallWritable (k : PlainCall) : Type 0 where
  pub code_is_low : k.code < 47
  pub no_white : every is_word k.annotation ≡ true
  pub starts_marked : (eqb (length k.annotation) 0 || is_mark (get_or k.annotation 0 0)) ≡ true

mark_append : (a b : List ℕ) → is_mark (get_or a 0 0) ≡ true → is_mark (get_or (a ++ b) 0 0) ≡ true
unfolding is_mark
mark_append [] b e = clash e
mark_append (x ∷ xs) b e = e

record Annotated (a : List ℕ) : Type 0 where
  words : every is_word a ≡ true
  starts : (eqb (length a) 0 || is_mark (get_or a 0 0)) ≡ true

or_true : (b c : Bool) → c ≡ true → (b || c) ≡ true
or_true true c e = refl
or_true false c e = e

first_annotated : (r : List ℕ) {es : List Entry} → All (CallGood r) es → Annotated (annotations_first (items_of r es))
unfolding item_of
first_annotated r none = record { words = refl; starts = refl }
first_annotated r (one {x = e} {xs = es} g a) =
    let i = first_annotated r a in
    let rest = annotations_first (items_of r es) in
    chosen (λ x. Annotated x) (eqb e.kind 7) (bytes_of r e ++ rest) []
    (λ t.
    let k = eqb-true e.kind 7 t in
    record {
      words = every_append is_word (bytes_of r e) rest (g.worded k) i.words;
      starts = or_true (eqb (length (bytes_of r e ++ rest)) 0) (is_mark (get_or (bytes_of r e ++ rest) 0 0)) (mark_append (bytes_of r e) rest (g.marked k));
    })
    (λ t. record { words = refl; starts = refl })

calls_writable : (r : List ℕ) {es : List Entry} → All (CallGood r) es → All CallWritable (calls_in (items_of r es))
unfolding item_of
calls_writable r none = none
calls_writable r (one {x = e} {xs = es} g a) =
    let i = first_annotated r a in
    by_cases (eqb e.kind 6)
    (λ t.
    rw t
    (one {x = record { code = e.z; annotation = annotations_first (items_of r es) }} (record { code_is_low = g.code_low (eqb-true e.kind 6 t); no_white = i.words; starts_marked = i.starts }) (calls_writable r a)))
    (λ t. rw t (calls_writable r a))

all_drop : {P : Entry → Type 0} (n : ℕ) (es : List Entry) → All P es → All P (drop n es)
all_drop zero es a = a
all_drop (suc n) [] none = none
all_drop (suc n) (e ∷ es) (one p a) = all_drop n es a

all_take : {P : Entry → Type 0} (n : ℕ) (es : List Entry) → All P es → All P (take n es)
all_take zero es a = none
all_take (suc n) [] none = none
all_take (suc n) (e ∷ es) (one p a) = one p (all_take n es a)

-- What a section in force has is good, where every entry of the record is: its calls, or its tricks.
pub forced_all : {X A : Type 0} {P : Entry → Type 0} {Q : X → Type 0} (r : List ℕ) (s : Section) {es : List Entry} (parts : List Item → List X) (had : A → List X) {x a : A}
    → x ≡ a → had x ≡ parts (items_within s (items_of r es)) → ((fs : List Entry) → All P fs → All Q (parts (items_of r fs))) → All P es → All Q (had a)
forced_all r s {es} parts had e f good all =
    rw (← e, f, within_items r s es) (good (entries_within s es) (all_take s.count (drop (s.first - 1) es) (all_drop (s.first - 1) es all)))

-- THEOREM. Every call of a plain board can be written.
pub PlainCalls : (c : Conventions) (r : List ℕ) (a : PlainAuction) → (plain_of c r).auction ≡ some a → All CallWritable a.calls
unfolding plain_of plain_by
PlainCalls c r a e = let s = (record_out c r).state.board.auction in forced_all r s calls_in (λ x. x.calls) (force_is s _ a e) refl (λ fs g. calls_writable r g) (CallsGood c r)
