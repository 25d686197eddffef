-- The data lines of a section that was written: the section's data are those lines, and the tokens of a line are the words that were put
-- on it.
use Rattle.std.specs.Prelude.{Option}
use Prim.Native.Nat.{ℕ, ◌+◌}
use mathlib.Core.Path.{◌≡◌, refl, sym, ap, ◌∙◌}
use mathlib.Core.Bool.{true, false, cond}
use mathlib.Core.List.{List, [], ◌∷◌, ◌++◌, map, append_assoc, append-nil, map-append}
use lib.ListN.{length}
use borrow.Author.Tests.{not-true}
use Rattle.tables.specs.declared.letters.Conventions.{Conventions}
use Rattle.tables.specs.Text.{is_white, is_word}
use Rattle.tables.specs.Letters.{every}
use Rattle.tables.proofs.Laws.{by_cases, both, clash}
use Rattle.reader.specs.declared.store.Entry.{Entry}
use Rattle.reader.specs.declared.play.Tricks.{Tricks}
use Rattle.reader.specs.declared.section.Open.{Open}
use Rattle.reader.specs.declared.section.Walk.{Walk}
use Rattle.reader.specs.Auction.{called, called_piece}
use Rattle.reader.specs.Play.{played_bytes, played_token, played_piece}
use Rattle.reader.specs.Pieces.{Piece, prepend_token, join_token, tokens_at, tokens_of, Out, and_then, out_all, raw_lines}
use Rattle.reader.specs.Sections.{commentary_after, stops_at, piece_of, data_in, walked, kind_of, opener}
use Rattle.writer.specs.Sections.{spaced, rounds}
use Rattle.writer.specs.Remarks.{data_line, line_text, lines_text}
use Rattle.demands.specs.PageBack.{all, good_data, ReadsAs, section}
use Rattle.demands.proofs.LineBack.{LineBack}
use Rattle.demands.proofs.PageWalk.{line_then}
use Rattle.demands.proofs.BoardWritable.{begins, is_token}

-- ---- the words of a line: its tokens without their places

abbrev pub texts : List Piece → List (List ℕ)
texts qs = map (λ q. q.bytes) qs

abbrev prepend_word : ℕ → List (List ℕ) → List (List ℕ)
prepend_word b [] = (b ∷ []) ∷ []
prepend_word b (t ∷ ts) = (b ∷ t) ∷ ts

abbrev join_word : ℕ → List ℕ → List (List ℕ) → List (List ℕ)
join_word b [] ts = (b ∷ []) ∷ ts
join_word b (x ∷ xs) ts = cond (is_white x) ((b ∷ []) ∷ ts) (prepend_word b ts)

abbrev pub words : List ℕ → List (List ℕ)
words [] = []
words (b ∷ bs) = cond (is_white b) (words bs) (join_word b bs (words bs))

prepend_texts : (p b : ℕ) (ts : List Piece) → texts (prepend_token p b ts) ≡ prepend_word b (texts ts)
prepend_texts p b [] = refl
prepend_texts p b (t ∷ ts) = refl

join_texts : (p b : ℕ) (bs : List ℕ) (ts : List Piece) → texts (join_token p b bs ts) ≡ join_word b bs (texts ts)
join_texts p b [] ts = refl
join_texts p b (x ∷ xs) ts = by_cases (is_white x) (λ e. rw e) (λ e. rw e (prepend_texts p b ts))

pub tokens_words : (p : ℕ) (s : List ℕ) → texts (tokens_at p s) ≡ words s
tokens_words p [] = refl
tokens_words p (b ∷ bs) =
    by_cases (is_white b)
    (λ e. rw e (tokens_words (p + 1) bs))
    (λ e. rw e (join_texts p b bs (tokens_at (p + 1) bs) ∙ ap (join_word b bs) (tokens_words (p + 1) bs)))

-- A word before a blank, and a word at the end.
word_then : (b : ℕ) (bs rest : List ℕ) → every is_word (b ∷ bs) ≡ true → words (b ∷ (bs ++ 32 ∷ rest)) ≡ (b ∷ bs) ∷ words rest
unfolding is_white
word_then b [] rest e = let h = both (is_word b) true e in rw (not-true (is_white b) h.0)
word_then b (d ∷ ds) rest e =
    let h = both (is_word b) (every is_word (d ∷ ds)) e in
    let i = both (is_word d) (every is_word ds) h.1 in
    rw (not-true (is_white b) h.0, word_then d ds rest h.1, not-true (is_white d) i.0)

word_last : (b : ℕ) (bs : List ℕ) → every is_word (b ∷ bs) ≡ true → words (b ∷ bs) ≡ (b ∷ bs) ∷ []
word_last b [] e = let h = both (is_word b) true e in rw (not-true (is_white b) h.0)
word_last b (d ∷ ds) e =
    let h = both (is_word b) (every is_word (d ∷ ds)) e in
    let i = both (is_word d) (every is_word ds) h.1 in
    rw (not-true (is_white b) h.0, word_last d ds h.1, not-true (is_white d) i.0)

words_then : (t rest : List ℕ) → is_token t ≡ true → words (t ++ 32 ∷ rest) ≡ t ∷ words rest
words_then [] rest e = clash e
words_then (b ∷ bs) rest e = word_then b bs rest (both (begins (b ∷ bs)) (every is_word (b ∷ bs)) e).1

words_last : (t : List ℕ) → is_token t ≡ true → words t ≡ t ∷ []
words_last [] e = clash e
words_last (b ∷ bs) e = word_last b bs (both (begins (b ∷ bs)) (every is_word (b ∷ bs)) e).1

-- THEOREM. The words of tokens in a row are those tokens.
pub SpacedBack : (ts : List (List ℕ)) → all is_token ts ≡ true → words (spaced ts) ≡ ts
SpacedBack [] e = refl
SpacedBack (t ∷ []) e = words_last t (both (is_token t) true e).0
SpacedBack (t ∷ u ∷ ts) e =
    let h = both (is_token t) (all is_token (u ∷ ts)) e in
    words_then t (spaced (u ∷ ts)) h.0 ∙ ap (λ (x : List (List ℕ)). t ∷ x) (SpacedBack (u ∷ ts) h.1)

-- ---- the words of several lines

abbrev pub words_in_all : List (List ℕ) → List (List ℕ)
words_in_all [] = []
words_in_all (l ∷ ls) = words l ++ words_in_all ls

-- THEOREM. Four tokens a line are those tokens.
pub RoundsBack : (ts : List (List ℕ)) → all is_token ts ≡ true → words_in_all (rounds ts) ≡ ts
RoundsBack [] e = refl
RoundsBack (a ∷ []) e = append-nil (words (spaced (a ∷ []))) ∙ SpacedBack (a ∷ []) e
RoundsBack (a ∷ b ∷ []) e = append-nil (words (spaced (a ∷ b ∷ []))) ∙ SpacedBack (a ∷ b ∷ []) e
RoundsBack (a ∷ b ∷ d ∷ []) e = append-nil (words (spaced (a ∷ b ∷ d ∷ []))) ∙ SpacedBack (a ∷ b ∷ d ∷ []) e
RoundsBack (a ∷ b ∷ d ∷ f ∷ ts) e =
    let h = both (is_token a) _ e in
    let i = both (is_token b) _ h.1 in
    let j = both (is_token d) _ i.1 in
    let k = both (is_token f) (all is_token ts) j.1 in
    let w : words (spaced (a ∷ b ∷ d ∷ f ∷ [])) ≡ a ∷ b ∷ d ∷ f ∷ [] = SpacedBack (a ∷ b ∷ d ∷ f ∷ []) (rw (h.0, i.0, j.0, k.0)) in
    ap (λ (x : List (List ℕ)). x ++ words_in_all (rounds ts)) w ∙ ap (λ (x : List (List ℕ)). a ∷ b ∷ d ∷ f ∷ x) (RoundsBack ts k.1)

-- The tokens of pieces of data, one after another.
abbrev pub all_tokens : List Piece → List Piece
all_tokens [] = []
all_tokens (q ∷ qs) = tokens_of q ++ all_tokens qs

pub tokens_texts : (qs : List Piece) → texts (all_tokens qs) ≡ words_in_all (texts qs)
tokens_texts [] = refl
tokens_texts (q ∷ qs) =
    map-append (λ (x : Piece). x.bytes) (tokens_of q) (all_tokens qs)
    ∙ ap (λ (x : List (List ℕ)). x ++ texts (all_tokens qs)) (tokens_words q.at q.bytes)
    ∙ ap (λ (x : List (List ℕ)). words q.bytes ++ x) (tokens_texts qs)

-- Steps over a row are those over its parts.
pub out_append : {A B : Type 0} (f : A → B → Out A) (a : A) (xs ys : List B) → out_all f a (xs ++ ys) ≡ and_then (out_all f a xs) (out_all f (out_all f a xs).state ys)
out_append f a [] ys = refl
out_append f a (x ∷ xs) ys =
    ap (and_then (f a x)) (out_append f (f a x).state xs ys)
    ∙ ap (λ (es : List Entry). record { state = (out_all f (out_all f (f a x).state xs).state ys).state; entries = es }) (sym (append_assoc (f a x).entries (out_all f (f a x).state xs).entries (out_all f (out_all f (f a x).state xs).state ys).entries))

-- ---- the walk over a section's data is one over its tokens

one_called : (c : Conventions) (o : Option Open) (trump : ℕ) (w : Walk) (q : Piece) → kind_of o ≡ 1
    → walked c o trump w q
    ≡ record {
      state = record { bidding = (out_all (called c) w.bidding (tokens_of q)).state; tricks = w.tricks; rows = w.rows };
      entries = (out_all (called c) w.bidding (tokens_of q)).entries;
    }
unfolding walked called_piece
one_called c o trump w q k = rw k

pub calls_walked : (c : Conventions) (o : Option Open) (trump : ℕ) (w : Walk) (qs : List Piece) → kind_of o ≡ 1
    → ((out_all (walked c o trump) w qs).state.bidding ≡ (out_all (called c) w.bidding (all_tokens qs)).state)
    × ((out_all (walked c o trump) w qs).entries ≡ (out_all (called c) w.bidding (all_tokens qs)).entries)
calls_walked c o trump w [] k = (refl, refl)
calls_walked c o trump w (q ∷ qs) k =
    let x = out_all (called c) w.bidding (tokens_of q) in
    let v : Walk = record { bidding = x.state; tricks = w.tricks; rows = w.rows } in
    let e : walked c o trump w q ≡ record { state = v; entries = x.entries } = one_called c o trump w q k in
    let h = calls_walked c o trump v qs k in
    let a = out_append (called c) w.bidding (tokens_of q) (all_tokens qs) in
    rw (e, a) (h.0, ap (λ (es : List Entry). x.entries ++ es) h.1)

bytes_played : (c : Conventions) (lead trump : ℕ) (t : Tricks) (qs : List Piece) → out_all (played_token c lead trump) t qs ≡ out_all (played_bytes c lead trump) t (texts qs)
bytes_played c lead trump t [] = refl
bytes_played c lead trump t (q ∷ qs) = ap (and_then (played_bytes c lead trump t q.bytes)) (bytes_played c lead trump (played_bytes c lead trump t q.bytes).state qs)

one_played : (c : Conventions) (o : Option Open) (trump : ℕ) (w : Walk) (q : Piece) → kind_of o ≡ 2
    → walked c o trump w q
    ≡ record {
      state = record { bidding = w.bidding; tricks = (out_all (played_token c (opener o) trump) w.tricks (tokens_of q)).state; rows = w.rows };
      entries = (out_all (played_token c (opener o) trump) w.tricks (tokens_of q)).entries;
    }
unfolding walked played_piece
one_played c o trump w q k = rw k

plays_tokens : (c : Conventions) (o : Option Open) (trump : ℕ) (w : Walk) (qs : List Piece) → kind_of o ≡ 2
    → ((out_all (walked c o trump) w qs).state.tricks ≡ (out_all (played_token c (opener o) trump) w.tricks (all_tokens qs)).state)
    × ((out_all (walked c o trump) w qs).entries ≡ (out_all (played_token c (opener o) trump) w.tricks (all_tokens qs)).entries)
plays_tokens c o trump w [] k = (refl, refl)
plays_tokens c o trump w (q ∷ qs) k =
    let x = out_all (played_token c (opener o) trump) w.tricks (tokens_of q) in
    let v : Walk = record { bidding = w.bidding; tricks = x.state; rows = w.rows } in
    let e : walked c o trump w q ≡ record { state = v; entries = x.entries } = one_played c o trump w q k in
    let h = plays_tokens c o trump v qs k in
    let a = out_append (played_token c (opener o) trump) w.tricks (tokens_of q) (all_tokens qs) in
    rw (e, a) (h.0, ap (λ (es : List Entry). x.entries ++ es) h.1)

pub plays_walked : (c : Conventions) (o : Option Open) (trump : ℕ) (w : Walk) (qs : List Piece) → kind_of o ≡ 2
    → ((out_all (walked c o trump) w qs).state.tricks ≡ (out_all (played_bytes c (opener o) trump) w.tricks (texts (all_tokens qs))).state)
    × ((out_all (walked c o trump) w qs).entries ≡ (out_all (played_bytes c (opener o) trump) w.tricks (texts (all_tokens qs))).entries)
plays_walked c o trump w qs k =
    let h = plays_tokens c o trump w qs k in
    let e = bytes_played c (opener o) trump w.tricks (all_tokens qs) in
    (h.0 ∙ ap (λ (x : Out Tricks). x.state) e, h.1 ∙ ap (λ (x : Out Tricks). x.entries) e)

-- ---- the data of a section

-- What follows holds no further data of the section before it: nothing, a tag or a blank line stands there.
pub record Stops (back : List ℕ) : Type 0 where
  pub no_data : (p : ℕ) → data_in false p (raw_lines back) ≡ []

pub nothing_stops : Stops []
nothing_stops = record { no_data = λ p. refl }

-- A line that reads as data.
one_data : (d : List ℕ) (ds ls ms : List (List ℕ)) (p : ℕ) → ReadsAs (data_line d) ls → ((q : ℕ) → texts (data_in false q ms) ≡ ds) → texts (data_in false p (ls ++ ms)) ≡ d ∷ ds
unfolding stops_at piece_of commentary_after
one_data d ds [] ms p a h = elim a [ ]
one_data d ds (l ∷ (_ ∷ _)) ms p a h = elim a [ ]
one_data d ds (l ∷ []) ms p (section k x) h = rw (k, x) (ap (λ (y : List (List ℕ)). d ∷ y) (h (p + length l)))

-- THEOREM. The data of a section whose data lines were written are those lines.
pub DataBack : (ds : List (List ℕ)) (back : List ℕ) → all good_data ds ≡ true → Stops back → (p : ℕ) → texts (data_in false p (raw_lines (lines_text (map data_line ds) ++ back))) ≡ ds
DataBack [] back e s p = ap texts (s.no_data p)
DataBack (d ∷ ds) back e s p =
    let h = both (good_data d) (all good_data ds) e in
    let a : raw_lines ((line_text (data_line d) ++ lines_text (map data_line ds)) ++ back) ≡ raw_lines (line_text (data_line d)) ++ raw_lines (lines_text (map data_line ds) ++ back)
    = ap raw_lines (append_assoc (line_text (data_line d)) (lines_text (map data_line ds)) back) ∙ line_then (data_line d) (lines_text (map data_line ds) ++ back) in
    ap (λ (ls : List (List ℕ)). texts (data_in false p ls)) a
    ∙ one_data d ds (raw_lines (line_text (data_line d))) (raw_lines (lines_text (map data_line ds) ++ back)) p (LineBack (data_line d) h.0) (DataBack ds back h.1 s)
