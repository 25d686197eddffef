-- Each byte of a record is of one tag, directive or block at most: what they have together, four bytes more for each tag and one for each
-- directive, is no more than the record and the LF that its last line may lack.
use Rattle.reader.specs.Boards.{in_block, block_of}
use Rattle.reader.specs.Sections.{kind_of}
use Prim.Native.Nat.{ℕ, suc, ◌+◌, ◌-◌, ◌*◌, ◌≤◌, ◌<◌}
use mathlib.Core.Path.{◌≡◌, refl, sym, ap, ◌∙◌}
use mathlib.Core.Bool.{Bool, true, false, cond, ◌||◌}
use mathlib.Core.List.{List, [], ◌∷◌, ◌++◌}
use mathlib.Core.Option.{Option, none as nothing, some}
use native.Mathlib.Omega.{arith}
use lib.Dec.{leb, eqb}
use lib.ListN.{length, take, drop, get_or, length-append, length-take, length-drop}
use borrow.Author.Tests.{eqb-true, eqb-false, ne_eqb, eq-eqb, lt-leb, le-leb}
use Rattle.tables.specs.declared.letters.Conventions.{Conventions}
use Rattle.tables.specs.Text.{is_white, is_word, lead, trim_start, keep_end, trim_end, trimmed, word, past_word, before}
use Rattle.tables.proofs.Laws.{by_cases, clash}
use Rattle.reader.specs.declared.store.Entry.{Entry}
use Rattle.reader.specs.declared.tag.Span.{Span}
use Rattle.reader.specs.declared.tag.Tag.{Tag as TagPlaces}
use Rattle.std.specs.Prelude.{Option as Maybe, Some, None}
use Rattle.reader.specs.declared.line.Line.{Line}
use Rattle.reader.specs.declared.line.Line.TheVariants.{Blank, Brace, Directive, Tag as TagOn, Bracket, Data}
use Rattle.reader.specs.declared.line.TagReading.{TagReading}
use Rattle.reader.specs.declared.line.TagReading.TheVariants.{Plain, WithComment, WithData}
use Rattle.reader.specs.declared.board.State.{State}
use Rattle.reader.specs.Tag.{TagLine, Split, cut, trim_span, is_comment, tag_line, split_of}
use Rattle.reader.specs.TagSteps.{SplitPlaced}
use Rattle.reader.specs.TagBytes.{Cut, past, close, unquote, filled, TagBytes, read_tag, tag_bytes, SplitBytes, read_split, split_bytes}
use Rattle.reader.specs.Lines.{last_brace, is_blank, split_as, split_line, bracket_as, bracket_line, kind_by, line_kind, opens_board}
use Rattle.reader.specs.Pieces.{Out, entry, join_line, raw_lines}
use Rattle.reader.specs.Records.{ends_line}
use Rattle.reader.specs.Boards.{closed, no_span, at, tagged, directed, data_added, read_by, blocked, is_all_white, no_state, record_out}
use Rattle.reader.specs.Plain.{Item, item_of, items_of, tags_in, remarks_in, plain_by, plain_of}
use Rattle.reader.proofs.EntryLaws.{sum_of, sum_append, All, none, one}
use Rattle.reader.proofs.SectionLaws.{LineAt, line_at_lem}
use Rattle.reader.proofs.Tags.{with_comment, trim_whole, front_whole, close_at_lem, unquote_is, comment_as, place_value, place_name, place_tag, line_by_lem, tag_placed, no_tag_lem, never, some_inj, bind_some, past_at, TagStands, SplitStands}
use Rattle.reader.proofs.Inside.{SplitInsideLine}
use Rattle.reader.proofs.Counts.{chosen, cut_len}
use Rattle.reader.proofs.PlainSteps.{Late, closed_late, closed_keeps, HoldsOfRecord}
use Rattle.reader.proofs.PlainTags.{Paired, over, tag, other, TagsPaired}
use Rattle.reader.proofs.PlainSizes.{blocked_commentary, tagged_commentary, tags_size, remarks_size, bytes_few, blocks_few}
use Rattle.reader.proofs.LineLaws.{brace_inside}

-- ---- a tag's line

-- The trimmed text, and the white space before it, are no longer than the text.
trim_length : (s : List ℕ) → length (lead s) + length (trimmed s) ≤ length s
trim_length s = omega (arith, simp length-append at (ap length (trim_whole s)))

-- A line of n bytes: the name, the value, two brackets, two quotes and a white byte, and what is added to them.
abbrev IsFitting : TagPlaces → ℕ → ℕ → Type 0
IsFitting t more n = t.name.len + t.value.len + more + 5 ≤ n

abbrev TagFits : TagLine → ℕ → Type 0
TagFits None n = Unit {0}
TagFits (Some (t, None)) n = IsFitting t 0 n
TagFits (Some (t, Some d)) n = IsFitting t d.len n

fits_comment : (t : List ℕ) (g : TagPlaces) (n d : ℕ) → IsFitting g (length t) n → TagFits (with_comment (comment_as t d) g) n
fits_comment [] g n d h = h
fits_comment (x ∷ xs) g n d h =
    let z : eqb (suc (length xs)) 0 ≡ false = ne_eqb (suc (length xs)) 0 (λ e. omega arith) in
    by_cases (is_comment (x ∷ xs)) (λ t. rw (z, t) h) (λ t. rw (z, t) tt)

fits_value : (o : Option (List ℕ)) (s a d n : ℕ) (w g r : List ℕ) → unquote (trimmed g) ≡ o → 0 < length (lead g) → length w + length g + length r + 2 ≤ n
    → TagFits (place_value o s (record { start = a; len = length w }) r d) n
fits_value nothing s a d n w g r e l h = tt
fits_value (some u) s a d n w g r e l h =
    let q = simp length-append at (ap length (unquote_is (trimmed g) e)) in
    fits_comment (trimmed r) _ n (d + length (lead r)) (omega (arith, trim_length g, trim_length r))

-- What follows a word starts with white space.
past_white : (s : List ℕ) {b : ℕ} {bs : List ℕ} → past_word s ≡ b ∷ bs → is_white b ≡ true
past_white [] e = let z : ◌≡◌ {A = ℕ} 0 1 = cc in absurd (omega arith)
past_white (x ∷ xs) {b} e =
    by_cases (is_white x)
    (λ t. let h : x ∷ xs ≡ b ∷ _ = rw t at e in let i : x ≡ b = cc in rw i at t)
    (λ t. past_white xs (rw t at e))

fits_name : (g : List ℕ) (a n : ℕ) (w r f : List ℕ) → past_word f ≡ g → w ++ g ≡ f → length f + length r + 2 ≤ n → TagFits (place_name g a w r) n
fits_name [] a n w r f p e h = tt
fits_name (b ∷ bs) a n w r f p e h =
    let k = simp length-append at (ap length e) in
    let l : 0 < length (lead (b ∷ bs)) = rw (past_white f p) (omega arith) in
    fits_value (unquote (trimmed (b ∷ bs))) _ a _ n w (b ∷ bs) r refl l (omega arith)

fits_closed : (o : Option Cut) (a n : ℕ) (s : List ℕ) → close false s ≡ o → length s + 1 ≤ n → TagFits (place_tag o a) n
fits_closed nothing a n s e h = tt
fits_closed (some k) a n s e h =
    let l = simp length-append at (ap length (close_at_lem false s e)) in
    fits_name (past_word k.front) a n (word k.front) k.rest k.front refl (front_whole is_word k.front) (omega arith)

tag_fits : (line : List ℕ) → TagFits (tag_line line) (length line)
tag_fits line =
    line_by_lem line
    (λ s e w.
    let l = simp length-append at (ap length w) in
    rw (tag_placed line s e w) (fits_closed (close false s) (length (lead line) + 1) (length line) s refl (omega arith)))
    (λ e n. rw (no_tag_lem line n) tt)

-- ---- a tag with section data

fits_bytes : (f : List ℕ) {b : TagBytes} → read_tag f ≡ some b → length b.name + length b.value + 5 ≤ length f
fits_bytes f {b} e = by (tag_line f) (tag_fits f) (TagStands f ∙ e)
  where
    cuts : (t : TagPlaces) → cut t.name f ≡ b.name → cut t.value f ≡ b.value → IsFitting t 0 (length f) → length b.name + length b.value + 5 ≤ length f
    cuts t n v h = omega (arith, ap length n, ap length v, cut_len t.name f, cut_len t.value f)

    by : (k : TagLine) → TagFits k (length f) → tag_bytes k f ≡ some b → length b.name + length b.value + 5 ≤ length f
    by None h e = never e
    by (Some (t, None)) h e = cuts t (ap (λ (x : TagBytes). x.name) (some_inj e)) (ap (λ (x : TagBytes). x.value) (some_inj e)) h
    by (Some (t, Some d)) h e = cuts t (ap (λ (x : TagBytes). x.name) (some_inj e)) (ap (λ (x : TagBytes). x.value) (some_inj e)) (omega arith)

fits_split : (line : List ℕ) {b : SplitBytes} → read_split line ≡ some b → length b.name + length b.value + 5 ≤ length line
unfolding read_split
fits_split line {b} e =
    bind_some (past 34 line) e
    (λ x p u.
    bind_some (past 34 x.rest) u
    (λ y q v.
    bind_some (past 93 y.rest) v
    (λ z o w.
    bind_some (read_tag (x.front ++ (y.front ++ z.front))) w
    (λ t g i.
    bind_some (filled (trimmed z.rest)) i
    (λ d j k.
    let n = ap (λ (m : SplitBytes). length m.name) (some_inj k) in
    let l = ap (λ (m : SplitBytes). length m.value) (some_inj k) in
    let h = simp length-append at (fits_bytes (x.front ++ (y.front ++ z.front)) g) in
    omega (
      arith,
      n,
      l,
      h,
      simp length-append at (ap length (past_at 34 line p)),
      simp length-append at (ap length (past_at 34 x.rest q)),
      simp length-append at (ap length (past_at 93 y.rest o)),
    ))))))

cut_whole : (p : Span) (line : List ℕ) → p.start + p.len ≤ length line → length (cut p line) ≡ p.len
cut_whole p line h = rw (length-take, length-drop) (omega arith)

-- ---- any line

abbrev ReadingFits : TagReading → ℕ → Type 0
ReadingFits (Plain t) n = IsFitting t 0 n
ReadingFits (WithComment t d) n = IsFitting t d.len n
ReadingFits (WithData t d) n = IsFitting t 0 n

abbrev LineFits : Line → ℕ → Type 0
LineFits Blank n = Unit {0}
LineFits Brace n = Unit {0}
LineFits (Directive d) n = Unit {0}
LineFits (TagOn t) n = ReadingFits t n
LineFits Bracket n = Unit {0}
LineFits (Data d) n = Unit {0}

split_fits : (line : List ℕ) (d : Split) → SplitPlaced d (length line) → split_bytes d line ≡ read_split line → LineFits (split_as d) (length line)
split_fits line None i e = tt
split_fits line (Some (t, d)) i e =
    let h = fits_split line (sym e) in
    omega (arith, cut_whole t.name line i.0.name_inside, cut_whole t.value line i.0.value_inside)

bracket_fits : (line : List ℕ) (t : TagLine) → TagFits t (length line) → LineFits (bracket_as t line) (length line)
unfolding split_line
bracket_fits line None h = split_fits line (split_of line) (SplitInsideLine line) (SplitStands line)
bracket_fits line (Some (t, None)) h = h
bracket_fits line (Some (t, Some d)) h = h

line_fits : (line : List ℕ) → LineFits (line_kind line) (length line)
unfolding line_kind bracket_line
line_fits line =
    let b = get_or (trim_start line) 0 0 in
    chosen (λ k. LineFits k (length line)) (is_blank line) Blank (kind_by b line) (λ e. tt)
    (λ e.
    chosen (λ k. LineFits k (length line)) (eqb b 123) Brace (cond (eqb b 59 || eqb b 37) (Directive (trim_span line)) (cond (eqb b 91) (bracket_line line) (Data (trim_span line)))) (λ e. tt)
    (λ e.
    chosen (λ k. LineFits k (length line)) (eqb b 59 || eqb b 37) (Directive (trim_span line)) (cond (eqb b 91) (bracket_line line) (Data (trim_span line))) (λ e. tt)
    (λ e.
    chosen (λ k. LineFits k (length line)) (eqb b 91) (bracket_line line) (Data (trim_span line)) (λ e. bracket_fits line (tag_line line) (tag_fits line)) (λ e. tt))))

-- THEOREM. A line that holds a tag has five bytes.
pub TagLineLong : (l : List ℕ) → opens_board (line_kind l) ≡ true → 5 ≤ length l
TagLineLong l e = long (line_kind l) (line_fits l) e
  where
    reading : (t : TagReading) → ReadingFits t (length l) → 5 ≤ length l
    reading (Plain t) h = omega arith
    reading (WithComment t d) h = omega arith
    reading (WithData t d) h = omega arith

    long : (k : Line) → LineFits k (length l) → opens_board k ≡ true → 5 ≤ length l
    long Blank h e = clash e
    long Brace h e = clash e
    long (Directive d) h e = clash e
    long (TagOn t) h e = reading t h
    long Bracket h e = clash e
    long (Data d) h e = clash e

-- ---- a line that is not the last ends with an LF, which trimming takes off

keep_few : (b : ℕ) (t : List ℕ) → length (keep_end b t) ≤ length t + 1
keep_few b [] = by_cases (is_white b) (λ e. rw e (omega arith)) (λ e. rw e (omega arith))
keep_few b (c ∷ cs) = omega arith

end_short : (l : List ℕ) → ends_line false l ≡ true → length (trim_end l) < length l
unfolding is_white
end_short [] e = clash e
end_short (b ∷ []) e = let z = eqb-true b 10 e in rw z (omega arith)
end_short (b ∷ c ∷ cs) e = omega (arith, end_short (c ∷ cs) e, keep_few b (trim_end (c ∷ cs)))

trim_few : (l : List ℕ) → length (trimmed l) ≤ length l
trim_few l = omega (arith, trim_length l)

trim_short : (l : List ℕ) → ends_line false l ≡ true → length (trimmed l) < length l
unfolding trimmed
trim_short [] e = clash e
trim_short (b ∷ bs) e =
    by_cases (is_white b)
    (λ t. rw t (omega (arith, trim_few bs)))
    (λ t. rw t (end_short (b ∷ bs) e))

line_ended : (s l m : List ℕ) (ls : List (List ℕ)) → raw_lines s ≡ l ∷ m ∷ ls → ends_line false l ≡ true
line_ended [] l m ls e = let z : ◌≡◌ {A = ℕ} 0 1 = cc in absurd (omega arith)
line_ended (b ∷ bs) l m ls e = glued (eqb b 10) refl (raw_lines bs) (λ k j js i. line_ended bs k j js i) e
  where
    more : (k : List ℕ) → ends_line false k ≡ true → ends_line false (b ∷ k) ≡ true
    more [] h = clash h
    more (x ∷ xs) h = h

    glued : (t : Bool) → eqb b 10 ≡ t → (ks : List (List ℕ)) → ((k j : List ℕ) (js : List (List ℕ)) → ks ≡ k ∷ j ∷ js → ends_line false k ≡ true) → join_line t b ks ≡ l ∷ m ∷ ls → ends_line false l ≡ true
    glued true h ks i e = let z : b ∷ [] ≡ l = cc in rw (← z) h
    glued false h [] i e = let z : ◌≡◌ {A = List (List ℕ)} [] (m ∷ ls) = cc in let y : ◌≡◌ {A = ℕ} 0 1 = cc in absurd (omega arith)
    glued false h (k ∷ []) i e = let z : ◌≡◌ {A = List (List ℕ)} [] (m ∷ ls) = cc in let y : ◌≡◌ {A = ℕ} 0 1 = cc in absurd (omega arith)
    glued false h (k ∷ j ∷ js) i e = let z : b ∷ k ≡ l = cc in rw (← z) (more k (i k j js refl))

-- 1 at the record's end, whose line may lack its LF.
abbrev ended : List ℕ → ℕ → ℕ
ended r q = cond (eqb q (length r)) 1 0

line_starts : (r : List ℕ) (p : ℕ) (l : List ℕ) → LineAt r p l → ended r p ≡ 0
line_starts r p l i = rw (ne_eqb p (length r) (λ e. omega (arith, e, i.filled, i.inside)))

line_short : (r : List ℕ) (p : ℕ) (l : List ℕ) → LineAt r p l → length (trimmed l) + 1 ≤ length l + ended r (p + length l)
line_short r p l i =
    let q = p + length l in
    by_cases (eqb q (length r))
    (λ e. rw e (omega (arith, trim_few l)))
    (λ e.
    let j = line_at_lem r q (take (length (before 10 (drop q r)) + 1) (drop q r)) (omega (arith, i.inside, eqb-false q (length r) e)) refl in
    omega (arith, trim_short l (line_ended (drop p r) l _ _ (i.lines ∙ ap (λ (k : List (List ℕ)). l ∷ k) j.lines))))

-- ---- entries

-- What an entry has of the record: a tag has its name, its value and four bytes; a directive has one byte more than its own.
abbrev share : Entry → ℕ
share e = cond (eqb e.kind 1) (e.y + 4) (cond (eqb e.kind 3) (e.y + 1) (cond (leb e.kind 4) e.y 0))

abbrev shares : List Entry → ℕ
shares es = sum_of share es

shares_append : (es fs : List Entry) → shares (es ++ fs) ≡ shares es + shares fs
shares_append = sum_append share

share_late : (e : Entry) → 5 ≤ e.kind → share e ≡ 0
share_late e h = rw (ne_eqb e.kind 1 (λ u. omega (arith, u)), ne_eqb e.kind 3 (λ u. omega (arith, u)), lt-leb e.kind 4 (omega arith))

shares_late : {es : List Entry} → All Late es → shares es ≡ 0
shares_late none = refl
shares_late (one {x = e} l a) = omega (arith, share_late e (omega (arith, l.late)), shares_late a)

-- What was read up to the place p: all, or all up to an open block.
abbrev done : State → ℕ → ℕ
done s p = cond (in_block s) (block_of s - 1) p

-- A step from s at p to o at q: an open block starts at the next byte at the latest; the bytes read are enough.
record Shared (r : List ℕ) (p : ℕ) (s : State) (q : ℕ) (o : Out State) : Type 0 where
  fits : done s p ≤ p → shares o.entries + done s p + ended r p ≤ done o.state q + ended r q
  next : done s p ≤ p → done o.state q ≤ q

closed_shared : (c : Conventions) (r : List ℕ) (p : ℕ) (s : State) → Shared r p s p (closed c r s)
closed_shared c r p s =
    let k = closed_keeps c r s in
    let e : done (closed c r s).state p ≡ done s p = ap (λ (b : Bool). cond b (block_of (closed c r s).state - 1) p) k.commentary_kept ∙ ap (λ (x : ℕ). cond (in_block s) (x - 1) p) k.block_kept in
    record { fits = λ h. omega (arith, e, shares_late (closed_late c r s)); next = λ h. omega (arith, e) }

idle_shared : (r : List ℕ) (p : ℕ) (s : State) (l : List ℕ) → LineAt r p l → Shared r p s (p + length l) (record { state = s; entries = [] })
idle_shared r p s l i =
    let z = line_starts r p l i in
    let q = p + length l in
    by_cases (in_block s)
    (λ e.
    let a : done s p ≡ block_of s - 1 = ap (λ (b : Bool). cond b (block_of s - 1) p) e in
    let d : done s q ≡ block_of s - 1 = ap (λ (b : Bool). cond b (block_of s - 1) q) e in
    record { fits = λ h. omega arith; next = λ h. omega arith })
    (λ e.
    let a : done s p ≡ p = ap (λ (b : Bool). cond b (block_of s - 1) p) e in
    let d : done s q ≡ q = ap (λ (b : Bool). cond b (block_of s - 1) q) e in
    record { fits = λ h. omega arith; next = λ h. omega arith })

-- Entries of no more than the line, after which no block is open.
flat_shared : (r : List ℕ) (p : ℕ) (s : State) (l : List ℕ) (o : Out State) → LineAt r p l → in_block o.state ≡ false → shares o.entries ≤ length l + ended r (p + length l)
    → Shared r p s (p + length l) o
flat_shared r p s l o i e h =
    let a : done o.state (p + length l) ≡ p + length l = ap (λ (b : Bool). cond b (block_of o.state - 1) (p + length l)) e in
    record { fits = λ g. omega (arith, line_starts r p l i); next = λ g. omega arith }

share_maybe : (b : Bool) (i n k : ℕ) → shares (cond b [] (entry 4 i n k ∷ [])) ≤ n
share_maybe true i n k = omega arith
share_maybe false i n k = omega arith

blocked_share : (r : List ℕ) (s : State) (i j : ℕ) → shares (blocked r s i j).entries ≤ j - i
unfolding blocked
blocked_share r s i j = share_maybe (is_all_white r i j) i (j - i) s.tags

commentary_shared : (r : List ℕ) (p : ℕ) (s : State) (l : List ℕ) → LineAt r p l → in_block s ≡ true → Shared r p s (p + length l) (blocked r s (block_of s) (p + last_brace l))
commentary_shared r p s l i e =
    let j = p + last_brace l in
    let o = blocked r s (block_of s) j in
    let a : done o.state (p + length l) ≡ p + length l = ap (λ (b : Bool). cond b (block_of o.state - 1) (p + length l)) (blocked_commentary r s (block_of s) j) in
    let b : done s p ≡ block_of s - 1 = ap (λ (b : Bool). cond b (block_of s - 1) p) e in
    record { fits = λ h. omega (arith, line_starts r p l i, blocked_share r s (block_of s) j, brace_inside l); next = λ h. omega arith }

data_share : (s : State) (p : ℕ) (d : Span) → shares (data_added s p d).entries ≡ 0
data_share s p d = chosen (λ es. shares es ≡ 0) (eqb (kind_of s.section) 0) [] (entry 5 (p + d.start) d.len (kind_of s.section) ∷ []) (λ e. refl) (λ e. refl)

tagged_share : (c : Conventions) (s : State) (p : ℕ) (l : List ℕ) (q : ℕ) (t : TagPlaces) (split : Maybe Span) → shares (tagged c s p l q t split).entries ≡ t.name.len + t.value.len + 4
unfolding tagged
tagged_share c s p l q t split = omega arith

reading_shared : (c : Conventions) (r : List ℕ) (p : ℕ) (s : State) (l : List ℕ) (t : TagReading) → LineAt r p l → ReadingFits t (length l) → Shared r p s (p + length l) (read_by c s p l (p + length l) t)
reading_shared c r p s l (Plain t) i h =
    let q = p + length l in
    flat_shared r p s l (tagged c s p l q t no_span) i (tagged_commentary c s p l q t no_span) (omega (arith, tagged_share c s p l q t no_span))
reading_shared c r p s l (WithComment t d) i h =
    let q = p + length l in
    let o = tagged c s p l q t no_span in
    flat_shared r p s l (read_by c s p l q (WithComment t d)) i (tagged_commentary c s p l q t no_span)
    (rw shares_append (omega (arith, tagged_share c s p l q t no_span)))
reading_shared c r p s l (WithData t d) i h =
    let q = p + length l in
    let o = tagged c s p l q t (Some (at p d)) in
    flat_shared r p s l (read_by c s p l q (WithData t d)) i (tagged_commentary c s p l q t (Some (at p d)))
    (rw shares_append (omega (arith, tagged_share c s p l q t (Some (at p d)), data_share o.state p d)))

kind_fits : (l : List ℕ) (t : TagReading) → line_kind l ≡ TagOn t → ReadingFits t (length l)
kind_fits l t e = rw e at (line_fits l)

-- A directive is the trimmed line.
directive_trims : (l : List ℕ) (d : Span) → line_kind l ≡ Directive d → d.len ≡ length (trimmed l)
unfolding line_kind bracket_line split_line trim_span
directive_trims l d e = go (is_blank l) e
  where
    split : (k : Split) → split_as k ≡ Directive d → d.len ≡ length (trimmed l)
    split None e = let z : ◌≡◌ {A = ℕ} 0 1 = cc in absurd (omega arith)
    split (Some (t, s)) e = let z : ◌≡◌ {A = ℕ} 0 1 = cc in absurd (omega arith)

    tag : (k : TagLine) → bracket_as k l ≡ Directive d → d.len ≡ length (trimmed l)
    tag None e = split (split_of l) e
    tag (Some (t, None)) e = let z : ◌≡◌ {A = ℕ} 0 1 = cc in absurd (omega arith)
    tag (Some (t, Some s)) e = let z : ◌≡◌ {A = ℕ} 0 1 = cc in absurd (omega arith)

    bracket : (b : Bool) → cond b (bracket_line l) (Data (trim_span l)) ≡ Directive d → d.len ≡ length (trimmed l)
    bracket true e = tag (tag_line l) e
    bracket false e = let z : ◌≡◌ {A = ℕ} 0 1 = cc in absurd (omega arith)

    mark : (a b : Bool) → cond a (Directive (trim_span l)) (cond b (bracket_line l) (Data (trim_span l))) ≡ Directive d → d.len ≡ length (trimmed l)
    mark true b e = let z : trim_span l ≡ d = cc in sym (ap (λ (x : Span). x.len) z)
    mark false b e = bracket b e

    brace : (a b k : Bool) → cond a Brace (cond b (Directive (trim_span l)) (cond k (bracket_line l) (Data (trim_span l)))) ≡ Directive d → d.len ≡ length (trimmed l)
    brace true b k e = let z : ◌≡◌ {A = ℕ} 0 1 = cc in absurd (omega arith)
    brace false b k e = mark b k e

    go : (a : Bool) → cond a Blank (kind_by (get_or (trim_start l) 0 0) l) ≡ Directive d → d.len ≡ length (trimmed l)
    go true e = let z : ◌≡◌ {A = ℕ} 0 1 = cc in absurd (omega arith)
    go false e = let b = get_or (trim_start l) 0 0 in brace (eqb b 123) (eqb b 59 || eqb b 37) (eqb b 91) e

record_shared : (c : Conventions) (r : List ℕ) → Shared r 0 no_state (length r) (record_out c r)
record_shared c r =
    HoldsOfRecord c r (Shared r)
    record {
      together = λ p q z s o k a b.
          record {
            fits = λ h. rw shares_append (omega (arith, a.fits h, b.fits (a.next h)));
            next = λ h. b.next (a.next h);
          };
      closing = λ p s. closed_shared c r p s;
      idle = λ p s l i n. idle_shared r p s l i;
      quiet = λ p s l i n k. idle_shared r p s l i;
      opening = λ p s l i n k b. record { fits = λ h. omega (arith, line_starts r p l i); next = λ h. omega (arith, trim_length l) };
      bracing = λ p s l i n k b.
          let x = p + length (lead l) + 1 in
          let y = p + last_brace l in
          flat_shared r p s l (blocked r s x y) i (blocked_commentary r s x y) (omega (arith, blocked_share r s x y, brace_inside l));
      commentary = λ p s l i n k. commentary_shared r p s l i n;
      directing = λ p s l d i n k. flat_shared r p s l (directed s p d) i n (omega (arith, directive_trims l d k, line_short r p l i));
      dating = λ p s l d i n k. flat_shared r p s l (data_added s p d) i n (omega (arith, data_share s p d));
      tagging = λ p s l t i k. reading_shared c r p s l t i (kind_fits l t k);
    }

-- THEOREM. So the entries of a record share its bytes.
EntriesShare : (c : Conventions) (r : List ℕ) → shares (record_out c r).entries ≤ length r + 1
EntriesShare c r =
    let a = record_shared c r in
    by_cases (eqb (length r) (length r))
    (λ e. omega (arith, rw e at (a.fits (omega arith)), a.next (omega arith)))
    (λ e. omega (arith, rw e at (a.fits (omega arith)), a.next (omega arith)))

-- ---- the plain board

abbrev item_shares : List Item → ℕ
item_shares is = tags_size (tags_in is) + 4 * length (tags_in is) + (remarks_size (remarks_in 3 is) + length (remarks_in 3 is)) + remarks_size (remarks_in 4 is)

is_not : (k m n : ℕ) → k ≡ m → (m ≡ n → ⊥) → eqb k n ≡ false
is_not k m n e h = ne_eqb k n (λ u. h (sym e ∙ u))

items_share : (r : List ℕ) {Q : Entry → Entry → Type 0} {es : List Entry} → Paired Q es → item_shares (items_of r es) ≤ shares es
unfolding item_of
items_share r over = omega arith
items_share r (tag {a = a} {b = b} {es = es} x y g p) =
    rw (
      eq-eqb a.kind 1 x,
      is_not b.kind 2 1 y (λ u. omega arith),
      is_not a.kind 1 3 x (λ u. omega arith),
      is_not b.kind 2 3 y (λ u. omega arith),
      is_not a.kind 1 4 x (λ u. omega arith),
      is_not b.kind 2 4 y (λ u. omega arith),
      le-leb b.kind 4 (omega (arith, y)),
    )
    (omega (arith, bytes_few r a, bytes_few r b, items_share r p))
items_share r (other {e = e} {es = es} x y p) =
    let i = items_share r p in
    let f = bytes_few r e in
    rw (ne_eqb e.kind 1 x)
    (by_cases (eqb e.kind 3)
    (λ t. rw (t, is_not e.kind 3 4 (eqb-true e.kind 3 t) (λ u. omega arith)) (omega arith))
    (λ t.
    by_cases (eqb e.kind 4)
    (λ u. rw (t, u, le-leb e.kind 4 (omega (arith, eqb-true e.kind 4 u))) (omega arith))
    (λ u. rw (t, u) (omega arith))))

-- THEOREM. The tags of a plain board, with four bytes for each, its directives, each with its LF, and its blocks have at most one byte more
-- than its record.
pub PlainShares : (c : Conventions) (r : List ℕ)
    → tags_size (plain_of c r).tags + 4 * length (plain_of c r).tags + (remarks_size (plain_of c r).directives + length (plain_of c r).directives) + remarks_size (plain_of c r).blocks
    ≤ length r + 1
unfolding plain_of plain_by
PlainShares c r =
    let is = items_of r (record_out c r).entries in
    omega (arith, items_share r (TagsPaired c r), blocks_few (remarks_in 4 is), EntriesShare c r)
