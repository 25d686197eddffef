-- The records of a text that is cut at a seam.
use Prim.Native.Nat.{ℕ, ◌+◌, ◌≤◌, ◌<◌}
use mathlib.Core.Path.{◌≡◌, refl, sym, ◌∙◌, ap, subst}
use mathlib.Core.Bool.{Bool, true, false, cond, ◌||◌}
use mathlib.Core.List.{List, [], ◌∷◌, ◌++◌, append_assoc, append-nil, map}
use native.Mathlib.Nat.{add-zero, add_comm, add_assoc}
use native.Mathlib.Omega.{arith}
use lib.Dec.{eqb}
use lib.ListN.{length, length-append, take, drop}
use lib.Seq.{drop-append_seam, take-append_seam}
use borrow.Author.Tests.{eqb-true}
use Rattle.tables.proofs.Laws.{by_cases, clash, both, either}
use Rattle.tables.proofs.TextLaws.{length_zero}
use Rattle.reader.specs.declared.tag.Span.{Span}
use Rattle.reader.specs.declared.record.Scan.{Scan}
use Rattle.reader.specs.Store.{flat}
use Rattle.reader.specs.Pieces.{join_line, raw_lines}
use Rattle.reader.specs.Tag.{cut}
use Rattle.reader.specs.Records.{fresh, scanned, closes_record, emit, records_from, records_of, left_over, spans_from, spans_of, closed_last, ends_line, is_seam, seam_at, AlikeBut, Filled, none, one}
use Rattle.reader.specs.RecordSteps.{shift}

-- ---- lines

-- A text that is not empty has a first line.
raw_cons : {P : Type 0} (b : ℕ) (bs : List ℕ) → ((l : List ℕ) (ls : List (List ℕ)) → raw_lines (b ∷ bs) ≡ l ∷ ls → P) → P
raw_cons b bs go = cases (eqb b 10) (raw_lines bs) go
  where
    cases : {P : Type 0} (t : Bool) (ls : List (List ℕ)) → ((m : List ℕ) (ms : List (List ℕ)) → join_line t b ls ≡ m ∷ ms → P) → P
    cases true ls k = k (b ∷ []) ls refl
    cases false [] k = k (b ∷ []) [] refl
    cases false (l ∷ ls) k = k (b ∷ l) ls refl

raw_append : (f g : List ℕ) → ends_line true f ≡ true → raw_lines (f ++ g) ≡ raw_lines f ++ raw_lines g
raw_append [] g e = refl
raw_append (b ∷ []) g e = rw e
raw_append (b ∷ c ∷ cs) g e =
    rw (raw_append (c ∷ cs) g e)
    (by_cases (eqb b 10) (λ t. rw t) (λ t. raw_cons c cs (λ l ls p. rw (t, p))))

pub flat_raw : (f : List ℕ) → flat (raw_lines f) ≡ f
flat_raw [] = refl
flat_raw (b ∷ bs) = glued (eqb b 10) (raw_lines bs) ∙ ap (λ (l : List ℕ). b ∷ l) (flat_raw bs)
  where
    glued : (t : Bool) (ls : List (List ℕ)) → flat (join_line t b ls) ≡ b ∷ flat ls
    glued true ls = refl
    glued false [] = refl
    glued false (l ∷ ls) = refl

-- ---- the theorem of seams

emit_append : (b : Bool) (x : List ℕ) (p q : List (List ℕ)) → emit b x (p ++ q) ≡ emit b x p ++ q
emit_append true x p q = refl
emit_append false x p q = refl

records_append : (b : Bool) (s : Scan) (text : List ℕ) (ls ms : List (List ℕ)) → (b ≡ true → (s ≡ fresh) × (text ≡ [])) → closed_last b s ls ≡ true
    → records_from s text (ls ++ ms) ≡ records_from s text ls ++ records_from fresh [] ms
records_append b s text [] ms inv e = let h = inv e in rw (h.0, h.1)
records_append b s text (l ∷ ls) ms inv e =
    rw (records_append (closes_record s l) (cond (closes_record s l) fresh (scanned s l)) (cond (closes_record s l) [] (text ++ l)) ls ms (λ t. (rw t, rw t)) e)
    (emit_append (closes_record s l) (text ++ l) _ _)

pub Seams : (front g : List ℕ) → is_seam front ≡ true → records_of (front ++ g) ≡ records_of front ++ records_of g
unfolding is_seam records_of
Seams f g h =
    let e = both (ends_line true f) (closed_last true fresh (raw_lines f)) h in
    rw (raw_append f g e.0) (records_append true fresh [] (raw_lines f) (raw_lines g) (λ t. (refl, refl)) e.1)

-- ---- the records' texts in a row, and what follows the last, are the text

emit_flat : (b : Bool) (x : List ℕ) (rs : List (List ℕ)) (r t : List ℕ) → flat rs ++ t ≡ cond b [] x ++ r → flat (emit b x rs) ++ t ≡ x ++ r
emit_flat true x rs r t e = rw (append_assoc, e)
emit_flat false x rs r t e = e

records_flat : (s : Scan) (text : List ℕ) (ls : List (List ℕ)) → flat (records_from s text ls) ++ left_over s text ls ≡ text ++ flat ls
records_flat s text [] = finish s.met
  where
    finish : (b : Bool) → flat (emit b text []) ++ cond b [] text ≡ text ++ []
    finish true = simp append-nil
    finish false = simp append-nil
records_flat s text (l ∷ ls) =
    emit_flat (closes_record s l) (text ++ l) _ (flat ls) _ (records_flat (cond (closes_record s l) fresh (scanned s l)) (cond (closes_record s l) [] (text ++ l)) ls)
    ∙ append_assoc text l (flat ls)

pub RecordsCover : (text : List ℕ) → flat (records_of text) ++ left_over fresh [] (raw_lines text) ≡ text
unfolding records_of
RecordsCover f = records_flat fresh [] (raw_lines f) ∙ flat_raw f

-- Before a seam nothing is left over.
left_none : (b : Bool) (s : Scan) (text : List ℕ) (ls : List (List ℕ)) → (b ≡ true → (s ≡ fresh) × (text ≡ [])) → closed_last b s ls ≡ true → left_over s text ls ≡ []
left_none b s text [] inv e = let h = inv e in rw (h.0, h.1)
left_none b s text (l ∷ ls) inv e =
    left_none (closes_record s l) (cond (closes_record s l) fresh (scanned s l)) (cond (closes_record s l) [] (text ++ l)) ls (λ t. (rw t, rw t)) e

pub SeamWhole : (front : List ℕ) → is_seam front ≡ true → flat (records_of front) ≡ front
unfolding is_seam
SeamWhole f h =
    let e = both (ends_line true f) (closed_last true fresh (raw_lines f)) h in
    sym (append-nil (flat (records_of f))) ∙ rw (left_none true fresh [] (raw_lines f) (λ t. (refl, refl)) e.1) at (RecordsCover f)

-- ---- places: the first record starts at 0, each other where the one before ended

spans_append : (p : ℕ) (xs ys : List (List ℕ)) → spans_from p (xs ++ ys) ≡ spans_from p xs ++ spans_from (p + length (flat xs)) ys
spans_append p [] ys = rw add-zero
spans_append p (x ∷ xs) ys = rw (spans_append (p + length x) xs ys, length-append x (flat xs), add_assoc)

spans_shift : (n p : ℕ) (xs : List (List ℕ)) → spans_from (n + p) xs ≡ map (shift n) (spans_from p xs)
spans_shift n p [] = refl
spans_shift n p (x ∷ xs) = rw (add_assoc, spans_shift n (p + length x) xs)

pub SeamSpans : (front g : List ℕ) → is_seam front ≡ true → spans_of (front ++ g) ≡ spans_of front ++ map (shift (length front)) (spans_of g)
unfolding spans_of
SeamSpans f g h = rw (Seams f g h, spans_append 0 (records_of f) (records_of g), SeamWhole f h, add_comm 0 (length f), spans_shift (length f) 0 (records_of g))

spans_cut : (p : List ℕ) (xs : List (List ℕ)) (q : List ℕ) → map (λ (s : Span). cut s (p ++ (flat xs ++ q))) (spans_from (length p) xs) ≡ xs
spans_cut p [] q = refl
spans_cut p (x ∷ xs) q =
    let i = simp (append_assoc, length-append) at (spans_cut (p ++ x) xs q) in
    let h : take (length x) (drop (length p) (p ++ (x ++ (flat xs ++ q)))) ≡ x = rw (drop-append_seam, take-append_seam) in
    let e : p ++ (flat (x ∷ xs) ++ q) ≡ p ++ (x ++ (flat xs ++ q)) = ap (λ (l : List ℕ). p ++ l) (append_assoc x (flat xs) q) in
    subst (λ (t : List ℕ). map (λ (s : Span). cut s t) (spans_from (length p) (x ∷ xs)) ≡ x ∷ xs) (sym e) (rw (h, i))

-- A record is what its span cuts out of the text.
pub SpanTexts : (text : List ℕ) → map (λ (s : Span). cut s text) (spans_of text) ≡ records_of text
unfolding spans_of
SpanTexts f = rw (RecordsCover f) at (spans_cut [] (records_of f) (left_over fresh [] (raw_lines f)))

-- ---- two seams

closed_append : (b : Bool) (s : Scan) (ls ms : List (List ℕ)) → (b ≡ true → s ≡ fresh) → closed_last b s ls ≡ true → closed_last b s (ls ++ ms) ≡ closed_last true fresh ms
closed_append b s [] ms inv e = rw (e, inv e)
closed_append b s (l ∷ ls) ms inv e = closed_append (closes_record s l) (cond (closes_record s l) fresh (scanned s l)) ls ms (λ t. rw t) e

ends_append : (b : Bool) (f g : List ℕ) → ends_line b (f ++ g) ≡ ends_line (ends_line b f) g
ends_append b [] g = refl
ends_append b (c ∷ cs) g = ends_append (eqb c 10) cs g

pub seam_within : (f m : List ℕ) → is_seam f ≡ true → is_seam (f ++ m) ≡ is_seam m
unfolding is_seam
seam_within f m h =
    let e = both (ends_line true f) (closed_last true fresh (raw_lines f)) h in
    rw (ends_append true f m, e.0, raw_append f m e.0, closed_append true fresh (raw_lines f) (raw_lines m) (λ t. refl) e.1)

-- The place after f is a seam of f ++ g: f is empty, or g is, or a closing blank line ends f.
seam_cases : {P : Type 0} (f g : List ℕ) → seam_at (f ++ g) (length f) ≡ true → (f ≡ [] → P) → (g ≡ [] → P) → (is_seam f ≡ true → P) → P
unfolding seam_at
seam_cases f g e start end seam =
    either (eqb (length f) 0) (eqb (length f) (length (f ++ g)) || is_seam (take (length f) (f ++ g))) e
    (λ t. start (length_zero f (eqb-true (length f) 0 t)))
    (λ u.
    either (eqb (length f) (length (f ++ g))) (is_seam (take (length f) (f ++ g))) u
    (λ t. end (length_zero g (omega (arith, eqb-true (length f) (length (f ++ g)) t, length-append f g))))
    (λ t. seam (rw take-append_seam at t)))

pub no_records : records_of [] ≡ []
unfolding records_of
no_records = refl

pub SeamPlace : (f g : List ℕ) → seam_at (f ++ g) (length f) ≡ true → records_of (f ++ g) ≡ records_of f ++ records_of g
SeamPlace f g e =
    seam_cases f g e
    (λ h. rw (h, no_records))
    (λ h. rw (h, no_records, append-nil, append-nil))
    (λ h. Seams f g h)

second_nil : (f m : List ℕ) → f ++ m ≡ [] → m ≡ []
second_nil [] m e = e
second_nil (x ∷ xs) m e = cc

-- Between two seams of a text the second is one of the part behind the first.
inner_seam : {P : Type 0} (f m g : List ℕ) → seam_at (f ++ (m ++ g)) (length f) ≡ true → seam_at (f ++ (m ++ g)) (length (f ++ m)) ≡ true
    → (m ≡ [] → P) → (g ≡ [] → P) → (is_seam m ≡ true → P) → P
inner_seam f m g e k start end seam =
    seam_cases (f ++ m) g (rw append_assoc k)
    (λ h. start (second_nil f m h))
    end
    (λ h.
    seam_cases f (m ++ g) e
    (λ z. seam (rw z at h))
    (λ z. end (second_nil m g z))
    (λ z. seam (sym (seam_within f m z) ∙ h)))

inner : (f m g : List ℕ) → seam_at (f ++ (m ++ g)) (length f) ≡ true → seam_at (f ++ (m ++ g)) (length (f ++ m)) ≡ true → records_of (m ++ g) ≡ records_of m ++ records_of g
inner f m g e k =
    inner_seam f m g e k
    (λ h. rw (h, no_records))
    (λ h. rw (h, no_records, append-nil, append-nil))
    (λ h. Seams m g h)

-- A text cut at two seams: the records of the first and of the last part do not depend on the part between.
pub Around : (front middle back : List ℕ) → seam_at (front ++ (middle ++ back)) (length front) ≡ true → seam_at (front ++ (middle ++ back)) (length (front ++ middle)) ≡ true
    → records_of (front ++ (middle ++ back)) ≡ records_of front ++ (records_of middle ++ records_of back)
Around f m g e k = rw (SeamPlace f (m ++ g) e, inner f m g e k)

-- Two texts alike but for a stretch: their records are the same before the stretch and behind it.
pub Edit : (front middle middle' back : List ℕ) → AlikeBut front middle middle' back
    → (records_of (front ++ (middle ++ back)) ≡ records_of front ++ (records_of middle ++ records_of back))
    × (records_of (front ++ (middle' ++ back)) ≡ records_of front ++ (records_of middle' ++ records_of back))
Edit f m m' g a = (Around f m g a.front_seam a.back_seam, Around f m' g a.front_seam' a.back_seam')

-- ---- the same with places

no_spans : spans_of [] ≡ []
unfolding spans_of records_of
no_spans = refl

shift_zero : (xs : List Span) → map (shift 0) xs ≡ xs
shift_zero [] = refl
shift_zero (x ∷ xs) = let z : 0 + x.start ≡ x.start = omega arith in rw (z, shift_zero xs)

spans_start : (f g : List ℕ) → f ≡ [] → spans_of (f ++ g) ≡ spans_of f ++ map (shift (length f)) (spans_of g)
spans_start f g h = rw (h, no_spans) (sym (shift_zero (spans_of g)))

spans_end : (f g : List ℕ) → g ≡ [] → spans_of (f ++ g) ≡ spans_of f ++ map (shift (length f)) (spans_of g)
spans_end f g h = rw (h, no_spans, append-nil, append-nil)

pub SpansPlace : (f g : List ℕ) → seam_at (f ++ g) (length f) ≡ true → spans_of (f ++ g) ≡ spans_of f ++ map (shift (length f)) (spans_of g)
SpansPlace f g e = seam_cases f g e (spans_start f g) (spans_end f g) (SeamSpans f g)

-- A record of the back starts where it starts in the back, moved by what stands before the back.
pub SpansAround : (front middle back : List ℕ) → seam_at (front ++ (middle ++ back)) (length front) ≡ true → seam_at (front ++ (middle ++ back)) (length (front ++ middle)) ≡ true
    → spans_of (front ++ (middle ++ back)) ≡ spans_of front ++ map (shift (length front)) (spans_of middle ++ map (shift (length middle)) (spans_of back))
SpansAround f m g e k = rw (SpansPlace f (m ++ g) e, inner_seam f m g e k (spans_start m g) (spans_end m g) (SeamSpans m g))

-- ---- records are not empty

raw_filled : (f : List ℕ) → Filled (raw_lines f)
raw_filled [] = none
raw_filled (b ∷ bs) = glued (eqb b 10) (raw_lines bs) (raw_filled bs)
  where
    glued : (t : Bool) (ls : List (List ℕ)) → Filled ls → Filled (join_line t b ls)
    glued true ls h = one {r = b ∷ []} (omega arith) h
    glued false [] h = one {r = b ∷ []} (omega arith) none
    glued false (l ∷ ls) (one x h) = one {r = b ∷ l} (omega arith) h

emit_filled : (b : Bool) (x : List ℕ) (rs : List (List ℕ)) → (b ≡ true → 0 < length x) → Filled rs → Filled (emit b x rs)
emit_filled true x rs h f = one (h refl) f
emit_filled false x rs h f = f

records_filled : (s : Scan) (text : List ℕ) (ls : List (List ℕ)) → Filled ls → (s.met ≡ true → 0 < length text) → Filled (records_from s text ls)
records_filled s text [] f h = emit_filled s.met text [] h none
records_filled s text (l ∷ ls) (one x f) h =
    let y : 0 < length (text ++ l) = rw length-append (omega arith) in
    emit_filled (closes_record s l) (text ++ l) _ (λ t. y)
    (records_filled (cond (closes_record s l) fresh (scanned s l)) (cond (closes_record s l) [] (text ++ l)) ls f (go (closes_record s l) y))
  where
    go : (b : Bool) → 0 < length (text ++ l) → (cond b fresh (scanned s l)).met ≡ true → 0 < length (cond b [] (text ++ l))
    go true y e = clash e
    go false y e = y

pub RecordsFilled : (text : List ℕ) → Filled (records_of text)
unfolding records_of
RecordsFilled f = records_filled fresh [] (raw_lines f) (raw_filled f) (λ e. clash e)

-- The records are not longer than the text, and not more than its bytes.
pub records_fit : (text : List ℕ) → length (flat (records_of text)) ≤ length text
records_fit f = omega (arith, simp length-append at (ap length (RecordsCover f)))

filled_few : (rs : List (List ℕ)) → Filled rs → length rs ≤ length (flat rs)
filled_few [] f = omega arith
filled_few (r ∷ rs) (one x f) = rw length-append (omega (arith, filled_few rs f))

pub records_few : (text : List ℕ) → length (records_of text) ≤ length text
records_few f = omega (arith, filled_few (records_of f) (RecordsFilled f), records_fit f)
