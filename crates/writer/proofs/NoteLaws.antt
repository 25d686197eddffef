-- Laws of a note's value: its number, what follows its colon, and the value that is written.
use Prim.Native.Nat.{ℕ, suc, ◌+◌, ◌≤◌, ◌<◌}
use mathlib.Core.Path.{◌≡◌, refl, sym, ap, ◌∙◌}
use mathlib.Core.Bool.{Bool, true, false, cond, ◌&&◌, ◌||◌}
use mathlib.Core.List.{List, [], ◌∷◌, ◌++◌, append_assoc}
use mathlib.Core.Option.{Option, none, some}
use native.Mathlib.Nat.{zero-add}
use native.Mathlib.Omega.{arith}
use lib.Dec.{eqb, ltb}
use lib.ListN.{length, take, drop, length-append}
use lib.Seq.{take_at, drop_at, sets-eq}
use borrow.Author.Tests.{ne_eqb, eqb-true, eqb-false, ltb-true, ltb-false, lt-ltb, le-ltb}
use Rattle.tables.specs.Text.{ascii, is_white, trimmed, differs, before}
use Rattle.tables.specs.Letters.{every}
use Rattle.tables.specs.Numbers.{Number, digits, number_of, decimal}
use Rattle.tables.proofs.PageLaws.{decimal_few}
use Rattle.tables.proofs.TextLaws.{take_front}
use Rattle.tables.proofs.Laws.{by_cases, clash}
use Rattle.reader.specs.Words.{same}
use Rattle.reader.specs.Names.{tag_number, tag_names}
use Rattle.reader.proofs.NameLaws.{tag_name, tag_number_back, all_below, at_below}
use Rattle.reader.proofs.WordLaws.{same_self, same_is}
use Rattle.reader.proofs.WordTokens.{front_until}
use Rattle.writer.specs.Sections.{after_colon, is_number, note_in}
use Rattle.writer.specs.Held.{entry_word, place_bytes}
use Rattle.writer.specs.Items.{has_value, or_none, note_number, note_number_at, note_text}
use Rattle.tables.specs.declared.page.Page.{Page}
use Rattle.tables.specs.Puts.{Puts}
use Rattle.std.specs.Prelude.{Some, None}

-- ---- what a note's value holds

-- What follows the first colon.
abbrev pub behind_colon : List ℕ → List ℕ
behind_colon v = drop (length (before 58 v) + 1) v

colon_found : (v : List ℕ) → length (before 58 v) < length v → after_colon v ≡ some (behind_colon v)
colon_found [] h = absurd (omega arith)
colon_found (b ∷ bs) h =
    by_cases (eqb b 58)
    (λ q. rw q)
    (λ q.
    let z : suc (length (before 58 bs)) + 1 ≡ suc (length (before 58 bs) + 1) = omega arith in
    rw (q, z) (colon_found bs (omega (arith, rw q at h))))

colon_none : (v : List ℕ) → length v ≤ length (before 58 v) → after_colon v ≡ none
colon_none [] h = refl
colon_none (b ∷ bs) h =
    by_cases (eqb b 58)
    (λ q. absurd (omega (arith, rw q at h)))
    (λ q. rw q (colon_none bs (omega (arith, rw q at h))))

-- A number that was read is n exactly where it is given as n.
number_is : (x : Number) (n : ℕ) → n < 256 → is_number n x ≡ eqb (or_none x) n
number_is None n h = sym (ne_eqb 256 n (λ w. omega (arith, w)))
number_is (Some v) n h = refl

-- Note has the number 17.
pub note_name_lem : (name : List ℕ) → eqb (tag_number name) 17 ≡ same (ascii "Note") name
unfolding tag_names
note_name_lem name =
    by_cases (eqb (tag_number name) 17)
    (λ q.
    let t : tag_number name ≡ 17 = eqb-true (tag_number name) 17 q in
    let w : name ≡ ascii "Note" = rw t at (tag_name name (omega (arith, t))) in
    q ∙ sym (ap (same (ascii "Note")) w ∙ same_self (ascii "Note")))
    (λ q.
    q ∙ sym (by_cases (same (ascii "Note") name)
    (λ s. absurd (eqb-false (tag_number name) 17 q (ap tag_number (sym (same_is (ascii "Note") name s)) ∙ tag_number_back 16 (omega arith))))
    (λ s. s)))

-- A tag gives the note n exactly where n is its number.
note_given : (name value : List ℕ) (n : ℕ) → n < 256
    → note_in n (record { name = name; value = value }) ≡ cond (eqb (cond (eqb (tag_number name) 17) (note_number value) 256) n) (some (behind_colon value)) none
unfolding note_in note_number
note_given name value n h =
    rw (note_name_lem name)
    (by_cases (same (ascii "Note") name)
    (λ s. rw s
    (by_cases (ltb (length (before 58 value)) (length value))
    (λ q. rw (q, colon_found value (ltb-true _ _ q), number_is (number_of 255 (trimmed (before 58 value))) n h))
    (λ q. rw (q, colon_none value (ltb-false _ _ q), ne_eqb 256 n (λ w. omega (arith, w))) (cond_none (is_number n (number_of 255 (trimmed (before 58 value))))))))
    (λ s. rw (s, ne_eqb 256 n (λ w. omega (arith, w)))))
  where
    cond_none : (b : Bool) → ◌≡◌ {A = Option (List ℕ)} (cond b none none) none
    cond_none true = refl
    cond_none false = refl

-- The tag at an entry.
pub note_in_lem : (text entries : List ℕ) (e n : ℕ) → entry_word entries e 0 ≡ 1 → n < 256
    → note_in n (record { name = place_bytes text entries e; value = place_bytes text entries (e + 1) })
    ≡ cond (eqb (note_number_at text entries e) n) (some (behind_colon (place_bytes text entries (e + 1)))) none
unfolding note_number_at
note_in_lem text entries e n q h = rw q (note_given (place_bytes text entries e) (place_bytes text entries (e + 1)) n h)

pub note_256 : (text entries : List ℕ) (e : ℕ) → (entry_word entries e 0 ≡ 1 → ⊥) → note_number_at text entries e ≡ 256
unfolding note_number_at
note_256 text entries e q = rw (ne_eqb _ _ q)

-- ---- a note's number

pub number_of_lem : (v u t : List ℕ) (k : ℕ) (x : Number) → k ≡ length (before 58 v) → k < length v → u ≡ take k v → t ≡ trimmed u → x ≡ number_of 255 t → note_number v ≡ or_none x
unfolding note_number
number_of_lem v u t k x a h b d e =
    let w : u ≡ before 58 v = b ∙ (ap (λ (m : ℕ). take m v) a ∙ take_front (differs 58) v) in
    let z : ltb (length (before 58 v)) (length v) ≡ true = rw a at (lt-ltb k (length v) h) in
    rw (z, e, d, w)

pub number_no : (v : List ℕ) (k : ℕ) → k ≡ length (before 58 v) → length v ≤ k → note_number v ≡ 256
unfolding note_number
number_no v k a h =
    let z : ltb (length (before 58 v)) (length v) ≡ false = rw a at (le-ltb k (length v) h) in
    rw z

-- ---- a value as it is written

-- Decimal digits hold no colon, and are read as their number.
abbrev no_colon : ℕ → Bool
no_colon n = every (differs 58) (decimal n)

abbrev is_read : ℕ → Bool
is_read n = eqb (or_none (number_of 255 (trimmed (decimal n)))) n

no_colons : all_below no_colon 257 ≡ true
unfolding decimal digits
no_colons = refl

all_read : all_below is_read 256 ≡ true
unfolding decimal digits trimmed is_white
all_read = refl

written_before : (n : ℕ) (rest : List ℕ) → n ≤ 256 → before 58 (decimal n ++ (58 ∷ []) ++ rest) ≡ decimal n
written_before n rest h =
    ap (before 58) (append_assoc (decimal n) (58 ∷ []) rest) ∙ front_until (differs 58) (decimal n) 58 rest (at_below no_colon 257 n no_colons (omega arith)) refl

-- The number of a written note is its own.
pub number_back : (n : ℕ) (rest : List ℕ) → n < 256 → note_number (decimal n ++ (58 ∷ []) ++ rest) ≡ n
unfolding note_number
number_back n rest h =
    let v = decimal n ++ (58 ∷ []) ++ rest in
    let b = written_before n rest (omega arith) in
    let l : length (before 58 v) < length v = omega (arith, ap length b, length-append (decimal n ++ 58 ∷ []) rest, length-append (decimal n) (58 ∷ [])) in
    rw (lt-ltb (length (before 58 v)) (length v) l, b)
    (eqb-true (or_none (number_of 255 (trimmed (decimal n)))) n (at_below is_read 256 n all_read h))

-- A value is a written one exactly where it has a colon, and is the same before it and behind it.
colon_split : (v : List ℕ) → length (before 58 v) < length v → v ≡ before 58 v ++ (58 ∷ []) ++ behind_colon v
colon_split [] h = absurd (omega arith)
colon_split (b ∷ bs) h =
    by_cases (eqb b 58)
    (λ q. rw q (ap (λ (x : ℕ). x ∷ bs) (eqb-true b 58 q)))
    (λ q.
    let z : suc (length (before 58 bs)) + 1 ≡ suc (length (before 58 bs) + 1) = omega arith in
    rw (q, z) (ap (λ (l : List ℕ). b ∷ l) (colon_split bs (omega (arith, rw q at h)))))

same_parts : (v d rest : List ℕ) → length (before 58 v) < length v → same (before 58 v) d ≡ true → same (behind_colon v) rest ≡ true → same v (d ++ (58 ∷ []) ++ rest) ≡ true
same_parts v d rest h x y =
    let e : v ≡ d ++ (58 ∷ []) ++ rest
    = colon_split v h
    ∙ (ap (λ (u : List ℕ). u ++ (58 ∷ []) ++ behind_colon v) (same_is (before 58 v) d x) ∙ ap (λ (u : List ℕ). d ++ (58 ∷ []) ++ u) (same_is (behind_colon v) rest y)) in
    ap (λ (u : List ℕ). same v u) (sym e) ∙ same_self v

pub note_same : (v rest : List ℕ) (n : ℕ) → n ≤ 256 → length (before 58 v) < length v → same v (decimal n ++ (58 ∷ []) ++ rest) ≡ (same (before 58 v) (decimal n) && same (behind_colon v) rest)
note_same v rest n h l =
    let w = decimal n ++ (58 ∷ []) ++ rest in
    by_cases (same (before 58 v) (decimal n))
    (λ x.
    by_cases (same (behind_colon v) rest)
    (λ y. rw (x, y) (same_parts v (decimal n) rest l x y))
    (λ y. rw (x, y) (by_cases (same v w) (λ e. clash (sym y ∙ rw (same_is v w e) (behind_same n rest h))) (λ e. e))))
    (λ x. rw x (by_cases (same v w) (λ e. clash (sym x ∙ rw (same_is v w e, written_before n rest h) (same_self (decimal n)))) (λ e. e)))
  where
    behind_same : (n : ℕ) (rest : List ℕ) → n ≤ 256 → same (behind_colon (decimal n ++ (58 ∷ []) ++ rest)) rest ≡ true
    behind_same n rest h =
        let k : length (decimal n ++ 58 ∷ []) ≡ length (decimal n) + 1 = length-append (decimal n) (58 ∷ []) in
        rw (written_before n rest h, drop_at (decimal n ++ 58 ∷ []) rest (length (decimal n) + 1) k) (same_self rest)

pub note_differs : (v rest : List ℕ) (n : ℕ) → n ≤ 256 → length v ≤ length (before 58 v) → same v (decimal n ++ (58 ∷ []) ++ rest) ≡ false
note_differs v rest n h l =
    let w = decimal n ++ (58 ∷ []) ++ rest in
    by_cases (same v w)
    (λ e.
    let q = same_is v w e in
    let b = ap length (ap (before 58) q ∙ written_before n rest h) in
    absurd (omega (arith, l, b, ap length q, length-append (decimal n ++ 58 ∷ []) rest, length-append (decimal n) (58 ∷ []))))
    (λ e. e)

-- The value of the note n at its place, as it is found in parts: x says that what stands before the colon of v is n, y that the rest is the
-- note's.
module _ (text entries v own behind : List ℕ) (n place i k : ℕ) (h : n ≤ 256) (a : own ≡ place_bytes text entries place) (b : i ≡ length (before 58 own))
    (d : behind ≡ drop (i + 1) own) (e : k ≡ length (before 58 v)) where
  note_whole : note_text text entries n place ≡ decimal n ++ (58 ∷ []) ++ behind
  unfolding note_text
  note_whole = rw (d, b, a)

  pub note_found : (front rest : List ℕ) (x y : Bool) → k < length v → front ≡ take k v → x ≡ same front (decimal n) → rest ≡ drop (k + 1) v → y ≡ same rest behind
      → (x && y) ≡ same v (note_text text entries n place)
  note_found front rest x y l f g r s =
      let w : front ≡ before 58 v = f ∙ (ap (λ (m : ℕ). take m v) e ∙ take_front (differs 58) v) in
      let z : rest ≡ behind_colon v = r ∙ ap (λ (m : ℕ). drop (m + 1) v) e in
      rw (note_whole, note_same v behind n h (omega arith), g, s, w, z)

  pub note_none : length v ≤ k → false ≡ same v (note_text text entries n place)
  note_none l = sym (ap (same v) note_whole ∙ note_differs v behind n h (omega arith))

-- A number put on a page of ten bytes stands there.
pub decimal_put : (n : ℕ) {p q : Page} {bytes : List ℕ} → Puts p (decimal n) q → p.at ≡ 0 → length p.bytes.now ≡ 10 → bytes ≡ q.bytes.now → take q.at bytes ≡ decimal n
decimal_put n {p} {q} {bytes} a z l f =
    let m = decimal_few n in
    let t = rw z at (a.put (omega (arith, z))) in
    let s = sets-eq (decimal n) p.bytes.now 0 (omega arith) in
    let k : q.at ≡ length (decimal n) = t.next ∙ zero-add (length (decimal n)) in
    rw (f, t.after, s, k) (take_at (decimal n) (drop (0 + length (decimal n)) p.bytes.now) (length (decimal n)) refl)

-- ---- values in a row

pub holds_append : (v : List ℕ) (us ws : List (List ℕ)) → has_value v (us ++ ws) ≡ (has_value v us || has_value v ws)
holds_append v [] ws = refl
holds_append v (u ∷ us) ws = by_cases (same v u) (λ e. rw e) (λ e. rw e (holds_append v us ws))
