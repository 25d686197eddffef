-- Laws of the lines of a board: how many there are of a kind, a tag with what follows it, every line with those around it.
use Prim.Native.Nat.{ℕ, ◌+◌, ◌≤◌}
use mathlib.Core.Path.{◌≡◌, refl, sym, ap, subst, ◌∙◌}
use mathlib.Core.Bool.{Bool, true, false, cond}
use mathlib.Core.List.{List, [], ◌∷◌, ◌++◌, map, append-nil, append_assoc}
use mathlib.Core.Option.{Option, none, some}
use native.Mathlib.Nat.{zero-add}
use native.Mathlib.Omega.{arith}
use lib.ListN.{length}
use Rattle.tables.proofs.Laws.{by_cases, clash, neither}
use Rattle.reader.specs.Plain.{TagPair, Remark}
use Rattle.reader.proofs.EntryLaws.{All, none as no_more, one}
use Rattle.writer.specs.Tags.{WrittenTag}
use Rattle.writer.specs.Remarks.{Anchored, anchor_of, those, is_leading, is_under, wrote, tag_unwritten, goes_after, WrittenLine, tag_line, data_line, directive_line, block_line, directives_after, blocks_after, tags_lines}
use Rattle.writer.proofs.NamesOnce.{once, times_written}
use Rattle.writer.proofs.PlaceLaws.{meets}
use Rattle.demands.specs.NothingLost.{Kind, directive, block, line_of, is_tag, is_tag_of, is_data, is_tag_or_data, times, last_tag_after, last_tag, until_tag}

-- ---- counting lines

pub times_append : (p : WrittenLine → Bool) (xs ys : List WrittenLine) → times p (xs ++ ys) ≡ times p xs + times p ys
times_append p [] ys = omega arith
times_append p (x ∷ xs) ys = omega (arith, times_append p xs ys)

abbrev pub remark_lines : Kind → List Anchored → List WrittenLine
remark_lines kind ks = map (λ k. line_of kind k.number k.bytes) ks

-- A test that none but tags meet.
pub record TagTest (p : WrittenLine → Bool) : Type 0 where
  pub not_data : (d : List ℕ) → p (data_line d) ≡ false
  pub not_remark : (kind : Kind) (i : ℕ) (x : List ℕ) → p (line_of kind i x) ≡ false

pub name_test : (n : List ℕ) → TagTest (is_tag n)
name_test n = record { not_data = λ d. refl; not_remark = never }
  where
    never : (kind : Kind) (i : ℕ) (x : List ℕ) → is_tag n (line_of kind i x) ≡ false
    never directive i x = refl
    never block i x = refl

pub exact_test : (t : TagPair) → TagTest (is_tag_of t)
exact_test t = record { not_data = λ d. refl; not_remark = never }
  where
    never : (kind : Kind) (i : ℕ) (x : List ℕ) → is_tag_of t (line_of kind i x) ≡ false
    never directive i x = refl
    never block i x = refl

data_never : (kind : Kind) (i : ℕ) (x : List ℕ) → is_data (line_of kind i x) ≡ false
data_never directive i x = refl
data_never block i x = refl

pub either_never : (kind : Kind) (i : ℕ) (x : List ℕ) → is_tag_or_data (line_of kind i x) ≡ false
either_never directive i x = refl
either_never block i x = refl

pub times_never : (p : WrittenLine → Bool) (kind : Kind) (ks : List Anchored) → ((i : ℕ) (x : List ℕ) → p (line_of kind i x) ≡ false) → times p (remark_lines kind ks) ≡ 0
times_never p kind [] h = refl
times_never p kind (k ∷ ks) h = rw (h k.number k.bytes, zero-add) (times_never p kind ks h)

pub last_append : (o : Option TagPair) (xs ys : List WrittenLine) → last_tag_after o (xs ++ ys) ≡ last_tag_after (last_tag_after o xs) ys
last_append o [] ys = refl
last_append o (tag_line m v ∷ xs) ys = last_append (some (record { name = m; value = v })) xs ys
last_append o (data_line d ∷ xs) ys = last_append o xs ys
last_append o (directive_line i x ∷ xs) ys = last_append o xs ys
last_append o (block_line i x ∷ xs) ys = last_append o xs ys

pub last_remark : (o : Option TagPair) (kind : Kind) (i : ℕ) (x : List ℕ) → last_tag_after o (line_of kind i x ∷ []) ≡ o
last_remark o directive i x = refl
last_remark o block i x = refl

pub last_data : (o : Option TagPair) (ds : List (List ℕ)) → last_tag_after o (map data_line ds) ≡ o
last_data o [] = refl
last_data o (d ∷ ds) = last_data o ds

pub until_remark : (kind : Kind) (i : ℕ) (x : List ℕ) (ls : List WrittenLine) → until_tag (line_of kind i x ∷ ls) ≡ line_of kind i x ∷ until_tag ls
until_remark directive i x ls = refl
until_remark block i x ls = refl

-- Those that meet a test.
pub all_those : {P Q : Anchored → Type 0} (t : Anchored → Bool) {ks : List Anchored} → ((k : Anchored) → P k → t k ≡ true → Q k) → All P ks → All Q (those t ks)
all_those t f no_more = no_more
all_those {Q = Q} t f (one {x = k} {xs = ks} p a) = by_cases (t k) (λ e. rw e (one (f k p e) (all_those t f a))) (λ e. rw e (all_those {Q = Q} t f a))

-- ---- a tag with what follows it

-- The directives of the tag w, earlier and ws being those around it; its blocks.
abbrev pub directives_under : List Anchored → List WrittenTag → WrittenTag → List WrittenTag → List Anchored
directives_under ds earlier w ws = those (goes_after (earlier ++ w ∷ ws) (length earlier)) ds

abbrev pub blocks_under : List Anchored → List WrittenTag → WrittenTag → List Anchored
blocks_under ks earlier w = cond (wrote w.name earlier) [] (those (is_under w.name) ks)

blocks_under_lem : (ks : List Anchored) (earlier : List WrittenTag) (w : WrittenTag) → blocks_after ks earlier w ≡ remark_lines block (blocks_under ks earlier w)
unfolding blocks_after
blocks_under_lem ks earlier w = by_cases (wrote w.name earlier) (λ e. rw e) (λ e. rw e)

pub times_data : (p : WrittenLine → Bool) (ds : List (List ℕ)) → ((d : List ℕ) → p (data_line d) ≡ false) → times p (map data_line ds) ≡ 0
times_data p [] h = refl
times_data p (d ∷ ds) h = rw (h d, zero-add) (times_data p ds h)

-- Up to the next tag stands no data line.
pub soon_none : (ds ks : List Anchored) (earlier ws : List WrittenTag) (ys : List WrittenLine) → times is_data (until_tag ys) ≡ 0 → times is_data (until_tag (tags_lines ds ks earlier ws ++ ys)) ≡ 0
soon_none ds ks earlier [] ys h = h
soon_none ds ks earlier (w ∷ ws) ys h = refl

pub tag_lines : (ds ks : List Anchored) (earlier ws : List WrittenTag) (w : WrittenTag)
    → tags_lines ds ks earlier (w ∷ ws)
    ≡ tag_line w.name w.value
    ∷ (map data_line w.lines
    ++ (remark_lines directive (directives_under ds earlier w ws)
    ++ (remark_lines block (blocks_under ks earlier w) ++ tags_lines ds ks (earlier ++ w ∷ []) ws)))
unfolding directives_after
tag_lines ds ks earlier ws w = rw (blocks_under_lem ks earlier w)

pub last_after_lem : (g : List WrittenLine) (kind : Kind) (ks : List Anchored) → last_tag (g ++ remark_lines kind ks) ≡ last_tag g
last_after_lem g kind ks = last_append none g (remark_lines kind ks) ∙ none_there (last_tag g) ks
  where
    none_there : (n : Option TagPair) (ks : List Anchored) → last_tag_after n (remark_lines kind ks) ≡ n
    none_there n [] = refl
    none_there n (k ∷ ks) = last_append n (line_of kind k.number k.bytes ∷ []) (remark_lines kind ks) ∙ rw (last_remark n kind k.number k.bytes) (none_there n ks)

pub no_directive : {C : Type 0} → block ≡ directive → C
no_directive e = let z : ◌≡◌ {A = ℕ} 0 1 = cc in absurd (omega arith)

-- How many lines of a tag with what follows it, and of the tags behind it.
pub times_tags : (p : WrittenLine → Bool) (ds ks : List Anchored) (earlier ws : List WrittenTag) (w : WrittenTag)
    → times p (tags_lines ds ks earlier (w ∷ ws))
    ≡ once (p (tag_line w.name w.value))
    + (times p (map data_line w.lines)
    + (times p (remark_lines directive (directives_under ds earlier w ws))
    + (times p (remark_lines block (blocks_under ks earlier w)) + times p (tags_lines ds ks (earlier ++ w ∷ []) ws))))
times_tags p ds ks earlier ws w = ap (times p) (tag_lines ds ks earlier ws w) ∙ simp times_append

-- ---- how many tags meet a test

-- The test of a line, of the line of a written tag.
abbrev pub on_tag : (WrittenLine → Bool) → WrittenTag → Bool
on_tag p w = p (tag_line w.name w.value)

abbrev pub times_met : (WrittenTag → Bool) → List WrittenTag → ℕ
times_met p [] = 0
times_met p (w ∷ ws) = once (p w) + times_met p ws

pub met_append : (p : WrittenTag → Bool) (ws vs : List WrittenTag) → times_met p (ws ++ vs) ≡ times_met p ws + times_met p vs
met_append p [] vs = omega arith
met_append p (w ∷ ws) vs = omega (arith, met_append p ws vs)

pub met_none : (p : WrittenTag → Bool) (ws : List WrittenTag) → meets p ws ≡ false → times_met p ws ≡ 0
met_none p [] e = refl
met_none p (w ∷ ws) e = let h = neither (p w) (meets p ws) e in rw (h.0, met_none p ws h.1)

-- The tags among lines are ws: as many meet a test.
abbrev pub TagsAre : List WrittenLine → List WrittenTag → Type 0
TagsAre ls ws = (p : WrittenLine → Bool) → TagTest p → times p ls ≡ times_met (on_tag p) ws

pub tags_after_lem : (g : List WrittenLine) (kind : Kind) (ks : List Anchored) (ws : List WrittenTag) → TagsAre g ws → TagsAre (g ++ remark_lines kind ks) ws
tags_after_lem g kind ks ws h p q = omega (arith, times_append p g (remark_lines kind ks), times_never p kind ks (q.not_remark kind), h p q)

named_times : (n : List ℕ) (ws : List WrittenTag) → times_met (on_tag (is_tag n)) ws ≡ times_written n ws
named_times n [] = refl
named_times n (w ∷ ws) = rw (named_times n ws)

tags_written : (ds ks : List Anchored) (earlier ws : List WrittenTag) → TagsAre (tags_lines ds ks earlier ws) ws
tags_written ds ks earlier [] p q = refl
tags_written ds ks earlier (w ∷ ws) p q =
    omega (
      arith,
      times_tags p ds ks earlier ws w,
      times_data p w.lines q.not_data,
      times_never p directive (directives_under ds earlier w ws) (q.not_remark directive),
      times_never p block (blocks_under ks earlier w) (q.not_remark block),
      tags_written ds ks (earlier ++ w ∷ []) ws p q,
    )

-- ---- the lines of a board

abbrev pub all_lines : List Anchored → List Anchored → List WrittenTag → List WrittenLine
all_lines ds ks ws =
    remark_lines directive (those is_leading ds)
    ++ (remark_lines block (those is_leading ks)
    ++ (tags_lines ds ks [] ws
    ++ (remark_lines block (those (tag_unwritten ws) ks)
    ++ remark_lines directive (those (tag_unwritten ws) ds))))

pub times_all : (p : WrittenLine → Bool) (ds ks : List Anchored) (ws : List WrittenTag)
    → times p (all_lines ds ks ws)
    ≡ times p (remark_lines directive (those is_leading ds))
    + (times p (remark_lines block (those is_leading ks))
    + (times p (tags_lines ds ks [] ws)
    + (times p (remark_lines block (those (tag_unwritten ws) ks))
    + times p (remark_lines directive (those (tag_unwritten ws) ds)))))
times_all p ds ks ws = simp times_append

pub all_tags : (ds ks : List Anchored) (ws : List WrittenTag) → TagsAre (all_lines ds ks ws) ws
all_tags ds ks ws p q =
    omega (
      arith,
      times_all p ds ks ws,
      tags_written ds ks [] ws p q,
      times_never p directive (those is_leading ds) (q.not_remark directive),
      times_never p block (those is_leading ks) (q.not_remark block),
      times_never p block (those (tag_unwritten ws) ks) (q.not_remark block),
      times_never p directive (those (tag_unwritten ws) ds) (q.not_remark directive),
    )

pub all_named : (n : List ℕ) (ds ks : List Anchored) (ws : List WrittenTag) → times (is_tag n) (all_lines ds ks ws) ≡ times_written n ws
all_named n ds ks ws = all_tags ds ks ws (is_tag n) (name_test n) ∙ named_times n ws

pub leading_none : (k : Anchored) → is_leading k ≡ true → k.anchor ≡ none
leading_none k e = no_tag_lem k.number k.bytes k.anchor e
  where
    no_tag_lem : (i : ℕ) (x : List ℕ) (a : Option TagPair) → is_leading (record { number = i; bytes = x; anchor = a }) ≡ true → a ≡ none
    no_tag_lem i x none e = refl
    no_tag_lem i x (some t) e = clash e

pub until_remarks : (kind : Kind) (ks : List Anchored) (ys : List WrittenLine) → until_tag (remark_lines kind ks ++ ys) ≡ remark_lines kind ks ++ until_tag ys
until_remarks kind [] ys = refl
until_remarks kind (k ∷ ks) ys = until_remark kind k.number k.bytes (remark_lines kind ks ++ ys) ∙ ap (λ (l : List WrittenLine). line_of kind k.number k.bytes ∷ l) (until_remarks kind ks ys)

until_few : (p : WrittenLine → Bool) (ls : List WrittenLine) → times p (until_tag ls) ≤ times p ls
until_few p [] = omega arith
until_few p (tag_line n v ∷ ls) = omega arith
until_few p (data_line d ∷ ls) = omega (arith, until_few p ls)
until_few p (directive_line i x ∷ ls) = omega (arith, until_few p ls)
until_few p (block_line i x ∷ ls) = omega (arith, until_few p ls)

-- Up to the next tag stands no data line, other remarks before it.
pub soon_after : (kind : Kind) (ks : List Anchored) (ys : List WrittenLine) → times is_data (until_tag ys) ≡ 0 → times is_data (until_tag (remark_lines kind ks ++ ys)) ≡ 0
soon_after kind ks ys h =
    ap (times is_data) (until_remarks kind ks ys)
    ∙ omega (arith, times_append is_data (remark_lines kind ks) (until_tag ys), times_never is_data kind ks (data_never kind))

-- No data line stands among remarks.
pub no_data : (ks ds : List Anchored) → times is_data (until_tag (remark_lines block ks ++ remark_lines directive ds)) ≡ 0
no_data ks ds =
    soon_after block ks (remark_lines directive ds)
    (omega (arith, until_few is_data (remark_lines directive ds), times_never is_data directive ds (data_never directive)))

-- A remark of the number i.
abbrev pub numbered : List TagPair → ℕ → Remark → Anchored
numbered ts i k = record { number = i; bytes = k.bytes; anchor = anchor_of ts k.before }

-- ---- every line of a board's

-- P holds of each line with the lines before it and behind it, f being those before the first.
pub data Each (P : List WrittenLine → WrittenLine → List WrittenLine → Type 0) : List WrittenLine → List WrittenLine → Type 0 where
  ended : {f : List WrittenLine} → Each P f []
  next : {f ls : List WrittenLine} {l : WrittenLine} → P f l ls → Each P (f ++ l ∷ []) ls → Each P f (l ∷ ls)

pub each_at : {P : List WrittenLine → WrittenLine → List WrittenLine → Type 0} {f : List WrittenLine} (g : List WrittenLine) (l : WrittenLine) (back : List WrittenLine) → Each P f (g ++ l ∷ back) → P (f ++ g) l back
each_at [] l back (next p e) = rw append-nil p
each_at (m ∷ g) l back (next p e) = rw append_assoc at (each_at g l back e)

-- Lines of which P says nothing.
pub each_quiet : {P : List WrittenLine → WrittenLine → List WrittenLine → Type 0} {xs : List WrittenLine} (f ys : List WrittenLine) → All (λ l. (g back : List WrittenLine) → P g l back) xs → Each P (f ++ xs) ys → Each P f (xs ++ ys)
each_quiet {P = P} f ys no_more e = subst (λ (g : List WrittenLine). Each P g ys) (append-nil f) e
each_quiet {P = P} f ys (one {x = l} {xs = xs} h a) e =
    next (h f (xs ++ ys)) (each_quiet (f ++ l ∷ []) ys a (subst (λ (g : List WrittenLine). Each P g ys) (sym (append_assoc f (l ∷ []) xs)) e))

pub each_end : {P : List WrittenLine → WrittenLine → List WrittenLine → Type 0} {xs : List WrittenLine} {f : List WrittenLine} → Each P f (xs ++ []) → Each P f xs
each_end {P = P} {xs = xs} {f = f} e = subst (λ (ys : List WrittenLine). Each P f ys) (append-nil xs) e

pub all_data : {P : WrittenLine → Type 0} (ds : List (List ℕ)) → ((d : List ℕ) → P (data_line d)) → All P (map data_line ds)
all_data [] h = no_more
all_data (d ∷ ds) h = one (h d) (all_data ds h)

pub all_until : {P : WrittenLine → Type 0} (kind : Kind) (ks : List Anchored) → All P (remark_lines kind ks) → All P (until_tag (remark_lines kind ks))
all_until {P = P} kind ks a =
    subst (All P) (sym (append-nil (remark_lines kind ks)) ∙ (sym (until_remarks kind ks []) ∙ ap until_tag (append-nil (remark_lines kind ks)))) a
