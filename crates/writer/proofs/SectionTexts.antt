-- Auctions and plays, put from the entries of their sections, are the data lines of those sections.
use Prim.Native.Nat.{ℕ, ◌+◌, ◌*◌, ◌/◌, ◌%◌, ◌<◌}
use mathlib.Core.Path.{◌≡◌, refl, sym, ap, ◌∙◌}
use mathlib.Core.Bool.{Bool, true, false, cond}
use mathlib.Core.List.{List, [], ◌∷◌, ◌++◌, map, append-nil, append_assoc}
use native.Mathlib.Omega.{arith}
use lib.Dec.{eqb, ltb}
use borrow.Author.Tests.{eqb-true, ne_eqb}
use Rattle.tables.specs.declared.letters.Conventions.{Conventions}
use Rattle.tables.proofs.Laws.{by_cases}
use Rattle.reader.specs.Words.{card_token}
use Rattle.reader.specs.Plain.{Item, PlainCall, PlainAuction, PlainPlay, annotations_first, calls_in, slots_of, tricks_in}
use Rattle.writer.specs.Sections.{spaced, end_lines, call_text, rounds, ends_continued, auction_lines, in_slot, trick_cards, cards_lines, tricks_lines, play_lines}
use Rattle.writer.specs.Items.{before_call, tokens_text, calls_text, last_code, end_text, auction_text, slots_text, four_slots, tricks_text, play_text, data_text}
use Rattle.writer.proofs.GroupTexts.{rows_join}

-- ---- ends

end_text_lem : (end : ℕ) → data_text (end_lines end) ≡ end_text end
unfolding end_lines end_text
end_text_lem end = by_cases (eqb end 1) (λ e. rw e) (λ e. by_cases (eqb end 2) (λ f. rw (e, f)) (λ f. rw (e, f)))

-- ---- calls

calls_tokens : (c : Conventions) (n : ℕ) (called : Bool) (is : List Item)
    → calls_text c n called is ≡ cond called (annotations_first is) [] ++ tokens_text n (map (call_text c) (calls_in is))
calls_tokens c n true [] = refl
calls_tokens c n false [] = refl
calls_tokens c n called (i ∷ is) =
    by_cases (eqb i.kind 6)
    (λ e.
    let z : eqb i.kind 7 ≡ false = ne_eqb i.kind 7 (λ w. omega (arith, w, eqb-true i.kind 6 e)) in
    rw (e, z, calls_tokens c (n + 1) true is) (none_first called _ _ (simp append_assoc)))
    (λ e.
    by_cases (eqb i.kind 7)
    (λ z. annotated called e z (λ b. calls_tokens c n b is))
    (λ z. rw (e, z, calls_tokens c n false is) (none_first called _ _ refl)))
  where
    none_first : (b : Bool) (x y : List ℕ) → x ≡ y → x ≡ cond b [] [] ++ y
    none_first true x y h = h
    none_first false x y h = h

    annotated : (b : Bool) → eqb i.kind 6 ≡ false → eqb i.kind 7 ≡ true
        → ((d : Bool) → calls_text c n d is ≡ cond d (annotations_first is) [] ++ tokens_text n (map (call_text c) (calls_in is)))
        → calls_text c n b (i ∷ is) ≡ cond b (annotations_first (i ∷ is)) [] ++ tokens_text n (map (call_text c) (calls_in (i ∷ is)))
    annotated true e z more = rw (e, z, more true) (sym (append_assoc i.bytes (annotations_first is) (tokens_text n (map (call_text c) (calls_in is)))))
    annotated false e z more = rw (e, z, more false)

-- The first call of a line, and the next three.
before_first : (m : ℕ) → before_call (4 * m) ≡ cond (eqb (4 * m) 0) [] (10 ∷ [])
unfolding before_call
before_first m = let z : 4 * m % 4 ≡ 0 = omega arith in rw z

before_next : (m r : ℕ) → 0 < r → r < 4 → before_call (4 * m + r) ≡ 32 ∷ []
unfolding before_call
before_next m r h k =
    rw (ne_eqb (4 * m + r) 0 (λ w. omega arith), ne_eqb ((4 * m + r) % 4) 0 (λ w. omega arith))

tokens_end : (m r : ℕ) → 0 < r → tokens_text (4 * m + r) [] ≡ 10 ∷ []
tokens_end m r h = rw (ne_eqb (4 * m + r) 0 (λ w. omega arith))

-- Lines of four, behind m lines.
pub tokens_rounds : (m : ℕ) (ts : List (List ℕ)) → tokens_text (4 * m) ts ≡ cond (eqb (4 * m) 0) [] (10 ∷ []) ++ data_text (rounds ts)
tokens_rounds m [] = sym (append-nil _)
tokens_rounds m (a ∷ []) = rw (tokens_end m 1 (omega arith), before_first m) (simp append-nil)
tokens_rounds m (a ∷ b ∷ []) =
    let two : 4 * m + 1 + 1 ≡ 4 * m + 2 = omega arith in
    rw (two, tokens_end m 2 (omega arith), before_first m, before_next m 1 (omega arith) (omega arith)) (simp (append_assoc, append-nil))
tokens_rounds m (a ∷ b ∷ d ∷ []) =
    let two : 4 * m + 1 + 1 ≡ 4 * m + 2 = omega arith in
    let three : 4 * m + 2 + 1 ≡ 4 * m + 3 = omega arith in
    rw (two, three, tokens_end m 3 (omega arith), before_first m, before_next m 1 (omega arith) (omega arith), before_next m 2 (omega arith) (omega arith))
    (simp (append_assoc, append-nil))
tokens_rounds m (a ∷ b ∷ d ∷ e ∷ ts) =
    let two : 4 * m + 1 + 1 ≡ 4 * m + 2 = omega arith in
    let three : 4 * m + 2 + 1 ≡ 4 * m + 3 = omega arith in
    let four : 4 * m + 3 + 1 ≡ 4 * (m + 1) = omega arith in
    let more : tokens_text (4 * (m + 1)) ts ≡ 10 ∷ data_text (rounds ts) = tokens_rounds (m + 1) ts ∙ rw (ne_eqb (4 * (m + 1)) 0 (λ w. omega arith)) in
    rw (two, three, four, before_first m, before_next m 1 (omega arith) (omega arith), before_next m 2 (omega arith) (omega arith), before_next m 3 (omega arith) (omega arith), more)
    (simp append_assoc)

pub calls_text_lem : (c : Conventions) (is : List Item) → calls_text c 0 false is ≡ data_text (rounds (map (call_text c) (calls_in is)))
calls_text_lem c is = calls_tokens c 0 false is ∙ tokens_rounds 0 (map (call_text c) (calls_in is))

-- ---- the last call

-- Whether the last call is `+`, where k is the code of the call before them.
abbrev continued_from : ℕ → List PlainCall → Bool
continued_from k [] = eqb k 38
continued_from k (l ∷ ls) = continued_from l.code ls

continued_is : (l : PlainCall) (ls : List PlainCall) → continued_from l.code ls ≡ ends_continued (l ∷ ls)
continued_is l [] = refl
continued_is l (m ∷ ls) = continued_is m ls

last_code_lem : (k : ℕ) (is : List Item) → eqb (last_code k is) 38 ≡ continued_from k (calls_in is)
last_code_lem k [] = refl
last_code_lem k (i ∷ is) = by_cases (eqb i.kind 6) (λ e. rw e (last_code_lem i.mark is)) (λ e. rw e (last_code_lem k is))

pub last_text_lem : (is : List Item) → eqb (last_code 47 is) 38 ≡ ends_continued (calls_in is)
last_text_lem is = last_code_lem 47 is ∙ none_before (calls_in is)
  where
    none_before : (ls : List PlainCall) → continued_from 47 ls ≡ ends_continued ls
    none_before [] = refl
    none_before (l ∷ ls) = continued_is l ls

-- THEOREM. An auction is put as its data lines.
pub AuctionText : (c : Conventions) (a : PlainAuction) (is : List Item) → a.calls ≡ calls_in is → auction_text c a.end is ≡ data_text (auction_lines c a)
unfolding auction_text auction_lines
AuctionText c a is e =
    rw (rows_join (rounds (map (call_text c) a.calls)) (cond (ends_continued a.calls) [] (end_lines a.end)), e, calls_text_lem c is, last_text_lem is)
    (ap (λ (x : List ℕ). data_text (rounds (map (call_text c) (calls_in is))) ++ x) (ended (ends_continued (calls_in is))))
  where
    ended : (b : Bool) → cond b [] (end_text a.end) ≡ data_text (cond b [] (end_lines a.end))
    ended true = refl
    ended false = sym (end_text_lem a.end)

-- ---- tricks

-- The cards of slots.
abbrev cards_in : List ℕ → List ℕ
cards_in [] = []
cards_in (k ∷ ks) = in_slot k ++ cards_in ks

-- Cards with n before them on their line, each behind its blank.
abbrev cards_text : Conventions → ℕ → List ℕ → List ℕ
cards_text c n [] = cond (eqb n 0) [] (10 ∷ [])
cards_text c n (k ∷ ks) = cond (eqb n 0) [] (32 ∷ []) ++ (card_token c k ++ cards_text c (n + 1) ks)

slots_cards : (c : Conventions) (n : ℕ) (ks : List ℕ) → slots_text c n ks ≡ cards_text c n (cards_in ks)
slots_cards c n [] = refl
slots_cards c n (k ∷ ks) =
    by_cases (ltb k 52)
    (λ e. rw (e, slots_cards c (n + 1) ks) (append_assoc (cond (eqb n 0) [] (32 ∷ [])) (card_token c k) (cards_text c (n + 1) (cards_in ks))))
    (λ e. rw e (slots_cards c n ks))

cards_spaced : (c : Conventions) (n k : ℕ) (ks : List ℕ) → spaced (map (card_token c) (k ∷ ks)) ++ 10 ∷ [] ≡ card_token c k ++ cards_text c (n + 1) ks
cards_spaced c n k [] = rw (ne_eqb (n + 1) 0 (λ w. omega arith))
cards_spaced c n k (l ∷ ks) =
    rw (ne_eqb (n + 1) 0 (λ w. omega arith), append_assoc (card_token c k) (32 ∷ spaced (map (card_token c) (l ∷ ks))) (10 ∷ []), cards_spaced c (n + 1) l ks)

cards_lines_lem : (c : Conventions) (ks : List ℕ) → cards_text c 0 ks ≡ data_text (cards_lines c ks)
cards_lines_lem c [] = refl
cards_lines_lem c (k ∷ ks) = sym (append-nil _ ∙ cards_spaced c 0 k ks)

pub trick_text_lem : (c : Conventions) (z : ℕ) → slots_text c 0 (four_slots z) ≡ data_text (cards_lines c (trick_cards (slots_of z)))
trick_text_lem c z =
    slots_cards c 0 (four_slots z)
    ∙ (ap (λ (ks : List ℕ). cards_text c 0 (in_slot (z % 256) ++ (in_slot (z / 256 % 256) ++ (in_slot (z / 65536 % 256) ++ ks)))) (append-nil (in_slot (z / 16777216 % 256)))
    ∙ cards_lines_lem c (trick_cards (slots_of z)))

pub tricks_text_lem : (c : Conventions) (is : List Item) → tricks_text c is ≡ data_text (tricks_lines c (tricks_in is))
tricks_text_lem c [] = refl
tricks_text_lem c (i ∷ is) =
    by_cases (eqb i.kind 8)
    (λ e.
    rw (e, rows_join (cards_lines c (trick_cards (slots_of i.mark))) (tricks_lines c (tricks_in is)), ← (trick_text_lem c i.mark), tricks_text_lem c is))
    (λ e. rw e (tricks_text_lem c is))

-- THEOREM. A play is put as its data lines.
pub PlayText : (c : Conventions) (p : PlainPlay) (is : List Item) → p.tricks ≡ tricks_in is → play_text c p.end is ≡ data_text (play_lines c p)
unfolding play_text play_lines
PlayText c p is e =
    rw (rows_join (tricks_lines c p.tricks) (end_lines p.end), e, tricks_text_lem c is, end_text_lem p.end)
