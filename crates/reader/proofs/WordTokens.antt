-- What is written is read back: calls, contracts, vulnerability and cards, by every accepted set of letters.
use Prim.Native.Nat.{ℕ, zero, suc, ◌+◌, ◌-◌, ◌/◌, ◌%◌, ◌≤◌, ◌<◌}
use mathlib.Core.Path.{◌≡◌, refl, sym}
use mathlib.Core.Bool.{Bool, true, false, cond}
use mathlib.Core.List.{List, [], ◌∷◌, ◌++◌}
use native.Mathlib.Omega.{arith}
use lib.Dec.{leb, ltb, eqb}
use lib.ListN.{length, take, drop, get_or, replicate, length-take, length-drop, length-replicate}
use borrow.Author.Tests.{eqb-true, eqb-false, ltb-true, ltb-false, leb-true, ne_eqb, lt-ltb, le-ltb, le-leb, lt-leb}
use Rattle.tables.specs.declared.letters.Conventions.{Conventions}
use Rattle.tables.specs.Text.{ascii, is_white, is_word, front, is_inside, starts, characters, differs}
use Rattle.tables.specs.Letters.{Accepted, is_capital, capital, suit_of, rank_of, strain_of, suit_letter, rank_letter, suit_letters, every}
use Rattle.tables.proofs.Laws.{by_cases, both}
use Rattle.tables.proofs.LetterLaws.{every_at}
use Rattle.tables.proofs.RowLaws.{every_replicate}
use Rattle.reader.proofs.WordLaws.{and_false}
use Rattle.tables.proofs.LetterLaws.{suit_back, rank_back, strain_back}
use Rattle.reader.specs.Words.{same, level_of, bid_code, bid_of, bid_token, is_pass, is_underscore, underscore_code, sign_code, call_of, call_token, is_mark, is_call_byte, call_part, section_end, is_all_pass, is_doubling, trump_suit, contract_trump, is_no_side, is_both_sides, vulnerability_of, vulnerability_token, card_number, card_named, card_token}

-- ---- texts whose bytes all meet a test

pub front_all : (p : ℕ → Bool) (s : List ℕ) → every p s ≡ true → front p s ≡ s
front_all p [] e = refl
front_all p (b ∷ bs) e =
    let h = both (p b) (every p bs) e in
    rw (h.0, front_all p bs h.1)

pub front_until : (p : ℕ → Bool) (s : List ℕ) (b : ℕ) (rest : List ℕ) → every p s ≡ true → p b ≡ false → front p (s ++ b ∷ rest) ≡ s
front_until p [] b rest e n = rw n
front_until p (x ∷ xs) b rest e n =
    let h = both (p x) (every p xs) e in
    rw (h.0, front_until p xs b rest h.1 n)

pub every_take : (p : ℕ → Bool) (n : ℕ) (s : List ℕ) → every p s ≡ true → every p (take n s) ≡ true
every_take p zero s e = refl
every_take p (suc n) [] e = refl
every_take p (suc n) (x ∷ xs) e =
    let h = both (p x) (every p xs) e in
    rw h.0 (every_take p n xs h.1)

pub every_drop : (p : ℕ → Bool) (n : ℕ) (s : List ℕ) → every p s ≡ true → every p (drop n s) ≡ true
every_drop p zero s e = e
every_drop p (suc n) [] e = refl
every_drop p (suc n) (x ∷ xs) e = every_drop p n xs (both (p x) (every p xs) e).1

every_implied : (p q : ℕ → Bool) → ((b : ℕ) → p b ≡ true → q b ≡ true) → (s : List ℕ) → every p s ≡ true → every q s ≡ true
every_implied p q f [] e = refl
every_implied p q f (x ∷ xs) e =
    let h = both (p x) (every p xs) e in
    rw (f x h.0) (every_implied p q f xs h.1)

same_both : (b : Bool) (x : ℕ) → cond b x x ≡ x
same_both true x = refl
same_both false x = refl

-- ---- the codes of calls, by kind

call_cases : (P : ℕ → Type 0) (k : ℕ) → k < 47 → P 0 → ((n : ℕ) → n < 35 → P (n + 1)) → P 36 → P 37 → P 38 → ((n : ℕ) → n < 8 → P (39 + n)) → P k
call_cases P k h pass bid double redouble plus line =
    by_cases (eqb k 0)
    (λ e. rw (eqb-true k 0 e) pass)
    (λ e0.
    by_cases (ltb k 36)
    (λ e.
    let d : k - 1 + 1 ≡ k = omega (arith, eqb-false k 0 e0) in
    rw d at (bid (k - 1) (omega (arith, eqb-false k 0 e0, ltb-true k 36 e))))
    (λ e1.
    by_cases (eqb k 36)
    (λ e. rw (eqb-true k 36 e) double)
    (λ e2.
    by_cases (eqb k 37)
    (λ e. rw (eqb-true k 37 e) redouble)
    (λ e3.
    by_cases (eqb k 38)
    (λ e. rw (eqb-true k 38 e) plus)
    (λ e4.
    let g : 39 ≤ k = omega (arith, ltb-false k 36 e1, eqb-false k 36 e2, eqb-false k 37 e3, eqb-false k 38 e4) in
    let d : 39 + (k - 39) ≡ k = omega arith in
    rw d at (line (k - 39) (omega arith)))))))

pub bid_written : (c : Conventions) (n : ℕ) → n < 35 → call_token c (n + 1) ≡ bid_token c n
unfolding call_token
bid_written c n h =
    let d : n + 1 - 1 ≡ n = omega arith in
    rw (ne_eqb (n + 1) 0 (λ e. omega arith), lt-ltb (n + 1) 36 (omega arith), d)

line_written : (c : Conventions) (n : ℕ) → n < 8 → call_token c (39 + n) ≡ replicate (n + 1) 95
unfolding call_token
line_written c n h =
    let d : 39 + n - 38 ≡ n + 1 = omega arith in
    rw (ne_eqb (39 + n) 0 (λ e. omega arith), le-ltb (39 + n) 36 (omega arith), ne_eqb (39 + n) 36 (λ e. omega arith), ne_eqb (39 + n) 37 (λ e. omega arith), ne_eqb (39 + n) 38 (λ e. omega arith), d)

pub level_back : (q : ℕ) → q < 7 → level_of (49 + q) ≡ q + 1
unfolding level_of
level_back q h = rw (le-ltb (49 + q) 49 (omega arith), le-ltb 55 (49 + q) (omega arith)) (omega arith)

line_back : (c : Conventions) (n : ℕ) → n < 8 → call_of c (replicate (n + 1) 95) ≡ 39 + n
unfolding capital level_of bid_code is_pass underscore_code sign_code call_of
line_back c n h =
    let e : n + 1 ≡ suc n = omega arith in
    rw (e, length-replicate {A = ℕ} n 95, ne_eqb (suc n) 0 (λ k. omega arith), le-ltb 8 (suc n) (omega arith), every_replicate is_underscore n 95 refl) (omega arith)

-- A test that each byte of every written call meets.
record Spelled (c : Conventions) (p : ℕ → Bool) : Type 0 where
  letters : (i : ℕ) → i < 13 → p (get_or c.letters i 0) ≡ true
  levels : (q : ℕ) → q < 7 → p (49 + q) ≡ true
  pass : every p (ascii "Pass") ≡ true
  notrump : every p (ascii "NT") ≡ true
  double : p 88 ≡ true
  plus : p 43 ≡ true
  underscore : p 95 ≡ true

spelled : (c : Conventions) (p : ℕ → Bool) → Spelled c p → (k : ℕ) → k < 47 → every p (call_token c k) ≡ true
unfolding call_token
spelled c p s k h =
    call_cases (λ (m : ℕ). every p (call_token c m) ≡ true) k h
    s.pass
    (λ n b.
    rw (bid_written c n b, s.levels (n / 5) (omega arith))
    (by_cases (eqb (n % 5) 4) (λ e. rw e s.notrump) (λ e. rw (e, s.letters (7 - n % 5) (omega arith)))))
    (rw s.double)
    (rw s.double)
    (rw s.plus)
    (λ n b. rw (line_written c n b) (every_replicate p (n + 1) 95 s.underscore))

pub capital_differs : (b : ℕ) → is_capital b ≡ true → differs 0 b ≡ true
unfolding is_capital
capital_differs b e = rw (ne_eqb b 0 (λ k. omega (arith, leb-true 65 b (both (leb 65 b) (leb b 90) e).0)))

-- The card that a list of characters begins with, suit and rank.
abbrev pub card_in : Conventions → List ℕ → ℕ
card_in c [] = 52
card_in c (s ∷ []) = 52
card_in c (s ∷ r ∷ more) = card_number (suit_of c s) (rank_of c r)

module _ (c : Conventions) (ok : Accepted c) where
  letter_range : (i : ℕ) → i < 13 → (65 ≤ get_or c.letters i 0) × (get_or c.letters i 0 ≤ 90)
  unfolding is_capital
  letter_range i h =
      let b = get_or c.letters i 0 in
      let e = both (leb 65 b) (leb b 90) (every_at is_capital c.letters i ok.capitals (rw ok.thirteen h)) in
      (leb-true 65 b e.0, leb-true b 90 e.1)

  bid_back : (n : ℕ) → n < 35 → bid_of c (bid_token c n) ≡ n + 1
  unfolding bid_code
  bid_back n h =
      rw (level_back (n / 5) (omega arith), strain_back c ok (n % 5) (omega arith), ne_eqb (n / 5 + 1) 0 (λ e. omega arith), le-ltb 7 (n / 5 + 1) (omega arith), le-ltb 4 (n % 5) (omega arith))
      (omega arith)

  -- Every call is read back as it was written.
  pub call_back : (k : ℕ) → k < 47 → call_of c (call_token c k) ≡ k
  unfolding capital level_of bid_code is_pass underscore_code sign_code call_of call_token
  call_back k h =
      call_cases (λ (m : ℕ). call_of c (call_token c m) ≡ m) k h
      refl
      (λ n b. rw (bid_written c n b, bid_back n b, lt-ltb (n + 1) 47 (omega arith)))
      refl
      refl
      refl
      (λ n b. rw (line_written c n b) (line_back c n b))

  letters_are_words : Spelled c is_word
  unfolding is_white
  letters_are_words = record {
    letters = λ i h.
        let b = get_or c.letters i 0 in
        let r = letter_range i h in
        rw (le-leb 9 b (omega arith), lt-leb b 13 (omega arith), ne_eqb b 32 (λ k. omega arith));
    levels = λ q h. rw (le-leb 9 (49 + q) (omega arith), lt-leb (49 + q) 13 (omega arith), ne_eqb (49 + q) 32 (λ k. omega arith));
    pass = refl;
    notrump = refl;
    double = refl;
    plus = refl;
    underscore = refl;
  }

  letters_are_calls : Spelled c is_call_byte
  unfolding is_mark
  letters_are_calls = record {
    letters = λ i h.
        let b = get_or c.letters i 0 in
        let r = letter_range i h in
        rw (ne_eqb b 61 (λ k. omega arith), ne_eqb b 33 (λ k. omega arith), ne_eqb b 63 (λ k. omega arith), ne_eqb b 36 (λ k. omega arith));
    levels = λ q h. rw (ne_eqb (49 + q) 61 (λ k. omega arith), ne_eqb (49 + q) 33 (λ k. omega arith), ne_eqb (49 + q) 63 (λ k. omega arith), ne_eqb (49 + q) 36 (λ k. omega arith));
    pass = refl;
    notrump = refl;
    double = refl;
    plus = refl;
    underscore = refl;
  }

  -- A written call has no white space and no byte that begins an annotation.
  pub call_word : (k : ℕ) → k < 47 → every is_word (call_token c k) ≡ true
  call_word k h = spelled c is_word letters_are_words k h

  pub call_unmarked : (k : ℕ) → k < 47 → every is_call_byte (call_token c k) ≡ true
  call_unmarked k h = spelled c is_call_byte letters_are_calls k h

  -- So it is the whole of its token, and what stands before an annotation.
  pub call_alone : (k : ℕ) → k < 47 → call_part (call_token c k) ≡ call_token c k
  call_alone k h = front_all is_call_byte (call_token c k) (call_unmarked k h)

  pub call_annotated : (k : ℕ) → k < 47 → (m : ℕ) (rest : List ℕ) → is_mark m ≡ true → call_part (call_token c k ++ m ∷ rest) ≡ call_token c k
  call_annotated k h m rest e = front_until is_call_byte (call_token c k) m rest (call_unmarked k h) (rw e)

  -- It ends no section unless it is + .
  pub call_end : (k : ℕ) → k < 47 → section_end (call_token c k) ≡ cond (eqb k 38) 1 0
  unfolding call_token section_end
  call_end k h =
      call_cases (λ (m : ℕ). section_end (call_token c m) ≡ cond (eqb m 38) 1 0) k h
      refl
      (λ n b. rw (bid_written c n b, ne_eqb 43 (49 + n / 5) (λ e. omega arith), ne_eqb 42 (49 + n / 5) (λ e. omega arith), ne_eqb (n + 1) 38 (λ e. omega arith)))
      refl
      refl
      refl
      (λ n b.
      let e : n + 1 ≡ suc n = omega arith in
      rw (line_written c n b, e, ne_eqb (39 + n) 38 (λ k. omega arith)))

  -- And it is not AP.
  pub call_not_all_pass : (k : ℕ) → k < 47 → is_all_pass (call_token c k) ≡ false
  unfolding capital call_token is_all_pass
  call_not_all_pass k h =
      call_cases (λ (m : ℕ). is_all_pass (call_token c m) ≡ false) k h
      refl
      (λ n b. rw (bid_written c n b, lt-ltb (49 + n / 5) 97 (omega arith), ne_eqb 65 (49 + n / 5) (λ e. omega arith)))
      refl
      refl
      refl
      (λ n b.
      let e : n + 1 ≡ suc n = omega arith in
      rw (line_written c n b, e))

  -- A contract's trump: a level and a strain, then nothing, X or XX.
  pub contract_back : (n : ℕ) (d : List ℕ) → n < 35 → is_doubling d ≡ true → contract_trump c (bid_token c n ++ d) ≡ trump_suit (n % 5)
  unfolding contract_trump capital
  contract_back n d h e =
      by_cases (eqb (n % 5) 4)
      (λ t.
      let g : n % 5 ≡ 4 = eqb-true (n % 5) 4 t in
      rw (t, level_back (n / 5) (omega arith), ne_eqb (n / 5 + 1) 0 (λ k. omega arith), g) (same_both (is_doubling (84 ∷ d)) 4))
      (λ t.
      let s : strain_of c (suit_letter c (n % 5) ∷ []) ≡ n % 5 = rw t at (strain_back c ok (n % 5) (omega arith)) in
      rw (t, level_back (n / 5) (omega arith), ne_eqb (n / 5 + 1) 0 (λ k. omega arith), e, s))

  -- ---- cards

  rank_range : (r : ℕ) → r < 13 → (50 ≤ rank_letter c r) × (rank_letter c r ≤ 90)
  rank_range r h =
      by_cases (ltb r 8)
      (λ t. rw t (omega (arith, ltb-true r 8 t), omega (arith, ltb-true r 8 t)))
      (λ t.
      let g = letter_range (20 - r) (omega (arith, ltb-false r 8 t)) in
      rw t (omega arith, g.1))

  -- Every card is read back as it was written.
  pub card_back : (k : ℕ) → k < 52 → card_named c (card_token c k) ≡ k
  unfolding is_inside card_number card_named
  card_back k h =
      let r = rank_range (k % 13) (omega arith) in
      rw (lt-leb 128 (rank_letter c (k % 13)) (omega arith), suit_back c ok (k / 13) (omega arith), rank_back c ok (k % 13) (omega arith), le-ltb 3 (k / 13) (omega arith), le-ltb 12 (k % 13) (omega arith))
      (omega arith)

  -- A written card has no white space; it is no - and ends no section.
  pub card_word_lem : (k : ℕ) → k < 52 → every is_word (card_token c k) ≡ true
  unfolding is_white
  card_word_lem k h =
      let a = suit_letter c (k / 13) in
      let b = rank_letter c (k % 13) in
      let q = letter_range (7 - k / 13) (omega arith) in
      let r = rank_range (k % 13) (omega arith) in
      rw (le-leb 9 a (omega arith), lt-leb a 13 (omega arith), ne_eqb a 32 (λ e. omega arith), le-leb 9 b (omega arith), lt-leb b 13 (omega arith), ne_eqb b 32 (λ e. omega arith))

  pub card_no_end : (k : ℕ) → section_end (card_token c k) ≡ 0
  unfolding section_end
  card_no_end k = rw (and_false (eqb 43 (suit_letter c (k / 13))), and_false (eqb 42 (suit_letter c (k / 13))))

  pub card_no_dash : (k : ℕ) → same (ascii "-") (card_token c k) ≡ false
  card_no_dash k = and_false (eqb 45 (suit_letter c (k / 13)))

  -- 0, which a character of more than one byte is given as, is no suit's letter.
  no_suit : suit_of c 0 ≡ 4
  unfolding is_capital suit_of capital
  no_suit =
      let l = suit_letters c in
      let e = every_take (differs 0) 4 (drop 4 c.letters) (every_drop (differs 0) 4 c.letters (every_implied is_capital (differs 0) capital_differs c.letters ok.capitals)) in
      let n : length l ≡ 4 = simp (length-take, length-drop, ok.thirteen) (omega arith) in
      rw (front_all (differs 0) l e, n)

  not_card : (l : List ℕ) → card_in c (0 ∷ l) ≡ 52
  unfolding card_number
  not_card [] = refl
  not_card (x ∷ xs) = rw no_suit

  -- A card is read from the first two characters, as they are counted anywhere.
  pub card_characters : (t : List ℕ) → card_named c t ≡ card_in c (characters t)
  unfolding card_named
  card_characters [] = refl
  card_characters (s ∷ []) = refl
  card_characters (s ∷ r ∷ more) = by_cases (is_inside r) (λ e. rw e (sym (not_card (starts more)))) (λ e. rw e)

-- ---- vulnerability

pub vulnerability_back : (k : ℕ) → k < 4 → vulnerability_of (vulnerability_token k) ≡ k
unfolding capital is_no_side is_both_sides vulnerability_of vulnerability_token
vulnerability_back zero h = refl
vulnerability_back (suc zero) h = refl
vulnerability_back (suc (suc zero)) h = refl
vulnerability_back (suc (suc (suc zero))) h = refl
vulnerability_back (suc (suc (suc (suc k)))) h = absurd (omega arith)
