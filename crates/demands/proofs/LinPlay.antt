-- The play of a LIN board: its tricks, written by seat from the opening leader on, are read back as they were.
use Rattle.std.specs.Prelude.{Option}
use Prim.Native.Nat.{ℕ, ◌+◌, ◌<◌}
use mathlib.Core.Path.{◌≡◌, refl, sym, ap, ◌∙◌}
use mathlib.Core.Bool.{Bool, true, false, cond}
use mathlib.Core.List.{List, [], ◌∷◌, ◌++◌, map, append_assoc, append-nil, head-eq_of_cons-eq}
use native.Mathlib.Omega.{arith}
use lib.Dec.{ltb, eqb}
use lib.ListN.{length}
use borrow.Author.Tests.{eqb-true, eqb-false, ltb-true, ne_eqb}
use Rattle.tables.specs.declared.letters.Conventions.{Conventions}
use Rattle.tables.specs.Text.{is_white}
use Rattle.tables.specs.Letters.{Accepted, every}
use Rattle.tables.proofs.Laws.{by_cases, both, clash}
use Rattle.reader.specs.declared.store.Entry.{Entry}
use Rattle.reader.specs.declared.play.Slots.{Slots}
use Rattle.reader.specs.declared.play.Tricks.{Tricks}
use Rattle.reader.specs.Words.{section_end}
use Rattle.reader.specs.declared.section.Open.{Open}
use Rattle.reader.specs.declared.section.Walk.{Walk}
use Rattle.reader.specs.Pieces.{Piece, Out, out_all}
use Rattle.reader.specs.Play.{with_slot, is_full, winner_of, trick_entry, new_trick, next_leader, opened, slot_of, is_gap, played, played_bytes, last_trick, no_tricks}
use Rattle.reader.specs.Sections.{walked, no_walk, kind_of, opener}
use Rattle.reader.specs.Plain.{item_of, items_of, PlainTrick, tricks_in}
use Rattle.reader.proofs.PlainTricks.{is_slot, Cards, slots_back}
use Rattle.reader.proofs.WordTokens.{card_back, card_no_end, card_no_dash}
use Rattle.lin.specs.Playing.{slots, full_trick, part_trick, tricks_from, slot_at, slot_word, seat_word, trick_line, trick_lines}
use Rattle.demands.specs.PageBack.{all, good_data}
use Rattle.demands.proofs.LineBack.{or_true}
use Rattle.demands.proofs.BoardWritable.{is_token, spaced_data, card_token_lem}
use Rattle.demands.proofs.SectionTokens.{texts, words, words_in_all, SpacedBack, all_tokens, tokens_texts, plays_walked}

-- A seat's slot, in four rotations.
rotations : (P : ℕ → ℕ → ℕ → ℕ → Type 0) (lead leader : ℕ) → lead < 4 → leader < 4 → P 0 1 2 3 → P 1 2 3 0 → P 2 3 0 1 → P 3 0 1 2
    → P (slot_of lead 0 leader) (slot_of lead 1 leader) (slot_of lead 2 leader) (slot_of lead 3 leader)
rotations P lead leader h i a b d e =
    let k = slot_of lead 0 leader in
    by_cases (eqb k 0)
    (λ t.
    let z0 : slot_of lead 0 leader ≡ 0 = eqb-true k 0 t in
    let z1 : slot_of lead 1 leader ≡ 1 = omega arith in
    let z2 : slot_of lead 2 leader ≡ 2 = omega arith in
    let z3 : slot_of lead 3 leader ≡ 3 = omega arith in
    rw (z0, z1, z2, z3) a)
    (λ t0.
    by_cases (eqb k 1)
    (λ t.
    let z0 : slot_of lead 0 leader ≡ 1 = eqb-true k 1 t in
    let z1 : slot_of lead 1 leader ≡ 2 = omega arith in
    let z2 : slot_of lead 2 leader ≡ 3 = omega arith in
    let z3 : slot_of lead 3 leader ≡ 0 = omega arith in
    rw (z0, z1, z2, z3) b)
    (λ t1.
    by_cases (eqb k 2)
    (λ t.
    let z0 : slot_of lead 0 leader ≡ 2 = eqb-true k 2 t in
    let z1 : slot_of lead 1 leader ≡ 3 = omega arith in
    let z2 : slot_of lead 2 leader ≡ 0 = omega arith in
    let z3 : slot_of lead 3 leader ≡ 1 = omega arith in
    rw (z0, z1, z2, z3) d)
    (λ t2.
    let z0 : slot_of lead 0 leader ≡ 3 = omega (arith, eqb-false k 0 t0, eqb-false k 1 t1, eqb-false k 2 t2) in
    let z1 : slot_of lead 1 leader ≡ 0 = omega arith in
    let z2 : slot_of lead 2 leader ≡ 1 = omega arith in
    let z3 : slot_of lead 3 leader ≡ 2 = omega arith in
    rw (z0, z1, z2, z3) e)))

-- The next seat's word is put: a card into its slot, or a gap.
abbrev put_word : ℕ → ℕ → Tricks → ℕ → Tricks
put_word trump slot t k =
    record {
      any = true;
      leader = t.leader;
      winner = cond (ltb k 52) (cond (is_full (with_slot t.slots slot k)) (winner_of trump t.leader (with_slot t.slots slot k)) t.winner) t.winner;
      slots = cond (ltb k 52) (with_slot t.slots slot k) t.slots;
      seat = t.seat + 1;
      end = t.end;
      stopped = false;
      count = t.count;
    }

-- Four words from a new trick on, into the slots i, j, k, m.
abbrev put_trick : ℕ → ℕ → ℕ → Slots → ℕ → ℕ → ℕ → ℕ → Tricks
put_trick trump leader n s i j k m =
    put_word trump m (put_word trump k (put_word trump j (put_word trump i (new_trick leader 0 n) (slot_at s i)) (slot_at s j)) (slot_at s k)) (slot_at s m)

-- A trick of four seats, the n-th from 0, before the next one opens.
abbrev pub trick_done : ℕ → PlainTrick → Tricks
trick_done n t = record { any = true; leader = t.leader; winner = t.winner; slots = t.slots; seat = 4; end = 0; stopped = false; count = n }

module _ (trump leader n : ℕ) where
  put_one : (a : ℕ) → ltb a 52 ≡ true → eqb a 255 ≡ false → (lead : ℕ) → lead < 4 → leader < 4
      → put_trick trump leader n (slots a 255 255 255) (slot_of lead 0 leader) (slot_of lead 1 leader) (slot_of lead 2 leader) (slot_of lead 3 leader) ≡ trick_done n (part_trick leader (slots a 255 255 255))
  unfolding slot_at
  put_one a la na lead h i =
      rotations (λ w x y z. put_trick trump leader n (slots a 255 255 255) w x y z ≡ trick_done n (part_trick leader (slots a 255 255 255))) lead leader h i
      (simp (la, na)) (simp (la, na)) (simp (la, na)) (simp (la, na))

  put_two : (a b : ℕ) → ltb a 52 ≡ true → eqb a 255 ≡ false → ltb b 52 ≡ true → eqb b 255 ≡ false → (lead : ℕ) → lead < 4 → leader < 4
      → put_trick trump leader n (slots a b 255 255) (slot_of lead 0 leader) (slot_of lead 1 leader) (slot_of lead 2 leader) (slot_of lead 3 leader) ≡ trick_done n (part_trick leader (slots a b 255 255))
  unfolding slot_at
  put_two a b la na lb nb lead h i =
      rotations (λ w x y z. put_trick trump leader n (slots a b 255 255) w x y z ≡ trick_done n (part_trick leader (slots a b 255 255))) lead leader h i
      (simp (la, na, lb, nb)) (simp (la, na, lb, nb)) (simp (la, na, lb, nb)) (simp (la, na, lb, nb))

  put_three : (a b d : ℕ) → ltb a 52 ≡ true → eqb a 255 ≡ false → ltb b 52 ≡ true → eqb b 255 ≡ false → ltb d 52 ≡ true → eqb d 255 ≡ false → (lead : ℕ) → lead < 4 → leader < 4
      → put_trick trump leader n (slots a b d 255) (slot_of lead 0 leader) (slot_of lead 1 leader) (slot_of lead 2 leader) (slot_of lead 3 leader) ≡ trick_done n (part_trick leader (slots a b d 255))
  unfolding slot_at
  put_three a b d la na lb nb ld nd lead h i =
      rotations (λ w x y z. put_trick trump leader n (slots a b d 255) w x y z ≡ trick_done n (part_trick leader (slots a b d 255))) lead leader h i
      (simp (la, na, lb, nb, ld, nd)) (simp (la, na, lb, nb, ld, nd)) (simp (la, na, lb, nb, ld, nd)) (simp (la, na, lb, nb, ld, nd))

  put_four : (a b d e : ℕ) → ltb a 52 ≡ true → eqb a 255 ≡ false → ltb b 52 ≡ true → eqb b 255 ≡ false → ltb d 52 ≡ true → eqb d 255 ≡ false → ltb e 52 ≡ true → eqb e 255 ≡ false
      → (lead : ℕ) → lead < 4 → leader < 4
      → put_trick trump leader n (slots a b d e) (slot_of lead 0 leader) (slot_of lead 1 leader) (slot_of lead 2 leader) (slot_of lead 3 leader) ≡ trick_done n (full_trick trump leader (slots a b d e))
  unfolding slot_at
  put_four a b d e la na lb nb ld nd le ne lead h i =
      rotations (λ w x y z. put_trick trump leader n (slots a b d e) w x y z ≡ trick_done n (full_trick trump leader (slots a b d e))) lead leader h i
      (simp (la, na, lb, nb, ld, nd, le, ne)) (simp (la, na, lb, nb, ld, nd, le, ne)) (simp (la, na, lb, nb, ld, nd, le, ne)) (simp (la, na, lb, nb, ld, nd, le, ne))

card_low : (k : ℕ) → ltb k 52 ≡ true → eqb k 255 ≡ false
card_low k e = ne_eqb k 255 (λ u. omega (arith, ltb-true k 52 e))

-- The first trick of cards, put word by word.
trick_done_lem : (trump leader n : ℕ) (ks : List ℕ) (x : PlainTrick) (xs : List PlainTrick) (lead : ℕ) → lead < 4 → leader < 4 → every (λ k. ltb k 52) ks ≡ true → tricks_from trump leader ks ≡ x ∷ xs
    → put_trick trump leader n x.slots (slot_of lead 0 leader) (slot_of lead 1 leader) (slot_of lead 2 leader) (slot_of lead 3 leader) ≡ trick_done n x
trick_done_lem trump leader n [] x xs lead h i e m = let z : ◌≡◌ {A = ℕ} 0 1 = cc in absurd (omega arith)
trick_done_lem trump leader n (a ∷ []) x xs lead h i e m =
    let la = (both (ltb a 52) true e).0 in
    rw (← (head-eq_of_cons-eq m)) (put_one trump leader n a la (card_low a la) lead h i)
trick_done_lem trump leader n (a ∷ b ∷ []) x xs lead h i e m =
    let ea = both (ltb a 52) _ e in
    let la = ea.0 in
    let lb = (both (ltb b 52) true ea.1).0 in
    rw (← (head-eq_of_cons-eq m)) (put_two trump leader n a b la (card_low a la) lb (card_low b lb) lead h i)
trick_done_lem trump leader n (a ∷ b ∷ d ∷ []) x xs lead h i e m =
    let ea = both (ltb a 52) _ e in
    let eb = both (ltb b 52) _ ea.1 in
    let la = ea.0 in
    let lb = eb.0 in
    let ld = (both (ltb d 52) true eb.1).0 in
    rw (← (head-eq_of_cons-eq m)) (put_three trump leader n a b d la (card_low a la) lb (card_low b lb) ld (card_low d ld) lead h i)
trick_done_lem trump leader n (a ∷ b ∷ d ∷ f ∷ ks) x xs lead h i e m =
    let ea = both (ltb a 52) _ e in
    let eb = both (ltb b 52) _ ea.1 in
    let ed = both (ltb d 52) _ eb.1 in
    let la = ea.0 in
    let lb = eb.0 in
    let ld = ed.0 in
    let lf = (both (ltb f 52) (every (λ j. ltb j 52) ks) ed.1).0 in
    rw (← (head-eq_of_cons-eq m)) (put_four trump leader n a b d f la (card_low a la) lb (card_low b lb) ld (card_low d ld) lf (card_low f lf) lead h i)

trick_leader : (trump leader : ℕ) (ks : List ℕ) (x : PlainTrick) (xs : List PlainTrick) → tricks_from trump leader ks ≡ x ∷ xs → x.leader ≡ leader
trick_leader trump leader [] x xs m = let z : ◌≡◌ {A = ℕ} 0 1 = cc in absurd (omega arith)
trick_leader trump leader (a ∷ []) x xs m = sym (ap (λ (t : PlainTrick). t.leader) (head-eq_of_cons-eq m))
trick_leader trump leader (a ∷ b ∷ []) x xs m = sym (ap (λ (t : PlainTrick). t.leader) (head-eq_of_cons-eq m))
trick_leader trump leader (a ∷ b ∷ d ∷ []) x xs m = sym (ap (λ (t : PlainTrick). t.leader) (head-eq_of_cons-eq m))
trick_leader trump leader (a ∷ b ∷ d ∷ f ∷ ks) x xs m = sym (ap (λ (t : PlainTrick). t.leader) (head-eq_of_cons-eq m))

module _ (c : Conventions) (ok : Accepted c) where
  word_played : (lead trump : ℕ) (t : Tricks) (k : ℕ) → played c lead trump t (slot_word c k) ≡ put_word trump (slot_of lead t.seat t.leader) t k
  unfolding slot_word played section_end is_gap
  word_played lead trump t k =
      by_cases (ltb k 52)
      (λ e. rw (e, card_no_end c ok k, card_no_dash c ok k, card_back c ok k (ltb-true k 52 e), e))
      (λ e. rw e)

  -- A word, where the trick that it opens is known.
  word_opened : (lead trump : ℕ) (t u : Tricks) (es : List Entry) (k : ℕ) → t.stopped ≡ false → (opened lead t).state ≡ u → (opened lead t).entries ≡ es
      → played_bytes c lead trump t (slot_word c k) ≡ record { state = put_word trump (slot_of lead u.seat u.leader) u k; entries = es }
  unfolding played_bytes
  word_opened lead trump t u es k h o e =
      ap (λ (b : Bool). cond {A = Out Tricks} b (record { state = t; entries = [] }) (record { state = played c lead trump (opened lead t).state (slot_word c k); entries = (opened lead t).entries })) h
      ∙ ap (λ (x : Tricks). record { state = played c lead trump x (slot_word c k); entries = (opened lead t).entries }) o
      ∙ ap (λ (x : List Entry). record { state = played c lead trump u (slot_word c k); entries = x }) e
      ∙ ap (λ (x : Tricks). record { state = x; entries = es }) (word_played lead trump u k)

  word_next : (lead trump : ℕ) (t : Tricks) (k : ℕ) → t.any ≡ true → t.stopped ≡ false → eqb t.seat 4 ≡ false
      → played_bytes c lead trump t (slot_word c k) ≡ record { state = put_word trump (slot_of lead t.seat t.leader) t k; entries = [] }
  unfolding opened
  word_next lead trump t k a h e =
      let o : opened lead t ≡ record { state = t; entries = [] } =
      open_still (record { state = new_trick (next_leader t.winner t.leader) t.end (t.count + 1); entries = trick_entry t ∷ [] }) (record { state = t; entries = [] }) (record { state = new_trick lead t.end t.count; entries = [] })
      t.any (eqb t.seat 4) a e in
      word_opened lead trump t t [] k h (ap (λ (x : Out Tricks). x.state) o) (ap (λ (x : Out Tricks). x.entries) o)
    where
      open_still : (x y z : Out Tricks) (a f : Bool) → a ≡ true → f ≡ false → cond a (cond f x y) z ≡ y
      open_still x y z true true e g = clash (sym g)
      open_still x y z true false e g = refl
      open_still x y z false f e g = clash e

  -- The four words of a trick, with those behind them.
  trick_played : (lead trump leader n : ℕ) (t : Tricks) (s : Slots) (rest : List (List ℕ)) → t.stopped ≡ false → (opened lead t).state ≡ new_trick leader 0 n
      → let word : ℕ → List ℕ = λ j. slot_word c (slot_at s (slot_of lead j leader)) in
      let done = put_trick trump leader n s (slot_of lead 0 leader) (slot_of lead 1 leader) (slot_of lead 2 leader) (slot_of lead 3 leader) in
      out_all (played_bytes c lead trump) t (word 0 ∷ word 1 ∷ word 2 ∷ word 3 ∷ rest)
      ≡ record { state = (out_all (played_bytes c lead trump) done rest).state; entries = (opened lead t).entries ++ (out_all (played_bytes c lead trump) done rest).entries }
  trick_played lead trump leader n t s rest h o =
      let at : ℕ → ℕ = λ j. slot_at s (slot_of lead j leader) in
      let t1 = put_word trump (slot_of lead 0 leader) (new_trick leader 0 n) (at 0) in
      let t2 = put_word trump (slot_of lead 1 leader) t1 (at 1) in
      let t3 = put_word trump (slot_of lead 2 leader) t2 (at 2) in
      rw (word_opened lead trump t (new_trick leader 0 n) (opened lead t).entries (at 0) h o refl, word_next lead trump t1 (at 1) refl refl refl, word_next lead trump t2 (at 2) refl refl refl, word_next lead trump t3 (at 3) refl refl refl)

-- ---- all tricks

-- A trick as it stands among the entries.
abbrev pub entry_of : PlainTrick → Entry
entry_of t = trick_entry (trick_done 0 t)

-- The words of tricks, four each, by seat from the opening leader on.
abbrev pub tricks_words : Conventions → ℕ → List PlainTrick → List (List ℕ)
tricks_words c lead [] = []
tricks_words c lead (t ∷ ts) = seat_word c lead t 0 ∷ seat_word c lead t 1 ∷ seat_word c lead t 2 ∷ seat_word c lead t 3 ∷ tricks_words c lead ts

abbrev pub any_trick : Bool → List PlainTrick → Bool
any_trick b [] = b
any_trick b (t ∷ ts) = true

any_true : (ts : List PlainTrick) → any_trick true ts ≡ true
any_true [] = refl
any_true (t ∷ ts) = refl

-- Play before a trick that leader will lead, with the opening leader lead and n tricks behind it.
pub record Ready (lead leader n : ℕ) (t : Tricks) : Type 0 where
  pub going : t.stopped ≡ false
  pub opens : (opened lead t).state ≡ new_trick leader 0 n
  pub same_given : (opened lead t).entries ≡ (last_trick t).entries

-- What reading comes to: the tricks ts stand behind the n tricks before them.
pub record TricksRead (n : ℕ) (t : Tricks) (ts : List PlainTrick) (o : Out Tricks) : Type 0 where
  pub given : o.entries ++ (last_trick o.state).entries ≡ (last_trick t).entries ++ map entry_of ts
  pub counted : (last_trick o.state).state.count ≡ n + length ts
  pub no_end : o.state.end ≡ 0
  pub any_is : o.state.any ≡ any_trick t.any ts

done_count : (n : ℕ) (t : PlainTrick) → (last_trick (trick_done n t)).state.count ≡ n + 1
unfolding last_trick
done_count n t = refl

done_given : (n : ℕ) (t : PlainTrick) → (last_trick (trick_done n t)).entries ≡ entry_of t ∷ []
unfolding last_trick
done_given n t = refl

-- A trick with a winner is followed by one that the winner leads.
done_ready : (lead n : ℕ) (t : PlainTrick) → t.winner < 4 → Ready lead t.winner (n + 1) (trick_done n t)
unfolding opened last_trick
done_ready lead n t h = record { going = refl; opens = rw (ne_eqb t.winner 4 (λ e. omega arith)); same_given = refl }

read_none : (n : ℕ) (t : Tricks) → (last_trick t).state.count ≡ n → t.end ≡ 0 → TricksRead n t [] (record { state = t; entries = [] })
read_none n t k e = record { given = sym (append-nil (last_trick t).entries); counted = rw k (omega arith); no_end = e; any_is = refl }

module _ (c : Conventions) (ok : Accepted c) (lead trump : ℕ) (low : lead < 4) where
  -- One more trick before others.
  read_more : (leader n : ℕ) (t : Tricks) (x : PlainTrick) (ts : List PlainTrick) → Ready lead leader n t → x.leader ≡ leader
      → put_trick trump leader n x.slots (slot_of lead 0 leader) (slot_of lead 1 leader) (slot_of lead 2 leader) (slot_of lead 3 leader) ≡ trick_done n x
      → TricksRead (n + 1) (trick_done n x) ts (out_all (played_bytes c lead trump) (trick_done n x) (tricks_words c lead ts))
      → TricksRead n t (x ∷ ts) (out_all (played_bytes c lead trump) t (tricks_words c lead (x ∷ ts)))
  read_more leader n t x ts r l p h =
      let rest = tricks_words c lead ts in
      let o = out_all (played_bytes c lead trump) (trick_done n x) rest in
      let e : out_all (played_bytes c lead trump) t (tricks_words c lead (x ∷ ts)) ≡ record { state = o.state; entries = (last_trick t).entries ++ o.entries } =
      ap (λ (m : ℕ). out_all (played_bytes c lead trump) t (slot_word c (slot_at x.slots (slot_of lead 0 m)) ∷ slot_word c (slot_at x.slots (slot_of lead 1 m)) ∷ slot_word c (slot_at x.slots (slot_of lead 2 m)) ∷ slot_word c (slot_at x.slots (slot_of lead 3 m)) ∷ rest)) l
      ∙ trick_played c ok lead trump leader n t x.slots rest r.going r.opens
      ∙ ap (λ (d : Tricks). record { state = (out_all (played_bytes c lead trump) d rest).state; entries = (opened lead t).entries ++ (out_all (played_bytes c lead trump) d rest).entries }) p
      ∙ ap (λ (es : List Entry). record { state = o.state; entries = es ++ o.entries }) r.same_given in
      rw e
      record {
        given =
            append_assoc (last_trick t).entries o.entries (last_trick o.state).entries
            ∙ ap (λ (es : List Entry). (last_trick t).entries ++ es) (h.given ∙ ap (λ (es : List Entry). es ++ map entry_of ts) (done_given n x));
        counted = h.counted ∙ omega arith;
        no_end = h.no_end;
        any_is = h.any_is ∙ any_true ts;
      }

  -- THEOREM. The tricks of cards, written by seat from the opening leader on and read with the same opening leader and trump, come out with the
  -- same leaders, slots and winners.
  pub LinPlay : (leader n : ℕ) (t : Tricks) (ks : List ℕ) → leader < 4 → every (λ k. ltb k 52) ks ≡ true → Ready lead leader n t → (last_trick t).state.count ≡ n → t.end ≡ 0
      → TricksRead n t (tricks_from trump leader ks) (out_all (played_bytes c lead trump) t (tricks_words c lead (tricks_from trump leader ks)))
  LinPlay leader n t [] h e r k z = read_none n t k z
  LinPlay leader n t (a ∷ []) h e r k z =
      let x = part_trick leader (slots a 255 255 255) in
      read_more leader n t x [] r refl (trick_done_lem trump leader n (a ∷ []) x [] lead low h e refl) (read_none (n + 1) (trick_done n x) (done_count n x) refl)
  LinPlay leader n t (a ∷ b ∷ []) h e r k z =
      let x = part_trick leader (slots a b 255 255) in
      read_more leader n t x [] r refl (trick_done_lem trump leader n (a ∷ b ∷ []) x [] lead low h e refl) (read_none (n + 1) (trick_done n x) (done_count n x) refl)
  LinPlay leader n t (a ∷ b ∷ d ∷ []) h e r k z =
      let x = part_trick leader (slots a b d 255) in
      read_more leader n t x [] r refl (trick_done_lem trump leader n (a ∷ b ∷ d ∷ []) x [] lead low h e refl) (read_none (n + 1) (trick_done n x) (done_count n x) refl)
  LinPlay leader n t (a ∷ b ∷ d ∷ f ∷ ks) h e r k z =
      let ef = both (ltb f 52) (every (λ j. ltb j 52) ks) (both (ltb d 52) _ (both (ltb b 52) _ (both (ltb a 52) _ e).1).1).1 in
      let x = full_trick trump leader (slots a b d f) in
      let w : x.winner < 4 = omega arith in
      let xs = tricks_from trump x.winner ks in
      read_more leader n t x xs r refl (trick_done_lem trump leader n (a ∷ b ∷ d ∷ f ∷ ks) x xs lead low h e refl)
      (LinPlay x.winner (n + 1) (trick_done n x) ks w ef.1 (done_ready lead n x w) (done_count n x) refl)

-- Before the first.
first_ready : (lead : ℕ) → Ready lead lead 0 no_tricks
unfolding opened last_trick
first_ready lead = record { going = refl; opens = refl; same_given = refl }

none_given : (last_trick no_tricks).entries ≡ []
unfolding last_trick
none_given = refl

none_counted : (last_trick no_tricks).state.count ≡ 0
unfolding last_trick
none_counted = refl

-- ---- the lines of a play

-- A play's section: its tricks among its entries, and its card.
pub record PlayRead (ts : List PlainTrick) (o : Out Walk) : Type 0 where
  pub given : o.entries ++ (last_trick o.state.tricks).entries ≡ map entry_of ts
  pub counted : (last_trick o.state.tricks).state.count ≡ length ts
  pub no_end : o.state.tricks.end ≡ 0
  pub any_is : o.state.tricks.any ≡ any_trick false ts

module _ (c : Conventions) (ok : Accepted c) where
  slot_token : (k : ℕ) → is_token (slot_word c k) ≡ true
  unfolding slot_word is_white
  slot_token k = by_cases (ltb k 52) (λ e. rw e (card_token_lem c ok k (ltb-true k 52 e))) (λ e. rw e)

  seats_tokens : (lead : ℕ) (t : PlainTrick) → all is_token (seat_word c lead t 0 ∷ seat_word c lead t 1 ∷ seat_word c lead t 2 ∷ seat_word c lead t 3 ∷ []) ≡ true
  seats_tokens lead t =
      let at : ℕ → ℕ = λ j. slot_at t.slots (slot_of lead j t.leader) in
      rw (slot_token (at 0), slot_token (at 1), slot_token (at 2), slot_token (at 3))

  pub tricks_good : (lead : ℕ) (ts : List PlainTrick) → all good_data (trick_lines c lead ts) ≡ true
  tricks_good lead [] = refl
  tricks_good lead (t ∷ ts) = rw (spaced_data (seat_word c lead t 0) (seat_word c lead t 1 ∷ seat_word c lead t 2 ∷ seat_word c lead t 3 ∷ []) (seats_tokens lead t)) (tricks_good lead ts)

  tricks_words_lem : (lead : ℕ) (ts : List PlainTrick) → words_in_all (trick_lines c lead ts) ≡ tricks_words c lead ts
  tricks_words_lem lead [] = refl
  tricks_words_lem lead (t ∷ ts) =
      ap (λ (x : List (List ℕ)). x ++ words_in_all (trick_lines c lead ts)) (SpacedBack (seat_word c lead t 0 ∷ seat_word c lead t 1 ∷ seat_word c lead t 2 ∷ seat_word c lead t 3 ∷ []) (seats_tokens lead t))
      ∙ ap (λ (x : List (List ℕ)). seat_word c lead t 0 ∷ seat_word c lead t 1 ∷ seat_word c lead t 2 ∷ seat_word c lead t 3 ∷ x) (tricks_words_lem lead ts)

  -- THEOREM. A play's section whose data are the lines of tricks has those tricks.
  pub PlayBack : (o : Option Open) (trump : ℕ) (qs : List Piece) (ks : List ℕ) → kind_of o ≡ 2 → opener o < 4 → every (λ k. ltb k 52) ks ≡ true → texts qs ≡ trick_lines c (opener o) (tricks_from trump (opener o) ks)
      → PlayRead (tricks_from trump (opener o) ks) (out_all (walked c o trump) no_walk qs)
  unfolding no_walk
  PlayBack o trump qs ks k h e q =
      let lead = opener o in
      let ts = tricks_from trump lead ks in
      let w = plays_walked c o trump no_walk qs k in
      let t : texts (all_tokens qs) ≡ tricks_words c lead ts = tokens_texts qs ∙ ap words_in_all q ∙ tricks_words_lem lead ts in
      let r = moved t (LinPlay c ok lead trump h lead 0 no_tricks ks h e (first_ready lead) none_counted refl) in
      let x = out_all (played_bytes c lead trump) no_tricks (texts (all_tokens qs)) in
      record {
        given = ap (λ (y : Tricks). (out_all (walked c o trump) no_walk qs).entries ++ (last_trick y).entries) w.0 ∙ ap (λ (es : List Entry). es ++ (last_trick x.state).entries) w.1 ∙ r.given ∙ ap (λ (es : List Entry). es ++ map entry_of ts) none_given;
        counted = ap (λ (y : Tricks). (last_trick y).state.count) w.0 ∙ r.counted ∙ omega arith;
        no_end = ap (λ (y : Tricks). y.end) w.0 ∙ r.no_end;
        any_is = ap (λ (y : Tricks). y.any) w.0 ∙ r.any_is;
      }
    where
      moved : {xs ys : List (List ℕ)} {ts : List PlainTrick} → xs ≡ ys → TricksRead 0 no_tricks ts (out_all (played_bytes c (opener o) trump) no_tricks ys) → TricksRead 0 no_tricks ts (out_all (played_bytes c (opener o) trump) no_tricks xs)
      moved e z = rw e z

  -- ---- one line

  -- THEOREM. The line of a trick with cards, read from where its leader leads, with the same opening leader and trump, leaves a trick with the same
  -- leader, slots and winner.
  pub LinTrick : (lead trump leader n : ℕ) (t : Tricks) (ks : List ℕ) (x : PlainTrick) (xs : List PlainTrick) → lead < 4 → leader < 4 → every (λ k. ltb k 52) ks ≡ true → Ready lead leader n t
      → tricks_from trump leader ks ≡ x ∷ xs → (out_all (played_bytes c lead trump) t (words (trick_line c lead x))).state ≡ trick_done n x
  LinTrick lead trump leader n t ks x xs h i e r m =
      let d = trick_done_lem trump leader n ks x xs lead h i e m in
      let l = trick_leader trump leader ks x xs m in
      let rest : List (List ℕ) = [] in
      ap (λ (ws : List (List ℕ)). (out_all (played_bytes c lead trump) t ws).state) (SpacedBack (seat_word c lead x 0 ∷ seat_word c lead x 1 ∷ seat_word c lead x 2 ∷ seat_word c lead x 3 ∷ []) (seats_tokens lead x))
      ∙ ap (λ (m : ℕ). (out_all (played_bytes c lead trump) t (slot_word c (slot_at x.slots (slot_of lead 0 m)) ∷ slot_word c (slot_at x.slots (slot_of lead 1 m)) ∷ slot_word c (slot_at x.slots (slot_of lead 2 m)) ∷ slot_word c (slot_at x.slots (slot_of lead 3 m)) ∷ [])).state) l
      ∙ ap (λ (o : Out Tricks). o.state) (trick_played c ok lead trump leader n t x.slots rest r.going r.opens)
      ∙ d

-- ---- tricks among the entries

trick_in : (r : List ℕ) (t : PlainTrick) (ts : List PlainTrick) → Cards t.slots → tricks_in (items_of r (map entry_of ts)) ≡ ts → tricks_in (items_of r (map entry_of (t ∷ ts))) ≡ t ∷ ts
unfolding item_of
trick_in r t ts h e = rw (slots_back t.slots h) (ap (λ (us : List PlainTrick). t ∷ us) e)

card_slot : (k : ℕ) → ltb k 52 ≡ true → is_slot k ≡ true
card_slot k e = rw e (or_true (eqb k 255))

-- THEOREM. The tricks of cards are read back from their entries.
pub TricksIn : (r : List ℕ) (trump leader : ℕ) (ks : List ℕ) → every (λ k. ltb k 52) ks ≡ true → tricks_in (items_of r (map entry_of (tricks_from trump leader ks))) ≡ tricks_from trump leader ks
TricksIn r trump leader [] e = refl
TricksIn r trump leader (a ∷ []) e =
    trick_in r (part_trick leader (slots a 255 255 255)) [] (record { a_card = card_slot a (both (ltb a 52) true e).0; b_card = refl; c_card = refl; d_card = refl }) refl
TricksIn r trump leader (a ∷ b ∷ []) e =
    let ea = both (ltb a 52) _ e in
    trick_in r (part_trick leader (slots a b 255 255)) [] (record { a_card = card_slot a ea.0; b_card = card_slot b (both (ltb b 52) true ea.1).0; c_card = refl; d_card = refl }) refl
TricksIn r trump leader (a ∷ b ∷ d ∷ []) e =
    let ea = both (ltb a 52) _ e in
    let eb = both (ltb b 52) _ ea.1 in
    trick_in r (part_trick leader (slots a b d 255)) [] (record { a_card = card_slot a ea.0; b_card = card_slot b eb.0; c_card = card_slot d (both (ltb d 52) true eb.1).0; d_card = refl }) refl
TricksIn r trump leader (a ∷ b ∷ d ∷ f ∷ ks) e =
    let ea = both (ltb a 52) _ e in
    let eb = both (ltb b 52) _ ea.1 in
    let ed = both (ltb d 52) _ eb.1 in
    let ef = both (ltb f 52) (every (λ j. ltb j 52) ks) ed.1 in
    let x = full_trick trump leader (slots a b d f) in
    trick_in r x (tricks_from trump x.winner ks) (record { a_card = card_slot a ea.0; b_card = card_slot b eb.0; c_card = card_slot d ed.0; d_card = card_slot f ef.0 }) (TricksIn r trump x.winner ks ef.1)
