-- The auction and the play of a LIN board are read back from its record.
use Prim.Native.Nat.{ℕ, ◌<◌}
use mathlib.Core.Path.{◌≡◌, refl, sym, ap, ◌∙◌}
use mathlib.Core.Bool.{Bool, true, false, cond, not, ◌&&◌}
use mathlib.Core.List.{List, [], ◌∷◌, ◌++◌, map, append_assoc, append-nil}
use mathlib.Core.Option.{Option, none, some}
use native.Mathlib.Omega.{arith}
use lib.Dec.{ltb}
use borrow.Author.Tests.{lt-ltb, not-true}
use Rattle.tables.specs.declared.letters.Conventions.{Conventions}
use Rattle.tables.specs.Text.{ascii, is_white}
use Rattle.tables.specs.Letters.{Accepted, every}
use Rattle.tables.proofs.Laws.{by_cases, both, clash}
use Rattle.reader.specs.TagBytes.{good_name, good_value}
use Rattle.reader.specs.Words.{call_token}
use Rattle.reader.specs.Names.{tag_names, tag_number, contract_name}
use Rattle.reader.specs.Boards.{contract_by}
use Rattle.reader.specs.Plain.{PlainTrick, PlainPlay}
use Rattle.writer.specs.Sections.{call_text, rounds, end_lines, ends_continued, auction_lines, notes_from, note_values}
use Rattle.writer.specs.Tags.{WrittenTag, or_empty, seat_text, note_tag, head_tags, table_tags, deal_tags, auction_tags, play_tags, written_tags}
use Rattle.writer.specs.Remarks.{WrittenLine, tag_line, data_line, wrote, directives_of, blocks_of, directives_after, blocks_after, tags_lines, body_lines, line_text, lines_text}
use Rattle.writer.specs.Pages.{built_in_header}
use Rattle.writer.proofs.GroupTexts.{lines_join}
use Rattle.lin.specs.Playing.{tricks_from, trick_lines}
use Rattle.lin.specs.LinBoards.{LinBoard, plain_call, auction_of, play_with, play_of, has_bid, trump_of, opening_leader, contract_value, lin_tricks, lin_plain, lin_play, lin_lines}
use Rattle.demands.specs.PageBack.{all, good_data}
use Rattle.demands.specs.Lin.{WellBoard, lin_own, LinRecord, last, ended, only, first, Calls, auction_calls}
use Rattle.demands.proofs.BoardWritable.{seat_good, good_written}
use Rattle.demands.proofs.SectionTokens.{Stops, nothing_stops}
use Rattle.demands.proofs.SectionsBack.{At, is_section, plain_tag, auction_tag_lem, play_tag, blank_stops, tag_stops, blank_at, start_at, header_at, SectionsRead, end_at}
use Rattle.lin.proofs.BoardTextLaws.{no_notes}
use Rattle.demands.proofs.LinWritable.{head_of, sections_of, tags_are, TrumpBack, LinTagsGood}

-- ---- the lines of tags without remarks

abbrev bare_lines : List WrittenTag → List WrittenLine
bare_lines [] = []
bare_lines (w ∷ ws) = tag_line w.name w.value ∷ (map data_line w.lines ++ bare_lines ws)

same_both : {A : Type 0} (b : Bool) (x : A) → cond b x x ≡ x
same_both true x = refl
same_both false x = refl

bare_is : (earlier ws : List WrittenTag) → tags_lines [] [] earlier ws ≡ bare_lines ws
unfolding directives_after blocks_after
bare_is earlier [] = refl
bare_is earlier (w ∷ ws) =
    rw (same_both {A = List WrittenLine} (wrote w.name earlier) [])
    (ap (λ (ls : List WrittenLine). tag_line w.name w.value ∷ (map data_line w.lines ++ ls)) (bare_is (earlier ++ w ∷ []) ws))

lines_are : (c : Conventions) (b : LinBoard) → lin_lines c b ≡ bare_lines (written_tags c (lin_plain c b) (lin_play c b))
unfolding lin_lines body_lines lin_plain directives_of blocks_of
lines_are c b = append-nil (tags_lines [] [] [] (written_tags c (lin_plain c b) (lin_play c b))) ∙ bare_is [] (written_tags c (lin_plain c b) (lin_play c b))

-- ---- tags without data

abbrev no_lines : List (List ℕ) → Bool
no_lines [] = true
no_lines (l ∷ ls) = false

abbrev is_bare : WrittenTag → Bool
is_bare w = no_lines w.lines && not (is_section (tag_number w.name))

none_there : (ls : List (List ℕ)) → no_lines ls ≡ true → ls ≡ []
none_there [] e = refl
none_there (l ∷ ls) e = clash e

-- The contract's trump after tags.
abbrev trump_after : Conventions → ℕ → List WrittenTag → ℕ
trump_after c trump [] = trump
trump_after c trump (w ∷ ws) = trump_after c (contract_by c (tag_number w.name) w.value trump) ws

module _ (c : Conventions) (ok : Accepted c) (r : List ℕ) {a : Option Calls} {p : Option PlainPlay} where
  bare_read : (trump : ℕ) (ws vs : List WrittenTag) (rest : List ℕ) → all good_written ws ≡ true → all is_bare ws ≡ true
      → At c r (lines_text (bare_lines (ws ++ vs)) ++ rest) a p trump → At c r (lines_text (bare_lines vs) ++ rest) a p (trump_after c trump ws)
  bare_read trump [] vs rest g e h = h
  bare_read trump (w ∷ ws) vs rest g e h =
      let x = both (good_written w) (all good_written ws) g in
      let y = both (is_bare w) (all is_bare ws) e in
      let i = both (good_name w.name && good_value w.value) (all good_data w.lines) x.0 in
      let j = both (no_lines w.lines) (not (is_section (tag_number w.name))) y.0 in
      let more = lines_text (bare_lines (ws ++ vs)) in
      let t = line_text (tag_line w.name w.value) in
      let q : (t ++ lines_text (map data_line w.lines ++ bare_lines (ws ++ vs))) ++ rest ≡ t ++ (more ++ rest)
      = ap (λ (ls : List (List ℕ)). (t ++ lines_text (map data_line ls ++ bare_lines (ws ++ vs))) ++ rest) (none_there w.lines j.0) ∙ append_assoc t more rest in
      bare_read (contract_by c (tag_number w.name) w.value trump) ws vs rest x.1 y.1 (plain_tag c ok r w.name w.value (more ++ rest) i.0 (not-true (is_section (tag_number w.name)) j.1) (rw q at h))

-- ---- the fourteen tags

all_parts : {A : Type 0} (f : A → Bool) (xs ys : List A) → all f (xs ++ ys) ≡ true → (all f xs ≡ true) × (all f ys ≡ true)
all_parts f [] ys e = (refl, e)
all_parts f (x ∷ xs) ys e =
    let h = both (f x) (all f (xs ++ ys)) e in
    let i = all_parts f xs ys h.1 in
    (rw (h.0, i.0), i.1)

head_bare : (c : Conventions) (b : LinBoard) → b.dealing.dealer < 4 → all is_bare (head_of c b) ≡ true
unfolding head_tags deal_tags table_tags lin_plain tag_number tag_names
head_bare c b h = rw (lt-ltb b.dealing.dealer 4 h)

head_trump : (c : Conventions) (b : LinBoard) → b.dealing.dealer < 4 → trump_after c 4 (head_of c b) ≡ contract_by c contract_name (or_empty (contract_value c b)) 4
unfolding head_tags deal_tags table_tags lin_plain tag_number tag_names contract_by
head_trump c b h = rw (lt-ltb b.dealing.dealer 4 h)

-- ---- auction and play

calls_written : (c : Conventions) (ks : List ℕ) → map (call_text c) (map plain_call ks) ≡ map (call_token c) ks
calls_written c [] = refl
calls_written c (k ∷ ks) = rw (append-nil (call_token c k)) (ap (λ (ts : List (List ℕ)). call_token c k ∷ ts) (calls_written c ks))

-- An auction without an end and without notes.
auction_written : (c : Conventions) (d k : ℕ) (ks : List ℕ)
    → auction_tags c [] (auction_of d (k ∷ ks)) ≡ record { name = ascii "Auction"; value = seat_text c d; lines = rounds (map (call_token c) (k ∷ ks)) } ∷ []
unfolding auction_tags auction_lines note_values end_lines
auction_written c d k ks =
    let cs = map plain_call (k ∷ ks) in
    let l : rounds (map (call_text c) cs) ++ cond (ends_continued cs) [] [] ≡ rounds (map (call_token c) (k ∷ ks)) =
    ap (λ (ls : List (List ℕ)). rounds (map (call_text c) cs) ++ ls) (same_both {A = List (List ℕ)} (ends_continued cs) []) ∙ append-nil (rounds (map (call_text c) cs)) ∙ ap rounds (calls_written c (k ∷ ks)) in
    ap (λ (ls : List (List ℕ)). record { name = ascii "Auction"; value = seat_text c d; lines = ls } ∷ map note_tag (notes_from 256 0 [])) l
    ∙ ap (λ (vs : List (List ℕ)). record { name = ascii "Auction"; value = seat_text c d; lines = rounds (map (call_token c) (k ∷ ks)) } ∷ map note_tag vs) (no_notes 256 0)

-- The lines of one tag before others.
one_tag : (w : WrittenTag) (ws : List WrittenTag) (rest : List ℕ)
    → lines_text (bare_lines (w ∷ ws)) ++ rest ≡ line_text (tag_line w.name w.value) ++ (lines_text (map data_line w.lines) ++ (lines_text (bare_lines ws) ++ rest))
one_tag w ws rest =
    let t = line_text (tag_line w.name w.value) in
    let ds = map data_line w.lines in
    append_assoc t (lines_text (ds ++ bare_lines ws)) rest
    ∙ ap (λ (x : List ℕ). t ++ x) (ap (λ (x : List ℕ). x ++ rest) (lines_join ds (bare_lines ws)) ∙ append_assoc (lines_text ds) (lines_text (bare_lines ws)) rest)

at_text : (c : Conventions) (r : List ℕ) {x y : List ℕ} {a : Option Calls} {p : Option PlainPlay} {trump : ℕ} → x ≡ y → At c r x a p trump → At c r y a p trump
at_text c r e h = rw e at h

module _ (c : Conventions) (ok : Accepted c) (r : List ℕ) {trump : ℕ} where
  auction_read : (d : ℕ) (ks : List ℕ) (vs : List WrittenTag) (rest : List ℕ) → d < 4 → every (λ j. ltb j 47) ks ≡ true → Stops (lines_text (bare_lines vs) ++ rest)
      → At c r (lines_text (bare_lines (auction_tags c [] (auction_of d ks) ++ vs)) ++ rest) none none trump
      → At c r (lines_text (bare_lines vs) ++ rest) (auction_calls (auction_of d ks)) none trump
  unfolding auction_tags
  auction_read d [] vs rest l e s h = h
  auction_read d (k ∷ ks) vs rest l e s h =
      let w : WrittenTag = record { name = ascii "Auction"; value = seat_text c d; lines = rounds (map (call_token c) (k ∷ ks)) } in
      let q : lines_text (bare_lines (auction_tags c [] (auction_of d (k ∷ ks)) ++ vs)) ++ rest ≡ line_text (tag_line w.name w.value) ++ (lines_text (map data_line w.lines) ++ (lines_text (bare_lines vs) ++ rest))
      = ap (λ (ws : List WrittenTag). lines_text (bare_lines (ws ++ vs)) ++ rest) (auction_written c d k ks) ∙ one_tag w vs rest in
      auction_tag_lem c ok r d k ks (lines_text (bare_lines vs) ++ rest) l e s (at_text c r q h)

  play_read : {a : Option Calls} (lead : ℕ) (ks : List ℕ) (ts : List PlainTrick) (rest : List ℕ) → lead < 4 → every (λ j. ltb j 52) ks ≡ true → Stops rest → tricks_from trump lead ks ≡ ts
      → At c r (lines_text (bare_lines (play_tags c (trick_lines c lead ts) (play_with lead ts))) ++ rest) a none trump → At c r rest a (play_with lead ts) trump
  unfolding play_tags
  play_read lead ks [] rest l e s m h = h
  play_read lead ks (t ∷ ts) rest l e s m h =
      let w : WrittenTag = record { name = ascii "Play"; value = seat_text c lead; lines = trick_lines c lead (t ∷ ts) } in
      play_tag c ok r lead ks t ts rest l e s m (at_text c r (one_tag w [] rest) h)

-- ---- a board

module _ (c : Conventions) (ok : Accepted c) where
  play_stops : (play : List (List ℕ)) (o : Option PlainPlay) (rest : List ℕ) → Stops rest → Stops (lines_text (bare_lines (play_tags c play o)) ++ rest)
  unfolding play_tags good_name is_white
  play_stops play none rest s = s
  play_stops play (some x) rest s =
      let w : WrittenTag = record { name = ascii "Play"; value = seat_text c x.leader; lines = play } in
      rw (one_tag w [] rest) (tag_stops (ascii "Play") (seat_text c x.leader) (lines_text (map data_line play) ++ rest) (rw (seat_good c ok x.leader)))

  module _ (r : List ℕ) (b : LinBoard) (w : WellBoard b) (rest : List ℕ) (s : Stops rest) where
    play_then : {a : Option Calls} (trump : ℕ) → contract_by c contract_name (or_empty (contract_value c b)) 4 ≡ trump
        → At c r (lines_text (bare_lines (play_tags c (lin_play c b) (play_of b))) ++ rest) a none trump → At c r rest a (play_of b) trump
    unfolding play_tags lin_play lin_tricks
    play_then trump e h =
        by_cases (has_bid b)
        (λ t.
        let z : trump ≡ trump_of b = sym e ∙ TrumpBack c ok b t in
        let i : At c r (lines_text (bare_lines (play_tags c (trick_lines c (opening_leader b) (lin_tricks b)) (play_with (opening_leader b) (lin_tricks b)))) ++ rest) _ none trump = rw t at h in
        rw t (play_read c ok r (opening_leader b) b.cards (lin_tricks b) rest (omega arith) w.cards_low s (ap (λ (x : ℕ). tricks_from x (opening_leader b) b.cards) z) i))
        (λ t. rw t (rw t at h))

    board_read : At c r (lines_text (lin_lines c b) ++ rest) none none 4 → At c r rest (auction_calls (auction_of b.dealing.dealer b.calls)) (play_of b) (trump_after c 4 (head_of c b))
    board_read h =
        let ws = head_of c b in
        let vs = sections_of c b in
        let play = play_tags c (lin_play c b) (play_of b) in
        let q : lines_text (lin_lines c b) ++ rest ≡ lines_text (bare_lines (ws ++ vs)) ++ rest = ap (λ (ls : List WrittenLine). lines_text ls ++ rest) (lines_are c b ∙ ap bare_lines (tags_are c b)) in
        let g = all_parts good_written ws vs (rw (tags_are c b) at (LinTagsGood c ok b w)) in
        let i = bare_read c ok r 4 ws vs rest g.0 (head_bare c b w.dealer_low) (at_text c r q h) in
        let j = auction_read c ok r b.dealing.dealer b.calls play rest w.dealer_low w.calls_low (play_stops (lin_play c b) (play_of b) rest s) i in
        play_then (trump_after c 4 ws) (sym (head_trump c b w.dealer_low)) j

  to_end : (r : List ℕ) (b : LinBoard) → WellBoard b → At c r (lin_own c b) none none 4 → SectionsRead c r (auction_calls (auction_of b.dealing.dealer b.calls)) (play_of b)
  to_end r b w h = end_at c r (board_read r b w [] nothing_stops (at_text c r (sym (append-nil (lin_own c b))) h))

  to_blank : (r : List ℕ) (b : LinBoard) → WellBoard b → At c r (lin_own c b ++ 10 ∷ []) none none 4
      → SectionsRead c r (auction_calls (auction_of b.dealing.dealer b.calls)) (play_of b)
  to_blank r b w h = end_at c r (blank_at c r [] (board_read r b w (10 ∷ []) (blank_stops []) h))

  -- THEOREM. Both sections of a board's record.
  pub LinSections : (b : LinBoard) → WellBoard b → (r : List ℕ) → LinRecord c b r
      → SectionsRead c r (auction_calls (auction_of b.dealing.dealer b.calls)) (play_of b)
  LinSections b w r last = to_end (lin_own c b) b w (start_at c (lin_own c b))
  LinSections b w r ended = to_blank (lin_own c b ++ 10 ∷ []) b w (start_at c (lin_own c b ++ 10 ∷ []))
  LinSections b w r only = to_end (built_in_header ++ lin_own c b) b w (header_at c (lin_own c b))
  LinSections b w r first = rw append_assoc (to_blank (built_in_header ++ (lin_own c b ++ 10 ∷ [])) b w (header_at c (lin_own c b ++ 10 ∷ [])))
