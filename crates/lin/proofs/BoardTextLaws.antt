-- A board's lines as one text, as the code puts them.
use Prim.Native.Nat.{ℕ, ◌<◌}
use mathlib.Core.Path.{◌≡◌, refl, sym, ◌∙◌}
use mathlib.Core.Bool.{Bool, true, false, cond, not}
use mathlib.Core.List.{List, [], ◌∷◌, ◌++◌, map, append-nil, append_assoc}
use mathlib.Core.Option.{none, some}
use native.Mathlib.Omega.{arith}
use lib.Dec.{eqb}
use borrow.Author.Tests.{ne_eqb, lt-ltb}
use Rattle.tables.specs.declared.letters.Conventions.{Conventions}
use Rattle.tables.specs.Text.{ascii}
use Rattle.tables.proofs.Laws.{by_cases}
use Rattle.reader.specs.declared.play.Slots.{Slots}
use Rattle.reader.specs.Words.{call_token}
use Rattle.reader.specs.Tag.{tag_text}
use Rattle.reader.specs.Play.{winner_of}
use Rattle.reader.specs.Plain.{PlainTrick}
use Rattle.reader.proofs.DealLaws.{HandsBack}
use Rattle.writer.specs.Sections.{call_text, end_lines, ends_continued, auction_lines, notes_from, note_values}
use Rattle.writer.specs.Tags.{WrittenTag, seat_text, early_extras, late_extras, head_tags, table_tags, deal_tags, auction_tags, play_tags, written_tags}
use Rattle.writer.specs.Tags as T
use Rattle.writer.specs.Remarks.{wrote, directives_of, blocks_of, data_line, directives_after, blocks_after, tags_lines, body_lines, line_text, lines_text}
use Rattle.writer.specs.Items.{tokens_text, data_text}
use Rattle.writer.proofs.GroupTexts.{lines_join, data_lines_lem}
use Rattle.writer.proofs.NotePlaces.{none_between}
use Rattle.writer.proofs.SectionTexts.{tokens_rounds}
use Rattle.lin.specs.declared.survey.Survey.{Survey}
use Rattle.lin.specs.Pairs.{Pair}
use Rattle.lin.specs.Dealing.{no_dealing, dealing_from, dealt_hands}
use Rattle.lin.specs.DealingSteps.{told}
use Rattle.lin.specs.declared.bidding.Contract.{Contract}
use Rattle.lin.specs.Bidding.{vulnerability_from, calls_from, no_contract, contract_from, contract_token}
use Rattle.lin.specs.BiddingSteps.{last_text}
use Rattle.lin.specs.Playing.{cards_played, slots, full_trick, part_trick, tricks_from, trick_line, trick_lines}
use Rattle.lin.specs.PlayingSteps.{trick_text, empty_trick, last_line, trick_texts}
use Rattle.lin.specs.PieceSteps.{is_any}
use Rattle.lin.specs.LinBoards.{LinBoard, board_of, contract_of, declarer_in, opening_leader, trump_of, lin_tricks, plain_call, auction_of, play_with, play_of, lin_plain, lin_play, lin_lines}
use Rattle.lin.specs.BoardSteps.{lin_head_text, lin_result_text, call_tokens, lin_auction_text, played_text, lin_play_text, survey_text}

-- ---- the play

-- A trick's line, whatever its winner.
trick_line_lem : (c : Conventions) (lead : ℕ) (t : PlainTrick) (n : ℕ)
    → trick_line c lead t ++ 10 ∷ [] ≡ trick_text c lead (record { leader = t.leader; slots = t.slots; count = n })
unfolding trick_text
trick_line_lem c lead t n = simp append_assoc

last_trick_lem : (c : Conventions) (lead leader : ℕ) (s : Slots) (n : ℕ)
    → data_text (trick_lines c lead (part_trick leader s ∷ [])) ≡ trick_text c lead (record { leader = leader; slots = s; count = n })
last_trick_lem c lead leader s n = append-nil _ ∙ trick_line_lem c lead (part_trick leader s) n

pub tricks_text_lem : (c : Conventions) (lead trump leader : ℕ) (ks : List ℕ)
    → data_text (trick_lines c lead (tricks_from trump leader ks)) ≡ trick_texts c lead trump (empty_trick leader) ks
unfolding last_line
tricks_text_lem c lead trump leader [] = refl
tricks_text_lem c lead trump leader (a ∷ []) = last_trick_lem c lead leader (slots a 255 255 255) 1
tricks_text_lem c lead trump leader (a ∷ b ∷ []) = last_trick_lem c lead leader (slots a b 255 255) 2
tricks_text_lem c lead trump leader (a ∷ b ∷ d ∷ []) = last_trick_lem c lead leader (slots a b d 255) 3
tricks_text_lem c lead trump leader (a ∷ b ∷ d ∷ e ∷ ks) =
    rw (trick_line_lem c lead (full_trick trump leader (slots a b d e)) 4, tricks_text_lem c lead trump (winner_of trump leader (slots a b d e)) ks)

-- ---- tags without remarks

-- A tag on its line, `[` (91), a blank (32), quotes (34), `]` (93), an LF (10), and what follows it.
abbrev tag_then : List ℕ → List ℕ → List ℕ → List ℕ
tag_then n v rest = 91 ∷ (n ++ 32 ∷ 34 ∷ (v ++ 34 ∷ 93 ∷ 10 ∷ rest))

tag_then_lem : (n v rest : List ℕ) → (tag_text n v ++ 10 ∷ []) ++ rest ≡ tag_then n v rest
unfolding tag_text
tag_then_lem n v rest = simp append_assoc

-- Tags with their data lines.
abbrev tags_text : List WrittenTag → List ℕ
tags_text [] = []
tags_text (w ∷ ws) = tag_then w.name w.value (data_text w.lines ++ tags_text ws)

either_none : {A : Type 0} (b : Bool) → cond {A = List A} b [] [] ≡ []
either_none true = refl
either_none false = refl

tags_alone : (earlier ws : List WrittenTag) → lines_text (tags_lines [] [] earlier ws) ≡ tags_text ws
unfolding directives_after blocks_after line_text
tags_alone earlier [] = refl
tags_alone earlier (w ∷ ws) =
    rw (
      either_none (wrote w.name earlier),
      lines_join (map data_line w.lines) (tags_lines [] [] (earlier ++ w ∷ []) ws),
      data_lines_lem w.lines,
      tags_alone (earlier ++ w ∷ []) ws,
    )
    (tag_then_lem w.name w.value (data_text w.lines ++ tags_text ws))

body_alone : (c : Conventions) (b : LinBoard) (ws : List WrittenTag) → lines_text (body_lines (lin_plain c b) ws) ≡ tags_text ws
unfolding body_lines lin_plain directives_of blocks_of
body_alone c b ws = rw (append-nil (tags_lines (directives_of (lin_plain c b)) (blocks_of (lin_plain c b)) [] ws)) (tags_alone [] ws)

-- ---- the auction

pub no_notes : (k n : ℕ) → notes_from k n [] ≡ []
no_notes k n = none_between k n [] (λ m u v. refl)

calls_plain : (c : Conventions) (ks : List ℕ) → map (call_text c) (map plain_call ks) ≡ call_tokens c ks
calls_plain c [] = refl
calls_plain c (k ∷ ks) = rw (append-nil (call_token c k), calls_plain c ks)

rounds_text : (c : Conventions) (dealer : ℕ) (ks : List ℕ)
    → data_text (auction_lines c (record { dealer = dealer; end = 0; before = 0; calls = map plain_call ks })) ≡ tokens_text 0 (call_tokens c ks)
unfolding auction_lines end_lines
rounds_text c dealer ks =
    rw (either_none (ends_continued (map plain_call ks)), append-nil, calls_plain c ks) (sym (tokens_rounds 0 (call_tokens c ks)))

auction_text_lem : (c : Conventions) (dealer : ℕ) (ks : List ℕ) (ws : List WrittenTag)
    → tags_text (auction_tags c [] (auction_of dealer ks) ++ ws) ≡ cond (is_any ks) (lin_auction_text c dealer ks) [] ++ tags_text ws
unfolding auction_tags lin_auction_text note_values
auction_text_lem c dealer [] ws = refl
auction_text_lem c dealer (k ∷ ks) ws = rw (no_notes 256 0, rounds_text c dealer (k ∷ ks)) (simp append_assoc)

-- ---- the play's section

played_tags : (c : Conventions) (lines : List (List ℕ)) (trump lead : ℕ) (ks : List ℕ)
    → tags_text (play_tags c lines (play_with lead (tricks_from trump lead ks)))
    ≡ cond (is_any ks) (ascii "[Play \"" ++ (seat_text c lead ++ (ascii "\"]\n" ++ data_text lines))) []
unfolding play_tags
played_tags c lines trump lead [] = refl
played_tags c lines trump lead (a ∷ []) = rw (append-nil (data_text lines))
played_tags c lines trump lead (a ∷ b ∷ []) = rw (append-nil (data_text lines))
played_tags c lines trump lead (a ∷ b ∷ d ∷ []) = rw (append-nil (data_text lines))
played_tags c lines trump lead (a ∷ b ∷ d ∷ e ∷ ks) = rw (append-nil (data_text lines))

-- None without a bid.
play_text_lem : (c : Conventions) (bid trump lead : ℕ) (ks : List ℕ)
    → tags_text (play_tags c (trick_lines c lead (tricks_from trump lead ks)) (cond (not (eqb bid 0)) (play_with lead (tricks_from trump lead ks)) none))
    ≡ cond (eqb bid 0) [] (cond (is_any ks) (played_text c lead trump ks) [])
unfolding play_tags
play_text_lem c bid trump lead ks = pick (eqb bid 0)
  where
    pick : (b : Bool)
        → tags_text (play_tags c (trick_lines c lead (tricks_from trump lead ks)) (cond (not b) (play_with lead (tricks_from trump lead ks)) none))
        ≡ cond b [] (cond (is_any ks) (played_text c lead trump ks) [])
    pick true = refl
    pick false = played_tags c (trick_lines c lead (tricks_from trump lead ks)) trump lead ks ∙ rw (tricks_text_lem c lead trump lead ks)

-- ---- the tags of every board

contract_text_lem : (c : Conventions) (k : Contract) → T.or_empty (cond (not (eqb k.bid 0)) (some (contract_token c k)) none) ≡ last_text c k
unfolding last_text
contract_text_lem c k = by_cases (eqb k.bid 0) (λ e. rw e) (λ e. rw e)

-- All that stands before the auction.
head_tags_lem : (c : Conventions) (b : LinBoard) (ws : List WrittenTag) → b.dealing.dealer < 4 → b.vulnerability < 4
    → tags_text (head_tags c (lin_plain c b) ++ (early_extras [] ++ (deal_tags c (lin_plain c b) ++ (late_extras [] ++ ws))))
    ≡ lin_head_text c b.dealing.dealer b.vulnerability (dealt_hands b.dealing) ++ (lin_result_text c (declarer_in b) (contract_of b) ++ tags_text ws)
unfolding head_tags early_extras deal_tags late_extras table_tags lin_plain lin_head_text lin_result_text T.result_text
head_tags_lem c b ws h k =
    rw (
      lt-ltb b.dealing.dealer 4 h,
      ne_eqb b.vulnerability 4 (λ e. omega arith),
      HandsBack (dealt_hands b.dealing),
      contract_text_lem c (contract_of b),
    )
    (simp append_assoc)

-- A board's lines, from what is known of it.
pub lines_text_lem : (c : Conventions) (b : LinBoard) → b.dealing.dealer < 4 → b.vulnerability < 4
    → lines_text (lin_lines c b)
    ≡ lin_head_text c b.dealing.dealer b.vulnerability (dealt_hands b.dealing)
    ++ (lin_result_text c (declarer_in b) (contract_of b)
    ++ (cond (is_any b.calls) (lin_auction_text c b.dealing.dealer b.calls) []
    ++ cond (eqb (contract_of b).bid 0) [] (cond (is_any b.cards) (played_text c (opening_leader b) (trump_of b) b.cards) [])))
unfolding lin_lines lin_play lin_tricks written_tags lin_plain head_tags
lines_text_lem c b h k =
    body_alone c b (written_tags c (lin_plain c b) (lin_play c b))
    ∙ (head_tags_lem c b _ h k
    ∙ rw (
      auction_text_lem c b.dealing.dealer b.calls (play_tags c (trick_lines c (opening_leader b) (tricks_from (trump_of b) (opening_leader b) b.cards)) (play_of b)),
      play_text_lem c (contract_of b).bid (trump_of b) (opening_leader b) b.cards,
    ))

-- ---- from the survey

-- What a survey of pairs has.
pub record SurveyIs (c : Conventions) (ps : List Pair) (s : Survey) : Type 0 where
  pub deal_is : s.deal ≡ told (dealing_from c no_dealing ps)
  pub vulnerability_is : s.vulnerability ≡ vulnerability_from 0 ps
  pub called_is : s.called ≡ is_any (calls_from c ps)
  pub contract_is : s.contract ≡ contract_from 0 no_contract (calls_from c ps)
  pub played_is : s.played ≡ is_any (cards_played c ps)

-- THEOREM. A board's lines are the text that its survey gives.
pub board_text : (c : Conventions) (ps : List Pair) (s : Survey) → SurveyIs c ps s
    → (board_of c ps).dealing.dealer < 4 → (board_of c ps).vulnerability < 4
    → lines_text (lin_lines c (board_of c ps)) ≡ survey_text c s (dealt_hands (board_of c ps).dealing) ps
unfolding board_of survey_text lin_play_text contract_of declarer_in
board_text c ps s f h k =
    rw (f.deal_is, f.vulnerability_is, f.called_is, f.contract_is, f.played_is) (lines_text_lem c (board_of c ps) h k)
