-- Worked examples of planning, on cards.
use Prim.Native.Nat.{ℕ}
use mathlib.Core.Path.{◌≡◌, refl}
use mathlib.Core.Bool.{false}
use mathlib.Core.List.{List, [], ◌∷◌, ◌++◌, map}
use lib.ListN.{replicate}
use Rattle.reader.specs.declared.deal.Hands.{Hands}
use Rattle.reader.specs.Deals.{ones, card_count, whole_hands, hand_words, hands_of_words}
use Rattle.planning.specs.declared.state.BoardState.{BoardState}
use Rattle.planning.specs.declared.state.BoardState.TheVariants.{Blank, Own, Old, Near, Twin, Solve}
use Rattle.std.specs.Prelude.{Option, Some, None}
use Rattle.planning.specs.declared.behind.Behind.{Behind}
use Rattle.tables.specs.declared.refused.Edition.TheVariants as edition
use Rattle.planning.specs.Cards.{card_deal, is_whole, has_table, has_deal, fits}
use Rattle.planning.specs.States.{BoardPlan, first_with, state_of, board_plans}
use Rattle.planning.specs.Slips.{slip_of, slips_of, totals_of, behind_at}

abbrev pub hands : ℕ → ℕ → ℕ → ℕ → Hands
hands n e s w = record { north = n; east = e; south = s; west = w }

-- All spades, hearts, diamonds and clubs are 4503049871556608, 549688705024, 67100672 and 8191. In the deal a N has the spades, in the
-- deal b E has.
abbrev pub a : Hands
a = hands 4503049871556608 549688705024 67100672 8191

abbrev pub b : Hands
b = hands 8191 4503049871556608 549688705024 67100672

-- A card with word 9, hands, word 38, and a record from start to end.
abbrev pub card : ℕ → Hands → ℕ → ℕ → ℕ → List ℕ
card kind h table start end =
    replicate 9 0 ++ (kind ∷ hand_words h) ++ replicate 20 0 ++ (table ∷ replicate 21 0) ++ (start ∷ end ∷ 0 ∷ 0 ∷ [])

abbrev states : List (List ℕ) → List (List ℕ) → List BoardState
states olds news = map (λ (j : BoardPlan). j.state) (board_plans olds news)

-- ---- the listing's example: old, one board, a with a table; new, a, b, b, and a board without a deal

abbrev olds : List (List ℕ)
olds = card 1 a 1 0 100 ∷ []

abbrev news : List (List ℕ)
news = card 1 a 0 0 80 ∷ card 1 b 0 80 160 ∷ card 1 b 0 160 240 ∷ card 0 (hands 0 0 0 0) 0 240 253 ∷ []

pin_states : states olds news ≡ Old 1 ∷ Solve ∷ Twin 2 ∷ Blank ∷ []
unfolding ones card_count whole_hands hand_words hands_of_words card_deal is_whole has_table has_deal fits first_with state_of board_plans
pin_states = refl

pin_slips : slips_of (board_plans olds news) ≡ (2 ∷ 8191 ∷ 4503049871556608 ∷ 549688705024 ∷ 67100672 ∷ []) ∷ []
unfolding ones card_count whole_hands hand_words hands_of_words card_deal is_whole has_table has_deal fits first_with state_of board_plans slip_of
pin_slips = refl

pin_totals : totals_of (board_plans olds news) ≡ record { boards = 4; blank = 1; own = 0; old = 1; near = 0; twin = 1; solve = 1 }
unfolding ones card_count whole_hands hand_words hands_of_words card_deal is_whole has_table has_deal fits first_with state_of board_plans totals_of
pin_totals = refl

-- A record of the old edition, and of the new.
abbrev in_old : ℕ → ℕ → Option Behind
in_old start end = Some (record { edition = edition.Old; start = start; end = end })

abbrev in_new : ℕ → ℕ → Option Behind
in_new start end = Some (record { edition = edition.New; start = start; end = end })

-- The record behind each: the old board's, its own, the first b's, its own; none at 0 and past the last.
pin_behind : map (behind_at olds news (board_plans olds news)) (0 ∷ 1 ∷ 2 ∷ 3 ∷ 4 ∷ 5 ∷ []) ≡ None ∷ in_old 0 100 ∷ in_new 80 160 ∷ in_new 80 160 ∷ in_new 240 253 ∷ None ∷ []
unfolding ones card_count whole_hands hand_words hands_of_words card_deal is_whole has_table has_deal fits first_with state_of board_plans
pin_behind = refl

-- ---- an unparsed deal silences nothing: word 9 is 2, the hands are the same and there is a table

pin_unparsed_old : states (card 2 a 1 0 10 ∷ []) (card 1 a 0 0 10 ∷ []) ≡ Solve ∷ []
unfolding ones card_count whole_hands hand_words hands_of_words card_deal is_whole has_table has_deal fits first_with state_of board_plans
pin_unparsed_old = refl

pin_unparsed_new : states [] (card 2 a 1 0 10 ∷ card 1 a 0 10 20 ∷ card 2 a 0 20 30 ∷ card 1 a 0 30 40 ∷ []) ≡ Blank ∷ Solve ∷ Blank ∷ Twin 2 ∷ []
unfolding ones card_count whole_hands hand_words hands_of_words card_deal is_whole has_table has_deal fits first_with state_of board_plans
pin_unparsed_new = refl

-- ---- near: the source may stand after the board, and is the first with a table; old comes before near

pin_near : states [] (card 1 a 0 0 10 ∷ card 1 b 2 10 20 ∷ card 1 a 2 20 30 ∷ card 1 a 1 30 40 ∷ []) ≡ Near 3 ∷ Own ∷ Own ∷ Own ∷ []
unfolding ones card_count whole_hands hand_words hands_of_words card_deal is_whole has_table has_deal fits first_with state_of board_plans
pin_near = refl

pin_old_first : states (card 1 b 1 0 10 ∷ card 1 a 0 10 20 ∷ card 1 a 1 20 30 ∷ card 1 a 2 30 40 ∷ []) (card 1 a 0 0 10 ∷ card 1 a 1 10 20 ∷ []) ≡ Old 3 ∷ Own ∷ []
unfolding ones card_count whole_hands hand_words hands_of_words card_deal is_whole has_table has_deal fits first_with state_of board_plans
pin_old_first = refl

-- A hand of fewer than 13 cards is no whole deal: 4095 has twelve.
pin_short : is_whole (card 1 (hands 4503049871556608 549688705024 67100672 4095) 0 0 10) ≡ false
unfolding ones card_count whole_hands hand_words hands_of_words card_deal is_whole
pin_short = refl
