-- What the functions of a board put, from what the code knows of it.
use Rattle.std.specs.Prelude.{ℕ, cond, List, [], ◌++◌, map, eqb}
use Rattle.tables.specs.declared.letters.Conventions.{Conventions}
use Rattle.tables.specs.Text.{ascii}
use Rattle.reader.specs.declared.deal.Hands.{Hands}
use Rattle.reader.specs.Words.{call_token, vulnerability_token, trump_suit}
use Rattle.reader.specs.Deals.{deal_text}
use Rattle.writer.specs.Tags.{seat_text}
use Rattle.writer.specs.Items.{tokens_text}
use Rattle.lin.specs.declared.survey.Survey.{Survey}
use Rattle.lin.specs.Pairs.{Pair}
use Rattle.lin.specs.declared.bidding.Contract.{Contract}
use Rattle.lin.specs.Bidding.{calls_from, strain, next_seat, declarer_of}
use Rattle.lin.specs.BiddingSteps.{last_text}
use Rattle.lin.specs.Playing.{cards_played}
use Rattle.lin.specs.PlayingSteps.{empty_trick, trick_texts}

-- From Event to the value of Deal.
unfoldable pub lin_head_text : Conventions → ℕ → ℕ → Hands → List ℕ
lin_head_text c dealer vulnerability h =
    ascii "[Event \"\"]\n[Site \"\"]\n[Date \"\"]\n[West \"\"]\n[North \"\"]\n[East \"\"]\n[South \"\"]\n[Dealer \""
    ++ (seat_text c dealer
    ++ (ascii "\"]\n[Vulnerable \""
    ++ (vulnerability_token vulnerability
    ++ (ascii "\"]\n[Deal \""
    ++ deal_text c dealer h))))

-- From there to Result.
unfoldable pub lin_result_text : Conventions → ℕ → Contract → List ℕ
lin_result_text c declarer k =
    ascii "\"]\n[Scoring \"\"]\n[Declarer \""
    ++ (seat_text c declarer
    ++ (ascii "\"]\n[Contract \""
    ++ (last_text c k
    ++ ascii "\"]\n[Result \"\"]\n")))

-- Calls as tokens.
abbrev pub call_tokens : Conventions → List ℕ → List (List ℕ)
call_tokens c ks = map (call_token c) ks

unfoldable pub lin_auction_text : Conventions → ℕ → List ℕ → List ℕ
lin_auction_text c dealer ks = ascii "[Auction \"" ++ (seat_text c dealer ++ (ascii "\"]\n" ++ tokens_text 0 (call_tokens c ks)))

abbrev pub played_text : Conventions → ℕ → ℕ → List ℕ → List ℕ
played_text c lead trump ks = ascii "[Play \"" ++ (seat_text c lead ++ (ascii "\"]\n" ++ trick_texts c lead trump (empty_trick lead) ks))

unfoldable pub lin_play_text : Conventions → Survey → ℕ → List Pair → List ℕ
lin_play_text c s declarer ps =
    cond (eqb s.contract.bid 0) []
    (cond s.played (played_text c (next_seat declarer) (trump_suit (strain s.contract.bid)) (cards_played c ps)) [])

-- The hands are those of the survey, where they make a deal.
unfoldable pub survey_text : Conventions → Survey → Hands → List Pair → List ℕ
survey_text c s h ps =
    lin_head_text c s.deal.dealer s.vulnerability h
    ++ (lin_result_text c (declarer_of s.deal.dealer s.contract (calls_from c ps)) s.contract
    ++ (cond s.called (lin_auction_text c s.deal.dealer (calls_from c ps)) []
    ++ lin_play_text c s (declarer_of s.deal.dealer s.contract (calls_from c ps)) ps))
