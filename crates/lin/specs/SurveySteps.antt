-- What the code keeps of a board on one walk over its pairs.
use Rattle.std.specs.Prelude.{ℕ, true, false, cond, ◌||◌, List, [], ◌∷◌, ltb}
use Rattle.tables.specs.declared.letters.Conventions.{Conventions}
use Rattle.tables.specs.Text.{trimmed}
use Rattle.lin.specs.declared.survey.Survey.{Survey}
use Rattle.lin.specs.declared.pairs.Command.TheVariants.{Md, Sv, Mb, Pc}
use Rattle.lin.specs.Pairs.{Pair, is_pair}
use Rattle.lin.specs.Dealing.{no_dealing}
use Rattle.lin.specs.DealingSteps.{told, told_in}
use Rattle.lin.specs.Bidding.{vulnerability_in, call_in, next_seat, no_contract, with_call}
use Rattle.lin.specs.Playing.{card_in}

abbrev pub no_survey : Survey
no_survey = record { deal = told no_dealing; vulnerability = 0; called = false; seat = 0; contract = no_contract; played = false }

unfoldable pub survey_call : Survey → ℕ → Survey
survey_call s code = cond (ltb code 47) (record s { called = true; seat = next_seat s.seat; contract = with_call s.seat s.contract code }) s

-- One more pair.
unfoldable pub surveyed : Conventions → Survey → Pair → Survey
surveyed c s p =
    cond (is_pair Md p) (record s { deal = told_in c s.deal (trimmed p.value) })
    (cond (is_pair Sv p) (record s { vulnerability = vulnerability_in (trimmed p.value) })
    (cond (is_pair Mb p) (survey_call s (call_in c p.value))
    (cond (is_pair Pc p) (record s { played = s.played || ltb (card_in c (trimmed p.value)) 52 }) s)))

abbrev pub survey_from : Conventions → Survey → List Pair → Survey
survey_from c s [] = s
survey_from c s (p ∷ ps) = survey_from c (surveyed c s p) ps
