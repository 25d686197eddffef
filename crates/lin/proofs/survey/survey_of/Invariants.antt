use mathlib.Core.Path.{◌≡◌}
use Rattle.lin.specs.Pairs.{pairs_of}
use Rattle.lin.specs.PairSteps.{pairs_left}
use Rattle.lin.specs.SurveySteps.{no_survey, survey_from}
use Rattle.lin.proofs.survey.survey_of.Given as goal

abbrev pub invariant-loop-p : goal.invariant-loop-p
invariant-loop-p l = survey_from l.c no_survey (pairs_of l.text) ≡ survey_from l.c l.s (pairs_left l.p-iterator)
