use Rattle.lin.specs.Pairs.{pairs_of}
use Rattle.lin.proofs.GoneLaws.{survey_dealer, goes_good, goes_bad}
use Rattle.lin.proofs.pieces.put_piece.Goals as goal

pub put_board-requires : goal.put_board-requires
put_board-requires c = rw c.survey_of-s.ensures (survey_dealer c.args.c (pairs_of c.args.text.now))

pub returns-in_err-hands : goal.returns-in_err-hands
returns-in_err-hands c =
    rw c.from_residual.ensures (goes_bad _ _ c.survey_of-s.ensures c.in_err-hands.was)

pub returns : goal.returns
returns c =
    goes_good _ _ c.survey_of-s.ensures c.in_ok-hands.was c.has_cards.ensures c.put_above.ensures c.put_board.ensures
