use lib.ListN.{length}
use Rattle.reader.specs.PieceSteps.{piece}
use Rattle.reader.proofs.WalkLaws.{piece_called, piece_played, piece_row}
use Rattle.reader.proofs.section.walk_piece.Goals as goal

pub returns-in-Auction : goal.returns-in-Auction
returns-in-Auction c =
    let a = c.args in
    let e = c.call_piece.ensures in
    piece_called a.c a.o a.trump a.w (piece a.at a.s.now) (length a.s.now) _ _ _ c.in-Auction.is e.0 e.1 c.requires.0

pub returns-in-Play : goal.returns-in-Play
returns-in-Play c =
    let a = c.args in
    let e = c.play_piece.ensures in
    piece_played a.c a.o a.trump a.w (piece a.at a.s.now) (length a.s.now) _ _ _ c.in-Play.is e.0 e.2 e.1

pub returns-in-Optimum : goal.returns-in-Optimum
returns-in-Optimum c =
    let a = c.args in
    piece_row a.c a.o a.trump a.w (piece a.at a.s.now) (length a.s.now) _ _ c.in-Optimum.is c.walk_row.ensures c.requires.0
