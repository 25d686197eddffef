use Rattle.reader.proofs.PlayLaws.{play_stopped, play_on}
use Rattle.reader.proofs.play.play_step.Goals as goal

pub returns-then-t : goal.returns-then-t
returns-then-t c =
    let x = c.args in
    (play_stopped x.by.c x.by.lead x.by.trump x.t x.token.now c.if-t.true, c.requires.0)

pub returns : goal.returns
returns c =
    let x = c.args in
    (play_on x.by.c x.by.lead x.by.trump x.t x.token.now c.if-t.false c.open_trick.ensures.0 c.play_token.ensures.0, c.play_token.ensures.1)
