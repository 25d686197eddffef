use Rattle.writer.proofs.TokenLaws.{least_digit}
use mathlib.Core.Path.{◌∙◌}
use Rattle.writer.proofs.tokens.digit_of.Goals as goal

pub returns : goal.returns
returns c =
    c.encode_tricks.ensures ∙ rw c.min.ensures (least_digit c.args.w)
