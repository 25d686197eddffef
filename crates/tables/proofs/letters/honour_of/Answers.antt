use borrow.Author.Rules.{rules}
use Rattle.tables.proofs.LetterLaws.{honour_answer}
use Rattle.tables.proofs.letters.honour_of.Goals as goal

pub returns : goal.returns
returns c = rw (c.choose.ensures, c.choose-king.ensures, c.choose-queen.ensures, c.choose-jack.ensures, c.choose-ten.ensures) (honour_answer c.args.c c.args.b _ (search rules) c.to_capital-k.ensures)
