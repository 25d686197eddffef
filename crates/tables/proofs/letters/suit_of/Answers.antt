use borrow.Author.Rules.{rules}
use Rattle.tables.proofs.LetterLaws.{suit_answer}
use Rattle.tables.proofs.letters.suit_of.Goals as goal

pub returns : goal.returns
returns c = rw (c.choose.ensures, c.choose-hearts.ensures, c.choose-diamonds.ensures, c.choose-clubs.ensures) (suit_answer c.args.c c.args.b _ (search rules) c.to_capital-k.ensures)
