use borrow.Author.Rules.{rules}
use Rattle.lin.proofs.ConvertLaws.{converted_long, converted}
use Rattle.lin.proofs.convert.lin_to_pbn_with.Goals as goal

pub returns-then-n-gt16777215 : goal.returns-then-n-gt16777215
returns-then-n-gt16777215 c =
    converted_long c.if-n-gt16777215.true (search rules)

pub returns : goal.returns
returns c =
    converted _ _ c.if-n-gt16777215.false c.new-out.ensures.start c.new-out.ensures.bytes c.put_boards-put.ensures c.end_converting.ensures.ended (search rules)
