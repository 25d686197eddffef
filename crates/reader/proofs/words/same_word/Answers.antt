use Rattle.std.proofs.Common.{rules}
use Rattle.reader.proofs.WordLaws.{Meets, word_is}
use Rattle.reader.proofs.words.same_word.Goals as goal

pub returns-then-word-token : goal.returns-then-word-token
returns-then-word-token c =
    let h : Meets c.args.word.now c.args.token.now c.all.result = search rules in
    word_is c.args.word.now c.args.token.now c.all.result c.if-word-token.true h
