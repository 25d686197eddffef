use mathlib.Core.Path.{◌∙◌}
use Rattle.std.proofs.Common.{rules}
use Rattle.reader.proofs.TagLaws.{find_from_is}
use Rattle.reader.proofs.tag.find_from.Goals as goal

pub returns : goal.returns
returns c =
    let e = rw c.from.ensures at c.index_of.ensures.0 in
    (c.then_some.ensures ∙ find_from_is c.args.x c.args.a _ c.args.line.now e, search rules)
