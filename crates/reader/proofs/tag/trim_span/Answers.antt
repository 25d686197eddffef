use Rattle.reader.proofs.TagLaws.{span_is}
use Rattle.reader.proofs.tag.trim_span.Goals as goal

pub returns : goal.returns
returns c =
    let l = c.lead_len-n in
    span_is c.args.s.now _ l.result c.kept_len.result l.ensures.0 l.ensures.1 c.from.ensures c.kept_len.ensures.0 c.kept_len.ensures.1
