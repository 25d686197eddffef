use native.Mathlib.Omega.{arith}
use Rattle.reader.proofs.TagStepLaws.{tag_stepped}
use Rattle.reader.proofs.reading.tag_step.Goals as goal

pub returns : goal.returns
returns c =
    tag_stepped c.args.c c.args.l.now c.args.tag c.args.split c.requires.3 (omega arith) c.requires.6
    c.put_part.ensures c.put_part-2.ensures c.of.ensures c.tag_name-k.ensures c.of-v.ensures c.apply_tag.ensures c.open_by-s.ensures
