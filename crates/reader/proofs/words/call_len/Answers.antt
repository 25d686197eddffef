use Rattle.std.proofs.Common.{rules}
use Rattle.reader.specs.Words.{is_call_byte}
use Rattle.reader.proofs.WordLaws.{FirstOut, front_found}
use Rattle.reader.proofs.words.call_len.Goals as goal

pub returns : goal.returns
returns c =
    let h : FirstOut is_call_byte c.args.token.now c.position.result = search rules in
    let e = front_found is_call_byte c.args.token.now c.position.result h in
    (rw c.unwrap_or.ensures e.0, rw c.unwrap_or.ensures e.1)
