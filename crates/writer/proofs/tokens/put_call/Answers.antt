use Rattle.reader.specs.Words.{call_token}
use borrow.Author.Tests.{le-ltb, lt-ltb, ne_eqb}
use native.Mathlib.Omega.{arith}
use Rattle.writer.proofs.tokens.put_call.Goals as goal

pub returns-in-0 : goal.returns-in-0
unfolding call_token
returns-in-0 c =
    rw c.in-0.is c.put_text.ensures

pub returns-in-36 : goal.returns-in-36
unfolding call_token
returns-in-36 c =
    rw c.in-36.is c.put_text-in-36.ensures

pub returns-in-37 : goal.returns-in-37
unfolding call_token
returns-in-37 c =
    rw c.in-37.is c.put_text-in-37.ensures

pub returns-in-38 : goal.returns-in-38
unfolding call_token
returns-in-38 c =
    rw c.in-38.is c.put_text-in-38.ensures

pub returns-in-1-to-35 : goal.returns-in-1-to-35
unfolding call_token
returns-in-1-to-35 c =
    let k = c.args.code in
    rw (ne_eqb k 0 (omega arith), lt-ltb k 36 (omega arith)) c.put_bid.ensures

pub returns-in_default : goal.returns-in_default
unfolding call_token
returns-in_default c =
    let k = c.args.code in
    rw (ne_eqb k 0 (omega arith), le-ltb k 36 (omega arith), ne_eqb k 36 (omega arith), ne_eqb k 37 (omega arith), ne_eqb k 38 (omega arith)) c.put_underscores.ensures
