use Rattle.listing_text.proofs.LimitedLaws.{old_long, new_long, both_within}
use Rattle.listing_text.proofs.limited.read_both_limited.Goals as goal

pub returns-then-limit-old-clause-read : goal.returns-then-limit-old-clause-read
returns-then-limit-old-clause-read c = old_long c.if-limit-old.true c.zero.ensures.zeros

pub returns-in-Ok-clause-read : goal.returns-in-Ok-clause-read
returns-in-Ok-clause-read c =
    let r = c.read_pbn_with-first in
    new_long c.if-limit-old.false c.if-limit-new.true r.ensures r.auto.cards r.auto.entries c.zero-then-limit-new.ensures.zeros c.in-Ok.is

pub returns-in-Err-clause-read : goal.returns-in-Err-clause-read
returns-in-Err-clause-read c =
    let r = c.read_pbn_with-first in
    new_long c.if-limit-old.false c.if-limit-new.true r.ensures r.auto.cards r.auto.entries c.zero-then-limit-new.ensures.zeros c.in-Err.is

pub returns-clause-read : goal.returns-clause-read
returns-clause-read c = both_within c.if-limit-old.false c.if-limit-new.false c.read_both.ensures.read
