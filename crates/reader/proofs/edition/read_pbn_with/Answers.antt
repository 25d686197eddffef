use Rattle.reader.proofs.EditionLaws.{read_all, read_none}
use Rattle.reader.proofs.edition.read_pbn_with.Goals as goal

pub returns-then-length-gt16777215 : goal.returns-then-length-gt16777215
returns-then-length-gt16777215 c = read_none c.if-length-gt16777215.true (c.fill.ensures.after (λ y e. e)) (c.fill-2.ensures.after (λ y e. e))

pub returns : goal.returns
returns c =
    let z = c.fill in
    let z₂ = c.fill-2 in
    let a = c.read_records-counts in
    let f = c.finish_reading in
    read_all a.new.cards a.new.entries f.new.cards f.new.entries c.if-length-gt16777215.false (z.ensures.after (λ y e. e)) (z₂.ensures.after (λ y e. e)) a.auto.cards a.auto.entries a.ensures f.ensures
