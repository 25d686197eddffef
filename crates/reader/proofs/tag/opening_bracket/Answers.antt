use mathlib.Core.Path.{sym, ◌∙◌}
use native.Mathlib.Omega.{arith}
use Rattle.tables.specs.Text.{is_white}
use Rattle.reader.proofs.TagLaws.{byte_front, byte_inside}
use borrow.Author.Rules.{rules}
use borrow.Author.Tests.{eq-eqb, ne_eqb}
use Rattle.reader.specs.Tag.{bracket_of}
use Rattle.reader.proofs.tag.opening_bracket.Goals as goal

pub returns-then-byte_at-eq91 : goal.returns-then-byte_at-eq91
unfolding bracket_of
returns-then-byte_at-eq91 c =
    let l = c.lead_len-n in
    let s = c.args.line.now in
    let h = byte_inside s l.result 90 (sym c.byte_at.ensures ∙ c.if-byte_at-eq91.true) in
    (rw (← byte_front is_white s, ← l.ensures.0, ← c.byte_at.ensures, eq-eqb _ _ c.if-byte_at-eq91.true), omega arith)

pub returns : goal.returns
unfolding bracket_of
returns c =
    let s = c.args.line.now in
    (rw (← byte_front is_white s, ← c.lead_len-n.ensures.0, ← c.byte_at.ensures, ne_eqb _ _ c.if-byte_at-eq91.false), search rules)
