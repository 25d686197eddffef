use mathlib.Core.Logic.{inl, inr}
use native.Mathlib.Omega.{arith}
use borrow.Author.Tests.{ne_eqb}
use Rattle.std.proofs.Common.{rules}
use Rattle.reader.proofs.LineLaws.{kind_of_byte}
use Rattle.reader.proofs.line.line_kind.Goals as goal

pub returns-in-123 : goal.returns-in-123
returns-in-123 c =
    let t = c.trim_span-t in
    (rw (kind_of_byte c.args.line.now _ _ t.ensures.0 c.if-t-eq0.false c.byte_at.ensures, c.in-123.is), search rules)

pub returns-in-59 : goal.returns-in-59
returns-in-59 c =
    let t = c.trim_span-t in
    elim c.in-59.is [
      | inl e ↦ (rw (kind_of_byte c.args.line.now _ _ t.ensures.0 c.if-t-eq0.false c.byte_at.ensures, e, ← t.ensures.0), search rules)
      | inr e ↦ (rw (kind_of_byte c.args.line.now _ _ t.ensures.0 c.if-t-eq0.false c.byte_at.ensures, e, ← t.ensures.0), search rules)
    ]

pub returns-in-91 : goal.returns-in-91
returns-in-91 c =
    let t = c.trim_span-t in
    (rw (kind_of_byte c.args.line.now _ _ t.ensures.0 c.if-t-eq0.false c.byte_at.ensures, c.in-91.is) c.bracket_line.ensures.0, search rules)

pub returns-in_default : goal.returns-in_default
returns-in_default c =
    let t = c.trim_span-t in
    let b = c.byte_at.result in
    (rw (kind_of_byte c.args.line.now _ _ t.ensures.0 c.if-t-eq0.false c.byte_at.ensures, ne_eqb b 123 (omega arith), ne_eqb b 59 (grind arith), ne_eqb b 37 (grind arith), ne_eqb b 91 (omega arith), ← t.ensures.0), search rules)
