use mathlib.Core.Path.{sym, ◌∙◌, ◌≡◌}
use mathlib.Core.Bool.{◌&&◌, true, false}
use lib.Dec.{eqb}
use lib.ListN.{get_or}
use native.Mathlib.Omega.{arith}
use borrow.Author.Rules.{rules}
use Rattle.reader.specs.Tag.{part, ends_quoted}
use Rattle.reader.proofs.TagLaws.{part_none, close_found, close_turn, close_to, close_none}
use Rattle.reader.proofs.tag.closing_bracket.Goals as goal

pub returns-then-ends_quoted : goal.returns-then-ends_quoted
returns-then-ends_quoted c =
    let l = c.loop-i in
    let p = c.args in
    let f = close_to p.a l.next c.in-Some.i p.line.now l.invariant.1 (sym c.find_from.ensures.0 ∙ c.in-Some.is) in
    let t : (eqb (get_or p.line.now c.in-Some.i 0) 93 && ends_quoted (part p.a c.in-Some.i p.line.now)) ≡ true = rw (f.is_bracket, ← c.part.ensures, ← c.ends_quoted.ensures) c.if-ends_quoted.true in
    (sym (l.invariant.0 ∙ (f.close_on ∙ close_found p.a c.in-Some.i p.line.now f.inside t)), f.inside)

pub loop-i-preserved : goal.loop-i-preserved
loop-i-preserved c =
    let l = c.loop-i in
    let p = c.args in
    let f = close_to p.a l.next c.in-Some.i p.line.now l.invariant.1 (sym c.find_from.ensures.0 ∙ c.in-Some.is) in
    let h = l.invariant.1 in
    let t : (eqb (get_or p.line.now c.in-Some.i 0) 93 && ends_quoted (part p.a c.in-Some.i p.line.now)) ≡ false = rw (f.is_bracket, ← c.part.ensures, ← c.ends_quoted.ensures) c.if-ends_quoted.false in
    (l.invariant.0 ∙ (f.close_on ∙ close_turn p.a c.in-Some.i p.line.now (omega (arith, h, f.later)) f.inside t), omega (arith, h, f.later))

pub loop-i-smaller : goal.loop-i-smaller
loop-i-smaller c =
    let l = c.loop-i in
    let f = close_to c.args.a l.next c.in-Some.i c.args.line.now l.invariant.1 (sym c.find_from.ensures.0 ∙ c.in-Some.is) in
    omega (arith, f.later, f.inside)

pub returns : goal.returns
returns c =
    let l = c.loop-i in
    (sym (l.invariant.0 ∙ close_none c.args.a l.next c.args.line.now l.invariant.1 (sym c.find_from.ensures.0 ∙ c.in_default.is)), search rules)
