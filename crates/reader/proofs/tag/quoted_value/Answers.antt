use native.Mathlib.Omega.{arith}
use lib.ListN.{length-take, length-drop}
use Rattle.reader.proofs.TagLaws.{quoted_two}
use borrow.Author.Rules.{rules}
use Rattle.reader.specs.Tag.{value_of}
use Rattle.reader.proofs.tag.quoted_value.Goals as goal

pub overflow_add-result : goal.overflow_add-result
overflow_add-result c = omega (arith, simp (length-take, length-drop) at (quoted_two _ _ _ c.is_quoted.ensures c.if-is_quoted.true c.of.ensures))

pub overflow_sub-result : goal.overflow_sub-result
overflow_sub-result c = omega (arith, simp (length-take, length-drop) at (quoted_two _ _ _ c.is_quoted.ensures c.if-is_quoted.true c.of.ensures))

pub returns-then-is_quoted : goal.returns-then-is_quoted
unfolding value_of
returns-then-is_quoted c =
    (rw (← c.trim_part-t.ensures.0, ← c.of.ensures, ← c.is_quoted.ensures, c.if-is_quoted.true), omega (arith, simp (length-take, length-drop) at (quoted_two _ _ _ c.is_quoted.ensures c.if-is_quoted.true c.of.ensures)))

pub returns : goal.returns
unfolding value_of
returns c =
    (rw (← c.trim_part-t.ensures.0, ← c.of.ensures, ← c.is_quoted.ensures, c.if-is_quoted.false), search rules)
