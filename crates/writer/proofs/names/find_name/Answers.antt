use Rattle.std.proofs.lemmas.Iterator.{empty_from_Zip}
use Rattle.writer.proofs.TagLaws.{name_here, name_other, name_pass}
use borrow.Author.Tests.{ne_eqb}
use mathlib.Core.Path.{sym, ◌∙◌}
use native.Mathlib.Omega.{arith}
use Rattle.writer.proofs.names.find_name.Goals as goal

pub search-preserved-then-kind-ne-NAME : goal.search-preserved-then-kind-ne-NAME
search-preserved-then-kind-ne-NAME c =
    let s = c.in-Some.ensures.steps in
    let i = c.search.invariant in
    let q = name_pass s c.args.name.now (λ k l. c.if-kind-ne-NAME.true (c.kind.ensures ∙ k)) in
    (omega (arith, i.0, s.rest_is.first_is), omega (arith, i.1, s.rest_is.first_is, s.more), omega (arith, i.2, q, s.rest_is.first_is))

pub search-preserved-then-name-bytes : goal.search-preserved-then-name-bytes
search-preserved-then-name-bytes c =
    let s = c.in-Some.ensures.steps in
    let i = c.search.invariant in
    let q = name_pass s c.args.name.now (λ k l. c.if-name-bytes.true (rw c.bytes-bytes.ensures l)) in
    (omega (arith, i.0, s.rest_is.first_is), omega (arith, i.1, s.rest_is.first_is, s.more), omega (arith, i.2, q, s.rest_is.first_is))

pub search-preserved : goal.search-preserved
search-preserved c =
    let s = c.in-Some.ensures.steps in
    let i = c.search.invariant in
    let z = c.in-Some-2.ensures.steps in
    let q = name_other s c.args.name.now (sym c.kind.ensures ∙ c.if-kind-ne-NAME.false) (c.loop-a.invariant.0 ∙ rw (z.0, z.1, ne_eqb _ _ c.if-a-b.true)) in
    (omega (arith, i.0, s.rest_is.first_is), omega (arith, i.1, s.rest_is.first_is, s.more), omega (arith, i.2, q, s.rest_is.first_is))

pub returns-in-search : goal.returns-in-search
returns-in-search c =
    let s = c.in-Some.ensures.steps in
    let i = c.search.invariant in
    let z = empty_from_Zip c.loop-a.a-iterator c.next-in-loop-a.new.self c.next-in-loop-a.result c.in-None-2.is c.next-in-loop-a.ensures.steps c.loop-a.invariant.1 in
    let q = name_here s c.args.name.now (sym c.kind.ensures ∙ c.if-kind-ne-NAME.false) (c.loop-a.invariant.0 ∙ rw (z.0, z.1)) in
    rw s.next_is (omega (arith, i.0, i.2, q), omega (arith, i.0, i.1, s.more))
